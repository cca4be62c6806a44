-- A line judged, both ways: what the judgement of a record is, and what record a judgement tells of.
use Rattle.std.specs.Prelude.{◌≡◌, Bool, true, false, cond, ◌&&◌, List, [], ◌∷◌, ◌++◌, ℕ, suc, ◌+◌, ◌-◌, ◌*◌, ◌%◌, ◌/◌, ◌≤◌, ◌<◌, ltb, leb, take, get_or, Err, Ok}
use Rattle.std.proofs.Common.{sym, ◌∙◌, append-nil, append_assoc, arith, length-append, length-take-le}
use Rattle.std.proofs.Math.Path.{ap}
use borrow.Author.Tests.{eq-eqb, lt-ltb, le-leb, lt-leb, eqb-true, eqb-false, ltb-true}
use Rattle.std.proofs.Math.Dec.{eqb}
use Rattle.std.proofs.Math.ListN.{length}
use Rattle.std.proofs.Math.Seq.{take-append_seam}
use Rattle.laws.specs.Cases.{split, decide, never, both_left, both_right}
use Rattle.laws.specs.Lists.{last_apart, ends_with}
use Rattle.laws.specs.Sums.{total}
use Rattle.hextext.specs.Record.{bytes_of, record_bytes, count_of, data_of, formed, typed, judge}
use Rattle.hextext.proofs.RecordLaws.{formed_long, formed_colon, formed_digits, formed_length, judge_unformed}
use Rattle.hextext.specs.Text.{bare}
use Rattle.hextext.specs.Answers.{LineRecord}
use Rattle.hextext.specs.declared.Record.TheVariants.{Data, End}
use Rattle.hexformat.specs.Format.{Spelled, LineEnd, lf, crlf, Fields, bytes, Form, Balanced, IsData, IsEnd}
use Rattle.hexformat.specs.Faults.{Breaks, no_form, not_balanced, neither, no_room}
use Rattle.hextext.proofs.WithoutLaws.{bare_without}
use Rattle.hexformat.specs.BareLaws.{bare_return}
use Rattle.hexformat.specs.SpelledLaws.{spelled_bytes, spelled_of, spelled_small}
use Rattle.hexformat.specs.ReadingLaws.{data_bytes, formed_spelled, colon_without, judge_balanced, judge_unbalanced}

-- ---- type, count, address and room

abbrev judged_fields : (room at : ℕ) → Fields → LineRecord
judged_fields room at r = typed room at (length r.contents) r.address r.type

module _ {at : ℕ} {r : Fields} (d : IsData at r) (room : ℕ) where
  pub typed_data : at + length r.contents ≤ room → judged_fields room at r ≡ Ok (Data (length r.contents))
  unfolding typed
  typed_data h =
      rw (d.type_00, lt-ltb 0 (length r.contents) d.some, eq-eqb r.address at d.starts, le-leb (at + length r.contents) room h)

  pub typed_full : room < at + length r.contents → judged_fields room at r ≡ Err 4
  unfolding typed
  typed_full h =
      rw (d.type_00, lt-ltb 0 (length r.contents) d.some, eq-eqb r.address at d.starts, lt-leb (at + length r.contents) room h)

pub typed_end : {r : Fields} → IsEnd r → (room at : ℕ) → judged_fields room at r ≡ Ok End
unfolding typed
typed_end d room at = simp (d.type_01, d.count_0, d.address_0)

-- a record is data from an address on, the end, or neither
data Kind (at : ℕ) (r : Fields) : Type 0 where
  is_data : IsData at r → Kind at r
  is_end : IsEnd r → Kind at r
  is_neither : (IsData at r → ⊥) → (IsEnd r → ⊥) → ((room : ℕ) → judged_fields room at r ≡ Err 3) → Kind at r

all_three : (a b c : Bool) → (a && (b && c)) ≡ true → (a ≡ true) × (b ≡ true) × (c ≡ true)
all_three a b c e = let f = both_right a (b && c) e in (both_left a (b && c) e, both_left b c f, both_right b c f)

other_fault : (a b c : Bool) (x : LineRecord) → (a && b) ≡ false → c ≡ false → cond a (cond b x (Err 3)) (cond c (Ok End) (Err 3)) ≡ Err 3
other_fault true b c x p q = rw p
other_fault false b c x p q = rw q

kind_of : (at : ℕ) (r : Fields) → length r.contents ≤ 255 → Kind at r
unfolding typed
kind_of at r small =
    let n : ℕ = length r.contents in
    let data-test : Bool = ltb 0 n && eqb r.address at in
    let end_test : Bool = eqb r.type 1 && (eqb n 0 && eqb r.address 0) in
    decide (eqb r.type 0 && data-test)
    (λ p.
    let t = all_three (eqb r.type 0) (ltb 0 n) (eqb r.address at) p in
    is_data (record { type_00 = eqb-true r.type 0 t.0; some = ltb-true 0 n t.1; at_most = small; starts = eqb-true r.address at t.2 }))
    (λ p. decide end_test
    (λ q.
    let t = all_three (eqb r.type 1) (eqb n 0) (eqb r.address 0) q in
    is_end (record { type_01 = eqb-true r.type 1 t.0; count_0 = eqb-true n 0 t.1; address_0 = eqb-true r.address 0 t.2 }))
    (λ q.
    is_neither
    (λ (d : IsData at r). never (sym p ∙ rw (d.type_00, lt-ltb 0 n d.some, eq-eqb r.address at d.starts)))
    (λ (d : IsEnd r). never (sym q ∙ rw (d.type_01, d.count_0, d.address_0)))
    (λ room. other_fault (eqb r.type 0) data-test end_test (cond (leb (at + n) room) (Ok (Data n)) (Err 4)) p q)))

pub typed_other : {at : ℕ} {r : Fields} → length r.contents ≤ 255 → (IsData at r → ⊥) → (IsEnd r → ⊥) → (room : ℕ)
    → judged_fields room at r ≡ Err 3
typed_other {at} {r} small v w room = of (kind_of at r small)
  where
    of : Kind at r → judged_fields room at r ≡ Err 3
    of (is_data d) = absurd (v d)
    of (is_end d) = absurd (w d)
    of (is_neither p q e) = e room

-- ---- the record of a formed line

fields_of : List ℕ → Fields
fields_of b = record { type = get_or b 3 0; address = get_or b 1 0 * 256 + get_or b 2 0; contents = data_of b; checksum = get_or b (4 + count_of b) 0 }

-- five bytes and more, as many as the first of them counts
fields_bytes : (b : List ℕ) → length b ≡ count_of b + 5 → get_or b 2 0 < 256 → bytes (fields_of b) ≡ b
unfolding fields_of data_of
fields_bytes [] e h = absurd (omega arith)
fields_bytes (n ∷ []) e h = absurd (omega arith)
fields_bytes (n ∷ a ∷ []) e h = absurd (omega arith)
fields_bytes (n ∷ a ∷ c ∷ []) e h = absurd (omega arith)
fields_bytes (n ∷ a ∷ c ∷ t ∷ l) e h =
    let k : length l ≡ n + 1 = omega arith in
    let q : 4 + n ≡ suc (suc (suc (suc n))) = omega arith in
    let high : (a * 256 + c) / 256 ≡ a = omega arith in
    let low : (a * 256 + c) % 256 ≡ c = omega arith in
    rw (length-take-le n l (omega arith), q, high, low) (ap (λ (m : List ℕ). n ∷ a ∷ c ∷ t ∷ m) (sym (last_apart l n k)))

-- a colon, and the digits that spell a record's bytes
record SpelledRecord (l : List ℕ) : Type 0 where
  fields : Fields
  digits : List ℕ
  is : l ≡ 58 ∷ digits
  spelled : Spelled (bytes fields) digits

length_pairs : (l : List ℕ) (n : ℕ) → length l ≡ n * 2 → length (bytes_of l) ≡ n
unfolding bytes_of
length_pairs [] n e = omega arith
length_pairs (a ∷ []) n e = absurd (omega arith)
length_pairs (a ∷ b ∷ l) n e = omega (arith, length_pairs l (n - 1) (omega arith))

spelled_record : (l : List ℕ) → formed l ≡ true → SpelledRecord l
unfolding record_bytes
spelled_record [] e = absurd (omega (arith, formed_long [] e))
spelled_record (c ∷ l) e =
    let n : ℕ = count_of (bytes_of l) + 5 in
    let long : length l ≡ n * 2 = omega (arith, formed_length (c ∷ l) e) in
    let s : Spelled (bytes_of l) l = spelled_of l n (formed_digits (c ∷ l) e) long in
    record {
      fields = fields_of (bytes_of l);
      digits = l;
      is = ap (λ (b : ℕ). b ∷ l) (formed_colon (c ∷ l) e);
      spelled = rw (fields_bytes (bytes_of l) (length_pairs l n long) (spelled_small s 2)) s;
    }

-- ---- a line with its line end

-- a line without its LF is its bare characters and, where it has one, the CR
record WithLineEnd (l : List ℕ) : Type 0 where
  rest : List ℕ
  is : l ≡ bare l ++ rest
  ends : LineEnd (rest ++ 10 ∷ [])

with_line_end : (l : List ℕ) → WithLineEnd l
unfolding bare
with_line_end l =
    decide (eqb (get_or l (length l - 1) 0) 13)
    (λ (q : eqb (get_or l (length l - 1) 0) 13 ≡ true). record { rest = 13 ∷ []; is = rw q (ends_with l 13 (omega arith) (eqb-true _ 13 q)); ends = crlf })
    (λ (q : eqb (get_or l (length l - 1) 0) 13 ≡ false). record { rest = []; is = rw q (sym (append-nil l)); ends = lf })

-- a formed line is in the form of a record
form_of : (l : List ℕ) (s : SpelledRecord (bare l)) → Form s.fields (l ++ 10 ∷ [])
form_of l s =
    let k = with_line_end l in
    record {
      digits = s.digits;
      ending = k.rest ++ 10 ∷ [];
      is = ap (λ (m : List ℕ). m ++ 10 ∷ []) k.is ∙ append_assoc (bare l) k.rest (10 ∷ []) ∙ ap (λ (m : List ℕ). m ++ (k.rest ++ 10 ∷ [])) s.is;
      spelled = s.spelled;
      ends = k.ends;
    }

-- all but the last
front : (l : List ℕ) (c : ℕ) → take (length (l ++ c ∷ []) - 1) (l ++ c ∷ []) ≡ l
front l c =
    let e : length (l ++ c ∷ []) - 1 ≡ length l = omega (arith, length-append l (c ∷ [])) in
    rw e (take-append_seam l (c ∷ []))

same_front : (l m : List ℕ) (c : ℕ) → l ++ c ∷ [] ≡ m ++ c ∷ [] → l ≡ m
same_front l m c e = sym (front l c) ∙ ap (λ (k : List ℕ). take (length k - 1) k) e ∙ front m c

-- and a line in the form of a record is formed
pub form_formed : (l : List ℕ) (r : Fields) → Form r (l ++ 10 ∷ []) → formed (bare l) ≡ true
form_formed l r f = bare_formed f.digits f.spelled f.ends f.is
  where
    bare_formed : {e : List ℕ} (m : List ℕ) → Spelled (bytes r) m → LineEnd e → l ++ 10 ∷ [] ≡ 58 ∷ m ++ e → formed (bare l) ≡ true
    bare_formed m s lf q = rw (same_front l (58 ∷ m) 10 q, bare_without (58 ∷ m) (colon_without s 13 (omega arith) (omega arith))) (formed_spelled r s)
    bare_formed m s crlf q =
        let p : l ≡ 58 ∷ m ++ 13 ∷ [] = same_front l (58 ∷ m ++ 13 ∷ []) 10 (q ∙ ap (λ (k : List ℕ). 58 ∷ k) (sym (append_assoc m (13 ∷ []) (10 ∷ [])))) in
        rw (p, bare_return (58 ∷ m)) (formed_spelled r s)

-- ---- a line judged

-- what the judgement of a line tells: with the data that the reader takes from it
pub data Judged (room : ℕ) (image line taken : List ℕ) : LineRecord → Type 0 where
  more : {r : Fields} {n : ℕ} → Form r line → Balanced r → IsData (length image) r → taken ≡ r.contents → length image + length r.contents ≤ room
      → Judged room image line taken (Ok (Data n))
  end : {r : Fields} → Form r line → Balanced r → IsEnd r → Judged room image line taken (Ok End)
  fault : {n : ℕ} → Breaks room image line n → Judged room image line taken (Err n)

module _ (room : ℕ) (image l : List ℕ) where
  abbrev at : ℕ
  at = length image

  abbrev taken : List ℕ
  taken = data_of (record_bytes (bare l))

  abbrev Tells : LineRecord → Type 0
  Tells judged = Judged room image (l ++ 10 ∷ []) taken judged

  balanced_judged : (r : Fields) → Form r (l ++ 10 ∷ []) → Balanced r → taken ≡ r.contents → Kind at r → Tells (judged_fields room at r)
  balanced_judged r f z t (is_data d) =
      split (at + length r.contents) room
      (λ h. rw (typed_data d room h) (more f z d t h))
      (λ h. rw (typed_full d room h) (fault (no_room f z d h)))
  balanced_judged r f z t (is_end d) = rw (typed_end d room at) (end f z d)
  balanced_judged r f z t (is_neither v w e) = rw (e room) (fault (neither f z v w))

  formed_judged : SpelledRecord (bare l) → Tells (judge room at (bare l))
  unfolding record_bytes
  formed_judged s =
      let r : Fields = s.fields in
      let f : Form r (l ++ 10 ∷ []) = form_of l s in
      let small : length r.contents < 256 = spelled_small s.spelled 0 in
      let t : taken ≡ r.contents = rw (s.is, spelled_bytes s.spelled) (data_bytes r) in
      let e : judge room at (bare l) ≡ judge room at (58 ∷ s.digits) = ap (judge room at) s.is in
      decide (eqb (total (bytes r) % 256) 0)
      (λ (q : eqb (total (bytes r) % 256) 0 ≡ true).
      let z : Balanced r = eqb-true (total (bytes r) % 256) 0 q in
      rw (e, judge_balanced r s.spelled room at z) (balanced_judged r f z t (kind_of at r (omega arith))))
      (λ (q : eqb (total (bytes r) % 256) 0 ≡ false).
      let z : (Balanced r → ⊥) = eqb-false (total (bytes r) % 256) 0 q in
      rw (e, judge_unbalanced r s.spelled room at z) (fault (not_balanced f z)))

  -- every line is judged by the first rule that it breaks
  pub judged : Tells (judge room at (bare l))
  judged =
      decide (formed (bare l))
      (λ q. formed_judged (spelled_record (bare l) q))
      (λ q. rw (judge_unformed room at (bare l) q) (fault (no_form (λ r f. never (sym q ∙ form_formed l r f)))))

  pub judge_no_form : ((r : Fields) → Form r (l ++ 10 ∷ []) → ⊥) → judge room at (bare l) ≡ Err 1
  judge_no_form v =
      decide (formed (bare l))
      (λ q. let s = spelled_record (bare l) q in absurd (v s.fields (form_of l s)))
      (λ q. judge_unformed room at (bare l) q)
