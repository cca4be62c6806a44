-- The first line of a text: what reading comes to at it, a law for each way out.
use Rattle.std.proofs.Math.Path.{◌≡◌}
use Rattle.std.proofs.Common.{sym, ap, ◌∙◌, arith, le_of_eq, length-drop, take_all, get_or-take, get_or-drop, length-take-le}
use Rattle.std.proofs.Math.Bool.{true, false}
use Rattle.std.specs.Prelude.{List, [], ◌++◌, ℕ, ◌+◌, ◌*◌, ◌≤◌, ◌<◌, min, length, take, drop, get_or, Err, Ok, Option, Some, None, Result}
use Rattle.std.proofs.Math.ListN.{drop_of_length-le}
use Rattle.std.proofs.Math.Seq.{drop-cons, paste}
use Rattle.std.proofs.lemmas.List.Edits.{take-paste}
use Rattle.limits.specs.Limits.{largest_image}
use Rattle.laws.specs.Cases.{decide, never}
use Rattle.refusals.specs.Refusals.{result, refused, refusal}
use Rattle.hextext.specs.Answers.{LineRecord}
use Rattle.hextext.specs.declared.Record.{Record}
use Rattle.hextext.specs.declared.Record.TheVariants.{Data, End}
use Rattle.hextext.specs.Record.{digit, record_bytes, data_of, formed, judge}
use Rattle.hextext.proofs.RecordLaws.{byte_at, all_digits_at, formed_digits, judge_unformed}
use Rattle.hextext.specs.Text.{after, reading}
use Rattle.hexline.specs.Line.{next_line}
use Rattle.hexline.specs.TypedLaws.{GoodDataRecord, good_data_record, data_length}
use Rattle.hexread.specs.declared.line.Step.{Step}
use Rattle.hexread.specs.declared.line.Step.TheVariants.{More, Last}
use Rattle.hexread.specs.DigitsLaws.{Pair, pair_byte, pair_small, pair_digits}
use Rattle.hexread.specs.RecordLaws.{Counted, RecordTaken, formed_by_digits}
use Rattle.hexread.specs.GatheredLaws.{Ends, ends_found, ends_none, ends_inside, next_inside, next_further, StartsWithRecord, count_of_line, reading_no_record, reading_record}

-- ---- reading at the first line

-- it goes on at the next line with n bytes more
pub record ReadingGoesOn (u d d' : List ℕ) (room at n next : ℕ) : Type 0 where
  pub inside : next ≤ length u
  pub further : 1 ≤ next
  pub fits : at + n ≤ room
  pub reads : (k : ℕ) → reading room k (take at d) [] u ≡ reading room (k + 1) (take (at + n) d') [] (drop next u)

-- it comes to the image, unless the text goes on
pub record ReadingEnds (u d d' : List ℕ) (room at next : ℕ) : Type 0 where
  pub inside : next ≤ length u
  pub whole : (k : ℕ) → next ≡ length u → reading room k (take at d) [] u ≡ result (take at d')
  pub more : (k : ℕ) → next < length u → reading room k (take at d) [] u ≡ refused (refusal 1 (k + 1))

-- what each answer to the first line says of reading the text u
abbrev pub FirstLineRead : Result Step ℕ → (u d d' : List ℕ) (room at : ℕ) → Type 0
FirstLineRead (Ok (More n next)) u d d' room at = ReadingGoesOn u d d' room at n next
FirstLineRead (Ok (Last next)) u d d' room at = ReadingEnds u d d' room at next
FirstLineRead (Err m) u d d' room at = (k : ℕ) → reading room k (take at d) [] u ≡ refused (refusal m k)

module _ (u d d' : List ℕ) (room at : ℕ) where
  no_record : (StartsWithRecord u → ⊥) → FirstLineRead (Err 1) u d d' room at
  no_record h k = reading_no_record room k (take at d) u h

  pub stop_short : length u < 12 → FirstLineRead (Err 1) u d d' room at
  stop_short h = no_record (λ s. omega (arith, ends_inside s.ends))

  pub stop_colon : (get_or u 0 0 ≡ 58 → ⊥) → FirstLineRead (Err 1) u d d' room at
  stop_colon h = no_record (λ s. h s.colon)

  pub stop_count : (n : ℕ) → Pair u 1 n → 256 ≤ n → FirstLineRead (Err 1) u d d' room at
  stop_count n p h = no_record (λ s. omega (arith, pair_small u 1 n p (digit_of_count s 0 (omega arith)) (digit_of_count s 1 (omega arith))))
    where
      digit_of_count : StartsWithRecord u → (i : ℕ) → i < 2 → digit (get_or u (1 + i) 0) < 16
      digit_of_count s i hi =
          let e : ℕ = 11 + byte_at u 1 * 2 in
          let l = length-take-le e u (omega (arith, ends_inside s.ends)) in
          let a = all_digits_at (drop 1 (take e u)) i s.digits (simp length-drop (omega arith)) in
          rw (get_or-drop 1 (take e u) i 0, get_or-take e u (1 + i) 0 (omega arith)) at a

  pub stop_end : (n : ℕ) → Pair u 1 n → n < 256 → (o : Option ℕ) → o ≡ next_line u (11 + n * 2) → o ≡ None → FirstLineRead (Err 1) u d d' room at
  stop_end n p h o f z = no_record (λ s. ends_none u (11 + n * 2) (sym z ∙ f) s.next (rw (pair_byte u 1 n p h) s.ends))

pub line_inside : (u : List ℕ) (e next : ℕ) (o : Option ℕ) → o ≡ next_line u e → o ≡ Some next → e ≤ length u
line_inside u e next o f z = omega (arith, ends_inside (ends_found u e next (sym z ∙ f)))

pub line_whole : (u : List ℕ) (e next : ℕ) (o : Option ℕ) → o ≡ next_line u e → o ≡ Some next → e ≡ length (take e u)
line_whole u e next o f z = sym (length-take-le e u (line_inside u e next o f z))

-- the line that the count gives
abbrev counted_line : (u : List ℕ) (n : ℕ) → List ℕ
counted_line u n = take (11 + n * 2) u

pub line_counted : (u : List ℕ) (n next : ℕ) (o : Option ℕ) → get_or u 0 0 ≡ 58 → Pair u 1 n → n < 256 → o ≡ next_line u (11 + n * 2) → o ≡ Some next
    → Counted (counted_line u n) n
line_counted u n next o c p h f z =
    let e = ends_inside (ends_found u (11 + n * 2) next (sym z ∙ f)) in
    let l = length-take-le (11 + n * 2) u (omega arith) in
    let b = count_of_line u (11 + n * 2) (omega arith) (omega arith) in
    let high = get_or-take (11 + n * 2) u 1 0 (omega arith) in
    let low = get_or-take (11 + n * 2) u (1 + 1) 0 (omega arith) in
    let q : Pair (counted_line u n) 1 n = record { is = rw (high, low) p.is; bound = p.bound } in
    record {
      long = l;
      colon = get_or-take (11 + n * 2) u 0 0 (omega arith) ∙ c;
      counts = pair_byte u 1 n p h ∙ sym b;
      small = h;
      digits = pair_digits (counted_line u n) 1 n q (omega arith) h;
    }

module _ (u d d' : List ℕ) (room at n next : ℕ) (r : LineRecord) (c : get_or u 0 0 ≡ 58) (p : Pair u 1 n) (h : n < 256)
    (o : Option ℕ) (f : o ≡ next_line u (11 + n * 2)) (z : o ≡ Some next) (within : at ≤ room) (roomy : room ≡ min largest_image (length d))
    (t : RecordTaken r (counted_line u n) d d' room at) where
  ends : Ends u (11 + n * 2) next
  ends = ends_found u (11 + n * 2) next (sym z ∙ f)

  counted : Counted (counted_line u n) n
  counted = line_counted u n next o c p h f z

  reads_formed : formed (counted_line u n) ≡ true → (k : ℕ) → reading room k (take at d) [] u
      ≡ after r k (take at d) (drop next u) (reading room (k + 1) (take at d ++ data_of (record_bytes (counted_line u n))) [] (drop next u))
  reads_formed g k =
      let e = reading_record room k (take at d) u (11 + n * 2) next ends counted.colon (formed_digits (counted_line u n) g) in
      let l : length (take at d) ≡ at = length-take-le at d (omega arith) in
      rw (← t.judged) at (rw l at e)

  front : (m : ℕ) → GoodDataRecord room at (counted_line u n) m
      → take (at + m) (paste d at (data_of (record_bytes (counted_line u n))) m) ≡ take at d ++ data_of (record_bytes (counted_line u n))
  front m s =
      let size = data_length (counted_line u n) m s in
      take-paste d at (data_of (record_bytes (counted_line u n))) m (omega arith) (omega (arith, size))
      ∙ ap (λ (b : List ℕ). take at d ++ b) (take_all m (data_of (record_bytes (counted_line u n))) (omega (arith, size)))

  pub step_more : (x : Record) → r ≡ Ok x → (m : ℕ) → x ≡ Data m → FirstLineRead (Ok (More m next)) u d d' room at
  unfolding after
  step_more x e m same =
      let good : r ≡ Ok (Data m) = e ∙ ap Ok same in
      let s = good_data_record room at (counted_line u n) m (sym t.judged ∙ good) in
      record {
        inside = next_inside ends;
        further = next_further ends;
        fits = s.fits;
        reads = λ k. rw (reads_formed s.good k, good, t.wrote m good, front m s);
      }

  formed_unless_fault : (judge room at (counted_line u n) ≡ Err 1 → ⊥) → formed (counted_line u n) ≡ true
  formed_unless_fault g =
      decide (formed (counted_line u n)) (λ (q : formed (counted_line u n) ≡ true). q)
      (λ (q : formed (counted_line u n) ≡ false). absurd (g (judge_unformed room at (counted_line u n) q)))

  pub step_last : (x : Record) → r ≡ Ok x → x ≡ End → FirstLineRead (Ok (Last next)) u d d' room at
  unfolding after
  step_last x e same =
      let end : r ≡ Ok End = e ∙ ap Ok same in
      let g = formed_unless_fault (λ b. let z : ◌≡◌ {A = ℕ} 0 1 = cc (t.judged, end, b) in omega arith) in
      record {
        inside = next_inside ends;
        whole = λ k w. rw (reads_formed g k, end, drop_of_length-le u (le_of_eq (sym w)), t.same end);
        more = λ k w. rw (reads_formed g k, end, drop-cons u next 0 w);
      }

  pub step_stop : (m : ℕ) → r ≡ Err m → FirstLineRead (Err m) u d d' room at
  unfolding after
  step_stop m e =
      decide (formed (counted_line u n))
      (λ (g : formed (counted_line u n) ≡ true) k. rw (reads_formed g k, e))
      (λ (g : formed (counted_line u n) ≡ false).
      let j = judge_unformed room at (counted_line u n) g in
      let q : m ≡ 1 = cc t.judged in
      rw q (no_record u d d' room at (λ s. unformed g s)))
    where
      unformed : formed (counted_line u n) ≡ false → StartsWithRecord u → ⊥
      unformed g s = never (rw g at (formed_by_digits (counted_line u n) n counted true (rw (pair_byte u 1 n p h) s.digits)))
