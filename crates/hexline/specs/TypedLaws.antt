-- Type, count, address and room of a record: what the answer is, and what an answer says.
use Rattle.std.specs.Prelude.{◌≡◌, refl, Bool, true, false, cond, ◌&&◌, List, ℕ, ◌+◌, ◌-◌, ◌*◌, ◌≤◌, ◌<◌, ltb, leb, eqb, length, drop, Err, Ok}
use Rattle.std.proofs.Math.Path.{sym}
use Rattle.std.proofs.Common.{arith, length-drop, length-take-le}
use borrow.Author.Tests.{lt-ltb, le-ltb, le-leb, lt-leb, eq-eqb, ne_eqb, ltb-true, leb-true, eqb-true}
use Rattle.laws.specs.Cases.{positive, both_left, both_right}
use Rattle.hextext.specs.declared.Header.{Header}
use Rattle.hextext.specs.Answers.{TextLine, LineRecord}
use Rattle.hextext.specs.declared.Record.TheVariants.{Data, End}
use Rattle.hextext.specs.Record.{bytes_of, record_bytes, count_of, address_of, type_of, data_of, formed, summed, line_of, typed, placed, judge}
use Rattle.hextext.proofs.RecordLaws.{formed_length, length_bytes_of}

-- ---- the answer, by the tests

module _ (room at count address kind : ℕ) where
  pub typed_empty : kind ≡ 0 → count ≡ 0 → Err 3 ≡ typed room at count address kind
  unfolding typed
  typed_empty k n = sym (simp (eq-eqb kind 0 k, le-ltb 0 count (omega arith)))

  pub typed_astray : kind ≡ 0 → (count ≡ 0 → ⊥) → (address ≡ at → ⊥) → Err 3 ≡ typed room at count address kind
  unfolding typed
  typed_astray k n a = sym (simp (eq-eqb kind 0 k, lt-ltb 0 count (positive n), ne_eqb address at a))

  pub typed_full : kind ≡ 0 → (count ≡ 0 → ⊥) → address ≡ at → room - at < count → Err 4 ≡ typed room at count address kind
  unfolding typed
  typed_full k n a r = sym (simp (eq-eqb kind 0 k, lt-ltb 0 count (positive n), eq-eqb address at a, lt-leb (at + count) room (omega arith)))

  pub typed_past : kind ≡ 0 → (count ≡ 0 → ⊥) → address ≡ at → room < at → Err 4 ≡ typed room at count address kind
  unfolding typed
  typed_past k n a r = sym (simp (eq-eqb kind 0 k, lt-ltb 0 count (positive n), eq-eqb address at a, lt-leb (at + count) room (omega arith)))

  pub typed_data : kind ≡ 0 → (count ≡ 0 → ⊥) → address ≡ at → count ≤ room - at → Ok (Data count) ≡ typed room at count address kind
  unfolding typed
  typed_data k n a r =
      let some = positive n in
      sym (simp (eq-eqb kind 0 k, lt-ltb 0 count some, eq-eqb address at a, le-leb (at + count) room (omega arith)))

  pub typed_other : (kind ≡ 0 → ⊥) → (kind ≡ 1 → ⊥) → Err 3 ≡ typed room at count address kind
  unfolding typed
  typed_other k o = sym (simp (ne_eqb kind 0 k, ne_eqb kind 1 o))

  pub typed_long : (kind ≡ 0 → ⊥) → kind ≡ 1 → (count ≡ 0 → ⊥) → Err 3 ≡ typed room at count address kind
  unfolding typed
  typed_long k o n = sym (simp (ne_eqb kind 0 k, eq-eqb kind 1 o, ne_eqb count 0 n))

  pub typed_far : (kind ≡ 0 → ⊥) → kind ≡ 1 → count ≡ 0 → (address ≡ 0 → ⊥) → Err 3 ≡ typed room at count address kind
  unfolding typed
  typed_far k o n a = sym (simp (ne_eqb kind 0 k, eq-eqb kind 1 o, eq-eqb count 0 n, ne_eqb address 0 a))

  pub typed_end : (kind ≡ 0 → ⊥) → kind ≡ 1 → count ≡ 0 → address ≡ 0 → Ok End ≡ typed room at count address kind
  unfolding typed
  typed_end k o n a = sym (simp (ne_eqb kind 0 k, eq-eqb kind 1 o, eq-eqb count 0 n, eq-eqb address 0 a))

-- of a line, by what it is by itself
module _ (room at : ℕ) (l : List ℕ) (line : TextLine) (e : line ≡ line_of l) where
  pub judged_good : (h : Header) (r : LineRecord) → line ≡ Ok h → r ≡ typed room at h.count h.address h.kind → r ≡ judge room at l
  unfolding judge placed
  judged_good h r f g = rw (← e, f) g

  pub judged_bad : (number : ℕ) → line ≡ Err number → Err number ≡ judge room at l
  unfolding judge placed
  judged_bad number f = rw (← e, f)

-- ---- what an answer says

-- an answer by four tests
abbrev by_tests : (zero here fits end : Bool) (n : ℕ) → LineRecord
by_tests zero here fits end n = cond zero (cond here (cond fits (Ok (Data n)) (Err 4)) (Err 3)) (cond end (Ok End) (Err 3))

data_cases : (zero here fits end : Bool) (n m : ℕ) → by_tests zero here fits end n ≡ Ok (Data m)
    → (here ≡ true) × (fits ≡ true) × (n ≡ m)
data_cases true true true end n m e = (refl, refl, cc)
data_cases true true false end n m e = let z : ◌≡◌ {A = ℕ} 0 1 = cc in absurd (omega arith)
data_cases true false fits end n m e = let z : ◌≡◌ {A = ℕ} 0 1 = cc in absurd (omega arith)
data_cases false here fits true n m e = let z : ◌≡◌ {A = ℕ} 0 1 = cc in absurd (omega arith)
data_cases false here fits false n m e = let z : ◌≡◌ {A = ℕ} 0 1 = cc in absurd (omega arith)

end_cases : (zero here fits end : Bool) (n : ℕ) → by_tests zero here fits end n ≡ Ok End → end ≡ true
end_cases true true true end n e = let z : ◌≡◌ {A = ℕ} 0 1 = cc in absurd (omega arith)
end_cases true true false end n e = let z : ◌≡◌ {A = ℕ} 0 1 = cc in absurd (omega arith)
end_cases true false fits end n e = let z : ◌≡◌ {A = ℕ} 0 1 = cc in absurd (omega arith)
end_cases false here fits true n e = refl
end_cases false here fits false n e = let z : ◌≡◌ {A = ℕ} 0 1 = cc in absurd (omega arith)

-- an end record has no data
pub end_empty : (room at count address kind : ℕ) → typed room at count address kind ≡ Ok End → count ≡ 0
unfolding typed
end_empty room at count address kind e =
    let b = end_cases (eqb kind 0) (ltb 0 count && eqb address at) (leb (at + count) room) (eqb kind 1 && (eqb count 0 && eqb address 0)) count e in
    eqb-true count 0 (both_left (eqb count 0) (eqb address 0) (both_right (eqb kind 1) (eqb count 0 && eqb address 0) b))

-- a data record is formed, and its data have room
pub record GoodDataRecord (room at : ℕ) (l : List ℕ) (n : ℕ) : Type 0 where
  pub good : formed l ≡ true
  pub counts : count_of (record_bytes l) ≡ n
  pub some : 1 ≤ n
  pub fits : at + n ≤ room
  pub long : length l ≡ 11 + n * 2

unless_bad : (room at : ℕ) (b : Bool) (x : TextLine) (k n : ℕ) → placed room at (cond b x (Err k)) ≡ Ok (Data n) → (b ≡ true) × (placed room at x ≡ Ok (Data n))
unfolding placed
unless_bad room at true x k n e = (refl, e)
unless_bad room at false x k n e = let z : ◌≡◌ {A = ℕ} 0 1 = cc in absurd (omega arith)

pub good_data_record : (room at : ℕ) (l : List ℕ) (n : ℕ) → judge room at l ≡ Ok (Data n) → GoodDataRecord room at l n
unfolding judge placed line_of typed
good_data_record room at l n e =
    let bytes : List ℕ = record_bytes l in
    let p = unless_bad room at (formed l) _ 1 n e in
    let q = unless_bad room at (summed bytes) _ 2 n p.1 in
    let t = data_cases (eqb (type_of bytes) 0) (ltb 0 (count_of bytes) && eqb (address_of bytes) at) (leb (at + count_of bytes) room)
    (eqb (type_of bytes) 1 && (eqb (count_of bytes) 0 && eqb (address_of bytes) 0)) (count_of bytes) n q.1 in
    record {
      good = p.0;
      counts = t.2;
      some = omega (arith, ltb-true 0 (count_of bytes) (both_left (ltb 0 (count_of bytes)) (eqb (address_of bytes) at) t.0), t.2);
      fits = omega (arith, leb-true (at + count_of bytes) room t.1, t.2);
      long = omega (arith, formed_length l p.0, t.2);
    }

-- it has as many data bytes as it counts
pub data_length : {room at : ℕ} (l : List ℕ) (n : ℕ) → GoodDataRecord room at l n → length (data_of (record_bytes l)) ≡ n
unfolding data_of record_bytes
data_length l n g =
    let bytes = length_bytes_of l 1 (n + 5) (omega (arith, g.long)) in
    rw g.counts (length-take-le n (drop 4 (bytes_of (drop 1 l))) (omega (arith, length-drop 4 (bytes_of (drop 1 l)), bytes)))
