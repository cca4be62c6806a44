-- The elements of a part, and the invariants of the loops that clear and sum a slice.
use Rattle.std.specs.Prelude.{◌≡◌, ℕ, ◌+◌, ◌-◌, ◌%◌, ◌<◌, ◌≤◌, min, List, [], ◌∷◌, length, take, drop, slice_range, fold}
use Rattle.std.proofs.Common.{sym, ◌∙◌, arith, length-drop, drop_of_length-le, take_all}
use Rattle.std.proofs.Math.Seq.{take-nil}
use Rattle.laws.specs.Cases.{split}
use Rattle.laws.specs.Sums.{total}

-- what lies between two places is the part from start on, where the places are cut at the end
pub part_between : (l : List ℕ) (start count from to : ℕ) → from ≡ min start (length l) → to ≡ min (from + count) (length l)
    → slice_range l from to ≡ take count (drop start l)
part_between l start count from to e f = split (length l) start past inside
  where
    past : length l ≤ start → slice_range l from to ≡ take count (drop start l)
    past h = rw (drop_of_length-le l h, drop_of_length-le l (late h), take-nil (to - from), take-nil count)
      where
        late : length l ≤ start → length l ≤ from
        late k = omega arith

    inside : start < length l → slice_range l from to ≡ take count (drop start l)
    inside h =
        let same : from ≡ start = omega arith in
        let rest = length-drop start l in
        rw same
        (split (start + count) (length l)
        (λ (k : start + count ≤ length l). let n : to - start ≡ count = omega arith in rw n)
        (λ (k : length l < start + count). take_all (to - start) (drop start l) (omega arith) ∙ sym (take_all count (drop start l) (omega arith))))

-- bytes added up one by one, each time modulo 65,536
added : (l : List ℕ) (sum : ℕ) → fold (λ sum byte. (sum + byte) % 65536) (sum % 65536) l ≡ (sum + total l) % 65536
unfolding total
added [] sum = omega arith
added (b ∷ l) sum = let e : (sum % 65536 + b) % 65536 ≡ (sum + b) % 65536 = omega arith in rw e (added l (sum + b) ∙ omega arith)

pub bytes_added : (l : List ℕ) → fold (λ sum byte. (sum + byte) % 65536) 0 l ≡ total l % 65536
bytes_added l = added l 0 ∙ omega arith
