-- A part of a slice, and a slice with zeros from a place on.
use Rattle.std.specs.Prelude.{◌≡◌, ℕ, ◌+◌, ◌-◌, min, List, ◌++◌, length, take, drop, replicate}
use Rattle.std.specs.Borrow.{Bor}

-- r is `count` elements of s from `start` on, cut at s's end: the same memory, and no copy
pub record IsPart (s r : Bor (List ℕ)) (start count : ℕ) : Type 0 where
  pub holds : r.now ≡ take count (drop start s.now)
  pub block : r.ref_ptr.0 ≡ s.ref_ptr.0
  pub place : r.ref_ptr.1 ≡ s.ref_ptr.1 + min start (length s.now)

abbrev pub cleared_from : (start : ℕ) → List ℕ → List ℕ
cleared_from start l = take start l ++ replicate (length l - start) 0
