-- What each check of contents says: from the facts to its verdict, and back; where the bodies stand; that only the contents' own bytes count.
use Rattle.std.specs.Prelude.{Bool, true, ◌&&◌, List, ◌≡◌, leb, ltb, eqb, take, Ok}
use Rattle.std.proofs.Math.Path.{refl}
use Rattle.std.proofs.Common.{sym, ◌∙◌, add-zero, zero-add, arith}
use Prim.Native.Nat.{ℕ, zero, suc, ◌+◌, ◌≤◌, ◌<◌}
use borrow.Author.Tests.{le-leb, lt-ltb, eq-eqb, leb-true, ltb-true, eqb-true}
use Rattle.limits.specs.Limits.{largest_image, most_lines}
use Rattle.laws.specs.Cases.{both_left, both_right}
use Rattle.numbers.specs.Fields.{number_at}
use Rattle.numbers.specs.FieldsLaws.{number_within}
use Rattle.refusals.specs.Refusals.{ask}
use Rattle.refusals.specs.VerdictLaws.{asked, first_passed, next_passed}
use Rattle.image.specs.Contents.{line_count, line_place, kind_at, zero_at, offset_at, length_at, size_verdict, mark_verdict, start_verdict, count_verdict, line_right, lines_verdict, all_lines, contents_verdict}

-- ---- the start, and the number of lines

-- each of three tests
each : (a b c : Bool) → (a && b && c) ≡ true → (a ≡ true) × (b ≡ true) × (c ≡ true)
each a b c e = let two = both_left (a && b) c e in (both_left a b two, both_right a b two, both_right (a && b) c e)

-- 5 is not given
pub record StartRight (size : ℕ) (contents : List ℕ) : Type 0 where
  pub enough : 2 ≤ size
  pub most : size ≤ largest_image
  pub marked : number_at 1 contents 0 ≡ 0x51

-- 6 is not given
pub record CountRight (size : ℕ) (contents : List ℕ) : Type 0 where
  pub some : 1 ≤ line_count contents
  pub few : line_count contents ≤ most_lines
  pub room : line_place (line_count contents) ≤ size

module _ (size : ℕ) (contents : List ℕ) where
  pub start_passes : StartRight size contents → start_verdict size contents ≡ Ok tt
  unfolding start_verdict
  start_passes s = rw (le-leb 2 size s.enough, le-leb size largest_image s.most, eq-eqb (number_at 1 contents 0) 0x51 s.marked)

  pub start_passed : start_verdict size contents ≡ Ok tt → StartRight size contents
  unfolding start_verdict
  start_passed e =
      let sized = asked _ 5 0 (first_passed (size_verdict size) (mark_verdict contents) e) in
      let marked = asked _ 5 0 (next_passed (size_verdict size) (mark_verdict contents) e) in
      record {
        enough = leb-true 2 size (both_left (leb 2 size) (leb size largest_image) sized);
        most = leb-true size largest_image (both_right (leb 2 size) (leb size largest_image) sized);
        marked = eqb-true (number_at 1 contents 0) 0x51 marked;
      }

  pub count_passes : CountRight size contents → count_verdict size contents ≡ Ok tt
  unfolding count_verdict
  count_passes s =
      let n = line_count contents in
      rw (le-leb 1 n s.some, le-leb n most_lines s.few, le-leb (line_place n) size s.room)

  pub count_passed : count_verdict size contents ≡ Ok tt → CountRight size contents
  unfolding count_verdict
  count_passed e =
      let t = each (leb 1 (line_count contents)) (leb (line_count contents) most_lines) (leb (line_place (line_count contents)) size) (asked _ 6 0 e) in
      record {
        some = leb-true 1 (line_count contents) t.0;
        few = leb-true (line_count contents) most_lines t.1;
        room = leb-true (line_place (line_count contents)) size t.2;
      }

-- ---- a line

-- line i is right after a line of kind `previous`, where its body is to start at `offset`
pub record LineRight (contents : List ℕ) (i previous offset : ℕ) : Type 0 where
  pub rises : previous < kind_at contents i
  pub zero_is : zero_at contents i ≡ 0
  pub starts : offset_at contents i ≡ offset

module _ (contents : List ℕ) (i previous offset : ℕ) where
  pub right_passes : LineRight contents i previous offset → line_right contents i previous offset ≡ true
  right_passes r =
      rw (lt-ltb previous (kind_at contents i) r.rises, eq-eqb (zero_at contents i) 0 r.zero_is, eq-eqb (offset_at contents i) offset r.starts)

  pub passed_right : line_right contents i previous offset ≡ true → LineRight contents i previous offset
  passed_right e =
      let t = each (ltb previous (kind_at contents i)) (eqb (zero_at contents i) 0) (eqb (offset_at contents i) offset) e in
      record {
        rises = ltb-true previous (kind_at contents i) t.0;
        zero_is = eqb-true (zero_at contents i) 0 t.1;
        starts = eqb-true (offset_at contents i) offset t.2;
      }

-- the first of the lines left, line i, is right, and the others pass
pub record FirstLineRight (size : ℕ) (contents : List ℕ) (left i previous offset : ℕ) : Type 0 where
  pub right : LineRight contents i previous offset
  pub others : lines_verdict size contents left (i + 1) (kind_at contents i) (offset + length_at contents i) ≡ Ok tt

module _ (size : ℕ) (contents : List ℕ) where
  pub line_passed : (left i previous offset : ℕ) → lines_verdict size contents (suc left) i previous offset ≡ Ok tt
      → FirstLineRight size contents left i previous offset
  unfolding lines_verdict
  line_passed left i previous offset e =
      record {
        right = passed_right contents i previous offset (asked _ 7 i (first_passed (ask (line_right contents i previous offset) 7 i) _ e));
        others = next_passed (ask (line_right contents i previous offset) 7 i) _ e;
      }

  pub lines_ended : (i previous offset : ℕ) → lines_verdict size contents 0 i previous offset ≡ Ok tt → offset ≡ size
  unfolding lines_verdict
  lines_ended i previous offset e = eqb-true offset size (asked _ 7 i e)

-- ---- all contents

-- none of 5 to 7 is given
pub record ContentsGood (size : ℕ) (contents : List ℕ) : Type 0 where
  pub started : StartRight size contents
  pub counted : CountRight size contents
  pub lines : all_lines size contents ≡ Ok tt

module _ (size : ℕ) (contents : List ℕ) where
  pub contents_pass : ContentsGood size contents → contents_verdict size contents ≡ Ok tt
  unfolding contents_verdict
  contents_pass g = rw (start_passes size contents g.started, count_passes size contents g.counted, g.lines)

  pub contents_passed : contents_verdict size contents ≡ Ok tt → ContentsGood size contents
  unfolding contents_verdict
  contents_passed e =
      let next = next_passed (start_verdict size contents) _ e in
      record {
        started = start_passed size contents (first_passed (start_verdict size contents) _ e);
        counted = count_passed size contents (first_passed (count_verdict size contents) _ next);
        lines = next_passed (count_verdict size contents) _ next;
      }

-- ---- where the bodies stand, by lines that are right

module _ (size : ℕ) (contents : List ℕ) where
  -- the lines left start no body past the end
  offset_within : (left i previous offset : ℕ) → lines_verdict size contents left i previous offset ≡ Ok tt → offset ≤ size
  offset_within zero i previous offset e = omega (arith, lines_ended size contents i previous offset e)
  offset_within (suc left) i previous offset e =
      let p = line_passed size contents left i previous offset e in
      omega (arith, offset_within left (i + 1) (kind_at contents i) (offset + length_at contents i) p.others)

  -- nor end one there
  pub bodies_within : (left i previous offset : ℕ) → lines_verdict size contents left i previous offset ≡ Ok tt → (k : ℕ) → k < left
      → offset_at contents (i + k) + length_at contents (i + k) ≤ size
  bodies_within zero i previous offset e k h = absurd (omega arith)
  bodies_within (suc left) i previous offset e zero h =
      let p = line_passed size contents left i previous offset e in
      let w = offset_within left (i + 1) (kind_at contents i) (offset + length_at contents i) p.others in
      rw (add-zero i, p.right.starts) w
  bodies_within (suc left) i previous offset e (suc k) h =
      let p = line_passed size contents left i previous offset e in
      let same : i + 1 + k ≡ i + suc k = omega arith in
      rw same at (bodies_within left (i + 1) (kind_at contents i) (offset + length_at contents i) p.others k (omega arith))

-- ---- the contents' own bytes

-- two lists that begin with the same n bytes
module _ (n : ℕ) (contents image : List ℕ) (same : take n contents ≡ take n image) where
  number_same : (w place : ℕ) → place + w ≤ n → number_at w contents place ≡ number_at w image place
  number_same w place h = sym (number_within w contents place n h) ∙ rw same (number_within w image place n h)

  lines_same : (size left i previous offset : ℕ) → line_place (i + left) ≤ n
      → lines_verdict size contents left i previous offset ≡ lines_verdict size image left i previous offset
  unfolding lines_verdict
  lines_same size zero i previous offset h = refl
  lines_same size (suc left) i previous offset h =
      rw (
        number_same 1 (line_place i) (omega arith),
        number_same 1 (line_place i + 1) (omega arith),
        number_same 2 (line_place i + 2) (omega arith),
        number_same 2 (line_place i + 4) (omega arith),
        lines_same size left (i + 1) (kind_at image i) (offset + length_at image i) (omega arith),
      )

  -- are judged alike, for each size, where the lines of the first end within them
  pub contents_alone : (size : ℕ) → line_place (line_count contents) ≤ n → contents_verdict size contents ≡ contents_verdict size image
  unfolding contents_verdict start_verdict count_verdict
  contents_alone size h =
      let count : line_count contents ≡ line_count image = number_same 1 1 (omega arith) in
      let lines = lines_same size (line_count contents) 0 0 (line_place (line_count contents)) (rw (zero-add (line_count contents)) h) in
      rw (lines, number_same 1 0 (omega arith), count)
