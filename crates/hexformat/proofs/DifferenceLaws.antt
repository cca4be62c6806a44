-- Lines that are read, and two texts that are read, up to where they differ.
use Rattle.std.specs.Prelude.{◌≡◌, false, ℕ, ◌+◌, ◌%◌, ◌<◌, Err, Ok}
use Rattle.std.proofs.Math.Path.{refl}
use Rattle.std.proofs.Math.Bool.{true}
use mathlib.Core.List.{List, [], ◌∷◌, ◌++◌, append_assoc}
use Rattle.std.proofs.Common.{arith, eqb-true, length-append}
use Rattle.std.proofs.lemmas.Bool.{eqb-false}
use Rattle.std.proofs.Math.Dec.{eqb}
use Rattle.std.proofs.Math.ListN.{length}
use Rattle.std.proofs.Math.Seq.{get_or-append_seam}
use Rattle.laws.specs.Cases.{decide, never}
use Rattle.laws.specs.Sums.{total}
use Rattle.refusals.specs.Refusals.{Outcome, result}
use Rattle.hextext.specs.Record.{digit, record_bytes, data_of, formed, summed, line_of, placed, judge}
use Rattle.hextext.proofs.RecordLaws.{digit_low, digit_between, all_digits_at, formed_colon, formed_digits, formed_length}
use Rattle.hextext.specs.Text.{bare, after, reading}
use Rattle.hextext.specs.Answers.{LineRecord}
use Rattle.hextext.specs.declared.Record.TheVariants.{Data, End}
use Rattle.hexformat.specs.Format.{GoodText}
use Rattle.hexformat.specs.BareLaws.{bare_return, bare_on, bare_last}
use Rattle.hextext.proofs.TextLaws.{ended}
use Rattle.hexformat.specs.ReadingLaws.{refused_not}
use Rattle.hexformat.proofs.FormatSaysLaws.{reads_good}

-- ---- formed lines

-- each character after the first is a digit
pub digit_inside : (a : ℕ) (u w : List ℕ) (c : ℕ) → formed (a ∷ u ++ c ∷ w) ≡ true → digit c < 16
digit_inside a u w c f =
    rw (get_or-append_seam u c w 0) at (all_digits_at (u ++ c ∷ w) (length u) (formed_digits (a ∷ u ++ c ∷ w) f) (omega (arith, length-append u (c ∷ w))))

colon_inside : (a : ℕ) (u w : List ℕ) → formed (a ∷ u ++ 58 ∷ w) ≡ true → ⊥
colon_inside a u w f = omega (arith, digit_between 58 (omega arith) (omega arith), digit_inside a u w 58 f)

pub return_inside : (u w : List ℕ) → formed (u ++ 13 ∷ w) ≡ true → ⊥
return_inside [] w f = omega (arith, formed_colon (13 ∷ w) f)
return_inside (a ∷ u) w f = omega (arith, digit_low 13 (omega arith), digit_inside a u w 13 f)

-- a formed line has an odd number of characters
pub formed_odd : (l m : List ℕ) → formed l ≡ true → formed m ≡ true → length m ≡ length l + 1 → ⊥
formed_odd l m e f q = omega (arith, formed_length l e, formed_length m f)

pub longer_by_one : (u : List ℕ) (c : ℕ) → length (u ++ c ∷ []) ≡ length u + 1
longer_by_one u c = length-append u (c ∷ [])

-- ---- a line that is read

-- form and checksum are good
pub record GoodRecord (l : List ℕ) : Type 0 where
  pub well_formed : formed l ≡ true
  pub balanced : total (record_bytes l) % 256 ≡ 0

-- so is every line that is read
pub read_line_good : (room line : ℕ) (image l text y : List ℕ) → ended room line image l text ≡ result y → GoodRecord (bare l)
unfolding judge placed line_of summed after
read_line_good room line image l text y e =
    let s : ℕ = total (record_bytes (bare l)) % 256 in
    decide (formed (bare l))
    (λ (p : formed (bare l) ≡ true). decide (eqb s 0)
    (λ (q : eqb s 0 ≡ true). record { well_formed = p; balanced = eqb-true s 0 q })
    (λ (q : eqb s 0 ≡ false). refused_not (rw (p, q) at e)))
    (λ (p : formed (bare l) ≡ false). refused_not (rw p at e))

-- it starts with a colon, and has no other
first_formed : (d : ℕ) (u : List ℕ) → formed (bare (d ∷ u)) ≡ true → d ≡ 58
unfolding formed
first_formed d [] f =
    decide (eqb d 13)
    (λ q. let e : bare (d ∷ []) ≡ [] = rw (eqb-true d 13 q) (bare_return []) in never (rw e at f))
    (λ q. formed_colon (d ∷ []) (rw (bare_last [] d (eqb-false d 13 q)) at f))
first_formed d (e ∷ u) f = formed_colon (d ∷ bare (e ∷ u)) (rw (bare_on [] u d e) at f)

pub no_empty_line : formed (bare []) ≡ true → ⊥
unfolding bare formed
no_empty_line f = never f

module _ (room line : ℕ) (image : List ℕ) where
  first_colon : (u text y : List ℕ) (d : ℕ) → reading room line image (d ∷ u) text ≡ result y → d ≡ 58
  unfolding reading
  first_colon u [] y d e = refused_not e
  first_colon u (c ∷ text) y d e =
      decide (eqb c 10)
      (λ (q : eqb c 10 ≡ true). first_formed d u (read_line_good room line image (d ∷ u) text y (rw q at e)).well_formed)
      (λ (q : eqb c 10 ≡ false). first_colon (u ++ c ∷ []) text y d (rw q at e))

  pub starts_colon : (text y : List ℕ) (d : ℕ) → reading room line image [] (d ∷ text) ≡ result y → d ≡ 58
  unfolding reading
  starts_colon text y d e =
      decide (eqb d 10)
      (λ (q : eqb d 10 ≡ true). absurd (no_empty_line (read_line_good room line image [] text y (rw q at e)).well_formed))
      (λ (q : eqb d 10 ≡ false). first_colon [] text y d (rw q at e))

  pub no_colon : (a : ℕ) (u v text y : List ℕ) → reading room line image (a ∷ u ++ 58 ∷ v) text ≡ result y → ⊥
  unfolding reading
  no_colon a u v [] y e = refused_not e
  no_colon a u v (c ∷ text) y e =
      decide (eqb c 10)
      (λ (q : eqb c 10 ≡ true). not_formed v (read_line_good room line image (a ∷ u ++ 58 ∷ v) text y (rw q at e)).well_formed)
      (λ (q : eqb c 10 ≡ false). no_colon a u (v ++ c ∷ []) text y (rw (q, append_assoc (a ∷ u) (58 ∷ v) (c ∷ [])) at e))
    where
      not_formed : (v : List ℕ) → formed (bare (a ∷ u ++ 58 ∷ v)) ≡ true → ⊥
      not_formed [] f = colon_inside a u [] (rw (bare_last (a ∷ u) 58 (λ (e : 58 ≡ 13). omega arith)) at f)
      not_formed (d ∷ v) f = colon_inside a u (bare (d ∷ v)) (rw (bare_on (a ∷ u) v 58 d) at f)

  -- where text follows, it is data
  pub reads_on : (l text y : List ℕ) → 0 < length text → ended room line image l text ≡ result y
      → (n : ℕ) × (judge room (length image) (bare l) ≡ Ok (Data n)) × (reading room (line + 1) (image ++ data_of (record_bytes (bare l))) [] text ≡ result y)
  unfolding after
  reads_on l text y h e = on (judge room (length image) (bare l)) text h e
    where
      on : {next : Outcome} (j : LineRecord) (text : List ℕ) → 0 < length text → after j line image text next ≡ result y
          → (n : ℕ) × (j ≡ Ok (Data n)) × (next ≡ result y)
      on (Ok (Data n)) text h e = (n, refl, e)
      on (Ok End) [] h e = absurd (omega arith)
      on (Ok End) (c ∷ text) h e = refused_not e
      on (Err n) text h e = refused_not e

-- ---- two texts that are read, up to where they differ

-- both are read from the same line, image and characters of the line on: the first at s, the second at t
pub record UpToDifference (room : ℕ) (s t y z : List ℕ) : Type 0 where
  pub line : ℕ
  pub image : List ℕ
  pub passed : List ℕ
  pub first : reading room line image passed s ≡ result y
  pub second : reading room line image passed t ≡ result z

up_to_difference : (room line : ℕ) (image passed before s t y z : List ℕ) → 0 < length s
    → reading room line image passed (before ++ s) ≡ result y → reading room line image passed (before ++ t) ≡ result z → UpToDifference room s t y z
unfolding reading after
up_to_difference room line image passed [] s t y z h e f = record { line = line; image = image; passed = passed; first = e; second = f }
up_to_difference room line image passed (a ∷ before) s t y z h e f =
    decide (eqb a 10)
    (λ (q : eqb a 10 ≡ true).
    let g = reads_on room line image passed (before ++ s) y (omega (arith, length-append before s)) (rw q at e) in
    up_to_difference room (line + 1) (image ++ data_of (record_bytes (bare passed))) [] before s t y z h g.2 (rw (q, g.1) at f))
    (λ (q : eqb a 10 ≡ false). up_to_difference room line image (passed ++ a ∷ []) before s t y z h (rw q at e) (rw q at f))

-- two good texts are both read where there is room for the two images
pub good_up_to_difference : {image other : List ℕ} (before s t : List ℕ) → GoodText image (before ++ s) → GoodText other (before ++ t) → 0 < length s
    → UpToDifference (length image + length other) s t image other
good_up_to_difference {image} {other} before s t g g' h =
    let room : ℕ = length image + length other in
    up_to_difference room 1 [] [] before s t image other h (reads_good room g (omega arith)) (reads_good room g' (omega arith))
