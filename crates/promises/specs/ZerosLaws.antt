-- Laws of a buffer of zeros: nothing can be read from any part of it.
use Rattle.std.specs.Prelude.{cond, ◌&&◌, List, [], ◌∷◌, ◌≡◌, refl, ℕ, zero, suc, ◌+◌, eqb, length, take, drop, get_or, replicate, Err}
use Rattle.std.proofs.Math.Bool.{and-false}
use Rattle.std.proofs.Common.{◌∙◌, arith, get_or-drop}
use Rattle.std.proofs.Math.Dec.{leb}
use Rattle.laws.specs.Cases.{decide}
use Rattle.numbers.specs.Fields.{number_at}
use Rattle.numbers.specs.FieldsLaws.{byte_at_lem}
use Rattle.refusals.specs.declared.Refusal.{Refusal}
use Rattle.refusals.specs.Refusals.{Outcome, result, refused, answer_to, held_after, refusal, Fills}
use Rattle.refusals.specs.VerdictLaws.{both_asked}
use Rattle.image.specs.Contents.{start_verdict, contents_verdict}
use Rattle.image.specs.Layout.{layout_verdict}
use Rattle.reading.specs.declared.Counts.{Counts}
use Rattle.panel.specs.Levels.{is_level}
use Rattle.panel.specs.Verdict.{verdict_of}
use Rattle.panel.specs.Reading.{reading_of}

zeros_at : (size i : ℕ) → ◌≡◌ {A = ℕ} (get_or (replicate size 0) i 0) 0
zeros_at zero i = refl
zeros_at (suc size) zero = refl
zeros_at (suc size) (suc i) = zeros_at size i

pub first_taken : (n : ℕ) (l : List ℕ) → get_or l 0 0 ≡ 0 → get_or (take n l) 0 0 ≡ 0
first_taken zero l e = refl
first_taken (suc n) [] e = e
first_taken (suc n) (b ∷ l) e = e

-- the first byte of a part
pub part_starts : (size start n : ℕ) → number_at 1 (take n (drop start (replicate size 0))) 0 ≡ 0
part_starts size start n =
    let zeros : List ℕ = replicate size 0 in
    byte_at_lem (take n (drop start zeros)) 0 ∙ first_taken n (drop start zeros) (get_or-drop start zeros 0 0 ∙ zeros_at size (start + 0))

module _ (image : List ℕ) (e : number_at 1 image 0 ≡ 0) where
  pub layout_refused : layout_verdict image ≡ Err (refusal 5 0)
  unfolding layout_verdict contents_verdict start_verdict
  layout_refused =
      let sized = leb 2 (length image) && leb (length image) 4096 in
      rw (both_asked sized (eqb (number_at 1 image 0) 0x51) 5 0, e, and-false sized)

  pub zeros_refused : (level : ℕ) (counts : Counts) → reading_of level image counts ≡ Err (cond (is_level level) (refusal 5 0) (refusal 20 0))
  unfolding reading_of verdict_of
  zeros_refused level counts = decide (is_level level) (λ f. rw (f, layout_refused)) (λ f. rw f)

-- whatever was lent to hold a result holds zeros after a refusal
pub refused_zeros : (outcome : Outcome) (before after : List ℕ) (r : Refusal) → Fills outcome before (Err r) after → after ≡ replicate (length before) 0
refused_zeros outcome before after r fills = by outcome fills.answers fills.holds
  where
    by : (o : Outcome) → Err r ≡ answer_to o → after ≡ held_after (length before) o → after ≡ replicate (length before) 0
    by (refused q) e h = h
    by (result x) e h = let z : ◌≡◌ {A = ℕ} 0 1 = cc in absurd (omega arith)
