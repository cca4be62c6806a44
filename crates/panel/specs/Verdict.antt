-- The verdict on an image: 20, then 5 to 13, 15, 16 in that order, each finished for the whole image before the next.
use Rattle.std.specs.Prelude.{cond, List, [], ◌∷◌, ℕ, eqb, Ok}
use Rattle.std.proofs.Math.Option.{Option, none, some}
use Rattle.refusals.specs.Answers.{Verdict}
use Rattle.refusals.specs.Refusals.{ask, and_then}
use Rattle.image.specs.Layout.{layout_verdict}
use Rattle.image.specs.Sections.{Section, sections}
use Rattle.image.specs.Find.{body_of, is_there}
use Rattle.bodies.specs.Identity.{identity_verdict}
use Rattle.sets.specs.Set.{set_verdict}
use Rattle.bodies.specs.Trim.{trim_verdict}
use Rattle.bodies.specs.Note.{note_verdict}
use Rattle.panel.specs.Levels.{is_level, kinds_of_level, may_pass}

-- 20
abbrev pub level_verdict : (level : ℕ) → Verdict
level_verdict level = ask (is_level level) 20 0

-- 9: kinds rise, so the first that may not be passed over is the lowest
unfoldable pub unknown_verdict : (level : ℕ) → List Section → Verdict
unknown_verdict level [] = Ok tt
unknown_verdict level (s ∷ ss) = and_then (ask (may_pass level s.kind) 9 s.kind) (unknown_verdict level ss)

-- 10
abbrev pub present_verdict : (kind : ℕ) → List Section → Verdict
present_verdict kind ss = ask (is_there (body_of kind ss)) 10 kind

unfoldable pub missing_verdict : List Section → Verdict
missing_verdict ss = and_then (present_verdict 1 ss) (and_then (present_verdict 2 ss) (present_verdict 3 ss))

-- 11, 12, 13, 15, 16: the body of a kind
unfoldable pub kind_verdict : (kind : ℕ) → (body : List ℕ) → Verdict
kind_verdict kind body =
    cond (eqb kind 1) (identity_verdict body)
    (cond (eqb kind 2) (set_verdict 12 body)
    (cond (eqb kind 3) (set_verdict 13 body)
    (cond (eqb kind 4) (trim_verdict body)
    (cond (eqb kind 129) (note_verdict body)
    (Ok tt)))))

-- a body, where it is there
abbrev pub there_verdict : (List ℕ → Verdict) → Option (List ℕ) → Verdict
there_verdict verdict none = Ok tt
there_verdict verdict (some body) = verdict body

-- the bodies of these kinds, in their order
unfoldable pub kinds_verdict : (kinds : List ℕ) → List Section → Verdict
kinds_verdict [] ss = Ok tt
kinds_verdict (kind ∷ kinds) ss = and_then (there_verdict (kind_verdict kind) (body_of kind ss)) (kinds_verdict kinds ss)

-- the bodies of the kinds that the level knows
abbrev pub bodies_verdict : (level : ℕ) → List Section → Verdict
bodies_verdict level ss = kinds_verdict (kinds_of_level level) ss

unfoldable pub sections_verdict : (level : ℕ) → List Section → Verdict
sections_verdict level ss = and_then (unknown_verdict level ss) (and_then (missing_verdict ss) (bodies_verdict level ss))

unfoldable pub verdict_of : (level : ℕ) → (image : List ℕ) → Verdict
verdict_of level image = and_then (level_verdict level) (and_then (layout_verdict image) (sections_verdict level (sections image)))
