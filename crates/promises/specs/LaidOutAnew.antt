-- An image laid out anew with further sections, in document 01's words.
use Rattle.std.specs.Prelude.{List, [], ◌∷◌, ◌⊎◌, ◌↔◌, ◌≡◌, ℕ, ◌≤◌, ◌<◌}
use Rattle.paper.specs.Words.{Not, Lowest}
use Rattle.paper.specs.Table.{NoneGiven}
use Rattle.paper.specs.Image.{HasKind, HasBody, layout_table}
use Rattle.paper.specs.Verdict.{Knows, verdict_table}
use Rattle.image.specs.Sections.{Section}

-- a section of this kind with this body is among them
abbrev pub Among : (kind : ℕ) (body : List ℕ) → List Section → Type 0
Among kind body [] = ⊥
Among kind body (s ∷ ss) = ((kind ≡ s.kind) × (body ≡ s.body)) ⊎ Among kind body ss

abbrev pub HasSection : (kind : ℕ) → List Section → Type 0
HasSection kind ss = (body : List ℕ) × Among kind body ss

-- "each once"
abbrev pub EachOnce : List Section → Type 0
EachOnce [] = Unit {0}
EachOnce (s ∷ ss) = Not (HasSection s.kind ss) × EachOnce ss

-- "Take an image that a panel accepts", and "further sections, of kinds it doesn't hold and that panel doesn't know"
pub record FurtherSections (level : ℕ) (image : List ℕ) (further : List Section) : Type 0 where
  pub accepted : NoneGiven (verdict_table level image)
  pub not_held : (kind : ℕ) → HasSection kind further → Not (HasKind image kind)
  pub not_known : (kind : ℕ) → HasSection kind further → Not (Knows level kind)

-- "Lay it out anew" with them: any image with a good layout, which has 16 sections and 4,096 bytes at most, that has these bodies and
-- those of the old image, and no other. Each kind is there once, as in every good layout.
pub record LaidAnew (image : List ℕ) (further : List Section) (anew : List ℕ) : Type 0 where
  pub good : NoneGiven (layout_table anew)
  pub has : (kind : ℕ) (body : List ℕ) → HasBody anew kind body ↔ (HasBody image kind body ⊎ Among kind body further)

-- "all the new kinds are 128 or above"
abbrev pub AllHigh : List Section → Type 0
AllHigh further = (kind : ℕ) → HasSection kind further → 128 ≤ kind

-- "one is lower": the lowest such kind
abbrev pub LowestLow : List Section → (kind : ℕ) → Type 0
LowestLow further = Lowest (λ kind. HasSection kind further × (kind < 128))
