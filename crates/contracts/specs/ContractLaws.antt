-- A contract is an equation with a definition, so it determines. The one law, and its forms for the relations that contracts name.
use Rattle.std.specs.Prelude.{List, ◌≡◌, refl, ℕ}
use Rattle.std.proofs.Common.{sym, ap, ◌∙◌}
use Rattle.std.specs.Borrow.{Bor}
use Rattle.numbers.specs.Slices.{IsPart}
use Rattle.refusals.specs.Answers.{Filled}
use Rattle.refusals.specs.declared.for_c.FilledForC.{FilledForC}
use Rattle.refusals.specs.Refusals.{Outcome, Fills}
use Rattle.refusals.specs.ForC.{FillsForC}
use Rattle.image.specs.Find.{Found}
use Rattle.lamp.specs.declared.Panel.{Panel}
use Rattle.lamp.specs.Panel.{Standing, standing}
use base.Logic.{SProp, emp, sep, emp∗, snd∗, mono_l, guard_i, via, both⊢}
use contract.Fact.{fact}
use seplogic.Ra.Ura.{Ura}
use denote.Triple.Clauses.{Ended}
use borrow.Fn.World.{World, Pr}
use Rattle.contracts.specs.Contract.{SamePart, Lifetimes, Arguments, AsksNothing, AsksItsParameter}

pub determined : {A : Type 0} {r r' said : A} → r ≡ said → r' ≡ said → r ≡ r'
determined e f = e ∙ sym f

-- ---- the answer alone, of a function with no lent buffer

pub answers : {A N : Type 0} {r r' said : A} {none : N} → r ≡ said → r' ≡ said → (r ≡ r') × (none ≡ none)
answers e f = (determined e f, refl)

pub is_part : {N : Type 0} {none : N} {s r r' : Bor (List ℕ)} {start count : ℕ} → IsPart s r start count → IsPart s r' start count
    → SamePart r r' × (none ≡ none)
is_part f g = ((determined f.holds g.holds, λ i. (determined f.block g.block i, determined f.place g.place i)), refl)

pub is_found : {N : Type 0} {none : N} {image r r' : Bor (List ℕ)} {kind : ℕ} → Found image r kind → Found image r' kind → SamePart r r' × (none ≡ none)
is_found f g = ((determined f.holds g.holds, λ i. (determined f.block g.block i, determined f.place g.place i)), refl)

-- ---- the answer, and what one lent buffer holds

module _ {outcome : Outcome} {before after after' : List ℕ} where
  pub fills : {r r' : Filled} → Fills outcome before r after → Fills outcome before r' after' → (r ≡ r') × (after ≡ after')
  fills f g = (determined f.answers g.answers, determined f.holds g.holds)

  pub fills_for_c : {r r' : FilledForC} → FillsForC outcome before r after → FillsForC outcome before r' after' → (r ≡ r') × (after ≡ after')
  fills_for_c f g = (determined f.answers g.answers, determined f.holds g.holds)

-- a panel, and what its buffer holds
pub stands : {r r' : Panel} {l l' : List ℕ} {said : Standing} → standing r l ≡ said → standing r' l' ≡ said → (r ≡ r') × (l ≡ l')
stands e f = let same = determined e f in (ap (λ (s : Standing). s.panel) same, ap (λ (s : Standing). s.buffer) same)

-- The buffer is the first argument, or one of the next.
pub first : {A N : Type 0} {none : N} {l l' : List ℕ} → A × (l ≡ l') → A × (◌≡◌ {A = List ℕ × N} (l, none) (l', none))
first {none = none} e = (e.0, λ i. (e.1 i, none))

pub next : {A N B : Type 0} {none : N} {b b' : B} → A × (b ≡ b') → A × (◌≡◌ {A = N × B} (none, b) (none, b'))
next {none = none} e = (e.0, λ i. (none, e.1 i))

-- ---- a function asks nothing where what it asks of its parameter always holds

module _ {M : Type 1} (𝓤 : Ura M) (φ : Type 0) where
  nothing_asked : φ → sep 𝓤 (fact 𝓤 φ) (emp 𝓤) ≡ emp 𝓤
  nothing_asked holds =
      both⊢ 𝓤 (snd∗ 𝓤 (fact 𝓤 φ) (emp 𝓤)) (via 𝓤 (sep 𝓤 (emp 𝓤) (emp 𝓤)) (emp∗ 𝓤 (emp 𝓤)) (mono_l 𝓤 (emp 𝓤) (guard_i 𝓤 φ (emp 𝓤) holds)))

pub asks_nothing : (T : Ended) (lives : (κs : Lifetimes T) → Type 0) (requires : (κs : Lifetimes T) → Arguments T κs → Unit {0} → (w : World) → Pr w)
    → AsksItsParameter T lives requires → ((κs : Lifetimes T) → lives κs) → AsksNothing T requires
asks_nothing T lives requires asks holds κs a w = asks κs a w ∙ nothing_asked w.𝓤 (lives κs) (holds κs)
