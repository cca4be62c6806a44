-- A sum that stops at its first step beyond the limit is document 01's where no running sum is beyond it, and refused 25 where one is.
-- Laws over any terms, for the places of a row and for the rows of a set.
use Rattle.std.specs.Prelude.{◌⊎◌, ◌≡◌, leb, ℤ, pos, nat_abs, ◌+ℤ◌, ◌*ℤ◌, Err, Ok}
use Rattle.std.proofs.Common.{inl, lit<}
use Rattle.std.proofs.Math.Logic.{inr}
use Rattle.std.proofs.Math.Path.{refl}
use Prim.Native.Nat.{ℕ, zero, suc, ◌+◌, ◌-◌, ◌^◌, ◌≤◌, ◌<◌}
use native.Mathlib.Omega.{arith}
use Rattle.std.proofs.Math.IntN.{+ℤ_idr, zero-*ℤ}
use Rattle.limits.specs.Limits.{largest_sum}
use Rattle.paper.specs.Words.{Not, Beyond}
use Rattle.paper.specs.Reading.{Sum}
use Rattle.laws.specs.Cases.{split, decide}
use Rattle.whole.specs.Rounded.{rounded}
use Rattle.whole.specs.RoundedLaws.{rounded_nothing}
use Rattle.refusals.specs.Refusals.{refusal}
use Rattle.reading.specs.Answers.{Value}
use Rattle.reading.specs.Value.{with_value, within}
use Rattle.reading.specs.Polynomial.{step_of}
use Rattle.reading.specs.PolynomialLaws.{nothing_turned}
use Rattle.agreement.specs.TestsLaws.{fails_beyond}
use Rattle.agreement.specs.NearestLaws.{rounded_is_nearest}
use Rattle.agreement.specs.SumLaws.{sum_once}

-- the sum of the values left from the i-th on, from the last one down
unfoldable pub chain : (kind : ℕ) → (x : ℤ) → (values : ℕ → Value) → (left i : ℕ) → Value
chain kind x values zero i = Ok (pos 0)
chain kind x values (suc left) i = with_value (chain kind x values left (i + 1)) (λ sum. with_value (values i) (λ c. step_of kind x c sum))

-- zeros come to 0
pub zeros_chain : (kind : ℕ) (x : ℤ) (values : ℕ → Value) → ((i : ℕ) → values i ≡ Ok (pos 0)) → (left i : ℕ) → chain kind x values left i ≡ Ok (pos 0)
unfolding chain step_of within
zeros_chain kind x values zeros zero i = refl
zeros_chain kind x values zeros (suc left) i = rw (zeros_chain kind x values zeros left (i + 1), zeros i, nothing_turned x)

-- of the values 0 to `last` each is its term, and Good, or it is refused 25, and Bad; after them come zeros
module _ (kind : ℕ) (x : ℤ) (last : ℕ) (Term : ℕ → ℤ → Type 0) (once : (i : ℕ) (c d : ℤ) → Term i c → Term i d → c ≡ d) (Good Bad : ℕ → Type 0) where
  abbrev pub TermGives : (i : ℕ) → Value → Type 0
  TermGives i (Ok c) = Term i c × Good i
  TermGives i (Err r) = (r ≡ refusal 25 kind) × Bad i

  abbrev SumBeyond : (i : ℕ) → Type 0
  SumBeyond i = (z : ℤ) × Sum x Term (last - i) i z × Beyond largest_sum z

  abbrev pub ChainGives : (i : ℕ) → Value → Type 0
  ChainGives i (Ok z) =
      (i ≤ last → Sum x Term (last - i) i z) × (last < i → z ≡ pos 0)
      × ((j : ℕ) → i ≤ j → j ≤ last → Good j × Not (SumBeyond j))
  ChainGives i (Err r) = (r ≡ refusal 25 kind) × ((j : ℕ) × (i ≤ j) × (j ≤ last) × (Bad j ⊎ SumBeyond j))

  -- one step more
  module _ (i : ℕ) (h : i ≤ last) (sum : ℤ) (g : ChainGives (i + 1) (Ok sum)) (c : ℤ) (term : Term i c) where
    abbrev next : ℤ
    next = c +ℤ rounded (sum *ℤ x) (2 ^ 24)

    next_sum : Sum x Term (last - i) i next
    next_sum =
        split last i
        (λ (l : last ≤ i).
        let none : last - i ≡ 0 = omega arith in
        rw (none, g.1 (omega arith), zero-*ℤ x, rounded_nothing (2 ^ 24) (lit< tt), +ℤ_idr c) term)
        (λ (l : i < last).
        let more : last - i ≡ suc (last - (i + 1)) = omega arith in
        rw more (c, sum, rounded (sum *ℤ x) (2 ^ 24), term, g.0 (omega arith), rounded_is_nearest (sum *ℤ x) (2 ^ 24) (lit< tt), refl))

    step_gives : Good i → ChainGives i (step_of kind x c sum)
    unfolding step_of within
    step_gives good =
        decide (leb (nat_abs next) largest_sum)
        (λ e.
        rw e (
          λ l. next_sum,
          λ l. absurd (omega arith),
          λ j low high.
              split j i
              (λ (l : j ≤ i).
              let same : j ≡ i = omega arith in
              rw same (
                good,
                λ (z, is, beyond). (fails_beyond largest_sum next).good e (rw (sum_once x Term once (last - i) i z next is next_sum) at beyond),
              ))
              (λ (l : i < j). g.2 j (omega arith) high),
        ))
        (λ e. rw e (refl, (i, omega arith, h, inr (next, next_sum, (fails_beyond largest_sum next).bad e))))

  next_gives : (i : ℕ) → i ≤ last → (rest : Value) → ChainGives (i + 1) rest → (v : Value) → TermGives i v
      → ChainGives i (with_value rest (λ sum. with_value v (λ c. step_of kind x c sum)))
  next_gives i h (Err r) g v t = (g.0, (g.1.0, omega (arith, g.1.1), g.1.2, g.1.3))
  next_gives i h (Ok sum) g (Err r) t = (t.0, (i, omega arith, h, inl t.1))
  next_gives i h (Ok sum) g (Ok c) t = step_gives i h sum g c t.0 t.1

  -- past the last term nothing is added to nothing
  past_gives : (i : ℕ) → last < i → (rest : Value) → ChainGives (i + 1) rest → ChainGives i (with_value rest (λ sum. step_of kind x (pos 0) sum))
  unfolding step_of within
  past_gives i h (Err r) g = absurd (omega (arith, g.1.1, g.1.2))
  past_gives i h (Ok sum) g =
      rw (g.1 (omega arith), nothing_turned x)
      (λ l. absurd (omega arith), λ l. refl, λ j low high. absurd (omega arith))

  module _ (values : ℕ → Value) (there : (i : ℕ) → i ≤ last → TermGives i (values i)) (absent : (i : ℕ) → last < i → values i ≡ Ok (pos 0)) where
    pub chain_gives : (left i : ℕ) → last < i + left → ChainGives i (chain kind x values left i)
    unfolding chain
    chain_gives zero i h = (λ l. absurd (omega arith), λ l. refl, λ j low high. absurd (omega arith))
    chain_gives (suc left) i h =
        let rest = chain_gives left (i + 1) (omega arith) in
        split i last
        (λ (l : i ≤ last). next_gives i l (chain kind x values left (i + 1)) rest (values i) (there i l))
        (λ (l : last < i). rw (absent i l) (past_gives i l (chain kind x values left (i + 1)) rest))
