-- Laws of lent buffers: from a buffer that begins with the result to one with zeros after it.
use Rattle.std.specs.Prelude.{◌≡◌, refl, List, [], ℕ, ◌-◌, length, take, replicate, Err, Ok}
use Rattle.std.proofs.Common.{sym, ap, ◌∙◌, arith}
use Rattle.std.proofs.Math.Nat.{sub-zero}
use Rattle.std.proofs.Math.Seq.{take-append_seam}
use Rattle.numbers.specs.Slices.{cleared_from}
use Rattle.refusals.specs.declared.Refusal.{Refusal}
use Rattle.refusals.specs.Answers.{Filled}
use Rattle.refusals.specs.InNumbers.{filled_length}
use Rattle.refusals.specs.Refusals.{Outcome, result, refused, answer_to, held_after, Fills, Settled}

module _ (a : Filled) (d d' : List ℕ) where
  pub settled_length : (n : ℕ) → a ≡ Ok n → d' ≡ cleared_from n d → Settled a d (Ok n) d'
  settled_length n e h = record { same = sym e; cleared = rw e h }

  pub settled_refused : (r : Refusal) → a ≡ Err r → d' ≡ cleared_from 0 d → Settled a d a d'
  settled_refused r e h = record { same = refl; cleared = rw e h }

-- the result's bytes
abbrev pub contents : Outcome → List ℕ
contents (result x) = x
contents (refused r) = []

-- the right answer, and the result at the buffer's start; what stands after it is anything
pub record Begins (outcome : Outcome) (answer : Filled) (buffer : List ℕ) : Type 0 where
  pub answers : answer ≡ answer_to outcome
  pub begins : take (filled_length answer) buffer ≡ contents outcome

-- settling such a buffer fills it
pub settled_fills : (o : Outcome) (before d d' : List ℕ) (a r : Filled) → length d ≡ length before → Begins o a d → Settled a d r d' → Fills o before r d'
settled_fills o before d d' a r e b s = record { answers = s.same ∙ b.answers; holds = s.cleared ∙ held o b.answers b.begins }
  where
    held : (p : Outcome) → a ≡ answer_to p → take (filled_length a) d ≡ contents p → cleared_from (filled_length a) d ≡ held_after (length before) p
    held (result x) f g = rw (g, e, f)
    held (refused q) f g = rw (g, e, f) (rw (sub-zero (length before)))

-- ---- from an answer back to what it answers

module _ (o : Outcome) (before after : List ℕ) (a : Filled) (f : Fills o before a after) where
  pub refused_of : (r : Refusal) → a ≡ Err r → o ≡ refused r
  refused_of r e = by o refl
    where
      by : (p : Outcome) → o ≡ p → o ≡ refused r
      by (refused q) s = s ∙ ap refused (cc (rw s at f.answers, e))
      by (result x) s = let z : ◌≡◌ {A = ℕ} 0 1 = cc (rw s at f.answers, e) in absurd (omega arith)

  pub result_of : (n : ℕ) → a ≡ Ok n → o ≡ result (take n after)
  result_of n e = by o refl
    where
      by : (p : Outcome) → o ≡ p → o ≡ result (take n after)
      by (refused q) s = let z : ◌≡◌ {A = ℕ} 0 1 = cc (rw s at f.answers, e) in absurd (omega arith)
      by (result x) s =
          let size : n ≡ length x = cc (rw s at f.answers, e) in
          let held : after ≡ held_after (length before) (result x) = rw s at f.holds in
          s ∙ ap result (sym (rw (held, size) (take-append_seam x (replicate (length before - length x) 0))))
