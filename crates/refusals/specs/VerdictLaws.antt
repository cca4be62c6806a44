-- Laws of checks in order: what passes, and what the first refusal stops.
use Rattle.std.specs.Prelude.{◌≡◌, refl, Bool, true, false, ◌&&◌, List, ℕ, Err, Ok}
use Rattle.std.proofs.Common.{ap, arith}
use Rattle.refusals.specs.declared.Refusal.{Refusal}
use Rattle.refusals.specs.Answers.{Verdict}
use Rattle.refusals.specs.Refusals.{refusal, ask, and_then, result, refused, checked}

pub never_both {ℓ} : {X : Type ℓ} {v : Verdict} {r : Refusal} → v ≡ Err r → v ≡ Ok tt → X
never_both e f = let z : ◌≡◌ {A = ℕ} 0 1 = cc in absurd (omega arith)

-- one check
pub ask_passes : {holds : Bool} (number detail : ℕ) → holds ≡ true → ask holds number detail ≡ Ok tt
ask_passes number detail e = rw e

pub ask_refuses : {holds : Bool} (number detail : ℕ) → holds ≡ false → ask holds number detail ≡ Err (refusal number detail)
ask_refuses number detail e = rw e

pub asked : (holds : Bool) (number detail : ℕ) → ask holds number detail ≡ Ok tt → holds ≡ true
asked true number detail e = refl
asked false number detail e = never_both refl e

pub ask_unpassed : (holds : Bool) (number detail : ℕ) → (ask holds number detail ≡ Ok tt → ⊥) → ask holds number detail ≡ Err (refusal number detail)
ask_unpassed true number detail f = absurd (f refl)
ask_unpassed false number detail f = refl

-- two tests for one refusal
pub both_asked : (a b : Bool) (number detail : ℕ) → and_then (ask a number detail) (ask b number detail) ≡ ask (a && b) number detail
both_asked true b number detail = refl
both_asked false b number detail = refl

-- two checks, one after the other: how code that stops at the first refusal comes to both, and what an acceptance says of each
pub stops_there : (first next : Verdict) {v : Verdict} (r : Refusal) → v ≡ first → v ≡ Err r → v ≡ and_then first next
stops_there first next r e f = rw (← e, f)

pub goes_on : (first next : Verdict) {w : Verdict} (v : Verdict) → v ≡ first → v ≡ Ok tt → w ≡ next → w ≡ and_then first next
goes_on first next v e f g = rw (← e, f) g

pub first_passed : (first next : Verdict) → and_then first next ≡ Ok tt → first ≡ Ok tt
first_passed (Ok tt) next e = refl
first_passed (Err r) next e = e

pub next_passed : (first next : Verdict) → and_then first next ≡ Ok tt → next ≡ Ok tt
next_passed (Ok tt) next e = e
next_passed (Err r) next e = never_both refl e

-- checks, then a result: what is filled in says what the checks came to
pub checked_result : (v : Verdict) (x y : List ℕ) → checked v x ≡ result y → (v ≡ Ok tt) × (x ≡ y)
checked_result (Ok tt) x y e = (refl, cc)
checked_result (Err r) x y e = let z : ◌≡◌ {A = ℕ} 0 1 = cc in absurd (omega arith)

pub checked_refused : (v : Verdict) (x : List ℕ) (r : Refusal) → checked v x ≡ refused r → v ≡ Err r
checked_refused (Ok tt) x r e = let z : ◌≡◌ {A = ℕ} 0 1 = cc in absurd (omega arith)
checked_refused (Err q) x r e = ap Err (cc)
