-- What is said of a contract, whosever it is: it determines what its function gives, and it asks nothing.
use Rattle.std.specs.Prelude.{List, ◌≡◌, ℕ}
use base.Logic.{emp, sep}
use contract.Fact.{fact}
use contract.Lifetimes.{Lfts}
use Rattle.std.specs.Borrow.{Bor}
use denote.Triple.Clauses.{Ended, Lasts, AtExit, at_exit}
use denote.Triple.Entry.{Args, Res}
use borrow.Fn.World.{World, Pr}

-- T is a function's signature.
module _ (T : Ended) where
  abbrev pub Lifetimes : Type 0
  Lifetimes = Lfts T.signature.lifetimes

  abbrev pub Arguments : Lifetimes → Type 0
  Arguments = Args T.signature

  abbrev Answer : Lifetimes → Type 0
  Answer = Res T.signature

  -- What the lent buffers hold after the call: a value for each `&mut` argument, and nothing for any other.
  abbrev Buffers : (κs : Lifetimes) → Arguments κs → Type 0
  Buffers = Lasts T

  -- `learnt` is what the `ensures` tells a caller of the answer and of the arguments after the call. `at_exit` makes these of the arguments and of `Buffers`.
  module _ (learnt : (κs : Lifetimes) → Arguments κs → Answer κs → AtExit T κs → Type 0) where
    abbrev pub Alike : ((κs : Lifetimes) → (r r' : Answer κs) → Type 0) → Type 0
    Alike alike =
        (κs : Lifetimes) (a : Arguments κs) (r r' : Answer κs) (b b' : Buffers κs a)
        → learnt κs a r (at_exit T κs a b) → learnt κs a r' (at_exit T κs a b') → alike κs r r' × (b ≡ b')

    -- Any two results that the contract allows are equal: the answers r and r', and what all buffers hold, b and b'.
    abbrev pub Determines : Type 0
    Determines = Alike (λ κs r r'. r ≡ r')

  -- The `requires` is the assertion that holds of everything.
  abbrev pub AsksNothing : ((κs : Lifetimes) → Arguments κs → Unit {0} → (w : World) → Pr w) → Type 2
  AsksNothing requires = (κs : Lifetimes) (a : Arguments κs) (w : World) → requires κs a tt w ≡ emp w.𝓤

  -- The same of a function with a parameter, which it asks of alone: that what is borrowed in the parameter's type lives long enough.
  -- Where nothing is borrowed, it asks nothing (`ContractLaws.asks_nothing`).
  abbrev pub AsksItsParameter : ((κs : Lifetimes) → Type 0) → ((κs : Lifetimes) → Arguments κs → Unit {0} → (w : World) → Pr w) → Type 2
  AsksItsParameter lives requires = (κs : Lifetimes) (a : Arguments κs) (w : World) → requires κs a tt w ≡ sep w.𝓤 (fact w.𝓤 (lives κs)) (emp w.𝓤)

-- Of an answer that is a part of the caller's memory, all that a caller can tell of it: its bytes, and where it stands.
abbrev pub SamePart : (r r' : Bor (List ℕ)) → Type 0
SamePart r r' = (r.now ≡ r'.now) × (r.ref_ptr ≡ r'.ref_ptr)
