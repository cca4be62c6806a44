-- The contract of `builder::build`, a function over a slice of structs, read by hand as Rattle reads every contract, and the same as Rattle's reading of it.
use Rattle.std.specs.Prelude.{◌≡◌, refl}
use base.Logic.{emp}
use contract.Lifetimes.{Lfts}
use denote.Triple.Clauses.{AtExit}
use denote.Triple.Entry.{Args, Res}
use borrow.Fn.Claims.{AllOf}
use borrow.Fn.Read.{Read, r_last, all_models, no_know}
use borrow.Fn.World.{World, Pr}
use Rattle.builder.specs.contracts.build.{signature, ended, clauses}
use Rattle.builder.proofs.build.Reads as made

module _ (κs : Lfts 3) (a : Args signature κs) where
  abbrev pub requires : Unit {0} → (w : World) → Pr w
  requires ghost w = (clauses w.𝓛 w.𝓜.mem w.𝓡.returns κs a).requires ghost

  pub requires_made : (ghost : Unit {0}) (w : World) → requires ghost w ≡ made.requires κs a ghost w
  requires_made ghost w = refl

  module _ (answer : Res signature κs) (after : AtExit ended κs) where
    abbrev ensures : (w : World) → Pr w
    ensures w = (clauses w.𝓛 w.𝓜.mem w.𝓡.returns κs a).ensures tt answer after

    -- it is one fact
    abbrev read : Read (λ w. emp w.𝓤) no_know ensures
    read = all_models ensures (λ w. r_last _) (λ w. refl) (λ w. refl) (λ w. refl)

    abbrev pub Learnt : Type 0
    Learnt = AllOf read.tells

    pub learnt_made : Learnt ≡ made.Learnt κs a answer after
    learnt_made = refl
