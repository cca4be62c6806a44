use Rattle.refusals.specs.TestsLaws.{fields}
use Rattle.sets.specs.Set.{set_fields}
use Rattle.sets.proofs.sets.set_verdict.Goals as goal

pub returns-then-body-lt4 : goal.returns-then-body-lt4
unfolding set_fields
returns-then-body-lt4 c = search fields depth 12

pub returns-then-at-ne-PRESCALE_ALGORITHM : goal.returns-then-at-ne-PRESCALE_ALGORITHM
unfolding set_fields
returns-then-at-ne-PRESCALE_ALGORITHM c = search fields depth 12

pub returns-then-at-ne-PRESCALE_ALGORITHM-2 : goal.returns-then-at-ne-PRESCALE_ALGORITHM-2
unfolding set_fields
returns-then-at-ne-PRESCALE_ALGORITHM-2 c = search fields depth 12

pub returns-then-pressure-gt-HIGHEST_ORDER : goal.returns-then-pressure-gt-HIGHEST_ORDER
unfolding set_fields
returns-then-pressure-gt-HIGHEST_ORDER c = search fields depth 12

pub returns-then-temperature-gt-HIGHEST_ORDER : goal.returns-then-temperature-gt-HIGHEST_ORDER
unfolding set_fields
returns-then-temperature-gt-HIGHEST_ORDER c = search fields depth 12

pub returns : goal.returns
unfolding set_fields
returns c = search fields depth 12
