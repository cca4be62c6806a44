-- What asking for an image's gauge answers.
use Rattle.std.specs.Prelude.{Result}
use Rattle.refusals.specs.declared.Refusal.{Refusal}
use Rattle.bodies.specs.declared.Identity.{Identity}

-- what identity says, or why the image is not accepted
abbrev pub Identified : Type 0
Identified = Result Identity Refusal
