use Rattle.std.proofs.Common.{◌≡◌, ◌+◌, ◌%◌, ◌∙◌, fold, rules}
use Rattle.numbers.specs.SlicesLaws.{bytes_added}
use Rattle.numbers.proofs.slices.byte_sum.Goals as goal

pub returns : goal.returns
returns c = let added : c.fold.result ≡ fold (λ sum byte. (sum + byte) % 65536) 0 c.args.bytes.now = search rules in added ∙ bytes_added c.args.bytes.now
