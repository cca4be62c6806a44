use Rattle.std.proofs.Common.{rules}
use Rattle.hexdigits.specs.WrittenPairsLaws.{writing_more}
use Rattle.hexdigits.proofs.bytes.put_pairs.Goals as goal

pub loop-i-preserved : goal.loop-i-preserved
loop-i-preserved c = search (rules, writing_more)
