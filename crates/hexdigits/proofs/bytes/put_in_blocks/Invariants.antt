use Rattle.std.proofs.Common.{◌≡◌, ◌*◌}
use Rattle.hexdigits.specs.WrittenPairsLaws.{WritingPairs}
use Rattle.hexdigits.proofs.bytes.put_in_blocks.Given as goal

abbrev pub invariant-loop-i : goal.invariant-loop-i
invariant-loop-i l = WritingPairs l.characters l.from l.count l.initial.buffer l.buffer l.to l.sum 0 l.put × (l.put ≡ l.i * 16)
