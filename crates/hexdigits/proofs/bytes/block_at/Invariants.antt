use Rattle.hexdigits.specs.BlockLaws.{CharactersCopied}
use Rattle.hexdigits.proofs.bytes.block_at.Given as goal

abbrev pub invariant-loop-i : goal.invariant-loop-i
invariant-loop-i l = CharactersCopied l.characters l.from l.block l.i
