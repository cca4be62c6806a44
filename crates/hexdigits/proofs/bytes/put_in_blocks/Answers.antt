use Rattle.std.proofs.Common.{rules, arith}
use Rattle.hexdigits.specs.WrittenPairsLaws.{writing_first}
use Rattle.hexdigits.specs.BlockLaws.{block_failed, block_more, rest_failed, rest_more}
use Rattle.hexdigits.proofs.bytes.put_in_blocks.Goals as goal

pub loop-i-init : goal.loop-i-init
loop-i-init c = search (rules, writing_first)

pub returns-in_err-more : goal.returns-in_err-more
returns-in_err-more c =
    block_failed _ _ _ _ _ _ _ _ _ c.loop-i.invariant.0 c.loop-i.invariant.1 _ (search rules) _ c.block_at-block.ensures c.loop-i-test.true
    c.in_err-more.ensures _ (search rules)

pub loop-i-preserved : goal.loop-i-preserved
loop-i-preserved c =
    let written =
    block_more _ _ _ _ _ _ _ _ _ c.loop-i.invariant.0 c.loop-i.invariant.1 _ (search rules) _ c.block_at-block.ensures c.loop-i-test.true in
    (written _ c.in_ok-more.ensures (search rules) (search rules), omega (arith, c.loop-i.invariant.1))

pub returns-in_err-rest : goal.returns-in_err-rest
returns-in_err-rest c = search (rules, rest_failed)

pub returns : goal.returns
returns c = rest_more _ _ _ _ _ _ _ _ _ c.loop-i.invariant.0 c.loop-i.invariant.1 _ (search rules) _ c.in_ok-rest.ensures (search rules) (search rules)
