use Rattle.hexdigits.specs.BytesLaws.{puts_none, puts_all}
use Rattle.std.proofs.Common.{rules}
use Rattle.hexdigits.proofs.bytes.put_bytes.Goals as goal

pub returns-then-is_none : goal.returns-then-is_none
returns-then-is_none c = puts_none _ _ _ _ _ c.put_where_room-sum.ensures _ c.is_none.ensures c.if-is_none.true (search rules) _ c.clear_from.ensures

pub returns-else-is_none : goal.returns-else-is_none
returns-else-is_none c = puts_all _ _ _ _ _ c.put_where_room-sum.ensures _ c.is_none.ensures c.if-is_none.false
