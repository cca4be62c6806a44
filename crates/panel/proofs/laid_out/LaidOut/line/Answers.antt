use Rattle.std.proofs.Common.{rules}
use Rattle.contents.specs.LinesLaws.{whole_line}
use Rattle.panel.specs.GoodLayoutLaws.{line_room}
use Rattle.panel.proofs.laid_out.LaidOut.line.Goals as goal

pub overflow_mul-place : goal.overflow_mul-place
overflow_mul-place c = let room = line_room c.args.self.image.now c.args.self.good c.args.i c.requires in search rules

pub overflow_add-place : goal.overflow_add-place
overflow_add-place c = let room = line_room c.args.self.image.now c.args.self.good c.args.i c.requires in search rules

pub overflow_add-place-2 : goal.overflow_add-place-2
overflow_add-place-2 c = let room = line_room c.args.self.image.now c.args.self.good c.args.i c.requires in search rules

pub slice_bounds-line_in-end : goal.slice_bounds-line_in-end
slice_bounds-line_in-end c = search (rules, line_room)

pub returns : goal.returns
returns c = search (rules, whole_line)
