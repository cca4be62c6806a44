use Rattle.std.proofs.Common.{◌≡◌, Ok, rules}
use Rattle.hextext.specs.declared.Record.TheVariants.{Data, End}
use Rattle.lamp.specs.LoadsLaws.{taken_room, taken_data, taken_end, taken_fault}
use Rattle.lamp.proofs.loads.take_line.Goals as goal

pub grow-requires : goal.grow-requires
grow-requires c = search (rules, taken_room)

pub returns-in-Ok-Data : goal.returns-in-Ok-Data
returns-in-Ok-Data c = let taken : c.take_line.result ≡ Ok (Data c.in-Ok-Data.count) = cc in search (rules, taken_data)

pub returns-in-Ok-End : goal.returns-in-Ok-End
returns-in-Ok-End c = let taken : c.take_line.result ≡ Ok End = cc in search (rules, taken_end)

pub returns-in-Err : goal.returns-in-Err
returns-in-Err c = search (rules, taken_fault)
