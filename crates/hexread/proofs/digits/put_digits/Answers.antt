use mathlib.Core.Path.{refl}
use Rattle.hextext.specs.Record.{digit}
use Rattle.hexread.specs.DigitsLaws.{is_value, value_of, digit_values_by_test}
use Rattle.hexread.proofs.digits.put_digits.Goals as goal

pub returns : goal.returns
unfolding is_value value_of digit
returns c = digit_values_by_test _ (rw c.requires refl) (rw c.requires tt)
