-- What a line is, by itself and in its place in a text: or the number that refuses it.
use Rattle.std.specs.Prelude.{ℕ, Result}
use Rattle.hextext.specs.declared.Header.{Header}
use Rattle.hextext.specs.declared.Record.{Record}

abbrev pub TextLine : Type 0
TextLine = Result Header ℕ

abbrev pub LineRecord : Type 0
LineRecord = Result Record ℕ
