-- A record taken into the buffer that its text is read into.
use Rattle.std.specs.Prelude.{◌≡◌, List, ℕ, min, length, replicate, Err, Ok}
use Rattle.std.proofs.Math.Seq.{paste}
use Rattle.limits.specs.Limits.{largest_image}
use Rattle.hextext.specs.Answers.{LineRecord}
use Rattle.hextext.specs.declared.Record.TheVariants.{Data, End}
use Rattle.hextext.specs.Record.{record_bytes, data_of, judge}

-- the buffer after a record in its place: its data there, or all zeros where it is refused
abbrev pub after_taken : LineRecord → (at : ℕ) (bytes buffer : List ℕ) → List ℕ
after_taken (Ok (Data n)) at bytes buffer = paste buffer at bytes n
after_taken (Ok End) at bytes buffer = buffer
after_taken (Err number) at bytes buffer = replicate (length buffer) 0

-- the record of a line without its line end, with `at` bytes of image before it, and the buffer, which was `before` and is `after`
pub record TakesRecord (line : List ℕ) (at : ℕ) (before : List ℕ) (answer : LineRecord) (after : List ℕ) : Type 0 where
  pub answers : answer ≡ judge (min largest_image (length before)) at line
  pub holds : after ≡ after_taken (judge (min largest_image (length before)) at line) at (data_of (record_bytes line)) before
