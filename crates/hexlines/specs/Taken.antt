-- A line of a text taken into the buffer that the text is read into.
use Rattle.std.specs.Prelude.{◌≡◌, List, ℕ, min, length}
use Rattle.limits.specs.Limits.{largest_image}
use Rattle.hextext.specs.Answers.{LineRecord}
use Rattle.hextext.specs.Lines.{line_record, line_data}
use Rattle.hexline.specs.Taken.{after_taken}

-- the record of a line with its line end, with `at` bytes of image before it, and the buffer, which was `before` and is `after`
pub record TakesLine (line : List ℕ) (at : ℕ) (before : List ℕ) (answer : LineRecord) (after : List ℕ) : Type 0 where
  pub answers : answer ≡ line_record (min largest_image (length before)) at line
  pub holds : after ≡ after_taken (line_record (min largest_image (length before)) at line) at (line_data line) before
