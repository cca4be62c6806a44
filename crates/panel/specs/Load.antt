-- A load: a text read and judged.
use Rattle.std.specs.Prelude.{List, ◌≡◌, ℕ, take, Err, Ok}
use Rattle.numbers.specs.Slices.{cleared_from}
use Rattle.refusals.specs.Answers.{Verdict}
use Rattle.refusals.specs.Answers.{Filled}
use Rattle.refusals.specs.Refusals.{Outcome, result, refused, checked}
use Rattle.hextext.specs.Text.{read_text}
use Rattle.panel.specs.Verdict.{verdict_of}

abbrev pub judged : (level : ℕ) → Outcome → Outcome
judged level (result image) = checked (verdict_of level image) image
judged level (refused r) = refused r

-- the text's refusal or the verdict's, or the image in a buffer of `size` bytes
unfoldable pub load_text : (level size : ℕ) (text : List ℕ) → Outcome
load_text level size text = judged level (read_text size text)

-- ---- an image that stands in the buffer already

-- what judging the image at a buffer's start answers, and what the buffer then holds
abbrev pub answered : Verdict → (size : ℕ) → Filled
answered (Ok tt) size = Ok size
answered (Err r) size = Err r

abbrev pub kept : Verdict → List ℕ → List ℕ
kept (Ok tt) buffer = buffer
kept (Err r) buffer = cleared_from 0 buffer

pub record Keeps (level size : ℕ) (before : List ℕ) (answer : Filled) (after : List ℕ) : Type 0 where
  pub answers : answer ≡ answered (verdict_of level (take size before)) size
  pub holds : after ≡ kept (verdict_of level (take size before)) before
