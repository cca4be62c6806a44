-- What a call answers, in document 01's numbers and words.
use Rattle.std.specs.Prelude.{Bool, true, false, List, [], ◌∷◌, ◌++◌, ◌⊎◌, ◌≡◌, ℕ, ◌+◌, ◌-◌, ◌≤◌, min, ℤ, pos, length, replicate}
use Rattle.std.specs.Borrow.{Bor}
use Rattle.paper.specs.Words.{Not}
use Rattle.paper.specs.Table.{NoneGiven, FirstGiven}
use Rattle.paper.specs.Writer.{writer_table}
use Rattle.paper.specs.Image.{offset_of, HasKind, HasBody, layout_table}
use Rattle.paper.specs.Verdict.{verdict_table}
use Rattle.paper.specs.Builder.{builder_table, IsImageOf}
use Rattle.paper.specs.Reading.{Counts, Shows}
use Rattle.paper.specs.ReadingTable.{reading_table}
use Rattle.builder.specs.declared.KindAndLength.{KindAndLength}
use Rattle.hexformat.specs.Format.{GoodText}
use Rattle.hexformat.specs.Faults.{Refuses}
use Rattle.hexformat.specs.Writing.{Written}

-- ---- a lent buffer

-- It was `before` and is `after`. Number 0 exactly on success: then the result stands at its start, with zeros after it. With any other
-- number the length is 0 and the buffer all zeros.
pub data Fills (Refused : (number detail : ℕ) → Type 0) (IsResult : List ℕ → Type 0) (before : List ℕ) (number detail size : ℕ) (after : List ℕ) : Type 0 where
  refused : 1 ≤ number → Refused number detail → size ≡ 0 → after ≡ replicate (length before) 0 → Fills Refused IsResult before number detail size after
  filled : (result : List ℕ) → IsResult result → number ≡ 0 → detail ≡ 0 → size ≡ length result
      → after ≡ result ++ replicate (length before - length result) 0 → Fills Refused IsResult before number detail size after

-- the room for an image: "the smaller of 4,096 and the lent buffer"
abbrev pub room : (buffer : List ℕ) → ℕ
room buffer = min 4096 (length buffer)

-- a text read
abbrev pub AnswersRead : (text before : List ℕ) → (number detail size : ℕ) (after : List ℕ) → Type 0
AnswersRead text before = Fills (Refuses (room before) text) (λ image. GoodText image text × (length image ≤ room before)) before

-- an image written
abbrev pub AnswersWrite : (image before : List ℕ) → (number detail size : ℕ) (after : List ℕ) → Type 0
AnswersWrite image before = Fills (FirstGiven (writer_table (length before) image)) (Written image) before

-- the kinds and the lengths of contents lines
abbrev pub kinds_lent : List KindAndLength → List ℕ
kinds_lent [] = []
kinds_lent (l ∷ lines) = l.kind ∷ kinds_lent lines

abbrev pub lengths_lent : List KindAndLength → List ℕ
lengths_lent [] = []
lengths_lent (l ∷ lines) = l.length ∷ lengths_lent lines

-- an image built
abbrev pub AnswersBuild : (kinds lengths bodies before : List ℕ) → (number detail size : ℕ) (after : List ℕ) → Type 0
AnswersBuild kinds lengths bodies before = Fills (FirstGiven (builder_table (length before) kinds lengths bodies)) (IsImageOf kinds lengths bodies) before

-- a load: the text's refusal, or the panel's on the image that the text says
abbrev pub LoadRefused : (level : ℕ) (text before : List ℕ) → (number detail : ℕ) → Type 0
LoadRefused level text before number detail =
    Refuses (room before) text number detail
    ⊎ ((image : List ℕ) × GoodText image text × (length image ≤ room before) × FirstGiven (verdict_table level image) number detail)

abbrev pub Loaded : (level : ℕ) (text before : List ℕ) → (image : List ℕ) → Type 0
Loaded level text before image = GoodText image text × (length image ≤ room before) × NoneGiven (verdict_table level image)

abbrev pub AnswersLoad : (level : ℕ) (text before : List ℕ) → (number detail size : ℕ) (after : List ℕ) → Type 0
AnswersLoad level text before = Fills (LoadRefused level text before) (Loaded level text before) before

-- ---- no lent buffer

-- a kind found: yes and where its body stands, or no and the empty part at the image's start
pub data AnswersFind (image : List ℕ) (kind : ℕ) (there : Bool) (offset size : ℕ) : Type 0 where
  found : there ≡ true → NoneGiven (layout_table image) → (body : List ℕ) → HasBody image kind body → (h : HasKind image kind)
      → offset ≡ offset_of image h.line → size ≡ length body → AnswersFind image kind there offset size
  absent : there ≡ false → Not (NoneGiven (layout_table image) × HasKind image kind) → offset ≡ 0 → size ≡ 0 → AnswersFind image kind there offset size

-- the body itself, as a part of the caller's image, or the empty part at the image's start
pub data FindsPart (image r : Bor (List ℕ)) (kind : ℕ) : Type 0 where
  found_part : NoneGiven (layout_table image.now) → HasBody image.now kind r.now → (h : HasKind image.now kind) → r.ref_ptr.0 ≡ image.ref_ptr.0
      → r.ref_ptr.1 ≡ image.ref_ptr.1 + offset_of image.now h.line → FindsPart image r kind
  absent_part : Not (NoneGiven (layout_table image.now) × HasKind image.now kind) → r.now ≡ [] → r.ref_ptr.0 ≡ image.ref_ptr.0 → r.ref_ptr.1 ≡ image.ref_ptr.1
      → FindsPart image r kind

-- a reading: number 0 exactly where it is shown, and with any other number every value is 0
pub data AnswersReading (level : ℕ) (image : List ℕ) (counts : Counts) (number detail : ℕ) (pressure temperature : ℤ) (unit mark : ℕ) : Type 0 where
  not_shown : 1 ≤ number → FirstGiven (reading_table level image counts) number detail → pressure ≡ pos 0 → temperature ≡ pos 0 → unit ≡ 0 → mark ≡ 0
      → AnswersReading level image counts number detail pressure temperature unit mark
  shown : number ≡ 0 → detail ≡ 0 → NoneGiven (reading_table level image counts) → Shows image counts pressure temperature unit mark
      → AnswersReading level image counts number detail pressure temperature unit mark
