-- What becomes of a good text that is damaged in one place: it is refused, or what is left says what is stated here.
use Rattle.std.specs.Prelude.{◌≡◌, refl, ◌⊎◌, List, ◌∷◌, ◌++◌, ℕ}
use Rattle.std.proofs.Common.{sym, ap, ◌∙◌, inl, inr, ⊎_elim, arith}
use Rattle.std.proofs.Math.Logic.{⊎_map}
use Rattle.refusals.specs.Refusals.{Outcome, result, refused}
use Rattle.hextext.specs.Record.{digit}
use Rattle.hextext.specs.Text.{read_text}
use Rattle.hexformat.specs.Format.{Digit, GoodText}
use Rattle.hexformat.specs.Faults.{WholeLine}
use Rattle.hexformat.specs.Damage.{IsRefused, SameDigit, SpareReturn, WholeLines, LastData}
use Rattle.hexformat.specs.SpelledLaws.{digit_value}
use Rattle.hexformat.proofs.Agrees.{read_exactly}
use Rattle.hexformat.proofs.CharacterDamageLaws.{one_apart, exchanged_apart, one_longer, no_beginning}
use Rattle.hexformat.proofs.LineDamageLaws.{one_lost, one_doubled, two_exchanged}

-- ---- a text is refused, or what holds of the images that it is a good text of holds of what it is read as

module _ (size : ℕ) (text : List ℕ) where
  refused_or : {X : List ℕ → Type 0} → ((image : List ℕ) → GoodText image text → X image)
      → IsRefused (read_text size text) ⊎ ((image : List ℕ) × X image × (read_text size text ≡ result image))
  refused_or {X} f = of (read_text size text) refl
    where
      of : (o : Outcome) → read_text size text ≡ o
          → IsRefused (read_text size text) ⊎ ((image : List ℕ) × X image × (read_text size text ≡ result image))
      of (refused r) e = inl (record { given = r; is = e })
      of (result image) e = inr (image, f image ((read_exactly size text image).0 e).0, e)

  refused_or_same : {X : Type 0} (image : List ℕ) → ((other : List ℕ) → GoodText other text → X × (other ≡ image))
      → IsRefused (read_text size text) ⊎ (X × (read_text size text ≡ result image))
  refused_or_same image f = ⊎_map (λ r. r) (λ w. (w.1.0, w.2 ∙ ap result w.1.1)) (refused_or f)

  refused_if : ((other : List ℕ) → GoodText other text → ⊥) → IsRefused (read_text size text)
  refused_if f = ⊎_elim (λ r. r) (λ w. absurd w.1) (refused_or f)

-- ---- one character

module _ (size : ℕ) (image before rest : List ℕ) where
  -- a good text with any one character replaced by another is refused; or only the case of a digit was changed, and the text is read as the same image
  pub character_replaced : (one other : ℕ) → GoodText image (before ++ one ∷ rest) → (one ≡ other → ⊥)
      → IsRefused (read_text size (before ++ other ∷ rest)) ⊎ (SameDigit one other × (read_text size (before ++ other ∷ rest) ≡ result image))
  character_replaced b c good differ =
      refused_or_same size (before ++ c ∷ rest) image (λ other g. one_apart image other before rest b c good g differ)

  -- a good text with one hexadecimal digit changed to another value is refused
  pub digit_changed : (one other value changed : ℕ) → GoodText image (before ++ one ∷ rest) → Digit one value → Digit other changed
      → (value ≡ changed → ⊥)
      → IsRefused (read_text size (before ++ other ∷ rest))
  digit_changed b c value changed good d d' differ =
      ⊎_elim (λ r. r)
      (λ (w : SameDigit b c × (read_text size (before ++ c ∷ rest) ≡ result image)).
      let s = w.0 in
      absurd (differ (omega (arith, digit_value d, digit_value d', digit_value s.first, digit_value s.second))))
      (character_replaced b c good (λ (q : b ≡ c). differ (sym (digit_value d) ∙ ap digit q ∙ digit_value d')))

  -- a good text with two neighbouring characters exchanged is refused; or they are one digit in both cases, and the text is read as the same image
  pub characters_exchanged : (one other : ℕ) → GoodText image (before ++ one ∷ other ∷ rest) → (one ≡ other → ⊥)
      → IsRefused (read_text size (before ++ other ∷ one ∷ rest)) ⊎ (SameDigit one other × (read_text size (before ++ other ∷ one ∷ rest) ≡ result image))
  characters_exchanged b c good differ =
      refused_or_same size (before ++ c ∷ b ∷ rest) image (λ other g. exchanged_apart image other before rest b c good g differ)

  -- a good text with one character lost is refused; or that was a CR directly before an LF, and the text is read as the same image
  pub character_lost : (character : ℕ) → GoodText image (before ++ character ∷ rest)
      → IsRefused (read_text size (before ++ rest)) ⊎ (SpareReturn character rest × (read_text size (before ++ rest) ≡ result image))
  character_lost c good =
      refused_or_same size (before ++ rest) image
      (λ other g. let s = one_longer image other before rest c good g in (s.0, sym s.1))

  -- a good text with one character more is refused; or that is a CR directly before an LF, and the text is read as the same image
  pub character_added : (character : ℕ) → GoodText image (before ++ rest)
      → IsRefused (read_text size (before ++ character ∷ rest)) ⊎ (SpareReturn character rest × (read_text size (before ++ character ∷ rest) ≡ result image))
  character_added c good = refused_or_same size (before ++ c ∷ rest) image (λ other g. one_longer other image before rest c g good)

-- a good text cut off anywhere before its end is refused
pub cut_off : (size : ℕ) (image front rest : List ℕ) (next : ℕ) → GoodText image (front ++ next ∷ rest) → IsRefused (read_text size front)
cut_off size image front rest c good = refused_if size front (λ other g. no_beginning image other front rest c good g)

-- ---- one line

module _ (size : ℕ) (image before rest : List ℕ) (lines : WholeLines before) where
  -- a good text with one line lost is refused; or that line held the last data, directly before the end record, and the text is read as the image without them
  pub line_lost : (line : List ℕ) → WholeLine line → GoodText image (before ++ line ++ rest)
      → IsRefused (read_text size (before ++ rest)) ⊎ ((kept : List ℕ) × LastData image line rest kept × (read_text size (before ++ rest) ≡ result kept))
  line_lost line whole good = refused_or size (before ++ rest) (λ kept g. one_lost image kept before rest lines line whole good g)

  -- a good text with one line doubled is refused
  pub line_doubled : (line : List ℕ) → WholeLine line → GoodText image (before ++ line ++ rest)
      → IsRefused (read_text size (before ++ line ++ line ++ rest))
  line_doubled line whole good =
      refused_if size (before ++ line ++ line ++ rest) (λ other g. one_doubled image other before rest lines line whole good g)

  -- a good text with two neighbouring lines exchanged is refused
  pub lines_exchanged : (line after : List ℕ) → WholeLine line → WholeLine after → GoodText image (before ++ line ++ after ++ rest)
      → IsRefused (read_text size (before ++ after ++ line ++ rest))
  lines_exchanged line after whole whole' good =
      refused_if size (before ++ after ++ line ++ rest) (λ other g. two_exchanged image other before rest lines line after whole whole' good g)
