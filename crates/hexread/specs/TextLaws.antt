-- The lines of a text in order: what the loop over them keeps, each turn, and the ways out.
use Rattle.std.specs.Prelude.{◌≡◌, refl, List, [], ℕ, ◌+◌, ◌-◌, ◌*◌, ◌^◌, ◌≤◌, ◌<◌, min, length, take, drop, Err, Ok, Result}
use Rattle.std.proofs.Common.{◌∙◌, arith, le_of_eq, length-drop, drop-drop, length-take-le, take_all, Fits}
use Rattle.std.proofs.Math.ListN.{drop_of_length-le}
use Rattle.std.specs.Int.{w64}
use Rattle.limits.specs.Limits.{largest_image}
use Rattle.refusals.specs.Refusals.{Outcome, result, refused, refusal}
use Rattle.refusals.specs.RefusalsLaws.{Begins}
use Rattle.hextext.specs.Text.{reading, read_text}
use Rattle.hexread.specs.declared.line.Step.{Step}
use Rattle.hexread.specs.declared.line.Step.TheVariants.{More, Last}
use Rattle.hexread.specs.LineLaws.{ReadingGoesOn, ReadingEnds, FirstLineRead}

-- the text from i on, as `&text[i..]` is said
abbrev rest_of : List ℕ → ℕ → List ℕ
rest_of t i = take (length t - i) (drop i t)

-- reading goes on at `start` with `size` bytes in the image d, which was d₀
pub record Reading (t d₀ : List ℕ) (room : ℕ) (d : List ℕ) (start size line : ℕ) : Type 0 where
  pub within : start ≤ length t
  pub lines : line ≤ start + 1
  pub sized : size ≤ room
  pub roomy : room ≡ min largest_image (length d₀)
  pub kept : length d ≡ length d₀
  pub reads : read_text (length d₀) t ≡ reading room line (take size d) [] (drop start t)

pub reading_first : (t d : List ℕ) (room : ℕ) → room ≡ min largest_image (length d) → Reading t d room d 0 0 1
unfolding read_text
reading_first t d room e = record { within = omega arith; lines = omega arith; sized = omega arith; roomy = e; kept = refl; reads = rw e }

begins_refused : (o : Outcome) (n k : ℕ) (d : List ℕ) → o ≡ refused (refusal n k) → Begins o (Err (refusal n k)) d
begins_refused o n k d e = rw e (record { answers = refl; begins = refl })

begins_result : (o : Outcome) (size : ℕ) (d : List ℕ) → size ≤ length d → o ≡ result (take size d) → Begins o (Ok size) d
begins_result o size d h e = rw e (record { answers = rw (length-take-le size d h); begins = refl })

module _ (t d₀ : List ℕ) (room : ℕ) (d : List ℕ) (start size line : ℕ) (h : Reading t d₀ room d start size line) where
  -- the text stops
  pub reading_stops : length t ≤ start → Begins (read_text (length d₀) t) (Err (refusal 1 line)) d
  unfolding reading
  reading_stops k = begins_refused (read_text (length d₀) t) 1 line d (rw (h.reads, drop_of_length-le t k))

  module _ (r : Result Step ℕ) (d' : List ℕ) (same_length : length d' ≡ length d) (s : FirstLineRead r (rest_of t start) d d' room size) where
    step : FirstLineRead r (drop start t) d d' room size
    step = rw (take_all (length t - start) (drop start t) (le_of_eq (length-drop start t))) at s

    left : length (drop start t) ≡ length t - start
    left = length-drop start t

    on_more : (n next : ℕ) → r ≡ Ok (More n next) → ReadingGoesOn (drop start t) d d' room size n next
    on_more n next e = rw e at step

    on_last : (next : ℕ) → r ≡ Ok (Last next) → ReadingEnds (drop start t) d d' room size next
    on_last next e = rw e at step

    on_stop : (m : ℕ) → r ≡ Err m → FirstLineRead (Err m) (drop start t) d d' room size
    on_stop m e = rw e at step

    pub reading_refused : (m : ℕ) → r ≡ Err m → Begins (read_text (length d₀) t) (Err (refusal m line)) d'
    reading_refused m e = begins_refused (read_text (length d₀) t) m line d' (h.reads ∙ on_stop m e line)

    pub reading_done : (next : ℕ) → r ≡ Ok (Last next) → start + next ≡ length t → Begins (read_text (length d₀) t) (Ok size) d'
    reading_done next e m =
        begins_result (read_text (length d₀) t) size d' (omega (arith, h.sized, h.roomy, h.kept))
        (h.reads ∙ (on_last next e).whole line (omega (arith, left, h.within)))

    pub reading_overrun : (next : ℕ) → r ≡ Ok (Last next) → (start + next ≡ length t → ⊥) → Begins (read_text (length d₀) t) (Err (refusal 1 (line + 1))) d'
    reading_overrun next e m =
        begins_refused (read_text (length d₀) t) 1 (line + 1) d'
        (h.reads ∙ (on_last next e).more line (omega (arith, left, h.within, (on_last next e).inside)))

    pub next_fits : (next : ℕ) → r ≡ Ok (Last next) → length t * 1 < 2 ^ 63 → Fits w64 (start + next)
    next_fits next e f = record { fits = omega (arith, left, h.within, (on_last next e).inside, f) }

    pub start_fits : (n next : ℕ) → r ≡ Ok (More n next) → length t * 1 < 2 ^ 63 → Fits w64 (start + next)
    start_fits n next e f = record { fits = omega (arith, left, h.within, (on_more n next e).inside, f) }

    pub size_fits : (n next : ℕ) → r ≡ Ok (More n next) → Fits w64 (size + n)
    size_fits n next e = record { fits = omega (arith, (on_more n next e).fits, h.roomy) }

    pub start_less : (n next : ℕ) → r ≡ Ok (More n next) → start < length t → length t - (start + next) < length t - start
    start_less n next e k = omega (arith, left, (on_more n next e).inside, (on_more n next e).further)

    pub reading_more : (n next : ℕ) → r ≡ Ok (More n next) → Reading t d₀ room d' (start + next) (size + n) (line + 1)
    reading_more n next e =
        let o = on_more n next e in
        record {
          within = omega (arith, left, h.within, o.inside);
          lines = omega (arith, h.lines, o.further);
          sized = o.fits;
          roomy = h.roomy;
          kept = same_length ∙ h.kept;
          reads = rw (h.reads, o.reads line, drop-drop next start t);
        }
