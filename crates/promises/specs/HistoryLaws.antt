-- A panel after any events is what its last load makes of it.
use Rattle.std.specs.Prelude.{true, ◌↔◌, ℕ, ◌-◌, ◌≤◌, min, length, take, replicate}
use mathlib.Core.List.{List, [], ◌∷◌, ◌++◌}
use Rattle.std.proofs.Math.Path.{◌≡◌, refl, ap}
use Rattle.std.proofs.Common.{sym, ◌∙◌, arith, length-append, length-take}
use Rattle.std.proofs.lemmas.List.{length-replicate}
use Rattle.std.proofs.Math.Seq.{take-append_seam}
use Rattle.limits.specs.Limits.{largest_image}
use Rattle.laws.specs.Cases.{never}
use Rattle.refusals.specs.Refusals.{Outcome, result, refused}
use Rattle.refusals.specs.VerdictLaws.{checked_result}
use Rattle.hextext.specs.Lines.{lines_of, joined, under_way, Progress, after_line, after_lines, at_end}
use Rattle.promises.specs.LinesLaws.{lines_read, pieces_are_lines}
use Rattle.hextext.specs.Text.{read_text}
use Rattle.hexformat.proofs.Agrees.{read_exactly}
use Rattle.panel.specs.Verdict.{verdict_of}
use Rattle.panel.specs.Load.{judged, load_text}
use Rattle.lamp.specs.Panel.{Standing, level_kept, is_lit, image_held}
use Rattle.lamp.specs.Panel.{ended as ended_load}
use Rattle.lamp.specs.Events.{powered_on, text_loaded, line_taken, text_ended}
use Rattle.promises.specs.ByLinesLaws.{comes_to, standing_of, pieces_counted, begun_is, step, end_is, of_level, of_size, of_lamp}
use Rattle.agreement.specs.VerdictAgrees.{verdict_accepted_exactly}
use Rattle.promises.specs.History.{Event, loads, begins, takes, ends, is_asked, after, after_all, Load, whole, by_pieces, LastLoad, none, running, ended, next, last_after, TextSays, LoadSays}

-- ---- what a load comes to

module _ (level size : ℕ) (text image : List ℕ) where
  loaded_says : load_text level size text ≡ result image → TextSays level size text image
  unfolding load_text
  loaded_says e = by (read_text size text) refl e
    where
      by : (o : Outcome) → read_text size text ≡ o → judged level o ≡ result image → TextSays level size text image
      by (refused r) f g = let z : ◌≡◌ {A = ℕ} 0 1 = cc in absurd (omega arith)
      by (result x) f g =
          let c = checked_result (verdict_of level x) x image g in
          let good = (read_exactly size text image).0 (rw c.1 at f) in
          (good.0, good.1, (verdict_accepted_exactly level image).0 (rw c.1 at c.0))

  says_loaded : TextSays level size text image → load_text level size text ≡ result image
  unfolding load_text
  says_loaded t = rw ((read_exactly size text image).1 (t.0, t.1), (verdict_accepted_exactly level image).1 t.2)

-- the outcome of a load that has ended; where none has begun, that of the kept image
module _ (level size : ℕ) (kept : List ℕ) where
  abbrev pub load_outcome : Load → Outcome
  load_outcome (whole text) = load_text level size text
  load_outcome (by_pieces pieces) = judged level (at_end (comes_to size pieces))

  pieces_outcome : (pieces : List (List ℕ)) → lines_of (joined pieces) ≡ pieces → load_outcome (by_pieces pieces) ≡ load_text level size (joined pieces)
  unfolding load_text
  pieces_outcome pieces e = ap (judged level) (ap (λ (l : List (List ℕ)). at_end (comes_to size l)) (sym e) ∙ lines_read size (joined pieces))

  pieces_result : (pieces : List (List ℕ)) (image : List ℕ) → load_outcome (by_pieces pieces) ≡ result image → lines_of (joined pieces) ≡ pieces
  pieces_result pieces image e = by (at_end (comes_to size pieces)) refl e
    where
      by : (o : Outcome) → at_end (comes_to size pieces) ≡ o → judged level o ≡ result image → lines_of (joined pieces) ≡ pieces
      by (refused r) f g = let z : ◌≡◌ {A = ℕ} 0 1 = cc in absurd (omega arith)
      by (result x) f g = pieces_are_lines size pieces x f

  -- a load that has ended says an image exactly where it comes to it
  pub ended_says : (load : Load) (image : List ℕ) → (load_outcome load ≡ result image) ↔ LoadSays level size kept (ended load) image
  ended_says (whole text) image = (loaded_says level size text image, says_loaded level size text image)
  ended_says (by_pieces pieces) image = (
    λ e.
        let lines = pieces_result pieces image e in
        (lines, loaded_says level size (joined pieces) image (sym (pieces_outcome pieces lines) ∙ e)),
    λ s. pieces_outcome pieces s.0 ∙ says_loaded level size (joined pieces) image s.1,
  )

  none_says : (image : List ℕ) → (judged level (result kept) ≡ result image) ↔ LoadSays level size kept none image
  none_says image = (
    λ e. let c = checked_result (verdict_of level kept) kept image e in (sym c.1, (verdict_accepted_exactly level kept).0 c.0),
    λ s. rw ((verdict_accepted_exactly level kept).1 s.1, s.0),
  )

-- ---- a panel after a load that has ended

module _ (level size : ℕ) (o : Outcome) where
  ended_lit : (is_lit (ended_load level size o).panel ≡ true) ↔ ((image : List ℕ) × (o ≡ result image))
  ended_lit = by o
    where
      by : (p : Outcome) → (is_lit (ended_load level size p).panel ≡ true) ↔ ((image : List ℕ) × (p ≡ result image))
      by (result image) = (λ e. (image, refl), λ s. refl)
      by (refused r) = (λ e. let z : ◌≡◌ {A = ℕ} 0 1 = cc in absurd (omega arith), λ s. let z : ◌≡◌ {A = ℕ} 0 1 = cc s.1 in absurd (omega arith))

ended_holds : (level size : ℕ) (image : List ℕ) → image_held (ended_load level size (result image)) ≡ image
ended_holds level size image = take-append_seam image (replicate (size - length image) 0)

-- ---- a panel after any events

-- neither a piece nor an end changes it
abbrev Unmoved : (piece : List ℕ) → Standing → Type 0
Unmoved piece s = (line_taken piece s ≡ s) × (text_ended s ≡ s)

module _ (level n : ℕ) (buffer : List ℕ) where
  abbrev pub start_of : Standing
  start_of = powered_on level n buffer

  abbrev pub level_of : ℕ
  level_of = level_kept level

  abbrev pub size_of : ℕ
  size_of = length buffer

  abbrev pub kept_image : List ℕ
  kept_image = take n buffer

  -- by its last load
  abbrev standing_by : LastLoad → Standing
  standing_by none = ended_load level_of size_of (judged level_of (result kept_image))
  standing_by (running pieces) = standing_of level_of size_of (comes_to size_of pieces)
  standing_by (ended load) = ended_load level_of size_of (load_outcome level_of size_of kept_image load)

  start_is : start_of ≡ standing_by none
  unfolding powered_on
  start_is = refl

  -- a panel whose load has ended: level and size stay, and a piece or an end changes nothing
  module _ (o : Outcome) where
    ended_level : (ended_load level_of size_of o).panel.level ≡ level_of
    ended_level = by o
      where
        by : (p : Outcome) → (ended_load level_of size_of p).panel.level ≡ level_of
        by (result x) = refl
        by (refused r) = refl

    ended_unmoved : (piece : List ℕ) → Unmoved piece (ended_load level_of size_of o)
    unfolding line_taken text_ended
    ended_unmoved piece = by o
      where
        by : (p : Outcome) → Unmoved piece (ended_load level_of size_of p)
        by (result x) = (refl, refl)
        by (refused r) = (refl, refl)

    ended_size : ((x : List ℕ) → o ≡ result x → length x ≤ size_of) → length (ended_load level_of size_of o).buffer ≡ size_of
    ended_size h = by o h
      where
        by : (p : Outcome) → ((x : List ℕ) → p ≡ result x → length x ≤ size_of) → length (ended_load level_of size_of p).buffer ≡ size_of
        by (result x) g =
            let fits = g x refl in
            omega (arith, length-append x (replicate (size_of - length x) 0), length-replicate {A = ℕ} (size_of - length x) 0)
        by (refused r) g = length-replicate {A = ℕ} size_of 0

  load_fits : (load : Load) (x : List ℕ) → load_outcome level_of size_of kept_image load ≡ result x → length x ≤ size_of
  load_fits (whole text) x e = let s = (ended_says level_of size_of kept_image (whole text) x).0 e in omega (arith, s.1)
  load_fits (by_pieces pieces) x e = let s = (ended_says level_of size_of kept_image (by_pieces pieces) x).0 e in omega (arith, s.1.1)

  kept_fits : (x : List ℕ) → judged level_of (result kept_image) ≡ result x → length x ≤ size_of
  kept_fits x e =
      let s = (none_says level_of size_of kept_image x).0 e in
      let same : length x ≡ length kept_image = ap length s.0 in
      omega (arith, length-take n buffer)

  -- level and size stay
  by_level : (last : LastLoad) → (standing_by last).panel.level ≡ level_of
  by_level none = ended_level (judged level_of (result kept_image))
  by_level (running pieces) = of_level level_of size_of (comes_to size_of pieces)
  by_level (ended load) = ended_level (load_outcome level_of size_of kept_image load)

  by_size : (last : LastLoad) → length (standing_by last).buffer ≡ size_of
  by_size none = ended_size (judged level_of (result kept_image)) kept_fits
  by_size (running pieces) = of_size level_of size_of (comes_to size_of pieces) (pieces_counted size_of pieces)
  by_size (ended load) = ended_size (load_outcome level_of size_of kept_image load) (load_fits load)

  -- one more piece
  one_more : (pieces : List (List ℕ)) (piece : List ℕ) (progress : Progress)
      → after_lines (min largest_image size_of) (pieces ++ piece ∷ []) progress
      ≡ after_line (min largest_image size_of) piece (after_lines (min largest_image size_of) pieces progress)
  unfolding after_lines
  one_more [] piece progress = refl
  one_more (line ∷ pieces) piece progress = one_more pieces piece (after_line (min largest_image size_of) line progress)

  -- an event makes of the panel what the last load has then come to
  stays_by : (event : Event) (last : LastLoad) → after event (standing_by last) ≡ standing_by (next event last)
  unfolding text_loaded after_lines
  stays_by (loads text) last = rw (by_level last, by_size last)
  stays_by begins last = begun_is (standing_by last) ∙ rw (by_level last, by_size last)
  stays_by (takes piece) none = (ended_unmoved (judged level_of (result kept_image)) piece).0
  stays_by (takes piece) (running pieces) =
      (step level_of size_of piece (comes_to size_of pieces) (pieces_counted size_of pieces)).same
      ∙ ap (standing_of level_of size_of) (sym (one_more pieces piece (under_way 0 [])))
  stays_by (takes piece) (ended load) = (ended_unmoved (load_outcome level_of size_of kept_image load) piece).0
  stays_by ends none = (ended_unmoved (judged level_of (result kept_image)) []).1
  stays_by ends (running pieces) = end_is level_of size_of (comes_to size_of pieces) (pieces_counted size_of pieces)
  stays_by ends (ended load) = (ended_unmoved (load_outcome level_of size_of kept_image load) []).1
  stays_by is_asked last = refl

  stands_by : (events : List Event) (last : LastLoad) → after_all events (standing_by last) ≡ standing_by (last_after events last)
  unfolding after_all last_after
  stands_by [] last = refl
  stands_by (event ∷ events) last = ap (after_all events) (stays_by event last) ∙ stands_by events (next event last)

  -- any events from power-on
  pub stands : (events : List Event) → after_all events start_of ≡ standing_by (last_after events none)
  stands events = ap (after_all events) start_is ∙ stands_by events none

  -- ---- the lamp, and the image held

  by_lamp : (last : LastLoad) → (is_lit (standing_by last).panel ≡ true) ↔ ((image : List ℕ) × LoadSays level_of size_of kept_image last image)
  by_lamp none =
      let lit = ended_lit level_of size_of (judged level_of (result kept_image)) in (
        λ e. let s = lit.0 e in (s.0, (none_says level_of size_of kept_image s.0).0 s.1),
        λ s. lit.1 (s.0, (none_says level_of size_of kept_image s.0).1 s.1),
      )
  by_lamp (running pieces) = (λ e. absurd (never (sym (of_lamp level_of size_of (comes_to size_of pieces)) ∙ e)), λ s. absurd s.1)
  by_lamp (ended load) =
      let lit = ended_lit level_of size_of (load_outcome level_of size_of kept_image load) in (
        λ e. let s = lit.0 e in (s.0, (ended_says level_of size_of kept_image load s.0).0 s.1),
        λ s. lit.1 (s.0, (ended_says level_of size_of kept_image load s.0).1 s.1),
      )

  holds_result : (o : Outcome) (image : List ℕ) → o ≡ result image → image_held (ended_load level_of size_of o) ≡ image
  holds_result o image e = ap (λ (p : Outcome). image_held (ended_load level_of size_of p)) e ∙ ended_holds level_of size_of image

  by_image : (last : LastLoad) (image : List ℕ) → LoadSays level_of size_of kept_image last image → image_held (standing_by last) ≡ image
  by_image none image s = holds_result (judged level_of (result kept_image)) image ((none_says level_of size_of kept_image image).1 s)
  by_image (running pieces) image s = absurd s
  by_image (ended load) image s = holds_result (load_outcome level_of size_of kept_image load) image ((ended_says level_of size_of kept_image load image).1 s)

  module _ (events : List Event) where
    pub lamp_by_last : (is_lit (after_all events start_of).panel ≡ true)
        ↔ ((image : List ℕ) × LoadSays level_of size_of kept_image (last_after events none) image)
    lamp_by_last = rw (stands events) (by_lamp (last_after events none))

    pub image_by_last : (image : List ℕ) → LoadSays level_of size_of kept_image (last_after events none) image → image_held (after_all events start_of) ≡ image
    image_by_last image s = rw (stands events) (by_image (last_after events none) image s)

    pub level_by_last : (after_all events start_of).panel.level ≡ level_of
    level_by_last = rw (stands events) (by_level (last_after events none))
