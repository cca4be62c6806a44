-- Power-on and loads: a law for each way out.
use Rattle.std.specs.Prelude.{◌≡◌, ℕ, zero, suc, ◌+◌, ◌-◌, ◌≤◌, min, true, false, List, [], ◌∷◌, ◌++◌, length, take, replicate, ◌==◌, ◌≢◌, nat_eq, slice_index, slice_set, refl, Err, Ok}
use Rattle.std.proofs.Common.{sym, ap, ◌∙◌, arith, length-take, take_all}
use Rattle.std.proofs.Math.Nat.{sub-zero}
use borrow.Author.Tests.{eq-eqb, ne_eqb, eqb-true}
use Rattle.std.proofs.lemmas.List.{length-replicate}
use Rattle.std.proofs.Math.Seq.{paste}
use Rattle.limits.specs.Limits.{largest_image}
use Rattle.laws.specs.Cases.{split, decide}
use Rattle.numbers.specs.Slices.{cleared_from}
use Rattle.refusals.specs.Answers.{Verdict}
use Rattle.refusals.specs.Answers.{Filled}
use Rattle.refusals.specs.Refusals.{Outcome, result, refused, checked, answer_to, Fills, Settled}
use Rattle.refusals.specs.RefusalsLaws.{result_of}
use Rattle.refusals.specs.VerdictLaws.{first_passed, next_passed, checked_result}
use Rattle.hextext.specs.Answers.{LineRecord}
use Rattle.hextext.specs.declared.Record.TheVariants.{Data, End}
use Rattle.hextext.specs.Lines.{line_inside, line_record, line_data}
use Rattle.hexline.specs.TypedLaws.{good_data_record, data_length}
use Rattle.hextext.specs.Text.{read_text}
use Rattle.hexlines.specs.Taken.{TakesLine}
use Rattle.image.specs.Layout.{layout_verdict}
use Rattle.image.specs.ContentsLaws.{contents_passed}
use Rattle.panel.specs.Verdict.{level_verdict, verdict_of}
use Rattle.panel.specs.Load.{judged, answered, Keeps, load_text}
use Rattle.lamp.specs.declared.Panel.{Panel}
use Rattle.lamp.specs.Panel.{at_line, at_end_record, at_image, size_of, under_way, after_load, level_kept, Standing, standing, ended}
use Rattle.lamp.specs.Events.{powered_on, text_loaded, text_begun, next_line, stopped_panel, stopped_by, first_kept, first_withheld, next_taken, line_taken, image_judged, whole_judged, text_ended}

cleared_zeros : (buffer : List ℕ) → cleared_from 0 buffer ≡ replicate (length buffer) 0
cleared_zeros buffer = rw (sub-zero (length buffer))

cleared_twice : (buffer : List ℕ) → cleared_from 0 (cleared_from 0 buffer) ≡ replicate (length buffer) 0
cleared_twice buffer = rw (cleared_zeros buffer, cleared_zeros (replicate (length buffer) 0), length-replicate {A = ℕ} (length buffer) 0)

-- ---- an answer as a panel

-- its image, if there is one, is no larger than document 01 allows
pub record SmallImage (answer : Filled) : Type 0 where
  pub small : (size : ℕ) → answer ≡ Ok size → size ≤ largest_image

abbrev pub answer_panel : (level : ℕ) → Filled → Panel
answer_panel level (Ok size) = record { lines_or_detail = 0; size_or_number = size; level = level; stage = at_image; first = 0 }
answer_panel level (Err r) = record { lines_or_detail = r.detail; size_or_number = r.number; level = level; stage = 0; first = 0 }

answer_after : (level : ℕ) (o : Outcome) → answer_panel level (answer_to o) ≡ after_load level o
answer_after level (result image) = refl
answer_after level (refused r) = refl

-- what a panel accepts is no larger
accepted_small : (level : ℕ) (image : List ℕ) → verdict_of level image ≡ Ok tt → length image ≤ largest_image
unfolding verdict_of layout_verdict
accepted_small level image e =
    let laid = first_passed (layout_verdict image) _ (next_passed (level_verdict level) _ e) in
    (contents_passed (length image) image (first_passed _ _ laid)).started.most

-- ---- an image in the buffer, judged

take_min : (size : ℕ) (l : List ℕ) → take (min size (length l)) l ≡ take size l
take_min size l =
    split size (length l) (λ h. let e : min size (length l) ≡ size = omega arith in rw e)
    (λ h. let e : min size (length l) ≡ length l = omega arith in rw e (take_all (length l) l (omega arith) ∙ sym (take_all size l (omega arith))))

module _ (level size : ℕ) (before after : List ℕ) (answer : Filled) (n : ℕ) (m : n ≡ min size (length before)) (k : Keeps level n before answer after) where
  abbrev held : List ℕ
  held = take size before

  judged_held : take n before ≡ take size before
  judged_held = ap (λ (j : ℕ). take j before) m ∙ take_min size before

  held_size : length held ≡ n
  held_size = omega (arith, length-take size before)

  answer_held : answer ≡ answered (verdict_of level held) n
  answer_held = rw judged_held at k.answers

  pub keeps_small : SmallImage answer
  keeps_small = record { small = λ s e. by (verdict_of level held) refl s (sym answer_held ∙ e) }
    where
      by : (v : Verdict) → verdict_of level held ≡ v → (s : ℕ) → answered (verdict_of level held) n ≡ Ok s → s ≤ largest_image
      by (Ok tt) v s e =
          let same : n ≡ s = cc (rw v at e) in
          omega (arith, accepted_small level held v, held_size)
      by (Err r) v s e = let z : ◌≡◌ {A = ℕ} 0 1 = cc (rw v at e) in absurd (omega arith)

  -- the rest of the buffer stays as it is
  pub kept_panel : (to : ℕ) (p : Panel) → p ≡ answer_panel to answer → standing p after ≡ image_judged (verdict_of level held) to held before
  kept_panel to p e = by (verdict_of level held) refl
    where
      by : (v : Verdict) → verdict_of level held ≡ v → standing p after ≡ image_judged (verdict_of level held) to held before
      by (Ok tt) v = rw (e, answer_held, v, k.holds, judged_held, v, held_size)
      by (Err r) v = rw (e, answer_held, v, k.holds, judged_held, v) (ap (standing _) (cleared_zeros before))

  -- or is cleared
  module _ (settled : Filled) (after' : List ℕ) (s : Settled answer after settled after') where
    pub settled_small : SmallImage settled
    settled_small = rw s.same keeps_small

    pub powered : (from : ℕ) (p : Panel) → level ≡ level_kept from → p ≡ answer_panel level settled → standing p after' ≡ powered_on from size before
    unfolding powered_on
    powered from p t e = rw (← t) (by (verdict_of level held) refl)
      where
        by : (v : Verdict) → verdict_of level held ≡ v → standing p after' ≡ ended level (length before) (checked (verdict_of level held) held)
        by (Ok tt) v =
            rw (e, s.same, s.cleared, answer_held, v, k.holds, judged_held, v, held_size)
            (ap (λ (l : List ℕ). standing (answer_panel level (Ok n)) (l ++ replicate (length before - n) 0)) judged_held)
        by (Err r) v =
            rw (e, s.same, s.cleared, answer_held, v, k.holds, judged_held, v)
            (ap (standing (answer_panel level (Err r))) (cleared_twice before))

-- ---- a whole text

module _ (text before after : List ℕ) (answer : Filled) (panel : Panel) (f : Fills (load_text panel.level (length before) text) before answer after) where
  pub load_small : SmallImage answer
  unfolding load_text
  load_small = record { small = λ s e. by (read_text (length before) text) s (result_of _ before after answer f s e) (sym e ∙ f.answers) }
    where
      by : (o : Outcome) (s : ℕ) → judged panel.level o ≡ result (take s after) → Ok s ≡ answer_to (judged panel.level o) → s ≤ largest_image
      by (result image) s r e =
          let c = checked_result (verdict_of panel.level image) image (take s after) r in
          let size : s ≡ length image = cc (rw c.0 at e) in
          omega (arith, accepted_small panel.level image c.0, size)
      by (refused q) s r e = let z : ◌≡◌ {A = ℕ} 0 1 = cc in absurd (omega arith)

  pub text_loaded_lem : (p : Panel) → p ≡ answer_panel panel.level answer → standing p after ≡ text_loaded text (standing panel before)
  unfolding text_loaded
  text_loaded_lem p e =
      rw (e, f.answers, f.holds, answer_after panel.level (load_text panel.level (length before) text))

-- ---- a text by lines

module _ (panel : Panel) (before : List ℕ) where
  pub begun : (after : List ℕ) → after ≡ cleared_from 0 before → standing (under_way panel.level 0 0 0) after ≡ text_begun (standing panel before)
  unfolding text_begun
  begun after e = rw (e, cleared_zeros before)

-- data taken

-- the next `count` bytes have room in the buffer
pub record HasRoom (panel : Panel) (count : ℕ) (buffer : List ℕ) : Type 0 where
  pub some : 1 ≤ count
  pub fits : size_of panel + count ≤ largest_image
  pub inside : size_of panel + count ≤ length buffer

-- with the data in the buffer already
abbrev pub grown : (panel : Panel) (count : ℕ) (buffer : List ℕ) → Standing
grown panel count buffer =
    let at = size_of panel in
    standing (under_way panel.level (next_line panel) (at + count) (first_kept at buffer panel.first)) (first_withheld at buffer)

-- by the record of a line

-- a data record has data, and they fit
pub record DataFits (room at : ℕ) (line : List ℕ) (n : ℕ) : Type 0 where
  pub some : 1 ≤ n
  pub fits : at + n ≤ room
  pub all : length (line_data line) ≡ n

pub data_fits : (room at : ℕ) (line : List ℕ) (n : ℕ) → line_record room at line ≡ Ok (Data n) → DataFits room at line n
unfolding line_record
data_fits room at line n e =
    decide (slice_index line (length line - 1) == 10)
    (λ (q : nat_eq (slice_index line (length line - 1)) 10 ≡ true).
    let g = good_data_record room at (line_inside line) n (rw q at e) in
    record { some = g.some; fits = g.fits; all = data_length (line_inside line) n g })
    (λ (q : nat_eq (slice_index line (length line - 1)) 10 ≡ false). let z : ◌≡◌ {A = ℕ} 0 1 = cc (rw q at e) in absurd (omega arith))

-- the first of the data, where they stand
first_pasted : (buffer bytes : List ℕ) (n : ℕ) → 1 ≤ n → length bytes ≡ n → slice_index (paste buffer 0 bytes n) 0 ≡ slice_index bytes 0
first_pasted buffer [] n h e = absurd (omega arith)
first_pasted buffer (b ∷ bytes) zero h e = absurd (omega arith)
first_pasted buffer (b ∷ bytes) (suc n) h e = refl

module _ (panel : Panel) (line before after : List ℕ) (r : LineRecord) (t : TakesLine line (size_of panel) before r after) where
  abbrev room : ℕ
  room = min largest_image (length before)

  taken_is : (judged : LineRecord) → r ≡ judged → line_record room (size_of panel) line ≡ judged
  taken_is judged e = sym t.answers ∙ e

  pub taken_room : (n : ℕ) → r ≡ Ok (Data n) → length after ≡ length before → HasRoom panel n after
  taken_room n e same =
      let f = data_fits room (size_of panel) line n (taken_is (Ok (Data n)) e) in
      record { some = f.some; fits = omega (arith, f.fits); inside = omega (arith, f.fits) }

  pub taken_data : (n : ℕ) (s : Standing) → r ≡ Ok (Data n) → s ≡ grown panel n after → s ≡ next_taken line (standing panel before)
  unfolding next_taken
  taken_data n s e g =
      let d = taken_is (Ok (Data n)) e in
      let f = data_fits room (size_of panel) line n d in
      let held : after ≡ paste before (size_of panel) (line_data line) n = rw d at t.holds in
      g ∙ rw (d, held) (by (size_of panel) f)
    where
      by : (at : ℕ) → DataFits room at line n
          → standing (under_way panel.level (next_line panel) (at + n) (first_kept at (paste before at (line_data line) n) panel.first))
          (first_withheld at (paste before at (line_data line) n))
          ≡ standing (under_way panel.level (next_line panel) (at + n) (first_kept at (line_data line) panel.first))
          (first_withheld at (paste before at (line_data line) n))
      by at f =
          decide (at == 0)
          (λ (q : nat_eq at 0 ≡ true). let z = eqb-true at 0 q in rw (z, first_pasted before (line_data line) n f.some f.all))
          (λ (q : nat_eq at 0 ≡ false). rw q)

  pub taken_end : (lines : ℕ) → r ≡ Ok End → lines ≡ next_line panel
      → standing (record { lines_or_detail = lines; size_or_number = size_of panel; level = panel.level; stage = at_end_record; first = panel.first }) after
      ≡ next_taken line (standing panel before)
  unfolding next_taken
  taken_end lines e n = let d = taken_is (Ok End) e in let held : after ≡ before = rw d at t.holds in rw (n, d, held)

  pub taken_fault : (number : ℕ) (p : Panel) → r ≡ Err number → p ≡ stopped_panel number panel → standing p after ≡ next_taken line (standing panel before)
  unfolding next_taken
  taken_fault number p e n =
      let d = taken_is (Err number) e in
      let held : after ≡ replicate (length before) 0 = rw d at t.holds in
      rw (n, d, held)

-- by the stage

module _ (panel : Panel) (line before : List ℕ) where
  module _ (s : Standing) where
    pub line_under_way : panel.stage ≡ at_line → s ≡ next_taken line (standing panel before) → s ≡ line_taken line (standing panel before)
    unfolding line_taken
    line_under_way e h = h ∙ rw (eq-eqb panel.stage at_line e)

    pub line_too_many : (panel.stage ≢ at_line) → panel.stage ≡ at_end_record → s ≡ stopped_by 1 (standing panel before)
        → s ≡ line_taken line (standing panel before)
    unfolding line_taken
    line_too_many n e h = h ∙ rw (ne_eqb panel.stage at_line n, eq-eqb panel.stage at_end_record e)

    pub end_too_soon : panel.stage ≡ at_line → s ≡ stopped_by 1 (standing panel before) → s ≡ text_ended (standing panel before)
    unfolding text_ended
    end_too_soon e h = h ∙ rw (eq-eqb panel.stage at_line e)

    pub end_whole : (panel.stage ≢ at_line) → panel.stage ≡ at_end_record → s ≡ whole_judged (standing panel before) → s ≡ text_ended (standing panel before)
    unfolding text_ended
    end_whole n e h = h ∙ rw (ne_eqb panel.stage at_line n, eq-eqb panel.stage at_end_record e)

  module _ (n : panel.stage ≡ at_line → ⊥) (m : panel.stage ≡ at_end_record → ⊥) where
    pub line_none : standing panel before ≡ line_taken line (standing panel before)
    unfolding line_taken
    line_none = rw (ne_eqb panel.stage at_line n, ne_eqb panel.stage at_end_record m)

    pub end_none : standing panel before ≡ text_ended (standing panel before)
    unfolding text_ended
    end_none = rw (ne_eqb panel.stage at_line n, ne_eqb panel.stage at_end_record m)

-- the image of a whole text

module _ (panel : Panel) (before put after : List ℕ) (answer : Filled) (n : ℕ) (e : put ≡ slice_set before 0 panel.first) (m : n ≡ min (size_of panel) (length put))
    (k : Keeps panel.level n put answer after) where
  pub whole_small : SmallImage answer
  whole_small = keeps_small panel.level (size_of panel) put after answer n m k

  pub whole_judged_lem : (p : Panel) → p ≡ answer_panel panel.level answer → standing p after ≡ whole_judged (standing panel before)
  unfolding whole_judged
  whole_judged_lem p a = rw (← e) (kept_panel panel.level (size_of panel) put after answer n m k panel.level p a)
