-- A data record that is due, with its line end, and the line taken by this or from its beginning.
use Rattle.std.specs.Prelude.{◌≡◌, refl, Bool, true, false, List, ℕ, ◌+◌, ◌-◌, ◌*◌, ◌≤◌, ◌<◌, min, take, drop, get_or, Err, Ok, Option, Some, None}
use Rattle.std.proofs.Common.{sym, ◌∙◌, take-take, get_or-drop, Fits}
use native.Mathlib.Omega.{arith}
use borrow.Author.Tests.{eq-eqb, eqb-true}
use Rattle.std.proofs.Math.Dec.{eqb}
use Rattle.std.proofs.Math.ListN.{length, length-drop}
use Rattle.std.proofs.Math.Seq.{length-take-le, get_or-take}
use Rattle.std.specs.Int.{w64}
use Rattle.limits.specs.Limits.{largest_image}
use Rattle.laws.specs.Cases.{decide}
use Rattle.laws.specs.Sums.{total}
use Rattle.hextext.specs.Answers.{LineRecord}
use Rattle.hextext.specs.declared.Record.TheVariants.{Data, End}
use Rattle.hextext.specs.Record.{digit, all_digits, bytes_of, record_bytes, formed, summed, line_of, typed, placed, judge}
use Rattle.hextext.proofs.RecordLaws.{all_digits_at, formed_digits, formed_length, judge_unformed, digit_low}
use Rattle.hextext.specs.Text.{bare}
use Rattle.hextext.specs.Lines.{line_inside, line_record, line_data}
use Rattle.hexline.specs.Taken.{after_taken}
use Rattle.hexline.specs.TypedLaws.{good_data_record}
use Rattle.hexlines.specs.Taken.{TakesLine}
use Rattle.hexlines.specs.LettersLaws.{When, end_record}
use Rattle.hexlines.specs.CountLaws.{LineCounted, Counted, by_end, counted_long, counted_inside}
use Rattle.hexlines.specs.DueLaws.{RecordDue}

-- ---- with its line end

-- the same of a line
pub record LineAlike (line : List ℕ) (at : ℕ) (d d' : List ℕ) : Type 0 where
  pub size : length d' ≡ length d
  pub same : after_taken (line_record (min largest_image (length d)) at line) at (line_data line) d'
      ≡ after_taken (line_record (min largest_image (length d)) at line) at (line_data line) d

abbrev pub LineDue : (line : List ℕ) (at : ℕ) (d : List ℕ) → Option ℕ → (d' : List ℕ) → Type 0
LineDue line at d (Some n) d' = TakesLine line at d (Ok (Data n)) d'
LineDue line at d None d' = LineAlike line at d d'

pub line_untouched : (line : List ℕ) (at : ℕ) (d : List ℕ) → LineAlike line at d d
line_untouched line at d = record { size = refl; same = refl }

module _ (line : List ℕ) (n : ℕ) (c : LineCounted line n) (some : 12 < length line) where
  abbrev end : ℕ
  end = 11 + n * 2

  last_is_lf : get_or line (length line - 1) 0 ≡ 10
  last_is_lf =
      by_end line end c.ends (omega arith) _
      (λ size lf. let before : length line - 1 ≡ end = omega arith in rw before lf)
      (λ size cr lf. let before : length line - 1 ≡ end + 1 = omega arith in rw before lf)

  -- the characters that the count says, or one less where the last of them is a CR
  by_inside : (P : Type 0) → (line_inside line ≡ take end line → P) → (length (line_inside line) ≡ end - 1 → get_or (take end line) (end - 1) 0 ≡ 13 → P) → P
  unfolding line_inside bare
  by_inside P whole shorter =
      by_end line end c.ends (omega arith) P
      (λ size lf.
      let before : length line - 1 ≡ end = omega arith in
      let long = length-take-le end line (omega arith) in
      let last : length (take end line) - 1 ≡ end - 1 = omega (arith, long) in
      decide (eqb (get_or (take end line) (end - 1) 0) 13)
      (λ (q : eqb (get_or (take end line) (end - 1) 0) 13 ≡ true).
      shorter (rw (before, last, q) (length-take-le (end - 1) (take end line) (omega (arith, long)))) (eqb-true (get_or (take end line) (end - 1) 0) 13 q))
      (λ (q : eqb (get_or (take end line) (end - 1) 0) 13 ≡ false). whole (rw (before, last, q))))
      (λ size cr lf.
      let before : length line - 1 ≡ end + 1 = omega arith in
      let last : length (take (end + 1) line) - 1 ≡ end = omega (arith, length-take-le (end + 1) line (omega arith)) in
      whole (rw (before, last, get_or-take (end + 1) line end 0 (omega arith), eq-eqb (get_or line end 0) 13 cr) (take-take end (end + 1) line (omega arith))))

  -- a line of an even number of characters is no record
  shorter_fault : (room at : ℕ) → length (line_inside line) ≡ end - 1 → line_record room at line ≡ Err 1
  unfolding line_record
  shorter_fault room at size =
      rw (eq-eqb (get_or line (length line - 1) 0) 10 last_is_lf)
      (judge_unformed room at (line_inside line)
      (decide (formed (line_inside line)) (λ (q : formed (line_inside line) ≡ true). absurd (omega (arith, formed_length (line_inside line) q)))
      (λ (q : formed (line_inside line) ≡ false). q)))

  line_due : (at : ℕ) (d : List ℕ) (o : Option ℕ) (d' : List ℕ) → RecordDue (take end line) at d o d' → LineDue line at d o d'
  unfolding line_record
  line_due at d (Some r) d' t =
      let good = good_data_record (min largest_image (length d)) at (take end line) r (sym t.answers) in
      let long = length-take-le end line (counted_long line n c some) in
      let lf = eq-eqb (get_or line (length line - 1) 0) 10 last_is_lf in
      by_inside _ (λ same. record { answers = rw (lf, same) t.answers; holds = rw (lf, same) t.holds })
      (λ size cr.
      let digits = formed_digits (take end line) good.good in
      let there = all_digits_at (drop 1 (take end line)) (end - 2) digits (omega (arith, length-drop 1 (take end line), long)) in
      let place : 1 + (end - 2) ≡ end - 1 = omega arith in
      let digit-last : digit (get_or (take end line) (end - 1) 0) < 16 = rw (get_or-drop 1 (take end line) (end - 2) 0, place) at there in
      let none = digit_low (get_or (take end line) (end - 1) 0) (omega arith) in
      absurd (omega arith))
  line_due at d None d' a =
      let lf = eq-eqb (get_or line (length line - 1) 0) 10 last_is_lf in
      record {
        size = a.size;
        same = by_inside _ (λ same. rw (lf, same) a.same) (λ size cr. rw (shorter_fault (min largest_image (length d)) at size, a.size));
      }

-- by the count that it tells
module _ (line : List ℕ) (n : ℕ) (t : LineCounted line n) where
  pub told_pairs_fit : Fits w64 (n * 2)
  told_pairs_fit = record { fits = omega (arith, t.small) }

  pub told_end_fits : Fits w64 (11 + n * 2)
  told_end_fits = record { fits = omega (arith, t.small) }

  pub told_long : 12 < length line → 11 + n * 2 ≤ length line
  told_long some = counted_long line n t some

  pub told_whole : 12 < length line → 11 + n * 2 ≡ length (take (11 + n * 2) line)
  told_whole some = sym (length-take-le (11 + n * 2) line (told_long some))

  pub told_inside : 12 < length line → Counted (take (11 + n * 2) line) n
  told_inside some = counted_inside line n t some

  pub told_due : 12 < length line → (at : ℕ) (d : List ℕ) (r : Option ℕ) (d' : List ℕ) → RecordDue (take (11 + n * 2) line) at d r d' → LineDue line at d r d'
  told_due some at d r d' b = line_due line n t some at d r d' b

-- ---- the line taken, from its beginning where it was not taken by this

pub takes_other : (line : List ℕ) (at : ℕ) (d d' : List ℕ) → LineAlike line at d d'
    → (r : LineRecord) (d'' : List ℕ) → TakesLine line at d' r d'' → TakesLine line at d r d''
takes_other line at d d' a r d'' t = record { answers = rw a.size at t.answers; holds = rw a.size at t.holds ∙ a.same }

pub takes_end_record : (line : List ℕ) (at : ℕ) (d : List ℕ) (answer : Bool) → When answer (line ≡ end_record) → answer ≡ true → TakesLine line at d (Ok End) d
unfolding line_record line_inside bare judge placed line_of typed formed summed all_digits digit bytes_of record_bytes total
takes_end_record line at d answer w t =
    let same : line ≡ end_record = w.says t in
    record { answers = rw same; holds = rw same }
