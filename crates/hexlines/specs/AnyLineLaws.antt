-- Any line with its line end: its characters without it, and the line taken as those are.
use Rattle.std.specs.Prelude.{◌≡◌, refl, true, false, cond, List, [], ℕ, ◌-◌, ◌≤◌, ◌<◌, min, eqb, take, get_or, Err}
use Rattle.std.proofs.Common.{sym, ◌∙◌, arith, eq-eqb, ne_eqb, length-take-le}
use Rattle.std.proofs.Math.ListN.{length, length-take, get_or-eq_default}
use Rattle.std.proofs.Math.Seq.{take-length}
use Rattle.limits.specs.Limits.{largest_image}
use Rattle.laws.specs.Cases.{decide}
use Rattle.hextext.specs.Answers.{LineRecord}
use Rattle.hextext.specs.Record.{formed, judge}
use Rattle.hextext.proofs.RecordLaws.{judge_unformed}
use Rattle.hextext.specs.Text.{bare}
use Rattle.hextext.specs.Lines.{line_inside, line_record}
use Rattle.hexline.specs.Taken.{TakesRecord}
use Rattle.hexlines.specs.Taken.{TakesLine}

-- ---- the line end

-- a line's characters without its line end, none where it has none
abbrev pub characters_inside : (line : List ℕ) → List ℕ
characters_inside line = cond (eqb (get_or line (length line - 1) 0) 10) (line_inside line) []

-- a line without its CR is the line's first characters
bare_short : (u : List ℕ) → length (bare u) ≤ length u
unfolding bare
bare_short u =
    decide (eqb (get_or u (length u - 1) 0) 13) (λ (q : eqb (get_or u (length u - 1) 0) 13 ≡ true). rw q (omega (arith, length-take (length u - 1) u)))
    (λ (q : eqb (get_or u (length u - 1) 0) 13 ≡ false). rw q (omega arith))

pub inside_fits : (u : List ℕ) (n : ℕ) → n ≡ length (bare u) → n ≡ length (take n u)
inside_fits u n e = sym (length-take-le n u (omega (arith, e, bare_short u)))

bare_front : (u : List ℕ) → take (length (bare u)) u ≡ bare u
unfolding bare
bare_front u =
    decide (eqb (get_or u (length u - 1) 0) 13)
    (λ (q : eqb (get_or u (length u - 1) 0) 13 ≡ true). let n = length-take-le (length u - 1) u (omega arith) in rw (q, n))
    (λ (q : eqb (get_or u (length u - 1) 0) 13 ≡ false). rw q (take-length u))

module _ (line : List ℕ) where
  pub inside_other : (get_or line (length line - 1) 0 ≡ 10 → ⊥) → [] ≡ characters_inside line
  inside_other h = rw (ne_eqb (get_or line (length line - 1) 0) 10 h)

  pub inside_empty : length line < 1 → [] ≡ characters_inside line
  inside_empty h = inside_other (λ e. let short : length line ≤ length line - 1 = omega arith in omega (arith, get_or-eq_default line 0 short))

  pub inside_ended : (n : ℕ) → get_or line (length line - 1) 0 ≡ 10 → n ≡ length (bare (take (length line - 1) line))
      → take n (take (length line - 1) line) ≡ characters_inside line
  unfolding line_inside
  inside_ended n last e = rw (eq-eqb (get_or line (length line - 1) 0) 10 last, e) (bare_front (take (length line - 1) line))

-- ---- taken

pub takes_inside : (line d : List ℕ) (at : ℕ) (characters : List ℕ) → characters ≡ characters_inside line → (r : LineRecord) (d' : List ℕ)
    → TakesRecord characters at d r d' → TakesLine line at d r d'
unfolding line_record formed
takes_inside line d at characters i r d' t =
    decide (eqb (get_or line (length line - 1) 0) 10)
    (λ (q : eqb (get_or line (length line - 1) 0) 10 ≡ true).
    let same : characters ≡ line_inside line = rw q at i in
    record { answers = rw q (rw same at t.answers); holds = rw q (rw same at t.holds) })
    (λ (q : eqb (get_or line (length line - 1) 0) 10 ≡ false).
    let none : characters ≡ [] = rw q at i in
    let fault : judge (min largest_image (length d)) at characters ≡ Err 1 = rw none (judge_unformed (min largest_image (length d)) at [] refl) in
    record { answers = rw q (t.answers ∙ fault); holds = rw q (rw fault at t.holds) })
