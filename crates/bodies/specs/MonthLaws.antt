-- The length of a month, as the code works it out from the month's number and the leap rule.
use Rattle.std.specs.Prelude.{Bool, cond, ◌≡◌, ℕ, suc, ◌+◌, ◌-◌, ◌/◌, ◌%◌, ◌≤◌, T, eqb}
use Rattle.std.proofs.Common.{sym, arith, eqb→eq}
use Rattle.laws.specs.Cases.{decide}
use Rattle.laws.specs.TableTests.{every, entry}
use Rattle.bodies.specs.Identity.{leap_year, month_lengths, days_in}

abbrev pub missing_days : (year month : ℕ) → ℕ
missing_days year month = cond (eqb month 2) (cond (leap_year year) 1 2) 0

pub few_missing : (year month : ℕ) → missing_days year month ≤ 2
few_missing year month =
    decide (eqb month 2)
    (λ february. decide (leap_year year) (λ leap. rw (february, leap) (omega arith)) (λ common. rw (february, common) (omega arith)))
    (λ other. rw other (omega arith))

abbrev pub worked_out_days : (year month : ℕ) → ℕ
worked_out_days year month = 30 + (month + month / 8) % 2 - missing_days year month

-- in the calendar's list a month stands at the place before its number
abbrev same_length : (ℕ → ℕ) → (place length : ℕ) → Bool
same_length days place length = eqb length (days (suc place))

-- Lengths that are computed to be those of the list are the calendar's in every month.
pub in_every_month : (year : ℕ) (days : ℕ → ℕ) → T (every (same_length days) 0 (month_lengths year))
    → (month : ℕ) → 1 ≤ month → month ≤ 12 → days_in year month ≡ days month
unfolding days_in
in_every_month year days computed month low high =
    let place : suc (month - 1) ≡ month = omega arith in
    eqb→eq _ _ (rw place at (entry (same_length days) (month_lengths year) computed (month - 1) (omega arith)))

-- The arithmetic and the calendar agree, in every month of every year.
pub days_worked_out : (year month : ℕ) → 1 ≤ month → month ≤ 12 → worked_out_days year month ≡ days_in year month
days_worked_out year month low high =
    sym (in_every_month year (worked_out_days year) (decide (leap_year year) (λ leap. rw leap tt) (λ common. rw common tt)) month low high)
