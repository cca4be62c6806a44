-- Laws of a number on the way to a reading: known where no row of a table is given, and else refused by the first.
use Rattle.std.specs.Prelude.{List, [], ◌∷◌, ◌++◌, ◌≡◌, refl, ℕ, leb, ℤ, nat_abs, Err, Ok}
use Rattle.std.proofs.Common.{inl, inr}
use Rattle.paper.specs.Words.{Beyond}
use Rattle.paper.specs.Table.{Row, row, NoneGiven, FirstGiven}
use Rattle.refusals.specs.Answers.{Verdict}
use Rattle.refusals.specs.Refusals.{ask}
use Rattle.reading.specs.Answers.{Value}
use Rattle.reading.specs.Value.{given, with_value, within}
use Rattle.agreement.specs.TableLaws.{Judges, none_append, first_append, first_stays}
use Rattle.agreement.specs.TestsLaws.{fails_as, fails_beyond, ask_judges}

-- the value is one of which P holds, or refused as the table says
abbrev pub ValueGives : List Row → (P : ℤ → Type 0) → Value → Type 0
ValueGives rows P (Ok z) = NoneGiven rows × P z
ValueGives rows P (Err r) = FirstGiven rows r.number r.detail

-- a check, then a value
pub given_then : (r : Row) (rows : List Row) (P : ℤ → Type 0) (v : Verdict) (w : Value) → Judges r v → (v ≡ Ok tt → ValueGives rows P w)
    → ValueGives (r ∷ rows) P (given v w)
given_then r rows P (Ok tt) (Ok z) j f = let g = f refl in ((j, g.0), g.1)
given_then r rows P (Ok tt) (Err q) j f = inr (j, f refl)
given_then r rows P (Err q) w j f = inl j

-- a value, then another that is made of it
pub value_then : (rows more : List Row) (P Q : ℤ → Type 0) (v : Value) (next : ℤ → Value) → ValueGives rows P v
    → ((z : ℤ) → P z → ValueGives more Q (next z)) → ValueGives (rows ++ more) Q (with_value v next)
value_then rows more P Q (Ok z) next g f = on (next z) (f z g.1)
  where
    on : (w : Value) → ValueGives more Q w → ValueGives (rows ++ more) Q w
    on (Ok y) h = (none_append rows more g.0 h.0, h.1)
    on (Err r) h = first_append rows more r.number r.detail g.0 h
value_then rows more P Q (Err r) next g f = first_stays rows more r.number r.detail g

-- z held to a limit: `Is` holds of z alone
pub within_gives : (most number detail : ℕ) (z : ℤ) (Is : ℤ → Type 0) → Is z → ((y : ℤ) → Is y → z ≡ y) → {C : Type 0}
    → ((y : ℤ) × Is y × Beyond most y → C) → (C → (y : ℤ) × Is y × Beyond most y)
    → ValueGives (row number detail C ∷ []) Is (within most number detail z)
unfolding within
within_gives most number detail z Is is once {C} into out =
    given_then (row number detail C) [] Is (ask (leb (nat_abs z) most) number detail) (Ok z)
    (ask_judges number detail (leb (nat_abs z) most)
    (fails_as (λ b. into (z, is, b)) (λ c. let w = out c in rw (← once w.0 w.1) at w.2) (fails_beyond most z)))
    (λ e. (tt, is))
