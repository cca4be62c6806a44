-- Laws of a table of refusals: a check is a row, checks in order are rows in order, and a table gives one answer.
use Rattle.std.specs.Prelude.{List, [], ◌∷◌, ◌++◌, ◌↔◌, ◌≡◌, refl, ℕ, ◌≤◌, ◌<◌, Err, Ok}
use Rattle.std.proofs.Common.{inl, inr, sym, ◌∙◌, arith}
use Rattle.paper.specs.Words.{Lowest}
use Rattle.paper.specs.Table.{Row, NotGiven, NoneGiven, FirstGiven}
use Rattle.laws.specs.Cases.{split}
use Rattle.refusals.specs.Answers.{Verdict}
use Rattle.refusals.specs.Refusals.{refusal, and_then, result, refused, checked}
use Rattle.refusals.specs.VerdictLaws.{checked_result, checked_refused}

-- ---- what a table says to a verdict

abbrev pub Gives : List Row → Verdict → Type 0
Gives rows (Ok tt) = NoneGiven rows
Gives rows (Err r) = FirstGiven rows r.number r.detail

-- one check is one row: it passes where the row is not given, and refuses by the row
abbrev pub Judges : Row → Verdict → Type 0
Judges r (Ok tt) = NotGiven r
Judges r (Err q) = (q.number ≡ r.number) × r.given q.detail

pub judged_alone : (r : Row) (v : Verdict) → Judges r v → Gives (r ∷ []) v
judged_alone r (Ok tt) j = (j, tt)
judged_alone r (Err q) j = inl j

pub none_append : (rows more : List Row) → NoneGiven rows → NoneGiven more → NoneGiven (rows ++ more)
none_append [] more n m = m
none_append (r ∷ rows) more n m = (n.0, none_append rows more n.1 m)

pub none_before : (rows more : List Row) → NoneGiven (rows ++ more) → NoneGiven rows
none_before [] more n = tt
none_before (r ∷ rows) more n = (n.0, none_before rows more n.1)

pub none_after : (rows more : List Row) → NoneGiven (rows ++ more) → NoneGiven more
none_after [] more n = n
none_after (r ∷ rows) more n = none_after rows more n.1

pub first_append : (rows more : List Row) (number detail : ℕ) → NoneGiven rows → FirstGiven more number detail → FirstGiven (rows ++ more) number detail
first_append [] more number detail n f = f
first_append (r ∷ rows) more number detail n f = inr (n.0, first_append rows more number detail n.1 f)

pub first_stays : (rows more : List Row) (number detail : ℕ) → FirstGiven rows number detail → FirstGiven (rows ++ more) number detail
first_stays [] more number detail f = absurd f
first_stays (r ∷ rows) more number detail (inl g) = inl g
first_stays (r ∷ rows) more number detail (inr (n, f)) = inr (n, first_stays rows more number detail f)

-- some checks, then others
pub gives_append : (rows more : List Row) (v w : Verdict) → Gives rows v → (v ≡ Ok tt → Gives more w) → Gives (rows ++ more) (and_then v w)
gives_append rows more (Ok _) (Ok _) g f = none_append rows more g (f refl)
gives_append rows more (Ok tt) (Err q) g f = first_append rows more q.number q.detail g (f refl)
gives_append rows more (Err q) w g f = first_stays rows more q.number q.detail g

-- one check, then the others
pub gives_then : (r : Row) (rows : List Row) (v w : Verdict) → Judges r v → (v ≡ Ok tt → Gives rows w) → Gives (r ∷ rows) (and_then v w)
gives_then r rows v w j f = gives_append (r ∷ []) rows v w (judged_alone r v j) f

-- ---- one answer

-- each row has one detail
abbrev pub Single : List Row → Type 0
Single [] = Unit {0}
Single (r ∷ rows) = ((d e : ℕ) → r.given d → r.given e → d ≡ e) × Single rows

pub single_append : (rows more : List Row) → Single rows → Single more → Single (rows ++ more)
single_append [] more s t = t
single_append (r ∷ rows) more s t = (s.0, single_append rows more s.1 t)

pub row_once : (detail : ℕ) (condition : Type 0) (d e : ℕ) → (d ≡ detail) × condition → (e ≡ detail) × condition → d ≡ e
row_once detail condition d e g h = g.0 ∙ sym h.0

pub lowest_once : (P : ℕ → Type 0) (d e : ℕ) → Lowest P d → Lowest P e → d ≡ e
lowest_once P d e g h =
    split d e
    (λ (a : d ≤ e). split e d (λ (b : e ≤ d). omega arith) (λ (b : d < e). absurd (h.1 d b g.0)))
    (λ (a : e < d). absurd (g.1 e a h.0))

pub none_or_first : (rows : List Row) (number detail : ℕ) → NoneGiven rows → FirstGiven rows number detail → ⊥
none_or_first [] number detail n f = f
none_or_first (r ∷ rows) number detail n (inl (e, g)) = n.0 detail g
none_or_first (r ∷ rows) number detail n (inr (m, f)) = none_or_first rows number detail n.1 f

pub first_once : (rows : List Row) → Single rows → (n d m e : ℕ) → FirstGiven rows n d → FirstGiven rows m e → (n ≡ m) × (d ≡ e)
first_once [] s n d m e f g = absurd f
first_once (r ∷ rows) s n d m e (inl (a, f)) (inl (b, g)) = (a ∙ sym b, s.0 d e f g)
first_once (r ∷ rows) s n d m e (inl (a, f)) (inr (b, g)) = absurd (b d f)
first_once (r ∷ rows) s n d m e (inr (a, f)) (inl (b, g)) = absurd (a e g)
first_once (r ∷ rows) s n d m e (inr (a, f)) (inr (b, g)) = first_once rows s.1 n d m e f g

-- ---- exactly

module _ (rows : List Row) (single : Single rows) (v : Verdict) (gives : Gives rows v) where
  -- refused by a number with a detail exactly where that is the first row given
  pub refused_exactly : (number detail : ℕ) → (v ≡ Err (refusal number detail)) ↔ FirstGiven rows number detail
  refused_exactly number detail = (λ e. rw e at gives, λ f. by v gives f)
    where
      by : (w : Verdict) → Gives rows w → FirstGiven rows number detail → w ≡ Err (refusal number detail)
      by (Ok tt) g f = absurd (none_or_first rows number detail g f)
      by (Err q) g f = let same = first_once rows single q.number q.detail number detail g f in rw (← same.0, ← same.1)

  -- accepted exactly where no row is given
  pub accepted_exactly : (v ≡ Ok tt) ↔ NoneGiven rows
  accepted_exactly = (λ e. rw e at gives, λ n. by v gives n)
    where
      by : (w : Verdict) → Gives rows w → NoneGiven rows → w ≡ Ok tt
      by (Ok tt) g n = refl
      by (Err q) g n = absurd (none_or_first rows q.number q.detail n g)

  -- the same of a buffer that is filled after the checks
  pub filling_refused_exactly : (x : List ℕ) (number detail : ℕ) → (checked v x ≡ refused (refusal number detail)) ↔ FirstGiven rows number detail
  filling_refused_exactly x number detail =
      let so = refused_exactly number detail in
      (λ e. so.0 (checked_refused v x (refusal number detail) e), λ f. rw (so.1 f))

  pub filled_exactly : (x y : List ℕ) → (checked v x ≡ result y) ↔ (NoneGiven rows × (x ≡ y))
  filled_exactly x y = (
    λ e. let c = checked_result v x y e in (accepted_exactly.0 c.0, c.1),
    λ f. rw (accepted_exactly.1 f.0, f.1),
  )
