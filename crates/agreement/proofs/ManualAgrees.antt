-- Document 01's sums are the nested polynomial that the maker's manual prints.
use Rattle.std.proofs.Math.Bool.{and-false}
use Rattle.std.specs.Prelude.{List, [], ◌⊎◌, ◌≡◌, refl, leb, ℤ, pos, ◌*ℤ◌, get_or, Ok}
use Rattle.std.proofs.Common.{inl, inr, sym, ◌∙◌, add-zero, zero-add, suc-add, le-leb, lit<}
use Prim.Native.Nat.{ℕ, zero, suc, ◌+◌, ◌-◌, ◌^◌, ◌≤◌, ◌<◌}
use native.Mathlib.Omega.{arith}
use Rattle.std.proofs.lemmas.Bool.{lt-leb}
use Rattle.std.proofs.Math.IntN.{+ℤ_idr}
use Rattle.paper.specs.Words.{Not, Nearest}
use Rattle.paper.specs.Bodies.{pressure_order, temperature_order, SetWrong}
use Rattle.paper.specs.Verdict.{verdict_table}
use Rattle.paper.specs.Reading.{Sum, Coefficient, RowFrom, Result}
use Rattle.paper.specs.ReadingTable.{counts_table}
use Rattle.paper.specs.Manual.{Nested, coefficient, ManualRow, ManualResult, ShowsByManual}
use Rattle.laws.specs.Cases.{split}
use Rattle.sets.specs.Set.{grid_place, row_from, rows_from, grid_of}
use Rattle.reading.specs.declared.Counts.{Counts}
use Rattle.reading.specs.declared.Reading.{Reading}
use Rattle.reading.specs.PolynomialLaws.{nothing_turned}
use Rattle.panel.specs.Reading.{reading_of}
use Rattle.agreement.specs.NearestLaws.{rounded_is_nearest}
use Rattle.agreement.specs.TableLaws.{none_before}
use Rattle.agreement.specs.VerdictAgrees.{verdict_accepted_exactly, accepted_readable}
use Rattle.agreement.specs.SetAgrees.{few_rows, few_places, place_there, place_absent, row_absent}
use Rattle.agreement.specs.OnPaper.{on_paper}
use Rattle.agreement.proofs.ReadingAgrees.{reading_shown_exactly}

-- ---- a sum of at most five terms, with zeros for the others

nothing : (x : ℤ) → Nearest (pos 0) (pos 0 *ℤ x) (2 ^ 24)
nothing x = rw (nothing_turned x) at (rounded_is_nearest (pos 0 *ℤ x) (2 ^ 24) (lit< tt))

module _ (x : ℤ) (Term : ℕ → ℤ → Type 0) (last : ℕ) where
  -- the i-th term, or 0 past the last
  abbrev TermOr0 : (i : ℕ) → ℤ → Type 0
  TermOr0 i c = ((i ≤ last) × Term i c) ⊎ ((last < i) × (c ≡ pos 0))

  zeros : (more i : ℕ) → last < i → Sum x TermOr0 more i (pos 0)
  zeros zero i h = inr (h, refl)
  zeros (suc more) i h = (pos 0, pos 0, pos 0, inr (h, refl), zeros more (i + 1) (omega arith), nothing x, refl)

  with_zeros : (after more i : ℕ) → i + after ≡ last → (z : ℤ) → Sum x Term after i z → Sum x TermOr0 (after + more) i z
  with_zeros zero zero i h z s = inl (omega arith, s)
  with_zeros zero (suc more) i h z s =
      rw (zero-add (suc more)) (z, pos 0, pos 0, inl (omega arith, s), zeros more (i + 1) (omega arith), nothing x, sym (+ℤ_idr z))
  with_zeros (suc after) more i h z (t, r, p, t-is, r-is, p-is, e) =
      rw (suc-add after more) (t, r, p, inl (omega arith, t-is), with_zeros after more (i + 1) (omega arith) r r-is, p-is, e)

  record Five (z : ℤ) : Type 0 where
    c0 : ℤ
    c1 : ℤ
    c2 : ℤ
    c3 : ℤ
    c4 : ℤ
    is0 : TermOr0 0 c0
    is1 : TermOr0 1 c1
    is2 : TermOr0 2 c2
    is3 : TermOr0 3 c3
    is4 : TermOr0 4 c4
    nested : Nested x c0 c1 c2 c3 c4 z

  five : last ≤ 4 → (z : ℤ) → Sum x Term last 0 z → Five z
  five h z s = let all : last + (4 - last) ≡ 4 = omega arith in by (rw all at (with_zeros last (4 - last) 0 (omega arith) z s))
    where
      by : Sum x TermOr0 4 0 z → Five z
      by (a, r, p, a_is, (b, s, q, b_is, (c, t, o, c_is, (d, e, n, d_is, e_is, n-is, k), o_is, g), q-is, f), p-is, is) =
          record {
            c0 = a;
            c1 = b;
            c2 = c;
            c3 = d;
            c4 = e;
            is0 = a_is;
            is1 = b_is;
            is2 = c_is;
            is3 = d_is;
            is4 = e_is;
            nested = record { x4 = n; x3 = o; x2 = q; x1 = p; x4_is = n-is; x3_is = rw k at o_is; x2_is = rw g at q-is; x1_is = rw f at p-is; is = is };
          }

-- ---- a set

module _ (body : List ℕ) (right : Not (SetWrong body)) where
  there_is : (r i : ℕ) (c : ℤ) → r ≤ pressure_order body → TermOr0 (pos 0) (λ (p : ℕ) (d : ℤ). Coefficient body r p d) (temperature_order body - 0) i c
      → c ≡ coefficient body r i
  there_is r i c h (inl (k, e)) = rw (le-leb r (pressure_order body) h, le-leb i (temperature_order body) (omega arith)) e
  there_is r i c h (inr (k, e)) = rw (lt-leb i (temperature_order body) (omega arith), and-false (leb r (pressure_order body))) e

  -- a row that the set has
  row_by_manual : (xt : ℤ) (r : ℕ) → r ≤ pressure_order body → (z : ℤ) → RowFrom body xt r 0 z → ManualRow body xt r z
  row_by_manual xt r h z s =
      let f = five xt (λ (p : ℕ) (d : ℤ). Coefficient body r p d) (temperature_order body - 0) (omega (arith, few_places body right)) z s in
      rw (
        there_is r 0 f.c0 h f.is0,
        there_is r 1 f.c1 h f.is1,
        there_is r 2 f.c2 h f.is2,
        there_is r 3 f.c3 h f.is3,
        there_is r 4 f.c4 h f.is4,
      )
      at f.nested

  -- and one that it lacks
  absent_row : (xt : ℤ) (r : ℕ) → pressure_order body < r → ManualRow body xt r (pos 0)
  absent_row xt r h =
      rw (lt-leb r (pressure_order body) h)
      (record {
        x4 = pos 0;
        x3 = pos 0;
        x2 = pos 0;
        x1 = pos 0;
        x4_is = nothing xt;
        x3_is = nothing xt;
        x2_is = nothing xt;
        x1_is = nothing xt;
        is = refl;
      })

  -- the grid that the code fills
  place_by_manual : (r i : ℕ) → grid_place body r i ≡ coefficient body r i
  place_by_manual r i =
      split r (pressure_order body)
      (λ h.
      split i (temperature_order body)
      (λ k. rw (le-leb r (pressure_order body) h, le-leb i (temperature_order body) k) (place_there body right r i h k))
      (λ k. rw (lt-leb i (temperature_order body) k, and-false (leb r (pressure_order body))) (place_absent body right r i k)))
      (λ h. rw (lt-leb r (pressure_order body) h) (row_absent body right r i h))

  row_at : (r left from i : ℕ) → i < left → get_or (row_from body r left from) i (pos 0) ≡ grid_place body r (from + i)
  unfolding row_from
  row_at r zero from i h = absurd (omega arith)
  row_at r (suc left) from zero h = rw (add-zero from)
  row_at r (suc left) from (suc i) h = let next : from + 1 + i ≡ from + suc i = omega arith in rw next at (row_at r left (from + 1) i (omega arith))

  rows_at : (left from r : ℕ) → r < left → get_or (rows_from body left from) r [] ≡ row_from body (from + r) 5 0
  unfolding rows_from
  rows_at zero from r h = absurd (omega arith)
  rows_at (suc left) from zero h = rw (add-zero from)
  rows_at (suc left) from (suc r) h = let next : from + 1 + r ≡ from + suc r = omega arith in rw next at (rows_at left (from + 1) r (omega arith))

  pub grid_by_manual : (r i : ℕ) → r < 5 → i < 5 → get_or (get_or (grid_of body) r []) i (pos 0) ≡ coefficient body r i
  grid_by_manual r i h k =
      rw (rows_at 5 0 r h, zero-add r) (row_at r 5 0 i k ∙ rw (zero-add i) (place_by_manual r i))

  pub result_by_manual : (fp ft z : ℤ) → Result body fp ft z → ManualResult body fp ft z
  result_by_manual fp ft z s =
      let xt = s.xt in
      let f = five s.xp (λ (r : ℕ) (d : ℤ). RowFrom body xt r 0 d) (pressure_order body - 0) (omega (arith, few_rows body right)) z s.is in
      record {
        xp = s.xp;
        xt = xt;
        xp_is = s.xp_is;
        xt_is = s.xt_is;
        a = f.c0;
        b = f.c1;
        c = f.c2;
        d = f.c3;
        e = f.c4;
        a_is = row xt 0 f.c0 f.is0;
        b_is = row xt 1 f.c1 f.is1;
        c_is = row xt 2 f.c2 f.is2;
        d_is = row xt 3 f.c3 f.is3;
        e_is = row xt 4 f.c4 f.is4;
        is = f.nested;
      }
    where
      row : (xt : ℤ) (r : ℕ) (c : ℤ) → TermOr0 (pos 0) (λ (q : ℕ) (d : ℤ). RowFrom body xt q 0 d) (pressure_order body - 0) r c → ManualRow body xt r c
      row xt r c (inl (h, t)) = row_by_manual xt r (omega arith) c t
      row xt r c (inr (h, e)) = rw e (absent_row xt r (omega arith))

-- ---- what is shown

pub shows_by_manual : (level : ℕ) (image : List ℕ) (counts : Counts) (reading : Reading) → reading_of level image counts ≡ Ok reading
    → ShowsByManual image (on_paper counts) reading.pressure reading.temperature reading.unit reading.mark
shows_by_manual level image counts reading e =
    let r = (reading_shown_exactly level image counts reading).0 e in
    let s = r.1 in
    let accepted = (verdict_accepted_exactly level image).1 (none_before (verdict_table level image) (counts_table image (on_paper counts)) r.0) in
    let right = accepted_readable level image accepted in
    record {
      identity = s.identity;
      pressure_set = s.pressure_set;
      temperature_set = s.temperature_set;
      identity_is = s.identity_is;
      pressure_set_is = s.pressure_set_is;
      temperature_set_is = s.temperature_set_is;
      fp = s.fp;
      ft = s.ft;
      fp_is = s.fp_is;
      ft_is = s.ft_is;
      pressure = s.pressure;
      pressure_is =
          result_by_manual s.pressure_set (right.pressure_set_right s.pressure_set s.pressure_set_is) s.fp s.ft s.pressure
          s.pressure_is;
      temperature_is =
          result_by_manual s.temperature_set (right.temperature_set_right s.temperature_set s.temperature_set_is) s.fp s.ft reading.temperature
          s.temperature_is;
      mark_is = s.mark_is;
      trim_is = s.trim_is;
    }
