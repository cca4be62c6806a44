-- A set's result: known as document 01 says, or refused by 24, 25 or 26 where it says so.
use Rattle.std.proofs.Math.Bool.{and-false}
use Rattle.std.specs.Prelude.{List, [], ◌∷◌, ◌≡◌, refl, ℕ, zero, suc, ◌+◌, ◌-◌, ◌*◌, ◌^◌, ◌≤◌, ◌<◌, eqb, ℤ, pos, ◌-ℤ◌, ◌*ℤ◌, length, Err, Ok}
use Rattle.std.proofs.Common.{inl, inr, ⊎_elim, sym, ap, ◌∙◌, arith, le-leb, eqb-true, lit<}
use Rattle.std.proofs.lemmas.Bool.{lt-leb, eqb-false}
use Rattle.limits.specs.Limits.{largest_sum}
use Rattle.paper.specs.Words.{Not, Beyond}
use Rattle.paper.specs.Fields.{number}
use Rattle.paper.specs.Table.{Row, row}
use Rattle.paper.specs.Bodies.{pressure_order, temperature_order, coefficient_count, SetWrong}
use Rattle.paper.specs.Reading.{IsXP, IsXT, Coefficient, RowFrom, RowsFrom, RunningSum, Result}
use Rattle.paper.specs.ReadingTable.{XPBeyond, XTBeyond, SumBeyond, ResultBeyond}
use Rattle.laws.specs.Cases.{split, decide}
use Rattle.numbers.specs.Fields.{number_at}
use Rattle.sets.specs.Set.{prescales_of, grid_place, row_from, rows_from, grid_of}
use Rattle.reading.specs.Answers.{Value}
use Rattle.reading.specs.Value.{with_value, within}
use Rattle.reading.specs.Frequency.{prescaled_of}
use Rattle.reading.specs.Gauge.{set_of}
use Rattle.reading.specs.Polynomial.{nested_sum, step_of, row_sum, row_step, grid_sum, set_result}
use Rattle.agreement.specs.FieldsAgree.{number_same, signed_same}
use Rattle.agreement.specs.NearestLaws.{nearest_once}
use Rattle.agreement.specs.ValueLaws.{ValueGives, value_then, within_gives}
use Rattle.agreement.specs.FrequencyAgrees.{prescaled_gives}
use Rattle.agreement.specs.SumLaws.{sum_once, sum_as}
use Rattle.agreement.specs.ChainLaws.{chain, zeros_chain, TermGives, ChainGives, chain_gives}

-- ---- the sums of the code as chains

row_chain : (kind : ℕ) (x : ℤ) (body : List ℕ) (r left place : ℕ)
    → row_sum kind x (row_from body r left place) ≡ chain kind x (λ (p : ℕ). Ok (grid_place body r p)) left place
unfolding nested_sum row_from chain
row_chain kind x body r zero place = refl
row_chain kind x body r (suc left) place =
    ap (λ (v : Value). with_value v (λ sum. step_of kind x (grid_place body r place) sum)) (row_chain kind x body r left (place + 1))

grid_chain : (kind : ℕ) (xp xt : ℤ) (body : List ℕ) (left r : ℕ)
    → grid_sum kind xp xt (rows_from body left r) ≡ chain kind xp (λ (q : ℕ). row_sum kind xt (row_from body q 5 0)) left r
unfolding nested_sum row_step rows_from chain
grid_chain kind xp xt body zero r = refl
grid_chain kind xp xt body (suc left) r =
    ap (λ (v : Value). with_value v (λ sum. with_value (row_sum kind xt (row_from body r 5 0)) (λ c. step_of kind xp c sum)))
    (grid_chain kind xp xt body left (r + 1))

-- ---- the grid of a right body

module _ (body : List ℕ) (right : Not (SetWrong body)) where
  pub few_rows : pressure_order body ≤ 4
  few_rows = split (pressure_order body) 4 (λ h. h) (λ h. absurd (right (inr (inr (inl h)))))

  pub few_places : temperature_order body ≤ 4
  few_places = split (temperature_order body) 4 (λ h. h) (λ h. absurd (right (inr (inr (inr (inl h))))))

  long : length body ≡ 28 + 8 * coefficient_count body
  long =
      let all = 28 + 8 * coefficient_count body in
      decide (eqb (length body) all) (λ e. eqb-true (length body) all e) (λ e. absurd (right (inr (inr (inr (inr (inl (eqb-false (length body) all e))))))))

  pub place_there : (r place : ℕ) → r ≤ pressure_order body → place ≤ temperature_order body → Coefficient body r place (grid_place body r place)
  place_there r place h k =
      let all : 28 + 8 * coefficient_count body ≤ length body = omega (arith, long) in
      rw (
        number_same,
        signed_same,
        le-leb _ _ (rw number_same at all),
        le-leb r (number_at 1 body 2) (rw number_same at h),
        le-leb place (number_at 1 body 3) (rw number_same at k),
      )

  pub place_absent : (r place : ℕ) → temperature_order body < place → grid_place body r place ≡ pos 0
  place_absent r place h = rw (lt-leb place (number_at 1 body 3) (rw number_same at h), and-false _)

  pub row_absent : (r place : ℕ) → pressure_order body < r → grid_place body r place ≡ pos 0
  row_absent r place h = rw (lt-leb r (number_at 1 body 2) (rw number_same at h), and-false _)

  module _ (kind : ℕ) (xp xt : ℤ) where
    -- ---- a row

    abbrev PlaceBeyond : (r p : ℕ) → Type 0
    PlaceBeyond r p = (z : ℤ) × RowFrom body xt r p z × Beyond largest_sum z

    abbrev RowGood : (r : ℕ) → Type 0
    RowGood r = (p : ℕ) → p ≤ temperature_order body → Not (PlaceBeyond r p)

    abbrev RowBad : (r : ℕ) → Type 0
    RowBad r = (p : ℕ) × (p ≤ temperature_order body) × PlaceBeyond r p

    row_once : (r : ℕ) (c d : ℤ) → RowFrom body xt r 0 c → RowFrom body xt r 0 d → c ≡ d
    row_once r c d = sum_once xt (λ (p : ℕ) (e : ℤ). Coefficient body r p e) (λ i e f g h. g ∙ sym h) (temperature_order body - 0) 0 c d

    abbrev RowGives : (r : ℕ) → Value → Type 0
    RowGives = TermGives kind xp (pressure_order body) (λ (r : ℕ) (c : ℤ). RowFrom body xt r 0 c) row_once RowGood RowBad

    abbrev PlacesGive : (r : ℕ) → Value → Type 0
    PlacesGive r =
        ChainGives kind xt (temperature_order body) (λ (p : ℕ) (c : ℤ). Coefficient body r p c) (λ i e f g k. g ∙ sym k) (λ i. Unit {0}) (λ i. ⊥) 0

    row_gives : (r : ℕ) → r ≤ pressure_order body → RowGives r (row_sum kind xt (row_from body r 5 0))
    row_gives r h = rw (row_chain kind xt body r 5 0) (row_is (chain kind xt (λ (p : ℕ). Ok (grid_place body r p)) 5 0) places)
      where
        places : PlacesGive r (chain kind xt (λ (p : ℕ). Ok (grid_place body r p)) 5 0)
        places =
            chain_gives kind xt (temperature_order body) (λ (p : ℕ) (c : ℤ). Coefficient body r p c) (λ i e f g k. g ∙ sym k) (λ i. Unit {0}) (λ i. ⊥)
            (λ (p : ℕ). Ok (grid_place body r p)) (λ p k. (place_there r p h k, tt)) (λ p k. ap Ok (place_absent r p k)) 5 0 (omega (arith, few_places))

        row_is : (v : Value) → PlacesGive r v → RowGives r v
        row_is (Ok z) g = (g.0 (omega arith), λ p k w. (g.2 p (omega arith) k).1 w)
        row_is (Err q) g = (g.0, (g.1.0, g.1.2, ⊎_elim (λ none. absurd none) (λ w. w) g.1.3))

    -- ---- the rows

    abbrev RunningBeyond : Type 0
    RunningBeyond = (z : ℤ) × RunningSum body xp xt z × Beyond largest_sum z

    rows_once : (c d : ℤ) → RowsFrom body xp xt 0 c → RowsFrom body xp xt 0 d → c ≡ d
    rows_once c d = sum_once xp (λ (r : ℕ) (e : ℤ). RowFrom body xt r 0 e) row_once (pressure_order body - 0) 0 c d

    rows_absent : (r : ℕ) → pressure_order body < r → row_sum kind xt (row_from body r 5 0) ≡ Ok (pos 0)
    rows_absent r h =
        row_chain kind xt body r 5 0 ∙ zeros_chain kind xt (λ (p : ℕ). Ok (grid_place body r p)) (λ p. ap Ok (row_absent r p h)) 5 0

    abbrev RowsGive : Value → Type 0
    RowsGive = ChainGives kind xp (pressure_order body) (λ (r : ℕ) (c : ℤ). RowFrom body xt r 0 c) row_once RowGood RowBad 0

    none_beyond : (z : ℤ) → RowsGive (Ok z) → Not RunningBeyond
    none_beyond z g (y, inl (r, p, h, k, s), b) = (g.2 r (omega arith) h).0 p k (y, s, b)
    none_beyond z g (y, inr (r, h, s), b) = (g.2 r (omega arith) h).1 (y, s, b)

    sum_gives : {C : Type 0} → (RunningBeyond → C) → (C → RunningBeyond)
        → ValueGives (row 25 kind C ∷ []) (λ (z : ℤ). RowsFrom body xp xt 0 z) (grid_sum kind xp xt (grid_of body))
    sum_gives {C} into out = rw (grid_chain kind xp xt body 5 0) (sum_is (chain kind xp (λ (q : ℕ). row_sum kind xt (row_from body q 5 0)) 5 0) rows)
      where
        rows : RowsGive (chain kind xp (λ (q : ℕ). row_sum kind xt (row_from body q 5 0)) 5 0)
        rows =
            chain_gives kind xp (pressure_order body) (λ (r : ℕ) (c : ℤ). RowFrom body xt r 0 c) row_once RowGood RowBad
            (λ (q : ℕ). row_sum kind xt (row_from body q 5 0)) row_gives rows_absent 5 0 (omega (arith, few_rows))

        sum_is : (v : Value) → RowsGive v → ValueGives (row 25 kind C ∷ []) (λ (z : ℤ). RowsFrom body xp xt 0 z) v
        sum_is (Ok z) g = ((λ d w. none_beyond z g (out w.1), tt), g.0 (omega arith))
        sum_is (Err q) g =
            let j = g.1 in
            rw g.0
            (inl (
              refl,
              (
                refl,
                into (⊎_elim
                    (λ (bad : RowBad j.0). (bad.2.0, inl (j.0, bad.0, j.2, bad.1, bad.2.1), bad.2.2))
                    (λ b. (b.0, inr (j.0, j.2, b.1), b.2))
                    j.3),
              ),
            ))

  -- ---- the set, at both frequencies

  module _ (fp ft : ℤ) where
    -- an X is one where it is worked out, and where it is not nothing is multiplied by it
    same_xp : (xp xp' : ℤ) → IsXP body fp xp → IsXP body fp xp' → 1 ≤ pressure_order body → xp ≡ xp'
    same_xp xp xp' is is' h = nearest_once (pos (number 4 body 4) *ℤ (fp -ℤ pos (number 8 body 8))) (2 ^ 32) (lit< tt) xp xp' (is h) (is' h)

    same_xt : (xt xt' : ℤ) → IsXT body ft xt → IsXT body ft xt' → 1 ≤ temperature_order body → xt ≡ xt'
    same_xt xt xt' is is' h = nearest_once (pos (number 4 body 16) *ℤ (ft -ℤ pos (number 8 body 20))) (2 ^ 32) (lit< tt) xt xt' (is h) (is' h)

    module _ (xp xt xp' xt' : ℤ) (xp_is : IsXP body fp xp) (xt_is : IsXT body ft xt) (xp-is' : IsXP body fp xp') (xt-is' : IsXT body ft xt') where
      row_same : (r p : ℕ) (z : ℤ) → RowFrom body xt r p z → RowFrom body xt' r p z
      row_same r p z =
          sum_as xt xt' (λ (i : ℕ) (c : ℤ). Coefficient body r i c) (λ (i : ℕ) (c : ℤ). Coefficient body r i c) (temperature_order body - p) p z
          (λ h. same_xt xt xt' xt_is xt-is' (omega arith)) (λ i c e. e)

      rows_same : (r : ℕ) (z : ℤ) → RowsFrom body xp xt r z → RowsFrom body xp' xt' r z
      rows_same r z =
          sum_as xp xp' (λ (i : ℕ) (c : ℤ). RowFrom body xt i 0 c) (λ (i : ℕ) (c : ℤ). RowFrom body xt' i 0 c) (pressure_order body - r) r z
          (λ h. same_xp xp xp' xp_is xp-is' (omega arith)) (λ i c e. row_same i 0 c e)

      running_same : (z : ℤ) → RunningSum body xp xt z → RunningSum body xp' xt' z
      running_same z (inl (r, p, h, k, s)) = inl (r, p, h, k, row_same r p z s)
      running_same z (inr (r, h, s)) = inr (r, h, rows_same r z s)

    -- a set has one result
    pub result_once : (y z : ℤ) → Result body fp ft y → Result body fp ft z → y ≡ z
    result_once y z a b =
        rows_once 0 b.xp b.xt y z (rows_same a.xp a.xt b.xp b.xt a.xp_is a.xt_is b.xp_is b.xt_is 0 y a.is) b.is

    -- `In` is where document 01 says it of the body and the frequencies
    module _ (kind first : ℕ) (In : (List ℕ → ℤ → ℤ → Type 0) → Type 0) (into : (P : List ℕ → ℤ → ℤ → Type 0) → P body fp ft → In P)
        (out : (P : List ℕ → ℤ → ℤ → Type 0) → In P → P body fp ft) where
      abbrev row24_p : Row
      row24_p = row 24 first (In XPBeyond)

      abbrev row24_t : Row
      row24_t = row 24 (first + 1) (In XTBeyond)

      abbrev row25 : Row
      row25 = row 25 kind (In SumBeyond)

      abbrev row26 : Row
      row26 = row 26 kind (In ResultBeyond)

      abbrev IsResult : ℤ → Type 0
      IsResult z = Result body fp ft z

      module _ (xp xt : ℤ) (xp_is : IsXP body fp xp) (xt_is : IsXT body ft xt) where
        limit_gives : (z : ℤ) → RowsFrom body xp xt 0 z → ValueGives (row26 ∷ []) IsResult (within (2 ^ 31) 26 kind z)
        limit_gives z is =
            let result : IsResult z = record { xp = xp; xt = xt; xp_is = xp_is; xt_is = xt_is; is = is } in
            within_gives (2 ^ 31) 26 kind z IsResult result (λ y r. result_once z y result r)
            (λ (y, r, b). into ResultBeyond (r.xp, r.xt, y, r.xp_is, r.xt_is, r.is, b))
            (λ c. let w = out ResultBeyond c in (w.2, record { xp = w.0; xt = w.1; xp_is = w.3; xt_is = w.4; is = w.5 }, w.6))

        rows_give : ValueGives (row25 ∷ row26 ∷ []) IsResult (with_value (grid_sum kind xp xt (grid_of body)) (λ sum. within (2 ^ 31) 26 kind sum))
        rows_give =
            value_then (row25 ∷ []) (row26 ∷ []) (λ (z : ℤ). RowsFrom body xp xt 0 z) IsResult (grid_sum kind xp xt (grid_of body))
            (λ sum. within (2 ^ 31) 26 kind sum)
            (sum_gives kind xp xt
            (λ (z, run, b). into SumBeyond (xp, xt, z, xp_is, xt_is, run, b))
            (λ c. let w = out SumBeyond c in (w.2, running_same w.0 w.1 xp xt w.3 w.4 xp_is xt_is w.2 w.5, w.6)))
            limit_gives

      abbrev from_xt : (xp xt : ℤ) → Value
      from_xt xp xt = with_value (grid_sum kind xp xt (grid_of body)) (λ sum. within (2 ^ 31) 26 kind sum)

      abbrev from_xp : (xp : ℤ) → Value
      from_xp xp = with_value (prescaled_of (first + 1) (prescales_of body).temperature ft) (λ xt. from_xt xp xt)

      pub set_gives : ValueGives (row24_p ∷ row24_t ∷ row25 ∷ row26 ∷ []) IsResult (set_result kind first (set_of body) fp ft)
      unfolding prescales_of set_result
      set_gives =
          value_then (row24_p ∷ []) (row24_t ∷ row25 ∷ row26 ∷ []) (λ (x : ℤ). IsXP body fp x) IsResult (prescaled_of first (prescales_of body).pressure fp)
          (λ xp. from_xp xp)
          (rw number_same (prescaled_gives first (number_at 1 body 2) (number_at 4 body 4) (number_at 8 body 8) fp
          (rw number_same at (into XPBeyond)) (rw number_same at (out XPBeyond))))
          (λ xp xp_is. value_then (row24_t ∷ []) (row25 ∷ row26 ∷ []) (λ (x : ℤ). IsXT body ft x) IsResult
          (prescaled_of (first + 1) (prescales_of body).temperature ft) (λ xt. from_xt xp xt)
          (rw number_same (prescaled_gives (first + 1) (number_at 1 body 3) (number_at 4 body 16) (number_at 8 body 20) ft
          (rw number_same at (into XTBeyond)) (rw number_same at (out XTBeyond))))
          (λ xt xt_is. rows_give xp xt xp_is xt_is))
