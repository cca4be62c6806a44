-- Mark and trim: the definitions' are document 01's, and there is one of each.
use Rattle.std.specs.Prelude.{false, not, List, ◌⊎◌, ◌≡◌, refl, ℕ, ◌^◌, ℤ, ◌*ℤ◌, ◌≤ℤ◌, ◌<ℤ◌}
use Rattle.std.proofs.Math.Bool.{cond}
use Rattle.std.proofs.Common.{inl, inr, ⊎_elim, sym, ap, ◌∙◌, arith, lit<}
use Rattle.std.proofs.Math.IntN.{pos}
use Rattle.std.specs.Int.Signed.{le_z, lt_z}
use Rattle.paper.specs.Fields.{number, signed}
use Rattle.paper.specs.Image.{HasBody}
use Rattle.paper.specs.Reading.{OutsideBit, Mark, Untrimmed, Trimmed}
use Rattle.laws.specs.Cases.{decide, never}
use Rattle.laws.specs.Order.{less_otherwiseℤ}
use Rattle.whole.specs.Rounded.{rounded}
use Rattle.bodies.specs.Identity.{identity_of}
use Rattle.bodies.specs.Trim.{trim_of}
use Rattle.reading.specs.Measured.{outside, mark_of, trimmed_by}
use Rattle.agreement.specs.TestsLaws.{tested_less, fails_leℤ}
use Rattle.agreement.specs.FieldsAgree.{number_same, signed_same}
use Rattle.agreement.specs.NearestLaws.{rounded_is_nearest, nearest_once}

-- ---- mark

not_less : (a b : ℤ) → lt_z a b ≡ false → b ≤ℤ a
not_less a b e = decide (le_z b a) (λ f. record { le = rw f tt }) (λ f. never (sym e ∙ less_otherwiseℤ b a ∙ ap not f))

no_less : (a b : ℤ) → a ≤ℤ b → b <ℤ a → ⊥
no_less a b h k = decide (le_z a b) (λ e. (fails_leℤ a b).good e k) (λ e. rw e at h.le)

module _ (z low high : ℤ) where
  bit_is : OutsideBit z low high (cond (outside z low high) 1 0)
  unfolding outside
  bit_is =
      decide (lt_z z (low *ℤ pos 65536))
      (λ e. rw e (inl (inl (tested_less z (low *ℤ pos 65536) e), refl)))
      (λ e. decide (lt_z (high *ℤ pos 65536) z)
      (λ f. rw (e, f) (inl (inr (tested_less (high *ℤ pos 65536) z f), refl)))
      (λ f. rw (e, f) (inr (not_less z (low *ℤ pos 65536) e, not_less (high *ℤ pos 65536) z f, refl))))

  bit_once : (a b : ℕ) → OutsideBit z low high a → OutsideBit z low high b → a ≡ b
  bit_once a b (inl (o, e)) (inl (p, f)) = e ∙ sym f
  bit_once a b (inl (o, e)) (inr (l, h, f)) = absurd (⊎_elim (no_less (low *ℤ pos 65536) z l) (no_less z (high *ℤ pos 65536) h) o)
  bit_once a b (inr (l, h, e)) (inl (o, f)) = absurd (⊎_elim (no_less (low *ℤ pos 65536) z l) (no_less z (high *ℤ pos 65536) h) o)
  bit_once a b (inr (l, h, e)) (inr (k, i, f)) = e ∙ sym f

module _ (identity : List ℕ) (pressure temperature : ℤ) where
  pub mark_is : Mark identity pressure temperature (mark_of (identity_of identity) pressure temperature)
  unfolding mark_of identity_of
  mark_is =
      let i = identity_of identity in
      record {
        temperature_bit = cond (outside temperature i.tmin i.tmax) 1 0;
        pressure_bit = cond (outside pressure i.pmin i.pmax) 1 0;
        temperature_is = rw signed_same (bit_is temperature i.tmin i.tmax);
        pressure_is = rw signed_same (bit_is pressure i.pmin i.pmax);
        is = decide (outside pressure i.pmin i.pmax) (λ e. rw e) (λ e. rw e);
      }

  pub mark_once : (m n : ℕ) → Mark identity pressure temperature m → Mark identity pressure temperature n → m ≡ n
  mark_once m n a b =
      let t = bit_once temperature (signed 4 identity 8) (signed 4 identity 12) _ _ a.temperature_is b.temperature_is in
      let p = bit_once pressure (signed 4 identity 16) (signed 4 identity 20) a.pressure_bit b.pressure_bit a.pressure_is b.pressure_is in
      omega (arith, a.is, b.is)

-- ---- trim

module _ (image : List ℕ) (pressure : ℤ) where
  pub trim_is : (trim : List ℕ) → HasBody image 4 trim → Trimmed image pressure (trimmed_by (trim_of trim) pressure) (trim_of trim).unit
  unfolding trimmed_by trim_of
  trim_is trim has =
      let product = pos (trim_of trim).span *ℤ pressure in
      record {
        trim = trim;
        has = has;
        product = rounded product (2 ^ 28);
        product_is = rw number_same (rounded_is_nearest product (2 ^ 28) (lit< tt));
        is = rw signed_same;
        named = rw number_same;
      }

  -- a kind has one body
  module _ (body_once : (body body' : List ℕ) → HasBody image 4 body → HasBody image 4 body' → body ≡ body') where
    abbrev Shown : (shown : ℤ) (unit : ℕ) → Type 0
    Shown shown unit = Untrimmed image pressure shown unit ⊎ Trimmed image pressure shown unit

    pub shown_once : (y z : ℤ) (u v : ℕ) → Shown y u → Shown z v → (y ≡ z) × (u ≡ v)
    shown_once y z u v (inl a) (inl b) = (a.is ∙ sym b.is, a.in_psi ∙ sym b.in_psi)
    shown_once y z u v (inl a) (inr b) = absurd (a.no_trim b.has.has)
    shown_once y z u v (inr a) (inl b) = absurd (b.no_trim a.has.has)
    shown_once y z u v (inr a) (inr b) =
        let same = body_once a.trim b.trim a.has b.has in
        let product = nearest_once (pos (number 4 b.trim 4) *ℤ pressure) (2 ^ 28) (lit< tt) _ _ (rw same at a.product_is) b.product_is in
        (a.is ∙ rw (same, product) (sym b.is), a.named ∙ rw same (sym b.named))
