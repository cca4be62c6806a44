-- Tests that fail, or pass, exactly where a condition of document 01 holds; and checks that are made of them.
use Rattle.std.specs.Prelude.{Bool, true, false, not, ◌&&◌, ◌||◌, List, [], ◌∷◌, ◌⊎◌, ◌≡◌, refl, ℕ, zero, suc, ◌+◌, ◌≤◌, ◌<◌, T, leb, ltb, eqb, ℤ, pos, neg_ℤ, nat_abs, ◌<ℤ◌, Err, Ok}
use Rattle.std.proofs.Common.{inl, inr, ⊎_elim, sym, arith, ltb-true, ltb-false, leb-true, leb-false, eqb-true}
use Rattle.std.proofs.lemmas.Bool.{eqb-false}
use Rattle.std.specs.Int.Signed.{le_z, lt_z}
use Rattle.paper.specs.Words.{Not, Outside, Beyond}
use Rattle.paper.specs.Table.{row}
use Rattle.laws.specs.Cases.{split, decide, never}
use Rattle.laws.specs.Order.{less_otherwiseℤ, far_below, far_above}
use Rattle.refusals.specs.Answers.{Verdict}
use Rattle.refusals.specs.Refusals.{ask}
use Rattle.refusals.specs.FieldsVerdict.{Field, fields_verdict, fields_from}
use Rattle.agreement.specs.TableLaws.{Judges}

-- ---- orders of signed numbers and their tests

passed : (b : Bool) → T b → b ≡ true
passed true t = refl
passed false t = absurd t

pub less_tested : (a b : ℤ) → a <ℤ b → lt_z a b ≡ true
less_tested a b h = passed (lt_z a b) h.lt

pub tested_less : (a b : ℤ) → lt_z a b ≡ true → a <ℤ b
tested_less a b e = record { lt = rw e tt }

-- ---- a test that fails exactly where P

pub record Fails (test : Bool) (P : Type 0) : Type 0 where
  pub bad : test ≡ false → P
  pub good : test ≡ true → Not P

pub fails_le : (a b : ℕ) → Fails (leb a b) (b < a)
fails_le a b = record { bad = leb-false a b; good = λ e h. let k = leb-true a b e in omega arith }

pub fails_lt : (a b : ℕ) → Fails (ltb a b) (b ≤ a)
fails_lt a b = record { bad = ltb-false a b; good = λ e h. let k = ltb-true a b e in omega arith }

pub fails_eq : (a b : ℕ) → Fails (eqb a b) (Not (a ≡ b))
fails_eq a b = record { bad = eqb-false a b; good = λ e h. h (eqb-true a b e) }

pub fails_leℤ : (a b : ℤ) → Fails (le_z a b) (b <ℤ a)
fails_leℤ a b =
    record {
      bad = λ e. tested_less b a (rw (less_otherwiseℤ a b, e) refl);
      good = λ e h. rw (less_otherwiseℤ a b, e) at h.lt;
    }

pub fails_beyond : (m : ℕ) (z : ℤ) → Fails (leb (nat_abs z) m) (Beyond m z)
fails_beyond m z =
    decide (lt_z z (neg_ℤ (pos m)))
    (λ (e : lt_z z (neg_ℤ (pos m)) ≡ true).
    record { bad = λ f. inl (tested_less z (neg_ℤ (pos m)) e); good = λ f h. never (rw f at (sym (far_below z m e))) })
    (λ (e : lt_z z (neg_ℤ (pos m)) ≡ false).
    let same = far_above z m e in
    record {
      bad = λ f. inr (tested_less (pos m) z (rw (same, f) refl));
      good = λ f. ⊎_elim (λ h. rw e at h.lt) (λ h. rw (same, f) at h.lt);
    })

pub fails_and : {a b : Bool} {P Q : Type 0} → Fails a P → Fails b Q → Fails (a && b) (P ⊎ Q)
fails_and {a = true} f g = record { bad = λ e. inr (g.bad e); good = λ e. ⊎_elim (f.good refl) (g.good e) }
fails_and {a = false} f g = record { bad = λ e. inl (f.bad refl); good = λ e. never e }

-- a test that fails only where P holds anyway, and the test of P
pub fails_early : {a b : Bool} {P : Type 0} → (a ≡ false → P) → Fails b P → Fails (a && b) P
fails_early {a = true} f g = g
fails_early {a = false} f g = record { bad = λ e. f refl; good = λ e. never e }

pub fails_last : {a : Bool} {P : Type 0} → Fails a P → Fails (a && true) P
fails_last {a = true} f = f
fails_last {a = false} f = f

pub fails_as : {a : Bool} {P Q : Type 0} → (P → Q) → (Q → P) → Fails a P → Fails a Q
fails_as f g h = record { bad = λ e. f (h.bad e); good = λ e q. h.good e (g q) }

pub fails_outside : (least most n : ℕ) → Fails (leb least n && leb n most) (Outside least most n)
fails_outside least most n = fails_and (fails_le least n) (fails_le n most)

-- ---- a test that passes exactly where P

pub record Passes (test : Bool) (P : Type 0) : Type 0 where
  pub yes : test ≡ true → P
  pub no : test ≡ false → Not P

pub passes_eq : (a b : ℕ) → Passes (eqb a b) (a ≡ b)
passes_eq a b = record { yes = eqb-true a b; no = eqb-false a b }

pub passes_le : (a b : ℕ) → Passes (leb a b) (a ≤ b)
passes_le a b = record { yes = leb-true a b; no = λ e h. let k = leb-false a b e in omega arith }

pub passes_or : {a b : Bool} {P Q : Type 0} → Passes a P → Passes b Q → Passes (a || b) (P ⊎ Q)
passes_or {a = true} f g = record { yes = λ e. inl (f.yes refl); no = λ e. never (sym e) }
passes_or {a = false} f g = record { yes = λ e. inr (g.yes e); no = λ e. ⊎_elim (f.no refl) (g.no e) }

pub passes_and : {a b : Bool} {P Q : Type 0} → Passes a P → Passes b Q → Passes (a && b) (P × Q)
passes_and {a = true} f g = record { yes = λ e. (f.yes refl, g.yes e); no = λ e w. g.no e w.1 }
passes_and {a = false} f g = record { yes = λ e. never e; no = λ e w. f.no refl w.0 }

pub passes_not : {a : Bool} {P : Type 0} → Passes a P → Passes (not a) (Not P)
passes_not {a = true} f = record { yes = λ e. never e; no = λ e w. w (f.yes refl) }
passes_not {a = false} f = record { yes = λ e. f.no refl; no = λ e. never (sym e) }

pub passes_never : Passes false ⊥
passes_never = record { yes = λ e. never e; no = λ e h. h }

pub passes_as : {a : Bool} {P Q : Type 0} → (P → Q) → (Q → P) → Passes a P → Passes a Q
passes_as f g h = record { yes = λ e. f (h.yes e); no = λ e q. h.no e (g q) }

-- a test that does not pass where P fails where not P
pub passes_fails : {a : Bool} {P : Type 0} → Passes a P → Fails a (Not P)
passes_fails f = record { bad = f.no; good = λ e n. n (f.yes e) }

-- ---- a check made of a test

pub ask_judges : (number detail : ℕ) {P : Type 0} (test : Bool) → Fails test P → Judges (row number detail P) (ask test number detail)
ask_judges number detail true f = λ d g. f.good refl g.1
ask_judges number detail false f = (refl, (refl, f.bad refl))

pub judges_as : (number detail : ℕ) {P Q : Type 0} → (P → Q) → (Q → P) → (v : Verdict) → Judges (row number detail P) v → Judges (row number detail Q) v
judges_as number detail f g (Ok tt) j = λ d h. j d (h.0, g h.1)
judges_as number detail f g (Err r) j = (j.0, (j.1.0, f j.1.1))

-- ---- a body's fields

abbrev pub all : List Field → Bool
all [] = true
all (f ∷ fields) = f.right && all fields

fields_asked : (number : ℕ) (fields : List Field) → fields_verdict number fields ≡ ask (all fields) number 0
unfolding fields_verdict
fields_asked number [] = refl
fields_asked number (f ∷ fields) = decide f.right (λ e. rw e (fields_asked number fields)) (λ e. rw e)

pub fields_judge : (number : ℕ) {P : Type 0} (fields : List Field) → Fails (all fields) P → Judges (row number 0 P) (fields_verdict number fields)
fields_judge number fields f = rw (fields_asked number fields) (ask_judges number 0 (all fields) f)

-- fields that keep one rule: one of them fails it
pub rule_fails : (rule : ℕ → Field) (P : ℕ → Type 0) → ((i : ℕ) → Fails (rule i).right (P i)) → (left i : ℕ)
    → Fails (all (fields_from rule left i)) ((j : ℕ) × (i ≤ j) × (j < i + left) × P j)
unfolding fields_from
rule_fails rule P each zero i = record { bad = λ e. never (sym e); good = λ e h. omega (arith, h.1, h.2) }
rule_fails rule P each (suc left) i =
    fails_as
    (⊎_elim (λ p. (i, omega arith, omega arith, p)) (λ r. (r.0, omega (arith, r.1), omega (arith, r.2), r.3)))
    (λ h. split h.0 i
    (λ (k : h.0 ≤ i). let e : h.0 ≡ i = omega (arith, h.1) in inl (rw e at h.3))
    (λ (k : i < h.0). inr (h.0, omega arith, omega (arith, h.2), h.3)))
    (fails_and (each i) (rule_fails rule P each left (i + 1)))
