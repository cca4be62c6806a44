-- A line that is found by its record's count is the line that reading gathers, up to its LF.
use Rattle.std.specs.Prelude.{◌≡◌, refl, true, false, ◌&&◌, List, [], ◌∷◌, ◌++◌, ℕ, zero, suc, ◌+◌, ◌-◌, ◌*◌, ◌≤◌, ◌<◌, length, take, drop, get_or, Some, None, is_some}
use Rattle.std.proofs.Common.{sym, ap, ◌∙◌, append-nil, append_assoc, suc-le-suc, arith, add-one, take-append-drop, drop-cons, take-suc, get_or-drop}
use borrow.Author.Tests.{eq-eqb, eqb-true}
use Rattle.std.proofs.Math.Dec.{eqb}
use Rattle.std.proofs.Math.ListN.{get_or-eq_default}
use Rattle.std.proofs.Math.Seq.{get_or-take, take-take, length-take-le}
use Rattle.laws.specs.Cases.{split, decide, never, both_left, both_right}
use Rattle.refusals.specs.Refusals.{refused, refusal}
use Rattle.hextext.specs.Record.{all_digits, record_bytes, count_of, data_of, formed, judge}
use Rattle.hextext.proofs.RecordLaws.{byte_at, record_bytes_head, formed_long, formed_length, formed_digits, formed_colon, judge_unformed}
use Rattle.hextext.specs.Text.{bare, after, reading}
use Rattle.hextext.proofs.WithoutLaws.{Without, without_append, without_one, digits_without, bare_without}
use Rattle.hextext.proofs.TextLaws.{reading_line}
use Rattle.hexline.specs.Line.{next_line}
use Rattle.hexline.specs.EndsLaws.{next_lf, next_crlf}

-- ---- a line end

-- the text u has a line end at e, and the next line starts at the index
pub data Ends (u : List ℕ) (e : ℕ) : ℕ → Type 0 where
  lf : e < length u → get_or u e 0 ≡ 10 → Ends u e (e + 1)
  crlf : e + 1 < length u → get_or u e 0 ≡ 13 → get_or u (e + 1) 0 ≡ 10 → Ends u e (e + 2)

there : (u : List ℕ) (i c : ℕ) → get_or u i 0 ≡ c → 0 < c → i < length u
there u i c w h = split (length u) i (λ k. omega (arith, get_or-eq_default u 0 k)) (λ k. k)

module _ (u : List ℕ) (e : ℕ) where
  pub ends_found : (next : ℕ) → Some next ≡ next_line u e → Ends u e next
  unfolding next_line
  ends_found next f =
      decide (eqb (get_or u e 0) 10)
      (λ (q : eqb (get_or u e 0) 10 ≡ true).
      let w = eqb-true (get_or u e 0) 10 q in
      let n : next ≡ e + 1 = cc (rw q at f) in
      rw n (lf (there u e 10 w (omega arith)) w))
      (λ (q : eqb (get_or u e 0) 10 ≡ false). decide (eqb (get_or u e 0) 13 && eqb (get_or u (e + 1) 0) 10)
      (λ (p : (eqb (get_or u e 0) 13 && eqb (get_or u (e + 1) 0) 10) ≡ true).
      let r = eqb-true (get_or u e 0) 13 (both_left (eqb (get_or u e 0) 13) (eqb (get_or u (e + 1) 0) 10) p) in
      let w = eqb-true (get_or u (e + 1) 0) 10 (both_right (eqb (get_or u e 0) 13) (eqb (get_or u (e + 1) 0) 10) p) in
      let n : next ≡ e + 2 = cc (rw (q, p) at f) in
      rw n (crlf (there u (e + 1) 10 w (omega arith)) r w))
      (λ (p : (eqb (get_or u e 0) 13 && eqb (get_or u (e + 1) 0) 10) ≡ false). let none : Some next ≡ None = rw (q, p) at f in never (sym (ap is_some none))))

  pub ends_none : None ≡ next_line u e → (next : ℕ) → Ends u e next → ⊥
  ends_none f next (lf h w) = never (ap is_some (f ∙ sym (next_lf u e w)))
  ends_none f next (crlf h r w) = never (ap is_some (f ∙ sym (next_crlf u e (λ v. omega arith) r w)))

pub ends_inside : {u : List ℕ} {e next : ℕ} → Ends u e next → e < length u
ends_inside (lf h k) = h
ends_inside (crlf h k j) = omega arith

pub next_inside : {u : List ℕ} {e next : ℕ} → Ends u e next → next ≤ length u
next_inside (lf h k) = omega arith
next_inside (crlf h k j) = omega arith

pub next_further : {u : List ℕ} {e next : ℕ} → Ends u e next → 1 ≤ next
next_further (lf h k) = omega arith
next_further (crlf h k j) = omega arith

-- u starts with a colon, digits as many as the count says, and a line end
pub record StartsWithRecord (u : List ℕ) : Type 0 where
  pub next : ℕ
  pub colon : get_or u 0 0 ≡ 58
  pub digits : all_digits (drop 1 (take (11 + byte_at u 1 * 2) u)) ≡ true
  pub ends : Ends u (11 + byte_at u 1 * 2) next

-- ---- characters that no digit is

line_without : (l : List ℕ) (c : ℕ) → get_or l 0 0 ≡ 58 → all_digits (drop 1 l) ≡ true → 0 < c → c < 48 → Without c l
line_without l c colon e p q zero w = omega arith
line_without l c colon e p q (suc i) w =
    let j : 1 + i ≡ suc i = omega arith in
    digits_without (drop 1 l) c e p q i (rw (get_or-drop 1 l i 0, j) w)

-- ---- reading at a line

-- a text of which no line is formed
reading_unformed : (room k : ℕ) (x passed u : List ℕ) → ((p : ℕ) → p < length u → get_or u p 0 ≡ 10 → formed (bare (passed ++ take p u)) ≡ false)
    → reading room k x passed u ≡ refused (refusal 1 k)
unfolding reading after
reading_unformed room k x passed [] h = refl
reading_unformed room k x passed (c ∷ u) h =
    decide (eqb c 10)
    (λ (q : eqb c 10 ≡ true).
    let e : formed (bare passed) ≡ false = rw (append-nil passed) at (h 0 (omega arith) (eqb-true c 10 q)) in
    rw (q, judge_unformed room (length x) (bare passed) e))
    (λ (q : eqb c 10 ≡ false).
    rw q (reading_unformed room k x (passed ++ c ∷ []) u (λ p hp e. rw (append_assoc passed (c ∷ []) (take p u)) (h (suc p) (suc-le-suc hp) e))))

-- ---- a line before its end

module _ (u : List ℕ) (p : ℕ) (h : p ≤ length u) where
  bare_cr : eqb (get_or (take p u) (length (take p u) - 1) 0) 13 ≡ true → bare (take p u) ≡ take (p - 1) u
  unfolding bare
  bare_cr q = rw (q, length-take-le p u h, take-take (p - 1) p u (omega arith))

  bare_no_cr : eqb (get_or (take p u) (length (take p u) - 1) 0) 13 ≡ false → bare (take p u) ≡ take p u
  unfolding bare
  bare_no_cr q = rw q

  last_character : 1 ≤ p → get_or (take p u) (length (take p u) - 1) 0 ≡ get_or u (p - 1) 0
  last_character k = rw (length-take-le p u h, get_or-take p u (p - 1) 0 (omega arith))

  pub count_of_line : 3 ≤ p → byte_at (take p u) 1 ≡ byte_at u 1
  unfolding byte_at
  count_of_line k = rw (get_or-take p u 1 0 (omega arith), get_or-take p u (1 + 1) 0 (omega arith))

  line_length : formed (take p u) ≡ true → p ≡ 11 + byte_at u 1 * 2
  line_length f =
      let l = length-take-le p u h in
      let m = formed_long (take p u) f in
      let b : count_of (record_bytes (take p u)) ≡ byte_at u 1 = rw (record_bytes_head (take p u) (omega arith)) (count_of_line (omega arith)) in
      omega (arith, formed_length (take p u) f)

  line_colon : formed (take p u) ≡ true → get_or u 0 0 ≡ 58
  line_colon f =
      let l = length-take-le p u h in
      let m = formed_long (take p u) f in
      sym (get_or-take p u 0 0 (omega arith)) ∙ formed_colon (take p u) f

  starts : {next : ℕ} → formed (take p u) ≡ true → Ends u p next → StartsWithRecord u
  starts {next} f e =
      let n = line_length f in
      record { next = next; colon = line_colon f; digits = rw (← n) (formed_digits (take p u) f); ends = rw (← n) e }

-- a formed line at an LF
starts_at : (u : List ℕ) (p : ℕ) → p < length u → get_or u p 0 ≡ 10 → formed (bare (take p u)) ≡ true → StartsWithRecord u
starts_at u p h w f =
    let hp : p ≤ length u = omega arith in
    let last : ℕ = get_or (take p u) (length (take p u) - 1) 0 in
    decide (eqb last 13)
    (λ (q : eqb last 13 ≡ true).
    let g : formed (take (p - 1) u) ≡ true = rw (bare_cr u p hp q) at f in
    let m = formed_long (take (p - 1) u) g in
    let l = length-take-le (p - 1) u (omega arith) in
    let r : p - 1 + 1 ≡ p = omega arith in
    starts u (p - 1) (omega arith) g (crlf (omega arith) (sym (last_character u p hp (omega arith)) ∙ eqb-true last 13 q) (rw r w)))
    (λ (q : eqb last 13 ≡ false). starts u p hp (rw (bare_no_cr u p hp q) at f) (lf h w))

-- ---- the two laws

-- a text that does not start with a record's line
pub reading_no_record : (room k : ℕ) (x u : List ℕ) → (StartsWithRecord u → ⊥) → reading room k x [] u ≡ refused (refusal 1 k)
reading_no_record room k x u none =
    reading_unformed room k x [] u
    (λ p h w. decide (formed (bare (take p u)))
    (λ (q : formed (bare (take p u)) ≡ true). absurd (none (starts_at u p h w q)))
    (λ (q : formed (bare (take p u)) ≡ false). q))

cut : (u : List ℕ) (e : ℕ) → e < length u → u ≡ take e u ++ get_or u e 0 ∷ drop (e + 1) u
cut u e h = sym (take-append-drop e u) ∙ ap (λ (z : List ℕ). take e u ++ z) (rw (add-one e) (drop-cons u e 0 h))

-- a text that does
pub reading_record : (room k : ℕ) (x u : List ℕ) (e next : ℕ) → Ends u e next → get_or (take e u) 0 0 ≡ 58 → all_digits (drop 1 (take e u)) ≡ true
    → reading room k x [] u
    ≡ after (judge room (length x) (take e u)) k x (drop next u) (reading room (k + 1) (x ++ data_of (record_bytes (take e u))) [] (drop next u))
reading_record room k x u e next (lf h w) c a =
    ap (λ (z : List ℕ). reading room k x [] z) (cut u e h ∙ ap (λ (b : ℕ). take e u ++ b ∷ drop (e + 1) u) w)
    ∙ reading_line room k x [] (take e u) (drop (e + 1) u) (line_without (take e u) 10 c a (omega arith) (omega arith))
    ∙ rw (bare_without (take e u) (line_without (take e u) 13 c a (omega arith) (omega arith)))
reading_record room k x u e next (crlf h r w) c a =
    let s : take (e + 1) u ≡ take e u ++ 13 ∷ [] = rw (add-one e, take-suc u e 0 (omega arith), r) in
    let n : e + 1 + 1 ≡ e + 2 = omega arith in
    let one : Without 10 (13 ∷ []) = without_one 10 13 (omega arith) (λ (q : 13 ≡ 10). omega arith) in
    let o : Without 10 (take (e + 1) u) = rw s (without_append 10 (take e u) (13 ∷ []) (line_without (take e u) 10 c a (omega arith) (omega arith)) one) in
    ap (λ (z : List ℕ). reading room k x [] z) (cut u (e + 1) h ∙ ap (λ (b : ℕ). take (e + 1) u ++ b ∷ drop (e + 1 + 1) u) w)
    ∙ reading_line room k x [] (take (e + 1) u) (drop (e + 1 + 1) u) o
    ∙ rw (bare_before_cr, n)
  where
    bare_before_cr : bare (take (e + 1) u) ≡ take e u
    bare_before_cr =
        let m : e + 1 - 1 ≡ e = omega arith in
        let z : get_or (take (e + 1) u) (length (take (e + 1) u) - 1) 0 ≡ 13 = rw (last_character u (e + 1) (omega arith) (omega arith), m) r in
        let y = bare_cr u (e + 1) (omega arith) (eq-eqb (get_or (take (e + 1) u) (length (take (e + 1) u) - 1) 0) 13 z) in
        rw m at y
