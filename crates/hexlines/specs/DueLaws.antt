-- A data record at the address that is due, by its characters: what it is judged as, and what the buffer holds where it turns out to be another.
use Rattle.std.specs.Prelude.{◌≡◌, Bool, true, false, not, List, ℕ, ◌+◌, ◌-◌, ◌*◌, ◌/◌, ◌%◌, ◌≤◌, min, length, take, drop, get_or, Err, Ok, Option, Some, None}
use Rattle.std.proofs.Math.Path.{refl, sym}
use Rattle.std.proofs.Common.{◌∙◌, length-take, length-drop, length-take-le, take-take, take_at}
use native.Mathlib.Omega.{arith}
use borrow.Author.Tests.{eq-eqb}
use Rattle.std.proofs.Math.Seq.{paste}
use Rattle.std.proofs.lemmas.List.Edits.{take-paste, drop-paste}
use Rattle.limits.specs.Limits.{largest_image}
use Rattle.laws.specs.Cases.{decide}
use Rattle.laws.specs.Sums.{total}
use Rattle.hextext.specs.Answers.{LineRecord}
use Rattle.hextext.specs.declared.Record.TheVariants.{Data, End}
use Rattle.hextext.specs.Record.{all_digits, record_bytes, data_of, formed, summed, line_of, placed, judge}
use Rattle.hextext.proofs.RecordLaws.{byte_at, all_digits_end, bytes_total_end, formed_at, formed_length, record_bytes_head}
use Rattle.hexdigits.specs.Digits.{PutsBytes}
use Rattle.hexdigits.specs.DigitsLaws.{SpellsByte}
use Rattle.hexdigits.specs.PairsLaws.{PairsAddUp, add_up_one, add_up_then}
use Rattle.hexdigits.specs.BytesLaws.{puts_pairs, puts_roomy}
use Rattle.hexline.specs.Taken.{after_taken, TakesRecord}
use Rattle.hexline.specs.TypedLaws.{good_data_record, data_length, typed_data, end_empty}
use Rattle.hexline.specs.TakenLaws.{data_put}
use Rattle.hexlines.specs.LettersLaws.{When, when_yes, AddressDue}
use Rattle.hexlines.specs.CountLaws.{Counted}

-- ---- another record after all

-- whatever the record of l is, taking it gives the same whether the buffer is d or d'
pub record TakenAlike (l : List ℕ) (at : ℕ) (d d' : List ℕ) : Type 0 where
  pub size : length d' ≡ length d
  pub same : after_taken (judge (min largest_image (length d)) at l) at (data_of (record_bytes l)) d'
      ≡ after_taken (judge (min largest_image (length d)) at l) at (data_of (record_bytes l)) d

paste_again : (d : List ℕ) (at : ℕ) (bytes : List ℕ) (n : ℕ) → at ≤ length d → n ≤ length bytes → paste (paste d at bytes n) at bytes n ≡ paste d at bytes n
paste_again d at bytes n h k =
    let p = paste d at bytes n in
    let front : take at p ≡ take at d =
    sym (take-take at (at + n) p (omega arith)) ∙ rw (take-paste d at bytes n h k) (take_at (take at d) (take n bytes) at (length-take-le at d h)) in
    rw (front, drop-paste d at bytes n h k)

not_end : (room at : ℕ) (l : List ℕ) → judge room at l ≡ Ok End → length l ≡ 11
unfolding judge placed line_of
not_end room at l e =
    decide (formed l)
    (λ (q : formed l ≡ true).
    decide (summed (record_bytes l))
    (λ (s : summed (record_bytes l) ≡ true).
    let none = end_empty room at _ _ _ (rw (q, s) at e) in
    omega (arith, formed_length l q, none))
    (λ (s : summed (record_bytes l) ≡ false). let z : ◌≡◌ {A = LineRecord} (Err 2) (Ok End) = rw (q, s) at e in let y : ◌≡◌ {A = ℕ} 0 1 = cc in absurd (omega arith)))
    (λ (q : formed l ≡ false). let z : ◌≡◌ {A = LineRecord} (Err 1) (Ok End) = rw q at e in let y : ◌≡◌ {A = ℕ} 0 1 = cc in absurd (omega arith))

module _ (l : List ℕ) (n at : ℕ) (d : List ℕ) (c : Counted l n) (r : Option ℕ) (d' : List ℕ) (p : PutsBytes (take (n * 2) (drop 9 l)) at d r d')
    (size : length d' ≡ length d) where
  by_record : (x : LineRecord) → x ≡ judge (min largest_image (length d)) at l
      → after_taken x at (data_of (record_bytes l)) d' ≡ after_taken x at (data_of (record_bytes l)) d
  by_record (Ok (Data m)) e =
      let good = good_data_record (min largest_image (length d)) at l m (sym e) in
      let all : n ≡ m = omega (arith, c.long, good.long) in
      let put = data_put l d at m good r d' (rw all at p) in
      rw put (paste_again d at (data_of (record_bytes l)) m (omega (arith, good.fits)) (omega (arith, data_length l m good)))
  by_record (Ok End) e = let none = not_end (min largest_image (length d)) at l (sym e) in absurd (omega (arith, c.long, c.some))
  by_record (Err number) e = rw size

  pub put_alike : TakenAlike l at d d'
  put_alike = record { size = size; same = by_record _ refl }

-- ---- taken

-- the answer is the count of a record that was taken; or nothing is lost
abbrev pub RecordDue : (l : List ℕ) (at : ℕ) (d : List ℕ) → Option ℕ → (d' : List ℕ) → Type 0
RecordDue l at d (Some n) d' = TakesRecord l at d (Ok (Data n)) d'
RecordDue l at d None d' = TakenAlike l at d d'

pub due_untouched : (l : List ℕ) (at : ℕ) (d : List ℕ) → TakenAlike l at d d
due_untouched l at d = record { size = refl; same = refl }

mod_then : (a b : ℕ) → (a % 256 + b) % 256 ≡ (a + b) % 256
mod_then a b = omega arith

all_mod : (n high low s check : ℕ) → (((((n + high) % 256 + low) % 256 + 0) % 256 + s) % 256 + check) % 256 ≡ (n + high + low + s + check) % 256
all_mod n high low s check =
    let zero : n + high + low + 0 ≡ n + high + low = omega arith in
    rw (mod_then (n + high) low, mod_then (n + high + low) 0, zero, mod_then (n + high + low) s, mod_then (n + high + low + s) check)

module _ (l : List ℕ) (n at : ℕ) (d : List ℕ) (c : Counted l n) (inside : at ≤ 4096 - n) (due : AddressDue l at) (s : ℕ) (d' : List ℕ)
    (p : PutsBytes (take (n * 2) (drop 9 l)) at d (Some s) d') (check : ℕ) (checks : SpellsByte l (9 + n * 2) check)
    (adds : (n + at / 256 + at % 256 + s + check) % 256 ≡ 0) where
  fits : at + n ≤ length d
  fits =
      let half : length (take (n * 2) (drop 9 l)) / 2 ≡ n = omega (arith, length-take (n * 2) (drop 9 l), length-drop 9 l, c.long) in
      omega (arith, half, puts_roomy (take (n * 2) (drop 9 l)) at d s d' p)

  pairs : PairsAddUp l 9 n s
  pairs = (puts_pairs l 9 n d d' at (Some s) (omega (arith, c.long)) fits p).adds

  all_pairs : PairsAddUp l 1 (4 + n + 1) ((((((n + at / 256) % 256 + at % 256) % 256 + 0) % 256 + s) % 256 + check) % 256)
  all_pairs =
      let one = add_up_one l 1 n (omega (arith, c.long)) c.count in
      let two = add_up_then l 1 1 1 n (at / 256) one (add_up_one l 3 (at / 256) (omega (arith, c.long)) due.high) in
      let three = add_up_then l 1 2 1 _ (at % 256) two (add_up_one l 5 (at % 256) (omega (arith, c.long)) due.low) in
      let four = add_up_then l 1 3 1 _ 0 three (add_up_one l 7 0 (omega (arith, c.long)) due.kind) in
      let block = add_up_then l 1 4 n _ s four pairs in
      let place : 9 + n * 2 ≡ 1 + (4 + n) * 2 = omega arith in
      add_up_then l 1 (4 + n) 1 _ check block (rw place at (add_up_one l (9 + n * 2) check (omega (arith, c.long)) checks))

  digits : all_digits (drop 1 l) ≡ true
  digits = all_pairs.digits ∙ all_digits_end l (1 + (4 + n + 1) * 2) (omega (arith, c.long))

  adds_up : total (record_bytes l) % 256 ≡ 0
  unfolding record_bytes
  adds_up =
      omega (
        arith,
        all_pairs.sum,
        bytes_total_end l (1 + (4 + n + 1) * 2) (omega (arith, c.long)),
        all_mod n (at / 256) (at % 256) s check,
        adds,
      )

  counted : byte_at l 1 ≡ n
  counted = sym c.count.is

  is_formed : formed l ≡ true
  is_formed =
      rw (
        formed_at l (omega (arith, c.long)),
        eq-eqb (get_or l 0 0) 58 c.colon,
        digits,
        eq-eqb (length l - 1) ((byte_at l 1 + 5) * 2) (omega (arith, counted, c.long)),
      )

  judged : judge (min largest_image (length d)) at l ≡ Ok (Data n)
  unfolding judge placed line_of summed
  judged =
      let parts = record_bytes_head l (omega (arith, c.long)) in
      let address : byte_at l 3 * 256 + byte_at l 5 ≡ at = omega (arith, due.high.is, due.low.is) in
      let kind : byte_at l 7 ≡ 0 = sym due.kind.is in
      rw (is_formed, eq-eqb (total (record_bytes l) % 256) 0 adds_up, parts, counted, address, kind)
      (sym (typed_data (min largest_image (length d)) at n at 0 refl (λ z. omega (arith, c.some)) refl (omega (arith, fits, c.small))))

  due_taken : TakesRecord l at d (Ok (Data n)) d'
  due_taken =
      let put = data_put l d at n (good_data_record (min largest_image (length d)) at l n judged) (Some s) d' p in
      record { answers = sym judged; holds = rw judged put }

check_completes : (m : ℕ) → (m + (256 - m % 256) % 256) % 256 ≡ 0
check_completes m = omega arith

pub due_taken_when : (l : List ℕ) (n at : ℕ) (d : List ℕ) → Counted l n → at ≤ 4096 - n → (here : Bool) → When here (AddressDue l at) → not here ≡ false
    → (o : Option ℕ) (d' : List ℕ) → PutsBytes (take (n * 2) (drop 9 l)) at d o d' → (s : ℕ) → o ≡ Some s
    → (answer : Bool) → When answer (SpellsByte l (9 + n * 2) ((256 - (n + at / 256 + at % 256 + s) % 256) % 256)) → answer ≡ true
    → TakesRecord l at d (Ok (Data n)) d'
due_taken_when l n at d c inside here a t o d' p s e answer w q =
    due_taken l n at d c inside (when_yes here a t) s d' (rw e at p) ((256 - (n + at / 256 + at % 256 + s) % 256) % 256) (w.says q)
    (check_completes (n + at / 256 + at % 256 + s))

-- ---- the data put

module _ (l : List ℕ) (n at : ℕ) (d : List ℕ) (r : Option ℕ) (d' : List ℕ) where
  pub usual_put : n ≡ 16 → PutsBytes (take 32 (drop 9 l)) at d r d' → PutsBytes (take (n * 2) (drop 9 l)) at d r d'
  usual_put e p = rw e p

  pub others_put : PutsBytes (take (9 + n * 2 - 9) (drop 9 l)) at d r d' → PutsBytes (take (n * 2) (drop 9 l)) at d r d'
  others_put p = let e : 9 + n * 2 - 9 ≡ n * 2 = omega arith in rw e at p
