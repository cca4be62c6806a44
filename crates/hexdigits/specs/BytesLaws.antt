-- Bytes put into a buffer: a law for each way out, and what it says of the pairs of a longer line that they are taken from.
use Rattle.std.specs.Prelude.{◌≡◌, ℕ, ◌+◌, ◌-◌, ◌*◌, ◌/◌, ◌%◌, ◌<◌, ◌≤◌, Bool, true, false, cond, not, leb, List, length, take, drop, ◌≢◌, nat_le, refl, Option, Some, None, is_some}
use Rattle.std.proofs.Math.Path.{sym}
use Rattle.std.proofs.Common.{ap, ◌∙◌, arith, length-take, length-drop}
use Rattle.std.proofs.Math.Nat.{sub-zero}
use borrow.Author.Tests.{eq-eqb, le-leb, lt-leb, leb-true}
use Rattle.std.proofs.Math.Seq.{paste}
use Rattle.laws.specs.Cases.{decide, never}
use Rattle.laws.specs.Sums.{total}
use Rattle.numbers.specs.Slices.{cleared_from}
use Rattle.hextext.specs.Record.{all_digits, bytes_of}
use Rattle.hextext.proofs.RecordLaws.{all_digits_end, bytes_total_end}
use Rattle.hexdigits.specs.Digits.{digits_sum, roomy_sum, bytes_put, PutsBytes}
use Rattle.hexdigits.specs.PairsLaws.{sum_odd}
use Rattle.hexdigits.specs.WrittenPairsLaws.{PairsWritten}
use Rattle.hexdigits.specs.BlockLaws.{written_of_block}

-- the sum r, and where there is one the bytes in the buffer; where there is none the buffer holds anything
pub record PutsWhereRoom (characters : List ℕ) (to : ℕ) (before : List ℕ) (r : Option ℕ) (after : List ℕ) : Type 0 where
  pub answers : r ≡ roomy_sum characters to (length before)
  pub holds : is_some r ≡ true → after ≡ paste before to (bytes_of characters) (length characters / 2)

-- ---- each way out

-- whatever the room, where the characters are no pairs of digits
unpaired : (l : List ℕ) (to size : ℕ) → digits_sum l ≡ None → roomy_sum l to size ≡ None
unfolding roomy_sum
unpaired l to size e =
    decide (nat_le (to + length l / 2) size) (λ (q : leb (to + length l / 2) size ≡ true). rw q e)
    (λ (q : leb (to + length l / 2) size ≡ false). rw q)

roomless : (l : List ℕ) (to size : ℕ) → size < to + length l / 2 → roomy_sum l to size ≡ None
unfolding roomy_sum
roomless l to size h = rw (lt-leb (to + length l / 2) size h)

module _ (l d : List ℕ) (to : ℕ) where
  puts_nothing : (d' : List ℕ) → roomy_sum l to (length d) ≡ None → PutsWhereRoom l to d None d'
  puts_nothing d' e = record { answers = sym e; holds = λ s. never s }

  pub puts_odd : (length l % 2 ≢ 0) → PutsWhereRoom l to d None d
  puts_odd h = puts_nothing d (unpaired l to (length d) (sym (sum_odd l h)))

  pub puts_outside : length d < to → PutsWhereRoom l to d None d
  puts_outside h = puts_nothing d (roomless l to (length d) (omega arith))

  pub puts_no_room : to ≤ length d → length d - to < length l / 2 → PutsWhereRoom l to d None d
  puts_no_room k h = puts_nothing d (roomless l to (length d) (omega arith))

  module _ (even : length l % 2 ≡ 0) (inside : to ≤ length d) (room : length l / 2 ≤ length d - to) (d' : List ℕ) where
    pub puts_in_room : (r : Option ℕ) → PairsWritten l 0 (length l / 2) d d' to r → PutsWhereRoom l to d r d'
    unfolding roomy_sum digits_sum
    puts_in_room (Some s) p =
        let digits : all_digits l ≡ true = p.adds.digits ∙ all_digits_end l (0 + length l / 2 * 2) (omega arith) in
        let sum : s ≡ total (bytes_of l) % 256 = omega (arith, p.adds.sum, bytes_total_end l (0 + length l / 2 * 2) (omega arith), p.small) in
        let fits : leb (to + length l / 2) (length d) ≡ true = le-leb (to + length l / 2) (length d) (omega arith) in
        record { answers = rw (fits, eq-eqb (length l % 2) 0 even, digits) (ap Some sum); holds = λ h. p.wrote }
    puts_in_room None no-digits =
        let none : digits_sum l ≡ None = rw (eq-eqb (length l % 2) 0 even, no-digits) in
        puts_nothing d' (unpaired l to (length d) none)

-- the buffer kept where there is a sum, and cleared where there is none
module _ (l d : List ℕ) (to : ℕ) (d' : List ℕ) (r : Option ℕ) (w : PutsWhereRoom l to d r d') (none : Bool) (e : is_some r ≡ not none) where
  pub puts_all : none ≡ false → PutsBytes l to d r d'
  unfolding bytes_put
  puts_all f =
      let some : is_some r ≡ true = rw f at e in
      record { answers = w.answers; holds = rw (← w.answers, some) (w.holds some) }

  pub puts_none : none ≡ true → length d' ≡ length d → (d'' : List ℕ) → d'' ≡ cleared_from 0 d' → PutsBytes l to d r d''
  unfolding bytes_put
  puts_none t same d'' cleared =
      let no-sum : is_some r ≡ false = rw t at e in
      record { answers = w.answers; holds = rw (← w.answers, no-sum, ← same) (cleared ∙ rw (sub-zero (length d'))) }

-- ---- pairs of a line

-- n pairs from a place of the line on, put into a buffer that has room for them
module _ (l : List ℕ) (from n : ℕ) (d d' : List ℕ) (to : ℕ) (r : Option ℕ) (long : from + n * 2 ≤ length l) (room : to + n ≤ length d)
    (p : PutsBytes (take (n * 2) (drop from l)) to d r d') where
  abbrev pairs : List ℕ
  pairs = take (n * 2) (drop from l)

  size : length pairs ≡ n * 2
  size = omega (arith, length-take (n * 2) (drop from l), length-drop from l)

  half : length pairs / 2 ≡ n
  half = omega (arith, size)

  sum_is : r ≡ cond (all_digits pairs) (Some (total (bytes_of pairs) % 256)) None
  unfolding roomy_sum digits_sum
  sum_is =
      p.answers
      ∙ rw (le-leb (to + length pairs / 2) (length d) (omega (arith, half)), eq-eqb (length pairs % 2) 0 (omega (arith, size)))

  written_lem : PairsWritten pairs 0 n d d' to r
  unfolding bytes_put
  written_lem =
      decide (all_digits pairs)
      (λ (q : all_digits pairs ≡ true).
      let sum : r ≡ Some (total (bytes_of pairs) % 256) = rw q at sum_is in
      let wrote : d' ≡ paste d to (bytes_of pairs) n = p.holds ∙ rw (← p.answers, sum, half) in
      rw sum
      (record {
        small = omega arith;
        adds = record {
          digits = q ∙ sym (all_digits_end pairs (0 + n * 2) (omega (arith, size)));
          sum = omega (arith, bytes_total_end pairs (0 + n * 2) (omega (arith, size)));
        };
        wrote = wrote;
      }))
      (λ (q : all_digits pairs ≡ false). let none : r ≡ None = rw q at sum_is in rw none q)

  pub puts_pairs : PairsWritten l from n d d' to r
  puts_pairs = written_of_block l from n pairs refl long d d' to r written_lem

-- what is put had room
pub puts_roomy : (l : List ℕ) (to : ℕ) (d : List ℕ) (s : ℕ) (d' : List ℕ) → PutsBytes l to d (Some s) d' → to + length l / 2 ≤ length d
unfolding roomy_sum
puts_roomy l to d s d' p =
    decide (nat_le (to + length l / 2) (length d)) (λ (q : leb (to + length l / 2) (length d) ≡ true). leb-true (to + length l / 2) (length d) q)
    (λ (q : leb (to + length l / 2) (length d) ≡ false). let e : Some s ≡ None = rw q at p.answers in never (sym (ap is_some e)))
