-- A record taken: a law for each way out.
use Rattle.std.specs.Prelude.{◌≡◌, refl, true, List, [], ◌∷◌, ℕ, zero, suc, ◌+◌, ◌-◌, ◌*◌, ◌≤◌, min, ltb, length, take, drop, Err, Ok, Option, Some, None}
use Rattle.std.proofs.Common.{sym, ◌∙◌, arith, drop-drop, take-take, Fits}
use Rattle.std.proofs.Math.Nat.{sub-zero}
use Rattle.std.proofs.Math.Seq.{paste}
use Rattle.std.specs.Int.{w64}
use Rattle.limits.specs.Limits.{largest_image}
use Rattle.laws.specs.Cases.{never, both_right}
use Rattle.numbers.specs.Slices.{cleared_from}
use Rattle.hextext.specs.Answers.{LineRecord}
use Rattle.hextext.specs.declared.Record.TheVariants.{Data, End}
use Rattle.hextext.specs.Record.{digit, all_digits, bytes_of, record_bytes, count_of, data_of, judge}
use Rattle.hextext.proofs.RecordLaws.{record_bytes_head, formed_digits}
use Rattle.hexdigits.specs.Digits.{PutsBytes}
use Rattle.hexdigits.specs.WrittenPairsLaws.{PairsWritten}
use Rattle.hexdigits.specs.BytesLaws.{puts_pairs}
use Rattle.hexline.specs.Taken.{TakesRecord}
use Rattle.hexline.specs.TypedLaws.{GoodDataRecord, good_data_record}

-- the data of a line that is as long as its count says
pub data_from_nine : (l : List ℕ) (n : ℕ) → length l ≡ 11 + n * 2 → count_of (record_bytes l) ≡ n → data_of (record_bytes l) ≡ take n (bytes_of (drop 9 l))
unfolding data_of
data_from_nine l n h e = rw (e, record_bytes_head l (omega arith))

digits_after : (k : ℕ) (l : List ℕ) → all_digits l ≡ true → all_digits (drop k l) ≡ true
unfolding all_digits
digits_after zero l e = e
digits_after (suc k) [] e = refl
digits_after (suc k) (c ∷ l) e = digits_after k l (both_right (ltb (digit c) 16) (all_digits l) e)

-- the data of a record that is good are put as they are
module _ (l d : List ℕ) (at n : ℕ) (good : GoodDataRecord (min largest_image (length d)) at l n) (r : Option ℕ) (d' : List ℕ)
    (p : PutsBytes (take (n * 2) (drop 9 l)) at d r d') where
  written : PairsWritten l 9 n d d' at r
  written = puts_pairs l 9 n d d' at r (omega (arith, good.long)) (omega (arith, good.fits)) p

  digits : all_digits (drop 9 l) ≡ true
  digits = rw (← drop-drop 8 1 l) (digits_after 8 (drop 1 l) (formed_digits l good.good))

  pub data_put : d' ≡ paste d at (data_of (record_bytes l)) n
  data_put = by r written
    where
      by : (x : Option ℕ) → PairsWritten l 9 n d d' at x → d' ≡ paste d at (data_of (record_bytes l)) n
      by (Some s) w = w.wrote ∙ rw (data_from_nine l n good.long good.counts, take-take n n (bytes_of (drop 9 l)) (omega arith))
      by None no-digits = never (sym no-digits ∙ digits)

module _ (l d : List ℕ) (at room : ℕ) (m : room ≡ min largest_image (length d)) (judged : LineRecord) (e : judged ≡ judge room at l) where
  in_place : judged ≡ judge (min largest_image (length d)) at l
  in_place = rw m at e

  pub takes_end : judged ≡ Ok End → TakesRecord l at d judged d
  takes_end f = record { answers = in_place; holds = rw (← in_place, f) }

  pub takes_fault : (number : ℕ) (d' : List ℕ) → judged ≡ Err number → d' ≡ cleared_from 0 d → TakesRecord l at d judged d'
  takes_fault number d' f w = record { answers = in_place; holds = rw (← in_place, f) (w ∙ rw (sub-zero (length d))) }

  module _ (n : ℕ) (f : judged ≡ Ok (Data n)) where
    good : GoodDataRecord (min largest_image (length d)) at l n
    good = good_data_record (min largest_image (length d)) at l n (sym in_place ∙ f)

    pub takes_pairs_fit : Fits w64 (n * 2)
    takes_pairs_fit = omega (arith, good.fits)

    pub takes_end_fits : Fits w64 (9 + n * 2)
    takes_end_fits = omega (arith, good.fits)

    pub takes_long : 9 + n * 2 ≤ length l
    takes_long = omega (arith, good.long)

    pub takes_data : (r : Option ℕ) (d' : List ℕ) → PutsBytes (take (9 + n * 2 - 9) (drop 9 l)) at d r d' → TakesRecord l at d judged d'
    takes_data r d' p =
        let all : 9 + n * 2 - 9 ≡ n * 2 = omega arith in
        record { answers = in_place; holds = rw (← in_place, f) (data_put l d at n good r d' (rw all at p)) }
