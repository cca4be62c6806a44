-- A line that is as long as its count says, judged, with its data in the image: a law for each way out.
use Rattle.std.specs.Prelude.{◌≡◌, refl, Bool, false, cond, List, ℕ, ◌+◌, ◌-◌, ◌*◌, ◌%◌, ◌≤◌, ◌<◌, min, ltb, eqb, length, take, drop, get_or, Err, Ok, Option, Some, None}
use Rattle.std.proofs.Common.{sym, ◌∙◌, arith, take-take}
use Rattle.std.proofs.Math.Bool.{true, and-true}
use borrow.Author.Tests.{eq-eqb, ne_eqb, eqb-true, eqb-false, lt-ltb, le-ltb}
use Rattle.std.proofs.Math.Seq.{paste, paste-zero}
use Rattle.limits.specs.Limits.{largest_image}
use Rattle.laws.specs.Cases.{split, decide}
use Rattle.laws.specs.Sums.{total}
use Rattle.hextext.specs.Answers.{LineRecord}
use Rattle.hextext.specs.declared.Record.TheVariants.{Data, End}
use Rattle.hextext.specs.Record.{all_digits, bytes_of, record_bytes, data_of, formed, summed, line_of, typed, placed, judge}
use Rattle.hextext.proofs.RecordLaws.{byte_at, all_digits_end, bytes_total_more, bytes_total_end, formed_at, judge_unformed, record_bytes_head}
use Rattle.hexline.specs.TypedLaws.{end_empty, good_data_record}
use Rattle.hexdigits.specs.Digits.{PutsBytes}
use Rattle.hexdigits.specs.WrittenPairsLaws.{SumAndBytes, PairsWritten}
use Rattle.hexdigits.specs.BytesLaws.{puts_pairs}
use Rattle.hexline.specs.Taken.{TakesRecord}
use Rattle.hexline.specs.TakenLaws.{data_from_nine}
use Rattle.hexread.specs.DigitsLaws.{no_digit, Pair, pair_below, pair_byte, pair_digits, pair_none, none_after_pair}

-- ---- a record judged by its parts

-- what keeps their sum from wrapping
pub record Bounded (count high low kind check : ℕ) : Type 0 where
  pub counts : count < 256
  pub highs : high ≤ no_digit * 17
  pub lows : low ≤ no_digit * 17
  pub kinds : kind ≤ no_digit * 17
  pub checks : check ≤ no_digit * 17

-- digits and checksum, then the header
unfoldable pub judged_parts : (room at count high low kind s check : ℕ) → LineRecord
judged_parts room at count high low kind s check =
    cond (ltb (count + high + low + kind + s + check) no_digit)
    (cond (eqb ((count + high + low + kind + s + check) % 256) 0) (typed room at count (high * 256 + low) kind) (Err 2))
    (Err 1)

module _ (room at count high low kind s check : ℕ) where
  abbrev sum : ℕ
  sum = count + high + low + kind + s + check

  abbrev Judged : LineRecord → Type 0
  Judged r = r ≡ judged_parts room at count high low kind s check

  pub parts_bad_pair : no_digit ≤ sum → Judged (Err 1)
  unfolding judged_parts
  parts_bad_pair k = rw (le-ltb sum no_digit k)

  module _ (k : sum < no_digit) where
    pub parts_bad_sum : (sum % 256 ≡ 0 → ⊥) → Judged (Err 2)
    unfolding judged_parts
    parts_bad_sum e = rw (lt-ltb sum no_digit k, ne_eqb (sum % 256) 0 e)

    pub parts_typed : (r : LineRecord) → r ≡ typed room at count (high * 256 + low) kind → sum % 256 ≡ 0 → Judged r
    unfolding judged_parts
    parts_typed r t e = rw (lt-ltb sum no_digit k, eq-eqb (sum % 256) 0 e) t

-- ---- a line

-- a line with a colon and a good count n, as long as n says
pub record Counted (l : List ℕ) (n : ℕ) : Type 0 where
  pub long : length l ≡ 11 + n * 2
  pub colon : get_or l 0 0 ≡ 58
  pub counts : n ≡ byte_at l 1
  pub small : n < 256
  pub digits : all_digits (drop 1 l) ≡ all_digits (drop 3 l)

-- the judgement r of the line l, and for a data record the image d with its data at `at`, as d'
pub record RecordTaken (r : LineRecord) (l d d' : List ℕ) (room at : ℕ) : Type 0 where
  pub judged : r ≡ judge room at l
  pub wrote : (n : ℕ) → r ≡ Ok (Data n) → d' ≡ paste d at (data_of (record_bytes l)) n
  pub same : r ≡ Ok End → d' ≡ d

taken_fault : (k : ℕ) (l d d' : List ℕ) (room at : ℕ) → judge room at l ≡ Err k → RecordTaken (Err k) l d d' room at
taken_fault k l d d' room at j =
    record {
      judged = sym j;
      wrote = λ m q. let z : ◌≡◌ {A = ℕ} 0 1 = cc in absurd (omega arith);
      same = λ q. let z : ◌≡◌ {A = ℕ} 0 1 = cc in absurd (omega arith);
    }

last_byte : (l : List ℕ) (i check : ℕ) → Pair l i check → check < 256 → length l ≡ i + 2 → total (bytes_of (drop i l)) ≡ check
last_byte l i check p h e = omega (arith, bytes_total_more l i (omega arith), bytes_total_end l (i + 2) (omega arith), pair_byte l i check p h)

parts_add_up : (n high low kind t s last check : ℕ) → t % 256 ≡ (s + last) % 256 → last ≡ check
    → (n + (high + (low + (kind + t)))) % 256 ≡ (n + high + low + kind + s + check) % 256
parts_add_up n high low kind t s last check e f = omega arith

module _ (l : List ℕ) (n : ℕ) (v : Counted l n) where
  long : 11 ≤ length l
  long = omega (arith, v.long)

  -- such a line is formed where all its characters after the colon are digits
  pub formed_by_digits : (b : Bool) → all_digits (drop 1 l) ≡ b → formed l ≡ b
  formed_by_digits b e =
      rw (formed_at l long, eq-eqb (get_or l 0 0) 58 v.colon, e, eq-eqb (length l - 1) ((byte_at l 1 + 5) * 2) (omega (arith, v.long, v.counts)))
      (and-true b)

  module _ (d d' : List ℕ) (room at : ℕ) where
    no_digits : all_digits (drop 1 l) ≡ false → RecordTaken (Err 1) l d d' room at
    no_digits e = taken_fault 1 l d d' room at (judge_unformed room at l (formed_by_digits false e))

    module _ (high low kind : ℕ) (ph : Pair l 3 high) (pl : Pair l 5 low) (pk : Pair l 7 kind) where
      pub taken_bad_data : all_digits (drop 9 l) ≡ false → RecordTaken (Err 1) l d d' room at
      taken_bad_data no-data =
          let after-kind = none_after_pair l 7 kind pk (omega (arith, long)) no-data in
          let after-low = none_after_pair l 5 low pl (omega (arith, long)) after-kind in
          no_digits (v.digits ∙ none_after_pair l 3 high ph (omega (arith, long)) after-low)

      module _ (s : ℕ) (w : SumAndBytes l 9 n d d' at s) (check : ℕ) (pc : Pair l (9 + n * 2) check) where
        -- the first pair that is no digits
        taken_bad_pair : no_digit ≤ n + high + low + kind + s + check → RecordTaken (Err 1) l d d' room at
        taken_bad_pair h =
            no_digits (v.digits ∙ split 256 high (pair_none l 3 high ph (omega (arith, long)))
            (λ hh. pair_digits l 3 high ph (omega (arith, long)) hh ∙ split 256 low (pair_none l 5 low pl (omega (arith, long)))
            (λ hl. pair_digits l 5 low pl (omega (arith, long)) hl ∙ split 256 kind (pair_none l 7 kind pk (omega (arith, long)))
            (λ hk. pair_digits l 7 kind pk (omega (arith, long)) hk
            ∙ w.adds.digits
            ∙ pair_none l (9 + n * 2) check pc (omega (arith, v.long)) (omega (arith, v.small, w.small))))))

        module _ (below : n + high + low + kind + s + check < no_digit) where
          hh : high < 256
          hh = pair_below l 3 high ph (omega arith)

          hl : low < 256
          hl = pair_below l 5 low pl (omega arith)

          hk : kind < 256
          hk = pair_below l 7 kind pk (omega arith)

          hc : check < 256
          hc = pair_below l (9 + n * 2) check pc (omega arith)

          digits_all : all_digits (drop 1 l) ≡ true
          digits_all =
              v.digits
              ∙ pair_digits l 3 high ph (omega (arith, long)) hh
              ∙ pair_digits l 5 low pl (omega (arith, long)) hl
              ∙ pair_digits l 7 kind pk (omega (arith, long)) hk
              ∙ w.adds.digits
              ∙ pair_digits l (9 + n * 2) check pc (omega (arith, v.long)) hc
              ∙ all_digits_end l (9 + n * 2 + 2) (omega (arith, v.long))

          total_of_pairs : total (record_bytes l) % 256 ≡ (n + high + low + kind + s + check) % 256
          unfolding total
          total_of_pairs =
              rw (
                record_bytes_head l (omega (arith, long)),
                ← v.counts,
                ← pair_byte l 3 high ph hh,
                ← pair_byte l 5 low pl hl,
                ← pair_byte l 7 kind pk hk,
              )
              (parts_add_up n high low kind _ s _ check w.adds.sum (last_byte l (9 + n * 2) check pc hc (omega (arith, v.long))))

          taken_bad_sum : ((n + high + low + kind + s + check) % 256 ≡ 0 → ⊥) → RecordTaken (Err 2) l d d' room at
          unfolding judge placed line_of summed
          taken_bad_sum h =
              taken_fault 2 l d d' room at (rw (formed_by_digits true digits_all, total_of_pairs, ne_eqb ((n + high + low + kind + s + check) % 256) 0 h))

          judge_typed : (n + high + low + kind + s + check) % 256 ≡ 0 → judge room at l ≡ typed room at n (high * 256 + low) kind
          unfolding judge placed line_of summed
          judge_typed h =
              rw (
                formed_by_digits true digits_all,
                total_of_pairs,
                eq-eqb ((n + high + low + kind + s + check) % 256) 0 h,
                record_bytes_head l (omega (arith, long)),
                ← v.counts,
                ← pair_byte l 3 high ph hh,
                ← pair_byte l 5 low pl hl,
                ← pair_byte l 7 kind pk hk,
              )

          taken_typed : (r : LineRecord) → (n + high + low + kind + s + check) % 256 ≡ 0 → r ≡ typed room at n (high * 256 + low) kind
              → at ≤ room → room ≤ length d → RecordTaken r l d d' room at
          taken_typed r h e within roomy =
              record {
                judged = e ∙ sym (judge_typed h);
                wrote = λ m t.
                    let u = good_data_record room at l m (judge_typed h ∙ sym e ∙ t) in
                    let same : n ≡ m = omega (arith, v.long, u.long) in
                    rw (w.wrote, same, data_from_nine l m u.long u.counts, take-take m m (bytes_of (drop 9 l)) (omega arith));
                same = λ t.
                    let none : n ≡ 0 = end_empty room at n (high * 256 + low) kind (sym e ∙ t) in
                    rw (w.wrote, none) (sym (paste-zero d at (bytes_of (drop 9 l))));
              }

        taken_by_parts : (r : LineRecord) → r ≡ judged_parts room at n high low kind s check → at ≤ room → room ≤ length d → RecordTaken r l d d' room at
        taken_by_parts r e within roomy =
            split no_digit (sum room at n high low kind s check)
            (λ h. rw (e, ← parts_bad_pair room at n high low kind s check h) (taken_bad_pair h))
            (λ below. decide (eqb (sum room at n high low kind s check % 256) 0)
            (λ (q : eqb (sum room at n high low kind s check % 256) 0 ≡ true).
            let z = eqb-true (sum room at n high low kind s check % 256) 0 q in
            taken_typed below r z (e ∙ sym (parts_typed room at n high low kind s check below _ refl z)) within roomy)
            (λ (q : eqb (sum room at n high low kind s check % 256) 0 ≡ false).
            let z = eqb-false (sum room at n high low kind s check % 256) 0 q in
            rw (e, ← parts_bad_sum room at n high low kind s check below z) (taken_bad_sum below z)))

-- with its data put
module _ (l : List ℕ) (n : ℕ) (v : Counted l n) (d d' : List ℕ) (room at high low kind : ℕ) (ph : Pair l 3 high) (pl : Pair l 5 low) (pk : Pair l 7 kind)
    (o : Option ℕ) (p : PutsBytes (take (9 + n * 2 - 9) (drop 9 l)) at d o d') (within : at ≤ room) (fits : n ≤ room - at) (m : room ≡ min largest_image (length d))
  where
    written : PairsWritten l 9 n d d' at o
    written =
        let all : 9 + n * 2 - 9 ≡ n * 2 = omega arith in
        puts_pairs l 9 n d d' at o (omega (arith, v.long)) (omega arith) (rw all at p)

    pub taken_by_bytes : (s : ℕ) → o ≡ Some s → (check : ℕ) → Pair l (9 + n * 2) check
        → (r : LineRecord) → r ≡ judged_parts room at n high low kind s check → RecordTaken r l d d' room at
    taken_by_bytes s z check pc r e = taken_by_parts l n v d d' room at high low kind ph pl pk s (rw z at written) check pc r e within (omega arith)

    pub taken_no_bytes : o ≡ None → RecordTaken (Err 1) l d d' room at
    taken_no_bytes z = taken_bad_data l n v d d' room at high low kind ph pl pk (rw z at written)

-- ---- a line whose data have no room

pub taken_by_line : (l d d' : List ℕ) (room at : ℕ) (r : LineRecord) → room ≡ min largest_image (length d) → TakesRecord l at d r d' → RecordTaken r l d d' room at
taken_by_line l d d' room at r m t =
    record {
      judged = t.answers ∙ rw m;
      wrote = λ n e. let j = sym t.answers ∙ e in rw j at t.holds;
      same = λ e. let j = sym t.answers ∙ e in rw j at t.holds;
    }
