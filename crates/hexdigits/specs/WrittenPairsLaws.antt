-- Pairs of characters written as bytes: whether they are digits, what the bytes add up to, and the buffer that they are written into.
use Rattle.std.specs.Prelude.{◌≡◌, ℕ, zero, suc, ◌+◌, ◌-◌, ◌*◌, ◌%◌, ◌<◌, ◌≤◌, max, false, List, length, take, drop, slice_index, slice_set, refl, Option, Some, None}
use Rattle.std.proofs.Common.{◌∙◌, append_assoc, arith, add-one, length-set, drop-drop, take-add}
use Rattle.std.proofs.Math.Seq.{paste, paste-zero, paste-suc}
use Rattle.std.proofs.lemmas.List.Edits.{take-paste, drop-paste}
use Rattle.hextext.specs.Record.{digit, all_digits, bytes_of}
use Rattle.hextext.proofs.RecordLaws.{bytes_of_more, get_d_bytes_of, length_bytes_of}
use Rattle.hexdigits.specs.DigitsLaws.{digits_spell}
use Rattle.hexdigits.specs.PairsLaws.{PairsAddUp, add_up_then, AddingPairs, adding_first, adding_more}

-- ---- bytes from a place on, and written in two goes

pub bytes_of_drop : (l : List ℕ) (from n : ℕ) → from + n * 2 ≤ length l → bytes_of (drop (from + n * 2) l) ≡ drop n (bytes_of (drop from l))
bytes_of_drop l from zero h = let e : from + zero * 2 ≡ from = omega arith in rw e
bytes_of_drop l from (suc n) h =
    let e : from + suc n * 2 ≡ from + 2 + n * 2 = omega arith in
    rw (e, bytes_of_more l from (omega arith)) (bytes_of_drop l (from + 2) n (omega arith))

pub paste_then : (d : List ℕ) (to : ℕ) (bytes : List ℕ) (n m : ℕ) → to ≤ length d → n ≤ length bytes
    → paste (paste d to bytes n) (to + n) (drop n bytes) m ≡ paste d to bytes (n + m)
paste_then d to bytes n m h k =
    let e : to + n + m ≡ to + (n + m) = omega arith in
    rw (
      take-paste d to bytes n h k,
      ← drop-drop m (to + n) (paste d to bytes n),
      drop-paste d to bytes n h k,
      drop-drop m (to + n) d,
      e,
      take-add n m bytes,
      append_assoc (take to d) (take n bytes) (take m (drop n bytes)),
    )

-- ---- their sum modulo 256 and their bytes in the image, or nothing where a character is no digit

-- s is the sum, and the image d has the bytes in d'
pub record SumAndBytes (l : List ℕ) (from n : ℕ) (d d' : List ℕ) (to s : ℕ) : Type 0 where
  pub small : s < 256
  pub adds : PairsAddUp l from n s
  pub wrote : d' ≡ paste d to (bytes_of (drop from l)) n

abbrev pub PairsWritten : (l : List ℕ) (from n : ℕ) (d d' : List ℕ) (to : ℕ) → Option ℕ → Type 0
PairsWritten l from n d d' to (Some s) = SumAndBytes l from n d d' to s
PairsWritten l from n d d' to None = all_digits (drop from l) ≡ false

-- after i of them. The loop over blocks, which stops where one has no digits, says that the largest digit is 0
pub record WritingPairs (l : List ℕ) (from n : ℕ) (d d' : List ℕ) (to s largest i : ℕ) : Type 0 where
  pub adding : AddingPairs l from n s largest i
  pub wrote : largest < 16 → d' ≡ paste d to (bytes_of (drop from l)) i
  pub kept : length d' ≡ length d

pub writing_first : (l : List ℕ) (from n : ℕ) (d : List ℕ) (to : ℕ) → WritingPairs l from n d d to 0 0 0
writing_first l from n d to = record { adding = adding_first l from n; wrote = λ h. paste-zero d to (bytes_of (drop from l)); kept = refl }

module _ (l : List ℕ) (from n : ℕ) (d d' : List ℕ) (to s largest i : ℕ) (h : WritingPairs l from n d d' to s largest i) where
  pub writing_more : (high low next greater larger : ℕ) → from + n * 2 ≤ length l → to + n ≤ length d → i < n
      → high ≡ digit (slice_index l (from + i * 2)) → low ≡ digit (slice_index l (from + i * 2 + 1))
      → next ≡ (s + (high % 16 * 16 + low % 16)) % 256 → greater ≡ max high low → larger ≡ max largest greater
      → WritingPairs l from n d (slice_set d' (to + i) (high % 16 * 16 + low % 16)) to next larger (i + 1)
  writing_more high low next greater larger long room k p q e g f =
      record {
        adding = adding_more l from n s largest i h.adding high low next greater larger long k p q e g f;
        wrote = λ z.
            rw (
              h.wrote (omega arith),
              (digits_spell l (from + i * 2) high low p q (omega arith)).is,
              ← get_d_bytes_of l from i (omega arith),
              add-one i,
            )
            (paste-suc d to (bytes_of (drop from l)) i 0 (omega arith) (omega (arith, length_bytes_of l from n (omega arith))));
        kept = simp length-set h.kept;
      }

  pub writing_failed : 16 ≤ largest → PairsWritten l from n d d' to None
  writing_failed k = h.adding.bad k

  pub writing_end : n ≤ i → largest < 16 → PairsWritten l from n d d' to (Some s)
  writing_end k y =
      let e : i ≡ n = omega (arith, h.adding.within) in
      record { small = h.adding.small; adds = rw e at (h.adding.good y); wrote = rw e at (h.wrote y) }

-- m more at once
module _ (l : List ℕ) (from n : ℕ) (d d' : List ℕ) (to s largest i : ℕ) (h : WritingPairs l from n d d' to s largest i) (good : largest < 16)
    (m : ℕ) (d'' : List ℕ) where
  pub writing_block_failed : PairsWritten l (from + i * 2) m d' d'' (to + i) None → PairsWritten l from n d d'' to None
  writing_block_failed e = (h.adding.good good).digits ∙ e

  module _ (r : ℕ) (p : PairsWritten l (from + i * 2) m d' d'' (to + i) (Some r))
      (same_length : length d'' ≡ length d') (long : from + n * 2 ≤ length l) (room : to + n ≤ length d) where
    pub writing_block : m ≤ n - i → WritingPairs l from n d d'' to ((s + r) % 256) largest (i + m)
    writing_block k =
        record {
          adding = record {
            within = omega (arith, h.adding.within);
            small = omega arith;
            good = λ z. add_up_then l from i m s r (h.adding.good good) p.adds;
            bad = h.adding.bad;
          };
          wrote = λ z.
              rw (p.wrote, h.wrote good, bytes_of_drop l from i (omega (arith, h.adding.within)))
              (paste_then d to (bytes_of (drop from l)) i m (omega arith) (length_bytes_of l from i (omega (arith, h.adding.within))));
          kept = same_length ∙ h.kept;
        }

    -- the last of them
    pub writing_rest : m ≡ n - i → PairsWritten l from n d d'' to (Some ((s + r) % 256))
    writing_rest k =
        writing_end l from n d d'' to ((s + r) % 256) largest (i + m) (writing_block (omega arith)) (omega (arith, h.adding.within)) good
