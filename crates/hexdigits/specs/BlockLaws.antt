-- A block of a line's characters, taken out: what is put of it is put of the line.
use Rattle.std.specs.Prelude.{◌≡◌, ℕ, zero, suc, ◌+◌, ◌-◌, ◌*◌, ◌/◌, ◌%◌, ◌<◌, ◌≤◌, true, ◌&&◌, List, [], ◌∷◌, ◌++◌, length, take, drop, nat_lt, slice_index, slice_set, refl, false, Option, Some, None}
use Rattle.std.proofs.Common.{sym, ◌∙◌, arith, add-one, length-take, length-drop, length-set, take-append-drop, drop_of_length-le, take-suc, take-suc-set, take_all, get_or-drop}
use Rattle.std.proofs.Math.Bool.{and_assoc}
use Rattle.std.proofs.Math.Seq.{drop-drop}
use Rattle.std.proofs.lemmas.List.{take-append-le}
use Rattle.laws.specs.Sums.{total}
use Rattle.laws.specs.SumsLaws.{total_append}
use Rattle.hextext.specs.Record.{digit, all_digits, bytes_of}
use Rattle.hextext.proofs.RecordLaws.{length_bytes_of}
use Rattle.hexdigits.specs.PairsLaws.{PairsAddUp}
use Rattle.hexdigits.specs.WrittenPairsLaws.{SumAndBytes, PairsWritten, WritingPairs, writing_block, writing_block_failed, writing_rest}

-- ---- the characters copied

-- the first i of the 32 from a place on
pub record CharactersCopied (l : List ℕ) (from : ℕ) (b : List ℕ) (i : ℕ) : Type 0 where
  pub within : i ≤ 32
  pub long : length b ≡ 32
  pub same : take i b ≡ take i (drop from l)

pub copied_first : (l : List ℕ) (from : ℕ) (b : List ℕ) → length b ≡ 32 → CharactersCopied l from b 0
copied_first l from b h = record { within = omega arith; long = h; same = refl }

module _ (l : List ℕ) (from : ℕ) (b : List ℕ) (i : ℕ) (h : CharactersCopied l from b i) where
  pub copied_more : i < 32 → from + 32 ≤ length l → CharactersCopied l from (slice_set b i (slice_index l (from + i))) (i + 1)
  copied_more k room =
      record {
        within = omega arith;
        long = length-set b i (slice_index l (from + i)) ∙ h.long;
        same = rw (
          add-one i,
          take-suc-set b i (slice_index l (from + i)) (omega (arith, h.long)),
          h.same,
          take-suc (drop from l) i 0 (omega (arith, length-drop from l)),
          get_or-drop from l i 0,
        );
      }

  pub copied_end : 32 ≤ i → b ≡ take 32 (drop from l)
  copied_end k =
      let e : i ≡ 32 = omega (arith, h.within) in
      let whole : take 32 b ≡ b = take_all 32 b (omega (arith, h.long)) in
      sym whole ∙ rw e at h.same

-- ---- its pairs

all_digits-append : (b rest : List ℕ) → all_digits (b ++ rest) ≡ (all_digits b && all_digits rest)
unfolding all_digits
all_digits-append [] rest = refl
all_digits-append (c ∷ b) rest = rw (all_digits-append b rest) (sym (and_assoc (nat_lt (digit c) 16) (all_digits b) (all_digits rest)))

bytes_of_append : (n : ℕ) (b rest : List ℕ) → length b ≡ n * 2 → bytes_of (b ++ rest) ≡ bytes_of b ++ bytes_of rest
unfolding bytes_of
bytes_of_append zero [] rest h = refl
bytes_of_append zero (c ∷ b) rest h = absurd (omega arith)
bytes_of_append (suc n) [] rest h = absurd (omega arith)
bytes_of_append (suc n) (a ∷ []) rest h = absurd (omega arith)
bytes_of_append (suc n) (a ∷ c ∷ b) rest h = rw (bytes_of_append n b rest (omega arith))

module _ (l : List ℕ) (from n : ℕ) (b : List ℕ) (block : b ≡ take (n * 2) (drop from l)) (long : from + n * 2 ≤ length l) where
  rest : List ℕ
  rest = drop (from + n * 2) l

  joined : drop from l ≡ b ++ rest
  unfolding rest
  joined = rw (block, ← drop-drop (n * 2) from l) (sym (take-append-drop (n * 2) (drop from l)))

  size : length b ≡ n * 2
  size = rw block (omega (arith, length-take (n * 2) (drop from l), length-drop from l))

  none_left : drop (0 + n * 2) b ≡ []
  none_left = drop_of_length-le b {i = 0 + n * 2} (omega (arith, size))

  module _ (r : ℕ) (q : PairsAddUp b 0 n r) where
    all_digits_lem : all_digits b ≡ true
    unfolding all_digits
    all_digits_lem = q.digits ∙ rw none_left

    sums : total (bytes_of b) % 256 ≡ r % 256
    unfolding bytes_of total
    sums = let e : total (bytes_of (drop (0 + n * 2) b)) ≡ 0 = rw none_left in omega (arith, q.sum, e)

    add_up_of_block : PairsAddUp l from n r
    unfolding rest
    add_up_of_block =
        record {
          digits = rw (joined, all_digits-append b rest, all_digits_lem);
          sum = rw (joined, bytes_of_append n b rest size, total_append (bytes_of b) (bytes_of rest)) (omega (arith, sums));
        }

  pub written_of_block : (d d' : List ℕ) (to : ℕ) (r : Option ℕ) → PairsWritten b 0 n d d' to r → PairsWritten l from n d d' to r
  written_of_block d d' to (Some s) p =
      record {
        small = p.small;
        adds = add_up_of_block s p.adds;
        wrote = p.wrote ∙ rw (joined, bytes_of_append n b rest size, take-append-le n (bytes_of b) (bytes_of rest) (length_bytes_of b 0 n (omega (arith, size))));
      }
  written_of_block d d' to None e = rw (joined, all_digits-append b rest, e)

-- ---- after i blocks of 16

module _ (l : List ℕ) (from n : ℕ) (d d' : List ℕ) (to s put i : ℕ) (h : WritingPairs l from n d d' to s 0 put) (is : put ≡ i * 16) (d'' : List ℕ)
    (long : from + n * 2 ≤ length l) where
  -- one more
  module _ (b : List ℕ) (block : b ≡ take 32 (drop (from + i * 32) l)) (more : i < n / 16) where
    of_line : (r : Option ℕ) → PairsWritten b 0 16 d' d'' (to + i * 16) r → PairsWritten l (from + put * 2) 16 d' d'' (to + put) r
    of_line r p =
        let place : from + put * 2 ≡ from + i * 32 = omega arith in
        let there : to + put ≡ to + i * 16 = omega arith in
        written_of_block l (from + put * 2) 16 b (rw place block) (omega arith) d' d'' (to + put) r (rw there p)

    pub block_failed : all_digits b ≡ false → (r : Option ℕ) → r ≡ None → PairsWritten l from n d d'' to r
    block_failed e r none = rw none (writing_block_failed l from n d d' to s 0 put h (omega arith) 16 d'' (of_line None e))

    pub block_more : (r : ℕ) → SumAndBytes b 0 16 d' d'' (to + i * 16) r → length d'' ≡ length d' → to + n ≤ length d
        → WritingPairs l from n d d'' to ((s + r) % 256) 0 (put + 16)
    block_more r p same room = writing_block l from n d d' to s 0 put h (omega arith) 16 d'' r (of_line (Some r) p) same long room (omega arith)

  -- what is left
  pub rest_failed : all_digits (drop (from + put * 2) l) ≡ false → (r : Option ℕ) → r ≡ None → PairsWritten l from n d d'' to r
  rest_failed e r none = rw none (writing_block_failed l from n d d' to s 0 put h (omega arith) (n - put) d'' e)

  pub rest_more : (r : ℕ) → SumAndBytes l (from + put * 2) (n - put) d' d'' (to + put) r → length d'' ≡ length d'
      → to + n ≤ length d → SumAndBytes l from n d d'' to ((s + r) % 256)
  rest_more r p same room = writing_rest l from n d d' to s 0 put h (omega arith) (n - put) d'' r p same long room refl
