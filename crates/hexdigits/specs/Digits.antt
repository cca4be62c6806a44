-- What pairs of digits spell: the sum of their bytes, and the bytes written into a buffer.
use Rattle.std.specs.Prelude.{◌≡◌, ℕ, ◌+◌, ◌/◌, ◌%◌, cond, ◌&&◌, List, length, replicate, ◌==◌, nat_le, Option, Some, None, is_some}
use Rattle.std.proofs.Math.Seq.{paste}
use Rattle.laws.specs.Sums.{total}
use Rattle.hextext.specs.Record.{all_digits, bytes_of}

-- the sum modulo 256 of the bytes that pairs of digits spell, none where the characters are no such pairs
unfoldable pub digits_sum : List ℕ → Option ℕ
digits_sum l = cond (length l % 2 == 0 && all_digits l) (Some (total (bytes_of l) % 256)) None

-- the same where the bytes have room from place `to` on in a buffer of so many, none where they have not
unfoldable pub roomy_sum : (characters : List ℕ) (to size : ℕ) → Option ℕ
roomy_sum characters to size = cond (nat_le (to + length characters / 2) size) (digits_sum characters) None

-- the buffer with the bytes in it, all zeros where there is no such sum
unfoldable pub bytes_put : (characters : List ℕ) (to : ℕ) (buffer : List ℕ) → List ℕ
bytes_put characters to buffer =
    cond (is_some (roomy_sum characters to (length buffer)))
    (paste buffer to (bytes_of characters) (length characters / 2))
    (replicate (length buffer) 0)

-- the sum r of the bytes, and the buffer, which was `before` and is `after`
pub record PutsBytes (characters : List ℕ) (to : ℕ) (before : List ℕ) (r : Option ℕ) (after : List ℕ) : Type 0 where
  pub answers : r ≡ roomy_sum characters to (length before)
  pub holds : after ≡ bytes_put characters to before
