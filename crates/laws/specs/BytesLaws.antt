-- Lists of bytes, joined and cut, are lists of bytes.
use Rattle.std.specs.Prelude.{List, [], ◌∷◌, ◌++◌, ℕ, zero, suc, ◌+◌, ◌<◌, take, drop}
use Rattle.std.proofs.Common.{arith, get_or-drop}
use Rattle.laws.specs.Bytes.{Bytes}

pub bytes_nil : Bytes []
bytes_nil i = omega arith

pub bytes_cons : (b : ℕ) (l : List ℕ) → b < 256 → Bytes l → Bytes (b ∷ l)
bytes_cons b l h k zero = h
bytes_cons b l h k (suc i) = k i

pub bytes_append : (l m : List ℕ) → Bytes l → Bytes m → Bytes (l ++ m)
bytes_append [] m h k = k
bytes_append (b ∷ l) m h k = bytes_cons b (l ++ m) (h 0) (bytes_append l m (λ i. h (suc i)) k)

pub bytes_front : (l m : List ℕ) → Bytes (l ++ m) → Bytes l
bytes_front [] m h = bytes_nil
bytes_front (b ∷ l) m h = bytes_cons b l (h 0) (bytes_front l m (λ i. h (suc i)))

pub bytes_take : (n : ℕ) (l : List ℕ) → Bytes l → Bytes (take n l)
bytes_take zero l h = bytes_nil
bytes_take (suc n) [] h = h
bytes_take (suc n) (b ∷ l) h = bytes_cons b (take n l) (h 0) (bytes_take n l (λ i. h (suc i)))

pub bytes_drop : (n : ℕ) (l : List ℕ) → Bytes l → Bytes (drop n l)
bytes_drop n l h i = rw (get_or-drop n l i 0) (h (n + i))
