-- How long a written text is.
use Rattle.std.specs.Prelude.{◌≡◌, refl, List, [], ◌∷◌, ◌++◌, ℕ, zero, suc, ◌+◌, ◌*◌, ◌/◌, ◌%◌, ◌≤◌, ◌<◌, length, take, drop}
use Rattle.std.proofs.Common.{arith, ne_eqb, length-append, length-take, length-drop}
use Rattle.laws.specs.Cases.{split}
use Rattle.hextext.specs.Written.{spell, checksum, head_and_data, record_text, writing, text_of, text_length}

pub length_spell : (b : List ℕ) → length (spell b) ≡ length b * 2
unfolding spell
length_spell [] = refl
length_spell (b ∷ l) = omega (arith, length_spell l)

pub length-record_text : (address type : ℕ) (d : List ℕ) → length (record_text address type d) ≡ 12 + 2 * length d
unfolding record_text head_and_data
length-record_text address type d =
    let h : List ℕ = head_and_data address type d ++ checksum (head_and_data address type d) ∷ [] in
    omega (arith, length-append (spell h) (10 ∷ []), length_spell h, length-append d (checksum (head_and_data address type d) ∷ []))

text_length_few : (n : ℕ) → 0 < n → n < 16 → text_length n ≡ 24 + n * 2
unfolding text_length
text_length_few n h k =
    let q : n / 16 ≡ 0 = omega arith in
    let r : n % 16 ≡ n = omega arith in
    rw (q, r, ne_eqb n 0 (λ (e : n ≡ 0). omega arith)) (omega arith)

text_length_many : (n : ℕ) → text_length (n + 16) ≡ 44 + text_length n
unfolding text_length
text_length_many n =
    let q : (n + 16) / 16 ≡ n / 16 + 1 = omega arith in
    let r : (n + 16) % 16 ≡ n % 16 = omega arith in
    rw (q, r) (omega arith)

pub text_length_none : text_length 0 ≡ 12
unfolding text_length
text_length_none = refl

pub length_writing : (most address : ℕ) (y : List ℕ) → length y ≤ most → length (writing most address y) ≡ text_length (length y)
unfolding writing
length_writing zero address [] h = omega (arith, length-record_text 0 1 [], text_length_none)
length_writing zero address (b ∷ y) h = absurd (omega arith)
length_writing (suc most) address [] h = omega (arith, length-record_text 0 1 [], text_length_none)
length_writing (suc most) address (b ∷ y) h =
    let z : List ℕ = b ∷ y in
    let ld = length-drop 16 z in
    let lt = length-take 16 z in
    let first = length-record_text address 0 (take 16 z) in
    let rest = length_writing most (address + 16) (drop 16 z) (omega arith) in
    rw (length-append (record_text address 0 (take 16 z)) (writing most (address + 16) (drop 16 z)), rest, first)
    (split 16 (length z)
    (λ (k : 16 ≤ length z).
    let e : length z ≡ length (drop 16 z) + 16 = omega arith in
    rw e (omega (arith, text_length_many (length (drop 16 z)))))
    (λ (k : length z < 16).
    let e : length (drop 16 z) ≡ 0 = omega arith in
    rw e (omega (arith, text_length_none, text_length_few (length z) (omega arith) k))))

pub length_text_of : (image : List ℕ) → length (text_of image) ≡ text_length (length image)
unfolding text_of
length_text_of image = length_writing (length image) 0 image (omega arith)

pub text_length_full : (n : ℕ) → text_length (16 * n) ≡ 44 * n + 12
unfolding text_length
text_length_full n =
    let q : 16 * n / 16 ≡ n = omega arith in
    let r : 16 * n % 16 ≡ 0 = omega arith in
    rw (q, r) (omega arith)

pub text_length_rest : (n r : ℕ) → 0 < r → r < 16 → text_length (16 * n + r) ≡ 44 * n + (12 + 2 * r) + 12
unfolding text_length
text_length_rest n r h k =
    let q : (16 * n + r) / 16 ≡ n = omega arith in
    let m : (16 * n + r) % 16 ≡ r = omega arith in
    rw (q, m, ne_eqb r 0 (λ (e : r ≡ 0). omega arith)) (omega arith)
