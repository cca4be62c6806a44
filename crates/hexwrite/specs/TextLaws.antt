-- The text of what is left of an image, and how long it is.
use Rattle.std.specs.Prelude.{◌≡◌, ℕ, zero, suc, ◌+◌, ◌*◌, ◌/◌, ◌%◌, ◌<◌, ◌≤◌, List, [], ◌∷◌, ◌++◌, length, take, drop, ◌≢◌, refl}
use Rattle.std.proofs.Common.{ap, arith, eq-eqb, ne_eqb, length-drop}
use Rattle.laws.specs.Cases.{split}
use Rattle.hextext.specs.Written.{record_text, writing, text_length}
use Rattle.hextext.specs.WrittenLaws.{length_writing}

-- the text of the part y of an image at an address
unfoldable pub text_from : (address : ℕ) → List ℕ → List ℕ
text_from address y = writing (length y) address y

-- any number of records that is enough gives the same
writing_enough : (f g address : ℕ) (y : List ℕ) → length y ≤ f → length y ≤ g → writing f address y ≡ writing g address y
unfolding writing
writing_enough zero zero address y h k = refl
writing_enough zero (suc g) address [] h k = refl
writing_enough zero (suc g) address (b ∷ y) h k = absurd (omega arith)
writing_enough (suc f) zero address [] h k = refl
writing_enough (suc f) zero address (b ∷ y) h k = absurd (omega arith)
writing_enough (suc f) (suc g) address [] h k = refl
writing_enough (suc f) (suc g) address (b ∷ y) h k =
    let l = length-drop 16 (b ∷ y) in
    ap (λ (t : List ℕ). record_text address 0 (take 16 (b ∷ y)) ++ t) (writing_enough f g (address + 16) (drop 16 (b ∷ y)) (omega arith) (omega arith))

pub text_none : (address : ℕ) (y : List ℕ) → length y ≤ 0 → text_from address y ≡ record_text 0 1 []
unfolding text_from writing
text_none address [] h = refl
text_none address (b ∷ y) h = absurd (omega arith)

pub text_more : (address : ℕ) (y : List ℕ) → 0 < length y → text_from address y ≡ record_text address 0 (take 16 y) ++ text_from (address + 16) (drop 16 y)
unfolding text_from writing
text_more address [] h = absurd (omega arith)
text_more address (b ∷ y) h =
    let l = length-drop 16 (b ∷ y) in
    ap (λ (t : List ℕ). record_text address 0 (take 16 (b ∷ y)) ++ t)
    (writing_enough (length y) (length (drop 16 (b ∷ y))) (address + 16) (drop 16 (b ∷ y)) (omega arith) (omega arith))

-- ---- its length

pub length_whole : (n : ℕ) → n % 16 ≡ 0 → n / 16 * 44 + 12 ≡ text_length n
unfolding text_length
length_whole n e = rw (eq-eqb (n % 16) 0 e) (omega arith)

pub length_part : (n : ℕ) → (n % 16 ≢ 0) → n / 16 * 44 + (12 + n % 16 * 2) + 12 ≡ text_length n
unfolding text_length
length_part n e = rw (ne_eqb (n % 16) 0 e)

pub length_from : (address : ℕ) (y : List ℕ) → length (text_from address y) ≡ text_length (length y)
unfolding text_from
length_from address y = length_writing (length y) address y (omega arith)

-- a record of all the bytes would be no longer
pub length_room : (n : ℕ) → 12 + n * 2 ≤ text_length n
length_room n =
    split (n % 16) 0 (λ (z : n % 16 ≤ 0). omega (arith, length_whole n (omega arith))) (λ (z : 0 < n % 16). omega (arith, length_part n (λ e. omega arith)))
