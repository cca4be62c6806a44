-- A record's checksum and its characters.
use Rattle.std.specs.Prelude.{◌≡◌, ℕ, ◌+◌, ◌-◌, ◌*◌, ◌/◌, ◌%◌, ◌^◌, List, [], ◌∷◌, ◌++◌, length, refl}
use Rattle.std.proofs.Common.{append_assoc, arith, length-append}
use Rattle.std.proofs.Math.Nat.{add-mod}
use Rattle.laws.specs.Sums.{total}
use Rattle.laws.specs.SumsLaws.{total_append}
use Rattle.laws.specs.BufferWrites.{WrittenAt, written_then}
use Rattle.hextext.specs.Written.{spell, checksum, head_and_data, record_text}
use Rattle.hextext.specs.WrittenLaws.{length_spell}
use Rattle.hexwrite.specs.DigitsLaws.{spell_append}

-- ---- the checksum

mod_256 : (n : ℕ) → n % 65536 % 256 ≡ n % 256
mod_256 n = omega arith

-- by the two sums modulo 65,536
pub checksum_of_sums : (l m : List ℕ) (a b sum : ℕ) → a ≡ total l % 65536 → b ≡ total m % 65536 → sum ≡ (a + b) % 2 ^ 16
    → (256 - sum % 256) % 256 ≡ checksum (l ++ m)
unfolding checksum
checksum_of_sums l m a b sum e f g =
    let s : sum % 256 ≡ total (l ++ m) % 256 =
    rw (g, mod_256 (a + b), add-mod a b 256, e, f, mod_256 (total l), mod_256 (total m), ← add-mod (total l) (total m) 256, ← total_append l m) in
    rw s

-- ---- the pieces of a record

pub wrote_head : (at : ℕ) (x d d₁ d₂ : List ℕ) → WrittenAt at (58 ∷ []) d d₁ → WrittenAt (at + 1) (spell x) d₁ d₂ → WrittenAt at (58 ∷ spell x) d d₂
wrote_head at x d d₁ d₂ w v = written_then at (at + 1) (58 ∷ []) (spell x) d d₁ d₂ w refl v

pub wrote_end : (at check : ℕ) (d d₁ d₂ : List ℕ) → WrittenAt at (spell (check ∷ [])) d d₁ → WrittenAt (at + 2) (10 ∷ []) d₁ d₂
    → WrittenAt at (spell (check ∷ []) ++ 10 ∷ []) d d₂
wrote_end at check d d₁ d₂ w v = written_then at (at + 2) (spell (check ∷ [])) (10 ∷ []) d d₁ d₂ w (omega (arith, length_spell (check ∷ []))) v

-- a record, and where the next one starts
pub record WroteRecord (at address kind : ℕ) (x d : List ℕ) (next : ℕ) (d' : List ℕ) : Type 0 where
  pub wrote : WrittenAt at (record_text address kind x) d d'
  pub follows : next ≡ at + 12 + length x * 2

abbrev head_of : (address kind : ℕ) → List ℕ → List ℕ
head_of address kind x = length x ∷ address / 256 ∷ address % 256 ∷ kind ∷ []

pub wrote_record : (at address kind check end : ℕ) (x d d₁ d₂ d₃ : List ℕ) → check ≡ checksum (head_of address kind x ++ x)
    → WrittenAt at (58 ∷ spell (head_of address kind x)) d d₁ → WrittenAt (at + 9) (spell x) d₁ d₂ → end ≡ at + 9 + length x * 2
    → WrittenAt end (spell (check ∷ []) ++ 10 ∷ []) d₂ d₃ → WroteRecord at address kind x d (end + 3) d₃
unfolding spell record_text head_and_data
wrote_record at address kind check end x d d₁ d₂ d₃ c w₁ w₂ e w₃ =
    let head : List ℕ = 58 ∷ spell (head_of address kind x) in
    let long : length (head ++ spell x) ≡ 9 + length x * 2 = omega (arith, length-append head (spell x), length_spell x) in
    let v = written_then at (at + 9) head (spell x) d d₁ d₂ w₁ refl w₂ in
    let u = written_then at end (head ++ spell x) (spell (check ∷ []) ++ 10 ∷ []) d d₂ d₃ v (omega arith) w₃ in
    record { wrote = rw (← c, spell_append x (check ∷ []), append_assoc (spell x) (spell (check ∷ [])) (10 ∷ [])) u; follows = omega arith }
