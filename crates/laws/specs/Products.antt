-- Products of whole numbers, distributive and associative: the laws that the kit's lib.IntN lacks.
use Rattle.std.specs.Prelude.{◌≡◌, refl, ℕ, zero, suc, ◌*◌, ℤ, pos, negsuc, neg_ℤ, ◌+ℤ◌, ◌-ℤ◌, ◌*ℤ◌}
use Rattle.std.proofs.Common.{sym, ap, ap₂, ◌∙◌}
use Rattle.std.proofs.Math.IntN.{suc_ℤ, pred_ℤ, +ℤ_assoc, +ℤ_comm, +ℤ_idl, suc_ℤ-+ℤ, pred_ℤ-+ℤ, suc_ℤ-*ℤ, pred_ℤ-*ℤ, zero-*ℤ, *ℤ_comm, neg_ℤ-neg_ℤ}

last_two_exchanged : (x y z : ℤ) → (x +ℤ y) +ℤ z ≡ (x +ℤ z) +ℤ y
last_two_exchanged x y z = +ℤ_assoc x y z ∙ ap (λ (k : ℤ). x +ℤ k) (+ℤ_comm y z) ∙ sym (+ℤ_assoc x z y)

one_more : (m b k : ℤ) → (m +ℤ b) *ℤ k ≡ m *ℤ k +ℤ b *ℤ k → (suc_ℤ m +ℤ b) *ℤ k ≡ suc_ℤ m *ℤ k +ℤ b *ℤ k
one_more m b k e =
    ap (λ (x : ℤ). x *ℤ k) (suc_ℤ-+ℤ m b)
    ∙ suc_ℤ-*ℤ (m +ℤ b) k
    ∙ ap (λ (x : ℤ). x +ℤ k) e
    ∙ last_two_exchanged (m *ℤ k) (b *ℤ k) k
    ∙ ap (λ (x : ℤ). x +ℤ b *ℤ k) (sym (suc_ℤ-*ℤ m k))

one_less : (m b k : ℤ) → (m +ℤ b) *ℤ k ≡ m *ℤ k +ℤ b *ℤ k → (pred_ℤ m +ℤ b) *ℤ k ≡ pred_ℤ m *ℤ k +ℤ b *ℤ k
one_less m b k e =
    ap (λ (x : ℤ). x *ℤ k) (pred_ℤ-+ℤ m b)
    ∙ pred_ℤ-*ℤ (m +ℤ b) k
    ∙ ap (λ (x : ℤ). x -ℤ k) e
    ∙ last_two_exchanged (m *ℤ k) (b *ℤ k) (neg_ℤ k)
    ∙ ap (λ (x : ℤ). x +ℤ b *ℤ k) (sym (pred_ℤ-*ℤ m k))

distributive_pos : (n : ℕ) (b k : ℤ) → (pos n +ℤ b) *ℤ k ≡ pos n *ℤ k +ℤ b *ℤ k
distributive_pos zero b k = rw (+ℤ_idl b, zero-*ℤ k, +ℤ_idl (b *ℤ k))
distributive_pos (suc n) b k = one_more (pos n) b k (distributive_pos n b k)

distributive_negsuc : (n : ℕ) (b k : ℤ) → (negsuc n +ℤ b) *ℤ k ≡ negsuc n *ℤ k +ℤ b *ℤ k
distributive_negsuc zero b k = one_less (pos zero) b k (distributive_pos zero b k)
distributive_negsuc (suc n) b k = one_less (negsuc n) b k (distributive_negsuc n b k)

-- distribution, from either side
pub distributive : (a b k : ℤ) → (a +ℤ b) *ℤ k ≡ a *ℤ k +ℤ b *ℤ k
distributive (pos n) b k = distributive_pos n b k
distributive (negsuc n) b k = distributive_negsuc n b k

pub distributive_left : (k a b : ℤ) → k *ℤ (a +ℤ b) ≡ k *ℤ a +ℤ k *ℤ b
distributive_left k a b = *ℤ_comm k (a +ℤ b) ∙ distributive a b k ∙ ap₂ (λ (x y : ℤ). x +ℤ y) (*ℤ_comm a k) (*ℤ_comm b k)

pub product_negated : (a b : ℤ) → neg_ℤ a *ℤ b ≡ neg_ℤ (a *ℤ b)
product_negated (pos zero) b = rw (zero-*ℤ b)
product_negated (pos (suc n)) (pos m) = refl
product_negated (pos (suc n)) (negsuc m) = sym (neg_ℤ-neg_ℤ (pos (suc n * suc m)))
product_negated (negsuc n) (pos m) = sym (neg_ℤ-neg_ℤ (pos (suc n * m)))
product_negated (negsuc n) (negsuc m) = refl

associative_pos : (n : ℕ) (b k : ℤ) → (pos n *ℤ b) *ℤ k ≡ pos n *ℤ (b *ℤ k)
associative_pos zero b k = rw (zero-*ℤ b, zero-*ℤ k, zero-*ℤ (b *ℤ k))
associative_pos (suc n) b k =
    ap (λ (x : ℤ). x *ℤ k) (suc_ℤ-*ℤ (pos n) b)
    ∙ distributive (pos n *ℤ b) b k
    ∙ ap (λ (x : ℤ). x +ℤ b *ℤ k) (associative_pos n b k)
    ∙ sym (suc_ℤ-*ℤ (pos n) (b *ℤ k))

pub associative : (a b k : ℤ) → (a *ℤ b) *ℤ k ≡ a *ℤ (b *ℤ k)
associative (pos n) b k = associative_pos n b k
associative (negsuc n) b k =
    ap (λ (x : ℤ). x *ℤ k) (product_negated (pos (suc n)) b)
    ∙ product_negated (pos (suc n) *ℤ b) k
    ∙ ap neg_ℤ (associative_pos (suc n) b k)
    ∙ sym (product_negated (pos (suc n)) (b *ℤ k))
