-- The laws of ℤ's product that `lib.IntN` lacks: it is associative, it distributes over the sum, it carries signs.
-- Assumes nothing.
use mathlib.Core.Path.{◌≡◌, sym, ◌∙◌, ap, ap₂}
use Prim.Native.Nat.{zero, suc}
use lib.IntN.{ℤ, pos, negsuc, suc_ℤ, pred_ℤ, neg_ℤ, ◌+ℤ◌, ◌*ℤ◌, one, +ℤ_idl, +ℤ_assoc, +ℤ_comm, suc_ℤ-+ℤ, pred_ℤ-+ℤ, zero-*ℤ, *ℤ-one, *ℤ_comm, suc_ℤ-*ℤ, pred_ℤ-*ℤ, neg_ℤ-suc_ℤ, neg_ℤ-pred_ℤ, neg_ℤ-+ℤ, neg_ℤ-neg_ℤ}

-- what holds of 0, and with a number of the next and of the one before, holds of all
pub ℤ_ind : (P : ℤ → Type 0) → P (pos zero) → ((k : ℤ) → P k → P (suc_ℤ k)) → ((k : ℤ) → P k → P (pred_ℤ k)) → (k : ℤ) → P k
ℤ_ind P z s p (pos zero) = z
ℤ_ind P z s p (pos (suc n)) = s (pos n) (ℤ_ind P z s p (pos n))
ℤ_ind P z s p (negsuc zero) = p (pos zero) z
ℤ_ind P z s p (negsuc (suc n)) = p (negsuc n) (ℤ_ind P z s p (negsuc n))

-- (x + y) + z = (x + z) + y
+ℤ_right_comm : (x y z : ℤ) → (x +ℤ y) +ℤ z ≡ (x +ℤ z) +ℤ y
+ℤ_right_comm x y z = +ℤ_assoc x y z ∙ ap (λ t. x +ℤ t) (+ℤ_comm y z) ∙ sym (+ℤ_assoc x z y)

pub *ℤ-distribr : (a b c : ℤ) → (a +ℤ b) *ℤ c ≡ a *ℤ c +ℤ b *ℤ c
*ℤ-distribr a b c =
    ℤ_ind (λ a. (a +ℤ b) *ℤ c ≡ a *ℤ c +ℤ b *ℤ c)
    (ap (λ t. t *ℤ c) (+ℤ_idl b) ∙ sym (ap (λ t. t +ℤ b *ℤ c) (zero-*ℤ c) ∙ +ℤ_idl (b *ℤ c)))
    (λ k h. ap (λ t. t *ℤ c) (suc_ℤ-+ℤ k b) ∙ suc_ℤ-*ℤ (k +ℤ b) c ∙ ap (λ t. t +ℤ c) h ∙ +ℤ_right_comm (k *ℤ c) (b *ℤ c) c ∙ ap (λ t. t +ℤ b *ℤ c) (sym (suc_ℤ-*ℤ k c)))
    (λ k h. ap (λ t. t *ℤ c) (pred_ℤ-+ℤ k b) ∙ pred_ℤ-*ℤ (k +ℤ b) c ∙ ap (λ t. t +ℤ neg_ℤ c) h ∙ +ℤ_right_comm (k *ℤ c) (b *ℤ c) (neg_ℤ c) ∙ ap (λ t. t +ℤ b *ℤ c) (sym (pred_ℤ-*ℤ k c)))
    a

pub neg-*ℤ : (a b : ℤ) → neg_ℤ a *ℤ b ≡ neg_ℤ (a *ℤ b)
neg-*ℤ a b =
    ℤ_ind (λ a. neg_ℤ a *ℤ b ≡ neg_ℤ (a *ℤ b))
    (zero-*ℤ b ∙ sym (ap neg_ℤ (zero-*ℤ b)))
    (λ k h. ap (λ t. t *ℤ b) (neg_ℤ-suc_ℤ k) ∙ pred_ℤ-*ℤ (neg_ℤ k) b ∙ ap (λ t. t +ℤ neg_ℤ b) h ∙ sym (neg_ℤ-+ℤ (k *ℤ b) b) ∙ ap neg_ℤ (sym (suc_ℤ-*ℤ k b)))
    (λ k h. ap (λ t. t *ℤ b) (neg_ℤ-pred_ℤ k) ∙ suc_ℤ-*ℤ (neg_ℤ k) b ∙ ap (λ t. t +ℤ b) h ∙ ap (λ t. neg_ℤ (k *ℤ b) +ℤ t) (sym (neg_ℤ-neg_ℤ b)) ∙ sym (neg_ℤ-+ℤ (k *ℤ b) (neg_ℤ b)) ∙ ap neg_ℤ (sym (pred_ℤ-*ℤ k b)))
    a

pub *ℤ-assoc : (a b c : ℤ) → (a *ℤ b) *ℤ c ≡ a *ℤ (b *ℤ c)
*ℤ-assoc a b c =
    ℤ_ind (λ a. (a *ℤ b) *ℤ c ≡ a *ℤ (b *ℤ c))
    (ap (λ t. t *ℤ c) (zero-*ℤ b) ∙ zero-*ℤ c ∙ sym (zero-*ℤ (b *ℤ c)))
    (λ k h. ap (λ t. t *ℤ c) (suc_ℤ-*ℤ k b) ∙ *ℤ-distribr (k *ℤ b) b c ∙ ap (λ t. t +ℤ b *ℤ c) h ∙ sym (suc_ℤ-*ℤ k (b *ℤ c)))
    (λ k h. ap (λ t. t *ℤ c) (pred_ℤ-*ℤ k b) ∙ *ℤ-distribr (k *ℤ b) (neg_ℤ b) c ∙ ap₂ ◌+ℤ◌ h (neg-*ℤ b c) ∙ sym (pred_ℤ-*ℤ k (b *ℤ c)))
    a

pub one-*ℤ : (a : ℤ) → pos 1 *ℤ a ≡ a
unfolding one
one-*ℤ a = *ℤ_comm (pos 1) a ∙ *ℤ-one a
