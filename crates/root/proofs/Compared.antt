-- For a test whose number is written in another way.
use Rattle.std.proofs.Common.{◌≡◌, ℕ, Bool, leb, ap, ◌∙◌}

-- equal numbers are compared alike
pub compared : (most : ℕ) {r : Bool} {m n : ℕ} → r ≡ leb m most → m ≡ n → r ≡ leb n most
compared most h e = h ∙ ap (λ (m : ℕ). leb m most) e
