use Prim.Native.Nat.{ℕ, ◌*◌}
use Rattle.lemmas.proofs.Table.{tab_at}
use Rattle.worked.proofs.square.Goals as goal

pub returns : goal.returns
returns c = tab_at (λ (n : ℕ). n * n) 0 8 c.args.n c.requires
