-- For whoever calls `read`: what it says of the paper's refusals that a network was read. Assumes nothing.
use mathlib.Core.List.{List}
use mathlib.Core.Option.{none, some}
use mathlib.Core.Path.{◌≡◌, sym, ◌∙◌, ap}
use Prim.Native.Nat.{ℕ, ◌≤◌}
use native.Mathlib.Omega.{arith}
use lib.ListN.{length}
use Rattle.std.specs.Prelude.{Result, Ok, Err}
use Rattle.paper.specs.declared.Refusal.{Refusal}
use Rattle.paper.specs.Label.{Label}
use Rattle.paper.specs.File.{boards_of}
use Rattle.paper.specs.Refusal.{network_refusal}
use Rattle.paper.proofs.Rules.{accepted_by, refused_by}
use Rattle.follows.proofs.Accepted.{boards_length, accepted_network_lem}
use Rattle.network.specs.declared.Network.{Network}
use Rattle.network.specs.Network.{accepted_network, network_of}

module _ (net : List ℕ) (l : Label) {g : Result Network Refusal} (read : g ≡ network_of net l) where
  -- accepted: nothing is refused, and the head and the place are the network's
  pub network_kept : {n : Network} → g ≡ Ok n → (network_refusal net ≡ none) × (n ≡ accepted_network net l)
  unfolding network_of
  network_kept taken = let k = accepted_by (network_refusal net) (accepted_network net l) (sym read ∙ taken) in (k.0, sym k.1)

  -- refused: by the first rule that is broken
  pub network_broken : {why : Refusal} → g ≡ Err why → network_refusal net ≡ some why
  unfolding network_of
  network_broken h = refused_by (network_refusal net) (accepted_network net l) (sym read ∙ h)

  -- as many boards as the network has, and so 256 at most
  pub network_boards : {n : Network} → g ≡ Ok n → n.head.boards ≡ length (boards_of net)
  network_boards taken = ap (λ (x : Network). x.head.boards) (network_kept taken).1 ∙ sym (boards_length net)

  pub network_few : {n : Network} → g ≡ Ok n → n.head.boards ≤ 256
  network_few taken = let n = accepted_network_lem net (network_kept taken).0 in omega (arith, n.head_in.boards_range.1, ap (λ (x : Network). x.head.boards) (network_kept taken).1)
