-- What reading a network for a board gives. Assumes nothing.
use Rattle.std.specs.Prelude.{List, ℕ, Result}
use Rattle.paper.specs.declared.Refusal.{Refusal}
use Rattle.paper.specs.Label.{Label}
use Rattle.paper.specs.File.{head_of, boards_of}
use Rattle.paper.specs.Chain.{place_of}
use Rattle.paper.specs.Refusal.{network_refusal}
use Rattle.paper.specs.Rule.{or_refused}
use Rattle.network.specs.declared.Network.{Network}

-- the board that is asked for is the first with the label
abbrev pub accepted_network : List ℕ → Label → Network
accepted_network net l = record { head = head_of net; k = place_of l (boards_of net) }

-- accepted, or refused by the first broken rule
unfoldable pub network_of : List ℕ → Label → Result Network Refusal
network_of net l = or_refused (network_refusal net) (accepted_network net l)
