-- 02, R-4: the answer is true (specs/Truth.antt): the record that it names heads the board's part, and a change off the chain leaves chain, part and head as they were. Assumes nothing.
use mathlib.Core.Bool.{Bool, false, not, true≢false}
use mathlib.Core.List.{List, [], ◌∷◌}
use mathlib.Core.Option.{Option, none, some, some-ne-none}
use mathlib.Core.Path.{◌≡◌, refl, sym, ◌∙◌, ap, subst}
use Prim.Native.Nat.{ℕ, zero, suc, ◌-◌, ◌≤◌}
use native.Mathlib.Omega.{arith}
use lib.ListN.{length}
use Rattle.paper.specs.declared.Refusal.{Refusal}
use Rattle.paper.specs.Bytes.{one_of}
use Rattle.paper.specs.Label.{Label}
use Rattle.paper.specs.File.{head_of, board_of, boards_of}
use Rattle.paper.specs.Chain.{Boards, no_board, board, chain, part_head, Earth, no_earth, earth_at, earth_of, is_none, unearthed}
use Rattle.paper.specs.Return.{Said, earth_return_from, none_stopped_at, earth_refusal, return_of, return_at, refused_or, earth_said, return_open}
use Rattle.paper.specs.Answer.{paper}
use Rattle.paper.proofs.Typed.{label, typed_open}
use Rattle.paper.proofs.Figures.{records, net3}
use Rattle.paper.proofs.ReturnFigures.{floating}
use Rattle.paper.proofs.Compare.{same_said→}
use Rattle.follows.proofs.Lists.{On}
use Rattle.follows.proofs.Places.{place_most}
use Rattle.follows.proofs.Paths.{on_own}
use Rattle.follows.proofs.Chain.{chain_tree, chain_between}
use Rattle.follows.proofs.Sound.{Sound}
use Rattle.follows.proofs.Accepted.{Network, accepted_network_lem}
use Rattle.follows.proofs.UpToHead.{way_to_head, earthed_kind, unearthed_kind}
use Rattle.follows.proofs.OffChain.{AgreeOn, place_kept, head_kept, earth_kept}
use Rattle.node.proofs.Records.{board_at}
use Rattle.return_path.proofs.Asked.{Asked, asked, answered}
use Rattle.return_path.specs.Truth.{named, record_at, Reached, FromTrue, StoppedTrue, ChangedOff, StaysNone, Cured}

module _ (net : List ℕ) (l : Label) where
  -- an answer that shows no part refuses nothing
  not_refused : (earth_said net l).shown ≡ none → earth_refusal net l ≡ none
  unfolding earth_said refused_or
  not_refused e = go (earth_refusal net l) refl
    where
      go : (o : Option Refusal) → earth_refusal net l ≡ o → earth_refusal net l ≡ none
      go none q = q
      go (some w) q = absurd (some-ne-none w.part (sym (ap (λ o. (refused_or o (return_at (boards_of net) (named net l))).shown) q) ∙ e))

-- ---- what an answer that names a record says: whether there is an earth return, and the head of the board's part
pub record Names (net : List ℕ) (l : Label) (earthed : Bool) (r : ℕ) : Type 0 where
  pub well_asked : Asked net l
  pub earthless : unearthed (boards_of net) (named net l) ≡ not earthed
  pub heads_part : part_head (boards_of net) (named net l) ≡ r

tells : (e : Earth) (h : ℕ) → (is_none e ≡ not (return_of e h).earthed) × (h ≡ (return_of e h).place)
unfolding return_of is_none
tells no_earth h = (refl, refl)
tells (earth_at e) h = (refl, refl)

pub names : (net : List ℕ) (l : Label) (s : Said) → earth_said net l ≡ s → s.shown ≡ none → Names net l s.earthed s.place
unfolding return_at
names net l s e n = record { well_asked = a; earthless = t.0 ∙ ap (λ x. not x.earthed) answer; heads_part = t.1 ∙ ap (λ x. x.place) answer }
  where
    bs : Boards
    bs = boards_of net

    a : Asked net l
    a = asked net l (not_refused net l (ap (λ x. x.shown) e ∙ n))

    answer : return_at bs (named net l) ≡ s
    answer = sym (answered net l a) ∙ e

    t : (unearthed bs (named net l) ≡ not (return_at bs (named net l)).earthed) × (part_head bs (named net l) ≡ (return_at bs (named net l)).place)
    t = tells (earth_of bs (named net l)) (part_head bs (named net l))

-- ---- the record is reached through kinds 2 and 3, and is of a kind that a head has where the answer is this
reached : (net : List ℕ) (l : Label) {earthed : Bool} {r : ℕ} → Names net l earthed r → let bs = boards_of net in (kinds : List ℕ) →
    (Sound bs → (k : ℕ) → 1 ≤ k → k ≤ length bs → unearthed bs k ≡ not earthed → On (board bs (part_head bs k)).kind kinds) → Reached bs (named net l) r kinds
reached net l n kinds of_head =
    let bs = boards_of net in
    let k = named net l in
    let f = n.well_asked.from in
    let w = way_to_head bs k f in
    let o = of_head (accepted_network_lem net n.well_asked.network).sound k f (place_most l bs) n.earthless in
    subst (λ r. Reached bs k r kinds) n.heads_part (record { below = w.below; above = w.above; way = w.way; through = w.through; of_kind = o })

pub from_true : FromTrue
from_true net l r e = let n = names net l (earth_return_from r) e refl in (n.earthless, reached net l n (0 ∷ 4 ∷ []) (earthed_kind (boards_of net)))

pub stopped_true : StoppedTrue
stopped_true net l r e = let n = names net l (none_stopped_at r) e refl in (n.earthless, reached net l n (1 ∷ 5 ∷ []) (unearthed_kind (boards_of net)))

-- ---- a change off the chain
board_of_lem : (net : List ℕ) (r : ℕ) → 1 ≤ r → r ≤ (head_of net).boards → board (boards_of net) r ≡ board_of (record_at net r)
board_of_lem net r l m = board_at net no_board (r - 1) (omega arith)

module _ (net changed : List ℕ) (l : Label) (a : Asked net l) (c : ChangedOff net changed (named net l)) where
  abbrev k : ℕ
  k = named net l

  -- records of the same bytes are the same boards
  pub agree : AgreeOn (boards_of net) (boards_of changed) k
  agree =
      record {
        sound = before.sound;
        sound' = after.sound;
        as_many = after.count ∙ c.as_many ∙ sym before.count;
        in_table = place_most l (boards_of net);
        same_record = λ r o. same r o (chain_between (boards_of net) k r o);
      }
    where
      before : Network net
      before = accepted_network_lem net a.network

      after : Network changed
      after = accepted_network_lem changed c.accepted

      same : (r : ℕ) → On r (chain (boards_of net) k) → (1 ≤ r) × (r ≤ k) → board (boards_of changed) r ≡ board (boards_of net) r
      same r o b =
          let to : r ≤ (head_of net).boards = omega (arith, before.count, place_most l (boards_of net)) in
          board_of_lem changed r b.0 (omega (arith, c.as_many)) ∙ ap board_of (c.chain_kept r o) ∙ sym (board_of_lem net r b.0 to)

  pub same_board : named changed l ≡ k
  same_board = place_kept agree l (on_own (chain_tree (boards_of net)) k a.from)

  -- so the answer is the same, whatever it was
  pub same_answer : earth_said changed l ≡ earth_said net l
  unfolding return_at
  same_answer =
      answered changed l (record { network = c.accepted; label_size_lem = a.label_size_lem; from = omega (arith, same_board, a.from) })
      ∙ ap (return_at (boards_of changed)) same_board
      ∙ (λ i. return_of (earth_kept k agree i) (head_kept agree i))
      ∙ sym (answered net l a)

pub stays_none : StaysNone
stays_none net changed l r e c =
    let n = names net l (none_stopped_at r) e refl in
    let a = n.well_asked in
    record {
      same_board = same_board net changed l a c;
      no_return = ap is_none (earth_kept (named net l) (agree net changed l a c)) ∙ n.earthless;
      same_record = same_answer net changed l a c ∙ e;
    }

-- ---- on the chain a change may help: 01's network with the set's star point off earth, and the set earthed again
abbrev west : Label
west = label "BOOTH-WEST-1"

pub cured : Cured floating net3 west
unfolding paper return_open typed_open records
cured =
    record {
      as_many = refl;
      rest_kept = kept;
      had_none = (1, same_said→ (earth_said floating west) (none_stopped_at 1) tt);
      has_one = (1, same_said→ (earth_said net3 west) (earth_return_from 1) tt);
    }
  where
    -- 1 and 2 are on the chain, 3 is the hall
    kept : (r : ℕ) → 1 ≤ r → r ≤ 3 → one_of r (chain (boards_of floating) (named floating west)) ≡ false → record_at net3 r ≡ record_at floating r
    kept zero l m o = absurd (omega arith)
    kept (suc zero) l m o = absurd (true≢false o)
    kept (suc (suc zero)) l m o = absurd (true≢false o)
    kept (suc (suc (suc zero))) l m o = refl
    kept (suc (suc (suc (suc r)))) l m o = absurd (omega arith)
