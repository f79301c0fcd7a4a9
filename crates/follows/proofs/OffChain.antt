-- 02, R-4: two networks of as many boards that agree on the chain of a board. Labels name the same records on it, so the chain is the same in both, and so are the part and its head. Assumes nothing.
use mathlib.Core.Bool.{true}
use mathlib.Core.Path.{◌≡◌, refl, sym, ◌∙◌, ap, subst}
use Prim.Native.Nat.{ℕ, zero, suc, ◌-◌, ◌≤◌}
use native.Mathlib.Omega.{arith}
use lib.ListN.{length, take, drop, take-append-drop}
use Rattle.paper.specs.Label.{Label, same_label}
use Rattle.paper.specs.Kind.{kind_of}
use Rattle.paper.specs.Chain.{Boards, board, place_of, feeder_of, chain, zero_of, tied, tie, part_chain, last_of, part_head, earth_by, earth_of}
use Rattle.follows.proofs.Lists.{On}
use Rattle.follows.proofs.Places.{place_most, place_same, place_stays}
use Rattle.follows.proofs.Paths.{on_own, on_behind, on_all, same_path}
use Rattle.follows.proofs.Chain.{feeder_earlier, chain_tree, chain_between}
use Rattle.follows.proofs.Parts.{part_tree, part_on_chain, head_on}
use Rattle.follows.proofs.Sound.{Sound}
use Rattle.follows.proofs.Case.{same_capitals}
use Rattle.follows.proofs.Upper.{uppers, look_upper}

-- ---- in sound boards a label that equals that of record f names f
pub label_names : (bs : Boards) → Sound bs → (l : Label) (f : ℕ) → 1 ≤ f → f ≤ length bs → same_label l (board bs f).label ≡ true → place_of l bs ≡ f
label_names bs s l f a b e =
    let own = (board bs f).label in
    look_upper 1 l bs ∙ ap (λ c. place_of c (uppers bs)) (same_capitals l own e) ∙ sym (look_upper 1 own bs) ∙ (s f a b).place

-- a feeder is the place of its label among all boards
pub feeder_place : (bs : Boards) (r : ℕ) → 1 ≤ feeder_of bs r → feeder_of bs r ≡ place_of (board bs r).feeder bs
unfolding feeder_of
feeder_place bs r h = let l = (board bs r).feeder in sym (place_stays l (take (r - 1) bs) (drop (r - 1) bs) h) ∙ ap (place_of l) (take-append-drop (r - 1) bs)

-- ---- two sound networks of as many boards, that agree on the chain of k
pub record AgreeOn (bs cs : Boards) (k : ℕ) : Type 0 where
  pub sound : Sound bs
  pub sound' : Sound cs
  pub as_many : length cs ≡ length bs
  pub in_table : k ≤ length bs
  pub same_record : (r : ℕ) → On r (chain bs k) → board cs r ≡ board bs r

module _ {bs cs : Boards} {k : ℕ} (a : AgreeOn bs cs k) where
  -- a label that names a record on the chain names it in the other too
  pub place_kept : (l : Label) → On (place_of l bs) (chain bs k) → place_of l cs ≡ place_of l bs
  place_kept l o =
      let f = place_of l bs in
      let b = chain_between bs k f o in
      label_names cs a.sound' l f b.0 (omega (arith, a.as_many, place_most l bs)) (rw (a.same_record f o) (place_same l bs b.0))

  pub feeder_kept : (r : ℕ) → On r (chain bs k) → feeder_of cs r ≡ feeder_of bs r
  feeder_kept zero o = absurd (omega (arith, (chain_between bs k 0 o).0))
  feeder_kept (suc zero) o = omega (arith, feeder_earlier bs 0, feeder_earlier cs 0)
  feeder_kept (suc (suc p)) o =
      let r = suc (suc p) in
      let b = chain_between bs k r o in
      let m = a.in_table in
      let n = a.as_many in
      let fed = (a.sound r (omega arith) (omega arith)).fed (omega arith) in
      let fed' = (a.sound' r (omega arith) (omega arith)).fed (omega arith) in
      let on : On (feeder_of bs r) (chain bs k) = on_all (chain_tree bs) r k o (feeder_of bs r) (on_behind (chain_tree bs) (suc p) (feeder_of bs r) (on_own (chain_tree bs) (feeder_of bs r) fed)) in
      let here = feeder_place bs r fed in
      feeder_place cs r fed' ∙ ap (λ c. place_of c.feeder cs) (a.same_record r o) ∙ place_kept (board bs r).feeder (subst (λ f. On f (chain bs k)) here on) ∙ sym here

  pub chain_kept : chain cs k ≡ chain bs k
  chain_kept = same_path (chain_tree bs) (chain_tree cs) k feeder_kept

  word_kept : (r : ℕ) → On r (chain bs k) → zero_of cs r ≡ zero_of bs r
  word_kept r o = ap (λ c. (kind_of c.kind).zero_seq) (a.same_record r o)

  pub tie_kept : (r : ℕ) → On r (chain bs k) → tie cs r ≡ tie bs r
  unfolding tie
  tie_kept r o = λ i. tied (word_kept r o i) (feeder_kept r o i)

  pub part_kept : part_chain cs k ≡ part_chain bs k
  part_kept = same_path (part_tree bs) (part_tree cs) k (λ r o. tie_kept r (part_on_chain bs k r o))

  pub head_kept : part_head cs k ≡ part_head bs k
  unfolding part_head
  head_kept = ap last_of part_kept

  pub head_word_kept : 1 ≤ k → zero_of cs (part_head cs k) ≡ zero_of bs (part_head bs k)
  head_word_kept l = ap (zero_of cs) head_kept ∙ word_kept (part_head bs k) (part_on_chain bs k (part_head bs k) (head_on bs k l))

-- ---- the earth return, too, since the head's word tells it
pub earth_kept : {bs cs : Boards} (k : ℕ) → AgreeOn bs cs k → earth_of cs k ≡ earth_of bs k
unfolding earth_of
earth_kept zero a = refl
earth_kept (suc q) a = ap earth_by (head_word_kept a (omega arith))
