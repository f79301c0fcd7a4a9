-- What contracts of this crate rule out: a call that it allows, and an answer, or what the buffer holds afterwards, that it does not. Assumes nothing.
use mathlib.Core.Bool.{Bool, true, false}
use mathlib.Core.List.{List, [], ◌∷◌, ◌++◌}
use mathlib.Core.Path.{◌≡◌, refl, ap}
use Prim.Native.Nat.{ℕ, ◌≤◌}
use native.Mathlib.Omega.{arith}
use lib.Dec.{lit≤}
use lib.IntN.{ℤ, pos, negsuc}
use lib.ListN.{replicate, length}
use base.Fml.{Lft}
use denote.MutBor.{MutBor}
use Rattle.lemmas.specs.Over.{over}
use Rattle.lemmas.proofs.RuledOut.{◌↛◌, RuledOut, ever, ends, by, by_equation, bool, wholes, lent_out}
use Rattle.turn.specs.declared.Num.{Num}
use Rattle.turn.specs.Number.{whole_n, complex_n, ◌+N◌, neg_n, ◌·N◌, times_t, ◌*N◌, power_n, conj_n, square_n}
use Rattle.turn.specs.Bounds.{Within}
use Rattle.turn.proofs.Told.{num, within}
use Rattle.paper.specs.declared.Ohms.{Ohms}
use Rattle.paper.specs.declared.Seq.{Seq}
use Rattle.paper.specs.declared.Fault.{Fault}
use Rattle.paper.proofs.Told.{sequences, small}
use Rattle.paper.specs.Bounds.{AtMost, Plane, EachSeq, most_i, most_w, most_lift}
use Rattle.paper.specs.Kind.{ohms}
use Rattle.paper.specs.Fault.{nil_n, seq, fault_open}
use Rattle.paper.specs.Phase.{only_if, four, phases, phase_open}
use Rattle.paper.specs.Answer.{flat}
use Rattle.node.specs.declared.Node.{Node}
use Rattle.chain.specs.declared.share.Shared.{Shared}
use Rattle.chain.specs.Carried.{carried_of}
use Rattle.fault.specs.Short.{shorted_of}
use Rattle.board.specs.declared.front.Faulted.{Faulted}
use Rattle.board.specs.declared.phases.Phase.{Phase}
use Rattle.board.specs.Put.{shown_at}
use Rattle.board.specs.Faulted.{faulted_from, top_of, FaultSmall}
use Rattle.board.specs.Numbers.{left_of, passed_of, numbers_of, ShareSmall}
use Rattle.board.proofs.phases.phases.Reads as phases-at
use Rattle.board.proofs.put.phase.Reads as phase-at
use Rattle.board.proofs.front.fault_at.Reads as fault-at
use Rattle.board.proofs.front.top.Reads as top
use Rattle.board.proofs.board.Reads as board

-- ---- numbers: tⁿ as a phase shows it, three phases, one and j
abbrev t : ℕ → List ℤ
t n = four (power_n n)

abbrev turns : ℕ → ℕ → ℕ → List (List ℤ)
turns a b c = t a ∷ t b ∷ t c ∷ []

abbrev nothing : List (List ℤ)
nothing = four nil_n ∷ four nil_n ∷ four nil_n ∷ []

abbrev one : Num
one = whole_n (pos 1)

abbrev j : Num
j = complex_n (pos 0) (pos 1)

plane : (b : ℕ) {r x : ℤ} → Within b (complex_n r x) → Plane b (complex_n r x)
plane b h = record { flat = record { no_t = refl; no_t² = refl }; within = h }

each : (b : ℕ) {x y z : Num} → Plane b x → Plane b y → Plane b z → EachSeq (Plane b) (seq x y z)
each b p q r = record { e1 = p; e2 = q; e0 = r }

-- ---- one in one sequence
abbrev first : Seq
first = seq one nil_n nil_n

abbrev second : Seq
second = seq nil_n one nil_n

abbrev zero_seq : Seq
zero_seq = seq nil_n nil_n one

one_plane : Plane most_w one
one_plane = plane most_w (within most_w one tt)

nil_plane : Plane most_w nil_n
nil_plane = plane most_w (within most_w nil_n tt)

s1_plane : EachSeq (Plane most_w) first
s1_plane = each most_w one_plane nil_plane nil_plane

s2_plane : EachSeq (Plane most_w) second
s2_plane = each most_w nil_plane one_plane nil_plane

s0_plane : EachSeq (Plane most_w) zero_seq
s0_plane = each most_w nil_plane nil_plane one_plane

-- ---- what is put into a part of the buffer
abbrev found : ℕ → MutBor (List ℤ)
found n = lent_out (replicate n (pos 0))

-- the call with its part as it is left
abbrev left : {A : Type 0} → MutBor (List ℤ) × A → List ℤ → Unit {0} × (MutBor (List ℤ) × A)
left a zs = (tt, (lent_out zs, a.1))

abbrev seen : {A : Type 0} → Unit {0} × (MutBor (List ℤ) × A) → ℕ
seen z = wholes z.1.0.now

-- 1 + 2 t + 3 t² + 4 t³, shown by phase b
abbrev counted : Num
counted = num (pos 1) (pos 2) (pos 3) (pos 4)

abbrev ph : (n : ℕ) → n ≤ 2 → Phase
ph n h = record { n = n; of_three = h }

abbrev in_b : MutBor (List ℤ) × (Phase × (Num × Unit {0}))
in_b = (found 12, (ph 1 (lit≤ tt), (counted, tt)))

-- the phases of a board of turn sj, the faulted board's being 0, p the odd one
abbrev call : Phase → ℕ → Seq → MutBor (List ℤ) × (Phase × (ℕ × (ℕ × (Seq × Unit {0}))))
call p sj x = (found 12, (p, (sj, (0, (x, tt)))))

abbrev a_odd : Phase
a_odd = ph 0 (lit≤ tt)

abbrev b_odd : Phase
b_odd = ph 1 (lit≤ tt)

allowed : {x : Seq} (s : ℕ) → s ≤ 4 → EachSeq (Plane most_w) x → ((s ≤ 2816) × (0 ≤ 2816)) × EachSeq (Plane most_w) x
allowed s k x = ((omega (arith, k), omega arith), x)

module _ (κ : Lft) where
  pub phase_not : RuledOut (phase-at.Pre (κ, tt)) (ends (phase-at.Post (κ, tt))) (
      in_b ↛ left in_b (four counted ++ replicate 8 (pos 0))  -- phase_at_the_front
      ∷ in_b ↛ left in_b (replicate 4 (pos 0) ++ (pos 1 ∷ pos 2 ∷ pos 3 ∷ pos 0 ∷ []) ++ replicate 4 (pos 0))  -- last_number_left
      ∷ in_b ↛ left in_b (pos 0 ∷ pos 1 ∷ pos 0 ∷ pos 0 ∷ pos 2 ∷ pos 0 ∷ pos 0 ∷ pos 3 ∷ pos 0 ∷ pos 0 ∷ pos 4 ∷ pos 0 ∷ [])  -- phases_mixed
      ∷ [])
  unfolding shown_at over
  phase_not = by seen (λ a. wholes (shown_at a.1.0.n a.1.1.0 a.0.now)) (λ a z s. ap wholes s) (tt, (tt, (tt, tt))) tt

  pub phases_not : RuledOut (phases-at.Pre (κ, tt)) (ends (phases-at.Post (κ, tt))) (
      call a_odd 0 first ↛ left (call a_odd 0 first) (flat (turns 0 4 8))  -- b_c_exchanged
      ∷ call b_odd 0 first ↛ left (call b_odd 0 first) (flat (turns 4 0 8))  -- phase_of_p
      ∷ call a_odd 1 second ↛ left (call a_odd 1 second) (flat (turns 11 3 7))  -- same_turn
      ∷ call a_odd 1 first ↛ left (call a_odd 1 first) (flat (turns 1 9 5))  -- forward_by_d
      ∷ call b_odd 0 zero_seq ↛ left (call b_odd 0 zero_seq) (flat (turns 4 4 4))  -- phase_turn_4p
      ∷ call b_odd 0 first ↛ left (call b_odd 0 first) (flat (turns 4 8 0))  -- onward_exchanged
      ∷ call a_odd 0 first ↛ left (call a_odd 0 first) (flat (t 0 ∷ t 8 ∷ four (whole_n (negsuc 1)) ∷ []))  -- last_keeps_next
      ∷ call a_odd 4 first ↛ left (call a_odd 4 first) (flat (turns 0 8 4))  -- thirds_left_out
      ∷ call a_odd 4 first ↛ left (call a_odd 4 first) (flat (turns 4 0 8))  -- thirds_backwards
      ∷ call a_odd 1 first ↛ left (call a_odd 1 first) (flat (turns 8 4 0))  -- quarters_left_out
      ∷ call a_odd 1 first ↛ left (call a_odd 1 first) (flat (turns 5 1 9))  -- quarters_forward
      ∷ [])
  unfolding phase_open ◌+N◌ neg_n ◌·N◌ times_t ◌*N◌ power_n flat
  phases_not =
      by seen (λ a. wholes (flat (phases a.1.0.n a.1.1.0 a.1.1.1.0 a.1.1.1.1.0))) (λ a z s. ap wholes s)
      (allowed 0 (omega arith) s1_plane, (allowed 0 (omega arith) s1_plane, (allowed 1 (omega arith) s2_plane, (allowed 1 (omega arith) s1_plane, (allowed 0 (omega arith) s0_plane, (allowed 0 (omega arith) s1_plane, (allowed 0 (omega arith) s1_plane, (allowed 4 (omega arith) s1_plane, (allowed 4 (omega arith) s1_plane, (allowed 1 (omega arith) s1_plane, (allowed 1 (omega arith) s1_plane, tt))))))))))) tt

-- ---- the fault at its board: one ohm in every sequence, so that D is 9 and every current 3
abbrev ohm : Ohms
ohm = ohms 1 0

abbrev node : ℕ → ℕ → Node
node head turn = record { z1 = ohm; z2 = ohm; z0 = ohm; feeder = 0; head = head; start = head; turn = turn }

abbrev unearthed : Node
unearthed = record { z1 = ohm; z2 = ohm; z0 = ohms 0 0; feeder = 0; head = 1; start = 0; turn = 5 }

abbrev to_earth : Fault
to_earth = record { zf = ohms 0 0; label = replicate 12 32; kind = 1; phase = 2 }

abbrev faulted : Seq → Num → ℤ → ℕ → ℕ → ℕ → Bool → Faulted
faulted i up d h t p e = record { i = i; lift = up; d = d; head = h; turn = t; phase = p; earthed = e }

abbrev thrice : Num
thrice = whole_n (pos 3)

abbrev none : Seq
none = seq nil_n nil_n nil_n

abbrev fields : Faulted → ℕ
fields f = wholes (f.d ∷ pos f.head ∷ pos f.turn ∷ pos f.phase ∷ pos (bool f.earthed) ∷ four f.lift ++ sequences f.i)

pub fault_at_not : RuledOut (fault-at.Pre tt) (ever (fault-at.Post tt)) (
    (node 1 5, (to_earth, tt)) ↛ faulted (seq thrice thrice thrice) nil_n (pos 9) 1 5 1 true  -- currents_of_another_phase
    ∷ (node 1 5, (to_earth, tt)) ↛ faulted (seq thrice thrice thrice) nil_n (pos 9) 5 5 2 true  -- head_is_turn
    ∷ (node 1 5, (to_earth, tt)) ↛ faulted (seq thrice thrice thrice) nil_n (pos 9) 1 5 2 false  -- return_lost
    ∷ (unearthed, (to_earth, tt)) ↛ faulted none nil_n (pos 1) 1 5 2 false  -- lift_lost
    ∷ (unearthed, (to_earth, tt)) ↛ faulted (seq (whole_n (pos 2)) (whole_n (pos 2)) (whole_n (pos 2))) nil_n (pos 4) 1 5 2 false  -- missing_return_is_zero
    ∷ [])
unfolding faulted_from shorted_of only_if fault_open ◌+N◌ neg_n ◌·N◌ times_t ◌*N◌ power_n conj_n square_n
fault_at_not = by_equation (λ a. faulted_from a.0 a.1.0) fields (λ a z e s. s) (allowed, (allowed, (allowed, (without, (without, tt))))) tt
  where
    allowed : AtMost 4095 ohm × AtMost 4095 ohm × AtMost 4095 ohm × AtMost 1365 (ohms 0 0)
    allowed = (small tt, small tt, small tt, small tt)

    without : AtMost 4095 ohm × AtMost 4095 ohm × AtMost 4095 (ohms 0 0) × AtMost 1365 (ohms 0 0)
    without = (small tt, small tt, small tt, small tt)

-- ---- the numbers of the fault, and of a board: D is 1, so that voltages are powers of t where nothing is shared or lifted; I1 is j, or I0 is 1. The faulted board's part has head 1
abbrev forth_at : ℕ → Faulted
forth_at turn = faulted (seq j nil_n nil_n) nil_n (pos 1) 1 turn 0 true

abbrev forth : Faulted
forth = forth_at 0

abbrev earth : Bool → Faulted
earth e = faulted (seq nil_n nil_n one) nil_n (pos 1) 1 0 0 e

-- one phase to earth without earth return: no current, and W0 is -1
abbrev risen : Faulted
risen = faulted none (neg_n one) (pos 1) 1 0 0 false

-- W1 of 1 with a W0
abbrev zero_shown : Num → List (List ℤ)
zero_shown n = four (power_n 0 +N n) ∷ four (power_n 8 +N n) ∷ four (power_n 4 +N n) ∷ []

abbrev alone : Shared
alone = record { z1 = ohms 0 0; z2 = ohms 0 0; z0 = ohms 0 0 }

alone_small : ShareSmall alone
alone_small = record { share1 = small tt; share2 = small tt; share0 = small tt }

i_nil : Plane most_i nil_n
i_nil = plane most_i (within most_i nil_n tt)

-- D of 1, odd phase a
fault_small : {i : Seq} {up : Num} {e : Bool} (turn : ℕ) → turn ≤ 1 → EachSeq (Plane most_i) i → Plane most_lift up → FaultSmall (faulted i up (pos 1) 1 turn 0 e)
fault_small turn t h l = record { d_small = record { small = omega arith }; i_small = h; lift_small = l; turn_small = omega (arith, t); phase_to = omega arith }

no_lift : Plane most_lift nil_n
no_lift = plane most_lift (within most_lift nil_n tt)

forth_small : (turn : ℕ) → turn ≤ 1 → FaultSmall (forth_at turn)
forth_small turn t = fault_small turn t (each most_i (plane most_i (within most_i j tt)) i_nil i_nil) no_lift

earth_small : (e : Bool) → FaultSmall (earth e)
earth_small e = fault_small 0 (omega arith) (each most_i i_nil i_nil (plane most_i (within most_i one tt))) no_lift

risen_small : FaultSmall risen
unfolding neg_n
risen_small = fault_small 0 (omega arith) (each most_i i_nil i_nil i_nil) (plane most_lift (within most_lift (neg_n one) tt))

asked : {f : Faulted} → FaultSmall f → (length (found 24).now ≡ 24) × FaultSmall f × ShareSmall alone × (0 ≤ 2816)
asked h = (refl, h, alone_small, omega arith)

abbrev fault_asked : ℕ → MutBor (List ℤ) × (Faulted × Unit {0})
fault_asked turn = (found 13, (forth_at turn, tt))

-- over sevens, off the chain
abbrev over_sevens : MutBor (List ℤ) × (Faulted × (Bool × (Node × (Shared × Unit {0}))))
over_sevens = (lent_out (replicate 24 (pos 7)), (forth, (false, (node 1 0, (alone, tt)))))

abbrev board_call : Faulted → Bool → Node → MutBor (List ℤ) × (Faulted × (Bool × (Node × (Shared × Unit {0}))))
board_call f on n = (found 24, (f, (on, (n, (alone, tt)))))

module _ (κ : Lft) where
  pub top_not : RuledOut (top.Pre (κ, tt)) (ends (top.Post (κ, tt))) (
      fault_asked 1 ↛ left (fault_asked 1) (pos 1 ∷ flat (turns 2 10 6))  -- fault_turned
      ∷ fault_asked 1 ↛ left (fault_asked 1) (pos 1 ∷ flat (turns 4 0 8))  -- fault_turned_back
      ∷ fault_asked 0 ↛ left (fault_asked 0) (flat (turns 3 11 7) ++ (pos 0 ∷ []))  -- d_overwritten
      ∷ fault_asked 0 ↛ left (fault_asked 0) (pos 0 ∷ flat (turns 3 11 7))  -- d_at_place_1
      ∷ [])
  unfolding top_of flat phase_open ◌+N◌ neg_n ◌·N◌ times_t ◌*N◌ power_n
  top_not = by seen (λ a. wholes (top_of a.1.0)) (λ a z s. ap wholes s) (a 1 (omega arith), (a 1 (omega arith), (a 0 (omega arith), (a 0 (omega arith), tt)))) tt
    where
      a : (turn : ℕ) → turn ≤ 1 → (length (found 13).now ≡ 13) × FaultSmall (forth_at turn)
      a turn t = (refl, forth_small turn t)

  pub board_not : RuledOut (board.Pre (κ, tt)) (ends (board.Post (κ, tt))) (
      board_call forth true (node 1 0) ↛ left (board_call forth true (node 1 0)) (flat (turns 3 11 7) ++ flat (turns 0 8 4))  -- currents_first
      ∷ board_call forth true (node 1 0) ↛ left (board_call forth true (node 1 0)) (flat (turns 0 8 4) ++ flat (turns 0 8 4))  -- voltages_twice
      ∷ board_call forth true (node 1 0) ↛ left (board_call forth true (node 1 0)) (flat (turns 3 11 7) ++ flat (turns 3 11 7))  -- currents_twice
      ∷ board_call forth true (node 1 0) ↛ left (board_call forth true (node 1 0)) (flat (turns 0 8 4) ++ flat nothing)  -- chain_carries_nothing
      ∷ board_call forth false (node 1 0) ↛ left (board_call forth false (node 1 0)) (flat (turns 0 8 4) ++ flat (turns 0 0 0))  -- none_is_one
      ∷ board_call forth true (node 1 1) ↛ left (board_call forth true (node 1 1)) (flat (turns 1 9 5) ++ flat (turns 4 0 8))  -- turned_back
      ∷ board_call (earth true) true (node 2 0) ↛ left (board_call (earth true) true (node 2 0)) (flat (turns 0 8 4) ++ flat (turns 0 0 0))  -- i0_through_kind_4
      ∷ board_call (earth true) true (node 1 0) ↛ left (board_call (earth true) true (node 1 0)) (flat (turns 0 8 4) ++ flat nothing)  -- i0_lost
      ∷ board_call (earth false) true (node 1 0) ↛ left (board_call (earth false) true (node 1 0)) (flat (turns 0 8 4) ++ flat (turns 0 0 0))  -- i0_without_return
      ∷ board_call risen true (node 1 0) ↛ left (board_call risen true (node 1 0)) (flat (turns 0 8 4) ++ flat nothing)  -- not_lifted
      ∷ board_call risen false (node 1 0) ↛ left (board_call risen false (node 1 0)) (flat (turns 0 8 4) ++ flat nothing)  -- lifted_on_the_chain_only
      ∷ board_call risen false (node 2 0) ↛ left (board_call risen false (node 2 0)) (flat (zero_shown (neg_n one)) ++ flat nothing)  -- lifted_elsewhere
      ∷ board_call risen true (node 1 0) ↛ left (board_call risen true (node 1 0)) (flat (zero_shown one) ++ flat nothing)  -- lowered
      ∷ over_sevens ↛ left over_sevens (flat (turns 0 8 4) ++ replicate 12 (pos 7))  -- left_as_found
      ∷ over_sevens ↛ left over_sevens (flat (turns 0 8 4) ++ replicate 11 (pos 0) ++ (pos 7 ∷ []))  -- one_zero_less
      ∷ [])
  unfolding numbers_of left_of passed_of carried_of flat phase_open fault_open ◌+N◌ neg_n ◌·N◌ times_t ◌*N◌ power_n
  board_not =
      by seen (λ a. wholes (numbers_of a.1.0 a.1.1.0 a.1.1.1.0 a.1.1.1.1.0)) (λ a z s. ap wholes s)
      (f, (f, (f, (f, (f, ((refl, forth_small 0 (omega arith), alone_small, omega arith), (e true, (e true, (e false, (r, (r, (r, (r, (s, (s, tt))))))))))))))) tt
    where
      f : (length (found 24).now ≡ 24) × FaultSmall forth × ShareSmall alone × (0 ≤ 2816)
      f = asked (forth_small 0 (omega arith))

      s : (length over_sevens.0.now ≡ 24) × FaultSmall forth × ShareSmall alone × (0 ≤ 2816)
      s = (refl, forth_small 0 (omega arith), alone_small, omega arith)

      e : (b : Bool) → (length (found 24).now ≡ 24) × FaultSmall (earth b) × ShareSmall alone × (0 ≤ 2816)
      e b = asked (earth_small b)

      r : (length (found 24).now ≡ 24) × FaultSmall risen × ShareSmall alone × (0 ≤ 2816)
      r = asked risen_small
