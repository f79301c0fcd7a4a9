-- What its type says of a board (`Typed`), read off what a function has of a board that it is passed (`lay::typed`), and so of each of a list's. Assumes nothing.
use mathlib.Core.List.{List, [], ◌∷◌}
use mathlib.Core.Path.{◌≡◌, subst}
use native.Mathlib.Numerals.{add-one}
use Prim.Native.Nat.{ℕ, zero, suc, ◌+◌, ◌<◌, ◌≤◌}
use native.Mathlib.Omega.{arith}
use lib.ListN.{length, take, get_or}
use lib.Seq.{take_all}
use base.Fml.{Lft}
use package.mir.Syntax.{Lifetime, w8, w16}
use package.mir.Val.{Val}
use denote.Laws.{Is}
use denote.Known.{Says, Known, All, Says-shadow, Says-first, Says-map, uint_known, struct_known, declared_known, shr_slice_known}
use denote.Bor.{Bor}
use denote.Slice.{ShrSlice}
use denote.Array.{Array}
use denote.Builtin.{u8}
use denote.Struct.Declared.{shape}
use denote.Struct.Laws as LL
use Rattle.paper.specs.declared.Ohms.{Ohms}
use Rattle.paper.specs.declared.Board.{Board}
use Rattle.paper.specs.Bounds.{AtMost}
use Rattle.paper.specs.Chain.{Boards}
use Rattle.paper.specs.contracts.Ohms as O
use Rattle.paper.proofs.Ohms.TheLaws as O'
use Rattle.paper.specs.contracts.Board as T
use Rattle.paper.proofs.Board.TheLaws as T'
use Rattle.writer.specs.RoundTrip.{Typed, AllTyped}

ohms_in_type : (z : Ohms) (vs : List Val) → Is O.the_row z vs → AtMost 65535 z
ohms_in_type z vs g = let w = LL.owed O.the_type O'.the_laws z vs g in record { r_most = omega (arith, w.0.1); x_most = omega (arith, w.1.0.1) }

-- a label as it lies in a board
twelve : (l : List ℕ) (vs : List Val) → Is (Array u8 12) l vs → length l ≡ 12
twelve l vs p = p.1.0.1

pub board_in_type : (d : Board) (vs : List Val) → Is T.the_row d vs → Typed d
board_in_type d vs g =
    let w = LL.owed T.the_type T'.the_laws d vs g in
    record {
      label_12 = twelve d.label _ w.1.1.1.1.0;
      feeder_12 = twelve d.feeder _ w.1.1.1.1.1.0;
      z1_word = ohms_in_type d.z1 _ w.0;
      z2_word = ohms_in_type d.z2 _ w.1.0;
      z0_word = ohms_in_type d.z0 _ w.1.1.0;
      zn_word = ohms_in_type d.zn _ w.1.1.1.0;
    }

pub all_take : (n : ℕ) (ys : Boards) → AllTyped ys → AllTyped (take n ys)
all_take zero ys t = tt
all_take (suc n) [] t = tt
all_take (suc n) (y ∷ ys) (t, ts) = (t, all_take n ys ts)

-- one more of the first
one_more : (i : ℕ) (ys : Boards) (d : Board) → i < length ys → AllTyped (take i ys) → Typed (get_or ys i d) → AllTyped (take (suc i) ys)
one_more zero [] d h ts t = tt
one_more zero (y ∷ ys) d h ts t = (t, tt)
one_more (suc i) [] d h ts t = tt
one_more (suc i) (y ∷ ys) d h (u, us) t = (u, one_more i ys d (omega arith) us t)

pub all_more : (i : ℕ) (ys : Boards) (d : Board) → i < length ys → AllTyped (take i ys) → Typed (get_or ys i d) → AllTyped (take (i + 1) ys)
all_more i ys d h ts t = rw (add-one i) (one_more i ys d h ts t)

-- the first as many as there are
pub all_of : (n : ℕ) (ys : Boards) → length ys ≤ n → AllTyped (take n ys) → AllTyped ys
all_of n ys h t = subst AllTyped (take_all n ys h) t

-- ---- and whoever has a `&[Board]` knows so of each of its boards, in every model: no caller can lend others
abbrev known_ohms : Known O.the_field.row
known_ohms = struct_known (shape O.the_type) (uint_known w16, (uint_known w16, tt))

abbrev known_label : Known (Array u8 12)
known_label = record {
  Fact = λ l. length l ≡ 12;
  owned = λ l vs. Says-shadow ((Array u8 12).own_val l vs) (twelve l vs);
  shared = λ l b o κ. Says-first _ _ (Says-shadow _ (λ s. s));
}

abbrev known_board : Known T.the_row
known_board = declared_known T.the_type (known_ohms, (known_ohms, (known_ohms, (known_ohms, (known_label, (known_label, (uint_known w8, (uint_known w8, tt))))))))

known_typed : (d : Board) → known_board.Fact d → Typed d
known_typed d (z1, (z2, (z0, (zn, (label, (feeder, _)))))) =
    record {
      label_12 = label;
      feeder_12 = feeder;
      z1_word = record { r_most = omega (arith, z1.0); x_most = omega (arith, z1.1.0) };
      z2_word = record { r_most = omega (arith, z2.0); x_most = omega (arith, z2.1.0) };
      z0_word = record { r_most = omega (arith, z0.0); x_most = omega (arith, z0.1.0) };
      zn_word = record { r_most = omega (arith, zn.0); x_most = omega (arith, zn.1.0) };
    }

known_all : (ys : Boards) → All known_board.Fact ys → AllTyped ys
known_all [] a = tt
known_all (y ∷ ys) a = (known_typed y (a 0 y (omega arith)), known_all ys (λ i d h. a (suc i) d (omega arith)))

pub typed_boards : (ℓ : Lifetime) (κ : Lft) (x : Bor (List Board)) (vs : List Val) → Says ((ShrSlice ℓ κ T.the_row).own_val x vs) (AllTyped x.now)
typed_boards ℓ κ x vs = Says-map _ (known_all x.now) ((shr_slice_known T.the_row known_board ℓ κ).owned x vs)
