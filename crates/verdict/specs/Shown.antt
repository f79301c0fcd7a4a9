-- A part of the bytes that a call is lent, handed back. Assumes nothing.
use Rattle.std.specs.Prelude.{List, ◌≡◌, ℕ, ◌+◌, ◌≤◌, length}
use Rattle.std.specs.Borrow.{Bor}
use Rattle.paper.specs.declared.Lent.{Lent}
use Rattle.paper.specs.declared.Lent.TheVariants.{NetworkBytes, FaultBytes, LabelBytes}
use Rattle.paper.specs.declared.Part.{Part}
use Rattle.paper.specs.Bytes.{cut}

-- "the bytes it came in, network or fault": the network's, or those that say what is asked of it, a fault's or a label's (02, R-4). A call is lent one of these
abbrev pub lent : {A : Type 0} → Lent → A → A → A
lent NetworkBytes net asked = net
lent FaultBytes net asked = asked
lent LabelBytes net asked = asked

-- the bytes that a part names
abbrev pub shown_bytes : List ℕ → List ℕ → Part → List ℕ
shown_bytes net asked p = cut (lent p.whose net asked) p.start p.len

-- the part lies within what it is a part of
abbrev pub Within : Part → List ℕ → List ℕ → Type 0
Within p net asked = p.start + p.len ≤ length (lent p.whose net asked)

-- r is the part of the slice s that starts at a and is n long: these bytes, and no copy of them, for they stand a bytes behind the place where s stands
pub record IsPart (s : Bor (List ℕ)) (a n : ℕ) (r : Bor (List ℕ)) : Type 0 where
  pub bytes : r.now ≡ cut s.now a n
  pub block : r.ref_ptr.0 ≡ s.ref_ptr.0
  pub offset : r.ref_ptr.1 ≡ s.ref_ptr.1 + a
