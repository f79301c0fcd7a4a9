use Rattle.std.proofs.Common.{◌≡◌, ℕ, ◌-◌, ◌*◌, ◌^◌, ◌<◌, ◌≤◌, true, false, leb, sym, ◌∙◌, zero-le, lt_of_lt_of_le, le_antisymm, zero-mul, sub-add_cancel, le-mul_of_pos_right, arith, leb-false, leb-true}
use Rattle.root.specs.Root.{Root}
use Rattle.root.proofs.root.Invariants.{Bracket}
use Rattle.root.proofs.root.Goals as goal
use Rattle.root.proofs.root.Goals.{then-reaches, else-reaches}

opened : {num den : ℕ} → num < 2 ^ 128 → 1 ≤ den → Bracket num den 0 (2 ^ 64 - 1)
opened {den = den} short pos = record { low = rw (zero-mul den) zero-le; high = lt_of_lt_of_le short (le-mul_of_pos_right (2 ^ 128) pos); order = omega arith; fits = omega arith }

module _ {num den lo top : ℕ} (b : Bracket num den lo top) where
  raised : (m : ℕ) → m ≤ top → leb (m * m * den) num ≡ true → Bracket num den m top
  raised m within t = record { low = leb-true (m * m * den) num t; high = b.high; order = within; fits = b.fits }

  lowered : (m : ℕ) → lo < m → m ≤ top → leb (m * m * den) num ≡ false → Bracket num den lo (m - 1)
  lowered m above within t = record {
    low = b.low;
    high = rw (sub-add_cancel {n = m} {m = 1} (omega arith)) (leb-false (m * m * den) num t);
    order = omega arith;
    fits = omega (arith, b.fits);
  }

  shut : top ≤ lo → Root num den lo
  shut h = record { low = b.low; high = rw (le_antisymm b.order h) b.high }

pub loop-lo-init : goal.loop-lo-init
loop-lo-init c = opened (omega arith) c.requires

pub loop-lo-preserved : goal.loop-lo-preserved
loop-lo-preserved c =
    let m = c.between-m in
    let b = c.loop-lo.invariant in
    elim c.if-reaches.branch [
      | then-reaches w ↦ rw (w.lo-is, w.top-is) (raised b m.result m.ensures.1 (sym c.reaches.ensures ∙ w.if-reaches.true))
      | else-reaches w ↦ rw (w.lo-is, w.top-is) (lowered b m.result m.ensures.0 m.ensures.1 (sym c.reaches.ensures ∙ w.if-reaches.false))
    ]

pub returns : goal.returns
returns c = shut c.loop-lo.invariant c.loop-lo-test.false
