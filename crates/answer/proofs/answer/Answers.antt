use mathlib.Core.Path.{refl}
use native.Mathlib.Omega.{arith}
use lib.Seq.{length-take-le}
use Rattle.answer.proofs.Boards.{fault_small}
use Rattle.answer.proofs.Whole.{room_stays, earlier_all, passing, whole, in_range, k_in, faulted_good, d_good, d_positive, volts_in, amps_good}
use Rattle.answer.proofs.answer.Goals as goal

-- `answer::answer` meets its contract: D and the currents in front, and the boards behind them. Assumes nothing.
pub fault_at-f-requires : goal.fault_at-f-requires
fault_at-f-requires c = in_range c.requires.1 refl

pub chain-on-requires : goal.chain-on-requires
chain-on-requires c = let p = c.requires.1 in ((k_in p).1, earlier_all p)

pub top-requires : goal.top-requires
top-requires c =
    let p = c.requires.1 in
    (length-take-le 13 c.args.out.now (omega arith), fault_small c.requires.0 p.ready (faulted_good p refl c.fault_at-f.ensures))

pub boards-requires : goal.boards-requires
boards-requires c =
    let p = c.requires.1 in (
      c.requires.0,
      passing p refl c.from-n.ensures c.fault_at-f.ensures c.chain-on.ensures,
      omega (arith, room_stays c.fault_at-f.result c.args.out.now c.top.ensures (omega arith)),
    )

pub amps-requires : goal.amps-requires
amps-requires c =
    let p = c.requires.1 in
    record {
      volts_at_most = (volts_in p).0;
      unit_at_least = (volts_in p).1;
      d_positive = d_positive p refl (d_good p refl c.fault_at-f.ensures) c.fault_at-f.ensures;
    }

pub returns : goal.returns
returns c =
    record {
      value = λ q p. amps_good p refl c.amps.result (d_good p refl c.fault_at-f.ensures) refl c.fault_at-f.ensures c.amps.ensures;
      out_after = λ q p. whole p c.args.out.now c.from-n.ensures (faulted_good p refl c.fault_at-f.ensures) c.top.ensures
          (c.boards.ensures q (passing p refl c.from-n.ensures c.fault_at-f.ensures c.chain-on.ensures));
    }
