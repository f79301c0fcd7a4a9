-- The measure is the number: its tenth is less.
use Rattle.std.proofs.Common.{sym, arith}
use Rattle.decimal.proofs.Pens.{fits_front, fits_as, left_by, left_then, left_last, writes_as}
use Rattle.decimal.proofs.Decimal.{decimal_one, decimal_more}
use Rattle.decimal.proofs.Pen.+decimal.Goals as goal

pub byte-requires : goal.byte-requires
byte-requires t c = fits_as (decimal_one c.args.n (omega arith)) c.requires

pub returns-then-n-lt10 : goal.returns-then-n-lt10
returns-then-n-lt10 t c = writes_as (sym (decimal_one c.args.n (omega arith))) c.byte.ensures

pub decimal-requires : goal.decimal-requires
decimal-requires t c = (omega arith, fits_front _ (fits_as (decimal_more c.args.n (omega arith) (omega arith)) c.requires))

pub byte-requires-2 : goal.byte-requires-2
byte-requires-2 t c = (left_then (left_by (decimal_more c.args.n (omega arith) (omega arith)) c.requires) c.decimal.ensures).room

pub returns : goal.returns
returns t c = left_last (left_then (left_by (decimal_more c.args.n (omega arith) (omega arith)) c.requires) c.decimal.ensures) c.byte-2.ensures
