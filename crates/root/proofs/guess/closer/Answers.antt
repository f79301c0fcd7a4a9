use Rattle.std.proofs.Common.{◌+◌, ◌/◌, div-le_self, arith}
use Rattle.root.proofs.guess.closer.Goals as goal

pub overflow_add-result : goal.overflow_add-result
overflow_add-result c = omega (arith, div-le_self (c.args.m / 2) (c.args.x / 2 + 1))
