use mathlib.Core.Path.{sym, ap, ◌∙◌}
use native.Mathlib.Omega.{arith}
use lib.ListN.{length}
use Rattle.decimal.proofs.Pens.{fits_as, writes_as}
use Rattle.lines.proofs.Unspaced.{front, unspaced_most}
use Rattle.lines.proofs.name.put_label.Goals as goal

pub slice_bounds-l-end : goal.slice_bounds-l-end
slice_bounds-l-end c = omega (arith, c.letters-n.ensures, unspaced_most c.args.l)

pub slice_bounds-bytes-end : goal.slice_bounds-bytes-end
slice_bounds-bytes-end c = c.letters-n.ensures ∙ sym (ap length (front _ c.letters-n.ensures))

pub bytes-requires : goal.bytes-requires
bytes-requires c = fits_as (sym (front _ c.letters-n.ensures)) c.requires

pub returns : goal.returns
returns c = writes_as (front _ c.letters-n.ensures) c.bytes.ensures
