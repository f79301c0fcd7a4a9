use borrow.Author.Rules.{rules}
use Rattle.fits.proofs.Needs.{for_first, within_is}
use Rattle.fault.proofs.volts.OverD.first.Goals as goal

-- `fault::volts::OverD::first` meets its contract. Assumes nothing.
pub sub-requires : goal.sub-requires
sub-requires c =
    let s = c.args.self in
    let n = for_first s.d_small c.requires s.i_plane.e1 in
    (search rules, within_is c.drop.ensures n.drop1)
