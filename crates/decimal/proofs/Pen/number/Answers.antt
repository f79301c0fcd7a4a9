use mathlib.Core.Path.{◌≡◌}
use mathlib.Core.List.{◌∷◌}
use Rattle.decimal.specs.Decimal.{decimal, signed}
use Rattle.decimal.proofs.Pens.{left_all, left_as, left_then, left_last, fits_front}
use Rattle.decimal.proofs.Signed.{signed_below, signed_above}
use Rattle.decimal.proofs.Pen.number.Goals as goal

pub byte-requires-then-z-lt0 : goal.byte-requires-then-z-lt0
byte-requires-then-z-lt0 c =
    let text : signed c.args.z ≡ 0x2D ∷ decimal c.magnitude-n.result = signed_below c.args.z c.ranges.z c.if-z-lt0.true c.magnitude-n.ensures in
    fits_front _ (left_as text (left_then (left_all c.requires) c.byte.ensures)).room

pub decimal-requires : goal.decimal-requires
decimal-requires c =
    let text : signed c.args.z ≡ 0x2D ∷ decimal c.magnitude-n.result = signed_below c.args.z c.ranges.z c.if-z-lt0.true c.magnitude-n.ensures in
    (left_then (left_as text (left_then (left_all c.requires) c.byte.ensures)) c.byte-then-z-lt0.ensures).room

pub returns-then-z-lt0 : goal.returns-then-z-lt0
returns-then-z-lt0 c =
    let text : signed c.args.z ≡ 0x2D ∷ decimal c.magnitude-n.result = signed_below c.args.z c.ranges.z c.if-z-lt0.true c.magnitude-n.ensures in
    left_last (left_then (left_as text (left_then (left_all c.requires) c.byte.ensures)) c.byte-then-z-lt0.ensures) c.decimal.ensures

pub decimal-requires-2 : goal.decimal-requires-2
decimal-requires-2 c =
    let text : signed c.args.z ≡ decimal c.magnitude-n.result = signed_above c.args.z c.ranges.z c.if-z-lt0.false c.magnitude-n.ensures in
    (left_as text (left_then (left_all c.requires) c.byte.ensures)).room

pub returns : goal.returns
returns c =
    let text : signed c.args.z ≡ decimal c.magnitude-n.result = signed_above c.args.z c.ranges.z c.if-z-lt0.false c.magnitude-n.ensures in
    left_last (left_as text (left_then (left_all c.requires) c.byte.ensures)) c.decimal-2.ensures
