use Rattle.file.proofs.field.u16_at.Goals as goal

pub returns : goal.returns
returns c = c.pair.ensures
