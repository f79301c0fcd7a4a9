use Rattle.std.proofs.Common.{refl}
use Rattle.label.proofs.LettersByWord.{letters_then_spaces_is}
use Rattle.label.proofs.formed.letters_then_spaces.Goals as goal

pub returns : goal.returns
returns c = letters_then_spaces_is c.args.w c.ranges.w.fits refl refl refl
