-- The enum of each word that the kind table says of zero sequence. Assumes nothing.
use Rattle.paper.specs.Kind.{Zero, starts, goes_on, none}
use Rattle.kind.specs.declared.zero.ZeroWord.{ZeroWord}
use Rattle.kind.specs.declared.zero.ZeroWord.TheVariants.{Starts, GoesOn, Blocked}

unfoldable pub zero_word : Zero → ZeroWord
zero_word (starts t) = Starts
zero_word (goes_on t) = GoesOn
zero_word none = Blocked
