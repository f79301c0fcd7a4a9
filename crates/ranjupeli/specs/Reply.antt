-- An answer as C gets it: the same values, each in a field of its own. Assumes nothing.
use Rattle.std.specs.Prelude.{cond, ℕ}
use Rattle.std.proofs.Math.Option.{Option, none, some}
use Rattle.paper.specs.declared.Answer.{Answer}
use Rattle.paper.specs.declared.Lent.{Lent}
use Rattle.paper.specs.declared.Lent.TheVariants.{NetworkBytes, FaultBytes, LabelBytes}
use Rattle.paper.specs.declared.Part.{Part}
use Rattle.paper.specs.declared.Written.{Written}
use Rattle.paper.specs.Return.{Said}
use Rattle.ranjupeli.specs.declared.Reply.{Reply}
use Rattle.ranjupeli.specs.declared.WriteReply.{WriteReply}
use Rattle.ranjupeli.specs.declared.EarthReply.{EarthReply}

abbrev pub owner_of : Lent → ℕ
owner_of NetworkBytes = 0
owner_of FaultBytes = 1
owner_of LabelBytes = 2

unfoldable pub reply_of : Answer → Reply
reply_of a =
    record { amps = a.amps; start = a.part.start; len = a.part.len; place = a.place; n = a.n; number = a.number; owner = owner_of a.part.whose }

unfoldable pub write_reply_of : Written → WriteReply
write_reply_of w = record { len = w.len; place = w.place; number = w.number }

-- ---- what is said of an earth return: whether there is one is 1 or 0, and where no bytes are shown their numbers are 0
unfoldable pub earth_reply : Said → Option Part → EarthReply
earth_reply s none = record { start = 0; len = 0; place = s.place; number = s.number; owner = 0; earthed = cond s.earthed 1 0 }
earth_reply s (some p) = record { start = p.start; len = p.len; place = s.place; number = s.number; owner = owner_of p.whose; earthed = cond s.earthed 1 0 }

unfoldable pub earth_reply_of : Said → EarthReply
earth_reply_of s = earth_reply s s.shown
