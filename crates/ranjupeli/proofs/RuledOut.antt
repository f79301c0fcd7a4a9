-- What replies rule out: an answer of `solve`, `write` or `earth`, and a reply that is not its own. Assumes nothing.
use mathlib.Core.List.{[], ◌∷◌}
use Prim.Native.Nat.{ℕ}
use Rattle.lemmas.proofs.RuledOut.{◌↛◌, RuledOut, ever, by_equation, list}
use Rattle.paper.specs.declared.Answer.{Answer}
use Rattle.paper.specs.declared.Written.{Written}
use Rattle.std.specs.Prelude.{Result, Ok, Err}
use Rattle.paper.specs.declared.EarthReturn.{EarthReturn}
use Rattle.paper.specs.declared.Refusal.{Refusal}
use Rattle.paper.specs.declared.EarthReturn.TheVariants.{From, Stopped}
use Rattle.paper.specs.declared.Lent.TheVariants.{NetworkBytes, FaultBytes, LabelBytes}
use Rattle.paper.specs.Bytes.{part}
use Rattle.paper.specs.Return.{said, refused_by}
use Rattle.paper.specs.Refusal.{no_part}
use Rattle.ranjupeli.specs.declared.Reply.{Reply}
use Rattle.ranjupeli.specs.declared.WriteReply.{WriteReply}
use Rattle.ranjupeli.specs.declared.EarthReply.{EarthReply}
use Rattle.ranjupeli.specs.Reply.{owner_of, reply_of, write_reply_of, earth_reply, earth_reply_of}
use Rattle.ranjupeli.proofs.ReplyFromAnswer.from.Reads as reply-from
use Rattle.ranjupeli.proofs.WriteReplyFromWritten.from.Reads as write-reply-from
use Rattle.ranjupeli.proofs.EarthReplyFromRefusal.from.Reads as refused-reply-from
use Rattle.ranjupeli.proofs.EarthReplyFromResultEarthReturnRefusal.from.Reads as earth-reply-from

-- ---- of `solve`: a fault of 19 bytes, and 01's booth
abbrev torn : Answer
torn = record { amps = 0; part = part FaultBytes 0 19; place = 0; n = 0; number = 12 }

abbrev found : Answer
found = record { amps = 3709; part = part NetworkBytes 52 44; place = 2; n = 3; number = 0 }

abbrev answer : ℕ → ℕ → ℕ → ℕ → ℕ → ℕ → ℕ → Reply
answer amps start len place n number owner = record { amps = amps; start = start; len = len; place = place; n = n; number = number; owner = owner }

pub from_answer_not : RuledOut (reply-from.Pre tt) (ever (reply-from.Post tt)) (
    (torn, tt) ↛ answer 0 0 19 0 0 12 0  -- fault_shown_in_the_network
    ∷ (torn, tt) ↛ answer 0 0 44 0 0 12 1  -- always_a_record
    ∷ (found, tt) ↛ answer 3709 52 44 2 2 0 0  -- place_for_n
    ∷ [])
unfolding reply_of owner_of
from_answer_not =
    by_equation (λ a. reply_of a.0) (λ r. list (r.amps ∷ r.start ∷ r.len ∷ r.place ∷ r.n ∷ r.number ∷ r.owner ∷ [])) (λ a z e s. s) (tt, (tt, (tt, tt))) tt

-- ---- of `write`: number, place and length
abbrev wrote : ℕ → ℕ → ℕ → Written
wrote number place len = record { part = no_part; len = len; place = place; number = number }

abbrev reply : ℕ → ℕ → ℕ → WriteReply
reply number place len = record { len = len; place = place; number = number }

pub from_written_not : RuledOut (write-reply-from.Pre tt) (ever (write-reply-from.Post tt)) (
    (wrote 7 2 0, tt) ↛ reply 7 0 0  -- written_place_lost
    ∷ (wrote 0 0 52, tt) ↛ reply 0 0 0  -- written_length_lost
    ∷ (wrote 20 0 0, tt) ↛ reply 0 0 0  -- written_though_refused
    ∷ [])
unfolding write_reply_of
from_written_not = by_equation (λ a. write_reply_of a.0) (λ r. list (r.number ∷ r.place ∷ r.len ∷ [])) (λ a z e s. s) (tt, (tt, (tt, tt))) tt

-- ---- of `earth`: number, place, whether there is a return, and start, length and owner of what is shown
abbrev earth : ℕ → ℕ → ℕ → ℕ → ℕ → ℕ → EarthReply
earth number place earthed start len owner = record { start = start; len = len; place = place; number = number; owner = owner; earthed = earthed }

abbrev unknown : Result EarthReturn Refusal
unknown = Err (record { part = part LabelBytes 0 11; place = 0; number = 14 })

pub from_earth_not : RuledOut (earth-reply-from.Pre tt) (ever (earth-reply-from.Post tt)) (
    (Ok (From 3), tt) ↛ earth 0 3 0 0 0 0  -- return_lost
    ∷ (Ok (Stopped 3), tt) ↛ earth 0 3 1 0 0 0  -- stopped_is_a_return
    ∷ (Ok (Stopped 3), tt) ↛ earth 0 0 0 0 0 0  -- record_lost
    ∷ (unknown, tt) ↛ earth 0 0 0 0 0 0  -- refused_is_stopped
    ∷ (unknown, tt) ↛ earth 14 0 0 0 11 1  -- label_shown_in_a_fault
    ∷ (unknown, tt) ↛ earth 14 0 0 0 12 2  -- label_always_of_twelve
    ∷ [])
unfolding said earth_reply_of earth_reply owner_of
from_earth_not =
    by_equation (λ a. earth_reply_of (said a.0)) (λ r. list (r.number ∷ r.place ∷ r.earthed ∷ r.start ∷ r.len ∷ r.owner ∷ [])) (λ a z e s. s) (tt, (tt, (tt, (tt, (tt, (tt, tt)))))) tt

pub from_refusal_not : RuledOut (refused-reply-from.Pre tt) (ever (refused-reply-from.Post tt)) (
    (record { part = part LabelBytes 0 11; place = 0; number = 14 }, tt) ↛ earth 0 0 0 0 11 2  -- number_of_the_refusal_lost
    ∷ (record { part = part NetworkBytes 52 44; place = 2; number = 9 }, tt) ↛ earth 9 0 0 52 44 0  -- place_of_the_refusal_lost
    ∷ [])
unfolding earth_reply_of earth_reply owner_of
from_refusal_not =
    by_equation (λ a. earth_reply_of (refused_by a.0)) (λ r. list (r.number ∷ r.place ∷ r.earthed ∷ r.start ∷ r.len ∷ r.owner ∷ [])) (λ a z e s. s) (tt, (tt, tt)) tt
