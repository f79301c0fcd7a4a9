-- 02, R-4: what is said tells the answer, so a contract that says it allows one answer alone. Assumes nothing.
use mathlib.Core.Bool.{cond}
use mathlib.Core.Option.{none, some}
use mathlib.Core.Path.{◌≡◌, refl, sym, ◌∙◌, ap}
use Rattle.std.specs.Prelude.{Result, Ok, Err}
use Rattle.paper.specs.declared.EarthReturn.{EarthReturn}
use Rattle.paper.specs.declared.Refusal.{Refusal}
use Rattle.paper.specs.declared.EarthReturn.TheVariants.{From, Stopped}
use Rattle.paper.specs.Return.{Said, said}

-- an answer that shows no part names a record
unfoldable answer_of : Said → Result EarthReturn Refusal
answer_of s = elim s.shown [ none ↦ Ok (cond s.earthed (From s.place) (Stopped s.place)) | some p ↦ Err (record { part = p; place = s.place; number = s.number }) ]

back : (a : Result EarthReturn Refusal) → answer_of (said a) ≡ a
unfolding answer_of said
back (Ok (From r)) = refl
back (Ok (Stopped r)) = refl
back (Err w) = refl

pub one_answer : (a b : Result EarthReturn Refusal) → said a ≡ said b → a ≡ b
one_answer a b e = sym (back a) ∙ ap answer_of e ∙ back b
