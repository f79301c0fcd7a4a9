-- The words of each case.
use mathlib.Core.List.{List}
use mathlib.Core.Path.{◌≡◌, sym, ap}
use Prim.Native.Nat.{ℕ}
use Rattle.std.specs.Prelude.{Result, Ok}
use Rattle.paper.specs.declared.EarthReturn.{EarthReturn}
use Rattle.paper.specs.declared.EarthReturn.TheVariants.{From, Stopped}
use Rattle.paper.specs.declared.Refusal.{Refusal}
use borrow.Author.Rules.{rules}
use Rattle.paper.specs.Bytes.{text}
use Rattle.paper.specs.Return.{said}
use Rattle.lines.specs.Earth.{earth_line, earth_text}
use Rattle.decimal.proofs.Pens.{fits_as, writes_as}
use Rattle.lines.proofs.earthed.put_earth.Goals as goal

-- what each case writes
abbrev words : Result EarthReturn Refusal → List ℕ
words e = earth_text (said e)

pub put_record-requires : goal.put_record-requires
unfolding said earth_text earth_line text
put_record-requires c = let is : c.args.given ≡ Ok (From c.in-Ok-From.r) = search rules in fits_as (ap words is) c.requires

pub put_record-requires-in-Ok-Stopped : goal.put_record-requires-in-Ok-Stopped
unfolding said earth_text earth_line text
put_record-requires-in-Ok-Stopped c = let is : c.args.given ≡ Ok (Stopped c.in-Ok-Stopped.r) = search rules in fits_as (ap words is) c.requires

pub put_refusal-requires : goal.put_refusal-requires
unfolding said earth_text earth_line
put_refusal-requires c = fits_as (ap words c.in-Err.is) c.requires

pub returns-in-Ok-From : goal.returns-in-Ok-From
unfolding said earth_text earth_line text
returns-in-Ok-From c = let is : c.args.given ≡ Ok (From c.in-Ok-From.r) = search rules in writes_as (sym (ap words is)) c.put_record.ensures

pub returns-in-Ok-Stopped : goal.returns-in-Ok-Stopped
unfolding said earth_text earth_line text
returns-in-Ok-Stopped c = let is : c.args.given ≡ Ok (Stopped c.in-Ok-Stopped.r) = search rules in writes_as (sym (ap words is)) c.put_record-in-Ok-Stopped.ensures

pub returns-in-Err : goal.returns-in-Err
unfolding said earth_text earth_line
returns-in-Err c = writes_as (sym (ap words c.in-Err.is)) c.put_refusal.ensures
