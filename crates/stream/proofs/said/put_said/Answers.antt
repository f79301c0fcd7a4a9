-- The bytes of each case.
use mathlib.Core.List.{List}
use mathlib.Core.Path.{◌≡◌, sym, ap}
use Prim.Native.Nat.{ℕ}
use Rattle.decimal.proofs.Pens.{fits_as, writes_as}
use Rattle.std.specs.Prelude.{Result, Ok}
use Rattle.paper.specs.declared.EarthReturn.{EarthReturn}
use Rattle.paper.specs.declared.EarthReturn.TheVariants.{From, Stopped}
use Rattle.paper.specs.declared.Refusal.{Refusal}
use borrow.Author.Rules.{rules}
use Rattle.paper.specs.Return.{said}
use Rattle.stream.specs.Said.{shown_of, said_of}
use Rattle.stream.proofs.said.put_said.Goals as goal

-- what each case lays down, before the bytes that it shows
abbrev bytes : List ℕ → Result EarthReturn Refusal → List ℕ
bytes shown e = said_of (said e) shown

pub put_named-requires : goal.put_named-requires
unfolding said said_of shown_of
put_named-requires c = let is : c.args.given ≡ Ok (From c.in-Ok-From.r) = search rules in fits_as (ap (bytes c.args.shown.now) is) c.requires

pub put_named-requires-in-Ok-Stopped : goal.put_named-requires-in-Ok-Stopped
unfolding said said_of shown_of
put_named-requires-in-Ok-Stopped c = let is : c.args.given ≡ Ok (Stopped c.in-Ok-Stopped.r) = search rules in fits_as (ap (bytes c.args.shown.now) is) c.requires

pub put_refused-requires : goal.put_refused-requires
unfolding said
put_refused-requires c = fits_as (ap (bytes c.args.shown.now) c.in-Err.is) c.requires

pub returns-in-Ok-From : goal.returns-in-Ok-From
unfolding said said_of shown_of
returns-in-Ok-From c = let is : c.args.given ≡ Ok (From c.in-Ok-From.r) = search rules in writes_as (sym (ap (bytes c.args.shown.now) is)) c.put_named.ensures

pub returns-in-Ok-Stopped : goal.returns-in-Ok-Stopped
unfolding said said_of shown_of
returns-in-Ok-Stopped c = let is : c.args.given ≡ Ok (Stopped c.in-Ok-Stopped.r) = search rules in writes_as (sym (ap (bytes c.args.shown.now) is)) c.put_named-in-Ok-Stopped.ensures

pub returns-in-Err : goal.returns-in-Err
unfolding said
returns-in-Err c =
    writes_as (sym (ap (bytes c.args.shown.now) c.in-Err.is)) c.put_refused.ensures
