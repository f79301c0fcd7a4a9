-- What the contract of `earth` rules out: a call that it allows, and an answer that it does not. The networks are those of the figures (`paper` `ReturnFigures`). Assumes nothing.
use mathlib.Core.List.{List, [], ◌∷◌, ◌++◌}
use mathlib.Core.Option.{Option, none, some}
use mathlib.Core.Path.{ap}
use Prim.Native.Nat.{ℕ}
use lib.ListN.{take}
use base.Fml.{Lft}
use Rattle.std.specs.Prelude.{Result, Ok, Err}
use Rattle.lemmas.proofs.RuledOut.{◌↛◌, RuledOut, ever, by, list, bool, lent}
use Rattle.paper.specs.declared.Part.{Part}
use Rattle.paper.specs.declared.EarthReturn.{EarthReturn}
use Rattle.paper.specs.declared.Refusal.{Refusal}
use Rattle.paper.specs.declared.EarthReturn.TheVariants.{From, Stopped}
use Rattle.paper.specs.declared.Lent.TheVariants.{LabelBytes}
use Rattle.paper.specs.Bytes.{part}
use Rattle.paper.specs.Answer.{paper}
use Rattle.paper.specs.Return.{Said, said, earth_said, return_open}
use Rattle.paper.proofs.Compare.{ordinal}
use Rattle.paper.proofs.Typed.{label, typed_open}
use Rattle.paper.proofs.Figures.{records, net3}
use Rattle.paper.proofs.UnearthedFigures.{below}
use Rattle.paper.proofs.ForgottenFigures.{forgetful}
use Rattle.paper.proofs.ReturnFigures.{inner, floating, stopped}
use Rattle.return_path.proofs.earth.Reads as earth

-- ---- answers told apart
abbrev shows : Option Part → List ℕ
shows none = []
shows (some p) = ordinal p.whose ∷ p.start ∷ p.len ∷ []

abbrev told : Said → ℕ
told s = list (s.number ∷ bool s.earthed ∷ s.place ∷ shows s.shown)

abbrev unknown : ℕ → Result EarthReturn Refusal
unknown len = Err (record { part = part LabelBytes 0 len; place = 0; number = 14 })

module _ (κ κ' : Lft) where
  pub earth_not : RuledOut (earth.Pre (κ, (κ', tt))) (ever (earth.Post (κ, (κ', tt)))) (
      (lent stopped, (lent (label "TENT"), tt)) ↛ Ok (From 1)  -- from_the_source_always
      ∷ (lent stopped, (lent (label "ROOM"), tt)) ↛ Ok (Stopped 2)  -- first_kind_5_from_the_source
      ∷ (lent net3, (lent (label "HALL"), tt)) ↛ Ok (Stopped 3)  -- kind_4_stops
      ∷ (lent stopped, (lent (label "BELOW"), tt)) ↛ Ok (Stopped 3)  -- stopped_at_the_feeder
      ∷ (lent stopped, (lent (label "BELOW"), tt)) ↛ Ok (Stopped 4)  -- stopped_at_the_board
      ∷ (lent stopped, (lent (label "BELOW"), tt)) ↛ Ok (From 1)  -- return_through_kind_5
      ∷ (lent floating, (lent (label "BOOTH-WEST-1"), tt)) ↛ Ok (From 1)  -- set_off_earth_returns
      ∷ (lent net3, (lent (label "gen"), tt)) ↛ unknown 12  -- label_as_typed
      ∷ (lent net3, (lent (take 11 (label "GEN")), tt)) ↛ Ok (From 1)  -- label_of_eleven_taken
      ∷ (lent net3, (lent (label "GEN" ++ (0x20 ∷ [])), tt)) ↛ Ok (From 1)  -- label_of_thirteen_cut
      ∷ (lent net3, (lent (take 11 (label "GEN")), tt)) ↛ unknown 12  -- short_label_shown_as_12
      ∷ (lent [], (lent [], tt)) ↛ unknown 0  -- fourteen_before_one
      ∷ (lent forgetful, (lent (label "HALL"), tt)) ↛ Ok (From 3)  -- forgotten_answered
      ∷ (lent forgetful, (lent (label "NOBODY"), tt)) ↛ unknown 12  -- fourteen_before_twenty_one
      ∷ [])
  unfolding paper return_open typed_open records below inner
  earth_not =
      by (λ r. told (said r)) (λ a. told (earth_said a.0.now a.1.0.now)) (λ a z s. ap told s.1)
      (tt, (tt, (tt, (tt, (tt, (tt, (tt, (tt, (tt, (tt, (tt, (tt, (tt, (tt, tt)))))))))))))) tt
