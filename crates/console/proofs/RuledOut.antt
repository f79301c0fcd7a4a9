-- What contracts of this crate rule out: room for fewer bytes than are to be read, and more bytes read than there is room for.
use mathlib.Core.List.{[], ◌∷◌}
use mathlib.Core.Path.{sym, subst}
use lib.Dec.{T, leb}
use lib.ListN.{length, replicate}
use base.Fml.{Lft}
use borrow.Author.Tests.{le-leb}
use denote.Param.Laws.{Laws}
use denote.RattleType.{RattleType}
use denote.Ref.{Bor}
use mir.Syntax.{Dict}
use Rattle.std.specs.declared.fs.files.Files as files
use Rattle.std.specs.declared.fs.files.OpenFile as open-file
use Rattle.std.specs.declared.io.traits.Read as read
use Rattle.std.specs.declared.io.traits.Write as write
use Rattle.std.specs.declared.io.traits.Seek as seek
use Rattle.lemmas.proofs.RuledOut.{◌↛◌, RuledOut, ever, ends, by, by_test, lent_out}
use Rattle.console.specs.Limits.{file_most}
use Rattle.console.proofs.file_space.Reads as file-space
use Rattle.console.proofs.network.Reads as network

pub file_space_not : RuledOut (file-space.Pre tt) (ever (file-space.Post tt)) (
    tt ↛ replicate 52 0  -- file_of_52
    ∷ tt ↛ replicate 11272 0  -- file_of_256_boards
    ∷ [])
file_space_not = by length (λ a. file_most) (λ a z s. sym s.1) (tt, (tt, tt)) tt

-- whatever runtime it is that opens the file
module _ (R F D : RattleType) (r : Laws R) (f : Laws F) (d : Laws D) (files : files.Ghosts R.Denot F.Denot D.Denot) (d1 : Dict) (reads : read.Ghosts F.Denot) (d2 : Dict)
    (writes : write.Ghosts F.Denot) (d3 : Dict) (seeks : seek.Ghosts F.Denot) (d4 : Dict) (opens : open-file.Ghosts F.Denot) (d5 : Dict) (lists : read.Ghosts D.Denot) (d6 d7 d8 : Dict)
    (κ μ : Lft) (rt : Bor R.Denot) where
  pub network_not : RuledOut (network.Pre R F D r f d files d1 reads d2 writes d3 seeks d4 opens d5 lists d6 d7 d8 (κ, (μ, (R.lives, (F.lives, (D.lives, tt)))))) (ends (network.Post R F D r f d files d1 reads d2 writes d3 seeks d4 opens d5 lists d6 d7 d8 (κ, (μ, (R.lives, (F.lives, (D.lives, tt))))))) (
      (rt, (lent_out (0 ∷ 0 ∷ []), tt)) ↛ (3, (rt, (lent_out (72 ∷ 68 ∷ []), tt)))  -- one_byte_too_many
      ∷ (rt, (lent_out (0 ∷ 0 ∷ []), tt)) ↛ (16384, (rt, (lent_out (72 ∷ 68 ∷ []), tt)))  -- always_the_most
      ∷ [])
  network_not = by_test (λ a z. leb z.0 (length z.1.1.0.now)) (λ a z s. subst T (sym (le-leb z.0 (length z.1.1.0.now) s.0)) tt) ((λ a m. m, (λ a m. m, λ a m. m)), ((λ a m. m, (λ a m. m, λ a m. m)), tt)) tt
