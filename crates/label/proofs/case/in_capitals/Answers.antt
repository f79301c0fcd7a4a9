-- Byte by byte: of all 256 the library's capital is the paper's.
use Rattle.std.proofs.Common.{◌≡◌, ℕ, ◌<◌, length, map, get_or, sym, ◌∙◌, w8, Fits, arith, rules}
use lib.ListN.{length-map}
use Rattle.std.specs.Char.{to_ascii_uppercase}
use Rattle.std.proofs.lemmas.List.{get_or-map}
use Rattle.std.proofs.lemmas.Grind.{same_number_lists}
use Rattle.lemmas.proofs.Bytewise.{agree}
use Rattle.paper.specs.Bytes.{within}
use Rattle.paper.specs.Label.{capital}
use Rattle.label.proofs.case.in_capitals.Goals as goal

same_capital : (x : ℕ) → x < 256 → to_ascii_uppercase x ≡ capital x
unfolding capital within
same_capital x h = agree to_ascii_uppercase capital tt x h

pub returns : goal.returns
returns c =
    let l = c.args.l in
    let long : length l ≡ 12 = search rules in
    let items = c.map.ensures.items in
    let same : length c.map.result ≡ length (map capital l) = items.long ∙ sym (length-map l capital ∙ long) in
    let at : (i : ℕ) → i < length c.map.result → get_or c.map.result i 0 ≡ get_or (map capital l) i 0 = λ i h.
    let n : i < 12 = omega (arith, items.long) in
    let (p, q, k) = items.at i 0 0 n in
    let byte : Fits w8 (get_or l i 0) = search rules in
    let called : get_or c.map.result i 0 ≡ to_ascii_uppercase (get_or l i 0) = search (rules, k) in
    called ∙ same_capital (get_or l i 0) byte.fits ∙ sym (get_or-map capital l i 0 0 (omega arith)) in
    same_number_lists c.map.result (map capital l) same at
