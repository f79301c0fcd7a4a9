use Rattle.decimal.proofs.Pen.+decimal.Given as goal

-- proposed from what the function passes where it calls itself
abbrev pub decreases-decimal : goal.decreases-decimal
decreases-decimal l = l.n
