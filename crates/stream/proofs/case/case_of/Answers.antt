use Rattle.stream.proofs.case.case_of.Goals as goal

pub returns : goal.returns
returns c = λ i. record { entry = c.u32_at.ensures i; room = c.u32_at-2.ensures i; first = c.u32_at-3.ensures i; second = c.u32_at-4.ensures i }
