use Rattle.records.specs.Judging.{judgement}
use Rattle.records.proofs.judge.Goals as goal

-- what the search found is all that it was asked for
pub judge_all-outcome-requires : goal.judge_all-outcome-requires
judge_all-outcome-requires c = record { n_value = c.requires.n_value; places_value = λ i. (c.places_in-found.ensures i).places; nodes_value = c.requires.nodes_value }

pub returns : goal.returns
unfolding judgement
returns c = record { value = λ i. record { asked = (c.places_in-found.ensures i).asked; outcome = c.judge_all-outcome.ensures.value i }; nodes_after = c.judge_all-outcome.ensures.nodes_after }
