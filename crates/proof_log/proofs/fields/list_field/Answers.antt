use Rattle.proof_log.proofs.SmallSets.{empty_small}
use Rattle.proof_log.proofs.fields.list_field.Goals as goal

pub returns-in-Some-clause-small : goal.returns-in-Some-clause-small
returns-in-Some-clause-small g c = empty_small g.S.NumberSet.room (g.S.NumberSet.numbers c.empty.result) c.empty.ensures
