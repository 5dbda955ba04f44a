use Rattle.proof_log.proofs.SmallSets.{one_more_small}
use Rattle.proof_log.proofs.fields.add_number.Goals as goal

pub returns-clause-small : goal.returns-clause-small
returns-clause-small g c =
    λ small. one_more_small g.S.NumberSet.room g.S.NumberSet.numbers c.args.so_far c.args.n c.in-Some-Some.set c.in-Some-Some.next c.in-Some-Some.ascend (g.S.NumberSet.numbers c.put_number.new.self) c.in-Some-Some.n c.in-Some-Some.is-0 c.in-Some-Some.is-1 c.put_number.ensures c.requires small
