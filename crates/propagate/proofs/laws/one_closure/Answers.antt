use Rattle.propagate.proofs.OneClosure.{one_end, none_refuted}
use Rattle.propagate.proofs.Promise.{answers_agree}
use Rattle.propagate.proofs.laws.one_closure.Goals as goal

pub returns-clause-same : goal.returns-clause-same
returns-clause-same c = one_end

pub returns-clause-never : goal.returns-clause-never
returns-clause-never c known cube a b first second k to_a to_b quiet r row there refuted = none_refuted known cube k first second a b to_a to_b quiet r row there refuted

pub returns-clause-agree : goal.returns-clause-agree
returns-clause-agree c = answers_agree
