use Rattle.search_core.proofs.Counts.{steps_join, steps_part}
use Rattle.search_core.proofs.laws.histories_go_on.Goals as goal

pub returns-clause-join : goal.returns-clause-join
returns-clause-join c = steps_join

pub returns-clause-part : goal.returns-clause-part
returns-clause-part c = steps_part
