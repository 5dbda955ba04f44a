use Rattle.proof_log.proofs.FirstFaults.{one_first, none_or_first, none_unless_first}
use Rattle.proof_log.proofs.laws.a_line_breaks_no_rule_or_one_first.Goals as goal

pub returns-clause-never_two : goal.returns-clause-never_two
returns-clause-never_two c = one_first

pub returns-clause-never_both : goal.returns-clause-never_both
returns-clause-never_both c = none_or_first

pub returns-clause-some : goal.returns-clause-some
returns-clause-some c = none_unless_first
