use Rattle.log_checker.proofs.LineLaws.{line_leads_to_one, one_first_rule, line_leads_unbroken}
use Rattle.log_checker.proofs.TextsJudged.{line_is_judged}
use Rattle.log_checker.proofs.laws.a_line_leads_on_or_breaks_one_rule_first.Goals as goal

pub returns-clause-one_phase : goal.returns-clause-one_phase
returns-clause-one_phase c = line_leads_to_one

pub returns-clause-one_rule : goal.returns-clause-one_rule
returns-clause-one_rule c = one_first_rule

pub returns-clause-never_both : goal.returns-clause-never_both
returns-clause-never_both c = line_leads_unbroken

pub returns-clause-one_of_both : goal.returns-clause-one_of_both
returns-clause-one_of_both c = λ problem old line its_library its kept never unbroken. line_is_judged problem its_library its old line kept unbroken (λ new leads still. never new leads)
