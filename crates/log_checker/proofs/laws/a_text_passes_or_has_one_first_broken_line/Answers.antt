use Rattle.log_checker.proofs.FirstLines.{one_first_line, passing_unbroken}
use Rattle.log_checker.proofs.TextsJudged.{text_is_judged}
use Rattle.log_checker.proofs.laws.a_text_passes_or_has_one_first_broken_line.Goals as goal

pub returns-clause-one_line : goal.returns-clause-one_line
returns-clause-one_line c = λ problem text m n a b x y. (one_first_line problem text m n a b x y).0

pub returns-clause-one_rule : goal.returns-clause-one_rule
returns-clause-one_rule c = λ problem text m n a b x y. (one_first_line problem text m n a b x y).1

pub returns-clause-none_where_it_passes : goal.returns-clause-none_where_it_passes
returns-clause-none_where_it_passes c = passing_unbroken

pub returns-clause-one_of_both : goal.returns-clause-one_of_both
returns-clause-one_of_both c = λ problem text its_library its never unbroken. text_is_judged problem its_library its text never unbroken
