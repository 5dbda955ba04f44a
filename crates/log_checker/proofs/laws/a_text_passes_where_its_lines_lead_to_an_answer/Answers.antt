use Rattle.log_checker.proofs.PassingTexts.{text_passes}
use Rattle.log_checker.proofs.TextLines.{text_leads}
use Rattle.log_checker.proofs.FirstLines.{passing_is_whole}
use Rattle.log_checker.proofs.laws.a_text_passes_where_its_lines_lead_to_an_answer.Goals as goal

pub returns-clause-passes : goal.returns-clause-passes
returns-clause-passes c = text_passes

pub returns-clause-leads : goal.returns-clause-leads
returns-clause-leads c = text_leads

pub returns-clause-whole : goal.returns-clause-whole
returns-clause-whole c = passing_is_whole

pub returns-clause-few : goal.returns-clause-few
returns-clause-few c = λ problem text answer x. x.few
