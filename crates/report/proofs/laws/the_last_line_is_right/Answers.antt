use Rattle.report.proofs.AdmissibleLaws.{last_line}
use Rattle.report.proofs.laws.the_last_line_is_right.Goals as goal

pub returns : goal.returns
returns c lib arch broken fits first = last_line lib arch broken fits first
