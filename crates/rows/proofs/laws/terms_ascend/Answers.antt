use Rattle.arch_model.specs.Member.{member_count}
use Rattle.rows.specs.BaseRows.{cost_terms}
use Rattle.rows.proofs.Ascending.{cut_ascends, collected_ascend}
use Rattle.rows.proofs.TraceLaws.{rows_ascend}
use Rattle.rows.proofs.laws.terms_ascend.Goals as goal

pub returns-clause-cut : goal.returns-clause-cut
returns-clause-cut c = cut_ascends

pub returns-clause-cost : goal.returns-clause-cost
returns-clause-cost c lib u = collected_ascend (member_count lib) (cost_terms lib)

pub returns-clause-known : goal.returns-clause-known
returns-clause-known c = rows_ascend
