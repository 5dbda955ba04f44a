use Rattle.redundancy_cut.proofs.RowRanges.{cut_is_row, cut_below}
use Rattle.redundancy_cut.proofs.laws.cuts_have_rows.Goals as goal

pub returns-clause-cut : goal.returns-clause-cut
returns-clause-cut c = cut_is_row

pub returns-clause-variables : goal.returns-clause-variables
returns-clause-variables c = cut_below
