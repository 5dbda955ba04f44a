use Rattle.arch_model.specs.Set.{has}
use Rattle.arch_model.specs.Member.{member_count}
use Rattle.redundancy_cut.specs.CutRow.{cut_row_of}
use Rattle.redundancy_cut.proofs.RowRanges.{cut_below, refuted_where_broken}
use Rattle.redundancy_cut.proofs.ChosenLaws.{chosen_right, chosen_refuted}
use Rattle.redundancy_cut.proofs.laws.chosen_cuts_are_right.Goals as goal

pub returns-clause-right : goal.returns-clause-right
returns-clause-right c lib right arch fits cut chosen = chosen_right lib arch right fits cut chosen

pub returns-clause-broken : goal.returns-clause-broken
returns-clause-broken c lib right arch fits cut chosen x vector = chosen_refuted lib arch right fits cut chosen x vector

pub returns-clause-refuted : goal.returns-clause-refuted
returns-clause-refuted c lib right arch fits cut chosen cube full vector =
    refuted_where_broken (member_count lib) (cut_row_of lib cut arch) cube (cut_below lib cut arch) full (chosen_refuted lib arch right fits cut chosen (has cube.ones) vector)
