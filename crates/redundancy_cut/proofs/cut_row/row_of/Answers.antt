use Rattle.std.proofs.Common.{◌∙◌, ap}
use Rattle.arch_model.specs.Parts.{LibraryParts}
use Rattle.redundancy_cut.specs.declared.cut.Cut.{Cut}
use Rattle.redundancy_cut.specs.declared.cut.Cut.TheVariants.{Redundancy, NoGood}
use Rattle.redundancy_cut.specs.CutRow.{cut_row_of}
use Rattle.redundancy_cut.proofs.RowRanges.{row_below}
use Rattle.redundancy_cut.proofs.cut_row.row_of.Goals as goal

pub returns-in-Redundancy-clause-variables : goal.returns-in-Redundancy-clause-variables
returns-in-Redundancy-clause-variables c =
    let cut : Cut = Redundancy c.in-Redundancy.requirement c.in-Redundancy.set c.in-Redundancy.far in
    row_below c.args.problem.now.library cut c.args.of.now c.redundancy_row.result (c.redundancy_row.ensures ∙ ap (λ (l : LibraryParts). cut_row_of l cut c.args.of.now) c.library-lib.ensures.library)

pub returns-in-NoGood-clause-variables : goal.returns-in-NoGood-clause-variables
returns-in-NoGood-clause-variables c =
    let cut : Cut = NoGood c.in-NoGood.requirement c.in-NoGood.cone in
    row_below c.args.problem.now.library cut c.args.of.now c.no_good_row.result (c.no_good_row.ensures ∙ ap (λ (l : LibraryParts). cut_row_of l cut c.args.of.now) c.library-lib.ensures.library)
