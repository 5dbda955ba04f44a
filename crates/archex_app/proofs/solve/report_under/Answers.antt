use Rattle.std.proofs.Common.{◌∙◌, sym, subst, ap}
use Rattle.std.specs.Prelude.{IfSome}
use Rattle.arch_model.specs.Parts.{LibraryParts}
use Rattle.report.specs.Report.{report_text}
use Rattle.archex_app.specs.Inner.Searched.{HasBest}
use Rattle.archex_app.proofs.SearchRuns.{reported_is}
use Rattle.archex_app.proofs.solve.report_under.Goals as goal

pub report_of-requires : goal.report_of-requires
report_of-requires g c = subst (λ (l : LibraryParts). IfSome c.in_ok-searched.searched.solved.best (HasBest l)) (sym c.library.ensures.library) c.in_ok-searched.ensures.best

pub returns-clause-reported : goal.returns-clause-reported
returns-clause-reported g c =
    let solved = c.in_ok-searched.searched.solved in
    reported_is (g.F.Shelf.told c.args.shelf.now c.args.name.now) c.in_ok-lib.lib c.args.limit c.args.workers c.args.analysts _ c.in_ok-lib.ensures.library c.in_ok-searched.ensures.searched c.in_ok-report.ensures.status
    (c.in_ok-report.ensures.text ∙ ap (λ (l : LibraryParts). report_text l solved.answer solved.best solved.branchings solved.cuts) c.library.ensures.library)
