use Rattle.std.proofs.Common.{◌∙◌, ap, subst}
use Rattle.arch_model.specs.Parts.{LibraryParts}
use Rattle.search_core.specs.declared.limits.TheConstants.{BRANCHINGS}
use Rattle.report.specs.Summary.{generated_text}
use Rattle.archex_app.specs.ComesTo.{ALONE}
use Rattle.archex_app.specs.Inner.Searched.{IsSearched}
use Rattle.archex_app.proofs.SearchRuns.{made_is}
use Rattle.archex_app.proofs.generation.search_number.Goals as goal

pub returns : goal.returns
returns c =
    let searched = c.in_ok-searched.searched in
    made_is c.args.number c.args.size _ c.requires.some c.requires.few c.in_ok-text.ensures.text (subst (λ (l : LibraryParts). IsSearched l BRANCHINGS ALONE ALONE searched) c.in_ok-text.ensures.library c.in_ok-searched.ensures.searched) c.in_ok-summary.ensures.status
    (c.in_ok-summary.ensures.text ∙ ap (λ (l : LibraryParts). generated_text l searched.solved.answer) c.library.ensures.library)
