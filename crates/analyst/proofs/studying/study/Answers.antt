use Rattle.std.proofs.Common.{◌≡◌, ◌∙◌, ap, subst, refl}
use Rattle.arch_model.specs.Parts.{LibraryParts}
use Rattle.arch_model.specs.Library.{IsLibrary}
use Rattle.redundancy_cut.specs.ChosenCut.{chosen_cut_of}
use Rattle.analyst.specs.declared.verdict.Verdict.TheVariants.{Meets, Breaks}
use Rattle.analyst.proofs.Verdicts.{none_admissible, admissible_none}
use Rattle.analyst.proofs.studying.study.Goals as goal

pub returns-in-Some-clause-cut : goal.returns-in-Some-clause-cut
returns-in-Some-clause-cut c = c.in-Some.ensures.chosen ∙ ap (λ (l : LibraryParts). chosen_cut_of l c.args.arch.now) c.library.ensures.library

pub returns-in-Some-clause-meets : goal.returns-in-Some-clause-meets
returns-in-Some-clause-meets c =
    let right = subst IsLibrary c.library.ensures.library c.in-Some.ensures.library in (
      (λ h. absurd (let e : Breaks c.in-Some.cut ≡ Meets = h in cc)),
      (λ good. absurd (admissible_none c.args.problem.now.library c.args.arch.now right c.requires c.in-Some.cut (returns-in-Some-clause-cut c) good)),
    )

pub returns-in-None-clause-cut : goal.returns-in-None-clause-cut
returns-in-None-clause-cut c = c.in-None.ensures.chosen ∙ ap (λ (l : LibraryParts). chosen_cut_of l c.args.arch.now) c.library.ensures.library

pub returns-in-None-clause-meets : goal.returns-in-None-clause-meets
returns-in-None-clause-meets c =
    let right = subst IsLibrary c.library.ensures.library c.in-None.ensures.library in (
      (λ h. none_admissible c.args.problem.now.library c.args.arch.now right c.requires (returns-in-None-clause-cut c)),
      (λ good. refl),
    )
