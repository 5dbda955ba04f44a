use Rattle.std.proofs.Common.{sym, ap, subst, ◌∙◌}
use Rattle.arch_model.specs.Parts.{LibraryParts}
use Rattle.arch_model.specs.Library.{IsLibrary}
use Rattle.arch_model.specs.Architecture.{IsArchitecture}
use Rattle.search_core.specs.Candidate.{candidate_of}
use Rattle.search_core.specs.Rules.{weights_of}
use Rattle.search_core.proofs.CandidateLaws.{candidate_studied}
use Rattle.search_core.proofs.StudyWeights.{for_each_study, its_weights}
use Rattle.log_checker.proofs.weighing.candidate_weights.Goals as goal

pub weigh-requires : goal.weigh-requires
weigh-requires c =
    let can = candidate_studied c.args.problem.now (subst IsLibrary c.library-lib.ensures.library c.variable_count-count.ensures.library) c.library-lib.ensures.problem c.args.state.now c.args.worker c.args.node c.in-Some.of c.requires c.in-Some.ensures.some in
    let P : LibraryParts → Type 0 = λ l. IsArchitecture l c.in-Some.of in
    subst P (sym c.library-lib.ensures.library) can.meets.architecture

pub returns-in-Some : goal.returns-in-Some
returns-in-Some c =
    for_each_study (λ w. w.items) c.weigh.result (weights_of c.library-lib.result.now c.in-Some.of) (λ s. weights_of c.args.problem.now.library (candidate_of c.args.problem.now.library s.cube)) c.weigh.ensures
    (λ s. ap (λ (l : LibraryParts). weights_of l c.in-Some.of) c.library-lib.ensures.library ∙ its_weights c.args.problem.now c.args.state.now c.args.worker c.args.node c.in-Some.of c.requires c.in-Some.ensures.some s)
