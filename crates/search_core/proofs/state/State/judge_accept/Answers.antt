use Rattle.std.proofs.Common.{◌≡◌, true, false, List, length, refl, sym, ap, subst, ◌∙◌}
use Rattle.arch_model.specs.declared.library.Requirement.{Requirement}
use Rattle.arch_model.specs.Parts.{LibraryParts}
use Rattle.arch_model.specs.Library.{IsLibrary}
use Rattle.arch_model.specs.Architecture.{IsArchitecture, cost_of}
use Rattle.search_core.specs.Inner.Judging.{AreWithin}
use Rattle.search_core.proofs.JudgedCandidates.{weights_long, arch_fits, accept_weight, accept_cost, accept_fits}
use Rattle.search_core.proofs.state.State.judge_accept.Goals as goal

pub are_within-requires : goal.are_within-requires
are_within-requires c = weights_long c.args.problem.now (subst IsLibrary c.library-lib.ensures.library c.variable_count-count.ensures.library) c.library-lib.ensures.problem c.args.self.now c.requires.of c.args.worker c.args.node c.if-worker-ge-WORKERS.false (record { cube = c.in-Some.study.cube; studied = c.in-Some.ensures.some.found.live }) c.in-Some.study.candidate c.in-Some.ensures.some.candidate c.args.weights.now c.requires.weights ∙ sym (ap length (c.requirements.ensures.rows ∙ ap (λ (l : LibraryParts). l.requirements) c.library-lib.ensures.library))

pub returns-then-not-are_within-clause-broken : goal.returns-then-not-are_within-clause-broken
returns-then-not-are_within-clause-broken c =
    accept_weight c.args.problem.now (subst IsLibrary c.library-lib.ensures.library c.variable_count-count.ensures.library) c.library-lib.ensures.problem c.args.self.now c.requires.of c.args.worker c.args.node c.if-worker-ge-WORKERS.false (record { cube = c.in-Some.study.cube; studied = c.in-Some.ensures.some.found.live }) c.in-Some.study.candidate c.in-Some.ensures.some.candidate c.args.price c.args.weights.now c.requires.weights
    (λ within. let P : List Requirement → Type 0 = λ rs. AreWithin rs c.args.weights.now in let f : false ≡ true = c.if-not-are_within.ensures.1 (subst P (sym (c.requirements.ensures.rows ∙ ap (λ (l : LibraryParts). l.requirements) c.library-lib.ensures.library)) within) in cc)

pub cost-requires : goal.cost-requires
cost-requires c =
    let P : LibraryParts → Type 0 = λ l. IsArchitecture l c.in-Some.study.candidate in
    subst P (sym c.library-lib.ensures.library) (arch_fits c.args.problem.now (subst IsLibrary c.library-lib.ensures.library c.variable_count-count.ensures.library) c.library-lib.ensures.problem c.args.self.now c.requires.of c.args.worker c.args.node c.if-worker-ge-WORKERS.false (record { cube = c.in-Some.study.cube; studied = c.in-Some.ensures.some.found.live }) c.in-Some.study.candidate c.in-Some.ensures.some.candidate)

pub returns-then-price-cost-clause-broken : goal.returns-then-price-cost-clause-broken
returns-then-price-cost-clause-broken c =
    let within : AreWithin c.args.problem.now.library.requirements c.args.weights.now = let P : List Requirement → Type 0 = λ rs. AreWithin rs c.args.weights.now in subst P (c.requirements.ensures.rows ∙ ap (λ (l : LibraryParts). l.requirements) c.library-lib.ensures.library) (c.if-not-are_within.ensures.0 refl) in
    accept_cost c.args.problem.now (subst IsLibrary c.library-lib.ensures.library c.variable_count-count.ensures.library) c.library-lib.ensures.problem c.args.self.now c.requires.of c.args.worker c.args.node c.if-worker-ge-WORKERS.false (record { cube = c.in-Some.study.cube; studied = c.in-Some.ensures.some.found.live }) c.in-Some.study.candidate c.in-Some.ensures.some.candidate c.args.price c.args.weights.now c.requires.weights within
    (λ e. c.if-price-cost.true (e ∙ sym (c.cost.ensures ∙ ap (λ (l : LibraryParts). cost_of l c.in-Some.study.candidate) c.library-lib.ensures.library)))

pub returns-clause-fits : goal.returns-clause-fits
returns-clause-fits c =
    let within : AreWithin c.args.problem.now.library.requirements c.args.weights.now = let P : List Requirement → Type 0 = λ rs. AreWithin rs c.args.weights.now in subst P (c.requirements.ensures.rows ∙ ap (λ (l : LibraryParts). l.requirements) c.library-lib.ensures.library) (c.if-not-are_within.ensures.0 refl) in
    accept_fits c.args.problem.now (subst IsLibrary c.library-lib.ensures.library c.variable_count-count.ensures.library) c.library-lib.ensures.problem c.args.self.now c.requires.of c.args.worker c.args.node c.if-worker-ge-WORKERS.false (record { cube = c.in-Some.study.cube; studied = c.in-Some.ensures.some.found.live }) c.in-Some.study.candidate c.in-Some.ensures.some.candidate c.args.price c.args.weights.now c.requires.weights within
    (c.if-price-cost.false ∙ c.cost.ensures ∙ ap (λ (l : LibraryParts). cost_of l c.in-Some.study.candidate) c.library-lib.ensures.library) c.in-Some.study.spot.number c.in-Some.ensures.some.found.at.numbered
