use Rattle.std.proofs.Common.{◌≡◌, true, false, refl, subst}
use Rattle.arch_model.specs.Library.{IsLibrary}
use Rattle.search_core.specs.Node.{Studied}
use Rattle.search_core.proofs.Entering.{cuts_few}
use Rattle.search_core.proofs.JudgedCandidates.{study_is_full, arch_fits, has_weight, publish_cut, publish_refute, publish_fits}
use Rattle.search_core.proofs.state.State.judge_publish.Goals as goal

pub is_right-requires-clause-architecture : goal.is_right-requires-clause-architecture
is_right-requires-clause-architecture c = arch_fits c.args.problem.now (subst IsLibrary c.library.ensures.library c.variable_count-count.ensures.library) c.library.ensures.problem c.args.self.now c.requires.of c.args.worker c.args.node c.if-worker-ge-WORKERS.false (record { cube = c.in-Some.study.cube; studied = c.in-Some.ensures.some.found.live }) c.in-Some.study.candidate c.in-Some.ensures.some.candidate

pub is_right-requires-clause-weight : goal.is_right-requires-clause-weight
is_right-requires-clause-weight c = has_weight c.args.problem.now (subst IsLibrary c.library.ensures.library c.variable_count-count.ensures.library) c.library.ensures.problem c.args.self.now c.requires.of c.args.worker c.args.node c.if-worker-ge-WORKERS.false (record { cube = c.in-Some.study.cube; studied = c.in-Some.ensures.some.found.live }) c.in-Some.study.candidate c.in-Some.ensures.some.candidate c.args.cut.now c.args.weights.now c.weight_for.result c.requires.weights c.weight_for.ensures

pub returns-then-not-is_right-clause-broken : goal.returns-then-not-is_right-clause-broken
returns-then-not-is_right-clause-broken c = publish_cut c.args.problem.now (subst IsLibrary c.library.ensures.library c.variable_count-count.ensures.library) c.library.ensures.problem c.args.self.now c.requires.of c.args.worker c.args.node c.if-worker-ge-WORKERS.false (record { cube = c.in-Some.study.cube; studied = c.in-Some.ensures.some.found.live }) c.in-Some.study.candidate c.in-Some.ensures.some.candidate c.args.cut.now (λ h. let f : false ≡ true = c.if-not-is_right.ensures.1 h in cc)

pub is_cut_refuted-requires-clause-full : goal.is_cut_refuted-requires-clause-full
is_cut_refuted-requires-clause-full c = study_is_full c.args.problem.now (subst IsLibrary c.library.ensures.library c.variable_count-count.ensures.library) c.library.ensures.problem c.args.self.now c.requires.of c.args.worker c.args.node c.if-worker-ge-WORKERS.false (record { cube = c.in-Some.study.cube; studied = c.in-Some.ensures.some.found.live }) c.in-Some.study.candidate c.in-Some.ensures.some.candidate

pub returns-then-not-is_cut_refuted-clause-broken : goal.returns-then-not-is_cut_refuted-clause-broken
returns-then-not-is_cut_refuted-clause-broken c = publish_refute c.args.problem.now (subst IsLibrary c.library.ensures.library c.variable_count-count.ensures.library) c.library.ensures.problem c.args.self.now c.requires.of c.args.worker c.args.node c.if-worker-ge-WORKERS.false (record { cube = c.in-Some.study.cube; studied = c.in-Some.ensures.some.found.live }) c.in-Some.study.candidate c.in-Some.ensures.some.candidate c.args.cut.now c.row_of-row.result (c.if-not-is_right.ensures.0 refl) c.row_of-row.ensures.row c.if-not-is_cut_refuted.ensures

pub returns-clause-can : goal.returns-clause-can
returns-clause-can c = (c.in-Some.ensures.some.found.at.lies, cuts_few c.args.problem.now (subst IsLibrary c.library.ensures.library c.variable_count-count.ensures.library) c.library.ensures.problem c.args.self.now c.requires.of c.args.node (Studied c.in-Some.study.cube c.args.worker) c.in-Some.ensures.some.found.live)

pub returns-clause-fits : goal.returns-clause-fits
returns-clause-fits c = publish_fits c.args.problem.now (subst IsLibrary c.library.ensures.library c.variable_count-count.ensures.library) c.library.ensures.problem c.args.self.now c.requires.of c.args.worker c.args.node c.if-worker-ge-WORKERS.false (record { cube = c.in-Some.study.cube; studied = c.in-Some.ensures.some.found.live }) c.in-Some.study.candidate c.in-Some.ensures.some.candidate c.args.cut.now c.row_of-row.result (c.if-not-is_right.ensures.0 refl) c.row_of-row.ensures.row c.if-not-is_cut_refuted.ensures c.in-Some.study.spot.number c.in-Some.ensures.some.found.at.numbered
