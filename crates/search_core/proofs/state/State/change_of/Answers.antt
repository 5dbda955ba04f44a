use Rattle.std.proofs.Common.{ap, subst, ◌∙◌}
use Rattle.arch_model.specs.Library.{IsLibrary}
use Rattle.arch_model.specs.Member.{member_count}
use Rattle.search_core.specs.Node.{Held, Pending, Studied, Parked}
use Rattle.search_core.specs.Step.{with_node, branched, published, accepted}
use Rattle.search_core.proofs.Entering.{branch_can, publish_few, enters_take, enters_branch, enters_offer, enters_study, enters_publish, enters_accept, enters_park}
use Rattle.search_core.proofs.state.State.change_of.Goals as goal

pub returns-in-Branch-clause-can : goal.returns-in-Branch-clause-can
returns-in-Branch-clause-can c = (
  c.traced-found.ensures.spot.lies,
  branch_can c.args.problem.now (subst IsLibrary c.library.ensures.library c.variable_count-count.ensures.library) c.library.ensures.problem c.args.self.now c.requires.of c.args.entry.now c.requires.case c.in-Branch.worker c.in-Branch.node c.in-Branch.trace c.in-Branch.var c.traced-found.result.cube c.variable_count-count.result c.in-Branch.is c.traced-found.ensures.cube (c.variable_count-count.ensures.count ∙ ap member_count c.library.ensures.library) c.variable_count-count.ensures.few,
)

pub returns-in-Publish-clause-can : goal.returns-in-Publish-clause-can
returns-in-Publish-clause-can c = (c.candidate_at-study.ensures.spot.lies, publish_few c.args.problem.now (subst IsLibrary c.library.ensures.library c.variable_count-count.ensures.library) c.library.ensures.problem c.args.self.now c.requires.of c.args.entry.now c.requires.case c.in-Publish.worker c.in-Publish.node c.in-Publish.cut c.in-Publish.is)

pub returns-in-Take-clause-step : goal.returns-in-Take-clause-step
returns-in-Take-clause-step c = enters_take c.args.problem.now (subst IsLibrary c.library.ensures.library c.variable_count-count.ensures.library) c.library.ensures.problem c.args.self.now c.requires.of c.args.entry.now c.requires.case c.in-Take.worker c.in-Take.node c.in-Take.cuts c.in-Take.bound c.live_at-found.result.cube _ c.in-Take.is c.live_at-found.ensures.cube (ap (λ n. with_node c.args.self.now.search n (Held c.live_at-found.result.cube c.in-Take.worker c.in-Take.cuts c.in-Take.bound)) c.live_at-found.ensures.spot.numbered)

pub returns-in-Branch-clause-step : goal.returns-in-Branch-clause-step
returns-in-Branch-clause-step c = enters_branch c.args.problem.now (subst IsLibrary c.library.ensures.library c.variable_count-count.ensures.library) c.library.ensures.problem c.args.self.now c.requires.of c.args.entry.now c.requires.case c.in-Branch.worker c.in-Branch.node c.in-Branch.trace c.in-Branch.var c.traced-found.result.cube _ c.in-Branch.is c.traced-found.ensures.cube (ap (λ n. branched c.args.self.now.search n c.traced-found.result.cube c.in-Branch.var.0) c.traced-found.ensures.spot.numbered)

pub returns-in-Offer-clause-step : goal.returns-in-Offer-clause-step
returns-in-Offer-clause-step c = enters_offer c.args.problem.now (subst IsLibrary c.library.ensures.library c.variable_count-count.ensures.library) c.library.ensures.problem c.args.self.now c.requires.of c.args.entry.now c.requires.case c.in-Offer.worker c.in-Offer.node c.in-Offer.trace c.traced-found-in-Offer.result.cube _ c.in-Offer.is c.traced-found-in-Offer.ensures.cube (ap (λ n. with_node c.args.self.now.search n (Pending c.traced-found-in-Offer.result.cube)) c.traced-found-in-Offer.ensures.spot.numbered)

pub returns-in-Study-clause-step : goal.returns-in-Study-clause-step
returns-in-Study-clause-step c = enters_study c.args.problem.now (subst IsLibrary c.library.ensures.library c.variable_count-count.ensures.library) c.library.ensures.problem c.args.self.now c.requires.of c.args.entry.now c.requires.case c.in-Study.worker c.in-Study.node c.live_at-found-in-Study.result.cube _ c.in-Study.is c.live_at-found-in-Study.ensures.cube (ap (λ n. with_node c.args.self.now.search n (Studied c.live_at-found-in-Study.result.cube c.in-Study.worker)) c.live_at-found-in-Study.ensures.spot.numbered)

pub returns-in-Publish-clause-step : goal.returns-in-Publish-clause-step
returns-in-Publish-clause-step c = enters_publish c.args.problem.now (subst IsLibrary c.library.ensures.library c.variable_count-count.ensures.library) c.library.ensures.problem c.args.self.now c.requires.of c.args.entry.now c.requires.case c.in-Publish.worker c.in-Publish.node c.in-Publish.cut c.candidate_at-study.result.candidate c.row_of.result _ c.in-Publish.is c.candidate_at-study.ensures.candidate c.row_of.ensures.row (ap (λ n. published c.args.self.now.search n c.row_of.result) c.candidate_at-study.ensures.spot.numbered)

pub returns-in-Accept-clause-step : goal.returns-in-Accept-clause-step
returns-in-Accept-clause-step c = enters_accept c.args.problem.now (subst IsLibrary c.library.ensures.library c.variable_count-count.ensures.library) c.library.ensures.problem c.args.self.now c.requires.of c.args.entry.now c.requires.case c.in-Accept.worker c.in-Accept.node c.in-Accept.cost c.candidate_at-study-in-Accept.result.candidate _ c.in-Accept.is c.candidate_at-study-in-Accept.ensures.candidate (ap (λ n. accepted c.args.self.now.search n c.in-Accept.cost c.candidate_at-study-in-Accept.result.candidate) c.candidate_at-study-in-Accept.ensures.spot.numbered)

pub returns-in-Park-clause-step : goal.returns-in-Park-clause-step
returns-in-Park-clause-step c = enters_park c.args.problem.now (subst IsLibrary c.library.ensures.library c.variable_count-count.ensures.library) c.library.ensures.problem c.args.self.now c.requires.of c.args.entry.now c.requires.case c.in-Park.worker c.in-Park.node c.live_at-found-in-Park.result.cube _ c.in-Park.is c.live_at-found-in-Park.ensures.cube (ap (λ n. with_node c.args.self.now.search n (Parked c.live_at-found-in-Park.result.cube)) c.live_at-found-in-Park.ensures.spot.numbered)
