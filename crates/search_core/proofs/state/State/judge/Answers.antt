use Rattle.search_core.specs.declared.entry.Entry.TheVariants.{Take, Branch, Prune, Offer, Study, Publish, Accept, Park, Reopen}
use Rattle.search_core.proofs.JudgedEntries.{fits_as, broken_as, weights_as, always}
use Rattle.search_core.proofs.state.State.judge.Goals as goal

pub judge_publish-requires-clause-weights : goal.judge_publish-requires-clause-weights
judge_publish-requires-clause-weights c = weights_as c.args.problem.now c.args.self.now.search c.args.entry.now (Publish c.in-Publish.worker c.in-Publish.node c.in-Publish.cut) c.in-Publish.is c.args.weights.now c.requires.weights

pub judge_accept-requires-clause-weights : goal.judge_accept-requires-clause-weights
judge_accept-requires-clause-weights c = weights_as c.args.problem.now c.args.self.now.search c.args.entry.now (Accept c.in-Accept.worker c.in-Accept.node c.in-Accept.cost) c.in-Accept.is c.args.weights.now c.requires.weights

pub returns-in-Take-clause-fits : goal.returns-in-Take-clause-fits
returns-in-Take-clause-fits c = fits_as c.args.problem.now c.args.self.now.search c.args.entry.now (Take c.in-Take.worker c.in-Take.node c.in-Take.cuts c.in-Take.bound) c.in-Take.is c.judge_take.result c.judge_take.ensures.worker c.judge_take.ensures.fits

pub returns-in-Branch-clause-fits : goal.returns-in-Branch-clause-fits
returns-in-Branch-clause-fits c = fits_as c.args.problem.now c.args.self.now.search c.args.entry.now (Branch c.in-Branch.worker c.in-Branch.node c.in-Branch.trace c.in-Branch.var) c.in-Branch.is c.judge_branch.result c.judge_branch.ensures.worker c.judge_branch.ensures.fits

pub returns-in-Branch-clause-broken : goal.returns-in-Branch-clause-broken
returns-in-Branch-clause-broken c = broken_as c.args.problem.now c.args.self.now.search c.args.entry.now (Branch c.in-Branch.worker c.in-Branch.node c.in-Branch.trace c.in-Branch.var) c.in-Branch.is c.judge_branch.result c.judge_branch.ensures.broken

pub returns-in-Prune-clause-fits : goal.returns-in-Prune-clause-fits
returns-in-Prune-clause-fits c = fits_as c.args.problem.now c.args.self.now.search c.args.entry.now (Prune c.in-Prune.worker c.in-Prune.node c.in-Prune.trace c.in-Prune.reason) c.in-Prune.is c.judge_prune.result c.judge_prune.ensures.worker c.judge_prune.ensures.fits

pub returns-in-Prune-clause-broken : goal.returns-in-Prune-clause-broken
returns-in-Prune-clause-broken c = broken_as c.args.problem.now c.args.self.now.search c.args.entry.now (Prune c.in-Prune.worker c.in-Prune.node c.in-Prune.trace c.in-Prune.reason) c.in-Prune.is c.judge_prune.result c.judge_prune.ensures.broken

pub returns-in-Offer-clause-fits : goal.returns-in-Offer-clause-fits
returns-in-Offer-clause-fits c = fits_as c.args.problem.now c.args.self.now.search c.args.entry.now (Offer c.in-Offer.worker c.in-Offer.node c.in-Offer.trace) c.in-Offer.is c.judge_offer.result c.judge_offer.ensures.worker c.judge_offer.ensures.fits

pub returns-in-Offer-clause-broken : goal.returns-in-Offer-clause-broken
returns-in-Offer-clause-broken c = broken_as c.args.problem.now c.args.self.now.search c.args.entry.now (Offer c.in-Offer.worker c.in-Offer.node c.in-Offer.trace) c.in-Offer.is c.judge_offer.result c.judge_offer.ensures.broken

pub returns-in-Study-clause-fits : goal.returns-in-Study-clause-fits
returns-in-Study-clause-fits c = fits_as c.args.problem.now c.args.self.now.search c.args.entry.now (Study c.in-Study.worker c.in-Study.node) c.in-Study.is c.judge_study.result c.judge_study.ensures.worker c.judge_study.ensures.fits

pub returns-in-Publish-clause-fits : goal.returns-in-Publish-clause-fits
returns-in-Publish-clause-fits c = fits_as c.args.problem.now c.args.self.now.search c.args.entry.now (Publish c.in-Publish.worker c.in-Publish.node c.in-Publish.cut) c.in-Publish.is c.judge_publish.result c.judge_publish.ensures.worker c.judge_publish.ensures.fits

pub returns-in-Publish-clause-broken : goal.returns-in-Publish-clause-broken
returns-in-Publish-clause-broken c = broken_as c.args.problem.now c.args.self.now.search c.args.entry.now (Publish c.in-Publish.worker c.in-Publish.node c.in-Publish.cut) c.in-Publish.is c.judge_publish.result c.judge_publish.ensures.broken

pub returns-in-Accept-clause-fits : goal.returns-in-Accept-clause-fits
returns-in-Accept-clause-fits c = fits_as c.args.problem.now c.args.self.now.search c.args.entry.now (Accept c.in-Accept.worker c.in-Accept.node c.in-Accept.cost) c.in-Accept.is c.judge_accept.result c.judge_accept.ensures.worker c.judge_accept.ensures.fits

pub returns-in-Accept-clause-broken : goal.returns-in-Accept-clause-broken
returns-in-Accept-clause-broken c = broken_as c.args.problem.now c.args.self.now.search c.args.entry.now (Accept c.in-Accept.worker c.in-Accept.node c.in-Accept.cost) c.in-Accept.is c.judge_accept.result c.judge_accept.ensures.broken

pub returns-in-Park-clause-fits : goal.returns-in-Park-clause-fits
returns-in-Park-clause-fits c = fits_as c.args.problem.now c.args.self.now.search c.args.entry.now (Park c.in-Park.worker c.in-Park.node) c.in-Park.is c.judge_park.result c.judge_park.ensures.worker c.judge_park.ensures.fits

pub returns-in-Reopen-clause-fits : goal.returns-in-Reopen-clause-fits
returns-in-Reopen-clause-fits c = fits_as c.args.problem.now c.args.self.now.search c.args.entry.now (Reopen c.in-Reopen.limit) c.in-Reopen.is c.judge_reopen.result (always c.judge_reopen.result) c.judge_reopen.ensures.fits
