use Rattle.search_core.proofs.JudgedCandidates.{prune_breaks, prune_fits}
use Rattle.search_core.proofs.state.State.judge_prune.Goals as goal

pub returns-in-Some-clause-broken : goal.returns-in-Some-clause-broken
returns-in-Some-clause-broken c = prune_breaks c.args.problem.now c.args.self.now.search c.args.worker c.args.node c.args.trace.now c.in_ok-traced.traced.after c.args.reason.now c.in_ok-traced.ensures.worker (c.in_ok-traced.ensures.traced.traced, c.in_ok-traced.ensures.traced.after) c.in_ok-traced.traced.cuts c.in_ok-traced.traced.bound c.in_ok-traced.ensures.traced.cuts c.in_ok-traced.ensures.traced.bound c.in-Some.rule c.in-Some.ensures.rule

pub returns-in-None-clause-fits : goal.returns-in-None-clause-fits
returns-in-None-clause-fits c = prune_fits c.args.problem.now c.args.self.now.search c.args.worker c.args.node c.args.trace.now c.in_ok-traced.traced.after c.args.reason.now c.in_ok-traced.ensures.worker (c.in_ok-traced.ensures.traced.traced, c.in_ok-traced.ensures.traced.after) c.in_ok-traced.traced.cuts c.in_ok-traced.traced.bound c.in_ok-traced.ensures.traced.cuts c.in_ok-traced.ensures.traced.bound c.in-None.ensures.reason c.in-None.ensures.rule c.in_ok-traced.traced.spot.number c.in_ok-traced.ensures.traced.at.numbered
