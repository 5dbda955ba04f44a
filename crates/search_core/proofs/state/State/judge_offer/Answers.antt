use Rattle.std.proofs.Common.{◌≡◌, true, false, refl}
use Rattle.search_core.proofs.JudgedCandidates.{offer_not_full, offer_broken, offer_fits}
use Rattle.search_core.proofs.state.State.judge_offer.Goals as goal

pub returns-then-not-is_full-clause-broken : goal.returns-then-not-is_full-clause-broken
returns-then-not-is_full-clause-broken c = offer_not_full c.args.problem.now c.args.self.now.search c.args.worker c.args.node c.args.trace.now c.in_ok-traced.traced.after c.in_ok-traced.ensures.worker (c.in_ok-traced.ensures.traced.traced, c.in_ok-traced.ensures.traced.after) (λ full. let f : false ≡ true = c.if-not-is_full.ensures.1 full in cc)

pub returns-then-not-base_stands-clause-broken : goal.returns-then-not-base_stands-clause-broken
returns-then-not-base_stands-clause-broken c = offer_broken c.args.problem.now c.args.self.now.search c.args.worker c.args.node c.args.trace.now c.in_ok-traced.traced.after c.in_ok-traced.ensures.worker (c.in_ok-traced.ensures.traced.traced, c.in_ok-traced.ensures.traced.after) (c.if-not-is_full.ensures.0 refl) (λ stands. let f : false ≡ true = c.if-not-base_stands.ensures.1 stands in cc)

pub returns-clause-fits : goal.returns-clause-fits
returns-clause-fits c = offer_fits c.args.problem.now c.args.self.now.search c.args.worker c.args.node c.args.trace.now c.in_ok-traced.traced.after c.in_ok-traced.ensures.worker (c.in_ok-traced.ensures.traced.traced, c.in_ok-traced.ensures.traced.after) (c.if-not-is_full.ensures.0 refl) (c.if-not-base_stands.ensures.0 refl) c.in_ok-traced.traced.spot.number c.in_ok-traced.ensures.traced.at.numbered
