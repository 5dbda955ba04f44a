use Rattle.std.proofs.Common.{length, ap, ◌∙◌}
use Rattle.search_core.specs.Node.{Held}
use Rattle.search_core.specs.Step.{with_node}
use Rattle.search_core.proofs.Judged.{same_bound}
use Rattle.search_core.proofs.state.State.judge_take.Goals as goal

pub returns-clause-fits : goal.returns-clause-fits
returns-clause-fits c = record {
  cube = c.in-Some.found.cube;
  opened = c.in-Some.ensures.some.live;
  cuts_now = c.if-cuts-len.false ∙ c.len.ensures.len ∙ ap length c.cuts.ensures;
  bound_now = same_bound c.args.bound c.best_cost.result c.if-ne.ensures ∙ c.best_cost.ensures;
  next = ap (λ n. with_node c.args.self.now.search n (Held c.in-Some.found.cube c.args.worker c.args.cuts c.args.bound)) c.in-Some.ensures.some.at.numbered;
}
