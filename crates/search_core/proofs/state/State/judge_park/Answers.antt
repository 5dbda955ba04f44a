use Rattle.std.proofs.Common.{sym, ap, ◌∙◌}
use Rattle.search_core.specs.Node.{Parked}
use Rattle.search_core.specs.Step.{with_node}
use Rattle.search_core.proofs.state.State.judge_park.Goals as goal

pub returns-clause-fits : goal.returns-clause-fits
returns-clause-fits c = record {
  cube = c.in-Some.held.cube;
  cuts = c.in-Some.held.cuts;
  bound = c.in-Some.held.bound;
  held = c.in-Some.ensures.some.live;
  at_limit = sym c.branchings.ensures ∙ c.if-branchings-limit.false ∙ c.limit.ensures;
  next = ap (λ n. with_node c.args.self.now.search n (Parked c.in-Some.held.cube)) c.in-Some.ensures.some.at.numbered;
}
