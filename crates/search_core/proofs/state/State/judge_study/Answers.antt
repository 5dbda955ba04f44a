use Rattle.std.proofs.Common.{ap}
use Rattle.search_core.specs.Node.{Studied}
use Rattle.search_core.specs.Step.{with_node}
use Rattle.search_core.proofs.state.State.judge_study.Goals as goal

pub returns-clause-fits : goal.returns-clause-fits
returns-clause-fits c = record {
  cube = c.in-Some.found.cube;
  pending = c.in-Some.ensures.some.live;
  next = ap (λ n. with_node c.args.self.now.search n (Studied c.in-Some.found.cube c.args.worker)) c.in-Some.ensures.some.at.numbered;
}
