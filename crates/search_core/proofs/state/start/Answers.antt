use Rattle.std.proofs.Common.{length, ap, ◌∙◌}
use Rattle.arch_model.specs.Parts.{LibraryParts}
use Rattle.search_core.proofs.Applying.{none_below, begun, started}
use Rattle.search_core.proofs.state.start.Goals as goal

pub push-requires-clause-last : goal.push-requires-clause-last
push-requires-clause-last c = none_below c.reserve.new.self.nodes c.new-nodes.result.nodes 0 c.in_ok-reserve.ensures.nodes c.new-nodes.ensures

pub returns-clause-of : goal.returns-clause-of
returns-clause-of c = record {
  reached = begun c.args.problem.now c.args.limit _ c.requires (started c.push.new.self.nodes c.reserve.new.self.nodes c.new-nodes.result.nodes c.whole.result c.new.result.cuts c.args.limit c.push.ensures.nodes c.in_ok-reserve.ensures.nodes c.new-nodes.ensures c.whole.ensures c.new.ensures);
  components = ap length (c.components.ensures.rows ∙ ap (λ (l : LibraryParts). l.components) c.library-lib.ensures.library);
  edges = ap length (c.edges.ensures.rows ∙ ap (λ (l : LibraryParts). l.edges) c.library-lib.ensures.library);
}
