use Rattle.std.proofs.Common.{◌∙◌, ◌||◌, ◌+◌, ap}
use Rattle.arch_model.specs.Set.{has}
use Rattle.arch_model.specs.Member.{is_in}
use Rattle.arch_model.proofs.SetLaws.{has-empty}
use Rattle.paths.proofs.FailedEdges.{edge_put, edge_passed}
use Rattle.paths.proofs.adjacency.edges_among.Goals as goal

pub loop-v-init : goal.loop-v-init
loop-v-init c =
    let start = c.into_iter-v-iterator.ensures.into_iter_gives ∙ c.members-v-items.ensures in record {
      can = tt;
      finite = tt;
      all = λ e low. ap (λ b. b || is_in c.into_iter-v-iterator.result (c.args.n + e)) (ap (λ s. has s e) c.new-found.ensures ∙ has-empty e) ∙ ap (λ l. is_in l (c.args.n + e)) start;
    }

pub loop-v-preserved-in-Some-edge_of : goal.loop-v-preserved-in-Some-edge_of
loop-v-preserved-in-Some-edge_of c = record {
  can = tt;
  finite = tt;
  all = λ e low. edge_put c.loop-v.found c.put.new.self c.loop-v.v-iterator c.next.new.self c.in-Some.v.0 c.in-Some-edge_of.e.0 c.args.n e c.in-Some.ensures.steps c.in-Some-edge_of.ensures.1 c.put.ensures ∙ c.loop-v.invariant.all e low;
}

pub loop-v-preserved : goal.loop-v-preserved
loop-v-preserved c = record {
  can = tt;
  finite = tt;
  all = λ e low. edge_passed c.loop-v.found c.loop-v.v-iterator c.next.new.self c.in-Some.v.0 c.args.n e c.in-Some.ensures.steps (c.in_default.ensures e low) ∙ c.loop-v.invariant.all e low;
}
