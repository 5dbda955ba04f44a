use Rattle.std.proofs.Common.{false, sym, subst, ◌∙◌}
use Rattle.rows.specs.Parts.{ProblemParts}
use Rattle.search_core.specs.Parts.{IsStateOf}
use Rattle.node_pool.proofs.Beginning.{pool_begins, start_is_reached, all_open_at_start}
use Rattle.node_pool.proofs.pool.Pool.new.Goals as goal

pub invariant_of-result : goal.invariant_of-result
invariant_of-result c =
    let P : ProblemParts → Type 0 = λ p. IsStateOf p c.in_ok-state.state in (
      subst P (sym c.in_ok-problem.ensures) c.in_ok-state.ensures.of,
      pool_begins c.in_ok-problem.problem c.args.workers c.args.analysts _ false c.in_ok-base.base.search c.in_ok-state.state.search c.new.result.entries
          (start_is_reached c.in_ok-problem.problem c.args.limit c.in_ok-base.base.search c.requires.limit c.in_ok-base.ensures.search)
          (all_open_at_start c.args.limit c.in_ok-base.base.search c.in_ok-base.ensures.search)
          c.requires.team (c.in_ok-state.ensures.search ∙ sym c.in_ok-base.ensures.search) c.new.ensures.entries,
    )
