use Rattle.std.proofs.Common.{◌<◌, ap, subst, ◌∙◌, arith}
use Rattle.arch_model.specs.Library.{IsLibrary}
use Rattle.arch_model.specs.Member.{member_count}
use Rattle.search_core.proofs.Entering.{can_split}
use Rattle.search_core.proofs.Judged.{free_there, free_not, branch_not_free, branch_at_limit, branch_fits}
use Rattle.search_core.proofs.state.State.judge_branch.Goals as goal

pub returns-then-not-is_free_variable-clause-broken : goal.returns-then-not-is_free_variable-clause-broken
returns-then-not-is_free_variable-clause-broken c = branch_not_free c.args.problem.now c.args.self.now.search c.args.worker c.args.node c.args.trace.now c.args.var.0 c.in_ok-traced.traced.after c.in_ok-traced.ensures.worker (c.in_ok-traced.ensures.traced.traced, c.in_ok-traced.ensures.traced.after) (free_not c.args.problem.now c.in_ok-traced.traced.after c.args.var.0 c.if-not-is_free_variable.ensures)

pub returns-then-branchings-limit-clause-broken : goal.returns-then-branchings-limit-clause-broken
returns-then-branchings-limit-clause-broken c =
    branch_at_limit c.args.problem.now c.args.self.now.search c.args.worker c.args.node c.args.trace.now c.args.var.0 c.in_ok-traced.traced.after c.in_ok-traced.ensures.worker (c.in_ok-traced.ensures.traced.traced, c.in_ok-traced.ensures.traced.after) (free_there c.args.problem.now c.in_ok-traced.traced.after c.args.var.0 c.if-not-is_free_variable.ensures)
    (λ less. absurd (omega (arith, less, c.branchings.ensures, c.limit.ensures, c.if-branchings-limit.true)))

pub returns-clause-can : goal.returns-clause-can
returns-clause-can c =
    let free = free_there c.args.problem.now c.in_ok-traced.traced.after c.args.var.0 c.if-not-is_free_variable.ensures in
    let less : c.args.self.now.search.branchings < c.args.self.now.search.limit = omega (arith, c.branchings.ensures, c.limit.ensures, c.if-branchings-limit.false) in (
      c.in_ok-traced.ensures.traced.at.lies,
      can_split c.args.problem.now (subst IsLibrary c.library.ensures.library c.variable_count-count.ensures.library) c.library.ensures.problem c.args.self.now c.requires c.in_ok-traced.traced.after c.args.var.0 c.variable_count-count.result (c.variable_count-count.ensures.count ∙ ap member_count c.library.ensures.library) c.variable_count-count.ensures.few free.variable free.free less,
    )

pub returns-clause-fits : goal.returns-clause-fits
returns-clause-fits c =
    let less : c.args.self.now.search.branchings < c.args.self.now.search.limit = omega (arith, c.branchings.ensures, c.limit.ensures, c.if-branchings-limit.false) in
    branch_fits c.args.problem.now c.args.self.now.search c.args.worker c.args.node c.args.trace.now c.args.var.0 c.in_ok-traced.traced.after c.in_ok-traced.ensures.worker (c.in_ok-traced.ensures.traced.traced, c.in_ok-traced.ensures.traced.after) (free_there c.args.problem.now c.in_ok-traced.traced.after c.args.var.0 c.if-not-is_free_variable.ensures) less c.in_ok-traced.traced.spot.number c.in_ok-traced.ensures.traced.at.numbered
