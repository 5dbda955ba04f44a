use Rattle.std.proofs.Common.{◌≤◌, ◌^◌, sym, subst}
use Rattle.rows.proofs.Costs.{member_cost_small, cost_component_at, cost_edge_at}
use Rattle.rows.proofs.cost.member_cost.Goals as goal

pub returns-then-i-components-clause-value : goal.returns-then-i-components-clause-value
returns-then-i-components-clause-value c =
    cost_component_at c.args.lib.now c.components-components.result.now c.args.v.0 c.components-components.ensures.rows c.if-i-components.true

pub returns-then-i-components-clause-small : goal.returns-then-i-components-clause-small
returns-then-i-components-clause-small c =
    subst (λ n. n ≤ 10 ^ 12) (sym (cost_component_at c.args.lib.now c.components-components.result.now c.args.v.0 c.components-components.ensures.rows c.if-i-components.true))
    (member_cost_small c.args.lib.now c.components-components.ensures.library c.args.v.0 c.requires)

pub returns-else-i-components-clause-value : goal.returns-else-i-components-clause-value
returns-else-i-components-clause-value c =
    cost_edge_at c.args.lib.now c.components-components.result.now c.edges.result.now c.args.v.0 c.components-components.ensures.rows c.edges.ensures.rows c.if-i-components.false c.requires

pub returns-else-i-components-clause-small : goal.returns-else-i-components-clause-small
returns-else-i-components-clause-small c =
    subst (λ n. n ≤ 10 ^ 12) (sym (cost_edge_at c.args.lib.now c.components-components.result.now c.edges.result.now c.args.v.0 c.components-components.ensures.rows c.edges.ensures.rows c.if-i-components.false c.requires))
    (member_cost_small c.args.lib.now c.components-components.ensures.library c.args.v.0 c.requires)
