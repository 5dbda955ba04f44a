use Rattle.std.proofs.Common.{◌≤◌, ◌^◌}
use Rattle.arch_model.proofs.RowReads.{demands_small, of_read, at_none}
use Rattle.arch_model.proofs.ratings.demand.Goals as goal

pub returns-in-Some-clause-small : goal.returns-in-Some-clause-small
returns-in-Some-clause-small c =
    of_read (λ x. x.demand ≤ 10 ^ 12) c.args.lib.now c.components.result.now c.args.c.0 c.in-Some.component.now (demands_small c.args.lib.now c.components.ensures.library) c.components.ensures.rows c.in-Some.ensures.lookup.3.0 c.in-Some.ensures.lookup.1

pub returns-in-None-clause-value : goal.returns-in-None-clause-value
returns-in-None-clause-value c = at_none c.args.lib.now (λ x. x.demand) c.components.result.now c.args.c.0 c.components.ensures.rows c.in-None.ensures.lookup.3
