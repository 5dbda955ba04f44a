use Rattle.std.proofs.Common.{ap}
use Rattle.binary_program.proofs.BuildRanges.{one_then_each}
use Rattle.binary_program.proofs.condition_rows.push_none_where.Goals as goal

pub push_row-requires-clause-terms : goal.push_row-requires-clause-terms
push_row-requires-clause-terms c =
    one_then_each _ c.args.v.0 c.minus_times.result c.args.vars.now c.new-terms.result.items c.push.new.self.items c.push_terms.new.terms.items c.deref.result.now c.requires.variables c.requires.variable (ap (λ t. t.var.0) c.minus_times.ensures.value)
    c.minus_times.ensures.small c.new-terms.ensures.items c.in_ok-push.ensures.items c.in_ok-push_terms.ensures c.deref.ensures.value
