use Rattle.std.proofs.Common.{ap}
use Rattle.binary_program.proofs.BuildRanges.{each_then_one}
use Rattle.binary_program.proofs.degree_rows.push_at_least_where.Goals as goal

pub push_row-requires-clause-terms : goal.push_row-requires-clause-terms
push_row-requires-clause-terms c =
    each_then_one _ c.args.i.0 c.minus_times.result c.args.vars.now c.new-terms.result.items c.push_terms.new.terms.items c.push.new.self.items c.deref.result.now c.requires.variables c.requires.instance (ap (λ t. t.var.0) c.minus_times.ensures.value)
    c.minus_times.ensures.small c.new-terms.ensures.items c.in_ok-push_terms.ensures c.in_ok-push.ensures.items c.deref.ensures.value
