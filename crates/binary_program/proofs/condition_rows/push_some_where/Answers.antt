use Rattle.std.proofs.Common.{ap, arith}
use Rattle.binary_program.proofs.BuildRanges.{each_then_one}
use Rattle.binary_program.proofs.condition_rows.push_some_where.Goals as goal

pub push_row-requires-clause-terms : goal.push_row-requires-clause-terms
push_row-requires-clause-terms c =
    each_then_one _ c.args.v.0 c.minus.result c.args.vars.now c.new-terms.result.items c.push_terms.new.terms.items c.push.new.self.items c.deref.result.now c.requires.variables c.requires.variable (ap (λ t. t.var.0) c.minus.ensures)
    (rw c.minus.ensures (omega arith)) c.new-terms.ensures.items c.in_ok-push_terms.ensures c.in_ok-push.ensures.items c.deref.ensures.value
