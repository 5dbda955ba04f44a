use Rattle.std.proofs.Common.{pos, arith}
use Rattle.binary_program.proofs.BuildRanges.{terms_of_each}
use Rattle.binary_program.proofs.degree_rows.push_at_least.Goals as goal

pub push_row-requires-clause-terms : goal.push_row-requires-clause-terms
push_row-requires-clause-terms c = terms_of_each _ (pos 1) c.args.vars.now c.new-terms.result.items c.push_terms.new.terms.items c.deref.result.now c.requires.variables (omega arith) c.new-terms.ensures.items c.in_ok-push_terms.ensures c.deref.ensures.value
