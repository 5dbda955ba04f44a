use Rattle.std.proofs.Common.{◌≡◌, map, take}
use Rattle.std.specs.List.{enumerate_from}
use Rattle.arch_model.specs.Member.{member_count}
use Rattle.rows.specs.BaseRows.{costs_of}
use Rattle.binary_program.specs.Inner.Terms.{AreTerms}
use Rattle.binary_program.proofs.BuildTerms.{minus_cost}
use Rattle.binary_program.proofs.terms.cost_terms.Given as goal

abbrev pub invariant-loop-v : goal.invariant-loop-v
invariant-loop-v l = record {
  made : l.terms.items ≡ map minus_cost (enumerate_from 0 (take l.v (costs_of l.lib)));
  are : AreTerms (member_count l.lib) l.v l.terms.items;
}
