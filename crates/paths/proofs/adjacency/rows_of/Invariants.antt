use Rattle.std.proofs.Common.{◌≡◌, ℕ, length, map}
use Rattle.std.specs.List.{list_any}
use Rattle.arch_model.specs.declared.limits.TheConstants.{COMPONENTS}
use Rattle.paths.specs.Links.{is_next}
use Rattle.paths.proofs.SpreadLaws.{joins_by}
use Rattle.paths.proofs.adjacency.rows_of.Given as goal

abbrev pub invariant-loop-e : goal.invariant-loop-e
invariant-loop-e l = record {
  whole : length l.rows ≡ COMPONENTS;
  so_far : (a c : ℕ) → is_next l.rows a c ≡ list_any (joins_by l.way l.edges l.failed l.n a c) (map (λ x. x.0) l.yielded);
}
