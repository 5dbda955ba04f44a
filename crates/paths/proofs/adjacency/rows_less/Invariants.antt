use Rattle.std.proofs.Common.{◌≡◌, ℕ, true, ◌&&◌, not, length}
use Rattle.std.specs.List.{list_any}
use Rattle.arch_model.specs.declared.limits.TheConstants.{COMPONENTS, EDGES}
use Rattle.arch_model.specs.Set.{has, empty, members_below}
use Rattle.arch_model.specs.Member.{is_in}
use Rattle.paths.specs.Links.{is_next}
use Rattle.paths.proofs.SpreadLaws.{joins_by}
use Rattle.paths.proofs.adjacency.rows_less.Given as goal

-- what is left, less the edges still to come
abbrev pub invariant-loop-e : goal.invariant-loop-e
invariant-loop-e l = record {
  can : (goal.iterator-loop-e).can_next l.e-iterator;
  finite : (goal.iterator-loop-e).is_finite l.e-iterator;
  whole : length l.left ≡ COMPONENTS;
  so_far : (a c : ℕ) → (is_next l.left a c && not (list_any (joins_by l.way l.edges empty 0 a c) l.e-iterator)) ≡ (is_next l.rows a c && not (list_any (joins_by l.way l.edges empty 0 a c) (members_below l.gone EDGES)));
  there : (e : ℕ) → is_in l.e-iterator e ≡ true → has l.gone e ≡ true;
}
