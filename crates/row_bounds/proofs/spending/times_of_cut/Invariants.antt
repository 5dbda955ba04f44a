use Rattle.std.proofs.Common.{◌≡◌, ◌≤◌, ◌<◌, ◌^◌, min, fold, map}
use Rattle.std.specs.Prelude.{slice_index}
use Rattle.std.specs.List.{AllByRecursion}
use Rattle.arch_model.specs.Set.{minus, members_below}
use Rattle.arch_model.specs.declared.limits.TheConstants.{MEMBERS}
use Rattle.row_bounds.proofs.spending.times_of_cut.Given as goal

abbrev pub invariant-loop-v : goal.invariant-loop-v
invariant-loop-v l = record {
  least : fold min l.times (map (slice_index l.residue) l.v-iterator) ≡ fold min (10 ^ 12) (map (slice_index l.residue) (members_below (minus l.cut.plus l.cube.fixed) MEMBERS));
  low : AllByRecursion (λ y. y < MEMBERS) l.v-iterator;
  few : l.times ≤ 10 ^ 12;
}
