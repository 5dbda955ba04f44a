use Rattle.std.proofs.Common.{◌≡◌, ◌+◌, ◌≤◌, ◌++◌, map, take, length}
use Rattle.arch_model.specs.declared.limits.TheConstants.{MEMBERS}
use Rattle.arch_model.specs.Set.{members_below}
use Rattle.redundancy_cut.proofs.right.product_of.Given as goal

-- the members in the list and those to come are those of the set, and there is room for them
abbrev pub invariant-loop-v : goal.invariant-loop-v
invariant-loop-v l = record {
  so_far : map (λ m. m.0) (take l.count l.members) ++ l.v-iterator ≡ members_below l.set MEMBERS;
  whole : length l.members ≡ MEMBERS;
  room : l.count + length l.v-iterator ≤ MEMBERS;
}
