use Rattle.std.proofs.Common.{◌≡◌, ◌-◌, ◌++◌}
use Rattle.rand_xoshiro.specs.SplitMix64.{mix_u64}
use Rattle.rand_core.specs.Steps.{first_words}
use Rattle.generate.specs.Generated.{groups_from, groups_of}
use Rattle.generate.proofs.group.groups_of.Given as goal

-- the groups so far and those of the words to come are all
abbrev pub invariant-loop-i : goal.invariant-loop-i
invariant-loop-i l =
    l.groups.items ++ groups_from l.i (first_words mix_u64 (l.size - l.i) l.words) ≡ groups_of l.number l.size
