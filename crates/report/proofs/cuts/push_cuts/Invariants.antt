use Rattle.std.proofs.Common.{◌≡◌, ◌+◌, ◌++◌, length, sum_by, string_bytes}
use Rattle.std.specs.List.{flat_map}
use Rattle.arch_model.specs.Weight.{product_of}
use Rattle.cut_sets.specs.CutSets.{cut_sets_of}
use Rattle.sink_weight.proofs.Sums.{AreSets}
use Rattle.report.specs.Sets.{set_line}
use Rattle.report.proofs.cuts.push_cuts.Given as goal

-- what was told and counted so far, and what is to come, are all
abbrev pub invariant-loop-members : goal.invariant-loop-members
invariant-loop-members l = record {
  can : (goal.iterator-loop-members).can_next l.members-iterator;
  finite : (goal.iterator-loop-members).is_finite l.members-iterator;
  text : string_bytes l.text ++ flat_map (set_line l.lib) l.members-iterator ≡ string_bytes l.fn.text ++ flat_map (set_line l.lib) (cut_sets_of l.lib l.arch l.fn.sink.0);
  count : l.sets + length l.members-iterator ≡ length (cut_sets_of l.lib l.arch l.fn.sink.0);
  sum : l.sum + sum_by (product_of l.lib) l.members-iterator ≡ sum_by (product_of l.lib) (cut_sets_of l.lib l.arch l.fn.sink.0);
  sets : AreSets l.lib l.members-iterator;
}
