use Rattle.std.proofs.Common.{◌≡◌, ℕ, ◌<◌, Some, None}
use Rattle.std.specs.Prelude.{slice_get}
use Rattle.arch_model.specs.declared.library.Requirement.{Requirement}
use Rattle.redundancy_cut.specs.ChosenCut.{redundancy_of, no_good_of}
use Rattle.analyst.proofs.FirstCut.{IsFirst}
use Rattle.analyst.proofs.choosing.chosen_cut.Given as goal

-- no requirement so far has a redundancy cut, and the no-good is the first of theirs
abbrev pub invariant-loop-i : goal.invariant-loop-i
invariant-loop-i l = record {
  alone : (k : ℕ) (r : Requirement) → k < l.i → slice_get l.lib.requirements k ≡ Some r → redundancy_of l.lib l.arch (k, r) ≡ None;
  sum : IsFirst (no_good_of l.lib l.arch) l.lib.requirements l.i l.no_good;
}
