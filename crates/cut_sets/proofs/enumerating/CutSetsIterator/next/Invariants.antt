use Rattle.std.proofs.Common.{◌≡◌, false}
use Rattle.cut_sets.specs.Inner.Upcoming.{IsNetwork, IsPlace, sets_from, steps_from}
use Rattle.cut_sets.proofs.enumerating.CutSetsIterator.next.Given as goal

abbrev pub invariant-loop-members : goal.invariant-loop-members
invariant-loop-members l = record {
  network : IsNetwork l.self-inside.network;
  place : IsPlace l.self-inside.network l.self-inside.place;
  begun : l.self-inside.first ≡ false;
  same : sets_from l.initial.self-inside.network l.initial.self-inside.place ≡ sets_from l.self-inside.network l.self-inside.place;
}

abbrev pub decreases-loop-members : goal.decreases-loop-members
decreases-loop-members l = steps_from l.self-inside.network l.self-inside.place
