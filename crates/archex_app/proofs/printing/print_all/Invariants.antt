use Rattle.std.proofs.Common.{◌≡◌, length, ◌-◌, ◌≤◌, take}
use Rattle.outside.specs.Told.{Appends}
use Rattle.archex_app.proofs.printing.print_all.Given as goal

abbrev pub invariant-loop-printed : goal.invariant-loop-printed
invariant-loop-printed g l = record {
  within : l.printed ≤ length l.text;
  printed : Appends (g.O.Sink.told l.fn.out) (g.O.Sink.told l.out) (take l.printed l.text);
  never_falls : g.O.Sink.faults l.fn.out ≤ g.O.Sink.faults l.out;
  stays : g.O.Sink.faults l.out ≡ g.O.Sink.faults l.fn.out;
}

abbrev pub decreases-loop-printed : goal.decreases-loop-printed
decreases-loop-printed g l = length l.text - l.printed
