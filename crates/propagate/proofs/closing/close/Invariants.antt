use Rattle.std.proofs.Common.{◌-◌, [], vec_len, vec_capacity}
use Rattle.rows.specs.Known.{parts_of}
use Rattle.propagate.specs.Inner.Way.{Leads, HasRoom}
use Rattle.propagate.proofs.closing.close.Given as goal

abbrev pub invariant-loop-row : goal.invariant-loop-row
invariant-loop-row l = record {
  room : HasRoom (parts_of l.known) l.cube (vec_len l.steps) (vec_capacity l.steps);
  leads : Leads (parts_of l.known) l.fn.cube [] l.cube l.steps.items;
}

abbrev pub decreases-loop-row : goal.decreases-loop-row
decreases-loop-row l = vec_capacity l.steps - vec_len l.steps
