use Rattle.std.proofs.Common.{◌≡◌, length, vec_len, vec_capacity}
use Rattle.std.specs.List.{AllWithin}
use Rattle.rows.specs.Activity.{IsQuietAt}
use Rattle.rows.specs.Known.{parts_of, known_rows}
use Rattle.propagate.specs.Inner.Way.{Leads, HasRoom}
use Rattle.propagate.proofs.passes.pass.Given as goal

abbrev pub invariant-loop-k : goal.invariant-loop-k
invariant-loop-k l = record {
  room : HasRoom (parts_of l.known) l.cube (vec_len l.steps) (vec_capacity l.steps);
  capacity : vec_capacity l.steps ≡ vec_capacity l.initial.steps;
  leads : Leads (parts_of l.known) l.initial.cube l.initial.steps.items l.cube l.steps.items;
  quiet : length l.steps.items ≡ length l.initial.steps.items → AllWithin (IsQuietAt l.cube) (known_rows (parts_of l.known)) 0 l.k;
}
