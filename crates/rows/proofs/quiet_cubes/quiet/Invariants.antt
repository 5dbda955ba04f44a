use Rattle.std.proofs.Common.{◌≡◌, true, take}
use Rattle.std.specs.List.{list_all}
use Rattle.rows.specs.Inner.Quiet.{is_quiet_at}
use Rattle.rows.specs.Known.{parts_of, known_rows}
use Rattle.rows.proofs.quiet_cubes.quiet.Given as goal

abbrev pub invariant-loop-k : goal.invariant-loop-k
invariant-loop-k l = list_all (is_quiet_at l.cube) (take l.k (known_rows (parts_of l.known))) ≡ true
