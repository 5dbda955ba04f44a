use Rattle.std.proofs.Common.{◌≡◌, map, drop}
use Rattle.lib_read.specs.Faults.{is_known}
use Rattle.lib_read.specs.Inner.Keys.{key_view}
use Rattle.lib_read.proofs.passes.is_known.Given as goal

abbrev pub invariant-loop-key : goal.invariant-loop-key
invariant-loop-key l = is_known (map key_view (drop l.key-index l.keys)) l.name ≡ is_known (map key_view l.keys) l.name
