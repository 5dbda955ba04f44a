use Rattle.std.proofs.Common.{◌≡◌, map, take, string_bytes}
use Rattle.outside.specs.Counts.{no_faults}
use Rattle.outside.proofs.disk_shelf.DiskShelf.new.Given as goal

abbrev pub invariant-loop-name : goal.invariant-loop-name
invariant-loop-name g l = l.counts ≡ no_faults (map string_bytes (take l.name-index l.names))
