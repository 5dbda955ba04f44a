use Rattle.std.proofs.Common.{◌<◌}
use Rattle.csv.specs.Reading.{strip_bom}
use Rattle.arch_csv.proofs.RecordsRead.{Goes}
use Rattle.arch_csv.proofs.reader.read_records.Given as goal

abbrev pub invariant-loop-row : goal.invariant-loop-row
invariant-loop-row l = (0 < l.row-iterator.left) × Goes l.lib (strip_bom l.fn.bytes) l.row-iterator.rdr l.draft
