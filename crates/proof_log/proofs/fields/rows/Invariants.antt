use Rattle.std.proofs.Common.{◌≡◌, ◌-◌, length, map, option_map}
use Rattle.proof_log.specs.Value.{row_name}
use Rattle.proof_log.specs.Inner.Reading.{row_at, items_at}
use Rattle.proof_log.proofs.Items.{joined, left}
use Rattle.proof_log.proofs.fields.rows.Given as goal

-- the rows so far and those that are left are all rows
abbrev pub invariant-loop : goal.invariant-loop
invariant-loop l = left joined row_at (option_map (λ v. map row_name v.items) l.steps) (length l.bytes - l.counter) l.rest ≡ items_at row_at (length l.bytes) l.bytes
