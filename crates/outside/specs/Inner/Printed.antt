-- What a sink in memory holds, and what a write makes of it.
use Rattle.std.specs.Prelude.{ℕ, ◌+◌, Bool, cond, ◌&&◌, nat_le, List, [], ◌++◌, length}
use Rattle.outside.specs.Counts.{one_more}
use Rattle.outside.specs.Inner.Failing.{FailingCalls, passes, after_call}

-- the bytes so far, how many it has room for, the writes that fail, and how many failed, up to 2^64 - 1
pub record Printed : Type 0 where
  pub bytes : List ℕ
  pub room : ℕ
  pub failing : FailingCalls
  pub faults : ℕ

-- a sink at first: no byte, no fault, no write
abbrev pub new_sink : ℕ → List ℕ → Printed
new_sink room failing = record { bytes = []; room = room; failing = record { numbers = failing; calls = 0 }; faults = 0 }

-- whether the next write goes through
abbrev pub write_passes : Printed → List ℕ → Bool
write_passes s piece = passes s.failing && nat_le (length s.bytes + length piece) s.room

-- the sink after a write of a piece: all of it was added, or nothing
abbrev pub after_write : Printed → List ℕ → Printed
after_write s piece =
    cond (write_passes s piece)
    (record s { bytes = s.bytes ++ piece; failing = after_call s.failing })
    (record s { faults = one_more s.faults; failing = after_call s.failing })
