use Rattle.std.proofs.Common.{◌≡◌, drop}
use Rattle.rows.specs.Known.{parts_of}
use Rattle.search_core.specs.Follow.{follow_trace}
use Rattle.search_core.proofs.follow.follow.Given as goal

-- the rest of the trace leads on from here to where the whole leads from the beginning
abbrev pub invariant-loop-r : goal.invariant-loop-r
invariant-loop-r l = follow_trace (parts_of l.known) l.fn.cube l.trace ≡ follow_trace (parts_of l.known) l.reached (drop l.r-index l.r-items)
