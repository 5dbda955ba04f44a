use Rattle.std.proofs.Common.{◌≡◌, ℕ, ◌+◌, ◌<◌, ◌≤◌, false, length, get_or}
use Rattle.search_core.specs.Inner.Nodes.{node_of, blank_live}
use Rattle.search_core.specs.Sought.{sought_by}
use Rattle.search_core.proofs.nodes.last_live.Given as goal

-- the last nodes, as many as were looked at, aren't of the kind
abbrev pub invariant-loop-back : goal.invariant-loop-back
invariant-loop-back l = (j : ℕ) → length l.live ≤ j + l.back → j < length l.live → sought_by l.sought (node_of (get_or l.live j blank_live).state) ≡ false
