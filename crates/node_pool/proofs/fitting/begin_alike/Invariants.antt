-- The first i cuts of both are the same.
use Rattle.std.proofs.Common.{◌≡◌, take}
use Rattle.node_pool.proofs.fitting.begin_alike.Given as goal

abbrev pub invariant-loop-i : goal.invariant-loop-i
invariant-loop-i l = take l.i l.some.cuts ≡ take l.i l.others.cuts
