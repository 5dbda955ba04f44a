use Rattle.std.proofs.Common.{◌≡◌, map, take, find, None}
use Rattle.rows.proofs.WhatIsForced.{forces_any}
use Rattle.rows.proofs.forcing.forced_by_row.Given as goal

abbrev pub invariant-loop-term : goal.invariant-loop-term
invariant-loop-term l = find (forces_any l.row l.cube) (map (λ t. t.var.0) (take l.term-index l.term-items)) ≡ None
