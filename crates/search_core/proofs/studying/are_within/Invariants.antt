use Rattle.std.proofs.Common.{◌≤◌, ℕ, ◌<◌, get_or}
use Rattle.search_core.proofs.JudgedTests.{blank_requirement}
use Rattle.search_core.proofs.studying.are_within.Given as goal

abbrev pub invariant-loop-i : goal.invariant-loop-i
invariant-loop-i l = (k : ℕ) → k < l.i → get_or l.weights k 0 ≤ (get_or l.requirements k blank_requirement).bound
