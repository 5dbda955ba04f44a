use Rattle.std.proofs.Common.{◌≡◌, ◌++◌, drop, string_bytes}
use Rattle.std.specs.List.{flat_map, zip}
use Rattle.report.specs.Weighing.{verdict_line}
use Rattle.report.proofs.weighing.push_verdicts.Given as goal

-- the text so far and the lines to come are the text with all lines
abbrev pub invariant-loop-i : goal.invariant-loop-i
invariant-loop-i l =
    string_bytes l.text ++ flat_map (verdict_line l.lib l.arch) (zip (drop l.i l.lib.requirements) (drop l.i l.weights))
    ≡ string_bytes l.fn.text ++ flat_map (verdict_line l.lib l.arch) (zip l.lib.requirements l.weights)
