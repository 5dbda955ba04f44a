use Rattle.std.proofs.Common.{◌≡◌, ◌++◌, drop, string_bytes}
use Rattle.std.specs.List.{flat_map, zip}
use Rattle.report.proofs.TextLaws.{weight_told}
use Rattle.report.proofs.answers.weight_lines.Given as goal

-- the text so far and the lines to come are all lines
abbrev pub invariant-loop-i : goal.invariant-loop-i
invariant-loop-i l =
    string_bytes l.text ++ flat_map (weight_told l.lib) (zip (drop l.i l.lib.requirements) (drop l.i l.weights)) ≡ flat_map (weight_told l.lib) (zip l.lib.requirements l.weights)
