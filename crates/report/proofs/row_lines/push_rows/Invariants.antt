use Rattle.std.proofs.Common.{◌≡◌, ◌++◌, take, string_bytes}
use Rattle.std.specs.List.{flat_map, enumerate_from}
use Rattle.report.specs.Rows.{row_line}
use Rattle.report.proofs.row_lines.push_rows.Given as goal

-- the text so far has the lines of the rows before
abbrev pub invariant-loop-number : goal.invariant-loop-number
invariant-loop-number l =
    string_bytes l.text ≡ string_bytes l.fn.text ++ flat_map (λ p. row_line p.0 p.1) (enumerate_from 0 (take l.number l.base))
