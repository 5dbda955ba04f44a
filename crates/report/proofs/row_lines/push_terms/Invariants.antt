use Rattle.std.proofs.Common.{◌≡◌, ◌++◌, take, string_bytes}
use Rattle.std.specs.List.{flat_map}
use Rattle.report.specs.Rows.{term_text}
use Rattle.report.proofs.row_lines.push_terms.Given as goal

-- the text so far has the terms before
abbrev pub invariant-loop-term : goal.invariant-loop-term
invariant-loop-term l = string_bytes l.text ≡ string_bytes l.fn.text ++ flat_map term_text (take l.term-index l.terms)
