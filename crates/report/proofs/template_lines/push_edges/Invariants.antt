use Rattle.std.proofs.Common.{◌≡◌, ◌++◌, string_bytes}
use Rattle.std.specs.List.{flat_map, range_with_len}
use Rattle.report.specs.Template.{edge_line}
use Rattle.report.proofs.template_lines.push_edges.Given as goal

-- the text so far has the lines before
abbrev pub invariant-loop-e : goal.invariant-loop-e
invariant-loop-e l = string_bytes l.text ≡ string_bytes l.fn.text ++ flat_map (edge_line l.lib) (range_with_len 0 l.e)
