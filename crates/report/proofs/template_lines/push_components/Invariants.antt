use Rattle.std.proofs.Common.{◌≡◌, ◌++◌, string_bytes}
use Rattle.std.specs.List.{flat_map, range_with_len}
use Rattle.report.specs.Template.{component_line}
use Rattle.report.proofs.template_lines.push_components.Given as goal

-- the text so far has the lines before
abbrev pub invariant-loop-c : goal.invariant-loop-c
invariant-loop-c l = string_bytes l.text ≡ string_bytes l.fn.text ++ flat_map (component_line l.lib) (range_with_len 0 l.c)
