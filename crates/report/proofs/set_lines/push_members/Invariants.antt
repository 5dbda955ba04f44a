use Rattle.std.proofs.Common.{◌≡◌, ◌++◌, take, string_bytes}
use Rattle.std.specs.List.{flat_map}
use Rattle.report.proofs.LineLaws.{spaced_of}
use Rattle.report.proofs.set_lines.push_members.Given as goal

-- the text so far has the names before
abbrev pub invariant-loop-member : goal.invariant-loop-member
invariant-loop-member l = string_bytes l.text ≡ string_bytes l.fn.text ++ flat_map (spaced_of l.lib) (take l.member-index l.members)
