use Rattle.std.proofs.Common.{◌≡◌, ◌++◌, take, string_bytes}
use Rattle.std.specs.List.{flat_map}
use Rattle.generate.specs.Generated.{requirement_text}
use Rattle.generate.proofs.text.push_requirements.Given as goal

-- the text so far has the parts of the groups before
abbrev pub invariant-loop-group : goal.invariant-loop-group
invariant-loop-group l =
    string_bytes l.text ≡ string_bytes l.fn.text ++ flat_map requirement_text (take l.group-index l.groups)
