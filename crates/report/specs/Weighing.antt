-- What `weigh` prints of an architecture, as bytes.
use Rattle.std.specs.Prelude.{ℕ, ◌+◌, Bool, ◌&&◌, nat_le, List, ◌++◌, codes, take, slice_get, MatchOption, Option, Some, None, if◌then◌else◌}
use Rattle.std.specs.Fmt.{decimal}
use Rattle.std.specs.List.{flat_map, zip, list_all, All}
use Rattle.std.specs.Option.{IsSomeAnd, is_none}
use Rattle.arch_model.specs.declared.library.Requirement.{Requirement}
use Rattle.arch_model.specs.Set.{has}
use Rattle.arch_model.specs.Parts.{LibraryParts, ArchitectureParts}
use Rattle.arch_model.specs.Architecture.{cost_of}
use Rattle.arch_model.specs.Pattern.{MeetsPattern}
use Rattle.template.specs.Names.{component_name}
use Rattle.report.specs.Report.{weighed}

-- that all patterns are met, or the first that is broken, given from 0 and counted from 1
abbrev pub pattern_line : Option ℕ → List ℕ
pattern_line None = codes "patterns meet\n"
pattern_line (Some k) = codes "pattern " ++ decimal (k + 1) ++ codes " broken\n"

-- whether a requirement is met by a sink that weighs w
abbrev pub is_met : ArchitectureParts → Requirement × ℕ → Bool
is_met arch p = has arch.comps p.0.sink.0 && nat_le p.1 p.0.bound

-- the line of a requirement whose sink weighs w: whether that meets its bound, or that the sink is absent
abbrev pub verdict_line : LibraryParts → ArchitectureParts → Requirement × ℕ → List ℕ
verdict_line lib arch p =
    if has arch.comps p.0.sink.0 then weighed lib p.0 p.1 ++ (if nat_le p.1 p.0.bound then codes " meets\n" else codes " breaks\n")
    else codes "sink " ++ component_name lib p.0.sink.0 ++ codes " absent\n"

-- whether nothing is broken: no pattern, and no requirement with the weights that are told
abbrev pub says_admissible : LibraryParts → ArchitectureParts → List ℕ → Option ℕ → Bool
says_admissible lib arch weights broken = is_none broken && list_all (is_met arch) (zip lib.requirements weights)

-- the last line
abbrev pub admissible_line : Bool → List ℕ
admissible_line admissible = if admissible then codes "admissible yes\n" else codes "admissible no\n"

-- an architecture: its cost, in cost units, its patterns, a line for each requirement in order, and whether it is admissible
abbrev pub weigh_text : LibraryParts → ArchitectureParts → List ℕ → Option ℕ → List ℕ
weigh_text lib arch weights broken =
    codes "cost " ++ decimal (cost_of lib arch) ++ codes "\n" ++ pattern_line broken ++ flat_map (verdict_line lib arch) (zip lib.requirements weights)
    ++ admissible_line (says_admissible lib arch weights broken)

-- the number, from 0, of a pattern that is broken, with all before it met; none where all are met
abbrev pub IsFirstBroken : LibraryParts → ArchitectureParts → Option ℕ → Type 0
IsFirstBroken lib arch broken =
    MatchOption broken (All (MeetsPattern lib arch) lib.patterns) (λ k. IsSomeAnd (slice_get lib.patterns k) (λ p. MeetsPattern lib arch p → ⊥) × All (MeetsPattern lib arch) (take k lib.patterns))
