-- For the code's own contracts: what is left to condition on where some members have failed.
use Rattle.std.specs.Prelude.{ℕ, ◌-◌, ◌/◌, ◌^◌, Bool, false, ◌&&◌, ◌||◌, nat_lt, List, length, slice_get, if◌then◌else◌}
use Rattle.std.specs.Option.{option_map_or}
use Rattle.arch_model.specs.Set.{Set, has}
use Rattle.arch_model.specs.Parts.{LibraryParts, ArchitectureParts}
use Rattle.arch_model.specs.Member.{is_in, is_present, fail_of}
use Rattle.arch_model.specs.Path.{parts}
use Rattle.arch_model.specs.Weight.{ceil_div}
use Rattle.arch_model.specs.Mass.{over_failures}

-- whether a member is present and may fail
abbrev pub may_fail : LibraryParts → ArchitectureParts → ℕ → Bool
may_fail lib arch v = is_present lib arch v && nat_lt 0 (fail_of lib v)

-- 10^18 where the sink is parted, else 0
abbrev pub end_value : Bool → ℕ
end_value parted = if parted then 10 ^ 18 else 0

-- that where the members of a set and those of a list have failed
abbrev pub value_with : LibraryParts → ArchitectureParts → ℕ → Set → List ℕ → ℕ
value_with lib arch sink failed more = end_value (parts lib arch sink (λ v. has failed v || is_in more v))

-- the enclosure over the failures of some members where others have failed, in units of 10^-18, rounded down and up
abbrev pub enclosure_with : LibraryParts → ArchitectureParts → ℕ → Set → List ℕ → ℕ × ℕ
enclosure_with lib arch sink failed members = (over_failures lib (λ m. m / 10 ^ 6) (value_with lib arch sink failed) members, over_failures lib (λ m. ceil_div m (10 ^ 6)) (value_with lib arch sink failed) members)

-- whether a member lies between: a component that is reached and from which the sink is reached, or an edge from the one kind to the other
abbrev pub is_between : LibraryParts → Set → Set → ℕ → Bool
is_between lib reached above v =
    if nat_lt v (length lib.components) then has reached v && has above v
    else option_map_or (λ e. has reached e.tail.0 && has above e.head.0) (slice_get lib.edges (v - length lib.components)) false
