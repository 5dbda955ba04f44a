-- What an enumeration of cut sets has still to give.
use Rattle.std.specs.Prelude.{◌≡◌, ℕ, ◌+◌, ◌^◌, ◌≤◌, Bool, true, false, ◌&&◌, nat_lt, List, [], ◌∷◌, ◌++◌, map, filter, length, IsTrue, if◌then◌else◌, Option, None, Some}
use Rattle.arch_model.specs.declared.sets.VarId.{VarId}
use Rattle.arch_model.specs.declared.limits.TheConstants.{MEMBERS, FAILING}
use Rattle.arch_model.specs.Parts.{LibraryParts, ArchitectureParts}
use Rattle.arch_model.specs.Architecture.{IsArchitecture}
use Rattle.arch_model.specs.Set.{Set, has}
use Rattle.arch_model.specs.Inner.Sets.{members_from}
use Rattle.arch_model.specs.Member.{is_in, member_count, is_present, fail_of}
use Rattle.arch_model.specs.CutSet.{nonempty_sublists, is_minimal_cut_set}
use Rattle.arch_model.specs.Weight.{product_of}

-- a network as an enumeration sees it: with the members that may be in a set
pub record NetworkParts : Type 0 where
  pub lib : LibraryParts
  pub arch : ArchitectureParts
  pub sink : ℕ
  pub candidates : Set

-- where an enumeration stands: the members chosen so far, ascending, and the least number that is not decided
pub record PlaceParts : Type 0 where
  pub chosen : List ℕ
  pub at : ℕ

-- whether some present members are a minimal cut set whose product is above 0
abbrev pub is_live_cut_set : LibraryParts → ArchitectureParts → ℕ → List ℕ → Bool
is_live_cut_set lib arch sink members = is_minimal_cut_set lib arch sink members && nat_lt 0 (product_of lib members)

-- whether member v is present and may fail
abbrev pub is_candidate : LibraryParts → ArchitectureParts → ℕ → Bool
is_candidate lib arch v = nat_lt v (member_count lib) && (is_present lib arch v && nat_lt 0 (fail_of lib v))

-- the candidates from i on, ascending
abbrev pub candidates_from : NetworkParts → ℕ → List ℕ
candidates_from net i = members_from net.candidates i MEMBERS

-- the sets that have some chosen members and one or more candidates from i on, and no other member
unfoldable pub sets_beyond : NetworkParts → List ℕ → ℕ → List (List ℕ)
sets_beyond net chosen i = filter (is_live_cut_set net.lib net.arch net.sink) (map (λ m. chosen ++ m) (nonempty_sublists (candidates_from net i)))

-- the sets that come after all those with some chosen members at their front: those that have fewer of these, and then greater candidates
abbrev pub sets_after : NetworkParts → List ℕ → List ℕ → List (List ℕ)
sets_after net before [] = []
sets_after net before (c ∷ cs) = sets_after net (before ++ c ∷ []) cs ++ sets_beyond net before (c + 1)

-- the sets that come from a place on
abbrev pub sets_from : NetworkParts → PlaceParts → List (List ℕ)
sets_from net place = sets_beyond net place.chosen place.at ++ sets_after net [] place.chosen

-- the empty set, where it is still to be given, and then the sets from a place on
abbrev pub upcoming : Bool → NetworkParts → PlaceParts → List (List ℕ)
upcoming first net place = (if first then [] ∷ [] else []) ++ sets_from net place

-- a network of an architecture, with exactly the members that are present and may fail
pub record IsNetwork (net : NetworkParts) : Type 0 where
  pub fits : IsArchitecture net.lib net.arch
  pub candidates : (v : ℕ) → has net.candidates v ≡ is_candidate net.lib net.arch v
  pub few : length (candidates_from net 0) ≤ FAILING
  pub small : member_count net.lib ≤ MEMBERS

-- some members, as many as `count` before them: candidates, ascending from `low` on and below `at`, with room for each candidate that may follow
abbrev pub AreChosen : NetworkParts → ℕ → ℕ → List ℕ → ℕ → Type 0
AreChosen net count low [] at = (low ≤ at) × (count + length (candidates_from net at) ≤ FAILING)
AreChosen net count low (c ∷ cs) at =
    (low ≤ c) × IsTrue (has net.candidates c) × (count + 1 + length (candidates_from net (c + 1)) ≤ FAILING) × AreChosen net (count + 1) (c + 1) cs at

-- a place at which an enumeration may stand
abbrev pub IsPlace : NetworkParts → PlaceParts → Type 0
IsPlace net place = AreChosen net 0 0 place.chosen place.at

-- a set of candidates that has those chosen and all that are not decided
pub record IsWide (net : NetworkParts) (place : PlaceParts) (wide : Set) : Type 0 where
  pub chosen : (v : ℕ) → IsTrue (is_in place.chosen v) → IsTrue (has wide v)
  pub candidates : (v : ℕ) → IsTrue (is_in (candidates_from net place.at) v) → IsTrue (has wide v)
  pub inside : (v : ℕ) → IsTrue (has wide v) → IsTrue (has net.candidates v)

-- a bound on the steps that are left after some chosen members, and from a place on
abbrev pub steps_after : NetworkParts → List ℕ → ℕ
steps_after net [] = 0
steps_after net (c ∷ cs) = 3 ^ length (candidates_from net (c + 1)) + steps_after net cs

abbrev pub steps_from : NetworkParts → PlaceParts → ℕ
steps_from net place = 3 ^ length (candidates_from net place.at) + steps_after net place.chosen

-- the last of the chosen members is left out, where there is one, and all up to it is decided
abbrev pub WentBack : PlaceParts → PlaceParts → Bool → Type 0
WentBack before after false = (before.chosen ≡ []) × (after ≡ before)
WentBack before after true = (c : ℕ) × (before.chosen ≡ after.chosen ++ c ∷ []) × (after.at ≡ c + 1)

-- a candidate from a place on before which none is in a set that has the chosen members at its front
pub record IsFirstUseful (net : NetworkParts) (place : PlaceParts) (v : ℕ) : Type 0 where
  pub later : place.at ≤ v
  pub candidate : IsTrue (has net.candidates v)
  pub same : sets_beyond net place.chosen place.at ≡ sets_beyond net place.chosen v

-- the next candidate to be chosen, or none where there is no set that has the chosen members at its front
abbrev pub IsNextChoice : NetworkParts → PlaceParts → Option VarId → Type 0
IsNextChoice net place None = sets_beyond net place.chosen place.at ≡ []
IsNextChoice net place (Some v) = IsFirstUseful net place v.0
