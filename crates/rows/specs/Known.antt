-- The rows that a node of the search knows, by name.
use Rattle.std.specs.Prelude.{ℕ, ◌≤◌, ◌<◌, Bool, List, ◌++◌, map, take, length, slice_get, Option, option_map, option_to_list, is_some, IsTrue}
use Rattle.std.specs.List.{All}
use Rattle.arch_model.specs.Set.{has}
use Rattle.arch_model.specs.Member.{member_count}
use Rattle.rows.specs.declared.known.RowRef.{RowRef}
use Rattle.rows.specs.declared.known.RowRef.TheVariants.{Base, Cut, Cost}
use Rattle.rows.specs.declared.known.Known.{Known}
use Rattle.rows.specs.Parts.{RowParts, CutParts, CubeParts, CutListParts, ProblemParts, KnownParts}
use Rattle.rows.specs.Row.{row_of_cut}
use Rattle.rows.specs.Activity.{IsQuietAt}
use Rattle.rows.specs.BaseRows.{cost_row_of}

-- the number of variables: the members of the program's library
abbrev pub variables : KnownParts → ℕ
variables known = member_count known.problem.library

-- the cuts that are known: those numbered below `upto`
abbrev pub known_cuts : KnownParts → List CutParts
known_cuts known = take known.upto known.cuts

-- the row of a name: a base row, a cut that is known, or the cost row where there is a bound; none where there is no such row
abbrev pub row_at : KnownParts → RowRef → Option RowParts
row_at known (Base i) = slice_get known.problem.base i
row_at known (Cut j) = option_map row_of_cut (slice_get (known_cuts known) j)
row_at known Cost = option_map (cost_row_of known.problem.library) known.bound

-- whether there is a row of this name
abbrev pub has_row : KnownParts → RowRef → Bool
has_row known r = is_some (row_at known r)

-- the base rows, the cuts that are known, and the cost row where there is a bound
abbrev pub known_rows : KnownParts → List RowParts
known_rows known =
    known.problem.base ++ (map row_of_cut (known_cuts known) ++ option_to_list (option_map (cost_row_of known.problem.library) known.bound))

-- a cube is quiet where no known row is refuted or forces
abbrev pub IsQuiet : KnownParts → CubeParts → Type 0
IsQuiet known cube = All (IsQuietAt cube) (known_rows known)

-- the variables of a cut are below n
pub record IsCutBelow (n : ℕ) (cut : CutParts) : Type 0 where
  pub plus : (v : ℕ) → IsTrue (has cut.plus v) → v < n
  pub minus : (v : ℕ) → IsTrue (has cut.minus v) → v < n

-- what is passed as known: no more cuts than there are, over the program's variables
pub record IsKnown (known : KnownParts) : Type 0 where
  pub upto : known.upto ≤ length known.cuts
  pub cuts : All (IsCutBelow (variables known)) known.cuts

-- what is known by a list of cuts, of which the first `upto` count, with this bound on the cost or none
abbrev pub known_from : ProblemParts → ℕ → Option ℕ → List CutParts → KnownParts
known_from problem upto bound cuts = record { problem = problem; cuts = cuts; upto = upto; bound = bound }

-- what the fields of what is passed as known say
abbrev pub known_parts : ProblemParts → CutListParts → ℕ → Option ℕ → KnownParts
known_parts problem cuts upto bound = known_from problem upto bound cuts.cuts

-- the same of the record that is passed as known
abbrev pub parts_of : Known → KnownParts
parts_of known = known_parts known.problem.now known.cuts.now known.upto known.bound
