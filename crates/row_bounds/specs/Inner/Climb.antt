-- An ascent on its way, as the code has it.
use Rattle.std.specs.Prelude.{◌≡◌, ℕ, zero, suc, ◌+◌, ◌*◌, ◌/◌, ◌^◌, ◌≤◌, ◌<◌, ℤ, pos, negsuc, int_lt, Bool, List, Option, Some, None, IsSome, length, slice_index, map, if◌then◌else◌}
use Rattle.std.specs.List.{enumerate_from}
use Rattle.arch_model.specs.declared.limits.TheConstants.{MEMBERS}
use Rattle.rows.specs.declared.known.Pair.{Pair}
use Rattle.rows.specs.declared.known.RowRef.{RowRef}
use Rattle.rows.specs.declared.known.RowRef.TheVariants.{Base, Cut}
use Rattle.rows.specs.Parts.{RowParts, CubeParts, KnownParts}
use Rattle.arch_model.specs.Set.{has}
use Rattle.rows.specs.Row.{row_of_cut, value_of}
use Rattle.rows.specs.Reason.{IsReason, AllThere}
use Rattle.rows.specs.Known.{known_cuts}
use Rattle.rows.specs.Ascent.{Ascent}

-- pairs and residues as the code has them are those of an ascent
pub record Follows (pairs : List Pair) (residues : List ℕ) (ascent : Ascent) : Type 0 where
  pub same : pairs ≡ ascent.pairs
  pub residue : (v : ℕ) → v < MEMBERS → slice_index residues v ≡ ascent.residue v

-- after some pairs no residue is above what that many rows can raise it to
abbrev pub AreLow : ℕ → List ℕ → Type 0
AreLow pairs residues = (v : ℕ) → v < MEMBERS → slice_index residues v ≤ 10 ^ 12 + pairs * 10 ^ 28

-- how often a coefficient goes into what is left of its variable's cost, where it is positive and the variable isn't fixed
abbrev pub quotient_by : Bool → ℤ → ℕ → Option ℕ
quotient_by fixed (pos zero) left = None
quotient_by fixed (pos (suc a)) left = if fixed then None else Some (left / suc a)
quotient_by fixed (negsuc a) left = None

-- an ascent on its way: a reason for what is known, and residues that aren't too great
pub record IsRising (known : KnownParts) (pairs : List Pair) (residues : List ℕ) : Type 0 where
  pub reason : IsReason pairs
  pub there : IsSome known.bound → AllThere known pairs
  pub low : AreLow (length pairs) residues

-- whether the variables that are fixed to 1 don't meet a row by themselves
abbrev pub is_wanting : CubeParts → RowParts → Bool
is_wanting cube row = int_lt (value_of row.terms (has cube.ones)) row.least

-- the base rows with their names, by number
abbrev pub base_named : KnownParts → List (RowRef × RowParts)
base_named known = map (λ p. (Base p.0, p.1)) (enumerate_from 0 known.problem.base)

-- the known cuts' rows with their names, by number
abbrev pub cuts_named : KnownParts → List (RowRef × RowParts)
cuts_named known = map (λ p. (Cut p.0, row_of_cut p.1)) (enumerate_from 0 (known_cuts known))
