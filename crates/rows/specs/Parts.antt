-- What contracts see of rows, cubes and what a node of the search knows.
use Rattle.std.specs.Prelude.{ℕ, ℤ, List, Option}
use Rattle.arch_model.specs.Set.{Set}
use Rattle.arch_model.specs.Parts.{LibraryParts}
use Rattle.rows.specs.declared.row.Term.{Term}

-- a row says that the sum of its terms is at least `least`
pub record RowParts : Type 0 where
  pub terms : List Term
  pub least : ℤ

-- the row of a cut: coefficients 1 at the variables in `plus`, -1 at those in `minus`, and a least
pub record CutParts : Type 0 where
  pub plus : Set
  pub minus : Set
  pub least : ℤ

-- a cube, a finite map from variables to values: the fixed variables, and those of them that are fixed to 1
pub record CubeParts : Type 0 where
  pub fixed : Set
  pub ones : Set

-- a list of cuts, and how many more it takes without memory
pub record CutListParts : Type 0 where
  pub cuts : List CutParts
  pub spare : ℕ

-- a 0-1 program: a library and its base rows
pub record ProblemParts : Type 0 where
  pub library : LibraryParts
  pub base : List RowParts

-- what a node of the search knows: the program, the cuts numbered below `upto`, and that the cost is below a bound, in cost units
pub record KnownParts : Type 0 where
  pub problem : ProblemParts
  pub cuts : List CutParts
  pub upto : ℕ
  pub bound : Option ℕ
