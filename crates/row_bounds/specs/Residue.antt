-- What contracts see of an ascent.
use Rattle.std.specs.Prelude.{ℕ, List}
use Rattle.rows.specs.declared.known.Pair.{Pair}

-- an ascent: its pairs, and what it leaves of each variable's cost, by number and in cost units
pub record AscentParts : Type 0 where
  pub pairs : List Pair
  pub residues : List ℕ
