-- What contracts see of a history as the code has it.
use Rattle.std.specs.Prelude.{ℕ, List}
use Rattle.search_core.specs.declared.entry.Entry.{Entry}

-- a list of entries, and how many more it takes without memory
pub record HistoryParts : Type 0 where
  pub entries : List Entry
  pub spare : ℕ
