-- What a yes of the checker says of a library, whoever wrote the log.
use Rattle.std.specs.Prelude.{◌≡◌, ℕ, ◌≤◌, List, [], ◌∷◌}
use Rattle.arch_model.specs.Parts.{LibraryParts, ArchitectureParts}
use Rattle.arch_model.specs.Architecture.{cost_of}
use Rattle.arch_model.specs.Admissible.{IsAdmissible}
use Rattle.search_core.specs.declared.entry.Entry.{Entry}
use Rattle.search_core.specs.declared.entry.Entry.TheVariants.{Take, Branch, Prune, Offer, Study, Publish, Accept, Park, Reopen}

-- some admissible architecture has this cost, in cost units
pub record IsCostOfOne (lib : LibraryParts) (cost : ℕ) : Type 0 where
  pub architecture : ArchitectureParts
  pub admissible : IsAdmissible lib architecture
  pub costs : cost_of lib architecture ≡ cost

-- some admissible architecture has this cost, in cost units, and none costs less
pub record IsLeastCost (lib : LibraryParts) (cost : ℕ) : Type 0 where
  pub one : IsCostOfOne lib cost
  pub none_less : (arch : ArchitectureParts) → IsAdmissible lib arch → cost ≤ cost_of lib arch

-- the limit that holds after an entry
abbrev pub limit_after : ℕ → Entry → ℕ
limit_after limit (Take worker node cuts bound) = limit
limit_after limit (Branch worker node trace var) = limit
limit_after limit (Prune worker node trace reason) = limit
limit_after limit (Offer worker node trace) = limit
limit_after limit (Study worker node) = limit
limit_after limit (Publish worker node cut) = limit
limit_after limit (Accept worker node cost) = limit
limit_after limit (Park worker node) = limit
limit_after limit (Reopen new) = new

-- the last limit that a log states: its third line's, or that of its last Reopen
abbrev pub last_limit : ℕ → List Entry → ℕ
last_limit limit [] = limit
last_limit limit (entry ∷ entries) = last_limit (limit_after limit entry) entries
