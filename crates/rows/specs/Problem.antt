-- When rows decide a library's patterns.
use Rattle.std.specs.Prelude.{◌≡◌, ◌↔◌, ℕ, ◌<◌, ◌^◌, Bool, List, length, IsTrue}
use Rattle.std.specs.List.{All}
use Rattle.arch_model.specs.Set.{has}
use Rattle.arch_model.specs.Parts.{LibraryParts, ArchitectureParts}
use Rattle.arch_model.specs.Admissible.{MeetsPatterns}
use Rattle.arch_model.specs.Member.{is_present, member_count}
use Rattle.rows.specs.Parts.{RowParts, ProblemParts}
use Rattle.rows.specs.Row.{RowHolds, IsRow, IsRowBelow}

-- a vector is that of an architecture where it says which members are present
abbrev pub IsVectorOf : LibraryParts → ArchitectureParts → (ℕ → Bool) → Type 0
IsVectorOf lib arch x = (v : ℕ) → v < member_count lib → x v ≡ is_present lib arch v

-- an architecture that meets every pattern and has every required sink
pub record IsCandidate (lib : LibraryParts) (arch : ArchitectureParts) : Type 0 where
  pub meets : MeetsPatterns lib arch
  pub sinks : All (λ r. IsTrue (has arch.comps r.sink.0)) lib.requirements

-- fewer than 2^32 rows over the library's variables; a vector meets all of them exactly where it is that of a candidate
pub record DecidePatterns (lib : LibraryParts) (rows : List RowParts) : Type 0 where
  pub few : length rows < 2 ^ 32
  pub variables : All (IsRowBelow (member_count lib)) rows
  pub exact : (x : ℕ → Bool) → All (λ row. RowHolds row x) rows ↔ ((arch : ArchitectureParts) × IsVectorOf lib arch x × IsCandidate lib arch)

-- a problem: its rows are rows, and decide its library's patterns
pub record IsProblem (problem : ProblemParts) : Type 0 where
  pub rows : All IsRow problem.base
  pub decide : DecidePatterns problem.library problem.base

-- the problem of a library and rows
abbrev pub problem_parts : LibraryParts → List RowParts → ProblemParts
problem_parts library base = record { library = library; base = base }
