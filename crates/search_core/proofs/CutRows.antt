-- The rows of right cuts.
use Rattle.std.proofs.Common.{refl}
use Rattle.arch_model.specs.Parts.{LibraryParts, ArchitectureParts}
use Rattle.arch_model.specs.Library.{IsLibrary}
use Rattle.arch_model.specs.Architecture.{IsArchitecture}
use Rattle.arch_model.specs.Member.{is_present, member_count}
use Rattle.rows.specs.Cut.{IsCut}
use Rattle.rows.specs.Known.{IsCutBelow}
use Rattle.redundancy_cut.specs.declared.cut.Cut.{Cut}
use Rattle.redundancy_cut.specs.RightCut.{IsRightCut}
use Rattle.redundancy_cut.specs.CutRow.{cut_row_of}
use Rattle.redundancy_cut.proofs.RightCutsHold.{right_cuts_hold}
use Rattle.redundancy_cut.proofs.RowRanges.{cut_is_row, cut_below}
use Rattle.search_core.specs.Invariant.{HoldsInAll}

-- the rows of right cuts are cuts over the library's variables that hold in every admissible architecture
pub record RightCutsHold (lib : LibraryParts) : Type 0 where
  pub cut : (cut : Cut) (of : ArchitectureParts) → IsArchitecture lib of → IsRightCut lib cut of → IsCut (cut_row_of lib cut of)
  pub below : (cut : Cut) (of : ArchitectureParts) → IsArchitecture lib of → IsRightCut lib cut of → IsCutBelow (member_count lib) (cut_row_of lib cut of)
  pub hold : (cut : Cut) (of : ArchitectureParts) → IsArchitecture lib of → IsRightCut lib cut of → HoldsInAll lib (cut_row_of lib cut of)

pub right_cuts : (lib : LibraryParts) → IsLibrary lib → RightCutsHold lib
right_cuts lib right = record {
  cut = λ cut of fits is. cut_is_row lib right cut of;
  below = λ cut of fits is. cut_below lib cut of;
  hold = λ cut of fits is arch can. right_cuts_hold lib right of fits cut is arch can (is_present lib arch) (λ v short. refl);
}
