-- The row of every right cut holds in every admissible architecture.
use Rattle.std.proofs.Common.{◌≡◌, ℕ, ◌≤◌, Bool, List, Option, Some, None, refl, subst}
use Rattle.std.specs.Prelude.{slice_get, IsSomeAnd}
use Rattle.std.specs.List.{All}
use Rattle.std.proofs.lemmas.Option.{slice_get_within, get_or_from_slice_get}
use Rattle.arch_model.specs.Parts.{LibraryParts, ArchitectureParts}
use Rattle.arch_model.specs.Library.{IsLibrary}
use Rattle.arch_model.specs.Architecture.{IsArchitecture}
use Rattle.arch_model.specs.Admissible.{IsAdmissible}
use Rattle.arch_model.specs.Weight.{weight_of}
use Rattle.arch_model.specs.declared.library.Requirement.{Requirement}
use Rattle.rows.specs.Row.{RowHolds, row_of_cut}
use Rattle.rows.specs.Problem.{IsVectorOf}
use Rattle.redundancy_cut.specs.declared.cut.Cut.{Cut}
use Rattle.redundancy_cut.specs.declared.cut.Cut.TheVariants.{Redundancy, NoGood}
use Rattle.redundancy_cut.specs.RightCut.{IsRightCut}
use Rattle.redundancy_cut.specs.CutRow.{cut_row_of}
use Rattle.redundancy_cut.proofs.EdgeLaws.{closed_at}
use Rattle.redundancy_cut.proofs.RedundancyHolds.{redundancy_holds}
use Rattle.redundancy_cut.proofs.NoGoodHolds.{no_good_holds}

-- what is said of an item that is there
pub some_and : {X : Type 0} (o : Option X) (P : X → Type 0) → IsSomeAnd o P → (x : X) × (o ≡ Some x) × P x
some_and None P h = absurd h
some_and (Some x) P h = (x, refl, h)

-- what holds of all items holds of each
pub all_at : {X : Type 0} (P : X → Type 0) (xs : List X) → All P xs → (i : ℕ) (x : X) → slice_get xs i ≡ Some x → P x
all_at P xs all i x is = subst P (get_or_from_slice_get xs i x x is) (all i x (slice_get_within xs i x is))

pub right_cuts_hold : (lib : LibraryParts) → IsLibrary lib → (of : ArchitectureParts) → IsArchitecture lib of → (cut : Cut) → IsRightCut lib cut of
    → (arch : ArchitectureParts) → IsAdmissible lib arch → (x : ℕ → Bool) → IsVectorOf lib arch x → RowHolds (row_of_cut (cut_row_of lib cut of)) x
right_cuts_hold lib right of fits (Redundancy q set far) is arch good x vector =
    let r = some_and (slice_get lib.requirements q) _ is in
    redundancy_holds lib right arch good.meets.architecture set far r.0.sink.0 r.0.bound r.2.members r.2.sink r.2.heavy (all_at (λ (r : Requirement). weight_of lib arch r.sink.0 ≤ r.bound) lib.requirements good.weights q r.0 r.1) x vector
right_cuts_hold lib right of fits (NoGood q cone) is arch good x vector =
    let r = some_and (slice_get lib.requirements q) _ is in
    no_good_holds lib right of arch fits good.meets.architecture cone r.0.sink.0 r.0.bound r.2.sink (closed_at lib of cone r.2.closed) r.2.heavy (all_at (λ (r : Requirement). weight_of lib arch r.sink.0 ≤ r.bound) lib.requirements good.weights q r.0 r.1) x vector
