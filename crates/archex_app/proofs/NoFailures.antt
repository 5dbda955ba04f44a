-- A library that bytes hold has no edge that fails, since the rows of its links say of none that it does.
use Rattle.std.proofs.Common.{◌≡◌, ℕ, Bool, true, false, List, [], ◌∷◌, map, length, codes, None, Some, Result, Ok, Err, if◌then◌else◌, nat_lt, refl, subst}
use Rattle.std.specs.List.{AllByRecursion}
use Rattle.std.proofs.lemmas.List.Elements.{All-from_recursion}
use Rattle.arch_model.specs.declared.library.LinkRow.{LinkRow}
use Rattle.arch_model.specs.Parts.{LibraryParts}
use Rattle.lib_read.specs.declared.fault.LibFault.{LibFault}
use Rattle.lib_read.specs.declared.fault.LibClass.TheVariants.{TooLarge}
use Rattle.lib_read.specs.declared.fault.TableName.TheVariants.{Library, Links}
use Rattle.lib_read.specs.Fault.{least}
use Rattle.lib_read.specs.Tree.{tree_of, rows_of}
use Rattle.lib_read.specs.Faults.{fault, faults_of}
use Rattle.lib_read.specs.Rows.{link_row, type_names, links_of, library_of_tree}
use Rattle.lib_read.specs.LibraryOf.{judged, of_tree, library_of}
use Rattle.proof_log.specs.Log.{NoEdgeFails}
use Rattle.proof_log.proofs.EdgeFailures.{template_never_fails}

each_never_fails : {A : Type 0} (row : A → LinkRow) → ((x : A) → (row x).fail ≡ 0) → (xs : List A) → AllByRecursion (λ link. link.fail ≡ 0) (map row xs)
each_never_fails row never [] = tt
each_never_fails row never (x ∷ xs) = (never x, each_never_fails row never xs)

not_too_large : (large : Bool) (f : LibFault) (read : Result LibraryParts LibFault) (lib : LibraryParts) → (if large then Err f else read) ≡ Ok lib → read ≡ Ok lib
not_too_large true f read lib same = absurd cc
not_too_large false f read lib same = same

pub no_failures : (bytes : List ℕ) (lib : LibraryParts) → library_of bytes ≡ Ok lib → NoEdgeFails lib
unfolding library_of
no_failures bytes lib read =
    elim (tree_of bytes) as (λ tree. of_tree tree ≡ Ok lib → NoEdgeFails lib) [
      | None ↦ λ e. absurd cc
      | Some top ↦ elim (least (faults_of top)) as (λ first. judged top first ≡ Ok lib → NoEdgeFails lib) [
        | None ↦ λ e.
            let same : library_of_tree top ≡ lib = cc in
            let links = each_never_fails (link_row (type_names top)) (λ x. refl) (rows_of Links top) in
            subst NoEdgeFails same (template_never_fails (library_of_tree top) refl (All-from_recursion (λ (link : LinkRow). link.fail ≡ 0) (links_of top) links))
        | Some f ↦ λ e. absurd cc
      ]
    ] (not_too_large (nat_lt 1048576 (length bytes)) (fault TooLarge Library 0 (codes "-")) (of_tree (tree_of bytes)) lib read)
