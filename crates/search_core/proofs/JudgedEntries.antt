-- Judging an entry is judging one of its kind.
use Rattle.std.proofs.Common.{◌≡◌, ℕ, List, Result, Ok, Err, sym, subst}
use Rattle.std.specs.Prelude.{OnOk, IfOk, IfErr}
use Rattle.rows.specs.Parts.{ProblemParts}
use Rattle.search_core.specs.declared.rule.Rule.{Rule}
use Rattle.search_core.specs.declared.entry.Entry.{Entry}
use Rattle.search_core.specs.declared.change.Change.{Change}
use Rattle.search_core.specs.State.{SearchState}
use Rattle.search_core.specs.Inner.Change.{changed}
use Rattle.search_core.specs.Step.{HasWorker, Case, Step}
use Rattle.search_core.specs.Rules.{FirstBroken, HasWeights}

module _ (problem : ProblemParts) (old : SearchState) (entry kind : Entry) (is : entry ≡ kind) where
  -- an entry that may stand here
  pub fits_as : (res : Result Change Rule) → OnOk res (HasWorker kind) → IfOk res (λ change. Case problem old kind (changed old change)) → IfOk res (λ change. Step problem old entry (changed old change))
  fits_as (Ok change) worker fits =
      let P : Entry → Type 0 = λ e. Step problem old e (changed old change) in
      subst P (sym is) (record { worker = worker; fits = fits })
  fits_as (Err rule) worker fits = tt

  -- and one that may not
  pub broken_as : {X : Type 0} (res : Result X Rule) → IfErr res (λ rule. FirstBroken problem old kind rule) → IfErr res (λ rule. FirstBroken problem old entry rule)
  broken_as (Ok x) h = tt
  broken_as (Err rule) h = let P : Entry → Type 0 = λ e. FirstBroken problem old e rule in subst P (sym is) h

  -- the weights that come with it
  pub weights_as : (weights : List ℕ) → HasWeights problem old entry weights → HasWeights problem old kind weights
  weights_as weights h = let P : Entry → Type 0 = λ e. HasWeights problem old e weights in subst P is h

pub always : {X : Type 0} (res : Result X Rule) → OnOk res (Unit {0})
always (Ok x) = tt
always (Err rule) = tt
