-- Diligent entries are steps, and go on with further ones.
use Rattle.std.proofs.Common.{◌≡◌, ℕ, List, [], ◌∷◌, ◌++◌, refl, subst}
use Rattle.rows.specs.Parts.{ProblemParts}
use Rattle.search_core.specs.declared.entry.Entry.{Entry}
use Rattle.search_core.specs.State.{SearchState}
use Rattle.search_core.specs.History.{Steps}
use Rattle.search_core.specs.Diligent.{IsDiligent}
use Rattle.search_core.proofs.Determined.{step_is_determined}

pub diligent_steps : (problem : ProblemParts) (analysts : ℕ) (old : SearchState) (entries : List Entry) → IsDiligent problem analysts old entries → (new : SearchState) × Steps problem old entries new
diligent_steps problem analysts old [] d = (old, refl)
diligent_steps problem analysts old (entry ∷ entries) d =
    let rest = diligent_steps problem analysts d.1.0 entries d.1.2 in (rest.0, (d.1.0, d.1.1, rest.1))

pub diligent_join : (problem : ProblemParts) (analysts : ℕ) (first rest : List Entry) (old mid : SearchState) → IsDiligent problem analysts old first → Steps problem old first mid → IsDiligent problem analysts mid rest
    → IsDiligent problem analysts old (first ++ rest)
diligent_join problem analysts [] rest old mid d steps later = let P : SearchState → Type 0 = λ s. IsDiligent problem analysts s rest in subst P steps later
diligent_join problem analysts (entry ∷ first) rest old mid d steps later =
    let same : steps.0 ≡ d.1.0 = step_is_determined problem old steps.0 d.1.0 entry steps.1 d.1.1 in
    let P : SearchState → Type 0 = λ s. Steps problem s first mid in
    (d.0, (d.1.0, d.1.1, diligent_join problem analysts first rest d.1.0 mid d.1.2 (subst P same steps.2) later))

pub diligent_part : (problem : ProblemParts) (analysts : ℕ) (first rest : List Entry) (old : SearchState) → IsDiligent problem analysts old (first ++ rest)
    → IsDiligent problem analysts old first × ((mid : SearchState) × Steps problem old first mid × IsDiligent problem analysts mid rest)
diligent_part problem analysts [] rest old d = (tt, (old, refl, d))
diligent_part problem analysts (entry ∷ first) rest old d =
    let later = diligent_part problem analysts first rest d.1.0 d.1.2 in
    ((d.0, (d.1.0, d.1.1, later.0)), (later.1.0, (d.1.0, d.1.1, later.1.1), later.1.2))
