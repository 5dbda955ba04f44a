-- Names of sinks: where the one component of a name isn't a sink, no sink has the name.
use Rattle.std.proofs.Common.{◌≡◌, ℕ, ◌<◌, List, length, get_or, Option, Some, None, refl, sym, ap, subst, ◌∙◌}
use Rattle.std.specs.Prelude.{slice_get}
use Rattle.std.specs.Option.{IsSomeAnd}
use Rattle.std.proofs.lemmas.Option.{slice_get_within, get_or_from_slice_get}
use Rattle.arch_model.specs.declared.template.Component.{Component}
use Rattle.arch_model.specs.declared.template.Role.TheVariants.{Sink}
use Rattle.arch_model.specs.Parts.{LibraryParts}
use Rattle.arch_model.specs.Library.{IsLibrary}
use Rattle.template.specs.Names.{component_name}
use Rattle.template.proofs.Distinct.{names_differ}
use Rattle.archex_app.specs.Mass.{IsSinkNamed}

sink_at : (lib : LibraryParts) (c : ℕ) (d : Component) → IsSomeAnd (slice_get lib.components c) (λ row. row.role ≡ Sink) → (c < length lib.components) × ((get_or lib.components c d).role ≡ Sink)
sink_at lib c d is = at (slice_get lib.components c) refl is
  where
    at : (o : Option Component) → slice_get lib.components c ≡ o → IsSomeAnd o (λ row. row.role ≡ Sink) → (c < length lib.components) × ((get_or lib.components c d).role ≡ Sink)
    at None e none = absurd none
    at (Some row) e role = (slice_get_within lib.components c row e, ap (λ (r : Component). r.role) (get_or_from_slice_get lib.components c row d e) ∙ role)

pub no_sink : (lib : LibraryParts) (components : List Component) → components ≡ lib.components → IsLibrary lib → (name : List ℕ) (c : ℕ) (d : Component) → c < length lib.components → component_name lib c ≡ name → ((get_or components c d).role ≡ Sink → ⊥) → (other : ℕ) → IsSinkNamed lib name other → ⊥
no_sink lib components rows is name c d within named differs other sink =
    let at = sink_at lib other d sink.0 in
    let same : other ≡ c = names_differ lib is other c at.0 within (sink.1 ∙ sym named) in
    let P : ℕ → Type 0 = λ k. (get_or lib.components k d).role ≡ Sink in
    differs (ap (λ (rows : List Component). (get_or rows c d).role) rows ∙ subst P same at.1)
