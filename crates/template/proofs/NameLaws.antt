-- The names of components.
use Rattle.std.proofs.Common.{◌≡◌, ℕ, ◌+◌, ◌<◌, ◌≤◌, List, [], ◌∷◌, ◌++◌, length, get_or, sym, ap, subst, ◌∙◌, arith}
use Rattle.std.specs.Fmt.{decimal}
use Rattle.std.specs.List.{All, AllByRecursion, flat_map, enumerate_from, range_with_len}
use Rattle.std.specs.Option.{option_map_or}
use Rattle.std.proofs.lemmas.Option.{slice_get-get_or}
use Rattle.std.proofs.lemmas.List.{append_assoc}
use Rattle.std.proofs.lemmas.List.Elements.{All-nil, All-append, All-map, recursion_from_All}
use Rattle.std.proofs.lemmas.List.FromFn.{get_or-range_with_len, length-range_with_len}
use Rattle.arch_model.specs.declared.template.Component.{Component}
use Rattle.arch_model.specs.declared.library.TypeRow.{TypeRow}
use Rattle.arch_model.specs.Parts.{LibraryParts}
use Rattle.arch_model.specs.Library.{IsLibrary, IsTypeRow}
use Rattle.arch_model.specs.Template.{instances_of_type}
use Rattle.arch_model.proofs.Ranges.{blank_component}
use Rattle.template.specs.Names.{instance_name, type_name, component_name}

abbrev pub instance_at : ℕ → TypeRow → ℕ → Component
instance_at t row i = record { of = t; index = i; role = row.role; cost = row.cost; supply = row.supply; demand = row.demand; fail = row.fail }

-- a fact of each instance of each type
made_all : (Q : Component → Type 0) (n k : ℕ) (types : List TypeRow) → ((t i : ℕ) (row : TypeRow) → t < k → 1 ≤ i → i ≤ row.max → IsTypeRow row → Q (instance_at t row i))
    → n + length types ≤ k → AllByRecursion IsTypeRow types → All Q (flat_map (λ (p : ℕ × TypeRow). instances_of_type p.0 p.1) (enumerate_from n types))
made_all Q n k [] each short h = All-nil Q
made_all Q n k (row ∷ types) each short h =
    All-append Q (instances_of_type n row) _
    (All-map Q (instance_at n row) (range_with_len 1 row.max)
    (λ j d within.
    let low : j < row.max = omega (arith, within, length-range_with_len 1 row.max) in
    let P : ℕ → Type 0 = λ i. Q (instance_at n row i) in
    subst P (sym (get_or-range_with_len 1 row.max j d low)) (each n (1 + j) row (omega arith) (omega arith) (omega arith) h.0)))
    (made_all Q (n + 1) k types each (omega arith) h.1)

-- a component's type is one of the library's, and its index one of the type's
pub component_numbers : (lib : LibraryParts) → IsLibrary lib → All (λ c. (c.of < length lib.types) × (1 ≤ c.index) × (c.index ≤ 64)) lib.components
component_numbers lib h =
    subst (All (λ c. (c.of < length lib.types) × (1 ≤ c.index) × (c.index ≤ 64))) (sym h.components)
    (made_all (λ c. (c.of < length lib.types) × (1 ≤ c.index) × (c.index ≤ 64)) 0 (length lib.types) lib.types
    (λ t i row low some few is. (low, some, omega (arith, is.few))) (omega arith) (recursion_from_All IsTypeRow lib.types h.types))

-- a name by its parts
pub component_name_at : (lib : LibraryParts) (c : ℕ) (d : Component) (e : TypeRow) → c < length lib.components → (get_or lib.components c d).of < length lib.types
    → component_name lib c ≡ (get_or lib.types (get_or lib.components c d).of e).name ++ 46 ∷ decimal (get_or lib.components c d).index
component_name_at lib c d e short typed =
    ap (λ o. option_map_or (λ (row : Component). type_name lib row.of ++ 46 ∷ [] ++ decimal row.index) o []) (slice_get-get_or lib.components c d short)
    ∙ ap (λ o. option_map_or (λ (row : TypeRow). row.name) o [] ++ 46 ∷ [] ++ decimal (get_or lib.components c d).index) (slice_get-get_or lib.types (get_or lib.components c d).of e typed)
    ∙ append_assoc (get_or lib.types (get_or lib.components c d).of e).name (46 ∷ []) (decimal (get_or lib.components c d).index)

-- what is written of a component's row and its type's
pub written_name : (lib : LibraryParts) (components : List Component) (types : List TypeRow) (c : ℕ) (row : TypeRow) (text : List ℕ) → IsLibrary lib → c < length lib.components
    → components ≡ lib.components → types ≡ lib.types → row ≡ get_or types (get_or components c blank_component).of row → text ≡ row.name
    → instance_name text (get_or components c blank_component).index ≡ component_name lib c
written_name lib components types c row text is short same_components same_types read named =
    append_assoc text (46 ∷ []) (decimal (get_or components c blank_component).index)
    ∙ ap (λ t. t ++ 46 ∷ decimal (get_or components c blank_component).index) (named ∙ ap (λ (r : TypeRow). r.name) read)
    ∙ ap (λ (ts : List TypeRow). (get_or ts (get_or components c blank_component).of row).name ++ 46 ∷ decimal (get_or components c blank_component).index) same_types
    ∙ ap (λ (cs : List Component). (get_or lib.types (get_or cs c blank_component).of row).name ++ 46 ∷ decimal (get_or cs c blank_component).index) same_components
    ∙ sym (component_name_at lib c blank_component row short (component_numbers lib is c blank_component short).0)
