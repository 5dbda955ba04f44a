-- A required sink is a component of role sink.
use Rattle.std.proofs.Common.{◌≡◌, codes, ℕ, ◌+◌, ◌<◌, Bool, true, false, cond, ◌||◌, not, List, [], ◌∷◌, ◌++◌, map, length, get_or, Option, Some, None, unwrap_or, refl, sym, ap, subst, ◌∙◌, arith, lt-ltb, inl, inr}
use Rattle.std.specs.Option.{option_map_or, option_and_then, IsSomeAnd}
use Rattle.std.specs.List.{list_any, position, prefix_len, flat_map, find, enumerate_from, range_with_len, slice_get}
use Rattle.std.specs.Str.{bytes_eq}
use Rattle.std.specs.Cmp.Lexicographic.{bytes_decides}
use Rattle.std.proofs.lemmas.Bool.{cases_Bool}
use Rattle.std.proofs.lemmas.List.{length-map, get_or_append_left, get_or-append-add}
use Rattle.std.proofs.lemmas.List.FromFn.{get_or-map-range_with_len, length-range_with_len}
use Rattle.std.proofs.lemmas.Option.{slice_get-get_or}
use Rattle.toml.specs.Data.{Data}
use Rattle.arch_model.specs.declared.template.Component.{Component}
use Rattle.arch_model.specs.declared.template.Role.TheVariants.{Middle, Sink}
use Rattle.arch_model.specs.declared.library.TypeRow.{TypeRow}
use Rattle.arch_model.specs.Template.{components_of, instance_of_type, instances_of_type}
use Rattle.arch_model.proofs.Ranges.{blank_component}
use Rattle.template.specs.Names.{instance_name}
use Rattle.lib_read.specs.declared.fault.TableName.TheVariants.{Types}
use Rattle.lib_read.specs.Tree.{text_at, rows_of}
use Rattle.lib_read.specs.Components.{instance_names, component_names}
use Rattle.lib_read.specs.Schema.{is_named, is_sink_type, type_of_component, role_of}
use Rattle.lib_read.specs.Rows.{type_row, types_of, requirement_row}
use Rattle.lib_read.proofs.CleanRows.{CleanRequirement, found_below}
use Rattle.lib_read.proofs.ComponentLemmas.{owns}

-- the place of the first name that passes, among some names and more
place_in : (p : List ℕ → Bool) (xs ys : List (List ℕ)) → list_any p xs ≡ true → prefix_len (λ x. not (p x)) (xs ++ ys) ≡ prefix_len (λ x. not (p x)) xs
place_in p [] ys h = absurd (cc)
place_in p (x ∷ xs) ys h = chosen (p x) h (place_in p xs ys)
  where
    chosen : (b : Bool) → (b || list_any p xs) ≡ true → (list_any p xs ≡ true → prefix_len (λ y. not (p y)) (xs ++ ys) ≡ prefix_len (λ y. not (p y)) xs)
        → cond (not b) (1 + prefix_len (λ y. not (p y)) (xs ++ ys)) 0 ≡ cond (not b) (1 + prefix_len (λ y. not (p y)) xs) 0
    chosen true some rest = refl
    chosen false some rest = ap (λ n. 1 + n) (rest some)

place_past : (p : List ℕ → Bool) (xs ys : List (List ℕ)) → list_any p xs ≡ false → prefix_len (λ x. not (p x)) (xs ++ ys) ≡ length xs + prefix_len (λ x. not (p x)) ys
place_past p [] ys h = omega arith
place_past p (x ∷ xs) ys h = chosen (p x) h (place_past p xs ys)
  where
    chosen : (b : Bool) → (b || list_any p xs) ≡ false → (list_any p xs ≡ false → prefix_len (λ y. not (p y)) (xs ++ ys) ≡ length xs + prefix_len (λ y. not (p y)) ys)
        → cond (not b) (1 + prefix_len (λ y. not (p y)) (xs ++ ys)) 0 ≡ length (x ∷ xs) + prefix_len (λ y. not (p y)) ys
    chosen true none rest = absurd (cc)
    chosen false none rest = omega (arith, rest none)

-- the instances of a type have its role
role_of_instance : (t : ℕ) (row : TypeRow) (i : ℕ) (d : Component) → i < row.max → (get_or (instances_of_type t row) i d).role ≡ row.role
role_of_instance t row i d here = ap (λ c. c.role) (get_or-map-range_with_len (instance_of_type t row) 1 row.max i (1 + i) d here refl)

-- a look-up finds the first row that passes, or one of the rest
first_found : (b : Bool) (r row : Data) (rest : Option Data) → b ≡ true → cond b (Some r) rest ≡ Some row → r ≡ row
first_found true r row rest is e = cc
first_found false r row rest is e = absurd (cc)

later_found : (b : Bool) (r row : Data) (rest : Option Data) → b ≡ false → cond b (Some r) rest ≡ Some row → rest ≡ Some row
later_found true r row rest is e = absurd (cc)
later_found false r row rest is e = e

-- the place of a name among the names of the instances of some types
abbrev place_of : List ℕ → List Data → ℕ
place_of text rs = prefix_len (λ x. not (bytes_eq text x)) (flat_map instance_names rs)

-- the component at the place of a name has the role of the first type that has an instance of that name
role_there : (text : List ℕ) (k : ℕ) (rs : List Data) (row : Data) (d : Component) → find (owns text) rs ≡ Some row
    → (get_or (flat_map (λ p. instances_of_type p.0 p.1) (enumerate_from k (map type_row rs))) (place_of text rs) d).role ≡ (type_row row).role
role_there text k [] row d e = absurd (cc)
role_there text k (r ∷ rs) row d e =
    let here = instances_of_type k (type_row r) in
    let later = flat_map (λ p. instances_of_type p.0 p.1) (enumerate_from (k + 1) (map type_row rs)) in
    let names = length-map (range_with_len 1 (type_row r).max) (instance_name (type_row r).name) in
    let many = length-map (range_with_len 1 (type_row r).max) (instance_of_type k (type_row r)) in
    let all = length-range_with_len 1 (type_row r).max in
    elim (cases_Bool (owns text r)) [
      | inl own ↦
          let i = prefix_len (λ x. not (bytes_eq text x)) (instance_names r) in
          let below = (found_below (bytes_eq text) (instance_names r) own).0 in
          ap (λ n. (get_or (here ++ later) n d).role) (place_in (bytes_eq text) (instance_names r) (flat_map instance_names rs) own)
          ∙ ap (λ c. c.role) (get_or_append_left here later d i (omega (arith, below, names, many)))
          ∙ role_of_instance k (type_row r) i d (omega (arith, below, names, all))
          ∙ ap (λ t. (type_row t).role) (first_found (owns text r) r row (find (owns text) rs) own e)
      | inr other ↦
          let same : length (instance_names r) ≡ length here = omega (arith, names, many) in
          ap (λ n. (get_or (here ++ later) n d).role) (place_past (bytes_eq text) (instance_names r) (flat_map instance_names rs) other ∙ ap (λ n. n + place_of text rs) same)
          ∙ ap (λ c. c.role) (get_or-append-add here later (place_of text rs) d)
          ∙ role_there text (k + 1) rs row d (later_found (owns text r) r row (find (owns text) rs) other e)
    ]

-- the number of a name that is there is its place
placed : (names : List (List ℕ)) (s : List ℕ) (o : Option (List ℕ)) → Some s ≡ o → is_named names s ≡ true
    → unwrap_or (option_and_then (λ text. position (bytes_eq text) names) o) 0 ≡ prefix_len (λ x. not (bytes_eq s x)) names
placed names s None is known = absurd (cc)
placed names s (Some text) is known =
    let same : s ≡ text = cc in
    let found = found_below (bytes_eq text) names (ap (λ t. is_named names t) (sym same) ∙ known) in
    rw (lt-ltb (prefix_len (λ x. not (bytes_eq text x)) names) (length names) found.0) (ap (λ t. prefix_len (λ x. not (bytes_eq t x)) names) (sym same))

sink_found : (o : Option Data) → option_map_or is_sink_type o false ≡ true → (row : Data) × (o ≡ Some row) × (is_sink_type row ≡ true)
sink_found None h = absurd (cc)
sink_found (Some row) h = (row, refl, h)

sink_role : (o : Option (List ℕ)) → option_map_or (bytes_eq (codes "sink")) o false ≡ true → unwrap_or (option_and_then role_of o) Middle ≡ Sink
sink_role None h = absurd (cc)
sink_role (Some text) h = ap (λ t. unwrap_or (role_of t) Middle) (sym ((bytes_decides (codes "sink") text).0 h))

-- the sink of a requirement without a fault
pub sink_fits : (top row : Data) → CleanRequirement top row → length (component_names top) ≡ length (components_of (types_of top))
    → IsSomeAnd (slice_get (components_of (types_of top)) (requirement_row (component_names top) row).sink.0) (λ c. c.role ≡ Sink)
sink_fits top row r many =
    let components = components_of (types_of top) in
    let place = place_of r.name (rows_of Types top) in
    let found = sink_found (type_of_component top r.name) r.sink in
    let below = (found_below (bytes_eq r.name) (component_names top) r.known).0 in
    subst (λ n. IsSomeAnd (slice_get components n) (λ c. c.role ≡ Sink)) (sym (placed (component_names top) r.name (text_at (codes "sink") row) r.there r.known))
    (subst (λ o. IsSomeAnd o (λ c. c.role ≡ Sink)) (sym (slice_get-get_or components place blank_component (omega (arith, below, many))))
    (role_there r.name 0 (rows_of Types top) found.0 blank_component found.1 ∙ sink_role (text_at (codes "role") found.0) found.2))
