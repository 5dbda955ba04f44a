-- A generated document has no fault, and is the generated library.
use Rattle.std.proofs.Common.{◌≡◌, ℕ, suc, ◌+◌, ◌*◌, ◌/◌, ◌%◌, ◌<◌, ◌≤◌, Bool, true, false, ◌==◌, cond, List, [], ◌∷◌, ◌++◌, map, length, unwrap_or, position, codes, decimal, refl, sym, ap, ◌∙◌, inl, inr, arith}
use Rattle.std.proofs.lemmas.List.{length-map}
use Rattle.std.proofs.lemmas.Bool.{cases_eq, le-ltb}
use Rattle.std.specs.List.{flat_map, find, filter_map, AllByRecursion}
use Rattle.std.specs.Option.{option_map_or}
use Rattle.std.specs.Str.{bytes_eq}
use Rattle.toml.specs.Data.{Data}
use Rattle.arch_model.specs.Template.{components_of, edges_of, template_of}
use Rattle.arch_model.specs.Library.{library_parts}
use Rattle.toml.specs.Tables.{Nodes}
use Rattle.lib_read.specs.declared.fault.TableName.TheVariants.{Types, Requires}
use Rattle.lib_read.specs.Tree.{rows_of, text_at}
use Rattle.lib_read.specs.Components.{instance_names, component_names}
use Rattle.lib_read.specs.Schema.{is_named, is_sink_type}
use Rattle.lib_read.specs.Rows.{type_names, types_of, type_row, links_of, link_row, requirements_of, requirement_row, library_of_tree}
use Rattle.lib_read.specs.Faults.{limit_faults, judged_faults, faults_of}
use Rattle.generate.specs.declared.group.Group.{Group}
use Rattle.generate.specs.Generated.{group_of, groups_from}
use Rattle.generated.specs.GeneratedLibrary.{source_name, sink_name, types_of_group, link_of_group, requirement_of_group, library_of_groups}
use Rattle.generated.proofs.GroupLines.{IsGroup, required_name}
use Rattle.generated.proofs.Documents.{data_of, link_nodes, requirement_nodes, type_tables, link_tables, requirement_tables}
use Rattle.generated.proofs.Rows.{document_of, types_rows, links_rows, requires_rows}
use Rattle.generated.proofs.Names.{names_of, group_components, component_names_of, source_place, sink_place, component_place, is_there, other_required, same_required}
use Rattle.generated.proofs.Quiet.{IsNamed, plain_quiet, unknown_names_quiet, ranges_quiet}
use Rattle.generated.proofs.Repeats.{names_differ, links_differ}
use Rattle.generated.proofs.Components.{length-components, length-edges}

-- ---- what the document says

names_are : (gs : List Group) → filter_map (text_at (codes "name")) (type_tables gs) ≡ names_of gs
names_are [] = refl
names_are (g ∷ gs) = ap (λ ns. source_name g ∷ sink_name g ∷ ns) (names_are gs)

pub type_names_are : (gs : List Group) → type_names (document_of gs) ≡ names_of gs
type_names_are gs = ap (filter_map (text_at (codes "name"))) (types_rows gs) ∙ names_are gs

instances_are : (gs : List Group) → flat_map instance_names (type_tables gs) ≡ component_names_of gs
instances_are [] = refl
instances_are (g ∷ gs) = ap (λ ns. group_components g ++ ns) (instances_are gs)

pub component_names_are : (gs : List Group) → component_names (document_of gs) ≡ component_names_of gs
component_names_are gs = ap (flat_map instance_names) (types_rows gs) ∙ instances_are gs

types_made : (gs : List Group) → map type_row (type_tables gs) ≡ flat_map types_of_group gs
types_made [] = refl
types_made (g ∷ gs) = ap (λ ts. types_of_group g ++ ts) (types_made gs)

pub types_are : (gs : List Group) → types_of (document_of gs) ≡ flat_map types_of_group gs
types_are gs = ap (map type_row) (types_rows gs) ∙ types_made gs

-- ---- each group, by its number

-- what holds of the group of each number
by_number : (P : Group → Type 0) (i : ℕ) (words : List ℕ) → ((j word : ℕ) → i ≤ j → j < i + length words → P (group_of j word)) → AllByRecursion P (groups_from i words)
by_number P i [] h = tt
by_number P i (word ∷ words) h =
    (h i word (omega arith) (omega arith), by_number P (i + 1) words (λ j w low high. h j w (omega (arith, low)) (omega (arith, high))))

bound_small : (b : Bool) → cond b 1000000000000 1000000000000000 ≤ 1000000000000000
bound_small true = omega arith
bound_small false = omega arith

is_group : (j word : ℕ) → j < 16 → IsGroup (group_of j word)
is_group j word small = record {
  number = small;
  cost = omega arith;
  bound = bound_small (word / 100 % 2 == 1);
}

pub are_groups : (words : List ℕ) → length words ≤ 16 → AllByRecursion IsGroup (groups_from 0 words)
are_groups words few = by_number IsGroup 0 words (λ j word low high. is_group j word (omega (arith, high, few)))

-- the sink of a requirement is one
sink_found : (words : List ℕ) (i j : ℕ) → i ≤ j → j < i + length words → j < 16
    → option_map_or is_sink_type (find (λ row. is_named (instance_names row) (codes "l" ++ decimal j ++ codes ".1")) (type_tables (groups_from i words))) false ≡ true
sink_found [] i j low high small = absurd (omega (arith, low, high))
sink_found (word ∷ words) i j low high small =
    elim (cases_eq j i) [
      | inl same ↦ rw (same_required j (group_of i word) (sym same)) refl
      | inr other ↦ rw (other_required i j (group_of i word) refl (omega (arith, low, other)) small) (sink_found words (i + 1) j (omega (arith, low, other)) (omega (arith, high)) small)
    ]

named : (words : List ℕ) → length words ≤ 16 → AllByRecursion (IsNamed (document_of (groups_from 0 words)) (type_names (document_of (groups_from 0 words)))) (groups_from 0 words)
named words few =
    let gs = groups_from 0 words in
    let top = document_of gs in
    by_number (IsNamed top (type_names top)) 0 words (λ j word low high.
    let small : j < 16 = omega (arith, high, few) in
    let g = group_of j word in
    let find_sink = λ (rows : List Data). option_map_or is_sink_type (find (λ row. is_named (instance_names row) (required_name g)) rows) false in
    let role : find_sink (rows_of Types top) ≡ true = ap find_sink (types_rows gs) ∙ sink_found words 0 j low high small in
    record {
      source = ap (λ ns. is_named ns (source_name g)) (type_names_are gs) ∙ is_there (bytes_eq (source_name g)) (names_of gs) _ (source_place words 0 j low high small);
      sink = ap (λ ns. is_named ns (sink_name g)) (type_names_are gs) ∙ is_there (bytes_eq (sink_name g)) (names_of gs) _ (sink_place words 0 j low high small);
      component = ap (λ ns. is_named ns (required_name g)) (component_names_are gs) ∙ is_there (bytes_eq (required_name g)) (component_names_of gs) _ (component_place words 0 j low high small);
      role = role;
    })

-- ---- no fault

both : (P Q : Group → Type 0) (gs : List Group) → AllByRecursion P gs → AllByRecursion Q gs → AllByRecursion (λ g. P g × Q g) gs
both P Q [] p q = tt
both P Q (g ∷ gs) p q = ((p.0, q.0), both P Q gs p.1 q.1)

pub judged_quiet : (words : List ℕ) → length words ≤ 16 → judged_faults (document_of (groups_from 0 words)) ≡ []
judged_quiet words few =
    let gs = groups_from 0 words in
    let top = document_of gs in
    let names = type_names top in
    let fit = are_groups words few in
    let there = named words few in
    rw (plain_quiet gs fit, names_differ words few, links_differ words few, unknown_names_quiet gs names there, ranges_quiet gs names (both IsGroup (IsNamed top names) gs fit there)) refl

-- ---- links and requirements

each_made : {X : Type 0} (f : Data → X) (row : Group → Nodes) (h : Group → X) (gs : List Group) → AllByRecursion (λ g. f (data_of (row g)) ≡ h g) gs → map f (map (λ g. data_of (row g)) gs) ≡ map h gs
each_made f row h [] all = refl
each_made f row h (g ∷ gs) all = rw (all.0, each_made f row h gs all.1) refl

links_made : (words : List ℕ) → length words ≤ 16 → map (link_row (names_of (groups_from 0 words))) (link_tables (groups_from 0 words)) ≡ map link_of_group (groups_from 0 words)
links_made words few =
    let gs = groups_from 0 words in
    let names = names_of gs in
    each_made (link_row names) link_nodes link_of_group gs (by_number (λ g. link_row names (data_of (link_nodes g)) ≡ link_of_group g) 0 words (λ j word low high.
    let small : j < 16 = omega (arith, high, few) in
    let from : unwrap_or (position (bytes_eq (codes "s" ++ decimal j)) names) 0 ≡ 2 * j = ap (λ o. unwrap_or o 0) (source_place words 0 j low high small) ∙ omega arith in
    let to : unwrap_or (position (bytes_eq (codes "l" ++ decimal j)) names) 0 ≡ 2 * j + 1 = ap (λ o. unwrap_or o 0) (sink_place words 0 j low high small) ∙ omega arith in
    λ i. record { from = from i; to = to i; cost = 1; fail = 0 }))

pub links_are : (words : List ℕ) → length words ≤ 16 → links_of (document_of (groups_from 0 words)) ≡ map link_of_group (groups_from 0 words)
links_are words few =
    let gs = groups_from 0 words in
    (λ i. map (link_row (type_names_are gs i)) (links_rows gs i)) ∙ links_made words few

requirements_made : (words : List ℕ) → length words ≤ 16 → map (requirement_row (component_names_of (groups_from 0 words))) (requirement_tables (groups_from 0 words)) ≡ map requirement_of_group (groups_from 0 words)
requirements_made words few =
    let gs = groups_from 0 words in
    let names = component_names_of gs in
    each_made (requirement_row names) requirement_nodes requirement_of_group gs (by_number (λ g. requirement_row names (data_of (requirement_nodes g)) ≡ requirement_of_group g) 0 words (λ j word low high.
    let small : j < 16 = omega (arith, high, few) in
    let g = group_of j word in
    let sink : unwrap_or (position (bytes_eq (codes "l" ++ decimal j ++ codes ".1")) names) 0 ≡ 3 * j + 2 = ap (λ o. unwrap_or o 0) (component_place words 0 j low high small) ∙ omega arith in
    λ i. record { sink = record { 0 = sink i }; bound = g.bound }))

pub requirements_are : (words : List ℕ) → length words ≤ 16 → requirements_of (document_of (groups_from 0 words)) ≡ map requirement_of_group (groups_from 0 words)
requirements_are words few =
    let gs = groups_from 0 words in
    (λ i. map (requirement_row (component_names_are gs i)) (requires_rows gs i)) ∙ requirements_made words few

-- ---- limits

pub length-groups : (i : ℕ) (words : List ℕ) → length (groups_from i words) ≡ length words
length-groups i [] = refl
length-groups i (word ∷ words) = ap suc (length-groups (i + 1) words)

pub components_count : (words : List ℕ) → length (components_of (flat_map types_of_group (groups_from 0 words))) ≡ 3 * length words
components_count words = length-components 0 (groups_from 0 words) ∙ ap (λ n. 3 * n) (length-groups 0 words)

pub few_components : (words : List ℕ) → length words ≤ 16 → length (components_of (types_of (document_of (groups_from 0 words)))) ≤ 64
few_components words few = rw (types_are (groups_from 0 words)) (omega (arith, components_count words, few))

pub few_edges : (words : List ℕ) → length words ≤ 16 → length (edges_of (components_of (types_of (document_of (groups_from 0 words)))) (links_of (document_of (groups_from 0 words)))) ≤ 512
few_edges words few = rw (types_are (groups_from 0 words), links_are words few) (omega (arith, length-edges words, few))

pub few_requirements : (words : List ℕ) → length words ≤ 16 → length (rows_of Requires (document_of (groups_from 0 words))) ≤ 16
few_requirements words few =
    let gs = groups_from 0 words in
    let count : length (requirement_tables gs) ≡ length words = length-map gs (λ g. data_of (requirement_nodes g)) ∙ length-groups 0 words in
    rw (requires_rows gs) (omega (arith, count, few))

pub within_limits : (words : List ℕ) → length words ≤ 16 → limit_faults (document_of (groups_from 0 words)) ≡ []
within_limits words few =
    rw (le-ltb 64 _ (few_components words few), le-ltb 512 _ (few_edges words few), le-ltb 16 _ (few_requirements words few)) refl

pub no_fault : (words : List ℕ) → length words ≤ 16 → faults_of (document_of (groups_from 0 words)) ≡ []
no_fault words few = rw (judged_quiet words few, within_limits words few) refl

pub library_is : (words : List ℕ) → length words ≤ 16 → library_of_tree (document_of (groups_from 0 words)) ≡ library_of_groups (groups_from 0 words)
library_is words few =
    let types = types_are (groups_from 0 words) in
    let links = links_are words few in
    let requirements = requirements_are words few in
    λ i. library_parts (types i) (links i) (template_of (types i) (links i)) [] (requirements i)
