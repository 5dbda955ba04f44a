use Rattle.std.proofs.Common.{◌≤◌, map, string_bytes, length, refl, sym, ap, subst, ◌∙◌, arith}
use Rattle.std.specs.List.{All, flat_map}
use Rattle.toml.specs.View.{view}
use Rattle.std.proofs.lemmas.List.{length-map}
use Rattle.arch_model.specs.declared.limits.TheConstants.{COMPONENTS, EDGES}
use Rattle.arch_model.specs.Template.{template_of, components_of, edges_of}
use Rattle.lib_read.specs.declared.fault.TableName.TheVariants.{Types, Patterns, Requires}
use Rattle.lib_read.specs.Tree.{rows_of}
use Rattle.arch_model.specs.Library.{IsTypeRow, IsLinkRow, IsLibrary}
use Rattle.lib_read.specs.Inner.Building.{names_of_type}
use Rattle.lib_read.specs.Rows.{type_names, types_of, links_by, patterns_by, requirements_by}
use Rattle.lib_read.proofs.CleanLibrary.{judged_parts, types_fit, links_fit, few_names, few_types, parts_are, pattern_rows_fit, is_library, as_many}
use Rattle.lib_read.proofs.ComponentLemmas.{same_names}
use Rattle.lib_read.proofs.reader.build.Goals as goal

pub type_rows-requires : goal.type_rows-requires
type_rows-requires c = let top = view c.args.top.now in types_fit top (judged_parts top c.requires.judged)

pub link_rows-requires : goal.link_rows-requires
link_rows-requires c =
    let top = view c.args.top.now in
    let types = c.deref.ensures.value ∙ c.in_ok-types.ensures in
    let few = subst (λ rows. length (components_of rows) ≤ COMPONENTS) types (c.if-not-has_few_components.ensures.0 refl) in
    subst (λ names. length names ≤ 64) (sym c.requires.names) (few_names top (judged_parts top c.requires.judged) few)

pub has_few_edges-requires-clause-rows : goal.has_few_edges-requires-clause-rows
has_few_edges-requires-clause-rows c =
    let top = view c.args.top.now in
    subst (All IsTypeRow) (sym (c.deref-2.ensures.value ∙ c.in_ok-types.ensures)) (types_fit top (judged_parts top c.requires.judged))

pub has_few_edges-requires-clause-numbers : goal.has_few_edges-requires-clause-numbers
has_few_edges-requires-clause-numbers c =
    let top = view c.args.top.now in
    let types = c.deref-2.ensures.value ∙ c.in_ok-types.ensures in
    let links = c.deref-3.ensures.value ∙ c.in_ok-links.ensures ∙ ap (λ names. links_by names top) c.requires.names in
    subst (λ n. All (IsLinkRow n) c.deref-3.result.now) (sym (ap length types))
    (subst (All (IsLinkRow (length (types_of top)))) (sym links) (links_fit top (judged_parts top c.requires.judged)))

pub pattern_rows-requires-clause-names : goal.pattern_rows-requires-clause-names
pattern_rows-requires-clause-names c =
    let top = view c.args.top.now in
    let types = c.deref.ensures.value ∙ c.in_ok-types.ensures in
    let few = subst (λ rows. length (components_of rows) ≤ COMPONENTS) types (c.if-not-has_few_components.ensures.0 refl) in
    subst (λ names. length names ≤ 64) (sym c.requires.names) (few_names top (judged_parts top c.requires.judged) few)

pub pattern_rows-requires-clause-components : goal.pattern_rows-requires-clause-components
pattern_rows-requires-clause-components c =
    let top = view c.args.top.now in
    let types = c.deref.ensures.value ∙ c.in_ok-types.ensures in
    let few = subst (λ rows. length (components_of rows) ≤ COMPONENTS) types (c.if-not-has_few_components.ensures.0 refl) in
    let components = ap (map string_bytes) c.deref-5.ensures.value ∙ c.in_ok-components.ensures ∙ ap (flat_map names_of_type) (c.deref-4.ensures.value ∙ c.in_ok-types.ensures) ∙ same_names (rows_of Types top) in
    omega (arith, few, as_many top, ap length components, length-map c.deref-5.result.now string_bytes)

pub pattern_rows-requires-clause-fit : goal.pattern_rows-requires-clause-fit
pattern_rows-requires-clause-fit c = let top = view c.args.top.now in pattern_rows_fit top (judged_parts top c.requires.judged)

pub requirement_rows-requires : goal.requirement_rows-requires
requirement_rows-requires c =
    let top = view c.args.top.now in
    let types = c.deref.ensures.value ∙ c.in_ok-types.ensures in
    let few = subst (λ rows. length (components_of rows) ≤ COMPONENTS) types (c.if-not-has_few_components.ensures.0 refl) in
    let components = ap (map string_bytes) c.deref-6.ensures.value ∙ c.in_ok-components.ensures ∙ ap (flat_map names_of_type) (c.deref-4.ensures.value ∙ c.in_ok-types.ensures) ∙ same_names (rows_of Types top) in
    omega (arith, few, as_many top, ap length components, length-map c.deref-6.result.now string_bytes)

pub expand-requires-clause-numbered : goal.expand-requires-clause-numbered
expand-requires-clause-numbered c =
    let top = view c.args.top.now in
    let types = c.deref.ensures.value ∙ c.in_ok-types.ensures in
    let few = subst (λ rows. length (components_of rows) ≤ COMPONENTS) types (c.if-not-has_few_components.ensures.0 refl) in
    few_types c.deref-7.result.now top (judged_parts top c.requires.judged) (c.deref-7.ensures.value ∙ c.in_ok-types.ensures) few

pub new-requires : goal.new-requires
new-requires c =
    let top = view c.args.top.now in
    let types = c.deref.ensures.value ∙ c.in_ok-types.ensures in
    let links = c.in_ok-links.ensures ∙ ap (λ names. links_by names top) c.requires.names in
    let few = subst (λ rows. length (components_of rows) ≤ COMPONENTS) types (c.if-not-has_few_components.ensures.0 refl) in
    let edges = subst (λ rows. length (edges_of (components_of rows) c.deref-3.result.now) ≤ EDGES) (c.deref-2.ensures.value ∙ c.in_ok-types.ensures) (c.if-not-has_few_edges.ensures.0 refl) in
    let whole_edges = subst (λ rows. length (edges_of (components_of (types_of top)) rows) ≤ EDGES) (c.deref-3.ensures.value ∙ links) edges in
    let patterns_few : length (rows_of Patterns top) ≤ 200 = omega (arith, length-map c.rows_of.result.now view, ap length c.rows_of.ensures, c.if-rows_of-gt-PATTERNS.false) in
    let requirements_few : length (rows_of Requires top) ≤ 16 = omega (arith, length-map c.rows_of-2.result.now view, ap length c.rows_of-2.ensures, c.if-rows_of-gt-REQUIREMENTS.false) in
    let template = c.in_ok-template.ensures ∙ ap (λ rows. template_of rows c.deref-8.result.now) c.deref-7.ensures.value ∙ ap (template_of c.in_ok-types.types.items) c.deref-8.ensures.value in
    let named = c.in_ok-components.ensures ∙ ap (flat_map names_of_type) (c.deref-4.ensures.value ∙ c.in_ok-types.ensures) ∙ same_names (rows_of Types top) in
    let patterns = c.in_ok-patterns.ensures ∙ ap (λ names. patterns_by names (map string_bytes c.deref-5.result.now) top) c.requires.names ∙ ap (λ components. patterns_by (type_names top) components top) (ap (map string_bytes) c.deref-5.ensures.value ∙ named) in
    let requirements = c.in_ok-requirements.ensures ∙ ap (λ components. requirements_by components top) (ap (map string_bytes) c.deref-6.ensures.value ∙ named) in
    subst IsLibrary
    (sym (parts_are top c.in_ok-types.types.items c.in_ok-links.links.items c.in_ok-template.template c.in_ok-patterns.patterns.items c.in_ok-requirements.requirements.items c.in_ok-types.ensures links template patterns requirements))
    (is_library top (judged_parts top c.requires.judged) few whole_edges patterns_few requirements_few)

pub returns-clause-library : goal.returns-clause-library
returns-clause-library c =
    let top = view c.args.top.now in
    let links = c.in_ok-links.ensures ∙ ap (λ names. links_by names top) c.requires.names in
    let template = c.in_ok-template.ensures ∙ ap (λ rows. template_of rows c.deref-8.result.now) c.deref-7.ensures.value ∙ ap (template_of c.in_ok-types.types.items) c.deref-8.ensures.value in
    let named = c.in_ok-components.ensures ∙ ap (flat_map names_of_type) (c.deref-4.ensures.value ∙ c.in_ok-types.ensures) ∙ same_names (rows_of Types top) in
    let patterns = c.in_ok-patterns.ensures ∙ ap (λ names. patterns_by names (map string_bytes c.deref-5.result.now) top) c.requires.names ∙ ap (λ components. patterns_by (type_names top) components top) (ap (map string_bytes) c.deref-5.ensures.value ∙ named) in
    let requirements = c.in_ok-requirements.ensures ∙ ap (λ components. requirements_by components top) (ap (map string_bytes) c.deref-6.ensures.value ∙ named) in
    c.new.ensures ∙ parts_are top c.in_ok-types.types.items c.in_ok-links.links.items c.in_ok-template.template c.in_ok-patterns.patterns.items c.in_ok-requirements.requirements.items c.in_ok-types.ensures links template patterns requirements
