-- A generated text is ASCII, is no longer than a file may be, and is a document.
use Rattle.std.proofs.Common.{◌≡◌, ℕ, suc, ◌*◌, ◌≤◌, true, List, [], ◌∷◌, ◌++◌, length, Some, refl, ap, ◌∙◌, arith, length-append}
use Rattle.std.proofs.lemmas.Str.{IsUtf8-from_ascii, is_utf8-from_IsUtf8}
use Rattle.std.specs.List.{flat_map, AllByRecursion}
use Rattle.std.specs.Str.{is_utf8}
use Rattle.toml.specs.Tables.{no_nodes, Expression}
use Rattle.toml.specs.Parse.{skip_bom, lines, parse_document}
use Rattle.toml.proofs.Turns.{document_some}
use Rattle.generate.specs.declared.group.Group.{Group}
use Rattle.generate.specs.Generated.{types_text, text_of}
use Rattle.generated.proofs.LineTexts.{read_whole}
use Rattle.generated.proofs.GroupLines.{IsGroup, type_lines, link_lines, requirement_lines, all_lines, text_has}
use Rattle.generated.proofs.Documents.{types_read, links_read, requirements_read, with_all, members_of, all_come, closed}

pub text_utf8 : (gs : List Group) → AllByRecursion IsGroup gs → is_utf8 (text_of gs) ≡ true
text_utf8 gs fit = is_utf8-from_IsUtf8 (text_of gs) (IsUtf8-from_ascii (text_of gs) (text_has gs fit).ascii)

-- ---- lengths

-- each group has as many lines
length-each : (made : Group → List Expression) (k : ℕ) → ((g : Group) → length (made g) ≡ k) → (gs : List Group) → length (flat_map made gs) ≡ k * length gs
length-each made k step [] = omega arith
length-each made k step (g ∷ gs) =
    omega (arith, step g, length-each made k step gs, length-append (made g) (flat_map made gs))

pub text_short : (gs : List Group) → AllByRecursion IsGroup gs → length gs ≤ 16 → length (text_of gs) ≤ 1048576
text_short gs fit few =
    let links = flat_map link_lines gs in
    let requirements = flat_map requirement_lines gs in
    let types_count = length-each type_lines 9 (λ g. refl) gs in
    let links_count = length-each link_lines 4 (λ g. refl) gs in
    let requirements_count = length-each requirement_lines 3 (λ g. refl) gs in
    omega (arith, (text_has gs fit).short, types_count, links_count, requirements_count, length-append links requirements, length-append (flat_map type_lines gs) (links ++ requirements))

-- ---- the document

begins : (g : Group) (gs : List Group) → skip_bom (text_of (g ∷ gs)) ≡ text_of (g ∷ gs)
unfolding skip_bom types_text
begins g gs = refl

pub text_parses : (g : Group) (gs : List Group) → AllByRecursion IsGroup (g ∷ gs) → parse_document (text_of (g ∷ gs)) ≡ Some (members_of (g ∷ gs))
text_parses g gs fit =
    let text = text_of (g ∷ gs) in
    let end = with_all (types_read g gs) (links_read g gs) (requirements_read g gs) in
    let read = read_whole (all_lines (g ∷ gs)) text text (no_nodes, []) end (suc (length text)) (text_has (g ∷ gs) fit).lines (all_come g gs) refl (omega arith) in
    let same : lines (suc (length text)) (no_nodes, []) (skip_bom text) ≡ lines (suc (length text)) (no_nodes, []) text = ap (lines (suc (length text)) (no_nodes, [])) (begins g gs) in
    document_some text end (same ∙ read) ∙ ap Some (closed g gs)
