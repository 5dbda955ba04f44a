-- The text of a number is the library of the number.
use Rattle.std.proofs.Common.{◌≡◌, ℕ, zero, suc, ◌*◌, ◌≤◌, List, [], ◌∷◌, length, Some, Ok, refl, ap, ◌∙◌, subst, arith}
use Rattle.std.proofs.lemmas.Bool.{le-ltb}
use Rattle.rand_core.specs.Steps.{first_words}
use Rattle.rand_xoshiro.specs.SplitMix64.{mix_u64}
use Rattle.arch_model.specs.Library.{IsLibrary}
use Rattle.lib_read.specs.Tree.{tree_of}
use Rattle.lib_read.specs.LibraryOf.{library_of}
use Rattle.lib_read.proofs.CleanLibrary.{judged_parts, is_library}
use Rattle.generate.specs.Generated.{words_of, group_of, groups_from, text_of, library_text}
use Rattle.generated.specs.GeneratedLibrary.{library_of_groups, generated_library}
use Rattle.generated.proofs.Texts.{text_utf8, text_short, text_parses}
use Rattle.generated.proofs.Rows.{document_of}
use Rattle.generated.proofs.Judged.{are_groups, judged_quiet, no_fault, library_is, few_components, few_edges, few_requirements, components_count, length-groups}
use Rattle.generated.proofs.Components.{length-edges}

tree_is : (word : ℕ) (words : List ℕ) → length (word ∷ words) ≤ 16 → tree_of (text_of (groups_from 0 (word ∷ words))) ≡ Some (document_of (groups_from 0 (word ∷ words)))
unfolding tree_of
tree_is word words few =
    let fit = are_groups (word ∷ words) few in
    rw (text_utf8 (groups_from 0 (word ∷ words)) fit, text_parses (group_of 0 word) (groups_from 1 words) fit) refl

read_as : (word : ℕ) (words : List ℕ) → length (word ∷ words) ≤ 16 → library_of (text_of (groups_from 0 (word ∷ words))) ≡ Ok (library_of_groups (groups_from 0 (word ∷ words)))
unfolding library_of
read_as word words few =
    let all = word ∷ words in
    let gs = groups_from 0 all in
    let short = le-ltb 1048576 (length (text_of gs)) (text_short gs (are_groups all few) (omega (arith, length-groups 0 all, few))) in
    rw (short, tree_is word words few, no_fault all few, library_is all few) refl

-- as many words as groups
length-words : (size state : ℕ) → length (first_words mix_u64 size state) ≡ size
unfolding first_words
length-words zero state = refl
length-words (suc size) state = ap suc (length-words size (mix_u64 state).1)

pub generated_text_is : (number size : ℕ) → 1 ≤ size → size ≤ 16 → library_of (library_text number size) ≡ Ok (generated_library number size)
generated_text_is number size some few = go (words_of number size) (omega (arith, length-words size number)) (omega (arith, length-words size number))
  where
    go : (words : List ℕ) → 1 ≤ length words → length words ≤ 16 → library_of (text_of (groups_from 0 words)) ≡ Ok (library_of_groups (groups_from 0 words))
    go [] one most = absurd (omega arith)
    go (word ∷ words) one most = read_as word words most

pub components_of_generated : (number size : ℕ) → length (generated_library number size).components ≡ 3 * size
components_of_generated number size = components_count (words_of number size) ∙ ap (λ n. 3 * n) (length-words size number)

pub edges_of_generated : (number size : ℕ) → length (generated_library number size).edges ≡ 2 * size
edges_of_generated number size = length-edges (words_of number size) ∙ ap (λ n. 2 * n) (length-words size number)

pub generated_is_library : (number size : ℕ) → size ≤ 16 → IsLibrary (generated_library number size)
generated_is_library number size most =
    let words = words_of number size in
    let few : length words ≤ 16 = omega (arith, length-words size number, most) in
    let top = document_of (groups_from 0 words) in
    subst IsLibrary (library_is words few) (is_library top (judged_parts top (judged_quiet words few)) (few_components words few) (few_edges words few) (omega arith) (few_requirements words few))
