-- Which word is empty, word by word, and words that aren't as many as a command takes.
use Rattle.std.proofs.Common.{◌≡◌, ℕ, zero, suc, ◌+◌, ◌<◌, ◌≤◌, Bool, true, false, nat_lt, List, length, drop, slice_index_or, String, Global, string_bytes, Some, None, sym, ap, ◌∙◌, arith, if◌then◌else◌}
use Rattle.std.specs.Bool.{◌==◌}
use Rattle.std.proofs.lemmas.List.{at_drop_more, drop_all}
use Rattle.std.proofs.lemmas.Bool.{lt-ltb, eqb-true}
use Rattle.archex_app.specs.Words.{texts, empty_word}

next_word : (all : List (String Global)) (k : ℕ) (word : String Global) → k < length all → word ≡ slice_index_or all k word
    → empty_word (k + 2) (texts (drop k all)) ≡ (if nat_lt 0 (length (string_bytes word)) then empty_word (k + 2 + 1) (texts (drop (k + 1) all)) else Some (k + 2))
next_word all k word within is =
    at_drop_more (λ words. empty_word (k + 2) (texts words)) all k word within
    ∙ ap (λ (w : String Global). if nat_lt 0 (length (string_bytes w)) then empty_word (k + 2 + 1) (texts (drop (k + 1) all)) else Some (k + 2)) (sym is)

some_left : (n : ℕ) (b : Bool) → b ≡ (n == 0) → b ≡ false → nat_lt 0 n ≡ true
some_left zero b is e = cc
some_left (suc n) b is e = lt-ltb 0 (suc n) (omega arith)

none_left : (n : ℕ) (b : Bool) → b ≡ (n == 0) → b ≡ true → nat_lt 0 n ≡ false
none_left n b is e = let zero_is : n ≡ 0 = eqb-true n 0 (sym is ∙ e) in ap (nat_lt 0) zero_is

-- none of the words so far is empty, nor is the next
pub word_passes : (all : List (String Global)) (k : ℕ) (word : String Global) (bytes : List ℕ) (b : Bool) → k < length all → word ≡ slice_index_or all k word → bytes ≡ string_bytes word → b ≡ (length bytes == 0) → b ≡ false
    → empty_word 2 (texts all) ≡ empty_word (k + 2) (texts (drop k all)) → empty_word 2 (texts all) ≡ empty_word (k + 1 + 2) (texts (drop (k + 1) all))
word_passes all k word bytes b within is same test off so_far =
    let some : nat_lt 0 (length (string_bytes word)) ≡ true = ap (λ (x : List ℕ). nat_lt 0 (length x)) (sym same) ∙ some_left (length bytes) b test off in
    let place : k + 2 + 1 ≡ k + 1 + 2 = omega arith in
    so_far ∙ next_word all k word within is
    ∙ ap (λ (t : Bool). if t then empty_word (k + 2 + 1) (texts (drop (k + 1) all)) else Some (k + 2)) some
    ∙ ap (λ n. empty_word n (texts (drop (k + 1) all))) place

-- the next word is
pub word_fails : (all : List (String Global)) (k : ℕ) (word : String Global) (bytes : List ℕ) (b : Bool) → k < length all → word ≡ slice_index_or all k word → bytes ≡ string_bytes word → b ≡ (length bytes == 0) → b ≡ true
    → empty_word 2 (texts all) ≡ empty_word (k + 2) (texts (drop k all)) → empty_word 2 (texts all) ≡ Some (k + 2)
word_fails all k word bytes b within is same test on so_far =
    let none : nat_lt 0 (length (string_bytes word)) ≡ false = ap (λ (x : List ℕ). nat_lt 0 (length x)) (sym same) ∙ none_left (length bytes) b test on in
    so_far ∙ next_word all k word within is
    ∙ ap (λ (t : Bool). if t then empty_word (k + 2 + 1) (texts (drop (k + 1) all)) else Some (k + 2)) none

pub words_pass : (all : List (String Global)) (k : ℕ) → length all ≤ k → empty_word 2 (texts all) ≡ empty_word (k + 2) (texts (drop k all)) → empty_word 2 (texts all) ≡ None
words_pass all k past so_far = so_far ∙ ap (λ words. empty_word (k + 2) (texts words)) (drop_all k all past)
