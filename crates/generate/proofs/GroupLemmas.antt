-- One more group of the words that a generator gives, whatever its step.
use Rattle.std.proofs.Common.{◌≡◌, ℕ, suc, ◌+◌, ◌-◌, ◌<◌, ◌≤◌, List, [], ◌∷◌, ◌++◌, refl, ap, sym, ◌∙◌, append_assoc, append-nil, arith}
use Rattle.rand_core.specs.Steps.{first_words}
use Rattle.generate.specs.declared.group.Group.{Group}
use Rattle.generate.specs.Generated.{group_of, groups_from}

first_word : (step : ℕ → ℕ × ℕ) (n state : ℕ) → first_words step (suc n) state ≡ (step state).0 ∷ first_words step n (step state).1
unfolding first_words
first_word step n state = refl

no_word : (step : ℕ → ℕ × ℕ) (state : ℕ) → first_words step 0 state ≡ []
unfolding first_words
no_word step state = refl

-- the groups of the words to come begin with that of the next word
next_group : (step : ℕ → ℕ × ℕ) (i size state : ℕ) → i < size →
    groups_from i (first_words step (size - i) state)
    ≡ group_of i (step state).0 ∷ groups_from (i + 1) (first_words step (size - (i + 1)) (step state).1)
next_group step i size state below =
    let e : size - i ≡ suc (size - (i + 1)) = omega arith in
    ap (λ n. groups_from i (first_words step n state)) e ∙ ap (groups_from i) (first_word step (size - (i + 1)) state)

-- with the next group, those so far and those to come are still all
pub one_more : (step : ℕ → ℕ × ℕ) (i size state after word : ℕ) (made : List Group) (g : Group) (now : List Group) {all : List Group} →
    i < size → (word, after) ≡ step state → g ≡ group_of i word → now ≡ made ++ g ∷ [] →
    made ++ groups_from i (first_words step (size - i) state) ≡ all →
    now ++ groups_from (i + 1) (first_words step (size - (i + 1)) after) ≡ all
one_more step i size state after word made g now below e made_of grown h =
    let rest = λ (a : ℕ). groups_from (i + 1) (first_words step (size - (i + 1)) a) in
    ap (λ (gs : List Group). gs ++ rest after) (grown ∙ ap (λ (x : Group). made ++ x ∷ []) made_of)
    ∙ append_assoc made (group_of i word ∷ []) (rest after)
    ∙ ap (λ (p : ℕ × ℕ). made ++ group_of i p.0 ∷ rest p.1) e
    ∙ ap (λ (gs : List Group). made ++ gs) (sym (next_group step i size state below))
    ∙ h

-- where the last is made, nothing is to come
pub none_left : (step : ℕ → ℕ × ℕ) (i size state : ℕ) (made : List Group) {all : List Group} → size ≤ i →
    made ++ groups_from i (first_words step (size - i) state) ≡ all → made ≡ all
none_left step i size state made past h =
    let e : size - i ≡ 0 = omega arith in
    sym (append-nil made) ∙ ap (λ (gs : List Group). made ++ gs) (sym (ap (λ n. groups_from i (first_words step n state)) e ∙ ap (groups_from i) (no_word step state))) ∙ h
