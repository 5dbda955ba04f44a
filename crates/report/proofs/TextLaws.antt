-- Texts that grow line by line.
use Rattle.std.proofs.Common.{◌≡◌, ℕ, ◌+◌, ◌<◌, ◌≤◌, Bool, true, false, ◌&&◌, zero-add, List, [], ◌∷◌, ◌++◌, codes, drop, length, get_or, refl, sym, ap, ◌∙◌, append_assoc, append-nil, arith, drop-cons, add-one, map-id, take}
use Rattle.std.specs.List.{flat_map, zip, enumerate_from, range_with_len, list_all}
use Rattle.std.proofs.lemmas.List.{drop_all, take_more, flat_map_more, length-take}
use Rattle.std.proofs.lemmas.List.Concat.{flat_map-append}
use Rattle.std.proofs.lemmas.List.FromFn.{map-range_with_len_more}
use Rattle.arch_model.specs.declared.library.Requirement.{Requirement}
use Rattle.arch_model.specs.Parts.{LibraryParts}
use Rattle.report.specs.Report.{weighed}

-- what a list of requirements has past its end
abbrev pub blank_requirement : Requirement
blank_requirement = record { sink = record { 0 = 0 }; bound = 0 }

-- the line of a requirement with the weight that is told
abbrev pub weight_told : LibraryParts → Requirement × ℕ → List ℕ
weight_told lib p = weighed lib p.0 p.1 ++ codes "\n"

-- the text so far and the lines to come, of which the next is written
pub next_written : (text grown piece rest : List ℕ) {whole : List ℕ} → grown ≡ text ++ piece → text ++ (piece ++ rest) ≡ whole → grown ++ rest ≡ whole
next_written text grown piece rest is before = ap (λ t. t ++ rest) is ∙ append_assoc text piece rest ∙ before

-- pairs of two lists from place i on
pub zip_drop : {X : Type 0} (xs : List X) (ws : List ℕ) (i : ℕ) (x : X) (w : ℕ) → i < length xs → i < length ws →
    zip (drop i xs) (drop i ws) ≡ (get_or xs i x, get_or ws i w) ∷ zip (drop (i + 1) xs) (drop (i + 1) ws)
zip_drop xs ws i x w in_xs in_ws =
    let a : drop i xs ≡ get_or xs i x ∷ drop (i + 1) xs = rw (add-one, drop-cons xs i x) refl in
    let b : drop i ws ≡ get_or ws i w ∷ drop (i + 1) ws = rw (add-one, drop-cons ws i w) refl in
    rw (a, b) refl

-- past the last place no pair is left
zip_past : {X : Type 0} (xs : List X) (ws : List ℕ) (i : ℕ) → length xs ≤ i → zip (drop i xs) (drop i ws) ≡ []
zip_past xs ws i past = ap (λ l. zip l (drop i ws)) (drop_all i xs past)

-- lines of two lists, of which the next is written, from the rows that the code reads
pub next_of_pairs : {X : Type 0} (f : X × ℕ → List ℕ) (rows xs : List X) (ws : List ℕ) (i : ℕ) (x : X) (w : ℕ) (text grown : List ℕ) {whole : List ℕ} → rows ≡ xs → i < length rows → length ws ≡ length xs →
    grown ≡ text ++ f (get_or rows i x, get_or ws i w) → text ++ flat_map f (zip (drop i xs) (drop i ws)) ≡ whole → grown ++ flat_map f (zip (drop (i + 1) xs) (drop (i + 1) ws)) ≡ whole
next_of_pairs f rows xs ws i x w text grown same in_rows alike is before =
    let n = ap length same in
    let in_xs : i < length xs = omega (arith, n, in_rows) in
    let in_ws : i < length ws = omega (arith, alike, in_xs) in
    next_written text grown (f (get_or xs i x, get_or ws i w)) (flat_map f (zip (drop (i + 1) xs) (drop (i + 1) ws)))
    (is ∙ ap (λ r. text ++ f (get_or r i x, get_or ws i w)) same)
    (ap (λ l. text ++ flat_map f l) (sym (zip_drop xs ws i x w in_xs in_ws)) ∙ before)

-- where none is to come, all are written
pub pairs_written : {X : Type 0} (f : X × ℕ → List ℕ) (rows xs : List X) (ws : List ℕ) (i : ℕ) (text : List ℕ) {whole : List ℕ} → rows ≡ xs → length rows ≤ i →
    text ++ flat_map f (zip (drop i xs) (drop i ws)) ≡ whole → text ≡ whole
pairs_written f rows xs ws i text same past before =
    let n = ap length same in
    let at_end : length xs ≤ i = omega (arith, n, past) in
    sym (append-nil text) ∙ ap (λ l. text ++ flat_map f l) (sym (zip_past xs ws i at_end)) ∙ before

-- lines of a range, and one more
pub range_more : (f : ℕ → List ℕ) (n : ℕ) → flat_map f (range_with_len 0 (n + 1)) ≡ flat_map f (range_with_len 0 n) ++ f n
range_more f n =
    let at_end = map-range_with_len_more (λ (k : ℕ). k) 0 n n (zero-add n) in
    ap (flat_map f) (sym (map-id (range_with_len 0 (n + 1))) ∙ at_end ∙ ap (λ l. l ++ n ∷ []) (map-id (range_with_len 0 n)))
    ∙ flat_map-append f (range_with_len 0 n) (n ∷ [])
    ∙ ap (λ l. flat_map f (range_with_len 0 n) ++ l) (append-nil (f n))

three : (t x a y : List ℕ) → ((t ++ x) ++ a) ++ y ≡ t ++ (x ++ a ++ y)
three t x a y = simp append_assoc

-- two and three pieces, one after another
pub two_pieces : (t0 t1 t2 x y line : List ℕ) → t1 ≡ t0 ++ x → t2 ≡ t1 ++ y → line ≡ x ++ y → t2 ≡ t0 ++ line
two_pieces t0 t1 t2 x y line e1 e2 is = e2 ∙ ap (λ t. t ++ y) e1 ∙ append_assoc t0 x y ∙ ap (λ t. t0 ++ t) (sym is)

pub three_pieces : (t0 t1 t2 t3 x a y line : List ℕ) → t1 ≡ t0 ++ x → t2 ≡ t1 ++ a → t3 ≡ t2 ++ y → line ≡ x ++ a ++ y → t3 ≡ t0 ++ line
three_pieces t0 t1 t2 t3 x a y line e1 e2 e3 is =
    e3 ∙ ap (λ t. t ++ y) (e2 ∙ ap (λ t. t ++ a) e1) ∙ three t0 x a y ∙ ap (λ t. t0 ++ t) (sym is)

five : (t x a y b z : List ℕ) → ((((t ++ x) ++ a) ++ y) ++ b) ++ z ≡ t ++ (x ++ a ++ y ++ b ++ z)
five t x a y b z = simp append_assoc

pub five_pieces : (t0 t1 t2 t3 t4 t5 x a y b z line : List ℕ) → t1 ≡ t0 ++ x → t2 ≡ t1 ++ a → t3 ≡ t2 ++ y → t4 ≡ t3 ++ b → t5 ≡ t4 ++ z → line ≡ x ++ a ++ y ++ b ++ z → t5 ≡ t0 ++ line
five_pieces t0 t1 t2 t3 t4 t5 x a y b z line e1 e2 e3 e4 e5 is =
    e5 ∙ ap (λ t. t ++ z) (e4 ∙ ap (λ t. t ++ b) (e3 ∙ ap (λ t. t ++ y) (e2 ∙ ap (λ t. t ++ a) e1))) ∙ five t0 x a y b z ∙ ap (λ t. t0 ++ t) (sym is)

-- lines of a range, of which the next is written
pub next_of_range : (f : ℕ → List ℕ) (n : ℕ) (old text grown : List ℕ) → grown ≡ text ++ f n → text ≡ old ++ flat_map f (range_with_len 0 n) → grown ≡ old ++ flat_map f (range_with_len 0 (n + 1))
next_of_range f n old text grown is before =
    is ∙ ap (λ t. t ++ f n) before ∙ append_assoc old (flat_map f (range_with_len 0 n)) (f n) ∙ ap (λ t. old ++ t) (sym (range_more f n))

-- pairs of two lists, of which the next is met
pub pair_met : {X : Type 0} (f : X × ℕ → Bool) (rows xs : List X) (ws : List ℕ) (i : ℕ) (x : X) (w : ℕ) {met whole : Bool} → rows ≡ xs → i < length rows → length ws ≡ length xs → met ≡ f (get_or rows i x, get_or ws i w) → met ≡ true →
    list_all f (zip (drop i xs) (drop i ws)) ≡ whole → list_all f (zip (drop (i + 1) xs) (drop (i + 1) ws)) ≡ whole
pair_met f rows xs ws i x w same in_rows alike is holds before =
    let n = ap length same in
    let in_xs : i < length xs = omega (arith, n, in_rows) in
    let in_ws : i < length ws = omega (arith, alike, in_xs) in
    let here : true ≡ f (get_or xs i x, get_or ws i w) = sym holds ∙ is ∙ ap (λ r. f (get_or r i x, get_or ws i w)) same in
    ap (λ b. b && list_all f (zip (drop (i + 1) xs) (drop (i + 1) ws))) here ∙ ap (list_all f) (sym (zip_drop xs ws i x w in_xs in_ws)) ∙ before

-- and where it isn't, not all are
pub pair_broken : {X : Type 0} (f : X × ℕ → Bool) (rows xs : List X) (ws : List ℕ) (i : ℕ) (x : X) (w : ℕ) {met whole : Bool} → rows ≡ xs → i < length rows → length ws ≡ length xs → met ≡ f (get_or rows i x, get_or ws i w) → met ≡ false →
    list_all f (zip (drop i xs) (drop i ws)) ≡ whole → false ≡ whole
pair_broken f rows xs ws i x w same in_rows alike is fails before =
    let n = ap length same in
    let in_xs : i < length xs = omega (arith, n, in_rows) in
    let in_ws : i < length ws = omega (arith, alike, in_xs) in
    let here : false ≡ f (get_or xs i x, get_or ws i w) = sym fails ∙ is ∙ ap (λ r. f (get_or r i x, get_or ws i w)) same in
    ap (λ b. b && list_all f (zip (drop (i + 1) xs) (drop (i + 1) ws))) here ∙ ap (list_all f) (sym (zip_drop xs ws i x w in_xs in_ws)) ∙ before

-- where none is to come, all are met
pub pairs_met : {X : Type 0} (f : X × ℕ → Bool) (rows xs : List X) (ws : List ℕ) (i : ℕ) {whole : Bool} → rows ≡ xs → length rows ≤ i → list_all f (zip (drop i xs) (drop i ws)) ≡ whole → true ≡ whole
pairs_met f rows xs ws i same past before =
    let n = ap length same in
    let at_end : length xs ≤ i = omega (arith, n, past) in
    ap (list_all f) (sym (zip_past xs ws i at_end)) ∙ before

-- lines of a list, of which the next is written
pub next_of_list : {X : Type 0} (f : X → List ℕ) (xs : List X) (i : ℕ) (d : X) (old text grown : List ℕ) → i < length xs → grown ≡ text ++ f (get_or xs i d) →
    text ≡ old ++ flat_map f (take i xs) → grown ≡ old ++ flat_map f (take (i + 1) xs)
next_of_list f xs i d old text grown here is before =
    is ∙ ap (λ t. t ++ f (get_or xs i d)) before ∙ flat_map_more f old (take i xs) (get_or xs i d) ∙ ap (λ l. old ++ flat_map f l) (sym (take_more xs i d here))

enumerate_push : {X : Type 0} (n k : ℕ) (xs : List X) (x : X) → n + length xs ≡ k → enumerate_from n (xs ++ x ∷ []) ≡ enumerate_from n xs ++ (k, x) ∷ []
enumerate_push n k [] x at = ap (λ j. (j, x) ∷ []) (omega (arith, at))
enumerate_push n k (y ∷ ys) x at = ap (λ l. (n, y) ∷ l) (enumerate_push (n + 1) k ys x (omega (arith, at)))

-- lines of a numbered list, of which the next is written
pub next_of_numbered : {X : Type 0} (f : ℕ × X → List ℕ) (xs : List X) (i : ℕ) (d : X) (old text grown : List ℕ) → i < length xs → grown ≡ text ++ f (i, get_or xs i d) →
    text ≡ old ++ flat_map f (enumerate_from 0 (take i xs)) → grown ≡ old ++ flat_map f (enumerate_from 0 (take (i + 1) xs))
next_of_numbered f xs i d old text grown here is before =
    let n = length-take i xs in
    is ∙ ap (λ t. t ++ f (i, get_or xs i d)) before ∙ flat_map_more f old (enumerate_from 0 (take i xs)) (i, get_or xs i d)
    ∙ ap (λ l. old ++ flat_map f l) (sym (ap (enumerate_from 0) (take_more xs i d here) ∙ enumerate_push 0 i (take i xs) (get_or xs i d) (omega (arith, n, here))))
