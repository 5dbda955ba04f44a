-- Lists that are built from the numbered items of another, as loops meet them.
use Rattle.std.proofs.Common.{◌≡◌, ℕ, ◌+◌, ◌<◌, ◌≤◌, Bool, true, false, cond, List, [], ◌∷◌, ◌++◌, map, filter, length, get_or, take, refl, sym, ap, ◌∙◌, arith}
use Rattle.std.specs.List.{flat_map, enumerate_from}
use Rattle.std.proofs.lemmas.List.{take_all, take_more, length-take-le, append-nil, append_assoc, map-append, map_more}
use Rattle.std.proofs.lemmas.List.Concat.{flat_map-append}
use Rattle.std.proofs.lemmas.List.Elements.{filter-append}

-- one more item with its number
enumerate_push : {X : Type 0} (k j : ℕ) (xs : List X) (x : X) → k + length xs ≡ j → enumerate_from k (xs ++ x ∷ []) ≡ enumerate_from k xs ++ (j, x) ∷ []
enumerate_push k j [] x e = let same : k ≡ j = omega arith in ap (λ n. (n, x) ∷ []) same
enumerate_push k j (y ∷ xs) x e = ap (λ l. (k, y) ∷ l) (enumerate_push (k + 1) j xs x (omega arith))

pub enumerate_more : {X : Type 0} (k : ℕ) (xs : List X) (i j : ℕ) (d : X) → i < length xs → k + i ≡ j → enumerate_from k (take (i + 1) xs) ≡ enumerate_from k (take i xs) ++ (j, get_or xs i d) ∷ []
enumerate_more k xs i j d here e =
    let le : i ≤ length xs = omega arith in
    ap (enumerate_from k) (take_more xs i d here) ∙ enumerate_push k j (take i xs) (get_or xs i d) (omega (arith, length-take-le i xs le))

-- what is made of each item
pub made_more : {X Y : Type 0} (f : ℕ × X → Y) (k : ℕ) (xs : List X) (i j : ℕ) (d : X) → i < length xs → k + i ≡ j
    → map f (enumerate_from k (take (i + 1) xs)) ≡ map f (enumerate_from k (take i xs)) ++ f (j, get_or xs i d) ∷ []
made_more f k xs i j d here e =
    ap (map f) (enumerate_more k xs i j d here e) ∙ map-append f (enumerate_from k (take i xs)) ((j, get_or xs i d) ∷ [])

-- what is made of the items that pass a test
abbrev pub picked : {X Y : Type 0} → (ℕ × X → Bool) → (ℕ × X → Y) → ℕ → List X → List Y
picked q f k xs = map f (filter q (enumerate_from k xs))

one_picked : {X Y : Type 0} (f : ℕ × X → Y) (b : Bool) (p : ℕ × X) → map f (cond b (p ∷ []) []) ≡ cond b (f p ∷ []) []
one_picked f true p = refl
one_picked f false p = refl

picked_more : {X Y : Type 0} (q : ℕ × X → Bool) (f : ℕ × X → Y) (k : ℕ) (xs : List X) (i j : ℕ) (d : X) → i < length xs → k + i ≡ j
    → picked q f k (take (i + 1) xs) ≡ picked q f k (take i xs) ++ cond (q (j, get_or xs i d)) (f (j, get_or xs i d) ∷ []) []
picked_more q f k xs i j d here e =
    ap (λ l. map f (filter q l)) (enumerate_more k xs i j d here e)
    ∙ ap (map f) (filter-append q (enumerate_from k (take i xs)) ((j, get_or xs i d) ∷ []))
    ∙ map-append f (filter q (enumerate_from k (take i xs))) (cond (q (j, get_or xs i d)) ((j, get_or xs i d) ∷ []) [])
    ∙ ap (λ l. picked q f k (take i xs) ++ l) (one_picked f (q (j, get_or xs i d)) (j, get_or xs i d))

pub picked_yes : {X Y : Type 0} (q : ℕ × X → Bool) (f : ℕ × X → Y) (k : ℕ) (xs : List X) (i j : ℕ) (d : X) → i < length xs → k + i ≡ j → q (j, get_or xs i d) ≡ true
    → picked q f k (take (i + 1) xs) ≡ picked q f k (take i xs) ++ f (j, get_or xs i d) ∷ []
picked_yes q f k xs i j d here e passes = picked_more q f k xs i j d here e ∙ ap (λ b. picked q f k (take i xs) ++ cond b (f (j, get_or xs i d) ∷ []) []) passes

pub picked_no : {X Y : Type 0} (q : ℕ × X → Bool) (f : ℕ × X → Y) (k : ℕ) (xs : List X) (i j : ℕ) (d : X) → i < length xs → k + i ≡ j → q (j, get_or xs i d) ≡ false
    → picked q f k (take (i + 1) xs) ≡ picked q f k (take i xs)
picked_no q f k xs i j d here e fails = picked_more q f k xs i j d here e ∙ ap (λ b. picked q f k (take i xs) ++ cond b (f (j, get_or xs i d) ∷ []) []) fails ∙ append-nil (picked q f k (take i xs))

-- a loop that appends what is made of the items that pass
pub items_yes : {X Y : Type 0} (q : ℕ × X → Bool) (f : ℕ × X → Y) (k : ℕ) (xs : List X) (i j : ℕ) (d : X) (start before after : List Y) → i < length xs → k + i ≡ j
    → before ≡ start ++ picked q f k (take i xs) → after ≡ before ++ f (j, get_or xs i d) ∷ [] → q (j, get_or xs i d) ≡ true → after ≡ start ++ picked q f k (take (i + 1) xs)
items_yes q f k xs i j d start before after here e so_far step passes =
    step ∙ ap (λ l. l ++ f (j, get_or xs i d) ∷ []) so_far ∙ append_assoc start (picked q f k (take i xs)) (f (j, get_or xs i d) ∷ [])
    ∙ ap (λ l. start ++ l) (sym (picked_yes q f k xs i j d here e passes))

pub items_no : {X Y : Type 0} (q : ℕ × X → Bool) (f : ℕ × X → Y) (k : ℕ) (xs : List X) (i j : ℕ) (d : X) (start before after : List Y) → i < length xs → k + i ≡ j
    → before ≡ start ++ picked q f k (take i xs) → after ≡ before → q (j, get_or xs i d) ≡ false → after ≡ start ++ picked q f k (take (i + 1) xs)
items_no q f k xs i j d start before after here e so_far step fails = step ∙ so_far ∙ ap (λ l. start ++ l) (sym (picked_no q f k xs i j d here e fails))

-- the whole list, at the end of the loop
pub picked_all : {X Y : Type 0} (q : ℕ × X → Bool) (f : ℕ × X → Y) (k : ℕ) (xs ys : List X) (i : ℕ) → xs ≡ ys → length xs ≤ i → picked q f k (take i xs) ≡ picked q f k ys
picked_all q f k xs ys i same past = ap (picked q f k) (take_all i xs past ∙ same)

-- loops that append what is made of each item, which is seen by a number: one thing or several
pub each_number_more : {X Y : Type 0} (g : X → ℕ) (f : ℕ → Y) (xs : List X) (i : ℕ) (d : X) (start before after : List Y) → i < length xs
    → before ≡ start ++ map f (map g (take i xs)) → after ≡ before ++ f (g (get_or xs i d)) ∷ [] → after ≡ start ++ map f (map g (take (i + 1) xs))
each_number_more g f xs i d start before after here so_far step =
    step ∙ ap (λ l. l ++ f (g (get_or xs i d)) ∷ []) so_far ∙ append_assoc start (map f (map g (take i xs))) (f (g (get_or xs i d)) ∷ [])
    ∙ ap (λ l. start ++ l) (sym (ap (map f) (map_more g xs i d here) ∙ map-append f (map g (take i xs)) (g (get_or xs i d) ∷ [])))

pub joined_number_more : {X Y : Type 0} (g : X → ℕ) (f : ℕ → List Y) (xs : List X) (i : ℕ) (d : X) (start before after : List Y) → i < length xs
    → before ≡ start ++ flat_map f (map g (take i xs)) → after ≡ before ++ f (g (get_or xs i d)) → after ≡ start ++ flat_map f (map g (take (i + 1) xs))
joined_number_more g f xs i d start before after here so_far step =
    step ∙ ap (λ l. l ++ f (g (get_or xs i d))) so_far ∙ append_assoc start (flat_map f (map g (take i xs))) (f (g (get_or xs i d)))
    ∙ ap (λ l. start ++ l) (sym (ap (flat_map f) (map_more g xs i d here) ∙ flat_map-append f (map g (take i xs)) (g (get_or xs i d) ∷ []) ∙ ap (λ l. flat_map f (map g (take i xs)) ++ l) (append-nil (f (g (get_or xs i d))))))

-- the same where each item is seen with its number
pub numbered_more : {X Y : Type 0} (f : ℕ × X → Y) (k : ℕ) (xs : List X) (i j : ℕ) (d : X) (start before after : List Y) → i < length xs → k + i ≡ j
    → before ≡ start ++ map f (enumerate_from k (take i xs)) → after ≡ before ++ f (j, get_or xs i d) ∷ [] → after ≡ start ++ map f (enumerate_from k (take (i + 1) xs))
numbered_more f k xs i j d start before after here e so_far step =
    step ∙ ap (λ l. l ++ f (j, get_or xs i d) ∷ []) so_far ∙ append_assoc start (map f (enumerate_from k (take i xs))) (f (j, get_or xs i d) ∷ []) ∙ ap (λ l. start ++ l) (sym (made_more f k xs i j d here e))
