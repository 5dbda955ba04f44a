-- Lists of references, beside the lists of what they point to.
use Rattle.std.proofs.Common.{◌≡◌, ◌+◌, Bool, cond, not, ◌||◌, nat_lt, List, [], ◌∷◌, map, length, Some, None, refl, sym, ap, ◌∙◌}
use Rattle.std.proofs.lemmas.List.{length-map}
use Rattle.std.specs.List.{list_any, position, prefix_len}

pub any-map : {X Y : Type 0} (f : X → Y) (p : Y → Bool) (xs : List X) → list_any (λ x. p (f x)) xs ≡ list_any p (map f xs)
any-map f p [] = refl
any-map f p (x ∷ xs) = ap (λ b. p (f x) || b) (any-map f p xs)

prefix_len-map : {X Y : Type 0} (f : X → Y) (p : Y → Bool) (xs : List X) → prefix_len (λ x. p (f x)) xs ≡ prefix_len p (map f xs)
prefix_len-map f p [] = refl
prefix_len-map f p (x ∷ xs) = ap (λ n. cond (p (f x)) (1 + n) 0) (prefix_len-map f p xs)

pub position-map : {X Y : Type 0} (f : X → Y) (p : Y → Bool) (xs : List X) → position (λ x. p (f x)) xs ≡ position p (map f xs)
position-map f p xs =
    let place = prefix_len-map f (λ y. not (p y)) xs in
    let same = sym (length-map xs f) in
    ap (λ n. cond (nat_lt n (length xs)) (Some n) None) place ∙ ap (λ n. cond (nat_lt (prefix_len (λ y. not (p y)) (map f xs)) n) (Some (prefix_len (λ y. not (p y)) (map f xs))) None) same
