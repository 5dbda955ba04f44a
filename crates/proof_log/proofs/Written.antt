-- Texts that grow part by part.
use Rattle.std.proofs.Common.{◌≡◌, ℕ, ◌+◌, ◌≤◌, ◌<◌, List, [], ◌∷◌, ◌++◌, map, take, length, get_or, codes, refl, sym, ap, ◌∙◌, append_assoc}
use Rattle.std.specs.List.{flat_map}
use Rattle.std.specs.Prelude.{Result, Ok, Err, OnErr}
use Rattle.std.proofs.lemmas.List.{append-nil, take_all, take_at, take_more}
use Rattle.proof_log.specs.Field.{list_text}
use Rattle.proof_log.specs.Inner.Writing.{StaysInFront}

pub stays_same : (old new : List ℕ) → new ≡ old → StaysInFront old new
stays_same old new e = record { more = []; parts = e ∙ sym (append-nil old) }

pub stays_with : (old new more : List ℕ) → new ≡ old ++ more → StaysInFront old new
stays_with old new more e = record { more = more; parts = e }

pub stays_through : (old mid new : List ℕ) → StaysInFront old mid → StaysInFront mid new → StaysInFront old new
stays_through old mid new a b = record { more = a.more ++ b.more; parts = b.parts ∙ ap (λ (l : List ℕ). l ++ b.more) a.parts ∙ append_assoc old a.more b.more }

-- after two writes, of which the second failed
pub stays_after : (old mid next new more : List ℕ) → StaysInFront old mid → next ≡ mid ++ more → StaysInFront next new → StaysInFront old new
stays_after old mid next new more a e b = stays_through old mid new a (stays_through mid next new (stays_with mid next more e) b)

pub on_err_holds : {T E P : Type 0} (r : Result T E) → P → OnErr r P
on_err_holds (Ok x) p = tt
on_err_holds (Err e) p = p

-- what was written before is what stands in front
pub front_stays : (old new : List ℕ) → StaysInFront old new → take (length old) new ≡ old
front_stays old new s = ap (λ (l : List ℕ). take (length old) l) s.parts ∙ take_at old s.more (length old) refl

pub flat_map-map : {A B C : Type 0} (g : B → List C) (f : A → B) (xs : List A) → flat_map g (map f xs) ≡ flat_map (λ x. g (f x)) xs
flat_map-map g f [] = refl
flat_map-map g f (x ∷ xs) = ap (λ l. g (f x) ++ l) (flat_map-map g f xs)

-- the first item is written, and all others behind a comma
pub list_done : {A B : Type 0} (text : B → List ℕ) (f : A → B) (xs : List A) (first : A) (others : List A) (i : ℕ) (before mid after : List ℕ) → xs ≡ first ∷ others → mid ≡ before ++ text (f first)
    → after ≡ mid ++ flat_map (λ y. codes "," ++ text (f y)) (take i others) → length others ≤ i → after ≡ before ++ list_text text (map f xs)
list_done {A = A} text f xs first others i before mid after parts one rest le =
    let g : A → List ℕ = λ y. codes "," ++ text (f y) in
    rest
    ∙ ap (λ l. mid ++ flat_map g l) (take_all i others le)
    ∙ ap (λ (l : List ℕ). l ++ flat_map g others) one
    ∙ append_assoc before (text (f first)) (flat_map g others)
    ∙ ap (λ (l : List ℕ). before ++ (text (f first) ++ l)) (sym (flat_map-map (λ y. codes "," ++ text y) f others))
    ∙ ap (λ l. before ++ list_text text (map f l)) (sym parts)

-- the same where what is left shrinks
pub numbers_done : (text : ℕ → List ℕ) (all : List ℕ) (first : ℕ) (others start end : List ℕ) (before mid after : List ℕ) → all ≡ first ∷ others → mid ≡ before ++ text first → start ≡ others → end ≡ []
    → after ++ flat_map (λ y. codes "," ++ text y) end ≡ mid ++ flat_map (λ y. codes "," ++ text y) start → after ≡ before ++ list_text text all
numbers_done text all first others start end before mid after parts one begins ends rest =
    let g : ℕ → List ℕ = λ y. codes "," ++ text y in
    sym (append-nil after)
    ∙ ap (λ l. after ++ flat_map g l) (sym ends)
    ∙ rest
    ∙ ap (λ l. mid ++ flat_map g l) begins
    ∙ ap (λ (l : List ℕ). l ++ flat_map g others) one
    ∙ append_assoc before (text first) (flat_map g others)
    ∙ ap (λ l. before ++ list_text text l) (sym parts)

-- one more part behind the first i
pub one_more : {A : Type 0} (g : A → List ℕ) (xs : List A) (i : ℕ) (x : A) (before out mid after text : List ℕ) → i < length xs → x ≡ get_or xs i x → out ≡ before ++ flat_map g (take i xs) → mid ≡ out ++ codes " "
    → after ≡ mid ++ text → codes " " ++ text ≡ g x → after ≡ before ++ flat_map g (take (i + 1) xs)
one_more {A = A} g xs i x before out mid after text lt item so_far space part same =
    part
    ∙ ap (λ (l : List ℕ). l ++ text) space
    ∙ append_assoc out (codes " ") text
    ∙ ap (λ (l : List ℕ). out ++ l) same
    ∙ ap (λ (l : List ℕ). l ++ g x) so_far
    ∙ append_assoc before (flat_map g (take i xs)) (g x)
    ∙ ap (λ (l : List ℕ). before ++ l) (flat_map_push g (take i xs) x)
    ∙ ap (λ (l : List A). before ++ flat_map g l) (ap (λ (y : A). take i xs ++ y ∷ []) item ∙ sym (take_more xs i x lt))
  where
    flat_map_push : {A : Type 0} (g : A → List ℕ) (xs : List A) (x : A) → flat_map g xs ++ g x ≡ flat_map g (xs ++ x ∷ [])
    flat_map_push g [] x = sym (append-nil (g x))
    flat_map_push g (y ∷ ys) x = append_assoc (g y) (flat_map g ys) (g x) ∙ ap (λ (l : List ℕ). g y ++ l) (flat_map_push g ys x)
