-- The weight is the sum over the list of minimal cut sets of positive product.
use Rattle.std.proofs.Common.{◌≡◌, ℕ, zero, suc, ◌+◌, ◌<◌, Bool, true, false, cond, ◌&&◌, nat_lt, List, [], ◌∷◌, ◌++◌, map, filter, sum_by, get_or, refl, sym, ap, ◌∙◌, subst, arith, inl, inr, All}
use Rattle.std.specs.List.Sorted.{IsStrictlyIncreasing}
use Rattle.std.proofs.lemmas.Bool.{lt-ltb}
use Rattle.std.proofs.lemmas.List.Sums.{sum_by-cons, sum_by-append}
use Rattle.arch_model.specs.declared.sets.VarId.{VarId}
use Rattle.arch_model.specs.Parts.{LibraryParts, ArchitectureParts}
use Rattle.arch_model.specs.Architecture.{IsArchitecture}
use Rattle.arch_model.specs.Member.{is_in, member_count, present_members}
use Rattle.arch_model.specs.CutSet.{is_minimal_cut_set, nonempty_sublists, sublists}
use Rattle.arch_model.specs.Weight.{product_of, sum_over_sublists, weight_of}
use Rattle.arch_model.proofs.Reaching.{present_small}
use Rattle.cut_sets.specs.CutSets.{cut_sets_of}
use Rattle.cut_sets.proofs.Filters.{live_sublists}
use Rattle.paths.proofs.Loops.{get_in}
use Rattle.cut_sets.proofs.Listed.{Among, contains_among, listed_exact}

sum_map : (f : List ℕ → ℕ) (g : List ℕ → List ℕ) (ms : List (List ℕ)) → sum_by f (map g ms) ≡ sum_by (λ m. f (g m)) ms
sum_map f g [] = refl
sum_map f g (m ∷ ms) = sum_by-cons f (g m) (map g ms) ∙ ap (λ n. f (g m) + n) (sum_map f g ms) ∙ sym (sum_by-cons (λ l. f (g l)) m ms)

-- a sum over all sublists is a sum over their list
sum_listed : (f : List ℕ → ℕ) (cs : List ℕ) → sum_over_sublists f cs ≡ sum_by f (sublists cs)
sum_listed f [] = omega arith
sum_listed f (c ∷ cs) =
    let without_c = sum_listed f cs ∙ sum_by-cons f [] (nonempty_sublists cs) in
    let with_c = sum_listed (λ m. f (c ∷ m)) cs ∙ sum_by-cons (λ m. f (c ∷ m)) [] (nonempty_sublists cs) in
    let both = sum_by-append f (map (λ m. c ∷ m) (nonempty_sublists cs)) (nonempty_sublists cs) in
    let mapped = sum_map f (λ m. c ∷ m) (nonempty_sublists cs) in
    let whole = sum_by-cons f [] (nonempty_sublists (c ∷ cs)) ∙ ap (λ n. f [] + n) (sum_by-cons f (c ∷ []) (map (λ m. c ∷ m) (nonempty_sublists cs) ++ nonempty_sublists cs)) in
    omega (arith, without_c, with_c, both, mapped, whole)

none_left : (n : ℕ) → nat_lt 0 n ≡ false → n ≡ 0
none_left zero h = refl
none_left (suc n) h = let e : false ≡ true = sym h ∙ lt-ltb 0 (suc n) (omega arith) in absurd cc

-- what is 0 can be left out of a sum
abbrev counted : (List ℕ → Bool) → (List ℕ → ℕ) → List (List ℕ) → List (List ℕ)
counted p f ms = filter (λ m. p m && nat_lt 0 (f m)) ms

one_counted : (f : List ℕ → ℕ) (m : List ℕ) (a b : Bool) (rest : List (List ℕ)) (n : ℕ) → nat_lt 0 (f m) ≡ b → n ≡ sum_by f rest → cond a (f m) 0 + n ≡ sum_by f (cond (a && b) (m ∷ rest) rest)
one_counted f m true true rest n some e = let c = sum_by-cons f m rest in omega (arith, c, e)
one_counted f m true false rest n none e = let z = none_left (f m) none in omega (arith, z, e)
one_counted f m false b rest n h e = omega (arith, e)

sum_filter : (p : List ℕ → Bool) (f : List ℕ → ℕ) (ms : List (List ℕ)) → sum_by (λ m. cond (p m) (f m) 0) ms ≡ sum_by f (counted p f ms)
sum_filter p f [] = refl
sum_filter p f (m ∷ ms) =
    sum_by-cons (λ l. cond (p l) (f l) 0) m ms
    ∙ one_counted f m (p m) (nat_lt 0 (f m)) (counted p f ms) (sum_by (λ l. cond (p l) (f l) 0) ms) refl (sum_filter p f ms)

pub weight_listed : (lib : LibraryParts) (arch : ArchitectureParts) (sink : ℕ) → weight_of lib arch sink ≡ sum_by (product_of lib) (cut_sets_of lib arch sink)
unfolding weight_of
weight_listed lib arch sink =
    sum_listed (λ m. cond (is_minimal_cut_set lib arch sink m) (product_of lib m) 0) (present_members lib arch)
    ∙ sum_filter (is_minimal_cut_set lib arch sink) (product_of lib) (sublists (present_members lib arch))
    ∙ ap (sum_by (product_of lib)) (sym (live_sublists lib arch sink))

-- some lists with members that ascend and are in range
abbrev pub AreSets : LibraryParts → List (List ℕ) → Type 0
AreSets lib sets = (m : List ℕ) → Among sets m → IsStrictlyIncreasing m × ((c : ℕ) → is_in m c ≡ true → c < member_count lib)

pub all_sets : (lib : LibraryParts) (arch : ArchitectureParts) → IsArchitecture lib arch → (sink : ℕ) → AreSets lib (cut_sets_of lib arch sink)
all_sets lib arch fits sink m h =
    let minimal = (listed_exact lib arch fits sink m).0 ((contains_among (cut_sets_of lib arch sink) m).1 h) in
    (minimal.0.ascending, λ c i. present_small lib arch fits c (minimal.0.present c i))

pub sets_later : (lib : LibraryParts) (m : List ℕ) (sets rest : List (List ℕ)) → sets ≡ m ∷ rest → AreSets lib sets → AreSets lib rest
sets_later lib m sets rest is all l h = all l (subst (λ s. Among s l) (sym is) (inr h))

pub first_ascends : (lib : LibraryParts) (m : List ℕ) (sets rest : List (List ℕ)) → sets ≡ m ∷ rest → AreSets lib sets → IsStrictlyIncreasing m
first_ascends lib m sets rest is all = (all m (subst (λ s. Among s m) (sym is) (inl refl))).0

pub first_in_range : (lib : LibraryParts) (members : List VarId) (sets rest : List (List ℕ)) → sets ≡ map (λ v. v.0) members ∷ rest → AreSets lib sets → All (λ v. v.0 < member_count lib) members
first_in_range lib members sets rest is all k d short = (all (map (λ (v : VarId). v.0) members) (subst (λ s. Among s (map (λ (v : VarId). v.0) members)) (sym is) (inl refl))).1 (get_or members k d).0 (get_in members k d short)

-- one more product in the sum
pub sum_next : (lib : LibraryParts) (total product weight : ℕ) (m : List ℕ) (now rest : List (List ℕ)) → now ≡ m ∷ rest → product ≡ product_of lib m
    → total + sum_by (product_of lib) now ≡ weight → total + product + sum_by (product_of lib) rest ≡ weight
sum_next lib total product weight m now rest is value so_far =
    let e = ap (sum_by (product_of lib)) is ∙ sum_by-cons (product_of lib) m rest in omega (arith, e, value, so_far)
