-- Loops over the members of a set and of a list.
use Rattle.std.proofs.Common.{◌≡◌, ℕ, zero, suc, ◌+◌, ◌<◌, ◌≤◌, Bool, true, false, ◌&&◌, ◌||◌, nat_eq, List, [], ◌∷◌, map, take, get_or, length, refl, sym, ap, ◌∙◌, arith, ◌⊎◌, inl, inr}
use Rattle.std.proofs.lemmas.Bool.{eqb-true, eq-eqb}
use Rattle.std.proofs.lemmas.List.{take_more, map-append}
use Rattle.arch_model.specs.declared.sets.VarId.{VarId}
use Rattle.arch_model.specs.Set.{Set, has, put}
use Rattle.arch_model.specs.Member.{is_in}
use Rattle.arch_model.proofs.Members.{or_left, or_right, or_cases, is_in-append}
use Rattle.arch_model.proofs.SetLaws.{has-put}

pub first_in : (all rest : List ℕ) (v : ℕ) → all ≡ v ∷ rest → is_in all v ≡ true
first_in all rest v is = ap (λ l. is_in l v) is ∙ or_left (nat_eq v v) (is_in rest v) (eq-eqb v v refl)

pub later_in : (all rest : List ℕ) (v c : ℕ) → all ≡ v ∷ rest → is_in rest c ≡ true → is_in all c ≡ true
later_in all rest v c is h = ap (λ l. is_in l c) is ∙ or_right (nat_eq v c) (is_in rest c) h

first_or_later : (all rest : List ℕ) (v c : ℕ) → all ≡ v ∷ rest → is_in all c ≡ true → (v ≡ c) ⊎ (is_in rest c ≡ true)
first_or_later all rest v c is h = elim (or_cases (nat_eq v c) (is_in rest c) (ap (λ l. is_in l c) (sym is) ∙ h)) [
  | inl here ↦ inl (eqb-true v c here)
  | inr later ↦ inr later
]

pub put_keeps : (before after : Set) (v c : ℕ) → after ≡ put before v → has before c ≡ true → has after c ≡ true
put_keeps before after v c is h = ap (λ s. has s c) is ∙ has-put before v c ∙ or_left (has before c) (nat_eq v c) h

put_here : (before after : Set) (v c : ℕ) → after ≡ put before v → v ≡ c → has after c ≡ true
put_here before after v c is same = ap (λ s. has s c) is ∙ has-put before v c ∙ or_right (has before c) (nat_eq v c) (eq-eqb v c same)

-- each is in the set or still to come, after one that is put in
pub put_or_later : (before after : Set) (all rest : List ℕ) (v c : ℕ) → all ≡ v ∷ rest → after ≡ put before v → (has before c ≡ true) ⊎ (is_in all c ≡ true) → (has after c ≡ true) ⊎ (is_in rest c ≡ true)
put_or_later before after all rest v c is grown so_far = elim so_far [
  | inl h ↦ inl (put_keeps before after v c grown h)
  | inr h ↦ elim (first_or_later all rest v c is h) [ inl same ↦ inl (put_here before after v c grown same) | inr later ↦ inr later ]
]

-- and after one that need not be
pub passed_or_later : (wide : Set) (all rest : List ℕ) (v at c : ℕ) → all ≡ v ∷ rest → v < at → at ≤ c → (has wide c ≡ true) ⊎ (is_in all c ≡ true) → (has wide c ≡ true) ⊎ (is_in rest c ≡ true)
passed_or_later wide all rest v at c is below from so_far = elim so_far [
  | inl h ↦ inl h
  | inr h ↦ elim (first_or_later all rest v c is h) [ inl same ↦ absurd (omega (arith, same, below, from)) | inr later ↦ inr later ]
]

pub all_put : (wide : Set) (all : List ℕ) (c : ℕ) → all ≡ [] → (has wide c ≡ true) ⊎ (is_in all c ≡ true) → has wide c ≡ true
all_put wide all c none so_far = elim so_far [
  | inl h ↦ h
  | inr h ↦ absurd (let e : false ≡ true = ap (λ l. is_in l c) (sym none) ∙ h in cc)
]

-- an element of a list of members is among their numbers
pub get_in : (members : List VarId) (i : ℕ) (d : VarId) → i < length members → is_in (map (λ v. v.0) members) (get_or members i d).0 ≡ true
get_in [] i d h = absurd (omega arith)
get_in (m ∷ ms) zero d h = or_left (nat_eq m.0 m.0) (is_in (map (λ (v : VarId). v.0) ms) m.0) (eq-eqb m.0 m.0 refl)
get_in (m ∷ ms) (suc i) d h = or_right (nat_eq m.0 (get_or ms i d).0) (is_in (map (λ (v : VarId). v.0) ms) (get_or ms i d).0) (get_in ms i d (omega arith))

pub or_none : (b : Bool) → (b || false) ≡ b
or_none true = refl
or_none false = refl

-- one more element of a list put into a set
pub put_next : (members : List VarId) (i : ℕ) (d : VarId) (before after : Set) → i < length members → after ≡ put before (get_or members i d).0
    → (c : ℕ) → has before c ≡ is_in (map (λ v. v.0) (take i members)) c → has after c ≡ is_in (map (λ v. v.0) (take (i + 1) members)) c
put_next members i d before after short grown c so_far =
    let item = get_or members i d in
    ap (λ s. has s c) grown ∙ has-put before item.0 c
    ∙ ap (λ b. b || nat_eq item.0 c) so_far
    ∙ ap (λ b. is_in (map (λ (v : VarId). v.0) (take i members)) c || b) (sym (or_none (nat_eq item.0 c)))
    ∙ sym (is_in-append (map (λ (v : VarId). v.0) (take i members)) (item.0 ∷ []) c)
    ∙ ap (λ l. is_in l c) (sym (ap (map (λ (v : VarId). v.0)) (take_more members i d short) ∙ map-append (λ (v : VarId). v.0) (take i members) (item ∷ [])))

pub or_assoc : (a b c : Bool) → ((a || b) || c) ≡ (a || (b || c))
or_assoc true b c = refl
or_assoc false b c = refl

-- what is in the set or still to come stays so
pub put_same : (before after : Set) (all rest : List ℕ) (v c : ℕ) → all ≡ v ∷ rest → after ≡ put before v → (has after c || is_in rest c) ≡ (has before c || is_in all c)
put_same before after all rest v c is grown =
    ap (λ b. b || is_in rest c) (ap (λ s. has s c) grown ∙ has-put before v c)
    ∙ or_assoc (has before c) (nat_eq v c) (is_in rest c)
    ∙ ap (λ l. has before c || is_in l c) (sym is)

pub all_same : (found : Set) (all : List ℕ) (c : ℕ) (b : Bool) → all ≡ [] → (has found c || is_in all c) ≡ b → has found c ≡ b
all_same found all c b none so_far = sym (or_none (has found c)) ∙ ap (λ l. has found c || is_in l c) (sym none) ∙ so_far

-- a set stays inside another when one of that is put in
pub put_inside : (before after all : Set) (v : ℕ) → after ≡ put before v → has all v ≡ true → (c : ℕ) → (has before c ≡ true → has all c ≡ true) → has after c ≡ true → has all c ≡ true
put_inside before after all v grown there c inside h = elim (or_cases (has before c) (nat_eq v c) (sym (ap (λ s. has s c) grown ∙ has-put before v c) ∙ h)) [
  | inl here ↦ inside here
  | inr same ↦ ap (has all) (sym (eqb-true v c same)) ∙ there
]

-- the members of a set that pass a test: one that passes is put in, another left out
put_test : (f e r p : Bool) → (e ≡ true → p ≡ true) → ((f || e) || (r && p)) ≡ (f || ((e || r) && p))
put_test true e r p h = refl
put_test false true r p h = sym (h refl)
put_test false false r p h = refl

left_test : (f e r p : Bool) → (e ≡ true → p ≡ false) → (f || (r && p)) ≡ (f || ((e || r) && p))
left_test f true r p h = ap (λ b. f || (r && b)) (h refl) ∙ ap (λ b. f || b) (and_none r) ∙ ap (λ b. f || b) (sym (h refl)) where
  and_none : (b : Bool) → (b && false) ≡ false
  and_none true = refl
  and_none false = refl
left_test f false r p h = refl

module _ (p : ℕ → Bool) where
  pub passing_put : (before after : Set) (all rest : List ℕ) (v c : ℕ) → all ≡ v ∷ rest → after ≡ put before v → p v ≡ true → (has after c || (is_in rest c && p c)) ≡ (has before c || (is_in all c && p c))
  passing_put before after all rest v c is grown passes =
      ap (λ b. b || (is_in rest c && p c)) (ap (λ s. has s c) grown ∙ has-put before v c)
      ∙ put_test (has before c) (nat_eq v c) (is_in rest c) (p c) (λ e. ap p (sym (eqb-true v c e)) ∙ passes)
      ∙ ap (λ l. has before c || (is_in l c && p c)) (sym is)

  pub passing_left : (found : Set) (all rest : List ℕ) (v c : ℕ) → all ≡ v ∷ rest → p v ≡ false → (has found c || (is_in rest c && p c)) ≡ (has found c || (is_in all c && p c))
  passing_left found all rest v c is fails =
      left_test (has found c) (nat_eq v c) (is_in rest c) (p c) (λ e. ap p (sym (eqb-true v c e)) ∙ fails)
      ∙ ap (λ l. has found c || (is_in l c && p c)) (sym is)

  pub passing_done : (found : Set) (all : List ℕ) (c : ℕ) → all ≡ [] → has found c ≡ (has found c || (is_in all c && p c))
  passing_done found all c none = sym (or_none (has found c)) ∙ ap (λ l. has found c || (is_in l c && p c)) (sym none)
