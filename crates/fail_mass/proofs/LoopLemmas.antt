-- A loop that collects those of a set's members that pass a test.
use Rattle.std.proofs.Common.{◌≡◌, ℕ, ◌<◌, Bool, true, false, ◌||◌, ◌&&◌, nat_eq, List, [], ◌∷◌, refl, sym, ap, ◌∙◌}
use Rattle.std.proofs.lemmas.Bool.{eqb-true, eq-eqb}
use Rattle.arch_model.specs.Set.{Set, has, empty, put, members_below}
use Rattle.arch_model.specs.Member.{is_in}
use Rattle.arch_model.proofs.Members.{or_left, or_right, same_test, is_in-members, has-from_members}
use Rattle.arch_model.proofs.SetLaws.{has-empty, has-put}

or_none : (b : Bool) → (b || false) ≡ b
or_none true = refl
or_none false = refl

and_none : (b : Bool) → (b && false) ≡ false
and_none true = refl
and_none false = refl

-- b: is in the set; e: is the next; r: comes later; q: passes
next_passes : (b e r q : Bool) → (e ≡ true → q ≡ true) → ((b || e) || (r && q)) ≡ (b || ((e || r) && q))
next_passes true e r q h = refl
next_passes false true r q h = sym (h refl)
next_passes false false r q h = refl

next_fails : (b e r q : Bool) → (e ≡ true → q ≡ false) → (b || (r && q)) ≡ (b || ((e || r) && q))
next_fails true e r q h = refl
next_fails false true r q h = ap (λ y. r && y) (h refl) ∙ and_none r ∙ sym (h refl)
next_fails false false r q h = refl

pub first_in : (all rest : List ℕ) (v : ℕ) → all ≡ v ∷ rest → is_in all v ≡ true
first_in all rest v is = ap (λ l. is_in l v) is ∙ or_left (nat_eq v v) (is_in rest v) (eq-eqb v v refl)

pub later_in : (all rest : List ℕ) (v c : ℕ) → all ≡ v ∷ rest → is_in rest c ≡ true → is_in all c ≡ true
later_in all rest v c is h = ap (λ l. is_in l c) is ∙ or_right (nat_eq v c) (is_in rest c) h

module _ (p : ℕ → Bool) (c : ℕ) where
  -- at the start all are to come
  pub start : (members found : Set) (all : List ℕ) (n : ℕ) → found ≡ empty → all ≡ members_below members n → ((v : ℕ) → has members v ≡ true → v < n)
      → (has found c || (is_in all c && p c)) ≡ (has members c && p c)
  start members found all n none is small =
      ap (λ s. has s c || (is_in all c && p c)) none
      ∙ ap (λ b. b || (is_in all c && p c)) (has-empty c)
      ∙ ap (λ b. b && p c) (ap (λ l. is_in l c) is ∙ same_test (is_in (members_below members n) c) (has members c) (has-from_members members n c) (λ h. is_in-members members n c h (small c h)))

  -- one that passes is put in
  pub put_next : (before after : Set) (all rest : List ℕ) (v : ℕ) → all ≡ v ∷ rest → p v ≡ true → after ≡ put before v → (has after c || (is_in rest c && p c)) ≡ (has before c || (is_in all c && p c))
  put_next before after all rest v is passes grown =
      ap (λ s. has s c || (is_in rest c && p c)) grown
      ∙ ap (λ b. b || (is_in rest c && p c)) (has-put before v c)
      ∙ next_passes (has before c) (nat_eq v c) (is_in rest c) (p c) (λ e. ap p (sym (eqb-true v c e)) ∙ passes)
      ∙ ap (λ l. has before c || (is_in l c && p c)) (sym is)

  -- one that doesn't is passed over
  pub pass_next : (before after : Set) (all rest : List ℕ) (v : ℕ) → all ≡ v ∷ rest → p v ≡ false → after ≡ before → (has after c || (is_in rest c && p c)) ≡ (has before c || (is_in all c && p c))
  pass_next before after all rest v is fails same =
      ap (λ s. has s c || (is_in rest c && p c)) same
      ∙ next_fails (has before c) (nat_eq v c) (is_in rest c) (p c) (λ e. ap p (sym (eqb-true v c e)) ∙ fails)
      ∙ ap (λ l. has before c || (is_in l c && p c)) (sym is)

  -- at the end none is to come
  pub done : (found : Set) (all : List ℕ) (b : Bool) → all ≡ [] → (has found c || (is_in all c && p c)) ≡ b → has found c ≡ b
  done found all b none so_far = sym (or_none (has found c)) ∙ ap (λ l. has found c || (is_in l c && p c)) (sym none) ∙ so_far
