-- Tests of present edges.
use Rattle.std.proofs.Common.{◌≡◌, ◌≢◌, ℕ, ◌≤◌, Bool, true, false, ◌&&◌, not, nat_eq, IsTrue, ◌↔◌, List, length, take, sym, ap, ◌∙◌, inl, inr}
use Rattle.std.specs.List.{All, list_all}
use Rattle.std.proofs.lemmas.Bool.{eq-eqb}
use Rattle.std.proofs.lemmas.Bool.Decides.{eqb_tells}
use Rattle.std.proofs.lemmas.List.{take_all}
use Rattle.std.proofs.lemmas.List.Sums.{AllPass-from_list_all, list_all-from_AllPass}
use Rattle.std.proofs.lemmas.List.Elements.{All-weaker}
use Rattle.arch_model.specs.declared.sets.CompId.{CompId}
use Rattle.arch_model.specs.declared.template.Edge.{Edge}
use Rattle.arch_model.specs.Set.{Set, has}
use Rattle.arch_model.specs.Architecture.{present}

-- whether an edge goes elsewhere than from one component to another
abbrev pub elsewhere : ℕ → ℕ → Edge → Bool
elsewhere tail head e = not (nat_eq e.tail.0 tail && nat_eq e.head.0 head)

not_both : (a b c d : ℕ) → not (nat_eq a c && nat_eq b d) ≡ true → a ≡ c → b ≡ d → ⊥
not_both a b c d h e f =
    let both : nat_eq a c ≡ true = eq-eqb a c e in
    let too : nat_eq b d ≡ true = eq-eqb b d f in
    absurd (let impossible : false ≡ true = sym (ap not (ap (λ x. x && nat_eq b d) both ∙ too)) ∙ h in cc)

goes_elsewhere : (tail head : CompId) (e : Edge) → elsewhere tail.0 head.0 e ≡ true → e.tail ≡ tail → e.head ≢ head
goes_elsewhere tail head e h t u = not_both e.tail.0 e.head.0 tail.0 head.0 h (ap (λ c. c.0) t) (ap (λ c. c.0) u)

same_component : (a b : CompId) → a.0 ≡ b.0 → a ≡ b
same_component a b h i = record { 0 = h i }

is_elsewhere : (tail head : CompId) (e : Edge) → (e.tail ≡ tail → e.head ≢ head) → elsewhere tail.0 head.0 e ≡ true
is_elsewhere tail head e apart = elim (eqb_tells e.tail.0 tail.0) [
  | inl w ↦ elim (eqb_tells e.head.0 head.0) [
    | inl v ↦ absurd (apart (same_component e.tail tail w.1) (same_component e.head head v.1))
    | inr v ↦ ap (λ x. not (x && nat_eq e.head.0 head.0)) w.0 ∙ ap not v.0
  ]
  | inr w ↦ ap (λ x. not (x && nat_eq e.head.0 head.0)) w.0
]

-- the test of all present edges
pub none_goes_exact : (tail head : CompId) (s s' : Set) (xs ys : List Edge) (i : ℕ) (b : Bool) → length xs ≤ i → xs ≡ ys → s ≡ s' → b ≡ list_all (elsewhere tail.0 head.0) (present (has s) (take i xs))
    → IsTrue b ↔ All (λ e. e.tail ≡ tail → e.head ≢ head) (present (has s') ys)
none_goes_exact tail head s s' xs ys i b past same chosen h =
    let whole : b ≡ list_all (elsewhere tail.0 head.0) (present (has s') ys) = h ∙ ap (λ l. list_all (elsewhere tail.0 head.0) (present (has s) l)) (take_all i xs past ∙ same) ∙ ap (λ t. list_all (elsewhere tail.0 head.0) (present (has t) ys)) chosen in (
      λ yes. All-weaker (λ e. elsewhere tail.0 head.0 e ≡ true) (λ e. e.tail ≡ tail → e.head ≢ head) (goes_elsewhere tail head) (present (has s') ys) (AllPass-from_list_all (elsewhere tail.0 head.0) (present (has s') ys) (sym whole ∙ yes)),
      λ all. whole ∙ list_all-from_AllPass (elsewhere tail.0 head.0) (present (has s') ys) (All-weaker (λ e. e.tail ≡ tail → e.head ≢ head) (λ e. elsewhere tail.0 head.0 e ≡ true) (is_elsewhere tail head) (present (has s') ys) all),
    )

pub fails : (a b after : Bool) → b ≡ false → after ≡ false → after ≡ (a && b)
fails true b after e f = f ∙ sym e
fails false b after e f = f

pub passes : (a b after : Bool) → b ≡ true → after ≡ a → after ≡ (a && b)
passes true b after e f = f ∙ sym e
passes false b after e f = f
