-- The loop that asks whether no edge of an architecture leads into a set from outside.
use Rattle.std.proofs.Common.{◌≡◌, ℕ, ◌<◌, true, false, not, ◌&&◌, List, length, get_or, Some, sym, ap, ◌∙◌, inl, inr}
use Rattle.std.specs.Prelude.{slice_get, IsTrue}
use Rattle.std.specs.List.{All, AllByRecursion}
use Rattle.std.proofs.lemmas.Option.{slice_get-get_or}
use Rattle.arch_model.specs.declared.template.Edge.{Edge}
use Rattle.arch_model.specs.Set.{Set, has, members_below}
use Rattle.arch_model.specs.Parts.{LibraryParts, ArchitectureParts}
use Rattle.arch_model.specs.Architecture.{present_edges}
use Rattle.arch_model.proofs.Members.{and_left, and_right, and_both, bool_cases, not_true}
use Rattle.redundancy_cut.proofs.EdgeLaws.{closed_at, closed_from}
use Rattle.redundancy_cut.proofs.MemberLists.{to_members}

-- where edge e leads into a set, it comes from within
abbrev pub IsClosedAt : List Edge → Set → ℕ → Type 0
IsClosedAt edges cone e = (edge : Edge) → slice_get edges e ≡ Some edge → has cone edge.head.0 ≡ true → has cone edge.tail.0 ≡ true

-- whether all that the loop goes over do
pub all_closed : (lib : LibraryParts) (arch : ArchitectureParts) (cone : Set) (edges : List Edge) (chosen : Set) (n : ℕ) (items : List ℕ) → edges ≡ lib.edges → chosen ≡ arch.edges → items ≡ members_below chosen n
    → ((e : ℕ) → has arch.edges e ≡ true → e < n) → AllByRecursion (IsClosedAt edges cone) items → All (λ e. IsTrue (has cone e.head.0) → IsTrue (has cone e.tail.0)) (present_edges lib arch)
all_closed lib arch cone edges chosen n items rows same is small all =
    closed_from lib arch cone (λ k edge at here into.
    to_members (IsClosedAt edges cone) arch.edges n items (is ∙ ap (λ s. members_below s n) same) small all k here edge (ap (λ l. slice_get l k) rows ∙ at) into)

-- one that leads in
pub one_open : (lib : LibraryParts) (arch : ArchitectureParts) (cone : Set) (edges : List Edge) (k : ℕ) (d : Edge) → edges ≡ lib.edges → k < length edges → has arch.edges k ≡ true
    → (has cone (get_or edges k d).head.0 && not (has cone (get_or edges k d).tail.0)) ≡ true → All (λ e. IsTrue (has cone e.head.0) → IsTrue (has cone e.tail.0)) (present_edges lib arch) → ⊥
one_open lib arch cone edges k d rows short here open_ all =
    let edge = get_or edges k d in
    let at = ap (λ l. slice_get l k) (sym rows) ∙ slice_get-get_or edges k d short in
    not_true (has cone edge.tail.0) (and_right (has cone edge.head.0) (not (has cone edge.tail.0)) open_)
    (closed_at lib arch cone all k edge at here (and_left (has cone edge.head.0) (not (has cone edge.tail.0)) open_))

-- one that doesn't
pub one_closed : (cone : Set) (edges : List Edge) (k : ℕ) (d : Edge) → k < length edges → (has cone (get_or edges k d).head.0 && not (has cone (get_or edges k d).tail.0)) ≡ false → IsClosedAt edges cone k
one_closed cone edges k d short shut edge at into =
    let same : get_or edges k d ≡ edge = (let e : Some (get_or edges k d) ≡ Some edge = sym (slice_get-get_or edges k d short) ∙ at in cc) in
    elim (bool_cases (has cone edge.tail.0)) [
      | inl within ↦ within
      | inr outside ↦
          let e : false ≡ true = sym shut ∙ ap (λ (x : Edge). has cone x.head.0 && not (has cone x.tail.0)) same ∙ and_both (has cone edge.head.0) (not (has cone edge.tail.0)) into (ap not outside) in absurd cc
    ]
