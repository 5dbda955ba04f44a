-- The candidate of a cube in which nothing is free.
use Rattle.std.proofs.Common.{◌≡◌, ℕ, ◌+◌, ◌≤◌, Bool, true, false, ◌&&◌, nat_lt, filter, length, refl, sym, ap, subst, ◌∙◌, arith}
use Rattle.std.specs.List.{range_with_len}
use Rattle.std.proofs.lemmas.Bool.{lt-ltb, ltb-true}
use Rattle.arch_model.specs.Set.{Set, has}
use Rattle.arch_model.specs.Parts.{LibraryParts, ArchitectureParts}
use Rattle.arch_model.specs.Library.{IsLibrary}
use Rattle.arch_model.specs.Architecture.{IsArchitecture}
use Rattle.arch_model.specs.Member.{is_in, is_present, member_count, KeepsEnds}
use Rattle.arch_model.proofs.Members.{same_test, is_in-filter, is_in-range}
use Rattle.arch_model.proofs.SetLaws.{same_set}
use Rattle.rows.specs.Parts.{CubeParts, ProblemParts}
use Rattle.rows.specs.Cube.{IsCubeBelow, IsFull, LiesIn, FixesBelow}
use Rattle.rows.specs.Problem.{IsProblem, IsCandidate}
use Rattle.rows.proofs.VectorLaws.{vector_keeps_ends}
use Rattle.binary_program.specs.CubeOf.{IsCubeOf}
use Rattle.binary_program.proofs.CubeLaws.{read_off, cubed_off_sets, same_architecture, Passing}
use Rattle.redundancy_cut.proofs.NumberSets.{has-set_of_numbers, in_range}
use Rattle.search_core.specs.Candidate.{set_where, candidate_of}
use Rattle.search_core.specs.Invariant.{MeetsBaseRows}

and_swap : (a b : Bool) → (a && b) ≡ (b && a)
and_swap true true = refl
and_swap true false = refl
and_swap false true = refl
and_swap false false = refl

range_is : (n c : ℕ) → is_in (range_with_len 0 n) c ≡ nat_lt c n
range_is n c = same_test (is_in (range_with_len 0 n) c) (nat_lt c n)
    (λ on. let low = in_range 0 n c on in lt-ltb c n (omega arith))
    (λ on. let low = ltb-true c n on in is_in-range 0 n c (omega arith) (omega arith))

pub has-where : (n : ℕ) (test : ℕ → Bool) (k : ℕ) → has (set_where n test) k ≡ (nat_lt k n && test k)
has-where n test k = has-set_of_numbers (filter test (range_with_len 0 n)) k ∙ is_in-filter test (range_with_len 0 n) k ∙ ap (λ b. test k && b) (range_is n k) ∙ and_swap (test k) (nat_lt k n)

-- what a full cube over the members fixes is what is below their number
pub fixes_below : (n : ℕ) (cube : CubeParts) → IsFull n cube → IsCubeBelow n cube → FixesBelow n cube
fixes_below n cube full below v = same_test (has cube.fixed v) (nat_lt v n) (λ on. lt-ltb v n (below v on)) (λ on. full v (ltb-true v n on))

-- the candidate of a cube is the architecture with this cube
pub candidate_has_cube : (lib : LibraryParts) (cube : CubeParts) → IsFull (member_count lib) cube → IsCubeBelow (member_count lib) cube → IsCubeOf lib (candidate_of lib cube) cube
unfolding candidate_of
candidate_has_cube lib cube full below =
    cubed_off_sets lib cube cube.ones (set_where (length lib.components) (has cube.ones)) (set_where (length lib.edges) (λ e. has cube.ones (length lib.components + e))) lib.components lib.edges (candidate_of lib cube)
    (fixes_below (member_count lib) cube full below) refl refl refl refl
    (has-where (length lib.components) (has cube.ones)) (has-where (length lib.edges) (λ e. has cube.ones (length lib.components + e)))

candidate_reads : (lib : LibraryParts) (cube : CubeParts) → IsLibrary lib → KeepsEnds lib (has cube.ones) → IsArchitecture lib (candidate_of lib cube)
unfolding candidate_of
candidate_reads lib cube right ends =
    read_off lib (has cube.ones) (candidate_of lib cube) right ends
    (has-where (length lib.components) (has cube.ones)) (has-where (length lib.edges) (λ e. has cube.ones (length lib.components + e)))

-- and it is an architecture that meets every pattern and has every required sink, where the cube's vector meets all base rows
pub candidate_is : (problem : ProblemParts) (cube : CubeParts) → IsLibrary problem.library → IsProblem problem → MeetsBaseRows problem cube → IsCubeBelow (member_count problem.library) cube → IsCandidate problem.library (candidate_of problem.library cube)
candidate_is problem cube right is meets below =
    let some = (is.decide.exact (has cube.ones)).0 meets.rows in
    let reads : IsArchitecture problem.library (candidate_of problem.library cube) =
    candidate_reads problem.library cube right (vector_keeps_ends problem.library some.0 (has cube.ones) right some.1 some.2.meets.architecture) in
    let cubed = candidate_has_cube problem.library cube meets.full below in
    let same : some.0 ≡ candidate_of problem.library cube =
    same_architecture problem.library some.0 (candidate_of problem.library cube) some.2.meets.architecture reads (λ v short. sym (some.1 v short) ∙ cubed.ones v short) in
    let P : ArchitectureParts → Type 0 = IsCandidate problem.library in
    subst P same some.2

-- no other architecture lies in the cube
pub candidate_lies_alone : (lib : LibraryParts) (cube : CubeParts) (arch : ArchitectureParts) → IsFull (member_count lib) cube → IsCubeBelow (member_count lib) cube → IsArchitecture lib (candidate_of lib cube) → IsArchitecture lib arch
    → LiesIn (is_present lib arch) cube → arch ≡ candidate_of lib cube
candidate_lies_alone lib cube arch full below is other lies =
    let cubed = candidate_has_cube lib cube full below in
    same_architecture lib arch (candidate_of lib cube) other is (λ v short. lies v (full v short) ∙ cubed.ones v short)

-- a set of the numbers below n that pass a test is the set of them
pub passed_is : (p : ℕ → Bool) (n m : ℕ) (s : Set) → Passing p m s → m ≤ n → n ≤ m → s ≡ set_where n p
passed_is p n m s passing low high =
    let same : m ≡ n = omega arith in
    same_set s (set_where n p) (λ k. passing k ∙ ap (λ (j : ℕ). nat_lt k j && p k) same ∙ sym (has-where n p k))
