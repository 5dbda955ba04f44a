-- What judging an entry finds.
use Rattle.std.proofs.Common.{◌≡◌, ℕ, ◌<◌, Bool, true, false, not, nat_eq, List, Option, Some, None, Result, Ok, Err, ◌&&◌, nat_lt, refl, sym, ap, subst, ◌∙◌, inl, inr}
use Rattle.std.specs.Prelude.{IfErr}
use Rattle.std.specs.Option.{option_eq}
use Rattle.std.proofs.lemmas.Bool.{eqb-true, ltb-true, lt-ltb}
use Rattle.rows.specs.Parts.{CubeParts, ProblemParts}
use Rattle.search_core.specs.State.{SearchState, known_at}
use Rattle.search_core.specs.Follow.{follow_trace}
use Rattle.search_core.specs.Step.{IsHeldBy, IsTraced, Branches, branched}
use Rattle.search_core.specs.Rules.{HeldFails, IsFreeVariable, BranchBreaks}
use Rattle.search_core.specs.declared.limits.TheConstants.{WORKERS}
use Rattle.search_core.specs.declared.rule.Rule.{Rule}
use Rattle.search_core.specs.declared.rule.Rule.TheVariants as rule
use Rattle.rows.specs.declared.known.RowRef.{RowRef}
use Rattle.rows.specs.Cube.{is_free}
use Rattle.arch_model.specs.Member.{member_count}
use Rattle.arch_model.proofs.Members.{and_left, and_right, and_both}

-- bounds that are compared
pub same_bound : (a b : Option ℕ) → false ≡ not (option_eq nat_eq a b) → a ≡ b
same_bound None None e = refl
same_bound None (Some b) e = absurd (let f : false ≡ true = e in cc)
same_bound (Some a) None e = absurd (let f : false ≡ true = e in cc)
same_bound (Some a) (Some b) e = ap (λ n. Some n) (eqb-true a b (not_false (nat_eq a b) e)) where
  not_false : (t : Bool) → false ≡ not t → t ≡ true
  not_false true h = refl
  not_false false h = sym (let f : true ≡ false = sym h in f)

-- what a trace that was stopped says
pub trace_breaks : (problem : ProblemParts) (state : SearchState) (worker n : ℕ) (trace : List RowRef) → worker < WORKERS → (h : IsHeldBy state worker n) (res : Result CubeParts Rule) → res ≡ follow_trace (known_at problem state h.cuts h.bound) h.cube trace
    → IfErr res (λ broken. HeldFails problem state worker n trace broken)
trace_breaks problem state worker n trace few h (Ok after) e = tt
trace_breaks problem state worker n trace few h (Err told) e = inr (few, inr (h, record { whose = h; stops = sym e }))

-- who holds a node with a trace
abbrev pub holder : {problem : ProblemParts} {state : SearchState} {worker n : ℕ} {trace : List RowRef} → IsTraced problem state worker n trace → IsHeldBy state worker n
holder t = record { cube = t.cube; cuts = t.cuts; bound = t.bound; held = t.held }

-- a free variable
pub free_there : (problem : ProblemParts) (cube : CubeParts) (v : ℕ) → true ≡ (nat_lt v (member_count problem.library) && is_free cube v) → IsFreeVariable problem cube v
free_there problem cube v e = record {
  variable = ltb-true v (member_count problem.library) (and_left (nat_lt v (member_count problem.library)) (is_free cube v) (sym e));
  free = and_right (nat_lt v (member_count problem.library)) (is_free cube v) (sym e);
}

pub free_not : (problem : ProblemParts) (cube : CubeParts) (v : ℕ) → false ≡ (nat_lt v (member_count problem.library) && is_free cube v) → IsFreeVariable problem cube v → ⊥
free_not problem cube v e free =
    let f : true ≡ false = sym (and_both (nat_lt v (member_count problem.library)) (is_free cube v) (lt-ltb v (member_count problem.library) free.variable) free.free) ∙ sym e in cc

-- a Branch
module _ (problem : ProblemParts) (state : SearchState) (worker n : ℕ) (trace : List RowRef) (v : ℕ) (after : CubeParts) (few : worker < WORKERS) (t : (s : IsTraced problem state worker n trace) × (s.after ≡ after)) where
  pub branch_not_free : (IsFreeVariable problem after v → ⊥) → BranchBreaks problem state worker n trace v rule.Free
  branch_not_free none = inr (few, inr (holder t.0, inr (t.0, inl ((λ free. none (let P : CubeParts → Type 0 = λ c. IsFreeVariable problem c v in subst P t.1 free)), refl))))

  its_free : IsFreeVariable problem after v → IsFreeVariable problem t.0.after v
  its_free free = let P : CubeParts → Type 0 = λ c. IsFreeVariable problem c v in subst P (sym t.1) free

  pub branch_at_limit : IsFreeVariable problem after v → (state.branchings < state.limit → ⊥) → BranchBreaks problem state worker n trace v rule.Limit
  branch_at_limit free none = inr (few, inr (holder t.0, inr (t.0, inr (its_free free, inl (none, refl)))))

  pub branch_fits : IsFreeVariable problem after v → state.branchings < state.limit → (m : ℕ) → m ≡ n → Branches problem state worker n trace v (branched state m after v)
  branch_fits free less m named = record {
    traced = t.0;
    variable = (its_free free).variable;
    free = (its_free free).free;
    below = less;
    next = ap (λ i. branched state i after v) named ∙ ap (λ c. branched state n c v) (sym t.1);
  }
