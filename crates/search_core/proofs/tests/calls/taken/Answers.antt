use Rattle.std.proofs.Common.{◌≡◌, ℕ, None, lit<, refl, sym, subst, ◌∙◌}
use Rattle.std.specs.FinMap.{empty}
use Rattle.rows.specs.Parts.{ProblemParts}
use Rattle.rows.specs.Cube.{whole}
use Rattle.search_core.specs.declared.entry.Entry.TheVariants.{Take}
use Rattle.search_core.specs.Node.{Open, Held}
use Rattle.search_core.specs.State.{SearchState, start_of}
use Rattle.search_core.specs.Step.{Step, with_node}
use Rattle.search_core.specs.History.{IsReached}
use Rattle.search_core.proofs.NodeMap.{get-insert_same}
use Rattle.search_core.proofs.tests.calls.taken.Goals as goal

-- the root may be taken at the start
may_take : (problem : ProblemParts) (state : SearchState) (limit : ℕ) → state ≡ start_of limit → (new : SearchState) × Step problem state (Take 0 0 0 None) new
may_take problem state limit is =
    let P : SearchState → Type 0 = λ s. (new : SearchState) × Step problem s (Take 0 0 0 None) new in
    subst P (sym is) (
      with_node (start_of limit) 0 (Held whole 0 0 None),
      record { worker = lit< tt; fits = record { cube = whole; opened = get-insert_same empty 0 (Open whole); cuts_now = refl; bound_now = refl; next = refl } },
    )

pub apply-requires-clause-of : goal.apply-requires-clause-of
apply-requires-clause-of c = record {
  reached = subst (IsReached c.args.problem.now) (sym c.in_ok-reserve.ensures.search) c.in_ok-state.ensures.of.reached;
  components = c.in_ok-reserve.ensures.components ∙ c.in_ok-state.ensures.of.components;
  edges = c.in_ok-reserve.ensures.edges ∙ c.in_ok-state.ensures.of.edges;
}

pub apply-requires-clause-case : goal.apply-requires-clause-case
apply-requires-clause-case c = may_take c.args.problem.now c.reserve.new.self.search c.args.limit (c.in_ok-reserve.ensures.search ∙ c.in_ok-state.ensures.search)
