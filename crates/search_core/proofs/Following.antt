-- Following a trace, as the code has it.
use Rattle.std.proofs.Common.{◌≡◌, ℕ, zero, suc, ◌+◌, ◌<◌, ◌≤◌, Bool, true, false, List, [], ◌∷◌, drop, length, get_or, Option, Some, None, Ok, Err, IfSome, option_map, refl, sym, ap, ◌∙◌, arith, if◌then◌else◌}
use Rattle.std.specs.Prelude.{is_some}
use Rattle.std.specs.Option.{option_and_then}
use Rattle.std.proofs.lemmas.List.{drop_more}
use Rattle.arch_model.specs.declared.limits.TheConstants.{MEMBERS}
use Rattle.arch_model.specs.Member.{member_count}
use Rattle.rows.specs.declared.known.RowRef.{RowRef}
use Rattle.rows.specs.Parts.{RowParts, CubeParts, KnownParts}
use Rattle.rows.specs.Cube.{fixed_at}
use Rattle.rows.specs.Activity.{least_forced}
use Rattle.rows.specs.Known.{row_at, has_row, IsKnown}
use Rattle.rows.specs.Problem.{IsProblem}
use Rattle.rows.specs.Trace.{cube_after, cube_after_step}
use Rattle.search_core.specs.declared.rule.Rule.{Rule}
use Rattle.search_core.specs.declared.rule.Rule.TheVariants.{Row, Step}
use Rattle.search_core.specs.Follow.{or_rule, then_follow, follow_step, follow_trace}
use Rattle.search_core.proofs.Options.{none_is_some, same_some, from_if_some, same_ok, err_is_ok}
use Rattle.search_core.proofs.KnownAt.{known_rows_below}
use Rattle.search_core.proofs.TraceLaws.{forced_below}

-- a row that is there
pub there_is : {X : Type 0} (o : Option X) → is_some o ≡ true → (x : X) × (o ≡ Some x)
there_is (Some x) h = (x, refl)
there_is None h = absurd (let f : false ≡ true = h in cc)

-- a forced variable is one that a cube can have
pub small_forced : (known : KnownParts) (r : RowRef) (cube : CubeParts) (v count : ℕ) (b : Bool) → IsProblem known.problem → IsKnown known → has_row known r ≡ true → IfSome (row_at known r) (λ row. Some (v, b) ≡ least_forced row cube)
    → count ≡ member_count known.problem.library → count ≤ MEMBERS → v < MEMBERS
small_forced known r cube v count b is of has first same few =
    let there = there_is (row_at known r) has in
    let forced : Some (v, b) ≡ least_forced there.0 cube = from_if_some (λ row. Some (v, b) ≡ least_forced row cube) (row_at known r) there.0 first there.1 in
    let low : v < member_count known.problem.library = forced_below (member_count known.problem.library) there.0 cube v b (known_rows_below known is of.cuts r there.0 there.1) (sym forced) in
    omega arith

-- a legal trace is followed to its end
step_is : (known : KnownParts) (cube next : CubeParts) (r : RowRef) → cube_after_step known cube r ≡ Some next → follow_step known cube r ≡ Ok next
step_is known cube next r e =
    let there : has_row known r ≡ true = named (row_at known r) e in
    ap (λ b. if b then or_rule (cube_after_step known cube r) Step else Err Row) there ∙ ap (λ o. or_rule o Step) e where
      named : (o : Option RowParts) → option_and_then (λ row. option_map (λ p. fixed_at cube p.0 p.1) (least_forced row cube)) o ≡ Some next → is_some o ≡ true
      named (Some row) h = refl
      named None h = none_is_some next h

pub legal_is_followed : (known : KnownParts) (trace : List RowRef) (cube after : CubeParts) → cube_after known cube trace ≡ Some after → follow_trace known cube trace ≡ Ok after
legal_is_followed known [] cube after e = ap (λ c. Ok c) (same_some e)
legal_is_followed known (r ∷ trace) cube after e = by_step (λ next h. legal_is_followed known trace next after h) (cube_after_step known cube r) refl e where
  by_step : ((next : CubeParts) → cube_after known next trace ≡ Some after → follow_trace known next trace ≡ Ok after) → (o : Option CubeParts) → cube_after_step known cube r ≡ o → option_and_then (λ next. cube_after known next trace) o ≡ Some after
      → follow_trace known cube (r ∷ trace) ≡ Ok after
  by_step rest None is h = none_is_some after h
  by_step rest (Some next) is h = ap (λ res. then_follow res (λ n. follow_trace known n trace)) (step_is known cube next r is) ∙ rest next h

-- a turn of the loop
pub goes_on : (known : KnownParts) (trace items : List RowRef) (from reached next : CubeParts) (i : ℕ) (r : RowRef) → follow_trace known from trace ≡ follow_trace known reached (drop i items) → i < length items
    → Ok next ≡ follow_step known reached (get_or items i r) → follow_trace known from trace ≡ follow_trace known next (drop (i + 1) items)
goes_on known trace items from reached next i r so_far short step =
    so_far ∙ ap (follow_trace known reached) (drop_more items i r short) ∙ ap (λ res. then_follow res (λ n. follow_trace known n (drop (i + 1) items))) (sym step)

pub stops : (known : KnownParts) (trace items : List RowRef) (from reached : CubeParts) (rule : Rule) (i : ℕ) (r : RowRef) → follow_trace known from trace ≡ follow_trace known reached (drop i items) → i < length items
    → Err rule ≡ follow_step known reached (get_or items i r) → Err rule ≡ follow_trace known from trace
stops known trace items from reached rule i r so_far short step =
    sym (so_far ∙ ap (follow_trace known reached) (drop_more items i r short) ∙ ap (λ res. then_follow res (λ n. follow_trace known n (drop (i + 1) items))) (sym step))

pub at_end : (known : KnownParts) (trace items : List RowRef) (from reached : CubeParts) (i : ℕ) → follow_trace known from trace ≡ follow_trace known reached (drop i items) → length items ≤ i → Ok reached ≡ follow_trace known from trace
at_end known trace items from reached i so_far far = sym (so_far ∙ ap (follow_trace known reached) (drop_past items i far)) where
  drop_past : (xs : List RowRef) (i : ℕ) → length xs ≤ i → drop i xs ≡ []
  drop_past [] zero h = refl
  drop_past [] (suc i) h = refl
  drop_past (x ∷ xs) zero h = absurd (omega arith)
  drop_past (x ∷ xs) (suc i) h = drop_past xs i (omega arith)

-- and a trace that is followed to its end is legal
pub followed_is_legal : (known : KnownParts) (trace : List RowRef) (cube after : CubeParts) → follow_trace known cube trace ≡ Ok after → cube_after known cube trace ≡ Some after
followed_is_legal known [] cube after e = ap (λ c. Some c) (same_ok e)
followed_is_legal known (r ∷ trace) cube after e = by_row (λ next h. followed_is_legal known trace next after h) (has_row known r) (cube_after_step known cube r) refl e where
  by_row : ((next : CubeParts) → follow_trace known next trace ≡ Ok after → cube_after known next trace ≡ Some after) → (b : Bool) (o : Option CubeParts) → cube_after_step known cube r ≡ o
      → then_follow (if b then or_rule o Step else Err Row) (λ n. follow_trace known n trace) ≡ Ok after → cube_after known cube (r ∷ trace) ≡ Some after
  by_row rest true (Some next) is h = ap (λ o. option_and_then (λ n. cube_after known n trace) o) is ∙ rest next h
  by_row rest true None is h = err_is_ok Step after h
  by_row rest false o is h = err_is_ok Row after h
