-- A pool at its beginning keeps what a pool keeps.
use Rattle.std.proofs.Common.{◌≡◌, ℕ, ◌+◌, ◌*◌, ◌≤◌, Bool, true, false, List, [], ◌∷◌, map, length, refl, sym, ap, subst, ◌∙◌, arith}
use Rattle.std.specs.List.{AllByRecursion}
use Rattle.std.specs.Ordering.{nat_cmp}
use Rattle.std.specs.FinMap.Entries.{put}
use Rattle.std.specs.FinMap.{FinMap, empty, insert, entries, values, entries-insert, len-entries, len-empty}
use Rattle.std.proofs.lemmas.Cmp.{nat_cmp_total}
use Rattle.std.proofs.lemmas.List.Elements.{All-from_recursion}
use Rattle.rows.specs.Parts.{ProblemParts}
use Rattle.rows.specs.Cube.{whole}
use Rattle.search_core.specs.declared.limits.TheConstants.{BRANCHINGS}
use Rattle.search_core.specs.declared.entry.Entry.{Entry}
use Rattle.search_core.specs.Node.{Node, Open, is_open}
use Rattle.search_core.specs.State.{SearchState, start_of}
use Rattle.search_core.specs.History.{IsReached, IsAllOpen, is_reopen}
use Rattle.search_core.specs.Step.{NamesWorkerBelow}
use Rattle.node_pool.specs.Pool.{IsTeam, IsPool}

no_entries : (b : ℕ) → 0 ≤ 4 * (2 * b + 1)
no_entries b = omega arith

abbrev none_yet : FinMap nat_cmp Node
none_yet = empty

no_length : (es : List (ℕ × Node)) → length es ≡ 0 → es ≡ []
no_length [] e = refl
no_length (x ∷ es) e = absurd (omega (arith, e))

only_root : entries (insert none_yet 0 (Open whole)) ≡ (0, Open whole) ∷ []
only_root = entries-insert nat_cmp_total none_yet 0 (Open whole) ∙ ap (put nat_cmp 0 (Open whole)) (no_length (entries none_yet) (sym (len-entries none_yet) ∙ len-empty nat_cmp Node))

-- at the start nothing is held, pending, under study or parked
pub start_is_open : (limit : ℕ) → IsAllOpen (start_of limit)
start_is_open limit =
    All-from_recursion (λ node. is_open node ≡ true) (values (start_of limit).nodes)
    (subst (λ (es : List (ℕ × Node)). AllByRecursion (λ node. is_open node ≡ true) (map (λ e. e.1) es)) (sym only_root) (refl, tt))

-- a pool that runs from a state from which it may, with an empty history
pub pool_begins : (problem : ProblemParts) (workers analysts spare : ℕ) (short : Bool) (base state : SearchState) (history : List Entry)
    → IsReached problem base → IsAllOpen base → IsTeam workers analysts → state ≡ base → history ≡ []
    → IsPool (record { problem = problem; base = base; workers = workers; analysts = analysts; history = history; state = state; spare = spare; short = short })
pool_begins problem workers analysts spare short base state history reached all team state_is history_is =
    let P : SearchState → List Entry → Type 0 =
    λ s h. IsPool (record { problem = problem; base = base; workers = workers; analysts = analysts; history = h; state = s; spare = spare; short = short }) in
    let here : P base [] = record {
      team = team;
      base = record { reached = reached; all_open = all };
      steps = refl;
      no_reopen = All-from_recursion (λ e. is_reopen e ≡ false) [] tt;
      workers_below = All-from_recursion (NamesWorkerBelow workers) [] tt;
      diligent = tt;
      few = no_entries base.branchings;
    } in
    subst (λ s. P s history) (sym state_is) (subst (λ h. P base h) (sym history_is) here)

-- the start is such a state
pub start_is_reached : (problem : ProblemParts) (limit : ℕ) (base : SearchState) → limit ≤ BRANCHINGS → base ≡ start_of limit → IsReached problem base
start_is_reached problem limit base few is = (limit, [], record { few = few; steps = is })

pub all_open_at_start : (limit : ℕ) (base : SearchState) → base ≡ start_of limit → IsAllOpen base
all_open_at_start limit base is = subst IsAllOpen (sym is) (start_is_open limit)
