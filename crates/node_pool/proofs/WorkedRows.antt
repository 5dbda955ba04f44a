-- Definitions computed: which numbers make a team, which lists of cuts begin alike, what a pool says of its parts, and a run of a pool.
use Rattle.std.proofs.Common.{◌≡◌, ℕ, lit<, lit≤, true, false, [], ◌∷◌, Some, None, inl, refl, ap, subst, arith}
use Rattle.std.proofs.lemmas.List.Elements.{All-from_recursion}
use Rattle.rows.specs.Parts.{CutParts, ProblemParts}
use Rattle.rows.specs.Cube.{whole}
use Rattle.search_core.specs.declared.sought.Sought.TheVariants.{Of}
use Rattle.search_core.specs.declared.entry.Entry.TheVariants.{Take}
use Rattle.search_core.specs.Node.{is_open, is_pending}
use Rattle.search_core.specs.State.{SearchState, start_of}
use Rattle.search_core.specs.Step.{NamesWorkerBelow}
use Rattle.search_core.specs.History.{is_reopen}
use Rattle.search_core.specs.Diligent.{IsDiligent}
use Rattle.search_core.specs.Sought.{sought_by}
use Rattle.search_core.specs.Parts.{StateParts}
use Rattle.search_core.specs.HistoryParts.{HistoryParts}
use Rattle.search_core.proofs.Places.{get-map}
use Rattle.search_core.proofs.WorkedRows.{problem_p, best_p, history_p, reaches_p, diligent_p, at, at_start, at_1, at_end, start_listed, take_root, root-last, each_listed}
use Rattle.node_pool.specs.declared.ticket.SearchTicket.{SearchTicket}
use Rattle.node_pool.specs.declared.ticket.Work.TheVariants.{Node as ANode}
use Rattle.node_pool.specs.Parts.{PoolParts, pool_of}
use Rattle.node_pool.specs.Pool.{IsTeam, IsPool}
use Rattle.node_pool.specs.Tickets.{BeginAlike}
use Rattle.node_pool.specs.Holding.{IsIdle}
use Rattle.node_pool.specs.Taking.{HandsOut, IsWaiting}
use Rattle.node_pool.specs.Topic.{topic_of}
use Rattle.node_pool.proofs.Beginning.{start_is_open}
use Rattle.node_pool.proofs.InHand.{idle_where}

-- one worker who is an analyst, and 64 workers who all are
one_alone : IsTeam 1 1
one_alone = record { some_workers = omega arith; few_workers = omega arith; few_analysts = omega arith }

sixty_four : IsTeam 64 64
sixty_four = record { some_workers = omega arith; few_workers = omega arith; few_analysts = omega arith }

-- nobody, 65 workers, and more analysts than workers are no team
nobody : IsTeam 0 0 → ⊥
nobody team = let some = team.some_workers in omega (arith, some)

sixty_five : IsTeam 65 0 → ⊥
sixty_five team = let few = team.few_workers in omega (arith, few)

three_of_two : IsTeam 2 3 → ⊥
three_of_two team = let few = team.few_analysts in omega (arith, few)

module _ (a b : CutParts) where
  -- any two lists begin alike with no cuts, and a list with its own first cut
  no_cuts : BeginAlike 0 [] (a ∷ [])
  no_cuts = record { some = omega arith; others = omega arith; alike = refl }

  first_cut : BeginAlike 1 (a ∷ []) (a ∷ b ∷ [])
  first_cut = record { some = omega arith; others = omega arith; alike = refl }

  -- not with more cuts than either has, nor with cuts that differ
  missing_cut : BeginAlike 1 [] (a ∷ []) → ⊥
  missing_cut same = let some = same.some in omega (arith, some)

  second_cut : BeginAlike 2 (a ∷ a ∷ []) (a ∷ b ∷ []) → a ≡ b
  second_cut same = let alike = same.alike in cc

-- a pool has room for as many entries as both its state and its history, and is about all that stays
module _ (problem : ProblemParts) (base state : StateParts) (history : HistoryParts) where
  room : state.spare ≡ 2 → history.spare ≡ 5 → (pool_of problem base state history 3 1 false).spare ≡ 2
  room e f = let made = pool_of problem base state history 3 1 false in grind (arith, e, f)

  topic : topic_of (pool_of problem base state history 3 1 true) ≡ record { problem = problem; base = base.search; workers = 3; analysts = 1 }
  topic = refl

-- the run over two components of which one at least is asked for, by one worker who is an analyst
abbrev pool_p : PoolParts
pool_p = record {
  problem = problem_p;
  base = start_of 4;
  workers = 1;
  analysts = 1;
  history = history_p;
  state = at at_end best_p 1;
  spare = 0;
  short = false;
}

is_p : IsPool pool_p
is_p = record {
  team = one_alone;
  base = record { reached = (4, [], record { few = lit≤ tt; steps = refl }); all_open = start_is_open 4 };
  steps = reaches_p.steps;
  no_reopen = All-from_recursion (λ e. is_reopen e ≡ false) history_p (refl, (refl, (refl, (refl, (refl, (refl, (refl, (refl, tt))))))));
  workers_below = All-from_recursion (NamesWorkerBelow 1) history_p (lit< tt, (lit< tt, (lit< tt, (lit< tt, (lit< tt, (lit< tt, (lit< tt, (lit< tt, tt))))))));
  diligent = let P : SearchState → Type 0 = λ s. IsDiligent problem_p 1 s history_p in subst P start_listed diligent_p;
  few = lit≤ tt;
}

-- with that end and no history it is no pool: its steps lead elsewhere
gone : IsPool (record pool_p { history = [] }) → ⊥
gone is = let e : 1 ≡ 0 = ap (λ (s : SearchState). s.branchings) is.steps in omega (arith, e)

-- its first entry: the root is handed out
abbrev begun_p : PoolParts
begun_p = record pool_p { history = []; state = at at_start None 0; spare = 1 }

abbrev taken_p : PoolParts
taken_p = record pool_p { history = Take 0 0 0 None ∷ []; state = at at_1 None 0 }

abbrev ticket_p : SearchTicket
ticket_p = record { worker = 0; node = 0; cube = whole; cuts = 0; bound = None }

root-handed : HandsOut begun_p 0 (ANode ticket_p) taken_p
root-handed = record {
  named = refl;
  last = root-last.last;
  analyst = root-last.analyst;
  appends = record {
    same = record { problem = refl; base = refl; workers = refl; analysts = refl };
    short = refl;
    history = refl;
    step = take_root;
  };
  held = get-map at_1 refl 0;
}

-- while it is held, another worker waits, and has nothing in hand
another-waits : IsWaiting taken_p.state
another-waits = record {
  nothing_open = each_listed (λ i node. is_open node ≡ false) at_1 refl (refl, tt);
  nothing_pending = each_listed (λ i node. is_pending node ≡ false) at_1 refl (refl, tt);
  something = (0, 0, inl (record { cube = whole; cuts = 0; bound = None; held = get-map at_1 refl 0 }));
}

another-idle : IsIdle taken_p 1
another-idle = idle_where taken_p 1 (each_listed (λ i node. sought_by (Of 1) node ≡ false) at_1 refl (refl, tt))

holder-busy : IsIdle taken_p 0 → ⊥
holder-busy idle = (idle 0).0 (record { cube = whole; cuts = 0; bound = None; held = get-map at_1 refl 0 })
