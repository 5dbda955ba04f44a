-- Worked rows: the search of a library with one component, which is asked for, entry by entry; its log, its report, and what `solve` comes to.
use Rattle.std.proofs.Common.{◌≡◌, ℕ, ◌+◌, ◌<◌, ◌≤◌, lit<, lit≤, Bool, true, false, nat_eq, nat_lt, if◌then◌else◌, pos, List, [], ◌∷◌, map, length, codes, Option, Some, None, refl, sym, ap, subst, ◌∙◌, arith}
use Rattle.std.specs.Prelude.{IsTrue, count_by, ◌≢◌, unsigned_abs}
use Rattle.std.specs.List.{All, list_all}
use Rattle.std.specs.Fmt.{digits}
use Rattle.std.specs.Ordering.{nat_cmp}
use Rattle.std.specs.FinMap.{values, len-entries}
use Rattle.std.specs.FinMap.Entries.{is_sorted}
use Rattle.std.proofs.lemmas.Bool.{ltb-true}
use Rattle.std.proofs.lemmas.List.Elements.{All-from_recursion}
use Rattle.arch_model.specs.declared.library.TypeRow.{TypeRow}
use Rattle.arch_model.specs.declared.library.Pattern.TheVariants.{Count}
use Rattle.arch_model.specs.declared.template.Edge.{Edge}
use Rattle.arch_model.specs.declared.template.Role.TheVariants.{Middle}
use Rattle.arch_model.specs.Set.{has, empty, put as with_member, members_below}
use Rattle.arch_model.specs.Parts.{LibraryParts}
use Rattle.arch_model.specs.Library.{library_parts, IsLibrary, IsTypeRow, IsPatternRow}
use Rattle.arch_model.specs.Template.{template_of}
use Rattle.arch_model.specs.Architecture.{IsArchitecture, present_components, present_edges, cost_of}
use Rattle.arch_model.specs.Pattern.{MeetsPattern}
use Rattle.arch_model.specs.Admissible.{IsAdmissible}
use Rattle.arch_model.proofs.Members.{and_left}
use Rattle.rows.specs.declared.row.Term.{Term}
use Rattle.rows.specs.declared.known.RowRef.TheVariants.{Base}
use Rattle.rows.specs.Parts.{RowParts, CubeParts}
use Rattle.rows.specs.Row.{term, IsRow}
use Rattle.rows.specs.Cube.{whole, fixed_at, IsFull}
use Rattle.rows.specs.Activity.{is_refuted}
use Rattle.rows.specs.BaseRows.{base_rows_of}
use Rattle.rows.specs.Problem.{IsProblem}
use Rattle.binary_program.proofs.Deciding.{decides}
use Rattle.redundancy_cut.specs.CutRow.{set_of_numbers}
use Rattle.incumbent.specs.declared.best.Best.{Best}
use Rattle.incumbent.specs.Best.{best_cost}
use Rattle.search_core.specs.declared.entry.Entry.{Entry}
use Rattle.search_core.specs.declared.entry.Entry.TheVariants.{Take, Offer, Study, Accept, Park}
use Rattle.search_core.specs.declared.answer.Answer.TheVariants.{Optimal, NodeLimit}
use Rattle.search_core.specs.Node.{Node, Open, Held, Pending, Studied, Parked, is_pending, is_parked}
use Rattle.search_core.specs.State.{SearchState, start_of}
use Rattle.search_core.specs.Candidate.{candidate_of, set_where}
use Rattle.search_core.specs.Step.{Step, IsTraced, NamesWorkerBelow}
use Rattle.search_core.specs.History.{Steps, is_reopen}
use Rattle.search_core.specs.Diligent.{IsDiligent, TakesLast, StudiesLast}
use Rattle.search_core.specs.Answers.{answer_by, answer_of}
use Rattle.search_core.proofs.Candidates.{has-where}
use Rattle.search_core.proofs.Places.{get-map, entries-map, set_map, remove_map}
use Rattle.search_core.proofs.WorkedRows.{Listed, nodes_of, each_listed, at_start, at_1, at_end, start_listed, root-last}
use Rattle.archex_app.specs.Status.{done}
use Rattle.archex_app.specs.Due.{ends}
use Rattle.archex_app.specs.Search.{base_problem, IsSearch, search_log}
use Rattle.archex_app.specs.Searched.{IsLimitSpent}
use Rattle.report.specs.Report.{search_report}
use Rattle.archex_app.specs.ComesTo.{SearchComesTo}

-- X: one component of cost 7, which is asked for
abbrev types_x : List TypeRow
types_x = record { name = codes "x"; role = Middle; max = 1; cost = 7; supply = 0; demand = 0; fail = 0 } ∷ []

abbrev lib_x : LibraryParts
lib_x = library_parts types_x [] (template_of types_x []) (Count 0 1 None ∷ []) []

x-library : IsLibrary lib_x
x-library = record {
  types = All-from_recursion IsTypeRow types_x
      (record { name = record { first = refl; rest = refl; short = lit≤ tt }; some = lit≤ tt; few = lit≤ tt; cost = lit≤ tt; supply = lit≤ tt; demand = lit≤ tt; fail = lit≤ tt }, tt);
  names = λ i j d lt within. absurd (omega arith);
  links = λ i d within. absurd (omega arith);
  pairs = λ i j d lt within. absurd (omega arith);
  components = refl;
  edges = refl;
  patterns = All-from_recursion (IsPatternRow (length lib_x.types) (length lib_x.components)) lib_x.patterns ((lit< tt, (lit≤ tt, tt)), tt);
  sinks = λ i d within. absurd (omega arith);
  bounds = λ i d within. absurd (omega arith);
  few_components = lit≤ tt;
  few_edges = lit≤ tt;
  few_patterns = lit≤ tt;
  few_requirements = lit≤ tt;
  few_failing = lit≤ tt;
}

-- its one base row asks for the component
abbrev row_x : RowParts
row_x = record { terms = term 0 (pos 1) ∷ []; least = pos 1 }

x-rows : base_rows_of lib_x ≡ row_x ∷ []
unfolding base_rows_of
x-rows = refl

x-row : IsRow row_x
x-row = record {
  ascending = λ i within. absurd (omega (arith, within));
  nonzero = All-from_recursion (λ (t : Term). t.coef ≢ pos 0) row_x.terms ((λ e. cc), tt);
  sized = All-from_recursion (λ (t : Term). unsigned_abs t.coef ≤ 10000000000000000) row_x.terms (lit≤ tt, tt);
  least = lit≤ tt;
}

x-problem : IsProblem (base_problem lib_x)
x-problem = record {
  rows = let P : List RowParts → Type 0 = All IsRow in subst P (sym x-rows) (All-from_recursion IsRow (row_x ∷ []) (x-row, tt));
  decide = decides lib_x x-library;
}

-- a state under the limit 0
abbrev at_0 : Listed → Option Best → SearchState
at_0 es best = record { nodes = nodes_of es; cuts = []; best = best; branchings = 0; limit = 0 }

-- the cube with the component, its candidate, and the live nodes from the second entry on
abbrev with_x : CubeParts
with_x = fixed_at whole 0 true

abbrev best_x : Option Best
best_x = Some (record { cost = 7; architecture = candidate_of lib_x with_x })

abbrev at_pending : Listed
at_pending = (0, Pending with_x) ∷ []

abbrev at_studied : Listed
at_studied = (0, Studied with_x 0) ∷ []

abbrev blank : ℕ × Node
blank = (0, Open whole)

start_x : at_0 at_start None ≡ start_of 0
start_x = ap (λ (s : SearchState). record s { limit = 0 }) start_listed

take_x : Step (base_problem lib_x) (at_0 at_start None) (Take 0 0 0 None) (at_0 at_1 None)
take_x = record {
  worker = lit< tt;
  fits = record {
    cube = whole;
    opened = get-map at_start refl 0;
    cuts_now = refl;
    bound_now = refl;
    next = ap (λ n. record (at_0 at_start None) { nodes = n }) (set_map at_start refl 0 0 blank (lit< tt) refl (Held whole 0 0 None));
  };
}

-- the row forces the component
traced_x : IsTraced (base_problem lib_x) (at_0 at_1 None) 0 0 (Base 0 ∷ [])
unfolding base_rows_of has empty with_member
traced_x = record { cube = whole; cuts = 0; bound = None; held = get-map at_1 refl 0; after = with_x; leads = refl }

x-full : IsFull 1 with_x
unfolding has empty with_member
x-full v below = let P : ℕ → Type 0 = λ k. IsTrue (has with_x.fixed k) in let zero_is : v ≡ 0 = omega (arith, below) in subst P (sym zero_is) refl

x-stands : All (λ row. is_refuted row with_x ≡ false) (base_problem lib_x).base
unfolding base_rows_of has empty with_member
x-stands = All-from_recursion (λ (row : RowParts). is_refuted row with_x ≡ false) (base_problem lib_x).base (refl, tt)

offer_x : Step (base_problem lib_x) (at_0 at_1 None) (Offer 0 0 (Base 0 ∷ [])) (at_0 at_pending None)
unfolding traced_x
offer_x = record {
  worker = lit< tt;
  fits = record {
    traced = traced_x;
    full = x-full;
    stands = x-stands;
    next = ap (λ n. record (at_0 at_1 None) { nodes = n }) (set_map at_1 refl 0 0 blank (lit< tt) refl (Pending with_x));
  };
}

study_x : Step (base_problem lib_x) (at_0 at_pending None) (Study 0 0) (at_0 at_studied None)
study_x = record {
  worker = lit< tt;
  fits = record {
    cube = with_x;
    pending = get-map at_pending refl 0;
    next = ap (λ n. record (at_0 at_pending None) { nodes = n }) (set_map at_pending refl 0 0 blank (lit< tt) refl (Studied with_x 0));
  };
}

-- the candidate is admissible, and costs 7
x-count : count_by (λ c. nat_eq c.of 0) (present_components lib_x (candidate_of lib_x with_x)) ≡ 1
unfolding candidate_of has empty with_member set_of_numbers
x-count = refl

x-edges : present_edges lib_x (candidate_of lib_x with_x) ≡ []
unfolding candidate_of has empty with_member set_of_numbers
x-edges = refl

x-cost : cost_of lib_x (candidate_of lib_x with_x) ≡ 7
unfolding candidate_of has empty with_member set_of_numbers
x-cost = refl

below_where : (n : ℕ) (test : ℕ → Bool) (k : ℕ) → has (set_where n test) k ≡ true → k < n
below_where n test k on = ltb-true k n (and_left (nat_lt k n) (test k) (sym (has-where n test k) ∙ on))

x-fits : IsArchitecture lib_x (candidate_of lib_x with_x)
unfolding candidate_of
x-fits = record {
  comps = λ c on. below_where 1 (has with_x.ones) c on;
  edges = λ e on. below_where 0 (λ k. has with_x.ones (1 + k)) e on;
  tails = all_none (λ e. IsTrue (has (candidate_of lib_x with_x).comps e.tail.0));
  heads = all_none (λ e. IsTrue (has (candidate_of lib_x with_x).comps e.head.0));
} where
  all_none : (P : Edge → Type 0) → All P (present_edges lib_x (candidate_of lib_x with_x))
  all_none P = let Q : List Edge → Type 0 = All P in subst Q (sym x-edges) (All-from_recursion P [] tt)

x-admissible : IsAdmissible lib_x (candidate_of lib_x with_x)
x-admissible = record {
  meets = record {
    architecture = x-fits;
    patterns = All-from_recursion (MeetsPattern lib_x (candidate_of lib_x with_x)) lib_x.patterns ((omega (arith, x-count), tt), tt);
  };
  sinks = λ k d short. absurd (omega arith);
  weights = λ k d short. absurd (omega arith);
}

accept_x : Step (base_problem lib_x) (at_0 at_studied None) (Accept 0 0 7) (at_0 at_end best_x)
accept_x = record {
  worker = lit< tt;
  fits = record {
    study = record { cube = with_x; studied = get-map at_studied refl 0 };
    admissible = x-admissible;
    costs = sym x-cost;
    next = ap (λ n. record (at_0 at_studied None) { nodes = n; best = best_x }) (remove_map at_studied refl 0 0 blank (lit< tt) refl);
  };
}

-- so this history is a search, under the limit 0 and by one worker, an analyst, whose answer is optimal
abbrev history_x : List Entry
history_x = Take 0 0 0 None ∷ Offer 0 0 (Base 0 ∷ []) ∷ Study 0 0 ∷ Accept 0 0 7 ∷ []

steps_x : Steps (base_problem lib_x) (at_0 at_start None) history_x (at_0 at_end best_x)
steps_x = (at_0 at_1 None, take_x, (at_0 at_pending None, offer_x, (at_0 at_studied None, study_x, (at_0 at_end best_x, accept_x, refl))))

takes_last : TakesLast 1 (at_0 at_start None) 0 0
takes_last = record { last = root-last.last; analyst = root-last.analyst }

studies_last : StudiesLast 1 (at_0 at_pending None) 0 0
studies_last = record {
  last = each_listed (λ j node. 0 < j → is_pending node ≡ false) at_pending refl ((λ past. absurd (omega (arith, past))), tt);
  other = λ many. absurd (omega (arith, many));
}

diligent_x : IsDiligent (base_problem lib_x) 1 (at_0 at_start None) history_x
diligent_x = (takes_last, (at_0 at_1 None, take_x, (tt, (at_0 at_pending None, offer_x, (studies_last, (at_0 at_studied None, study_x, (tt, (at_0 at_end best_x, accept_x, tt))))))))

answer_at : (es : Listed) (best : Option Best) → is_sorted nat_cmp es ≡ true
    → answer_of (at_0 es best) ≡ (if list_all is_parked (map (λ e. e.1) es) then (if nat_eq (length es) 0 then Some (answer_by best) else Some (NodeLimit (best_cost best))) else None)
answer_at es best sorted =
    ap (λ n. if list_all is_parked (values (nodes_of es)) then (if nat_eq n 0 then Some (answer_by best) else Some (NodeLimit (best_cost best))) else None) (len-entries (nodes_of es) ∙ ap length (entries-map es sorted))
    ∙ ap (λ (l : Listed). if list_all is_parked (map (λ e. e.1) l) then (if nat_eq (length es) 0 then Some (answer_by best) else Some (NodeLimit (best_cost best))) else None) (entries-map es sorted)

search_x : IsSearch lib_x 0 1 1 history_x (at_0 at_end best_x) (Optimal 7)
search_x = record {
  library = x-library;
  problem = x-problem;
  legal = record {
    few = lit≤ tt;
    steps = let P : SearchState → Type 0 = λ s. Steps (base_problem lib_x) s history_x (at_0 at_end best_x) in subst P start_x steps_x;
  };
  diligent = let P : SearchState → Type 0 = λ s. IsDiligent (base_problem lib_x) 1 s history_x in subst P start_x diligent_x;
  no_reopen = All-from_recursion (λ (e : Entry). is_reopen e ≡ false) history_x (refl, (refl, (refl, (refl, tt))));
  workers_below = All-from_recursion (NamesWorkerBelow 1) history_x (lit< tt, (lit< tt, (lit< tt, (lit< tt, tt))));
  answers = answer_at at_end best_x refl;
}

-- its log and its report, to the letter
log_x : search_log lib_x 0 history_x (at_0 at_end best_x) (Optimal 7) ≡ codes "archex-log 1\nvars 1 0\nlimit 0\ntake 0 0 0 none\noffer 0 0 b0\nstudy 0 0\naccept 0 0 7\nanswer optimal 7 0 0\n"
unfolding digits
log_x = refl

report_x : search_report lib_x (at_0 at_end best_x) (Optimal 7) ≡ codes "status optimal\ncost 7\nkind,from,to\ncomponent,x.1,\nbranchings 0\ncuts 0\n"
unfolding digits candidate_of has empty with_member set_of_numbers members_below
report_x = refl

-- what `solve` comes to with the log b
comes_x : SearchComesTo (codes "b") 0 1 1 lib_x (ends done ((codes "b", search_log lib_x 0 history_x (at_0 at_end best_x) (Optimal 7)) ∷ []) (search_report lib_x (at_0 at_end best_x) (Optimal 7)))
comes_x = (history_x, at_0 at_end best_x, Optimal 7, search_x, refl)

-- with the root parked in place of the offer, the limit is spent, and less than 2 to the number of members
abbrev at_parked : Listed
at_parked = (0, Parked whole) ∷ []

spent_x : IsLimitSpent lib_x 0 (Take 0 0 0 None ∷ Park 0 0 ∷ []) (at_0 at_parked None)
spent_x = record { spent = refl; short = lit< tt; number = 0; cube = whole; parked = get-map at_parked refl 0 }

answer_parked : answer_of (at_0 at_parked None) ≡ Some (NodeLimit None)
answer_parked = answer_at at_parked None refl

-- a limit of 2 is enough for it
enough_x : (entries : List Entry) (state : SearchState) → IsLimitSpent lib_x 2 entries state → ⊥
enough_x entries state is = let short : 2 < 2 = is.short in omega (arith, short)
