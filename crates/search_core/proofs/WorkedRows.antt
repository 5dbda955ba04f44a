-- Worked rows: the history of a search for the best of two components, entry by entry, and what holds on the way.
use Rattle.std.proofs.Common.{◌≡◌, ℕ, ◌+◌, ◌<◌, ◌≤◌, lit<, lit≤, Bool, true, false, nat_eq, nat_lt, cond, if◌then◌else◌, pos, List, [], ◌∷◌, map, length, Option, Some, None, refl, sym, ap, subst, ◌∙◌, arith, inl, inr}
use Rattle.std.specs.Prelude.{IsTrue, sum_by, count_by}
use Rattle.std.specs.List.{All, AllByRecursion, list_all}
use Rattle.std.specs.Ordering.{nat_cmp, eq_by_cmp}
use Rattle.std.specs.FinMap.{FinMap, insert, remove, values, len, from_sorted, len-entries, empty_of_len}
use Rattle.std.specs.FinMap.Entries.{find, is_sorted}
use Rattle.std.proofs.lemmas.Bool.{cases_eq, ltb-true}
use Rattle.std.proofs.lemmas.List.Elements.{All-from_recursion}
use Rattle.arch_model.specs.declared.limits.TheConstants.{MEMBERS}
use Rattle.arch_model.specs.declared.library.TypeRow.{TypeRow}
use Rattle.arch_model.specs.declared.library.Pattern.TheVariants.{Count}
use Rattle.arch_model.specs.declared.template.Edge.{Edge}
use Rattle.arch_model.specs.declared.template.Role.TheVariants.{Source}
use Rattle.arch_model.specs.Set.{has, empty, put as with_member}
use Rattle.arch_model.specs.Parts.{LibraryParts}
use Rattle.arch_model.specs.Library.{library_parts}
use Rattle.arch_model.specs.Template.{template_of}
use Rattle.arch_model.specs.Member.{is_present}
use Rattle.arch_model.specs.Architecture.{IsArchitecture, present_components, present_edges, cost_of}
use Rattle.arch_model.specs.Pattern.{MeetsPattern}
use Rattle.arch_model.specs.Admissible.{IsAdmissible}
use Rattle.arch_model.proofs.Members.{and_left}
use Rattle.arch_model.proofs.SetLaws.{has-empty}
use Rattle.rows.specs.declared.known.Pair.{Pair}
use Rattle.rows.specs.declared.known.RowRef.TheVariants.{Base, Cost}
use Rattle.rows.specs.Parts.{RowParts, CubeParts, ProblemParts}
use Rattle.rows.specs.Row.{term}
use Rattle.rows.specs.Cube.{whole, fixed_at, is_free, IsCube, IsFull, LiesIn}
use Rattle.rows.specs.Activity.{is_refuted}
use Rattle.rows.specs.Known.{known_rows, IsQuiet, has_row}
use Rattle.rows.specs.BaseRows.{base_rows_of}
use Rattle.rows.specs.Ascent.{is_ascent_refuted}
use Rattle.rows.proofs.QuietRows.{all_tested}
use Rattle.rows.proofs.CubeLaws.{lies_fixed}
use Rattle.redundancy_cut.specs.CutRow.{set_of_numbers}
use Rattle.incumbent.specs.declared.best.Best.{Best}
use Rattle.incumbent.specs.Best.{best_cost}
use Rattle.search_core.specs.declared.entry.Entry.{Entry}
use Rattle.search_core.specs.declared.entry.Entry.TheVariants.{Take, Branch, Prune, Offer, Study, Accept, Park, Reopen}
use Rattle.search_core.specs.declared.answer.Answer.TheVariants.{Optimal, Infeasible, NodeLimit}
use Rattle.search_core.specs.Node.{Node, Open, Held, Pending, Studied, Parked, EachNode, node_cube, is_open, is_pending, is_parked}
use Rattle.search_core.specs.State.{SearchState, start_of, known_at}
use Rattle.search_core.specs.Candidate.{candidate_of, set_where}
use Rattle.search_core.specs.Step.{Step, IsTraced}
use Rattle.search_core.specs.History.{Steps, Reaches, IsLegal, IsComplete}
use Rattle.search_core.specs.Diligent.{IsDiligent, IsQuietAfter, TakesLast, StudiesLast}
use Rattle.search_core.specs.Answers.{answer_by, answer_of}
use Rattle.search_core.specs.Invariant.{SearchInvariant, KnowsOld, HasCandidate, ParkedAtLimit, IsCovered, space_of}
use Rattle.search_core.proofs.NodeMap.{ties, not_tied}
use Rattle.search_core.proofs.Places.{get-map, entries-map, set_map, remove_map, push_map}
use Rattle.search_core.proofs.Options.{none_is_some, same_some}
use Rattle.search_core.proofs.Candidates.{has-where}

-- the live nodes of a list, by number
abbrev pub Listed : Type 0
Listed = List (ℕ × Node)

abbrev pub nodes_of : Listed → FinMap nat_cmp Node
nodes_of es = from_sorted es

abbrev blank : ℕ × Node
blank = (0, Open whole)

found_in : (P : ℕ → Node → Type 0) (es : Listed) (i : ℕ) (node : Node) → AllByRecursion (λ e. P e.0 e.1) es → find nat_cmp i es ≡ Some node → P i node
found_in P [] i node all at = none_is_some node at
found_in P (e ∷ es) i node all at = elim (cases_eq i e.0) [
  | inl same ↦
      let tied : eq_by_cmp nat_cmp i e.0 ≡ true = ap (λ k. eq_by_cmp nat_cmp k e.0) same ∙ ties e.0 in
      let here : e.1 ≡ node = same_some (sym (ap (λ b. cond b (Some e.1) (find nat_cmp i es)) tied) ∙ at) in
      subst (P i) here (let Q : ℕ → Type 0 = λ k. P k e.1 in subst Q (sym same) all.0)
  | inr ne ↦ found_in P es i node all.1 (sym (ap (λ b. cond b (Some e.1) (find nat_cmp i es)) (not_tied i e.0 ne)) ∙ at)
]

-- what holds of each of a list holds of each node
pub each_listed : (P : ℕ → Node → Type 0) (es : Listed) → is_sorted nat_cmp es ≡ true → AllByRecursion (λ e. P e.0 e.1) es → EachNode P (nodes_of es)
each_listed P es sorted all i node at = found_in P es i node all (sym (get-map es sorted i) ∙ at)

-- a state under the limit 4 with these live nodes and no cut
abbrev pub at : Listed → Option Best → ℕ → SearchState
at es best j = record { nodes = nodes_of es; cuts = []; best = best; branchings = j; limit = 4 }

count_listed : (es : Listed) → is_sorted nat_cmp es ≡ true → len (nodes_of es) ≡ length es
count_listed es sorted = len-entries (nodes_of es) ∙ ap length (entries-map es sorted)

-- the same under another limit
abbrev under : ℕ → Listed → Option Best → ℕ → SearchState
under limit es best j = record { nodes = nodes_of es; cuts = []; best = best; branchings = j; limit = limit }

-- its answer
answered : (limit : ℕ) (es : Listed) (best : Option Best) (j : ℕ) → is_sorted nat_cmp es ≡ true
    → answer_of (under limit es best j) ≡ (if list_all is_parked (map (λ e. e.1) es) then (if nat_eq (length es) 0 then Some (answer_by best) else Some (NodeLimit (best_cost best))) else None)
answered limit es best j sorted =
    ap (λ n. if list_all is_parked (values (nodes_of es)) then (if nat_eq n 0 then Some (answer_by best) else Some (NodeLimit (best_cost best))) else None) (count_listed es sorted)
    ∙ ap (λ (l : Listed). if list_all is_parked (map (λ e. e.1) l) then (if nat_eq (length es) 0 then Some (answer_by best) else Some (NodeLimit (best_cost best))) else None) (entries-map es sorted)

-- P: two sources of cost 3, of which one at least is asked for
abbrev pub types_p : List TypeRow
types_p = record { name = 1 ∷ []; role = Source; max = 2; cost = 3; supply = 0; demand = 0; fail = 0 } ∷ []

abbrev pub lib_p : LibraryParts
lib_p = library_parts types_p [] (template_of types_p []) (Count 0 1 None ∷ []) []

abbrev pub row_p : RowParts
row_p = record { terms = term 0 (pos 1) ∷ term 1 (pos 1) ∷ []; least = pos 1 }

abbrev pub problem_p : ProblemParts
problem_p = record { library = lib_p; base = row_p ∷ [] }

p-rows : base_rows_of lib_p ≡ problem_p.base
unfolding base_rows_of
p-rows = refl

-- the cube with the first at 1, that with the first at 0, and that with the second alone
abbrev first : CubeParts
first = fixed_at whole 0 true

abbrev pub not_first : CubeParts
not_first = fixed_at whole 0 false

abbrev pub second : CubeParts
second = fixed_at not_first 1 true

abbrev pub best_p : Option Best
best_p = Some (record { cost = 3; architecture = candidate_of lib_p second })

-- the live nodes from the start on
abbrev pub at_start : Listed
at_start = (0, Open whole) ∷ []

abbrev pub at_1 : Listed
at_1 = (0, Held whole 0 0 None) ∷ []

abbrev at_2 : Listed
at_2 = (1, Open first) ∷ (2, Open not_first) ∷ []

abbrev at_3 : Listed
at_3 = (1, Open first) ∷ (2, Held not_first 0 0 None) ∷ []

abbrev at_4 : Listed
at_4 = (1, Open first) ∷ (2, Pending second) ∷ []

abbrev at_5 : Listed
at_5 = (1, Open first) ∷ (2, Studied second 0) ∷ []

abbrev at_6 : Listed
at_6 = (1, Open first) ∷ []

abbrev at_7 : Listed
at_7 = (1, Held first 0 0 (Some 3)) ∷ []

abbrev pub at_end : Listed
at_end = []

-- the start
pub start_listed : at at_start None 0 ≡ start_of 4
start_listed =
    let start : Node = Open whole in
    ap (λ n. record { nodes = n; cuts = []; best = None; branchings = 0; limit = 4 })
    (push_map at_end refl 0 start (each_listed (λ i node. i < 0) at_end refl tt) ∙ ap (λ m. insert m 0 start) (empty_of_len (nodes_of at_end) (count_listed at_end refl)))

-- entry by entry
pub take_root : Step problem_p (at at_start None 0) (Take 0 0 0 None) (at at_1 None 0)
take_root = record {
  worker = lit< tt;
  fits = record {
    cube = whole;
    opened = get-map at_start refl 0;
    cuts_now = refl;
    bound_now = refl;
    next = ap (λ n. record (at at_start None 0) { nodes = n }) (set_map at_start refl 0 0 blank (lit< tt) refl (Held whole 0 0 None));
  };
}

abbrev traced_root : IsTraced problem_p (at at_1 None 0) 0 0 []
traced_root = record { cube = whole; cuts = 0; bound = None; held = get-map at_1 refl 0; after = whole; leads = refl }

split_root : nodes_of at_2 ≡ insert (insert (remove (nodes_of at_1) 0) 1 (Open first)) 2 (Open not_first)
split_root =
    push_map at_6 refl 2 (Open not_first) (each_listed (λ i node. i < 2) at_6 refl (lit< tt, tt))
    ∙ ap (λ m. insert m 2 (Open not_first)) (push_map at_end refl 1 (Open first) (each_listed (λ i node. i < 1) at_end refl tt))
    ∙ ap (λ m. insert (insert m 1 (Open first)) 2 (Open not_first)) (remove_map at_1 refl 0 0 blank (lit< tt) refl)

branch_root : Step problem_p (at at_1 None 0) (Branch 0 0 [] (record { 0 = 0 })) (at at_2 None 1)
unfolding has empty
branch_root = record {
  worker = lit< tt;
  fits = record {
    traced = traced_root;
    variable = lit< tt;
    free = refl;
    below = lit< tt;
    next = ap (λ n. record (at at_1 None 0) { nodes = n; branchings = 1 }) split_root;
  };
}

take_second : Step problem_p (at at_2 None 1) (Take 0 2 0 None) (at at_3 None 1)
take_second = record {
  worker = lit< tt;
  fits = record {
    cube = not_first;
    opened = get-map at_2 refl 2;
    cuts_now = refl;
    bound_now = refl;
    next = ap (λ n. record (at at_2 None 1) { nodes = n }) (set_map at_2 refl 2 1 blank (lit< tt) refl (Held not_first 0 0 None));
  };
}

-- the row forces the second
traced_second : IsTraced problem_p (at at_3 None 1) 0 2 (Base 0 ∷ [])
unfolding has empty with_member
traced_second = record { cube = not_first; cuts = 0; bound = None; held = get-map at_3 refl 2; after = second; leads = refl }

second-full : IsFull 2 second
unfolding has empty with_member
second-full v below = elim (cases_eq v 0) [
  | inl same ↦ let P : ℕ → Type 0 = λ k. IsTrue (has second.fixed k) in subst P (sym same) refl
  | inr ne ↦ let P : ℕ → Type 0 = λ k. IsTrue (has second.fixed k) in let one : v ≡ 1 = omega (arith, ne) in subst P (sym one) refl
]

second-stands : All (λ row. is_refuted row second ≡ false) problem_p.base
unfolding has empty with_member
second-stands = All-from_recursion (λ (row : RowParts). is_refuted row second ≡ false) problem_p.base (refl, tt)

offer_second : Step problem_p (at at_3 None 1) (Offer 0 2 (Base 0 ∷ [])) (at at_4 None 1)
unfolding traced_second with_member
offer_second = record {
  worker = lit< tt;
  fits = record {
    traced = traced_second;
    full = second-full;
    stands = second-stands;
    next = ap (λ n. record (at at_3 None 1) { nodes = n }) (set_map at_3 refl 2 1 blank (lit< tt) refl (Pending second));
  };
}

study_second : Step problem_p (at at_4 None 1) (Study 0 2) (at at_5 None 1)
study_second = record {
  worker = lit< tt;
  fits = record {
    cube = second;
    pending = get-map at_4 refl 2;
    next = ap (λ n. record (at at_4 None 1) { nodes = n }) (set_map at_4 refl 2 1 blank (lit< tt) refl (Studied second 0));
  };
}

-- the second alone is an admissible architecture of cost 3
below_where : (n : ℕ) (test : ℕ → Bool) (k : ℕ) → has (set_where n test) k ≡ true → k < n
below_where n test k on = ltb-true k n (and_left (nat_lt k n) (test k) (sym (has-where n test k) ∙ on))

second-count : count_by (λ c. nat_eq c.of 0) (present_components lib_p (candidate_of lib_p second)) ≡ 1
unfolding candidate_of has empty with_member set_of_numbers
second-count = refl

second-edges : present_edges lib_p (candidate_of lib_p second) ≡ []
unfolding candidate_of has empty with_member set_of_numbers
second-edges = refl

second-cost : cost_of lib_p (candidate_of lib_p second) ≡ 3
unfolding candidate_of has empty with_member set_of_numbers
second-cost = refl

second-fits : IsArchitecture lib_p (candidate_of lib_p second)
unfolding candidate_of
second-fits = record {
  comps = λ c on. below_where 2 (has second.ones) c on;
  edges = λ e on. below_where 0 (λ k. has second.ones (2 + k)) e on;
  tails = all_none (λ e. IsTrue (has (candidate_of lib_p second).comps e.tail.0));
  heads = all_none (λ e. IsTrue (has (candidate_of lib_p second).comps e.head.0));
} where
  all_none : (P : Edge → Type 0) → All P (present_edges lib_p (candidate_of lib_p second))
  all_none P = let Q : List Edge → Type 0 = All P in subst Q (sym second-edges) (All-from_recursion P [] tt)

second-admissible : IsAdmissible lib_p (candidate_of lib_p second)
second-admissible = record {
  meets = record {
    architecture = second-fits;
    patterns = All-from_recursion (MeetsPattern lib_p (candidate_of lib_p second)) lib_p.patterns ((omega (arith, second-count), tt), tt);
  };
  sinks = λ k d short. absurd (omega arith);
  weights = λ k d short. absurd (omega arith);
}

accept_second : Step problem_p (at at_5 None 1) (Accept 0 2 3) (at at_6 best_p 1)
accept_second = record {
  worker = lit< tt;
  fits = record {
    study = record { cube = second; studied = get-map at_5 refl 2 };
    admissible = second-admissible;
    costs = sym second-cost;
    next = ap (λ n. record (at at_5 None 1) { nodes = n; best = best_p }) (remove_map at_5 refl 2 1 blank (lit< tt) refl);
  };
}

take_first : Step problem_p (at at_6 best_p 1) (Take 0 1 0 (Some 3)) (at at_7 best_p 1)
take_first = record {
  worker = lit< tt;
  fits = record {
    cube = first;
    opened = get-map at_6 refl 1;
    cuts_now = refl;
    bound_now = refl;
    next = ap (λ n. record (at at_6 best_p 1) { nodes = n }) (set_map at_6 refl 1 0 blank (lit< tt) refl (Held first 0 0 (Some 3)));
  };
}

-- the cost row is refuted with the first at 1, since the cost must be below 3
abbrev pub cost_alone : List Pair
cost_alone = record { row = Cost; times = 1 } ∷ []

abbrev traced_first : IsTraced problem_p (at at_7 best_p 1) 0 1 []
traced_first = record { cube = first; cuts = 0; bound = Some 3; held = get-map at_7 refl 1; after = first; leads = refl }

prune_first : Step problem_p (at at_7 best_p 1) (Prune 0 1 [] cost_alone) (at at_end best_p 1)
unfolding has empty with_member
prune_first = record {
  worker = lit< tt;
  fits = record {
    traced = traced_first;
    reason = record {
      some = lit≤ tt;
      few = lit≤ tt;
      positive = All-from_recursion (λ (p : Pair). 1 ≤ p.times) cost_alone (lit≤ tt, tt);
      sized = All-from_recursion (λ (p : Pair). p.times ≤ 1000000000000) cost_alone (lit≤ tt, tt);
    };
    there = All-from_recursion (λ (p : Pair). IsTrue (has_row (known_at problem_p (at at_7 best_p 1) 0 (Some 3)) p.row)) cost_alone (refl, tt);
    refuted = refl;
    next = ap (λ n. record (at at_7 best_p 1) { nodes = n }) (remove_map at_7 refl 1 0 blank (lit< tt) refl);
  };
}

-- so the history is legal, and leads to a complete state, whose answer is the best
abbrev pub history_p : List Entry
history_p =
    Take 0 0 0 None ∷ Branch 0 0 [] (record { 0 = 0 }) ∷ Take 0 2 0 None ∷ Offer 0 2 (Base 0 ∷ []) ∷ Study 0 2 ∷ Accept 0 2 3 ∷ Take 0 1 0 (Some 3)
    ∷ Prune 0 1 [] cost_alone ∷ []

steps_p : Steps problem_p (at at_start None 0) history_p (at at_end best_p 1)
steps_p =
    (at at_1 None 0, take_root, (at at_2 None 1, branch_root, (at at_3 None 1, take_second, (at at_4 None 1, offer_second, (at at_5 None 1, study_second, (at at_6 best_p 1, accept_second, (at at_7 best_p 1, take_first, (at at_end best_p 1, prune_first, refl))))))))

pub reaches_p : Reaches problem_p 4 history_p (at at_end best_p 1)
reaches_p = record {
  few = lit≤ tt;
  steps = let P : SearchState → Type 0 = λ s. Steps problem_p s history_p (at at_end best_p 1) in subst P start_listed steps_p;
}

legal_p : IsLegal problem_p 4 history_p
legal_p = (at at_end best_p 1, reaches_p)

complete_p : IsComplete (at at_end best_p 1)
complete_p = count_listed at_end refl

pub answer_p : answer_of (at at_end best_p 1) ≡ Some (Optimal 3)
answer_p = answered 4 at_end best_p 1 refl

-- before it has none, and with no best nothing is admissible
no_answer_yet : answer_of (at at_7 best_p 1) ≡ None
no_answer_yet = answered 4 at_7 best_p 1 refl

answer_without_best : answer_of (at at_end None 1) ≡ Some Infeasible
answer_without_best = answered 4 at_end None 1 refl

-- under the limit 1 the first can be parked instead; the answer is the limit's then, and a new limit opens the node again
abbrev at_parked : Listed
at_parked = (1, Parked first) ∷ []

park_first : Step problem_p (under 1 at_7 best_p 1) (Park 0 1) (under 1 at_parked best_p 1)
park_first = record {
  worker = lit< tt;
  fits = record {
    cube = first;
    cuts = 0;
    bound = Some 3;
    held = get-map at_7 refl 1;
    at_limit = refl;
    next = ap (λ n. record (under 1 at_7 best_p 1) { nodes = n }) (set_map at_7 refl 1 0 blank (lit< tt) refl (Parked first));
  };
}

answer_at_limit : answer_of (under 1 at_parked best_p 1) ≡ Some (NodeLimit (Some 3))
answer_at_limit = answered 1 at_parked best_p 1 refl

reopen_first : Step problem_p (under 1 at_parked best_p 1) (Reopen 4) (at at_6 best_p 1)
reopen_first = record {
  worker = tt;
  fits = record {
    not_less = lit≤ tt;
    few = lit≤ tt;
    next = ap (λ (es : Listed). under 4 (map (λ e. (e.0, Open (node_cube e.1))) es) best_p 1) (sym (entries-map at_parked refl));
  };
}

-- the history is diligent for one analyst
abbrev QuietAs : Node → Type 0
QuietAs (Open cube) = Unit {0}
QuietAs (Held cube worker cuts bound) = IsQuiet (known_at problem_p (at at_1 None 0) cuts bound) cube × (is_ascent_refuted (known_at problem_p (at at_1 None 0) cuts bound) cube ≡ false)
QuietAs (Pending cube) = Unit {0}
QuietAs (Studied cube worker) = Unit {0}
QuietAs (Parked cube) = Unit {0}

whole-quiet : QuietAs (Held whole 0 0 None)
unfolding has empty with_member
whole-quiet = ((all_tested whole (known_rows (known_at problem_p (at at_1 None 0) 0 None))).0 refl, refl)

branch-diligent : (traced : IsTraced problem_p (at at_1 None 0) 0 0 []) → IsQuietAfter problem_p (at at_1 None 0) 0 0 [] traced
branch-diligent traced =
    let same : Held whole 0 0 None ≡ Held traced.cube 0 traced.cuts traced.bound = same_some (sym (get-map at_1 refl 0) ∙ traced.held) in
    let here : QuietAs (Held traced.cube 0 traced.cuts traced.bound) = subst QuietAs same whole-quiet in
    let stays : traced.cube ≡ traced.after = same_some traced.leads in
    let P : CubeParts → Type 0 = IsQuiet (known_at problem_p (at at_1 None 0) traced.cuts traced.bound) in
    let Q : CubeParts → Type 0 = λ c. is_ascent_refuted (known_at problem_p (at at_1 None 0) traced.cuts traced.bound) c ≡ false in
    record { quiet = subst P stays here.0; ascent = subst Q stays here.1 }

pub root-last : TakesLast 1 (at at_start None 0) 0 0
root-last = record {
  last = each_listed (λ j node. 0 < j → is_open node ≡ false) at_start refl ((λ past. absurd (omega (arith, past))), tt);
  analyst = λ few. each_listed (λ j node. is_pending node ≡ false) at_start refl (refl, tt);
}

second-last : TakesLast 1 (at at_2 None 1) 0 2
second-last = record {
  last = each_listed (λ j node. 2 < j → is_open node ≡ false) at_2 refl ((λ past. absurd (omega (arith, past))), ((λ past. absurd (omega (arith, past))), tt));
  analyst = λ few. each_listed (λ j node. is_pending node ≡ false) at_2 refl (refl, (refl, tt));
}

study-last : StudiesLast 1 (at at_4 None 1) 0 2
study-last = record {
  last = each_listed (λ j node. 2 < j → is_pending node ≡ false) at_4 refl ((λ past. absurd (omega (arith, past))), ((λ past. absurd (omega (arith, past))), tt));
  other = λ many. absurd (omega (arith, many));
}

first-last : TakesLast 1 (at at_6 best_p 1) 0 1
first-last = record {
  last = each_listed (λ j node. 1 < j → is_open node ≡ false) at_6 refl ((λ past. absurd (omega (arith, past))), tt);
  analyst = λ few. each_listed (λ j node. is_pending node ≡ false) at_6 refl (refl, tt);
}

pub diligent_p : IsDiligent problem_p 1 (at at_start None 0) history_p
diligent_p = (
  root-last,
  (
    at at_1 None 0,
    take_root,
    (
      branch-diligent,
      (
        at at_2 None 1,
        branch_root,
        (
          second-last,
          (
            at at_3 None 1,
            take_second,
            (
              tt,
              (
                at at_4 None 1,
                offer_second,
                (study-last, (at at_5 None 1, study_second, (tt, (at at_6 best_p 1, accept_second, (first-last, (at at_7 best_p 1, take_first, (tt, (at at_end best_p 1, prune_first, tt)))))))),
              ),
            ),
          ),
        ),
      ),
    ),
  ),
)

-- so it is from the start of a search on
pub diligent_from_start : IsDiligent problem_p 1 (start_of 4) history_p
diligent_from_start = let P : SearchState → Type 0 = λ s. IsDiligent problem_p 1 s history_p in subst P start_listed diligent_p

-- with the side of the first taken in its place, the third entry isn't diligent
hasty : IsDiligent problem_p 1 (at at_2 None 1) (Take 0 1 0 None ∷ []) → ⊥
hasty d = absurd (let open_still : true ≡ false = d.0.last 2 (Open not_first) (get-map at_2 refl 2) (lit< tt) in cc)

-- what every step keeps, after the third entry
in_none : (P : Type 0) (v : ℕ) → IsTrue (has empty v) → P
in_none P v on = absurd (let e : false ≡ true = sym (has-empty v) ∙ on in cc)

whole-cube : IsCube whole
whole-cube = record { within = λ v on. in_none (IsTrue (has empty v)) v on; small = λ v on. in_none (v < MEMBERS) v on }

whole-free : is_free whole 0 ≡ true
unfolding has empty
whole-free = refl

lies_on : (x : ℕ → Bool) (b : Bool) → x 0 ≡ b → LiesIn x (fixed_at whole 0 b)
lies_on x b is = lies_fixed whole x 0 b whole-cube whole-free (λ v on. in_none (x v ≡ has whole.ones v) v on) is

third-covered : (x : ℕ → Bool) → IsCovered (nodes_of at_3) x
third-covered x = elim (x 0) as (λ b. x 0 ≡ b → IsCovered (nodes_of at_3) x) [
  | true ↦ λ is. record { number = 1; node = Open first; live = get-map at_3 refl 1; lies = lies_on x true is }
  | false ↦ λ is. record { number = 2; node = Held not_first 0 0 None; live = get-map at_3 refl 2; lies = lies_on x false is }
] refl

third-space : sum_by (space_of 2) (map (λ e. e.1) at_3) ≡ 2
unfolding has empty with_member
third-space = refl

third-spaces : sum_by (space_of 2) (values (nodes_of at_3)) ≡ 2
third-spaces = ap (λ (es : Listed). sum_by (space_of 2) (map (λ e. e.1) es)) (entries-map at_3 refl) ∙ third-space

third-len : len (nodes_of at_3) ≡ 2
third-len = count_listed at_3 refl

within_three : (n : ℕ) → n ≡ 2 → 1 + n ≤ 3
within_three n e = omega arith

within_two : (n : ℕ) → n ≡ 2 → n + 0 ≤ 2
within_two n e = omega arith

third-invariant : SearchInvariant problem_p (at at_3 None 1)
third-invariant = record {
  knowledge_is_old = each_listed (λ i node. KnowsOld (at at_3 None 1) node) at_3 refl (tt, ((lit≤ tt, tt), tt));
  candidates_meet_rows = each_listed (λ i node. HasCandidate problem_p node) at_3 refl (tt, (tt, tt));
  best_is_admissible = tt;
  cuts_hold = λ k d short. absurd (omega arith);
  nothing_is_lost = λ arch admissible cheaper. third-covered (is_present lib_p arch);
  within_limit = record { at_most = lit≤ tt; parked = each_listed (λ i node. ParkedAtLimit (at at_3 None 1) node) at_3 refl (tt, (tt, tt)) };
  space_is_bounded = within_three (sum_by (space_of 2) (values (nodes_of at_3))) third-spaces;
  numbers_are_bounded = record {
    numbers = each_listed (λ i node. i ≤ 2) at_3 refl (lit≤ tt, (lit≤ tt, tt));
    together = within_two (len (nodes_of at_3)) third-len;
  };
}
