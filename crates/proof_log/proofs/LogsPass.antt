-- The log of a finished search passes.
use Rattle.std.proofs.Common.{◌≡◌, ℕ, suc, false, ◌+◌, ◌*◌, ◌≤◌, List, [], ◌∷◌, ◌++◌, map, length, codes, Option, Some, None, IfSome, refl, sym, ap, subst, ◌∙◌, arith}
use Rattle.std.specs.List.{AllByRecursion, flat_map}
use Rattle.std.proofs.lemmas.List.{length-append}
use Rattle.std.proofs.lemmas.List.Elements.{recursion_from_All}
use Rattle.arch_model.specs.declared.limits.TheConstants.{COMPONENTS, EDGES}
use Rattle.arch_model.specs.Parts.{LibraryParts}
use Rattle.arch_model.specs.Library.{IsLibrary}
use Rattle.rows.specs.Parts.{ProblemParts}
use Rattle.rows.specs.Problem.{IsProblem}
use Rattle.incumbent.specs.declared.best.Best.{Best}
use Rattle.incumbent.specs.Best.{best_cost}
use Rattle.search_core.specs.declared.limits.TheConstants.{BRANCHINGS}
use Rattle.search_core.specs.declared.entry.Entry.{Entry}
use Rattle.search_core.specs.declared.entry.Entry.TheVariants.{Take, Branch, Prune, Offer, Study, Publish, Accept, Park, Reopen}
use Rattle.search_core.specs.declared.answer.Answer.{Answer}
use Rattle.search_core.specs.declared.answer.Answer.TheVariants.{Optimal, Infeasible, NodeLimit}
use Rattle.search_core.specs.State.{SearchState, start_of}
use Rattle.search_core.specs.History.{Reaches, HasNoReopen, is_reopen}
use Rattle.search_core.specs.Answers.{answer_by, answer_of}
use Rattle.search_core.specs.Invariant.{IsAdmissibleBest}
use Rattle.search_core.proofs.AnswerLaws.{Answers, complete, limited, answer_from}
use Rattle.search_core.proofs.CutRows.{right_cuts}
use Rattle.search_core.proofs.Kept.{IsKept}
use Rattle.search_core.proofs.KeptWhole.{start_is_kept}
use Rattle.search_core.proofs.Counts.{limit_stays}
use Rattle.search_core.proofs.Runs.{steps_keep}
use Rattle.proof_log.specs.declared.log_line.TheConstants.{LINE_BYTES}
use Rattle.proof_log.specs.declared.log_line.LogLine.{LogLine}
use Rattle.proof_log.specs.declared.log_line.LogLine.TheVariants as lines
use Rattle.proof_log.specs.Line.{version, vars, limits}
use Rattle.proof_log.specs.Fault.{IsInRange}
use Rattle.proof_log.specs.Value.{text_of, ended, entry_text, closing_line, closing_text}
use Rattle.proof_log.specs.Log.{IsReadable, log_text_of, LOG_BYTES, NoEdgeFails, Accepts}
use Rattle.proof_log.proofs.LineLengths.{version_bytes, vars_bytes, limits_bytes, optimal_bytes, infeasible_bytes, node_limit_bytes}
use Rattle.proof_log.proofs.EntryRanges.{IsWord, as_word, CanBeLogged, most_bytes, best_in, cuts_in}
use Rattle.proof_log.proofs.LogSums.{AreLogged, room_of, steps_logged, room_at_start}
use Rattle.proof_log.proofs.WholeLogs.{log_parts}

-- ---- the closing line

record CanBeClosed (answer : Answer) (branchings cuts : ℕ) : Type 0 where
  range : IsInRange (closing_line answer branchings cuts)
  bytes : suc (length (closing_text answer branchings cuts)) ≤ 100

module _ (lib : LibraryParts) (right : IsLibrary lib) (branchings cuts : ℕ) (b : IsWord branchings) (c : IsWord cuts) where
  closed_by : (best : Option Best) → IfSome best (IsAdmissibleBest lib) → CanBeClosed (answer_by best) branchings cuts
  closed_by None h =
      let range : IsInRange (closing_line Infeasible branchings cuts) = ((tt, tt), ((tt, tt), ((tt, tt), ((b, tt), ((c, tt), tt))))) in
      record { range = range; bytes = infeasible_bytes branchings cuts range }
  closed_by (Some best) h =
      let range : IsInRange (closing_line (Optimal best.cost) branchings cuts) = ((tt, tt), ((tt, tt), ((best_in lib right (Some best) h, tt), ((b, tt), ((c, tt), tt))))) in
      record { range = range; bytes = optimal_bytes best.cost branchings cuts range }

  closed_at_limit : (best : Option Best) → IfSome best (IsAdmissibleBest lib) → CanBeClosed (NodeLimit (best_cost best)) branchings cuts
  closed_at_limit best h =
      let range : IsInRange (closing_line (NodeLimit (best_cost best)) branchings cuts) = ((tt, tt), ((tt, tt), ((best_in lib right best h, tt), ((b, tt), ((c, tt), tt))))) in
      record { range = range; bytes = node_limit_bytes (best_cost best) branchings cuts range }

  closed : (state : SearchState) (answer : Answer) → IfSome state.best (IsAdmissibleBest lib) → Answers state answer → CanBeClosed answer branchings cuts
  closed state answer h (complete done e) = subst (λ a. CanBeClosed a branchings cuts) (sym e) (closed_by state.best h)
  closed state answer h (limited rest some e) = subst (λ a. CanBeClosed a branchings cuts) (sym e) (closed_at_limit state.best h)

-- ---- each line can be read

most_is_few : (entry : Entry) → most_bytes entry ≤ LINE_BYTES
most_is_few (Take worker node cuts bound) = omega arith
most_is_few (Branch worker node trace var) = omega arith
most_is_few (Prune worker node trace reason) = omega arith
most_is_few (Offer worker node trace) = omega arith
most_is_few (Study worker node) = omega arith
most_is_few (Publish worker node cut) = omega arith
most_is_few (Accept worker node cost) = omega arith
most_is_few (Park worker node) = omega arith
most_is_few (Reopen limit) = omega arith

entries_readable : (entries : List Entry) (last : LogLine) → AllByRecursion CanBeLogged entries → IsReadable last → AllByRecursion IsReadable (map (λ e. lines.Entry e) entries ++ last ∷ [])
entries_readable [] last each h = (h, tt)
entries_readable (entry ∷ entries) last each h = (((each.0.range, each.0.sets), omega (arith, each.0.bytes, most_is_few entry)), entries_readable entries last each.1 h)

-- ---- all lines together

length-ended : (text : List ℕ) → length (ended text) ≡ suc (length text)
length-ended text = omega (arith, length-append text (codes "\n"))

in_all : (a b c e z all w r b0 : ℕ) → a ≤ 100 → b ≤ 100 → c ≤ 100 → z ≤ 100 → all ≡ ((a + b) + c) + (e + z) → e + w + 24000 * 0 ≤ r + 24000 * b0 → r ≡ 12000 → b0 ≤ BRANCHINGS → all ≤ LOG_BYTES
in_all a b c e z all w r b0 ha hb hc hz sum he start few = omega arith

pub logs_pass : (problem : ProblemParts) (limit : ℕ) (entries : List Entry) (state : SearchState) (answer : Answer) → IsLibrary problem.library → IsProblem problem → NoEdgeFails problem.library → Reaches problem limit entries state
    → HasNoReopen entries → answer_of state ≡ Some answer → Accepts problem (log_text_of problem limit entries answer state.branchings (length state.cuts)) answer
logs_pass problem limit entries state answer right is never reached none answers =
    let lib = problem.library in
    let sound = right_cuts lib right in
    let start = start_is_kept problem limit in
    let all_none = recursion_from_All (λ (entry : Entry). is_reopen entry ≡ false) entries none in
    let logged : AreLogged entries (start_of limit) state = steps_logged problem right is sound never entries (start_of limit) state start reached.few all_none reached.steps in
    let kept : IsKept problem state = steps_keep problem right is sound entries (start_of limit) state start reached.steps in
    let same : state.limit ≡ limit = limit_stays problem entries (start_of limit) state all_none reached.steps in
    let low : state.limit ≤ BRANCHINGS = omega (arith, same, reached.few) in
    let few : state.branchings ≤ BRANCHINGS = omega (arith, low, kept.holds.within_limit.at_most) in
    let last = closed lib right state.branchings (length state.cuts) (as_word state.branchings BRANCHINGS few (omega arith)) (cuts_in problem right is never state kept low) state answer kept.holds.best_is_admissible (answer_from state answer answers) in
    let comps = length lib.components in
    let edges = length lib.edges in
    let vars_range : IsInRange (vars comps edges) = ((tt, tt), ((as_word comps COMPONENTS right.few_components (omega arith), tt), ((as_word edges EDGES right.few_edges (omega arith), tt), tt))) in
    let limit_range : IsInRange (limits limit) = ((tt, tt), ((as_word limit BRANCHINGS reached.few (omega arith), tt), tt)) in
    let header = vars_bytes comps edges vars_range in
    let header_limit = limits_bytes limit limit_range in
    let a = text_of version in
    let b = text_of (vars comps edges) in
    let c = text_of (limits limit) in
    let body = flat_map (λ e. ended (entry_text e)) entries in
    let z = closing_text answer state.branchings (length state.cuts) in
    let whole : length (log_text_of problem limit entries answer state.branchings (length state.cuts)) ≡ ((suc (length a) + suc (length b)) + suc (length c)) + (length body + suc (length z)) =
    ap length (log_parts problem limit entries answer state.branchings (length state.cuts))
    ∙ omega (arith, length-append ((ended a ++ ended b) ++ ended c) (body ++ ended z), length-append (ended a ++ ended b) (ended c), length-append (ended a) (ended b), length-append body (ended z), length-ended a, length-ended b, length-ended c, length-ended z) in
    record {
      limit = limit;
      entries = entries;
      state = state;
      legal = reached;
      answers = answers;
      text = refl;
      readable = (
        ((((tt, tt), ((tt, tt), tt)), tt), omega arith),
        (((vars_range, tt), omega (arith, header)), (((limit_range, tt), omega (arith, header_limit)), entries_readable entries (lines.Closing answer state.branchings (length state.cuts)) logged.each ((last.range, tt), omega (arith, last.bytes)))),
      );
      few = in_all (suc (length a)) (suc (length b)) (suc (length c)) (length body) (suc (length z)) (length (log_text_of problem limit entries answer state.branchings (length state.cuts))) (room_of state) (room_of (start_of limit)) state.branchings
          version_bytes header header_limit last.bytes whole logged.bytes (room_at_start limit) few;
    }
