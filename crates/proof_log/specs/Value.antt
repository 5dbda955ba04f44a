-- What is logged: the line and the text of each value.
use Rattle.std.specs.Prelude.{ℕ, ◌<◌, IsTrue, List, ◌++◌, map, length, codes}
use Rattle.std.specs.Fmt.{decimal}
use Rattle.arch_model.specs.Set.{Set, has, members_below}
use Rattle.arch_model.specs.declared.limits.TheConstants.{COMPONENTS, MEMBERS}
use Rattle.rows.specs.Parts.{ProblemParts}
use Rattle.rows.specs.declared.known.RowRef.{RowRef}
use Rattle.rows.specs.declared.known.RowRef.TheVariants.{Base, Cut, Cost}
use Rattle.rows.specs.declared.known.Pair.{Pair}
use Rattle.redundancy_cut.specs.declared.cut.Cut as learned
use Rattle.redundancy_cut.specs.declared.cut.Cut.TheVariants.{Redundancy, NoGood}
use Rattle.search_core.specs.declared.entry.Entry.{Entry}
use Rattle.search_core.specs.declared.entry.Entry.TheVariants.{Take, Branch, Prune, Offer, Study, Publish, Accept, Park, Reopen}
use Rattle.search_core.specs.declared.answer.Answer.{Answer}
use Rattle.search_core.specs.declared.answer.Answer.TheVariants.{Optimal, Infeasible, NodeLimit}
use Rattle.proof_log.specs.declared.log_line.LogLine.{LogLine}
use Rattle.proof_log.specs.declared.log_line.LogLine.TheVariants as lines
use Rattle.proof_log.specs.Field.{RowName, base_row, cut_row, cost_row}
use Rattle.proof_log.specs.Line.{Line, version, vars, limits, takes, branches, prunes, offers, studies, redundancy, no_good, accepts, parks, reopens, optimal, infeasible, node_limit, line_text}

-- the name of a row
abbrev pub row_name : RowRef → RowName ℕ
row_name (Base n) = base_row n
row_name (Cut n) = cut_row n
row_name Cost = cost_row

-- the name of a pair's row, and its multiplier
abbrev pub named_pair : Pair → RowName ℕ × ℕ
named_pair pair = (row_name pair.row, pair.times)

-- the line of a learned cut
abbrev pub cut_line : ℕ → ℕ → learned.Cut → Line ℕ
cut_line worker node (Redundancy requirement set far) = redundancy worker node requirement (members_below set MEMBERS) (members_below far COMPONENTS)
cut_line worker node (NoGood requirement cone) = no_good worker node requirement (members_below cone COMPONENTS)

-- the line of an entry
abbrev pub entry_line : Entry → Line ℕ
entry_line (Take worker node cuts bound) = takes worker node cuts bound
entry_line (Branch worker node trace var) = branches worker node (map row_name trace) var.0
entry_line (Prune worker node trace reason) = prunes worker node (map row_name trace) (map named_pair reason)
entry_line (Offer worker node trace) = offers worker node (map row_name trace)
entry_line (Study worker node) = studies worker node
entry_line (Publish worker node cut) = cut_line worker node cut
entry_line (Accept worker node cost) = accepts worker node cost
entry_line (Park worker node) = parks worker node
entry_line (Reopen limit) = reopens limit

-- the closing line of an answer, with the numbers of branchings and of cuts
abbrev pub closing_line : Answer → ℕ → ℕ → Line ℕ
closing_line (Optimal cost) branchings cuts = optimal cost branchings cuts
closing_line Infeasible branchings cuts = infeasible branchings cuts
closing_line (NodeLimit incumbent) branchings cuts = node_limit incumbent branchings cuts

-- the line of what is read or written
abbrev pub log_line : LogLine → Line ℕ
log_line lines.Version = version
log_line (lines.Vars comps edges) = vars comps edges
log_line (lines.Limit limit) = limits limit
log_line (lines.Entry entry) = entry_line entry
log_line (lines.Closing answer branchings cuts) = closing_line answer branchings cuts

-- the text of a line with its numbers in decimal
abbrev pub text_of : Line ℕ → List ℕ
text_of line = line_text decimal line

-- the text of an entry
abbrev pub entry_text : Entry → List ℕ
entry_text entry = text_of (entry_line entry)

-- a line feed ends each line
abbrev pub ended : List ℕ → List ℕ
ended text = text ++ codes "\n"

-- the three header lines: the version, the numbers of components and edges, and the limit on branchings
abbrev pub header_text : ProblemParts → ℕ → List ℕ
header_text problem limit =
    ended (text_of version) ++ ended (text_of (vars (length problem.library.components) (length problem.library.edges))) ++ ended (text_of (limits limit))

-- the text of the closing line
abbrev pub closing_text : Answer → ℕ → ℕ → List ℕ
closing_text answer branchings cuts = text_of (closing_line answer branchings cuts)

-- the members of a set are below n
abbrev pub IsSmall : ℕ → Set → Type 0
IsSmall n set = (i : ℕ) → IsTrue (has set i) → i < n

-- the sets of a cut hold members, or components, of some template
abbrev pub CutIsSmall : learned.Cut → Type 0
CutIsSmall (Redundancy requirement set far) = IsSmall MEMBERS set × IsSmall COMPONENTS far
CutIsSmall (NoGood requirement cone) = IsSmall COMPONENTS cone

-- the sets of the cut that an entry publishes hold members, or components, of some template
abbrev pub EntryIsSmall : Entry → Type 0
EntryIsSmall (Take worker node cuts bound) = Unit {0}
EntryIsSmall (Branch worker node trace var) = Unit {0}
EntryIsSmall (Prune worker node trace reason) = Unit {0}
EntryIsSmall (Offer worker node trace) = Unit {0}
EntryIsSmall (Study worker node) = Unit {0}
EntryIsSmall (Publish worker node cut) = CutIsSmall cut
EntryIsSmall (Accept worker node cost) = Unit {0}
EntryIsSmall (Park worker node) = Unit {0}
EntryIsSmall (Reopen limit) = Unit {0}

-- the sets of what a line says hold members, or components, of some template
abbrev pub HasSmallSets : LogLine → Type 0
HasSmallSets lines.Version = Unit {0}
HasSmallSets (lines.Vars comps edges) = Unit {0}
HasSmallSets (lines.Limit limit) = Unit {0}
HasSmallSets (lines.Entry entry) = EntryIsSmall entry
HasSmallSets (lines.Closing answer branchings cuts) = Unit {0}
