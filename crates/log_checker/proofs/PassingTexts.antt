-- The lines of a text lead to a closing answer exactly where the text passes with it.
use Rattle.std.proofs.Common.{◌≡◌, ℕ, ◌≤◌, false, nat_eq, List, [], ◌∷◌, ◌++◌, length, map, Some, refl, sym, ap, subst, ◌∙◌}
use Rattle.std.specs.List.{AllByRecursion}
use Rattle.std.proofs.lemmas.Bool.{eqb-false}
use Rattle.rows.specs.Parts.{ProblemParts}
use Rattle.search_core.specs.declared.limits.TheConstants.{BRANCHINGS}
use Rattle.search_core.specs.declared.entry.Entry.{Entry}
use Rattle.search_core.specs.declared.answer.Answer.{Answer}
use Rattle.search_core.specs.State.{SearchState, start_of}
use Rattle.search_core.specs.Step.{Step}
use Rattle.search_core.specs.History.{Steps}
use Rattle.search_core.specs.Answers.{answer_of}
use Rattle.proof_log.specs.declared.log_line.LogLine.{LogLine}
use Rattle.proof_log.specs.declared.log_line.LogLine.TheVariants as lines
use Rattle.proof_log.specs.Value.{log_line, text_of, ended}
use Rattle.proof_log.specs.Log.{IsReadable, lines_text, log_lines, LOG_BYTES, Accepts}
use Rattle.log_checker.specs.Phase.{Phase, Begun, Versioned, Sized, Running, Closed, IsClosedWith}
use Rattle.log_checker.specs.Feeding.{SaysLine, Versions, Sizes, Limits, Enters, Closes, Leads, LinesLead, IsAnswer}
use Rattle.log_checker.specs.Text.{IsMadeOf, bytes_of}
use Rattle.log_checker.proofs.LineLaws.{same_running}

-- the bytes of what some lines say
abbrev pub written : List LogLine → List (List ℕ)
written said = map (λ x. text_of (log_line x)) said

bytes_of-written : (said : List LogLine) → bytes_of (written said) ≡ lines_text said
bytes_of-written [] = refl
bytes_of-written (x ∷ xs) = ap (λ (l : List ℕ). ended (text_of (log_line x)) ++ l) (bytes_of-written xs)

-- entries and a closing line
abbrev closed_by : List Entry → SearchState → Answer → List LogLine
closed_by entries state answer = map (λ e. lines.Entry e) entries ++ lines.Closing answer state.branchings (length state.cuts) ∷ []

-- lines are those of entries that are steps from a state, and of the closing line of where they lead
record RunsOut (problem : ProblemParts) (state : SearchState) (fed : List (List ℕ)) (answer : Answer) : Type 0 where
  pub entries : List Entry
  pub end : SearchState
  pub steps : Steps problem state entries end
  pub answers : answer_of end ≡ Some answer
  pub fed_are : fed ≡ written (closed_by entries end answer)
  pub readable : AllByRecursion IsReadable (closed_by entries end answer)

-- the number of a phase's kind
kind : Phase → ℕ
kind Begun = 0
kind Versioned = 1
kind Sized = 2
kind (Running state) = 3
kind (Closed state answer) = 4

-- phases of two kinds differ
differ : {P : Type 0} (a b : Phase) → a ≡ b → nat_eq (kind a) (kind b) ≡ false → P
differ a b e other = absurd (eqb-false (kind a) (kind b) other (ap kind e))

-- no line leads on from a closing line
nothing_follows : {P : Type 0} (problem : ProblemParts) (state : SearchState) (answer : Answer) (said : LogLine) (new : Phase) → Leads problem (Closed state answer) said new → P
unfolding kind
nothing_follows problem state answer lines.Version new x = let p : Versions (Closed state answer) new = x in differ (Closed state answer) Begun p.before refl
nothing_follows problem state answer (lines.Vars c e) new x = let p : Sizes problem (Closed state answer) c e new = x in differ (Closed state answer) Versioned p.before refl
nothing_follows problem state answer (lines.Limit limit) new x = let p : Limits (Closed state answer) limit new = x in differ (Closed state answer) Sized p.before refl
nothing_follows problem state answer (lines.Entry entry) new x = let p : Enters problem (Closed state answer) entry new = x in differ (Closed state answer) (Running p.state) p.before refl
nothing_follows problem state answer (lines.Closing a b c) new x = let p : Closes (Closed state answer) a b c new = x in differ (Closed state answer) (Running p.state) p.before refl

ends_there : (problem : ProblemParts) (state : SearchState) (a answer : Answer) (rest : List (List ℕ)) (phase : Phase) → LinesLead problem (Closed state a) rest phase → IsClosedWith answer phase → (rest ≡ []) × (a ≡ answer)
ends_there problem state a answer [] phase leads closed = (refl, subst (IsClosedWith answer) leads closed)
ends_there problem state a answer (line ∷ rest) phase leads closed = nothing_follows problem state a leads.1.said leads.0 leads.1.leads

-- one more entry in front
more_out : (problem : ProblemParts) (state next : SearchState) (line : List ℕ) (entry : Entry) (rest : List (List ℕ)) (answer : Answer)
    → SaysLine line (lines.Entry entry) → Step problem state entry next → RunsOut problem next rest answer → RunsOut problem state (line ∷ rest) answer
more_out problem state next line entry rest answer says step out = record {
  entries = entry ∷ out.entries;
  end = out.end;
  steps = (next, step, out.steps);
  answers = out.answers;
  fed_are = λ i. says.text i ∷ out.fed_are i;
  readable = (says.readable, out.readable);
}

-- the closing line alone
closes_out : (problem : ProblemParts) (state : SearchState) (line : List ℕ) (a answer : Answer) (b c : ℕ)
    → SaysLine line (lines.Closing a b c) → IsAnswer state a b c → a ≡ answer → RunsOut problem state (line ∷ []) answer
closes_out problem state line a answer b c says is same =
    let said : lines.Closing a b c ≡ lines.Closing answer state.branchings (length state.cuts) = λ i. lines.Closing (same i) (is.branchings i) (is.cuts i) in
    let now : SaysLine line (lines.Closing answer state.branchings (length state.cuts)) = subst (SaysLine line) said says in
    record {
      entries = [];
      end = state;
      steps = refl;
      answers = is.answers ∙ ap (λ x. Some x) same;
      fed_are = λ i. now.text i ∷ [];
      readable = (now.readable, tt);
    }

-- what a line says leads on from a state, and the rest runs out from wherever it leads
said_out : (problem : ProblemParts) (state : SearchState) (line : List ℕ) (rest : List (List ℕ)) (mid phase : Phase) (answer : Answer) (said : LogLine)
    → ((next : SearchState) → LinesLead problem (Running next) rest phase → RunsOut problem next rest answer)
    → SaysLine line said → Leads problem (Running state) said mid → LinesLead problem mid rest phase → IsClosedWith answer phase → RunsOut problem state (line ∷ rest) answer
unfolding kind
said_out problem state line rest mid phase answer lines.Version go says x more closed = let p : Versions (Running state) mid = x in differ (Running state) Begun p.before refl
said_out problem state line rest mid phase answer (lines.Vars c e) go says x more closed = let p : Sizes problem (Running state) c e mid = x in differ (Running state) Versioned p.before refl
said_out problem state line rest mid phase answer (lines.Limit limit) go says x more closed = let p : Limits (Running state) limit mid = x in differ (Running state) Sized p.before refl
said_out problem state line rest mid phase answer (lines.Entry entry) go says x more closed =
    let p : Enters problem (Running state) entry mid = x in
    let P : SearchState → Type 0 = λ s. Step problem s entry p.next in
    let step : Step problem state entry p.next = subst P (sym (same_running p.before)) p.step in
    let Q : Phase → Type 0 = λ m. LinesLead problem m rest phase in
    more_out problem state p.next line entry rest answer says step (go p.next (subst Q p.after more))
said_out problem state line rest mid phase answer (lines.Closing a b c) go says x more closed =
    let p : Closes (Running state) a b c mid = x in
    let P : SearchState → Type 0 = λ s. IsAnswer s a b c in
    let is : IsAnswer state a b c = subst P (sym (same_running p.before)) p.answer in
    let Q : Phase → Type 0 = λ m. LinesLead problem m rest phase in
    let end = ends_there problem p.state a answer rest phase (subst Q p.after more) closed in
    let R : List (List ℕ) → Type 0 = λ r. RunsOut problem state (line ∷ r) answer in
    subst R (sym end.0) (closes_out problem state line a answer b c says is end.1)

runs_out : (problem : ProblemParts) (state : SearchState) (fed : List (List ℕ)) (phase : Phase) (answer : Answer) → LinesLead problem (Running state) fed phase → IsClosedWith answer phase → RunsOut problem state fed answer
runs_out problem state [] phase answer leads closed = absurd (subst (IsClosedWith answer) leads closed)
runs_out problem state (line ∷ rest) phase answer leads closed =
    said_out problem state line rest leads.0 phase answer leads.1.said (λ next more. runs_out problem next rest phase answer more closed) leads.1.says leads.1.leads leads.2 closed

-- ---- the other way: the lines of a history and its closing line lead to its answer

leads_out : (problem : ProblemParts) (entries : List Entry) (state end : SearchState) (answer : Answer)
    → Steps problem state entries end → answer_of end ≡ Some answer → AllByRecursion IsReadable (closed_by entries end answer)
    → LinesLead problem (Running state) (written (closed_by entries end answer)) (Closed end answer)
leads_out problem [] state end answer steps answers readable = (
  Closed end answer,
  record {
    said = lines.Closing answer end.branchings (length end.cuts);
    says = record { readable = readable.0; text = refl };
    leads = record { state = end; before = ap (λ s. Running s) (sym steps); answer = record { answers = answers; branchings = refl; cuts = refl }; after = refl };
  },
  refl,
)
leads_out problem (entry ∷ entries) state end answer steps answers readable = (
  Running steps.0,
  record {
    said = lines.Entry entry;
    says = record { readable = readable.0; text = refl };
    leads = record { state = state; next = steps.0; before = refl; step = steps.1; after = refl };
  },
  leads_out problem entries steps.0 end answer steps.2 answers readable.1,
)

pub header_leads : (problem : ProblemParts) (limit : ℕ) (entries : List Entry) (end : SearchState) (answer : Answer)
    → limit ≤ BRANCHINGS → Steps problem (start_of limit) entries end → answer_of end ≡ Some answer
    → AllByRecursion IsReadable (log_lines problem limit entries answer end.branchings (length end.cuts))
    → LinesLead problem Begun (written (log_lines problem limit entries answer end.branchings (length end.cuts))) (Closed end answer)
header_leads problem limit entries end answer few steps answers readable = (
  Versioned,
  record { said = lines.Version; says = record { readable = readable.0; text = refl }; leads = record { before = refl; after = refl } },
  (
    Sized,
    record {
      said = lines.Vars (length problem.library.components) (length problem.library.edges);
      says = record { readable = readable.1.0; text = refl };
      leads = record { before = refl; components = refl; edges = refl; after = refl };
    },
    (
      Running (start_of limit),
      record { said = lines.Limit limit; says = record { readable = readable.1.1.0; text = refl }; leads = record { before = refl; few = few; after = refl } },
      leads_out problem entries (start_of limit) end answer steps answers readable.1.1.1,
    ),
  ),
)

-- ---- the header lines

-- lines are the header of some limit, and the rest runs out from the start under it
record HeaderOut (problem : ProblemParts) (fed : List (List ℕ)) (answer : Answer) : Type 0 where
  pub limit : ℕ
  pub few : limit ≤ BRANCHINGS
  pub out : (rest : List (List ℕ)) × RunsOut problem (start_of limit) rest answer
  pub fed_are : fed ≡ text_of (log_line lines.Version) ∷ text_of (log_line (lines.Vars (length problem.library.components) (length problem.library.edges))) ∷ text_of (log_line (lines.Limit limit)) ∷ out.0
  pub version : IsReadable lines.Version
  pub vars : IsReadable (lines.Vars (length problem.library.components) (length problem.library.edges))
  pub limits : IsReadable (lines.Limit limit)

-- the same from the third line on
record LimitOut (problem : ProblemParts) (fed : List (List ℕ)) (answer : Answer) : Type 0 where
  pub limit : ℕ
  pub few : limit ≤ BRANCHINGS
  pub out : (rest : List (List ℕ)) × RunsOut problem (start_of limit) rest answer
  pub fed_are : fed ≡ text_of (log_line (lines.Limit limit)) ∷ out.0
  pub limits : IsReadable (lines.Limit limit)

-- and from the second on
record SizesOut (problem : ProblemParts) (fed : List (List ℕ)) (answer : Answer) : Type 0 where
  pub out : (rest : List (List ℕ)) × LimitOut problem rest answer
  pub fed_are : fed ≡ text_of (log_line (lines.Vars (length problem.library.components) (length problem.library.edges))) ∷ out.0
  pub vars : IsReadable (lines.Vars (length problem.library.components) (length problem.library.edges))

module _ (problem : ProblemParts) (phase : Phase) (answer : Answer) (closed : IsClosedWith answer phase) where
  limit_said : (line : List ℕ) (rest : List (List ℕ)) (mid : Phase) (said : LogLine) → SaysLine line said → Leads problem Sized said mid → LinesLead problem mid rest phase → LimitOut problem (line ∷ rest) answer
  unfolding kind
  limit_said line rest mid lines.Version says x more = let p : Versions Sized mid = x in differ Sized Begun p.before refl
  limit_said line rest mid (lines.Vars c e) says x more = let p : Sizes problem Sized c e mid = x in differ Sized Versioned p.before refl
  limit_said line rest mid (lines.Limit limit) says x more =
      let p : Limits Sized limit mid = x in
      let Q : Phase → Type 0 = λ m. LinesLead problem m rest phase in
      record {
        limit = limit;
        few = p.few;
        out = (rest, runs_out problem (start_of limit) rest phase answer (subst Q p.after more) closed);
        fed_are = λ i. says.text i ∷ rest;
        limits = says.readable;
      }
  limit_said line rest mid (lines.Entry entry) says x more = let p : Enters problem Sized entry mid = x in differ Sized (Running p.state) p.before refl
  limit_said line rest mid (lines.Closing a b c) says x more = let p : Closes Sized a b c mid = x in differ Sized (Running p.state) p.before refl

  limit_out : (fed : List (List ℕ)) → LinesLead problem Sized fed phase → LimitOut problem fed answer
  limit_out [] leads = absurd (subst (IsClosedWith answer) leads closed)
  limit_out (line ∷ rest) leads = limit_said line rest leads.0 leads.1.said leads.1.says leads.1.leads leads.2

  sizes_said : (line : List ℕ) (rest : List (List ℕ)) (mid : Phase) (said : LogLine) → SaysLine line said → Leads problem Versioned said mid → LinesLead problem mid rest phase → SizesOut problem (line ∷ rest) answer
  unfolding kind
  sizes_said line rest mid lines.Version says x more = let p : Versions Versioned mid = x in differ Versioned Begun p.before refl
  sizes_said line rest mid (lines.Vars c e) says x more =
      let p : Sizes problem Versioned c e mid = x in
      let Q : Phase → Type 0 = λ m. LinesLead problem m rest phase in
      let same : lines.Vars c e ≡ lines.Vars (length problem.library.components) (length problem.library.edges) = λ i. lines.Vars (p.components i) (p.edges i) in
      let now : SaysLine line (lines.Vars (length problem.library.components) (length problem.library.edges)) = subst (SaysLine line) same says in
      record { out = (rest, limit_out rest (subst Q p.after more)); fed_are = λ i. now.text i ∷ rest; vars = now.readable }
  sizes_said line rest mid (lines.Limit limit) says x more = let p : Limits Versioned limit mid = x in differ Versioned Sized p.before refl
  sizes_said line rest mid (lines.Entry entry) says x more = let p : Enters problem Versioned entry mid = x in differ Versioned (Running p.state) p.before refl
  sizes_said line rest mid (lines.Closing a b c) says x more = let p : Closes Versioned a b c mid = x in differ Versioned (Running p.state) p.before refl

  sizes_out : (fed : List (List ℕ)) → LinesLead problem Versioned fed phase → SizesOut problem fed answer
  sizes_out [] leads = absurd (subst (IsClosedWith answer) leads closed)
  sizes_out (line ∷ rest) leads = sizes_said line rest leads.0 leads.1.said leads.1.says leads.1.leads leads.2

  version_said : (line : List ℕ) (rest : List (List ℕ)) (mid : Phase) (said : LogLine) → SaysLine line said → Leads problem Begun said mid → LinesLead problem mid rest phase → HeaderOut problem (line ∷ rest) answer
  unfolding kind
  version_said line rest mid lines.Version says x more =
      let p : Versions Begun mid = x in
      let Q : Phase → Type 0 = λ m. LinesLead problem m rest phase in
      let sizes = sizes_out rest (subst Q p.after more) in
      let limits = sizes.out.1 in
      record {
        limit = limits.limit;
        few = limits.few;
        out = limits.out;
        fed_are = (λ i. says.text i ∷ sizes.fed_are i) ∙ ap (λ (l : List (List ℕ)). text_of (log_line lines.Version) ∷ text_of (log_line (lines.Vars (length problem.library.components) (length problem.library.edges))) ∷ l) limits.fed_are;
        version = says.readable;
        vars = sizes.vars;
        limits = limits.limits;
      }
  version_said line rest mid (lines.Vars c e) says x more = let p : Sizes problem Begun c e mid = x in differ Begun Versioned p.before refl
  version_said line rest mid (lines.Limit limit) says x more = let p : Limits Begun limit mid = x in differ Begun Sized p.before refl
  version_said line rest mid (lines.Entry entry) says x more = let p : Enters problem Begun entry mid = x in differ Begun (Running p.state) p.before refl
  version_said line rest mid (lines.Closing a b c) says x more = let p : Closes Begun a b c mid = x in differ Begun (Running p.state) p.before refl

  header_out : (fed : List (List ℕ)) → LinesLead problem Begun fed phase → HeaderOut problem fed answer
  header_out [] leads = absurd (subst (IsClosedWith answer) leads closed)
  header_out (line ∷ rest) leads = version_said line rest leads.0 leads.1.said leads.1.says leads.1.leads leads.2

-- the lines of a text that lead to an answer make it pass
pub lines_pass : (problem : ProblemParts) (text : List ℕ) (fed : List (List ℕ)) (phase : Phase) (answer : Answer)
    → text ≡ bytes_of fed → length text ≤ LOG_BYTES → LinesLead problem Begun fed phase → IsClosedWith answer phase → Accepts problem text answer
lines_pass problem text fed phase answer parts few leads closed =
    let head = header_out problem phase answer closed fed leads in
    let out = head.out.1 in
    let said : List LogLine = log_lines problem head.limit out.entries answer out.end.branchings (length out.end.cuts) in
    let fed_are : fed ≡ written said = head.fed_are
    ∙ ap (λ (l : List (List ℕ)). text_of (log_line lines.Version) ∷ text_of (log_line (lines.Vars (length problem.library.components) (length problem.library.edges))) ∷ text_of (log_line (lines.Limit head.limit)) ∷ l) out.fed_are in
    record {
      limit = head.limit;
      entries = out.entries;
      state = out.end;
      legal = record { few = head.few; steps = out.steps };
      answers = out.answers;
      text = parts ∙ ap bytes_of fed_are ∙ bytes_of-written said;
      readable = (head.version, (head.vars, (head.limits, out.readable)));
      few = few;
    }

pub text_passes : (problem : ProblemParts) (text : List ℕ) (fed : List (List ℕ)) (phase : Phase) (answer : Answer)
    → IsMadeOf text fed → length text ≤ LOG_BYTES → LinesLead problem Begun fed phase → IsClosedWith answer phase → Accepts problem text answer
text_passes problem text fed phase answer made few leads closed = lines_pass problem text fed phase answer made.parts few leads closed

-- some lines lead to an answer, and a text is their bytes
pub record HasLines (problem : ProblemParts) (text : List ℕ) (answer : Answer) : Type 0 where
  pub fed : List (List ℕ)
  pub end : Phase
  pub leads : LinesLead problem Begun fed end
  pub closed : IsClosedWith answer end
  pub parts : text ≡ bytes_of fed

-- a text that passes has such lines
pub passing_lines : (problem : ProblemParts) (text : List ℕ) (answer : Answer) → Accepts problem text answer → HasLines problem text answer
passing_lines problem text answer x =
    let said : List LogLine = log_lines problem x.limit x.entries answer x.state.branchings (length x.state.cuts) in
    record {
      fed = written said;
      end = Closed x.state answer;
      leads = header_leads problem x.limit x.entries x.state answer x.legal.few x.legal.steps x.answers x.readable;
      closed = refl;
      parts = x.text ∙ sym (bytes_of-written said);
    }
