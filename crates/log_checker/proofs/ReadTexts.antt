-- Reading a text line by line.
use Rattle.std.proofs.Common.{◌≡◌, ◌⊎◌, ℕ, ◌+◌, ◌≤◌, ◌<◌, List, [], ◌∷◌, ◌++◌, length, codes, refl, sym, ap, subst, ◌∙◌, append_assoc, arith, inl, inr, ⊎_elim}
use Rattle.std.specs.List.{AllByRecursion}
use Rattle.std.proofs.lemmas.Bool.{cases_eq}
use Rattle.std.proofs.lemmas.List.{append-nil, length-append}
use Rattle.std.proofs.lemmas.List.Elements.{recursion_from_All, All-from_recursion}
use Rattle.std.proofs.lemmas.Grind.{flat_map-append}
use Rattle.rows.specs.Parts.{ProblemParts}
use Rattle.search_core.specs.declared.rule.Rule.{Rule}
use Rattle.search_core.specs.declared.rule.Rule.TheVariants as rule
use Rattle.search_core.specs.declared.answer.Answer.{Answer}
use Rattle.proof_log.specs.declared.log_line.TheConstants.{LINE_BYTES}
use Rattle.proof_log.specs.declared.log_line.LineFault.TheVariants.{TooLong}
use Rattle.proof_log.specs.Value.{ended}
use Rattle.proof_log.specs.Log.{LOG_BYTES, Accepts}
use Rattle.proof_log.proofs.WholeLogs.{nothing_is_ended}
use Rattle.log_checker.specs.Phase.{Phase, Begun, next_line, IsClosedWith}
use Rattle.log_checker.specs.Feeding.{LineLeads, LinesLead}
use Rattle.log_checker.specs.Breaking.{LineBreaks}
use Rattle.log_checker.specs.Text.{LINE_FEED, HasNoLineFeed, bytes_of, HasLine, BreaksWhole, BreaksTail, HasRead, RestBreaks, FirstBrokenLine}
use Rattle.log_checker.proofs.PassingTexts.{lines_pass}

-- lines that lead on, and then one more
pub lead_more : (problem : ProblemParts) (old mid new : Phase) (before : List (List ℕ)) (line : List ℕ) → LinesLead problem old before mid → LineLeads problem mid line new → LinesLead problem old (before ++ line ∷ []) new
lead_more problem old mid new [] line leads more =
    let P : Phase → Type 0 = λ p. LineLeads problem p line new in
    (new, subst P leads more, refl)
lead_more problem old mid new (first ∷ before) line leads more = (leads.0, leads.1, lead_more problem leads.0 mid new before line leads.2 more)

-- the bytes of lines, and of one more
pub bytes_more : (before : List (List ℕ)) (line : List ℕ) → bytes_of (before ++ line ∷ []) ≡ bytes_of before ++ ended line
bytes_more before line = flat_map-append ended before (line ∷ []) ∙ ap (λ (l : List ℕ). bytes_of before ++ l) (append-nil (ended line))

-- each line has a byte, its line feed
pub lines_few : (before : List (List ℕ)) → length before ≤ length (bytes_of before)
lines_few [] = omega arith
lines_few (line ∷ before) = omega (arith, lines_few before, length-append (ended line) (bytes_of before), length-append line (codes "\n"))

-- the number of the next line, whose lines are counted up to 2^64 - 1
pub next_number : (n : ℕ) (before : List (List ℕ)) → n ≡ length before → length (bytes_of before) ≤ LOG_BYTES → next_line n ≡ length before + 1
next_number n before same few = omega (arith, same, few, lines_few before)

-- ---- the next line of a text

-- one more byte
free_more : (b : ℕ) (bytes : List ℕ) → (b ≡ LINE_FEED → ⊥) → HasNoLineFeed bytes → HasNoLineFeed (b ∷ bytes)
free_more b bytes other none = All-from_recursion (λ b. b ≡ LINE_FEED → ⊥) (b ∷ bytes) (other, recursion_from_All (λ b. b ≡ LINE_FEED → ⊥) bytes none)

none_free : HasNoLineFeed []
none_free = All-from_recursion (λ b. b ≡ LINE_FEED → ⊥) [] tt

-- a text begins with a whole line, or has no line feed
pub begins : (bytes : List ℕ) → ((line : List ℕ) × HasLine bytes line) ⊎ HasNoLineFeed bytes
begins [] = inr none_free
begins (b ∷ bytes) = ⊎_elim
    (λ (e : b ≡ LINE_FEED). inl ([], record { one = none_free; more = bytes; parts = λ i. e i ∷ bytes }))
    (λ (other : b ≡ LINE_FEED → ⊥). ⊎_elim
    (λ (h : (line : List ℕ) × HasLine bytes line). inl (b ∷ h.0, record { one = free_more b h.0 other h.1.one; more = h.1.more; parts = λ i. b ∷ h.1.parts i }))
    (λ (none : HasNoLineFeed bytes). inr (free_more b bytes other none))
    (begins bytes))
    (cases_eq b LINE_FEED)

-- bytes with no line feed, with which a text begins, belong to its first line
within_line : (front more line behind : List ℕ) → AllByRecursion (λ b. b ≡ LINE_FEED → ⊥) front → front ++ more ≡ line ++ (10 ∷ behind) → length front ≤ length line
within_line [] more line behind none same = omega arith
within_line (b ∷ front) more [] behind none same = absurd (none.0 cc)
within_line (b ∷ front) more (c ∷ line) behind none same =
    let tail : front ++ more ≡ line ++ (10 ∷ behind) = cc in
    omega (arith, within_line front more line behind none.1 tail)

-- ---- what stands behind the lines that were read

module _ (problem : ProblemParts) (phase : Phase) (start : ℕ) where
  -- a whole line that breaks a rule
  pub whole_breaks : (rest : List ℕ) (first : Rule) → BreaksWhole problem phase start rest first → RestBreaks problem phase start rest first
  whole_breaks [] first x = absurd (nothing_is_ended x.line x.next.more x.next.parts)
  whole_breaks (b ∷ rest) first x = inl x

  -- a last line with no line feed, of a byte at least
  pub tail_breaks : (rest : List ℕ) (first : Rule) → 1 ≤ length rest → BreaksTail start rest first → RestBreaks problem phase start rest first
  tail_breaks [] first some x = absurd (omega arith)
  tail_breaks (b ∷ rest) first some x = inr x

  -- a line that is fed breaks the rule that is told, where it ends within the bytes that a log may have
  pub fed_breaks : (rest line : List ℕ) (first : Rule) → HasLine rest line → start + length (ended line) ≤ LOG_BYTES → LineBreaks problem phase line first → RestBreaks problem phase start rest first
  fed_breaks rest line first next fits breaks = whole_breaks rest first (record { line = line; next = next; first = inr (fits, breaks) })

  -- a whole line of more bytes than are read
  pub long_breaks : (rest line : List ℕ) → HasLine rest line → start + length (ended line) ≤ LOG_BYTES → LINE_BYTES < length line → RestBreaks problem phase start rest rule.TooLong
  long_breaks rest line next fits long = fed_breaks rest line rule.TooLong next fits (inl (record { fault = TooLong; first = long; named = refl }))

  -- a last line of more bytes than are read
  pub long_tail : (rest : List ℕ) → HasNoLineFeed rest → start + length rest ≤ LOG_BYTES → LINE_BYTES < length rest → RestBreaks problem phase start rest rule.TooLong
  long_tail rest none fits long = tail_breaks rest rule.TooLong (omega (arith, long)) (record { none = none; first = inr (fits, inl ((λ short. omega (arith, short, long)), refl)) })

  -- a last line that is no longer
  pub short_tail : (rest : List ℕ) → 1 ≤ length rest → HasNoLineFeed rest → start + length rest ≤ LOG_BYTES → length rest ≤ LINE_BYTES → RestBreaks problem phase start rest rule.End
  short_tail rest some none fits short = tail_breaks rest rule.End some (record { none = none; first = inr (fits, inr (short, refl)) })

  -- a whole line that has a byte past those that a log may have
  pub line_too_large : (rest line : List ℕ) → HasLine rest line → LOG_BYTES < start + length (ended line) → RestBreaks problem phase start rest rule.TooLarge
  line_too_large rest line next large = whole_breaks rest rule.TooLarge (record { line = line; next = next; first = inl ((λ fits. omega (arith, fits, large)), refl) })

  -- the first bytes of a line, which go past those that a log may have, wherever it ends
  pub front_too_large : (rest front more : List ℕ) → rest ≡ front ++ more → HasNoLineFeed front → 1 ≤ length front → LOG_BYTES < start + length front → RestBreaks problem phase start rest rule.TooLarge
  front_too_large rest front more parts none some large = ⊎_elim
      (λ (h : (line : List ℕ) × HasLine rest line).
      let same : front ++ more ≡ h.0 ++ (10 ∷ h.1.more) = sym parts ∙ h.1.parts ∙ append_assoc h.0 (codes "\n") h.1.more in
      let within = within_line front more h.0 h.1.more (recursion_from_All (λ b. b ≡ LINE_FEED → ⊥) front none) same in
      line_too_large rest h.0 h.1 (omega (arith, large, within, length-append h.0 (codes "\n"))))
      (λ (free : HasNoLineFeed rest). tail_breaks rest rule.TooLarge (omega (arith, some, ap length parts, length-append front more)) (record {
        none = free;
        first = inl ((λ fits. omega (arith, fits, large, ap length parts, length-append front more)), refl);
      }))
      (begins rest)

-- ---- reading on

module _ (problem : ProblemParts) (text : List ℕ) where
  -- nothing is read of a text
  pub none_read : HasRead problem text [] Begun text
  none_read = record { parts = refl; few = omega arith; leads = refl }

  -- one more line is read, which leads on
  pub one_more_read : (before : List (List ℕ)) (phase new : Phase) (rest line : List ℕ) → HasRead problem text before phase rest → (next : HasLine rest line) → length (bytes_of before) + length (ended line) ≤ LOG_BYTES → LineLeads problem phase line new
      → HasRead problem text (before ++ line ∷ []) new next.more
  one_more_read before phase new rest line read next fits leads = record {
    parts = read.parts
        ∙ ap (λ (l : List ℕ). bytes_of before ++ l) next.parts
        ∙ sym (append_assoc (bytes_of before) (ended line) next.more)
        ∙ ap (λ (l : List ℕ). l ++ next.more) (sym (bytes_more before line));
    few = omega (arith, fits, ap length (bytes_more before line), length-append (bytes_of before) (ended line));
    leads = lead_more problem Begun phase new before line read.leads leads;
  }

  -- a text of which all is read passes where its last line is a closing one
  pub all_read : (before : List (List ℕ)) (phase : Phase) (answer : Answer) → HasRead problem text before phase [] → IsClosedWith answer phase → Accepts problem text answer
  all_read before phase answer read closed =
      let parts : text ≡ bytes_of before = read.parts ∙ append-nil (bytes_of before) in
      let P : List ℕ → Type 0 = λ l. length l ≤ LOG_BYTES in
      lines_pass problem text before phase answer parts (subst P (sym parts) read.few) read.leads closed

  -- what stands behind the lines that were read is the first broken line
  pub broken_there : (before : List (List ℕ)) (phase : Phase) (rest : List ℕ) (first : Rule) → HasRead problem text before phase rest → RestBreaks problem phase (length (bytes_of before)) rest first
      → FirstBrokenLine problem text (length before + 1) first
  broken_there before phase rest first read breaks = record { before = before; phase = phase; rest = rest; read = read; counted = refl; breaks = breaks }
