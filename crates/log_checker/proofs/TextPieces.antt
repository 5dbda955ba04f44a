-- Reading a text in pieces.
use Rattle.std.proofs.Common.{◌≡◌, ℕ, ◌+◌, ◌-◌, ◌≤◌, ◌<◌, min, List, [], ◌∷◌, ◌++◌, length, take, codes, refl, sym, ap, subst, ◌∙◌, append_assoc, inl, ⊎_elim, arith}
use Rattle.std.proofs.lemmas.Bool.{cases_lt}
use Rattle.std.proofs.lemmas.List.{length-append, length-take, take_all, append-nil}
use Rattle.std.proofs.lemmas.List.Elements.{All-nil, All-append}
use Rattle.rows.specs.Parts.{ProblemParts}
use Rattle.search_core.specs.declared.rule.Rule.{Rule}
use Rattle.search_core.specs.declared.rule.Rule.TheVariants as rule
use Rattle.search_core.specs.declared.answer.Answer.{Answer}
use Rattle.proof_log.specs.declared.log_line.TheConstants.{LINE_BYTES}
use Rattle.proof_log.specs.declared.log_line.LineFault.{LineFault}
use Rattle.proof_log.specs.declared.log_line.LineFault.TheVariants.{Form, Number, Order, TooLong}
use Rattle.proof_log.specs.Value.{ended}
use Rattle.proof_log.specs.Log.{LOG_BYTES, Accepts}
use Rattle.proof_log.specs.Fault.{LineBreaksFirst}
use Rattle.log_checker.specs.Phase.{CheckerParts, Phase, next_line, IsClosedWith, IsUnclosed}
use Rattle.log_checker.specs.Feeding.{LineLeads}
use Rattle.log_checker.specs.Breaking.{rule_of, FailsAlone, FailsThere, LineBreaks}
use Rattle.log_checker.specs.Text.{LINE_FEED, HasNoLineFeed, bytes_of, HasLine, RestBreaks, HasRead, FirstBrokenLine}
use Rattle.log_checker.specs.Reading.{TextParts, IsReading}
use Rattle.log_checker.proofs.NextLines.{whole_front, front_more}
use Rattle.log_checker.proofs.ReadTexts.{next_number, fed_breaks, long_tail, short_tail, line_too_large, front_too_large, one_more_read, all_read}

-- ---- a line whose front is fed

-- a line leads on where its front does
pub front_leads : (problem : ProblemParts) (old new : Phase) (line : List ℕ) → LineLeads problem old (take (LINE_BYTES + 1) line) new → LineLeads problem old line new
front_leads problem old new line x =
    let P : List ℕ → Type 0 = λ l. LineLeads problem old l new in
    let Q : List ℕ → Type 0 = λ l. length l ≤ LINE_BYTES in
    subst P (whole_front LINE_BYTES line (subst Q (sym x.says.text) x.says.readable.1)) x

-- a longer line than is read is too long, and nothing else
too_long : (bytes : List ℕ) (fault : LineFault) → LINE_BYTES < length bytes → LineBreaksFirst bytes fault → fault ≡ TooLong
too_long bytes Form far x = absurd (omega (arith, far, x.0))
too_long bytes Number far x = absurd (omega (arith, far, x.0))
too_long bytes Order far x = absurd (omega (arith, far, x.0))
too_long bytes TooLong far x = refl

far_breaks : (problem : ProblemParts) (phase : Phase) (bytes : List ℕ) (broken : Rule) → LINE_BYTES < length bytes → LineBreaks problem phase bytes broken → broken ≡ rule.TooLong
far_breaks problem phase bytes broken far x = ⊎_elim
    (λ (alone : FailsAlone bytes broken). alone.named ∙ ap rule_of (too_long bytes alone.fault far alone.first))
    (λ (there : FailsThere problem phase bytes broken).
    let Q : List ℕ → Type 0 = λ l. length l ≤ LINE_BYTES in
    let short : length bytes ≤ LINE_BYTES = subst Q (sym there.says.text) there.says.readable.1 in
    absurd (omega (arith, far, short)))
    x

-- a line breaks first what its front does
pub front_breaks : (problem : ProblemParts) (phase : Phase) (line : List ℕ) (broken : Rule) → LineBreaks problem phase (take (LINE_BYTES + 1) line) broken → LineBreaks problem phase line broken
front_breaks problem phase line broken x = ⊎_elim
    (λ (far : LINE_BYTES < length line).
    let front : LINE_BYTES < length (take (LINE_BYTES + 1) line) = omega (arith, far, length-take (LINE_BYTES + 1) line) in
    inl (record { fault = TooLong; first = far; named = far_breaks problem phase (take (LINE_BYTES + 1) line) broken front x }))
    (λ (short : length line ≤ LINE_BYTES).
    let P : List ℕ → Type 0 = λ l. LineBreaks problem phase l broken in
    subst P (take_all (LINE_BYTES + 1) line (omega (arith, short))) x)
    (cases_lt LINE_BYTES (length line))

both_free : (a b : List ℕ) → HasNoLineFeed a → HasNoLineFeed b → HasNoLineFeed (a ++ b)
both_free a b = All-append (λ c. c ≡ LINE_FEED → ⊥) a b

-- bytes and a line feed, behind a tail
line_parts : (tail part more : List ℕ) → tail ++ ((part ++ LINE_FEED ∷ []) ++ more) ≡ ended (tail ++ part) ++ more
line_parts tail part more = simp append_assoc

-- ---- one step of a reader

module _ (old : TextParts) (text : List ℕ) (x : IsReading old text) where
  sizes : old.bytes ≡ length (bytes_of x.lines) + length x.tail
  sizes = x.bytes ∙ ap (λ (l : List ℕ). length l) x.read.parts ∙ length-append (bytes_of x.lines) x.tail

  read_behind : (more : List ℕ) → HasRead old.checker.problem (text ++ more) x.lines old.checker.phase (x.tail ++ more)
  read_behind more = record {
    parts = ap (λ (l : List ℕ). l ++ more) x.read.parts ∙ append_assoc (bytes_of x.lines) x.tail more;
    few = x.read.few;
    leads = x.read.leads;
  }

  broken_behind : (more : List ℕ) (number : ℕ) (broken : Rule) → number ≡ next_line old.checker.lines
      → RestBreaks old.checker.problem old.checker.phase (length (bytes_of x.lines)) (x.tail ++ more) broken → FirstBrokenLine old.checker.problem (text ++ more) number broken
  broken_behind more number first is breaks = record {
    before = x.lines;
    phase = old.checker.phase;
    rest = x.tail ++ more;
    read = read_behind more;
    counted = is ∙ next_number old.checker.lines x.lines x.counted x.read.few;
    breaks = breaks;
  }

  -- more bytes of the unfinished line
  pub kept_added : (new : TextParts) (part front : List ℕ) → HasNoLineFeed part → old.bytes + length part ≤ LOG_BYTES → new.checker ≡ old.checker
      → front ≡ take (LINE_BYTES + 1 - length old.kept) part → new.kept ≡ old.kept ++ front → new.bytes ≡ old.bytes + length part → IsReading new (text ++ part)
  kept_added new part front none fits same is kept bytes =
      let P : CheckerParts → Type 0 = λ c. HasRead c.problem (text ++ part) x.lines c.phase (x.tail ++ part) in
      record {
        lines = x.lines;
        tail = x.tail ++ part;
        read = subst P (sym same) (read_behind part);
        none = both_free x.tail part x.none none;
        few = omega (arith, fits, x.bytes, length-append text part);
        counted = ap (λ (c : CheckerParts). c.lines) same ∙ x.counted;
        kept = kept
            ∙ ap (λ (l : List ℕ). old.kept ++ l) is
            ∙ ap (λ (l : List ℕ). l ++ take (LINE_BYTES + 1 - length l) part) x.kept
            ∙ sym (front_more (LINE_BYTES + 1) x.tail part);
        bytes = bytes ∙ ap (λ n. n + length part) x.bytes ∙ sym (length-append text part);
      }

  fits_there : (part : List ℕ) → old.bytes + (length part + 1) ≤ LOG_BYTES → length (bytes_of x.lines) + length (ended (x.tail ++ part)) ≤ LOG_BYTES
  fits_there part fits = omega (arith, fits, sizes, length-append (x.tail ++ part) (codes "\n"), length-append x.tail part)

  line_there : (part more : List ℕ) → HasNoLineFeed part → HasLine (x.tail ++ ((part ++ LINE_FEED ∷ []) ++ more)) (x.tail ++ part)
  line_there part more none = record { one = both_free x.tail part x.none none; more = more; parts = line_parts x.tail part more }

  -- the rest of the unfinished line, and its line feed
  pub line_added : (new : TextParts) (part : List ℕ) → HasNoLineFeed part → old.bytes + (length part + 1) ≤ LOG_BYTES → LineLeads old.checker.problem old.checker.phase (x.tail ++ part) new.checker.phase
      → new.checker.problem ≡ old.checker.problem → new.checker.lines ≡ next_line old.checker.lines → new.kept ≡ [] → new.bytes ≡ old.bytes + (length part + 1) → IsReading new (text ++ (part ++ LINE_FEED ∷ []))
  line_added new part none fits leads same counted kept bytes =
      let line : List ℕ = x.tail ++ part in
      let end : List ℕ = part ++ LINE_FEED ∷ [] in
      let next : HasLine (x.tail ++ end) line = record { one = both_free x.tail part x.none none; more = []; parts = sym (append_assoc x.tail part (LINE_FEED ∷ [])) ∙ sym (append-nil (ended line)) } in
      let P : ProblemParts → Type 0 = λ p. HasRead p (text ++ end) (x.lines ++ line ∷ []) new.checker.phase [] in
      record {
        lines = x.lines ++ line ∷ [];
        tail = [];
        read = subst P (sym same) (one_more_read old.checker.problem (text ++ end) x.lines old.checker.phase new.checker.phase (x.tail ++ end) line (read_behind end) next (fits_there part fits) leads);
        none = All-nil (λ c. c ≡ LINE_FEED → ⊥);
        few = omega (arith, fits, x.bytes, length-append text end, length-append part (LINE_FEED ∷ []));
        counted = counted ∙ next_number old.checker.lines x.lines x.counted x.read.few ∙ sym (length-append x.lines (line ∷ []));
        kept = kept;
        bytes = omega (arith, bytes, x.bytes, length-append text end, length-append part (LINE_FEED ∷ []));
      }

  -- the line that is ended here breaks a rule
  pub line_broken : (part more : List ℕ) (number : ℕ) (broken : Rule) → HasNoLineFeed part → old.bytes + (length part + 1) ≤ LOG_BYTES → number ≡ next_line old.checker.lines
      → LineBreaks old.checker.problem old.checker.phase (x.tail ++ part) broken → FirstBrokenLine old.checker.problem (text ++ (part ++ LINE_FEED ∷ []) ++ more) number broken
  line_broken part more number broken none fits is breaks =
      let rest : List ℕ = (part ++ LINE_FEED ∷ []) ++ more in
      let P : List ℕ → Type 0 = λ l. FirstBrokenLine old.checker.problem l number broken in
      subst P (sym (append_assoc text (part ++ LINE_FEED ∷ []) more)) (broken_behind rest number broken is (fed_breaks old.checker.problem old.checker.phase (length (bytes_of x.lines)) (x.tail ++ rest) (x.tail ++ part) broken (line_there part more none) (fits_there part fits) breaks))

  -- the line feed of the line stands past the longest log
  pub line_past : (part more : List ℕ) (number : ℕ) → HasNoLineFeed part → LOG_BYTES < old.bytes + (length part + 1) → number ≡ next_line old.checker.lines
      → FirstBrokenLine old.checker.problem (text ++ (part ++ LINE_FEED ∷ []) ++ more) number rule.TooLarge
  line_past part more number none past is =
      let rest : List ℕ = (part ++ LINE_FEED ∷ []) ++ more in
      let P : List ℕ → Type 0 = λ l. FirstBrokenLine old.checker.problem l number rule.TooLarge in
      let far : LOG_BYTES < length (bytes_of x.lines) + length (ended (x.tail ++ part)) = omega (arith, past, sizes, length-append (x.tail ++ part) (codes "\n"), length-append x.tail part) in
      subst P (sym (append_assoc text (part ++ LINE_FEED ∷ []) more)) (broken_behind rest number rule.TooLarge is (line_too_large old.checker.problem old.checker.phase (length (bytes_of x.lines)) (x.tail ++ rest) (x.tail ++ part) (line_there part more none) far))

  -- a byte of the unfinished line stands past the longest log, whatever comes behind
  pub part_past : (part more : List ℕ) (number : ℕ) → HasNoLineFeed part → LOG_BYTES < old.bytes + length part → number ≡ next_line old.checker.lines → FirstBrokenLine old.checker.problem (text ++ part ++ more) number rule.TooLarge
  part_past part more number none past is =
      let P : List ℕ → Type 0 = λ l. FirstBrokenLine old.checker.problem l number rule.TooLarge in
      let far : LOG_BYTES < length (bytes_of x.lines) + length (x.tail ++ part) = omega (arith, past, sizes, length-append x.tail part) in
      subst P (sym (append_assoc text part more)) (broken_behind (part ++ more) number rule.TooLarge is (front_too_large old.checker.problem old.checker.phase (length (bytes_of x.lines)) (x.tail ++ (part ++ more)) (x.tail ++ part) more
      (sym (append_assoc x.tail part more)) (both_free x.tail part x.none none) (omega (arith, far, x.read.few)) far))

  -- ---- the end of a text

  -- nothing is kept where no line is unfinished
  pub none_left : old.kept ≡ [] → x.tail ≡ []
  none_left empty =
      let front : take (LINE_BYTES + 1) x.tail ≡ [] = sym x.kept ∙ empty in
      let none : length (take (LINE_BYTES + 1) x.tail) ≡ 0 = ap (λ (l : List ℕ). length l) front in
      sym (whole_front LINE_BYTES x.tail (omega (arith, none))) ∙ front

  broken_there : (number : ℕ) (broken : Rule) → number ≡ next_line old.checker.lines → RestBreaks old.checker.problem old.checker.phase (length (bytes_of x.lines)) x.tail broken → FirstBrokenLine old.checker.problem text number broken
  broken_there number first is breaks = record {
    before = x.lines;
    phase = old.checker.phase;
    rest = x.tail;
    read = x.read;
    counted = is ∙ next_number old.checker.lines x.lines x.counted x.read.few;
    breaks = breaks;
  }

  pub end_passes : (answer : Answer) → old.kept ≡ [] → IsClosedWith answer old.checker.phase → Accepts old.checker.problem text answer
  end_passes answer empty closed =
      let P : List ℕ → Type 0 = λ l. HasRead old.checker.problem text x.lines old.checker.phase l in
      all_read old.checker.problem text x.lines old.checker.phase answer (subst P (none_left empty) x.read) closed

  pub end_missing : (number : ℕ) → old.kept ≡ [] → IsUnclosed old.checker.phase → number ≡ next_line old.checker.lines → FirstBrokenLine old.checker.problem text number rule.End
  end_missing number empty unclosed is =
      let P : List ℕ → Type 0 = λ l. RestBreaks old.checker.problem old.checker.phase (length (bytes_of x.lines)) l rule.End in
      broken_there number rule.End is (subst P (sym (none_left empty)) (unclosed, refl))

  tail_fits : length (bytes_of x.lines) + length x.tail ≤ LOG_BYTES
  tail_fits = omega (arith, sizes, x.bytes, x.few)

  pub end_long : (number : ℕ) → LINE_BYTES < length old.kept → number ≡ next_line old.checker.lines → FirstBrokenLine old.checker.problem text number rule.TooLong
  end_long number far is =
      let long : LINE_BYTES < length x.tail = omega (arith, far, ap (λ (l : List ℕ). length l) x.kept, length-take (LINE_BYTES + 1) x.tail) in
      broken_there number rule.TooLong is (long_tail old.checker.problem old.checker.phase (length (bytes_of x.lines)) x.tail x.none tail_fits long)

  pub end_short : (number : ℕ) → 0 < length old.kept → length old.kept ≤ LINE_BYTES → number ≡ next_line old.checker.lines → FirstBrokenLine old.checker.problem text number rule.End
  end_short number some short is =
      let long : length old.kept ≡ min (LINE_BYTES + 1) (length x.tail) = ap (λ (l : List ℕ). length l) x.kept ∙ length-take (LINE_BYTES + 1) x.tail in
      broken_there number rule.End is (short_tail old.checker.problem old.checker.phase (length (bytes_of x.lines)) x.tail (omega (arith, long, some)) x.none tail_fits (omega (arith, long, short)))
