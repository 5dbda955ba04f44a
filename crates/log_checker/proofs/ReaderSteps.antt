-- The steps of a checker of texts, as its code takes them.
use Rattle.std.proofs.Common.{◌≡◌, ℕ, ◌+◌, ◌≤◌, List, [], ◌∷◌, ◌++◌, length, take, drop, Bool, false, cond, Result, Ok, Err, IfErr, OnErr, refl, sym, ap, subst, ◌∙◌, append_assoc, arith}
use Rattle.std.specs.Prelude.{not}
use Rattle.std.specs.Result.{is_ok}
use Rattle.std.proofs.lemmas.List.{append-nil}
use Rattle.rows.specs.Parts.{ProblemParts}
use Rattle.search_core.specs.declared.rule.Rule.{Rule}
use Rattle.search_core.specs.declared.rule.Rule.TheVariants as rule
use Rattle.search_core.specs.declared.answer.Answer.{Answer}
use Rattle.proof_log.specs.Log.{LOG_BYTES}
use Rattle.log_checker.specs.declared.error.No.{No}
use Rattle.log_checker.specs.declared.error.CheckError.{CheckError}
use Rattle.log_checker.specs.declared.error.CheckError.TheVariants as error
use Rattle.log_checker.specs.Phase.{CheckerParts, next_line, IsUnclosed}
use Rattle.log_checker.specs.Feeding.{LineLeads}
use Rattle.log_checker.specs.Breaking.{LineBreaks}
use Rattle.log_checker.specs.Refused.{NamesRule, NamesLine}
use Rattle.log_checker.specs.Text.{LINE_FEED, HasNoLineFeed, FirstBrokenLine}
use Rattle.log_checker.specs.Reading.{TextParts, IsReading, Adds, AddsFront, BreaksBehind}
use Rattle.log_checker.proofs.NextLines.{IsFirstFeed, no_feeds}
use Rattle.log_checker.proofs.TextPieces.{front_leads, front_breaks, line_added, line_broken, none_left, end_missing}

-- ---- results

pub on_err_holds : {T E P : Type 0} (r : Result T E) → P → OnErr r P
on_err_holds (Ok x) p = tt
on_err_holds (Err e) p = p

pub if_err_weaker : {T E : Type 0} (r : Result T E) (P Q : E → Type 0) → ((e : E) → P e → Q e) → IfErr r P → IfErr r Q
if_err_weaker (Ok x) P Q go h = tt
if_err_weaker (Err e) P Q go h = go e h

-- a list that grew, where the call that adds to it didn't fail
pub grown : {T E : Type 0} (r : Result T E) (failed : Bool) (old new more : List ℕ) → is_ok r ≡ not failed → failed ≡ false → new ≡ cond (is_ok r) (old ++ more) old → new ≡ old ++ more
grown r failed old new more e f h = h ∙ ap (λ b. cond b (old ++ more) old) (e ∙ ap not f)

-- ---- one step after another

pub adds_then : (a b c : TextParts) (x y : List ℕ) → Adds a x b → Adds b y c → Adds a (x ++ y) c
adds_then a b c x y first next text reading =
    let P : List ℕ → Type 0 = λ l. IsReading c l in
    subst P (append_assoc text x y) (next (text ++ x) (first text reading))

-- what breaks behind what was read, and behind further bytes
pub breaks_then : (a b : TextParts) (x y : List ℕ) (e : CheckError) → Adds a x b → b.checker.problem ≡ a.checker.problem → BreaksBehind b y e → BreaksBehind a (x ++ y) e
breaks_then a b x y error.Memory adds same breaks = tt
breaks_then a b x y (error.No refused) adds same breaks = λ text more reading.
    let P : List ℕ → Type 0 = λ l. FirstBrokenLine b.checker.problem (l ++ more) refused.line refused.rule in
    let Q : ProblemParts → Type 0 = λ p. FirstBrokenLine p (text ++ (x ++ y) ++ more) refused.line refused.rule in
    subst Q same (subst P (append_assoc text x y) (breaks (text ++ x) more (adds text reading)))

pub breaks_more : (a : TextParts) (x y : List ℕ) (e : CheckError) → BreaksBehind a x e → BreaksBehind a (x ++ y) e
breaks_more a x y error.Memory breaks = tt
breaks_more a x y (error.No refused) breaks = λ text more reading.
    let P : List ℕ → Type 0 = λ l. FirstBrokenLine a.checker.problem l refused.line refused.rule in
    subst P (regroup text x y more) (breaks text (y ++ more) reading)
  where
    regroup : (a b c d : List ℕ) → a ++ b ++ (c ++ d) ≡ a ++ (b ++ c) ++ d
    regroup a b c d = simp append_assoc

pub none_added : (old : TextParts) → Adds old [] old
none_added old text reading = let P : List ℕ → Type 0 = λ l. IsReading old l in subst P (sym (append-nil text)) reading

-- nothing of a piece was read
pub no_front : (old new : TextParts) (piece : List ℕ) → new ≡ old → AddsFront old piece new
no_front old new piece same =
    let P : TextParts → Type 0 = λ v. Adds old [] v in
    record { front = []; rest = piece; parts = refl; adds = subst P (sym same) (none_added old) }

-- the first part of a piece was read
pub first_front : (old mid new : TextParts) (x y : List ℕ) → Adds old x mid → new ≡ mid → AddsFront old (x ++ y) new
first_front old mid new x y adds same =
    let P : TextParts → Type 0 = λ v. Adds old x v in
    record { front = x; rest = y; parts = refl; adds = subst P (sym same) adds }

-- a front of what came behind the first part was read
pub front_then : (old mid new : TextParts) (x y : List ℕ) → Adds old x mid → AddsFront mid y new → AddsFront old (x ++ y) new
front_then old mid new x y adds next = record {
  front = x ++ next.front;
  rest = next.rest;
  parts = ap (λ (l : List ℕ). x ++ l) next.parts ∙ sym (append_assoc x next.front next.rest);
  adds = adds_then old mid new x next.front adds next.adds;
}

pub front_more_behind : (old new : TextParts) (x y : List ℕ) → AddsFront old x new → AddsFront old (x ++ y) new
front_more_behind old new x y front = record {
  front = front.front;
  rest = front.rest ++ y;
  parts = ap (λ (l : List ℕ). l ++ y) front.parts ∙ append_assoc front.front front.rest y;
  adds = front.adds;
}

-- ---- a line that is ended

module _ (old : TextParts) (checker : CheckerParts) (is_checker : checker ≡ old.checker) where
  -- all of whose bytes come at once
  pub end_line_adds : (new : TextParts) (line : List ℕ) → HasNoLineFeed line → old.bytes + (length line + 1) ≤ LOG_BYTES → old.kept ≡ [] → LineLeads checker.problem checker.phase line new.checker.phase
      → new.checker.problem ≡ checker.problem → new.checker.lines ≡ next_line checker.lines → new.kept ≡ [] → new.bytes ≡ old.bytes + (length line + 1) → Adds old (line ++ LINE_FEED ∷ []) new
  end_line_adds new line none fits empty leads same counted kept bytes text x =
      let P : CheckerParts → Type 0 = λ c. LineLeads c.problem c.phase line new.checker.phase in
      let Q : List ℕ → Type 0 = λ t. LineLeads old.checker.problem old.checker.phase (t ++ line) new.checker.phase in
      line_added old text x new line none fits (subst Q (sym (none_left old text x empty)) (subst P is_checker leads))
      (same ∙ ap (λ (c : CheckerParts). c.problem) is_checker) (counted ∙ ap (λ (c : CheckerParts). next_line c.lines) is_checker) kept bytes

  pub end_line_breaks : (line : List ℕ) (e : CheckError) → HasNoLineFeed line → old.bytes + (length line + 1) ≤ LOG_BYTES → old.kept ≡ [] → NamesRule checker line e → NamesLine checker e → BreaksBehind old (line ++ LINE_FEED ∷ []) e
  end_line_breaks line error.Memory none fits empty names number = tt
  end_line_breaks line (error.No refused) none fits empty names number = λ text more x.
      let P : CheckerParts → Type 0 = λ c. LineBreaks c.problem c.phase line refused.rule in
      let Q : List ℕ → Type 0 = λ t. LineBreaks old.checker.problem old.checker.phase (t ++ line) refused.rule in
      line_broken old text x line more refused.line refused.rule none fits (number ∙ ap (λ (c : CheckerParts). next_line c.lines) is_checker)
      (subst Q (sym (none_left old text x empty)) (subst P is_checker names))

  -- whose front is kept
  pub end_kept_adds : (new : TextParts) (kept : List ℕ) → kept ≡ old.kept → old.bytes + 1 ≤ LOG_BYTES → LineLeads checker.problem checker.phase kept new.checker.phase
      → new.checker.problem ≡ checker.problem → new.checker.lines ≡ next_line checker.lines → new.kept ≡ [] → new.bytes ≡ old.bytes + 1 → Adds old (LINE_FEED ∷ []) new
  end_kept_adds new kept is_kept fits leads same counted none bytes text x =
      let P : CheckerParts → Type 0 = λ c. LineLeads c.problem c.phase kept new.checker.phase in
      let Q : List ℕ → Type 0 = λ l. LineLeads old.checker.problem old.checker.phase l new.checker.phase in
      let whole : LineLeads old.checker.problem old.checker.phase x.tail new.checker.phase = front_leads old.checker.problem old.checker.phase new.checker.phase x.tail (subst Q (is_kept ∙ x.kept) (subst P is_checker leads)) in
      line_added old text x new [] (no_feeds) (omega (arith, fits)) (subst Q (sym (append-nil x.tail)) whole)
      (same ∙ ap (λ (c : CheckerParts). c.problem) is_checker) (counted ∙ ap (λ (c : CheckerParts). next_line c.lines) is_checker) none (omega (arith, bytes))

  pub end_kept_breaks : (kept : List ℕ) (e : CheckError) → kept ≡ old.kept → old.bytes + 1 ≤ LOG_BYTES → NamesRule checker kept e → NamesLine checker e → BreaksBehind old (LINE_FEED ∷ []) e
  end_kept_breaks kept error.Memory is_kept fits names number = tt
  end_kept_breaks kept (error.No refused) is_kept fits names number = λ text more x.
      let P : CheckerParts → Type 0 = λ c. LineBreaks c.problem c.phase kept refused.rule in
      let Q : List ℕ → Type 0 = λ l. LineBreaks old.checker.problem old.checker.phase l refused.rule in
      let whole : LineBreaks old.checker.problem old.checker.phase x.tail refused.rule = front_breaks old.checker.problem old.checker.phase x.tail refused.rule (subst Q (is_kept ∙ x.kept) (subst P is_checker names)) in
      line_broken old text x [] more refused.line refused.rule no_feeds (omega (arith, fits)) (number ∙ ap (λ (c : CheckerParts). next_line c.lines) is_checker) (subst Q (sym (append-nil x.tail)) whole)

-- ---- what is told of the line that is read

module _ (old : TextParts) (refused : No) (first : Rule) (is : refused ≡ record { line = next_line old.checker.lines; rule = first }) where
  pub told : (text : List ℕ) → ((number : ℕ) → number ≡ next_line old.checker.lines → FirstBrokenLine old.checker.problem text number first) → FirstBrokenLine old.checker.problem text refused.line refused.rule
  told text go =
      let P : Rule → Type 0 = λ r. FirstBrokenLine old.checker.problem text refused.line r in
      subst P (sym (ap (λ (n : No). n.rule) is)) (go refused.line (ap (λ (n : No). n.line) is))

-- a text that ends behind its lines, none of which is a closing one, lacks its end
pub none_missing : (old : TextParts) (checker : CheckerParts) → checker ≡ old.checker → (r : Result Answer No) → old.kept ≡ [] → OnErr r (IsUnclosed checker.phase)
    → IfErr r (λ refused. refused ≡ record { line = next_line checker.lines; rule = rule.End }) → IfErr r (λ refused. (text : List ℕ) → IsReading old text → FirstBrokenLine old.checker.problem text refused.line refused.rule)
none_missing old checker same (Ok answer) empty unclosed is = tt
none_missing old checker same (Err refused) empty unclosed is = λ text x.
    let P : CheckerParts → Type 0 = λ c. IsUnclosed c.phase in
    let Q : CheckerParts → Type 0 = λ c. refused ≡ record { line = next_line c.lines; rule = rule.End } in
    told old refused rule.End (subst Q same is) text (λ number at. end_missing old text x number empty (subst P same unclosed) at)

-- ---- a piece, line by line

-- a front of a piece was read, and this is left of it
pub record HasPushed (old now : TextParts) (piece left : List ℕ) : Type 0 where
  pub done : List ℕ
  pub parts : piece ≡ done ++ left
  pub adds : Adds old done now
  pub problem : now.checker.problem ≡ old.checker.problem

pub none_pushed : (old : TextParts) (piece : List ℕ) → HasPushed old old piece piece
none_pushed old piece = record { done = []; parts = refl; adds = none_added old; problem = refl }

module _ (old now : TextParts) (piece left : List ℕ) (so_far : HasPushed old now piece left) where
  along : (P : List ℕ → Type 0) → P (so_far.done ++ left) → P piece
  along P h = subst P (sym so_far.parts) h

  -- the line that ends at the first line feed
  pub one_pushed : (new : TextParts) (at : ℕ) (rest : List ℕ) → IsFirstFeed left at → rest ≡ drop (at + 1) left → Adds now (take at left ++ LINE_FEED ∷ []) new → new.checker.problem ≡ now.checker.problem → HasPushed old new piece rest
  one_pushed new at rest feed is adds same = record {
    done = so_far.done ++ (take at left ++ LINE_FEED ∷ []);
    parts = so_far.parts ∙ ap (λ (l : List ℕ). so_far.done ++ l) feed.parts ∙ regroup so_far.done (take at left) (drop (at + 1) left) ∙ ap (λ (l : List ℕ). so_far.done ++ (take at left ++ LINE_FEED ∷ []) ++ l) (sym is);
    adds = adds_then old now new so_far.done (take at left ++ LINE_FEED ∷ []) so_far.adds adds;
    problem = same ∙ so_far.problem;
  }
    where
      regroup : (a b c : List ℕ) → a ++ (b ++ (LINE_FEED ∷ c)) ≡ a ++ (b ++ LINE_FEED ∷ []) ++ c
      regroup a b c = simp append_assoc

  pub all_pushed : (new : TextParts) → Adds now left new → Adds old piece new
  all_pushed new adds = along (λ l. Adds old l new) (adds_then old now new so_far.done left so_far.adds adds)

  pub rest_breaks : (e : CheckError) → BreaksBehind now left e → BreaksBehind old piece e
  rest_breaks e breaks = along (λ l. BreaksBehind old l e) (breaks_then old now so_far.done left e so_far.adds so_far.problem breaks)

  pub front_pushed : (new : TextParts) → AddsFront now left new → AddsFront old piece new
  front_pushed new front = along (λ l. AddsFront old l new) (front_then old now new so_far.done left so_far.adds front)

  -- what comes of the line that ends at the first line feed
  line_first : (at : ℕ) → IsFirstFeed left at → (P : List ℕ → Type 0) → P ((take at left ++ LINE_FEED ∷ []) ++ drop (at + 1) left) → P left
  line_first at feed P h = subst P (append_assoc (take at left) (LINE_FEED ∷ []) (drop (at + 1) left) ∙ sym feed.parts) h

  pub line_breaks : (at : ℕ) (e : CheckError) → IsFirstFeed left at → BreaksBehind now (take at left ++ LINE_FEED ∷ []) e → BreaksBehind old piece e
  line_breaks at e feed breaks = rest_breaks e (line_first at feed (λ l. BreaksBehind now l e) (breaks_more now (take at left ++ LINE_FEED ∷ []) (drop (at + 1) left) e breaks))

  pub line_front : (new : TextParts) (at : ℕ) → IsFirstFeed left at → AddsFront now (take at left ++ LINE_FEED ∷ []) new → AddsFront old piece new
  line_front new at feed front = front_pushed new (line_first at feed (λ l. AddsFront now l new) (front_more_behind now new (take at left ++ LINE_FEED ∷ []) (drop (at + 1) left) front))
