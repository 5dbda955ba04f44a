-- A text has one first broken line at most, and none where it passes.
use Rattle.std.proofs.Common.{◌≡◌, ℕ, suc, ◌+◌, ◌≤◌, true, List, [], ◌∷◌, ◌++◌, length, codes, refl, sym, ap, subst, ◌∙◌, append_assoc, arith, inl, inr, ⊎_elim}
use Rattle.std.specs.List.{All, AllByRecursion}
use Rattle.std.proofs.lemmas.List.{length-append}
use Rattle.std.proofs.lemmas.List.Elements.{recursion_from_All, All-from_recursion}
use Rattle.rows.specs.Parts.{ProblemParts}
use Rattle.search_core.specs.declared.rule.Rule.{Rule}
use Rattle.search_core.specs.declared.answer.Answer.{Answer}
use Rattle.proof_log.specs.Value.{log_line, ended}
use Rattle.proof_log.specs.Log.{LOG_BYTES, Accepts}
use Rattle.proof_log.proofs.WholeLogs.{no_feed, free_of_feeds, cut_at_feed, line_feed, nothing_is_ended}
use Rattle.log_checker.specs.Phase.{Phase, Begun, IsClosedWith}
use Rattle.log_checker.specs.Feeding.{LineLeads, LinesLead}
use Rattle.log_checker.specs.Text.{LINE_FEED, HasNoLineFeed, bytes_of, IsMadeOf, HasLine, WholeBreaks, RestBreaks, FirstBrokenLine}
use Rattle.log_checker.proofs.LineLaws.{passes, agree, line_leads_to_one, one_first_rule, line_leads_unbroken}
use Rattle.log_checker.proofs.PassingTexts.{passing_lines}
use Rattle.log_checker.proofs.ReadTexts.{begins}

free : (line : List ℕ) → HasNoLineFeed line → no_feed line ≡ true
free line none = free_of_feeds line (recursion_from_All (λ b. b ≡ LINE_FEED → ⊥) line none)

-- a line that leads on has no line feed
leads_free : (problem : ProblemParts) (old new : Phase) (line : List ℕ) → LineLeads problem old line new → no_feed line ≡ true
leads_free problem old new line x =
    let P : List ℕ → Type 0 = λ l. no_feed l ≡ true in
    subst P (sym x.says.text) (line_feed (log_line x.said) x.says.readable.0.0)

-- bytes without a line feed, by the one way to say it and the other
feeds_none : (line : List ℕ) → no_feed line ≡ true → HasNoLineFeed line
feeds_none line e = ⊎_elim
    (λ (h : (front : List ℕ) × HasLine line front).
    let whole : line ++ (10 ∷ []) ≡ h.0 ++ (10 ∷ (h.1.more ++ (10 ∷ []))) =
    ap (λ (l : List ℕ). l ++ (10 ∷ [])) h.1.parts ∙ append_assoc (ended h.0) h.1.more (10 ∷ []) ∙ append_assoc h.0 (codes "\n") (h.1.more ++ (10 ∷ [])) in
    let same : line ≡ h.0 = (cut_at_feed line h.0 [] (h.1.more ++ (10 ∷ [])) e (free h.0 h.1.one) whole).0 in
    absurd (omega (arith, ap length same, ap length h.1.parts, length-append (ended h.0) h.1.more, length-append h.0 (codes "\n"))))
    (λ (none : HasNoLineFeed line). none)
    (begins line)

lines_free : (problem : ProblemParts) (old new : Phase) (fed : List (List ℕ)) → LinesLead problem old fed new → AllByRecursion HasNoLineFeed fed
lines_free problem old new [] leads = tt
lines_free problem old new (line ∷ fed) leads = (feeds_none line (leads_free problem old leads.0 line leads.1), lines_free problem leads.0 new fed leads.2)

-- no line that leads on has a line feed
pub lines_have_none : (problem : ProblemParts) (old new : Phase) (fed : List (List ℕ)) → LinesLead problem old fed new → All HasNoLineFeed fed
lines_have_none problem old new fed leads = All-from_recursion HasNoLineFeed fed (lines_free problem old new fed leads)

-- a text that passes is made of whole lines
pub passing_is_whole : (problem : ProblemParts) (text : List ℕ) (answer : Answer) → Accepts problem text answer → (lines : List (List ℕ)) × IsMadeOf text lines
passing_is_whole problem text answer x =
    let its = passing_lines problem text answer x in
    (its.fed, record { feeds = lines_have_none problem Begun its.end its.fed its.leads; parts = its.parts })

-- a text that begins with a line has a line feed
feed_inside : (line more : List ℕ) → AllByRecursion (λ b. b ≡ LINE_FEED → ⊥) (line ++ (10 ∷ more)) → ⊥
feed_inside [] more none = none.0 refl
feed_inside (b ∷ line) more none = feed_inside line more none.1

not_free : (rest line more : List ℕ) → rest ≡ ended line ++ more → HasNoLineFeed rest → ⊥
not_free rest line more parts none =
    let P : List ℕ → Type 0 = AllByRecursion (λ b. b ≡ LINE_FEED → ⊥) in
    feed_inside line more (subst P (parts ∙ append_assoc line (codes "\n") more) (recursion_from_All (λ b. b ≡ LINE_FEED → ⊥) rest none))

-- two lines with which a text begins are one
same_line : (a b x y : List ℕ) → no_feed a ≡ true → no_feed b ≡ true → ended a ++ x ≡ ended b ++ y → (a ≡ b) × (x ≡ y)
same_line a b x y free_a free_b same = cut_at_feed a b x y free_a free_b (sym (append_assoc a (codes "\n") x) ∙ same ∙ append_assoc b (codes "\n") y)

-- where a line leads on that has its place in the log, nothing is broken first
stuck : (problem : ProblemParts) (phase new : Phase) (start : ℕ) (rest line more : List ℕ) (first : Rule) → LineLeads problem phase line new → rest ≡ ended line ++ more → start + length (ended line) ≤ LOG_BYTES → RestBreaks problem phase start rest first → ⊥
stuck problem phase new start [] line more first leads parts fits breaks = nothing_is_ended line more parts
stuck problem phase new start (b ∷ rest) line more first leads parts fits breaks = elim breaks [
  | inl whole ↦
      let same = (same_line line whole.line more whole.next.more (leads_free problem phase new line leads) (free whole.line whole.next.one) (sym parts ∙ whole.next.parts)).0 in
      let P : List ℕ → Type 0 = λ l. WholeBreaks problem phase start l first in
      line_leads_unbroken problem phase new line first leads (passes fits (subst P (sym same) whole.first))
  | inr tail ↦ not_free (b ∷ rest) line more parts tail.none
]

-- what stands behind whole lines breaks one rule first
rest_agrees : (problem : ProblemParts) (phase : Phase) (start : ℕ) (rest : List ℕ) (a b : Rule) → RestBreaks problem phase start rest a → RestBreaks problem phase start rest b → a ≡ b
rest_agrees problem phase start [] a b x y = x.1 ∙ sym y.1
rest_agrees problem phase start (c ∷ rest) a b x y = elim x [
  | inl p ↦ elim y [
    | inl q ↦
        let same = (same_line p.line q.line p.next.more q.next.more (free p.line p.next.one) (free q.line q.next.one) (sym p.next.parts ∙ q.next.parts)).0 in
        let P : List ℕ → Type 0 = λ l. WholeBreaks problem phase start l a in
        agree (λ r s. one_first_rule problem phase q.line a b r s) (subst P same p.first) q.first
    | inr q ↦ absurd (not_free (c ∷ rest) p.line p.next.more p.next.parts q.none)
  ]
  | inr p ↦ elim y [
    | inl q ↦ absurd (not_free (c ∷ rest) q.line q.next.more q.next.parts p.none)
    | inr q ↦ agree (λ r s. agree (λ e f. e ∙ sym f) r s) p.first q.first
  ]
]

-- lines and a rest, taken apart
behind : (line : List ℕ) (lines : List (List ℕ)) (rest : List ℕ) → bytes_of (line ∷ lines) ++ rest ≡ ended line ++ (bytes_of lines ++ rest)
behind line lines rest = append_assoc (ended line) (bytes_of lines) rest

-- two lists of lines that lead on, each up to what breaks a rule, are one
same_stop : (problem : ProblemParts) (old p q : Phase) (xs ys : List (List ℕ)) (r s : List ℕ) (start i j : ℕ) (a b : Rule)
    → LinesLead problem old xs p → LinesLead problem old ys q → bytes_of xs ++ r ≡ bytes_of ys ++ s
    → i ≡ start + length (bytes_of xs) → j ≡ start + length (bytes_of ys) → i ≤ LOG_BYTES → j ≤ LOG_BYTES
    → RestBreaks problem p i r a → RestBreaks problem q j s b → (length xs ≡ length ys) × (a ≡ b)
same_stop problem old p q [] [] r s start i j a b x y same at_i at_j few_i few_j breaks_a breaks_b =
    let P : Phase → Type 0 = λ phase. RestBreaks problem phase i r a in
    let Q : List ℕ → Type 0 = λ l. RestBreaks problem q i l a in
    let R : ℕ → Type 0 = λ n. RestBreaks problem q n s a in
    (refl, rest_agrees problem q j s a b (subst R (at_i ∙ sym at_j) (subst Q same (subst P (x ∙ sym y) breaks_a))) breaks_b)
same_stop problem old p q [] (m ∷ ys) r s start i j a b x y same at_i at_j few_i few_j breaks_a breaks_b =
    let P : Phase → Type 0 = λ phase. RestBreaks problem phase i r a in
    let fits : i + length (ended m) ≤ LOG_BYTES = omega (arith, at_i, at_j, few_j, length-append (ended m) (bytes_of ys)) in
    absurd (stuck problem old y.0 i r m (bytes_of ys ++ s) a y.1 (same ∙ behind m ys s) fits (subst P x breaks_a))
same_stop problem old p q (l ∷ xs) [] r s start i j a b x y same at_i at_j few_i few_j breaks_a breaks_b =
    let P : Phase → Type 0 = λ phase. RestBreaks problem phase j s b in
    let fits : j + length (ended l) ≤ LOG_BYTES = omega (arith, at_i, at_j, few_i, length-append (ended l) (bytes_of xs)) in
    absurd (stuck problem old x.0 j s l (bytes_of xs ++ r) b x.1 (sym same ∙ behind l xs r) fits (subst P y breaks_b))
same_stop problem old p q (l ∷ xs) (m ∷ ys) r s start i j a b x y same at_i at_j few_i few_j breaks_a breaks_b =
    let t = same_line l m (bytes_of xs ++ r) (bytes_of ys ++ s) (leads_free problem old x.0 l x.1) (leads_free problem old y.0 m y.1) (sym (behind l xs r) ∙ same ∙ behind m ys s) in
    let P : List ℕ → Type 0 = λ line. LineLeads problem old line x.0 in
    let mid : x.0 ≡ y.0 = line_leads_to_one problem old x.0 y.0 m (subst P t.0 x.1) y.1 in
    let Q : Phase → Type 0 = λ phase. LinesLead problem phase xs p in
    let long : length (ended l) ≡ length (ended m) = ap (λ (line : List ℕ). length (ended line)) t.0 in
    let rest = same_stop problem y.0 p q xs ys r s (start + length (ended m)) i j a b (subst Q mid x.2) y.2 t.1 (omega (arith, at_i, long, length-append (ended l) (bytes_of xs))) (omega (arith, at_j, length-append (ended m) (bytes_of ys))) few_i few_j breaks_a breaks_b in
    (ap suc rest.0, rest.1)

-- a text has one first broken line, and one rule that it breaks first
pub one_first_line : (problem : ProblemParts) (text : List ℕ) (m n : ℕ) (a b : Rule) → FirstBrokenLine problem text m a → FirstBrokenLine problem text n b → (m ≡ n) × (a ≡ b)
one_first_line problem text m n a b x y =
    let t = same_stop problem Begun x.phase y.phase x.before y.before x.rest y.rest 0 (length (bytes_of x.before)) (length (bytes_of y.before)) a b x.read.leads y.read.leads (sym x.read.parts ∙ y.read.parts) (omega arith) (omega arith) x.read.few y.read.few x.breaks y.breaks in
    (x.counted ∙ ap (λ k. k + 1) t.0 ∙ sym y.counted, t.1)

-- lines that lead to a closing answer go past what breaks a rule
no_stop : (problem : ProblemParts) (old p end : Phase) (xs ys : List (List ℕ)) (r : List ℕ) (start i : ℕ) (a : Rule) (answer : Answer)
    → LinesLead problem old xs p → LinesLead problem old ys end → IsClosedWith answer end → bytes_of xs ++ r ≡ bytes_of ys
    → i ≡ start + length (bytes_of xs) → start + length (bytes_of ys) ≤ LOG_BYTES → RestBreaks problem p i r a → ⊥
no_stop problem old p end [] [] r start i a answer x y closed same at few breaks =
    let P : Phase → Type 0 = IsClosedWith answer in
    let Q : List ℕ → Type 0 = λ l. RestBreaks problem p i l a in
    let b : RestBreaks problem p i [] a = subst Q same breaks in
    b.0 answer (subst P (y ∙ sym x) closed)
no_stop problem old p end [] (m ∷ ys) r start i a answer x y closed same at few breaks =
    let P : Phase → Type 0 = λ phase. RestBreaks problem phase i r a in
    let fits : i + length (ended m) ≤ LOG_BYTES = omega (arith, at, few, length-append (ended m) (bytes_of ys)) in
    stuck problem old y.0 i r m (bytes_of ys) a y.1 same fits (subst P x breaks)
no_stop problem old p end (l ∷ xs) [] r start i a answer x y closed same at few breaks = nothing_is_ended l (bytes_of xs ++ r) (sym same ∙ behind l xs r)
no_stop problem old p end (l ∷ xs) (m ∷ ys) r start i a answer x y closed same at few breaks =
    let t = same_line l m (bytes_of xs ++ r) (bytes_of ys) (leads_free problem old x.0 l x.1) (leads_free problem old y.0 m y.1) (sym (behind l xs r) ∙ same) in
    let P : List ℕ → Type 0 = λ line. LineLeads problem old line x.0 in
    let mid : x.0 ≡ y.0 = line_leads_to_one problem old x.0 y.0 m (subst P t.0 x.1) y.1 in
    let Q : Phase → Type 0 = λ phase. LinesLead problem phase xs p in
    let long : length (ended l) ≡ length (ended m) = ap (λ (line : List ℕ). length (ended line)) t.0 in
    no_stop problem y.0 p end xs ys r (start + length (ended m)) i a answer (subst Q mid x.2) y.2 closed t.1 (omega (arith, at, long, length-append (ended l) (bytes_of xs))) (omega (arith, few, length-append (ended m) (bytes_of ys))) breaks

-- a text that passes has no first broken line
pub passing_unbroken : (problem : ProblemParts) (text : List ℕ) (answer : Answer) (n : ℕ) (first : Rule) → Accepts problem text answer → FirstBrokenLine problem text n first → ⊥
passing_unbroken problem text answer n first x y =
    let its = passing_lines problem text answer x in
    let P : List ℕ → Type 0 = λ l. length l ≤ LOG_BYTES in
    let few : length (bytes_of its.fed) ≤ LOG_BYTES = subst P its.parts x.few in
    no_stop problem Begun y.phase its.end y.before its.fed y.rest 0 (length (bytes_of y.before)) first answer y.read.leads its.leads its.closed (sym y.read.parts ∙ its.parts) (omega arith) (omega (arith, few)) y.breaks
