-- The lines of a text that passes are those of what it says.
use Rattle.std.proofs.Common.{◌≡◌, ℕ, List, [], ◌∷◌, length, codes, refl, sym, subst, ◌∙◌, append_assoc}
use Rattle.std.specs.List.{AllByRecursion}
use Rattle.std.proofs.lemmas.List.Elements.{recursion_from_All}
use Rattle.rows.specs.Parts.{ProblemParts}
use Rattle.search_core.specs.declared.answer.Answer.{Answer}
use Rattle.proof_log.specs.declared.log_line.LogLine.{LogLine}
use Rattle.proof_log.specs.Value.{log_line, text_of}
use Rattle.proof_log.specs.Log.{IsReadable, lines_text, log_lines, Accepts}
use Rattle.proof_log.proofs.WholeLogs.{free_of_feeds, cut_at_feed, line_feed, nothing_is_ended}
use Rattle.log_checker.specs.Phase.{Phase, Begun, Closed, IsClosedWith}
use Rattle.log_checker.specs.Feeding.{LinesLead}
use Rattle.log_checker.specs.Text.{LINE_FEED, HasNoLineFeed, IsMadeOf, bytes_of}
use Rattle.log_checker.proofs.PassingTexts.{written, header_leads}

same_split : (fed : List (List ℕ)) (said : List LogLine) → AllByRecursion HasNoLineFeed fed → AllByRecursion IsReadable said → bytes_of fed ≡ lines_text said → fed ≡ written said
same_split [] [] none readable same = refl
same_split [] (x ∷ xs) none readable same = absurd (nothing_is_ended (text_of (log_line x)) (lines_text xs) same)
same_split (line ∷ rest) [] none readable same = absurd (nothing_is_ended line (bytes_of rest) (sym same))
same_split (line ∷ rest) (x ∷ xs) none readable same =
    let a = append_assoc line (codes "\n") (bytes_of rest) in
    let b = append_assoc (text_of (log_line x)) (codes "\n") (lines_text xs) in
    let t = cut_at_feed line (text_of (log_line x)) (bytes_of rest) (lines_text xs) (free_of_feeds line (recursion_from_All (λ b. b ≡ LINE_FEED → ⊥) line none.0)) (line_feed (log_line x) readable.0.0.0) (sym a ∙ same ∙ b) in
    let tail = same_split rest xs none.1 readable.1 t.1 in
    λ i. t.0 i ∷ tail i

-- the lines of a text that passes lead to its answer
pub text_leads : (problem : ProblemParts) (text : List ℕ) (fed : List (List ℕ)) (answer : Answer) → IsMadeOf text fed → Accepts problem text answer
    → (phase : Phase) × LinesLead problem Begun fed phase × IsClosedWith answer phase
text_leads problem text fed answer made x =
    let said : List LogLine = log_lines problem x.limit x.entries answer x.state.branchings (length x.state.cuts) in
    let fed_are : fed ≡ written said = same_split fed said (recursion_from_All HasNoLineFeed fed made.feeds) x.readable (sym made.parts ∙ x.text) in
    let Q : List (List ℕ) → Type 0 = λ l. LinesLead problem Begun l (Closed x.state answer) in
    (Closed x.state answer, subst Q (sym fed_are) (header_leads problem x.limit x.entries x.state answer x.legal.few x.legal.steps x.answers x.readable), refl)
