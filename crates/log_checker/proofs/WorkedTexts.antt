-- Worked rows: the first broken line of short texts, and the last limit that a log states.
use Rattle.std.proofs.Common.{◌≡◌, ℕ, nat_eq, false, lit≤, List, [], ◌∷◌, codes, Some, refl, inl, inr}
use Rattle.std.specs.List.{AllByRecursion}
use Rattle.std.proofs.lemmas.Bool.{eqb-false}
use Rattle.std.proofs.lemmas.List.Elements.{All-from_recursion}
use Rattle.rows.specs.Parts.{ProblemParts}
use Rattle.search_core.specs.declared.rule.Rule.TheVariants as rule
use Rattle.search_core.specs.declared.entry.Entry.TheVariants.{Park, Reopen, Take}
use Rattle.search_core.proofs.WorkedRows.{problem_p}
use Rattle.proof_log.specs.declared.log_line.LogLine.TheVariants as lines
use Rattle.log_checker.specs.Phase.{Begun, Versioned}
use Rattle.log_checker.specs.Feeding.{LineLeads}
use Rattle.log_checker.specs.Text.{LINE_FEED, HasNoLineFeed, IsMadeOf, HasRead, FirstBrokenLine}
use Rattle.log_checker.specs.Yes.{last_limit}
use Rattle.log_checker.proofs.ReadTexts.{none_read, broken_there}
use Rattle.log_checker.proofs.WorkedLines.{sizes_break}

pub none_feeds : (bytes : List ℕ) → AllByRecursion (λ b. nat_eq b LINE_FEED ≡ false) bytes → HasNoLineFeed bytes
none_feeds bytes others = All-from_recursion (λ b. b ≡ LINE_FEED → ⊥) bytes (each bytes others)
  where
    each : (bs : List ℕ) → AllByRecursion (λ b. nat_eq b LINE_FEED ≡ false) bs → AllByRecursion (λ b. b ≡ LINE_FEED → ⊥) bs
    each [] others = tt
    each (b ∷ bs) others = ((λ e. eqb-false b LINE_FEED others.0 e), each bs others.1)

-- the empty text has no first line
nothing_ends : (problem : ProblemParts) → FirstBrokenLine problem [] 1 rule.End
nothing_ends problem = broken_there problem [] [] Begun [] rule.End (none_read problem []) ((λ answer closed. closed), refl)

-- a text of one byte ends inside its first line
one_byte_ends : (problem : ProblemParts) → FirstBrokenLine problem (codes "a") 1 rule.End
one_byte_ends problem = broken_there problem (codes "a") [] Begun (codes "a") rule.End (none_read problem (codes "a")) (inr (record { none = none_feeds (codes "a") (refl, tt); first = inr (lit≤ tt, inr (lit≤ tt, refl)) }))

-- the first line leads on
pub version_leads : LineLeads problem_p Begun (codes "archex-log 1") Versioned
version_leads = record {
  said = lines.Version;
  says = record { readable = ((((tt, tt), ((tt, tt), tt)), tt), lit≤ tt); text = refl };
  leads = record { before = refl; after = refl };
}

one_line_read : HasRead problem_p (codes "archex-log 1\nvars 3 0\n") (codes "archex-log 1" ∷ []) Versioned (codes "vars 3 0\n")
one_line_read = record { parts = refl; few = lit≤ tt; leads = (Versioned, version_leads, refl) }

-- of a text whose second line states other numbers than the library has that is the first broken line
second_line_breaks : FirstBrokenLine problem_p (codes "archex-log 1\nvars 3 0\n") 2 rule.Header
second_line_breaks =
    broken_there problem_p (codes "archex-log 1\nvars 3 0\n") (codes "archex-log 1" ∷ []) Versioned (codes "vars 3 0\n") rule.Header one_line_read
    (inl (record {
      line = codes "vars 3 0";
      next = record { one = none_feeds (codes "vars 3 0") (refl, (refl, (refl, (refl, (refl, (refl, (refl, (refl, tt)))))))); more = []; parts = refl };
      first = inr (lit≤ tt, sizes_break);
    }))

-- a text of two lines
two_lines : IsMadeOf (codes "a\nb\n") (codes "a" ∷ codes "b" ∷ [])
two_lines = record { feeds = All-from_recursion HasNoLineFeed (codes "a" ∷ codes "b" ∷ []) (none_feeds (codes "a") (refl, tt), (none_feeds (codes "b") (refl, tt), tt)); parts = refl }

-- the last limit is the one of a Reopen
reopened_limit : last_limit 1 (Park 0 1 ∷ Reopen 4 ∷ Take 0 1 0 (Some 3) ∷ []) ≡ 4
reopened_limit = refl
