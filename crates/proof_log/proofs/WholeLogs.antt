-- A log's text determines its lines.
use Rattle.std.proofs.Common.{◌≡◌, ℕ, ◌^◌, ◌≤◌, ◌<◌, Bool, true, false, ◌&&◌, eqb, List, [], ◌∷◌, ◌++◌, length, map, codes, Some, None, refl, sym, ap, subst, ◌∙◌, append_assoc, arith}
use Rattle.std.specs.Prelude.{not}
use Rattle.std.specs.List.{flat_map, AllByRecursion}
use Rattle.std.specs.Char.{digit_value}
use Rattle.std.specs.Fmt.{decimal}
use Rattle.std.specs.Str.Parse.{AllDigits}
use Rattle.std.proofs.lemmas.Bool.{eqb-true}
use Rattle.std.proofs.lemmas.List.{append-nil, length-append}
use Rattle.rows.specs.Parts.{ProblemParts}
use Rattle.search_core.specs.declared.entry.Entry.{Entry}
use Rattle.search_core.specs.declared.answer.Answer.{Answer}
use Rattle.proof_log.specs.declared.log_line.LogLine.{LogLine}
use Rattle.proof_log.specs.declared.log_line.LogLine.TheVariants as lines
use Rattle.proof_log.specs.Field.{RowName, base_row, cut_row, cost_row, Field, word, number, optional, trace, reason, members, AMOUNTS, TIMES, row_text, pair_text, list_text, field_text, fields_text, RowNumber, EachNumber, HasPairs}
use Rattle.proof_log.specs.Line.{Line, version, vars, limits, takes, branches, prunes, offers, studies, redundancy, no_good, accepts, parks, reopens, optimal, infeasible, node_limit, line_fields}
use Rattle.proof_log.specs.Fault.{IsInRange}
use Rattle.proof_log.specs.Value.{log_line, text_of, ended, entry_text, closing_text, header_text}
use Rattle.proof_log.specs.Log.{IsLoggable, IsReadable, log_lines, lines_text, log_text_of, Accepts}
use Rattle.proof_log.proofs.Runs.{decimal_numeral}
use Rattle.proof_log.proofs.Numbers.{IsFrom, PairInRange}
use Rattle.proof_log.proofs.Spelling.{same_value}

-- ---- no line feed stands in a line

pub no_feed : List ℕ → Bool
no_feed [] = true
no_feed (b ∷ bs) = not (eqb b 10) && no_feed bs

and_yes : (a b : Bool) → a ≡ true → b ≡ true → (a && b) ≡ true
and_yes true true e f = refl
and_yes true false e f = absurd cc
and_yes false b e f = absurd cc

and_parts : (a b : Bool) → (a && b) ≡ true → (a ≡ true) × (b ≡ true)
and_parts true b e = (refl, e)
and_parts false b e = absurd cc

by_test : (c : ℕ) → (c ≡ 10 → ⊥) → (b : Bool) → eqb c 10 ≡ b → not (eqb c 10) ≡ true
by_test c h true e = absurd (h (eqb-true c 10 e))
by_test c h false e = ap not e

-- bytes none of which is a line feed
pub free_of_feeds : (bytes : List ℕ) → AllByRecursion (λ b. b ≡ 10 → ⊥) bytes → no_feed bytes ≡ true
unfolding no_feed
free_of_feeds [] none = refl
free_of_feeds (b ∷ bs) none = and_yes (not (eqb b 10)) (no_feed bs) (other b none.0) (free_of_feeds bs none.1)
  where
    other : (c : ℕ) → (c ≡ 10 → ⊥) → not (eqb c 10) ≡ true
    other c h = by_test c h (eqb c 10) refl

feed-append : (a b : List ℕ) → no_feed a ≡ true → no_feed b ≡ true → no_feed (a ++ b) ≡ true
unfolding no_feed
feed-append [] b e f = f
feed-append (c ∷ cs) b e f = let t = and_parts (not (eqb c 10)) (no_feed cs) e in and_yes (not (eqb c 10)) (no_feed (cs ++ b)) t.0 (feed-append cs b t.1 f)

digits_feed : (ds : List ℕ) → AllDigits 10 ds → no_feed ds ≡ true
unfolding no_feed
digits_feed [] d = refl
digits_feed (c ∷ cs) d = and_yes (not (eqb c 10)) (no_feed cs) (other c d.0) (digits_feed cs d.1)
  where
    other : (c : ℕ) → digit_value c < 10 → not (eqb c 10) ≡ true
    other c h = grind arith

decimal_feed : (limit n : ℕ) → limit ≤ 2 ^ 64 → n < limit → no_feed (decimal n) ≡ true
decimal_feed limit n le h = digits_feed (decimal n) (decimal_numeral n (omega arith)).1

row_feed : (r : RowName ℕ) → RowNumber IsFrom r → no_feed (row_text decimal r) ≡ true
unfolding no_feed
row_feed (base_row n) g = decimal_feed (2 ^ 32) n (omega arith) g.1
row_feed (cut_row n) g = decimal_feed (2 ^ 32) n (omega arith) g.1
row_feed cost_row g = refl

pair_feed : (p : RowName ℕ × ℕ) → PairInRange p → no_feed (pair_text decimal p) ≡ true
unfolding no_feed
pair_feed p g = feed-append (row_text decimal p.0) (codes "*" ++ decimal p.1) (row_feed p.0 g.0) (decimal_feed TIMES p.1 (omega arith) g.1.1)

others_feed : {A : Type 0} (text : A → List ℕ) (Good : A → Type 0) → ((x : A) → Good x → no_feed (text x) ≡ true) → (xs : List A) → AllByRecursion Good xs → no_feed (flat_map (λ y. codes "," ++ text y) xs) ≡ true
unfolding no_feed
others_feed text Good each [] g = refl
others_feed text Good each (x ∷ xs) g = feed-append (text x) (flat_map (λ y. codes "," ++ text y) xs) (each x g.0) (others_feed text Good each xs g.1)

list_feed : {A : Type 0} (text : A → List ℕ) (Good : A → Type 0) → ((x : A) → Good x → no_feed (text x) ≡ true) → (xs : List A) → AllByRecursion Good xs → no_feed (list_text text xs) ≡ true
unfolding no_feed
list_feed text Good each [] g = refl
list_feed text Good each (x ∷ xs) g = feed-append (text x) (flat_map (λ y. codes "," ++ text y) xs) (each x g.0) (others_feed text Good each xs g.1)

-- a field whose numbers have at most 64 bits
abbrev IsNarrow : Field ℕ → Type 0
IsNarrow (word w) = no_feed w ≡ true
IsNarrow (number limit n) = limit ≤ 2 ^ 64
IsNarrow (optional o) = Unit {0}
IsNarrow (trace rows) = Unit {0}
IsNarrow (reason pairs) = Unit {0}
IsNarrow (members limit ns) = limit ≤ 2 ^ 64

field_feed : (f : Field ℕ) → IsNarrow f → EachNumber IsFrom f → no_feed (field_text decimal f) ≡ true
unfolding no_feed
field_feed (word w) s g = s
field_feed (number limit n) s g = decimal_feed limit n s g.1
field_feed (optional None) s g = refl
field_feed (optional (Some n)) s g = decimal_feed AMOUNTS n (omega arith) g.1
field_feed (trace rows) s g = list_feed (row_text decimal) (RowNumber IsFrom) row_feed rows g
field_feed (reason pairs) s g = list_feed (pair_text decimal) PairInRange pair_feed pairs g
field_feed (members limit ns) s g = list_feed decimal (IsFrom 0 limit) (λ n r. decimal_feed limit n s r.1) ns g

tail_feed : (fs : List (Field ℕ)) → AllByRecursion IsNarrow fs → AllByRecursion (λ f. EachNumber IsFrom f × HasPairs f) fs → no_feed (flat_map (λ f. codes " " ++ field_text decimal f) fs) ≡ true
unfolding no_feed
tail_feed [] s g = refl
tail_feed (f ∷ fs) s g = feed-append (field_text decimal f) (flat_map (λ g. codes " " ++ field_text decimal g) fs) (field_feed f s.0 g.0.0) (tail_feed fs s.1 g.1)

fields_feed : (fs : List (Field ℕ)) → AllByRecursion IsNarrow fs → AllByRecursion (λ f. EachNumber IsFrom f × HasPairs f) fs → no_feed (fields_text decimal fs) ≡ true
unfolding no_feed
fields_feed [] s g = refl
fields_feed (f ∷ fs) s g = feed-append (field_text decimal f) (flat_map (λ g. codes " " ++ field_text decimal g) fs) (field_feed f s.0 g.0.0) (tail_feed fs s.1 g.1)

narrow : (line : Line ℕ) → AllByRecursion IsNarrow (line_fields line)
unfolding no_feed
narrow version = (refl, (refl, tt))
narrow (vars a b) = (refl, (omega arith, (omega arith, tt)))
narrow (limits a) = (refl, (omega arith, tt))
narrow (takes a b c d) = (refl, (omega arith, (omega arith, (omega arith, (tt, tt)))))
narrow (branches a b c d) = (refl, (omega arith, (omega arith, (tt, (omega arith, tt)))))
narrow (prunes a b c d) = (refl, (omega arith, (omega arith, (tt, (tt, tt)))))
narrow (offers a b c) = (refl, (omega arith, (omega arith, (tt, tt))))
narrow (studies a b) = (refl, (omega arith, (omega arith, tt)))
narrow (redundancy a b c d e) = (refl, (omega arith, (omega arith, (refl, (omega arith, (omega arith, (omega arith, tt)))))))
narrow (no_good a b c d) = (refl, (omega arith, (omega arith, (refl, (omega arith, (omega arith, tt))))))
narrow (accepts a b c) = (refl, (omega arith, (omega arith, (omega arith, tt))))
narrow (parks a b) = (refl, (omega arith, (omega arith, tt)))
narrow (reopens a) = (refl, (omega arith, tt))
narrow (optimal a b c) = (refl, (refl, (omega arith, (omega arith, (omega arith, tt)))))
narrow (infeasible a b) = (refl, (refl, (refl, (omega arith, (omega arith, tt)))))
narrow (node_limit a b c) = (refl, (refl, (tt, (omega arith, (omega arith, tt)))))

pub line_feed : (line : Line ℕ) → IsInRange line → no_feed (text_of line) ≡ true
line_feed line r = fields_feed (line_fields line) (narrow line) r

-- ---- lines one after another

pub cut_at_feed : (a b x y : List ℕ) → no_feed a ≡ true → no_feed b ≡ true → a ++ (10 ∷ x) ≡ b ++ (10 ∷ y) → (a ≡ b) × (x ≡ y)
unfolding no_feed
cut_at_feed [] [] x y e f same = (refl, cc)
cut_at_feed [] (c ∷ cs) x y e f same = absurd (let h : 10 ≡ c = cc in let t = (and_parts (not (eqb c 10)) (no_feed cs) f).0 in let s : not (eqb 10 10) ≡ true = subst (λ k. not (eqb k 10) ≡ true) (sym h) t in cc)
cut_at_feed (c ∷ cs) [] x y e f same = absurd (let h : c ≡ 10 = cc in let t = (and_parts (not (eqb c 10)) (no_feed cs) e).0 in let s : not (eqb 10 10) ≡ true = subst (λ k. not (eqb k 10) ≡ true) h t in cc)
cut_at_feed (c ∷ cs) (d ∷ ds) x y e f same =
    let head : c ≡ d = cc in
    let tail : cs ++ (10 ∷ x) ≡ ds ++ (10 ∷ y) = cc in
    let t = cut_at_feed cs ds x y (and_parts (not (eqb c 10)) (no_feed cs) e).1 (and_parts (not (eqb d 10)) (no_feed ds) f).1 tail in
    ((λ i. head i ∷ t.0 i), t.1)

pub nothing_is_ended : (t rest : List ℕ) → [] ≡ ended t ++ rest → ⊥
nothing_is_ended t rest e = absurd (omega (arith, ap (λ (l : List ℕ). length l) e, length-append (ended t) rest, length-append t (codes "\n")))

pub same_lines : (xs ys : List LogLine) → AllByRecursion IsLoggable xs → AllByRecursion IsLoggable ys → lines_text xs ≡ lines_text ys → xs ≡ ys
same_lines [] [] gx gy same = refl
same_lines [] (y ∷ ys) gx gy same = absurd (nothing_is_ended (text_of (log_line y)) (lines_text ys) same)
same_lines (x ∷ xs) [] gx gy same = absurd (nothing_is_ended (text_of (log_line x)) (lines_text xs) (sym same))
same_lines (x ∷ xs) (y ∷ ys) gx gy same =
    let a = append_assoc (text_of (log_line x)) (codes "\n") (lines_text xs) in
    let b = append_assoc (text_of (log_line y)) (codes "\n") (lines_text ys) in
    let t = cut_at_feed (text_of (log_line x)) (text_of (log_line y)) (lines_text xs) (lines_text ys) (line_feed (log_line x) gx.0.0) (line_feed (log_line y) gy.0.0) (sym a ∙ same ∙ b) in
    let first : x ≡ y = same_value x y gx.0.1 gy.0.1 gx.0.0 gy.0.0 t.0 in
    let rest = same_lines xs ys gx.1 gy.1 t.1 in
    λ i. first i ∷ rest i

-- ---- whole logs

entries_text : (entries : List Entry) (last : LogLine) → lines_text (map (λ e. lines.Entry e) entries ++ last ∷ []) ≡ flat_map (λ e. ended (entry_text e)) entries ++ ended (text_of (log_line last))
entries_text [] last = append-nil (ended (text_of (log_line last)))
entries_text (e ∷ es) last = ap (λ (l : List ℕ). ended (entry_text e) ++ l) (entries_text es last) ∙ sym (append_assoc (ended (entry_text e)) (flat_map (λ x. ended (entry_text x)) es) (ended (text_of (log_line last))))

-- a log is its header, its entries and its closing line, written one after another
pub log_parts : (problem : ProblemParts) (limit : ℕ) (entries : List Entry) (answer : Answer) (branchings cuts : ℕ)
    → log_text_of problem limit entries answer branchings cuts ≡ header_text problem limit ++ (flat_map (λ e. ended (entry_text e)) entries ++ ended (closing_text answer branchings cuts))
log_parts problem limit entries answer branchings cuts =
    let a = ended (text_of version) in
    let b = ended (text_of (vars (length problem.library.components) (length problem.library.edges))) in
    let c = ended (text_of (limits limit)) in
    ap (λ (l : List ℕ). a ++ (b ++ (c ++ l))) (entries_text entries (lines.Closing answer branchings cuts))
    ∙ regroup a b c (flat_map (λ e. ended (entry_text e)) entries ++ ended (closing_text answer branchings cuts))
  where
    regroup : (a b c z : List ℕ) → a ++ (b ++ (c ++ z)) ≡ (a ++ b ++ c) ++ z
    regroup a b c z = simp append_assoc

same_entries : (xs ys : List Entry) (u v : Answer) (b c d e : ℕ) → map (λ x. lines.Entry x) xs ++ lines.Closing u b c ∷ [] ≡ map (λ x. lines.Entry x) ys ++ lines.Closing v d e ∷ [] → (xs ≡ ys) × (u ≡ v) × (b ≡ d) × (c ≡ e)
same_entries [] [] u v b c d e same = (refl, cc, cc, cc)
same_entries [] (y ∷ ys) u v b c d e same = absurd (let h : lines.Closing u b c ≡ lines.Entry y = cc in cc)
same_entries (x ∷ xs) [] u v b c d e same = absurd (let h : lines.Entry x ≡ lines.Closing v d e = cc in cc)
same_entries (x ∷ xs) (y ∷ ys) u v b c d e same =
    let h : lines.Entry x ≡ lines.Entry y = cc in
    let first : x ≡ y = cc in
    let tail : map (λ x. lines.Entry x) xs ++ lines.Closing u b c ∷ [] ≡ map (λ x. lines.Entry x) ys ++ lines.Closing v d e ∷ [] = cc in
    let t = same_entries xs ys u v b c d e tail in
    ((λ i. first i ∷ t.0 i), t.1, t.2, t.3)

pub same_log : (problem : ProblemParts) (limit limit' : ℕ) (entries entries' : List Entry) (answer answer' : Answer) (branchings branchings' cuts cuts' : ℕ)
    → AllByRecursion IsLoggable (log_lines problem limit entries answer branchings cuts) → AllByRecursion IsLoggable (log_lines problem limit' entries' answer' branchings' cuts')
    → log_text_of problem limit entries answer branchings cuts ≡ log_text_of problem limit' entries' answer' branchings' cuts' → (limit ≡ limit') × (entries ≡ entries') × (answer ≡ answer') × (branchings ≡ branchings') × (cuts ≡ cuts')
same_log problem limit limit' entries entries' answer answer' branchings branchings' cuts cuts' all all' same =
    let same_list : log_lines problem limit entries answer branchings cuts ≡ log_lines problem limit' entries' answer' branchings' cuts' =
    same_lines (log_lines problem limit entries answer branchings cuts) (log_lines problem limit' entries' answer' branchings' cuts') all all' same in
    let one : lines.Limit limit ≡ lines.Limit limit' = cc in
    let first : limit ≡ limit' = cc in
    let tail : map (λ e. lines.Entry e) entries ++ lines.Closing answer branchings cuts ∷ [] ≡ map (λ e. lines.Entry e) entries' ++ lines.Closing answer' branchings' cuts' ∷ [] = cc in
    let t = same_entries entries entries' answer answer' branchings cuts branchings' cuts' tail in
    (first, t.0, t.1, t.2, t.3)

-- ---- passing logs

pub can_be_logged : (xs : List LogLine) → AllByRecursion IsReadable xs → AllByRecursion IsLoggable xs
can_be_logged [] r = tt
can_be_logged (x ∷ xs) r = (r.0.0, can_be_logged xs r.1)

-- what passes determines the limit, the entries and the answer
module _ (problem : ProblemParts) (bytes : List ℕ) (a b : Answer) (x : Accepts problem bytes a) (y : Accepts problem bytes b) where
  same_accepted : (x.limit ≡ y.limit) × (x.entries ≡ y.entries) × (a ≡ b)
  same_accepted =
      let lines_x : List LogLine = log_lines problem x.limit x.entries a x.state.branchings (length x.state.cuts) in
      let lines_y : List LogLine = log_lines problem y.limit y.entries b y.state.branchings (length y.state.cuts) in
      let t = same_log problem x.limit y.limit x.entries y.entries a b x.state.branchings y.state.branchings (length x.state.cuts) (length y.state.cuts) (can_be_logged lines_x x.readable) (can_be_logged lines_y y.readable) (sym x.text ∙ y.text) in
      (t.0, t.1, t.2)

  pub one_limit : x.limit ≡ y.limit
  one_limit = same_accepted.0

  pub one_history : x.entries ≡ y.entries
  one_history = same_accepted.1

  pub one_answer : a ≡ b
  one_answer = same_accepted.2
