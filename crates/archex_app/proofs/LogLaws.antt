-- A text appended to a file, piece by piece.
use Rattle.std.proofs.Common.{◌≡◌, ℕ, ◌+◌, ◌<◌, ◌≤◌, Option, Some, None, List, [], ◌∷◌, ◌++◌, take, drop, length, get_or, refl, sym, ap, subst, ◌∙◌, append_assoc, append-nil, IfSome, inl, inr}
use Rattle.std.proofs.lemmas.List.{take-append-drop, take_more, take_all}
use Rattle.std.proofs.lemmas.Grind.{flat_map-append}
use Rattle.rows.specs.Parts.{ProblemParts}
use Rattle.search_core.specs.declared.entry.Entry.{Entry}
use Rattle.search_core.specs.declared.answer.Answer.{Answer}
use Rattle.proof_log.specs.Value.{ended, entry_text, header_text, closing_text}
use Rattle.proof_log.specs.Log.{log_text_of}
use Rattle.proof_log.proofs.WholeLogs.{log_parts}
use Rattle.outside.specs.Told.{Appends, KeptOrEmpty}
use Rattle.archex_app.specs.Files.{IsFrontOf}
use Rattle.archex_app.specs.Inner.Log.{IsAppended, IsAppendedSome, entry_lines}
use Rattle.archex_app.proofs.Pieces.{appends_then, appends_no_more}

-- nothing was appended yet
pub appended_none : (told : Option (List ℕ)) (text : List ℕ) → IsAppended told told text text
appended_none told text = record { done = []; parts = refl; appended = nothing told } where
  nothing : (told : Option (List ℕ)) → Appends told told []
  nothing None = tt
  nothing (Some bytes) = (bytes, refl, sym (append-nil bytes))

-- all of it was
pub appended_all : (before now : Option (List ℕ)) (text : List ℕ) → Appends before now text → IsAppended before now text []
appended_all before now text all = record { done = text; parts = sym (append-nil text); appended = all }

-- a front of what was left
pub appended_then : (before mid now : Option (List ℕ)) (text left less : List ℕ) → IsAppended before mid text left → IsAppended mid now left less → IsAppended before now text less
appended_then before mid now text left less first second = record {
  done = first.done ++ second.done;
  parts = first.parts ∙ ap (λ l. first.done ++ l) second.parts ∙ sym (append_assoc first.done second.done less);
  appended = appends_then before mid now first.done second.done first.appended second.appended;
}

-- more is to be appended
pub appended_more : (before now : Option (List ℕ)) (text left more : List ℕ) → IsAppended before now text left → IsAppended before now (text ++ more) (left ++ more)
appended_more before now text left more is = record { done = is.done; parts = ap (λ t. t ++ more) is.parts ∙ append_assoc is.done left more; appended = is.appended }

-- all that was left
pub appended_whole : (before mid now : Option (List ℕ)) (text left : List ℕ) → IsAppended before mid text left → Appends mid now left → Appends before now text
appended_whole before mid now text left first all = subst (λ (t : List ℕ). Appends before now t) (sym first.parts) (appends_then before mid now first.done left first.appended all)

-- the first of a text was appended, and then a call failed
pub appended_cut : (before mid now : Option (List ℕ)) (text : List ℕ) (n : ℕ) → Appends before mid (take n text) → Appends mid now [] → IsAppendedSome before now text
appended_cut before mid now text n first none = (drop n text, record { done = take n text; parts = sym (take-append-drop n text); appended = appends_no_more before mid now (take n text) first none })

-- what was said of a text holds of the same text
pub same_text : (before now : Option (List ℕ)) (text other left : List ℕ) → text ≡ other → IsAppended before now text left → IsAppended before now other left
same_text before now text other left same is = subst (λ (t : List ℕ). IsAppended before now t left) same is

pub some_same : (before now : Option (List ℕ)) (text other : List ℕ) → text ≡ other → IsAppendedSome before now text → IsAppendedSome before now other
some_same before now text other same is = subst (λ (t : List ℕ). IsAppendedSome before now t) same is

-- the lines of entries, one by one
pub no_lines : (told : Option (List ℕ)) (text : List ℕ) → IsAppended told told (text ++ []) text
no_lines told text = same_text told told text (text ++ []) text (sym (append-nil text)) (appended_none told text)

one_line : (entry : Entry) → entry_lines (entry ∷ []) ≡ ended (entry_text entry)
one_line entry = append-nil (ended (entry_text entry))

more_lines : (entries : List Entry) (i : ℕ) (entry d : Entry) → i < length entries → entry ≡ get_or entries i d → entry_lines (take (i + 1) entries) ≡ entry_lines (take i entries) ++ ended (entry_text entry)
more_lines entries i entry d here is =
    ap entry_lines (take_more entries i d here)
    ∙ flat_map-append (λ e. ended (entry_text e)) (take i entries) (get_or entries i d ∷ [])
    ∙ ap (λ l. entry_lines (take i entries) ++ l) (one_line (get_or entries i d) ∙ ap (λ e. ended (entry_text e)) (sym is))

-- one more line by way of the buffer
pub line_appended : (before mid now : Option (List ℕ)) (old buffer rest : List ℕ) (entries : List Entry) (i : ℕ) (entry d : Entry) → i < length entries → entry ≡ get_or entries i d → IsAppended before mid (old ++ entry_lines (take i entries)) buffer
    → IsAppended mid now (buffer ++ ended (entry_text entry)) rest → IsAppended before now (old ++ entry_lines (take (i + 1) entries)) rest
line_appended before mid now old buffer rest entries i entry d here is first second =
    let line = ended (entry_text entry) in
    same_text before now ((old ++ entry_lines (take i entries)) ++ line) (old ++ entry_lines (take (i + 1) entries)) rest (append_assoc old (entry_lines (take i entries)) line ∙ ap (λ l. old ++ l) (sym (more_lines entries i entry d here is)))
    (appended_then before mid now ((old ++ entry_lines (take i entries)) ++ line) (buffer ++ line) rest (appended_more before mid (old ++ entry_lines (take i entries)) buffer line first) second)

-- and one that failed
all_lines : (entries : List Entry) (i : ℕ) → entry_lines (take i entries) ++ entry_lines (drop i entries) ≡ entry_lines entries
all_lines entries i = sym (flat_map-append (λ e. ended (entry_text e)) (take i entries) (drop i entries)) ∙ ap entry_lines (take-append-drop i entries)

pub line_cut : (before mid now : Option (List ℕ)) (old buffer : List ℕ) (entries : List Entry) (i : ℕ) (entry d : Entry) → i < length entries → entry ≡ get_or entries i d → IsAppended before mid (old ++ entry_lines (take i entries)) buffer
    → IsAppendedSome mid now (buffer ++ ended (entry_text entry)) → IsAppendedSome before now (old ++ entry_lines entries)
line_cut before mid now old buffer entries i entry d here is first second =
    let so_far = line_appended before mid now old buffer second.0 entries i entry d here is first second.1 in
    let rest = entry_lines (drop (i + 1) entries) in (
      second.0 ++ rest,
      same_text before now ((old ++ entry_lines (take (i + 1) entries)) ++ rest) (old ++ entry_lines entries) (second.0 ++ rest) (append_assoc old (entry_lines (take (i + 1) entries)) rest ∙ ap (λ l. old ++ l) (all_lines entries (i + 1)))
          (appended_more before now (old ++ entry_lines (take (i + 1) entries)) second.0 rest so_far),
    )

pub lines_appended : (before now : Option (List ℕ)) (old buffer : List ℕ) (entries : List Entry) (i : ℕ) → length entries ≤ i → IsAppended before now (old ++ entry_lines (take i entries)) buffer → IsAppended before now (old ++ entry_lines entries) buffer
lines_appended before now old buffer entries i past is = same_text before now (old ++ entry_lines (take i entries)) (old ++ entry_lines entries) buffer (ap (λ (es : List Entry). old ++ entry_lines es) (take_all i entries past)) is

-- the entries, and then the closing line
pub lines_cut : (before now : Option (List ℕ)) (old lines last : List ℕ) → IsAppendedSome before now (old ++ lines) → IsAppendedSome before now (old ++ (lines ++ last))
lines_cut before now old lines last some = (some.0 ++ last, same_text before now ((old ++ lines) ++ last) (old ++ (lines ++ last)) (some.0 ++ last) (append_assoc old lines last) (appended_more before now (old ++ lines) some.0 last some.1))

pub lines_left : (before now : Option (List ℕ)) (old lines last buffer : List ℕ) → IsAppended before now (old ++ lines) buffer → IsAppendedSome before now (old ++ (lines ++ last))
lines_left before now old lines last buffer is = lines_cut before now old lines last (buffer, is)

pub last_cut : (before mid now : Option (List ℕ)) (old lines last buffer text : List ℕ) → IsAppended before mid (old ++ lines) buffer → text ≡ buffer ++ last → IsAppendedSome mid now text → IsAppendedSome before now (old ++ (lines ++ last))
last_cut before mid now old lines last buffer text first is some =
    let part : IsAppendedSome mid now (buffer ++ last) = some_same mid now text (buffer ++ last) is some in (
      part.0,
      same_text before now ((old ++ lines) ++ last) (old ++ (lines ++ last)) part.0 (append_assoc old lines last) (appended_then before mid now ((old ++ lines) ++ last) (buffer ++ last) part.0 (appended_more before mid (old ++ lines) buffer last first) part.1),
    )

pub last_whole : (before mid now : Option (List ℕ)) (old lines last buffer text : List ℕ) → IsAppended before mid (old ++ lines) buffer → text ≡ buffer ++ last → Appends mid now text → Appends before now (old ++ (lines ++ last))
last_whole before mid now old lines last buffer text first is all =
    let P : List ℕ → Type 0 = Appends mid now in
    let Q : List ℕ → Type 0 = Appends before now in
    subst Q (append_assoc old lines last) (appended_whole before mid now ((old ++ lines) ++ last) (buffer ++ last) (appended_more before mid (old ++ lines) buffer last first) (subst P is all))

-- after a fresh start the file holds what was appended
none_some : (x : List ℕ) → None ≡ Some x → ⊥
none_some x e = cc

same_some : (x y : List ℕ) → Some x ≡ Some y → x ≡ y
same_some x y e = cc

begun : (fresh now : Option (List ℕ)) (done : List ℕ) → IfSome fresh (λ bytes. bytes ≡ []) → Appends fresh now done → IfSome now (λ bytes. bytes ≡ done)
begun fresh None done empty adds = tt
begun None (Some bytes) done empty adds = absurd (none_some adds.0 adds.1)
begun (Some old) (Some bytes) done empty adds = adds.2 ∙ ap (λ f. f ++ done) (sym (same_some old adds.0 adds.1) ∙ empty)

pub holds_whole : (fresh now : Option (List ℕ)) (text : List ℕ) → IfSome fresh (λ bytes. bytes ≡ []) → Appends fresh now text → IfSome now (λ bytes. bytes ≡ text)
holds_whole fresh now text empty adds = begun fresh now text empty adds

front_by : (now : Option (List ℕ)) (done left text : List ℕ) → text ≡ done ++ left → IfSome now (λ bytes. bytes ≡ done) → IfSome now (λ bytes. (rest : List ℕ) × (text ≡ bytes ++ rest))
front_by None done left text parts is = tt
front_by (Some bytes) done left text parts is = (left, parts ∙ ap (λ f. f ++ left) (sym is))

pub holds_front : (before fresh now : Option (List ℕ)) (text : List ℕ) → IfSome fresh (λ bytes. bytes ≡ []) → IsAppendedSome fresh now text → IsFrontOf before now text
holds_front before fresh now text empty some = inr (front_by now some.1.done some.0 text some.1.parts (begun fresh now some.1.done empty some.1.appended))

-- a start that failed
empty_front : (now : Option (List ℕ)) (text : List ℕ) → IfSome now (λ bytes. bytes ≡ []) → IfSome now (λ bytes. (rest : List ℕ) × (text ≡ bytes ++ rest))
empty_front None text empty = tt
empty_front (Some bytes) text empty = (text, ap (λ f. f ++ text) (sym empty))

pub kept_front : (before now : Option (List ℕ)) (text : List ℕ) → KeptOrEmpty before now → IsFrontOf before now text
kept_front before now text left = elim left [ inl same ↦ inl same | inr empty ↦ inr (empty_front now text empty) ]

-- the text of a log, by its parts
log_is : (problem : ProblemParts) (limit : ℕ) (entries : List Entry) (answer : Answer) (branchings cuts : ℕ) (head : List ℕ) → head ≡ header_text problem limit
    → head ++ (entry_lines entries ++ ended (closing_text answer branchings cuts)) ≡ log_text_of problem limit entries answer branchings cuts
log_is problem limit entries answer branchings cuts head is = ap (λ h. h ++ (entry_lines entries ++ ended (closing_text answer branchings cuts))) is ∙ sym (log_parts problem limit entries answer branchings cuts)

pub log_whole : (fresh now : Option (List ℕ)) (problem : ProblemParts) (limit : ℕ) (entries : List Entry) (answer : Answer) (branchings cuts : ℕ) (head : List ℕ) → head ≡ header_text problem limit → IfSome fresh (λ bytes. bytes ≡ [])
    → Appends fresh now (head ++ (entry_lines entries ++ ended (closing_text answer branchings cuts))) → IfSome now (λ bytes. bytes ≡ log_text_of problem limit entries answer branchings cuts)
log_whole fresh now problem limit entries answer branchings cuts head is empty adds =
    let P : List ℕ → Type 0 = Appends fresh now in
    holds_whole fresh now (log_text_of problem limit entries answer branchings cuts) empty (subst P (log_is problem limit entries answer branchings cuts head is) adds)

pub log_front : (before fresh now : Option (List ℕ)) (problem : ProblemParts) (limit : ℕ) (entries : List Entry) (answer : Answer) (branchings cuts : ℕ) (head : List ℕ) → head ≡ header_text problem limit → IfSome fresh (λ bytes. bytes ≡ [])
    → IsAppendedSome fresh now (head ++ (entry_lines entries ++ ended (closing_text answer branchings cuts))) → IsFrontOf before now (log_text_of problem limit entries answer branchings cuts)
log_front before fresh now problem limit entries answer branchings cuts head is empty some =
    holds_front before fresh now (log_text_of problem limit entries answer branchings cuts) empty (some_same fresh now (head ++ (entry_lines entries ++ ended (closing_text answer branchings cuts))) (log_text_of problem limit entries answer branchings cuts) (log_is problem limit entries answer branchings cuts head is) some)

-- by way of slices
pub whole_same : (before now : Option (List ℕ)) (text other left : List ℕ) → text ≡ other → IsAppended before now text left → IsAppended before now other left
whole_same before now text other left same is = same_text before now text other left same is

pub appended_cleared : (before now : Option (List ℕ)) (buffer slice left : List ℕ) → slice ≡ buffer → Appends before now slice → left ≡ [] → IsAppended before now buffer left
appended_cleared before now buffer slice left same all none =
    let P : List ℕ → Type 0 = IsAppended before now buffer in
    subst P (sym none) (same_text before now slice buffer [] same (appended_all before now slice all))

pub some_entries : (before now : Option (List ℕ)) (old : List ℕ) (slice entries : List Entry) → slice ≡ entries → IsAppendedSome before now (old ++ entry_lines slice) → IsAppendedSome before now (old ++ entry_lines entries)
some_entries before now old slice entries same is = some_same before now (old ++ entry_lines slice) (old ++ entry_lines entries) (ap (λ (es : List Entry). old ++ entry_lines es) same) is

pub whole_entries : (before now : Option (List ℕ)) (old buffer : List ℕ) (slice entries : List Entry) → slice ≡ entries → IsAppended before now (old ++ entry_lines slice) buffer → IsAppended before now (old ++ entry_lines entries) buffer
whole_entries before now old buffer slice entries same is = same_text before now (old ++ entry_lines slice) (old ++ entry_lines entries) buffer (ap (λ (es : List Entry). old ++ entry_lines es) same) is
