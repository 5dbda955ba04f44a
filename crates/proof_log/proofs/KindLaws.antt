-- Fields of each kind: what reading them finds, and that it finds again what was written.
use Rattle.std.proofs.Common.{◌≡◌, ℕ, cond, eqb, List, [], ◌∷◌, ◌++◌, map, get_or, codes, Option, Some, None, option_map, refl, sym, ap, ◌∙◌, append_assoc, inl, inr, ⊎_elim, ◌⊎◌}
use Rattle.std.specs.Prelude.{Result, Ok, Err}
use Rattle.std.specs.Char.{is_ascii_digit}
use Rattle.std.specs.Str.Parse.{IsNumeral}
use Rattle.proof_log.specs.declared.log_line.LineFault.{LineFault}
use Rattle.proof_log.specs.declared.log_line.LineFault.TheVariants.{Form}
use Rattle.proof_log.specs.Field.{RowName, Field, number, optional, trace, reason, members, row_text, pair_text, field_text, RowNumber, EachNumber, HasPairs}
use Rattle.proof_log.specs.Line.{Line}
use Rattle.proof_log.specs.Inner.Reading.{Read, after, number_of, number_at, row_at, pair_at, list_at, Kind, a_number, an_optional, a_trace, a_reason, a_list, Got, Seen, set_read, value_at, field_at, fields_at}
use Rattle.proof_log.proofs.Runs.{NoDigit, number_found, number_again}
use Rattle.proof_log.proofs.ReadLaws.{as_it_is, IsRun, in_words, reads_number, row_of, reads_row, IsPair, pair_of, reads_pair, optional_of, optional_found, optional_again}
use Rattle.proof_log.proofs.Lists.{NoComma, all_of, items_found, items_again, list_found, list_again}

-- what a field of a kind says, with N for a number
abbrev pub Value : Type 0 → Kind → Type 0
Value N (a_number limit) = N
Value N an_optional = Option N
Value N a_trace = List (RowName N)
Value N a_reason = List (RowName N × N)
Value N (a_list limit) = List N

-- the field of a kind
abbrev pub field_of : {N : Type 0} → (k : Kind) → Value N k → Field N
field_of (a_number limit) n = number limit n
field_of an_optional o = optional o
field_of a_trace rows = trace rows
field_of a_reason pairs = reason pairs
field_of (a_list limit) ns = members limit ns

-- a written field: each number is a run of digits, and a reason has 1 to 64 pairs
abbrev pub IsGood : (k : Kind) → Value (List ℕ) k → Type 0
IsGood k w = EachNumber IsRun (field_of k w) × HasPairs (field_of k w)

-- what a written field is read as
abbrev pub got : (k : Kind) → Value (List ℕ) k → Option (Got k)
got (a_number limit) ds = number_of 0 limit ds
got an_optional o = optional_of o
got a_trace rows = all_of (map row_of rows)
got a_reason pairs = all_of (map pair_of pairs)
got (a_list limit) ns = option_map set_read (all_of (map (number_of 0 limit) ns))

-- what is written for a field of a kind
abbrev pub text_at : (k : Kind) → Value (List ℕ) k → List ℕ
text_at k w = field_text as_it_is (field_of k w)

-- the line ends, or a space stands in front
abbrev pub Stops : List ℕ → Type 0
Stops rest = get_or rest 0 32 ≡ 32

no_digit : (rest : List ℕ) → Stops rest → NoDigit rest
no_digit [] h = refl
no_digit (c ∷ cs) h = ap is_ascii_digit h

no_comma : (rest : List ℕ) → Stops rest → NoComma rest
no_comma [] h = refl
no_comma (c ∷ cs) h = ap (λ d. cond (eqb d 44) (Some cs) None) h

-- what was found of a field
abbrev pub FoundAt : (k : Kind) → (List ℕ → Read (Option (Got k))) → (Value (List ℕ) k → List ℕ) → List ℕ → Type 0
FoundAt k read text bytes = (w : Value (List ℕ) k) × (rest : List ℕ) × IsGood k w × (bytes ≡ text w ++ rest) × (read bytes ≡ Ok (got k w, rest))

pub value_found : (k : Kind) (bytes : List ℕ) → FoundAt k (value_at k) (text_at k) bytes ⊎ (value_at k bytes ≡ Err Form)
value_found (a_number limit) bytes = ⊎_elim (λ f. inl (f.0, f.1, (f.2, tt), f.3, f.4)) inr (number_found 0 limit bytes)
value_found an_optional bytes = ⊎_elim (λ f. inl (f.0, f.1, (f.2, tt), f.3, f.4)) inr (optional_found bytes)
value_found a_trace bytes = ⊎_elim (λ f. inl (f.0, f.1, (f.2, tt), f.3, f.4)) inr (list_found row_at (row_text as_it_is) (RowNumber IsRun) row_of reads_row bytes)
value_found a_reason bytes = ⊎_elim (λ f. inl (f.0, f.1, (f.2.good, (f.2.some, f.2.few)), f.3, f.4)) inr (items_found pair_at (pair_text as_it_is) IsPair pair_of reads_pair 64 bytes)
value_found (a_list limit) bytes = ⊎_elim (λ f. inl (f.0, f.1, (f.2, tt), f.3, rw f.4 refl)) (λ (e : list_at (number_at 0 limit) bytes ≡ Err Form). inr (rw e refl)) (list_found (number_at 0 limit) as_it_is (IsNumeral 10) (number_of 0 limit) (reads_number 0 limit) bytes)

pub value_again : (k : Kind) (w : Value (List ℕ) k) (rest : List ℕ) → IsGood k w → Stops rest → value_at k (text_at k w ++ rest) ≡ Ok (got k w, rest)
value_again (a_number limit) w rest g h = number_again 0 limit w rest g.0 (no_digit rest h)
value_again an_optional w rest g h = optional_again w rest g.0 (no_digit rest h)
value_again a_trace w rest g h = list_again row_at (row_text as_it_is) (RowNumber IsRun) row_of reads_row w rest g.0 (no_digit rest h) (no_comma rest h)
value_again a_reason w rest g h = items_again pair_at (pair_text as_it_is) IsPair pair_of reads_pair 64 w rest (record { good = g.0; some = g.1.0; few = g.1.1 }) (no_digit rest h) (no_comma rest h)
value_again (a_list limit) w rest g h = rw (list_again (number_at 0 limit) as_it_is (IsNumeral 10) (number_of 0 limit) (reads_number 0 limit) w rest g.0 (no_digit rest h) (no_comma rest h)) refl

-- what is written for a field behind a space
abbrev pub spaced : (k : Kind) → Value (List ℕ) k → List ℕ
spaced k w = codes " " ++ text_at k w

pub field_found : (k : Kind) (bytes : List ℕ) → FoundAt k (field_at k) (spaced k) bytes ⊎ (field_at k bytes ≡ Err Form)
field_found k bytes = ⊎_elim
    (λ s. ⊎_elim
    (λ f. inl (f.0, f.1, f.2, s.2 ∙ ap (λ (l : List ℕ). codes " " ++ l) f.3, rw (s.1, f.4) refl))
    (λ (e : value_at k s.0 ≡ Err Form). inr (rw (s.1, e) refl))
    (value_found k s.0))
    (λ (n : after (codes " ") bytes ≡ None). inr (rw n refl))
    (in_words (codes " ") bytes)

pub field_again : (k : Kind) (w : Value (List ℕ) k) (rest : List ℕ) → IsGood k w → Stops rest → field_at k (spaced k w ++ rest) ≡ Ok (got k w, rest)
field_again k w rest g h = value_again k w rest g h

-- ---- several fields

-- what some fields say
abbrev pub Values : Type 0 → List Kind → Type 0
Values N [] = Unit {0}
Values N (k ∷ ks) = Value N k × (Values N ks)

abbrev pub AreGood : (ks : List Kind) → Values (List ℕ) ks → Type 0
AreGood [] ws = Unit {0}
AreGood (k ∷ ks) ws = IsGood k ws.0 × (AreGood ks ws.1)

abbrev pub gots : (ks : List Kind) → Values (List ℕ) ks → Seen ks
gots [] ws = tt
gots (k ∷ ks) ws = (got k ws.0, gots ks ws.1)

-- what is written for some fields, each behind a space
abbrev pub tail_text : {N : Type 0} → (N → List ℕ) → (ks : List Kind) → Values N ks → List ℕ
tail_text digits [] ws = []
tail_text digits (k ∷ ks) ws = (codes " " ++ field_text digits (field_of k ws.0)) ++ tail_text digits ks ws.1

stops_tail : (ks : List Kind) (ws : Values (List ℕ) ks) (rest : List ℕ) → Stops rest → Stops (tail_text as_it_is ks ws ++ rest)
stops_tail [] ws rest h = h
stops_tail (k ∷ ks) ws rest h = refl

pub fields_again : (ks : List Kind) (ws : Values (List ℕ) ks) (rest : List ℕ) (next : Seen ks → List ℕ → Result (Line ℕ) LineFault) → AreGood ks ws → Stops rest
    → fields_at ks (tail_text as_it_is ks ws ++ rest) next ≡ next (gots ks ws) rest
fields_again [] ws rest next g h = refl
fields_again (k ∷ ks) ws rest next g h =
    rw (append_assoc (text_at k ws.0) (tail_text as_it_is ks ws.1) rest, value_again k ws.0 (tail_text as_it_is ks ws.1 ++ rest) g.0 (stops_tail ks ws.1 rest h)) (fields_again ks ws.1 rest (λ seen r. next (got k ws.0, seen) r) g.1 h)

-- what was found of several fields
abbrev pub FoundAll : List Kind → List ℕ → Type 0
FoundAll ks bytes = (ws : Values (List ℕ) ks) × (rest : List ℕ) × AreGood ks ws × (bytes ≡ tail_text as_it_is ks ws ++ rest)
    × ((next : Seen ks → List ℕ → Result (Line ℕ) LineFault) → fields_at ks bytes next ≡ next (gots ks ws) rest)

-- some field has no form
abbrev pub HaveNoForm : List Kind → List ℕ → Type 0
HaveNoForm ks bytes = (next : Seen ks → List ℕ → Result (Line ℕ) LineFault) → fields_at ks bytes next ≡ Err Form

pub fields_found : (ks : List Kind) (bytes : List ℕ) → FoundAll ks bytes ⊎ HaveNoForm ks bytes
fields_found [] bytes = inl (tt, bytes, tt, refl, λ next. refl)
fields_found (k ∷ ks) bytes = ⊎_elim (one (λ b. fields_found ks b)) (λ (e : field_at k bytes ≡ Err Form). inr (λ next. rw e refl)) (field_found k bytes)
  where
    one : ((b : List ℕ) → FoundAll ks b ⊎ HaveNoForm ks b) → FoundAt k (field_at k) (spaced k) bytes → FoundAll (k ∷ ks) bytes ⊎ HaveNoForm (k ∷ ks) bytes
    one others f = ⊎_elim
        (λ t. inl ((f.0, t.0), t.1, (f.2, t.2), f.3 ∙ ap (λ (l : List ℕ). spaced k f.0 ++ l) t.3 ∙ sym (append_assoc (spaced k f.0) (tail_text as_it_is ks t.0) t.1), λ next. rw f.4 (t.4 (λ seen r. next (got k f.0, seen) r))))
        (λ n. inr (λ next. rw f.4 (n (λ seen r. next (got k f.0, seen) r))))
        (others f.1)
