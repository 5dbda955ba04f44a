-- What each reader of a field finds, and that it finds again what was written.
use Rattle.std.proofs.Common.{◌≡◌, ℕ, ◌^◌, ◌<◌, List, [], ◌++◌, length, codes, Option, Some, None, option_map, refl, sym, ap, ◌∙◌, append_assoc, arith, inl, inr, ⊎_elim, ◌⊎◌}
use Rattle.std.specs.Prelude.{Ok, Err}
use Rattle.std.specs.Str.Parse.{IsNumeral}
use Rattle.std.proofs.lemmas.List.{length-append}
use Rattle.proof_log.specs.declared.log_line.LineFault.TheVariants.{Form}
use Rattle.proof_log.specs.Field.{RowName, base_row, cut_row, cost_row, AMOUNTS, TIMES, row_text, pair_text, optional_text, RowNumber, OptionalNumber}
use Rattle.proof_log.specs.Inner.Reading.{Read, after, both, number_of, number_at, optional_at, row_at, pair_at}
use Rattle.proof_log.proofs.Scanning.{after_is}
use Rattle.proof_log.proofs.Runs.{NoDigit, number_found, number_again, not_word}

-- the digits of a written number
abbrev pub as_it_is : List ℕ → List ℕ
as_it_is ds = ds

-- a written number is a run of digits
abbrev pub IsRun : ℕ → ℕ → List ℕ → Type 0
IsRun low limit ds = IsNumeral 10 ds

-- what a reader found: what was written, what stands behind it, and what it is read as
abbrev pub Found : {W A : Type 0} → (List ℕ → Read (Option A)) → (W → List ℕ) → (W → Type 0) → (W → Option A) → List ℕ → Type 0
Found {W} read text Good value bytes = (w : W) × (rest : List ℕ) × Good w × (bytes ≡ text w ++ rest) × (read bytes ≡ Ok (value w, rest))

-- a reader of items: it finds what is written or no form, and what is written it finds again
pub record Reads {W A : Type 0} (read : List ℕ → Read (Option A)) (text : W → List ℕ) (Good : W → Type 0) (value : W → Option A) (End : List ℕ → Type 0) : Type 0 where
  pub found : (bytes : List ℕ) → Found read text Good value bytes ⊎ (read bytes ≡ Err Form)
  pub again : (w : W) (rest : List ℕ) → Good w → End rest → read (text w ++ rest) ≡ Ok (value w, rest)
  pub some : (w : W) → Good w → 0 < length (text w)
  pub plain : (w : W) (rest : List ℕ) → Good w → after (codes "-") (text w ++ rest) ≡ None

-- a word in front, or not
pub in_words : (word bytes : List ℕ) → ((rest : List ℕ) × (after word bytes ≡ Some rest) × (bytes ≡ word ++ rest)) ⊎ (after word bytes ≡ None)
in_words word bytes = by (after word bytes) refl
  where
    by : (o : Option (List ℕ)) → after word bytes ≡ o → ((rest : List ℕ) × (after word bytes ≡ Some rest) × (bytes ≡ word ++ rest)) ⊎ (after word bytes ≡ None)
    by None e = inr e
    by (Some rest) e = inl (rest, e, after_is word bytes rest e)

-- ---- numbers

pub reads_number : (low limit : ℕ) → Reads (number_at low limit) as_it_is (IsNumeral 10) (number_of low limit) NoDigit
reads_number low limit = record {
  found = number_found low limit;
  again = number_again low limit;
  some = λ w g. g.0;
  plain = λ w rest g. not_word 45 [] w rest g (omega arith);
}

-- ---- rows

-- what a row's name is read as
abbrev pub row_of : RowName (List ℕ) → Option (RowName ℕ)
row_of (base_row ds) = option_map base_row (number_of 0 (2 ^ 32) ds)
row_of (cut_row ds) = option_map cut_row (number_of 0 (2 ^ 32) ds)
row_of cost_row = Some cost_row

row_found : (bytes : List ℕ) → Found row_at (row_text as_it_is) (RowNumber IsRun) row_of bytes ⊎ (row_at bytes ≡ Err Form)
unfolding row_at
row_found bytes = ⊎_elim yes_b no_b (in_words (codes "b") bytes)
  where
    yes_b : ((rest : List ℕ) × (after (codes "b") bytes ≡ Some rest) × (bytes ≡ codes "b" ++ rest)) → Found row_at (row_text as_it_is) (RowNumber IsRun) row_of bytes ⊎ (row_at bytes ≡ Err Form)
    yes_b h = ⊎_elim
        (λ f. inl (base_row f.0, f.1, f.2, h.2 ∙ ap (λ (l : List ℕ). codes "b" ++ l) f.3, rw (h.1, f.4) refl))
        (λ (e : number_at 0 (2 ^ 32) h.0 ≡ Err Form). inr (rw (h.1, e) refl))
        (number_found 0 (2 ^ 32) h.0)

    yes_c : after (codes "b") bytes ≡ None → ((rest : List ℕ) × (after (codes "c") bytes ≡ Some rest) × (bytes ≡ codes "c" ++ rest)) → Found row_at (row_text as_it_is) (RowNumber IsRun) row_of bytes ⊎ (row_at bytes ≡ Err Form)
    yes_c n h = ⊎_elim
        (λ f. inl (cut_row f.0, f.1, f.2, h.2 ∙ ap (λ (l : List ℕ). codes "c" ++ l) f.3, rw (n, h.1, f.4) refl))
        (λ (e : number_at 0 (2 ^ 32) h.0 ≡ Err Form). inr (rw (n, h.1, e) refl))
        (number_found 0 (2 ^ 32) h.0)

    no_c : after (codes "b") bytes ≡ None → after (codes "c") bytes ≡ None → Found row_at (row_text as_it_is) (RowNumber IsRun) row_of bytes ⊎ (row_at bytes ≡ Err Form)
    no_c n m = ⊎_elim
        (λ h. inl (cost_row, h.0, tt, h.2, rw (n, m, h.1) refl))
        (λ (e : after (codes "u") bytes ≡ None). inr (rw (n, m, e) refl))
        (in_words (codes "u") bytes)

    no_b : after (codes "b") bytes ≡ None → Found row_at (row_text as_it_is) (RowNumber IsRun) row_of bytes ⊎ (row_at bytes ≡ Err Form)
    no_b n = ⊎_elim (yes_c n) (no_c n) (in_words (codes "c") bytes)

row_again : (w : RowName (List ℕ)) (rest : List ℕ) → RowNumber IsRun w → NoDigit rest → row_at (row_text as_it_is w ++ rest) ≡ Ok (row_of w, rest)
unfolding row_at
row_again (base_row ds) rest g h = rw (number_again 0 (2 ^ 32) ds rest g h) refl
row_again (cut_row ds) rest g h = rw (number_again 0 (2 ^ 32) ds rest g h) refl
row_again cost_row rest g h = refl

row_some : (w : RowName (List ℕ)) → RowNumber IsRun w → 0 < length (row_text as_it_is w)
row_some (base_row ds) g = omega arith
row_some (cut_row ds) g = omega arith
row_some cost_row g = omega arith

row_plain : (w : RowName (List ℕ)) (rest : List ℕ) → RowNumber IsRun w → after (codes "-") (row_text as_it_is w ++ rest) ≡ None
row_plain (base_row ds) rest g = refl
row_plain (cut_row ds) rest g = refl
row_plain cost_row rest g = refl

pub reads_row : Reads row_at (row_text as_it_is) (RowNumber IsRun) row_of NoDigit
reads_row = record { found = row_found; again = row_again; some = row_some; plain = row_plain }

-- ---- pairs

-- a pair whose numbers are runs of digits
abbrev pub IsPair : RowName (List ℕ) × List ℕ → Type 0
IsPair p = RowNumber IsRun p.0 × IsNumeral 10 p.1

-- what a pair is read as
abbrev pub pair_of : RowName (List ℕ) × List ℕ → Option (RowName ℕ × ℕ)
pair_of p = both (row_of p.0) (number_of 1 TIMES p.1)

pair_found : (bytes : List ℕ) → Found pair_at (pair_text as_it_is) IsPair pair_of bytes ⊎ (pair_at bytes ≡ Err Form)
unfolding pair_at
pair_found bytes = ⊎_elim yes (λ (e : row_at bytes ≡ Err Form). inr (rw e refl)) (row_found bytes)
  where
    yes : Found row_at (row_text as_it_is) (RowNumber IsRun) row_of bytes → Found pair_at (pair_text as_it_is) IsPair pair_of bytes ⊎ (pair_at bytes ≡ Err Form)
    yes f = ⊎_elim
        (λ s. ⊎_elim
        (λ n. inl ((f.0, n.0), n.1, (f.2, n.2), parts f s n, rw (f.4, s.1, n.4) refl))
        (λ (e : number_at 1 TIMES s.0 ≡ Err Form). inr (rw (f.4, s.1, e) refl))
        (number_found 1 TIMES s.0))
        (λ (e : after (codes "*") f.1 ≡ None). inr (rw (f.4, e) refl))
        (in_words (codes "*") f.1)
      where
        parts : (f : Found row_at (row_text as_it_is) (RowNumber IsRun) row_of bytes) (s : (rest : List ℕ) × (after (codes "*") f.1 ≡ Some rest) × (f.1 ≡ codes "*" ++ rest))
            (n : (ds : List ℕ) × (rest : List ℕ) × IsNumeral 10 ds × (s.0 ≡ ds ++ rest) × (number_at 1 TIMES s.0 ≡ Ok (number_of 1 TIMES ds, rest))) → bytes ≡ pair_text as_it_is (f.0, n.0) ++ n.1
        parts f s n =
            f.3 ∙ ap (λ (l : List ℕ). row_text as_it_is f.0 ++ l) (s.2 ∙ ap (λ (l : List ℕ). codes "*" ++ l) n.3) ∙ sym (append_assoc (row_text as_it_is f.0) (codes "*" ++ n.0) n.1)

pair_again : (w : RowName (List ℕ) × List ℕ) (rest : List ℕ) → IsPair w → NoDigit rest → pair_at (pair_text as_it_is w ++ rest) ≡ Ok (pair_of w, rest)
unfolding pair_at
pair_again w rest g h =
    let e : pair_text as_it_is w ++ rest ≡ row_text as_it_is w.0 ++ (codes "*" ++ (w.1 ++ rest)) = append_assoc (row_text as_it_is w.0) (codes "*" ++ w.1) rest in
    rw (e, row_again w.0 (codes "*" ++ (w.1 ++ rest)) g.0 refl, number_again 1 TIMES w.1 rest g.1 h) refl

pair_plain : (w : RowName (List ℕ) × List ℕ) (rest : List ℕ) → IsPair w → after (codes "-") (pair_text as_it_is w ++ rest) ≡ None
pair_plain w rest g = rw (append_assoc (row_text as_it_is w.0) (codes "*" ++ w.1) rest) (row_plain w.0 ((codes "*" ++ w.1) ++ rest) g.0)

pub reads_pair : Reads pair_at (pair_text as_it_is) IsPair pair_of NoDigit
reads_pair = record {
  found = pair_found;
  again = pair_again;
  some = λ w g. omega (arith, length-append (row_text as_it_is w.0) (codes "*" ++ w.1), row_some w.0 g.0);
  plain = pair_plain;
}

-- ---- a number or none

-- what an optional number is read as
abbrev pub optional_of : Option (List ℕ) → Option (Option ℕ)
optional_of None = Some None
optional_of (Some ds) = option_map (λ n. Some n) (number_of 0 AMOUNTS ds)

pub optional_found : (bytes : List ℕ) → Found optional_at (optional_text as_it_is) (OptionalNumber IsRun) optional_of bytes ⊎ (optional_at bytes ≡ Err Form)
unfolding optional_at
optional_found bytes = ⊎_elim (λ h. inl (None, h.0, tt, h.2, rw h.1 refl)) number (in_words (codes "none") bytes)
  where
    number : after (codes "none") bytes ≡ None → Found optional_at (optional_text as_it_is) (OptionalNumber IsRun) optional_of bytes ⊎ (optional_at bytes ≡ Err Form)
    number n = ⊎_elim
        (λ f. inl (Some f.0, f.1, f.2, f.3, rw (n, f.4) refl))
        (λ (e : number_at 0 AMOUNTS bytes ≡ Err Form). inr (rw (n, e) refl))
        (number_found 0 AMOUNTS bytes)

pub optional_again : (w : Option (List ℕ)) (rest : List ℕ) → OptionalNumber IsRun w → NoDigit rest → optional_at (optional_text as_it_is w ++ rest) ≡ Ok (optional_of w, rest)
unfolding optional_at
optional_again None rest g h = refl
optional_again (Some ds) rest g h = rw (not_word 110 (codes "one") ds rest g (omega arith), number_again 0 AMOUNTS ds rest g h) refl
