-- The records that were read one after the other are the first of the list that `csv` states.
use Rattle.std.proofs.Common.{◌≡◌, ◌⊎◌, ◌+◌, ◌-◌, ◌<◌, ◌≤◌, ℕ, zero, suc, Bool, true, false, cond, ◌||◌, nat_eq, List, [], ◌∷◌, ◌++◌, length, Some, None, refl, ap, subst, ◌∙◌, arith, inl, inr}
use Rattle.std.proofs.lemmas.Bool.{cases_Bool}
use Rattle.std.proofs.lemmas.List.{append-nil}
use Rattle.csv.specs.Machine.{Read, next_record, step, is_end, ends_at_end, fields_after, field_after, in_field, start_field, start_record}
use Rattle.csv.specs.Reading.{default_config, Reached, records, records_from}
use Rattle.csv.specs.declared.parser.State.{State}
use Rattle.csv.specs.declared.parser.State.TheVariants as st
use Rattle.csv.specs.declared.parser.Action.{Action}

-- between two records
abbrev pub AtStart : State → Type 0
AtStart s = (s ≡ st.StartRecord) ⊎ (s ≡ st.AfterCr)

-- a step that ends a record leads to a place between two records
abbrev Rests : State × Action → Type 0
Rests q = is_end q.1 ≡ true → AtStart q.0

either : (b : Bool) (x y : State × Action) → Rests x → Rests y → Rests (cond b x y)
either true x y h k = h
either false x y h k = k

after : (b : Bool) → AtStart (cond b st.AfterCr st.StartRecord)
after true = inr refl
after false = inl refl

field_rests : (c : ℕ) → Rests (in_field default_config c)
field_rests c = either (nat_eq c 44) _ _ (λ e. cc) (either (nat_eq c 13 || nat_eq c 10) _ _ (λ e. after (nat_eq c 13)) (λ e. cc))

start_rests : (c : ℕ) → Rests (start_field default_config c)
start_rests c = either (nat_eq c 34) _ _ (λ e. cc) (field_rests c)

record_rests : (c : ℕ) → Rests (start_record default_config c)
record_rests c = either (nat_eq c 13 || nat_eq c 10) _ _ (λ e. cc) (start_rests c)

step_rests : (s : State) (c : ℕ) → Rests (step default_config s c)
step_rests st.StartRecord c = record_rests c
step_rests st.StartField c = start_rests c
step_rests st.InField c = field_rests c
step_rests st.InQuoted c = either (nat_eq c 34) _ _ (λ e. cc) (λ e. cc)
step_rests st.InEscape c = λ e. cc
step_rests st.AfterQuote c = either (nat_eq c 34) _ _ (λ e. cc) (field_rests c)
step_rests st.InComment c = either (nat_eq c 10) _ _ (λ e. cc) (λ e. cc)
step_rests st.AfterCr c = either (nat_eq c 10) _ _ (λ e. cc) (record_rests c)

-- a record that was read leaves no more bytes than there were, and ends between two records
abbrev pub Shortens : List ℕ → Read → Type 0
Shortens xs p = (length p.2 ≤ length xs) × AtStart p.1

read_shortens : (s : State) (fields : List (List ℕ)) (field xs : List ℕ) (p : Read) → next_record default_config s fields field xs ≡ Some p → Shortens xs p
unfolding next_record
read_shortens s fields field [] p e = elim (cases_Bool (ends_at_end s)) [
  | inl ends ↦
      let q : (fields ++ field ∷ [], st.StartRecord, []) ≡ p = let h = rw ends at e in cc in
      subst (Shortens []) q (omega arith, inl refl)
  | inr goes ↦ let h = rw goes at e in absurd (cc)
]
read_shortens s fields field (c ∷ rest) p e = elim (cases_Bool (is_end (step default_config s c).1)) [
  | inl ends ↦
      let q : (fields_after (step default_config s c).1 fields field, (step default_config s c).0, rest) ≡ p = let h = rw ends at e in cc in
      subst (Shortens (c ∷ rest)) q (omega arith, step_rests s c ends)
  | inr goes ↦
      let r = read_shortens (step default_config s c).0 (fields_after (step default_config s c).1 fields field) (field_after (step default_config s c).1 c field) rest p (rw goes at e) in
      (omega (arith, r.0), r.1)
]

-- between two records, a record that is read takes a byte at least
pub record_shortens : (s : State) (xs : List ℕ) (p : Read) → AtStart s → next_record default_config s [] [] xs ≡ Some p → (length p.2 < length xs) × AtStart p.1
unfolding next_record
record_shortens s [] p (inl at) e = let h = rw at at e in absurd (cc)
record_shortens s [] p (inr at) e = let h = rw at at e in absurd (cc)
record_shortens s (c ∷ rest) p at e = elim (cases_Bool (is_end (step default_config s c).1)) [
  | inl ends ↦
      let q : (fields_after (step default_config s c).1 [] [], (step default_config s c).0, rest) ≡ p = let h = rw ends at e in cc in
      let P : Read → Type 0 = λ r. (length r.2 < length (c ∷ rest)) × AtStart r.1 in
      subst P q (omega arith, step_rests s c ends)
  | inr goes ↦
      let r = read_shortens (step default_config s c).0 (fields_after (step default_config s c).1 [] []) (field_after (step default_config s c).1 c []) rest p (rw goes at e) in
      (omega (arith, r.0), r.1)
]

-- each record takes a byte at least
pub reached_short : (s : State) (xs : List ℕ) (rows : List (List (List ℕ))) (s2 : State) (ys : List ℕ) → AtStart s → Reached default_config s xs rows s2 ys → (length rows + length ys ≤ length xs) × AtStart s2
unfolding Reached
reached_short s xs [] s2 ys at r = (omega (arith, ap length r.1), subst AtStart r.0 at)
reached_short s xs (row ∷ rows) s2 ys at (p, e, same, r) =
    let one = record_shortens s xs p at e in
    let rest = reached_short p.1 p.2 rows s2 ys one.1 r in
    (omega (arith, one.0, rest.0), rest.1)

-- the list of records goes on after those that were read
records_go_on : (n m : ℕ) (s : State) (xs : List ℕ) (rows : List (List (List ℕ))) (s2 : State) (ys : List ℕ) → n ≡ length rows + m → Reached default_config s xs rows s2 ys
    → records_from default_config n s xs ≡ rows ++ records_from default_config m s2 ys
unfolding Reached records_from
records_go_on n m s xs [] s2 ys e r = let same : n ≡ m = omega arith in rw (same, r.0, r.1) refl
records_go_on zero m s xs (row ∷ rows) s2 ys e r = absurd (omega arith)
records_go_on (suc n) m s xs (row ∷ rows) s2 ys e (p, is, same, r) =
    rw (is, same) (ap (λ more. p.0 ∷ more) (records_go_on n m p.1 p.2 rows s2 ys (omega arith) r))

none_left : (n : ℕ) (s : State) (xs : List ℕ) → next_record default_config s [] [] xs ≡ None → records_from default_config n s xs ≡ []
unfolding records_from
none_left zero s xs e = refl
none_left (suc n) s xs e = rw e refl

-- records that were read are the first of all
pub records_begin : (xs : List ℕ) (rows : List (List (List ℕ))) (s : State) (ys : List ℕ) → Reached default_config st.StartRecord xs rows s ys
    → (more : List (List (List ℕ))) × (records default_config xs ≡ rows ++ more)
records_begin xs rows s ys r =
    let short = (reached_short st.StartRecord xs rows s ys (inl refl) r).0 in
    let m = length xs + 1 - length rows in
    let e : length xs + 1 ≡ length rows + m = omega arith in
    (records_from default_config m s ys, records_go_on (length xs + 1) m st.StartRecord xs rows s ys e r)

-- where no record is left, they are all
pub records_end : (xs : List ℕ) (rows : List (List (List ℕ))) (s : State) (ys : List ℕ) → Reached default_config st.StartRecord xs rows s ys
    → next_record default_config s [] [] ys ≡ None → records default_config xs ≡ rows
records_end xs rows s ys r none =
    let short = (reached_short st.StartRecord xs rows s ys (inl refl) r).0 in
    let m = length xs + 1 - length rows in
    let e : length xs + 1 ≡ length rows + m = omega arith in
    records_go_on (length xs + 1) m st.StartRecord xs rows s ys e r ∙ ap (λ more. rows ++ more) (none_left m s ys none) ∙ append-nil rows
