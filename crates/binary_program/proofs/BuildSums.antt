-- Coefficients that are added up variable by variable, as a loop over terms meets them.
use Rattle.std.proofs.Common.{◌≡◌, ◌≢◌, ℕ, zero, suc, ◌+◌, ◌*◌, ◌^◌, ◌≤◌, ◌<◌, ℤ, pos, negsuc, ◌+ℤ◌, unsigned_abs, true, false, cond, nat_eq, List, [], ◌∷◌, ◌++◌, map, filter, length, get_or, set, take, to_z, of_z, refl, sym, ap, ◌∙◌, arith, inl, inr, if◌then◌else◌}
use Rattle.std.specs.Int.{w128}
use Rattle.std.specs.List.{All, enumerate_from}
use Rattle.std.proofs.Math.IntN.{+ℤ_idr}
use Rattle.std.proofs.lemmas.Bool.Decides.{eqb_tells}
use Rattle.std.proofs.lemmas.Int.{to_z-of_z, fits_signed_from_abs}
use Rattle.std.proofs.lemmas.List.{length-set, get_or-set_same, get_or-set_other, get_or_read, append-nil, length-map, get_or-map}
use Rattle.std.proofs.lemmas.List.Elements.{All-set, All-weaker, filter-append}
use Rattle.std.proofs.lemmas.List.FromFn.{fill_by_all, length-enumerate_from, get_or-enumerate_from}
use Rattle.rows.specs.declared.row.Term.{Term}
use Rattle.rows.specs.Row.{term, coef_at, is_nonzero, collected}
use Rattle.rows.proofs.Activities.{blank}
use Rattle.rows.proofs.Combinations.{adds_to, adds_is}
use Rattle.rows.proofs.IntSums.{int_sum_by-more}
use Rattle.binary_program.proofs.BuildLists.{made_more}

-- the sums after i terms: each is the coefficient so far, and none is large
pub record AreSums (n i : ℕ) (terms : List Term) (sums : List ℤ) : Type 0 where
  pub long : length sums ≡ n
  pub value : (k : ℕ) → k < n → get_or sums k (pos 0) ≡ coef_at (take i terms) k
  pub small : All (λ a. unsigned_abs a ≤ i * 10 ^ 12) sums

-- a number of at most that size, as the code has it
plain : (a : ℤ) → unsigned_abs a ≤ 2048 * 10 ^ 12 → to_z w128 (of_z w128 a) ≡ a
plain a h = to_z-of_z w128 a (fits_signed_from_abs w128 a (omega (arith, h)))

-- one more term's coefficient added to what was read
added : (old coef : ℤ) (i : ℕ) → i < 2048 → unsigned_abs old ≤ i * 10 ^ 12 → unsigned_abs coef ≤ 10 ^ 12
    → to_z w128 (of_z w128 (to_z w128 (of_z w128 old) +ℤ to_z w128 (of_z w128 coef))) ≡ old +ℤ coef
added old coef i below h k =
    let within : unsigned_abs old ≤ 2048 * 10 ^ 12 = omega arith in
    ap (λ z. to_z w128 (of_z w128 (z +ℤ to_z w128 (of_z w128 coef)))) (plain old within) ∙ adds_is old coef i 2048 (10 ^ 12) h k (omega arith) below (omega arith)

-- the coefficient at k with one more term, where the term is at k and where it isn't
coef_more : (terms : List Term) (i k : ℕ) → i < length terms
    → coef_at (take (i + 1) terms) k ≡ coef_at (take i terms) k +ℤ (if nat_eq (get_or terms i blank).var.0 k then (get_or terms i blank).coef else pos 0)
coef_more terms i k here = int_sum_by-more (λ t. if nat_eq t.var.0 k then t.coef else pos 0) terms i blank here

-- the term that a turn adds, its variable, and the sum as the code has it
abbrev term_at : List Term → ℕ → Term
term_at terms i = get_or terms i blank

abbrev sum_of : ℤ → ℤ → ℤ
sum_of read coef = to_z w128 (of_z w128 (to_z w128 (of_z w128 read) +ℤ to_z w128 (of_z w128 coef)))

module _ (n i : ℕ) (terms : List Term) (sums : List ℤ) (read : ℤ)
    (few : length terms ≤ 2048) (small : All (λ t. unsigned_abs t.coef ≤ 10 ^ 12) terms) (below : All (λ t. t.var.0 < n) terms) (here : i < length terms)
    (so_far : AreSums n i terms sums) (is : read ≡ get_or sums (term_at terms i).var.0 read) where
  below_limit : i < 2048
  below_limit = omega arith

  in_range : (term_at terms i).var.0 < n
  in_range = below i blank here

  inside : (term_at terms i).var.0 < length sums
  inside = omega (arith, in_range, so_far.long)

  read_is : read ≡ get_or sums (term_at terms i).var.0 (pos 0)
  read_is = get_or_read sums (term_at terms i).var.0 read inside is (pos 0)

  old_is : read ≡ coef_at (take i terms) (term_at terms i).var.0
  old_is = read_is ∙ so_far.value (term_at terms i).var.0 in_range

  old_small : unsigned_abs read ≤ i * 10 ^ 12
  old_small = rw read_is (so_far.small (term_at terms i).var.0 (pos 0) inside)

  coef_small : unsigned_abs (term_at terms i).coef ≤ 10 ^ 12
  coef_small = small i blank here

  sum_is : sum_of read (term_at terms i).coef ≡ read +ℤ (term_at terms i).coef
  sum_is = added read (term_at terms i).coef i below_limit old_small coef_small

  sum_small : unsigned_abs (sum_of read (term_at terms i).coef) ≤ (i + 1) * 10 ^ 12
  sum_small = rw sum_is (adds_to read (term_at terms i).coef i 2048 (10 ^ 12) old_small coef_small below_limit)

  value_more : (k : ℕ) → k < n → get_or (set sums (term_at terms i).var.0 (sum_of read (term_at terms i).coef)) k (pos 0) ≡ coef_at (take (i + 1) terms) k
  value_more k short = elim (eqb_tells (term_at terms i).var.0 k) [
    | inl w ↦
        ap (λ j. get_or (set sums (term_at terms i).var.0 (sum_of read (term_at terms i).coef)) j (pos 0)) (sym w.1)
        ∙ get_or-set_same sums (term_at terms i).var.0 (sum_of read (term_at terms i).coef) (pos 0) inside ∙ sum_is
        ∙ ap (λ z. z +ℤ (term_at terms i).coef) (old_is ∙ ap (coef_at (take i terms)) w.1)
        ∙ sym (coef_more terms i k here ∙ ap (λ b. coef_at (take i terms) k +ℤ (if b then (term_at terms i).coef else pos 0)) w.0)
    | inr w ↦
        let ne : k ≢ (term_at terms i).var.0 = λ e. w.1 (sym e) in
        get_or-set_other sums (term_at terms i).var.0 k (sum_of read (term_at terms i).coef) (pos 0) ne ∙ so_far.value k short
        ∙ sym (coef_more terms i k here ∙ ap (λ b. coef_at (take i terms) k +ℤ (if b then (term_at terms i).coef else pos 0)) w.0 ∙ +ℤ_idr (coef_at (take i terms) k))
  ]

  pub sums_more : AreSums n (i + 1) terms (set sums (term_at terms i).var.0 (sum_of read (term_at terms i).coef))
  sums_more = record {
    long = length-set sums (term_at terms i).var.0 (sum_of read (term_at terms i).coef) ∙ so_far.long;
    value = value_more;
    small = All-set (λ a. unsigned_abs a ≤ (i + 1) * 10 ^ 12) sums (term_at terms i).var.0 (sum_of read (term_at terms i).coef) sum_small
        (All-weaker (λ a. unsigned_abs a ≤ i * 10 ^ 12) (λ a. unsigned_abs a ≤ (i + 1) * 10 ^ 12) (λ a h. omega (arith, h)) sums so_far.small);
  }

-- the terms of the coefficients that aren't 0
abbrev pub nonzero : List ℤ → List Term
nonzero coefs = filter (λ t. is_nonzero t.coef) (map (λ p. term p.0 p.1) (enumerate_from 0 coefs))

nonzero_more : (coefs : List ℤ) (i : ℕ) → i < length coefs
    → nonzero (take (i + 1) coefs) ≡ nonzero (take i coefs) ++ cond (is_nonzero (get_or coefs i (pos 0))) (term i (get_or coefs i (pos 0)) ∷ []) []
nonzero_more coefs i here =
    ap (filter (λ (t : Term). is_nonzero t.coef)) (made_more (λ (p : ℕ × ℤ). term p.0 p.1) 0 coefs i i (pos 0) here (omega arith))
    ∙ filter-append (λ (t : Term). is_nonzero t.coef) (map (λ (p : ℕ × ℤ). term p.0 p.1) (enumerate_from 0 (take i coefs))) (term i (get_or coefs i (pos 0)) ∷ [])

-- whether a number is 0, as the code tests its bits
unlike_zero : (a : ℤ) → (of_z w128 a ≡ 0 → ⊥) → is_nonzero a ≡ true
unlike_zero (pos zero) h = absurd (h refl)
unlike_zero (pos (suc n)) h = refl
unlike_zero (negsuc n) h = refl

like_zero : (a : ℤ) → unsigned_abs a ≤ 2048 * 10 ^ 12 → of_z w128 a ≡ 0 → is_nonzero a ≡ false
like_zero (pos zero) small h = refl
like_zero (pos (suc n)) small h = absurd (omega arith)
like_zero (negsuc n) small h = absurd (omega arith)

pub nonzero_yes : (coefs : List ℤ) (i : ℕ) (before after : List Term) → All (λ a. unsigned_abs a ≤ 2048 * 10 ^ 12) coefs → i < length coefs
    → before ≡ nonzero (take i coefs) → after ≡ before ++ term i (to_z w128 (of_z w128 (get_or coefs i (pos 0)))) ∷ [] → (of_z w128 (get_or coefs i (pos 0)) ≡ 0 → ⊥)
    → after ≡ nonzero (take (i + 1) coefs)
nonzero_yes coefs i before after small here so_far step ne =
    step ∙ ap (λ l. l ++ term i (to_z w128 (of_z w128 (get_or coefs i (pos 0)))) ∷ []) so_far
    ∙ ap (λ z. nonzero (take i coefs) ++ term i z ∷ []) (plain (get_or coefs i (pos 0)) (small i (pos 0) here))
    ∙ sym (nonzero_more coefs i here ∙ ap (λ b. nonzero (take i coefs) ++ cond b (term i (get_or coefs i (pos 0)) ∷ []) []) (unlike_zero (get_or coefs i (pos 0)) ne))

pub nonzero_no : (coefs : List ℤ) (i : ℕ) (before after : List Term) → All (λ a. unsigned_abs a ≤ 2048 * 10 ^ 12) coefs → i < length coefs
    → before ≡ nonzero (take i coefs) → after ≡ before → of_z w128 (get_or coefs i (pos 0)) ≡ 0 → after ≡ nonzero (take (i + 1) coefs)
nonzero_no coefs i before after small here so_far step e =
    step ∙ so_far
    ∙ sym (nonzero_more coefs i here ∙ ap (λ b. nonzero (take i coefs) ++ cond b (term i (get_or coefs i (pos 0)) ∷ []) []) (like_zero (get_or coefs i (pos 0)) (small i (pos 0) here) e) ∙ append-nil (nonzero (take i coefs)))

-- the coefficients of all variables below n give the collected terms
each_coef : (n k : ℕ) (terms : List Term) (coefs : List ℤ) (d : Term) → length coefs ≡ n → ((k : ℕ) → k < n → get_or coefs k (pos 0) ≡ coef_at terms k) → k < n
    → get_or (map (λ (p : ℕ × ℤ). term p.0 p.1) (enumerate_from 0 coefs)) k d ≡ term k (coef_at terms k)
each_coef n k terms coefs d long value short =
    let here : k < length coefs = omega arith in
    let there : k < length (enumerate_from 0 coefs) = omega (arith, length-enumerate_from 0 coefs) in
    let same : 0 + k ≡ k = omega arith in
    get_or-map (λ (p : ℕ × ℤ). term p.0 p.1) (enumerate_from 0 coefs) k (0, pos 0) d there
    ∙ ap (λ (p : ℕ × ℤ). term p.0 p.1) (get_or-enumerate_from 0 coefs k (0, pos 0) here)
    ∙ ap (λ j. term j (get_or coefs k (pos 0))) same ∙ ap (term k) (value k short)

pub nonzero_collected : (n : ℕ) (terms : List Term) (coefs : List ℤ) → length coefs ≡ n → ((k : ℕ) → k < n → get_or coefs k (pos 0) ≡ coef_at terms k) → nonzero coefs ≡ collected n terms
nonzero_collected n terms coefs long value =
    ap (filter (λ (t : Term). is_nonzero t.coef))
    (fill_by_all (λ v. term v (coef_at terms v)) (map (λ (p : ℕ × ℤ). term p.0 p.1) (enumerate_from 0 coefs)) n blank
    (length-map (enumerate_from 0 coefs) (λ (p : ℕ × ℤ). term p.0 p.1) ∙ length-enumerate_from 0 coefs ∙ long)
    (λ k short. each_coef n k terms coefs blank long value short))
