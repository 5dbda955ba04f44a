-- Steps of the loops that make rows: one more member that passes the test, or doesn't.
use Rattle.std.proofs.Common.{◌≡◌, ℕ, ◌+◌, ℤ, pos, negsuc, Bool, true, false, IsTrue, cond, not, ◌&&◌, List, [], ◌∷◌, ◌++◌, fold, filter, length, refl, sym, ap, ◌∙◌, arith, add-one, length-append, inl, inr, if◌then◌else◌}
use Rattle.std.specs.List.{range_with_len}
use Rattle.std.proofs.lemmas.List.Elements.{filter-append}
use Rattle.std.proofs.lemmas.List.Sums.{fold_push}
use Rattle.arch_model.specs.Set.{Set, has, empty, put}
use Rattle.arch_model.specs.Member.{is_in}
use Rattle.arch_model.proofs.Members.{and_right, bool_cases, false_if, is_in-filter}
use Rattle.rows.specs.Parts.{CutParts}
use Rattle.rows.proofs.IntSums.{range_more}
use Rattle.rows.specs.Row.{cut_coef}
use Rattle.rows.specs.Cut.{empty_cut, cut_put}
use Rattle.redundancy_cut.specs.CutRow.{set_of_numbers, one_of}
use Rattle.redundancy_cut.proofs.NumberSets.{has-set_of_numbers, in_range}

-- the numbers below i that pass a test
abbrev pub passing : (ℕ → Bool) → ℕ → List ℕ
passing p i = filter p (range_with_len 0 i)

pub passing_more : (p : ℕ → Bool) (i : ℕ) → passing p (i + 1) ≡ passing p i ++ cond (p i) (i ∷ []) []
passing_more p i =
    ap (λ n. filter p (range_with_len 0 n)) (add-one i) ∙ ap (filter p) (range_more 0 i i (omega arith)) ∙ filter-append p (range_with_len 0 i) (i ∷ [])

append_none : (xs : List ℕ) → xs ++ [] ≡ xs
append_none [] = refl
append_none (x ∷ xs) = ap (λ l. x ∷ l) (append_none xs)

pub passing_yes : (p : ℕ → Bool) (i : ℕ) → p i ≡ true → passing p (i + 1) ≡ passing p i ++ i ∷ []
passing_yes p i h = passing_more p i ∙ ap (λ b. passing p i ++ cond b (i ∷ []) []) h

pub passing_no : (p : ℕ → Bool) (i : ℕ) → p i ≡ false → passing p (i + 1) ≡ passing p i
passing_no p i h = passing_more p i ∙ ap (λ b. passing p i ++ cond b (i ∷ []) []) h ∙ append_none (passing p i)

-- as sets
abbrev pub passed : (ℕ → Bool) → ℕ → Set
passed p i = set_of_numbers (passing p i)

pub passed_none : (p : ℕ → Bool) → passed p 0 ≡ empty
unfolding set_of_numbers
passed_none p = refl

pub passed_yes : (p : ℕ → Bool) (i : ℕ) → p i ≡ true → passed p (i + 1) ≡ put (passed p i) i
unfolding set_of_numbers
passed_yes p i h = ap (λ l. fold put empty l) (passing_yes p i h) ∙ fold_push put empty (passing p i) i

pub passed_no : (p : ℕ → Bool) (i : ℕ) → p i ≡ false → passed p (i + 1) ≡ passed p i
passed_no p i h = ap set_of_numbers (passing_no p i h)

-- the next number isn't there yet
pub not_yet : (p : ℕ → Bool) (i : ℕ) → has (passed p i) i ≡ false
not_yet p i = false_if (has (passed p i) i) (λ h.
    let short = in_range 0 i i (and_right (p i) (is_in (range_with_len 0 i) i) (sym (has-set_of_numbers (passing p i) i ∙ is_in-filter p (range_with_len 0 i) i) ∙ h)) in omega (arith, short))

-- the row so far
abbrev pub row_so_far : (ℕ → Bool) → (ℕ → Bool) → ℤ → ℕ → CutParts
row_so_far p q least i = record { plus = passed p i; minus = passed q i; least = least }

pub row_none : (p q : ℕ → Bool) (least : ℤ) (row : CutParts) → row ≡ empty_cut least → row ≡ row_so_far p q least 0
row_none p q least row e = e ∙ (λ i. record { plus = sym (passed_none p) i; minus = sym (passed_none q) i; least = least })

coef_by : (a b : Bool) → a ≡ false → b ≡ false → (if a then pos 1 else (if b then negsuc 0 else pos 0)) ≡ pos 0
coef_by a b e f = ap (λ c. if c then pos 1 else (if b then negsuc 0 else pos 0)) e ∙ ap (λ c. if c then negsuc 0 else pos 0) f

pub row_free : (p q : ℕ → Bool) (least : ℤ) (i : ℕ) (row : CutParts) → row ≡ row_so_far p q least i → cut_coef row i ≡ pos 0
row_free p q least i row e = ap (λ r. cut_coef r i) e ∙ coef_by (has (passed p i) i) (has (passed q i) i) (not_yet p i) (not_yet q i)

pub row_plus : (p q : ℕ → Bool) (least : ℤ) (i : ℕ) (row after : CutParts) → row ≡ row_so_far p q least i → p i ≡ true → q i ≡ false → after ≡ cut_put row i true → after ≡ row_so_far p q least (i + 1)
row_plus p q least i row after e yes_p no_q step =
    step ∙ ap (λ r. cut_put r i true) e ∙ (λ j. record { plus = sym (passed_yes p i yes_p) j; minus = sym (passed_no q i no_q) j; least = least })

pub row_minus : (p q : ℕ → Bool) (least : ℤ) (i : ℕ) (row after : CutParts) → row ≡ row_so_far p q least i → p i ≡ false → q i ≡ true → after ≡ cut_put row i false → after ≡ row_so_far p q least (i + 1)
row_minus p q least i row after e no_p yes_q step =
    step ∙ ap (λ r. cut_put r i false) e ∙ (λ j. record { plus = sym (passed_no p i no_p) j; minus = sym (passed_yes q i yes_q) j; least = least })

pub row_same : (p q : ℕ → Bool) (least : ℤ) (i : ℕ) (row after : CutParts) → row ≡ row_so_far p q least i → p i ≡ false → q i ≡ false → after ≡ row → after ≡ row_so_far p q least (i + 1)
row_same p q least i row after e no_p no_q step =
    step ∙ e ∙ (λ j. record { plus = sym (passed_no p i no_p) j; minus = sym (passed_no q i no_q) j; least = least })

-- a row in which each member that passes has one of two signs, by a second test
row_either : (f g : ℕ → Bool) (least : ℤ) (i : ℕ) (row after : CutParts) → row ≡ row_so_far (λ v. f v && not (g v)) (λ v. f v && g v) least i → f i ≡ true → after ≡ cut_put row i (not (g i))
    → after ≡ row_so_far (λ v. f v && not (g v)) (λ v. f v && g v) least (i + 1)
row_either f g least i row after e yes_f step = elim (bool_cases (g i)) [
  | inl here ↦ row_minus (λ v. f v && not (g v)) (λ v. f v && g v) least i row after e (ap (λ c. f i && not c) here ∙ ap (λ c. c && false) yes_f) (ap (λ c. f i && c) here ∙ ap (λ c. c && true) yes_f) (step ∙ ap (λ c. cut_put row i (not c)) here)
  | inr gone ↦ row_plus (λ v. f v && not (g v)) (λ v. f v && g v) least i row after e (ap (λ c. f i && not c) gone ∙ ap (λ c. c && true) yes_f) (ap (λ c. f i && c) gone ∙ ap (λ c. c && false) yes_f) (step ∙ ap (λ c. cut_put row i (not c)) gone)
]

row_neither : (f g : ℕ → Bool) (least : ℤ) (i : ℕ) (row after : CutParts) → row ≡ row_so_far (λ v. f v && not (g v)) (λ v. f v && g v) least i → f i ≡ false → after ≡ row
    → after ≡ row_so_far (λ v. f v && not (g v)) (λ v. f v && g v) least (i + 1)
row_neither f g least i row after e no_f step = row_same (λ v. f v && not (g v)) (λ v. f v && g v) least i row after e (ap (λ c. c && not (g i)) no_f) (ap (λ c. c && g i) no_f) step

-- one more member, by what the step makes of one that passes the first test and of one that doesn't
pub row_step : (f g : ℕ → Bool) (least : ℤ) (i : ℕ) (row after : CutParts) → row ≡ row_so_far (λ v. f v && not (g v)) (λ v. f v && g v) least i
    → (IsTrue (f i) → after ≡ cut_put row i (not (g i))) → (f i ≡ false → after ≡ row)
    → after ≡ row_so_far (λ v. f v && not (g v)) (λ v. f v && g v) least (i + 1)
row_step f g least i row after e fed other = elim (bool_cases (f i)) [
  | inl here ↦ row_either f g least i row after e here (fed here)
  | inr gone ↦ row_neither f g least i row after e gone (other gone)
]

-- a row of one sign at its end
pass_none : (xs : List ℕ) → filter (λ _. false) xs ≡ []
pass_none [] = refl
pass_none (x ∷ xs) = pass_none xs

none_passed : (i : ℕ) → passed (λ _. false) i ≡ empty
unfolding set_of_numbers
none_passed i = ap (λ l. fold put empty l) (pass_none (range_with_len 0 i))

pub one_done : (p : ℕ → Bool) (i n : ℕ) (row : CutParts) → row ≡ row_so_far p (λ _. false) (pos 1) i → i ≡ n → row ≡ one_of (passing p n)
one_done p i n row e same = e ∙ (λ j. record { plus = passed p (same j); minus = none_passed i j; least = pos 1 })

-- counts
pub count_yes : (p : ℕ → Bool) (i count after : ℕ) → count ≡ length (passing p i) → p i ≡ true → after ≡ count + 1 → after ≡ length (passing p (i + 1))
count_yes p i count after e h step = step ∙ ap (λ n. n + 1) e ∙ sym (ap length (passing_yes p i h) ∙ length-append (passing p i) (i ∷ []))

pub count_no : (p : ℕ → Bool) (i count after : ℕ) → count ≡ length (passing p i) → p i ≡ false → after ≡ count → after ≡ length (passing p (i + 1))
count_no p i count after e h step = step ∙ e ∙ sym (ap length (passing_no p i h))
