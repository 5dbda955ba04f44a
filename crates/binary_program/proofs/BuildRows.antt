-- Collected terms make a row.
use Rattle.std.proofs.Common.{◌≡◌, ◌≢◌, ℕ, zero, suc, ◌*◌, ◌^◌, ◌≤◌, ◌<◌, ℤ, pos, negsuc, unsigned_abs, true, false, List, map, length, get_or, to_z, of_z, sym, ap, subst, ◌∙◌, arith}
use Rattle.std.specs.Int.{w128}
use Rattle.std.specs.List.{All, enumerate_from, range_with_len}
use Rattle.std.proofs.lemmas.List.Elements.{All-map, All-filter, All-weaker, All-from_get_or, filter_passes}
use Rattle.std.proofs.lemmas.List.FromFn.{length-enumerate_from, get_or-enumerate_from}
use Rattle.rows.specs.declared.row.Term.{Term}
use Rattle.rows.specs.Row.{IsRow, IsSized, row_of, row_parts, term, coef_at, is_nonzero, collected}
use Rattle.rows.proofs.Activities.{plain}
use Rattle.rows.proofs.Ascending.{collected_ascend}
use Rattle.binary_program.proofs.BuildSums.{nonzero, nonzero_collected}

-- none is 0
not_zero : (a : ℤ) → is_nonzero a ≡ true → a ≢ pos 0
not_zero (pos zero) h e = let f : false ≡ true = h in cc
not_zero (pos (suc n)) h e = cc
not_zero (negsuc n) h e = cc

none_zero : (n : ℕ) (terms : List Term) → All (λ t. t.coef ≢ pos 0) (collected n terms)
none_zero n terms =
    All-weaker (λ t. is_nonzero t.coef ≡ true) (λ t. t.coef ≢ pos 0) (λ t h. not_zero t.coef h) (collected n terms)
    (filter_passes (λ (t : Term). is_nonzero t.coef) (map (λ v. term v (coef_at terms v)) (range_with_len 0 n)))

-- the terms of small coefficients are sized
numbered_small : (coefs : List ℤ) → All (λ a. unsigned_abs a ≤ 2048 * 10 ^ 12) coefs → All (λ p. IsSized p.1) (enumerate_from 0 coefs)
numbered_small coefs small = All-from_get_or (λ p. IsSized p.1) (enumerate_from 0 coefs) (0, pos 0) (λ i short.
    let here : i < length coefs = omega (arith, short, length-enumerate_from 0 coefs) in
    let size = small i (pos 0) here in
    rw (get_or-enumerate_from 0 coefs i (0, pos 0) here) (omega (arith, size)))

nonzero_sized : (coefs : List ℤ) → All (λ a. unsigned_abs a ≤ 2048 * 10 ^ 12) coefs → All (λ t. IsSized t.coef) (nonzero coefs)
nonzero_sized coefs small =
    All-filter (λ t. is_nonzero t.coef) (λ t. IsSized t.coef) (map (λ (p : ℕ × ℤ). term p.0 p.1) (enumerate_from 0 coefs))
    (All-map (λ t. IsSized t.coef) (λ (p : ℕ × ℤ). term p.0 p.1) (enumerate_from 0 coefs) (numbered_small coefs small))

-- the terms that the coefficients of all variables give, with a least, are a row: that of the terms
module _ (n : ℕ) (terms : List Term) (coefs lent : List ℤ) (items : List Term) (least : ℤ)
    (long : length coefs ≡ n) (value : (k : ℕ) → k < n → get_or coefs k (pos 0) ≡ coef_at terms k) (small : All (λ a. unsigned_abs a ≤ 2048 * 10 ^ 12) coefs)
    (same : lent ≡ coefs) (made : items ≡ nonzero lent) (sized : IsSized least) where
  items_are : items ≡ collected n terms
  items_are = made ∙ ap nonzero same ∙ nonzero_collected n terms coefs long value

  pub made_row : row_parts items (to_z w128 (of_z w128 least)) ≡ row_of n terms least
  made_row = ap (λ l. row_parts l (to_z w128 (of_z w128 least))) items_are ∙ ap (row_parts (collected n terms)) (plain least sized)

  pub is_row : IsRow (row_parts items (to_z w128 (of_z w128 least)))
  is_row = subst IsRow (sym made_row) (record {
    ascending = collected_ascend n terms;
    nonzero = none_zero n terms;
    sized = subst (All (λ (t : Term). IsSized t.coef)) (nonzero_collected n terms coefs long value) (nonzero_sized coefs small);
    least = sized;
  })
