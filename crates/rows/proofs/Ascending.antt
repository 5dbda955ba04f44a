-- The terms of collected rows and of cuts ascend.
use Rattle.std.proofs.Common.{ℕ, ◌+◌, ◌<◌, ℤ, Bool, List, map, filter, sym, ap, subst, arith}
use Rattle.std.specs.List.{range_with_len}
use Rattle.std.specs.List.Sorted.{IsStrictlyIncreasing}
use Rattle.std.proofs.lemmas.List.FromFn.{length-range_with_len, get_or-range_with_len}
use Rattle.std.proofs.lemmas.List.Kept.{IsStrictlyIncreasing-filter}
use Rattle.arch_model.specs.Set.{has, union, members_below}
use Rattle.arch_model.specs.declared.limits.TheConstants.{MEMBERS}
use Rattle.rows.specs.declared.row.Term.{Term}
use Rattle.rows.specs.Parts.{CutParts}
use Rattle.rows.specs.Row.{cut_coef, row_of_cut, coef_at, is_nonzero, collected}
use Rattle.rows.proofs.WhatIsForced.{own_var, chosen_terms, collected_is}

range_rises : (n : ℕ) → IsStrictlyIncreasing (range_with_len 0 n)
range_rises n k short =
    let after : k + 1 < n = omega (arith, short, length-range_with_len 0 n) in
    let here : k < n = omega arith in
    omega (arith, get_or-range_with_len 0 n k 0 here, get_or-range_with_len 0 n (k + 1) 0 after)

chosen_ascend : (q : ℕ → Bool) (coef : ℕ → ℤ) (n : ℕ) → IsStrictlyIncreasing (map (λ t. t.var.0) (chosen_terms q coef 0 n))
chosen_ascend q coef n =
    subst IsStrictlyIncreasing (sym (own_var coef (filter q (range_with_len 0 n)))) (IsStrictlyIncreasing-filter q (range_with_len 0 n) (range_rises n))

pub collected_ascend : (n : ℕ) (terms : List Term) → IsStrictlyIncreasing (map (λ t. t.var.0) (collected n terms))
collected_ascend n terms =
    let q : ℕ → Bool = λ v. is_nonzero (coef_at terms v) in
    subst IsStrictlyIncreasing (sym (ap (map (λ (t : Term). t.var.0)) (collected_is n terms))) (chosen_ascend q (coef_at terms) n)

pub cut_ascends : (cut : CutParts) → IsStrictlyIncreasing (map (λ t. t.var.0) (row_of_cut cut).terms)
unfolding members_below
cut_ascends cut = chosen_ascend (has (union cut.plus cut.minus)) (cut_coef cut) MEMBERS
