use Rattle.std.proofs.Common.{◌≡◌, ◌∙◌, ℕ, ◌++◌, ◌∷◌, [], length, List, length-append, sym, ap, subst, false, true, arith, ℤ}
use Rattle.std.specs.Prelude.{IsTrue}
use Rattle.std.specs.List.{All}
use Rattle.std.proofs.lemmas.List.Elements.{All-push}
use Rattle.arch_model.specs.Set.{has, empty}
use Rattle.arch_model.proofs.SetLaws.{has-empty}
use Rattle.rows.specs.Parts.{CutParts}
use Rattle.rows.specs.Cut.{empty_cut}
use Rattle.rows.specs.Known.{IsCutBelow}
use Rattle.row_bounds.proofs.tests.broken_cuts.Goals as goal

nothing_in : (v : ℕ) → IsTrue (has empty v) → ⊥
nothing_in v h = let e : has empty v ≡ true = h in let f : false ≡ true = sym (has-empty v) ∙ e in cc

blank_below : (n : ℕ) (least : ℤ) (cut : CutParts) → cut ≡ empty_cut least → IsCutBelow n cut
blank_below n least cut e =
    let P : CutParts → Type 0 = IsCutBelow n in
    subst P (sym e) (record { plus = λ v h. absurd (nothing_in v h); minus = λ v h. absurd (nothing_in v h) })

pub loop-preserved : goal.loop-preserved
loop-preserved c =
    let e : c.push.new.self.cuts ≡ c.loop.cuts.cuts ++ c.new.result ∷ [] = c.in_ok-push.ensures.ok in
    record {
      long = omega (arith, ap length e, length-append c.loop.cuts.cuts (c.new.result ∷ []), c.loop.invariant.long);
      below = λ n.
          let P : List CutParts → Type 0 = All (IsCutBelow n) in
          subst P (sym e) (All-push (IsCutBelow n) c.loop.cuts.cuts c.new.result (c.loop.invariant.below n) (blank_below n _ c.new.result c.new.ensures));
    }
