use Rattle.std.proofs.Common.{ℕ, ◌<◌, length, ap, subst, sym, ◌∙◌}
use Rattle.redundancy_cut.proofs.RightTests.{heavy_decides}
use Rattle.redundancy_cut.proofs.right.is_right_redundancy.Goals as goal

pub returns : goal.returns
returns c = heavy_decides c.args.lib.now c.variable_count.ensures.library c.args.r.now c.args.set.now c.args.far.now c.product_of.result c.is_above.result
    (λ v h. subst (λ (n : ℕ). v < n) c.variable_count.ensures.count (c.is_below.ensures.0 c.if-not-is_below.false v h))
    (λ d h. subst (λ (n : ℕ). d < n) (ap length c.components.ensures.rows) (c.is_below-2.ensures.0 c.if-not-is_below-2.false d h))
    (c.are_apart.ensures.0 c.if-not-are_apart.false) (sym c.has.ensures.member ∙ c.if-has.false) c.product_of.ensures c.is_above.ensures
