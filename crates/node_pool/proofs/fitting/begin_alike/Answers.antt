use Rattle.std.proofs.Common.{◌≡◌, true, false, [], ◌∷◌, ◌++◌, take, sym, ap, ◌∙◌}
use Rattle.node_pool.proofs.CutFronts.{same_at, take_next}
use Rattle.node_pool.proofs.fitting.begin_alike.Goals as goal

pub returns-then-not-are_same : goal.returns-then-not-are_same
returns-then-not-are_same c = (
  λ t. absurd (let f : false ≡ true = t in cc),
  λ alike. absurd (let f : false ≡ true = sym c.if-not-are_same.true ∙ c.are_same.ensures.1 (same_at c.args.some.now.cuts c.args.others.now.cuts c.args.count c.loop-i.i _ _ c.loop-i-test.true c.get.ensures c.get-in-loop-i.ensures alike.alike) in cc),
)

pub loop-i-preserved : goal.loop-i-preserved
loop-i-preserved c =
    let same = c.are_same.ensures.0 c.if-not-are_same.false in
    take_next c.args.some.now.cuts c.loop-i.i c.get.result c.get.ensures
    ∙ ap (λ cuts. cuts ++ c.get.result ∷ []) c.loop-i.invariant ∙ ap (λ cut. take c.loop-i.i c.args.others.now.cuts ++ cut ∷ []) same
    ∙ sym (take_next c.args.others.now.cuts c.loop-i.i c.get-in-loop-i.result c.get-in-loop-i.ensures)
