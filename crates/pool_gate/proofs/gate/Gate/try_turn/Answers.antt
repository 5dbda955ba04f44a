use Rattle.std.proofs.Common.{rules, ap, ◌∙◌, sym, Some, ◌∷◌}
use Rattle.atomic_table.specs.Table.{rest}
use Rattle.pool_gate.specs.Places.{lent}
use Rattle.pool_gate.proofs.Steps.{tries, won}
use Rattle.pool_gate.proofs.gate.Gate.try_turn.Goals as goal

pub fetch_or-word-requires : goal.fetch_or-word-requires
fetch_or-word-requires g c = let kept = c.seat.invariant in let out = ap (λ p. p.view.in_turn) c.seat.view_is ∙ c.requires.free in
    (search rules, search rules, tries g.V.Held.about g.V.Held.count _ _ _ out (kept.2 ∙ ap lent out) kept.3)

pub exchange-held-requires : goal.exchange-held-requires
exchange-held-requires g c = let w = won g.V.Held.about g.V.Held.count c.seat.inside.inner.me c.fetch_or-word.result c.fetch_or-word.new.seat.me c.fetch_or-word.ensures.2.0 c.if-word-eq1.false in let has = ap (λ m. m.1) w.4 in
    (search rules, (_, has ∙ ap (λ cs. (0, Some w.0) ∷ rest cs) (sym has)))
