use Rattle.std.proofs.Common.{rules, ap, ◌∙◌, sym}
use Rattle.pool_gate.specs.Views.{first_of_numbers}
use Rattle.pool_gate.proofs.Lists.{greatest}
use Rattle.pool_gate.proofs.Steps.{splits}
use Rattle.pool_gate.proofs.gate.Gate.split.Goals as goal

pub split_seat-inner-requires : goal.split_seat-inner-requires
split_seat-inner-requires g c = let is = ap (λ p. p.view) c.seat.view_is in
    (search rules, search rules, splits g.V.Held.about g.V.Held.count _ _ (ap (λ v. v.in_turn) is ∙ c.requires.free) c.seat.invariant.3 (λ z. c.requires.spare (sym (ap (λ v. v.spare) is) ∙ z)))

pub returns-clause-spare : goal.returns-clause-spare
returns-clause-spare g c = let is = ap (λ p. p.view.spare) c.seat.view_is in
    (greatest c.seat.inside.spare _ _ (sym is ∙ c.seat.invariant.1) c.requires.spare (ap (λ m. m.0.number) c.split_seat-inner.ensures.4 ∙ ap first_of_numbers is)).0

pub returns-clause-greatest : goal.returns-clause-greatest
returns-clause-greatest g c = let is = ap (λ p. p.view.spare) c.seat.view_is in
    (greatest c.seat.inside.spare _ _ (sym is ∙ c.seat.invariant.1) c.requires.spare (ap (λ m. m.0.number) c.split_seat-inner.ensures.4 ∙ ap first_of_numbers is)).1
