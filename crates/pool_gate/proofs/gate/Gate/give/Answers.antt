use Rattle.std.proofs.Common.{rules, ap, ◌∙◌, sym, subst, ◌≡◌, ◌+◌, ◌⊎◌, ℕ, Some, ◌∷◌, refl}
use Rattle.atomic_table.specs.Table.{rest}
use Rattle.pool_gate.specs.Places.{lent}
use Rattle.pool_gate.specs.Views.{given}
use Rattle.pool_gate.proofs.Steps.{gives_back}
use Rattle.pool_gate.proofs.gate.Gate.give.Goals as goal

pub swap-requires : goal.swap-requires
swap-requires g c = let put = c.exchange-held.ensures.3 in let same = ap (λ m. m.0) put ∙ ap (λ p. p.view) c.seat.view_is in let busy = ap (λ p. p.view.in_turn) c.seat.view_is ∙ c.requires.in_turn in
    let count : ℕ = g.V.Held.count c.args.turn.value in (
      search rules,
      search rules,
      gives_back g.V.Held.about g.V.Held.count _ _ _ _ c.args.turn.value (ap (λ v. v.in_turn) same ∙ c.requires.in_turn)
          (ap (λ m. m.1) put ∙ ap (λ cs. (0, Some c.args.turn.value) ∷ rest cs) (c.seat.invariant.2 ∙ ap lent busy)) (ap (λ v. v.about) same ∙ c.requires.about) c.count-half.ensures.exact
          (subst (λ (n : ℕ). (count ≡ n) ⊎ (count ≡ n + 1)) (sym (ap (λ v. v.seen) same)) c.requires.count),
    )

pub invariant_of-seat : goal.invariant_of-seat
invariant_of-seat g c = let put = c.exchange-held.ensures.3 in let now = c.swap.ensures.2 c.count-half.result refl in let was = c.seat.invariant in (
  ap (λ m. m.0.number) now ∙ (ap (λ m. m.0.number) put ∙ was.0),
  ap (λ m. m.0.spare) now ∙ (ap (λ m. m.0.spare) put ∙ was.1),
  ap (λ m. m.1) now ∙ ap lent (sym (ap (λ m. m.0.in_turn) now)),
  λ z. was.3 (sym (ap (λ m. m.0.about) put) ∙ (sym (ap (λ m. m.0.about) now) ∙ z)),
)

pub returns-clause-seat : goal.returns-clause-seat
returns-clause-seat g c = let put = c.exchange-held.ensures.3 in let now = c.swap.ensures.2 c.count-half.result refl in let same = ap (λ m. m.0) put ∙ ap (λ p. p.view) c.seat.view_is in
    ap (λ m. m.0) now ∙ (λ k. given (same k) (c.count-half.ensures.exact k))
