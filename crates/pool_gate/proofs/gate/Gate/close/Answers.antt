use Rattle.std.proofs.Common.{ap, ◌∙◌, sym, subst, ◌≤◌, ℕ}
use Rattle.pool_gate.proofs.Steps.{closes_some, closes_with}
use Rattle.pool_gate.proofs.gate.Gate.close.Goals as goal

pub unreachable-requires : goal.unreachable-requires
unreachable-requires g c = let is = ap (λ m. m.0) c.into_inner.ensures.1 in
    closes_some g.V.Held.about g.V.Held.count _ _ _ _ c.take-held.result c.close_with-closed.ensures.values.2 (ap (λ v. v.number) is ∙ c.requires.first) (ap (λ v. v.away) is ∙ c.requires.alone) (ap (λ v. v.in_turn) is ∙ c.requires.free) (λ z. c.into_inner.ensures.2 (sym (ap (λ v. v.about) is) ∙ z)) c.take-held.ensures.value c.in_default.is

pub returns-clause-about : goal.returns-clause-about
returns-clause-about g c = let is = ap (λ m. m.0) c.into_inner.ensures.1 in
    sym (ap (λ v. v.about) is) ∙ (closes_with g.V.Held.about g.V.Held.count _ _ _ _ c.take-held.result c.in-Some.value c.close_with-closed.ensures.values.2 (ap (λ v. v.number) is ∙ c.requires.first) (ap (λ v. v.away) is ∙ c.requires.alone) (ap (λ v. v.in_turn) is ∙ c.requires.free) (λ z. c.into_inner.ensures.2 (sym (ap (λ v. v.about) is) ∙ z)) c.take-held.ensures.value c.in-Some.is).0

pub returns-clause-newer : goal.returns-clause-newer
returns-clause-newer g c = let is = ap (λ m. m.0) c.into_inner.ensures.1 in
    subst (λ (n : ℕ). n ≤ g.V.Held.count c.in-Some.value) (ap (λ v. v.seen) is) (closes_with g.V.Held.about g.V.Held.count _ _ _ _ c.take-held.result c.in-Some.value c.close_with-closed.ensures.values.2 (ap (λ v. v.number) is ∙ c.requires.first) (ap (λ v. v.away) is ∙ c.requires.alone) (ap (λ v. v.in_turn) is ∙ c.requires.free) (λ z. c.into_inner.ensures.2 (sym (ap (λ v. v.about) is) ∙ z)) c.take-held.ensures.value c.in-Some.is).1
