-- What keeps the promise of propagation, and that two answers that keep it agree.
use Rattle.std.proofs.Common.{◌≡◌, ℕ, ◌<◌, Bool, true, false, not, List, Option, Some, None, IfSome, IsTrue, is_some, refl, sym, ap, subst, ◌∙◌}
use Rattle.arch_model.specs.Set.{has}
use Rattle.rows.specs.declared.known.RowRef.{RowRef}
use Rattle.rows.specs.Parts.{RowParts, CubeParts, KnownParts}
use Rattle.rows.specs.Row.{RowHolds}
use Rattle.rows.specs.Cube.{IsCube, IsCubeBelow, IsFull, LiesIn}
use Rattle.rows.specs.Activity.{IsRefuted}
use Rattle.rows.specs.Known.{row_at, variables, IsQuiet}
use Rattle.rows.specs.Trace.{cube_after}
use Rattle.rows.proofs.CubeLaws.{holds_nowhere}
use Rattle.rows.proofs.TraceLaws.{known_has, trace_keeps_vectors}
use Rattle.propagate.specs.declared.closed.Closed.{Closed}
use Rattle.propagate.specs.declared.closed.Closed.TheVariants.{Quiet, Full, Refuted}
use Rattle.propagate.specs.Closed.{closed_cube, closed_trace, IsOpen, IsRefutedBy, IsClosed, MeetsKnown, NoneIsLeft, Closes, Agree}
use Rattle.propagate.proofs.OneClosure.{one_end, none_refuted}

-- a row that is refuted by its name
refuted_row : {X : Type 0} (known : KnownParts) (cube : CubeParts) (r : RowRef) (o : Option RowParts) → row_at known r ≡ o → is_some o ≡ true → IfSome o (λ row. IsRefuted row cube) → ((row : RowParts) → row_at known r ≡ Some row → IsRefuted row cube → X) → X
refuted_row known cube r (Some row) is there refuted use' = use' row is refuted
refuted_row known cube r None is there refuted use' = absurd (let e : false ≡ true = there in cc)

pub none_meets : (known : KnownParts) (cube : CubeParts) (r : RowRef) (x : ℕ → Bool) → IsRefutedBy known cube r → LiesIn x cube → MeetsKnown known x → ⊥
none_meets known cube r x refuted lies holds =
    refuted_row known cube r (row_at known r) refl refuted.0 refuted.1
    (λ row there is. holds_nowhere row cube x lies (known_has (λ row. RowHolds row x) known r row holds there) is)

-- the promise from its parts
module _ (known : KnownParts) (cube inner : CubeParts) (trace : List RowRef) (k : IsCube cube) (reached : cube_after known cube trace ≡ Some inner) (below : IsCubeBelow (variables known) inner) where
  stays : (x : ℕ → Bool) → LiesIn x cube → MeetsKnown known x → LiesIn x inner
  stays x lies holds = trace_keeps_vectors known x holds trace cube inner reached k.within lies

  pub closes_by : (closed : Closed) → closed_cube closed ≡ inner → closed_trace closed ≡ trace → IsClosed known closed → NoneIsLeft known cube closed → Closes known cube closed
  closes_by closed is by answer left = record {
    trace = ap (cube_after known cube) by ∙ reached ∙ ap Some (sym is);
    below = let B : CubeParts → Type 0 = IsCubeBelow (variables known) in subst B (sym is) below;
    answer = answer;
    kept = λ x lies holds. let L : CubeParts → Type 0 = LiesIn x in subst L (sym is) (stays x lies holds);
    none_left = left;
  }

  pub closes_refuted : (r : RowRef) → IsRefutedBy known inner r → Closes known cube (Refuted inner trace r)
  closes_refuted r refuted = closes_by (Refuted inner trace r) refl refl refuted (λ x lies holds. none_meets known inner r x refuted (stays x lies holds) holds)

-- something is free, or nothing is
not_both : (known : KnownParts) (a b : CubeParts) → a ≡ b → IsOpen known a → IsFull (variables known) b → ⊥
not_both known a b same some full =
    let off : not (has b.fixed some.0) ≡ true = ap (λ (c : CubeParts). not (has c.fixed some.0)) (sym same) ∙ some.2 in
    let e : false ≡ true = sym (ap not (full some.0 some.1)) ∙ off in
    cc

not_refuted : (known : KnownParts) (cube a b : CubeParts) (first second : List RowRef) (r : RowRef) → IsCube cube → cube_after known cube first ≡ Some a → cube_after known cube second ≡ Some b → IsQuiet known a → IsRefutedBy known b r → ⊥
not_refuted known cube a b first second r k to_a to_b quiet refuted =
    refuted_row known b r (row_at known r) refl refuted.0 refuted.1 (λ row there is. none_refuted known cube k first second a b to_a to_b quiet r row there is)

pub answers_agree : (known : KnownParts) (cube : CubeParts) (a b : Closed) → IsCube cube → Closes known cube a → Closes known cube b → Agree a b
answers_agree known cube (Quiet a t) (Quiet b u) k h g = one_end known cube a b t u k h.trace g.trace h.answer.0 g.answer.0
answers_agree known cube (Quiet a t) (Full b u) k h g = not_both known a b (one_end known cube a b t u k h.trace g.trace h.answer.0 g.answer.0) h.answer.1 g.answer.1
answers_agree known cube (Quiet a t) (Refuted b u r) k h g = not_refuted known cube a b t u r k h.trace g.trace h.answer.0 g.answer
answers_agree known cube (Full a t) (Quiet b u) k h g = not_both known b a (one_end known cube b a u t k g.trace h.trace g.answer.0 h.answer.0) g.answer.1 h.answer.1
answers_agree known cube (Full a t) (Full b u) k h g = one_end known cube a b t u k h.trace g.trace h.answer.0 g.answer.0
answers_agree known cube (Full a t) (Refuted b u r) k h g = not_refuted known cube a b t u r k h.trace g.trace h.answer.0 g.answer
answers_agree known cube (Refuted a t q) (Quiet b u) k h g = not_refuted known cube b a u t q k g.trace h.trace g.answer.0 h.answer
answers_agree known cube (Refuted a t q) (Full b u) k h g = not_refuted known cube b a u t q k g.trace h.trace g.answer.0 h.answer
answers_agree known cube (Refuted a t q) (Refuted b u r) k h g = tt
