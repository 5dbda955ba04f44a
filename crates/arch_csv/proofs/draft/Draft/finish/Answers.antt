use Rattle.std.proofs.Common.{ℕ, ◌<◌, length, sym, ap, subst, ◌∙◌, arith, Ok}
use Rattle.std.specs.List.{All}
use Rattle.arch_model.specs.declared.sets.EdgeId.{EdgeId}
use Rattle.arch_csv.proofs.DraftLemmas.{draft_edges, end_missing, ends_there, file_empty}
use Rattle.arch_csv.proofs.ReadFits.{records_fit}
use Rattle.arch_csv.proofs.draft.Draft.finish.Goals as goal

pub returns-then-self-eq0-clause-err : goal.returns-then-self-eq0-clause-err
returns-then-self-eq0-clause-err c = rw c.at.ensures (λ rows h. file_empty c.args.lib.now rows c.args.self h c.if-self-eq0.true)

pub has_ends-requires : goal.has_ends-requires
has_ends-requires c =
    let all = draft_edges c.args.lib.now c.requires.0 c.args.self c.requires.1 in
    subst (λ items. All (λ (p : ℕ × EdgeId). p.1.0 < length c.args.lib.now.edges) items) (sym c.deref-place-items.ensures.value) all
    c.loop-place.place-index (0, record { 0 = 0 }) c.loop-place-test.true

pub returns-then-not-has_ends-clause-err : goal.returns-then-not-has_ends-clause-err
returns-then-not-has_ends-clause-err c = rw c.at-then-not-has_ends.ensures (λ rows h.
    end_missing c.args.lib.now rows c.args.self c.deref-place-items.result.now c.loop-place.place-index (0, record { 0 = 0 }) c.deref-place-items.ensures.value h (omega (arith, c.if-self-eq0.false)) c.loop-place-test.true
    c.loop-place.invariant (sym c.if-not-has_ends.ensures))

pub returns-clause-ok : goal.returns-clause-ok
returns-clause-ok c = λ rows h.
    ends_there c.args.lib.now rows c.args.self c.deref-place-items.result.now c.loop-place.place-index c.deref-place-items.ensures.value h (omega (arith, c.if-self-eq0.false)) c.loop-place-test.false c.loop-place.invariant
    ∙ ap Ok (sym c.new.ensures)

pub returns-clause-fits : goal.returns-clause-fits
returns-clause-fits c =
    let is = ends_there c.args.lib.now c.requires.0 c.args.self c.deref-place-items.result.now c.loop-place.place-index c.deref-place-items.ensures.value c.requires.1 (omega (arith, c.if-self-eq0.false)) c.loop-place-test.false c.loop-place.invariant in
    records_fit c.args.lib.now c.requires.0 c.new.result (is ∙ ap Ok (sym c.new.ensures))
