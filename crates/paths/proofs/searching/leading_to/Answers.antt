use Rattle.std.proofs.Common.{◌∙◌, ap, sym, length, ◌&&◌, not, arith}
use Rattle.arch_model.specs.Set.{Set, has, put, union}
use Rattle.arch_model.proofs.Members.{and_left}
use Rattle.paths.proofs.Searches.{ancestors_exact, with_sink, through}
use Rattle.paths.proofs.searching.leading_to.Goals as goal

pub outside-standing-requires-clause-small : goal.outside-standing-requires-clause-small
outside-standing-requires-clause-small c d h =
    let low = with_sink c.args.lib.now c.args.arch.now c.args.failed.now c.requires.architecture c.args.sink.0 c.put.new.self c.union.result c.requires.in_range
    (c.put.ensures ∙ ap (λ s. put s c.args.sink.0) c.new-first.ensures) (c.union.ensures ∙ ap (λ s. union s c.put.new.self) c.comps.ensures) d h in
    omega (arith, low, ap length c.components.ensures.rows)

pub closure-requires : goal.closure-requires
closure-requires c d h =
    let low = with_sink c.args.lib.now c.args.arch.now c.args.failed.now c.requires.architecture c.args.sink.0 c.put.new.self c.union.result c.requires.in_range
    (c.put.ensures ∙ ap (λ s. put s c.args.sink.0) c.new-first.ensures) (c.union.ensures ∙ ap (λ s. union s c.put.new.self) c.comps.ensures) d (and_left (has c.union.result d) (not (has c.args.failed.now d)) (sym (c.outside-standing.ensures d) ∙ h)) in
    omega (arith, low, c.components.ensures.library.few_components)

pub returns : goal.returns
returns c d = through (c.closure.ensures d)
    (ancestors_exact c.args.lib.now c.args.arch.now c.args.failed.now c.requires.architecture c.args.sink.0 c.outside-standing.result c.put.new.self c.args.up.now
    (c.put.ensures ∙ ap (λ s. put s c.args.sink.0) c.new-first.ensures)
    (λ e. c.outside-standing.ensures e ∙ ap (λ (s : Set). has s e && not (has c.args.failed.now e)) (c.union.ensures ∙ ap (λ s. union s c.put.new.self) c.comps.ensures))
    c.requires.rows d)
