use Rattle.std.proofs.Common.{◌∙◌, ap, length, arith}
use Rattle.arch_model.specs.Path.{is_source}
use Rattle.arch_model.proofs.Reaching.{source_below}
use Rattle.paths.proofs.SpreadLaws.{collect_none, collect_more, collect_all, put_when, same_when}
use Rattle.paths.proofs.standing.sources_of.Goals as goal
use Rattle.paths.proofs.standing.sources_of.Goals.{then-is_source, else-is_source}

pub loop-i-init : goal.loop-i-init
loop-i-init c = collect_none (is_source c.args.lib.now) c.new-found.result c.new-found.ensures

pub loop-i-preserved : goal.loop-i-preserved
loop-i-preserved c = collect_more (is_source c.args.lib.now) c.loop-i.found c.if-is_source.found c.loop-i.i c.is_source.result
    c.is_source.ensures c.loop-i.invariant
    (λ d. elim c.if-is_source.branch [
      | then-is_source w ↦ put_when c.loop-i.found c.if-is_source.found _ d _ w.if-is_source.true (w.found-is ∙ w.put.ensures)
      | else-is_source w ↦ same_when c.loop-i.found c.if-is_source.found _ d _ w.if-is_source.false w.found-is
    ])

pub returns : goal.returns
returns c = collect_all (is_source c.args.lib.now) c.loop-i.found c.loop-i.i (length c.args.lib.now.components) (omega (arith, c.loop-i-test.false, ap length c.components.ensures.rows)) (source_below c.args.lib.now) c.loop-i.invariant
