use Rattle.std.proofs.Common.{sym, subst}
use Rattle.std.proofs.lemmas.List.{take_all}
use Rattle.std.proofs.lemmas.List.Elements.{All-more, All-same}
use Rattle.rows.specs.Parts.{RowParts}
use Rattle.rows.specs.Row.{IsRow}
use Rattle.rows.proofs.problem.are_rows.Goals as goal

pub loop-row-preserved : goal.loop-row-preserved
loop-row-preserved c =
    let P : RowParts → Type 0 = IsRow in
    All-more IsRow c.args.rows.now c.loop-row.row-index c.row-item.result c.loop-row-test.true c.loop-row.invariant (subst P c.row-item.is c.least-least.ensures.row)

pub returns : goal.returns
returns c = All-same IsRow c.args.rows.now _ (sym (take_all c.loop-row.row-index c.args.rows.now c.loop-row-test.false)) c.loop-row.invariant
