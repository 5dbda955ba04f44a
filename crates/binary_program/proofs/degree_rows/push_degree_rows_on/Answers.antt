use Rattle.std.proofs.Common.{ap, ◌∙◌}
use Rattle.std.proofs.lemmas.Result.{on_ok_weaker}
use Rattle.binary_program.specs.Inner.Terms.{numbers_of}
use Rattle.binary_program.specs.Inner.Asked.{variables_on}
use Rattle.binary_program.proofs.BuildPatternRows.{edges_on_side, degree_is}
use Rattle.binary_program.proofs.degree_rows.push_degree_rows_on.Goals as goal

pub returns : goal.returns
returns c =
    on_ok_weaker c.push_degree_rows.result
    (degree_is c.args.lib.now c.args.i.0 c.args.min c.args.max (numbers_of c.deref.result.now) (variables_on c.args.side c.args.lib.now c.args.other c.args.i.0) c.args.rows.now.items c.push_degree_rows.new.rows.items
    (ap numbers_of c.deref.ensures.value ∙ c.in_ok-vars.ensures.value ∙ edges_on_side c.args.lib.now c.args.side c.args.i c.args.other c.edges.result c.edges.ensures))
    c.push_degree_rows.ensures
