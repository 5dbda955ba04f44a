use Rattle.std.proofs.Common.{ap, ◌∙◌}
use Rattle.std.proofs.lemmas.Result.{on_ok_weaker}
use Rattle.binary_program.specs.Inner.Terms.{numbers_of}
use Rattle.binary_program.proofs.BuildPatternRows.{implies_is}
use Rattle.binary_program.proofs.condition_rows.push_implies_rows.Goals as goal

pub returns : goal.returns
returns c =
    on_ok_weaker c.push_some_where_each.result
    (implies_is c.args.lib.now c.args.a c.args.b (numbers_of c.deref.result.now) (numbers_of c.deref-2.result.now) c.args.rows.now.items c.push_some_where_each.new.rows.items
    (ap numbers_of c.deref.ensures.value ∙ c.in_ok-needed.ensures.value) (ap numbers_of c.deref-2.ensures.value ∙ c.in_ok-needing.ensures.value))
    c.push_some_where_each.ensures
