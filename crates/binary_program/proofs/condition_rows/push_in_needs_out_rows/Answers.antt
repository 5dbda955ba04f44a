use Rattle.std.proofs.Common.{ap, ◌∙◌}
use Rattle.std.proofs.lemmas.Result.{on_ok_weaker}
use Rattle.binary_program.specs.Inner.Terms.{numbers_of}
use Rattle.binary_program.proofs.BuildPatternRows.{needs_out_is}
use Rattle.binary_program.proofs.condition_rows.push_in_needs_out_rows.Goals as goal

pub returns : goal.returns
returns c =
    on_ok_weaker c.push_some_where_each.result
    (needs_out_is c.args.lib.now c.args.from c.args.to c.args.i.0 (numbers_of c.deref.result.now) (numbers_of c.deref-2.result.now) c.args.rows.now.items c.push_some_where_each.new.rows.items
    (ap numbers_of c.deref.ensures.value ∙ c.in_ok-outgoing.ensures.value) (ap numbers_of c.deref-2.ensures.value ∙ c.in_ok-incoming.ensures.value))
    c.push_some_where_each.ensures
