use Rattle.std.proofs.Common.{ap, ◌∙◌}
use Rattle.std.proofs.lemmas.Result.{on_ok_weaker}
use Rattle.binary_program.specs.Inner.Terms.{numbers_of}
use Rattle.binary_program.proofs.BuildPatternRows.{count_is}
use Rattle.binary_program.proofs.degree_rows.push_count_rows.Goals as goal

pub returns : goal.returns
returns c =
    on_ok_weaker c.push_at_most.result
    (count_is c.args.lib.now c.args.of c.args.min c.args.max (numbers_of c.deref.result.now) (numbers_of c.deref-2.result.now) c.args.rows.now.items c.push_at_least.new.rows.items c.push_at_most.new.rows.items c.in_ok-push_at_least.ensures
    (ap numbers_of c.deref.ensures.value ∙ c.in_ok-vars.ensures.value) (ap numbers_of c.deref-2.ensures.value ∙ c.in_ok-vars.ensures.value))
    c.push_at_most.ensures
