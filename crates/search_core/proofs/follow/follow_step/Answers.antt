use Rattle.std.proofs.Common.{sym, ap, ◌∙◌}
use Rattle.rows.specs.Known.{parts_of}
use Rattle.arch_model.specs.Member.{member_count}
use Rattle.search_core.proofs.Following.{small_forced}
use Rattle.search_core.proofs.follow.follow_step.Goals as goal

pub fix-requires-clause-small : goal.fix-requires-clause-small
fix-requires-clause-small c =
    small_forced (parts_of c.args.known.now) c.args.r c.args.cube.now c.in-Some.v.0 c.variable_count-count.result c.in-Some.value c.library.ensures.problem c.requires (sym c.if-not-has.ensures) c.in-Some.ensures.first
    (c.variable_count-count.ensures.count ∙ ap member_count c.library.ensures.library) c.variable_count-count.ensures.few
