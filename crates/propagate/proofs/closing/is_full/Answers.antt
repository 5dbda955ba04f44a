use Rattle.std.proofs.Common.{ap, ◌∙◌}
use Rattle.arch_model.specs.Set.{len}
use Rattle.arch_model.specs.Member.{member_count}
use Rattle.rows.specs.Known.{parts_of}
use Rattle.propagate.proofs.WayLaws.{full_by, open_by}
use Rattle.propagate.proofs.closing.is_full.Goals as goal

pub returns-clause-full : goal.returns-clause-full
returns-clause-full c =
    full_by (parts_of c.args.known.now) c.args.cube.now c.len.result c.variable_count.result c.requires (c.len.ensures ∙ ap len c.fixed.ensures.fixed) (c.variable_count.ensures.count ∙ ap member_count c.library.ensures.library)

pub returns-clause-open : goal.returns-clause-open
returns-clause-open c =
    open_by (parts_of c.args.known.now) c.args.cube.now c.len.result c.variable_count.result c.requires (c.len.ensures ∙ ap len c.fixed.ensures.fixed) (c.variable_count.ensures.count ∙ ap member_count c.library.ensures.library)
