use Rattle.std.proofs.Common.{ap, ◌∙◌, ◌&&◌, not}
use Rattle.arch_model.specs.Set.{empty}
use Rattle.paths.specs.Inner.Spread.{leads, live}
use Rattle.paths.specs.Links.{is_next}
use Rattle.paths.proofs.Searches.{froms, tos}
use Rattle.paths.proofs.adjacency.rows_without.Goals as goal

pub rows_less-requires-clause-froms : goal.rows_less-requires-clause-froms
rows_less-requires-clause-froms c = froms c.args.lib.now c.edges.ensures.library c.edges.result.now c.edges.ensures.rows c.args.way

pub rows_less-requires-clause-tos : goal.rows_less-requires-clause-tos
rows_less-requires-clause-tos c = tos c.args.lib.now c.edges.ensures.library c.edges.result.now c.edges.ensures.rows c.args.way

pub returns : goal.returns
returns c a d = c.rows_less.ensures a d ∙ ap (λ es. is_next c.args.rows.now a d && not (leads c.args.way (live c.args.gone.now empty 0 es) a d)) c.edges.ensures.rows
