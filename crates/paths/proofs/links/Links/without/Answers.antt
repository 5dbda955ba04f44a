use Rattle.std.proofs.Common.{sym, subst, ◌∙◌}
use Rattle.arch_model.specs.Set.{has, empty}
use Rattle.paths.specs.Links.{AreLinks}
use Rattle.paths.proofs.FailedEdges.{same_masks, links_whole, links_without}
use Rattle.paths.proofs.links.Links.without.Goals as goal

pub returns-then-eq : goal.returns-then-eq
returns-then-eq c =
    links_whole c.args.lib.now c.args.arch.now c.failed_edges-gone.ensures.library c.requires.architecture c.args.failed.now c.failed_edges-gone.result c.failed_edges-gone.ensures.edges
    (record { sources = c.self.inside.sources; rows = c.self.inside.down }) (same_masks c.failed_edges-gone.result c.new.result c.new.ensures (sym c.eq.ensures ∙ c.if-eq.true))
    (subst (AreLinks c.args.lib.now c.args.arch.now (has empty)) (sym c.self.view_is) c.requires.all)

pub returns : goal.returns
returns c =
    links_without c.args.lib.now c.args.arch.now c.failed_edges-gone.ensures.library c.requires.architecture c.args.failed.now c.failed_edges-gone.result c.failed_edges-gone.ensures.edges
    (record { sources = c.self.inside.sources; rows = c.self.inside.down }) c.rows_without.result
    (subst (AreLinks c.args.lib.now c.args.arch.now (has empty)) (sym c.self.view_is) c.requires.all) c.rows_without.ensures
