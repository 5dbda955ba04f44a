use Rattle.std.proofs.Common.{◌∙◌, ap, ◌&&◌, not}
use Rattle.arch_model.specs.Set.{Set, has}
use Rattle.paths.proofs.Searches.{reach_exact, through}
use Rattle.paths.proofs.searching.reached_from_sources.Goals as goal

pub returns : goal.returns
returns c d = through (c.closure.ensures d)
    (reach_exact c.args.lib.now c.args.arch.now c.args.failed.now c.outside-standing.result c.args.sources.now c.args.down.now
    (λ e. c.outside-standing.ensures e ∙ ap (λ (s : Set). has s e && not (has c.args.failed.now e)) c.comps.ensures)
    c.requires.sources c.requires.rows d)
