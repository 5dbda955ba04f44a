use Rattle.std.proofs.Common.{◌∙◌, ap, not}
use Rattle.std.specs.List.{list_any}
use Rattle.lib_read.specs.Faults.{same_ends}
use Rattle.lib_read.proofs.NameLemmas.{any-map}
use Rattle.lib_read.proofs.names.Pairs.add.Goals as goal

pub returns-clause-new : goal.returns-clause-new
returns-clause-new c = c.in_ok-insert.ensures.added ∙ ap not (any-map (λ k. (k.0.now, k.1.now)) (same_ends (c.args.from.now, c.args.to.now)) c.self.inside.set.keys ∙ ap (list_any (same_ends (c.args.from.now, c.args.to.now))) c.self.view_is)
