use Rattle.std.proofs.Common.{◌∙◌, ap}
use Rattle.std.specs.List.{position}
use Rattle.std.specs.Str.{bytes_eq}
use Rattle.lib_read.proofs.NameLemmas.{position-map}
use Rattle.lib_read.proofs.names.Names.number.Goals as goal

pub returns-clause-place : goal.returns-clause-place
returns-clause-place c = c.get_index_of.ensures.index ∙ position-map (λ k. k.now) (bytes_eq c.args.name.now) c.self.inside.set.keys ∙ ap (position (bytes_eq c.args.name.now)) c.self.view_is
