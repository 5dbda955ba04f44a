use Rattle.std.proofs.Common.{◌∙◌, ap, not}
use Rattle.std.specs.Str.{bytes_eq}
use Rattle.lib_read.specs.Schema.{is_named}
use Rattle.lib_read.proofs.NameLemmas.{any-map}
use Rattle.lib_read.proofs.names.Names.add.Goals as goal

pub returns-clause-new : goal.returns-clause-new
returns-clause-new c = c.in_ok-insert.ensures.added ∙ ap not (any-map (λ k. k.now) (bytes_eq c.args.name.now) c.self.inside.set.keys ∙ ap (λ names. is_named names c.args.name.now) c.self.view_is)
