use Rattle.std.proofs.Common.{◌∙◌, ap}
use Rattle.std.specs.Str.{bytes_eq}
use Rattle.lib_read.specs.Schema.{is_named}
use Rattle.lib_read.proofs.NameLemmas.{any-map}
use Rattle.lib_read.proofs.names.Names.has.Goals as goal

pub returns : goal.returns
returns c = c.contains.ensures ∙ any-map (λ k. k.now) (bytes_eq c.args.name.now) c.self.inside.set.keys ∙ ap (λ names. is_named names c.args.name.now) c.self.view_is
