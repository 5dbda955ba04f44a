use Rattle.std.proofs.Common.{string_bytes, unwrap_or, ap, ◌∙◌}
use Rattle.std.specs.Option.{option_and_then}
use Rattle.std.specs.Str.{bytes_eq}
use Rattle.toml.specs.View.{view}
use Rattle.lib_read.specs.Tree.{text_at}
use Rattle.lib_read.proofs.NameLemmas.{position-map}
use Rattle.lib_read.proofs.rows.component_at.Goals as goal

pub returns : goal.returns
returns c =
    let at =
    c.unwrap_or.ensures
    ∙ ap (λ o. unwrap_or o 0) c.component_number.ensures.place
    ∙ (λ i. unwrap_or (option_and_then (λ text. position-map string_bytes (bytes_eq text) c.args.components.now i) (text_at c.args.key.now (view c.args.row.now))) 0)
    in
    λ i. record { 0 = at i }
