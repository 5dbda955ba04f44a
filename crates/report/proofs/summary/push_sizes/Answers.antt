use Rattle.std.proofs.Common.{List, ℕ, ◌++◌, string_bytes, ap, sym, ◌∙◌}
use Rattle.report.proofs.LineLaws.{sizes_are}
use Rattle.report.proofs.summary.push_sizes.Goals as goal

pub returns : goal.returns
returns c =
    c.in_ok-write.ensures.bytes
    ∙ ap (λ (t : List ℕ). string_bytes c.args.text.now ++ t) (sym (sizes_are c.args.lib.now c.components.result.now c.edges.result.now c.components.ensures.rows c.edges.ensures.rows))
