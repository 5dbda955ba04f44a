use Rattle.std.proofs.Common.{◌≡◌, ◌+◌, ◌++◌, map, string_bytes, ap, ◌∙◌, arith}
use Rattle.std.specs.List.{range_with_len}
use Rattle.template.specs.Names.{instance_name}
use Rattle.lib_read.proofs.ComponentLemmas.{one_more}
use Rattle.lib_read.proofs.components.push_names.Goals as goal

pub returns : goal.returns
returns c =
    let all : c.loop-i.i ≡ c.args.row.now.max = omega arith in
    c.loop-i.invariant ∙ ap (λ n. map string_bytes c.args.names.now.items ++ map (instance_name c.args.row.now.name) (range_with_len 1 n)) all

pub loop-i-preserved : goal.loop-i-preserved
loop-i-preserved c =
    let named = c.in_ok-instance_name.ensures ∙ ap (λ n. instance_name n (c.loop-i.i + 1)) c.text.ensures.text in
    ap (map string_bytes) c.in_ok-push.ensures.items
    ∙ one_more c.loop-i.names.items (map string_bytes c.args.names.now.items) c.args.row.now.name c.loop-i.i c.in_ok-instance_name.field-0 c.loop-i.invariant named
