use Rattle.std.proofs.Common.{sym, subst, ap, ◌∙◌, option_map, map}
use Rattle.toml.specs.View.{view}
use Rattle.lib_read.specs.Inner.Passes.{first}
use Rattle.lib_read.specs.Schema.{table_keys}
use Rattle.lib_read.specs.Faults.{fault, faulty_keys}
use Rattle.lib_read.proofs.KeyOrder.{Ascend, named, keys_ascend}
use Rattle.lib_read.proofs.LeastLemmas.{least-row}
use Rattle.lib_read.proofs.passes.row_fault.Goals as goal

pub row_key-requires : goal.row_key-requires
row_key-requires c = subst (λ keys. Ascend (map named keys)) (sym c.table_keys.ensures) (keys_ascend c.args.table (view c.args.row.now))

pub returns : goal.returns
returns c =
    let keys = subst (λ keys. Ascend (faulty_keys (view c.args.top.now) c.args.names.now c.args.class keys (view c.args.row.now))) c.table_keys.ensures c.in_ok-key.ensures.ascend in
    let found = c.in_ok-key.ensures.first ∙ ap (λ keys. first (faulty_keys (view c.args.top.now) c.args.names.now c.args.class keys (view c.args.row.now))) c.table_keys.ensures in
    ap (option_map (fault c.args.class c.args.table c.args.position)) found
    ∙ sym (least-row c.args.class c.args.table c.args.position (faulty_keys (view c.args.top.now) c.args.names.now c.args.class (table_keys c.args.table (view c.args.row.now)) (view c.args.row.now)) keys)
