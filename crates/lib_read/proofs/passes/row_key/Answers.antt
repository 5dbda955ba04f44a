use Rattle.std.proofs.Common.{codes, map, subst, sym, ap, ◌∙◌}
use Rattle.toml.specs.View.{view, table_view}
use Rattle.lib_read.specs.Inner.Passes.{first}
use Rattle.lib_read.specs.Inner.Keys.{key_view}
use Rattle.lib_read.specs.Faults.{faulty_keys}
use Rattle.lib_read.proofs.KeyOrder.{Ascend, ascend_none, ascend_one, of_table, wrong_kind, no_keys}
use Rattle.lib_read.proofs.passes.row_key.Goals as goal

pub returns-in-WrongKind-clause-ascend : goal.returns-in-WrongKind-clause-ascend
returns-in-WrongKind-clause-ascend c =
    let kind = ap (λ class. faulty_keys (view c.args.top.now) c.args.names.now class (map key_view c.args.keys.now) (view c.args.row.now)) c.in-WrongKind.is in
    subst Ascend (sym (kind ∙ wrong_kind (view c.args.top.now) c.args.names.now (map key_view c.args.keys.now) (view c.args.row.now) c.in-None.ensures)) (ascend_one (codes "-"))

pub returns-in_default-class : goal.returns-in_default-class
returns-in_default-class c =
    let none = no_keys (view c.args.top.now) c.args.names.now c.args.class (map key_view c.args.keys.now) (view c.args.row.now) c.in-None.ensures c.in_default-class.not-WrongKind in
    record { first = ap first (sym none); ascend = subst Ascend (sym none) ascend_none }

pub returns-in_default : goal.returns-in_default
returns-in_default c =
    let keys = of_table (view c.args.top.now) c.args.names.now c.args.class (map key_view c.args.keys.now) (view c.args.row.now) (table_view c.in-Some.table.now) c.in-Some.ensures c.in_default.not-UnknownKey in
    record { first = c.faulty_key.ensures.first ∙ ap first (sym keys); ascend = subst Ascend (sym keys) c.faulty_key.ensures.ascend }
