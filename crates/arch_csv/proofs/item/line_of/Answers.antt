use Rattle.std.proofs.Common.{arith}
use Rattle.csv.specs.Records.{fields_of}
use Rattle.arch_csv.proofs.ThreeFields.{field_there, three_fields}
use Rattle.arch_csv.proofs.item.line_of.Goals as goal

pub returns-in_err-kind-clause-none : goal.returns-in_err-kind-clause-none
returns-in_err-kind-clause-none c = absurd (field_there (fields_of c.args.row.now) 0 (omega arith) c.in_err-kind.ensures.value)

pub returns-in_err-from-clause-none : goal.returns-in_err-from-clause-none
returns-in_err-from-clause-none c = absurd (field_there (fields_of c.args.row.now) 1 (omega arith) c.in_err-from.ensures.value)

pub returns-in_err-to-clause-none : goal.returns-in_err-to-clause-none
returns-in_err-to-clause-none c = absurd (field_there (fields_of c.args.row.now) 2 (omega arith) c.in_err-to.ensures.value)

pub returns-clause-some : goal.returns-clause-some
returns-clause-some c =
    three_fields (fields_of c.args.row.now) c.in_ok-kind.kind.now c.in_ok-from.from.now c.in_ok-to.to.now (omega arith)
    c.in_ok-kind.ensures.value c.in_ok-from.ensures.value c.in_ok-to.ensures.value
