use Rattle.std.proofs.Common.{arith}
use Rattle.template.proofs.IndexLaws.{read_is, read_none, no_first}
use Rattle.template.proofs.names.index_of.Goals as goal

pub returns-then-first-lt-LOWEST-clause-none : goal.returns-then-first-lt-LOWEST-clause-none
returns-then-first-lt-LOWEST-clause-none c = λ n some small is.
    let first = no_first c.args.text.now n some small is in
    absurd (omega (arith, first.0, c.first_byte-first.ensures, c.if-first-lt-LOWEST.true))

pub returns-then-first-gt-HIGHEST-clause-none : goal.returns-then-first-gt-HIGHEST-clause-none
returns-then-first-gt-HIGHEST-clause-none c = λ n some small is.
    let first = no_first c.args.text.now n some small is in
    absurd (omega (arith, first.1, c.first_byte-first.ensures, c.if-first-gt-HIGHEST.true))

pub returns-clause-is : goal.returns-clause-is
returns-clause-is c =
    rw c.ok.ensures.value
    (read_is c.args.text.now c.parse.result c.parse.ensures.value.0 (omega (arith, c.first_byte-first.ensures, c.if-first-lt-LOWEST.false)) (omega (arith, c.first_byte-first.ensures, c.if-first-gt-HIGHEST.false)))

pub returns-clause-none : goal.returns-clause-none
returns-clause-none c = rw c.ok.ensures.value (read_none c.args.text.now c.parse.result c.parse.ensures.value.0)
