use Rattle.template.proofs.IndexLaws.{after_name, after_dot, no_dot, not_dotted, found_in, not_found_in}
use Rattle.template.proofs.names.index_in.Goals as goal

pub returns-in_err-strip_prefix-clause-none : goal.returns-in_err-strip_prefix-clause-none
returns-in_err-strip_prefix-clause-none c =
    rw c.from_residual-in_err-strip_prefix.ensures (λ i some small.
    not_dotted c.args.type_name.now c.in_ok-rest.rest.now c.args.text.now (after_name c.args.type_name.now c.args.text.now c.in_ok-rest.rest.now c.in_ok-rest.ensures.cases)
    (no_dot c.in_ok-rest.rest.now c.strip_prefix-2.result c.strip_prefix-2.ensures.cases c.in_err-strip_prefix.was) i)

pub returns-clause-is : goal.returns-clause-is
returns-clause-is c =
    found_in c.index_of.result c.args.type_name.now c.in_ok-rest.rest.now c.in_ok-strip_prefix.field-0.now c.args.text.now (after_name c.args.type_name.now c.args.text.now c.in_ok-rest.rest.now c.in_ok-rest.ensures.cases)
    (after_dot c.in_ok-rest.rest.now c.strip_prefix-2.result c.in_ok-strip_prefix.field-0 c.strip_prefix-2.ensures.cases c.in_ok-strip_prefix.was) c.index_of.ensures.is

pub returns-clause-none : goal.returns-clause-none
returns-clause-none c =
    not_found_in c.index_of.result c.args.type_name.now c.in_ok-rest.rest.now c.in_ok-strip_prefix.field-0.now c.args.text.now (after_name c.args.type_name.now c.args.text.now c.in_ok-rest.rest.now c.in_ok-rest.ensures.cases)
    (after_dot c.in_ok-rest.rest.now c.strip_prefix-2.result c.in_ok-strip_prefix.field-0 c.strip_prefix-2.ensures.cases c.in_ok-strip_prefix.was) c.index_of.ensures.none
