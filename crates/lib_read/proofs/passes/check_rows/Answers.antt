use Rattle.std.proofs.Common.{[], ◌++◌, sym, ap, subst, ◌∙◌}
use Rattle.std.proofs.lemmas.Result.{err_from_is_err_and}
use Rattle.toml.specs.View.{view}
use Rattle.lib_read.specs.declared.fault.LibClass.TheVariants.{UnknownKey, MissingKey, WrongKind, BadName}
use Rattle.lib_read.specs.Fault.{least}
use Rattle.lib_read.specs.Inner.Keys.{StopsAt}
use Rattle.lib_read.specs.Faults.{class_faults}
use Rattle.lib_read.proofs.LeastLemmas.{stops_here, stops_past}
use Rattle.lib_read.proofs.PartLemmas.{key_before, missing_before, kind_before}
use Rattle.lib_read.proofs.passes.check_rows.Goals as goal

pub returns-in_err-check_class-clause-stops : goal.returns-in_err-check_class-clause-stops
returns-in_err-check_class-clause-stops c =
    let top = view c.args.top.now in
    let p = err_from_is_err_and c.from_residual.result c.from_residual.ensures.1 in
    rw (p.1, p.2)
    (stops_here (class_faults [] UnknownKey top) (class_faults [] MissingKey top ++ (class_faults [] WrongKind top ++ class_faults [] BadName top)) _ (key_before top)
    (subst (λ names. StopsAt (least (class_faults names UnknownKey top)) c.in_err-check_class.field-0.0) c.new-none.ensures c.in_err-check_class.ensures.stops))

pub returns-in_err-check_class-2-clause-stops : goal.returns-in_err-check_class-2-clause-stops
returns-in_err-check_class-2-clause-stops c =
    let top = view c.args.top.now in
    let p = err_from_is_err_and c.from_residual-in_err-check_class-2.result c.from_residual-in_err-check_class-2.ensures.1 in
    rw (p.1, p.2)
    (stops_past (class_faults [] UnknownKey top) (class_faults [] MissingKey top ++ (class_faults [] WrongKind top ++ class_faults [] BadName top)) _
    (ap (λ names. class_faults names UnknownKey top) (sym c.new-none.ensures) ∙ c.in_ok-check_class.ensures.clear)
    (stops_here (class_faults [] MissingKey top) (class_faults [] WrongKind top ++ class_faults [] BadName top) _ (missing_before top)
    (subst (λ names. StopsAt (least (class_faults names MissingKey top)) c.in_err-check_class-2.field-0.0) c.new-none.ensures c.in_err-check_class-2.ensures.stops)))

pub returns-in_err-check_class-3-clause-stops : goal.returns-in_err-check_class-3-clause-stops
returns-in_err-check_class-3-clause-stops c =
    let top = view c.args.top.now in
    let p = err_from_is_err_and c.from_residual-in_err-check_class-3.result c.from_residual-in_err-check_class-3.ensures.1 in
    rw (p.1, p.2)
    (stops_past (class_faults [] UnknownKey top) (class_faults [] MissingKey top ++ (class_faults [] WrongKind top ++ class_faults [] BadName top)) _
    (ap (λ names. class_faults names UnknownKey top) (sym c.new-none.ensures) ∙ c.in_ok-check_class.ensures.clear)
    (stops_past (class_faults [] MissingKey top) (class_faults [] WrongKind top ++ class_faults [] BadName top) _
    (ap (λ names. class_faults names MissingKey top) (sym c.new-none.ensures) ∙ c.in_ok-check_class-2.ensures.clear)
    (stops_here (class_faults [] WrongKind top) (class_faults [] BadName top) _ (kind_before top)
    (subst (λ names. StopsAt (least (class_faults names WrongKind top)) c.in_err-check_class-3.field-0.0) c.new-none.ensures c.in_err-check_class-3.ensures.stops))))
