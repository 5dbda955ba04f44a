use Rattle.std.proofs.Common.{◌++◌, subst}
use Rattle.std.proofs.lemmas.Result.{err_from_is_err_and}
use Rattle.toml.specs.View.{view}
use Rattle.lib_read.specs.declared.fault.LibClass.TheVariants.{UnknownName, Range}
use Rattle.lib_read.specs.Fault.{least}
use Rattle.lib_read.specs.Inner.Keys.{StopsAt}
use Rattle.lib_read.specs.Faults.{plain_faults, repeated_names, repeated_links, class_faults}
use Rattle.lib_read.specs.Rows.{type_names}
use Rattle.lib_read.proofs.LeastLemmas.{stops_here, stops_past}
use Rattle.lib_read.proofs.PartLemmas.{plain_before, names_before, links_before, unknown_before}
use Rattle.lib_read.proofs.passes.judge.Goals as goal

pub returns-in_err-check_rows-clause-stops : goal.returns-in_err-check_rows-clause-stops
returns-in_err-check_rows-clause-stops c =
    let top = view c.args.top.now in
    let range = class_faults (type_names top) Range top in
    let last = class_faults (type_names top) UnknownName top ++ range in
    let p = err_from_is_err_and c.from_residual.result c.from_residual.ensures.1 in
    rw (p.1, p.2)
    (stops_here (plain_faults top) (repeated_names top ++ (repeated_links top ++ last)) _ (plain_before top) c.in_err-check_rows.ensures.stops)

pub returns-in_err-names-clause-stops : goal.returns-in_err-names-clause-stops
returns-in_err-names-clause-stops c =
    let top = view c.args.top.now in
    let range = class_faults (type_names top) Range top in
    let last = class_faults (type_names top) UnknownName top ++ range in
    let p = err_from_is_err_and c.from_residual-in_err-names.result c.from_residual-in_err-names.ensures.1 in
    rw (p.1, p.2)
    (stops_past (plain_faults top) (repeated_names top ++ (repeated_links top ++ last)) _ c.in_ok-check_rows.ensures.clear
    (stops_here (repeated_names top) (repeated_links top ++ last) _ (names_before top) c.in_err-names.ensures.stops))

pub returns-in_err-check_links-clause-stops : goal.returns-in_err-check_links-clause-stops
returns-in_err-check_links-clause-stops c =
    let top = view c.args.top.now in
    let range = class_faults (type_names top) Range top in
    let last = class_faults (type_names top) UnknownName top ++ range in
    let p = err_from_is_err_and c.from_residual-in_err-check_links.result c.from_residual-in_err-check_links.ensures.1 in
    rw (p.1, p.2)
    (stops_past (plain_faults top) (repeated_names top ++ (repeated_links top ++ last)) _ c.in_ok-check_rows.ensures.clear
    (stops_past (repeated_names top) (repeated_links top ++ last) _ c.in_ok-names.ensures.clear
    (stops_here (repeated_links top) last _ (links_before top) c.in_err-check_links.ensures.stops)))

pub returns-in_err-check_class-clause-stops : goal.returns-in_err-check_class-clause-stops
returns-in_err-check_class-clause-stops c =
    let top = view c.args.top.now in
    let range = class_faults (type_names top) Range top in
    let last = class_faults (type_names top) UnknownName top ++ range in
    let p = err_from_is_err_and c.from_residual-in_err-check_class.result c.from_residual-in_err-check_class.ensures.1 in
    rw (p.1, p.2)
    (stops_past (plain_faults top) (repeated_names top ++ (repeated_links top ++ last)) _ c.in_ok-check_rows.ensures.clear
    (stops_past (repeated_names top) (repeated_links top ++ last) _ c.in_ok-names.ensures.clear
    (stops_past (repeated_links top) last _ c.in_ok-check_links.ensures.clear
    (stops_here (class_faults (type_names top) UnknownName top) range _ (unknown_before top) (subst (λ names. StopsAt (least (class_faults names UnknownName top)) c.in_err-check_class.field-0.0) c.in_ok-names.ensures.names c.in_err-check_class.ensures.stops)))))
