use Rattle.std.proofs.Common.{arith, ap, ◌∙◌, option_map}
use Rattle.toml.specs.View.{view}
use Rattle.lib_read.specs.Inner.Keys.{fault_view}
use Rattle.lib_read.proofs.PositionLemmas.{position_fits}
use Rattle.lib_read.proofs.ReadLemmas.{library_is, no_document, too_many, fault_found, told_so}
use Rattle.lib_read.proofs.reader.read_library.Goals as goal

pub told-requires-in-Err-Fault : goal.told-requires-in-Err-Fault
told-requires-in-Err-Fault c =
    position_fits c.args.bytes.now (view c.in-Some.top) (fault_view c.in-Err-Fault.fault) (omega arith) (c.in_ok-top.ensures ∙ ap (option_map view) c.in-Some.is) (rw c.in-Err-Fault.field-0-is at c.in-Err-Fault.ensures.stops)

pub returns-then-bytes-gt-LARGEST-clause-fault : goal.returns-then-bytes-gt-LARGEST-clause-fault
returns-then-bytes-gt-LARGEST-clause-fault c =
    told_so c.args.bytes.now (fault_view c.whole_file.result) c.told.result (rw c.whole_file.ensures (too_many c.args.bytes.now c.if-bytes-gt-LARGEST.true)) c.told.ensures

pub returns-in_default-clause-fault : goal.returns-in_default-clause-fault
returns-in_default-clause-fault c =
    told_so c.args.bytes.now (fault_view c.whole_file-in_default.result) c.told-in_default.result
    (rw c.whole_file-in_default.ensures (no_document c.args.bytes.now c.if-bytes-gt-LARGEST.false (c.in_ok-top.ensures ∙ ap (option_map view) c.in_default.is)))
    c.told-in_default.ensures

pub returns-in-Ok-clause-library : goal.returns-in-Ok-clause-library
returns-in-Ok-clause-library c = library_is c.args.bytes.now (view c.in-Some.top) c.in-Ok.library c.if-bytes-gt-LARGEST.false (c.in_ok-top.ensures ∙ ap (option_map view) c.in-Some.is) c.in-Ok.ensures.library

pub returns-clause-fault : goal.returns-clause-fault
returns-clause-fault c =
    told_so c.args.bytes.now (fault_view c.in-Err-Fault.fault) c.told-in-Err-Fault.result
    (fault_found c.args.bytes.now (view c.in-Some.top) (fault_view c.in-Err-Fault.fault) c.if-bytes-gt-LARGEST.false (c.in_ok-top.ensures ∙ ap (option_map view) c.in-Some.is) (rw c.in-Err-Fault.field-0-is at c.in-Err-Fault.ensures.stops))
    c.told-in-Err-Fault.ensures
