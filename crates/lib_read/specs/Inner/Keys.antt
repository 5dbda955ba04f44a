-- What contracts see of the code's keys and faults.
use Rattle.std.specs.Prelude.{◌≡◌, Option, Some}
use Rattle.lib_read.specs.declared.fault.Fault as code
use Rattle.lib_read.specs.declared.fault.Stop as stop
use Rattle.lib_read.specs.declared.fault.Stop.TheVariants.{Memory, Fault as found}
use Rattle.lib_read.specs.declared.schema.Key.{Key}
use Rattle.lib_read.specs.declared.fault.LibFault.{LibFault}
use Rattle.lib_read.specs.declared.fault.LibError.{LibError}
use Rattle.lib_read.specs.declared.fault.LibError.TheVariants as error
use Rattle.lib_read.specs.Schema.{KeyRow}

-- what contracts see of a key of the code's schema
abbrev pub key_view : Key → KeyRow
key_view k = record { name = k.name.now; required = k.required; meaning = k.meaning }

-- what contracts see of a fault while the file is read
abbrev pub fault_view : code.Fault → LibFault
fault_view f = record { class = f.class; table = f.table; position = f.position; key = f.key.now }

-- the fault, if any, at which a reading stopped that didn't want for memory
abbrev pub StopsAt : Option LibFault → stop.Stop → Type 0
StopsAt fault Memory = Unit {0}
StopsAt fault (found f) = Some (fault_view f) ≡ fault

-- whether an answer that isn't want of memory tells a fault
abbrev pub Tells : LibFault → LibError → Type 0
Tells fault error.Memory = Unit {0}
Tells fault (error.Fault f) = f ≡ fault
