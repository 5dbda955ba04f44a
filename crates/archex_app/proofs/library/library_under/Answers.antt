use Rattle.std.proofs.Common.{Ok, Err, refl, sym, ap, ◌∙◌}
use Rattle.lib_read.specs.LibraryOf.{library_of}
use Rattle.archex_app.proofs.RunLaws.{library_read}
use Rattle.archex_app.proofs.library.library_under.Goals as goal

pub returns-in-Ok-clause-library : goal.returns-in-Ok-clause-library
returns-in-Ok-clause-library g c =
    library_read (g.F.Shelf.told c.args.shelf.now c.args.name.now) c.in_ok-bytes.bytes.items (Ok c.in-Ok.lib) c.in_ok-bytes.ensures.bytes (ap library_of (sym c.as_slice.ensures.value) ∙ c.in-Ok.ensures.library)

pub returns-in-Err-Fault-clause-stop : goal.returns-in-Err-Fault-clause-stop
returns-in-Err-Fault-clause-stop g c = (
  (
    c.in-Err-Fault.fault,
    library_read (g.F.Shelf.told c.args.shelf.now c.args.name.now) c.in_ok-bytes.bytes.items (Err c.in-Err-Fault.fault) c.in_ok-bytes.ensures.bytes (ap library_of (sym c.as_slice.ensures.value) ∙ (rw c.in-Err-Fault.field-0-is at c.in-Err-Fault.ensures.fault)),
    refl,
    c.in_ok-text-in-Err-Fault.ensures,
  ),
  c.in_ok-bytes.ensures.reads_stay,
)
