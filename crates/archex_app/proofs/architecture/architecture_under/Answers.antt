use Rattle.std.proofs.Common.{Ok, Err, refl, sym, ap, ◌∙◌}
use Rattle.arch_csv.specs.ArchitectureOf.{architecture_of_bytes}
use Rattle.archex_app.proofs.RunLaws.{architecture_read}
use Rattle.archex_app.proofs.architecture.architecture_under.Goals as goal

pub returns-in-Ok-clause-architecture : goal.returns-in-Ok-clause-architecture
returns-in-Ok-clause-architecture g c =
    architecture_read c.args.lib.now (g.F.Shelf.told c.args.shelf.now c.args.name.now) c.in_ok-bytes.bytes.items (Ok c.in-Ok.arch) c.in_ok-bytes.ensures.bytes (ap (architecture_of_bytes c.args.lib.now) (sym c.as_slice.ensures.value) ∙ c.in-Ok.ensures.architecture)

pub returns-in-Err-Fault-clause-stop : goal.returns-in-Err-Fault-clause-stop
returns-in-Err-Fault-clause-stop g c = (
  (
    c.in-Err-Fault.fault,
    architecture_read c.args.lib.now (g.F.Shelf.told c.args.shelf.now c.args.name.now) c.in_ok-bytes.bytes.items (Err c.in-Err-Fault.fault) c.in_ok-bytes.ensures.bytes (ap (architecture_of_bytes c.args.lib.now) (sym c.as_slice.ensures.value) ∙ (rw c.in-Err-Fault.field-0-is at c.in-Err-Fault.ensures.fault)),
    refl,
    c.in_ok-text-in-Err-Fault.ensures,
  ),
  c.in_ok-bytes.ensures.reads_stay,
)
