-- Worked rows: how many types can be numbered.
use Rattle.std.proofs.Common.{◌≡◌, ◌^◌, refl}
use Rattle.template.specs.declared.instances.TheConstants.{TYPES}

types : TYPES ≡ 2 ^ 32
types = refl
