-- A sink by its name.
use Rattle.std.specs.Prelude.{ℕ, ◌≡◌, List, slice_get}
use Rattle.std.specs.Option.{IsSomeAnd}
use Rattle.arch_model.specs.declared.template.Role.TheVariants.{Sink}
use Rattle.arch_model.specs.Parts.{LibraryParts}
use Rattle.template.specs.Names.{component_name}

-- component c has that name, and the role sink
abbrev pub IsSinkNamed : LibraryParts → List ℕ → ℕ → Type 0
IsSinkNamed lib name c = IsSomeAnd (slice_get lib.components c) (λ row. row.role ≡ Sink) × (component_name lib c ≡ name)
