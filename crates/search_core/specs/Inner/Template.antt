-- For the code's own contracts: that a change leaves the template alone.
use Rattle.std.specs.Prelude.{◌≡◌}
use Rattle.search_core.specs.Parts.{StateParts}

-- two states speak of the same template's numbers
pub record SameTemplate (old new : StateParts) : Type 0 where
  pub components : new.components ≡ old.components
  pub edges : new.edges ≡ old.edges
