-- What the code's own contracts say of quiet rows.
use Rattle.std.specs.Prelude.{is_none, Bool, not, ◌&&◌}
use Rattle.rows.specs.Parts.{RowParts, CubeParts}
use Rattle.rows.specs.Activity.{is_refuted, least_forced}

-- the test of whether a row is quiet in a cube
abbrev pub is_quiet_at : CubeParts → RowParts → Bool
is_quiet_at cube row = not (is_refuted row cube) && is_none (least_forced row cube)
