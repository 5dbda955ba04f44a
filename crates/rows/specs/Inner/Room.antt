-- What the code's own contracts say of forcing: how much room a row has, and what it forces by it.
use Rattle.std.specs.Prelude.{ℕ, zero, suc, ℤ, neg_ℤ, ◌-ℤ◌, int_lt, Bool, true, false, Option, Some, None, option_map, option_and_then, if◌then◌else◌}
use Rattle.rows.specs.Parts.{RowParts, CubeParts}
use Rattle.rows.specs.Cube.{fixed_at}
use Rattle.rows.specs.Activity.{greatest_activity, least_forced}

-- how far a row's greatest activity is above its least
abbrev pub room_of : RowParts → CubeParts → ℤ
room_of row cube = greatest_activity row cube -ℤ row.least

-- to which value a variable is forced, from whether it is fixed, its coefficient and the room that the row has
abbrev pub forced_value : Bool → ℤ → ℤ → Option Bool
forced_value fixed a room = if fixed then None else (if int_lt room a then Some true else (if int_lt room (neg_ℤ a) then Some false else None))

-- the cube after the least variable that a row forces was fixed k times; none where it forces nothing before that
abbrev pub after_times : RowParts → CubeParts → ℕ → Option CubeParts
after_times row cube zero = Some cube
after_times row cube (suc k) = option_and_then (λ next. after_times row next k) (option_map (λ p. fixed_at cube p.0 p.1) (least_forced row cube))
