-- Cubes: some variables are fixed to 0 or 1, the others are free.
use Rattle.std.specs.Prelude.{◌≡◌, ℕ, ◌<◌, nat_lt, Bool, not, Option, Some, None, IsTrue, if◌then◌else◌}
use Rattle.arch_model.specs.Set.{has, empty, put}
use Rattle.arch_model.specs.declared.limits.TheConstants.{MEMBERS}
use Rattle.rows.specs.Parts.{CubeParts}

-- the value that a cube gives to variable v, or none where v is free
abbrev pub value_at : CubeParts → ℕ → Option Bool
value_at cube v = if has cube.fixed v then Some (has cube.ones v) else None

-- whether a cube leaves v free
abbrev pub is_free : CubeParts → ℕ → Bool
is_free cube v = not (has cube.fixed v)

-- only fixed variables are fixed to 1, so that each finite map is one cube; and they are numbers that a variable can have
pub record IsCube (cube : CubeParts) : Type 0 where
  pub within : (v : ℕ) → IsTrue (has cube.ones v) → IsTrue (has cube.fixed v)
  pub small : (v : ℕ) → IsTrue (has cube.fixed v) → v < MEMBERS

-- the cube with nothing fixed
abbrev pub whole : CubeParts
whole = record { fixed = empty; ones = empty }

-- the cube with a free variable v fixed as well
abbrev pub fixed_at : CubeParts → ℕ → Bool → CubeParts
fixed_at cube v b = record { fixed = put cube.fixed v; ones = if b then put cube.ones v else cube.ones }

-- a vector lies in a cube where it agrees with it
abbrev pub LiesIn : (ℕ → Bool) → CubeParts → Type 0
LiesIn x cube = (v : ℕ) → IsTrue (has cube.fixed v) → x v ≡ has cube.ones v

-- exactly the variables below n are fixed
abbrev pub FixesBelow : ℕ → CubeParts → Type 0
FixesBelow n cube = (v : ℕ) → has cube.fixed v ≡ nat_lt v n

-- the variables that a cube fixes are below n
abbrev pub IsCubeBelow : ℕ → CubeParts → Type 0
IsCubeBelow n cube = (v : ℕ) → IsTrue (has cube.fixed v) → v < n

-- no variable below n is free
abbrev pub IsFull : ℕ → CubeParts → Type 0
IsFull n cube = (v : ℕ) → v < n → IsTrue (has cube.fixed v)
