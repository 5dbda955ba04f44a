-- The bounds of a sink's failure mass, as `probability` prints them.
use Rattle.std.specs.Prelude.{ℕ, List, ◌++◌, codes}
use Rattle.std.specs.Fmt.{decimal}

-- one line: the lower and the upper bound of the mass, in units of 10^-18
abbrev pub mass_text : ℕ × ℕ → List ℕ
mass_text bounds = codes "mass " ++ decimal bounds.0 ++ codes " " ++ decimal bounds.1 ++ codes "\n"
