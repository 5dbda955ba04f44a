-- What the code's own contracts say of the two ends of the range that a row's sum has in a cube.
use Rattle.std.specs.Prelude.{ℤ, Bool, true, false, Option}
use Rattle.arch_model.specs.Set.{Set, intersection, minus}
use Rattle.rows.specs.declared.activity.End.{End}
use Rattle.rows.specs.declared.activity.End.TheVariants.{Greatest, Least}
use Rattle.rows.specs.declared.row.Term.{Term}
use Rattle.rows.specs.Parts.{RowParts, CubeParts}
use Rattle.rows.specs.Row.{int_sum_by}
use Rattle.rows.specs.Cube.{value_at}
use Rattle.rows.specs.Activity.{best_of, worst_of}

-- what a coefficient adds at an end
abbrev pub taken_at : End → Option Bool → ℤ → ℤ
taken_at Greatest value a = best_of value a
taken_at Least value a = worst_of value a

-- what a term adds at an end
abbrev pub adds_at : End → CubeParts → Term → ℤ
adds_at end cube t = taken_at end (value_at cube t.var.0) t.coef

-- the value of a row's sum at an end
abbrev pub activity_at : End → RowParts → CubeParts → ℤ
activity_at end row cube = int_sum_by (adds_at end cube) row.terms

-- the variables of a set that are at 1 where all free ones are at 1, or where all of them are at 0
abbrev pub ones_among : Set → CubeParts → Bool → Set
ones_among s cube true = minus s (minus cube.fixed cube.ones)
ones_among s cube false = intersection s cube.ones
