-- A library's base rows, as `rows` prints them.
use Rattle.std.specs.Prelude.{ℕ, ℤ, pos, negsuc, List, ◌++◌, codes, unsigned_abs}
use Rattle.std.specs.Fmt.{decimal, signed_decimal}
use Rattle.std.specs.List.{flat_map, enumerate_from}
use Rattle.rows.specs.declared.row.Term.{Term}
use Rattle.rows.specs.Parts.{RowParts, ProblemParts}

-- a coefficient's sign
abbrev pub sign_text : ℤ → List ℕ
sign_text (pos n) = codes " +"
sign_text (negsuc n) = codes " -"

-- a term: a space, the sign of its coefficient, the coefficient without it, `*` and the variable
unfoldable pub term_text : Term → List ℕ
term_text t = sign_text t.coef ++ decimal (unsigned_abs t.coef) ++ codes "*" ++ decimal t.var.0

-- the line of a base row: its number, its terms, and what they have to come to at least
unfoldable pub row_line : ℕ → RowParts → List ℕ
row_line number row = codes "b" ++ decimal number ++ flat_map term_text row.terms ++ codes " >= " ++ signed_decimal row.least ++ codes "\n"

-- all base rows, by number
abbrev pub rows_text : ProblemParts → List ℕ
rows_text problem = flat_map (λ p. row_line p.0 p.1) (enumerate_from 0 problem.base)
