-- For the code's own contracts: variables and terms of a row before they are added up.
use Rattle.std.specs.Prelude.{ℕ, ◌≤◌, ◌<◌, ◌^◌, Bool, ◌&&◌, nat_eq, List, map, length, unsigned_abs}
use Rattle.std.specs.List.{All}
use Rattle.arch_model.specs.declared.sets.VarId.{VarId}
use Rattle.arch_model.specs.declared.template.Edge.{Edge}
use Rattle.arch_model.specs.Parts.{LibraryParts}
use Rattle.arch_model.specs.Pattern.{is_instance}
use Rattle.rows.specs.declared.row.Term.{Term}
use Rattle.binary_program.specs.declared.terms.EdgeKind.{EdgeKind}
use Rattle.binary_program.specs.declared.terms.EdgeKind.TheVariants.{Into, OutOf, Between}

-- the numbers of some variables
abbrev pub numbers_of : List VarId → List ℕ
numbers_of vars = map (λ v. v.0) vars

-- at most k variables below n
pub record AreVariables (n k : ℕ) (vars : List VarId) : Type 0 where
  pub few : length vars ≤ k
  pub below : All (λ v. v.0 < n) vars

-- at most k terms over the variables below n, with coefficients up to 10^12 in absolute value
pub record AreTerms (n k : ℕ) (terms : List Term) : Type 0 where
  pub few : length terms ≤ k
  pub small : All (λ t. unsigned_abs t.coef ≤ 10 ^ 12) terms
  pub below : All (λ t. t.var.0 < n) terms

-- whether an edge is of a kind
abbrev pub is_of_kind : LibraryParts → EdgeKind → Edge → Bool
is_of_kind lib (Into head from) e = nat_eq e.head.0 head.0 && is_instance lib from e.tail.0
is_of_kind lib (OutOf tail to) e = nat_eq e.tail.0 tail.0 && is_instance lib to e.head.0
is_of_kind lib (Between tail head) e = nat_eq e.tail.0 tail.0 && nat_eq e.head.0 head.0
