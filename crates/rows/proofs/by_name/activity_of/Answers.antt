use Rattle.std.proofs.Common.{◌≡◌, ◌∙◌, ap, FitsSigned, rules}
use Rattle.std.specs.Int.{w128}
use Rattle.std.proofs.lemmas.Int.{to_z-of_z}
use Rattle.rows.specs.BaseRows.{cost_row_of}
use Rattle.rows.specs.Known.{parts_of}
use Rattle.rows.specs.Inner.Ends.{activity_at}
use Rattle.rows.proofs.KnownRows.{of_cost_row}
use Rattle.rows.proofs.by_name.activity_of.Goals as goal

pub returns-in-Cost-clause-value : goal.returns-in-Cost-clause-value
returns-in-Cost-clause-value c =
    let fits : FitsSigned w128 c.activity_of_cost.result = search rules in
    of_cost_row (λ row. _ ≡ activity_at c.args.end row c.args.cube.now) (parts_of c.args.known.now) c.args.r c.in-Cost.is
    (λ u. to_z-of_z w128 c.activity_of_cost.result fits ∙ c.activity_of_cost.ensures.value u ∙ ap (λ l. activity_at c.args.end (cost_row_of l u) c.args.cube.now) c.library.ensures.library)
