use Rattle.std.proofs.Common.{ℕ, ◌+◌, ◌^◌, ap, subst, ◌∙◌}
use Rattle.arch_model.specs.Parts.{LibraryParts}
use Rattle.arch_model.specs.Member.{member_count}
use Rattle.rows.specs.BaseRows.{cost_row_of}
use Rattle.rows.specs.Row.{row_of_cut}
use Rattle.rows.specs.Known.{parts_of, variables}
use Rattle.rows.specs.Inner.Sums.{AreWithin, AreAdded}
use Rattle.rows.proofs.KnownRows.{of_cut_row, of_cost_row}
use Rattle.rows.proofs.together_of.add_pair.Goals as goal

pub returns-in-Base-clause-small : goal.returns-in-Base-clause-small
returns-in-Base-clause-small c =
    let family : ℕ → Type 0 = λ n. (m : ℕ) → AreWithin n m c.args.sums.now → AreWithin n (m + 10 ^ 28) c.add_row.new.sums in
    subst family (c.variable_count-n.ensures.count ∙ ap member_count c.library-lib.ensures.library) c.add_row.ensures.small

pub returns-in-Cut-clause-value : goal.returns-in-Cut-clause-value
returns-in-Cut-clause-value c =
    let family : ℕ → Type 0 = λ n. AreAdded n c.args.pair.times (row_of_cut c.get.result).terms c.args.sums.now c.add_cut.new.sums in
    of_cut_row (λ row. AreAdded (variables (parts_of c.args.known.now)) c.args.pair.times row.terms c.args.sums.now c.add_cut.new.sums) (parts_of c.args.known.now) c.args.pair.row c.in-Cut.j c.get.result c.in-Cut.is c.get.ensures
    (subst family (c.variable_count-n.ensures.count ∙ ap member_count c.library-lib.ensures.library) c.add_cut.ensures.value)

pub returns-in-Cut-clause-small : goal.returns-in-Cut-clause-small
returns-in-Cut-clause-small c =
    let family : ℕ → Type 0 = λ n. (m : ℕ) → AreWithin n m c.args.sums.now → AreWithin n (m + 10 ^ 28) c.add_cut.new.sums in
    subst family (c.variable_count-n.ensures.count ∙ ap member_count c.library-lib.ensures.library) c.add_cut.ensures.small

pub returns-in-Cost-clause-value : goal.returns-in-Cost-clause-value
returns-in-Cost-clause-value c =
    let family : LibraryParts → Type 0 = λ lib. (u : ℕ) → AreAdded (member_count lib) c.args.pair.times (cost_row_of lib u).terms c.args.sums.now c.add_cost.new.sums in
    of_cost_row (λ row. AreAdded (variables (parts_of c.args.known.now)) c.args.pair.times row.terms c.args.sums.now c.add_cost.new.sums) (parts_of c.args.known.now) c.args.pair.row c.in-Cost.is
    (subst family c.library-lib.ensures.library c.add_cost.ensures.value)

pub returns-in-Cost-clause-small : goal.returns-in-Cost-clause-small
returns-in-Cost-clause-small c =
    let family : LibraryParts → Type 0 = λ lib. (m : ℕ) → AreWithin (member_count lib) m c.args.sums.now → AreWithin (member_count lib) (m + 10 ^ 28) c.add_cost.new.sums in
    subst family c.library-lib.ensures.library c.add_cost.ensures.small
