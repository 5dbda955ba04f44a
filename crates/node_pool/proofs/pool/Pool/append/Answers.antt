use Rattle.std.proofs.Common.{sym, subst}
use Rattle.arch_model.specs.Library.{IsLibrary}
use Rattle.node_pool.specs.Parts.{PoolParts}
use Rattle.node_pool.specs.Inner.Appending.{MayAppend}
use Rattle.node_pool.proofs.Appending.{pool_goes_on}
use Rattle.node_pool.proofs.pool.Pool.append.Goals as goal

pub apply-requires-clause-case : goal.apply-requires-clause-case
apply-requires-clause-case c =
    let P : PoolParts → Type 0 = λ p. MayAppend p c.args.entry in
    let may = subst P (sym c.self.view_is) c.requires.entry in (may.next, may.step)

pub invariant_of-self : goal.invariant_of-self
invariant_of-self c =
    let at = c.self.inside in
    let P : PoolParts → Type 0 = λ p. MayAppend p c.args.entry in
    let may = subst P (sym c.self.view_is) c.requires.entry in (
      c.apply.ensures.of,
      pool_goes_on at.problem at.base.search at.workers at.analysts at.history.entries c.push_spare.new.self.entries at.state.search c.apply.new.self.search _ _ at.short c.args.entry
          (subst IsLibrary c.library.ensures.library c.variable_count-count.ensures.library) c.library.ensures.problem c.self.invariant.1 may.kept_limit
          may.worker may.diligent c.apply.ensures.step c.push_spare.ensures.entries,
    )
