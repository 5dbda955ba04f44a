use Rattle.std.proofs.Common.{◌≡◌, ℕ, Option, Some, IfSome, sym, subst, ◌∙◌}
use Rattle.arch_model.specs.Library.{IsLibrary}
use Rattle.search_core.specs.declared.holding.Holding.{Holding}
use Rattle.search_core.specs.declared.nodes.Spot.{Spot}
use Rattle.search_core.specs.Node.{Held}
use Rattle.search_core.specs.State.{SearchState}
use Rattle.search_core.specs.Step.{IsHeldBy}
use Rattle.search_core.specs.Inner.Nodes.{IsFound}
use Rattle.search_core.proofs.Options.{same_ok, is_ok_by, from_if_some}
use Rattle.search_core.proofs.Applying.{known_held, leads_to}
use Rattle.search_core.proofs.state.State.traced.Goals as goal

its : (state : SearchState) (worker n : ℕ) (o : Option (Spot × Holding)) (f : Spot × Holding) → IfSome o (λ f. IsFound state.nodes n f.0 (Held f.1.cube worker f.1.cuts f.1.bound)) → o ≡ Some f → IsFound state.nodes n f.0 (Held f.1.cube worker f.1.cuts f.1.bound)
its state worker n o f some is = from_if_some (λ (f : Spot × Holding). IsFound state.nodes n f.0 (Held f.1.cube worker f.1.cuts f.1.bound)) o f some is

pub follow-requires : goal.follow-requires
follow-requires c =
    let h : IsHeldBy c.args.self.now.search c.args.worker c.args.node = record { cube = c.unwrap-held.result.1.cube; cuts = c.unwrap-held.result.1.cuts; bound = c.unwrap-held.result.1.bound; held = (its c.args.self.now.search c.args.worker c.args.node c.held_at.result c.unwrap-held.result c.held_at.ensures.some c.unwrap-held.ensures).live } in
    known_held c.args.problem.now (subst IsLibrary c.library.ensures.library c.variable_count-count.ensures.library) c.library.ensures.problem _ c.args.self.now c.self.view_is c.requires.of c.args.worker c.args.node h

pub unwrap-requires : goal.unwrap-requires
unwrap-requires c =
    let h : IsHeldBy c.args.self.now.search c.args.worker c.args.node = record { cube = c.unwrap-held.result.1.cube; cuts = c.unwrap-held.result.1.cuts; bound = c.unwrap-held.result.1.bound; held = (its c.args.self.now.search c.args.worker c.args.node c.held_at.result c.unwrap-held.result c.held_at.ensures.some c.unwrap-held.ensures).live } in
    is_ok_by c.follow.result c.requires.held.after (leads_to c.args.problem.now (subst IsLibrary c.library.ensures.library c.variable_count-count.ensures.library) c.library.ensures.problem _ c.args.self.now c.self.view_is c.requires.of c.args.worker c.args.node h c.args.trace.now c.follow.result c.follow.ensures c.requires.held)

pub returns-clause-spot : goal.returns-clause-spot
returns-clause-spot c = (its c.args.self.now.search c.args.worker c.args.node c.held_at.result c.unwrap-held.result c.held_at.ensures.some c.unwrap-held.ensures).at

pub returns-clause-cube : goal.returns-clause-cube
returns-clause-cube c t =
    let h : IsHeldBy c.args.self.now.search c.args.worker c.args.node = record { cube = c.unwrap-held.result.1.cube; cuts = c.unwrap-held.result.1.cuts; bound = c.unwrap-held.result.1.bound; held = (its c.args.self.now.search c.args.worker c.args.node c.held_at.result c.unwrap-held.result c.held_at.ensures.some c.unwrap-held.ensures).live } in
    same_ok (sym c.unwrap.ensures ∙ leads_to c.args.problem.now (subst IsLibrary c.library.ensures.library c.variable_count-count.ensures.library) c.library.ensures.problem _ c.args.self.now c.self.view_is c.requires.of c.args.worker c.args.node h c.args.trace.now c.follow.result c.follow.ensures t)
