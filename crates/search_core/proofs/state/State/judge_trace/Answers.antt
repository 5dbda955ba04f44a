use Rattle.std.proofs.Common.{Ok, Err, refl, sym, subst}
use Rattle.std.proofs.lemmas.Result.{err_from_is_err_and}
use Rattle.arch_model.specs.Library.{IsLibrary}
use Rattle.search_core.specs.State.{known_at}
use Rattle.search_core.specs.Step.{IsHeldBy}
use Rattle.search_core.proofs.Judged.{trace_breaks}
use Rattle.search_core.proofs.Following.{followed_is_legal}
use Rattle.search_core.proofs.Applying.{known_held, followed}
use Rattle.search_core.proofs.state.State.judge_trace.Goals as goal

pub follow-requires : goal.follow-requires
follow-requires c =
    let h : IsHeldBy c.args.self.now.search c.args.worker c.args.node = record { cube = c.in-Some.held.cube; cuts = c.in-Some.held.cuts; bound = c.in-Some.held.bound; held = c.in-Some.ensures.some.live } in
    known_held c.args.problem.now (subst IsLibrary c.library.ensures.library c.variable_count-count.ensures.library) c.library.ensures.problem _ c.args.self.now c.self.view_is c.requires c.args.worker c.args.node h

pub returns-clause-traced : goal.returns-clause-traced
returns-clause-traced c =
    let h : IsHeldBy c.args.self.now.search c.args.worker c.args.node = record { cube = c.in-Some.held.cube; cuts = c.in-Some.held.cuts; bound = c.in-Some.held.bound; held = c.in-Some.ensures.some.live } in
    record {
      traced = record {
        cube = c.in-Some.held.cube;
        cuts = c.in-Some.held.cuts;
        bound = c.in-Some.held.bound;
        held = c.in-Some.ensures.some.live;
        after = c.in_ok-after.after;
        leads = followed_is_legal (known_at c.args.problem.now c.args.self.now.search c.in-Some.held.cuts c.in-Some.held.bound) c.args.trace.now c.in-Some.held.cube c.in_ok-after.after (sym (followed c.args.problem.now (subst IsLibrary c.library.ensures.library c.variable_count-count.ensures.library) c.library.ensures.problem _ c.args.self.now c.self.view_is c.requires c.args.worker c.args.node h c.args.trace.now (Ok c.in_ok-after.after) c.in_ok-after.ensures));
      };
      at = c.in-Some.ensures.some.at;
      after = refl;
      cuts = refl;
      bound = refl;
    }

pub returns-in_err-after-clause-broken : goal.returns-in_err-after-clause-broken
returns-in_err-after-clause-broken c =
    let h : IsHeldBy c.args.self.now.search c.args.worker c.args.node = record { cube = c.in-Some.held.cube; cuts = c.in-Some.held.cuts; bound = c.in-Some.held.bound; held = c.in-Some.ensures.some.live } in
    let p = err_from_is_err_and c.from_residual.result c.from_residual.ensures.1 in
    rw (p.1, p.2) (trace_breaks c.args.problem.now c.args.self.now.search c.args.worker c.args.node c.args.trace.now c.if-worker-ge-WORKERS.false h (Err c.in_err-after.field-0.0) (followed c.args.problem.now (subst IsLibrary c.library.ensures.library c.variable_count-count.ensures.library) c.library.ensures.problem _ c.args.self.now c.self.view_is c.requires c.args.worker c.args.node h c.args.trace.now (Err c.in_err-after.field-0.0) c.in_err-after.ensures))
