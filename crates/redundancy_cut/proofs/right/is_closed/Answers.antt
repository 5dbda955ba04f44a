use Rattle.std.proofs.Common.{◌≡◌, ℕ, ◌<◌, true, false, List, length, IsTrue, sym, ap, subst, ◌∙◌, arith}
use Rattle.std.specs.List.{AllByRecursion}
use Rattle.arch_model.specs.declared.limits.TheConstants.{EDGES}
use Rattle.arch_model.specs.Set.{Set, has, members_below}
use Rattle.arch_model.proofs.Ranges.{blank_edge}
use Rattle.redundancy_cut.proofs.MemberLists.{of_members}
use Rattle.redundancy_cut.proofs.ClosedLaws.{IsClosedAt, all_closed, one_open, one_closed}
use Rattle.redundancy_cut.proofs.right.is_closed.Goals as goal

pub loop-e-init : goal.loop-e-init
loop-e-init c =
    let items = c.into_iter-e-iterator.ensures.into_iter_gives ∙ c.members-e-items.ensures in
    record {
      among = of_members (λ e. IsTrue (has c.args.of.now.edges e)) c.args.of.now.edges EDGES c.into_iter-e-iterator.result (items ∙ ap (λ (s : Set). members_below s EDGES) c.edges.ensures) (λ e h. h);
      rest = all_closed c.args.lib.now c.args.of.now c.args.cone.now c.edges-edges.result.now c.edges.result EDGES c.into_iter-e-iterator.result c.edges-edges.ensures.rows c.edges.ensures items
          (λ e h. omega (arith, c.requires.edges e h, c.edges-edges.ensures.library.few_edges));
    }

pub returns-then-leads_in : goal.returns-then-leads_in
returns-then-leads_in c =
    let P : List ℕ → Type 0 = AllByRecursion (λ e. IsTrue (has c.args.of.now.edges e)) in
    let here = subst P c.in-Some.ensures.steps c.loop-e.invariant.among in
    let short : c.in-Some.e.0 < length c.edges-edges.result.now = omega (arith, c.requires.edges c.in-Some.e.0 here.0, ap length c.edges-edges.ensures.rows) in (
      (λ h. absurd (let e : false ≡ true = h in cc)),
      (λ all. absurd (one_open c.args.lib.now c.args.of.now c.args.cone.now c.edges-edges.result.now c.in-Some.e.0 blank_edge c.edges-edges.ensures.rows short here.0 (sym c.leads_in.ensures ∙ c.if-leads_in.true) all)),
    )

pub loop-e-preserved : goal.loop-e-preserved
loop-e-preserved c =
    let P : List ℕ → Type 0 = AllByRecursion (λ e. IsTrue (has c.args.of.now.edges e)) in
    let here = subst P c.in-Some.ensures.steps c.loop-e.invariant.among in
    let short : c.in-Some.e.0 < length c.edges-edges.result.now = omega (arith, c.requires.edges c.in-Some.e.0 here.0, ap length c.edges-edges.ensures.rows) in
    let Q : List ℕ → Type 0 = AllByRecursion (IsClosedAt c.edges-edges.result.now c.args.cone.now) in
    record {
      among = here.1;
      rest = λ all. c.loop-e.invariant.rest (subst Q (sym c.in-Some.ensures.steps) (one_closed c.args.cone.now c.edges-edges.result.now c.in-Some.e.0 blank_edge short (sym c.leads_in.ensures ∙ c.if-leads_in.false), all));
    }
