use Rattle.std.proofs.Common.{sym, subst}
use Rattle.cut_sets.specs.Inner.Upcoming.{IsNextChoice}
use Rattle.cut_sets.proofs.Spent.{useless_in, useful_inside, a_stranded, none_next, first_next}
use Rattle.cut_sets.proofs.network.Network.next_beside.Goals as goal

pub returns-in-Some : goal.returns-in-Some
returns-in-Some c =
    let net = c.args.self.now in
    a_stranded net c.requires.network c.args.place.now c.args.chosen.now.members c.args.wide.now.members c.passed-useful.result
    (λ v. c.requires.same v) c.requires.wide.chosen c.requires.wide.candidates c.requires.wide.inside
    (useful_inside c.self.inside.lib.now c.self.inside.sink.0 c.args.wide.now.members c.passed-useful.result c.sides_of-sides.result c.passed-useful.ensures)
    (useless_in _ net c.self.view_is c.args.chosen.now.members c.args.wide.now.members c.passed-useful.result c.sides_of-sides.result c.sides_of-sides.ensures c.passed-useful.ensures)
    c.minus.result c.minus.ensures c.in-Some._stranded c.in-Some.ensures.next.1

pub returns-in_err-next : goal.returns-in_err-next
returns-in_err-next c =
    let net = c.args.self.now in
    subst (IsNextChoice net c.args.place.now) (sym c.from_residual.ensures)
    (none_next net c.requires.network c.args.place.now c.args.chosen.now.members c.args.wide.now.members c.passed-useful.result
    (λ v. c.requires.same v) c.requires.wide.chosen c.requires.wide.candidates c.requires.wide.inside
    (useful_inside c.self.inside.lib.now c.self.inside.sink.0 c.args.wide.now.members c.passed-useful.result c.sides_of-sides.result c.passed-useful.ensures)
    (useless_in _ net c.self.view_is c.args.chosen.now.members c.args.wide.now.members c.passed-useful.result c.sides_of-sides.result c.sides_of-sides.ensures c.passed-useful.ensures)
    c.at.result c.at.ensures c.in_err-next.ensures.next)

pub returns : goal.returns
returns c =
    let net = c.args.self.now in
    first_next net c.requires.network c.args.place.now c.args.chosen.now.members c.args.wide.now.members c.passed-useful.result
    (λ v. c.requires.same v) c.requires.wide.chosen c.requires.wide.candidates c.requires.wide.inside
    (useful_inside c.self.inside.lib.now c.self.inside.sink.0 c.args.wide.now.members c.passed-useful.result c.sides_of-sides.result c.passed-useful.ensures)
    (useless_in _ net c.self.view_is c.args.chosen.now.members c.args.wide.now.members c.passed-useful.result c.sides_of-sides.result c.sides_of-sides.ensures c.passed-useful.ensures)
    c.at.result c.at.ensures c.in_ok-next.next c.in_ok-next.ensures.next.0 c.in_ok-next.ensures.small c.in_ok-next.ensures.next.2 c.in_ok-next.ensures.next.1
