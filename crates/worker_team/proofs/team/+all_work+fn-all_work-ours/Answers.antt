use Rattle.std.proofs.Common.{rules, ◌-◌, sym, subst}
use Rattle.worker_team.specs.Inner.Seats.{IsSeatFor, IsFirstSeat}
use Rattle.worker_team.proofs.SeatLaws.{first_works, fresh_works, cut_first, all_back}
use Rattle.worker_team.proofs.team.+all_work+fn-all_work-ours.Goals as goal

pub work-requires-clause-seat : goal.work-requires-clause-seat
work-requires-clause-seat g t c = first_works c.args.problem.now c.args.left c.args.seat.view c.requires.seat

pub join-back-requires-after_bounds : goal.join-back-requires-after_bounds
join-back-requires-after_bounds g t c κs within =
    let cut = c.split-other.ensures in
    let theirs = subst (IsSeatFor c.args.problem.now) (sym cut.new.1) (fresh_works c.args.problem.now c.args.seat.view c.args.left c.if-left-eq0.false c.requires.seat) in
    let ours = subst (IsFirstSeat c.args.problem.now (c.args.left - 1)) (sym cut.old.1) (cut_first c.args.problem.now c.args.seat.view c.args.left c.if-left-eq0.false c.requires.seat) in
    ((search rules, search rules, cut.new.0, theirs), (search rules, ((λ a m. m), ((λ a m. m), ((search rules, search rules, cut.old.0, ours, search rules), (search rules, search rules))))))

pub returns-clause-away : goal.returns-clause-away
returns-clause-away g t c =
    let cut = c.split-other.ensures in
    let both = c.join-back.ensures in
    all_back
    c.args.problem.now
    c.args.left
    c.args.seat.view
    c.split-other.new.seat.view
    c.split-other.result.view
    c.join-back.result.1.view
    c.join-back.result.0.view
    c.join.new.into.view
    c.if-left-eq0.false
    c.requires.seat
    cut.old.1
    cut.new.1
    both.second.3
    both.first.1.number
    c.join.ensures.seat
