use Rattle.worker_team.proofs.RoundLaws.{stays, worked_on, came_to_rest, went_on, at_least_none, room_falls}
use Rattle.worker_team.proofs.rounds.until_rest.Goals as goal

pub loop-worked-init : goal.loop-worked-init
loop-worked-init c = stays c.args.pool.now

pub returns-then-not-worked-clause-on : goal.returns-then-not-worked-clause-on
returns-then-not-worked-clause-on c =
    went_on 0 0 c.args.pool.now c.loop-worked.pool c.round.new.pool c.loop-worked.invariant (came_to_rest c.loop-worked.pool c.round.new.pool c.in_ok-worked.worked c.in_ok-worked.ensures c.if-not-worked.true).0

pub returns-then-not-worked-clause-rest : goal.returns-then-not-worked-clause-rest
returns-then-not-worked-clause-rest c = (came_to_rest c.loop-worked.pool c.round.new.pool c.in_ok-worked.worked c.in_ok-worked.ensures c.if-not-worked.true).1

pub loop-worked-preserved : goal.loop-worked-preserved
loop-worked-preserved c =
    let on = worked_on c.loop-worked.pool c.round.new.pool c.in_ok-worked.worked c.in_ok-worked.ensures c.if-not-worked.false in
    went_on 0 0 c.args.pool.now c.loop-worked.pool c.round.new.pool c.loop-worked.invariant (at_least_none c.loop-worked.pool c.round.new.pool on)

pub loop-worked-smaller : goal.loop-worked-smaller
loop-worked-smaller c =
    room_falls c.loop-worked.pool c.round.new.pool c.is_within_limit.ensures (worked_on c.loop-worked.pool c.round.new.pool c.in_ok-worked.worked c.in_ok-worked.ensures c.if-not-worked.false)
