use Rattle.std.proofs.Common.{◌<◌, length, rules}
use Rattle.std.proofs.lemmas.Result.{err_from_is_err_and}
use Rattle.archex_app.proofs.LogReading.{feeds_on, push_halts}
use Rattle.archex_app.proofs.check.feed_piece.Goals as goal

pub returns-in_err-push-clause-halt : goal.returns-in_err-push-clause-halt
returns-in_err-push-clause-halt g c fed =
    let p = err_from_is_err_and c.from_residual-in_err-push.result c.from_residual-in_err-push.ensures.1 in
    rw (p.1, p.2) (push_halts (g.F.Shelf.told c.args.shelf.now c.args.name.now) c.args.reader.now c.read_at.new.into c.bytes-place.result c.in_ok-count.count c.bytes-place.ensures.bytes c.in_ok-count.ensures.within c.in_ok-count.ensures.found fed _ c.in_err-push.ensures.no)

pub returns-clause-fed : goal.returns-clause-fed
returns-clause-fed g c fed =
    let some : 0 < length c.read_at.new.into = search rules in
    feeds_on (g.F.Shelf.told c.args.shelf.now c.args.name.now) c.args.reader.now c.read_at.new.into c.bytes-place.result c.in_ok-count.count c.bytes-place.ensures.bytes c.in_ok-count.ensures.within c.in_ok-count.ensures.found fed c.push.new.self some c.in_ok-push.ensures.adds
