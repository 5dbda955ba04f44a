use Rattle.std.proofs.Common.{◌+◌, sym}
use Rattle.std.proofs.lemmas.Result.{err_from_is_err_and, on_err_weaker}
use Rattle.log_checker.proofs.NextLines.{IsFirstFeed, feed_found, feed_missing, rest_is}
use Rattle.log_checker.proofs.ReaderSteps.{on_err_holds, if_err_weaker, one_pushed, rest_breaks, front_pushed, line_breaks, line_front}
use Rattle.log_checker.proofs.text.TextChecker.push.Goals as goal

pub end_with-requires : goal.end_with-requires
end_with-requires c = let feed : IsFirstFeed c.loop-at.rest.now c.in-Some.at = feed_found c.loop-at.rest.now c.in-Some.at (sym c.in-Some.ensures) in feed.free

pub go_on-requires : goal.go_on-requires
go_on-requires c = feed_missing c.loop-at.rest.now (sym c.in_default.ensures)

pub loop-at-preserved : goal.loop-at-preserved
loop-at-preserved c =
    one_pushed c.args.self.now c.loop-at.self c.args.piece.now c.loop-at.rest.now c.loop-at.invariant c.end_with.new.self c.in-Some.at _
    (feed_found c.loop-at.rest.now c.in-Some.at (sym c.in-Some.ensures)) (rest_is (c.in-Some.at + 1) c.loop-at.rest.now) c.in_ok-end_with.ensures.adds c.end_with.ensures.problem

pub returns-in_err-end_with-clause-no : goal.returns-in_err-end_with-clause-no
returns-in_err-end_with-clause-no c =
    let p = err_from_is_err_and c.from_residual.result c.from_residual.ensures.1 in
    rw (p.1, p.2)
    (line_breaks c.args.self.now c.loop-at.self c.args.piece.now c.loop-at.rest.now c.loop-at.invariant c.in-Some.at c.in_err-end_with.field-0.0 (feed_found c.loop-at.rest.now c.in-Some.at (sym c.in-Some.ensures)) c.in_err-end_with.ensures.no)

pub returns-in_err-end_with-clause-front : goal.returns-in_err-end_with-clause-front
returns-in_err-end_with-clause-front c =
    on_err_holds c.from_residual.result
    (line_front c.args.self.now c.loop-at.self c.args.piece.now c.loop-at.rest.now c.loop-at.invariant c.end_with.new.self c.in-Some.at (feed_found c.loop-at.rest.now c.in-Some.at (sym c.in-Some.ensures)) c.in_err-end_with.ensures.front)

pub returns-clause-no : goal.returns-clause-no
returns-clause-no c = if_err_weaker c.go_on.result _ _ (rest_breaks c.args.self.now c.loop-at.self c.args.piece.now c.loop-at.rest.now c.loop-at.invariant) c.go_on.ensures.no

pub returns-clause-front : goal.returns-clause-front
returns-clause-front c = on_err_weaker c.go_on.result (front_pushed c.args.self.now c.loop-at.self c.args.piece.now c.loop-at.rest.now c.loop-at.invariant c.go_on.new.self) c.go_on.ensures.front
