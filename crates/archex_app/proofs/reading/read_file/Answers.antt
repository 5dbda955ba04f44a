use Rattle.std.proofs.Common.{arith, length, ◌≤◌}
use Rattle.archex_app.specs.declared.reading.TheConstants.{READ_LIMIT}
use Rattle.archex_app.proofs.Pieces.{read_whole, read_full, same_front, same_whole}
use Rattle.archex_app.proofs.reading.read_file.Goals as goal

pub returns-then-branch-eq0-clause-bytes : goal.returns-then-branch-eq0-clause-bytes
returns-then-branch-eq0-clause-bytes g c =
    let told = g.F.Shelf.told c.args.shelf.now c.args.name.now in
    let same = c.loop-shelf.invariant.told_stays c.args.name.now in
    read_whole told c.read_piece.new.bytes.items READ_LIMIT c.in_ok-read_piece.ensures.within
    (same_front told _ c.loop-shelf.bytes.items c.read_piece.new.bytes.items same c.in_ok-read_piece.ensures.front c.loop-shelf.invariant.front)
    (same_whole told _ c.read_piece.new.bytes.items same (c.in_ok-read_piece.ensures.end c.if-branch-eq0.true))

pub returns-clause-bytes : goal.returns-clause-bytes
returns-clause-bytes g c =
    let long : READ_LIMIT ≤ length c.loop-shelf.bytes.items = omega arith in
    let within : length c.loop-shelf.bytes.items ≤ READ_LIMIT = omega arith in
    read_full (g.F.Shelf.told c.args.shelf.now c.args.name.now) c.loop-shelf.bytes.items READ_LIMIT within long c.loop-shelf.invariant.front
