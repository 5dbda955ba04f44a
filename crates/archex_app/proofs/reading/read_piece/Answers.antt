use Rattle.std.proofs.Common.{arith}
use Rattle.archex_app.proofs.Pieces.{front_grows}
use Rattle.archex_app.proofs.reading.read_piece.Goals as goal

pub returns-clause-front : goal.returns-clause-front
returns-clause-front g c front =
    front_grows (g.F.Shelf.told c.args.shelf.now c.args.name.now) c.args.bytes.now.items c.read_at.new.into c.extend_from_slice.new.self.items c.len-2.result c.in_ok-count.count (omega (arith, c.len-2.ensures))
    c.in_ok-count.ensures.within c.in_ok-extend_from_slice.ensures.items front c.in_ok-count.ensures.found
