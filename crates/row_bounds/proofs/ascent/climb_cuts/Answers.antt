use Rattle.std.proofs.Common.{◌<◌, ◌≤◌, length, arith}
use Rattle.std.proofs.lemmas.List.{length-take}
use Rattle.rows.specs.Known.{parts_of, known_cuts}
use Rattle.row_bounds.proofs.AscentLaws.{cuts_more, cuts_end}
use Rattle.row_bounds.proofs.ascent.climb_cuts.Goals as goal

pub loop-j-preserved : goal.loop-j-preserved
loop-j-preserved c =
    let known = parts_of c.args.known.now in
    let short : c.loop-j.j < length (known_cuts known) = omega (arith, length-take known.upto known.cuts, c.requires.known.upto) in
    record {
      rising = c.look_at_cut.ensures.rising;
      climbs =
          cuts_more known c.args.cube.now c.args.rising.now.pairs c.args.rising.now.residue c.loop-j.rising.pairs c.loop-j.rising.residue c.look_at_cut.new.rising.pairs c.look_at_cut.new.rising.residue c.loop-j.j short
          c.loop-j.invariant.climbs c.look_at_cut.ensures.follows;
    }

pub returns-clause-follows : goal.returns-clause-follows
returns-clause-follows c =
    let known = parts_of c.args.known.now in
    let far : length (known_cuts known) ≤ c.loop-j.j = omega (arith, length-take known.upto known.cuts, c.requires.known.upto) in
    cuts_end known c.args.cube.now c.args.rising.now.pairs c.args.rising.now.residue c.loop-j.rising.pairs c.loop-j.rising.residue c.loop-j.j far c.loop-j.invariant.climbs
