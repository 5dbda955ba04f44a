use Rattle.std.proofs.Common.{◌∙◌}
use Rattle.rows.specs.Known.{parts_of}
use Rattle.row_bounds.proofs.AscentLaws.{whole_there}
use Rattle.row_bounds.proofs.bounding.Ascent.settle.Goals as goal

pub judged-requires-clause-there : goal.judged-requires-clause-there
judged-requires-clause-there c = whole_there (parts_of c.args.known.now) c.args.cube.now c.pairs.result.now (c.pairs.ensures.pairs ∙ c.requires.ascent)
