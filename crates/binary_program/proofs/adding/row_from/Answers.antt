use Rattle.std.proofs.Common.{◌∙◌}
use Rattle.binary_program.proofs.BuildRows.{is_row, made_row}
use Rattle.binary_program.proofs.adding.row_from.Goals as goal

pub new-requires : goal.new-requires
new-requires c =
    is_row c.args.n c.args.terms.now c.in_ok-coefs.coefs.items c.deref.result.now c.in_ok-terms.terms.items c.args.least c.in_ok-coefs.ensures.len c.in_ok-coefs.ensures.value c.in_ok-coefs.ensures.small c.deref.ensures.value c.in_ok-terms.ensures c.requires.least

pub returns : goal.returns
returns c =
    c.new.ensures
    ∙ made_row c.args.n c.args.terms.now c.in_ok-coefs.coefs.items c.deref.result.now c.in_ok-terms.terms.items c.args.least c.in_ok-coefs.ensures.len c.in_ok-coefs.ensures.value c.in_ok-coefs.ensures.small c.deref.ensures.value c.in_ok-terms.ensures c.requires.least
