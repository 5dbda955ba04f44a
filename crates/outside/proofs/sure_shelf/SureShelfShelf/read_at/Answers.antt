use Rattle.std.proofs.Common.{arith}
use Rattle.outside.specs.Sure.{sure_told}
use Rattle.outside.proofs.SureLaws.{read_found, read_empty}
use Rattle.outside.proofs.sure_shelf.SureShelfShelf.read_at.Goals as goal

pub returns-clause-found : goal.returns-clause-found
returns-clause-found c =
    read_found (sure_told c.args.self.now c.args.name.now) _ c.args.into.now _ _ _ c.bytes_of.ensures c.copy_from.ensures.count c.copy_from.ensures.copied (omega arith)

pub returns-clause-empty : goal.returns-clause-empty
returns-clause-empty c = read_empty (sure_told c.args.self.now c.args.name.now) _ _ _ _ c.bytes_of.ensures c.copy_from.ensures.count
