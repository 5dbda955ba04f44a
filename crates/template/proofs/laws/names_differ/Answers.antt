use Rattle.template.proofs.Distinct as distinct
use Rattle.template.proofs.laws.names_differ.Goals as goal

pub returns : goal.returns
returns c = distinct.names_differ
