use Rattle.std.proofs.Common.{ap, ◌∙◌}
use Rattle.search_core.specs.Inner.Nodes.{map_of}
use Rattle.search_core.proofs.LiveLists.{map_of-none}
use Rattle.search_core.proofs.nodes.Nodes.new.Goals as goal

pub returns : goal.returns
returns c = ap map_of c.new.ensures.items ∙ map_of-none
