-- For the code's own contracts: steps of a search over rows of successors.
use Rattle.std.specs.Prelude.{ℕ, ◌+◌, Bool, ◌&&◌, not, List}
use Rattle.arch_model.specs.declared.template.Edge.{Edge}
use Rattle.paths.specs.declared.adjacency.Way.{Way}
use Rattle.paths.specs.declared.adjacency.Way.TheVariants.{Down, Up}
use Rattle.arch_model.specs.Set.{Set, has}
use Rattle.arch_model.specs.Architecture.{present}
use Rattle.arch_model.specs.Path.{joins}

-- the end at which an edge is entered, and the other
abbrev pub from_of : Way → Edge → ℕ
from_of Down e = e.tail.0
from_of Up e = e.head.0

-- the end to which an edge is walked
abbrev pub to_of : Way → Edge → ℕ
to_of Down e = e.head.0
to_of Up e = e.tail.0

-- whether one of some edges is walked from a to c
abbrev pub leads : Way → List Edge → ℕ → ℕ → Bool
leads Down edges a c = joins edges a c
leads Up edges a c = joins edges c a

-- the edges that are chosen and not failed, the first edge being member n
abbrev pub live : Set → Set → ℕ → List Edge → List Edge
live chosen failed n edges = present (λ e. has chosen e && not (has failed (n + e))) edges
