-- For the code's own contracts: what is said of the edges into a component and of those out of it, by the side.
use Rattle.std.specs.Prelude.{ℕ, sum_by}
use Rattle.arch_model.specs.declared.sets.CompId.{CompId}
use Rattle.arch_model.specs.declared.template.Edge.{Edge}
use Rattle.arch_model.specs.Parts.{LibraryParts, ArchitectureParts}
use Rattle.arch_model.specs.Pattern.{at_component, edges_into, edges_out_of, in_degree, out_degree}
use Rattle.patterns.specs.declared.sides.Side.{Side}
use Rattle.patterns.specs.declared.sides.Side.TheVariants.{In, Out}

-- the end of an edge that is at the component
abbrev pub near : Side → Edge → CompId
near In e = e.head
near Out e = e.tail

-- its other end
abbrev pub far : Side → Edge → CompId
far In e = e.tail
far Out e = e.head

-- how many present edges join component i on its side to instances of type t
abbrev pub degree_of : Side → LibraryParts → ArchitectureParts → ℕ → ℕ → ℕ
degree_of In = in_degree
degree_of Out = out_degree

-- what the other end counts for: its supply into the component, or its demand out of it
abbrev pub rated : Side → LibraryParts → ℕ → ℕ
rated In lib c = at_component lib (λ c. c.supply) c
rated Out lib c = at_component lib (λ c. c.demand) c

-- the sum of these over the present edges on a side of component i
abbrev pub flow_of : Side → LibraryParts → ArchitectureParts → ℕ → ℕ
flow_of In lib arch i = sum_by (λ e. at_component lib (λ c. c.supply) e.tail.0) (edges_into lib arch i)
flow_of Out lib arch i = sum_by (λ e. at_component lib (λ c. c.demand) e.head.0) (edges_out_of lib arch i)
