-- For the code's own contracts: how what contracts see of nodes and of a state is stored.
use Rattle.std.specs.Prelude.{◌≡◌, ℕ, zero, suc, ℤ, List, Option, None, refl}
use Rattle.std.specs.Coded.{Coded, code_by, coded×, coded_ℕ, coded_ℤ, coded_list, coded_option}
use Rattle.std.specs.Ordering.{nat_cmp}
use Rattle.std.specs.FinMap.{FinMap, code}
use Rattle.arch_model.specs.Set.{Set}
use Rattle.arch_model.specs.Inner.Sets.{set_code}
use Rattle.arch_model.specs.Parts.{ArchitectureParts}
use Rattle.rows.specs.Parts.{CubeParts, CutParts}
use Rattle.incumbent.specs.declared.best.Best.{Best}
use Rattle.search_core.specs.Node.{Node, Open, Held, Pending, Studied, Parked}
use Rattle.search_core.specs.State.{SearchState}
use Rattle.search_core.specs.Parts.{StateParts}

-- a cube is stored as its two sets
abbrev pub cube_code : Coded CubeParts
cube_code = code_by (Set × Set) (coded× set_code set_code) (λ c. (c.fixed, c.ones)) (λ p. record { fixed = p.0; ones = p.1 }) (λ _. refl)

-- what is stored of a node: which kind it is, its cube, its worker, and what it knows
abbrev pub StoredNode : Type 0
StoredNode = ℕ × (CubeParts × (ℕ × (ℕ × Option ℕ)))

-- a node as it is stored, and back
abbrev pub stored_node : Node → StoredNode
stored_node (Open cube) = (0, (cube, (0, (0, None))))
stored_node (Held cube worker cuts bound) = (1, (cube, (worker, (cuts, bound))))
stored_node (Pending cube) = (2, (cube, (0, (0, None))))
stored_node (Studied cube worker) = (3, (cube, (worker, (0, None))))
stored_node (Parked cube) = (4, (cube, (0, (0, None))))

-- the node of a kind and the rest
abbrev pub node_of_kind : ℕ → CubeParts × (ℕ × (ℕ × Option ℕ)) → Node
node_of_kind zero p = Open p.0
node_of_kind (suc zero) p = Held p.0 p.1.0 p.1.1.0 p.1.1.1
node_of_kind (suc (suc zero)) p = Pending p.0
node_of_kind (suc (suc (suc zero))) p = Studied p.0 p.1.0
node_of_kind (suc (suc (suc (suc n)))) p = Parked p.0

-- nothing is lost on the way
pub node_of_kind-stored : (node : Node) → node_of_kind (stored_node node).0 (stored_node node).1 ≡ node
node_of_kind-stored (Open cube) = refl
node_of_kind-stored (Held cube worker cuts bound) = refl
node_of_kind-stored (Pending cube) = refl
node_of_kind-stored (Studied cube worker) = refl
node_of_kind-stored (Parked cube) = refl

-- a node is stored so
abbrev pub node_code : Coded Node
node_code = code_by StoredNode (coded× coded_ℕ (coded× cube_code (coded× coded_ℕ (coded× coded_ℕ (coded_option coded_ℕ))))) stored_node (λ p. node_of_kind p.0 p.1) node_of_kind-stored

-- a cut is stored as its parts
abbrev pub cut_code : Coded CutParts
cut_code = code_by (Set × (Set × ℤ)) (coded× set_code (coded× set_code coded_ℤ)) (λ c. (c.plus, (c.minus, c.least))) (λ p. record { plus = p.0; minus = p.1.0; least = p.1.1 }) (λ _. refl)

-- an architecture is stored as its two sets
abbrev pub architecture_code : Coded ArchitectureParts
architecture_code = code_by (Set × Set) (coded× set_code set_code) (λ a. (a.comps, a.edges)) (λ p. record { comps = p.0; edges = p.1 }) (λ _. refl)

-- a best is stored as its cost and its architecture
abbrev pub best_code : Coded Best
best_code = code_by (ℕ × ArchitectureParts) (coded× coded_ℕ architecture_code) (λ b. (b.cost, b.architecture)) (λ p. record { cost = p.0; architecture = p.1 }) (λ _. refl)

-- what is stored of a state: its parts
abbrev pub StoredState : Type 0
StoredState = FinMap nat_cmp Node × (List CutParts × (Option Best × (ℕ × ℕ)))

-- a state of a search is stored as its parts
abbrev pub state_code : Coded SearchState
state_code =
    code_by StoredState (coded× (code coded_ℕ node_code) (coded× (coded_list cut_code) (coded× (coded_option best_code) (coded× coded_ℕ coded_ℕ))))
    (λ s. (s.nodes, (s.cuts, (s.best, (s.branchings, s.limit)))))
    (λ p. record { nodes = p.0; cuts = p.1.0; best = p.1.1.0; branchings = p.1.1.1.0; limit = p.1.1.1.1 }) (λ _. refl)

-- what contracts see of the code's state is stored as its four parts
abbrev pub parts_code : Coded StateParts
parts_code =
    code_by (SearchState × (ℕ × (ℕ × ℕ))) (coded× state_code (coded× coded_ℕ (coded× coded_ℕ coded_ℕ))) (λ p. (p.search, (p.components, (p.edges, p.spare))))
    (λ p. record { search = p.0; components = p.1.0; edges = p.1.1.0; spare = p.1.1.1 }) (λ _. refl)
