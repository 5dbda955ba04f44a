-- The lines of a log, and their fields.
use Rattle.std.specs.Prelude.{ℕ, ◌^◌, List, [], ◌∷◌, codes, Option}
use Rattle.arch_model.specs.declared.limits.TheConstants.{COMPONENTS}
use Rattle.proof_log.specs.Field.{RowName, Field, word, number, optional, trace, reason, members, AMOUNTS, fields_text}

-- a line, with N for a number: three header lines, one for each kind of entry and of cut, and a closing line for each kind of answer
pub data Line (N : Type 0) : Type 0 where
  version : Line N
  vars : N → N → Line N
  limits : N → Line N
  takes : N → N → N → Option N → Line N
  branches : N → N → List (RowName N) → N → Line N
  prunes : N → N → List (RowName N) → List (RowName N × N) → Line N
  offers : N → N → List (RowName N) → Line N
  studies : N → N → Line N
  redundancy : N → N → N → List N → List N → Line N
  no_good : N → N → N → List N → Line N
  accepts : N → N → N → Line N
  parks : N → N → Line N
  reopens : N → Line N
  optimal : N → N → N → Line N
  infeasible : N → N → Line N
  node_limit : Option N → N → N → Line N

-- what the number of a member of a redundancy cut's set has to stay below: it is a component of the template
abbrev pub SET_NUMBERS : ℕ
SET_NUMBERS = COMPONENTS

-- a number that fits 32 bits
abbrev pub small : {N : Type 0} → N → Field N
small n = number (2 ^ 32) n

-- a cost
abbrev pub amount : {N : Type 0} → N → Field N
amount n = number AMOUNTS n

-- components, by number
abbrev pub components : {N : Type 0} → List N → Field N
components ns = members COMPONENTS ns

-- the fields of each line
abbrev pub line_fields : {N : Type 0} → Line N → List (Field N)
line_fields version = word (codes "archex-log") ∷ word (codes "1") ∷ []
line_fields (vars comps edges) = word (codes "vars") ∷ small comps ∷ small edges ∷ []
line_fields (limits limit) = word (codes "limit") ∷ small limit ∷ []
line_fields (takes worker node cuts bound) = word (codes "take") ∷ small worker ∷ small node ∷ small cuts ∷ optional bound ∷ []
line_fields (branches worker node steps var) = word (codes "branch") ∷ small worker ∷ small node ∷ trace steps ∷ small var ∷ []
line_fields (prunes worker node steps pairs) = word (codes "prune") ∷ small worker ∷ small node ∷ trace steps ∷ reason pairs ∷ []
line_fields (offers worker node steps) = word (codes "offer") ∷ small worker ∷ small node ∷ trace steps ∷ []
line_fields (studies worker node) = word (codes "study") ∷ small worker ∷ small node ∷ []
line_fields (redundancy worker node requirement set far) =
    word (codes "publish") ∷ small worker ∷ small node ∷ word (codes "redundancy") ∷ small requirement ∷ members SET_NUMBERS set ∷ components far ∷ []
line_fields (no_good worker node requirement cone) =
    word (codes "publish") ∷ small worker ∷ small node ∷ word (codes "nogood") ∷ small requirement ∷ components cone ∷ []
line_fields (accepts worker node cost) = word (codes "accept") ∷ small worker ∷ small node ∷ amount cost ∷ []
line_fields (parks worker node) = word (codes "park") ∷ small worker ∷ small node ∷ []
line_fields (reopens limit) = word (codes "reopen") ∷ small limit ∷ []
line_fields (optimal cost branchings cuts) = word (codes "answer") ∷ word (codes "optimal") ∷ amount cost ∷ small branchings ∷ small cuts ∷ []
line_fields (infeasible branchings cuts) = word (codes "answer") ∷ word (codes "infeasible") ∷ word (codes "none") ∷ small branchings ∷ small cuts ∷ []
line_fields (node_limit best branchings cuts) = word (codes "answer") ∷ word (codes "nodelimit") ∷ optional best ∷ small branchings ∷ small cuts ∷ []

-- what is written for a line, without its line feed
abbrev pub line_text : {N : Type 0} → (N → List ℕ) → Line N → List ℕ
line_text digits line = fields_text digits (line_fields line)
