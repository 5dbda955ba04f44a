-- Worked rows: what the definitions compute on small libraries.
use Rattle.std.proofs.Common.{◌≡◌, ℕ, ◌<◌, ◌≤◌, ◌↔◌, ℤ, pos, negsuc, Bool, length, true, false, nat_eq, arith, List, [], ◌∷◌, map, take, drop, replicate, Option, Some, None, refl}
use Rattle.std.specs.List.{All, range_with_len, list_all}
use Rattle.arch_model.specs.declared.library.TypeRow.{TypeRow}
use Rattle.arch_model.specs.declared.library.LinkRow.{LinkRow}
use Rattle.arch_model.specs.declared.library.Pattern.{Pattern}
use Rattle.arch_model.specs.declared.library.Pattern.TheVariants.{Count, InDegree, OutDegree, InNeedsOut, Exclusive, Implies, Forbid, TotalSupply, LocalSupply, CostCap}
use Rattle.arch_model.specs.declared.template.Role.TheVariants.{Source, Middle, Sink}
use Rattle.arch_model.specs.Parts.{LibraryParts, ArchitectureParts}
use Rattle.arch_model.specs.Member.{member_count}
use Rattle.arch_model.specs.Set.{has, empty, put, union, members_below}
use Rattle.arch_model.specs.Library.{library_parts}
use Rattle.arch_model.specs.Template.{template_of}
use Rattle.rows.specs.declared.row.Term.{Term}
use Rattle.rows.specs.declared.known.Pair.{Pair}
use Rattle.rows.specs.declared.known.RowRef.TheVariants.{Base, Cut, Cost}
use Rattle.rows.specs.Parts.{RowParts, KnownParts}
use Rattle.rows.specs.declared.cut.TheConstants.{CUTS}
use Rattle.rows.specs.Row.{term, RowHolds, IsSized, IsRowBelow}
use Rattle.std.proofs.lemmas.Int.{ints}
use Rattle.rows.specs.Cube.{whole, fixed_at, is_free}
use Rattle.rows.specs.Activity.{greatest_activity, least_activity, is_refuted, is_unmet, least_forced}
use Rattle.rows.specs.Inner.Quiet.{is_quiet_at}
use Rattle.rows.specs.Known.{known_rows}
use Rattle.rows.specs.BaseRows.{base_rows_of, cost_row_of}
use Rattle.rows.specs.Trace.{cube_after}
use Rattle.rows.specs.Problem.{IsVectorOf, IsCandidate, DecidePatterns}
use Rattle.rows.specs.Reason.{IsReason, combination_of}
use Rattle.rows.specs.Ascent.{times_of, ascent_of, is_ascent_refuted}

-- the limits that clauses and definitions cite: how many cuts a list has at most
limits : CUTS ≡ 100001
limits = refl

-- numbers of a row at the limit, and past it
sized : IsSized (pos 10000000000000000) × IsSized (negsuc 9999999999999999)
sized = (omega arith, omega arith)

not-sized : IsSized (pos 10000000000000001) → ⊥
not-sized h = omega (arith, h)

not-sized_below : IsSized (negsuc 10000000000000000) → ⊥
not-sized_below h = omega (arith, h)

-- a reason has 1 to 64 pairs, with multipliers of 1 to 10^12
reason-when : (pairs : List Pair) → 1 ≤ length pairs → length pairs ≤ 64 → All (λ p. 1 ≤ p.times) pairs → All (λ p. p.times ≤ 1000000000000) pairs → IsReason pairs
reason-when pairs some few positive small = record { some = some; few = few; positive = positive; sized = small }

reason-then : (pairs : List Pair) → IsReason pairs → (1 ≤ length pairs) × (length pairs ≤ 64) × All (λ p. 1 ≤ p.times) pairs × All (λ p. p.times ≤ 1000000000000) pairs
reason-then pairs is = (is.some, is.few, is.positive, is.sized)

-- a problem has fewer than 2^32 rows
few_rows-when : (lib : LibraryParts) (rows : List RowParts) → length rows < 4294967296 → All (IsRowBelow (member_count lib)) rows
    → ((x : ℕ → Bool) → All (λ row. RowHolds row x) rows ↔ ((arch : ArchitectureParts) × IsVectorOf lib arch x × IsCandidate lib arch)) → DecidePatterns lib rows
few_rows-when lib rows few variables exact = record { few = few; variables = variables; exact = exact }

few_rows-then : (lib : LibraryParts) (rows : List RowParts) → DecidePatterns lib rows → length rows < 4294967296
few_rows-then lib rows is = is.few

-- a row written out
abbrev row : List Term → ℤ → RowParts
row terms least = record { terms = terms; least = least }

-- 3 x_0 - 2 x_1: the ends of its range in a cube, and where 2 at least is unmet
abbrev mixed : RowParts
mixed = row (term 0 (pos 3) ∷ term 1 (negsuc 1) ∷ []) (pos 2)

mixed-whole : (greatest_activity mixed whole ≡ pos 3) × (least_activity mixed whole ≡ negsuc 1)
unfolding has empty put
mixed-whole = (refl, refl)

mixed-one : (least_activity mixed (fixed_at whole 0 true) ≡ pos 1) × (is_unmet mixed (fixed_at whole 0 true) ≡ true)
unfolding has empty put
mixed-one = (refl, refl)

mixed-met : is_unmet mixed (fixed_at (fixed_at whole 0 true) 1 false) ≡ false
unfolding has empty put
mixed-met = refl

-- no row is added more than 10^12 times
times-limit : times_of whole (λ v. 3000000000000) (row (term 0 (pos 1) ∷ []) (pos 1)) ≡ 1000000000000
unfolding has empty put
times-limit = refl

-- U: a source s of cost 1, and a required sink t
abbrev types_u : List TypeRow
types_u =
    record { name = 1 ∷ []; role = Source; max = 1; cost = 1; supply = 0; demand = 0; fail = 1000 }
    ∷ (record { name = 2 ∷ []; role = Sink; max = 1; cost = 0; supply = 0; demand = 0; fail = 0 } ∷ [])

abbrev links_u : List LinkRow
links_u = record { from = 0; to = 1; cost = 0; fail = 0 } ∷ []

abbrev lib_u : LibraryParts
lib_u = library_parts types_u links_u (template_of types_u links_u) [] (record { sink = record { 0 = 1 }; bound = 0 } ∷ [])

u-rows : base_rows_of lib_u
    ≡ row (term 0 (pos 1) ∷ term 2 (negsuc 0) ∷ []) (pos 0)
    ∷ row (term 1 (pos 1) ∷ term 2 (negsuc 0) ∷ []) (pos 0)
    ∷ row (term 1 (pos 1) ∷ []) (pos 1)
    ∷ []
unfolding base_rows_of
u-rows = refl

-- Q: a source a, two middles b and a sink c, with links a to b and b to c
abbrev types_q : List TypeRow
types_q =
    record { name = 1 ∷ []; role = Source; max = 1; cost = 2; supply = 3; demand = 0; fail = 0 }
    ∷ (record { name = 2 ∷ []; role = Middle; max = 2; cost = 1; supply = 0; demand = 0; fail = 0 }
    ∷ (record { name = 3 ∷ []; role = Sink; max = 1; cost = 0; supply = 0; demand = 5; fail = 0 } ∷ []))

abbrev links_q : List LinkRow
links_q = record { from = 0; to = 1; cost = 1; fail = 0 } ∷ (record { from = 1; to = 2; cost = 1; fail = 0 } ∷ [])

abbrev lib_q : Pattern → LibraryParts
lib_q p = library_parts types_q links_q (template_of types_q links_q) (p ∷ []) []

-- the rows of one pattern over Q, after the edges' eight
abbrev rows_q : Pattern → List RowParts
rows_q p = drop 8 (base_rows_of (lib_q p))

q-edges : take 8 (base_rows_of (lib_q TotalSupply))
    ≡ row (term 0 (pos 1) ∷ term 4 (negsuc 0) ∷ []) (pos 0)
    ∷ row (term 1 (pos 1) ∷ term 4 (negsuc 0) ∷ []) (pos 0)
    ∷ row (term 0 (pos 1) ∷ term 5 (negsuc 0) ∷ []) (pos 0)
    ∷ row (term 2 (pos 1) ∷ term 5 (negsuc 0) ∷ []) (pos 0)
    ∷ row (term 1 (pos 1) ∷ term 6 (negsuc 0) ∷ []) (pos 0)
    ∷ row (term 3 (pos 1) ∷ term 6 (negsuc 0) ∷ []) (pos 0)
    ∷ row (term 2 (pos 1) ∷ term 7 (negsuc 0) ∷ []) (pos 0)
    ∷ row (term 3 (pos 1) ∷ term 7 (negsuc 0) ∷ []) (pos 0)
    ∷ []
unfolding base_rows_of
q-edges = refl

q-count : rows_q (Count 1 1 (Some 1))
    ≡ row (term 1 (pos 1) ∷ term 2 (pos 1) ∷ []) (pos 1)
    ∷ row (term 1 (negsuc 0) ∷ term 2 (negsuc 0) ∷ []) (negsuc 0)
    ∷ []
unfolding base_rows_of
q-count = refl

q-indegree : rows_q (InDegree 2 1 2 None) ≡ row (term 3 (negsuc 1) ∷ term 6 (pos 1) ∷ term 7 (pos 1) ∷ []) (pos 0) ∷ []
unfolding base_rows_of
q-indegree = refl

q-outdegree : rows_q (OutDegree 0 1 0 (Some 1)) ≡ row (term 4 (negsuc 0) ∷ term 5 (negsuc 0) ∷ []) (negsuc 0) ∷ []
unfolding base_rows_of
q-outdegree = refl

q-in_needs_out : rows_q (InNeedsOut 1 0 2)
    ≡ row (term 4 (negsuc 0) ∷ term 6 (pos 1) ∷ []) (pos 0)
    ∷ row (term 5 (negsuc 0) ∷ term 7 (pos 1) ∷ []) (pos 0)
    ∷ []
unfolding base_rows_of
q-in_needs_out = refl

q-exclusive : rows_q (Exclusive 2 1 0) ≡ []
unfolding base_rows_of
q-exclusive = refl

q-implies : rows_q (Implies 0 1) ≡ row (term 0 (negsuc 0) ∷ term 1 (pos 1) ∷ term 2 (pos 1) ∷ []) (pos 0) ∷ []
unfolding base_rows_of
q-implies = refl

q-forbid : rows_q (Forbid (record { 0 = 0 }) (record { 0 = 2 })) ≡ row (term 5 (negsuc 0) ∷ []) (pos 0) ∷ []
unfolding base_rows_of
q-forbid = refl

q-total_supply : rows_q TotalSupply ≡ row (term 0 (pos 3) ∷ term 3 (negsuc 4) ∷ []) (pos 0) ∷ []
unfolding base_rows_of
q-total_supply = refl

q-local_supply : rows_q (LocalSupply 1)
    ≡ row (term 4 (pos 3) ∷ term 6 (negsuc 4) ∷ []) (pos 0)
    ∷ row (term 5 (pos 3) ∷ term 7 (negsuc 4) ∷ []) (pos 0)
    ∷ []
unfolding base_rows_of
q-local_supply = refl

q-cost_cap : rows_q (CostCap 4)
    ≡ row (term 0 (negsuc 1) ∷ term 1 (negsuc 0) ∷ term 2 (negsuc 0) ∷ term 4 (negsuc 0) ∷ term 5 (negsuc 0) ∷ term 6 (negsuc 0) ∷ term 7 (negsuc 0) ∷ []) (negsuc 3)
    ∷ []
unfolding base_rows_of
q-cost_cap = refl

-- terms of one variable are added up, and those that vanish are dropped
q-implies_itself : rows_q (Implies 1 1) ≡ row (term 2 (pos 1) ∷ []) (pos 0) ∷ row (term 1 (pos 1) ∷ []) (pos 0) ∷ []
unfolding base_rows_of
q-implies_itself = refl

-- a type of two sources that feeds a type of two middles, which is linked to itself
abbrev types_s : List TypeRow
types_s =
    record { name = 1 ∷ []; role = Source; max = 2; cost = 0; supply = 4; demand = 1; fail = 0 }
    ∷ (record { name = 2 ∷ []; role = Middle; max = 2; cost = 0; supply = 7; demand = 2; fail = 0 } ∷ [])

abbrev links_s : List LinkRow
links_s = record { from = 0; to = 1; cost = 0; fail = 0 } ∷ (record { from = 1; to = 1; cost = 0; fail = 0 } ∷ [])

abbrev rows_s : Pattern → List RowParts
rows_s p = drop 12 (base_rows_of (library_parts types_s links_s (template_of types_s links_s) (p ∷ []) []))

-- edges 4 to 9: 0-2, 0-3, 1-2, 1-3, 2-3, 3-2
s-in_needs_out : rows_s (InNeedsOut 1 0 1)
    ≡ row (term 4 (negsuc 0) ∷ term 8 (pos 1) ∷ []) (pos 0)
    ∷ row (term 6 (negsuc 0) ∷ term 8 (pos 1) ∷ []) (pos 0)
    ∷ row (term 5 (negsuc 0) ∷ term 9 (pos 1) ∷ []) (pos 0)
    ∷ row (term 7 (negsuc 0) ∷ term 9 (pos 1) ∷ []) (pos 0)
    ∷ []
unfolding base_rows_of
s-in_needs_out = refl

s-exclusive : rows_s (Exclusive 1 1 0)
    ≡ row (term 4 (negsuc 0) ∷ term 6 (negsuc 0) ∷ term 9 (negsuc 1) ∷ []) (negsuc 1)
    ∷ row (term 5 (negsuc 0) ∷ term 7 (negsuc 0) ∷ term 8 (negsuc 1) ∷ []) (negsuc 1)
    ∷ []
unfolding base_rows_of
s-exclusive = refl

s-local_supply : rows_s (LocalSupply 1)
    ≡ row (term 4 (pos 4) ∷ term 6 (pos 4) ∷ term 8 (negsuc 1) ∷ term 9 (pos 7) ∷ []) (pos 0)
    ∷ row (term 5 (pos 4) ∷ term 7 (pos 4) ∷ term 8 (pos 7) ∷ term 9 (negsuc 1) ∷ []) (pos 0)
    ∷ []
unfolding base_rows_of
s-local_supply = refl

-- a program of a library and its base rows, without cuts
abbrev known_of : LibraryParts → Option ℕ → KnownParts
known_of lib bound = record { problem = record { library = lib; base = base_rows_of lib }; cuts = []; upto = 0; bound = bound }

-- X: one middle of cost 7, of which one is asked for
abbrev types_x : List TypeRow
types_x = record { name = 1 ∷ []; role = Middle; max = 1; cost = 7; supply = 0; demand = 0; fail = 0 } ∷ []

abbrev lib_x : LibraryParts
lib_x = library_parts types_x [] (template_of types_x []) (Count 0 1 None ∷ []) []

-- b0 forces the one variable to 1, and then nothing is free
x-whole : cube_after (known_of lib_x None) whole (Base 0 ∷ []) ≡ Some (fixed_at whole 0 true)
unfolding base_rows_of has empty put
x-whole = refl

x-full : is_free (fixed_at whole 0 true) 0 ≡ false
unfolding has empty put
x-full = refl

x-quiet : list_all (is_quiet_at (fixed_at whole 0 true)) (known_rows (known_of lib_x None)) ≡ true
unfolding base_rows_of has empty put
x-quiet = refl

-- P: two sources of cost 3, of which a least number is asked for
abbrev types_p : List TypeRow
types_p = record { name = 1 ∷ []; role = Source; max = 2; cost = 3; supply = 0; demand = 0; fail = 0 } ∷ []

abbrev lib_p : ℕ → LibraryParts
lib_p min = library_parts types_p [] (template_of types_p []) (Count 0 min None ∷ []) []

abbrev p_row : RowParts
p_row = row (term 0 (pos 1) ∷ term 1 (pos 1) ∷ []) (pos 1)

p-rows : base_rows_of (lib_p 1) ≡ p_row ∷ []
unfolding base_rows_of
p-rows = refl

-- P's row holds where the second source alone is present, and not where none is
p-holds : RowHolds p_row (λ v. nat_eq v 1)
p-holds = omega (arith, ints)

p-fails : RowHolds p_row (λ v. false) → ⊥
p-fails h = absurd (omega (arith, ints))

-- P's row neither forces nor is refuted in the whole cube
p-whole-forced : least_forced p_row whole ≡ None
unfolding has empty put
p-whole-forced = refl

p-whole-refuted : is_refuted p_row whole ≡ false
unfolding has empty put
p-whole-refuted = refl

-- so the whole cube is quiet where there is no bound
p-whole-quiet : list_all (is_quiet_at whole) (known_rows (known_of (lib_p 1) None)) ≡ true
unfolding base_rows_of has empty put
p-whole-quiet = refl

-- with variable 0 at 0 it forces variable 1 to 1, and what is reached is quiet
p-zero : cube_after (known_of (lib_p 1) None) (fixed_at whole 0 false) (Base 0 ∷ []) ≡ Some (fixed_at (fixed_at whole 0 false) 1 true)
unfolding base_rows_of has empty put
p-zero = refl

p-zero-loud : list_all (is_quiet_at (fixed_at whole 0 false)) (known_rows (known_of (lib_p 1) None)) ≡ false
unfolding base_rows_of has empty put
p-zero-loud = refl

p-zero-quiet : list_all (is_quiet_at (fixed_at (fixed_at whole 0 false) 1 true)) (known_rows (known_of (lib_p 1) None)) ≡ true
unfolding base_rows_of has empty put
p-zero-quiet = refl

-- the bound 3 asks for a cost of at most 2: the cost row forces both variables to 0, and then P's row is refuted
p-cost : cost_row_of (lib_p 1) 3 ≡ row (term 0 (negsuc 2) ∷ term 1 (negsuc 2) ∷ []) (negsuc 1)
p-cost = refl

p-bound : cube_after (known_of (lib_p 1) (Some 3)) whole (Cost ∷ Cost ∷ []) ≡ Some (fixed_at (fixed_at whole 0 false) 1 false)
unfolding base_rows_of has empty put
p-bound = refl

p-bound-refuted : is_refuted p_row (fixed_at (fixed_at whole 0 false) 1 false) ≡ true
unfolding has empty put
p-bound-refuted = refl

-- with at least two asked for, b0 forces both to 1, the least first
p-both : cube_after (known_of (lib_p 2) None) whole (Base 0 ∷ Base 0 ∷ []) ≡ Some (fixed_at (fixed_at whole 0 true) 1 true)
unfolding base_rows_of has empty put
p-both = refl

p-both-quiet : list_all (is_quiet_at (fixed_at (fixed_at whole 0 true) 1 true)) (known_rows (known_of (lib_p 2) None)) ≡ true
unfolding base_rows_of has empty put
p-both-quiet = refl

-- a step whose row forces nothing, or isn't there, is not legal
p-idle : cube_after (known_of (lib_p 1) None) whole (Base 0 ∷ []) ≡ None
unfolding base_rows_of has empty put
p-idle = refl

p-absent : cube_after (known_of (lib_p 1) None) whole (Cost ∷ []) ≡ None
unfolding base_rows_of has empty put
p-absent = refl

-- twelve types of two sources of cost 10, of each of which one is asked for
abbrev type_twelve : TypeRow
type_twelve = record { name = 1 ∷ []; role = Source; max = 2; cost = 10; supply = 0; demand = 0; fail = 0 }

abbrev lib_twelve : LibraryParts
lib_twelve =
    library_parts (replicate 12 type_twelve) [] (template_of (replicate 12 type_twelve) []) (map (λ t. Count t 1 None) (range_with_len 0 12)) []

-- the cost row once, and each base row ten times
abbrev twelve_pairs : List Pair
twelve_pairs = record { row = Cost; times = 1 } ∷ map (λ i. record { row = Base i; times = 10 }) (range_with_len 0 12)

twelve-ascent-120 : ascent_of (known_of lib_twelve (Some 120)) whole ≡ Some twelve_pairs
unfolding base_rows_of has empty
twelve-ascent-120 = refl

twelve-ascent-121 : ascent_of (known_of lib_twelve (Some 121)) whole ≡ Some twelve_pairs
unfolding base_rows_of has empty
twelve-ascent-121 = refl

-- for the bound 120 they say 0 >= 1, for 121 they say 0 >= 0
twelve-says-120 : combination_of (known_of lib_twelve (Some 120)) twelve_pairs ≡ row [] (pos 1)
unfolding base_rows_of
twelve-says-120 = refl

twelve-says-121 : combination_of (known_of lib_twelve (Some 121)) twelve_pairs ≡ row [] (pos 0)
unfolding base_rows_of
twelve-says-121 = refl

twelve-refuted-120 : is_ascent_refuted (known_of lib_twelve (Some 120)) whole ≡ true
unfolding base_rows_of has empty
twelve-refuted-120 = refl

twelve-refuted-121 : is_ascent_refuted (known_of lib_twelve (Some 121)) whole ≡ false
unfolding base_rows_of has empty
twelve-refuted-121 = refl

-- without a bound there is no ascent
twelve-none : is_ascent_refuted (known_of lib_twelve None) whole ≡ false
twelve-none = refl

-- P with its pattern twice: what the first row takes of the residues isn't there for the second
abbrev lib_pp : LibraryParts
lib_pp = library_parts types_p [] (template_of types_p []) (Count 0 1 None ∷ (Count 0 1 None ∷ [])) []

abbrev cost_once : Pair
cost_once = record { row = Cost; times = 1 }

pp-ascent : ascent_of (known_of lib_pp (Some 3)) whole ≡ Some (cost_once ∷ record { row = Base 0; times = 3 } ∷ [])
unfolding base_rows_of has empty
pp-ascent = refl

-- a row whose least is reached by the variables at 1 is passed over
pp-ascent-one : ascent_of (known_of lib_pp (Some 3)) (fixed_at whole 0 true) ≡ Some (cost_once ∷ [])
unfolding base_rows_of has empty put
pp-ascent-one = refl

-- where no helper is free, a row is taken as often as may be
pp-ascent-none : ascent_of (known_of lib_pp (Some 3)) (fixed_at (fixed_at whole 0 false) 1 false)
    ≡ Some (cost_once ∷ record { row = Base 0; times = 1000000000000 } ∷ record { row = Base 1; times = 1000000000000 } ∷ [])
unfolding base_rows_of has empty put
pp-ascent-none = refl

-- a source of cost 3 and supply 2, and two sinks of demand 1, both asked for: quotients are rounded down, and a negative
-- coefficient adds to a residue
abbrev types_d : List TypeRow
types_d =
    record { name = 1 ∷ []; role = Source; max = 1; cost = 3; supply = 2; demand = 0; fail = 0 }
    ∷ (record { name = 2 ∷ []; role = Sink; max = 2; cost = 0; supply = 0; demand = 1; fail = 0 } ∷ [])

abbrev lib_d : LibraryParts
lib_d = library_parts types_d [] (template_of types_d []) (TotalSupply ∷ (Count 1 2 None ∷ [])) []

d-ascent : ascent_of (known_of lib_d (Some 3)) (fixed_at whole 1 true)
    ≡ Some (cost_once ∷ record { row = Base 0; times = 1 } ∷ record { row = Base 1; times = 1 } ∷ [])
unfolding base_rows_of has empty put
d-ascent = refl

-- 64 types of one instance of cost 1, each asked for: the 64th pair is the last
abbrev type_many : TypeRow
type_many = record { name = 1 ∷ []; role = Source; max = 1; cost = 1; supply = 0; demand = 0; fail = 0 }

abbrev lib_many : LibraryParts
lib_many =
    library_parts (replicate 64 type_many) [] (template_of (replicate 64 type_many) []) (map (λ t. Count t 1 None) (range_with_len 0 64)) []

many-ascent : ascent_of (known_of lib_many (Some 9)) whole ≡ Some (cost_once ∷ map (λ i. record { row = Base i; times = 1 }) (range_with_len 0 63))
unfolding base_rows_of has empty
many-ascent = refl

-- a cut is looked at after the base rows
abbrev cut_known : KnownParts
cut_known =
    record { problem = record { library = lib_p 1; base = [] }; cuts = record { plus = record { mask = 3 }; minus = empty; least = pos 1 } ∷ []; upto = 1; bound = Some 3 }

cut-ascent : ascent_of cut_known whole ≡ Some (cost_once ∷ record { row = Cut 0; times = 3 } ∷ [])
unfolding has empty union members_below
cut-ascent = refl
