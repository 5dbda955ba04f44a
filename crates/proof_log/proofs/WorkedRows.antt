-- The definitions, computed on lines of small logs.
use Rattle.std.proofs.Common.{◌≡◌, ℕ, List, [], ◌∷◌, codes, None, Some, refl}
use Rattle.std.specs.Fmt.{digits}
use Rattle.arch_model.specs.Set.{has, members_below}
use Rattle.rows.specs.declared.known.RowRef.TheVariants.{Base, Cut, Cost}
use Rattle.redundancy_cut.specs.declared.cut.Cut.TheVariants.{Redundancy, NoGood}
use Rattle.search_core.specs.declared.entry.Entry.TheVariants.{Take, Branch, Prune, Study, Publish, Accept, Park, Reopen}
use Rattle.search_core.specs.declared.answer.Answer.TheVariants.{Optimal, Infeasible, NodeLimit}
use Rattle.proof_log.specs.Line.{version, redundancy, no_good, line_text}
use Rattle.proof_log.specs.Value.{text_of, entry_text, closing_text}

version_line : text_of version ≡ codes "archex-log 1"
unfolding digits
version_line = refl

take_line : entry_text (Take 0 2 0 None) ≡ codes "take 0 2 0 none"
unfolding digits
take_line = refl

bounded_take_line : entry_text (Take 0 1 0 (Some 35)) ≡ codes "take 0 1 0 35"
unfolding digits
bounded_take_line = refl

branch_line : entry_text (Branch 0 0 (Base 2 ∷ Cut 0 ∷ []) (record { 0 = 10 })) ≡ codes "branch 0 0 b2,c0 10"
unfolding digits
branch_line = refl

prune_line : entry_text (Prune 0 1 [] (record { row = Cost; times = 1 } ∷ record { row = Base 7; times = 12 } ∷ [])) ≡ codes "prune 0 1 - u*1,b7*12"
unfolding digits
prune_line = refl

redundancy_line : text_of (redundancy 0 2 0 [] (0 ∷ 3 ∷ [])) ≡ codes "publish 0 2 redundancy 0 - 0,3"
unfolding digits
redundancy_line = refl

no_good_line : text_of (no_good 0 2 0 (1 ∷ 63 ∷ [])) ≡ codes "publish 0 2 nogood 0 1,63"
unfolding digits
no_good_line = refl

optimal_line : closing_text (Optimal 3) 1 0 ≡ codes "answer optimal 3 1 0"
unfolding digits
optimal_line = refl

infeasible_line : closing_text Infeasible 1 2 ≡ codes "answer infeasible none 1 2"
unfolding digits
infeasible_line = refl

node_limit_line : closing_text (NodeLimit None) 0 0 ≡ codes "answer nodelimit none 0 0"
unfolding digits
node_limit_line = refl

best_at_limit_line : closing_text (NodeLimit (Some 5)) 6 2 ≡ codes "answer nodelimit 5 6 2"
unfolding digits
best_at_limit_line = refl

-- entries whose numbers all differ, so that each is seen in its place
placed_take_line : entry_text (Take 3 7 2 (Some 35)) ≡ codes "take 3 7 2 35"
unfolding digits
placed_take_line = refl

placed_redundancy_line : entry_text (Publish 3 7 (Redundancy 15 (record { mask = 33 }) (record { mask = 6 }))) ≡ codes "publish 3 7 redundancy 15 0,5 1,2"
unfolding digits has members_below
placed_redundancy_line = refl

placed_no_good_line : entry_text (Publish 3 7 (NoGood 1 (record { mask = 17 }))) ≡ codes "publish 3 7 nogood 1 0,4"
unfolding digits has members_below
placed_no_good_line = refl

study_line : entry_text (Study 3 7) ≡ codes "study 3 7"
unfolding digits
study_line = refl

accept_line : entry_text (Accept 3 7 40) ≡ codes "accept 3 7 40"
unfolding digits
accept_line = refl

park_line : entry_text (Park 3 7) ≡ codes "park 3 7"
unfolding digits
park_line = refl

reopen_line : entry_text (Reopen 12) ≡ codes "reopen 12"
unfolding digits
reopen_line = refl

-- what is written for a line whose numbers are runs of digits, of any length and with leading zeros
written_line : line_text (λ (ds : List ℕ). ds) (redundancy (codes "00") (codes "2") (codes "0") (codes "64" ∷ []) []) ≡ codes "publish 00 2 redundancy 0 64 -"
written_line = refl
