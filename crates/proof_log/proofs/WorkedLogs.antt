-- Whole logs of three small libraries.
use Rattle.std.proofs.Common.{◌≡◌, List, [], ◌∷◌, length, codes, None, Some, refl}
use Rattle.std.specs.Fmt.{digits}
use Rattle.arch_model.specs.Set.{Set, has, members_below}
use Rattle.rows.specs.Parts.{ProblemParts}
use Rattle.rows.specs.declared.known.RowRef.TheVariants.{Base, Cut, Cost}
use Rattle.redundancy_cut.specs.declared.cut.Cut.TheVariants.{Redundancy}
use Rattle.search_core.specs.declared.entry.Entry.{Entry}
use Rattle.search_core.specs.declared.entry.Entry.TheVariants.{Take, Branch, Prune, Offer, Study, Publish, Accept}
use Rattle.search_core.specs.declared.answer.Answer.TheVariants.{Optimal, Infeasible}
use Rattle.proof_log.specs.Log.{log_text_of}

-- one component is asked for, and there is one
one_component : List Entry
one_component = Take 0 0 0 None ∷ Offer 0 0 (Base 0 ∷ []) ∷ Study 0 0 ∷ Accept 0 0 7 ∷ []

log_of_one : (problem : ProblemParts) → length problem.library.components ≡ 1 → length problem.library.edges ≡ 0
    → log_text_of problem 0 one_component (Optimal 7) 0 0 ≡ codes "archex-log 1\nvars 1 0\nlimit 0\ntake 0 0 0 none\noffer 0 0 b0\nstudy 0 0\naccept 0 0 7\nanswer optimal 7 0 0\n"
unfolding digits one_component
log_of_one problem c e = rw (c, e) refl

-- one of two components is asked for
abbrev pub one_of_two : List Entry
one_of_two =
    Take 0 0 0 None
    ∷ Branch 0 0 [] (record { 0 = 0 })
    ∷ Take 0 2 0 None
    ∷ Offer 0 2 (Base 0 ∷ [])
    ∷ Study 0 2
    ∷ Accept 0 2 3
    ∷ Take 0 1 0 (Some 3)
    ∷ Prune 0 1 [] (record { row = Cost; times = 1 } ∷ [])
    ∷ []

pub log_of_two : (problem : ProblemParts) → length problem.library.components ≡ 2 → length problem.library.edges ≡ 0
    → log_text_of problem 4 one_of_two (Optimal 3) 1 0
    ≡ codes "archex-log 1\nvars 2 0\nlimit 4\ntake 0 0 0 none\nbranch 0 0 - 0\ntake 0 2 0 none\noffer 0 2 b0\nstudy 0 2\naccept 0 2 3\ntake 0 1 0 3\nprune 0 1 - u*1\nanswer optimal 3 1 0\n"
unfolding digits
log_of_two problem c e = rw (c, e) refl

-- a source and a sink that it feeds, whose bound nothing meets
only_zero : Set
only_zero = record { mask = 1 }

no_one : Set
no_one = record { mask = 0 }

source_and_sink : List Entry
source_and_sink =
    Take 0 0 0 None
    ∷ Branch 0 0 (Base 2 ∷ []) (record { 0 = 0 })
    ∷ Take 0 2 0 None
    ∷ Offer 0 2 (Base 0 ∷ [])
    ∷ Study 0 2
    ∷ Publish 0 2 (Redundancy 0 no_one only_zero)
    ∷ Take 0 1 1 None
    ∷ Offer 0 1 (Cut 0 ∷ [])
    ∷ Study 0 1
    ∷ Publish 0 1 (Redundancy 0 only_zero no_one)
    ∷ []

log_of_source : (problem : ProblemParts) → length problem.library.components ≡ 2 → length problem.library.edges ≡ 1
    → log_text_of problem 8 source_and_sink Infeasible 1 2
    ≡ codes "archex-log 1\nvars 2 1\nlimit 8\ntake 0 0 0 none\nbranch 0 0 b2 0\ntake 0 2 0 none\noffer 0 2 b0\nstudy 0 2\npublish 0 2 redundancy 0 - 0\ntake 0 1 1 none\noffer 0 1 c0\nstudy 0 1\npublish 0 1 redundancy 0 0 -\nanswer infeasible none 1 2\n"
unfolding digits source_and_sink only_zero no_one has members_below
log_of_source problem c e = rw (c, e) refl
