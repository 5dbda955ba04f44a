-- Each line of a log: its shape, its judgement, and that it is read again.
use Rattle.std.proofs.Common.{◌≡◌, ℕ, ◌≤◌, ◌<◌, Bool, true, false, ◌&&◌, List, [], ◌∷◌, ◌++◌, codes, refl, sym, ◌∙◌, append_assoc, arith, inl, inr}
use Rattle.std.specs.Prelude.{Ok}
use Rattle.std.specs.List.{AllByRecursion}
use Rattle.std.specs.List.Sorted.{IsStrictlyIncreasing}
use Rattle.std.specs.Fmt.{decimal}
use Rattle.std.proofs.lemmas.List.{append-nil}
use Rattle.arch_model.specs.Set.{members_below, empty}
use Rattle.arch_model.specs.declared.limits.TheConstants.{COMPONENTS, MEMBERS}
use Rattle.proof_log.specs.Line.{SET_NUMBERS, vars, limits, takes, branches, prunes, offers, studies, redundancy, no_good, accepts, parks, reopens, optimal, infeasible, node_limit}
use Rattle.proof_log.specs.Inner.Reading.{Kind, a_number, an_optional, a_trace, a_reason, a_list, a_small, an_amount, set_of, ascend_from, ascends_at, ◌>>=◌}
use Rattle.proof_log.specs.Inner.Reading as reading
use Rattle.proof_log.proofs.Ascending.{ascend_yes, ascend_back, increasing, from_increasing, members_read}
use Rattle.proof_log.proofs.KindLaws.{tail_text}
use Rattle.proof_log.proofs.ReadLaws.{as_it_is}
use Rattle.proof_log.proofs.Shapes.{Judgement, Makes, Shape}

-- ---- lines without lists that have to ascend

abbrev pub vars_kinds : List Kind
vars_kinds = a_small ∷ a_small ∷ []

abbrev pub made_vars : reading.Values [] → reading.Values vars_kinds → Judgement
made_vars h x = Ok (vars x.0 x.1.0)

abbrev pub vars_shape : Shape (codes "vars") [] [] vars_kinds made_vars
vars_shape = record {
  sized = (tt, (omega arith, (omega arith, tt)));
  written = λ a b. vars b.0 b.1.0;
  valued = λ a b. vars b.0 b.1.0;
  written_text = λ a b. refl;
  valued_text = λ a b. refl;
  good = λ a b ga gb. ((tt, tt), gb);
  range = λ a b ra rb. ((tt, tt), rb);
  makes = λ a b ra rb. inl (refl, (tt, (tt, (tt, tt))));
}

abbrev pub limit_kinds : List Kind
limit_kinds = a_small ∷ []

abbrev pub made_limit : reading.Values [] → reading.Values limit_kinds → Judgement
made_limit h x = Ok (limits x.0)

abbrev pub limit_shape : Shape (codes "limit") [] [] limit_kinds made_limit
limit_shape = record {
  sized = (tt, (omega arith, tt));
  written = λ a b. limits b.0;
  valued = λ a b. limits b.0;
  written_text = λ a b. refl;
  valued_text = λ a b. refl;
  good = λ a b ga gb. ((tt, tt), gb);
  range = λ a b ra rb. ((tt, tt), rb);
  makes = λ a b ra rb. inl (refl, (tt, (tt, tt)));
}

abbrev pub take_kinds : List Kind
take_kinds = a_small ∷ a_small ∷ a_small ∷ an_optional ∷ []

abbrev pub made_take : reading.Values [] → reading.Values take_kinds → Judgement
made_take h x = Ok (takes x.0 x.1.0 x.1.1.0 x.1.1.1.0)

abbrev pub take_shape : Shape (codes "take") [] [] take_kinds made_take
take_shape = record {
  sized = (tt, (omega arith, (omega arith, (omega arith, (tt, tt)))));
  written = λ a b. takes b.0 b.1.0 b.1.1.0 b.1.1.1.0;
  valued = λ a b. takes b.0 b.1.0 b.1.1.0 b.1.1.1.0;
  written_text = λ a b. refl;
  valued_text = λ a b. refl;
  good = λ a b ga gb. ((tt, tt), gb);
  range = λ a b ra rb. ((tt, tt), rb);
  makes = λ a b ra rb. inl (refl, (tt, (tt, (tt, (tt, (tt, tt))))));
}

abbrev pub branch_kinds : List Kind
branch_kinds = a_small ∷ a_small ∷ a_trace ∷ a_small ∷ []

abbrev pub made_branch : reading.Values [] → reading.Values branch_kinds → Judgement
made_branch h x = Ok (branches x.0 x.1.0 x.1.1.0 x.1.1.1.0)

abbrev pub branch_shape : Shape (codes "branch") [] [] branch_kinds made_branch
branch_shape = record {
  sized = (tt, (omega arith, (omega arith, (tt, (omega arith, tt)))));
  written = λ a b. branches b.0 b.1.0 b.1.1.0 b.1.1.1.0;
  valued = λ a b. branches b.0 b.1.0 b.1.1.0 b.1.1.1.0;
  written_text = λ a b. refl;
  valued_text = λ a b. refl;
  good = λ a b ga gb. ((tt, tt), gb);
  range = λ a b ra rb. ((tt, tt), rb);
  makes = λ a b ra rb. inl (refl, (tt, (tt, (tt, (tt, (tt, tt))))));
}

abbrev pub prune_kinds : List Kind
prune_kinds = a_small ∷ a_small ∷ a_trace ∷ a_reason ∷ []

abbrev pub made_prune : reading.Values [] → reading.Values prune_kinds → Judgement
made_prune h x = Ok (prunes x.0 x.1.0 x.1.1.0 x.1.1.1.0)

abbrev pub prune_shape : Shape (codes "prune") [] [] prune_kinds made_prune
prune_shape = record {
  sized = (tt, (omega arith, (omega arith, (tt, (tt, tt)))));
  written = λ a b. prunes b.0 b.1.0 b.1.1.0 b.1.1.1.0;
  valued = λ a b. prunes b.0 b.1.0 b.1.1.0 b.1.1.1.0;
  written_text = λ a b. refl;
  valued_text = λ a b. refl;
  good = λ a b ga gb. ((tt, tt), gb);
  range = λ a b ra rb. ((tt, tt), rb);
  makes = λ a b ra rb. inl (refl, (tt, (tt, (tt, (tt, (tt, tt))))));
}

abbrev pub offer_kinds : List Kind
offer_kinds = a_small ∷ a_small ∷ a_trace ∷ []

abbrev pub made_offer : reading.Values [] → reading.Values offer_kinds → Judgement
made_offer h x = Ok (offers x.0 x.1.0 x.1.1.0)

abbrev pub offer_shape : Shape (codes "offer") [] [] offer_kinds made_offer
offer_shape = record {
  sized = (tt, (omega arith, (omega arith, (tt, tt))));
  written = λ a b. offers b.0 b.1.0 b.1.1.0;
  valued = λ a b. offers b.0 b.1.0 b.1.1.0;
  written_text = λ a b. refl;
  valued_text = λ a b. refl;
  good = λ a b ga gb. ((tt, tt), gb);
  range = λ a b ra rb. ((tt, tt), rb);
  makes = λ a b ra rb. inl (refl, (tt, (tt, (tt, (tt, tt)))));
}

abbrev pub study_kinds : List Kind
study_kinds = a_small ∷ a_small ∷ []

abbrev pub made_study : reading.Values [] → reading.Values study_kinds → Judgement
made_study h x = Ok (studies x.0 x.1.0)

abbrev pub study_shape : Shape (codes "study") [] [] study_kinds made_study
study_shape = record {
  sized = (tt, (omega arith, (omega arith, tt)));
  written = λ a b. studies b.0 b.1.0;
  valued = λ a b. studies b.0 b.1.0;
  written_text = λ a b. refl;
  valued_text = λ a b. refl;
  good = λ a b ga gb. ((tt, tt), gb);
  range = λ a b ra rb. ((tt, tt), rb);
  makes = λ a b ra rb. inl (refl, (tt, (tt, (tt, tt))));
}

abbrev pub accept_kinds : List Kind
accept_kinds = a_small ∷ a_small ∷ an_amount ∷ []

abbrev pub made_accept : reading.Values [] → reading.Values accept_kinds → Judgement
made_accept h x = Ok (accepts x.0 x.1.0 x.1.1.0)

abbrev pub accept_shape : Shape (codes "accept") [] [] accept_kinds made_accept
accept_shape = record {
  sized = (tt, (omega arith, (omega arith, (omega arith, tt))));
  written = λ a b. accepts b.0 b.1.0 b.1.1.0;
  valued = λ a b. accepts b.0 b.1.0 b.1.1.0;
  written_text = λ a b. refl;
  valued_text = λ a b. refl;
  good = λ a b ga gb. ((tt, tt), gb);
  range = λ a b ra rb. ((tt, tt), rb);
  makes = λ a b ra rb. inl (refl, (tt, (tt, (tt, (tt, tt)))));
}

abbrev pub park_kinds : List Kind
park_kinds = a_small ∷ a_small ∷ []

abbrev pub made_park : reading.Values [] → reading.Values park_kinds → Judgement
made_park h x = Ok (parks x.0 x.1.0)

abbrev pub park_shape : Shape (codes "park") [] [] park_kinds made_park
park_shape = record {
  sized = (tt, (omega arith, (omega arith, tt)));
  written = λ a b. parks b.0 b.1.0;
  valued = λ a b. parks b.0 b.1.0;
  written_text = λ a b. refl;
  valued_text = λ a b. refl;
  good = λ a b ga gb. ((tt, tt), gb);
  range = λ a b ra rb. ((tt, tt), rb);
  makes = λ a b ra rb. inl (refl, (tt, (tt, (tt, tt))));
}

abbrev pub reopen_kinds : List Kind
reopen_kinds = a_small ∷ []

abbrev pub made_reopen : reading.Values [] → reading.Values reopen_kinds → Judgement
made_reopen h x = Ok (reopens x.0)

abbrev pub reopen_shape : Shape (codes "reopen") [] [] reopen_kinds made_reopen
reopen_shape = record {
  sized = (tt, (omega arith, tt));
  written = λ a b. reopens b.0;
  valued = λ a b. reopens b.0;
  written_text = λ a b. refl;
  valued_text = λ a b. refl;
  good = λ a b ga gb. ((tt, tt), gb);
  range = λ a b ra rb. ((tt, tt), rb);
  makes = λ a b ra rb. inl (refl, (tt, (tt, tt)));
}

abbrev pub optimal_kinds : List Kind
optimal_kinds = an_amount ∷ a_small ∷ a_small ∷ []

abbrev pub made_optimal : reading.Values [] → reading.Values optimal_kinds → Judgement
made_optimal h x = Ok (optimal x.0 x.1.0 x.1.1.0)

abbrev pub optimal_shape : Shape (codes "answer optimal") [] [] optimal_kinds made_optimal
optimal_shape = record {
  sized = (tt, (omega arith, (omega arith, (omega arith, tt))));
  written = λ a b. optimal b.0 b.1.0 b.1.1.0;
  valued = λ a b. optimal b.0 b.1.0 b.1.1.0;
  written_text = λ a b. refl;
  valued_text = λ a b. refl;
  good = λ a b ga gb. ((tt, tt), ((tt, tt), gb));
  range = λ a b ra rb. ((tt, tt), ((tt, tt), rb));
  makes = λ a b ra rb. inl (refl, (tt, (tt, (tt, (tt, (tt, tt))))));
}

abbrev pub infeasible_kinds : List Kind
infeasible_kinds = a_small ∷ a_small ∷ []

abbrev pub made_infeasible : reading.Values [] → reading.Values infeasible_kinds → Judgement
made_infeasible h x = Ok (infeasible x.0 x.1.0)

abbrev pub infeasible_shape : Shape (codes "answer infeasible none") [] [] infeasible_kinds made_infeasible
infeasible_shape = record {
  sized = (tt, (omega arith, (omega arith, tt)));
  written = λ a b. infeasible b.0 b.1.0;
  valued = λ a b. infeasible b.0 b.1.0;
  written_text = λ a b. refl;
  valued_text = λ a b. refl;
  good = λ a b ga gb. ((tt, tt), ((tt, tt), ((tt, tt), gb)));
  range = λ a b ra rb. ((tt, tt), ((tt, tt), ((tt, tt), rb)));
  makes = λ a b ra rb. inl (refl, (tt, (tt, (tt, (tt, (tt, tt))))));
}

abbrev pub node_limit_kinds : List Kind
node_limit_kinds = an_optional ∷ a_small ∷ a_small ∷ []

abbrev pub made_node_limit : reading.Values [] → reading.Values node_limit_kinds → Judgement
made_node_limit h x = Ok (node_limit x.0 x.1.0 x.1.1.0)

abbrev pub node_limit_shape : Shape (codes "answer nodelimit") [] [] node_limit_kinds made_node_limit
node_limit_shape = record {
  sized = (tt, (tt, (omega arith, (omega arith, tt))));
  written = λ a b. node_limit b.0 b.1.0 b.1.1.0;
  valued = λ a b. node_limit b.0 b.1.0 b.1.1.0;
  written_text = λ a b. refl;
  valued_text = λ a b. refl;
  good = λ a b ga gb. ((tt, tt), ((tt, tt), gb));
  range = λ a b ra rb. ((tt, tt), ((tt, tt), rb));
  makes = λ a b ra rb. inl (refl, (tt, (tt, (tt, (tt, (tt, tt))))));
}

-- ---- lines with lists that have to ascend

abbrev pub head_kinds : List Kind
head_kinds = a_small ∷ a_small ∷ []

list_up : (ns : List ℕ) → ascend_from 0 ns ≡ true → IsStrictlyIncreasing ns
list_up ns e = increasing 0 ns (ascend_yes 0 ns e)

list_back : (ns : List ℕ) → IsStrictlyIncreasing ns → ascend_from 0 ns ≡ true
list_back ns up = ascend_back 0 ns (from_increasing 0 ns up (λ k h. omega arith))

list_read : (ns : List ℕ) (limit n : ℕ) → ascend_from 0 ns ≡ true → AllByRecursion (λ m. (0 ≤ m) × (m < limit)) ns → limit ≤ n → members_below (set_of empty ns) n ≡ ns
list_read ns limit n e r le = members_read ns limit n (ascend_yes 0 ns e) (small ns r) le
  where
    small : (ns : List ℕ) → AllByRecursion (λ m. (0 ≤ m) × (m < limit)) ns → AllByRecursion (λ m. m < limit) ns
    small [] r = tt
    small (k ∷ ks) r = (r.0.1, small ks r.1)

pub text_of_parts : (p s t m tail : List ℕ) → p ++ (s ++ (t ++ (m ++ tail))) ≡ (p ++ ((s ++ (t ++ [])) ++ m)) ++ tail
text_of_parts p s t m tail = sym (simp (append_assoc, append-nil))

abbrev pub redundancy_kinds : List Kind
redundancy_kinds = a_small ∷ a_list SET_NUMBERS ∷ a_list COMPONENTS ∷ []

abbrev pub made_redundancy : reading.Values head_kinds → reading.Values redundancy_kinds → Judgement
made_redundancy h x = ascends_at (x.1.0.1 && x.1.1.0.1) >>= λ _. Ok (redundancy h.0 h.1.0 x.0 (members_below x.1.0.0 MEMBERS) (members_below x.1.1.0.0 COMPONENTS))

and_true : (a b : Bool) → (a && b) ≡ true → (a ≡ true) × (b ≡ true)
and_true true b e = (refl, e)
and_true false b e = absurd cc

pub redundancy_makes : (w n q : ℕ) (set far : List ℕ) → AllByRecursion (λ m. (0 ≤ m) × (m < SET_NUMBERS)) set → AllByRecursion (λ m. (0 ≤ m) × (m < COMPONENTS)) far
    → Makes (ascends_at (ascend_from 0 set && ascend_from 0 far) >>= λ _. Ok (redundancy w n q (members_below (set_of empty set) MEMBERS) (members_below (set_of empty far) COMPONENTS))) (redundancy w n q set far)
redundancy_makes w n q set far rs rf = by (ascend_from 0 set && ascend_from 0 far) refl
  where
    by : (b : Bool) → (ascend_from 0 set && ascend_from 0 far) ≡ b → Makes (ascends_at b >>= λ _. Ok (redundancy w n q (members_below (set_of empty set) MEMBERS) (members_below (set_of empty far) COMPONENTS))) (redundancy w n q set far)
    by true e =
        let t = and_true (ascend_from 0 set) (ascend_from 0 far) e in
        let s : members_below (set_of empty set) MEMBERS ≡ set = list_read set SET_NUMBERS MEMBERS t.0 rs (omega arith) in
        let f : members_below (set_of empty far) COMPONENTS ≡ far = list_read far COMPONENTS COMPONENTS t.1 rf (omega arith) in
        inl ((λ i. Ok (redundancy w n q (s i) (f i))), (tt, (tt, (tt, (tt, (tt, (list_up set t.0, (list_up far t.1, tt))))))))
    by false e = inr (refl, λ up. absurd (let a = list_back set up.1.1.1.1.1.0 in let b = list_back far up.1.1.1.1.1.1.0 in let c : (ascend_from 0 set && ascend_from 0 far) ≡ true = rw (a, b) refl in let d : true ≡ false = sym c ∙ e in cc))

abbrev pub redundancy_shape : Shape (codes "publish") head_kinds (codes " redundancy") redundancy_kinds made_redundancy
redundancy_shape = record {
  sized = ((omega arith, (omega arith, tt)), (omega arith, (omega arith, (omega arith, tt))));
  written = λ a b. redundancy a.0 a.1.0 b.0 b.1.0 b.1.1.0;
  valued = λ a b. redundancy a.0 a.1.0 b.0 b.1.0 b.1.1.0;
  written_text = λ a b. text_of_parts (codes "publish") (codes " " ++ a.0) (codes " " ++ a.1.0) (codes " redundancy") (tail_text as_it_is redundancy_kinds b);
  valued_text = λ a b. text_of_parts (codes "publish") (codes " " ++ decimal a.0) (codes " " ++ decimal a.1.0) (codes " redundancy") (tail_text decimal redundancy_kinds b);
  good = λ a b ga gb. ((tt, tt), (ga.0, (ga.1.0, ((tt, tt), gb))));
  range = λ a b ra rb. ((tt, tt), (ra.0, (ra.1.0, ((tt, tt), rb))));
  makes = λ a b ra rb. redundancy_makes a.0 a.1.0 b.0 b.1.0 b.1.1.0 rb.1.0.0 rb.1.1.0.0;
}

abbrev pub no_good_kinds : List Kind
no_good_kinds = a_small ∷ a_list COMPONENTS ∷ []

abbrev pub made_no_good : reading.Values head_kinds → reading.Values no_good_kinds → Judgement
made_no_good h x = ascends_at x.1.0.1 >>= λ _. Ok (no_good h.0 h.1.0 x.0 (members_below x.1.0.0 COMPONENTS))

pub no_good_makes : (w n q : ℕ) (cone : List ℕ) → AllByRecursion (λ m. (0 ≤ m) × (m < COMPONENTS)) cone
    → Makes (ascends_at (ascend_from 0 cone) >>= λ _. Ok (no_good w n q (members_below (set_of empty cone) COMPONENTS))) (no_good w n q cone)
no_good_makes w n q cone r = by (ascend_from 0 cone) refl
  where
    by : (b : Bool) → ascend_from 0 cone ≡ b → Makes (ascends_at b >>= λ _. Ok (no_good w n q (members_below (set_of empty cone) COMPONENTS))) (no_good w n q cone)
    by true e =
        let s : members_below (set_of empty cone) COMPONENTS ≡ cone = list_read cone COMPONENTS COMPONENTS e r (omega arith) in
        inl ((λ i. Ok (no_good w n q (s i))), (tt, (tt, (tt, (tt, (tt, (list_up cone e, tt)))))))
    by false e = inr (refl, λ up. absurd (let d : true ≡ false = sym (list_back cone up.1.1.1.1.1.0) ∙ e in cc))

abbrev pub no_good_shape : Shape (codes "publish") head_kinds (codes " nogood") no_good_kinds made_no_good
no_good_shape = record {
  sized = ((omega arith, (omega arith, tt)), (omega arith, (omega arith, tt)));
  written = λ a b. no_good a.0 a.1.0 b.0 b.1.0;
  valued = λ a b. no_good a.0 a.1.0 b.0 b.1.0;
  written_text = λ a b. text_of_parts (codes "publish") (codes " " ++ a.0) (codes " " ++ a.1.0) (codes " nogood") (tail_text as_it_is no_good_kinds b);
  valued_text = λ a b. text_of_parts (codes "publish") (codes " " ++ decimal a.0) (codes " " ++ decimal a.1.0) (codes " nogood") (tail_text decimal no_good_kinds b);
  good = λ a b ga gb. ((tt, tt), (ga.0, (ga.1.0, ((tt, tt), gb))));
  range = λ a b ra rb. ((tt, tt), (ra.0, (ra.1.0, ((tt, tt), rb))));
  makes = λ a b ra rb. no_good_makes a.0 a.1.0 b.0 b.1.0 rb.1.0.0;
}
