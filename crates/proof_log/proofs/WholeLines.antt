-- Whole lines: their judgement, that a written line has form, and that a line in range is read again.
use Rattle.std.proofs.Common.{◌≡◌, ℕ, Bool, true, false, List, [], ◌∷◌, ◌++◌, get_or, codes, Option, Some, None, refl, sym, ap, subst, ◌∙◌, append_assoc, inl, ⊎_elim}
use Rattle.std.specs.Prelude.{Ok, Err}
use Rattle.std.specs.Fmt.{decimal}
use Rattle.std.proofs.lemmas.List.{append-nil}
use Rattle.proof_log.specs.declared.log_line.LineFault.TheVariants.{Form}
use Rattle.proof_log.specs.declared.word.Word.{Word}
use Rattle.proof_log.specs.declared.word.Word.TheVariants as words
use Rattle.proof_log.specs.Line.{Line, version, vars, limits, takes, branches, prunes, offers, studies, redundancy, no_good, accepts, parks, reopens, optimal, infeasible, node_limit, line_text}
use Rattle.proof_log.specs.Fault.{IsWritten, IsInRange}
use Rattle.proof_log.specs.Inner.Reading.{Kind, Seen, after, whichever, behind, end_at, fields_at, ◌>>=◌, word_front, word_rest, word_text, word_among, all_words, line_behind, line_named, whole_line_at, take_at, branch_at, prune_at, offer_at, study_at, publish_at, redundancy_at, no_good_at, accept_at, park_at, reopen_at, version_at, vars_at, limit_at, answer_at, optimal_at, infeasible_at, node_limit_at}
use Rattle.proof_log.specs.Inner.Reading as reading
use Rattle.proof_log.proofs.FirstWords.{word_and_rest, among_is}
use Rattle.proof_log.proofs.ReadLaws.{as_it_is, in_words}
use Rattle.proof_log.proofs.KindLaws.{Values, AreGood, gots, tail_text, fields_again, fields_found, FoundAll, HaveNoForm}
use Rattle.proof_log.proofs.Shapes.{Judgement, AreInRange, WrittenSo, whole_all, froms, front_text, Makes, Shape, Judges, rest_at, rest_judges, rest_has_form, rest_again}
use Rattle.proof_log.proofs.LineShapes as shapes

-- ---- judgements

-- one word after another is tried
tries : (pre w bytes : List ℕ) (found : List ℕ → Judgement) (other : Judgement) → ((rest : List ℕ) → Judges (pre ++ (w ++ rest)) (found rest)) → Judges (pre ++ bytes) other → Judges (pre ++ bytes) (whichever (after w bytes) found other)
tries pre w bytes found other good_if no_such = ⊎_elim
    (λ (h : (rest : List ℕ) × (after w bytes ≡ Some rest) × (bytes ≡ w ++ rest)). at h.0 h.1 h.2)
    (λ (n : after w bytes ≡ None). let P : Option (List ℕ) → Type 0 = λ o. Judges (pre ++ bytes) (whichever o found other) in subst P (sym n) no_such)
    (in_words w bytes)
  where
    at : (rest : List ℕ) → after w bytes ≡ Some rest → bytes ≡ w ++ rest → Judges (pre ++ bytes) (whichever (after w bytes) found other)
    at rest e parts =
        let P : Option (List ℕ) → Type 0 = λ o. Judges (pre ++ bytes) (whichever o found other) in
        let Q : List ℕ → Type 0 = λ l. Judges (pre ++ l) (found rest) in
        subst P (sym e) (subst Q (sym parts) (good_if rest))

wants : (pre w bytes : List ℕ) (found : List ℕ → Judgement) → ((rest : List ℕ) → Judges (pre ++ (w ++ rest)) (found rest)) → Judges (pre ++ bytes) (behind w bytes >>= found)
wants pre w bytes found good_if = ⊎_elim
    (λ (h : (rest : List ℕ) × (after w bytes ≡ Some rest) × (bytes ≡ w ++ rest)). at h.0 h.1 h.2)
    (λ (n : after w bytes ≡ None). let P : Option (List ℕ) → Type 0 = λ o. Judges (pre ++ bytes) (whichever o (λ rest. Ok rest) (Err Form) >>= found) in subst P (sym n) tt)
    (in_words w bytes)
  where
    at : (rest : List ℕ) → after w bytes ≡ Some rest → bytes ≡ w ++ rest → Judges (pre ++ bytes) (behind w bytes >>= found)
    at rest e parts =
        let P : Option (List ℕ) → Type 0 = λ o. Judges (pre ++ bytes) (whichever o (λ r. Ok r) (Err Form) >>= found) in
        let Q : List ℕ → Type 0 = λ l. Judges (pre ++ l) (found rest) in
        subst P (sym e) (subst Q (sym parts) (good_if rest))

vars_judges : (rest : List ℕ) → Judges (codes "vars" ++ rest) (vars_at rest)
vars_judges rest = rest_judges (codes "vars") [] [] shapes.vars_kinds shapes.made_vars shapes.vars_shape tt rest tt

limit_judges : (rest : List ℕ) → Judges (codes "limit" ++ rest) (limit_at rest)
limit_judges rest = rest_judges (codes "limit") [] [] shapes.limit_kinds shapes.made_limit shapes.limit_shape tt rest tt

take_judges : (rest : List ℕ) → Judges (codes "take" ++ rest) (take_at rest)
take_judges rest = rest_judges (codes "take") [] [] shapes.take_kinds shapes.made_take shapes.take_shape tt rest tt

branch_judges : (rest : List ℕ) → Judges (codes "branch" ++ rest) (branch_at rest)
branch_judges rest = rest_judges (codes "branch") [] [] shapes.branch_kinds shapes.made_branch shapes.branch_shape tt rest tt

prune_judges : (rest : List ℕ) → Judges (codes "prune" ++ rest) (prune_at rest)
prune_judges rest = rest_judges (codes "prune") [] [] shapes.prune_kinds shapes.made_prune shapes.prune_shape tt rest tt

offer_judges : (rest : List ℕ) → Judges (codes "offer" ++ rest) (offer_at rest)
offer_judges rest = rest_judges (codes "offer") [] [] shapes.offer_kinds shapes.made_offer shapes.offer_shape tt rest tt

study_judges : (rest : List ℕ) → Judges (codes "study" ++ rest) (study_at rest)
study_judges rest = rest_judges (codes "study") [] [] shapes.study_kinds shapes.made_study shapes.study_shape tt rest tt

accept_judges : (rest : List ℕ) → Judges (codes "accept" ++ rest) (accept_at rest)
accept_judges rest = rest_judges (codes "accept") [] [] shapes.accept_kinds shapes.made_accept shapes.accept_shape tt rest tt

park_judges : (rest : List ℕ) → Judges (codes "park" ++ rest) (park_at rest)
park_judges rest = rest_judges (codes "park") [] [] shapes.park_kinds shapes.made_park shapes.park_shape tt rest tt

reopen_judges : (rest : List ℕ) → Judges (codes "reopen" ++ rest) (reopen_at rest)
reopen_judges rest = rest_judges (codes "reopen") [] [] shapes.reopen_kinds shapes.made_reopen shapes.reopen_shape tt rest tt

optimal_judges : (rest : List ℕ) → Judges (codes "answer optimal" ++ rest) (optimal_at rest)
optimal_judges rest = rest_judges (codes "answer optimal") [] [] shapes.optimal_kinds shapes.made_optimal shapes.optimal_shape tt rest tt

infeasible_judges : (rest : List ℕ) → Judges (codes "answer infeasible none" ++ rest) (infeasible_at rest)
infeasible_judges rest = rest_judges (codes "answer infeasible none") [] [] shapes.infeasible_kinds shapes.made_infeasible shapes.infeasible_shape tt rest tt

node_limit_judges : (rest : List ℕ) → Judges (codes "answer nodelimit" ++ rest) (node_limit_at rest)
node_limit_judges rest = rest_judges (codes "answer nodelimit") [] [] shapes.node_limit_kinds shapes.made_node_limit shapes.node_limit_shape tt rest tt

version_ended : (rest : List ℕ) → Judges (codes "archex-log" ++ (codes " 1" ++ rest)) (end_at rest >>= λ _. Ok version)
version_ended [] = ((version, ((tt, tt), ((tt, tt), tt)), refl), ((tt, tt), ((tt, tt), tt)), (tt, (tt, tt)), refl)
version_ended (b ∷ rest) = tt

version_judges : (rest : List ℕ) → Judges (codes "archex-log" ++ rest) (version_at rest)
version_judges rest = wants (codes "archex-log") (codes " 1") rest (λ b. end_at b >>= λ _. Ok version) version_ended

publish_judges : (rest : List ℕ) → Judges (codes "publish" ++ rest) (publish_at rest)
publish_judges rest = ⊎_elim
    (λ (f : FoundAll shapes.head_kinds rest). found f.0 f.1 f.2 f.3 (publish_at rest) (f.4 next))
    (λ (n : HaveNoForm shapes.head_kinds rest). let P : Judgement → Type 0 = Judges (codes "publish" ++ rest) in subst P (sym (n next)) tt)
    (fields_found shapes.head_kinds rest)
  where
    next : Seen shapes.head_kinds → List ℕ → Judgement
    next head bytes = whichever (after (codes " redundancy") bytes) (λ b. redundancy_at head.0 head.1.0 b) (behind (codes " nogood") bytes >>= λ b. no_good_at head.0 head.1.0 b)

    regroup : (a : Values (List ℕ) shapes.head_kinds) (m b : List ℕ) → front_text as_it_is (codes "publish") shapes.head_kinds m a ++ b ≡ (codes "publish" ++ tail_text as_it_is shapes.head_kinds a) ++ (m ++ b)
    regroup a m b =
        let t = tail_text as_it_is shapes.head_kinds a in
        append_assoc (codes "publish") (t ++ m) b ∙ ap (λ (l : List ℕ). codes "publish" ++ l) (append_assoc t m b) ∙ sym (append_assoc (codes "publish") t (m ++ b))

    redundant : (a : Values (List ℕ) shapes.head_kinds) → AreGood shapes.head_kinds a → (b : List ℕ) → Judges ((codes "publish" ++ tail_text as_it_is shapes.head_kinds a) ++ (codes " redundancy" ++ b)) (redundancy_at (gots shapes.head_kinds a).0 (gots shapes.head_kinds a).1.0 b)
    redundant a g b =
        let P : List ℕ → Type 0 = λ t. Judges t (redundancy_at (gots shapes.head_kinds a).0 (gots shapes.head_kinds a).1.0 b) in
        subst P (regroup a (codes " redundancy") b) (rest_judges (codes "publish") shapes.head_kinds (codes " redundancy") shapes.redundancy_kinds shapes.made_redundancy shapes.redundancy_shape a b g)

    bad : (a : Values (List ℕ) shapes.head_kinds) → AreGood shapes.head_kinds a → (b : List ℕ) → Judges ((codes "publish" ++ tail_text as_it_is shapes.head_kinds a) ++ (codes " nogood" ++ b)) (no_good_at (gots shapes.head_kinds a).0 (gots shapes.head_kinds a).1.0 b)
    bad a g b =
        let P : List ℕ → Type 0 = λ t. Judges t (no_good_at (gots shapes.head_kinds a).0 (gots shapes.head_kinds a).1.0 b) in
        subst P (regroup a (codes " nogood") b) (rest_judges (codes "publish") shapes.head_kinds (codes " nogood") shapes.no_good_kinds shapes.made_no_good shapes.no_good_shape a b g)

    found : (a : Values (List ℕ) shapes.head_kinds) (b : List ℕ) → AreGood shapes.head_kinds a → rest ≡ tail_text as_it_is shapes.head_kinds a ++ b → (r : Judgement) → r ≡ next (gots shapes.head_kinds a) b → Judges (codes "publish" ++ rest) r
    found a b g parts r e =
        let pre : List ℕ = codes "publish" ++ tail_text as_it_is shapes.head_kinds a in
        let text : codes "publish" ++ rest ≡ pre ++ b = ap (λ (l : List ℕ). codes "publish" ++ l) parts ∙ sym (append_assoc (codes "publish") (tail_text as_it_is shapes.head_kinds a) b) in
        let P : List ℕ → Type 0 = λ t. Judges t r in
        let Q : Judgement → Type 0 = λ j. Judges (pre ++ b) j in
        subst P (sym text) (subst Q (sym e) (tries pre (codes " redundancy") b (λ c. redundancy_at (gots shapes.head_kinds a).0 (gots shapes.head_kinds a).1.0 c) (behind (codes " nogood") b >>= λ c. no_good_at (gots shapes.head_kinds a).0 (gots shapes.head_kinds a).1.0 c)
        (redundant a g) (wants pre (codes " nogood") b (λ c. no_good_at (gots shapes.head_kinds a).0 (gots shapes.head_kinds a).1.0 c) (bad a g))))

answer_judges : (rest : List ℕ) → Judges (codes "answer" ++ rest) (answer_at rest)
answer_judges rest =
    tries (codes "answer") (codes " optimal") rest optimal_at _ optimal_judges
    (tries (codes "answer") (codes " infeasible none") rest infeasible_at _ infeasible_judges
    (wants (codes "answer") (codes " nodelimit") rest (λ b. node_limit_at b) node_limit_judges))

behind_judges : (w : Word) (rest : List ℕ) → Judges (word_text w ++ rest) (line_behind w rest)
behind_judges words.Version rest = version_judges rest
behind_judges words.Vars rest = vars_judges rest
behind_judges words.Limit rest = limit_judges rest
behind_judges words.Take rest = take_judges rest
behind_judges words.Branch rest = branch_judges rest
behind_judges words.Prune rest = prune_judges rest
behind_judges words.Offer rest = offer_judges rest
behind_judges words.Study rest = study_judges rest
behind_judges words.Publish rest = publish_judges rest
behind_judges words.Accept rest = accept_judges rest
behind_judges words.Park rest = park_judges rest
behind_judges words.Reopen rest = reopen_judges rest
behind_judges words.Answer rest = answer_judges rest

named_judges : (bytes : List ℕ) (o : Option Word) → word_among all_words (word_front bytes) ≡ o → Judges bytes (line_named o (word_rest bytes))
named_judges bytes None e = tt
named_judges bytes (Some w) e =
    let parts : bytes ≡ word_text w ++ word_rest bytes = sym (word_and_rest bytes) ∙ ap (λ (l : List ℕ). l ++ word_rest bytes) (among_is all_words (word_front bytes) w e) in
    let P : List ℕ → Type 0 = λ t. Judges t (line_behind w (word_rest bytes)) in
    subst P (sym parts) (behind_judges w (word_rest bytes))

-- what is said of a line is right
pub whole_judges : (bytes : List ℕ) → Judges bytes (whole_line_at bytes)
unfolding whole_line_at
whole_judges bytes = named_judges bytes (word_among all_words (word_front bytes)) refl

-- ---- a written line has form

ok_is_not : (line : Line ℕ) → Ok line ≡ Err Form → ⊥
ok_is_not line e = cc

order_is_not : (b : Bool) (line : Line ℕ) → (reading.ascends_at b >>= λ _. Ok line) ≡ Err Form → ⊥
order_is_not true line e = cc
order_is_not false line e = cc

-- the text of a line that publishes a cut
publish_text : (s t m tail : List ℕ) → s ++ (t ++ (m ++ tail)) ≡ (s ++ (t ++ [])) ++ (m ++ tail)
publish_text s t m tail = sym (simp (append_assoc, append-nil))

-- what is read behind the worker and the node of such a line
behind_head : Seen shapes.head_kinds → List ℕ → Judgement
behind_head head bytes = whichever (after (codes " redundancy") bytes) (λ b. redundancy_at head.0 head.1.0 b) (behind (codes " nogood") bytes >>= λ b. no_good_at head.0 head.1.0 b)

publish_head : (a : Values (List ℕ) shapes.head_kinds) (m tail : List ℕ) → AreGood shapes.head_kinds a → get_or (m ++ tail) 0 32 ≡ 32 → publish_at (tail_text as_it_is shapes.head_kinds a ++ (m ++ tail)) ≡ behind_head (gots shapes.head_kinds a) (m ++ tail)
unfolding behind_head
publish_head a m tail g h = fields_again shapes.head_kinds a (m ++ tail) behind_head g h

pub whole_has_form : (line : Line (List ℕ)) → IsWritten line → whole_line_at (line_text as_it_is line) ≡ Err Form → ⊥
unfolding whole_line_at word_front word_rest behind_head
whole_has_form version g e = ok_is_not version e
whole_has_form (vars a b) g e = rest_has_form [] shapes.vars_kinds shapes.made_vars tt (a, (b, tt)) (λ h x. ok_is_not _) g.1 e
whole_has_form (limits a) g e = rest_has_form [] shapes.limit_kinds shapes.made_limit tt (a, tt) (λ h x. ok_is_not _) g.1 e
whole_has_form (takes a b c d) g e = rest_has_form [] shapes.take_kinds shapes.made_take tt (a, (b, (c, (d, tt)))) (λ h x. ok_is_not _) g.1 e
whole_has_form (branches a b c d) g e = rest_has_form [] shapes.branch_kinds shapes.made_branch tt (a, (b, (c, (d, tt)))) (λ h x. ok_is_not _) g.1 e
whole_has_form (prunes a b c d) g e = rest_has_form [] shapes.prune_kinds shapes.made_prune tt (a, (b, (c, (d, tt)))) (λ h x. ok_is_not _) g.1 e
whole_has_form (offers a b c) g e = rest_has_form [] shapes.offer_kinds shapes.made_offer tt (a, (b, (c, tt))) (λ h x. ok_is_not _) g.1 e
whole_has_form (studies a b) g e = rest_has_form [] shapes.study_kinds shapes.made_study tt (a, (b, tt)) (λ h x. ok_is_not _) g.1 e
whole_has_form (accepts a b c) g e = rest_has_form [] shapes.accept_kinds shapes.made_accept tt (a, (b, (c, tt))) (λ h x. ok_is_not _) g.1 e
whole_has_form (parks a b) g e = rest_has_form [] shapes.park_kinds shapes.made_park tt (a, (b, tt)) (λ h x. ok_is_not _) g.1 e
whole_has_form (reopens a) g e = rest_has_form [] shapes.reopen_kinds shapes.made_reopen tt (a, tt) (λ h x. ok_is_not _) g.1 e
whole_has_form (optimal a b c) g e = rest_has_form [] shapes.optimal_kinds shapes.made_optimal tt (a, (b, (c, tt))) (λ h x. ok_is_not _) g.1.1 e
whole_has_form (infeasible a b) g e = rest_has_form [] shapes.infeasible_kinds shapes.made_infeasible tt (a, (b, tt)) (λ h x. ok_is_not _) g.1.1.1 e
whole_has_form (node_limit a b c) g e = rest_has_form [] shapes.node_limit_kinds shapes.made_node_limit tt (a, (b, (c, tt))) (λ h x. ok_is_not _) g.1.1 e
whole_has_form (redundancy w n q set far) g e =
    let a : Values (List ℕ) shapes.head_kinds = (w, (n, tt)) in
    let b : Values (List ℕ) shapes.redundancy_kinds = (q, (set, (far, tt))) in
    let text = ap publish_at (publish_text (codes " " ++ w) (codes " " ++ n) (codes " redundancy") (tail_text as_it_is shapes.redundancy_kinds b)) in
    rest_has_form shapes.head_kinds shapes.redundancy_kinds shapes.made_redundancy (gots shapes.head_kinds a) b (λ h x. order_is_not _ _) g.1.1.1.1
    (sym (text ∙ publish_head a (codes " redundancy") (tail_text as_it_is shapes.redundancy_kinds b) (g.1.0, (g.1.1.0, tt)) refl) ∙ e)
whole_has_form (no_good w n q cone) g e =
    let a : Values (List ℕ) shapes.head_kinds = (w, (n, tt)) in
    let b : Values (List ℕ) shapes.no_good_kinds = (q, (cone, tt)) in
    let text = ap publish_at (publish_text (codes " " ++ w) (codes " " ++ n) (codes " nogood") (tail_text as_it_is shapes.no_good_kinds b)) in
    rest_has_form shapes.head_kinds shapes.no_good_kinds shapes.made_no_good (gots shapes.head_kinds a) b (λ h x. order_is_not _ _) g.1.1.1.1
    (sym (text ∙ publish_head a (codes " nogood") (tail_text as_it_is shapes.no_good_kinds b) (g.1.0, (g.1.1.0, tt)) refl) ∙ e)

-- ---- a line in range is read again

abbrev pub ReadsAgain : Line ℕ → Type 0
ReadsAgain line = Makes (whole_line_at (line_text decimal line)) line

publish_again : (m : List ℕ) (ls : List Kind) (made : reading.Values shapes.head_kinds → reading.Values ls → Judgement) (shape : Shape (codes "publish") shapes.head_kinds m ls made) (va : Values ℕ shapes.head_kinds) (vb : Values ℕ ls)
    → AreInRange shapes.head_kinds va → AreInRange ls vb → get_or (m ++ tail_text decimal ls vb) 0 32 ≡ 32
    → ((a : Values (List ℕ) shapes.head_kinds) → behind_head (gots shapes.head_kinds a) (m ++ tail_text decimal ls vb) ≡ rest_at shapes.head_kinds ls made (gots shapes.head_kinds a) (tail_text decimal ls vb))
    → Makes (publish_at (tail_text decimal shapes.head_kinds va ++ (m ++ tail_text decimal ls vb))) (shape.valued va vb)
publish_again m ls made shape va vb ra rb stop goes =
    let w : WrittenSo shapes.head_kinds va = whole_all shapes.head_kinds va shape.sized.0 ra in
    let read : publish_at (tail_text decimal shapes.head_kinds va ++ (m ++ tail_text decimal ls vb)) ≡ made (froms shapes.head_kinds va) (froms ls vb) =
    ap (λ (l : List ℕ). publish_at (l ++ (m ++ tail_text decimal ls vb))) (sym w.2)
    ∙ publish_head w.0 m (tail_text decimal ls vb) w.1 stop
    ∙ goes w.0
    ∙ rest_again shapes.head_kinds ls made w.0 va vb shape.sized.1 w.3 rb in
    let P : Judgement → Type 0 = λ j. Makes j (shape.valued va vb) in
    subst P (sym read) (shape.makes va vb ra rb)

pub whole_again : (line : Line ℕ) → IsInRange line → ReadsAgain line
unfolding whole_line_at word_front word_rest behind_head
whole_again version r = inl (refl, (tt, (tt, tt)))
whole_again (vars a b) r =
    let P : Judgement → Type 0 = λ j. Makes j (vars a b) in
    subst P (sym (rest_again [] shapes.vars_kinds shapes.made_vars tt tt (a, (b, tt)) shapes.vars_shape.sized.1 (λ next. refl) r.1)) (shapes.vars_shape.makes tt (a, (b, tt)) tt r.1)
whole_again (limits a) r =
    let P : Judgement → Type 0 = λ j. Makes j (limits a) in
    subst P (sym (rest_again [] shapes.limit_kinds shapes.made_limit tt tt (a, tt) shapes.limit_shape.sized.1 (λ next. refl) r.1)) (shapes.limit_shape.makes tt (a, tt) tt r.1)
whole_again (takes a b c d) r =
    let P : Judgement → Type 0 = λ j. Makes j (takes a b c d) in
    subst P (sym (rest_again [] shapes.take_kinds shapes.made_take tt tt (a, (b, (c, (d, tt)))) shapes.take_shape.sized.1 (λ next. refl) r.1)) (shapes.take_shape.makes tt (a, (b, (c, (d, tt)))) tt r.1)
whole_again (branches a b c d) r =
    let P : Judgement → Type 0 = λ j. Makes j (branches a b c d) in
    subst P (sym (rest_again [] shapes.branch_kinds shapes.made_branch tt tt (a, (b, (c, (d, tt)))) shapes.branch_shape.sized.1 (λ next. refl) r.1)) (shapes.branch_shape.makes tt (a, (b, (c, (d, tt)))) tt r.1)
whole_again (prunes a b c d) r =
    let P : Judgement → Type 0 = λ j. Makes j (prunes a b c d) in
    subst P (sym (rest_again [] shapes.prune_kinds shapes.made_prune tt tt (a, (b, (c, (d, tt)))) shapes.prune_shape.sized.1 (λ next. refl) r.1)) (shapes.prune_shape.makes tt (a, (b, (c, (d, tt)))) tt r.1)
whole_again (offers a b c) r =
    let P : Judgement → Type 0 = λ j. Makes j (offers a b c) in
    subst P (sym (rest_again [] shapes.offer_kinds shapes.made_offer tt tt (a, (b, (c, tt))) shapes.offer_shape.sized.1 (λ next. refl) r.1)) (shapes.offer_shape.makes tt (a, (b, (c, tt))) tt r.1)
whole_again (studies a b) r =
    let P : Judgement → Type 0 = λ j. Makes j (studies a b) in
    subst P (sym (rest_again [] shapes.study_kinds shapes.made_study tt tt (a, (b, tt)) shapes.study_shape.sized.1 (λ next. refl) r.1)) (shapes.study_shape.makes tt (a, (b, tt)) tt r.1)
whole_again (accepts a b c) r =
    let P : Judgement → Type 0 = λ j. Makes j (accepts a b c) in
    subst P (sym (rest_again [] shapes.accept_kinds shapes.made_accept tt tt (a, (b, (c, tt))) shapes.accept_shape.sized.1 (λ next. refl) r.1)) (shapes.accept_shape.makes tt (a, (b, (c, tt))) tt r.1)
whole_again (parks a b) r =
    let P : Judgement → Type 0 = λ j. Makes j (parks a b) in
    subst P (sym (rest_again [] shapes.park_kinds shapes.made_park tt tt (a, (b, tt)) shapes.park_shape.sized.1 (λ next. refl) r.1)) (shapes.park_shape.makes tt (a, (b, tt)) tt r.1)
whole_again (reopens a) r =
    let P : Judgement → Type 0 = λ j. Makes j (reopens a) in
    subst P (sym (rest_again [] shapes.reopen_kinds shapes.made_reopen tt tt (a, tt) shapes.reopen_shape.sized.1 (λ next. refl) r.1)) (shapes.reopen_shape.makes tt (a, tt) tt r.1)
whole_again (optimal a b c) r =
    let P : Judgement → Type 0 = λ j. Makes j (optimal a b c) in
    subst P (sym (rest_again [] shapes.optimal_kinds shapes.made_optimal tt tt (a, (b, (c, tt))) shapes.optimal_shape.sized.1 (λ next. refl) r.1.1)) (shapes.optimal_shape.makes tt (a, (b, (c, tt))) tt r.1.1)
whole_again (infeasible a b) r =
    let P : Judgement → Type 0 = λ j. Makes j (infeasible a b) in
    subst P (sym (rest_again [] shapes.infeasible_kinds shapes.made_infeasible tt tt (a, (b, tt)) shapes.infeasible_shape.sized.1 (λ next. refl) r.1.1.1)) (shapes.infeasible_shape.makes tt (a, (b, tt)) tt r.1.1.1)
whole_again (node_limit a b c) r =
    let P : Judgement → Type 0 = λ j. Makes j (node_limit a b c) in
    subst P (sym (rest_again [] shapes.node_limit_kinds shapes.made_node_limit tt tt (a, (b, (c, tt))) shapes.node_limit_shape.sized.1 (λ next. refl) r.1.1)) (shapes.node_limit_shape.makes tt (a, (b, (c, tt))) tt r.1.1)
whole_again (redundancy w n q set far) r =
    let va : Values ℕ shapes.head_kinds = (w, (n, tt)) in
    let vb : Values ℕ shapes.redundancy_kinds = (q, (set, (far, tt))) in
    let text = publish_text (codes " " ++ decimal w) (codes " " ++ decimal n) (codes " redundancy") (tail_text decimal shapes.redundancy_kinds vb) in
    let P : List ℕ → Type 0 = λ l. Makes (publish_at l) (redundancy w n q set far) in
    subst P (sym text) (publish_again (codes " redundancy") shapes.redundancy_kinds shapes.made_redundancy shapes.redundancy_shape va vb (r.1.0, (r.1.1.0, tt)) r.1.1.1.1 refl (λ a. refl))
whole_again (no_good w n q cone) r =
    let va : Values ℕ shapes.head_kinds = (w, (n, tt)) in
    let vb : Values ℕ shapes.no_good_kinds = (q, (cone, tt)) in
    let text = publish_text (codes " " ++ decimal w) (codes " " ++ decimal n) (codes " nogood") (tail_text decimal shapes.no_good_kinds vb) in
    let P : List ℕ → Type 0 = λ l. Makes (publish_at l) (no_good w n q cone) in
    subst P (sym text) (publish_again (codes " nogood") shapes.no_good_kinds shapes.made_no_good shapes.no_good_shape va vb (r.1.0, (r.1.1.0, tt)) r.1.1.1.1 refl (λ a. refl))
