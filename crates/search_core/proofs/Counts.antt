-- What the entries of a history say of the numbers of the state that they lead to, and histories that go on.
use Rattle.std.proofs.Common.{◌≡◌, ℕ, ◌+◌, Bool, true, false, cond, List, [], ◌∷◌, ◌++◌, filter, length, refl, ap, subst, ◌∙◌, arith}
use Rattle.std.specs.List.{AllByRecursion}
use Rattle.std.proofs.lemmas.List.{length-append}
use Rattle.rows.specs.Parts.{ProblemParts}
use Rattle.search_core.specs.declared.entry.Entry.{Entry}
use Rattle.search_core.specs.declared.entry.Entry.TheVariants.{Take, Branch, Prune, Offer, Study, Publish, Accept, Park, Reopen}
use Rattle.search_core.specs.State.{SearchState}
use Rattle.search_core.specs.Step.{Takes, Branches, Prunes, Offers, Studies, Accepts, Publishes, Parks, Reopens, Case}
use Rattle.search_core.specs.History.{Steps, is_reopen, is_branch, is_publish}

-- one more where the test of an entry is true
abbrev pub Counts : (Bool → ℕ → ℕ → Type 0)
Counts test before after = after ≡ before + cond test 1 0

same_count : (before after : ℕ) → after ≡ before → after ≡ before + 0
same_count before after e = omega arith

pub case_counts_branches : (problem : ProblemParts) (old : SearchState) (entry : Entry) (new : SearchState) → Case problem old entry new → Counts (is_branch entry) old.branchings new.branchings
case_counts_branches problem old (Take worker node cuts bound) new step = let s : Takes old worker node cuts bound new = step in same_count old.branchings new.branchings (ap (λ (n : SearchState). n.branchings) s.next)
case_counts_branches problem old (Branch worker node trace var) new step = let s : Branches problem old worker node trace var.0 new = step in ap (λ (n : SearchState). n.branchings) s.next
case_counts_branches problem old (Prune worker node trace reason) new step = let s : Prunes problem old worker node trace reason new = step in same_count old.branchings new.branchings (ap (λ (n : SearchState). n.branchings) s.next)
case_counts_branches problem old (Offer worker node trace) new step = let s : Offers problem old worker node trace new = step in same_count old.branchings new.branchings (ap (λ (n : SearchState). n.branchings) s.next)
case_counts_branches problem old (Study worker node) new step = let s : Studies old worker node new = step in same_count old.branchings new.branchings (ap (λ (n : SearchState). n.branchings) s.next)
case_counts_branches problem old (Publish worker node cut) new step = let s : Publishes problem old worker node cut new = step in same_count old.branchings new.branchings (ap (λ (n : SearchState). n.branchings) s.next)
case_counts_branches problem old (Accept worker node cost) new step = let s : Accepts problem old worker node cost new = step in same_count old.branchings new.branchings (ap (λ (n : SearchState). n.branchings) s.next)
case_counts_branches problem old (Park worker node) new step = let s : Parks old worker node new = step in same_count old.branchings new.branchings (ap (λ (n : SearchState). n.branchings) s.next)
case_counts_branches problem old (Reopen limit) new step = let s : Reopens old limit new = step in same_count old.branchings new.branchings (ap (λ (n : SearchState). n.branchings) s.next)

cuts_of : (old new : SearchState) → new.cuts ≡ old.cuts → length new.cuts ≡ length old.cuts + 0
cuts_of old new e = same_count (length old.cuts) (length new.cuts) (ap length e)

pub case_counts_cuts : (problem : ProblemParts) (old : SearchState) (entry : Entry) (new : SearchState) → Case problem old entry new → Counts (is_publish entry) (length old.cuts) (length new.cuts)
case_counts_cuts problem old (Take worker node cuts bound) new step = let s : Takes old worker node cuts bound new = step in cuts_of old new (ap (λ (n : SearchState). n.cuts) s.next)
case_counts_cuts problem old (Branch worker node trace var) new step = let s : Branches problem old worker node trace var.0 new = step in cuts_of old new (ap (λ (n : SearchState). n.cuts) s.next)
case_counts_cuts problem old (Prune worker node trace reason) new step = let s : Prunes problem old worker node trace reason new = step in cuts_of old new (ap (λ (n : SearchState). n.cuts) s.next)
case_counts_cuts problem old (Offer worker node trace) new step = let s : Offers problem old worker node trace new = step in cuts_of old new (ap (λ (n : SearchState). n.cuts) s.next)
case_counts_cuts problem old (Study worker node) new step = let s : Studies old worker node new = step in cuts_of old new (ap (λ (n : SearchState). n.cuts) s.next)
case_counts_cuts problem old (Publish worker node cut) new step =
    let s : Publishes problem old worker node cut new = step in ap (λ (n : SearchState). length n.cuts) s.next ∙ length-append old.cuts _
case_counts_cuts problem old (Accept worker node cost) new step = let s : Accepts problem old worker node cost new = step in cuts_of old new (ap (λ (n : SearchState). n.cuts) s.next)
case_counts_cuts problem old (Park worker node) new step = let s : Parks old worker node new = step in cuts_of old new (ap (λ (n : SearchState). n.cuts) s.next)
case_counts_cuts problem old (Reopen limit) new step = let s : Reopens old limit new = step in cuts_of old new (ap (λ (n : SearchState). n.cuts) s.next)

-- over all entries
count_next : (test : Bool) (entry : Entry) (kept : List Entry) (a b c : ℕ) → b ≡ a + cond test 1 0 → c ≡ b + length kept → c ≡ a + length (cond test (entry ∷ kept) kept)
count_next true entry kept a b c e f = omega arith
count_next false entry kept a b c e f = omega arith

pub branches_are_counted : (problem : ProblemParts) (entries : List Entry) (old new : SearchState) → Steps problem old entries new → new.branchings ≡ old.branchings + length (filter is_branch entries)
branches_are_counted problem [] old new steps = same_count old.branchings new.branchings (ap (λ (n : SearchState). n.branchings) steps)
branches_are_counted problem (entry ∷ entries) old new steps =
    count_next (is_branch entry) entry (filter is_branch entries) old.branchings steps.0.branchings new.branchings (case_counts_branches problem old entry steps.0 steps.1.fits) (branches_are_counted problem entries steps.0 new steps.2)

pub cuts_are_counted : (problem : ProblemParts) (entries : List Entry) (old new : SearchState) → Steps problem old entries new → length new.cuts ≡ length old.cuts + length (filter is_publish entries)
cuts_are_counted problem [] old new steps = cuts_of old new (ap (λ (n : SearchState). n.cuts) steps)
cuts_are_counted problem (entry ∷ entries) old new steps =
    count_next (is_publish entry) entry (filter is_publish entries) (length old.cuts) (length steps.0.cuts) (length new.cuts) (case_counts_cuts problem old entry steps.0 steps.1.fits) (cuts_are_counted problem entries steps.0 new steps.2)

-- the limit stays but at a reopening
pub case_keeps_limit : (problem : ProblemParts) (old : SearchState) (entry : Entry) (new : SearchState) → is_reopen entry ≡ false → Case problem old entry new → new.limit ≡ old.limit
case_keeps_limit problem old (Take worker node cuts bound) new keeps step = let s : Takes old worker node cuts bound new = step in ap (λ (n : SearchState). n.limit) s.next
case_keeps_limit problem old (Branch worker node trace var) new keeps step = let s : Branches problem old worker node trace var.0 new = step in ap (λ (n : SearchState). n.limit) s.next
case_keeps_limit problem old (Prune worker node trace reason) new keeps step = let s : Prunes problem old worker node trace reason new = step in ap (λ (n : SearchState). n.limit) s.next
case_keeps_limit problem old (Offer worker node trace) new keeps step = let s : Offers problem old worker node trace new = step in ap (λ (n : SearchState). n.limit) s.next
case_keeps_limit problem old (Study worker node) new keeps step = let s : Studies old worker node new = step in ap (λ (n : SearchState). n.limit) s.next
case_keeps_limit problem old (Publish worker node cut) new keeps step = let s : Publishes problem old worker node cut new = step in ap (λ (n : SearchState). n.limit) s.next
case_keeps_limit problem old (Accept worker node cost) new keeps step = let s : Accepts problem old worker node cost new = step in ap (λ (n : SearchState). n.limit) s.next
case_keeps_limit problem old (Park worker node) new keeps step = let s : Parks old worker node new = step in ap (λ (n : SearchState). n.limit) s.next
case_keeps_limit problem old (Reopen limit) new keeps step = absurd (let f : true ≡ false = keeps in cc)

pub limit_stays : (problem : ProblemParts) (entries : List Entry) (old new : SearchState) → AllByRecursion (λ entry. is_reopen entry ≡ false) entries → Steps problem old entries new → new.limit ≡ old.limit
limit_stays problem [] old new none steps = ap (λ (n : SearchState). n.limit) steps
limit_stays problem (entry ∷ entries) old new none steps = limit_stays problem entries steps.0 new none.1 steps.2 ∙ case_keeps_limit problem old entry steps.0 none.0 steps.1.fits

-- a history goes on with further entries, and parts where they begin
pub steps_join : (problem : ProblemParts) (first rest : List Entry) (old mid new : SearchState) → Steps problem old first mid → Steps problem mid rest new → Steps problem old (first ++ rest) new
steps_join problem [] rest old mid new before after = let P : SearchState → Type 0 = λ s. Steps problem s rest new in subst P before after
steps_join problem (entry ∷ first) rest old mid new before after = (before.0, before.1, steps_join problem first rest before.0 mid new before.2 after)

pub steps_part : (problem : ProblemParts) (first rest : List Entry) (old new : SearchState) → Steps problem old (first ++ rest) new → (mid : SearchState) × Steps problem old first mid × Steps problem mid rest new
steps_part problem [] rest old new steps = (old, refl, steps)
steps_part problem (entry ∷ first) rest old new steps =
    let later = steps_part problem first rest steps.0 new steps.2 in (later.0, (steps.0, steps.1, later.1), later.2)
