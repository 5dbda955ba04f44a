-- The line of a value determines the value.
use Rattle.std.proofs.Common.{◌≡◌, ℕ, zero, suc, ◌+◌, Bool, true, false, ◌||◌, List, [], ◌∷◌, map, filter, refl, sym, ap, ◌∙◌, arith}
use Rattle.std.specs.List.{range_with_len}
use Rattle.arch_model.specs.Set.{Set, has, empty, members_below}
use Rattle.arch_model.specs.Member.{is_in}
use Rattle.arch_model.specs.declared.limits.TheConstants.{COMPONENTS, MEMBERS}
use Rattle.arch_model.proofs.SetLaws.{has-empty, same_set}
use Rattle.arch_model.proofs.Members.{is_in-members, has-from_members, same_test}
use Rattle.rows.specs.declared.known.RowRef.{RowRef}
use Rattle.rows.specs.declared.known.RowRef.TheVariants.{Base, Cut, Cost}
use Rattle.rows.specs.declared.known.Pair.{Pair}
use Rattle.redundancy_cut.specs.declared.cut.Cut.TheVariants.{Redundancy, NoGood}
use Rattle.search_core.specs.declared.entry.Entry.TheVariants.{Take, Branch, Prune, Offer, Study, Publish, Accept, Park, Reopen}
use Rattle.search_core.specs.declared.answer.Answer.TheVariants.{Optimal, Infeasible, NodeLimit}
use Rattle.proof_log.specs.declared.log_line.LogLine.{LogLine}
use Rattle.proof_log.specs.declared.log_line.LogLine.TheVariants as lines
use Rattle.proof_log.specs.Field.{RowName, base_row, cut_row, cost_row}
use Rattle.proof_log.specs.Line.{Line, version, vars, limits, takes, branches, prunes, offers, studies, redundancy, no_good, accepts, parks, reopens, optimal, infeasible, node_limit}
use Rattle.proof_log.specs.Fault.{IsInRange, ListsAscend}
use Rattle.proof_log.specs.Value.{row_name, named_pair, log_line, text_of, HasSmallSets, IsSmall}
use Rattle.proof_log.specs.Inner.Reading.{set_of}
use Rattle.proof_log.proofs.Ascending.{AscendFrom, increasing, has-set_of, is_among}
use Rattle.proof_log.proofs.FirstFaults.{one_spelling}

-- ---- values from lines

row_ref : RowName ℕ → RowRef
row_ref (base_row n) = Base n
row_ref (cut_row n) = Cut n
row_ref cost_row = Cost

pair_from : RowName ℕ × ℕ → Pair
pair_from p = record { row = row_ref p.0; times = p.1 }

-- the value that a line says
said : Line ℕ → LogLine
said version = lines.Version
said (vars a b) = lines.Vars a b
said (limits a) = lines.Limit a
said (takes a b c d) = lines.Entry (Take a b c d)
said (branches a b t v) = lines.Entry (Branch a b (map row_ref t) (record { 0 = v }))
said (prunes a b t r) = lines.Entry (Prune a b (map row_ref t) (map pair_from r))
said (offers a b t) = lines.Entry (Offer a b (map row_ref t))
said (studies a b) = lines.Entry (Study a b)
said (redundancy a b q set far) = lines.Entry (Publish a b (Redundancy q (set_of empty set) (set_of empty far)))
said (no_good a b q cone) = lines.Entry (Publish a b (NoGood q (set_of empty cone)))
said (accepts a b c) = lines.Entry (Accept a b c)
said (parks a b) = lines.Entry (Park a b)
said (reopens a) = lines.Entry (Reopen a)
said (optimal c a b) = lines.Closing (Optimal c) a b
said (infeasible a b) = lines.Closing Infeasible a b
said (node_limit c a b) = lines.Closing (NodeLimit c) a b

rows_back : (t : List RowRef) → map row_ref (map row_name t) ≡ t
unfolding row_ref
rows_back [] = refl
rows_back (Base n ∷ t) = ap (λ l. Base n ∷ l) (rows_back t)
rows_back (Cut n ∷ t) = ap (λ l. Cut n ∷ l) (rows_back t)
rows_back (Cost ∷ t) = ap (λ l. Cost ∷ l) (rows_back t)

row_back : (r : RowRef) → row_ref (row_name r) ≡ r
unfolding row_ref
row_back (Base n) = refl
row_back (Cut n) = refl
row_back Cost = refl

pairs_back : (r : List Pair) → map pair_from (map named_pair r) ≡ r
unfolding pair_from
pairs_back [] = refl
pairs_back (p ∷ r) = λ i. record { row = row_back p.row i; times = p.times } ∷ pairs_back r i

among_is_in : (ns : List ℕ) (i : ℕ) → is_among ns i ≡ is_in ns i
unfolding is_among
among_is_in [] i = refl
among_is_in (n ∷ ns) i = grind (arith, among_is_in ns i)

-- a set is what is read from its members
set_back : (s : Set) (n : ℕ) → IsSmall n s → set_of empty (members_below s n) ≡ s
set_back s n small = same_set (set_of empty (members_below s n)) s (λ i. has-set_of empty (members_below s n) i ∙ ap (λ b. b || is_among (members_below s n) i) (has-empty i) ∙ among_is_in (members_below s n) i
    ∙ same_test (is_in (members_below s n) i) (has s i) (λ h. has-from_members s n i h) (λ h. is_in-members s n i h (small i h)))

said_again : (x : LogLine) → HasSmallSets x → said (log_line x) ≡ x
unfolding said
said_again lines.Version s = refl
said_again (lines.Vars a b) s = refl
said_again (lines.Limit a) s = refl
said_again (lines.Entry (Take a b c d)) s = refl
said_again (lines.Entry (Branch a b t v)) s = ap (λ l. lines.Entry (Branch a b l v)) (rows_back t)
said_again (lines.Entry (Prune a b t r)) s = λ i. lines.Entry (Prune a b (rows_back t i) (pairs_back r i))
said_again (lines.Entry (Offer a b t)) s = ap (λ l. lines.Entry (Offer a b l)) (rows_back t)
said_again (lines.Entry (Study a b)) s = refl
said_again (lines.Entry (Publish a b (Redundancy q set far))) s = λ i. lines.Entry (Publish a b (Redundancy q (set_back set MEMBERS s.0 i) (set_back far COMPONENTS s.1 i)))
said_again (lines.Entry (Publish a b (NoGood q cone))) s = λ i. lines.Entry (Publish a b (NoGood q (set_back cone COMPONENTS s i)))
said_again (lines.Entry (Accept a b c)) s = refl
said_again (lines.Entry (Park a b)) s = refl
said_again (lines.Entry (Reopen a)) s = refl
said_again (lines.Closing (Optimal c) a b) s = refl
said_again (lines.Closing Infeasible a b) s = refl
said_again (lines.Closing (NodeLimit c) a b) s = refl

-- ---- lists of members ascend

filtered : (p : ℕ → Bool) (i n : ℕ) → AscendFrom i (filter p (range_with_len i n))
unfolding AscendFrom
filtered p i zero = tt
filtered p i (suc n) = by (p i) refl (filtered p (i + 1) n)
  where
    lower : (ns : List ℕ) → AscendFrom (i + 1) ns → AscendFrom i ns
    lower [] a = tt
    lower (m ∷ ms) a = (omega (arith, a.0), a.1)

    by : (b : Bool) → p i ≡ b → AscendFrom (i + 1) (filter p (range_with_len (i + 1) n)) → AscendFrom i (filter p (range_with_len i (suc n)))
    by true e a = rw e (omega arith, a)
    by false e a = rw e (lower (filter p (range_with_len (i + 1) n)) a)

members_up : (s : Set) (n : ℕ) → AscendFrom 0 (members_below s n)
unfolding members_below
members_up s n = filtered (has s) 0 n

pub lists_ascend : (x : LogLine) → ListsAscend (log_line x)
lists_ascend lines.Version = (tt, (tt, tt))
lists_ascend (lines.Vars a b) = (tt, (tt, (tt, tt)))
lists_ascend (lines.Limit a) = (tt, (tt, tt))
lists_ascend (lines.Entry (Take a b c d)) = (tt, (tt, (tt, (tt, (tt, tt)))))
lists_ascend (lines.Entry (Branch a b t v)) = (tt, (tt, (tt, (tt, (tt, tt)))))
lists_ascend (lines.Entry (Prune a b t r)) = (tt, (tt, (tt, (tt, (tt, tt)))))
lists_ascend (lines.Entry (Offer a b t)) = (tt, (tt, (tt, (tt, tt))))
lists_ascend (lines.Entry (Study a b)) = (tt, (tt, (tt, tt)))
lists_ascend (lines.Entry (Publish a b (Redundancy q set far))) =
    (tt, (tt, (tt, (tt, (tt, (increasing 0 (members_below set MEMBERS) (members_up set MEMBERS), (increasing 0 (members_below far COMPONENTS) (members_up far COMPONENTS), tt)))))))
lists_ascend (lines.Entry (Publish a b (NoGood q cone))) = (tt, (tt, (tt, (tt, (tt, (increasing 0 (members_below cone COMPONENTS) (members_up cone COMPONENTS), tt))))))
lists_ascend (lines.Entry (Accept a b c)) = (tt, (tt, (tt, (tt, tt))))
lists_ascend (lines.Entry (Park a b)) = (tt, (tt, (tt, tt)))
lists_ascend (lines.Entry (Reopen a)) = (tt, (tt, tt))
lists_ascend (lines.Closing (Optimal c) a b) = (tt, (tt, (tt, (tt, (tt, tt)))))
lists_ascend (lines.Closing Infeasible a b) = (tt, (tt, (tt, (tt, (tt, tt)))))
lists_ascend (lines.Closing (NodeLimit c) a b) = (tt, (tt, (tt, (tt, (tt, tt)))))

-- two values with one line are one value
pub same_line_value : (x y : LogLine) → HasSmallSets x → HasSmallSets y → log_line x ≡ log_line y → x ≡ y
same_line_value x y sx sy same = sym (said_again x sx) ∙ ap said same ∙ said_again y sy

-- two values with one text are one value
pub same_value : (x y : LogLine) → HasSmallSets x → HasSmallSets y → IsInRange (log_line x) → IsInRange (log_line y) → text_of (log_line x) ≡ text_of (log_line y) → x ≡ y
same_value x y sx sy rx ry same = same_line_value x y sx sy (one_spelling (log_line x) (log_line y) rx (lists_ascend x) ry (lists_ascend y) same)
