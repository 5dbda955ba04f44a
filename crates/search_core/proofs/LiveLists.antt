-- Lists of live nodes with ascending numbers, and their maps.
use Rattle.std.proofs.Common.{◌≡◌, ℕ, zero, suc, ◌+◌, ◌<◌, ◌≤◌, true, false, ◌&&◌, List, [], ◌∷◌, ◌++◌, map, length, get_or, set, take, drop, Some, None, Result, Ok, Err, IfOk, refl, sym, ap, ◌∙◌, arith, add-one}
use Rattle.std.specs.Prelude.{OnErr, is_some}
use Rattle.std.specs.List.{list_all, remove as list_remove}
use Rattle.std.specs.List.Sorted.{IsSearchInRange, IsBinarySearchResult, IsNonDecreasingBy}
use Rattle.std.specs.Ordering.{nat_cmp, ordering_index}
use Rattle.std.specs.FinMap.{get, entries, insert, remove, values, len, empty, from_sorted, len-entries, empty_of_len}
use Rattle.std.specs.FinMap.Entries.{find, is_sorted}
use Rattle.std.proofs.lemmas.Cmp.{ranked}
use Rattle.std.proofs.lemmas.Bool.Decides.{nat_tests}
use Rattle.std.proofs.lemmas.List.{length-map, get_or-map, map-set, map-append}
use Rattle.std.proofs.lemmas.List.Sorted.{IsNonDecreasingBy-from_default}
use Rattle.search_core.specs.declared.nodes.NodeState.{NodeState}
use Rattle.search_core.specs.declared.nodes.NodeState.TheVariants.{Open as IsOpen}
use Rattle.search_core.specs.declared.nodes.Live.{Live}
use Rattle.search_core.specs.Node.{Node, Open, node_cube, is_parked, EachNode}
use Rattle.search_core.specs.State.{all_open}
use Rattle.rows.specs.Parts.{CubeParts}
use Rattle.search_core.specs.declared.nodes.Spot.{Spot}
use Rattle.search_core.specs.Inner.Nodes.{node_of, entry_of, map_of, Ascend, blank_live, IsPlace, IsSpot, IsFound, opened}
use Rattle.search_core.proofs.NodeMap.{changed, sorted-changed}
use Rattle.search_core.proofs.Places.{Rising, rising_from, get-place, get-map, entries-map, set_map, sorted-set, remove_map, sorted-removed, push_map, sorted-push, not_in_gap, all_at}

-- the entry at a place is that of the live node there
entry_at : (live : List Live) (i : ℕ) → i < length live → get_or (map entry_of live) i (entry_of blank_live) ≡ entry_of (get_or live i blank_live)
entry_at live i short = get_or-map entry_of live i blank_live (entry_of blank_live) short

pub in_entries : (live : List Live) (i : ℕ) → i < length live → i < length (map entry_of live)
in_entries live i short = omega (arith, length-map live entry_of)

named_entry : (live : List Live) (k i : ℕ) → IsPlace live k i → (get_or (map entry_of live) i (entry_of blank_live)).0 ≡ k
named_entry live k i place = ap (λ (e : ℕ × Node). e.0) (entry_at live i place.within) ∙ place.named

-- numbers rise along the list
rising_pair : (es : List (ℕ × Node)) (i j : ℕ) (d : ℕ × Node) → Rising es → i < j → j < length es → (get_or es i d).0 < (get_or es j d).0
rising_pair [] i j d rises less short = absurd (omega arith)
rising_pair (e ∷ es) zero zero d rises less short = absurd (omega arith)
rising_pair (e ∷ es) zero (suc j) d rises less short = all_at (λ f. e.0 < f.0) es j d rises.0 (omega arith)
rising_pair (e ∷ es) (suc i) zero d rises less short = absurd (omega arith)
rising_pair (e ∷ es) (suc i) (suc j) d rises less short = rising_pair es i j d rises.1 (omega arith) (omega arith)

abbrev number_at : List Live → ℕ → ℕ
number_at live i = (get_or live i blank_live).number

numbers_rise : (live : List Live) → Ascend live → (i j : ℕ) → i < j → j < length live → number_at live i < number_at live j
numbers_rise live ascend i j less short =
    let first : i < length live = omega arith in
    let rise = rising_pair (map entry_of live) i j (entry_of blank_live) (rising_from (map entry_of live) ascend) less (in_entries live j short) in
    omega (arith, rise, ap (λ (e : ℕ × Node). e.0) (entry_at live i first), ap (λ (e : ℕ × Node). e.0) (entry_at live j short))

module _ (live : List Live) (ascend : Ascend live) (k : ℕ) where
  -- the comparisons with k rise along the list, as a binary search asks
  comparisons_rise : IsNonDecreasingBy (λ l. ordering_index (nat_cmp l.number k)) live
  comparisons_rise = IsNonDecreasingBy-from_default (λ l. ordering_index (nat_cmp l.number k)) live blank_live (λ i j le in_range.
      let keys_rise : number_at live i ≤ number_at live j = grind (arith, numbers_rise live ascend i j, λ (same : i ≡ j). ap (number_at live) same) in
      grind (arith, nat_tests))

  -- a binary search by number ends at its place, or finds that no live node has it
  pub searched : (r : Result ℕ ℕ) → IsSearchInRange r (length live) → IsBinarySearchResult (λ l. nat_cmp l.number k) live r → IfOk r (IsPlace live k) × OnErr r (find nat_cmp k (map entry_of live) ≡ None)
  searched (Ok i) in_range equal = (record { within = in_range; named = ranked (number_at live i) k _ (sym (equal blank_live)) }, tt)
  searched (Err i) in_range parted = (
    tt,
    not_in_gap (map entry_of live) k i (entry_of blank_live)
        (λ j lt short.
        let there : j < length live = omega (arith, length-map live entry_of, short) in
        let less : number_at live j < k = ranked (number_at live j) k _ (sym ((parted comparisons_rise).0 j blank_live (omega arith) lt)) in
        omega (arith, less, ap (λ (e : ℕ × Node). e.0) (entry_at live j there)))
        (λ j le short.
        let there : j < length live = omega (arith, length-map live entry_of, short) in
        let more : k < number_at live j = ranked (number_at live j) k _ (sym ((parted comparisons_rise).1 j blank_live le there)) in
        omega (arith, more, ap (λ (e : ℕ × Node). e.0) (entry_at live j there))),
  )

  -- what is there, and what isn't
  pub get_there : (i : ℕ) → IsPlace live k i → get (map_of live) k ≡ Some (node_of (get_or live i blank_live).state)
  get_there i place =
      get-place (map entry_of live) ascend k i (entry_of blank_live) (in_entries live i place.within) (named_entry live k i place)
      ∙ ap (λ (e : ℕ × Node). Some e.1) (entry_at live i place.within)

  pub get_absent : find nat_cmp k (map entry_of live) ≡ None → get (map_of live) k ≡ None
  get_absent none = get-map (map entry_of live) ascend k ∙ none

  -- a node with a new state
  pub set_ascends : (i : ℕ) (state : NodeState) → IsPlace live k i → Ascend (set live i (record { number = k; state = state }))
  set_ascends i state place =
      ap (is_sorted nat_cmp) (map-set entry_of live i (record { number = k; state = state }))
      ∙ sorted-set (map entry_of live) ascend k i (entry_of blank_live) (in_entries live i place.within) (named_entry live k i place) (node_of state)

  pub set_inserts : (i : ℕ) (state : NodeState) → IsPlace live k i → map_of (set live i (record { number = k; state = state })) ≡ insert (map_of live) k (node_of state)
  set_inserts i state place =
      ap (λ l. from_sorted {R = nat_cmp} l) (map-set entry_of live i (record { number = k; state = state }))
      ∙ set_map (map entry_of live) ascend k i (entry_of blank_live) (in_entries live i place.within) (named_entry live k i place) (node_of state)

-- where a number lies, in the list and in the map
module _ (live : List Live) (ascend : Ascend live) where
  same_entries : entries (map_of live) ≡ map entry_of live
  same_entries = entries-map (map entry_of live) ascend

  pub spot_there : (k i : ℕ) → IsPlace live k i → IsSpot (map_of live) (record { number = k; place = i })
  spot_there k i place = record {
    within = omega (arith, ap length same_entries, length-map live entry_of, place.within);
    named = ap (λ (es : List (ℕ × Node)). (get_or es i (entry_of blank_live)).0) same_entries ∙ named_entry live k i place;
  }

  pub place_there : (spot : Spot) → IsSpot (map_of live) spot → IsPlace live spot.number spot.place
  place_there spot is =
      let within : spot.place < length live = omega (arith, ap length same_entries, length-map live entry_of, is.within) in
      record {
        within = within;
        named = ap (λ (e : ℕ × Node). e.0) (sym (entry_at live spot.place within)) ∙ ap (λ (es : List (ℕ × Node)). (get_or es spot.place (entry_of blank_live)).0) (sym same_entries) ∙ is.named;
      }

  pub found_there : (k i : ℕ) (l : Live) → IsPlace live k i → l ≡ get_or live i blank_live → IsFound (map_of live) k (record { number = k; place = i }) (node_of l.state)
  found_there k i l place read = record {
    at = record { numbered = refl; lies = spot_there k i place };
    live = get_there live ascend k i place ∙ ap (λ (x : Live). Some (node_of x.state)) (sym read);
  }

-- a node that is gone
map-removed : (live : List Live) (i : ℕ) → map entry_of (list_remove live i) ≡ list_remove (map entry_of live) i
map-removed [] zero = refl
map-removed [] (suc i) = refl
map-removed (l ∷ live) zero = refl
map-removed (l ∷ live) (suc i) = ap (λ es. entry_of l ∷ es) (map-removed live i)

module _ (live : List Live) (ascend : Ascend live) (k : ℕ) where
  pub remove_ascends : (i : ℕ) → IsPlace live k i → Ascend (list_remove live i)
  remove_ascends i place =
      ap (is_sorted nat_cmp) (map-removed live i) ∙ sorted-removed (map entry_of live) ascend k i (entry_of blank_live) (in_entries live i place.within) (named_entry live k i place)

  pub remove_removes : (i : ℕ) → IsPlace live k i → map_of (list_remove live i) ≡ remove (map_of live) k
  remove_removes i place =
      ap (λ l. from_sorted {R = nat_cmp} l) (map-removed live i) ∙ remove_map (map entry_of live) ascend k i (entry_of blank_live) (in_entries live i place.within) (named_entry live k i place)

  -- a node with a number above all others
  module _ (state : NodeState) (last : EachNode (λ j node. j < k) (map_of live)) where
    abbrev pushed : Live
    pushed = record { number = k; state = state }

    pub push_ascends : Ascend (live ++ pushed ∷ [])
    push_ascends = ap (is_sorted nat_cmp) (map-append entry_of live (pushed ∷ [])) ∙ sorted-push (map entry_of live) ascend k (node_of state) last

    pub push_inserts : map_of (live ++ pushed ∷ []) ≡ insert (map_of live) k (node_of state)
    push_inserts = ap (λ l. from_sorted {R = nat_cmp} l) (map-append entry_of live (pushed ∷ [])) ∙ push_map (map entry_of live) ascend k (node_of state) last

-- the values
module _ (live : List Live) (ascend : Ascend live) where
  all_parked : (ls : List Live) → list_all (λ l. is_parked (node_of l.state)) ls ≡ list_all is_parked (map (λ (e : ℕ × Node). e.1) (map entry_of ls))
  all_parked [] = refl
  all_parked (l ∷ ls) = ap (λ b. is_parked (node_of l.state) && b) (all_parked ls)

  pub parked_values : list_all (λ l. is_parked (node_of l.state)) live ≡ list_all is_parked (values (map_of live))
  parked_values = all_parked live ∙ ap (λ es. list_all is_parked (map (λ (e : ℕ × Node). e.1) es)) (sym (entries-map (map entry_of live) ascend))

  pub length_len : length live ≡ len (map_of live)
  length_len = sym (length-map live entry_of) ∙ sym (len-entries (map_of live) ∙ ap length (entries-map (map entry_of live) ascend))

-- all nodes open
opened_entries : (live : List Live) → map entry_of (map opened live) ≡ changed (λ (node : Node). Open (node_cube node)) (map entry_of live)
opened_entries [] = refl
opened_entries (l ∷ live) = ap (λ es. (l.number, Open (node_cube (node_of l.state))) ∷ es) (opened_entries live)

pub opened_ascends : (live : List Live) → Ascend live → Ascend (map opened live)
opened_ascends live ascend = ap (is_sorted nat_cmp) (opened_entries live) ∙ sorted-changed (λ (node : Node). Open (node_cube node)) (map entry_of live) ∙ ascend

pub opened_opens : (live : List Live) → Ascend live → map_of (map opened live) ≡ all_open (map_of live)
opened_opens live ascend =
    ap (λ l. from_sorted {R = nat_cmp} l) (opened_entries live) ∙ ap (λ es. from_sorted {R = nat_cmp} (changed (λ (node : Node). Open (node_cube node)) es)) (sym (entries-map (map entry_of live) ascend))

-- the first i nodes are open, and the others as they were
abbrev pub opened_first : List Live → ℕ → List Live
opened_first old i = map opened (take i old) ++ drop i old

opened_reads : (old : List Live) (i : ℕ) (x : Live) → get_or (opened_first old i) i x ≡ get_or old i x
opened_reads [] zero x = refl
opened_reads [] (suc i) x = refl
opened_reads (l ∷ old) zero x = refl
opened_reads (l ∷ old) (suc i) x = opened_reads old i x

opened_steps : (old : List Live) (i : ℕ) (x v : Live) → i < length old → v ≡ opened (get_or old i x) → set (opened_first old i) i v ≡ opened_first old (suc i)
opened_steps [] i x v short e = absurd (omega arith)
opened_steps (l ∷ old) zero x v short e = ap (λ y. y ∷ old) e
opened_steps (l ∷ old) (suc i) x v short e = ap (λ ls. opened l ∷ ls) (opened_steps old i x v (omega arith) e)

pub opened_begins : (old : List Live) → old ≡ opened_first old 0
opened_begins old = refl

pub opened_goes_on : (old now : List Live) (i : ℕ) (x : Live) (cube : CubeParts) → i < length old → now ≡ opened_first old i → cube ≡ node_cube (node_of (get_or now i x).state)
    → set now i (record { number = (get_or now i x).number; state = IsOpen cube }) ≡ opened_first old (i + 1)
opened_goes_on old now i x cube short so_far is =
    let here : get_or now i x ≡ get_or old i x = ap (λ (ls : List Live). get_or ls i x) so_far ∙ opened_reads old i x in
    let made : record { number = (get_or now i x).number; state = IsOpen cube } ≡ opened (get_or old i x) = (λ j. record { number = (get_or now i x).number; state = IsOpen (is j) }) ∙ ap opened here in
    ap (λ (ls : List Live). set ls i (record { number = (get_or now i x).number; state = IsOpen cube })) so_far
    ∙ opened_steps old i x (record { number = (get_or now i x).number; state = IsOpen cube }) short made ∙ ap (opened_first old) (sym (add-one i))

pub opened_ends : (old : List Live) (i : ℕ) → length old ≤ i → opened_first old i ≡ map opened old
opened_ends [] zero far = refl
opened_ends [] (suc i) far = refl
opened_ends (l ∷ old) zero far = absurd (omega arith)
opened_ends (l ∷ old) (suc i) far = ap (λ ls. opened l ∷ ls) (opened_ends old i (omega arith))

-- a list and what stands past its end
pub front_only : (xs ys : List Live) (n : ℕ) → length xs ≡ n → take n (xs ++ ys) ≡ xs
front_only [] ys n e = ap (λ k. take k ys) (sym e)
front_only (x ∷ xs) ys n e = ap (λ k. take k (x ∷ xs ++ ys)) (sym e) ∙ ap (λ l. x ∷ l) (front_only xs ys (length xs) refl)

-- a number that the list doesn't have isn't one of the map
pub not_there : (live given : List Live) → Ascend live → (k : ℕ) → given ≡ live → find nat_cmp k (map entry_of given) ≡ None → is_some (get (map_of live) k) ≡ true → ⊥
not_there live given ascend k same none some =
    let gone : get (map_of live) k ≡ None = get_absent live ascend k (ap (λ (l : List Live). find nat_cmp k (map entry_of l)) (sym same) ∙ none) in
    let f : false ≡ true = ap is_some (sym gone) ∙ some in cc

-- no live nodes
pub map_of-none : map_of [] ≡ empty
map_of-none = empty_of_len (map_of []) (sym (length_len [] refl))
