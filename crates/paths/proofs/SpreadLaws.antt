-- Steps of the loops over components and edges.
use Rattle.std.proofs.Common.{eq-eqb, map, filter, subst, ◌++◌, ◌≡◌, ℕ, zero, suc, ◌+◌, ◌<◌, ◌≤◌, Bool, true, false, cond, not, ◌&&◌, ◌||◌, nat_eq, List, [], ◌∷◌, length, get_or, replicate, refl, sym, ap, ◌∙◌, arith, inl, inr, ◌≢◌, ltb, add-one, get_or-set_same, get_or-set_other}
use Rattle.std.specs.List.{list_any, range_with_len, enumerate_from}
use Rattle.std.specs.Prelude.{IsTrue, ◌↔◌}
use Rattle.std.specs.Option.{unwrap_or}
use Rattle.std.proofs.lemmas.List.Folds.{list_any-append}
use Rattle.std.proofs.lemmas.Option.{slice_get-get_or, unwrap_or-slice_get}
use Rattle.std.proofs.lemmas.Bool.{eqb-true, lt-ltb, ltb-true, le-ltb}
use Rattle.std.proofs.lemmas.Bool.Decides.{eqb_tells}
use Rattle.std.proofs.Math.Bool.{and_comm}
use Rattle.std.proofs.Math.ListN.{set}
use Rattle.std.proofs.lemmas.List.FromFn.{length-range_with_len}
use Rattle.arch_model.specs.declared.limits.TheConstants.{COMPONENTS, MEMBERS}
use Rattle.arch_model.specs.declared.template.Edge.{Edge}
use Rattle.arch_model.specs.Set.{Set, has, put, empty, union, intersection, minus, members_below}
use Rattle.arch_model.specs.declared.sets.CompId.{CompId}
use Rattle.arch_model.specs.declared.sets.EdgeId.{EdgeId}
use Rattle.std.proofs.lemmas.List.{map-append}
use Rattle.arch_model.specs.Member.{is_in}
use Rattle.arch_model.specs.Path.{reached_within}
use Rattle.arch_model.specs.Inner.Walks.{IsWalk}
use Rattle.arch_model.proofs.Members.{and_left, and_right, and_both, bool_cases, or_left, or_right, or_cases, false_if, not_true, same_test, some_of, any_of, is_in-range, is_in-filter, is_in-members, has-from_members}
use Rattle.arch_model.proofs.SetLaws.{has-put, has-empty, has-union, has-intersection, has-minus}
use Rattle.arch_model.proofs.Ranges.{blank_edge}
use Rattle.arch_model.proofs.Walks.{level_next, level_first, level_inside, IsClosed, reached_exact, closed_at_last}
use Rattle.paths.specs.declared.adjacency.Way.{Way}
use Rattle.paths.specs.declared.adjacency.Way.TheVariants.{Down, Up}
use Rattle.paths.specs.Inner.Spread.{from_of, to_of, leads, live}
use Rattle.paths.specs.Links.{is_next}

-- the numbers below n
unfoldable pub numbers_below : ℕ → List ℕ
numbers_below n = range_with_len 0 n

or_none : (b : Bool) → (b || false) ≡ b
or_none true = refl
or_none false = refl

and_order : (a b : Bool) → (a && b) ≡ (b && a)
and_order true true = refl
and_order true false = refl
and_order false true = refl
and_order false false = refl

and_none : (h : Bool) → (h && false) ≡ false
and_none true = refl
and_none false = refl

pub absorb_left : (p b : Bool) → (b ≡ true → p ≡ true) → (p && b) ≡ b
absorb_left true b h = refl
absorb_left false true h = h refl
absorb_left false false h = refl

pub below_step : (c i : ℕ) → ltb c (i + 1) ≡ (ltb c i || nat_eq i c)
below_step c i = same_test (ltb c (i + 1)) (ltb c i || nat_eq i c)
    (λ h. let lt : c < i + 1 = ltb-true c (i + 1) h in elim (eqb_tells i c) [
      | inl w ↦ or_right (ltb c i) (nat_eq i c) w.0
      | inr w ↦ let ne : i ≢ c = w.1 in or_left (ltb c i) (nat_eq i c) (lt-ltb c i (omega arith))
    ])
    (λ h. elim (or_cases (ltb c i) (nat_eq i c) h) [
      | inl below ↦ let lt : c < i = ltb-true c i below in lt-ltb c (i + 1) (omega arith)
      | inr here ↦ let e : i ≡ c = eqb-true i c here in lt-ltb c (i + 1) (omega arith)
    ])

choose : (l s x n : Bool) → (n ≡ true → x ≡ s) → ((l && s) || (x && n)) ≡ ((l || n) && s)
choose true true x n h = refl
choose true false true true h = h refl
choose true false true false h = refl
choose true false false n h = refl
choose false s x true h = ap (λ y. y && true) (h refl) ∙ and_order s true
choose false s x false h = and_none x

-- a loop that collects the numbers that pass a test
pub collect_none : (p : ℕ → Bool) (found : Set) → found ≡ empty → (c : ℕ) → has found c ≡ (ltb c 0 && p c)
collect_none p found e c = ap (λ s. has s c) e ∙ has-empty c ∙ ap (λ b. b && p c) (sym (le-ltb c 0 (omega arith)))

pub collect_more : (p : ℕ → Bool) (found after : Set) (i : ℕ) (b : Bool) → b ≡ p i → ((c : ℕ) → has found c ≡ (ltb c i && p c)) → ((c : ℕ) → has after c ≡ (has found c || (b && nat_eq i c)))
    → (c : ℕ) → has after c ≡ (ltb c (i + 1) && p c)
collect_more p found after i b is so_far step c =
    step c
    ∙ ap (λ x. x || (b && nat_eq i c)) (so_far c)
    ∙ choose (ltb c i) (p c) b (nat_eq i c) (λ e. is ∙ ap p (eqb-true i c e))
    ∙ ap (λ x. x && p c) (sym (below_step c i))

pub collect_all : (p : ℕ → Bool) (found : Set) (i n : ℕ) → n ≤ i → ((c : ℕ) → p c ≡ true → c < n) → ((c : ℕ) → has found c ≡ (ltb c i && p c)) → (c : ℕ) → has found c ≡ p c
collect_all p found i n all small found_is c = found_is c ∙ absorb_left (ltb c i) (p c) (λ h. let short : c < n = small c h in lt-ltb c i (omega arith))

-- a set of components without those among some failed members
pub left_out : (comps failed gone result : Set) (n c : ℕ) → n ≤ COMPONENTS → (has comps c ≡ true → c < n) → has gone c ≡ (is_in (members_below failed MEMBERS) c && ltb c n) → result ≡ minus comps gone
    → has result c ≡ (has comps c && not (has failed c))
left_out comps failed gone result n c few small gone_is is =
    let here : Bool = has comps c in
    let listed : Bool = is_in (members_below failed MEMBERS) c in
    ap (λ s. has s c) is ∙ has-minus comps gone c ∙ same_test (here && not (has gone c)) (here && not (has failed c))
    (λ h. and_both here (not (has failed c)) (and_left here (not (has gone c)) h)
    (ap not (false_if (has failed c) (λ f.
    let short = small (and_left here (not (has gone c)) h) in
    not_true (has gone c) (and_right here (not (has gone c)) h) (gone_is ∙ and_both listed (ltb c n) (is_in-members failed MEMBERS c f (omega (arith, short, few))) (lt-ltb c n short))))))
    (λ h. and_both here (not (has gone c)) (and_left here (not (has failed c)) h)
    (ap not (false_if (has gone c) (λ g.
    not_true (has failed c) (and_right here (not (has failed c)) h) (has-from_members failed MEMBERS c (and_left listed (ltb c n) (sym gone_is ∙ g)))))))

-- with the test known
pub put_when : (before after : Set) (h c : ℕ) (b : Bool) → b ≡ true → after ≡ put before h → has after c ≡ (has before c || (b && nat_eq h c))
put_when before after h c b on is = ap (λ s. has s c) is ∙ has-put before h c ∙ ap (λ x. has before c || (x && nat_eq h c)) (sym on)

pub same_when : (before after : Set) (h c : ℕ) (b : Bool) → b ≡ false → after ≡ before → has after c ≡ (has before c || (b && nat_eq h c))
same_when before after h c b off is = ap (λ s. has s c) is ∙ sym (or_none (has before c)) ∙ ap (λ x. has before c || (x && nat_eq h c)) (sym off)

-- rows, by their places
pub next_at : (rows : List Set) (a c : ℕ) (d : Set) → a < length rows → has (get_or rows a d) c ≡ is_next rows a c
next_at rows a c d h = sym (ap (λ o. has (unwrap_or o empty) c) (slice_get-get_or rows a d h))

pub next_get : (rows : List Set) (a c : ℕ) → is_next rows a c ≡ has (get_or rows a empty) c
next_get rows a c = ap (λ s. has s c) (unwrap_or-slice_get rows a empty)

pub next_none : (rows : List Set) (n a c : ℕ) (e : Set) → rows ≡ replicate n e → e ≡ empty → is_next rows a c ≡ false
next_none rows n a c e all none = next_get rows a c ∙ ap (λ l. has (get_or l a empty) c) (all ∙ ap (replicate n) none) ∙ ap (λ s. has s c) (blank n a) ∙ has-empty c where
  blank : (n a : ℕ) → get_or (replicate n empty) a empty ≡ empty
  blank zero a = refl
  blank (suc n) zero = refl
  blank (suc n) (suc a) = blank n a

next_set : (rows : List Set) (t to a c : ℕ) (d : Set) → t < length rows → is_next (set rows t (put (get_or rows t d) to)) a c ≡ (is_next rows a c || (nat_eq t a && nat_eq to c))
next_set rows t to a c d h = next_get (set rows t (put (get_or rows t d) to)) a c ∙ elim (eqb_tells t a) [
  | inl w ↦
      ap (λ j. has (get_or (set rows t (put (get_or rows t d) to)) j empty) c) (sym w.1)
      ∙ ap (λ s. has s c) (get_or-set_same rows t (put (get_or rows t d) to) empty h)
      ∙ has-put (get_or rows t d) to c
      ∙ ap (λ b. b || nat_eq to c) (next_at rows t c d h ∙ ap (λ j. is_next rows j c) w.1)
      ∙ ap (λ b. is_next rows a c || (b && nat_eq to c)) (sym w.0)
  | inr w ↦
      let ne : a ≢ t = λ e. w.1 (sym e) in
      ap (λ s. has s c) (get_or-set_other rows t a (put (get_or rows t d) to) empty ne)
      ∙ sym (next_get rows a c)
      ∙ sym (or_none (is_next rows a c))
      ∙ ap (λ b. is_next rows a c || (b && nat_eq to c)) (sym w.0)
]

-- the edges that are present and not failed, by the numbers of the present ones
abbrev pub joins_by : Way → List Edge → Set → ℕ → ℕ → ℕ → ℕ → Bool
joins_by way edges failed n a c e = not (has failed (n + e)) && (nat_eq (from_of way (get_or edges e blank_edge)) a && nat_eq (to_of way (get_or edges e blank_edge)) c)

any_chosen : {X : Type 0} (q : X → Bool) (s : ℕ → Bool) (d : X) (item : ℕ → X) (b : ℕ) (xs : List X) → ((i : ℕ) → i < length xs → item (b + i) ≡ get_or xs i d)
    → list_any q (map (λ (p : ℕ × X). p.1) (filter (λ (p : ℕ × X). s p.0) (enumerate_from b xs))) ≡ list_any (λ e. s e && q (item e)) (range_with_len b (length xs))
any_chosen q s d item b [] items = refl
any_chosen {X = X} q s d item b (x ∷ xs) items =
    let rest = any_chosen q s d item (b + 1) xs (λ i h. let same : (b + 1) + i ≡ b + suc i = omega arith in ap item same ∙ items (suc i) (omega arith)) in
    let same : b ≡ b + 0 = omega arith in
    let here = ap item same ∙ items 0 (omega arith) in
    elim (s b) as (λ v. list_any q (map (λ (p : ℕ × X). p.1) (cond v ((b, x) ∷ filter (λ (p : ℕ × X). s p.0) (enumerate_from (b + 1) xs)) (filter (λ (p : ℕ × X). s p.0) (enumerate_from (b + 1) xs))))
    ≡ ((v && q (item b)) || list_any (λ e. s e && q (item e)) (range_with_len (b + 1) (length xs)))) [
      | true ↦ ap (λ y. q y || list_any q (map (λ (p : ℕ × X). p.1) (filter (λ (p : ℕ × X). s p.0) (enumerate_from (b + 1) xs)))) (sym here) ∙ ap (λ t. q (item b) || t) rest
      | false ↦ rest
    ]

-- an edge is walked from the end at which it is entered to the other
leads_by : (way : Way) (edges : List Edge) (a c : ℕ) → list_any (λ e. nat_eq (from_of way e) a && nat_eq (to_of way e) c) edges ≡ leads way edges a c
leads_by Down edges a c = refl
leads_by Up edges a c = ap (λ (q : Edge → Bool). list_any q edges) (λ i e. and_comm (nat_eq e.head.0 a) (nat_eq e.tail.0 c) i)

pub leads_members : (way : Way) (chosen failed : Set) (n m : ℕ) (edges : List Edge) (a c : ℕ) → ((e : ℕ) → IsTrue (has chosen e) → e < length edges) → length edges ≤ m
    → list_any (joins_by way edges failed n a c) (members_below chosen m) ≡ leads way (live chosen failed n edges) a c
leads_members way chosen failed n m edges a c small few =
    let q : Edge → Bool = λ e. nat_eq (from_of way e) a && nat_eq (to_of way e) c in
    let live_at : ℕ → Bool = λ e. has chosen e && not (has failed (n + e)) in
    let item : ℕ → Edge = λ e. get_or edges e blank_edge in
    let by : ℕ → Bool = joins_by way edges failed n a c in
    let both : ℕ → Bool = λ e. live_at e && q (item e) in
    same_test (list_any by (members_below chosen m)) (list_any both (range_with_len 0 (length edges)))
    (λ h.
    let e = some_of by (members_below chosen m) h in
    let on = has-from_members chosen m e.0 e.1 in
    let short = small e.0 on in
    any_of both (range_with_len 0 (length edges)) e.0 (is_in-range 0 (length edges) e.0 (omega arith) (omega (arith, short)))
    (and_both (live_at e.0) (q (item e.0)) (and_both (has chosen e.0) (not (has failed (n + e.0))) on (and_left (not (has failed (n + e.0))) (q (item e.0)) e.2)) (and_right (not (has failed (n + e.0))) (q (item e.0)) e.2)))
    (λ h.
    let e = some_of both (range_with_len 0 (length edges)) h in
    let up = and_left (live_at e.0) (q (item e.0)) e.2 in
    let on = and_left (has chosen e.0) (not (has failed (n + e.0))) up in
    let short = small e.0 on in
    any_of by (members_below chosen m) e.0 (is_in-members chosen m e.0 on (omega (arith, short)))
    (and_both (not (has failed (n + e.0))) (q (item e.0)) (and_right (has chosen e.0) (not (has failed (n + e.0))) up) (and_right (live_at e.0) (q (item e.0)) e.2)))
    ∙ sym (any_chosen q live_at blank_edge item 0 edges (λ i h. let same : 0 + i ≡ i = omega arith in ap item same))
    ∙ leads_by way (live chosen failed n edges) a c

module _ (way : Way) (edges : List Edge) (failed : Set) (n : ℕ) (rows after : List Set) (yielded : List EdgeId) (e : EdgeId)
    (so_far : (a c : ℕ) → is_next rows a c ≡ list_any (joins_by way edges failed n a c) (map (λ x. x.0) yielded)) where
  one_more : (a c : ℕ) (b : Bool) → b ≡ joins_by way edges failed n a c e.0 → (is_next rows a c || b) ≡ list_any (joins_by way edges failed n a c) (map (λ x. x.0) (yielded ++ e ∷ []))
  one_more a c b is =
      ap (λ x. x || b) (so_far a c)
      ∙ ap (λ x. list_any (joins_by way edges failed n a c) (map (λ (x : EdgeId). x.0) yielded) || x) (is ∙ sym (or_none (joins_by way edges failed n a c e.0)))
      ∙ sym (list_any-append (joins_by way edges failed n a c) (map (λ (x : EdgeId). x.0) yielded) (e.0 ∷ []))
      ∙ ap (list_any (joins_by way edges failed n a c)) (sym (map-append (λ (x : EdgeId). x.0) yielded (e ∷ [])))

  pub row_more : (from to : ℕ) (d : Set) → has failed (n + e.0) ≡ false → from < length rows → from ≡ from_of way (get_or edges e.0 blank_edge) → to ≡ to_of way (get_or edges e.0 blank_edge)
      → after ≡ set rows from (put (get_or rows from d) to) → (a c : ℕ) → is_next after a c ≡ list_any (joins_by way edges failed n a c) (map (λ x. x.0) (yielded ++ e ∷ []))
  row_more from to d on low from_is to_is is a c =
      ap (λ l. is_next l a c) is
      ∙ next_set rows from to a c d low
      ∙ one_more a c (nat_eq from a && nat_eq to c)
      (ap (λ m. nat_eq m a && nat_eq to c) from_is
      ∙ ap (λ m. nat_eq (from_of way (get_or edges e.0 blank_edge)) a && nat_eq m c) to_is
      ∙ ap (λ b. not b && (nat_eq (from_of way (get_or edges e.0 blank_edge)) a && nat_eq (to_of way (get_or edges e.0 blank_edge)) c)) (sym on))

pub entered_is : (up found result : Set) (c : ℕ) (b : Bool) → result ≡ intersection found up → has found c ≡ b → has result c ≡ (has up c && b)
entered_is up found result c b is e = ap (λ s. has s c) is ∙ has-intersection found up c ∙ ap (λ x. x && has up c) e ∙ and_order b (has up c)

pub in_below : (n a : ℕ) → a < n → is_in (numbers_below n) a ≡ true
unfolding numbers_below
in_below n a h = is_in-range 0 n a (omega arith) (omega arith)

pub below_of : (n a : ℕ) → is_in (numbers_below n) a ≡ true → a < n
unfolding numbers_below
below_of n a h = let short = inside 0 n a h in omega (arith, short) where
  inside : (b n a : ℕ) → is_in (range_with_len b n) a ≡ true → a < b + n
  inside b zero a h = absurd (let e : false ≡ true = h in cc)
  inside b (suc n) a h = elim (or_cases (nat_eq b a) (is_in (range_with_len (b + 1) n) a) h) [
    | inl here ↦ let e : b ≡ a = eqb-true b a here in omega arith
    | inr later ↦ let rest = inside (b + 1) n a later in omega arith
  ]

pub length-below : (n : ℕ) → length (numbers_below n) ≡ n
unfolding numbers_below
length-below n = length-range_with_len 0 n

-- what is entered from one number more
pub enter_one : (rows : List Set) (before after : Set) (yielded : List CompId) (a : CompId) (d : Set) (c : ℕ) → a.0 < length rows → after ≡ union before (get_or rows a.0 d)
    → has before c ≡ list_any (λ b. is_next rows b c) (map (λ x. x.0) yielded) → has after c ≡ list_any (λ b. is_next rows b c) (map (λ x. x.0) (yielded ++ a ∷ []))
enter_one rows before after yielded a d c low step so_far =
    ap (λ s. has s c) step ∙ has-union before (get_or rows a.0 d) c
    ∙ ap (λ b. b || has (get_or rows a.0 d) c) so_far
    ∙ ap (λ b. list_any (λ b. is_next rows b c) (map (λ (x : CompId). x.0) yielded) || b) (next_at rows a.0 c d low ∙ sym (or_none (is_next rows a.0 c)))
    ∙ sym (list_any-append (λ b. is_next rows b c) (map (λ (x : CompId). x.0) yielded) (a.0 ∷ []))
    ∙ ap (list_any (λ b. is_next rows b c)) (sym (map-append (λ (x : CompId). x.0) yielded (a ∷ [])))

is_in-at : (xs : List ℕ) (k d : ℕ) → k < length xs → is_in xs (get_or xs k d) ≡ true
is_in-at [] k d h = absurd (omega arith)
is_in-at (x ∷ xs) zero d h = or_left (nat_eq x x) (is_in xs x) (eq-eqb x x refl)
is_in-at (x ∷ xs) (suc k) d h = or_right (nat_eq x (get_or xs k d)) (is_in xs (get_or xs k d)) (is_in-at xs k d (omega arith))

is_in-below : (s : Set) (n v : ℕ) → is_in (members_below s n) v ≡ true → is_in (numbers_below n) v ≡ true
unfolding members_below numbers_below
is_in-below s n v h = and_right (has s v) (is_in (range_with_len 0 n) v) (sym (is_in-filter (has s) (range_with_len 0 n) v) ∙ h)

-- what the list of a set's members has at a place is a member below n
is_in-place : (s : Set) (n k v : ℕ) → k < length (members_below s n) → v ≡ get_or (members_below s n) k v → is_in (members_below s n) v ≡ true
is_in-place s n k v low is = subst (λ m. is_in (members_below s n) m ≡ true) (sym is) (is_in-at (members_below s n) k v low)

pub member_at : (s : Set) (n k v : ℕ) → k < length (members_below s n) → v ≡ get_or (members_below s n) k v → v < n
member_at s n k v low is = below_of n v (is_in-below s n v (is_in-place s n k v low is))

pub member_of : (s : Set) (n k v : ℕ) → k < length (members_below s n) → v ≡ get_or (members_below s n) k v → has s v ≡ true
member_of s n k v low is = has-from_members s n v (is_in-place s n k v low is)

-- a test of a set's members, and of a list that has the same
members_list : (joined : ℕ → Bool) (reached : Set) (level : List ℕ) (n : ℕ) → ((a : ℕ) → has reached a ≡ is_in level a) → ((a : ℕ) → is_in level a ≡ true → a < n) → list_any joined (members_below reached n) ≡ list_any joined level
members_list joined reached level n alike short = same_test _ _
    (λ h. let a = some_of joined (members_below reached n) h in any_of joined level a.0 (sym (alike a.0) ∙ has-from_members reached n a.0 a.1) a.2)
    (λ h. let a = some_of joined level h in any_of joined (members_below reached n) a.0 (is_in-members reached n a.0 (alike a.0 ∙ a.1) (short a.0 a.1)) a.2)

-- rounds
module _ (up first : Set) (rows : List Set) (n : ℕ) (small : (c : ℕ) → IsTrue (has up c) → c < n) where
  abbrev round : ℕ → List ℕ
  round k = reached_within (has first) (has up) (is_next rows) (numbers_below n) k

  inside : (c : ℕ) → has up c ≡ true → is_in (numbers_below n) c ≡ true
  inside c h = in_below n c (small c h)

  pub first_round : (reached : Set) → reached ≡ intersection up first → (c : ℕ) → has reached c ≡ is_in (round 0) c
  first_round reached is c = ap (λ s. has s c) is ∙ has-intersection up first c ∙ sym (level_first (has first) (has up) (is_next rows) (numbers_below n) inside c)

  next_round : (reached wider : Set) (k : ℕ) → ((c : ℕ) → has reached c ≡ is_in (round k) c)
      → ((c : ℕ) → has wider c ≡ (has reached c || (has up c && list_any (λ a. is_next rows a c) (members_below reached n))))
      → (c : ℕ) → has wider c ≡ is_in (round (suc k)) c
  next_round reached wider k levels step c =
      step c
      ∙ ap (λ b. b || (has up c && list_any (λ a. is_next rows a c) (members_below reached n))) (levels c)
      ∙ ap (λ b. is_in (round k) c || (has up c && b)) (members_list (λ a. is_next rows a c) reached (round k) n levels
      (λ a h. below_of n a (level_inside (has first) (has up) (is_next rows) (numbers_below n) k a h)))
      ∙ sym (level_next (has first) (has up) (is_next rows) (numbers_below n) inside k c)

  pub later_round : (reached wider : Set) (k : ℕ) → ((c : ℕ) → has reached c ≡ is_in (round k) c)
      → ((c : ℕ) → has wider c ≡ (has reached c || (has up c && list_any (λ a. is_next rows a c) (members_below reached n))))
      → (c : ℕ) → has wider c ≡ is_in (round (k + 1)) c
  later_round reached wider k levels step c = next_round reached wider k levels step c ∙ ap (λ m. is_in (round m) c) (sym (add-one k))

  exact_from : (reached : Set) (k : ℕ) → ((c : ℕ) → has reached c ≡ is_in (round k) c) → IsClosed (has first) (has up) (is_next rows) (numbers_below n) k
      → (c : ℕ) → IsTrue (has reached c) ↔ ((rest : List ℕ) × IsWalk (has first) (has up) (is_next rows) c rest)
  exact_from reached k levels closed c =
      let exact = reached_exact (has first) (has up) (is_next rows) (numbers_below n) inside k closed c in
      ((λ h. exact.0 (sym (levels c) ∙ h)), (λ w. levels c ∙ exact.1 w))

  pub level_low : (reached : Set) (k : ℕ) → ((c : ℕ) → has reached c ≡ is_in (round k) c) → (a : ℕ) → has reached a ≡ true → a < n
  level_low reached k levels a h = below_of n a (level_inside (has first) (has up) (is_next rows) (numbers_below n) k a (sym (levels a) ∙ h))

  -- a round that adds nothing is the last
  pub exact_same : (reached wider : Set) (k : ℕ) → ((c : ℕ) → has reached c ≡ is_in (round k) c)
      → ((c : ℕ) → has wider c ≡ (has reached c || (has up c && list_any (λ a. is_next rows a c) (members_below reached n)))) → wider ≡ reached
      → (c : ℕ) → IsTrue (has reached c) ↔ ((rest : List ℕ) × IsWalk (has first) (has up) (is_next rows) c rest)
  exact_same reached wider k levels step same = exact_from reached k levels (λ c h. sym (levels c) ∙ ap (λ s. has s c) (sym same) ∙ next_round reached wider k levels step c ∙ h)

  -- and so is the n-th
  pub exact_last : (reached : Set) (k : ℕ) → ((c : ℕ) → has reached c ≡ is_in (round k) c) → n ≤ k
      → (c : ℕ) → IsTrue (has reached c) ↔ ((rest : List ℕ) × IsWalk (has first) (has up) (is_next rows) c rest)
  exact_last reached k levels all = exact_from reached k levels (closed_at_last (has first) (has up) (is_next rows) (numbers_below n) k (omega (arith, length-below n)))

-- a round that looks only at the rows of the newest, where those of the others add nothing more
module _ (up : Set) (rows : List Set) (n : ℕ) (reached newest found wider : Set) (low : (a : ℕ) → has reached a ≡ true → a < n)
    (inside : (a : ℕ) → has newest a ≡ true → has reached a ≡ true)
    (old : (a c : ℕ) → has reached a ≡ true → has newest a ≡ false → has up c ≡ true → is_next rows a c ≡ true → has reached c ≡ true)
    (found_is : (c : ℕ) → has found c ≡ (has up c && list_any (λ a. is_next rows a c) (members_below newest n))) (wider_is : wider ≡ union reached found) where
  has_wider : (c : ℕ) → has wider c ≡ (has reached c || has found c)
  has_wider c = ap (λ s. has s c) wider_is ∙ has-union reached found c

  enters : (a c : ℕ) → has reached a ≡ true → has up c ≡ true → is_next rows a c ≡ true → has wider c ≡ true
  enters a c r u j = elim (bool_cases (has newest a)) [
    | inl new ↦
        has_wider c ∙ or_right (has reached c) (has found c)
        (found_is c ∙ and_both (has up c) (list_any (λ b. is_next rows b c) (members_below newest n)) u (any_of (λ b. is_next rows b c) (members_below newest n) a (is_in-members newest n a new (low a r)) j))
    | inr was ↦ has_wider c ∙ or_left (has reached c) (has found c) (old a c r was u j)
  ]

  pub whole_round : (c : ℕ) → has wider c ≡ (has reached c || (has up c && list_any (λ a. is_next rows a c) (members_below reached n)))
  whole_round c =
      let by : ℕ → Bool = λ a. is_next rows a c in
      same_test (has wider c) (has reached c || (has up c && list_any by (members_below reached n)))
      (λ h. elim (or_cases (has reached c) (has found c) (sym (has_wider c) ∙ h)) [
        | inl r ↦ or_left (has reached c) (has up c && list_any by (members_below reached n)) r
        | inr f ↦
            let both = sym (found_is c) ∙ f in
            let a = some_of by (members_below newest n) (and_right (has up c) (list_any by (members_below newest n)) both) in
            let r = inside a.0 (has-from_members newest n a.0 a.1) in
            or_right (has reached c) (has up c && list_any by (members_below reached n))
            (and_both (has up c) (list_any by (members_below reached n)) (and_left (has up c) (list_any by (members_below newest n)) both) (any_of by (members_below reached n) a.0 (is_in-members reached n a.0 r (low a.0 r)) a.2))
      ])
      (λ h. elim (or_cases (has reached c) (has up c && list_any by (members_below reached n)) h) [
        | inl r ↦ has_wider c ∙ or_left (has reached c) (has found c) r
        | inr both ↦
            let a = some_of by (members_below reached n) (and_right (has up c) (list_any by (members_below reached n)) both) in
            enters a.0 c (has-from_members reached n a.0 a.1) (and_left (has up c) (list_any by (members_below reached n)) both) a.2
      ])

  pub newest_inside : (a : ℕ) → has (minus found reached) a ≡ true → has wider a ≡ true
  newest_inside a h = has_wider a ∙ or_right (has reached a) (has found a) (and_left (has found a) (not (has reached a)) (sym (has-minus found reached a) ∙ h))

  pub old_next : (a c : ℕ) → has wider a ≡ true → has (minus found reached) a ≡ false → has up c ≡ true → is_next rows a c ≡ true → has wider c ≡ true
  old_next a c w none u j = elim (bool_cases (has reached a)) [
    | inl r ↦ enters a c r u j
    | inr away ↦ elim (or_cases (has reached a) (has found a) (sym (has_wider a) ∙ w)) [
      | inl r ↦ enters a c r u j
      | inr f ↦ let new : true ≡ false = sym (and_both (has found a) (not (has reached a)) f (ap not away)) ∙ sym (has-minus found reached a) ∙ none in absurd cc
    ]
  ]
