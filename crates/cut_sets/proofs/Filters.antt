-- Filters of all sublists of a list.
use Rattle.std.proofs.Common.{◌≡◌, ℕ, Bool, true, false, cond, ◌&&◌, nat_eq, nat_lt, List, [], ◌∷◌, ◌++◌, map, filter, refl, sym, ap, ◌∙◌, inl, inr}
use Rattle.std.proofs.lemmas.Bool.{eq-eqb}
use Rattle.std.proofs.lemmas.List.{map-append}
use Rattle.std.proofs.lemmas.List.Elements.{filter-append}
use Rattle.arch_model.specs.Member.{is_in, present_members}
use Rattle.arch_model.proofs.Members.{or_left, or_right, or_cases, bool_cases}
use Rattle.arch_model.proofs.Sublists.{AllSublists, map_all, members_inside}
use Rattle.arch_model.specs.Parts.{LibraryParts, ArchitectureParts}
use Rattle.arch_model.specs.CutSet.{nonempty_sublists, sublists, is_minimal_cut_set, minimal_cut_sets}
use Rattle.arch_model.specs.Weight.{product_of}
use Rattle.cut_sets.specs.CutSets.{cut_sets_of}
use Rattle.cut_sets.specs.Inner.Upcoming.{is_live_cut_set}

-- the sublists of a list, each as f makes it, that pass a test
abbrev pub passing : (List ℕ → Bool) → (List ℕ → List ℕ) → List ℕ → List (List ℕ)
passing p f cs = filter p (map f (nonempty_sublists cs))

pub filter_yes : (p : List ℕ → Bool) (m : List ℕ) (ms : List (List ℕ)) → p m ≡ true → filter p (m ∷ ms) ≡ m ∷ filter p ms
filter_yes p m ms h = ap (λ b. cond b (m ∷ filter p ms) (filter p ms)) h

pub filter_no : (p : List ℕ → Bool) (m : List ℕ) (ms : List (List ℕ)) → p m ≡ false → filter p (m ∷ ms) ≡ filter p ms
filter_no p m ms h = ap (λ b. cond b (m ∷ filter p ms) (filter p ms)) h

map_twice : (f g : List ℕ → List ℕ) (ms : List (List ℕ)) → map f (map g ms) ≡ map (λ m. f (g m)) ms
map_twice f g [] = refl
map_twice f g (m ∷ ms) = ap (λ l. f (g m) ∷ l) (map_twice f g ms)

-- the sublists that have the first element, and the others
split : (p : List ℕ → Bool) (f : List ℕ → List ℕ) (c : ℕ) (cs : List ℕ)
    → filter p (map f (map (λ m. c ∷ m) (nonempty_sublists cs) ++ nonempty_sublists cs)) ≡ passing p (λ m. f (c ∷ m)) cs ++ passing p f cs
split p f c cs =
    ap (filter p) (map-append f (map (λ m. c ∷ m) (nonempty_sublists cs)) (nonempty_sublists cs))
    ∙ filter-append p (map f (map (λ m. c ∷ m) (nonempty_sublists cs))) (map f (nonempty_sublists cs))
    ∙ ap (λ l. filter p l ++ passing p f cs) (map_twice f (λ m. c ∷ m) (nonempty_sublists cs))

pub passing_yes : (p : List ℕ → Bool) (f : List ℕ → List ℕ) (c : ℕ) (cs : List ℕ) → p (f (c ∷ [])) ≡ true
    → passing p f (c ∷ cs) ≡ f (c ∷ []) ∷ (passing p (λ m. f (c ∷ m)) cs ++ passing p f cs)
passing_yes p f c cs h = filter_yes p (f (c ∷ [])) _ h ∙ ap (λ l. f (c ∷ []) ∷ l) (split p f c cs)

pub passing_no : (p : List ℕ → Bool) (f : List ℕ → List ℕ) (c : ℕ) (cs : List ℕ) → p (f (c ∷ [])) ≡ false
    → passing p f (c ∷ cs) ≡ passing p (λ m. f (c ∷ m)) cs ++ passing p f cs
passing_no p f c cs h = filter_no p (f (c ∷ [])) _ h ∙ split p f c cs

filter_none : (p : List ℕ → Bool) (f : List ℕ → List ℕ) (ms : List (List ℕ)) → ((m : List ℕ) → p (f m) ≡ false) → filter p (map f ms) ≡ []
filter_none p f [] none = refl
filter_none p f (m ∷ ms) none = filter_no p (f m) (map f ms) (none m) ∙ filter_none p f ms none

-- no sublist passes where none with a first element does
pub none_begins : (p : List ℕ → Bool) (f : List ℕ → List ℕ) (cs : List ℕ) → ((c : ℕ) (m : List ℕ) → is_in cs c ≡ true → p (f (c ∷ m)) ≡ false) → passing p f cs ≡ []
none_begins p f [] none = refl
none_begins p f (c ∷ cs) none =
    let first = λ (m : List ℕ). none c m (or_left (nat_eq c c) (is_in cs c) (eq-eqb c c refl)) in
    passing_no p f c cs (first [])
    ∙ ap (λ l. l ++ passing p f cs) (filter_none p (λ m. f (c ∷ m)) (nonempty_sublists cs) first)
    ∙ none_begins p f cs (λ d m h. none d m (or_right (nat_eq c d) (is_in cs d) h))

-- the empty sublist is one of all
pub at_none : (P : List ℕ → Type 0) (cs : List ℕ) → AllSublists P cs → P []
at_none P [] h = h
at_none P (c ∷ cs) h = at_none P cs h.0

pub none_passes : (p : List ℕ → Bool) (f : List ℕ → List ℕ) (cs : List ℕ) → AllSublists (λ m. p (f m) ≡ false) cs → passing p f cs ≡ []
none_passes p f [] none = refl
none_passes p f (c ∷ cs) none =
    passing_no p f c cs (at_none (λ m. p (f (c ∷ m)) ≡ false) cs none.1)
    ∙ ap (λ l. l ++ passing p f cs) (none_passes p (λ m. f (c ∷ m)) cs none.1)
    ∙ none_passes p f cs none.0

-- a list of elements of another, and one more
one_more : (c : ℕ) (m cs : List ℕ) → ((d : ℕ) → is_in m d ≡ true → is_in cs d ≡ true) → (d : ℕ) → is_in (c ∷ m) d ≡ true → is_in (c ∷ cs) d ≡ true
one_more c m cs inside d h = elim (or_cases (nat_eq c d) (is_in m d) h) [ inl here ↦ or_left (nat_eq c d) (is_in cs d) here | inr later ↦ or_right (nat_eq c d) (is_in cs d) (inside d later) ]

-- elements with which no sublist passes can be left out
pub passing_among : (p : List ℕ → Bool) (f : List ℕ → List ℕ) (q : ℕ → Bool) (cs : List ℕ)
    → ((c : ℕ) (m : List ℕ) → q c ≡ false → is_in m c ≡ true → ((d : ℕ) → is_in m d ≡ true → is_in cs d ≡ true) → p (f m) ≡ false) → passing p f cs ≡ passing p f (filter q cs)
passing_among p f q [] none = refl
passing_among p f q (c ∷ cs) none =
    let here = λ (m : List ℕ). or_left (nat_eq c c) (is_in m c) (eq-eqb c c refl) in
    let with_c = passing_among p (λ m. f (c ∷ m)) q cs (λ d m out h inside. none d (c ∷ m) out (or_right (nat_eq c d) (is_in m d) h) (one_more c m cs inside)) in
    let without_c = passing_among p f q cs (λ d m out h inside. none d m out h (λ e i. or_right (nat_eq c e) (is_in cs e) (inside e i))) in
    elim (bool_cases (q c)) [
      | inl kept ↦
          elim (bool_cases (p (f (c ∷ [])))) [
            | inl passes ↦
                passing_yes p f c cs passes
                ∙ ap (λ l. f (c ∷ []) ∷ (l ++ passing p f cs)) with_c
                ∙ ap (λ l. f (c ∷ []) ∷ (passing p (λ m. f (c ∷ m)) (filter q cs) ++ l)) without_c
                ∙ sym (passing_yes p f c (filter q cs) passes)
                ∙ ap (λ b. passing p f (cond b (c ∷ filter q cs) (filter q cs))) (sym kept)
            | inr fails ↦
                passing_no p f c cs fails
                ∙ ap (λ l. l ++ passing p f cs) with_c
                ∙ ap (λ l. passing p (λ m. f (c ∷ m)) (filter q cs) ++ l) without_c
                ∙ sym (passing_no p f c (filter q cs) fails)
                ∙ ap (λ b. passing p f (cond b (c ∷ filter q cs) (filter q cs))) (sym kept)
          ]
      | inr out ↦
          passing_no p f c cs (none c (c ∷ []) out (here []) (one_more c [] cs (λ d h. absurd (let e : false ≡ true = h in cc))))
          ∙ ap (λ l. l ++ passing p f cs) (none_passes p (λ m. f (c ∷ m)) cs (map_all _ _ (λ m inside. none c (c ∷ m) out (here m) (one_more c m cs inside)) cs (members_inside cs)))
          ∙ without_c
          ∙ ap (λ b. passing p f (cond b (c ∷ filter q cs) (filter q cs))) (sym out)
    ]

-- two tests, one after the other
pub filter_both : (p q : List ℕ → Bool) (ms : List (List ℕ)) → filter q (filter p ms) ≡ filter (λ m. p m && q m) ms
filter_both p q [] = refl
filter_both p q (m ∷ ms) = elim (p m) as (λ b. filter q (cond b (m ∷ filter p ms) (filter p ms)) ≡ cond (b && q m) (m ∷ filter (λ x. p x && q x) ms) (filter (λ x. p x && q x) ms)) [
  | true ↦ ap (λ l. cond (q m) (m ∷ l) l) (filter_both p q ms)
  | false ↦ filter_both p q ms
]

-- the cut sets of positive product are the sublists that pass one test
pub live_sublists : (lib : LibraryParts) (arch : ArchitectureParts) (sink : ℕ) → cut_sets_of lib arch sink ≡ filter (is_live_cut_set lib arch sink) (sublists (present_members lib arch))
unfolding cut_sets_of minimal_cut_sets
live_sublists lib arch sink = filter_both (is_minimal_cut_set lib arch sink) (λ m. nat_lt 0 (product_of lib m)) (sublists (present_members lib arch))
