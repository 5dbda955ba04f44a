-- Edges that have failed: their numbers, their rows, and a table without them.
use Rattle.std.proofs.Common.{◌≡◌, ◌≢◌, ℕ, ◌+◌, ◌<◌, ◌≤◌, Bool, true, false, not, ◌&&◌, ◌||◌, nat_eq, List, [], ◌∷◌, length, get_or, refl, sym, ap, ◌∙◌, arith, inl, inr, get_or-set_same, get_or-set_other}
use Rattle.std.specs.Prelude.{IsTrue}
use Rattle.std.specs.List.{list_any}
use Rattle.std.proofs.lemmas.Bool.{eqb-true, eq-eqb}
use Rattle.std.proofs.lemmas.Bool.Decides.{eqb_tells}
use Rattle.std.proofs.Math.ListN.{set}
use Rattle.arch_model.specs.declared.limits.TheConstants.{EDGES, MEMBERS}
use Rattle.arch_model.specs.declared.template.Edge.{Edge}
use Rattle.arch_model.specs.Set.{Set, has, put, empty, minus, intersection, members_below}
use Rattle.arch_model.specs.Parts.{LibraryParts, ArchitectureParts}
use Rattle.arch_model.specs.Library.{IsLibrary}
use Rattle.arch_model.specs.Architecture.{IsArchitecture, present}
use Rattle.arch_model.specs.Member.{is_in}
use Rattle.arch_model.specs.Path.{live_edges, joins}
use Rattle.arch_model.proofs.Members.{and_left, and_right, and_both, false_if, not_true, same_test, some_of, any_of, is_in-members, has-from_members}
use Rattle.arch_model.proofs.SetLaws.{has-put, has-empty, has-minus, has-intersection}
use Rattle.arch_model.proofs.Ranges.{blank_edge}
use Rattle.paths.specs.declared.adjacency.Way.{Way}
use Rattle.paths.specs.declared.adjacency.Way.TheVariants.{Down}
use Rattle.paths.specs.Inner.Spread.{from_of, to_of, leads, live}
use Rattle.paths.specs.Links.{LinksParts, is_next, is_linked, AreLinks}
use Rattle.template.proofs.EdgesDiffer.{edges_differ}
use Rattle.paths.proofs.Loops.{or_assoc}
use Rattle.paths.proofs.SpreadLaws.{next_at, next_get, joins_by, leads_members}

and_yes : (b : Bool) → (b && true) ≡ b
and_yes true = refl
and_yes false = refl

-- a loop over members that collects the numbers of edges, where the first edge is member n
pub edge_put : (before after : Set) (all rest : List ℕ) (v d n e : ℕ) → all ≡ v ∷ rest → v ≡ n + d → after ≡ put before d → (has after e || is_in rest (n + e)) ≡ (has before e || is_in all (n + e))
edge_put before after all rest v d n e is at grown =
    let same : nat_eq d e ≡ nat_eq v (n + e) = same_test (nat_eq d e) (nat_eq v (n + e))
    (λ h. let here = eqb-true d e h in eq-eqb v (n + e) (omega (arith, here, at)))
    (λ h. let here = eqb-true v (n + e) h in eq-eqb d e (omega (arith, here, at))) in
    ap (λ b. b || is_in rest (n + e)) (ap (λ s. has s e) grown ∙ has-put before d e)
    ∙ or_assoc (has before e) (nat_eq d e) (is_in rest (n + e))
    ∙ ap (λ b. has before e || (b || is_in rest (n + e))) same
    ∙ ap (λ l. has before e || is_in l (n + e)) (sym is)

pub edge_passed : (found : Set) (all rest : List ℕ) (v n e : ℕ) → all ≡ v ∷ rest → v ≢ n + e → (has found e || is_in rest (n + e)) ≡ (has found e || is_in all (n + e))
edge_passed found all rest v n e is other =
    ap (λ b. has found e || (b || is_in rest (n + e))) (sym (false_if (nat_eq v (n + e)) (λ h. other (eqb-true v (n + e) h))))
    ∙ ap (λ l. has found e || is_in l (n + e)) (sym is)

-- rows less one edge
lost_more : (x h r : Bool) → ((x && not h) && not r) ≡ (x && not (h || r))
lost_more false h r = refl
lost_more true true r = refl
lost_more true false r = refl

module _ (way : Way) (edges : List Edge) (left after : List Set) (e from to : ℕ) (d one : Set) (low : from < length left)
    (from_is : from ≡ from_of way (get_or edges e blank_edge)) (to_is : to ≡ to_of way (get_or edges e blank_edge)) (one_is : one ≡ put empty to) (step : after ≡ set left from (minus (get_or left from d) one)) where
  after_is : (a c : ℕ) → is_next after a c ≡ (is_next left a c && not (nat_eq from a && nat_eq to c))
  after_is a c =
      let fresh = minus (get_or left from d) one in
      ap (λ l. is_next l a c) step ∙ next_get (set left from fresh) a c ∙ elim (eqb_tells from a) [
        | inl w ↦
            ap (λ j. has (get_or (set left from fresh) j empty) c) (sym w.1)
            ∙ ap (λ s. has s c) (get_or-set_same left from fresh empty low)
            ∙ has-minus (get_or left from d) one c
            ∙ ap (λ x. x && not (has one c)) (next_at left from c d low ∙ ap (λ j. is_next left j c) w.1)
            ∙ ap (λ b. is_next left a c && not b) (ap (λ s. has s c) one_is ∙ has-put empty to c ∙ ap (λ b. b || nat_eq to c) (has-empty c))
            ∙ ap (λ b. is_next left a c && not (b && nat_eq to c)) (sym w.0)
        | inr w ↦
            let ne : a ≢ from = λ same. w.1 (sym same) in
            ap (λ s. has s c) (get_or-set_other left from a fresh empty ne)
            ∙ sym (next_get left a c)
            ∙ sym (and_yes (is_next left a c))
            ∙ ap (λ b. is_next left a c && not (b && nat_eq to c)) (sym w.0)
      ]

  pub edge_less : (all rest : List ℕ) → all ≡ e ∷ rest → (a c : ℕ)
      → (is_next after a c && not (list_any (joins_by way edges empty 0 a c) rest)) ≡ (is_next left a c && not (list_any (joins_by way edges empty 0 a c) all))
  edge_less all rest is a c =
      ap (λ b. b && not (list_any (joins_by way edges empty 0 a c) rest)) (after_is a c)
      ∙ lost_more (is_next left a c) (nat_eq from a && nat_eq to c) (list_any (joins_by way edges empty 0 a c) rest)
      ∙ ap (λ b. is_next left a c && not (b || list_any (joins_by way edges empty 0 a c) rest))
      (ap (λ m. nat_eq m a && nat_eq to c) from_is
      ∙ ap (λ m. nat_eq (from_of way (get_or edges e blank_edge)) a && nat_eq m c) to_is
      ∙ ap (λ b. not b && (nat_eq (from_of way (get_or edges e blank_edge)) a && nat_eq (to_of way (get_or edges e blank_edge)) c)) (sym (has-empty (0 + e))))
      ∙ ap (λ l. is_next left a c && not (list_any (joins_by way edges empty 0 a c) l)) (sym is)

pub edges_gone : (way : Way) (edges : List Edge) (rows left : List Set) (gone : Set) (all : List ℕ) (a c : ℕ) → ((e : ℕ) → IsTrue (has gone e) → e < length edges) → length edges ≤ EDGES → all ≡ []
    → (is_next left a c && not (list_any (joins_by way edges empty 0 a c) all)) ≡ (is_next rows a c && not (list_any (joins_by way edges empty 0 a c) (members_below gone EDGES)))
    → is_next left a c ≡ (is_next rows a c && not (leads way (live gone empty 0 edges) a c))
edges_gone way edges rows left gone all a c small few none so_far =
    sym (and_yes (is_next left a c))
    ∙ ap (λ l. is_next left a c && not (list_any (joins_by way edges empty 0 a c) l)) (sym none)
    ∙ so_far
    ∙ ap (λ b. is_next rows a c && not b) (leads_members way gone empty 0 EDGES edges a c small few)

-- a set whose mask is that of no members
pub same_masks : (s none : Set) → none ≡ empty → nat_eq s.mask none.mask ≡ true → s ≡ empty
same_masks s none clear same = let of : ℕ → Set = λ m. record { mask = m } in ap of (eqb-true s.mask none.mask same) ∙ clear

module _ (lib : LibraryParts) (arch : ArchitectureParts) (right : IsLibrary lib) (fits : IsArchitecture lib arch) (failed : Set) where
  abbrev n : ℕ
  n = length lib.components

  -- the present edges among the failed members
  pub fallen_is : (found fallen chosen : Set) (m : ℕ) → m ≡ n → chosen ≡ arch.edges → fallen ≡ intersection found chosen → ((e : ℕ) → e < EDGES → has found e ≡ is_in (members_below failed MEMBERS) (m + e))
      → (e : ℕ) → has fallen e ≡ (has arch.edges e && has failed (n + e))
  fallen_is found fallen chosen m same all is among e =
      ap (λ s. has s e) is ∙ has-intersection found chosen e ∙ ap (λ s. has found e && has s e) all
      ∙ same_test (has found e && has arch.edges e) (has arch.edges e && has failed (n + e))
      (λ h.
      let here = and_right (has found e) (has arch.edges e) h in
      let low = fits.edges e here in
      and_both (has arch.edges e) (has failed (n + e)) here
      (has-from_members failed MEMBERS (n + e) (ap (λ k. is_in (members_below failed MEMBERS) (k + e)) (sym same) ∙ sym (among e (omega (arith, low, right.few_edges))) ∙ and_left (has found e) (has arch.edges e) h)))
      (λ h.
      let here = and_left (has arch.edges e) (has failed (n + e)) h in
      let low = fits.edges e here in
      and_both (has found e) (has arch.edges e)
      (among e (omega (arith, low, right.few_edges)) ∙ ap (λ k. is_in (members_below failed MEMBERS) (k + e)) same ∙ is_in-members failed MEMBERS (n + e) (and_right (has arch.edges e) (has failed (n + e)) h) (omega (arith, low, right.few_edges, right.few_components)))
      here)

  module _ (gone : Set) (gone_is : (e : ℕ) → has gone e ≡ (has arch.edges e && has failed (n + e))) where
    abbrev ends_at : ℕ → ℕ → ℕ → Bool
    ends_at a c e = nat_eq (get_or lib.edges e blank_edge).tail.0 a && nat_eq (get_or lib.edges e blank_edge).head.0 c

    gone_low : (e : ℕ) → has gone e ≡ true → e < length lib.edges
    gone_low e h = fits.edges e (and_left (has arch.edges e) (has failed (n + e)) (sym (gone_is e) ∙ h))

    -- an edge that joins two components, by its number
    joint : (chosen none : Set) → ((e : ℕ) → has chosen e ≡ true → e < length lib.edges) → (a c : ℕ) → joins (live chosen none n lib.edges) a c ≡ true
        → (e : ℕ) × (has chosen e ≡ true) × (not (has none (n + e)) ≡ true) × (ends_at a c e ≡ true)
    joint chosen none small a c h =
        let e = some_of (joins_by Down lib.edges none n a c) (members_below chosen EDGES) (leads_members Down chosen none n EDGES lib.edges a c small right.few_edges ∙ h) in
        (e.0, has-from_members chosen EDGES e.0 e.1, and_left (not (has none (n + e.0))) (ends_at a c e.0) e.2, and_right (not (has none (n + e.0))) (ends_at a c e.0) e.2)

    joined : (chosen none : Set) → ((e : ℕ) → has chosen e ≡ true → e < length lib.edges) → (a c e : ℕ) → has chosen e ≡ true → not (has none (n + e)) ≡ true → ends_at a c e ≡ true
        → joins (live chosen none n lib.edges) a c ≡ true
    joined chosen none small a c e here stands at =
        let low = small e here in
        sym (leads_members Down chosen none n EDGES lib.edges a c small right.few_edges)
        ∙ any_of (joins_by Down lib.edges none n a c) (members_below chosen EDGES) e (is_in-members chosen EDGES e here (omega (arith, low, right.few_edges)))
        (and_both (not (has none (n + e))) (ends_at a c e) stands at)

    one_edge : (a c d e : ℕ) → d < length lib.edges → e < length lib.edges → ends_at a c d ≡ true → ends_at a c e ≡ true → d ≡ e
    one_edge a c d e low short there here =
        let tail : (k : ℕ) → ends_at a c k ≡ true → (get_or lib.edges k blank_edge).tail.0 ≡ a = λ k h. eqb-true _ a (and_left _ (nat_eq (get_or lib.edges k blank_edge).head.0 c) h) in
        let head : (k : ℕ) → ends_at a c k ≡ true → (get_or lib.edges k blank_edge).head.0 ≡ c = λ k h. eqb-true _ c (and_right (nat_eq (get_or lib.edges k blank_edge).tail.0 a) _ h) in
        edges_differ lib right d e low short (tail d there ∙ sym (tail e here)) (head d there ∙ sym (head e here))

    pub still_joined : (a c : ℕ) → (joins (live_edges lib arch (has empty)) a c && not (joins (live gone empty n lib.edges) a c)) ≡ joins (live_edges lib arch (has failed)) a c
    still_joined a c = same_test _ (joins (live_edges lib arch (has failed)) a c)
        (λ h.
        let fallen : Bool = joins (live gone empty n lib.edges) a c in
        let e = joint arch.edges empty fits.edges a c (and_left (joins (live_edges lib arch (has empty)) a c) (not fallen) h) in
        joined arch.edges failed fits.edges a c e.0 e.1
        (ap not (false_if (has failed (n + e.0)) (λ f. not_true fallen (and_right (joins (live_edges lib arch (has empty)) a c) (not fallen) h)
        (joined gone empty gone_low a c e.0 (gone_is e.0 ∙ and_both (has arch.edges e.0) (has failed (n + e.0)) e.1 f) e.2 e.3)))) e.3)
        (λ h.
        let fallen : Bool = joins (live gone empty n lib.edges) a c in
        let e = joint arch.edges failed fits.edges a c h in
        and_both (joins (live_edges lib arch (has empty)) a c) (not fallen)
        (joined arch.edges empty fits.edges a c e.0 e.1 (ap not (has-empty (n + e.0))) e.3)
        (ap not (false_if fallen (λ g.
        let d = joint gone empty gone_low a c g in
        let same : d.0 ≡ e.0 = one_edge a c d.0 e.0 (gone_low d.0 d.1) (fits.edges e.0 e.1) d.3 e.3 in
        not_true (has failed (n + e.0)) e.2 (ap (λ k. has failed (n + k)) (sym same) ∙ and_right (has arch.edges d.0) (has failed (n + d.0)) (sym (gone_is d.0) ∙ d.1))))))

    -- where none has failed, a table of all edges is one of those that are left
    pub links_whole : (table : LinksParts) → gone ≡ empty → AreLinks lib arch (has empty) table → AreLinks lib arch (has failed) table
    links_whole table none all = record {
      sources = all.sources;
      joined = λ a c.
          let fallen : Bool = joins (live gone empty n lib.edges) a c in
          all.joined a c
          ∙ sym (and_yes (joins (live_edges lib arch (has empty)) a c))
          ∙ ap (λ b. joins (live_edges lib arch (has empty)) a c && not b) (sym (false_if fallen (λ g. let e = joint gone empty gone_low a c g in let no : true ≡ false = sym e.1 ∙ ap (λ s. has s e.0) none ∙ has-empty e.0 in absurd cc)))
          ∙ still_joined a c;
    }

    -- a table of all edges, and its rows without those of the failed ones
    pub links_without : (table : LinksParts) (left : List Set) → AreLinks lib arch (has empty) table
        → ((a c : ℕ) → is_next left a c ≡ (is_linked table a c && not (joins (live gone empty 0 lib.edges) a c))) → AreLinks lib arch (has failed) (record { sources = table.sources; rows = left })
    links_without table left all lefts =
        let whole = joins (live_edges lib arch (has empty)) in
        let from_n : live gone empty 0 lib.edges ≡ live gone empty n lib.edges = ap (λ (p : ℕ → Bool). present p lib.edges) (λ i e. has gone e && not ((has-empty (0 + e) ∙ sym (has-empty (n + e))) i)) in record {
          sources = all.sources;
          joined = λ a c. lefts a c ∙ ap (λ b. b && not (joins (live gone empty 0 lib.edges) a c)) (all.joined a c) ∙ ap (λ (es : List Edge). whole a c && not (joins es a c)) from_n ∙ still_joined a c;
        }
