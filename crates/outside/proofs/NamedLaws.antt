-- The item under a name, as code finds it by its place.
use Rattle.std.proofs.Common.{◌≡◌, ◌≢◌, ℕ, zero, suc, ◌+◌, ◌<◌, Bool, true, false, cond, List, [], ◌∷◌, ◌++◌, length, get_or, set, Some, None, position, refl, sym, ap, ◌∙◌, arith, option_map, unwrap_or}
use Rattle.std.specs.List.{position_from}
use Rattle.std.specs.Str.{bytes_eq}
use Rattle.std.proofs.lemmas.Slice.Eq.{bytes_eq-Decides}
use Rattle.std.proofs.lemmas.List.Quantifiers.{position-Some}
use Rattle.std.proofs.lemmas.Iterator.Adapters.{position_from-zero}
use Rattle.outside.specs.Named.{item_of, changed_at}

-- a place from which no earlier item has the name
item_of_first : {X : Type 0} (name : List ℕ) (rows : List (List ℕ × X)) (i : ℕ) (d : List ℕ × X) → i < length rows → bytes_eq (get_or rows i d).0 name ≡ true → ((k : ℕ) → k < i → bytes_eq (get_or rows k d).0 name ≡ false) → item_of name rows ≡ Some (get_or rows i d).1
item_of_first name [] i d h here before = absurd (omega arith)
item_of_first name (row ∷ rows) zero d h here before = rw here refl
item_of_first name (row ∷ rows) (suc i) d h here before =
    let first : bytes_eq row.0 name ≡ false = before 0 (omega arith) in
    let rest : item_of name rows ≡ Some (get_or rows i d).1 = item_of_first name rows i d (omega arith) here (λ k l. before (suc k) (omega arith)) in
    rw first rest

changed_first : {X : Type 0} (name : List ℕ) (change : X → X) (rows : List (List ℕ × X)) (i : ℕ) (d : List ℕ × X) → i < length rows → bytes_eq (get_or rows i d).0 name ≡ true → ((k : ℕ) → k < i → bytes_eq (get_or rows k d).0 name ≡ false) → set rows i ((get_or rows i d).0, change (get_or rows i d).1) ≡ changed_at name change rows
changed_first name change [] i d h here before = absurd (omega arith)
changed_first name change (row ∷ rows) zero d h here before = rw here refl
changed_first name change (row ∷ rows) (suc i) d h here before =
    let first : bytes_eq row.0 name ≡ false = before 0 (omega arith) in
    let rest : set rows i ((get_or rows i d).0, change (get_or rows i d).1) ≡ changed_at name change rows = changed_first name change rows i d (omega arith) here (λ k l. before (suc k) (omega arith)) in
    rw first (ap (λ l. row ∷ l) rest)

-- at the place that a look-up gives
pub item_of-place : {X : Type 0} (name : List ℕ) (rows : List (List ℕ × X)) (i : ℕ) (d : List ℕ × X) → position (λ row. bytes_eq row.0 name) rows ≡ Some i → item_of name rows ≡ Some (get_or rows i d).1
item_of-place name rows i d h =
    let at = position-Some (λ row. bytes_eq row.0 name) rows i d h in
    item_of_first name rows i d at.0 at.1 at.2

pub changed_at-place : {X : Type 0} (name : List ℕ) (change : X → X) (rows : List (List ℕ × X)) (i : ℕ) (d : List ℕ × X) → position (λ row. bytes_eq row.0 name) rows ≡ Some i → set rows i ((get_or rows i d).0, change (get_or rows i d).1) ≡ changed_at name change rows
changed_at-place name change rows i d h =
    let at = position-Some (λ row. bytes_eq row.0 name) rows i d h in
    changed_first name change rows i d at.0 at.1 at.2

item_of_missing : {X : Type 0} (name : List ℕ) (rows : List (List ℕ × X)) (j : ℕ) → position_from (λ row. bytes_eq row.0 name) j rows ≡ None → item_of name rows ≡ None
item_of_missing name [] j h = refl
item_of_missing {X = X} name (row ∷ rows) j h =
    let rest = item_of_missing name rows (j + 1) in
    let step : (b : Bool) → cond b (Some j) (position_from (λ (r : List ℕ × X). bytes_eq r.0 name) (j + 1) rows) ≡ None → cond b (Some row.1) (item_of name rows) ≡ None = elim [ true ↦ λ e. cc | false ↦ λ e. rest e ] in
    step (bytes_eq row.0 name) h

pub item_of-missing : {X : Type 0} (name : List ℕ) (rows : List (List ℕ × X)) → position (λ row. bytes_eq row.0 name) rows ≡ None → item_of name rows ≡ None
item_of-missing name rows h = item_of_missing name rows 0 (sym (position_from-zero (λ row. bytes_eq row.0 name) rows) ∙ h)

-- a change is seen under its own name alone
pub item_of-changed_same : {X : Type 0} (name : List ℕ) (change : X → X) (rows : List (List ℕ × X)) → item_of name (changed_at name change rows) ≡ option_map change (item_of name rows)
item_of-changed_same name change [] = refl
item_of-changed_same {X = X} name change (row ∷ rows) =
    let rest = item_of-changed_same name change rows in
    let step : (b : Bool) → bytes_eq row.0 name ≡ b → item_of name (cond b ((row.0, change row.1) ∷ rows) (row ∷ changed_at name change rows)) ≡ option_map change (cond b (Some row.1) (item_of name rows)) = elim [ true ↦ λ e. rw e refl | false ↦ λ e. rw e rest ] in
    step (bytes_eq row.0 name) refl

pub item_of-changed_other : {X : Type 0} (name other : List ℕ) (change : X → X) (rows : List (List ℕ × X)) → other ≢ name → item_of other (changed_at name change rows) ≡ item_of other rows
item_of-changed_other name other change [] ne = refl
item_of-changed_other {X = X} name other change (row ∷ rows) ne =
    let rest = item_of-changed_other name other change rows ne in
    let step : (b : Bool) → bytes_eq row.0 name ≡ b → item_of other (cond b ((row.0, change row.1) ∷ rows) (row ∷ changed_at name change rows)) ≡ cond (bytes_eq row.0 other) (Some row.1) (item_of other rows) = elim [
      | true ↦ λ e. let same : row.0 ≡ name = (bytes_eq-Decides row.0 name).0 e in
          elim (bytes_eq row.0 other) as (λ w. bytes_eq row.0 other ≡ w → cond w (Some (change row.1)) (item_of other rows) ≡ cond w (Some row.1) (item_of other rows)) [ true ↦ λ f. absurd (ne (sym ((bytes_eq-Decides row.0 other).0 f) ∙ same)) | false ↦ λ f. refl ] refl
      | false ↦ λ e. ap (λ o. cond (bytes_eq row.0 other) (Some row.1) o) rest
    ] in
    step (bytes_eq row.0 name) refl

-- one more item at the end, under a name that is new or not
pub item_of-append : {X : Type 0} (other name : List ℕ) (item : X) (rows : List (List ℕ × X)) → other ≢ name → item_of other (rows ++ (name, item) ∷ []) ≡ item_of other rows
item_of-append other name item [] ne =
    elim (bytes_eq name other) as (λ w. bytes_eq name other ≡ w → cond w (Some item) None ≡ None) [ true ↦ λ f. absurd (ne (sym ((bytes_eq-Decides name other).0 f))) | false ↦ λ f. refl ] refl
item_of-append other name item (row ∷ rows) ne = ap (λ o. cond (bytes_eq row.0 other) (Some row.1) o) (item_of-append other name item rows ne)

pub item_of-append_new : {X : Type 0} (name : List ℕ) (item : X) (rows : List (List ℕ × X)) → item_of name rows ≡ None → item_of name (rows ++ (name, item) ∷ []) ≡ Some item
item_of-append_new name item [] h = rw ((bytes_eq-Decides name name).1 refl) refl
item_of-append_new {X = X} name item (row ∷ rows) h =
    let rest = item_of-append_new name item rows in
    let step : (b : Bool) → cond b (Some row.1) (item_of name rows) ≡ None → cond b (Some row.1) (item_of name (rows ++ (name, item) ∷ [])) ≡ Some item = elim [ true ↦ λ e. cc | false ↦ λ e. rest e ] in
    step (bytes_eq row.0 name) h

-- what is seen of an item, where a change keeps it
pub item_of-changed_kept : {X Y : Type 0} (seen : X → Y) (change : X → X) → ((x : X) → seen (change x) ≡ seen x) → (name other : List ℕ) (rows : List (List ℕ × X)) → option_map seen (item_of other (changed_at name change rows)) ≡ option_map seen (item_of other rows)
item_of-changed_kept seen change keeps name other [] = refl
item_of-changed_kept {X = X} seen change keeps name other (row ∷ rows) =
    let rest = item_of-changed_kept seen change keeps name other rows in
    elim (bytes_eq row.0 name) as (λ b. option_map seen (item_of other (cond b ((row.0, change row.1) ∷ rows) (row ∷ changed_at name change rows))) ≡ option_map seen (cond (bytes_eq row.0 other) (Some row.1) (item_of other rows))) [
      | true ↦ elim (bytes_eq row.0 other) as (λ w. option_map seen (cond w (Some (change row.1)) (item_of other rows)) ≡ option_map seen (cond w (Some row.1) (item_of other rows))) [ true ↦ ap Some (keeps row.1) | false ↦ refl ]
      | false ↦ elim (bytes_eq row.0 other) as (λ w. option_map seen (cond w (Some row.1) (item_of other (changed_at name change rows))) ≡ option_map seen (cond w (Some row.1) (item_of other rows))) [ true ↦ refl | false ↦ rest ]
    ]

-- what is seen of an item, before and after a change: a relation that holds of both ends of one step holds
pub item_of-changed_related : {X Y : Type 0} (P : Y → Y → Type 0) (seen : X → Y) (change : X → X) → ((y : Y) → P y y) → ((x : X) → P (seen x) (seen (change x))) → (name other : List ℕ) (rows : List (List ℕ × X)) (d : Y) → P (unwrap_or (option_map seen (item_of other rows)) d) (unwrap_or (option_map seen (item_of other (changed_at name change rows))) d)
item_of-changed_related P seen change same step name other [] d = same d
item_of-changed_related {X = X} P seen change same step name other (row ∷ rows) d =
    let rest = item_of-changed_related P seen change same step name other rows d in
    elim (bytes_eq row.0 name) as (λ b. P (unwrap_or (option_map seen (cond (bytes_eq row.0 other) (Some row.1) (item_of other rows))) d) (unwrap_or (option_map seen (item_of other (cond b ((row.0, change row.1) ∷ rows) (row ∷ changed_at name change rows)))) d)) [
      | true ↦ elim (bytes_eq row.0 other) as (λ w. P (unwrap_or (option_map seen (cond w (Some row.1) (item_of other rows))) d) (unwrap_or (option_map seen (cond w (Some (change row.1)) (item_of other rows))) d)) [ true ↦ step row.1 | false ↦ same _ ]
      | false ↦ elim (bytes_eq row.0 other) as (λ w. P (unwrap_or (option_map seen (cond w (Some row.1) (item_of other rows))) d) (unwrap_or (option_map seen (cond w (Some row.1) (item_of other (changed_at name change rows)))) d)) [ true ↦ same _ | false ↦ rest ]
    ]

-- no item of that name: nothing is changed
pub changed_at-missing : {X : Type 0} (name : List ℕ) (change : X → X) (rows : List (List ℕ × X)) → item_of name rows ≡ None → changed_at name change rows ≡ rows
changed_at-missing name change [] h = refl
changed_at-missing {X = X} name change (row ∷ rows) h =
    let rest = changed_at-missing name change rows in
    let step : (b : Bool) → cond b (Some row.1) (item_of name rows) ≡ None → cond b ((row.0, change row.1) ∷ rows) (row ∷ changed_at name change rows) ≡ row ∷ rows = elim [ true ↦ λ e. cc | false ↦ λ e. ap (λ l. row ∷ l) (rest e) ] in
    step (bytes_eq row.0 name) h
