-- The first word of a line.
use Rattle.std.proofs.Common.{◌≡◌, ℕ, ◌+◌, ◌≤◌, ◌<◌, Bool, true, false, cond, eqb, List, [], ◌∷◌, ◌++◌, length, take, drop, get_or, Option, Some, None, refl, sym, ap, ◌∙◌, append_assoc, arith}
use Rattle.std.specs.Prelude.{IfSome, IfNone}
use Rattle.std.specs.Str.{bytes_eq}
use Rattle.std.proofs.lemmas.List.{append-nil, take_all, take_more, drop_more, drop_all}
use Rattle.std.proofs.lemmas.Slice.Eq.{bytes_eq-Decides}
use Rattle.proof_log.specs.declared.word.Word.{Word}
use Rattle.proof_log.specs.declared.word.Word.TheVariants.{Version, Vars, Limit, Take, Branch, Prune, Offer, Study, Publish, Accept, Park, Reopen, Answer}
use Rattle.proof_log.specs.Inner.Reading.{word_front, word_rest, word_text, word_among, all_words}

-- no space stands before the i-th byte
pub record NoSpaceBefore (bytes : List ℕ) (i : ℕ) : Type 0 where
  pub front : word_front bytes ≡ take i bytes ++ word_front (drop i bytes)
  pub rest : word_rest bytes ≡ word_rest (drop i bytes)

front_cons : (c : ℕ) (cs : List ℕ) → eqb c 32 ≡ false → word_front (c ∷ cs) ≡ c ∷ word_front cs
unfolding word_front
front_cons c cs e = rw e refl

front_stops : (c : ℕ) (cs : List ℕ) → eqb c 32 ≡ true → word_front (c ∷ cs) ≡ []
unfolding word_front
front_stops c cs e = rw e refl

rest_cons : (c : ℕ) (cs : List ℕ) → eqb c 32 ≡ false → word_rest (c ∷ cs) ≡ word_rest cs
unfolding word_rest
rest_cons c cs e = rw e refl

rest_stops : (c : ℕ) (cs : List ℕ) → eqb c 32 ≡ true → word_rest (c ∷ cs) ≡ c ∷ cs
unfolding word_rest
rest_stops c cs e = rw e refl

front_nil : word_front [] ≡ []
unfolding word_front
front_nil = refl

rest_nil : word_rest [] ≡ []
unfolding word_rest
rest_nil = refl

pub space_begins : (bytes : List ℕ) → NoSpaceBefore bytes 0
space_begins bytes = record { front = refl; rest = refl }

pub space_later : (bytes : List ℕ) (i : ℕ) → i < length bytes → eqb (get_or bytes i 0) 32 ≡ false → NoSpaceBefore bytes i → NoSpaceBefore bytes (i + 1)
space_later bytes i lt other so_far = record {
  front =
      so_far.front
      ∙ ap (λ (l : List ℕ). take i bytes ++ word_front l) (drop_more bytes i 0 lt)
      ∙ ap (λ (l : List ℕ). take i bytes ++ l) (front_cons (get_or bytes i 0) (drop (i + 1) bytes) other)
      ∙ sym (append_assoc (take i bytes) (get_or bytes i 0 ∷ []) (word_front (drop (i + 1) bytes)))
      ∙ ap (λ (l : List ℕ). l ++ word_front (drop (i + 1) bytes)) (sym (take_more bytes i 0 lt));
  rest =
      so_far.rest
      ∙ ap (λ (l : List ℕ). word_rest l) (drop_more bytes i 0 lt)
      ∙ rest_cons (get_or bytes i 0) (drop (i + 1) bytes) other;
}

-- a space is the i-th byte
pub front_here : (bytes : List ℕ) (i : ℕ) → i < length bytes → eqb (get_or bytes i 0) 32 ≡ true → NoSpaceBefore bytes i → take i bytes ≡ word_front bytes
front_here bytes i lt space so_far = sym (
    so_far.front
    ∙ ap (λ (l : List ℕ). take i bytes ++ word_front l) (drop_more bytes i 0 lt)
    ∙ ap (λ (l : List ℕ). take i bytes ++ l) (front_stops (get_or bytes i 0) (drop (i + 1) bytes) space)
    ∙ append-nil (take i bytes)
    )

pub rest_here : (bytes : List ℕ) (i : ℕ) → i < length bytes → eqb (get_or bytes i 0) 32 ≡ true → NoSpaceBefore bytes i → drop i bytes ≡ word_rest bytes
rest_here bytes i lt space so_far = sym (
    so_far.rest
    ∙ ap (λ (l : List ℕ). word_rest l) (drop_more bytes i 0 lt)
    ∙ rest_stops (get_or bytes i 0) (drop (i + 1) bytes) space
    ∙ sym (drop_more bytes i 0 lt)
    )

-- there is none
pub front_whole : (bytes : List ℕ) (i : ℕ) → length bytes ≤ i → NoSpaceBefore bytes i → take (length bytes) bytes ≡ word_front bytes
front_whole bytes i le so_far =
    take_all (length bytes) bytes (omega arith)
    ∙ sym (take_all i bytes le)
    ∙ sym (
    so_far.front
    ∙ ap (λ (l : List ℕ). take i bytes ++ word_front l) (drop_all i bytes le)
    ∙ ap (λ (l : List ℕ). take i bytes ++ l) front_nil
    ∙ append-nil (take i bytes)
    )

pub rest_none : (bytes : List ℕ) (i : ℕ) → length bytes ≤ i → NoSpaceBefore bytes i → drop (length bytes) bytes ≡ word_rest bytes
rest_none bytes i le so_far = drop_all (length bytes) bytes (omega arith) ∙ sym (so_far.rest ∙ ap (λ (l : List ℕ). word_rest l) (drop_all i bytes le) ∙ rest_nil)

rest_by : (c : ℕ) (cs : List ℕ) (b : Bool) → eqb c 32 ≡ b → word_front cs ++ word_rest cs ≡ cs → word_front (c ∷ cs) ++ word_rest (c ∷ cs) ≡ c ∷ cs
unfolding word_front word_rest
rest_by c cs true e ih = rw e refl
rest_by c cs false e ih = rw e (ap (λ (l : List ℕ). c ∷ l) ih)

-- the word and the rest are all
pub word_and_rest : (bytes : List ℕ) → word_front bytes ++ word_rest bytes ≡ bytes
unfolding word_front word_rest
word_and_rest [] = refl
word_and_rest (c ∷ cs) = rest_by c cs (eqb c 32) refl (word_and_rest cs)

-- ---- words by their text

found : (w : Word) → word_among all_words (word_text w) ≡ Some w
found Version = refl
found Vars = refl
found Limit = refl
found Take = refl
found Branch = refl
found Prune = refl
found Offer = refl
found Study = refl
found Publish = refl
found Accept = refl
found Park = refl
found Reopen = refl
found Answer = refl

not_among : (ws : List Word) (text : List ℕ) → ((w : Word) → text ≡ word_text w → ⊥) → word_among ws text ≡ None
not_among [] text none = refl
not_among (w ∷ ws) text none = by (bytes_eq text (word_text w)) refl (not_among ws text none)
  where
    by : (b : Bool) → bytes_eq text (word_text w) ≡ b → word_among ws text ≡ None → word_among (w ∷ ws) text ≡ None
    by true e later = absurd (none w ((bytes_eq-Decides text (word_text w)).0 e))
    by false e later = rw e later

-- a word of that text, or none, is what the words are searched for
pub named_is : (text : List ℕ) (r : Option Word) → IfSome r (λ w. text ≡ word_text w) → IfNone r ((w : Word) → text ≡ word_text w → ⊥) → r ≡ word_among all_words text
named_is text (Some w) some none = sym (ap (λ (t : List ℕ). word_among all_words t) some ∙ found w)
named_is text None some none = sym (not_among all_words text none)

-- a word that is found has that text
pub among_is : (ws : List Word) (text : List ℕ) (w : Word) → word_among ws text ≡ Some w → text ≡ word_text w
among_is [] text w e = absurd cc
among_is (v ∷ ws) text w e = by (bytes_eq text (word_text v)) refl (among_is ws text w)
  where
    some : Word → Option Word
    some x = Some x

    by : (b : Bool) → bytes_eq text (word_text v) ≡ b → (word_among ws text ≡ Some w → text ≡ word_text w) → text ≡ word_text w
    by true t later =
        let same : some v ≡ some w = sym (ap (λ c. cond c (Some v) (word_among ws text)) t) ∙ e in
        let same_word : v ≡ w = cc in
        (bytes_eq-Decides text (word_text v)).0 t ∙ ap word_text same_word
    by false t later = later (sym (ap (λ c. cond c (Some v) (word_among ws text)) t) ∙ e)
