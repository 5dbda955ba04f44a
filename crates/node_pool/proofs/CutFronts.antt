-- The first cuts of two lists.
use Rattle.std.proofs.Common.{◌≡◌, ℕ, ◌+◌, ◌<◌, List, [], ◌∷◌, ◌++◌, take, get_or, Some, sym, ap, ◌∙◌}
use Rattle.std.specs.Prelude.{slice_get}
use Rattle.std.proofs.lemmas.List.{get_or-take, take_more}
use Rattle.std.proofs.lemmas.Option.{get_or_from_slice_get, slice_get_within}
use Rattle.rows.specs.Parts.{CutParts}

-- where the first n cuts of two lists are the same, so is each of them
pub same_at : (xs ys : List CutParts) (n i : ℕ) (x y : CutParts) → i < n → slice_get xs i ≡ Some x → slice_get ys i ≡ Some y → take n xs ≡ take n ys → x ≡ y
same_at xs ys n i x y short e f same =
    sym (get_or_from_slice_get xs i x x e) ∙ sym (get_or-take n xs i x short) ∙ ap (λ cuts. get_or cuts i x) same ∙ get_or-take n ys i x short ∙ get_or_from_slice_get ys i y x f

-- one more cut of a list
pub take_next : (xs : List CutParts) (i : ℕ) (x : CutParts) → slice_get xs i ≡ Some x → take (i + 1) xs ≡ take i xs ++ x ∷ []
take_next xs i x e = take_more xs i x (slice_get_within xs i x e) ∙ ap (λ y. take i xs ++ y ∷ []) (get_or_from_slice_get xs i x x e)
