-- A document's rows, beside the values that the code holds.
use Rattle.std.proofs.Common.{◌≡◌, List, [], ◌∷◌, map, Some, None, refl, ap}
use Rattle.toml.specs.Data.{Data, string, integer, float, boolean, datetime, array, table, Items, as_array}
use Rattle.toml.specs.View.{view, items_view}
use Rattle.toml.specs.declared.value.Value.{Value}
use Rattle.lib_read.specs.Tree.{items_list, elements}

pub items_list-view : (vs : List Value) → items_list (items_view vs) ≡ map view vs
items_list-view [] = refl
items_list-view (v ∷ vs) = ap (λ ds. view v ∷ ds) (items_list-view vs)

-- a value that is an array has its items for elements, and any other has none
pub elements-array : (d : Data) (ds : Items) → Some ds ≡ as_array d → elements d ≡ items_list ds
elements-array (string s) ds e = absurd (cc)
elements-array (integer z) ds e = absurd (cc)
elements-array (float x) ds e = absurd (cc)
elements-array (boolean b) ds e = absurd (cc)
elements-array (datetime dt) ds e = absurd (cc)
elements-array (array es) ds e = let same : es ≡ ds = cc in ap items_list same
elements-array (table ms) ds e = absurd (cc)

pub elements-other : (d : Data) → None ≡ as_array d → elements d ≡ []
elements-other (string s) e = refl
elements-other (integer z) e = refl
elements-other (float x) e = refl
elements-other (boolean b) e = refl
elements-other (datetime dt) e = refl
elements-other (array es) e = absurd (cc)
elements-other (table ms) e = refl
