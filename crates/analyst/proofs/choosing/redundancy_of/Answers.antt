use Rattle.std.proofs.Common.{ℕ, List, map, ◌≡◌}
use Rattle.arch_model.specs.CutSet.{IsMinimalCutSet}
use Rattle.arch_model.specs.Weight.{IsHeaviest, product_of}
use Rattle.analyst.proofs.KindLaws.{in_range, in_room, light_none, heavy_some, nought_none, if_some, if_none}
use Rattle.analyst.proofs.choosing.redundancy_of.Goals as goal

pub product-requires-clause-in_range : goal.product-requires-clause-in_range
product-requires-clause-in_range c =
    let heavy = if_some c.args.heaviest c.in-Some.members (λ m. IsHeaviest c.args.lib.now c.args.arch.now c.args.r.now.sink.0 (map (λ v. v.0) m.items)) c.in-Some.is c.requires.some in
    in_range c.args.lib.now c.args.arch.now c.requires.architecture c.args.r.now.sink.0 c.in-Some.members.items c.as_slice.result.now heavy c.as_slice.ensures

pub returns-then-product-r : goal.returns-then-product-r
returns-then-product-r c =
    let heavy = if_some c.args.heaviest c.in-Some.members (λ m. IsHeaviest c.args.lib.now c.args.arch.now c.args.r.now.sink.0 (map (λ v. v.0) m.items)) c.in-Some.is c.requires.some in
    light_none c.args.lib.now c.args.arch.now c.requires.architecture c.args.number c.args.r.now c.in-Some.members.items c.as_slice.result.now c.product.result heavy c.as_slice.ensures c.product.ensures.value c.if-product-r.true

pub set_of-set-requires : goal.set_of-set-requires
set_of-set-requires c =
    let heavy = if_some c.args.heaviest c.in-Some.members (λ m. IsHeaviest c.args.lib.now c.args.arch.now c.args.r.now.sink.0 (map (λ v. v.0) m.items)) c.in-Some.is c.requires.some in
    in_room c.args.lib.now c.args.arch.now c.requires.architecture c.args.r.now.sink.0 c.in-Some.members.items c.as_slice-in-Some.result.now heavy c.as_slice-in-Some.ensures c.requires.library

pub returns-else-product-r : goal.returns-else-product-r
returns-else-product-r c =
    let heavy = if_some c.args.heaviest c.in-Some.members (λ m. IsHeaviest c.args.lib.now c.args.arch.now c.args.r.now.sink.0 (map (λ v. v.0) m.items)) c.in-Some.is c.requires.some in
    heavy_some c.args.lib.now c.args.arch.now c.requires.architecture c.args.number c.args.r.now c.in-Some.members.items c.as_slice.result.now c.as_slice-in-Some.result.now c.product.result c.set_of-set.result c.far_from.result
    heavy c.as_slice.ensures c.as_slice-in-Some.ensures c.product.ensures.value c.if-product-r.false c.set_of-set.ensures c.far_from.ensures

pub returns-in-None : goal.returns-in-None
returns-in-None c = nought_none c.args.lib.now c.args.arch.now c.requires.architecture c.args.number c.args.r.now
    (if_none c.args.heaviest ((members : List ℕ) → IsMinimalCutSet c.args.lib.now c.args.arch.now c.args.r.now.sink.0 members → product_of c.args.lib.now members ≡ 0) c.in-None.is c.requires.none)
