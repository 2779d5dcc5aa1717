use Rattle.std.proofs.Common.{◌≡◌, ℕ, List, ap, arith, set, sym, subst, ◌∙◌}
use Rattle.clr_types.specs.Ranges.{Piece}
use Rattle.clr_types.specs.Rising.{IsIn, IsRisingBy}
use Rattle.clr_model.specs.Allocation.{taken_from}
use Rattle.clr_items.specs.Stretches.{all_of, IsHome}
use Rattle.clr_items.proofs.Lists.{place}
use Rattle.clr_items.proofs.StretchRows.{emptied, home-read, home-taken, IsTaken, rise-at}
use Rattle.clr_items.proofs.rows.take_in_row.Goals as goal

-- the stretch of the item, by what the search for it ensures
taken-by : (row now : List (List Piece)) (k at : ℕ) (x : Piece) → now ≡ row → at ≡ x.place → IsHome at now k
    → IsRisingBy place (all_of row) → IsIn x (all_of row) → IsTaken row k x
taken-by row now k at x is read home rising listed =
    home-taken row k x (home-read row now k x.place at home read is) rising listed

pub index_mut-requires : goal.index_mut-requires
index_mut-requires c =
    let t = taken-by c.args.row.now.items c.as_slice.result.now c.find_stretch-k.result c.place.result c.args.item
    c.as_slice.ensures.value c.place.ensures c.find_stretch-k.ensures.home c.requires.rising c.requires.listed in
    let within = t.within in
    let ok = c.args.row.now.ok in
    omega (arith, ok, within)

pub take_front-requires-clause-rising : goal.take_front-requires-clause-rising
take_front-requires-clause-rising c =
    let row = c.args.row.now.items in
    let t = taken-by row c.as_slice.result.now c.find_stretch-k.result c.place.result c.args.item
    c.as_slice.ensures.value c.place.ensures c.find_stretch-k.ensures.home c.requires.rising c.requires.listed in
    subst (IsRisingBy place) (sym c.index_mut.ensures.value)
    (rise-at row c.find_stretch-k.result c.index_mut.result.now t.within c.requires.rising)

pub take_front-requires-clause-listed : goal.take_front-requires-clause-listed
take_front-requires-clause-listed c =
    let t = taken-by c.args.row.now.items c.as_slice.result.now c.find_stretch-k.result c.place.result c.args.item
    c.as_slice.ensures.value c.place.ensures c.find_stretch-k.ensures.home c.requires.rising c.requires.listed in
    subst (IsIn c.args.item) (sym c.index_mut.ensures.value) (t.listed c.index_mut.result.now)

pub index-requires : goal.index-requires
index-requires c =
    let t = taken-by c.args.row.now.items c.as_slice.result.now c.find_stretch-k.result c.place.result c.args.item
    c.as_slice.ensures.value c.place.ensures c.find_stretch-k.ensures.home c.requires.rising c.requires.listed in
    let within = t.within in
    let ok = c.args.row.now.ok in
    omega (arith, ok, within)

pub remove-requires : goal.remove-requires
remove-requires c =
    let t = taken-by c.args.row.now.items c.as_slice.result.now c.find_stretch-k.result c.place.result c.args.item
    c.as_slice.ensures.value c.place.ensures c.find_stretch-k.ensures.home c.requires.rising c.requires.listed in
    let within = t.within in
    let ok = c.args.row.now.ok in
    omega (arith, ok, within)

pub returns-then-is_empty-clause-items : goal.returns-then-is_empty-clause-items
returns-then-is_empty-clause-items c =
    let row = c.args.row.now.items in
    let x = c.args.item in
    let k = c.find_stretch-k.result in
    let old = c.index_mut.result.now in
    let t = taken-by row c.as_slice.result.now k c.place.result x c.as_slice.ensures.value c.place.ensures
    c.find_stretch-k.ensures.home c.requires.rising c.requires.listed in
    ap all_of c.remove.ensures.items
    ∙ emptied row k c.take_front.new.self c.index.result.now t.within c.index.ensures
    (sym c.is_empty.ensures ∙ c.if-is_empty.true)
    ∙ ap (λ (s : List Piece). all_of (set row k s))
    (c.take_front.ensures ∙ ap (taken_from x.place c.args.taken) c.index_mut.ensures.value)
    ∙ t.taken c.args.taken old

pub returns-else-is_empty-clause-items : goal.returns-else-is_empty-clause-items
returns-else-is_empty-clause-items c =
    let row = c.args.row.now.items in
    let x = c.args.item in
    let k = c.find_stretch-k.result in
    let old = c.index_mut.result.now in
    let t = taken-by row c.as_slice.result.now k c.place.result x c.as_slice.ensures.value c.place.ensures
    c.find_stretch-k.ensures.home c.requires.rising c.requires.listed in
    ap (λ (s : List Piece). all_of (set row k s))
    (c.take_front.ensures ∙ ap (taken_from x.place c.args.taken) c.index_mut.ensures.value)
    ∙ t.taken c.args.taken old
