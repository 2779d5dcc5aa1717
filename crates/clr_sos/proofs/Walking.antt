-- A walk over the whole heap, a segment at a time.
use Rattle.std.proofs.Common.{◌≡◌, ◌∙◌, ℕ, suc, ◌+◌, ◌-◌, ◌<◌, ◌≤◌, List, [], ◌∷◌, ◌++◌, length, ap, sym}
use Rattle.std.proofs.Common.{arith, refl, true, false}
use Rattle.std.specs.Prelude.{is_some, MatchOption, Option, Some, None}
use Rattle.std.proofs.lemmas.Bool.{both_ways}
use Rattle.clr_types.specs.Types.{TypeRow}
use Rattle.clr_types.specs.declared.item.Item.{Item}
use Rattle.clr_heap.specs.View.{heap_items, HeapView, IsHeap, listing, listings}
use Rattle.clr_heap.proofs.Young.{young_number}
use Rattle.clr_sos.specs.Walks.{ahead}

-- every heap has a segment
pub some-segment : (h : HeapView) → IsHeap h → 0 < length h.segments
some-segment h heap = let one = heap.one_ephemeral in let found = young_number h.segments (omega arith) in
    let l = found.1 in omega arith

-- the items of the first segment and those of the others
pub all-ahead : (rows : List TypeRow) (h : HeapView) → IsHeap h
    → ahead (listing rows h 0) rows h 1 (length h.segments) ≡ heap_items rows h
all-ahead rows h heap =
    let some = some-segment h heap in
    let count : suc (length h.segments - 1) ≡ length h.segments = omega arith in
    ap (listings rows h 0) count

-- where no item is given, none was left
pub none-before : (found : Option Item) (old new : List Item)
    → MatchOption found ((old ≡ []) × (new ≡ [])) (λ x. old ≡ x ∷ new) → is_some found ≡ false → old ≡ []
none-before None old new given none = given.0
none-before (Some i) old new given none = absurd (both_ways true none refl)

-- where nothing is left of a segment, the next one follows
pub next-ahead : (rows : List TypeRow) (h : HeapView) (left whole : List Item) (next count : ℕ)
    → left ≡ [] → next < count → ahead left rows h next count ≡ whole
    → listing rows h next ++ listings rows h (next + 1) (count - (next + 1)) ≡ whole
next-ahead rows h left whole next count empty l is =
    let more : suc (count - (next + 1)) ≡ count - next = omega arith in
    ap (listings rows h next) more ∙ ap (λ (items : List Item). ahead items rows h next count) (sym empty) ∙ is
