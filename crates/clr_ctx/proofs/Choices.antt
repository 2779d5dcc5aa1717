-- The choice of where a context comes from, and the two steps of a refill put together.
use Rattle.std.proofs.Common.{◌≡◌, ℕ, zero, suc, ◌+◌, ◌-◌, ◌%◌, ◌≤◌, true, false, Bool, List, [], ◌∷◌, ◌++◌, get_or}
use Rattle.std.proofs.Common.{set, refl, ap, sym, ◌∙◌, subst, arith, inl, inr, filter, find, Option, None, Some}
use Rattle.std.proofs.Common.{is_some, ◌&&◌, ◌||◌, if◌then◌else◌, nat_le}
use Rattle.std.specs.List.{list_any}
use Rattle.clr_types.specs.Rising.{IsIn, IsRisingBy}
use Rattle.clr_types.specs.Types.{TypeRow}
use Rattle.clr_types.specs.Ranges.{fits, Piece}
use Rattle.clr_types.specs.Segments.{ephemeral, fits_in_tail, Layout, rest_of}
use Rattle.clr_types.proofs.ChangedLists.{append_left, into_filter, out_of_filter}
use Rattle.clr_types.proofs.SortedLists.{into_sorted_by}
use Rattle.clr_heap.specs.View.{frame, heap_items, HeapView, IsHeap}
use Rattle.clr_model.specs.Allocation.{front_taken, from_item, from_tail, has_room, is_young_item, IsRefilled, want}
use Rattle.clr_model.specs.Updates.{given_up, pieces_of_option}
use Rattle.clr_view.specs.View.{HasRefilled, IsHeld, is_object, KeepsObjects, layout_in}
use Rattle.clr_ctx.specs.Contexts.{first_fit, IsIndex, IsRelaid, share, tail_share, young_items}
use Rattle.clr_ctx.proofs.Drawing.{fits_cases, item_at_piece}
use Rattle.clr_items.proofs.FoundItems.{found_passes}
use Rattle.clr_items.proofs.Lists.{place}
use Rattle.clr_ctx.proofs.Resting.{rest_is, young_rises}
use Rattle.clr_ctx.proofs.Steps.{is_young, the_young}

-- ---- searches

any_first : (young : Piece → Bool) (size : ℕ) (ps : List Piece)
    → list_any (λ p. young p && fits size p.size) ps ≡ is_some (find (λ p. fits size p.size) (filter young ps))
any_first young size [] = refl
any_first young size (p ∷ ps) = go (young p) (any_first young size ps)
  where
    next : (b : Bool) → list_any (λ (p : Piece). young p && fits size p.size) ps ≡ is_some
        (find (λ (p : Piece). fits size p.size) (filter young ps))
        → (b || list_any (λ (p : Piece). young p && fits size p.size) ps) ≡ is_some
        (if b then Some p else find (λ (p : Piece). fits size p.size) (filter young ps))
    next true ih = refl
    next false ih = ih

    go : (b : Bool) → list_any (λ (p : Piece). young p && fits size p.size) ps ≡ is_some
        (find (λ (p : Piece). fits size p.size) (filter young ps))
        → ((b && fits size p.size) || list_any (λ (p : Piece). young p && fits size p.size) ps) ≡ is_some
        (find (λ (p : Piece). fits size p.size) (if b then p ∷ filter young ps else filter young ps))
    go true ih = next (fits size p.size) ih
    go false ih = ih

-- there is room where a young free item is found, or behind the end
pub room_is : (layout : Layout) (size : ℕ) (found : Option Piece) → found ≡ first_fit layout size
    → has_room layout size ≡ (is_some found || fits_in_tail (ephemeral layout) size)
room_is layout size found is =
    ap (λ (b : Bool). b || fits_in_tail (ephemeral layout) size) (any_first (is_young_item layout) size layout.free
    ∙ ap is_some (sym is))

pub no_room : (layout : Layout) (size : ℕ) (found : Option Piece) → found ≡ first_fit layout size
    → is_some found ≡ false → fits_in_tail (ephemeral layout) size ≡ false → has_room layout size ≡ false
no_room layout size found is none full = room_is layout size found is ∙ (λ i. none i || full i)

-- ---- after a context was given up

get_none : (rs : List (Option Piece)) (i : ℕ) → get_or (set rs i None) i None ≡ None
get_none [] i = refl
get_none (r ∷ rs) zero = refl
get_none (r ∷ rs) (suc i) = get_none rs i

-- its thread has none
pub given_none : (rows : List TypeRow) (h new : HeapView) (t : ℕ) → IsRelaid rows h new (given_up (layout_in rows h) t)
    → rest_of (frame new) t ≡ None
given_none rows h new t relaid =
    ap (λ (layout : Layout). rest_of layout t) relaid.layout ∙ rest_is (set h.rests (t - 1) None) (t - 1)
    ∙ get_none h.rests (t - 1)

-- a young free item is still one
pub still_listed : (rows : List TypeRow) (h new : HeapView) (t : ℕ) (p : Piece)
    → IsRelaid rows h new (given_up (layout_in rows h) t) → IsIn p (young_items (layout_in rows h))
    → IsIn p (young_items (layout_in rows new))
still_listed rows h new t p relaid i =
    let layout = layout_in rows h in
    let (passes, listed) = out_of_filter (is_young_item layout) p layout.free i in
    subst (λ (l : Layout). IsIn p (young_items l)) (sym relaid.layout)
    (into_filter (is_young_item layout) (given_up layout t).free passes
    (into_sorted_by place p (layout.free ++ pieces_of_option (rest_of layout t))
    (append_left (pieces_of_option (rest_of layout t)) listed)))

-- ---- two steps

pub keeps_both : (rows : List TypeRow) (h mid new : HeapView)
    → filter is_object (heap_items rows mid) ≡ filter is_object (heap_items rows h) → KeepsObjects rows h mid
    → KeepsObjects rows mid new → KeepsObjects rows h new
keeps_both rows h mid new kept first_cells next_cells i b listed object z low high =
    let (o, there) =
    out_of_filter is_object i (heap_items rows mid)
    (subst (IsIn i) (sym kept) (into_filter is_object (heap_items rows h) object listed)) in
    next_cells i b there object z low high ∙ first_cells i b listed object z low high

refilled_by : (rows : List TypeRow) (h mid new : HeapView) (t size : ℕ) (laid : Layout)
    → IsRelaid rows h mid (given_up (layout_in rows h) t) → IsRelaid rows mid new laid
    → IsRefilled (layout_in rows h) t size laid → HasRefilled rows h new t size
refilled_by rows h mid new t size laid a b refilled = record {
  objects = b.objects ∙ a.objects;
  layout = subst (IsRefilled (layout_in rows h) t size) (sym b.layout) refilled;
  cells = keeps_both rows h mid new a.kept a.cells b.cells;
  free_heads = λ heads. b.free_heads (a.free_heads heads);
  clean = λ clean. b.clean (a.clean clean);
  limit = b.limit ∙ a.limit;
  heap = b.heap;
  held = b.held;
}

-- A REFILL FROM A FREE ITEM
pub refilled_item : (rows : List TypeRow) (h mid new : HeapView) (t size : ℕ) (p : Piece)
    → IsRelaid rows h mid (given_up (layout_in rows h) t)
    → IsRelaid rows mid new (from_item (layout_in rows mid) t p (share size p.size))
    → first_fit (layout_in rows h) size ≡ Some p → HasRefilled rows h new t size
refilled_item rows h mid new t size p a b found =
    let layout = layout_in rows h in
    let (i, f) = found_passes (λ (q : Piece). fits size q.size) (young_items layout) p found in
    let (passes, listed) = out_of_filter (is_young_item layout) p layout.free i in
    let there = into_sorted_by place p (layout.free ++ pieces_of_option (rest_of layout t))
    (append_left (pieces_of_option (rest_of layout t)) listed) in
    refilled_by rows h mid new t size (from_item (layout_in rows mid) t p (share size p.size)) a b
    (inl (p, there, passes, f, ap (λ (l : Layout). from_item l t p (share size p.size)) a.layout))

-- A REFILL FROM THE TAIL
pub refilled_tail : (rows : List TypeRow) (h mid new : HeapView) (t size : ℕ)
    → IsRelaid rows h mid (given_up (layout_in rows h) t)
    → IsRelaid rows mid new (from_tail (layout_in rows mid) t (tail_share (layout_in rows mid) size))
    → fits_in_tail (ephemeral (frame h)) size ≡ true → HasRefilled rows h new t size
refilled_tail rows h mid new t size a b room =
    refilled_by rows h mid new t size (from_tail (layout_in rows mid) t (tail_share (layout_in rows mid) size)) a b
    (inr (room, ap (λ (l : Layout). from_tail l t (tail_share l size)) a.layout))

-- ---- the index

-- what is kept of the index rises
pub index_rises : (rows : List TypeRow) (h : HeapView) (index : Option (List Piece)) (items : List Piece)
    (complete : Bool) → IsHeap h → IsHeld rows h → IsIndex rows h index
    → (if complete then Some items else None) ≡ index → complete ≡ true → IsRisingBy place items
index_rises rows h index items complete heap held is view all =
    let kept : index ≡ Some items = sym view ∙ ap (λ (b : Bool). if b then Some items else None) all in
    let same : items ≡ young_items (layout_in rows h) = subst (IsIndex rows h) kept is in
    subst (IsRisingBy place) (sym same) (young_rises rows h held.walkable heap)

-- where the layout's young free items stay, the index does
pub index_kept : (rows : List TypeRow) (h new : HeapView) (index : Option (List Piece)) (laid : Layout)
    → layout_in rows new ≡ laid → young_items laid ≡ young_items (layout_in rows h) → IsIndex rows h index
    → IsIndex rows new index
index_kept rows h new None laid is same kept = tt
index_kept rows h new (Some ps) laid is same kept = kept ∙ sym (ap young_items is ∙ same)

-- as where an object takes the front of a context
pub index_after_birth : (rows : List TypeRow) (h new : HeapView) (index : Option (List Piece)) (t size : ℕ)
    → layout_in rows new ≡ front_taken (layout_in rows h) t size → IsIndex rows h index → IsIndex rows new index
index_after_birth rows h new index t size is kept =
    index_kept rows h new index (front_taken (layout_in rows h) t size) is refl kept

-- a share is in whole words
pub share_aligned : (rows : List TypeRow) (h : HeapView) (size : ℕ) (p : Piece) → IsHeap h → IsHeld rows h
    → IsIn p (young_items (layout_in rows h)) → fits size p.size ≡ true → 24 ≤ size → size % 8 ≡ 0
    → share size p.size % 8 ≡ 0
share_aligned rows h size p heap held listed f least z =
    let (k, e) = the_young h heap in
    let cut = fits_cases size p.size f in
    let at = item_at_piece rows h k p heap held e (is_young h k e) listed
    (elim cut [ inl l ↦ omega arith | inr l ↦ omega arith ]) in
    let a = at.aligned in
    let b = at.whole in
    go (fits (want size) p.size) (want_aligned (nat_le (size + 24) 8192)) (omega arith)
  where
    want_aligned : (b : Bool) → (if b then 8192 else size) % 8 ≡ 0
    want_aligned true = refl
    want_aligned false = z

    go : (b : Bool) → want size % 8 ≡ 0 → p.size % 8 ≡ 0 → (if b then want size else p.size) % 8 ≡ 0
    go true w s = w
    go false w s = s
