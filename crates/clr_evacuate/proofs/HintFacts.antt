-- Hints where searches may begin: right at first, by what a search finds, and while plugs go into items.
use Rattle.std.proofs.Common.{◌≡◌, ℕ, ◌+◌, ◌-◌, ◌<◌, ◌≤◌, inl, inr, true, false, Bool, List, []}
use Rattle.std.proofs.Common.{◌∷◌, ◌++◌, filter}
use Rattle.std.proofs.Common.{refl, sym, ap, subst, ◌∙◌, arith, None, Option, Some, IfSome, nat_lt}
use Rattle.std.proofs.Common.{get_or, if◌then◌else◌, ◌==◌, MatchOption, replicate, suc, zero}
use Rattle.std.proofs.lemmas.Bool.{both_ways, cases_Bool, ltb-true}
use Rattle.clr_types.specs.Ranges.{fits, Piece, piece_end, range_piece}
use Rattle.clr_types.specs.Rising.{first, IsIn, IsRisingBy, later}
use Rattle.clr_types.specs.Types.{TypeRow}
use Rattle.clr_types.specs.declared.item.Item.{Item}
use Rattle.clr_types.proofs.ChangedLists.{all_imply, out_of_filter}
use Rattle.clr_types.proofs.ListMembers.{filter-rises, in_append}
use Rattle.clr_types.proofs.RisingLists.{in_cons}
use Rattle.clr_heap.specs.View.{heap_items, HeapView, IsHeap}
use Rattle.clr_model.specs.Fitting.{is_older_item, lowest_item, older_items, taken_from}
use Rattle.clr_model.proofs.ItemContext.{fits-more}
use Rattle.clr_model.proofs.SplitPieces.{fits-is}
use Rattle.clr_view.specs.View.{free_among, free_in, IsHeld, is_free, layout_in}
use Rattle.clr_view.proofs.Listings.{heap-rise}
use Rattle.clr_sweep.proofs.LayoutSwept.{free-rise}
use Rattle.clr_items.proofs.FoundItems.{found_lowest, none_found}
use Rattle.clr_evacuate.specs.Hints.{AreHints, IsStartFor}
use Rattle.clr_evacuate.specs.Searching.{CanSearchFrom, HasNoRoomBelow}
use Rattle.clr_evacuate.specs.declared.hints.Hint.{Hint}
use Rattle.clr_evacuate.proofs.Copying.{free_item_of}
use Rattle.clr_evacuate.proofs.SearchStarts.{begins-at, begins-behind}

-- ---- what a search finds

module _ (rows : List TypeRow) (h : HeapView) (heap : IsHeap h) (held : IsHeld rows h) where
  -- the older items rise
  pub older-rise : IsRisingBy (λ (p : Piece). p.place) (older_items (layout_in rows h))
  older-rise =
      filter-rises (is_older_item (layout_in rows h)) (λ (p : Piece). p.place) (free_among (heap_items rows h))
      (free-rise (filter is_free (heap_items rows h))
      (filter-rises is_free (λ (i : Item). i.place) (heap_items rows h) (heap-rise rows h held.walkable heap)))

  -- no item has room below the lowest one that has
  pub none-below : (size place : ℕ) (found : Option Piece) → found ≡ lowest_item size (older_items (layout_in rows h))
      → IfSome found (λ i. place ≡ i.place) → HasNoRoomBelow size place (layout_in rows h)
  none-below size place found is at i n low = elim (cases_Bool (fits size i.size)) [
    | inr off ↦ off
    | inl on ↦ go found is at on
  ]
    where
      items : List Piece
      items = older_items (layout_in rows h)

      go : (o : Option Piece) → o ≡ lowest_item size items → IfSome o (λ p. place ≡ p.place) → fits size i.size ≡ true
          → fits size i.size ≡ false
      go None e at on = absurd (none_found (λ p. fits size p.size) items i (sym e) n on)
      go (Some p) e at on =
          let least = found_lowest (λ p. fits size p.size) items p i older-rise (sym e) n on in
          absurd (omega (arith, least, at, low))

-- the lowest item is one of them, and has room
pub lowest_is : (size : ℕ) (items : List Piece) (item : Piece) → lowest_item size items ≡ Some item
    → IsIn item items × (fits size item.size ≡ true)
lowest_is size [] item e = absurd cc
lowest_is size (j ∷ items) item e = go (fits size j.size) refl e (λ f. lowest_is size items item f)
  where
    same : {x y : Piece} → ◌≡◌ {A = Option Piece} (Some x) (Some y) → x ≡ y
    same e = cc

    go : (b : Bool) → fits size j.size ≡ b → (if b then Some j else lowest_item size items) ≡ Some item
        → (lowest_item size items ≡ Some item → IsIn item items × (fits size item.size ≡ true))
        → IsIn item (j ∷ items) × (fits size item.size ≡ true)
    go true on is more = (
      subst (λ (p : Piece). IsIn p (j ∷ items)) (same is) first,
      subst (λ (p : Piece). fits size p.size ≡ true) (same is) on,
    )
    go false off is more = let (there, on) = more is in (later there, on)

module _ (rows : List TypeRow) (h : HeapView) (heap : IsHeap h) (held : IsHeld rows h) (order : h.start1 ≤ h.start0)
  where
    -- WHAT A SEARCH FINDS tells where the next one for the size may begin
    pub starts-found : (size : ℕ) (found : Option Piece) → found ≡ lowest_item size (older_items (layout_in rows h))
        → MatchOption found (IsStartFor rows h size 18446744073709551615) (λ i. IsStartFor rows h size i.place)
    starts-found size None is = record {
      begins = begins-behind rows h heap held order;
      none_below = none-below rows h heap held size 18446744073709551615 None is tt;
    }
    starts-found size (Some i) is =
        let (there, room) = lowest_is size (older_items (layout_in rows h)) i (sym is) in
        let (older, free) = out_of_filter (is_older_item (layout_in rows h)) i (free_in rows h) there in
        let (x, is_x) = free_item_of rows h i free in
        record {
          begins = subst (CanSearchFrom rows h) (sym (ap (λ (p : Piece). p.place) is_x.is))
              (begins-at rows h heap held order x is_x.listed);
          none_below = none-below rows h heap held size i.place (Some i) is refl;
        }

-- ---- at first

-- a search for any size may begin at place 0
pub starts-low : (rows : List TypeRow) (h : HeapView) (size : ℕ) → IsStartFor rows h size 0
starts-low rows h size = record {
  begins = λ k inside above below. absurd (omega (arith, above));
  none_below = λ i n low. absurd (omega (arith, low));
}

-- so hints of an empty table are right
pub hints-begin : (rows : List TypeRow) (h : HeapView) (n : ℕ)
    → AreHints rows h (replicate n (record { size = 0; place = 0 }))
hints-begin rows h zero = tt
hints-begin rows h (suc n) = (starts-low rows h 0, hints-begin rows h n)

-- ---- greater sizes

-- what has no room for a size has none for one that is greater by 24 or more
no-more-room : (size more bytes : ℕ) → size + 24 ≤ more → fits size bytes ≡ false → fits more bytes ≡ false
no-more-room size more bytes l e = elim (cases_Bool (fits more bytes)) [
  | inr off ↦ off
  | inl on ↦ elim (fits-is more bytes on) [
    | inl same ↦ absurd (both_ways (fits size bytes) e (fits-more size bytes (omega arith)))
    | inr behind ↦ absurd (both_ways (fits size bytes) e (fits-more size bytes (omega arith)))
  ]
]

-- so a search for such a size may begin there, too
pub starts-more : (rows : List TypeRow) (h : HeapView) (size more place : ℕ) → size + 24 ≤ more
    → IsStartFor rows h size place → IsStartFor rows h more place
starts-more rows h size more place l start = record {
  begins = start.begins;
  none_below = λ i n low. no-more-room size more i.size l (start.none_below i n low);
}

-- each hint of a table is right
pub hint-at : (rows : List TypeRow) (h : HeapView) (hints : List Hint) (k : ℕ) → AreHints rows h hints
    → IsStartFor rows h (get_or hints k (record { size = 0; place = 0 })).size
    (get_or hints k (record { size = 0; place = 0 })).place
hint-at rows h [] k are = starts-low rows h 0
hint-at rows h (e ∷ hints) zero are = are.0
hint-at rows h (e ∷ hints) (suc k) are = hint-at rows h hints k are.1

-- ---- while plugs go into items

-- where a size doesn't fit, it doesn't fit when the front is taken
less-room : (size bytes taken : ℕ) → 24 ≤ taken → taken ≤ bytes → fits size bytes ≡ false
    → fits size (bytes - taken) ≡ false
less-room size bytes taken least most e = elim (cases_Bool (fits size (bytes - taken))) [
  | inr off ↦ off
  | inl on ↦ elim (fits-is size (bytes - taken) on) [
    | inl same ↦ absurd (both_ways (fits size bytes) e (fits-more size bytes (omega arith)))
    | inr more ↦ absurd (both_ways (fits size bytes) e (fits-more size bytes (omega arith)))
  ]
]

-- a place below which no item has room stays one when the front of an item is taken
stays-without : (size low place taken : ℕ) (items : List Piece) → 24 ≤ taken
    → ((i : Piece) → IsIn i items → i.place < low → fits size i.size ≡ false)
    → (i : Piece) → IsIn i (taken_from place taken items) → i.place < low → fits size i.size ≡ false
stays-without size low place taken [] least none i n under = elim n [ ]
stays-without size low place taken (j ∷ is) least none i n under =
    by (j.place == place) n (λ m. stays-without size low place taken is least (λ x k. none x (later k)) i m under)
  where
    cut : (b : Bool) → nat_lt (j.place + taken) (piece_end j) ≡ b
        → IsIn i (if b then record { place = j.place + taken; size = piece_end j - (j.place + taken) } ∷ [] else [])
        → fits size i.size ≡ false
    cut false e m = elim m [ ]
    cut true e m = elim (in_cons m) [
      | inl same ↦
          let below = ltb-true (j.place + taken) (piece_end j) e in
          let at = ap (λ (p : Piece). p.place) same in
          let big = ap (λ (p : Piece). p.size) same in
          let left : i.size ≡ j.size - taken = omega (arith, big) in
          ap (fits size) left ∙ less-room size j.size taken least (omega (arith, below))
          (none j first (omega (arith, at, under)))
      | inr m2 ↦ elim m2 [ ]
    ]

    whole : IsIn i (j ∷ []) → fits size i.size ≡ false
    whole m = elim (in_cons m) [
      | inl same ↦ none i (subst (λ (x : Piece). IsIn x (j ∷ is)) (sym same) first) under
      | inr m2 ↦ elim m2 [ ]
    ]

    by : (b : Bool) → IsIn i ((if b then range_piece (j.place + taken) (piece_end j) else j ∷ [])
        ++ taken_from place taken is)
        → (IsIn i (taken_from place taken is) → fits size i.size ≡ false) → fits size i.size ≡ false
    by true m more = elim (in_append (range_piece (j.place + taken) (piece_end j)) m) [
      | inl here ↦ cut (nat_lt (j.place + taken) (piece_end j)) refl here
      | inr there ↦ more there
    ]
    by false m more = elim (in_append (j ∷ []) m) [ inl here ↦ whole here | inr there ↦ more there ]

-- HINTS STAY RIGHT when a plug goes to the front of an item, where searches may begin at their places
pub hints-stay : (rows : List TypeRow) (old new : HeapView) (place taken : ℕ) (hints : List Hint) → 24 ≤ taken
    → older_items (layout_in rows new) ≡ taken_from place taken (older_items (layout_in rows old))
    → ((p : ℕ) → CanSearchFrom rows old p → CanSearchFrom rows new p) → AreHints rows old hints
    → AreHints rows new hints
hints-stay rows old new place taken hints least is begin are =
    all_imply (λ (e : Hint). IsStartFor rows old e.size e.place) (λ (e : Hint). IsStartFor rows new e.size e.place)
    hints (λ e start. record {
      begins = begin e.place start.begins;
      none_below = λ i n low.
          stays-without e.size e.place place taken (older_items (layout_in rows old)) least start.none_below i
          (subst (IsIn i) is n) low;
    }) are
