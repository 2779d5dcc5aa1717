-- Listing the free items of a part of a segment, one after the other.
use Rattle.std.proofs.Common.{◌≡◌, ℕ, ◌+◌, ◌%◌, ◌<◌, ◌≤◌, List, [], ◌∷◌, ◌++◌, refl, ap, sym, ◌∙◌, arith, append-nil}
use Rattle.std.proofs.lemmas.List.{append_assoc}
use Rattle.clr_types.specs.Types.{TypeRow, mt_of}
use Rattle.clr_types.specs.Ranges.{Piece}
use Rattle.clr_types.specs.declared.item.Item.{Item}
use Rattle.clr_heap.specs.Parts.{item_at, length_at, NamesItem, type_number}
use Rattle.clr_heap.specs.View.{CanWalk, HeapView, items_between, sight, word_of}
use Rattle.clr_heap.proofs.Walking.{walk_done}
use Rattle.clr_view.specs.View.{free_among}
use Rattle.clr_view.proofs.Listings.{free-append}
use Rattle.clr_sweep.proofs.CountedParts.{item_after}
use Rattle.clr_sweep.proofs.Passing.{IsHome}

-- where the words at a place name unused space, its length tells its size
pub free-size : (rows : List TypeRow) (word : ℕ → ℕ) (a : ℕ) → NamesItem rows word a → word a ≡ mt_of 0
    → (item_at rows word a).size ≡ 24 + word (a + 8)
unfolding item_at length_at
free-size rows word a names free =
    let whole : word (a + 8) % 8 ≡ 0 = names.free (rw free refl) in
    rw free (omega (arith, whole))

-- it is the item there
pub free-here : (rows : List TypeRow) (word : ℕ → ℕ) (a len : ℕ) → NamesItem rows word a → word a ≡ mt_of 0
    → len ≡ word (a + 8)
    → ◌≡◌ {A = Item} (record { place = a; size = 24 + len; type_id = record { 0 = 0 }; len = len })
    (item_at rows word a)
unfolding item_at length_at
free-here rows word a len names free is =
    let number : 0 ≡ type_number (word a) = rw free refl in
    let own : len ≡ length_at rows word a = rw free is in
    let bytes : 24 + len ≡ (item_at rows word a).size = ap (λ (n : ℕ). 24 + n) is
    ∙ sym (free-size rows word a names free) in
    λ i. record { place = a; size = bytes i; type_id = record { 0 = number i }; len = own i }

-- free items from `first` up to `place` are listed behind those of before, and those from there to `e` aren't
pub record IsListing (rows : List TypeRow) (h : HeapView) (k first e place : ℕ) (before listed : List Piece) : Type 0
  where
    pub low : first ≤ place
    pub walk : CanWalk (sight rows h k) h.memories place e
    pub lists : listed ++ free_among (items_between (sight rows h k) place e)
        ≡ before ++ free_among (items_between (sight rows h k) first e)

-- at the first place nothing is listed
pub listing_starts : (rows : List TypeRow) (h : HeapView) (k first e : ℕ) (before : List Piece)
    → IsHome rows h k first e → IsListing rows h k first e first before before
listing_starts rows h k first e before home = record { low = omega arith; walk = home.walk; lists = refl }

module _ (rows : List TypeRow) (h : HeapView) (k first e place : ℕ) (before listed : List Piece)
    (home : IsHome rows h k first e) (s : IsListing rows h k first e place before listed) where
  -- at the end all are listed
  pub listing_ends : e ≤ place → listed ≡ before ++ free_among (items_between (sight rows h k) first e)
  listing_ends past =
      sym (append-nil listed)
      ∙ ap (λ (is : List Item). listed ++ free_among is)
      (sym (walk_done (sight rows h k) h.memories place e s.walk past))
      ∙ s.lists

  -- an item more
  pub listing_goes_on : (more : List Piece) → place < e
      → more ≡ listed ++ free_among (item_at rows (word_of h) place ∷ [])
      → IsListing rows h k first e (place + (item_at rows (word_of h) place).size) before more
  listing_goes_on more below adds =
      let it = item_at rows (word_of h) place in
      let after = item_after rows h k first e place home s.low s.walk below in
      let rest = items_between (sight rows h k) (place + it.size) e in
      let low = s.low in
      record {
        low = omega arith;
        walk = after.walk;
        lists =
            ap (λ (ps : List Piece). ps ++ free_among rest) adds
            ∙ append_assoc listed (free_among (it ∷ [])) (free_among rest)
            ∙ ap (λ (ps : List Piece). listed ++ ps) (sym (free-append (it ∷ []) rest))
            ∙ ap (λ (is : List Item). listed ++ free_among is) (sym after.items)
            ∙ s.lists;
      }
