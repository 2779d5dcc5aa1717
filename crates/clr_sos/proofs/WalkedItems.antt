-- The items of a walk, segment by segment.
use Rattle.std.proofs.Common.{◌≡◌, ℕ, ◌+◌, ◌<◌, ◌||◌, ◌==◌, ◌&&◌, Bool, List, [], ◌∷◌, ◌++◌, length, sym, ◌∙◌, ap}
use Rattle.std.proofs.Common.{subst}
use Rattle.std.proofs.lemmas.List.Folds.{list_any-append}
use Rattle.clr_types.specs.Rising.{first, IsIn}
use Rattle.clr_types.specs.Types.{TypeRow}
use Rattle.clr_types.specs.declared.item.Item.{Item}
use Rattle.clr_types.proofs.ListMembers.{append_right}
use Rattle.clr_types.proofs.RisingLists.{all_at}
use Rattle.clr_heap.specs.View.{AreWalkable, first_of, HeapView, last_of, listing, listings}
use Rattle.clr_view.proofs.Items.{IsItem}
use Rattle.clr_view.proofs.Listings.{listing-are}
use Rattle.clr_view.specs.View.{is_object}
use Rattle.clr_view.proofs.Walked.{walked-on}
use Rattle.clr_sos.specs.Faults.{stands}
use Rattle.clr_sos.proofs.StartBits.{or_assoc}

pub in_middle : (xs : List Item) (i : Item) (ys zs : List Item) → xs ++ i ∷ ys ≡ zs → IsIn i zs
in_middle xs i ys zs e = subst (IsIn i) e (append_right xs first)

-- an item of a segment's walk stands in the segment
pub walked_is : (rows : List TypeRow) (h : HeapView) (k : ℕ) (i : Item) → AreWalkable rows h → k < length h.segments
    → IsIn i (listing rows h k) → IsItem rows (first_of h k) (last_of h k) i
walked_is rows h k i walkable l m =
    all_at (IsItem rows (first_of h k) (last_of h k)) m (listing-are rows h walkable k l)

-- the bits of an item more
pub bits_more : (a b c : Bool) (xs : List Item) (i : Item) (x : ℕ) → a ≡ (b || stands xs x)
    → c ≡ (a || stands (i ∷ []) x) → c ≡ (b || stands (xs ++ i ∷ []) x)
bits_more a b c xs i x e f =
    f ∙ ap (λ (d : Bool). d || stands (i ∷ []) x) e ∙ or_assoc b (stands xs x) (stands (i ∷ []) x)
    ∙ ap (λ (d : Bool). b || d) (sym (list_any-append (λ (j : Item). (j.place == x) && is_object j) xs (i ∷ [])))

-- the bits of a segment more
pub bits_on : (rows : List TypeRow) (h : HeapView) (k x : ℕ) (a b : Bool) → a ≡ stands (listings rows h 0 k) x
    → b ≡ (a || stands (listing rows h k) x) → b ≡ stands (listings rows h 0 (k + 1)) x
bits_on rows h k x a b e f =
    f ∙ ap (λ (d : Bool). d || stands (listing rows h k) x) e
    ∙ sym (list_any-append (λ (i : Item). (i.place == x) && is_object i) (listings rows h 0 k) (listing rows h k))
    ∙ ap (λ (items : List Item). stands items x) (sym (walked-on rows h k))
