-- The items near an address are those of the machine that a view shows.
use Rattle.std.proofs.Common.{◌≡◌, ◌⊎◌, ◌∙◌, ◌&&◌, ℕ, ◌<◌, ◌≤◌, Bool, true, false, inl, inr, List, [], ap, ap₂, cond}
use Rattle.std.proofs.Common.{filter}
use Rattle.std.proofs.Common.{length, nat_le, nat_lt, refl, subst, sym}
use Rattle.std.specs.List.{flat_map}
use Rattle.std.proofs.lemmas.Bool.{cases_lt, le-leb, le-ltb, lt-leb, lt-ltb}
use Rattle.clr_types.specs.Segments.{first_place, stands_in}
use Rattle.clr_types.specs.declared.item.Item.{Item}
use Rattle.clr_types.specs.declared.segment.SegInfo.{SegInfo}
use Rattle.clr_types.proofs.ChangedLists.{all_imply}
use Rattle.clr_heap.specs.View.{first_of, heap_items, last_of, listing, segment_at}
use Rattle.clr_model.specs.Looks.{near_items}
use Rattle.clr_model.specs.Machine.{Machine}
use Rattle.clr_view.proofs.Items.{IsItem}
use Rattle.clr_view.proofs.Listings.{listing-are}
use Rattle.clr_generations.proofs.FoundItems.{only-segment}
use Rattle.clr_sos.specs.Views.{IsShownView, IsViewOf}
use Rattle.clr_sos.specs.declared.view.View.{View}
use Rattle.clr_shows.specs.Near.{AreKnown, near_in}
use Rattle.clr_shows.specs.declared.near.Near.{Near}
use Rattle.clr_shows.proofs.NearItems.{known-near}
use Rattle.clr_shows.proofs.SegmentItems.{listing-told, said, said-none, said-one, segment-items}

-- the segment has the address in use
abbrev has_in_use : ℕ → SegInfo → Bool
has_in_use a s = nat_le (first_place s) a && nat_lt a s.end

-- an address that is outside of its used range isn't in use
unused : (a : ℕ) (s : SegInfo) → (a < first_place s) ⊎ (s.end ≤ a) → has_in_use a s ≡ false
unused a s (inl low) = ap (λ (b : Bool). b && nat_lt a s.end) (lt-leb (first_place s) a low)
unused a s (inr high) =
    ap (λ (b : Bool). nat_le (first_place s) a && b) (le-ltb a s.end high) ∙ go (nat_le (first_place s) a)
  where
    go : (b : Bool) → (b && false) ≡ false
    go true = refl
    go false = refl

module _ (v : View) (m : Machine) (is : IsViewOf v m) (shown : IsShownView v) (a : ℕ) where
  -- the heap's items that stand in a segment
  abbrev standing : SegInfo → List Item
  standing s = filter (λ (i : Item). stands_in s i.place) (heap_items v.types.now v.heap.now)

  -- the items near an address, by the heap's segments
  by-heap : near_items m a ≡ said (has_in_use a) standing v.heap.now.segments
  by-heap =
      let items = listing-told v m is shown in
      let layout = is.layout in
      λ j. flat_map (λ (s : SegInfo). cond (has_in_use a s) (filter (λ (i : Item). stands_in s i.place) (items j)) [])
      (layout j).segments

  -- the items near an address of segment k are those of the segment
  pub near-told : (k : ℕ) → k < length v.heap.now.segments → first_of v.heap.now k ≤ a → a < last_of v.heap.now k
      → listing v.types.now v.heap.now k ≡ near_items m a
  near-told k l low high =
      let rows = v.types.now in
      let h = v.heap.now in
      sym (by-heap
      ∙ said-one (has_in_use a) standing h.segments k l
      (ap₂ (λ (b c : Bool). b && c) (le-leb (first_of h k) a low) (lt-ltb a (last_of h k) high))
      (λ j n other. unused a (segment_at h j) (elim (cases_lt a (first_of h j)) [
        | inl below ↦ inl below
        | inr above ↦ elim (cases_lt a (last_of h j)) [
          | inl inside ↦
              absurd (other (only-segment rows h shown.heap shown.held k a l j n low high above inside))
          | inr past ↦ inr past
        ]
      ]))
      ∙ segment-items rows h shown.heap shown.held.walkable k l)

  -- no item is near an address that no segment has in use
  pub none-near : ((k : ℕ) → k < length v.heap.now.segments → (a < first_of v.heap.now k) ⊎ (last_of v.heap.now k ≤ a))
      → near_items m a ≡ []
  none-near outside =
      by-heap ∙ said-none (has_in_use a) standing v.heap.now.segments
      (λ j n. unused a (segment_at v.heap.now j) (outside j n))

-- what is found among the items of segment k is of types that are there
pub known-found : (v : View) → IsShownView v → (k a : ℕ) → k < length v.heap.now.segments → (near : Near)
    → near ≡ near_in (listing v.types.now v.heap.now k) a → AreKnown v.types.now near
known-found v shown k a l near is =
    let rows = v.types.now in
    let h = v.heap.now in
    subst (AreKnown rows) (sym is)
    (known-near rows (listing rows h k) a
    (all_imply (IsItem rows (first_of h k) (last_of h k)) (λ (i : Item). i.type_id.0 ≤ length rows) (listing rows h k)
    (λ i it. it.known) (listing-are rows h shown.held.walkable k l)))
