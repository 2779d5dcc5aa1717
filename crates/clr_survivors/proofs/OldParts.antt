-- The older parts of a lawful heap: what a young collection doesn't go over lies below what it does.
use Rattle.std.proofs.Common.{◌≡◌, ◌≢◌, ◌⊎◌, inl, inr, ℕ, ◌+◌, ◌<◌, ◌≤◌, ◌==◌, Bool, true, false, if◌then◌else◌, List}
use Rattle.std.proofs.Common.{length, refl, ap, sym, ◌∙◌, subst, arith}
use Rattle.std.proofs.lemmas.Bool.{cases_Bool, cases_eq, cases_order}
use Rattle.clr_types.specs.Rising.{IsIn}
use Rattle.clr_types.specs.Segments.{ephemeral, same_kind, stands_in}
use Rattle.clr_types.specs.Types.{TypeRow}
use Rattle.clr_types.specs.declared.item.Item.{Item}
use Rattle.clr_types.specs.declared.segment.SegKind.{SegKind}
use Rattle.clr_types.specs.declared.segment.SegKind.TheVariants.{Ephemeral, Large, Small, Pinned}
use Rattle.clr_types.proofs.SegmentFacts.{between-stands, stands-between}
use Rattle.clr_heap.specs.View.{first_of, frame, HeapView, IsHeap, last_of, listing, no_rests, segment_at}
use Rattle.clr_heap.proofs.Framing.{lawful_at}
use Rattle.clr_heap.proofs.Staying.{segment_order}
use Rattle.clr_model.specs.Lawful.{IsLaid}
use Rattle.clr_model.specs.Machine.{Machine}
use Rattle.clr_view.specs.Memory.{is_reached_by, IsMemoryOf}
use Rattle.clr_view.specs.View.{IsHeld}
use Rattle.clr_view.proofs.Listed.{in_append}
use Rattle.clr_view.proofs.Listings.{listing-are}
use Rattle.clr_view.proofs.Tails.{found-young, only-young}
use Rattle.clr_mark.specs.Marks.{is_condemned_place}
use Rattle.clr_types.proofs.RisingLists.{all_at}
use Rattle.clr_view.proofs.Items.{IsItem}
use Rattle.clr_sweep.specs.SweptItems.{items_below, items_from, young_start}
use Rattle.clr_sweep.proofs.WholeSwept.{memory-seen}
use Rattle.clr_sweep.proofs.SurvivorsSwept.{seen}
use Rattle.clr_sweep.proofs.YoungPart.{below-is, from-is, old-below, old-elsewhere, swept-off, swept-on, young-high}
use Rattle.clr_sweep.proofs.YoungPart.{young-in, young-items, young-kind, young-low}
use Rattle.clr_scan.specs.OldParts.{HasOldPart, HaveOldParts, old_end}
use Rattle.clr_survivors.proofs.LeftGoes.{condemned-is}

kind-turned : (kind : SegKind) → same_kind kind Ephemeral ≡ same_kind Ephemeral kind
kind-turned Small = refl
kind-turned Ephemeral = refl
kind-turned Large = refl
kind-turned Pinned = refl

kind-is : (kind : SegKind) → same_kind Ephemeral kind ≡ true → kind ≡ Ephemeral
kind-is Small e = absurd cc
kind-is Ephemeral e = refl
kind-is Large e = absurd cc
kind-is Pinned e = absurd cc

module _ (rows : List TypeRow) (h : HeapView) (base : Machine) (heap : IsHeap h) (held : IsHeld rows h)
    (none : h.rests ≡ no_rests) (laid : IsLaid (seen rows h base)) (g : ℕ) (young : g ≤ 1) where
  -- a place is condemned where a collection goes over it
  reached-condemned : (x : ℕ) (b : Bool) → is_reached_by h g x ≡ b → is_condemned_place h g x ≡ b
  reached-condemned x b e = condemned-is h g x ∙ e

  -- ---- the ephemeral segment

  module _ (k : ℕ) (inside : k < length h.segments) (eph : segment_at h k ≡ ephemeral (frame h)) where
    abbrev start : ℕ
    start = young_start h g

    end-young : old_end h g k ≡ start
    end-young = ap (λ (b : Bool). if b then start else last_of h k)
        (kind-turned (segment_at h k).kind ∙ young-kind rows h base heap held none laid g young k inside eph)

    whole-young : (i : Item) → IsIn i (listing rows h k) → (start ≤ i.place) ⊎ (i.place + i.size ≤ start)
    whole-young i l =
        elim (in_append i (items_below rows h k start) (items_from rows h k start)
        (subst (IsIn i) (young-items rows h base heap held none laid g young k inside eph) l)) [
          | inl below ↦ inr (below-is rows h base heap held none laid g young k inside eph i below).below
          | inr from ↦ inl (from-is rows h base heap held none laid g young k inside eph i from).above
        ]

    stands-young : (x : ℕ) → first_of h k ≤ x → x < last_of h k → stands_in (segment_at h k) x ≡ true
    stands-young x low high =
        let top = (lawful_at h k heap inside).high in
        between-stands (segment_at h k) x low (omega arith)

    abbrev PartAt : ℕ → Type 0
    PartAt end =
        (first_of h k ≤ end) × (end ≤ last_of h k)
        × ((i : Item) → IsIn i (listing rows h k) → (end ≤ i.place) ⊎ (i.place + i.size ≤ end))
        × ((x : ℕ) → first_of h k ≤ x → x < end → is_condemned_place h g x ≡ false)
        × ((x : ℕ) → end ≤ x → x < last_of h k → is_condemned_place h g x ≡ true)

    part-young : PartAt start
    part-young =
        let low = young-low rows h base heap held none laid g young k inside eph in
        let high = young-high rows h base heap held none laid g young k inside eph in (
          low,
          high,
          whole-young,
          λ x above below. reached-condemned x false
              (swept-off rows h base heap held none laid g young k inside eph x
              (old-below rows h base heap held none laid g young k inside eph x
              (stands-young x above (omega arith)) below)),
          λ x above below. reached-condemned x true
              (swept-on rows h base heap held none laid g young k inside eph x
              (young-in rows h base heap held none laid g young k inside eph x
              (stands-young x (omega arith) below) above)),
        )

    pub young_part : HasOldPart rows h g k
    young_part =
        let p = subst PartAt (sym end-young) part-young in
        record { low = p.0; high = p.1; whole = p.2; older = p.3; young = p.4 }

  -- ---- another one

  module _ (e : ℕ) (there : e < length h.segments) (eph : segment_at h e ≡ ephemeral (frame h)) (k : ℕ)
      (inside : k < length h.segments) (other : k ≢ e) (kind : same_kind Ephemeral (segment_at h k).kind ≡ false) where
    -- no place of it stands in the ephemeral one
    away : (x : ℕ) → first_of h k ≤ x → x < last_of h k → stands_in (segment_at h e) x ≡ false
    away x low high = elim (cases_Bool (stands_in (segment_at h e) x)) [
      | inl on ↦
          let top = (lawful_at h k heap inside).high in
          let (low_e, high_e) = stands-between (segment_at h e) x on in
          elim (cases_order k e) [
            | inl same ↦ absurd (other same)
            | inr (inl lower) ↦ let o = segment_order h k e heap lower there in absurd (omega arith)
            | inr (inr upper) ↦ let o = segment_order h e k heap upper inside in absurd (omega arith)
          ]
      | inr off ↦ off
    ]

    abbrev PartTo : ℕ → Type 0
    PartTo end =
        (first_of h k ≤ end) × (end ≤ last_of h k)
        × ((i : Item) → IsIn i (listing rows h k) → (end ≤ i.place) ⊎ (i.place + i.size ≤ end))
        × ((x : ℕ) → first_of h k ≤ x → x < end → is_condemned_place h g x ≡ false)
        × ((x : ℕ) → end ≤ x → x < last_of h k → is_condemned_place h g x ≡ true)

    end-other : old_end h g k ≡ last_of h k
    end-other =
        ap (λ (b : Bool). if b then (if g == 0 then h.start0 else h.start1) else last_of h k)
        (kind-turned (segment_at h k).kind ∙ kind)

    pub other_part : HasOldPart rows h g k
    other_part =
        let p = subst PartTo (sym end-other) part in
        record { low = p.0; high = p.1; whole = p.2; older = p.3; young = p.4 }
      where
        part : PartTo (last_of h k)
        part =
            let low = (lawful_at h k heap inside).low in
            let high : last_of h k ≤ last_of h k = omega arith in (
              low,
              high,
              λ i l. inr (all_at (IsItem rows (first_of h k) (last_of h k)) l
                  (listing-are rows h held.walkable k inside)).below,
              λ x above below. reached-condemned x false
                  (swept-off rows h base heap held none laid g young e there eph x
                  (old-elsewhere rows h base heap held none laid g young e there eph x (away x above below))),
              λ x above below. absurd (omega arith),
            )

  -- ---- all of them

  pub old_parts : HaveOldParts rows h g
  old_parts k inside =
      let (e, is) = found-young h heap in
      elim (cases_eq k e) [
        | inl same ↦
            young_part k inside (ap (segment_at h) same ∙ is.is)
        | inr other ↦ other_part e is.in_range is.is k inside other (elim (cases_Bool (same_kind Ephemeral
            (segment_at h k).kind)) [
              | inl on ↦ absurd (other (only-young h e heap is k inside (kind-is (segment_at h k).kind on)))
              | inr off ↦ off
            ])
      ]

-- THE OLDER PARTS of the memory of a lawful machine
pub memory_old_parts : (rows : List TypeRow) (h : HeapView) → IsHeap h → IsHeld rows h → h.rests ≡ no_rests
    → (m : Machine) → IsMemoryOf rows h m → IsLaid m → (g : ℕ) → g ≤ 1 → HaveOldParts rows h g
memory_old_parts rows h heap held none m memory laid g young =
    old_parts rows h m heap held none (subst IsLaid (memory-seen rows h m memory) laid) g young
