-- A front is one where marks of objects change, of which none is below its end.
use Rattle.std.proofs.Common.{◌≡◌, inl, inr, ℕ, ◌+◌, ◌-◌, ◌<◌, true, false, not, List, length, ap, sym, ◌∙◌, subst}
use Rattle.std.proofs.Common.{arith, count_by, Option, refl}
use Rattle.std.proofs.lemmas.Bool.{both_ways}
use Rattle.clr_types.specs.Ranges.{Piece}
use Rattle.clr_types.specs.Rising.{IsIn}
use Rattle.clr_types.specs.Segments.{generation}
use Rattle.clr_types.specs.Types.{TypeRow}
use Rattle.clr_types.specs.declared.item.Item.{Item}
use Rattle.clr_heap.specs.Parts.{items_in, Part, parts, Spells}
use Rattle.clr_heap.specs.View.{CanWalk, first_of, frame, heap_items, HeapView, IsHeap, items_between, last_of, listing}
use Rattle.clr_heap.specs.View.{sight, word_of}
use Rattle.clr_heap.proofs.Rewrite.{holes_same, Spells-rewrites}
use Rattle.clr_heap.proofs.Runs.{held_same}
use Rattle.clr_heap.proofs.Walking.{CanWalk-from, spelled_parts}
use Rattle.clr_mark.specs.Marks.{IsRemarked}
use Rattle.clr_mark.proofs.Remarking.{cell_mt, cell_word}
use Rattle.clr_view.specs.Marks.{has_mark}
use Rattle.clr_view.specs.SlotValues.{StandsAt}
use Rattle.clr_view.specs.View.{HaveFreeHeads, IsHeld, is_free, is_object}
use Rattle.clr_view.proofs.FreeHeads.{head_stays}
use Rattle.clr_view.proofs.Listed.{listed-spelled}
use Rattle.clr_view.proofs.ObjectItems.{stands-item}
use Rattle.clr_view.proofs.Standing.{among_listed, high_up, len_in, listed_from, standing}
use Rattle.clr_sweep.specs.Fronts.{AreBeforeObjects, IsFront}
use Rattle.clr_sweep.specs.SweptItems.{items_below}
use Rattle.clr_sweep.specs.SweptSegments.{IsParted}
use Rattle.clr_sweep.specs.declared.behind.Front.{Front}
use Rattle.clr_sweep.proofs.FrontFacts.{below_listing, from_listing}

module _ (rows : List TypeRow) (h new : HeapView) (heap : IsHeap h) (held : IsHeld rows h) (r : IsRemarked rows h new)
    (k : ℕ) (inside : k < length h.segments) where
  same_first : first_of new k ≡ first_of h k
  same_first = ap (λ (g : HeapView). first_of g k) r.shape.others

  same_last : last_of new k ≡ last_of h k
  same_last = ap (λ (g : HeapView). last_of g k) r.shape.others

  -- ---- walks

  module _ (p e : ℕ) (w : CanWalk (sight rows h k) h.memories p e)
      (among : (i : Item) → IsIn i (items_between (sight rows h k) p e) → IsIn i (listing rows h k)) where
    abbrev ps : List Part
    ps = parts e (sight rows h k) p e

    spelled_on : Spells (sight rows new k) p ps e
    spelled_on =
        subst (λ (hs : List (Option Piece)). Spells (record { rows = rows; word = word_of new; holes = hs }) p ps e)
        (sym (holes_same h new k r.shape))
        (Spells-rewrites (λ a n. word_of new a) (sight rows h k) (word_of new) ps p e w.start w.spelled (λ a z. refl)
        (λ i m.
        let listed = listed_from rows h k i inside (among i (among_listed ps i m)) in
        record {
          mt = cell_mt rows h new heap held r i listed;
          len = cell_word rows h new heap held r i (i.place + 8) listed (len_in rows h heap held i listed)
              (λ e. omega arith);
        }))

    walk_on : CanWalk (sight rows new k) new.memories p e
    walk_on = CanWalk-from (sight rows new k) new.memories ps p e w.start spelled_on
        (held_same h new p e r.shape.memories w.held)

    items_on : items_between (sight rows new k) p e ≡ items_between (sight rows h k) p e
    items_on = ap items_in (spelled_parts (sight rows new k) ps p e spelled_on)

  module _ (from : ℕ) (w : IsParted rows h k from) where
    pub parted_remarked : IsParted rows new k from
    parted_remarked = record {
      below = subst (λ (p : ℕ). CanWalk (sight rows new k) new.memories p from) (sym same_first)
          (walk_on (first_of h k) from w.below (below_listing rows h k from w));
      above = subst (λ (e : ℕ). CanWalk (sight rows new k) new.memories from e) (sym same_last)
          (walk_on from (last_of h k) w.above (from_listing rows h k from w));
    }

    pub below_remarked : items_below rows new k from ≡ items_below rows h k from
    below_remarked = ap (λ (p : ℕ). items_between (sight rows new k) p from) same_first
        ∙ items_on (first_of h k) from w.below (below_listing rows h k from w)

  -- ---- free items

  -- no object stands where a free item does
  none_at_free : (i : Item) → IsIn i (heap_items rows h) → is_free i ≡ true → StandsAt rows h i.place → ⊥
  none_at_free i l free stands =
      let object = (stands-item rows h heap held i.place stands).object in
      let same = (listed-spelled rows h i heap held l).0 in
      both_ways (is_object i) (ap not free) (ap is_object same ∙ object)

  module _ (v : HeapView) (f : Front) (front : IsFront rows h v k f)
      (clear : (i : Item) → IsIn i (items_below rows h k f.place) → is_object i ≡ true
      → has_mark (word_of new i.place) ≡ false) where
    same_below : items_below rows new k f.place ≡ items_below rows h k f.place
    same_below = below_remarked f.place front.parted

    heads_remarked : HaveFreeHeads (word_of new) (items_below rows h k f.place)
    heads_remarked i l free =
        let listed = listed_from rows h k i inside (below_listing rows h k f.place front.parted i l) in
        let s = standing rows h heap held i listed in
        let z = s.aligned in
        let least = s.least in
        let up = high_up rows h heap held i listed in
        head_stays (word_of h) (word_of new) i.place
        (cell_word rows h new heap held r i (i.place - 8) listed
        (record { aligned = omega arith; low = omega arith; high = omega arith }) (λ e. omega arith))
        (elim (r.words i.place z) [
          | inl same ↦ same
          | inr other ↦ absurd (none_at_free i listed free other.0)
        ])
        (front.free_heads i l free)

    -- THE FRONT is one still
    pub front_remarked : IsFront rows new v k f
    front_remarked = record {
      parted = parted_remarked f.place front.parted;
      old = λ p low high. ap (λ (g : HeapView). generation (frame g) p) r.shape.others
          ∙ front.old p (let first = same_first in omega (arith, first, low)) high;
      unmarked = λ i l object. clear i (subst (λ (is : List Item). IsIn i is) same_below l) object;
      marked = λ i l object. front.marked i (subst (λ (is : List Item). IsIn i is) same_below l) object;
      settled = subst (AreBeforeObjects false) (sym same_below) front.settled;
      free_heads = subst (HaveFreeHeads (word_of new)) (sym same_below) heads_remarked;
      count = front.count ∙ ap (count_by is_object) (sym same_below);
    }
