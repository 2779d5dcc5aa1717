-- Fronts are fronts still where what is found behind them is marked, and what is found alone.
use Rattle.std.proofs.Common.{◌≡◌, inl, inr, ℕ, zero, suc, ◌<◌, ◌≤◌, true, false, List, [], ◌∷◌, length}
use Rattle.std.proofs.Common.{get_or, refl, ap, sym, ◌∙◌, subst, arith}
use Rattle.std.proofs.lemmas.Bool.{both_ways, cases_Bool, cases_order}
use Rattle.clr_types.specs.Rising.{IsIn}
use Rattle.clr_types.specs.Segments.{reserved_end}
use Rattle.clr_types.specs.Types.{TypeRow}
use Rattle.clr_types.specs.declared.item.Item.{Item}
use Rattle.clr_heap.specs.View.{first_of, HeapView, IsHeap, last_of, segment_at, word_of}
use Rattle.clr_heap.proofs.Framing.{lawful_at}
use Rattle.clr_heap.proofs.Rewrite.{shaped_heap}
use Rattle.clr_heap.proofs.Staying.{segment_order}
use Rattle.clr_mark.proofs.Held.{keeps_held, remarked-trans, remarked_back}
use Rattle.clr_mark.proofs.Remarking.{keeps_stands, stands_before}
use Rattle.clr_view.specs.Marks.{has_mark, IsUnmarked, Marked}
use Rattle.clr_view.specs.SlotValues.{StandsAt}
use Rattle.clr_view.specs.View.{IsHeld, is_object}
use Rattle.clr_view.proofs.Standing.{listed_from, stands_from}
use Rattle.clr_sweep.specs.Fronts.{front_at, HasFronts, IsFront}
use Rattle.clr_sweep.specs.SweptItems.{items_below}
use Rattle.clr_sweep.specs.declared.behind.Front.{Front}
use Rattle.clr_sweep.proofs.FrontFacts.{below_item, below_listing, part_high, part_low}
use Rattle.clr_sweep.proofs.RemarkedFronts.{front_remarked}
use Rattle.clr_bgmark.specs.LastPause.{HasMarked, IsFoundBehind}
use Rattle.clr_bgmark.specs.Pauses.{IsFound}
use Rattle.clr_bgmark.specs.Shades.{AreApart, covers, IsAt, ShadeView}
use Rattle.clr_bgmark.specs.Tiles.{AreFronts, HasFoundMarks, HaveSameBases}
use Rattle.clr_bgmark.proofs.FoundPlaces.{marked_at}
use Rattle.clr_bgmark.proofs.GrayPlaces.{apart_at}
use Rattle.clr_bgmark.proofs.Kept.{covers_inside, inside_covers}
use Rattle.clr_bgmark.proofs.Lookups.{at_covers, at_within}

-- the first segment that has an address is one
pub at_one : (ss : List ShadeView) (j k a : ℕ) → IsAt ss j a → IsAt ss k a → j ≡ k
at_one [] j k a at_j at_k = absurd at_j
at_one (s ∷ ss) zero zero a at_j at_k = refl
at_one (s ∷ ss) zero (suc k) a at_j at_k = absurd (both_ways (covers s a) at_k.0 at_j)
at_one (s ∷ ss) (suc j) zero a at_j at_k = absurd (both_ways (covers s a) at_j.0 at_k)
at_one (s ∷ ss) (suc j) (suc k) a at_j at_k = ap suc (at_one ss j k a at_j.1 at_k.1)

no_shade : ShadeView
no_shade = record { base = 0; size = 0; taken = []; marked = []; scanned = []; logged = [] }

module _ (h : HeapView) (ss : List ShadeView) (heap : IsHeap h) (apart : AreApart ss) (bases : HaveSameBases h ss)
    (sizes : (k : ℕ) (s : ShadeView) → k < length ss → 4096 ≤ (get_or ss k s).size) where
  -- the bits of what a segment reserves are those of the segment's number
  pub at_segment : (j k x : ℕ) → IsAt ss j x → k < length h.segments → (segment_at h k).base ≤ x
      → x < reserved_end (segment_at h k) → j ≡ k
  at_segment j k x at inside low high =
      let count = bases.0 in
      let in_j = at_within ss j x at in
      let in_k : k < length ss = omega (arith, inside, count) in
      let there = covers_inside (get_or ss j no_shade) x (at_covers ss j x no_shade at) in
      let base_j = bases.1 j no_shade in_j in
      let base_k = bases.1 k no_shade in_k in
      let size_k = sizes k no_shade in_k in
      let low_j = there.low in
      let high_j = there.high in
      let start = (segment_at h k).base in
      elim (cases_order j k) [
        | inl same ↦ same
        | inr (inl less) ↦
            let order = segment_order h j k heap less inside in
            let here : IsAt ss k (segment_at h k).base = apart_at ss k (segment_at h k).base no_shade apart in_k
            (inside_covers (get_or ss k no_shade) (segment_at h k).base
            (record { low = omega (arith, base_k); high = omega (arith, base_k, size_k) })) in
            let over : IsAt ss j (segment_at h k).base = apart_at ss j (segment_at h k).base no_shade apart in_j
            (inside_covers (get_or ss j no_shade) (segment_at h k).base
            (record { low = omega (arith, base_j, order); high = omega (arith, low, high_j) })) in
            at_one ss j k (segment_at h k).base over here
        | inr (inr more) ↦
            let order = segment_order h k j heap more (omega (arith, in_j, count)) in
            absurd (omega (arith, order, base_j, low_j, high))
      ]

module _ (rows : List TypeRow) (h new v : HeapView) (ss : List ShadeView) (fronts : List Front) (heap : IsHeap h)
    (held : IsHeld rows h) (unmarked : IsUnmarked rows h) (apart : AreApart ss) (bases : HaveSameBases h ss)
    (sizes : (k : ℕ) (s : ShadeView) → k < length ss → 4096 ≤ (get_or ss k s).size)
    (are : AreFronts rows h ss fronts) (marked : HasMarked rows (IsFoundBehind ss fronts) h new)
    (found : HasFoundMarks rows h v ss) where
  front : (k : ℕ) → k < length h.segments → IsFront rows h v k (front_at fronts k)
  front k inside = are.1 v found k inside

  same_count : length new.segments ≡ length h.segments
  same_count = ap (λ (g : HeapView). length g.segments) marked.words.shape.others

  -- what was marked is found, and behind the front of its segment
  marked_behind : (k x : ℕ) → k < length h.segments → first_of h k ≤ x → x < last_of h k → Marked rows new x
      → IsFound ss x × ((front_at fronts k).place ≤ x)
  marked_behind k x inside low high m =
      let top = (lawful_at h k heap inside).high in
      elim (marked.only x m) [
        | inl before ↦ absurd (unmarked x before)
        | inr is ↦ (
          is.found,
          subst (λ (n : ℕ). (front_at fronts n).place ≤ x)
              (at_segment h ss heap apart bases sizes is.index k x is.at inside (omega (arith, low))
              (omega (arith, high, top))) is.behind,
        )
      ]

  -- so no object of a front is marked
  front_clear : (k : ℕ) (inside : k < length h.segments) (i : Item)
      → IsIn i (items_below rows h k (front_at fronts k).place) → is_object i ≡ true
      → has_mark (word_of new i.place) ≡ false
  front_clear k inside i l object = elim (cases_Bool (has_mark (word_of new i.place))) [
    | inr off ↦ off
    | inl on ↦
        let f = front k inside in
        let from = (front_at fronts k).place in
        let is = below_item rows h k from f.parted i l in
        let low = is.above in
        let high = is.below in
        let least = is.least in
        let top = part_high rows h k from f.parted in
        let listed = listed_from rows h k i inside (below_listing rows h k from f.parted i l) in
        let stands = keeps_stands rows h new heap held marked.words i.place (stands_from rows h i listed object) in
        let behind = (marked_behind k i.place inside low (omega (arith, high, least, top))
        (record { stands = stands; mark = on })).1 in
        absurd (omega (arith, behind, high, least))
  ]

  -- behind the fronts the same objects are marked
  same_marks : (k x : ℕ) → k < length h.segments → StandsAt rows new x → (front_at fronts k).place ≤ x
      → x < last_of h k → has_mark (word_of v x) ≡ has_mark (word_of new x)
  same_marks k x inside stands low high =
      let f = front k inside in
      let up = part_low rows h k (front_at fronts k).place f.parted in
      let top = (lawful_at h k heap inside).high in
      let was = stands_before rows h new heap held marked.words x stands in
      elim (cases_Bool (has_mark (word_of v x))) [
        | inl on ↦
            let is = found.only x was on in
            let (j, at) = marked_at ss x is.1 in
            let same = at_segment h ss heap apart bases sizes j k x at inside (omega (arith, low, up))
            (omega (arith, high, top)) in
            let here : IsFoundBehind ss fronts x = record {
              found = is;
              index = k;
              at = subst (λ (n : ℕ). IsAt ss n x) same at;
              behind = low;
            } in
            on ∙ sym (marked.found x here).mark
        | inr off ↦ elim (cases_Bool (has_mark (word_of new x))) [
          | inr none ↦ off ∙ sym none
          | inl set ↦
              let is = (marked_behind k x inside (omega (arith, low, up)) high
              (record { stands = stands; mark = set })).0 in
              absurd (both_ways (has_mark (word_of v x)) off (found.found x was is))
        ]
      ]

  -- THE FRONTS are fronts still
  pub fronts_marked : HasFronts rows new v fronts
  fronts_marked = record {
    marks = remarked-trans rows new h v (shaped_heap h new marked.words.shape heap)
        (keeps_held rows h new heap held marked.words) (remarked_back rows h new heap held marked.words) found.marks;
    behind = λ k x l stands low high.
        let count = same_count in
        let last = ap (λ (g : HeapView). last_of g k) marked.words.shape.others in
        same_marks k x (omega (arith, l, count)) stands low (omega (arith, high, last));
    each = λ k l.
        let count = same_count in
        let inside : k < length h.segments = omega (arith, l, count) in
        front_remarked rows h new heap held marked.words k inside v (front_at fronts k) (front k inside)
        (front_clear k inside);
  }
