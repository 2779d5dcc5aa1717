-- Items end to end are relocated, one after the other.
use Rattle.std.proofs.Common.{◌≡◌, inl, inr, ℕ, ◌+◌, ◌-◌, ◌/◌, ◌<◌, ◌≤◌, Bool, true, List, [], ◌∷◌}
use Rattle.std.proofs.Common.{refl}
use Rattle.std.proofs.Common.{◌∙◌, ap, subst, arith}
use Rattle.std.proofs.lemmas.Bool.{both_ways, cases_Bool, cases_lt}
use Rattle.clr_types.specs.Rising.{IsIn}
use Rattle.clr_types.specs.Segments.{Layout}
use Rattle.clr_types.specs.Types.{TypeRow}
use Rattle.clr_types.specs.declared.item.Item.{Item}
use Rattle.clr_cards.specs.Cards.{is_card_set}
use Rattle.clr_covers.specs.Covers.{CoverView, is_covered, spans}
use Rattle.clr_covers.proofs.Spans.{is_covered-spans, share_cover-spans}
use Rattle.clr_heap.specs.Memories.{HasWord}
use Rattle.clr_heap.specs.View.{frame, heap_items, HeapView, IsHeap, SameShape}
use Rattle.clr_heap.proofs.Storing.{HasWord-shapes}
use Rattle.clr_model.specs.Compaction.{Move, moved_by}
use Rattle.clr_view.specs.View.{IsHeld}
use Rattle.clr_view.proofs.Standing.{cell_has, mt_in, standing}
use Rattle.clr_pinq.specs.Queue.{QueueView}
use Rattle.clr_moves.specs.declared.condemned.Condemned.{Condemned}
use Rattle.clr_moves.specs.declared.stretch.Stretch.{Stretch}
use Rattle.clr_reloc.specs.Relocated.{rebounded}
use Rattle.clr_reloc.specs.Relocations.{AreRelocated, CanSkip, IsRelocatingBy, KeepsBeside}
use Rattle.clr_reloc.specs.declared.relocation.Relocation.{Relocation}
use Rattle.clr_reloc.specs.Relocating.{AreCarded, GoesDown, HasGone, HaveCardsDown, IsAhead, IsItemAhead, Tracks}
use Rattle.clr_reloc.proofs.Cells.{left_inside, one_item}
use Rattle.clr_reloc.proofs.OneObject.{keeps_refl, keeps_trans}

pub below_end : (place hi end : ℕ) → place < hi → hi ≤ end → place < end
below_end place hi end less within = omega (arith, less, within)

-- where tracks lead
pub track_order : (rows : List TypeRow) (view : HeapView) (is : List Item) (p e : ℕ) → Tracks rows view is p e → p ≤ e
track_order rows view [] p e t = omega (arith, t)
track_order rows view (i ∷ is) p e t = let o = track_order rows view is (p + i.size) e t.2 in omega (arith, o)

-- the first item of a track that isn't at its end
pub record StartsTrack (rows : List TypeRow) (view : HeapView) (p e : ℕ) : Type 0 where
  pub item : Item
  pub rest : List Item
  pub at : item.place ≡ p
  pub listed : IsIn item (heap_items rows view)
  pub track : Tracks rows view rest (p + item.size) e

pub track_first : (rows : List TypeRow) (view : HeapView) (is : List Item) (p e : ℕ) → Tracks rows view is p e → p < e
    → StartsTrack rows view p e
track_first rows view [] p e t l = absurd (omega (arith, t, l))
track_first rows view (i ∷ is) p e t l =
    record { item = i; rest = is; at = t.0; listed = t.1; track = t.2 }

-- where it starts stands a word
pub track_has : (rows : List TypeRow) (view h : HeapView) (heap : IsHeap view) (held : IsHeld rows view)
    → SameShape view h → (is : List Item) (p e : ℕ) → Tracks rows view is p e → p < e → HasWord h.memories p
track_has rows view h heap held same is p e t l =
    let f = track_first rows view is p e t l in
    HasWord-shapes view.memories h.memories p same.memories
    (subst (HasWord view.memories) f.at
    (cell_has rows view heap held f.item f.item.place f.listed (mt_in rows view heap held f.item f.listed)))

pub gone_none : (rows : List TypeRow) (view now : HeapView) (g : Condemned) (vs : List Move) (p : ℕ)
    → HasGone rows view now now g vs p p
gone_none rows view now g vs p = record {
  done = λ b r low high. absurd (omega (arith, low, high));
  others = λ b z out. refl;
}

pub carded_none : (rows : List TypeRow) (view : HeapView) (g : Condemned) (vs : List Move) (layout : Layout)
    (is_set : ℕ → Bool) (p : ℕ) → AreCarded rows view g vs layout is_set p p
carded_none rows view g vs layout is_set p i offset left low high m = absurd (omega (arith, low, high))

-- two stretches side by side
pub gone_both : (rows : List TypeRow) (view now mid next : HeapView) (g : Condemned) (vs : List Move)
    (heap : IsHeap view) (held : IsHeld rows view) (p q e : ℕ) → p ≤ q → q ≤ e → HasGone rows view now mid g vs p q
    → HasGone rows view mid next g vs q e → HasGone rows view now next g vs p e
gone_both rows view now mid next g vs heap held p q e low high a b = record {
  done = λ x r from to. elim (cases_lt (x + 8) q) [
    | inl first ↦ b.others x (left_inside rows view heap held g x r).aligned (inl first) ∙ a.done x r from first
    | inr second ↦ b.done x r second to
  ];
  others = λ x z out. elim out [
    | inl below ↦ b.others x z (inl (omega arith)) ∙ a.others x z (inl below)
    | inr above ↦ b.others x z (inr above) ∙ a.others x z (inr (omega arith))
  ];
}

pub carded_both : (rows : List TypeRow) (view : HeapView) (g : Condemned) (vs : List Move) (layout : Layout)
    (old new : ℕ → Bool) (p q e : ℕ) → ((c : ℕ) → old c ≡ true → new c ≡ true)
    → AreCarded rows view g vs layout old p q → AreCarded rows view g vs layout new q e
    → AreCarded rows view g vs layout new p e
carded_both rows view g vs layout old new p q e kept a b i offset left low high m = elim (cases_lt i.place q) [
  | inl first ↦ (λ less. kept ((moved_by vs i.place + offset) / 2048) (a i offset left low first m less))
  | inr second ↦ b i offset left second high m
]

-- nothing is relocated where nothing stands
pub relocated_none : (work : Relocation) (view now : HeapView) (vs : List Move) (h : HeapView) (pins : QueueView)
    (cards : List (CoverView ℕ)) (last : Stretch) (p : ℕ) → IsRelocatingBy work view now h pins.entries vs last
    → AreRelocated work view now vs h h pins pins cards last p p
relocated_none work view now vs h pins cards last p r = record {
  next = now;
  relocating = r;
  gone = gone_none work.types.now view now work.g vs p;
  telling = keeps_refl work.types.now view work.g vs pins.entries h;
  carded = carded_none work.types.now view work.g vs (rebounded (frame view) work.planned) (is_card_set cards) p;
}

-- what is relocated after something else, of which no card is cleared
pub relocated_both : (work : Relocation) (view now : HeapView) (vs : List Move) (old mid new : HeapView)
    (pins queue saved : QueueView) (cards flags set : List (CoverView ℕ)) (near last : Stretch) (p q e : ℕ)
    → IsHeap view → IsHeld work.types.now view → p ≤ q → q ≤ e → KeepsBeside cards flags pins queue
    → KeepsBeside flags set queue saved
    → (a : AreRelocated work view now vs old mid pins queue flags near p q)
    → AreRelocated work view a.next vs mid new queue saved set last q e
    → AreRelocated work view now vs old new pins saved set last p e
relocated_both work view now vs old mid new pins queue saved cards flags set near last p q e heap held low high before
    beside a b = record {
      next = b.next;
      relocating = b.relocating;
      gone = gone_both work.types.now view now a.next b.next work.g vs heap held p q e low high a.gone b.gone;
      telling = keeps_trans work.types.now view work.g vs pins.entries queue.entries old mid new before.saved a.telling
          b.telling;
      carded = carded_both work.types.now view work.g vs (rebounded (frame view) work.planned) (is_card_set flags)
          (is_card_set set) p q e beside.set a.carded b.carded;
    }

-- the next item is still ahead
module _ (rows : List TypeRow) (view now next : HeapView) (g : Condemned) (vs : List Move) (heap : IsHeap view)
    (held : IsHeld rows view) (from place e down : ℕ) (cards : List (CoverView ℕ)) (low : from ≤ place)
    (below : place < e)
    (ahead : IsAhead view now g vs from e) (goes : GoesDown vs from e down)
    (gone : HasGone rows view now next g vs from place) (t : StartsTrack rows view place e) where
  within : place + t.item.size ≤ e
  within = track_order rows view t.rest (place + t.item.size) e t.track

  least : 24 ≤ t.item.size
  least = (standing rows view heap held t.item t.listed).least

  pub goes_down : moved_by vs place + down ≡ place
  goes_down = goes place low below

  pub item_ahead : (covers : List (CoverView ℕ)) → HaveCardsDown covers from e down → spans cards ≡ spans covers
      → IsItemAhead rows view next g vs t.item place (place - down) cards
  item_ahead covers have same = record {
    listed = t.listed;
    at = t.at;
    ahead = record {
      kept = λ b z lo hi. let w = within in ahead.kept b z (omega arith) (omega arith);
      untouched = λ b z lo hi. let w = within in
          gone.others b z (inr lo) ∙ ahead.untouched b z (omega arith) (omega arith);
    };
    goes = let d = goes_down in omega (arith, d);
    covered = λ x lo hi.
        let w = within in
        let d = goes_down in
        let y : x + down - down ≡ x = omega arith in
        is_covered-spans cards covers (x / 2048) same
        ∙ subst (λ n. is_covered covers (n / 2048) ≡ true) y
        (have (x + down) (omega (arith, d, lo, low)) (omega (arith, d, hi, w)));
  }

-- clear cards may be skipped on it, too
pub skip_item : (work : Relocation) (view : HeapView) (vs : List Move) (cards flags : List (CoverView ℕ))
    → IsHeap view → IsHeld work.types.now view → (from place e : ℕ) → from ≤ place
    → (t : StartsTrack work.types.now view place e)
    → ((c : ℕ) → is_card_set cards c ≡ true → is_card_set flags c ≡ true) → spans flags ≡ spans cards → (carded : Bool)
    → (carded ≡ true → CanSkip work view vs cards from e) → carded ≡ true
    → CanSkip work view vs flags place (place + t.item.size)
skip_item work view vs cards flags heap held from place e low t kept same carded skip on =
    let all = skip on in
    let w = track_order work.types.now view t.rest (place + t.item.size) e t.track in
    record {
      quiet = λ i offset left a b m off. all.quiet i offset left (omega (arith, low, a)) (omega (arith, w, b)) m
          (elim (cases_Bool (is_card_set cards ((i.place + offset) / 2048))) [
            | inr no_card ↦ no_card
            | inl set ↦ absurd (both_ways (is_card_set flags ((i.place + offset) / 2048)) off
                (kept ((i.place + offset) / 2048) set))
          ]);
      row = λ a b from_a to_a from_b to_b. share_cover-spans flags cards (a / 2048) (b / 2048) same
          ∙ all.row a b (omega (arith, low, from_a)) (omega (arith, w, to_a)) (omega (arith, low, from_b))
          (omega (arith, w, to_b));
      stays = λ x lo hi. all.stays x (omega (arith, low, lo)) (omega (arith, w, hi));
    }

-- an item of the heap that starts on a track ends on it
pub on_track : (rows : List TypeRow) (view : HeapView) → IsHeap view → IsHeld rows view → (is : List Item) (p e : ℕ)
    → Tracks rows view is p e → (i : Item) → IsIn i (heap_items rows view) → p ≤ i.place → i.place < e
    → i.place + i.size ≤ e
on_track rows view heap held [] p e t i l low high = absurd (omega (arith, t, low, high))
on_track rows view heap held (j ∷ is) p e t i l low high = elim (cases_lt i.place (p + j.size)) [
  | inl less ↦
      let at = t.0 in
      let s = standing rows view heap held i l in
      let up = s.above in
      let size = s.least in
      let same : i ≡ j = one_item rows view heap held i j (i.place - 8) l t.1 (omega arith) (omega arith) (omega arith)
      (omega arith) in
      let end = track_order rows view is (p + j.size) e t.2 in
      let place = ap (λ (x : Item). x.place + x.size) same in
      omega arith
  | inr past ↦ on_track rows view heap held is (p + j.size) e t.2 i l past high
]
