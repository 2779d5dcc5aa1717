-- References on clear cards needn't be relocated.
use Rattle.std.proofs.Common.{◌≡◌, ◌⊎◌, inl, inr, ℕ, ◌+◌, ◌-◌, ◌/◌, ◌%◌, ◌<◌, ◌≤◌, Bool, true, false, List, [], ◌∷◌}
use Rattle.std.proofs.Common.{refl, ap, sym}
use Rattle.std.proofs.Common.{◌∙◌, subst, arith, ℤ}
use Rattle.std.proofs.lemmas.Bool.{both_ways, cases_Bool, cases_lt}
use Rattle.clr_types.specs.Rising.{IsIn}
use Rattle.clr_types.specs.Segments.{generation, Layout}
use Rattle.clr_types.specs.Types.{TypeRow}
use Rattle.clr_types.specs.declared.item.Item.{Item}
use Rattle.clr_heap.specs.View.{heap_items, HeapView, IsHeap, word_of}
use Rattle.clr_model.specs.Compaction.{Move, moved_by}
use Rattle.clr_view.specs.SlotValues.{StandsAt}
use Rattle.clr_view.specs.View.{IsHeld}
use Rattle.clr_view.proofs.ObjectItems.{stands-item}
use Rattle.clr_view.proofs.Standing.{standing}
use Rattle.clr_scan.specs.Entries.{IsEntryPlace}
use Rattle.clr_scan.specs.SetCards.{AreClear}
use Rattle.clr_moves.specs.declared.condemned.Condemned.{Condemned}
use Rattle.clr_reloc.specs.Relocating.{AreCarded, GoesDown, HasGone, IsAhead}
use Rattle.clr_reloc.specs.Relocating.{Tracks}
use Rattle.clr_reloc.specs.Scanning.{AreEntriesSound, AreQuietWhereClear}
use Rattle.clr_reloc.proofs.Cells.{left_inside, one_item, reference_inside}
use Rattle.clr_heap.specs.Parts.{item_at}
use Rattle.clr_reloc.proofs.ManyItems.{carded_both, gone_both, on_track, track_first, track_order}

-- the rest of a track from an item on
pub track_from : (rows : List TypeRow) (view : HeapView) → IsHeap view → IsHeld rows view → (is : List Item) (p e q : ℕ)
    → Tracks rows view is p e → (j : Item) → IsIn j (heap_items rows view) → j.place ≡ q → p ≤ q → q < e
    → (rest : List Item) × Tracks rows view rest q e
track_from rows view heap held [] p e q t j l at low high = absurd (omega (arith, t, low, high))
track_from rows view heap held (i ∷ is) p e q t j l at low high = elim (cases_lt q (p + i.size)) [
  | inl less ↦
      let place = t.0 in
      let s = standing rows view heap held j l in
      let up = s.above in
      let size = s.least in
      let same = ap (λ (x : Item). x.place) (one_item rows view heap held i j (j.place - 8) t.1 l (omega arith)
      (omega arith) (omega arith) (omega arith)) in
      let equal : p ≡ q = omega arith in
      (i ∷ is, subst (λ n. Tracks rows view (i ∷ is) n e) equal t)
  | inr past ↦ track_from rows view heap held is (p + i.size) e q t.2 j l at past high
]

-- an item that starts on a track, before the start of another, ends there or below
pub ends_before : (rows : List TypeRow) (view : HeapView) → IsHeap view → IsHeld rows view → (i j : Item)
    → IsIn i (heap_items rows view) → IsIn j (heap_items rows view) → i.place < j.place → i.place + i.size ≤ j.place
ends_before rows view heap held i j l m less = elim (cases_lt j.place (i.place + i.size)) [
  | inr past ↦ past
  | inl inside ↦
      let s = standing rows view heap held j m in
      let up = s.above in
      let size = s.least in
      let same = ap (λ (x : Item). x.place) (one_item rows view heap held i j (j.place - 8) l m (omega arith)
      (omega arith) (omega arith) (omega arith)) in
      absurd (omega arith)
]

-- what was clear stays so backwards
pub was_clear : (old new : ℕ → Bool) → ((c : ℕ) → old c ≡ true → new c ≡ true) → (c : ℕ) → new c ≡ false
    → old c ≡ false
was_clear old new kept c off = elim (cases_Bool (old c)) [
  | inr no_card ↦ no_card
  | inl on ↦ absurd (both_ways (new c) off (kept c on))
]

module _ (rows : List TypeRow) (view now : HeapView) (g : Condemned) (vs : List Move) (layout : Layout)
    (heap : IsHeap view) (held : IsHeld rows view) (is_set : ℕ → Bool) (first end p q : ℕ)
    (quiet : AreQuietWhereClear rows view g vs layout is_set first end) (low : first ≤ p) (high : q ≤ end)
    (clear : AreClear is_set p q)
    (untouched : (b : ℕ) → b % 8 ≡ 0 → p ≤ b + 8 → b + 8 < q → word_of now b ≡ word_of view b)
    (whole : (i : Item) → IsIn i (heap_items rows view) → p ≤ i.place → i.place < q → i.place + i.size ≤ q)
    (begins : (i : Item) → IsIn i (heap_items rows view) → i.place < p → i.place + i.size ≤ p) where
  -- the words between are what they are to become
  pub skip_gone : HasGone rows view now now g vs p q
  skip_gone = record {
    done = λ b r from to.
        let c = left_inside rows view heap held g b r in
        let above = c.above in
        let below = c.below in
        let i = r.item in
        let start : p ≤ r.item.place = elim (cases_lt r.item.place p) [
          | inr up ↦ up
          | inl less ↦ let e = begins r.item r.left.listed less in absurd (omega arith)
        ] in
        let at = r.address in
        let off = clear b (omega arith) (omega arith) in
        let still = (quiet r.item r.offset r.left (omega arith) (omega arith) r.reference
        (subst (λ x. is_set (x / 2048) ≡ false) at off)).0 in
        untouched b c.aligned from to
        ∙ sym (ap (λ x. moved_by vs (word_of view x)) at ∙ still ∙ ap (word_of view) (sym at));
    others = λ b z out. refl;
  }

  pub skip_carded : GoesDown vs first end 0 → (now_set : ℕ → Bool) → AreCarded rows view g vs layout now_set p q
  skip_carded goes now_set i offset left from to m less =
      let c = reference_inside rows view heap held i offset left.listed m in
      let above = c.above in
      let below = c.below in
      let ends = whole i left.listed from to in
      let off = clear (i.place + offset) (omega arith) (omega arith) in
      let (still, older) = quiet i offset left (omega arith) (omega arith) m off in
      let place = goes i.place (omega arith) (omega arith) in
      let here : moved_by vs i.place ≡ i.place = omega (arith, place) in
      absurd (older (subst (λ x. generation layout x < generation layout i.place) still
      (subst (λ x. generation layout (moved_by vs (word_of view (i.place + offset))) < generation layout x) here less)))

pub quiet_on : (rows : List TypeRow) (view : HeapView) (g : Condemned) (vs : List Move) (layout : Layout)
    (old new : ℕ → Bool) (first end : ℕ) → ((c : ℕ) → old c ≡ true → new c ≡ true)
    → AreQuietWhereClear rows view g vs layout old first end → AreQuietWhereClear rows view g vs layout new first end
quiet_on rows view g vs layout old new first end kept quiet i offset left a b m off =
    quiet i offset left a b m (was_clear old new kept ((i.place + offset) / 2048) off)

-- ---- a scan by set cards

module _ (rows : List TypeRow) (view now next : HeapView) (g : Condemned) (vs : List Move) (layout : Layout)
    (heap : IsHeap view) (held : IsHeld rows view) (old_set now_set : ℕ → Bool)
    (kept : (c : ℕ) → old_set c ≡ true → now_set c ≡ true) (first end cursor : ℕ) (low : first ≤ cursor)
    (quiet : AreQuietWhereClear rows view g vs layout old_set first end)
    (ahead : IsAhead view now g vs first end) (goes : GoesDown vs first end 0) (rest : List Item)
    (track : Tracks rows view rest cursor end) (gone : HasGone rows view now next g vs first cursor)
    (carded : AreCarded rows view g vs layout now_set first cursor) where
  -- what lies on clear cards is passed over
  pub passed : (q : ℕ) → cursor ≤ q → q ≤ end → AreClear now_set cursor q
      → ((i : Item) → IsIn i (heap_items rows view) → cursor ≤ i.place → i.place < q → i.place + i.size ≤ q)
      → HasGone rows view now next g vs first q × AreCarded rows view g vs layout now_set first q
  passed q up high clear whole = elim (cases_lt cursor q) [
    | inr none ↦
        let same : cursor ≡ q = omega arith in (
          subst (HasGone rows view now next g vs first) same gone,
          subst (AreCarded rows view g vs layout now_set first) same carded,
        )
    | inl some ↦
        let f = track_first rows view rest cursor end track (omega arith) in
        let quiet_now : AreQuietWhereClear rows view g vs layout now_set first end =
        λ i offset left a b m off. quiet i offset left a b m
        (was_clear old_set now_set kept ((i.place + offset) / 2048) off) in
        let at = f.at in
        let untouched : (b : ℕ) → b % 8 ≡ 0 → cursor ≤ b + 8 → b + 8 < q → word_of next b ≡ word_of view b =
        λ b z from to. gone.others b z (inr from) ∙ ahead.untouched b z (omega arith) (omega arith) in
        let begins : (i : Item) → IsIn i (heap_items rows view) → i.place < cursor → i.place + i.size ≤ cursor =
        λ i l less. (let e = ends_before rows view heap held i f.item l f.listed (omega arith) in omega arith) in (
          gone_both rows view now next next g vs heap held first cursor q low up gone
              (skip_gone rows view next g vs layout heap held now_set first end cursor q quiet_now low high clear
              untouched
              whole begins),
          carded_both rows view g vs layout now_set now_set first cursor q (λ c on. on) carded
              (skip_carded rows view next g vs layout heap held now_set first end cursor q quiet_now low high clear
              untouched
              whole begins goes now_set),
        )
  ]

  -- where a walk may begin
  pub record CanBegin (from : ℕ) : Type 0 where
    pub items : List Item
    pub above : cursor ≤ from
    pub tracks : Tracks rows view items from end
    pub has_gone : HasGone rows view now next g vs first from
    pub are_carded : AreCarded rows view g vs layout now_set first from

  pub begin_at : (lo from : ℕ) → lo < end → AreClear now_set cursor lo
      → (from ≡ cursor) ⊎ ((cursor < from) × (from ≤ lo) × StandsAt rows view from) → CanBegin from
  begin_at lo from less clear found = elim found [
    | inl same ↦
        record {
          items = rest;
          above = omega arith;
          tracks = subst (λ p. Tracks rows view rest p end) (sym same) track;
          has_gone = subst (HasGone rows view now next g vs first) (sym same) gone;
          are_carded = subst (AreCarded rows view g vs layout now_set first) (sym same) carded;
        }
    | inr (up, within, stands) ↦
        let o = stands-item rows view heap held from stands in
        let j = item_at rows (word_of view) from in
        let (more, t) = track_from rows view heap held rest cursor end from track j o.listed o.at (omega arith)
        (omega arith) in
        let p = passed from (omega arith) (omega arith) (λ a lo_a hi_a. clear a lo_a (omega arith))
        (λ i l lo_i hi_i. (let at = o.at in let e = ends_before rows view heap held i j l o.listed (omega arith) in
        omega arith)) in
        record { items = more; above = omega arith; tracks = t; has_gone = p.0; are_carded = p.1 }
  ]

  -- at the end all has gone
  pub all_passed : AreClear now_set cursor end
      → HasGone rows view now next g vs first end × AreCarded rows view g vs layout now_set first end
  all_passed clear =
      passed end (track_order rows view rest cursor end track) (omega arith) clear
      (λ i l lo_i hi_i. on_track rows view heap held rest cursor end track i l lo_i hi_i)

-- what an entry names stands, where entries are sound further up
pub entry_stands : (rows : List TypeRow) (view : HeapView) (entry : ℕ → ℤ) (first end lo from cursor : ℕ) → lo < end
    → AreEntriesSound rows view entry first end
    → (from ≡ cursor) ⊎ ((cursor < from) × (from ≤ lo) × IsEntryPlace entry (first / 4096) (lo / 4096) from)
    → (from ≡ cursor) ⊎ ((cursor < from) × (from ≤ lo) × StandsAt rows view from)
entry_stands rows view entry first end lo from cursor less sound found = elim found [
  | inl same ↦ inl same
  | inr (up, within, named) ↦
      let high = named.below in
      inr (
        up,
        within,
        sound from (record {
          brick = named.brick;
          offset = named.offset;
          above = named.above;
          below = omega arith;
          root = named.root;
          at = named.at;
        }),
      )
]

-- a stretch that begins further up
pub sub_ahead : (view now next : HeapView) (g : Condemned) (vs : List Move) (rows : List TypeRow) (first end from : ℕ)
    → first ≤ from → IsAhead view now g vs first end → HasGone rows view now next g vs first from
    → IsAhead view next g vs from end
sub_ahead view now next g vs rows first end from low ahead gone = record {
  kept = λ b z lo hi. ahead.kept b z (omega arith) hi;
  untouched = λ b z lo hi. gone.others b z (inr lo) ∙ ahead.untouched b z (omega arith) hi;
}
