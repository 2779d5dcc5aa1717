-- References that name nothing count as relocated.
use Rattle.std.proofs.Common.{◌≡◌, inl, inr, ◌⊎◌, ℕ, zero, suc, ◌+◌, ◌-◌, ◌*◌, ◌^◌, ◌<◌, ◌≤◌, false, List}
use Rattle.std.proofs.Common.{ap, subst, arith, leb, ltb}
use Rattle.std.proofs.lemmas.Bool.{and_parts, cases_lt, ltb-true}
use Rattle.clr_types.specs.Descriptors.{offsets_from}
use Rattle.clr_types.specs.Segments.{ephemeral, first_place, generation, reserved_end, stands_in}
use Rattle.clr_types.specs.Types.{TypeRow}
use Rattle.clr_types.specs.declared.segment.SegInfo.{SegInfo}
use Rattle.clr_covers.specs.Covers.{CoverView}
use Rattle.clr_heap.specs.View.{frame, HeapView, IsHeap, may_refer, word_of}
use Rattle.clr_heap.proofs.Framing.{below_top_at}
use Rattle.clr_heap.proofs.Rewrite.{shaped_heap}
use Rattle.clr_heap.proofs.Young.{young_number}
use Rattle.clr_mark.proofs.RunMeetings.{null_word}
use Rattle.clr_model.specs.Compaction.{Move, moved_by}
use Rattle.clr_moves.specs.Moves.{age_of}
use Rattle.clr_moves.specs.declared.condemned.Condemned.{Condemned}
use Rattle.clr_moves.specs.declared.planned.Planned.{Planned}
use Rattle.clr_moves.specs.declared.stretch.Stretch.{Stretch}
use Rattle.clr_moves.proofs.PlacesInPlugs.{none_at_zero, outside_stays}
use Rattle.clr_pinq.specs.Queue.{QueueView}
use Rattle.clr_pinq.specs.declared.entry.PinEntry.{PinEntry}
use Rattle.clr_plugs.specs.BrickEntries.{BricksView}
use Rattle.clr_reloc.specs.References.{references_of}
use Rattle.clr_reloc.specs.Relocated.{rebounded}
use Rattle.clr_reloc.specs.Relocating.{IsRelocating, IsSlotAhead}
use Rattle.clr_reloc.specs.Resting.{NamesNothing}
use Rattle.clr_reloc.specs.declared.relocation.LeftObject.{LeftObject}
use Rattle.clr_reloc.specs.declared.relocation.Relocation.{Relocation}
use Rattle.clr_reloc.proofs.Nulls.{null_oldest}
use Rattle.clr_reloc.proofs.ObjectLoops.{HasPassed}
use Rattle.clr_reloc.proofs.RestingWords.{run_stays, young_from}
use Rattle.clr_reloc.proofs.Stores.{slot_told}

-- what can't be a reference is null or above all places
no_reference : (x : ℕ) → may_refer x ≡ false → (x ≡ 0) ⊎ (2 ^ 64 - 1 ≤ x)
no_reference x off = elim (cases_lt x (2 ^ 64 - 1)) [
  | inl low ↦ inl (null_word x off low)
  | inr high ↦ inr high
]

-- above all places nothing is of a lower generation
high_oldest : (h : HeapView) → IsHeap h → (planned : Planned) (x age : ℕ) → age ≤ 2 → 2 ^ 62 ≤ x
    → generation (rebounded (frame h) planned) x < age → ⊥
high_oldest h heap planned x age most high less =
    let s = ephemeral (frame h) in
    let stands = (young_from (stands_in s x) x planned.start1 planned.start0 age less most).0 in
    let under = ltb-true x (reserved_end s) (and_parts (leb (first_place s) x) (ltb x (reserved_end s)) stands).1 in
    let one = heap.one_ephemeral in
    let (k, l, is) = young_number h.segments (omega (arith, one)) in
    let end = ap (λ (t : SegInfo). reserved_end t) is in
    let below = below_top_at h k heap l in
    let small = heap.top_small in
    omega (arith, high, under, end, below, small)

-- what can't be a reference is as old as any
nothing_oldest : (h : HeapView) → IsHeap h → (planned : Planned) (x age : ℕ) → age ≤ 2 → may_refer x ≡ false
    → generation (rebounded (frame h) planned) x < age → ⊥
nothing_oldest h heap planned x age most off less = elim (no_reference x off) [
  | inl null ↦ null_oldest (rebounded (frame h) planned) age most
      (subst (λ (y : ℕ). generation (rebounded (frame h) planned) y < age) null less)
  | inr high ↦ high_oldest h heap planned x age most (omega (arith, high)) less
]

-- and it stays
nothing_stays : (rows : List TypeRow) (view now h : HeapView) (bricks : BricksView) (entries : List PinEntry)
    (g : Condemned) (vs : List Move) (start1 start0 : ℕ)
    → IsRelocating rows view now h bricks entries g vs start1 start0 → (a : ℕ) → IsSlotAhead rows view now g vs a
    → age_of g ≤ 2 → (x : ℕ) → may_refer x ≡ false → x ≡ moved_by vs x
nothing_stays rows view now h bricks entries g vs start1 start0 r a s least x off =
    let told = slot_told rows view now h bricks entries g vs start1 start0 r a s least in
    let heap = shaped_heap now h told.overlaid.shape told.overlaid.heap in
    outside_stays rows h bricks g vs heap told.told x (λ t i. elim (no_reference x off) [
      | inl null ↦ none_at_zero rows now h bricks entries g vs start1 start0 heap told x null t i
      | inr high ↦
          let under = i.high in
          let below = below_top_at h t heap i.in_range in
          let small = heap.top_small in
          omega (arith, high, under, below, small)
    ])

module _ (work : Relocation) (object : LeftObject) (h : HeapView) (pins : QueueView) (cards : List (CoverView ℕ))
    (last : Stretch) (after : HeapView) (queue : QueueView) (flags : List (CoverView ℕ)) (near : Stretch)
    (age_is : object.age ≡ generation (rebounded (frame h) work.planned) object.to) (most : object.age ≤ 2)
    (least : age_of work.g ≤ 2) where
  -- references that name nothing, side by side, are relocated
  pub all_empty : (offset count : ℕ) → references_of work.types.now object.found ≡ offsets_from offset count
      → (at n : ℕ) → at + n ≤ count
      → HasPassed work object h pins cards last after queue flags near (offsets_from offset at)
      → ((i : ℕ) → at ≤ i → i < at + n → NamesNothing after queue.entries (object.found.place + (offset + 8 * i)))
      → HasPassed work object h pins cards last after queue flags near (offsets_from offset (at + n))
  all_empty offset count all at zero l passed nothing =
      let e : at ≡ at + 0 = omega arith in
      subst (λ m. HasPassed work object h pins cards last after queue flags near (offsets_from offset m)) e passed
  all_empty offset count all at (suc n) l passed nothing =
      let before = all_empty offset count all at n (omega (arith, l)) passed
      (λ i low k. nothing i low (omega (arith, k))) in
      let here = nothing (at + n) (omega arith) (omega arith) in
      let a = object.found.place + (offset + 8 * (at + n)) in
      let more = run_stays work object h pins cards last after queue flags near age_is least offset count all (at + n)
      (omega (arith, l)) before here.plain
      (λ view next vs r s. (
        nothing_stays work.types.now view next after work.bricks.now queue.entries work.g vs work.planned.start1
            work.planned.start0 r a s least (word_of after a) here.none,
        λ less. absurd (nothing_oldest after (shaped_heap view after r.shape r.begun.plan.overlaid.heap) work.planned
            (word_of after a) object.age most here.none less),
      )) in
      let e : at + n + 1 ≡ at + suc n = omega arith in
      subst (λ m. HasPassed work object h pins cards last after queue flags near (offsets_from offset m)) e more
