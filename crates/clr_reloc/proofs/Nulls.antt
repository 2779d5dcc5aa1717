-- References that are null.
use Rattle.std.proofs.Common.{◌≡◌, inl, inr, ℕ, ◌+◌, ◌<◌, ◌≤◌, Bool, List, sym, ◌∙◌, arith, ◌&&◌, nat_le}
use Rattle.std.proofs.Common.{if◌then◌else◌, nat_lt}
use Rattle.std.proofs.lemmas.Bool.{cases_Bool, leb-true}
use Rattle.clr_types.specs.Segments.{ephemeral, generation, Layout, reserved_end}
use Rattle.clr_types.specs.Types.{TypeRow}
use Rattle.clr_heap.specs.View.{HeapView, word_of}
use Rattle.clr_heap.proofs.Rewrite.{shaped_heap}
use Rattle.clr_model.specs.Compaction.{Move, moved_by}
use Rattle.clr_plugs.specs.BrickEntries.{BricksView}
use Rattle.clr_pinq.specs.Queue.{logical}
use Rattle.clr_pinq.specs.declared.entry.PinEntry.{PinEntry}
use Rattle.clr_moves.specs.declared.condemned.Condemned.{Condemned}
use Rattle.clr_moves.specs.Moves.{age_of}
use Rattle.clr_moves.proofs.PlacesInPlugs.{none_at_zero, outside_stays}
use Rattle.clr_reloc.specs.Relocating.{IsRelocating, IsSlotAhead}
use Rattle.clr_reloc.proofs.Stores.{slot_told, slot_word_is}

-- no segment has an object at the place 0, so it is as old as any
none_at : (base : ℕ) (high b c : Bool) (age : ℕ) → age ≤ 2
    → (if nat_le (base + 0x1000) 0 && high then (if b then 2 else (if c then 1 else 0)) else 2) < age → ⊥
none_at base high b c age most less = elim (cases_Bool (nat_le (base + 0x1000) 0)) [
  | inl on ↦ let low = leb-true (base + 0x1000) 0 on in omega (arith, low)
  | inr off ↦ let old : 2 < age = rw off at less in omega (arith, most, old)
]

pub null_oldest : (layout : Layout) (age : ℕ) → age ≤ 2 → generation layout 0 < age → ⊥
null_oldest layout age most less =
    none_at (ephemeral layout).base (nat_lt 0 (reserved_end (ephemeral layout))) (nat_lt 0 layout.start1)
    (nat_lt 0 layout.start0) age most less

-- a reference that is null stays so
pub null_stays : (rows : List TypeRow) (view now h : HeapView) (bricks : BricksView) (entries : List PinEntry)
    (g : Condemned) (vs : List Move) (start1 start0 : ℕ)
    → IsRelocating rows view now h bricks entries g vs start1 start0 → (a : ℕ) → IsSlotAhead rows view now g vs a
    → age_of g ≤ 2 → logical entries (word_of h) a ≡ 0 → word_of view a ≡ moved_by vs (word_of view a)
null_stays rows view now h bricks entries g vs start1 start0 r a s least none =
    let told = slot_told rows view now h bricks entries g vs start1 start0 r a s least in
    let heap = shaped_heap now h told.overlaid.shape told.overlaid.heap in
    let null : word_of view a ≡ 0 =
    sym (slot_word_is rows view now h bricks entries g vs start1 start0 r a s least) ∙ none in
    outside_stays rows h bricks g vs heap told.told (word_of view a)
    (none_at_zero rows now h bricks entries g vs start1 start0 heap told (word_of view a) null)
