-- A machine with other handles, and the entries of bricks that a plan remembers.
use Rattle.std.proofs.Common.{◌≡◌, ℕ, ◌-◌, ◌/◌, Bool, true, ◌&&◌, List, ap, sym, arith, filter}
use Rattle.std.proofs.Common.{subst, ℤ}
use Rattle.std.proofs.lemmas.Bool.{and_parts, leb-true}
use Rattle.std.specs.FinMap.{FinMap}
use Rattle.std.specs.Ordering.{nat_cmp}
use Rattle.clr_types.specs.Rising.{IsIn, sorted_by}
use Rattle.clr_types.specs.Segments.{ephemeral, generation, Layout}
use Rattle.clr_types.specs.Types.{TypeRow}
use Rattle.clr_types.specs.declared.handle.Handle.{Handle}
use Rattle.clr_types.proofs.ChangedLists.{out_of_filter}
use Rattle.clr_types.proofs.ListMembers.{map-on}
use Rattle.clr_bricks.specs.Bricks.{entry_at}
use Rattle.clr_generations.specs.Laws.{BrickLaw}
use Rattle.clr_heap.specs.View.{frame, HeapView, IsHeap, segment_at}
use Rattle.clr_model.specs.Lawful.{IsLaid}
use Rattle.clr_model.specs.Machine.{Machine, Object}
use Rattle.clr_model.specs.Sweep.{is_condemned, Survivor, survivor, survivors}
use Rattle.clr_view.specs.Memory.{IsMemoryOf}
use Rattle.clr_view.specs.View.{IsHeld, objects_in}
use Rattle.clr_view.proofs.LeftNames.{name-is-place}
use Rattle.clr_moves.specs.Moves.{age_of, part_of}
use Rattle.clr_moves.specs.Objects.{AreRemembered, IsUntouched}
use Rattle.clr_moves.specs.Overlaid.{IsLaidBy}
use Rattle.clr_moves.specs.declared.condemned.Condemned.{Condemned}
use Rattle.clr_pinq.specs.declared.entry.PinEntry.{PinEntry}
use Rattle.clr_plan.specs.Planned.{HasPlanned}
use Rattle.clr_plugs.specs.BrickEntries.{BricksView}
use Rattle.clr_survivors.specs.Condemned.{condemned_from}
use Rattle.clr_survivors.specs.Pins.{HasPins}
use Rattle.clr_survivors.proofs.ItemsOf.{place-high}
use Rattle.clr_survivors.proofs.PartsAbove.{young-above}
use Rattle.clr_survivors.proofs.PinnedFrom.{pins-above, table_from}
use Rattle.clr_moves.specs.declared.condemned.Condemned.TheVariants.{Generations}

-- the machine with this table of handles
abbrev pub with_handles : Machine → FinMap nat_cmp Handle → Machine
with_handles m table = record m { handles = table }

pub memory-with : (rows : List TypeRow) (h : HeapView) (m : Machine) (table : FinMap nat_cmp Handle)
    → IsMemoryOf rows h m → IsMemoryOf rows h (with_handles m table)
memory-with rows h m table memory = record {
  types = memory.types;
  objects = memory.objects;
  layout = memory.layout;
}

pub laid-with : (m : Machine) (table : FinMap nat_cmp Handle) → IsLaid m → IsLaid (with_handles m table)
laid-with m table laid = record {
  layout = laid.layout;
  housed = laid.housed;
  tiled = laid.tiled;
  whole1 = laid.whole1;
  whole0 = laid.whole0;
}

-- what is condemned is pinned as before where handles name nothing below it any more
pub survivors-from : (rows : List TypeRow) (h : HeapView) (g : ℕ) → IsHeap h → IsHeld rows h → (m : Machine)
    (kept : ℕ → Bool) → IsMemoryOf rows h m
    → survivors (with_handles m (table_from (condemned_from h g) m.handles)) g kept ≡ survivors m g kept
survivors-from rows h g heap held m kept memory =
    ap (sorted_by (λ (s : Survivor). s.place)) (map-on (survivor other) (survivor m) (filter condemned m.objects) same)
  where
    other : Machine
    other = with_handles m (table_from (condemned_from h g) m.handles)

    condemned : Object → Bool
    condemned o = is_condemned m g o && kept o.name

    same : (o : Object) → IsIn o (filter condemned m.objects) → survivor other o ≡ survivor m o
    same o i =
        let (passes, there) = out_of_filter condemned o m.objects i in
        let n = subst (λ (os : List Object). IsIn o os) memory.objects there in
        let young = leb-true (generation m.layout o.place) g (and_parts (is_condemned m g o) (kept o.name) passes).0 in
        let age = ap (λ (l : Layout). generation l o.place) memory.layout in
        let up = (place-high rows h heap held o n).0 in
        let name = name-is-place rows h o n in
        let high = young-above h g o.place (omega (arith, up)) (omega (arith, young, age)) in
        ap (λ (b : Bool). record (survivor m o) { pinned = b })
        (pins-above (condemned_from h g) o.name (omega (arith, up, name)) (omega (arith, high, name)) m.handles)

-- so what is planned for the one machine is planned for the other
pub planned-from : (rows : List TypeRow) (h new : HeapView) (bricks : BricksView) (entries : List PinEntry)
    (g : Condemned) (m : Machine) (table : FinMap nat_cmp Handle) (kept : ℕ → Bool) (start1 start0 : ℕ)
    → survivors (with_handles m table) (age_of g) kept ≡ survivors m (age_of g) kept
    → HasPlanned rows h new bricks entries g (with_handles m table) kept start1 start0
    → HasPlanned rows h new bricks entries g m kept start1 start0
planned-from rows h new bricks entries g m table kept start1 start0 same p =
    let c = p.compaction in
    record {
      moves = p.moves;
      after = p.after;
      compaction = record {
        memory = record { types = c.memory.types; objects = c.memory.objects; layout = c.memory.layout };
        laid = record {
          layout = c.laid.layout;
          housed = c.laid.housed;
          tiled = c.laid.tiled;
          whole1 = c.laid.whole1;
          whole0 = c.laid.whole0;
        };
        tests = c.tests;
        compacted = subst (λ (ss : List Survivor). IsLaidBy g m.layout ss p.moves p.after) same c.compacted;
      };
      start1_is = p.start1_is;
      start0_is = p.start0_is;
      overlaid = p.overlaid;
      told = p.told;
      gaps = p.gaps;
    }

module _ (rows : List TypeRow) (old new : HeapView) (table : FinMap nat_cmp Handle) (low : ℕ)
    (pins : HasPins rows old new table low 65536 true) (before bricks : BricksView) (g : ℕ) where
  pub remembered-entries : BrickLaw rows (frame old) (objects_in rows old) (entry_at before) → (below first : ℤ)
      → ((i : ℕ) → IsUntouched new (Generations g) i → entry_at bricks i ≡ entry_at before i)
      → ((e : ℕ) → segment_at new e ≡ ephemeral (frame new)
      → below ≡ entry_at before (part_of new (Generations g) e / 4096 - 1))
      → ((e : ℕ) → segment_at new e ≡ ephemeral (frame new)
      → first ≡ entry_at before (part_of new (Generations g) e / 4096))
      → AreRemembered rows new bricks (Generations g) (entry_at before) below first
  remembered-entries law below first others below_is first_is = record {
    law = subst (λ (l : Layout). BrickLaw rows l (objects_in rows new) (entry_at before))
        (sym (ap frame pins.shape.others))
        (subst (λ (os : List Object). BrickLaw rows (frame old) os (entry_at before)) (sym pins.objects) law);
    others = others;
    below_is = λ e is within. below_is e is;
    first_is = λ e is within. first_is e is;
  }
