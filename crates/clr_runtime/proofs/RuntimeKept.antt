-- What holds of the parts of a runtime, and what of them after a line.
use Rattle.std.proofs.Common.{◌≡◌, ◌∙◌, ℕ, ◌+◌, ◌<◌, ◌≤◌, ◌^◌, List, length, slice_set, subst, sym, arith, refl}
use Rattle.std.proofs.Common.{Bool, true, false, if◌then◌else◌}
use Rattle.std.specs.FinMap.{FinMap}
use Rattle.std.specs.Ordering.{nat_cmp}
use Rattle.clr_types.specs.declared.handle.Handle.{Handle}
use Rattle.clr_types.proofs.ChangedLists.{length-slice_set}
use Rattle.clr_final.specs.Queues.{Queues}
use Rattle.clr_heap.specs.View.{HeapView}
use Rattle.clr_view.specs.Clean.{AreClean}
use Rattle.clr_view.specs.Marks.{IsUnmarked}
use Rattle.clr_safe.specs.Threads.{Threads}
use Rattle.clr_runtime.specs.Shown.{Ahead, shown}
use Rattle.clr_view.specs.View.{AreFreeHeads, IsHeld}
use Rattle.clr_view.specs.World.{World}
use Rattle.clr_model.specs.Instructions.{Instruction}
use Rattle.clr_model.specs.Machine.{Machine, Options, Sums}
use Rattle.clr_model.specs.Outcomes.{Outcome}
use Rattle.clr_model.specs.Run.{Follows}
use Rattle.clr_model.proofs.PieceBytes.{sums_bounded}
use Rattle.clr_model.proofs.SeenStands.{follows_sound}
use Rattle.clr_runtime.specs.RuntimeView.{IsRuntime, IsShown}
use Rattle.clr_runtime.specs.declared.parts.Parts.{Parts}
use Rattle.clr_background.proofs.Changes.{IsUsualLine}
use Rattle.clr_model.specs.Lawful.{IsPlaceNamed}
use Rattle.clr_runtime.proofs.MarkedKept.{is_quiet, quiet_marked, same_marked}
use Rattle.clr_runtime.proofs.MarkedStores.{IsCardLogged, IsStoredAt, logged-shown, logged_ahead, stored_marked}
use Rattle.clr_runtime.proofs.MarkedStores.{with_slot_logged}

module _ {w : World} {sums : Sums} {options : Options} {threads : Threads} {ahead : Ahead}
    (is : IsShown w sums options threads ahead) where
  abbrev s : Machine
  s = shown w sums options threads ahead

  -- the bytes that were born stay a word: they are within the limit
  pub spent_fits : (size : ℕ) → size ≤ 1073741824 → sums.spent0 + size < 2 ^ 64
  spent_fits size most =
      let within = (sums_bounded s is.sound.lawful).spent0 in
      let limit = is.sound.lawful.options.limit_greatest in
      omega (arith, within, limit, most)

  -- so do those of large objects
  pub spent_large_fits : (size : ℕ) → size ≤ 1073741824 → sums.spent_large + size < 2 ^ 64
  spent_large_fits size most =
      let within = (sums_bounded s is.sound.lawful).spent_large in
      let limit = is.sound.lawful.options.limit_greatest in
      omega (arith, within, limit, most)

  -- a small object has no more bytes than any
  pub small_enough : (size : ℕ) → size < options.large → size ≤ 1073741824
  small_enough size small =
      let large = is.sound.lawful.options.large_greatest in
      let segment = is.sound.lawful.options.segment_greatest in
      omega (arith, small, large, segment)

  -- whatever names objects has changed, and the heap stayed
  pub names_kept : (i : Instruction) (outcome : Outcome) (locals : List ℕ) (handles : FinMap nat_cmp Handle)
      (entries ready : List ℕ) → length locals ≡ 1024
      → Follows s i outcome
      (shown
      (record w { locals = locals; handles = handles; entries = entries; ready = ready }) sums options threads ahead)
      → IsShown
      (record w { locals = locals; handles = handles; entries = entries; ready = ready }) sums options threads ahead
  names_kept i outcome locals handles entries ready count follows = record {
    locals = count;
    held = is.held;
    unmarked = is.unmarked;
    free_heads = is.free_heads;
    clean = is.clean;
    sound = follows_sound s i outcome _ is.sound follows;
    marked = same_marked s
        (shown (record w { locals = locals; handles = handles; entries = entries; ready = ready }) sums options threads
        ahead) refl refl refl ahead.background is.marked;
  }

  -- a local was written
  pub local_kept : (i : Instruction) (outcome : Outcome) (j v : ℕ)
      → Follows s i outcome (shown (record w { locals = slice_set w.locals j v }) sums options threads ahead)
      → IsShown (record w { locals = slice_set w.locals j v }) sums options threads ahead
  local_kept i outcome j v =
      names_kept i outcome (slice_set w.locals j v) w.handles w.entries w.ready
      (length-slice_set w.locals j v ∙ is.locals)

  -- room was made in the finalisation queue, whose places stayed
  module _ (entries ready : List ℕ) (same : entries ≡ w.entries) (waiting : ready ≡ w.ready) where
    same-world : w ≡ record w { entries = entries; ready = ready }
    same-world = λ k. record w { entries = sym same k; ready = sym waiting k }

    pub room_follows : (i : Instruction) (outcome : Outcome) → Follows s i outcome (shown w sums options threads ahead)
        → Follows s i outcome (shown (record w { entries = entries; ready = ready }) sums options threads ahead)
    room_follows i outcome = subst (λ (v : World). Follows s i outcome (shown v sums options threads ahead)) same-world

    -- a line that goes on from there goes on from before
    pub follows_reserved : (i : Instruction) (outcome : Outcome) (new : Machine)
        → Follows (shown (record w { entries = entries; ready = ready }) sums options threads ahead) i outcome new
        → Follows (shown w sums options threads ahead) i outcome new
    follows_reserved i outcome new =
        subst (λ (v : World). Follows (shown v sums options threads ahead) i outcome new) (sym same-world)

    pub room_kept : IsShown (record w { entries = entries; ready = ready }) sums options threads ahead
    room_kept = subst (λ (v : World). IsShown v sums options threads ahead) same-world is

  -- words of objects were written, and no store was completed
  pub heap_kept : (i : Instruction) (outcome : Outcome) → is_quiet i ≡ true → (new : HeapView) → IsHeld w.rows new
      → (IsUnmarked w.rows w.heap → IsUnmarked w.rows new) → (AreFreeHeads w.rows w.heap → AreFreeHeads w.rows new)
      → (AreClean w.rows w.heap → AreClean w.rows new)
      → Follows s i outcome (shown (record w { heap = new }) sums options threads ahead)
      → IsShown (record w { heap = new }) sums options threads ahead
  heap_kept i outcome quiet new held unmarked heads clean follows = record {
    locals = is.locals;
    held = held;
    unmarked = unmarked is.unmarked;
    free_heads = heads is.free_heads;
    clean = clean is.clean;
    sound = follows_sound s i outcome (shown (record w { heap = new }) sums options threads ahead) is.sound follows;
    marked = quiet_marked s i outcome (shown (record w { heap = new }) sums options threads ahead) is.sound quiet
        follows ahead.background refl refl is.marked;
  }

  -- a reference was written into a slot, and a background collection was told of it
  pub stored_kept : (i : Instruction) (outcome : Outcome) (new : HeapView) (slot : ℕ) → IsUsualLine i
      → IsHeld w.rows new
      → (IsUnmarked w.rows w.heap → IsUnmarked w.rows new) → (AreFreeHeads w.rows w.heap → AreFreeHeads w.rows new)
      → (AreClean w.rows w.heap → AreClean w.rows new) → IsStoredAt s i slot → IsCardLogged ahead.background slot
      → Follows s i outcome (shown (record w { heap = new }) sums options threads ahead)
      → IsShown (record w { heap = new }) sums options threads (logged_ahead ahead slot)
  stored_kept i outcome new slot line held unmarked heads clean stored logged follows =
      let after = shown (record w { heap = new }) sums options threads ahead in
      record {
        locals = is.locals;
        held = held;
        unmarked = unmarked is.unmarked;
        free_heads = heads is.free_heads;
        clean = clean is.clean;
        sound = subst IsPlaceNamed (sym (logged-shown (record w { heap = new }) sums options threads ahead slot))
            (follows_sound s i outcome after is.sound follows);
        marked = λ running.
            same_marked after (shown (record w { heap = new }) sums options threads (logged_ahead ahead slot)) refl refl
            refl (with_slot_logged ahead.background slot)
            (stored_marked s i outcome after is.sound line follows ahead.background slot stored logged refl refl
            is.marked) running;
      }

-- There is still room for the entries that are owed, where there was one more for the one that was taken.
pub owed_left : (wanted : Bool) (owed spare left : ℕ) → (wanted ≡ true → owed + 1 ≤ spare) → owed ≤ spare
    → left + (if wanted then 1 else 0) ≡ spare → owed ≤ left
owed_left true owed spare left more within taken = let entry = more refl in omega (arith, entry, taken)
owed_left false owed spare left more within taken = omega (arith, within, taken)

-- room was made for entries in the finalisation queue of a runtime
pub reserved_kept : (p : Parts) (finals : Queues) → finals.entries ≡ p.roots.finals.entries
    → finals.ready ≡ p.roots.finals.ready
    → p.roots.finals.spare ≤ finals.spare → IsRuntime p
    → IsRuntime (record p { roots = record p.roots { finals = finals } })
reserved_kept p finals same waiting more is = record {
  shown = room_kept is.shown finals.entries finals.ready same waiting;
  heap = is.heap;
  tables = is.tables;
  owed = let owed = is.owed in omega (arith, owed, more);
  finalizers = is.finalizers;
  index = is.index;
  large = is.large;
  pinned = is.pinned;
  limit = is.limit;
  ready = is.ready;
}
