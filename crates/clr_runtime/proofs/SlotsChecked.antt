-- The checks of a line that works on a slot, as the heap answers them.
use Rattle.std.proofs.Common.{◌≡◌, ◌≢◌, ℕ, ◌≤◌, List, refl, sym, subst, ◌∙◌, Bool, true, false, if◌then◌else◌}
use Rattle.std.specs.Prelude.{Err}
use Rattle.clr_types.specs.Rising.{IsIn}
use Rattle.clr_types.specs.Types.{TypeRow}
use Rattle.clr_types.specs.declared.item.Item.{Item}
use Rattle.clr_types.proofs.ChangedLists.{into_filter, IsIn-map}
use Rattle.clr_heap.specs.View.{heap_items, HeapView, word_of}
use Rattle.clr_view.specs.View.{is_object, object_in, objects_in, word_value}
use Rattle.clr_view.specs.SlotValues.{IsObjectAt}
use Rattle.clr_view.proofs.SlotReads.{slot-kind, slots-counted}
use Rattle.clr_model.specs.declared.Refusal.{Refusal}
use Rattle.clr_model.specs.declared.Refusal.TheVariants.{Index, IsReference, NotReference, Null}
use Rattle.clr_model.specs.Lawful.{is_reference_value}
use Rattle.clr_model.specs.Lookups.{local_of}
use Rattle.clr_model.specs.Machine.{Machine, Object}
use Rattle.clr_model.specs.Outcomes.{refused}
use Rattle.clr_model.specs.Run.{Follows}
use Rattle.clr_model.proofs.LineChecks.{AreLocals, MayRun}
use Rattle.clr_model.proofs.LineFollows.{slot_follows_index, slot_follows_kind, slot_follows_null, SlotLine, WorksOn}
use Rattle.clr_runtime.specs.Slots.{HasOtherKind, IsFound, LacksSlot}

-- what a slot's kind says of its value
pub value-kind : (b : Bool) (v : ℕ) → is_reference_value (word_value b v) ≡ b
value-kind true v = refl
value-kind false v = refl

module _ (rows : List TypeRow) (h : HeapView) (s : Machine) (objects : s.objects ≡ objects_in rows h) (l : SlotLine)
    (run : MayRun s l.thread) (all : AreLocals l.locals) (place : ℕ) (at : place ≡ local_of s l.thread l.object) where
  abbrev object : Item → Object
  object i = object_in rows (word_of h) i

  -- the line works on the object that stands there
  pub works : (i : Item) → place ≢ 0 → IsObjectAt rows h place i → WorksOn s l (object i)
  works i some there = record {
    run = run;
    locals = all;
    some = λ null. some (at ∙ null);
    among = subst (λ (os : List Object). IsIn (object i) os) (sym objects)
        (IsIn-map (object_in rows (word_of h)) (into_filter is_object (heap_items rows h) there.object there.listed));
    at = there.at ∙ at;
  }

  -- the object has no such slot
  refused_index : LacksSlot rows h place l.index → Follows s l.instruction (refused Index) s
  refused_index lacks =
      let count = slots-counted rows (word_of h) lacks.item in
      let beyond = lacks.beyond in
      slot_follows_index s l (object lacks.item) (works lacks.item lacks.some lacks.object)
      (subst (λ n. n ≤ l.index) (sym count) beyond)

  -- or it is of the other kind
  refused_kind : HasOtherKind rows h place l.index l.wants
      → Follows s l.instruction (refused (if l.wants then NotReference else IsReference)) s
  refused_kind other =
      let there = other.there in
      let (v, e) = slot-kind rows (word_of h) other.item l.index other.slot there.slot in
      slot_follows_kind s l (object other.item) (works other.item there.some there.object)
      (word_value other.slot.reference v) e (value-kind other.slot.reference v ∙ other.other)

  -- the line is refused for the first check that fails
  pub slot_refused : (r : Refusal) → IsFound rows h place l.index l.wants (Err r)
      → Follows s l.instruction (refused r) s
  slot_refused Null null = slot_follows_null s l run all (sym at ∙ null)
  slot_refused Index lacks = refused_index lacks
  slot_refused NotReference (is, other) =
      subst (λ b. Follows s l.instruction (refused (if b then NotReference else IsReference)) s) is
      (refused_kind other)
  slot_refused IsReference (is, other) =
      subst (λ b. Follows s l.instruction (refused (if b then NotReference else IsReference)) s) is
      (refused_kind other)
  slot_refused _ none = absurd none
