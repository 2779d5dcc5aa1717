-- The lines that work on a slot, on what is seen.
use Rattle.std.proofs.Common.{◌≡◌, ℕ, ◌<◌, ◌^◌, [], ◌∷◌, refl, sym, ap, subst, ◌∙◌, slice_set, Bool, true, false}
use Rattle.std.proofs.Common.{Some, None}
use Rattle.std.specs.Prelude.{slice_get, Err}
use Rattle.clr_types.specs.Types.{form_at}
use Rattle.clr_types.specs.declared.item.Item.{Item}
use Rattle.clr_types.specs.declared.shape.Slot.{Slot}
use Rattle.clr_heap.specs.View.{HeapView, word_of}
use Rattle.clr_safe.specs.Threads.{Threads}
use Rattle.clr_runtime.specs.Shown.{Ahead, shown}
use Rattle.clr_view.specs.View.{HasStored, object_in, word_value}
use Rattle.clr_view.specs.World.{World}
use Rattle.clr_view.proofs.SlotReads.{slot-kind}
use Rattle.clr_model.specs.declared.Refusal.{Refusal}
use Rattle.clr_model.specs.declared.Reply.TheVariants.{Done, Number, Place}
use Rattle.clr_model.specs.Instructions.{get_slot, put_number, read_number, set_slot}
use Rattle.clr_model.specs.Lookups.{local_index, local_of}
use Rattle.clr_model.specs.Machine.{Machine, num, Options, ref, Sums, Value}
use Rattle.clr_model.specs.Outcomes.{answered, refused}
use Rattle.clr_model.specs.Run.{Follows}
use Rattle.clr_model.specs.Step.{stored_number}
use Rattle.clr_model.specs.Updates.{with_slot}
use Rattle.clr_model.proofs.LineFollows.{get_done, get_of, put_done, put_of, read_done, read_of, set_done, set_of}
use Rattle.clr_model.proofs.LineFollows.{SlotLine, WorksOn}
use Rattle.clr_runtime.specs.Checks.{names_refusal}
use Rattle.clr_runtime.specs.Slots.{HasItsSlot, IsFound}
use Rattle.clr_runtime.proofs.LocalLines.{local_written}
use Rattle.clr_runtime.proofs.NamesChecked.{names_passed, once}
use Rattle.clr_runtime.proofs.SlotsChecked.{slot_refused, works}

-- a value of the kind that is told
value-of : (b : Bool) (v : ℕ) (kind : Bool) → b ≡ kind → word_value b v ≡ word_value kind v
value-of b v kind e = ap (λ k. word_value k v) e

module _ (w : World) (sums : Sums) (options : Options) (threads : Threads) (ahead : Ahead) where
  abbrev s : Machine
  s = shown w sums options threads ahead

  -- the line is refused for the first check on the object and the slot that fails
  pub refused_slot : (l : SlotLine) (place : ℕ) → names_refusal s l.thread l.locals ≡ None
      → place ≡ local_of s l.thread l.object → (r : Refusal) → IsFound w.rows w.heap place l.index l.wants (Err r)
      → Follows s l.instruction (refused r) s
  refused_slot l place passed at r fails =
      let (run, locals) = names_passed s l.thread l.locals passed in
      slot_refused w.rows w.heap s refl l run locals place at r fails

  module _ (t place index : ℕ) (i : Item) (slot : Slot) (has : HasItsSlot w.rows w.heap place index i slot) where
    -- the line works on the object that has the slot
    pub on : (l : SlotLine) → names_refusal s l.thread l.locals ≡ None → place ≡ local_of s l.thread l.object
        → WorksOn s l (object_in w.rows (word_of w.heap) i)
    on l passed at =
        let (run, locals) = names_passed s l.thread l.locals passed in
        works w.rows w.heap s refl l run locals place at i has.some has.object

    -- `get`
    pub got : (to from j v : ℕ) → names_refusal s t (to ∷ from ∷ []) ≡ None → place ≡ local_of s t from
        → slot.reference ≡ true
        → slice_get (object_in w.rows (word_of w.heap) i).slots index ≡ Some (word_value slot.reference v)
        → j ≡ local_index t to
        → Follows s (get_slot t to from index) (answered (Place v))
        (shown (record w { locals = slice_set w.locals j v }) sums options threads ahead)
    got to from j v passed at kind e written =
        local_written s (get_slot t to from index) (answered (Place v)) t to v j written
        (get_done s t to from index (object_in w.rows (word_of w.heap) i) (on (get_of t to from index) passed at) v
        (e ∙ ap (λ (x : Value). Some x) (value-of slot.reference v true kind)))

    -- `read`
    pub was_read : (from v : ℕ) → names_refusal s t (from ∷ from ∷ []) ≡ None → place ≡ local_of s t from
        → slot.reference ≡ false
        → slice_get (object_in w.rows (word_of w.heap) i).slots index ≡ Some (word_value slot.reference v)
        → Follows s (read_number t from index) (answered (Number v)) s
    was_read from v passed at kind e =
        read_done s t from index (object_in w.rows (word_of w.heap) i)
        (on (read_of t from index) (once s t from None passed) at) v
        (e ∙ ap (λ (x : Value). Some x) (value-of slot.reference v false kind))

    -- ---- stores

    -- the slot is of this kind, whatever it holds
    pub kind-held : (kind : Bool) → slot.reference ≡ kind
        → (v : ℕ) × (slice_get (object_in w.rows (word_of w.heap) i).slots index ≡ Some (word_value kind v))
    kind-held kind e =
        let (v, held) = slot-kind w.rows (word_of w.heap) i index slot has.slot in
        (v, held ∙ ap (λ (x : Value). Some x) (value-of slot.reference v kind e))

    module _ (new : HeapView) where
      -- the machine that the heap shows, with another value in the slot
      pub stored-shown : (name v : ℕ) (kind : Bool) → i.place ≡ name → slot.reference ≡ kind
          → HasStored w.rows w.heap new i.place index (word_value slot.reference v)
          → with_slot s name index (word_value kind v) ≡ shown (record w { heap = new }) sums options threads ahead
      stored-shown name v kind there is stored =
          let objects = stored.objects in
          let layout = stored.layout in
          (λ k. with_slot s (sym there k) index (sym (value-of slot.reference v kind is) k))
          ∙ (λ k. record (shown (record w { heap = new }) sums options threads ahead) {
            objects = sym objects k;
            layout = sym layout k;
          })

      -- `set`
      pub was_set : (into from v : ℕ) → names_refusal s t (into ∷ from ∷ []) ≡ None → place ≡ local_of s t into
          → v ≡ local_of s t from → slot.reference ≡ true
          → HasStored w.rows w.heap new i.place index (word_value slot.reference v)
          → Follows s (set_slot t into index from) (answered Done)
          (shown (record w { heap = new }) sums options threads ahead)
      was_set into from v passed at is kind stored =
          let (name, held) = kind-held true kind in
          let after : with_slot s (local_of s t into) index (ref (local_of s t from))
          ≡ shown (record w { heap = new }) sums options threads ahead =
          ap (λ n. with_slot s (local_of s t into) index (ref n)) (sym is)
          ∙ stored-shown (local_of s t into) v true (has.object.at ∙ at) kind stored in
          subst (Follows s (set_slot t into index from) (answered Done)) after
          (set_done s t into index from (object_in w.rows (word_of w.heap) i)
          (on (set_of t into index from) passed at) name held)

      -- `put`
      pub was_put : (into value number : ℕ) → value < 2 ^ 64 → names_refusal s t (into ∷ into ∷ []) ≡ None
          → place ≡ local_of s t into → number ≡ stored_number (form_at w.rows i.type_id.0) value
          → slot.reference ≡ false → HasStored w.rows w.heap new i.place index (word_value slot.reference number)
          → Follows s (put_number t into index value) (answered Done)
          (shown (record w { heap = new }) sums options threads ahead)
      was_put into value number word passed at is kind stored =
          let (old, held) = kind-held false kind in
          let after : with_slot s (local_of s t into) index (num (stored_number (form_at w.rows i.type_id.0) value))
          ≡ shown (record w { heap = new }) sums options threads ahead =
          ap (λ n. with_slot s (local_of s t into) index (num n)) (sym is)
          ∙ stored-shown (local_of s t into) number false (has.object.at ∙ at) kind stored in
          subst (Follows s (put_number t into index value) (answered Done)) after
          (put_done s t into index value word (object_in w.rows (word_of w.heap) i)
          (on (put_of t into index value word) (once s t into None passed) at) old held)
