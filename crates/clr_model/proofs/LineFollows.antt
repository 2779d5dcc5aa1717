-- Lines that read and write slots and locals: what is to follow from each refusal and from each success, on what is
-- seen.
use Rattle.std.proofs.Common.{◌≡◌, ◌≢◌, ℕ, ◌^◌, ◌<◌, ◌≤◌, List, [], ◌∷◌, length, refl, ap, subst, ◌∙◌, Bool, true}
use Rattle.std.proofs.Common.{false, if◌then◌else◌, not, Option, Some, None}
use Rattle.std.specs.Prelude.{slice_get}
use Rattle.clr_types.specs.Rising.{IsIn}
use Rattle.clr_types.specs.Types.{form_at}
use Rattle.clr_model.specs.declared.Refusal.{Refusal}
use Rattle.clr_model.specs.declared.Refusal.TheVariants.{UnknownThread, NoSlot, Null, Index, NotReference, IsReference}
use Rattle.clr_model.specs.declared.Reply.TheVariants.{Place, Number, Done}
use Rattle.clr_model.specs.Machine.{Value, ref, num, Object, Machine}
use Rattle.clr_model.specs.Lookups.{is_thread, object_named, local_of}
use Rattle.clr_model.specs.Updates.{with_local, with_slot}
use Rattle.clr_model.specs.Instructions.{Instruction, get_slot, set_slot, put_number, read_number, copy_local}
use Rattle.clr_model.specs.Instructions.{clear_local}
use Rattle.clr_model.specs.Checks.{is_reference_slot, first_of_all}
use Rattle.clr_model.specs.Outcomes.{Outcome, answered, refused}
use Rattle.clr_model.specs.Step.{Obeys, Does, stored_number}
use Rattle.clr_model.specs.Lawful.{IsPlaceNamed, is_reference_value}
use Rattle.clr_model.specs.Run.{Follows}
use Rattle.clr_model.proofs.Carried.{IsAlike, follows_alike, follows_if_stands}
use Rattle.clr_model.proofs.LineChecks.{MayRun, AreLocals, IsSlotLine, IsThreadLine, no_more, get_line, set_line}
use Rattle.clr_model.proofs.LineChecks.{put_line, read_line, copy_line, clear_line, line_refuses_thread, line_passes}
use Rattle.clr_model.proofs.LineChecks.{line_refuses_local, slot_refuses_null, slot_refuses_index, slot_refuses_kind}
use Rattle.clr_model.proofs.LineChecks.{read-within, get_obeys, set_obeys, put_obeys, read_obeys, copy_obeys}
use Rattle.clr_model.proofs.LineChecks.{clear_obeys, obeys_refusal, obeys_done}
use Rattle.clr_model.proofs.SlotLines.{get_alike, set_alike, put_alike, read_alike, copy_alike, clear_alike}
use Rattle.clr_model.proofs.SlotLines.{get_follows, set_follows, put_follows, read_follows, copy_follows, clear_follows}
use Rattle.clr_model.proofs.SeenSound.{seen_sound, found-at, place_of-seen, local-seen, slot-seen}

-- ---- lines of a thread

-- a line of a thread, with the locals that it names and what it is then checked by
pub record ThreadLine : Type 0 where
  pub instruction : Instruction
  pub thread : ℕ
  pub locals : List ℕ
  pub more : Machine → List (Option Refusal)
  pub line : IsThreadLine instruction thread locals more
  pub alike : IsAlike instruction

module _ (s : Machine) (l : ThreadLine) where
  -- a thread that there is not
  pub line_follows_thread : is_thread l.thread ≡ false → Follows s l.instruction (refused UnknownThread) s
  line_follows_thread none =
      follows_alike l.instruction l.alike s (refused UnknownThread) s
      (line_refuses_thread l.instruction l.thread l.locals l.more l.line s none)

  -- a local that there is not
  pub line_follows_local : MayRun s l.thread → (k : ℕ) → IsIn k l.locals → 64 ≤ k
      → Follows s l.instruction (refused NoSlot) s
  line_follows_local run k i high =
      follows_alike l.instruction l.alike s (refused NoSlot) s
      (line_refuses_local l.instruction l.thread l.locals l.more l.line s run k i high)

  module _ (run : MayRun s l.thread) (all : AreLocals l.locals) where
    -- another check that fails
    pub line_follows_check : (r : Refusal) → first_of_all (l.more s) ≡ Some r → Follows s l.instruction (refused r) s
    line_follows_check r e =
        follows_alike l.instruction l.alike s (refused r) s
        (obeys_refusal s l.instruction r
        (line_passes l.instruction l.thread l.locals l.more l.line s run all ∙ e))

    -- what the line does where none fails
    pub line_follows_done : first_of_all (l.more s) ≡ None → (outcome : Outcome) (after : Machine)
        → Does s l.instruction outcome after → Follows s l.instruction outcome after
    line_follows_done e outcome after does =
        follows_alike l.instruction l.alike s outcome after
        (obeys_done s l.instruction outcome after
        (line_passes l.instruction l.thread l.locals l.more l.line s run all ∙ e) does)

-- ---- lines that work on a slot

-- a line that works on a slot of the object of a local, which is to be a reference or a number
pub record SlotLine : Type 0 where
  pub instruction : Instruction
  pub thread : ℕ
  pub locals : List ℕ
  pub object : ℕ
  pub index : ℕ
  pub wants : Bool
  pub line : IsSlotLine instruction thread locals object index wants
  pub alike : IsAlike instruction

abbrev pub get_of : (t to from index : ℕ) → SlotLine
get_of t to from index = record {
  instruction = get_slot t to from index;
  thread = t;
  locals = to ∷ from ∷ [];
  object = from;
  index = index;
  wants = true;
  line = get_line t to from index;
  alike = get_alike t to from index;
}

abbrev pub set_of : (t into index from : ℕ) → SlotLine
set_of t into index from = record {
  instruction = set_slot t into index from;
  thread = t;
  locals = into ∷ from ∷ [];
  object = into;
  index = index;
  wants = true;
  line = set_line t into index from;
  alike = set_alike t into index from;
}

abbrev pub put_of : (t into index value : ℕ) → value < 2 ^ 64 → SlotLine
put_of t into index value word =
    record {
      instruction = put_number t into index value;
      thread = t;
      locals = into ∷ [];
      object = into;
      index = index;
      wants = false;
      line = put_line t into index value;
      alike = put_alike t into index value word;
    }

abbrev pub read_of : (t from index : ℕ) → SlotLine
read_of t from index = record {
  instruction = read_number t from index;
  thread = t;
  locals = from ∷ [];
  object = from;
  index = index;
  wants = false;
  line = read_line t from index;
  alike = read_alike t from index;
}

-- The line may run, its locals are there, and the one whose object it works on is the place of this object.
pub record WorksOn (s : Machine) (l : SlotLine) (o : Object) : Type 0 where
  pub run : MayRun s l.thread
  pub locals : AreLocals l.locals
  pub some : local_of s l.thread l.object ≢ 0
  pub among : IsIn o s.objects
  pub at : o.place ≡ local_of s l.thread l.object

module _ (s : Machine) (l : SlotLine) where
  by_checks : (r : Refusal) → Obeys s l.instruction (refused r) s → Follows s l.instruction (refused r) s
  by_checks r = follows_alike l.instruction l.alike s (refused r) s

  -- a local that is null
  pub slot_follows_null : MayRun s l.thread → AreLocals l.locals → local_of s l.thread l.object ≡ 0
      → Follows s l.instruction (refused Null) s
  slot_follows_null run locals null =
      by_checks Null (slot_refuses_null l.instruction l.thread l.locals l.object l.index l.wants l.line s run locals
      null)

  -- where what is seen is sound, the object is found
  found : IsPlaceNamed s → (o : Object) → WorksOn s l o → object_named s.objects (local_of s l.thread l.object) ≡ Some o
  found sound o w = found-at s sound o w.among (local_of s l.thread l.object) w.at

  -- a slot that the object doesn't have
  pub slot_follows_index : (o : Object) → WorksOn s l o → length o.slots ≤ l.index
      → Follows s l.instruction (refused Index) s
  slot_follows_index o w high =
      follows_if_stands s l.instruction (refused Index) s
      (λ m stands. by_checks Index (slot_refuses_index l.instruction l.thread l.locals l.object l.index l.wants l.line s
      w.run w.locals o w.some (found (seen_sound s m stands) o w) high))

  reference-value : (v : Value) → is_reference_slot (Some v) ≡ is_reference_value v
  reference-value (ref name) = refl
  reference-value (num n) = refl

  -- a slot of the other kind
  pub slot_follows_kind : (o : Object) → WorksOn s l o → (v : Value) → slice_get o.slots l.index ≡ Some v
      → is_reference_value v ≡ not l.wants
      → Follows s l.instruction (refused (if l.wants then NotReference else IsReference)) s
  slot_follows_kind o w v e kind =
      let r = if l.wants then NotReference else IsReference in
      follows_if_stands s l.instruction (refused r) s
      (λ m stands. by_checks r (slot_refuses_kind l.instruction l.thread l.locals l.object l.index l.wants l.line s
      w.run w.locals o w.some (found (seen_sound s m stands) o w) (read-within o.slots l.index v e)
      (ap is_reference_slot e ∙ reference-value v ∙ kind)))

module _ (s : Machine) (t : ℕ) where
  -- what a slot refers to goes into a local, and is the answer
  pub get_done : (to from index : ℕ) (o : Object) → WorksOn s (get_of t to from index) o → (name : ℕ)
      → slice_get o.slots index ≡ Some (ref name)
      → Follows s (get_slot t to from index) (answered (Place name)) (with_local s t to name)
  get_done to from index o w name e =
      follows_if_stands s (get_slot t to from index) (answered (Place name)) (with_local s t to name)
      (λ m stands.
      let sound = seen_sound s m stands in
      subst (λ n. Follows s (get_slot t to from index) (answered (Place n)) (with_local s t to name))
      (place_of-seen s sound name (slot-seen s sound o w.among index name e))
      (get_follows s t to from index _ _
      (get_obeys s t w.run to from index w.locals.0 w.locals.1.0 o w.some
      (found s (get_of t to from index) sound o w) name e)))

  -- a local goes into a slot of references
  pub set_done : (into index from : ℕ) (o : Object) → WorksOn s (set_of t into index from) o → (name : ℕ)
      → slice_get o.slots index ≡ Some (ref name)
      → Follows s (set_slot t into index from) (answered Done)
      (with_slot s (local_of s t into) index (ref (local_of s t from)))
  set_done into index from o w name e =
      follows_if_stands s (set_slot t into index from) _ _
      (λ m stands. set_follows s t into index from _ _
      (set_obeys s t w.run into index from w.locals.0 w.locals.1.0 o w.some
      (found s (set_of t into index from) (seen_sound s m stands) o w) name e))

  -- a number goes into a slot of numbers
  pub put_done : (into index value : ℕ) (word : value < 2 ^ 64) (o : Object)
      → WorksOn s (put_of t into index value word) o → (number : ℕ) → slice_get o.slots index ≡ Some (num number)
      → Follows s (put_number t into index value) (answered Done)
      (with_slot s (local_of s t into) index (num (stored_number (form_at s.types o.type) value)))
  put_done into index value word o w number e =
      follows_if_stands s (put_number t into index value) _ _
      (λ m stands. put_follows s t into index value word _ _
      (put_obeys s t w.run into index value w.locals.0 o w.some
      (found s (put_of t into index value word) (seen_sound s m stands) o w) number e))

  -- the number in a slot is the answer
  pub read_done : (from index : ℕ) (o : Object) → WorksOn s (read_of t from index) o → (number : ℕ)
      → slice_get o.slots index ≡ Some (num number) → Follows s (read_number t from index) (answered (Number number)) s
  read_done from index o w number e =
      follows_if_stands s (read_number t from index) _ _
      (λ m stands. read_follows s t from index _ _
      (read_obeys s t w.run from index w.locals.0 o w.some
      (found s (read_of t from index) (seen_sound s m stands) o w) number e))

-- ---- lines that work on locals alone

abbrev pub copy_of : (t to from : ℕ) → ThreadLine
copy_of t to from = record {
  instruction = copy_local t to from;
  thread = t;
  locals = to ∷ from ∷ [];
  more = λ s. None ∷ None ∷ None ∷ no_more;
  line = copy_line t to from;
  alike = copy_alike t to from;
}

abbrev pub clear_of : (t local : ℕ) → ThreadLine
clear_of t local = record {
  instruction = clear_local t local;
  thread = t;
  locals = local ∷ [];
  more = λ s. None ∷ None ∷ None ∷ no_more;
  line = clear_line t local;
  alike = clear_alike t local;
}

module _ (s : Machine) (t : ℕ) (run : MayRun s t) where
  -- a local goes into another, and is the answer
  pub copy_done : (to from : ℕ) → to < 64 → from < 64
      → Follows s (copy_local t to from) (answered (Place (local_of s t from))) (with_local s t to (local_of s t from))
  copy_done to from a b =
      follows_if_stands s (copy_local t to from) _ _
      (λ m stands.
      let sound = seen_sound s m stands in
      subst (λ n. Follows s (copy_local t to from) (answered (Place n)) (with_local s t to (local_of s t from)))
      (place_of-seen s sound (local_of s t from) (local-seen s sound t from))
      (copy_follows s t to from _ _ (copy_obeys s t run to from a b)))

  -- a local becomes null
  pub clear_done : (local : ℕ) → local < 64 → Follows s (clear_local t local) (answered Done) (with_local s t local 0)
  clear_done local a = clear_follows s t local _ _ (clear_obeys s t run local a)
