-- The objects of a heap that was read have the shapes of their types.
use Rattle.std.proofs.Common.{◌≡◌, inl, inr, ℕ, zero, suc, ◌+◌, ◌-◌, ◌*◌, ◌%◌, ◌^◌, ◌<◌, ◌≤◌, Bool, true, false}
use Rattle.std.proofs.Common.{if◌then◌else◌, List, [], ◌∷◌, filter, map, length, replicate, refl, ap, sym, ◌∙◌, subst}
use Rattle.std.proofs.Common.{arith, IsTrue, is_some}
use Rattle.std.specs.Prelude.{slice_get}
use Rattle.std.specs.List.{AllByRecursion}
use Rattle.std.proofs.lemmas.Bool.Decides.{nat_tests}
use Rattle.clr_mem.proofs.Digits.{byte_of-lt}
use Rattle.clr_types.specs.Bits.{has_suppressed_bit}
use Rattle.clr_types.specs.Rising.{IsIn}
use Rattle.clr_types.specs.Types.{bytes_form, class_form, Form, form_at, has_finalizer, is_array, is_bytes}
use Rattle.clr_types.specs.Types.{references_form, slot_kinds, slots_from, structs_form, type_row, TypeRow}
use Rattle.clr_types.specs.declared.item.Item.{Item}
use Rattle.clr_types.proofs.ChangedLists.{all_members, out_of_filter}
use Rattle.clr_types.proofs.ListMembers.{from-map}
use Rattle.clr_heap.specs.Memories.{word_address}
use Rattle.clr_heap.specs.Parts.{item_at, length_at, type_number}
use Rattle.clr_heap.specs.View.{heap_items, HeapView, IsHeap, word_of}
use Rattle.clr_model.specs.Lawful.{is_reference_value, IsShaped, NumberFits}
use Rattle.clr_model.specs.Machine.{Machine, Object}
use Rattle.clr_view.specs.Clean.{AreClean, IsCleanHeader}
use Rattle.clr_view.specs.View.{IsHeld, is_object, object_in, objects_in, slot_value, word_value}
use Rattle.clr_view.proofs.Listed.{listed-known, listed-small, listed-spelled}
use Rattle.clr_view.proofs.Standing.{high_up}

-- a type of the table has its row
pub row-known : (rows : List TypeRow) (t : ℕ) → (t ≡ 0 → ⊥) → t ≤ length rows → IsTrue (is_some (type_row rows t))
row-known rows zero some known = absurd (some refl)
row-known rows (suc t) some known = go rows t known
  where
    go : (rs : List TypeRow) (i : ℕ) → suc i ≤ length rs → IsTrue (is_some (slice_get rs i))
    go [] i l = absurd (omega arith)
    go (r ∷ rs) zero l = refl
    go (r ∷ rs) (suc i) l = go rs i (omega arith)

-- an item whose type has no length has length 0
no-length : (rows : List TypeRow) (word : ℕ → ℕ) (i : Item) → i ≡ item_at rows word i.place
    → is_array (form_at rows i.type_id.0) ≡ false → i.len ≡ 0
unfolding item_at length_at
no-length rows word i is off =
    let type : i.type_id.0 ≡ type_number (word i.place) = ap (λ (x : Item). x.type_id.0) is in
    ap (λ (x : Item). x.len) is
    ∙ ap (λ (b : Bool). if b then word (i.place + 8) else 0)
    (ap (λ (t : ℕ). is_array (form_at rows t)) (sym type) ∙ off)

-- ---- slots

kind-of : (kind : Bool) (w : ℕ) → is_reference_value (word_value kind w) ≡ kind
kind-of true w = refl
kind-of false w = refl

word-kinds : (form : Form) (word : ℕ → ℕ) (place i : ℕ) (kinds : List Bool) → is_bytes form ≡ false
    → map is_reference_value (map (slot_value form word place) (slots_from form i kinds)) ≡ kinds
word-kinds form word place i [] words = refl
word-kinds (class_form pattern) word place i (k ∷ ks) words =
    λ x. kind-of k (word (place + (8 + 8 * i))) x ∷ word-kinds (class_form pattern) word place (i + 1) ks words x
word-kinds references_form word place i (k ∷ ks) words =
    λ x. kind-of k (word (place + (16 + 8 * i))) x ∷ word-kinds references_form word place (i + 1) ks words x
word-kinds bytes_form word place i (k ∷ ks) words = absurd cc
word-kinds (structs_form pattern) word place i (k ∷ ks) words =
    λ x. kind-of k (word (place + (16 + 8 * i))) x ∷ word-kinds (structs_form pattern) word place (i + 1) ks words x

byte-kinds : (word : ℕ → ℕ) (place i n : ℕ)
    → map is_reference_value (map (slot_value bytes_form word place) (slots_from bytes_form i (replicate n false)))
    ≡ replicate n false
byte-kinds word place i zero = refl
byte-kinds word place i (suc n) = ap (λ (ks : List Bool). false ∷ ks) (byte-kinds word place (i + 1) n)

-- each slot holds what its kind says
pub kinds-are : (form : Form) (word : ℕ → ℕ) (place len : ℕ)
    → map is_reference_value (map (slot_value form word place) (slots_from form 0 (slot_kinds form len)))
    ≡ slot_kinds form len
kinds-are (class_form pattern) word place len =
    word-kinds (class_form pattern) word place 0 (slot_kinds (class_form pattern) len) refl
kinds-are references_form word place len =
    word-kinds references_form word place 0 (slot_kinds references_form len) refl
kinds-are bytes_form word place len = byte-kinds word place 0 len
kinds-are (structs_form pattern) word place len =
    word-kinds (structs_form pattern) word place 0 (slot_kinds (structs_form pattern) len) refl

word-fits : (form : Form) (kind : Bool) (w : ℕ) → is_bytes form ≡ false → w < 2 ^ 64
    → NumberFits form (word_value kind w)
word-fits form true w words l = tt
word-fits form false w words l = ap-fits (is_bytes form) words
  where
    ap-fits : (b : Bool) → b ≡ false → w < (if b then 256 else 2 ^ 64)
    ap-fits true e = absurd cc
    ap-fits false e = l

-- and a number that fits
numbers-fit : (form : Form) (word : ℕ → ℕ) (place i : ℕ) (kinds : List Bool) → ((a : ℕ) → word a < 2 ^ 64)
    → AllByRecursion (NumberFits form) (map (slot_value form word place) (slots_from form i kinds))
numbers-fit form word place i [] fit = tt
numbers-fit (class_form pattern) word place i (k ∷ ks) fit = (
  word-fits (class_form pattern) k (word (place + (8 + 8 * i))) refl (fit (place + (8 + 8 * i))),
  numbers-fit (class_form pattern) word place (i + 1) ks fit,
)
numbers-fit references_form word place i (k ∷ ks) fit = (
  word-fits references_form k (word (place + (16 + 8 * i))) refl (fit (place + (16 + 8 * i))),
  numbers-fit references_form word place (i + 1) ks fit,
)
numbers-fit bytes_form word place i (k ∷ ks) fit = (
  byte_of-lt (word (word_address (place + (16 + i)))) ((place + (16 + i)) % 8),
  numbers-fit bytes_form word place (i + 1) ks fit,
)
numbers-fit (structs_form pattern) word place i (k ∷ ks) fit = (
  word-fits (structs_form pattern) k (word (place + (16 + 8 * i))) refl (fit (place + (16 + 8 * i))),
  numbers-fit (structs_form pattern) word place (i + 1) ks fit,
)

-- a clean header that says that the finaliser is suppressed is that of a type that has one
suppressed-final : (rows : List TypeRow) (t header : ℕ) → IsCleanHeader rows t header
    → has_suppressed_bit header ≡ true → has_finalizer (type_row rows t) ≡ true
suppressed-final rows t header (inr final) on = final.1
suppressed-final rows t header (inl none) on =
    absurd (clash (sym (ap has_suppressed_bit none) ∙ on))
  where
    clash : has_suppressed_bit 0 ≡ true → ⊥
    clash e = cc

-- ---- objects

-- an item that is an object of the heap
pub record IsObjectOf (rows : List TypeRow) (h : HeapView) (o : Object) : Type 0 where
  pub item : Item
  pub listed : IsIn item (heap_items rows h)
  pub object : is_object item ≡ true
  pub is : o ≡ object_in rows (word_of h) item

pub object-of : (rows : List TypeRow) (h : HeapView) (o : Object) → IsIn o (objects_in rows h) → IsObjectOf rows h o
object-of rows h o i =
    let from = from-map (object_in rows (word_of h)) o (filter is_object (heap_items rows h)) i in
    let passed = out_of_filter is_object from.0 (heap_items rows h) from.2 in
    record { item = from.0; listed = passed.1; object = passed.0; is = from.1 }

not-free : (t : ℕ) → is_object (record { place = 0; size = 0; type_id = record { 0 = t }; len = 0 }) ≡ true → t ≡ 0 → ⊥
not-free t on zero_ = grind (arith, nat_tests, on, zero_)

module _ (rows : List TypeRow) (h : HeapView) (heap : IsHeap h) (held : IsHeld rows h) (clean : AreClean rows h)
    (fit : (a : ℕ) → word_of h a < 2 ^ 64) where
  item-shaped : (m : Machine) → m.types ≡ rows → (i : Item) → IsIn i (heap_items rows h) → is_object i ≡ true
      → IsShaped m (object_in rows (word_of h) i)
  item-shaped m types i listed object =
      let form = form_at rows i.type_id.0 in
      let up = high_up rows h heap held i listed in
      subst (λ (ts : List TypeRow). IsShaped (record m { types = ts }) (object_in rows (word_of h) i)) (sym types)
      (record {
        named = omega arith;
        typed = row-known rows i.type_id.0 (λ none. not-free i.type_id.0 object none)
            (listed-known rows h i heap held listed);
        size = listed-small rows h i heap held listed;
        class_len = no-length rows (word_of h) i (listed-spelled rows h i heap held listed).0;
        kinds = kinds-are form (word_of h) i.place i.len;
        numbers = numbers-fit form (word_of h) i.place 0 (slot_kinds form i.len) fit;
        suppressed = suppressed-final rows i.type_id.0 (word_of h (i.place - 8)) (clean i listed object).header;
      })

  -- EACH OBJECT is shaped
  pub objects-shaped : (m : Machine) → m.types ≡ rows → AllByRecursion (IsShaped m) (objects_in rows h)
  objects-shaped m types =
      all_members (IsShaped m) (objects_in rows h) (λ o i.
      let of = object-of rows h o i in
      subst (IsShaped m) (sym of.is) (item-shaped m types of.item of.listed of.object))
