-- The text of an object: its slots one by one, and the whole as the machine's.
use Rattle.std.proofs.Common.{◌≡◌, ℕ, ◌+◌, ◌-◌, ◌≤◌, ◌==◌, min, List, [], ◌∷◌, ◌++◌, drop, length, take, get_or, Option, Some}
use Rattle.std.proofs.Common.{None, Bool, true, false, if◌then◌else◌, codes, decimal, nat_le, refl}
use Rattle.std.proofs.Common.{ap, ap₂, sym, ◌∙◌, arith, append_assoc, append-nil, Result, Ok, Err}
use Rattle.std.specs.Prelude.{slice_get, unwrap_or}
use Rattle.std.proofs.lemmas.Bool.{leb-false, leb-true, ne_eqb}
use Rattle.std.proofs.Math.Seq.{take-length}
use Rattle.clr_model.specs.Lookups.{object_at}
use Rattle.clr_model.specs.Looks.{at_most, behind, dumparray_text, numbered_from, rest_line}
use Rattle.std.specs.List.{enumerate_from, flat_map}
use Rattle.std.proofs.lemmas.List.{drop_min, get_or-drop, length-drop, take_min, take_more}
use Rattle.std.proofs.lemmas.Grind.{flat_map-append}
use Rattle.std.proofs.lemmas.Option.{get_or_from_slice_get, slice_get_within}
use Rattle.std.proofs.lemmas.List.FromFn.{get_or-enumerate_from, length-enumerate_from}
use Rattle.clr_types.specs.Types.{form_at, slot_kinds, TypeRow}
use Rattle.clr_types.specs.Segments.{generation as generation_of}
use Rattle.clr_types.specs.declared.item.Item.{Item}
use Rattle.clr_heap.specs.View.{frame, heap_items, HeapView, IsHeap, word_of}
use Rattle.clr_model.specs.Machine.{Machine, Value}
use Rattle.clr_model.specs.Sos.{dumpobj_text, line, more_line, slot_words, text_of_object}
use Rattle.clr_view.specs.View.{IsHeld, layout_in, objects_in}
use Rattle.clr_view.proofs.Listed.{listed-sized}
use Rattle.clr_view.proofs.SlotReads.{slots-counted}
use Rattle.clr_sos.specs.ObjectTexts.{array_item_text, head_line, item_text, slot_lines, slots_in}
use Rattle.clr_sos.specs.declared.fault.SosFault.{SosFault}
use Rattle.clr_sos.specs.declared.fault.SosFault.TheVariants.{NoMemory, NoObject}
use Rattle.clr_sos.proofs.ObjectsByPlace.{IsObjectWith}

-- ---- the lines of slots

-- a slot's line, by its number and its value
abbrev slot_line : ℕ × Value → List ℕ
slot_line s = line (slot_words s)

-- the line of a slot behind those of all before it
pub slot_lines-more : (text : List ℕ) (slots : List Value) (from k : ℕ) (v : Value) → from ≤ k
    → slice_get slots k ≡ Some v
    → (text ++ slot_lines from (k - from) slots) ++ line (slot_words (k, v)) ≡ text ++ slot_lines from (k + 1 - from) slots
slot_lines-more text slots from k v order e =
    let low = slice_get_within slots k v e in
    let here = get_or_from_slice_get slots k v v e in
    let all = enumerate_from 0 slots in
    let left = drop from all in
    let n = k - from in
    let count = length-enumerate_from 0 slots in
    let fewer = length-drop from all in
    let none : 0 + k ≡ k = omega arith in
    let at : from + n ≡ k = omega (arith, order) in
    let last : get_or left n (0, v) ≡ (k, v) = get_or-drop from all n (0, v)
    ∙ ap (λ (i : ℕ). get_or all i (0, v)) at ∙ get_or-enumerate_from 0 slots k (0, v) low ∙ (λ j. (none j, here j)) in
    let more = take_more left n (0, v) (omega (arith, low, count, fewer, order))
    ∙ ap (λ (s : ℕ × Value). take n left ++ s ∷ []) last in
    let next : n + 1 ≡ k + 1 - from = omega (arith, order) in
    append_assoc text (slot_lines from n slots) (line (slot_words (k, v)))
    ∙ ap (λ (l : List ℕ). text ++ l) (sym (ap (flat_map slot_line) more
    ∙ flat_map-append slot_line (take n left) ((k, v) ∷ [])
    ∙ ap (λ (l : List ℕ). slot_lines from n slots ++ l) (append-nil (slot_line (k, v)))))
    ∙ ap (λ (c : ℕ). text ++ slot_lines from c slots) next

-- no slot has a line yet
pub slot_lines-none : (text : List ℕ) (slots : List Value) (from : ℕ) → text ≡ text ++ slot_lines from (from - from) slots
slot_lines-none text slots from =
    let none : from - from ≡ 0 = omega arith in
    sym (append-nil text) ∙ ap (λ (n : ℕ). text ++ slot_lines from n slots) (sym none)

-- where as many slots have their lines as there are, or n, the first n have theirs
slot_lines-all : (n : ℕ) (slots : List Value) → slot_lines 0 (min n (length slots)) slots ≡ slot_lines 0 n slots
slot_lines-all n slots =
    let all = enumerate_from 0 slots in
    ap (λ (k : ℕ). flat_map slot_line (take (min n k) all)) (sym (length-enumerate_from 0 slots))
    ∙ ap (flat_map slot_line) (take_min n all)

-- the line that tells how many slots of n aren't shown, where 16 of them are or all
more-rest : (n shown : ℕ) → shown ≡ min n 16 → rest_line (n - shown) ≡ more_line n
more-rest n shown is = go (nat_le n 16) refl
  where
    go : (b : Bool) → nat_le n 16 ≡ b
        → rest_line (n - shown) ≡ (if b then [] else line (codes "more" ∷ decimal (n - 16) ∷ []))
    go true e =
        let low = leb-true n 16 e in
        let none : n - shown ≡ 0 = omega (arith, is, low) in
        ap rest_line none
    go false e =
        let high = leb-false n 16 e in
        let left : n - shown ≡ n - 16 = omega (arith, is, high) in
        let some : (n - 16 == 0) ≡ false = ne_eqb (n - 16) 0 (λ same. omega (arith, same, high)) in
        ap rest_line left ∙ ap (λ (b : Bool). if b then [] else line (codes "more" ∷ decimal (n - 16) ∷ [])) some

-- ---- the whole text

-- a text with the lines of an item one behind the other
pub item_text-parts : (rows : List TypeRow) (h : HeapView) (i : Item) (none one two three : List ℕ)
    (generation count : ℕ) → generation ≡ generation_of (frame h) i.place
    → (shown : ℕ) → count ≡ length (slot_kinds (form_at rows i.type_id.0) i.len) → shown ≡ min count 16 → none ≡ []
    → one ≡ none ++ head_line rows generation i → two ≡ one ++ slot_lines 0 (shown - 0) (slots_in rows h i)
    → three ≡ two ++ rest_line (count - shown) → three ≡ item_text rows h i
item_text-parts rows h i none one two three generation count young shown counted few empty head slots more =
    let values = slots_in rows h i in
    let all = counted ∙ sym (slots-counted rows (word_of h) i) in
    let start = ap₂ (λ (front : List ℕ) (g : ℕ). front ++ head_line rows g i) empty young in
    let first : shown - 0 ≡ min 16 (length values) = omega (arith, few, all) in
    let lines = ap (λ (n : ℕ). slot_lines 0 n values) first ∙ slot_lines-all 16 values in
    more
    ∙ ap₂ (λ (front end : List ℕ). front ++ end)
    (slots ∙ ap₂ (λ (front lines : List ℕ). front ++ lines) (head ∙ start) lines)
    (more-rest count shown few ∙ ap more_line all)

-- ---- the slots that are asked for

-- at most so many of what is left, where a number is said or all are
at_most-min : {A : Type 0} (count : Option ℕ) (n : ℕ) (xs : List A) → n ≡ min (unwrap_or count (length xs)) (length xs)
    → take n xs ≡ at_most count xs
at_most-min None n xs is =
    let all : n ≡ length xs = omega (arith, is) in ap (λ (k : ℕ). take k xs) all ∙ take-length xs
at_most-min (Some c) n xs is = ap (λ (k : ℕ). take k xs) is ∙ take_min c xs

-- and how many come behind those
behind-min : {A : Type 0} (count : Option ℕ) (n : ℕ) (xs : List A) → n ≡ min (unwrap_or count (length xs)) (length xs)
    → length xs - n ≡ length (behind count xs)
behind-min None n xs is = omega (arith, is)
behind-min (Some c) n xs is = let fewer = length-drop c xs in omega (arith, is, fewer)

-- a text with the head and the lines of the slots that are asked for
pub array_text-parts : (rows : List TypeRow) (h : HeapView) (i : Item) (start count : Option ℕ)
    (none one two three : List ℕ) (generation n first shown : ℕ) → generation ≡ generation_of (frame h) i.place
    → n ≡ length (slot_kinds (form_at rows i.type_id.0) i.len) → first ≡ min (unwrap_or start 0) n
    → shown ≡ min (unwrap_or count n) (n - first) → none ≡ []
    → one ≡ none ++ head_line rows generation i → two ≡ one ++ slot_lines first (first + shown - first) (slots_in rows h i)
    → three ≡ two ++ rest_line (n - first - shown) → three ≡ array_item_text rows h start count i
array_text-parts rows h i start count none one two three generation n first shown young counted begins few empty head
    slots more =
    let values = slots_in rows h i in
    let all = enumerate_from 0 values in
    let number = counted ∙ sym (slots-counted rows (word_of h) i) in
    let listed = length-enumerate_from 0 values in
    let front = ap₂ (λ (text : List ℕ) (g : ℕ). text ++ head_line rows g i) empty young in
    let at : first ≡ min (unwrap_or start 0) (length all) = omega (arith, begins, number, listed) in
    let left : drop first all ≡ numbered_from start values =
    ap (λ (k : ℕ). drop k all) at ∙ drop_min (unwrap_or start 0) all in
    let fewer : length (drop first all) ≡ n - first = length-drop first all ∙ omega (arith, number, listed) in
    let within : shown ≡ min (unwrap_or count (length (drop first all))) (length (drop first all)) =
    few ∙ asked count n first (length (drop first all)) fewer in
    let same : first + shown - first ≡ shown = omega arith in
    let lines : slot_lines first (first + shown - first) values
    ≡ flat_map slot_line (at_most count (numbered_from start values)) =
    ap (λ (k : ℕ). slot_lines first k values) same
    ∙ ap (flat_map slot_line) (at_most-min count shown (drop first all) within
    ∙ ap (at_most count) left) in
    let rest : n - first - shown ≡ length (behind count (numbered_from start values)) =
    ap (λ (k : ℕ). k - shown) (sym fewer) ∙ behind-min count shown (drop first all) within
    ∙ ap (λ (xs : List (ℕ × Value)). length (behind count xs)) left in
    more
    ∙ ap₂ (λ (front end : List ℕ). front ++ end)
    (slots ∙ ap₂ (λ (front lines : List ℕ). front ++ lines) (head ∙ front) lines) (ap rest_line rest)
  where
    -- of what is left no more can be shown, whatever is asked for
    asked : (count : Option ℕ) (n first k : ℕ) → k ≡ n - first
        → min (unwrap_or count n) (n - first) ≡ min (unwrap_or count k) k
    asked None n first k is = omega (arith, is)
    asked (Some c) n first k is = ap (λ (m : ℕ). min c m) (sym is)

module _ (m : Machine) (rows : List TypeRow) (h : HeapView) (types : m.types ≡ rows)
    (objects : m.objects ≡ objects_in rows h) (layout : m.layout ≡ layout_in rows h) where
  -- the machine with its parts as the heap tells them
  abbrev told : Machine
  told = record m { types = rows; objects = objects_in rows h; layout = layout_in rows h }

  -- THE TEXT OF AN ITEM that is the object with a place is the text of that object
  pub item_text-shows : (a : ℕ) (i : Item) → IsHeap h → IsHeld rows h
      → IsObjectWith rows (word_of h) a (heap_items rows h) (objects_in rows h) i
      → item_text rows h i ≡ dumpobj_text m a
  item_text-shows a i heap held is =
      let size = listed-sized rows h i heap held is.listed in
      ap (λ (n : ℕ). item_text rows h (record i { size = n })) size
      ∙ ap (text_of_object told) (sym is.told)
      ∙ λ j. dumpobj_text (record m { types = sym types j; objects = sym objects j; layout = sym layout j }) a

  -- THE TEXT OF THE SLOTS of an item that is the object with a place
  pub array_text-shows : (start count : Option ℕ) (a : ℕ) (i : Item) → IsHeap h → IsHeld rows h
      → IsObjectWith rows (word_of h) a (heap_items rows h) (objects_in rows h) i
      → array_item_text rows h start count i ≡ dumparray_text m start count (object_at m.objects a)
  array_text-shows start count a i heap held is =
      let size = listed-sized rows h i heap held is.listed in
      ap (λ (n : ℕ). array_item_text rows h start count (record i { size = n })) size
      ∙ ap (dumparray_text told start count) (sym is.told)
      ∙ λ j. dumparray_text (record m { types = sym types j; objects = sym objects j; layout = sym layout j }) start count
      (object_at (sym objects j) a)

-- want of memory is no want of an object
pub memory-not_object : {X : Type 0} (r : Result X SosFault) (fault : SosFault) → r ≡ Err fault → fault ≡ NoMemory
    → r ≡ Err NoObject → ⊥
memory-not_object r fault is memory object = cc

-- and a text is none
pub text-not_object : {X : Type 0} (x : X) → ◌≡◌ {A = Result X SosFault} (Ok x) (Err NoObject) → ⊥
text-not_object x object = cc
