-- The segments that were read of an image of the first version are read again of the migrated image.
use Rattle.std.proofs.Common.{◌≡◌, ℕ, suc, zero, ◌≤◌, ◌+◌, ◌-◌, ◌*◌, ◌/◌, Bool, true, false, ◌&&◌}
use Rattle.std.proofs.Common.{List, [], ◌∷◌, ◌++◌, length, drop, map, refl, arith, ap, sym, ◌∙◌, subst, Option, Some}
use Rattle.std.proofs.Common.{None}
use Rattle.std.proofs.Common.{nat_le, le-leb, cond, if◌then◌else◌, length-append, length-drop, Result, Ok, Err}
use Rattle.std.proofs.Common.{slice_get, ◌%◌}
use Rattle.std.proofs.lemmas.List.{map-append, take-append-le}
use Rattle.std.specs.List.{AllByRecursion, flat_map}
use Rattle.byteorder.specs.Endian.{little_from}
use Rattle.byteorder.specs.Numbers.{little_from-append}
use Rattle.clr_mem.specs.Words.{Memory, words_of}
use Rattle.clr_mem.proofs.Spelling.{words_of-take}
use Rattle.clr_types.specs.Descriptors.{reference_offsets}
use Rattle.clr_types.specs.Segments.{first_place, reserved_end}
use Rattle.clr_types.specs.Types.{form_at, size_of, TypeRow}
use Rattle.clr_types.specs.declared.item.Item.{Item}
use Rattle.clr_types.specs.declared.segment.SegInfo.{SegInfo}
use Rattle.clr_types.specs.declared.segment.SegKind.{SegKind}
use Rattle.clr_types.specs.declared.segment.SegKind.TheVariants.{Ephemeral, Large}
use Rattle.clr_types.proofs.Offsets.{inside_law}
use Rattle.clr_heap.specs.Parts.{hole_from}
use Rattle.clr_heap.specs.Drafts.{has_kind, is_young}
use Rattle.clr_heap.specs.Filled.{memory_from}
use Rattle.clr_heap.specs.View.{HeapView}
use Rattle.clr_fields.specs.Fields.{anything, fault, field, Fields, found, found_then, gives, is_from_to, times}
use Rattle.clr_fields.specs.Fields.{word_at, ◌>>=◌}
use Rattle.clr_sos.specs.CheckedCells.{checked_item, checked_items, checked_size, is_length, is_whole, Rules, with_item}
use Rattle.clr_sos.specs.CheckedCells.{Words}
use Rattle.clr_sos.specs.Faults.{item_addresses}
use Rattle.clr_format.specs.HeapFields.{Body, empty_body, has_needed, heap_fields, heap_more, is_base, is_boundary}
use Rattle.clr_format.specs.HeapFields.{is_end, is_reserved, kind_field, kind_found, kinds_of, may_follow, memory_field}
use Rattle.clr_format.specs.HeapFields.{memory_of, references_in, rules_with, segment_fields}
use Rattle.clr_format.specs.HeapFields.{segment_head_fields, segment_with, word_named, words_from}
use Rattle.clr_image.specs.Migration.{SameBody}
use Rattle.clr_format.specs.declared.head.Head.{Head}
use Rattle.clr_heap.specs.declared.heap.draft.SegmentHead.{SegmentHead}
use Rattle.clr_image.proofs.FoundAgain.{Extends, FoundItem, item_and_rest, item_found, items_again}
use Rattle.clr_image.proofs.Shifted.{Again, both_found, field_again, field_found, field_grows, gives_again, gives_grows}
use Rattle.clr_image.proofs.Shifted.{Grows}
use Rattle.clr_image.proofs.Shifted.{Shifted, then_again, then_grows, times_grows, word_again}
use Rattle.clr_save.proofs.WrittenCells.{inside_end, no_hole}
use Rattle.clr_save.proofs.WrittenHeap.{all_append}

-- ---- what is read alike by two readers

pub record Alike {A : Type 0} (first second : Fields A) : Type 0 where
  pub again : Again first second
  pub grows : Grows first

alike_field : (lawful : ℕ → Bool) → Alike (field lawful) (field lawful)
alike_field lawful = record { again = field_again lawful; grows = field_grows lawful }

alike_gives : {A : Type 0} (y : A) → Alike (gives y) (gives y)
alike_gives y = record { again = gives_again y; grows = gives_grows y }

alike_then : {A B : Type 0} (first second : Fields A) (next more : A → Fields B) → Alike first second
    → ((x : A) → Alike (next x) (more x)) → Alike (first >>= next) (second >>= more)
alike_then {A = A} first second next more one two = record {
  again = then_again first second next more one.again one.grows (λ (x : A). (two x).again) (λ (x : A). (two x).grows);
  grows = then_grows first next one.grows (λ (x : A). (two x).grows);
}

-- the head of the second version
abbrev pub second_head : Head → Head
second_head head = record head { first = false }

-- a kind of either version is one of the second, by the same number
same_kinds : (first : Bool) (n : ℕ) (x : SegKind) → slice_get (kinds_of first) n ≡ Some x
    → slice_get (kinds_of false) n ≡ Some x
same_kinds false n x e = e
same_kinds true zero x e = e
same_kinds true (suc zero) x e = e
same_kinds true (suc (suc zero)) x e = e
same_kinds true (suc (suc (suc n))) x e = absurd cc

record KindFound (segments : List SegInfo) (o : ℕ) (k : Option SegKind) (x : SegKind) (n : ℕ) : Type 0 where
  kind : k ≡ Some x
  may : may_follow segments x ≡ true
  next : n ≡ o + 8

kind_there : (segments : List SegInfo) (o : ℕ) (k : Option SegKind) (x : SegKind) (n : ℕ)
    → kind_found segments o k ≡ found x n → KindFound segments o k x n
kind_there segments o None x n e = absurd cc
kind_there segments o (Some kind) x n e = go (may_follow segments kind) refl e
  where
    go : (t : Bool) → may_follow segments kind ≡ t → cond t (found kind (o + 8)) (fault o) ≡ found x n
        → KindFound segments o (Some kind) x n
    go true m e =
        let same : kind ≡ x = cc in
        let at : o + 8 ≡ n = cc in
        record { kind = ap (λ k. Some k) same; may = ap (may_follow segments) (sym same) ∙ m; next = sym at }
    go false m e = absurd cc

kind_alike : (first : Bool) (segments : List SegInfo) → Alike (kind_field first segments) (kind_field false segments)
kind_alike first segments = record {
  again = λ bytes others more o n x shifted low most e.
      let f = both_found bytes (λ k b next. kind_found segments o (slice_get (kinds_of first) k))
      (field anything bytes o) x n e in
      let g = kind_there segments o (slice_get (kinds_of first) f.x) x n f.two in
      let at = g.next in
      let start = field_grows anything bytes o f.m f.x f.one in
      let one = field_again anything bytes others more o f.m f.x shifted low
      (after f.x f.m bytes o n f.one at most) f.one in
      let kind = same_kinds first f.x x g.kind in
      let may = g.may in
      let behind : o + 16 + 8 ≡ n + 16 = omega arith in
      ap (found_then others (λ k b next. kind_found segments (o + 16) (slice_get (kinds_of false) k))) one
      ∙ ap (kind_found segments (o + 16)) kind ∙ rw may (ap (found x) behind);
  grows = λ bytes o n x e.
      let f = both_found bytes (λ k b next. kind_found segments o (slice_get (kinds_of first) k))
      (field anything bytes o) x n e in
      let g = kind_there segments o (slice_get (kinds_of first) f.x) x n f.two in
      let at = g.next in
      omega arith;
}
  where
    after : (w m : ℕ) (bytes : List ℕ) (o n : ℕ) → field anything bytes o ≡ found w m → n ≡ o + 8 → n ≤ length bytes
        → m ≤ length bytes
    after w m bytes o n e at most =
        let f = field_found anything o (word_at bytes o) w m e in let next = f.next in omega arith

segment_head_alike : (head : Head) (h : HeapView)
    → Alike (segment_head_fields head h) (segment_head_fields (second_head head) h)
unfolding segment_head_fields
segment_head_alike head h =
    alike_then (field (is_base h)) (field (is_base h)) _ _ (alike_field (is_base h)) (λ base.
    alike_then (field (is_reserved head h)) (field (is_reserved head h)) _ _ (alike_field (is_reserved head h))
    (λ reserved.
    alike_then (kind_field head.first h.segments) (kind_field false h.segments) _ _ (kind_alike head.first h.segments)
    (λ kind.
    alike_then (field (is_end base reserved)) (field (is_end base reserved)) _ _ (alike_field (is_end base reserved))
    (λ end.
    alike_then (field (is_boundary (segment_with base reserved kind end) (base + 0x1000)))
    (field (is_boundary (segment_with base reserved kind end) (base + 0x1000))) _ _
    (alike_field (is_boundary (segment_with base reserved kind end) (base + 0x1000))) (λ start1.
    alike_then (field (is_boundary (segment_with base reserved kind end) start1))
    (field (is_boundary (segment_with base reserved kind end) start1)) _ _
    (alike_field (is_boundary (segment_with base reserved kind end) start1)) (λ start0. alike_gives _))))))

-- ---- references of items that were found

whole_found : (rules : Rules) (place t len size : ℕ) → checked_size rules place t len ≡ Ok size
    → is_whole rules place t (size_of (form_at rules.rows t) len) ≡ true
whole_found rules place t len size e =
    go (is_length rules.rows t len) (is_whole rules place t (size_of (form_at rules.rows t) len)) refl e
  where
    go : (a b : Bool) → is_whole rules place t (size_of (form_at rules.rows t) len) ≡ b
        → cond {A = Result ℕ ℕ} a (cond b (Ok (size_of (form_at rules.rows t) len)) (Err (place - 8)))
        (Err (place + 8)) ≡ Ok size
        → is_whole rules place t (size_of (form_at rules.rows t) len) ≡ true
    go true true w e = w
    go true false w e = absurd cc
    go false b w e = absurd cc

abbrev pub IsInRange : ℕ → ℕ → ℕ → Type 0
IsInRange low end a = (low ≤ a + 8) × (a + 16 ≤ end)

offsets_in : (low place size end : ℕ) (offsets : List ℕ)
    → AllByRecursion (λ offset. (8 ≤ offset) × (offset + 16 ≤ size) × (offset % 8 ≡ 0)) offsets → low ≤ place
    → place + size ≤ end → AllByRecursion (IsInRange low end) (map (λ offset. place + offset) offsets)
offsets_in low place size end [] all above below = tt
offsets_in low place size end (offset ∷ offsets) all above below =
    let a = all.0.0 in
    let b = all.0.1 in
    ((omega arith, omega arith), offsets_in low place size end offsets all.1 above below)

item_in : (rules : Rules) (words : Words) (low place : ℕ) (i : Item) → low ≤ place → FoundItem rules words place i
    → AllByRecursion (IsInRange low rules.end) (item_addresses rules.rows i)
item_in rules words low place i above f =
    let sized = f.item in
    let whole = whole_found rules place f.t f.len sized.size sized.sized in
    let below = inside_end rules place f.t (size_of (form_at rules.rows f.t) f.len) whole in
    subst (λ (j : Item). AllByRecursion (IsInRange low rules.end) (item_addresses rules.rows j)) sized.is
    (offsets_in low place (size_of (form_at rules.rows f.t) f.len) rules.end
    (reference_offsets (form_at rules.rows f.t) f.len) (inside_law (form_at rules.rows f.t) f.len) above below)

items_in : (fuel : ℕ) (rules : Rules) (words : Words) (low place : ℕ) (items : List Item) → rules.holes ≡ []
    → low ≤ place
    → checked_items fuel rules words place ≡ Ok items
    → AllByRecursion (IsInRange low rules.end) (flat_map (item_addresses rules.rows) items)
unfolding checked_items
items_in zero rules words low place items none above e =
    let nil : [] ≡ items = cc in subst (λ (js : List Item). AllByRecursion (IsInRange low rules.end)
    (flat_map (item_addresses rules.rows) js)) nil tt
items_in (suc fuel) rules words low place items none above e =
    go (nat_le rules.end place) (λ p js. items_in fuel rules words low p js none) refl e
  where
    go : (t : Bool)
        → ((p : ℕ) (js : List Item) → low ≤ p → checked_items fuel rules words p ≡ Ok js
        → AllByRecursion (IsInRange low rules.end) (flat_map (item_addresses rules.rows) js))
        → nat_le rules.end place ≡ t
        → cond t (Ok [])
        (elim (hole_from rules.holes place) as (λ _. Result (List Item) ℕ) [
          | Some high ↦ checked_items fuel rules words high
          | None ↦ elim (checked_item rules words place) as (λ _. Result (List Item) ℕ) [
            | Err a ↦ Err a
            | Ok item ↦ with_item item (checked_items fuel rules words (place + item.size))
          ]
        ]) ≡ Ok items → AllByRecursion (IsInRange low rules.end) (flat_map (item_addresses rules.rows) items)
    go true again t e =
        let nil : [] ≡ items = cc in
        subst (λ (js : List Item). AllByRecursion (IsInRange low rules.end) (flat_map (item_addresses rules.rows) js))
        nil tt
    go false again t e =
        let hole = no_hole rules.holes place none in
        let f = item_and_rest rules words fuel place items (hole_from rules.holes place) hole e in
        let here = item_in rules words low place f.item above (item_found rules words place f.item f.here) in
        let rest = again (place + f.item.size) f.rest (omega arith) f.behind in
        subst (λ (js : List Item). AllByRecursion (IsInRange low rules.end) (flat_map (item_addresses rules.rows) js))
        (sym f.is)
        (all_append (IsInRange low rules.end) (item_addresses rules.rows f.item)
        (flat_map (item_addresses rules.rows) f.rest) here rest)

-- ---- the memory of a segment

-- the word at an offset whose bytes are all there
word_same : (bytes others more : List ℕ) (o : ℕ) → Shifted bytes others more → 16 ≤ o → o + 8 ≤ length bytes
    → word_at others (o + 16) ≡ word_at bytes o
unfolding word_at
word_same bytes others more o shifted low fits =
    let size = shifted.size in
    let left = length-drop o bytes in
    let there : nat_le (o + 8) (length bytes) ≡ true = le-leb (o + 8) (length bytes) fits in
    let still : nat_le (o + 16 + 8) (length others) ≡ true = le-leb (o + 16 + 8) (length others) (omega arith) in
    let same : little_from 0 8 (drop (o + 16) others) ≡ little_from 0 8 (drop o bytes) =
    ap (little_from 0 8) (shifted.at o low (omega arith)) ∙ little_from-append 8 (drop o bytes) more (omega arith) in
    rw (there, still, same) refl

names_same : (bytes others more : List ℕ) (s : SegInfo) (o : ℕ) (as_ : List ℕ) → Shifted bytes others more → 16 ≤ o
    → o + (s.end - first_place s) ≤ length bytes
    → AllByRecursion (IsInRange (first_place s) s.end) as_
    → map (λ (r : ℕ × ℕ). r.1) (map (word_named others s (o + 16)) as_)
    ≡ map (λ (r : ℕ × ℕ). r.1) (map (word_named bytes s o) as_)
names_same bytes others more s o [] shifted low most all = refl
names_same bytes others more s o (a ∷ as_) shifted low most all =
    let above = all.0.0 in
    let below = all.0.1 in
    let at : o + 16 + (a - (s.base + 0xff8)) ≡ o + (a - (s.base + 0xff8)) + 16 = omega arith in
    let word : words_from others s (o + 16) a ≡ words_from bytes s o a =
    ap (word_at others) at
    ∙ word_same bytes others more (o + (a - (s.base + 0xff8))) shifted (omega arith) (omega arith) in
    let rest = names_same bytes others more s o as_ shifted low most all.1 in
    rw (word, rest) refl

memory_same : (bytes others more : List ℕ) (s : SegInfo) (o : ℕ) → Shifted bytes others more → 16 ≤ o
    → o + (s.end - first_place s) ≤ length bytes → memory_from others s (o + 16) ≡ memory_from bytes s o
memory_same bytes others more s o shifted low most =
    let left = length-drop o bytes in
    let k = (s.end - first_place s) / 8 in
    let both = length-append (drop o bytes) more in
    let words : words_of ((s.end - first_place s) / 8) (drop (o + 16) others)
    ≡ words_of ((s.end - first_place s) / 8) (drop o bytes) =
    ap (words_of ((s.end - first_place s) / 8)) (shifted.at o low (omega arith))
    ∙ sym (words_of-take ((s.end - first_place s) / 8) (drop o bytes ++ more) (omega arith))
    ∙ ap (words_of ((s.end - first_place s) / 8))
    (take-append-le (8 * ((s.end - first_place s) / 8)) (drop o bytes) more (omega arith))
    ∙ words_of-take ((s.end - first_place s) / 8) (drop o bytes) (omega arith) in
    rw words refl

pub extends : (bytes others more : List ℕ) (s : SegInfo) (o : ℕ) → Shifted bytes others more → 16 ≤ o
    → Extends (words_from bytes s o) (words_from others s (o + 16))
extends bytes others more s o shifted low a w e =
    let at : o + 16 + (a - (s.base + 0xff8)) ≡ o + (a - (s.base + 0xff8)) + 16 = omega arith in
    ap (word_at others) at ∙ word_again bytes others more (o + (a - (s.base + 0xff8))) w shifted (omega arith) e

-- what was read of a segment, and what is read again
pub record Reread (second : Fields Body) (others : List ℕ) (b : Body) (o n : ℕ) : Type 0 where
  pub grows : o ≤ n
  pub body : Body
  pub same : SameBody b body
  pub is : second others (o + 16) ≡ found body (n + 16)

pub memory_grows : (head : Head) (rows : List TypeRow) (body : Body) (s : SegInfo) (start1 start0 : ℕ)
    → Grows (memory_field head rows body s start1 start0)
unfolding memory_field
memory_grows head rows body s start1 start0 bytes o n x e =
    go (checked_items (s.end - first_place s) (rules_with head.large rows s start1 start0) (words_from bytes s o)
    (first_place s)) e
  where
    go : (r : Result (List Item) ℕ) → memory_of bytes rows body s start1 start0 o r ≡ found x n → o ≤ n
    go (Err a) e = absurd cc
    go (Ok items) e = let at : o + (s.end - first_place s) ≡ n = cc in omega arith

pub memory_again : (head : Head) (rows : List TypeRow) (b c : Body) (s : SegInfo) (start1 start0 : ℕ)
    (bytes others more : List ℕ) (o n : ℕ) (x : Body) → Shifted bytes others more → 16 ≤ o → n ≤ length bytes
    → SameBody b c → memory_field head rows b s start1 start0 bytes o ≡ found x n
    → Reread (memory_field (second_head head) rows c s start1 start0) others x o n
unfolding memory_field
memory_again head rows b c s start1 start0 bytes others more o n x shifted low most same e =
    go (checked_items (s.end - first_place s) (rules_with head.large rows s start1 start0) (words_from bytes s o)
    (first_place s)) refl e
  where
    go : (r : Result (List Item) ℕ)
        → checked_items (s.end - first_place s) (rules_with head.large rows s start1 start0) (words_from bytes s o)
        (first_place s) ≡ r
        → memory_of bytes rows b s start1 start0 o r ≡ found x n
        → Reread (λ bs k. memory_of bs rows c s start1 start0 k
        (checked_items (s.end - first_place s) (rules_with head.large rows s start1 start0) (words_from bs s k)
        (first_place s))) others x o n
    go (Err a) r e = absurd cc
    go (Ok items) r e =
        let at : o + (s.end - first_place s) ≡ n = cc in
        let is : (let y : Body = record {
          heap = heap_more bytes b.heap s start1 start0 o;
          offsets = b.offsets ++ o ∷ [];
          items = b.items ++ items;
          references = b.references ++ references_in bytes rows s o items;
        } in y) ≡ x = cc in
        let again : checked_items (s.end - first_place s) (rules_with head.large rows s start1 start0)
        (words_from others s (o + 16)) (first_place s) ≡ Ok items =
        items_again (s.end - first_place s) (rules_with head.large rows s start1 start0) (words_from bytes s o)
        (words_from others s (o + 16)) (first_place s) items refl (extends bytes others more s o shifted low) r in
        let inside = items_in (s.end - first_place s) (rules_with head.large rows s start1 start0)
        (words_from bytes s o)
        (first_place s) (first_place s) items refl (omega arith) r in
        let memory = memory_same bytes others more s o shifted low (omega arith) in
        let names = names_same bytes others more s o (flat_map (item_addresses rows) items) shifted low (omega arith)
        inside in
        let next : o + 16 + (s.end - first_place s) ≡ n + 16 = omega arith in
        let heap : heap_more others c.heap s start1 start0 (o + 16) ≡ heap_more bytes b.heap s start1 start0 o =
        ap (λ (h : HeapView). heap_more others h s start1 start0 (o + 16)) same.heap
        ∙ ap (λ (m : Memory). record b.heap {
          memories = b.heap.memories ++ m ∷ [];
          segments = b.heap.segments ++ s ∷ [];
          start1 = if is_young s then start1 else b.heap.start1;
          start0 = if is_young s then start0 else b.heap.start0;
          top = reserved_end s;
        }) memory in
        let split = map-append (λ (r : ℕ × ℕ). r.1) c.references (references_in others rows s (o + 16) items) in
        let joined = map-append (λ (r : ℕ × ℕ). r.1) b.references (references_in bytes rows s o items) in
        let y : Body = record {
          heap = heap_more others c.heap s start1 start0 (o + 16);
          offsets = c.offsets ++ (o + 16) ∷ [];
          items = c.items ++ items;
          references = c.references ++ references_in others rows s (o + 16) items;
        } in
        record {
          grows = omega arith;
          body = y;
          same = subst (λ (z : Body). SameBody z y) is (record {
            heap = heap;
            items = ap (λ (js : List Item). js ++ items) same.items;
            names = split
                ∙ ap (λ ns. ns ++ map (λ (r : ℕ × ℕ). r.1) (references_in others rows s (o + 16) items)) same.names
                ∙ ap (λ ns. map (λ (r : ℕ × ℕ). r.1) b.references ++ ns) names ∙ sym joined;
          });
          is = ap (memory_of others rows c s start1 start0 (o + 16)) again ∙ ap (found y) next;
        }

-- ---- all segments

segment_again : (head : Head) (rows : List TypeRow) (b c : Body) (bytes others more : List ℕ) (o n : ℕ) (x : Body)
    → Shifted bytes others more → 16 ≤ o → n ≤ length bytes → SameBody b c
    → segment_fields head rows b bytes o ≡ found x n
    → Reread (segment_fields (second_head head) rows c) others x o n
unfolding segment_fields
segment_again head rows b c bytes others more o n x shifted low most same e =
    let f = both_found bytes (λ s. memory_field head rows b s.info s.start1 s.start0)
    (segment_head_fields head b.heap bytes o) x n e in
    let alike = segment_head_alike head b.heap in
    let start = alike.grows bytes o f.m f.x f.one in
    let read = memory_again head rows b c f.x.info f.x.start1 f.x.start0 bytes others more f.m n x shifted (omega arith)
    most same f.two in
    let end = read.grows in
    let one : segment_head_fields (second_head head) c.heap others (o + 16) ≡ found f.x (f.m + 16) =
    ap (λ (h : HeapView). segment_head_fields (second_head head) h others (o + 16)) same.heap
    ∙ alike.again bytes others more o f.m f.x shifted low (omega arith) f.one in
    record {
      grows = omega arith;
      body = read.body;
      same = read.same;
      is = ap (found_then others (λ s. memory_field (second_head head) rows c s.info s.start1 s.start0)) one ∙ read.is;
    }

segment_grows : (head : Head) (rows : List TypeRow) (b : Body) → Grows (segment_fields head rows b)
unfolding segment_fields
segment_grows head rows b =
    then_grows (segment_head_fields head b.heap) (λ s. memory_field head rows b s.info s.start1 s.start0)
    (let alike = segment_head_alike head b.heap in alike.grows)
    (λ (s : SegmentHead). memory_grows head rows b s.info s.start1 s.start0)

segments_again : (head : Head) (rows : List TypeRow) (k : ℕ) (b c : Body) (bytes others more : List ℕ) (o n : ℕ)
    (x : Body)
    → Shifted bytes others more → 16 ≤ o → n ≤ length bytes → SameBody b c
    → times k (segment_fields head rows) b bytes o ≡ found x n
    → Reread (times k (segment_fields (second_head head) rows) c) others x o n
unfolding times
segments_again head rows zero b c bytes others more o n x shifted low most same e =
    let is : b ≡ x = cc in
    let at : o ≡ n = cc in
    record {
      grows = omega arith;
      body = c;
      same = subst (λ (z : Body). SameBody z c) is same;
      is = ap (λ j. found c (j + 16)) at;
    }
segments_again head rows (suc k) b c bytes others more o n x shifted low most same e =
    let f = both_found bytes (times k (segment_fields head rows)) (segment_fields head rows b bytes o) x n e in
    let start = segment_grows head rows b bytes o f.m f.x f.one in
    let end = times_grows k (segment_fields head rows) f.x (segment_grows head rows) bytes f.m n x f.two in
    let one = segment_again head rows b c bytes others more o f.m f.x shifted low (omega arith) same f.one in
    let rest = segments_again head rows k f.x one.body bytes others more f.m n x shifted
    (omega arith) most one.same f.two in
    record {
      grows = omega arith;
      body = rest.body;
      same = rest.same;
      is = ap (found_then others (times k (segment_fields (second_head head) rows))) one.is ∙ rest.is;
    }

needed_found : (o : ℕ) (body : Body) (bytes : List ℕ) (m n : ℕ) (x : Body) → has_needed o body bytes m ≡ found x n
    → ((has_kind Ephemeral body.heap.segments && has_kind Large body.heap.segments) ≡ true) × (body ≡ x) × (m ≡ n)
needed_found o body bytes m n x e = go (has_kind Ephemeral body.heap.segments && has_kind Large body.heap.segments) e
  where
    go : (t : Bool) → cond t (found body m) (fault o) ≡ found x n → (t ≡ true) × (body ≡ x) × (m ≡ n)
    go true e = let is : body ≡ x = cc in let at : m ≡ n = cc in (refl, is, at)
    go false e = absurd cc

pub heap_again : (head : Head) (rows : List TypeRow) (bytes others more : List ℕ) (o n : ℕ) (x : Body)
    → Shifted bytes others more → 16 ≤ o → n ≤ length bytes → heap_fields head rows bytes o ≡ found x n
    → Reread (heap_fields (second_head head) rows) others x o n
unfolding heap_fields
heap_again head rows bytes others more o n x shifted low most e =
    let f = both_found bytes (λ k. times k (segment_fields head rows) (empty_body head.limit) >>= has_needed o)
    (field (is_from_to 2 4096) bytes o) x n e in
    let g = both_found bytes (has_needed o) (times f.x (segment_fields head rows) (empty_body head.limit) bytes f.m) x n
    f.two in
    let needed = needed_found o g.x bytes g.m n x g.two in
    let same_end = needed.2 in
    let start = field_grows (is_from_to 2 4096) bytes o f.m f.x f.one in
    let end = times_grows f.x (segment_fields head rows) (empty_body head.limit)
    (segment_grows head rows) bytes f.m g.m g.x
    g.one in
    let one = field_again (is_from_to 2 4096) bytes others more o f.m f.x shifted low (omega arith) f.one in
    let two = segments_again head rows f.x (empty_body head.limit) (empty_body head.limit) bytes others more f.m g.m g.x
    shifted (omega arith) (omega arith) (record { heap = refl; items = refl; names = refl }) g.one in
    let same = two.same in
    let still : (has_kind Ephemeral two.body.heap.segments && has_kind Large two.body.heap.segments) ≡ true =
    ap (λ (h : HeapView). has_kind Ephemeral h.segments && has_kind Large h.segments) same.heap ∙ needed.0 in
    record {
      grows = omega arith;
      body = two.body;
      same = subst (λ (z : Body). SameBody z two.body) needed.1 two.same;
      is = ap (found_then others
          (λ k. times k (segment_fields (second_head head) rows) (empty_body head.limit) >>= has_needed (o + 16))) one
          ∙ ap (found_then others (has_needed (o + 16))) two.is
          ∙ rw still (ap (λ j. found two.body (j + 16)) same_end);
    }
