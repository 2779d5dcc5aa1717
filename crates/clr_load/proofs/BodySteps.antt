-- One segment more is read.
use Rattle.std.proofs.Common.{◌≡◌, ℕ, ◌+◌, ◌-◌, ◌≤◌, ◌||◌, Bool, true, false, List, [], ◌∷◌, ◌++◌, length, refl, sym}
use Rattle.std.proofs.Common.{◌∙◌}
use Rattle.std.proofs.Common.{ap, subst, append_assoc, append-nil, Result, Ok, Err, if◌then◌else◌}
use Rattle.std.specs.List.{list_any}
use Rattle.clr_mem.specs.Words.{Memory}
use Rattle.clr_types.specs.Segments.{first_place}
use Rattle.clr_types.specs.Types.{TypeRow}
use Rattle.clr_types.specs.declared.item.Item.{Item}
use Rattle.clr_types.specs.declared.segment.SegInfo.{SegInfo}
use Rattle.clr_heap.specs.View.{HeapView}
use Rattle.clr_fields.specs.Fields.{Found, fault, field, found, found_then, Fields, is_from_to, times}
use Rattle.clr_types.specs.declared.segment.SegKind.TheVariants.{Ephemeral, Large}
use Rattle.std.proofs.Common.{◌&&◌}
use Rattle.clr_format.specs.HeapFields.{empty_body, has_needed, heap_fields}
use Rattle.clr_heap.specs.Drafts.{drafted, has_kind}
use Rattle.clr_heap.specs.Filled.{memory_from}
use Rattle.clr_fields.specs.Finds.{Finds, Reading, Tells}
use Rattle.clr_fields.specs.declared.fault.LoadFault.{LoadFault}
use Rattle.clr_fields.specs.declared.fault.LoadFault.TheVariants.{At, NoMemory}
use Rattle.clr_load.specs.Bodies.{AreRead, IsBody, IsReadSegment, IsSegmentRead, Loads, LoadsTo}
use Rattle.clr_sos.specs.CheckedCells.{checked_items}
use Rattle.clr_sos.specs.Faults.{stands}
use Rattle.clr_format.specs.HeapFields as fields
use Rattle.clr_format.specs.HeapFields.{heap_more, memory_field, memory_of, offset_in}
use Rattle.clr_format.specs.HeapFields.{references_in, rules_with, segment_fields, segment_head_fields, words_from}
use Rattle.clr_load.specs.ItemScans.{items_of}
use Rattle.clr_load.specs.RangeScans.{AreScanned, ScansItems}
use Rattle.clr_load.specs.Starts.{has_place, has_start}
use Rattle.clr_load.specs.declared.body.Body.{Body}
use Rattle.clr_load.specs.declared.cells.Scan.{Scan}
use Rattle.clr_format.specs.declared.head.Head.{Head}
use Rattle.clr_heap.specs.declared.heap.draft.SegmentHead.{SegmentHead}
use Rattle.clr_load.specs.declared.starts.Range.{Range}
use Rattle.clr_load.proofs.ItemSteps.{stands_both}

-- ---- what a scan sees

-- a scan is of this segment at an offset
pub record IsScanOf (s : Scan) (bytes : List ℕ) (rows : List TypeRow) (head : Head) (segment : SegmentHead) (o : ℕ)
    : Type 0 where
  pub bytes_are : s.bytes.now ≡ bytes
  pub rows_are : s.types.now ≡ rows
  pub info : s.info ≡ segment.info
  pub start1 : s.start1 ≡ segment.start1
  pub start0 : s.start0 ≡ segment.start0
  pub large : s.large ≡ head.large
  pub at : s.at ≡ o

-- the items that the checks find
abbrev checked : List ℕ → List TypeRow → Head → SegmentHead → ℕ → Result (List Item) ℕ
checked bytes rows head segment o =
    checked_items (segment.info.end - first_place segment.info)
    (rules_with head.large rows segment.info segment.start1 segment.start0) (words_from bytes segment.info o)
    (first_place segment.info)

scan_is : (s : Scan) (bytes : List ℕ) (rows : List TypeRow) (head : Head) (segment : SegmentHead) (o : ℕ)
    → IsScanOf s bytes rows head segment o → items_of s ≡ checked bytes rows head segment o
unfolding items_of
scan_is s bytes rows head segment o is =
    ap (λ (i : SegInfo). checked_items (i.end - first_place i)
    (rules_with s.large s.types.now i s.start1 s.start0) (words_from s.bytes.now i s.at) (first_place i)) is.info
    ∙ ap (λ (n : ℕ). run n s.types.now s.start1 s.start0 s.bytes.now s.at) is.large
    ∙ ap (λ (ts : List TypeRow). run head.large ts s.start1 s.start0 s.bytes.now s.at) is.rows_are
    ∙ ap (λ (n : ℕ). run head.large rows n s.start0 s.bytes.now s.at) is.start1
    ∙ ap (λ (n : ℕ). run head.large rows segment.start1 n s.bytes.now s.at) is.start0
    ∙ ap (λ (bs : List ℕ). run head.large rows segment.start1 segment.start0 bs s.at) is.bytes_are
    ∙ ap (λ (n : ℕ). run head.large rows segment.start1 segment.start0 bytes n) is.at
  where
    run : ℕ → List TypeRow → ℕ → ℕ → List ℕ → ℕ → Result (List Item) ℕ
    run large ts s1 s0 bs n =
        checked_items (segment.info.end - first_place segment.info) (rules_with large ts segment.info s1 s0)
        (words_from bs segment.info n) (first_place segment.info)

module _ (bytes : List ℕ) (rows : List TypeRow) (head : Head) (segment : SegmentHead) (o : ℕ) (b : fields.Body) where
  there : Result (List Item) ℕ → Found fields.Body
  there r = memory_of bytes rows b segment.info segment.start1 segment.start0 o r

  field_is : memory_field head rows b segment.info segment.start1 segment.start0 bytes o
      ≡ memory_of bytes rows b segment.info segment.start1 segment.start0 o (checked bytes rows head segment o)
  unfolding memory_field
  field_is = refl

  -- a fault of the memory
  pub memory_fails : (B : Type 0) (P : fields.Body → Type 0) (s : Scan) (e : LoadFault) (next : ℕ)
      → IsScanOf s bytes rows head segment o → ScansItems s (Err e)
      → LoadsTo {B = B} P (memory_field head rows b segment.info segment.start1 segment.start0 bytes o) (Err e) next
  memory_fails B P s NoMemory next is scan = tt
  memory_fails B P s (At offset) next is scan =
      field_is
      ∙ ap (λ (r : Result (List Item) ℕ). memory_of bytes rows b segment.info segment.start1 segment.start0 o r)
      (sym (scan_is s bytes rows head segment o is) ∙ scan.found)
      ∙ ap fault (sym (scan.is ∙ ap (λ (i : SegInfo). offset_in i s.at scan.address) is.info
      ∙ ap (λ (n : ℕ). offset_in segment.info n scan.address) is.at))

-- ---- what is kept

none_more : (b : Bool) → (b || false) ≡ b
none_more true = refl
none_more false = refl

or_joined : (a b c : Bool) → (a || (b || c)) ≡ ((a || b) || c)
or_joined true b c = refl
or_joined false b c = refl

any_both : {X : Type 0} (test : X → Bool) (xs ys : List X)
    → list_any test (xs ++ ys) ≡ (list_any test xs || list_any test ys)
any_both test [] ys = refl
any_both test (x ∷ xs) ys =
    ap (λ (b : Bool). test x || b) (any_both test xs ys) ∙ or_joined (test x) (list_any test xs) (list_any test ys)

start_more : (ranges : List Range) (r : Range) (x : ℕ)
    → has_start (ranges ++ r ∷ []) x ≡ (has_start ranges x || has_place r x)
unfolding has_start
start_more ranges r x =
    any_both (λ q. has_place q x) ranges (r ∷ [])
    ∙ ap (λ (b : Bool). list_any (λ q. has_place q x) ranges || b) (none_more (has_place r x))

-- one segment more was read
read_more : (bytes : List ℕ) (rows : List TypeRow) (ss : List SegInfo) (os : List ℕ) (items : List Item)
    (references : List (ℕ × ℕ)) (s : SegInfo) (o : ℕ) (here : List Item)
    → AreRead bytes rows ss os items references → IsSegmentRead bytes rows s o here
    → AreRead bytes rows (ss ++ s ∷ []) (os ++ o ∷ []) (items ++ here)
    (references ++ references_in bytes rows s o here)
read_more bytes rows [] [] items references s o here (none, nothing) read = (
  here,
  [],
  [],
  read,
  ap (λ (xs : List Item). xs ++ here) none ∙ sym (append-nil here),
  ap (λ (xs : List (ℕ × ℕ)). xs ++ references_in bytes rows s o here) nothing
      ∙ sym (append-nil (references_in bytes rows s o here)),
  (refl, refl),
)
read_more bytes rows [] (p ∷ os) items references s o here all read = absurd all
read_more bytes rows (t ∷ ss) [] items references s o here all read = absurd all
read_more bytes rows (t ∷ ss) (p ∷ os) items references s o here (first, rest, more, is, e, f, all) read = (
  first,
  rest ++ here,
  more ++ references_in bytes rows s o here,
  is,
  ap (λ (xs : List Item). xs ++ here) e ∙ append_assoc first rest here,
  ap (λ (xs : List (ℕ × ℕ)). xs ++ references_in bytes rows s o here) f
      ∙ append_assoc (references_in bytes rows t p first) more (references_in bytes rows s o here),
  read_more bytes rows ss os rest more s o here all read,
)

-- what becomes of what is kept
pub record HasTaken (bytes : List ℕ) (segment : SegmentHead) (o : ℕ) (m : Memory) (r : Range) (old new : Body)
    : Type 0 where
  pub draft : new.draft ≡ drafted old.draft segment m
  pub memory : m ≡ memory_from bytes segment.info o
  pub offsets : new.offsets.items ≡ old.offsets.items ++ o ∷ []
  pub starts : new.starts ≡ old.starts ++ r ∷ []

module _ (bytes : List ℕ) (rows : List TypeRow) (head : Head) (segment : SegmentHead) (o : ℕ) (b : fields.Body)
    (old new : Body) (is_old : IsBody bytes rows old b) where
  pub memory_taken : (B : Type 0) (s : Scan) (m : Memory) (r : Range) (x : B) (next : ℕ)
      → IsScanOf s bytes rows head segment o → IsReadSegment segment.info → o ≤ length bytes → AreScanned s r
      → HasTaken bytes segment o m r old new
      → next ≡ o + (segment.info.end - first_place segment.info)
      → LoadsTo {B = B} (IsBody bytes rows new)
      (memory_field head rows b segment.info segment.start1 segment.start0 bytes o) (Ok x) next
  memory_taken B s m r x next is lawful within scan taken at =
      let found_items : checked bytes rows head segment o ≡ Ok scan.items =
      sym (scan_is s bytes rows head segment o is) ∙ scan.found in (
        record {
          heap = heap_more bytes b.heap segment.info segment.start1 segment.start0 o;
          offsets = b.offsets ++ o ∷ [];
          items = b.items ++ scan.items;
          references = b.references ++ references_in bytes rows segment.info o scan.items;
        },
        field_is bytes rows head segment o b
            ∙ ap (λ (f : Result (List Item) ℕ). memory_of bytes rows b segment.info segment.start1 segment.start0 o f)
            found_items
            ∙ ap (λ (n : ℕ). found (record {
              heap = heap_more bytes b.heap segment.info segment.start1 segment.start0 o;
              offsets = b.offsets ++ o ∷ [];
              items = b.items ++ scan.items;
              references = b.references ++ references_in bytes rows segment.info o scan.items;
            }) n) (sym at),
        record {
          heap =
              taken.draft ∙ ap (λ (h : HeapView). drafted h segment m) is_old.heap
              ∙ ap (λ (n : Memory). drafted b.heap segment n) taken.memory;
          offsets = taken.offsets ∙ ap (λ (os : List ℕ). os ++ o ∷ []) is_old.offsets;
          starts = λ y.
              ap (λ (rs : List Range). has_start rs y) taken.starts
              ∙ start_more old.starts r y
              ∙ ap (λ (t : Bool). t || has_place r y) (is_old.starts y)
              ∙ ap (λ (t : Bool). stands b.items y || t) (scan.marked y)
              ∙ sym (stands_both b.items scan.items y);
          read =
              read_more bytes rows b.heap.segments b.offsets b.items b.references segment.info o scan.items is_old.read
              (record {
                segment = lawful;
                within = within;
                large = head.large;
                start1 = segment.start1;
                start0 = segment.start0;
                found = found_items;
              });
        },
      )

-- ---- a segment

module _ (rows : List TypeRow) (head : Head) (b : fields.Body) where
  head_then : (bytes : List ℕ) (o : ℕ) → segment_fields head rows b bytes o
      ≡ found_then bytes (λ s. memory_field head rows b s.info s.start1 s.start0)
      (segment_head_fields head b.heap bytes o)
  unfolding segment_fields
  head_then bytes o = refl

  -- a fault of what stands before the memory
  pub head_fails : (B : Type 0) (P : fields.Body → Type 0) (h : HeapView) (bytes : List ℕ) (o : ℕ) (e : LoadFault)
      (next n : ℕ) → h ≡ b.heap → Tells {B = SegmentHead} (λ s. s) (segment_head_fields head h bytes o) (Err e) n
      → LoadsTo {B = B} P (segment_fields head rows b bytes o) (Err e) next
  head_fails B P h bytes o NoMemory next n is tells = tt
  head_fails B P h bytes o (At a) next n is tells =
      head_then bytes o
      ∙ ap (found_then bytes (λ s. memory_field head rows b s.info s.start1 s.start0))
      (ap (λ (g : HeapView). segment_head_fields head g bytes o) (sym is) ∙ tells)

  -- the memory behind it
  pub head_found : {B : Type 0} (P : List ℕ → fields.Body → Type 0) (h : HeapView) (old mid new : Reading)
      (s : SegmentHead) (answer : Result B LoadFault) → h ≡ b.heap
      → Finds (segment_head_fields head h) old mid (Ok s)
      → Loads (P mid.bytes) (memory_field head rows b s.info s.start1 s.start0) mid new answer
      → Loads (P old.bytes) (segment_fields head rows b) old new answer
  head_found P h old mid new s answer is finds loads =
      let first : segment_fields head rows b old.bytes old.at
      ≡ memory_field head rows b s.info s.start1 s.start0 old.bytes mid.at =
      head_then old.bytes old.at
      ∙ ap (found_then old.bytes (λ s. memory_field head rows b s.info s.start1 s.start0))
      (ap (λ (g : HeapView). segment_head_fields head g old.bytes old.at) (sym is) ∙ finds.tells) in
      let there = subst (λ (bs : List ℕ). LoadsTo (P bs) (memory_field head rows b s.info s.start1 s.start0 bs mid.at)
      answer new.at) finds.bytes loads.tells in
      record {
        bytes = loads.bytes ∙ finds.bytes;
        tells = subst (λ (f : Found fields.Body). LoadsTo (P old.bytes) f answer new.at) (sym first) there;
      }

-- ---- all segments

-- what is loaded from the same bytes
pub same_bytes : {A B : Type 0} (P : List ℕ → A → Type 0) (F : Fields A) (old mid new : Reading)
    (answer : Result B LoadFault) → mid.bytes ≡ old.bytes → Loads (P mid.bytes) F mid new answer
    → (new.bytes ≡ old.bytes) × LoadsTo (P old.bytes) (F old.bytes mid.at) answer new.at
same_bytes P F old mid new answer same loads = (
  loads.bytes ∙ same,
  subst (λ (bs : List ℕ). LoadsTo (P bs) (F bs mid.at) answer new.at) same loads.tells,
)

module _ (rows : List TypeRow) (head : Head) where
  abbrev segments : ℕ → Fields fields.Body
  segments n = times n (segment_fields head rows) (empty_body head.limit)

  heap_then : (bytes : List ℕ) (o : ℕ) → heap_fields head rows bytes o
      ≡ found_then bytes (λ n bytes next. found_then bytes (has_needed o) (segments n bytes next))
      (field (is_from_to 2 4096) bytes o)
  unfolding heap_fields
  heap_then bytes o = refl

  pub count_fails : (B : Type 0) (P : fields.Body → Type 0) (bytes : List ℕ) (o : ℕ) (e : LoadFault) (next n : ℕ)
      → Tells {B = ℕ} (λ x. x) (field (is_from_to 2 4096) bytes o) (Err e) n
      → LoadsTo {B = B} P (heap_fields head rows bytes o) (Err e) next
  count_fails B P bytes o NoMemory next n tells = tt
  count_fails B P bytes o (At a) next n tells =
      heap_then bytes o
      ∙ ap (found_then bytes (λ n bytes next. found_then bytes (has_needed o) (segments n bytes next))) tells

  module _ (bytes : List ℕ) (o n mid : ℕ) (count : field (is_from_to 2 4096) bytes o ≡ found n mid) where
    counted : heap_fields head rows bytes o ≡ found_then bytes (has_needed o) (segments n bytes mid)
    counted =
        heap_then bytes o
        ∙ ap (found_then bytes (λ n bytes next. found_then bytes (has_needed o) (segments n bytes next))) count

    pub segments_fail : (B C : Type 0) (P Q : fields.Body → Type 0) (e : LoadFault) (next m : ℕ)
        → LoadsTo {B = C} Q (segments n bytes mid) (Err e) m
        → LoadsTo {B = B} P (heap_fields head rows bytes o) (Err e) next
    segments_fail B C P Q NoMemory next m tells = tt
    segments_fail B C P Q (At a) next m tells = counted ∙ ap (found_then bytes (has_needed o)) tells

    module _ (C : Type 0) (Q : fields.Body → Type 0) (y : C) (next : ℕ)
        (read : LoadsTo {B = C} Q (segments n bytes mid) (Ok y) next) where
      needed : heap_fields head rows bytes o ≡ has_needed o read.0 bytes next
      needed = counted ∙ ap (found_then bytes (has_needed o)) read.1

      pub heap_found : (B : Type 0) (x : B)
          → (has_kind Ephemeral read.0.heap.segments && has_kind Large read.0.heap.segments) ≡ true
          → LoadsTo {B = B} Q (heap_fields head rows bytes o) (Ok x) next
      heap_found B x on = (
        read.0,
        needed ∙ ap (λ (t : Bool). if t then found read.0 next else fault o) on,
        read.2,
      )

      pub heap_lacks : (has_kind Ephemeral read.0.heap.segments && has_kind Large read.0.heap.segments) ≡ false
          → heap_fields head rows bytes o ≡ fault o
      heap_lacks off = needed ∙ ap (λ (t : Bool). if t then found read.0 next else fault o) off

pub no_start : (x : ℕ) → has_start [] x ≡ false
unfolding has_start
no_start x = refl
