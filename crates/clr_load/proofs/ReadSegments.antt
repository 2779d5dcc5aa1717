-- The segments that were found, one by one: what each holds, and what is made of them all.
use Rattle.std.proofs.Common.{◌≡◌, ℕ, ◌+◌, ◌-◌, ◌≤◌, Bool, true, false, ◌&&◌, ◌||◌, if◌then◌else◌, cond}
use Rattle.std.proofs.Common.{List, [], ◌∷◌, ◌++◌, map, refl, sym, ◌∙◌, ap, subst, arith, Result, Ok, Err, inl, inr}
use Rattle.std.proofs.lemmas.Bool.{and_parts, both_ways, cases_Bool}
use Rattle.std.proofs.lemmas.Bool.Decides.{nat_tests}
use Rattle.std.proofs.lemmas.List.{map-append}
use Rattle.std.specs.List.{AllByRecursion, flat_map}
use Rattle.clr_mem.specs.Words.{Memory}
use Rattle.clr_types.specs.Segments.{first_place, reserved_end, same_kind}
use Rattle.clr_types.specs.Types.{TypeRow}
use Rattle.clr_types.specs.declared.item.Item.{Item}
use Rattle.clr_types.specs.declared.segment.SegInfo.{SegInfo}
use Rattle.clr_types.specs.declared.segment.SegKind.{SegKind}
use Rattle.clr_types.specs.declared.segment.SegKind.TheVariants.{Small, Ephemeral, Large, Pinned}
use Rattle.clr_heap.specs.Drafts.{has_kind, is_young}
use Rattle.clr_heap.specs.Filled.{memory_from}
use Rattle.clr_heap.specs.View.{HeapView, no_rests}
use Rattle.clr_heap.specs.declared.heap.draft.SegmentHead.{SegmentHead}
use Rattle.clr_heap.proofs.Framing.{all_push}
use Rattle.clr_fields.specs.Fields.{fault, field, found, is_from_to, times, ◌>>=◌}
use Rattle.clr_sos.specs.CheckedCells.{checked_items}
use Rattle.clr_format.specs.HeapFields.{Body, empty_body, has_needed, heap_fields, heap_more, is_boundary}
use Rattle.clr_format.specs.HeapFields.{is_end, memory_field, memory_of, references_in, rules_with}
use Rattle.clr_format.specs.HeapFields.{segment_fields, segment_head_fields, words_from}
use Rattle.clr_format.specs.declared.head.Head.{Head}
use Rattle.clr_load.proofs.FoundFields.{both_found, times_keep}
use Rattle.clr_load.proofs.ReadHeads.{AreInOrder, head_found, none_in_order, order_more, young_first}

-- a segment that was read, where its memory stands in the bytes, and its items
pub record ReadSegment : Type 0 where
  pub head : SegmentHead
  pub at : ℕ
  pub items : List Item

module _ (bytes : List ℕ) (large : ℕ) (rows : List TypeRow) where
  -- its memory is filled with its items
  pub record IsSegmentOf (seg : ReadSegment) : Type 0 where
    pub end : is_end seg.head.info.base seg.head.info.reserved seg.head.info.end ≡ true
    pub start1 : is_boundary seg.head.info (seg.head.info.base + 0x1000) seg.head.start1 ≡ true
    pub start0 : is_boundary seg.head.info seg.head.start1 seg.head.start0 ≡ true
    pub found : checked_items (seg.head.info.end - first_place seg.head.info)
        (rules_with large rows seg.head.info seg.head.start1 seg.head.start0)
        (words_from bytes seg.head.info seg.at) (first_place seg.head.info) ≡ Ok seg.items

  abbrev pub memory_in : ReadSegment → Memory
  memory_in seg = memory_from bytes seg.head.info seg.at

  abbrev pub names_in : ReadSegment → List (ℕ × ℕ)
  names_in seg = references_in bytes rows seg.head.info seg.at seg.items

  -- where it is the ephemeral one, the boundaries are its own
  pub record HasStarts (h : HeapView) (seg : ReadSegment) : Type 0 where
    pub one : is_young seg.head.info ≡ true → h.start1 ≡ seg.head.start1
    pub zero : is_young seg.head.info ≡ true → h.start0 ≡ seg.head.start0

  -- what is read is made of these segments
  pub record IsMadeOf (b : Body) (segs : List ReadSegment) : Type 0 where
    pub segments : b.heap.segments ≡ map (λ (seg : ReadSegment). seg.head.info) segs
    pub memories : b.heap.memories ≡ map memory_in segs
    pub rests : b.heap.rests ≡ no_rests
    pub items : b.items ≡ flat_map (λ (seg : ReadSegment). seg.items) segs
    pub references : b.references ≡ flat_map names_in segs
    pub each : AllByRecursion IsSegmentOf segs
    pub starts : AllByRecursion (HasStarts b.heap) segs
    pub order : AreInOrder b.heap.segments b.heap.top

-- of what is read there are such segments
pub record IsMade (bytes : List ℕ) (large : ℕ) (rows : List TypeRow) (b : Body) : Type 0 where
  pub segs : List ReadSegment
  pub made : IsMadeOf bytes large rows b segs

flat_push : {X Y : Type 0} (f : X → List Y) (xs : List X) (x : X) → flat_map f (xs ++ x ∷ []) ≡ flat_map f xs ++ f x
flat_push f [] x = last (f x)
  where
    last : {Y : Type 0} (ys : List Y) → ys ++ [] ≡ [] ++ ys
    last [] = refl
    last (y ∷ ys) = ap (λ zs. y ∷ zs) (last ys)
flat_push f (y ∷ xs) x = ap (λ zs. f y ++ zs) (flat_push f xs x) ∙ joined (f y) (flat_map f xs) (f x)
  where
    joined : {Y : Type 0} (as_ bs cs : List Y) → as_ ++ (bs ++ cs) ≡ (as_ ++ bs) ++ cs
    joined [] bs cs = refl
    joined (a ∷ as_) bs cs = ap (λ zs. a ∷ zs) (joined as_ bs cs)

module _ (bytes : List ℕ) (head : Head) (rows : List TypeRow) where
  -- the boundaries of the earlier ones stay: where the new one is ephemeral, they have none
  starts_stay : (segs : List ReadSegment) (h new : HeapView) (s : SegmentHead)
      → new.start1 ≡ (if is_young s.info then s.start1 else h.start1)
      → new.start0 ≡ (if is_young s.info then s.start0 else h.start0)
      → (is_young s.info ≡ true → has_kind Ephemeral (map (λ (seg : ReadSegment). seg.head.info) segs) ≡ false)
      → AllByRecursion (HasStarts bytes head.large rows h) segs
      → AllByRecursion (HasStarts bytes head.large rows new) segs
  starts_stay [] h new s e1 e0 none all = tt
  starts_stay (seg ∷ segs) h new s e1 e0 none all = (
    go (is_young s.info) refl,
    starts_stay segs h new s e1 e0
        (λ young. (or_parts (same_kind Ephemeral seg.head.info.kind) _ (none young)).1) all.1,
  )
    where
      or_parts : (a b : Bool) → (a || b) ≡ false → (a ≡ false) × (b ≡ false)
      or_parts true b e = absurd cc
      or_parts false b e = (refl, e)

      turned : (kind : SegKind) → same_kind kind Ephemeral ≡ true → same_kind Ephemeral kind ≡ true
      turned Small e = e
      turned Ephemeral e = e
      turned Large e = e
      turned Pinned e = e

      swap : (seg : ReadSegment) → same_kind Ephemeral seg.head.info.kind ≡ false → is_young seg.head.info ≡ false
      swap seg e = elim (cases_Bool (is_young seg.head.info)) [
        | inr off ↦ off
        | inl on ↦ absurd (both_ways (same_kind Ephemeral seg.head.info.kind) e (turned seg.head.info.kind on))
      ]

      go : (young : Bool) → is_young s.info ≡ young → HasStarts bytes head.large rows new seg
      go true is =
          let old = swap seg (or_parts (same_kind Ephemeral seg.head.info.kind) _ (none is)).0 in
          record {
            one = λ on. absurd (both_ways (is_young seg.head.info) old on);
            zero = λ on. absurd (both_ways (is_young seg.head.info) old on);
          }
      go false is =
          record {
            one = λ on. e1 ∙ rw is (all.0.one on);
            zero = λ on. e0 ∙ rw is (all.0.zero on);
          }

  record MemoryFound (b : Body) (s : SegmentHead) (o : ℕ) (x : Body) (n : ℕ) : Type 0 where
    items : List Item
    found : checked_items (s.info.end - first_place s.info) (rules_with head.large rows s.info s.start1 s.start0)
        (words_from bytes s.info o) (first_place s.info) ≡ Ok items
    heap : x.heap ≡ heap_more bytes b.heap s.info s.start1 s.start0 o
    all : x.items ≡ b.items ++ items
    names : x.references ≡ b.references ++ references_in bytes rows s.info o items

  memory_found : (b : Body) (s : SegmentHead) (o : ℕ) (x : Body) (n : ℕ)
      → memory_field head rows b s.info s.start1 s.start0 bytes o ≡ found x n → MemoryFound b s o x n
  unfolding memory_field
  memory_found b s o x n e =
      go (checked_items (s.info.end - first_place s.info) (rules_with head.large rows s.info s.start1 s.start0)
      (words_from bytes s.info o) (first_place s.info)) refl e
    where
      go : (r : Result (List Item) ℕ) → checked_items (s.info.end - first_place s.info)
          (rules_with head.large rows s.info s.start1 s.start0) (words_from bytes s.info o) (first_place s.info) ≡ r
          → memory_of bytes rows b s.info s.start1 s.start0 o r ≡ found x n → MemoryFound b s o x n
      go (Err a) is e = absurd cc
      go (Ok items) is e =
          let same : (let y : Body = record {
            heap = heap_more bytes b.heap s.info s.start1 s.start0 o;
            offsets = b.offsets ++ o ∷ [];
            items = b.items ++ items;
            references = b.references ++ references_in bytes rows s.info o items;
          } in y) ≡ x = cc in
          record {
            items = items;
            found = is;
            heap = sym (ap (λ (y : Body). y.heap) same);
            all = sym (ap (λ (y : Body). y.items) same);
            names = sym (ap (λ (y : Body). y.references) same);
          }

  -- ONE SEGMENT MORE
  segment_more : (k : ℕ) (b : Body) (o : ℕ) (x : Body) (n : ℕ) → IsMade bytes head.large rows b
      → segment_fields head rows b bytes o ≡ found x n → IsMade bytes head.large rows x
  unfolding segment_fields
  segment_more k b o x n before e =
      let f = both_found bytes (λ (s : SegmentHead). memory_field head rows b s.info s.start1 s.start0)
      (segment_head_fields head b.heap bytes o) x n e in
      let s : SegmentHead = f.x in
      let h = head_found head b.heap bytes o f.x f.m f.one in
      let m = memory_found b f.x f.m x n f.two in
      let made = before.made in
      let seg : ReadSegment = record { head = f.x; at = f.m; items = m.items } in
      let base_test = h.base in
      let up : b.heap.top ≤ f.x.info.base = grind (arith, base_test, nat_tests) in
      let segments : x.heap.segments ≡ b.heap.segments ++ f.x.info ∷ [] = ap (λ (g : HeapView). g.segments) m.heap in
      let start1 : x.heap.start1 ≡ (if is_young f.x.info then f.x.start1 else b.heap.start1) =
      ap (λ (g : HeapView). g.start1) m.heap in
      let start0 : x.heap.start0 ≡ (if is_young f.x.info then f.x.start0 else b.heap.start0) =
      ap (λ (g : HeapView). g.start0) m.heap in
      let top : x.heap.top ≡ reserved_end f.x.info = ap (λ (g : HeapView). g.top) m.heap in
      record {
        segs = before.segs ++ seg ∷ [];
        made = record {
          segments = segments ∙ ap (λ (ss : List SegInfo). ss ++ f.x.info ∷ []) made.segments
              ∙ sym (map-append (λ (g : ReadSegment). g.head.info) before.segs (seg ∷ []));
          memories = ap (λ (g : HeapView). g.memories) m.heap
              ∙ ap (λ (ms : List Memory). ms ++ memory_from bytes f.x.info f.m ∷ []) made.memories
              ∙ sym (map-append (memory_in bytes head.large rows) before.segs (seg ∷ []));
          rests = ap (λ (g : HeapView). g.rests) m.heap ∙ made.rests;
          items = m.all ∙ ap (λ (xs : List Item). xs ++ m.items) made.items
              ∙ sym (flat_push (λ (g : ReadSegment). g.items) before.segs seg);
          references = m.names
              ∙ ap (λ (xs : List (ℕ × ℕ)). xs ++ references_in bytes rows f.x.info f.m m.items) made.references
              ∙ sym (flat_push (names_in bytes head.large rows) before.segs seg);
          each = all_push (IsSegmentOf bytes head.large rows) before.segs seg made.each (record {
            end = h.end;
            start1 = h.start1;
            start0 = h.start0;
            found = m.found;
          });
          starts = all_push (HasStarts bytes head.large rows x.heap) before.segs seg
              (starts_stay before.segs b.heap x.heap f.x start1 start0
              (λ young. ap (has_kind Ephemeral) (sym made.segments)
              ∙ young_first b.heap.segments f.x.info b.heap.top made.order up h.may young) made.starts)
              (record { one = λ on. start1 ∙ rw on refl; zero = λ on. start0 ∙ rw on refl });
          order = subst (λ (t : ℕ). AreInOrder x.heap.segments t) (sym top)
              (subst (λ (ss : List SegInfo). AreInOrder ss (reserved_end f.x.info)) (sym segments)
              (order_more b.heap.segments f.x.info b.heap.top made.order up h.may));
        };
      }

  nothing_made : IsMade bytes head.large rows (empty_body head.limit)
  nothing_made = record {
    segs = [];
    made = record {
      segments = refl;
      memories = refl;
      rests = refl;
      items = refl;
      references = refl;
      each = tt;
      starts = tt;
      order = none_in_order 0;
    };
  }

  needed_found : (o : ℕ) (body : Body) (m n : ℕ) (x : Body) → has_needed o body bytes m ≡ found x n
      → ((has_kind Ephemeral body.heap.segments && has_kind Large body.heap.segments) ≡ true) × (body ≡ x)
  needed_found o body m n x e = go (has_kind Ephemeral body.heap.segments && has_kind Large body.heap.segments) refl e
    where
      go : (t : Bool) → (has_kind Ephemeral body.heap.segments && has_kind Large body.heap.segments) ≡ t
          → cond t (found body m) (fault o) ≡ found x n
          → ((has_kind Ephemeral body.heap.segments && has_kind Large body.heap.segments) ≡ true) × (body ≡ x)
      go true is e = let same : body ≡ x = cc in (is, same)
      go false is e = absurd cc

  -- ALL SEGMENTS of an image
  pub heap_made : (o n : ℕ) (b : Body) → heap_fields head rows bytes o ≡ found b n
      → IsMade bytes head.large rows b × (has_kind Ephemeral b.heap.segments ≡ true)
  unfolding heap_fields
  heap_made o n b e =
      let f = both_found bytes (λ k. times k (segment_fields head rows) (empty_body head.limit) >>= has_needed o)
      (field (is_from_to 2 4096) bytes o) b n e in
      let g = both_found bytes (has_needed o) (times f.x (segment_fields head rows) (empty_body head.limit) bytes f.m)
      b n f.two in
      let needed = needed_found o g.x g.m n b g.two in
      let made = times_keep (segment_fields head rows) bytes (λ k s m. IsMade bytes head.large rows s)
      (λ k s o t m p e. segment_more k s o t m p e) f.x 0 (empty_body head.limit) f.m g.x g.m nothing_made g.one in (
        subst (IsMade bytes head.large rows) needed.1 made,
        ap (λ (y : Body). has_kind Ephemeral y.heap.segments) (sym needed.1)
            ∙ (and_parts (has_kind Ephemeral g.x.heap.segments) _ needed.0).0,
      )
