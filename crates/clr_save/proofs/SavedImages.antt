-- The image of a lawful machine that a snapshot shows is an image, and says what the machine is.
use Rattle.std.proofs.Common.{◌≡◌, ℕ, ◌^◌, ◌<◌, true, false, List, [], ◌++◌, length, refl}
use Rattle.std.proofs.Common.{ap, ap₂, sym, ◌∙◌, subst, arith, le-leb}
use Rattle.std.specs.FinMap as finmap
use Rattle.std.specs.List.{AllByRecursion, flat_map}
use Rattle.clr_types.specs.Rising.{IsIn}
use Rattle.clr_types.specs.Segments.{generation, Layout}
use Rattle.clr_types.specs.Types.{TypeRow}
use Rattle.clr_types.specs.declared.item.Item.{Item}
use Rattle.clr_heap.specs.View.{frame, HeapView, IsHeap, listing, segment_at}
use Rattle.clr_model.specs.Lawful.{IsLawful, IsPlaceNamed}
use Rattle.clr_model.specs.Machine.{Machine}
use Rattle.clr_view.specs.View.{is_object}
use Rattle.clr_sos.specs.CellScans.{suits_object}
use Rattle.clr_sos.specs.Faults.{is_name}
use Rattle.clr_format.specs.declared.head.Head.{Head}
use Rattle.clr_format.specs.Images.{IsImage, Parts}
use Rattle.clr_format.specs.NameTests as tests
use Rattle.clr_format.specs.Saved.{image_bytes, type_bytes, word_bytes, words_bytes}
use Rattle.clr_save.specs.Contents.{bytes_of, Contents, saved}
use Rattle.clr_save.specs.SavedImages.{AreMachineParts, IsImageOf, tables_of}
use Rattle.clr_save.specs.Snapshots.{Shows, steps_of}
use Rattle.clr_save.specs.Writable.{AreWritten, AreWrittenTables, IsWrittenHead}
use Rattle.clr_save.specs.Written.{bytes_of_tables, head_bytes}
use Rattle.clr_save.specs.WrittenHeap.{IsFilled, names_in_segments}
use Rattle.clr_save.specs.WrittenImage.{ArePartsOf, heap_of, IsWritten, items_of, Passes, written_bytes, WrittenImage}
use Rattle.clr_save.specs.declared.snapshot.Snapshot.{Snapshot}
use Rattle.clr_save.proofs.SavedBytes.{listed}
use Rattle.clr_save.proofs.SavedFills.{bytes-from, items-from, length-from, segment-filled, written_from}
use Rattle.clr_save.proofs.SavedFills.{written_segment}
use Rattle.clr_save.proofs.SavedHeads.{are-written, heap-segments, starts-are}
use Rattle.clr_save.proofs.SavedMachine.{image_is}
use Rattle.clr_save.proofs.SavedNames.{image_items}
use Rattle.clr_save.proofs.SavedPlaces.{item-whole, object-cell}
use Rattle.clr_save.proofs.SavedReferences.{references-named}
use Rattle.clr_save.proofs.SavedSteps.{all-pass, all-written, length-steps}
use Rattle.clr_save.proofs.SavedTables.{handles-pass, handles-written, holder-is, locals-fit, locals-pass, places-fit}
use Rattle.clr_save.proofs.SavedTables.{queue-pass}
use Rattle.clr_save.proofs.Snapshots.{contents-are}
use Rattle.clr_save.proofs.WrittenImage.{image_law}
use Rattle.clr_save.proofs.ShownState.{nothing-wrong, saved_machine, saved-lawful}

-- ---- contents as they are written

abbrev written_of : Contents → WrittenImage
written_of c = record {
  head = c.head;
  types = c.types;
  segments = written_from c.types c.heap 0 (length c.heap.segments);
  locals = c.locals;
  tables = c.tables;
}

written-are : (c : Contents) → written_bytes (written_of c) ≡ bytes_of c
unfolding written_bytes bytes_of
written-are c =
    let count = length-from c.types c.heap 0 (length c.heap.segments) in
    let same = bytes-from c.types c.heap 0 (length c.heap.segments) in
    ap₂ (λ (n : ℕ) (bs : List ℕ). head_bytes c.head ++ ((word_bytes (length c.types) ++ flat_map type_bytes c.types)
    ++ ((word_bytes n ++ bs) ++ (words_bytes c.locals ++ bytes_of_tables c.tables)))) count same

-- ---- a lawful machine

module _ (s : Snapshot) (m0 : Machine) (heap : IsHeap s.heap.now) (shows : Shows s m0) (sound : IsPlaceNamed m0)
    (few_entries : length s.finals.now.entries < 2 ^ 64) (few_ready : length s.finals.now.ready < 2 ^ 64) where
  abbrev m : Machine
  m = saved_machine s m0

  abbrev rows : List TypeRow
  rows = s.types.now

  abbrev h : HeapView
  h = s.heap.now

  abbrev lawful : IsLawful m
  lawful = saved-lawful s m0 heap shows sound

  abbrev head : Head
  head = record {
    limit = m0.options.limit;
    large = m0.options.large;
    compact_large = m0.compacts_large;
    first = false;
  }

  -- what is written of the machine
  abbrev contents : Contents
  contents = record { head = head; types = rows; heap = h; locals = m.locals; tables = tables_of m }

  head-written : IsWrittenHead head
  head-written =
      let o = lawful.options in
      let segment = o.segment_least in
      let limit = o.limit_least in
      let most = o.limit_greatest in
      let large = o.large_least in
      let below = o.large_greatest in
      let top = o.segment_greatest in
      let a = le-leb 524288 m0.options.limit (omega arith) in
      let b = le-leb m0.options.limit 1073741824 most in
      let c = le-leb 85000 m0.options.large large in
      let d = le-leb m0.options.large 67104768 (omega arith) in
      record { limit = rw (a, b) refl; large = rw (c, d) refl; second = refl }

  types-written : AreWritten rows
  types-written = record {
    few = lawful.type_count;
    lawful = lawful.types;
    names = lawful.type_words;
    distinct = lawful.type_names;
  }

  fits : (k : ℕ) → k < length h.segments → (i : Item) → IsIn i (listing rows h k) → is_object i ≡ true
      → suits_object m0.options.large (segment_at h k).kind i.size ≡ true
  fits k l i here object =
      ap (λ (n : ℕ). suits_object n (segment_at h k).kind i.size) shows.seen.large
      ∙ ((nothing-wrong s m0 heap shows sound).placed k i l here).suits object

  pub filled : (k : ℕ) → k < length h.segments → IsFilled head rows (written_segment rows h k)
  filled k l =
      let laid = lawful.laid in
      segment-filled rows h heap head lawful.type_count k l (shows.held.walkable k l)
      (object-cell rows h heap shows.held m0.options.large k l laid.whole1 laid.whole0 (fits k l) shows.unmarked
      shows.clean lawful.types (λ i here. ((nothing-wrong s m0 heap shows sound).placed k i l here).held))
      (item-whole rows h heap shows.held m0.options.large k l laid.whole1 laid.whole0 (fits k l))

  -- ---- what is read back

  abbrev pub w : WrittenImage
  w = written_of contents

  items-are : image_items rows h heap shows.held ≡ items_of w
  items-are = sym (items-from rows h 0 (length h.segments))

  segments-are : (heap_of w).segments ≡ h.segments
  segments-are =
      heap-segments rows h heap head head-written lawful.limit (nothing-wrong s m0 heap shows sound).bounds
      lawful.laid.layout.some_large filled

  -- places have the same generations
  same-young : (x : ℕ) → generation (frame (heap_of w)) x ≡ generation (frame h) x
  same-young x =
      let starts = starts-are rows h heap head.limit in
      λ j. generation (record {
        segments = segments-are j;
        start1 = starts.start1 j;
        start0 = starts.start0 j;
        free = [];
        rests = (heap_of w).rests;
        top = (heap_of w).top;
      }) x

  tables-written : AreWrittenTables rows head.large (tables_of m)
  tables-written = record {
    holder = holder-is m0.holder lawful.holder;
    threads = length-steps m.layout 1 m0.steps ∙ lawful.steps;
    steps = all-written s m0 heap shows.held lawful;
    few_handles = let count = finmap.len-entries m.handles in let few = lawful.handle_count in
        omega (arith, count, few);
    handles = handles-written s m0 heap shows.held lawful;
    entries = record {
      count = few_entries;
      each = places-fit s m0 heap shows.held lawful m.entries lawful.names.entries;
    };
    ready = record {
      count = few_ready;
      each = places-fit s m0 heap shows.held lawful m.ready lawful.names.ready;
    };
  }

  -- THE CONTENTS of a lawful machine may be written
  pub written : IsWritten w
  written = record {
    head = head-written;
    types = types-written;
    segments = are-written rows h heap head head-written lawful.limit (nothing-wrong s m0 heap shows sound).bounds
        lawful.laid.layout.some_large filled;
    threads = lawful.locals;
    words = locals-fit s m0 heap shows.held lawful;
    tables = tables-written;
    references = subst (λ (items : List Item). AllByRecursion (λ (place : ℕ). is_name items place ≡ true)
        (names_in_segments rows w.segments))
        items-are (references-named rows h heap shows.held head lawful.type_count
        (nothing-wrong s m0 heap shows sound).references);
    locals = subst (λ (items : List Item). Passes (tests.name_tests items) m.locals) items-are
        (locals-pass s m0 heap shows.held lawful);
    steps = subst (λ (items : List Item). Passes (tests.step_tests rows items (heap_of w))
        (tests.with_earlier [] (tables_of m).steps)) items-are
        (all-pass s m0 heap shows.held lawful (heap_of w) same-young);
    handles = subst (λ (items : List Item). Passes (tests.handle_tests items) (tables_of m).handles) items-are
        (handles-pass s m0 heap shows.held lawful);
    entries = subst (λ (items : List Item). Passes (tests.final_tests rows items) m.entries) items-are
        (queue-pass s m0 heap shows.held lawful m.entries lawful.names.entries lawful.entries);
    ready = subst (λ (items : List Item). Passes (tests.final_tests rows items) m.ready) items-are
        (queue-pass s m0 heap shows.held lawful m.ready lawful.names.ready lawful.ready);
  }

  -- it is what is saved
  contents-same : saved s ≡ contents
  contents-same =
      let seen = shows.seen in
      let steps : steps_of m.layout 1 m0.steps ≡ s.steps.now =
      ap (λ (l : Layout). steps_of l 1 m0.steps) (sym seen.layout) ∙ seen.steps in
      λ j. record {
        head = record {
          limit = sym seen.limit j;
          large = sym seen.large j;
          compact_large = sym seen.compact_large j;
          first = false;
        };
        types = rows;
        heap = h;
        locals = m.locals;
        tables = record {
          holder = sym seen.holder j;
          steps = sym steps j;
          handles = finmap.entries m.handles;
          entries = m.entries;
          ready = m.ready;
        };
      }

  pub bytes-are : written_bytes w ≡ image_bytes m0
  bytes-are = written-are contents ∙ ap bytes_of (sym contents-same)
      ∙ image_is m0 (saved s) (contents-are s m0 heap shows)

  pub parts-say : (p : Parts) → ArePartsOf w p → AreMachineParts m0 p
  parts-say p are =
      let seen = shows.seen in
      let starts = starts-are rows h heap head.limit in
      let body = are.body in
      record {
        limit = ap (λ (x : Head). x.limit) are.head;
        large = ap (λ (x : Head). x.large) are.head;
        compact_large = ap (λ (x : Head). x.compact_large) are.head;
        second = ap (λ (x : Head). x.first) are.head;
        types = are.types ∙ sym seen.types;
        items = body.items ∙ sym items-are
            ∙ sym (listed rows h heap shows.held shows.unmarked shows.clean m0 seen.types seen.objects seen.layout);
        segments = ap (λ (x : HeapView). x.segments) body.heap ∙ segments-are
            ∙ ap (λ (l : Layout). l.segments) (sym seen.layout);
        start1 = ap (λ (x : HeapView). x.start1) body.heap ∙ starts.start1
            ∙ ap (λ (l : Layout). l.start1) (sym seen.layout);
        start0 = ap (λ (x : HeapView). x.start0) body.heap ∙ starts.start0
            ∙ ap (λ (l : Layout). l.start0) (sym seen.layout);
        locals = are.locals ∙ sym seen.locals;
        tables = are.tables ∙ (λ j. record {
          holder = m0.holder;
          steps = steps_of (sym seen.layout j) 1 m0.steps;
          handles = finmap.entries (sym seen.handles j);
          entries = sym seen.entries j;
          ready = sym seen.ready j;
        });
      }

  -- THE IMAGE of a lawful machine is one, and says what the machine is
  pub image-lawful : IsImageOf m0 (image_bytes m0)
  image-lawful =
      let (p, image, are) = image_law w written in
      record {
        parts = p;
        image = subst (λ (bytes : List ℕ). IsImage bytes p) bytes-are image;
        says = parts-say p are;
      }
