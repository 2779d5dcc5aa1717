-- What is opened of a machine's image is what an image keeps of it.
use Rattle.std.proofs.Common.{◌≡◌, ℕ, ◌+◌, List, [], ◌∷◌, ◌++◌, filter, map, not, refl, sym, ap, ◌∙◌, arith}
use Rattle.std.specs.Prelude.{None, slice_get}
use Rattle.std.specs.List.{flat_map}
use Rattle.clr_types.specs.Ranges.{by_place, Piece}
use Rattle.clr_types.specs.Segments.{ephemeral, rest_pieces, reserved_end}
use Rattle.clr_types.specs.declared.segment.SegInfo.{SegInfo}
use Rattle.clr_types.proofs.ChangedLists.{all_imply, sorted_by-done, sorted_by-sorted}
use Rattle.clr_heap.specs.Drafts.{empty_heap}
use Rattle.clr_heap.specs.View.{HeapView}
use Rattle.clr_model.specs.Lawful.{IsPlaceNamed, IsShaped}
use Rattle.clr_model.specs.Listing.{listing}
use Rattle.clr_model.specs.Machine.{Machine, Object}
use Rattle.clr_model.proofs.RootsChanged.{shaped_alike}
use Rattle.clr_view.specs.View.{free_among, free_in}
use Rattle.clr_format.specs.NameTests.{fronts_of, is_among}
use Rattle.clr_format.specs.Saved.{image_bytes, without_rests}
use Rattle.clr_format.specs.TableFields.{Tables}
use Rattle.clr_save.specs.WrittenHeap.{heap_after, heap_behind, WrittenSegment}
use Rattle.clr_save.specs.Snapshots.{steps_of}
use Rattle.clr_save.proofs.SavedImages.{parts-say, w}
use Rattle.clr_settled.specs.Settled.{highest_end, no_sums, settled}
use Rattle.clr_settled.proofs.SettledLawful.{free-kept, placed}
use Rattle.clr_opened.specs.Laws.{ReopenedLaw}
use Rattle.clr_opened.specs.Opened.{front_rest}
use Rattle.clr_opened.proofs.FreeListed.{context-found, free-left, free-listed}
use Rattle.clr_opened.proofs.OpenedParts.{opened-parts}
use Rattle.clr_opened.proofs.OpenedRests.{fronts-kept, rests-opened}
use Rattle.clr_opened.proofs.SavedObjects.{items-read, parts-written}

-- ---- where the next segment begins

-- a segment behind all others is the last one
highest-last : (ss : List SegInfo) (s : SegInfo) → highest_end (ss ++ s ∷ []) ≡ reserved_end s
highest-last [] s = refl
highest-last (x ∷ []) s = refl
highest-last (x ∷ y ∷ ss) s = highest-last (y ∷ ss) s

-- in a heap to which segments are added one after the other, it begins behind the last one
top-last : (h : HeapView) (ws : List WrittenSegment) → h.top ≡ highest_end h.segments
    → (heap_after h ws).top ≡ highest_end (heap_after h ws).segments
top-last h [] is = is
top-last h (w ∷ ws) is = top-last (heap_behind h w) ws (sym (highest-last h.segments w.head.info))

-- ---- free items and contexts

-- ranges that are in order stay as they are
by_place-again : (ps : List Piece) → by_place (by_place ps) ≡ by_place ps
by_place-again ps =
    sorted_by-done (λ (p : Piece). p.place) (by_place ps) (sorted_by-sorted (λ (p : Piece). p.place) ps)

module _ (m : Machine) (sound : IsPlaceNamed m) where
  abbrev new : Machine
  new = settled m

  -- the free items of a machine's image are those of what is kept, and its contexts
  all-listed : free_among (listing (without_rests m)) ≡ by_place (new.layout.free ++ rest_pieces new.layout.rests)
  all-listed =
      let all = m.layout.free ++ rest_pieces m.layout.rests in
      free-listed (without_rests m)
      (all_imply (IsShaped m) (IsShaped (without_rests m)) m.objects
      (λ (o : Object). shaped_alike m (without_rests m) o refl) sound.lawful.shapes)
      ∙ by_place-again all ∙ sym (free-kept m sound.lawful.laid)

-- what is opened is what is kept
pub reopened-same : ReopenedLaw
reopened-same s m heap shows sound few_entries few_ready fit image p is parts image_heap b =
    let ww = w s m heap shows sound few_entries few_ready in
    let are = parts-written s m heap shows sound few_entries few_ready p is in
    let says = parts-say s m heap shows sound few_entries few_ready p are in
    let same = opened-parts s m heap shows sound few_entries few_ready fit image p is parts image_heap b in
    let lawful = sound.lawful in
    let new = settled m in
    let laid = let kept = placed m sound in let l = kept.lawful in l.laid in
    let free = free_in p.types p.body.heap in
    let listed : free ≡ by_place (new.layout.free ++ rest_pieces new.layout.rests) =
    ap free_among (items-read (image_bytes m) image p is parts image_heap ∙ says.items) ∙ all-listed m sound in
    let from : (i : ℕ) → slice_get m.layout.rests i ≡ slice_get m.layout.rests (0 + i) =
    λ i. let e : i ≡ 0 + i = omega arith in ap (slice_get m.layout.rests) e in
    let steps : p.rest.tables.steps ≡ steps_of m.layout 1 m.steps = ap (λ (t : Tables). t.steps) says.tables in
    let fronts = ap (flat_map fronts_of) steps ∙ fronts-kept m 0 m.steps m.layout.rests from lawful.rooms in
    let left = ap (λ (xs : List ℕ). filter (λ (q : Piece). not (is_among xs q.place)) free) fronts
    ∙ free-left new laid free listed in
    let threads = lawful.steps ∙ sym lawful.laid.layout.threads in
    let rests = ap (map (front_rest free)) steps
    ∙ rests-opened m free 0 m.steps m.layout.rests from lawful.rooms threads (context-found new laid free listed) in
    let top = ap (λ (h : HeapView). h.top) are.body.heap ∙ top-last (empty_heap ww.head.limit) ww.segments refl
    ∙ ap (λ (h : HeapView). highest_end h.segments) (sym are.body.heap) ∙ ap highest_end same.segments in
    let segment = ap (λ (ss : List SegInfo). (ephemeral (record m.layout { segments = ss })).reserved) same.segments in
    λ i. record {
      types = same.types i;
      born = sym sound.uncounted i;
      objects = same.objects i;
      locals = same.locals i;
      handles = same.handles i;
      entries = same.entries i;
      ready = same.ready i;
      steps = same.steps i;
      holder = same.holder i;
      layout = record {
        segments = same.segments i;
        start1 = same.start1 i;
        start0 = same.start0 i;
        free = left i;
        rests = rests i;
        top = top i;
      };
      sums = no_sums;
      options = record {
        limit = same.limit i;
        segment = segment i;
        b0 = b.b0;
        b1 = b.b1;
        b2 = b.b2;
        bl = b.bl;
        compact = b.compact;
        large = same.large i;
      };
      compacts_large = same.compacts_large i;
      background = None;
    }
