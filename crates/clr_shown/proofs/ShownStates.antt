-- What is shown of the image of a state.
use Rattle.std.proofs.Common.{◌≡◌, ℕ, ◌++◌, ◌∷◌, [], List, None, Bool, refl, sym, ap, ap₂, ◌∙◌}
use Rattle.std.specs.Prelude.{Option, replicate}
use Rattle.std.specs.FinMap as finmap
use Rattle.std.specs.FinMap.{FinMap}
use Rattle.std.specs.Ordering.{nat_cmp}
use Rattle.clr_types.specs.Ranges.{by_place, Piece}
use Rattle.clr_types.specs.Segments.{Layout, rest_pieces}
use Rattle.clr_types.specs.declared.handle.Handle.{Handle}
use Rattle.clr_types.proofs.ChangedLists.{all_imply, sorted_by-done, sorted_by-sorted}
use Rattle.clr_heap.specs.Drafts.{empty_heap}
use Rattle.clr_heap.specs.View.{HeapView}
use Rattle.clr_model.specs.Lawful.{IsPlaceNamed, IsShaped}
use Rattle.clr_model.specs.Listing.{listing}
use Rattle.clr_model.specs.Machine.{Machine, Object}
use Rattle.clr_model.proofs.RootsChanged.{shaped_alike}
use Rattle.clr_view.specs.View.{free_among, objects_in}
use Rattle.clr_format.specs.Saved.{image_bytes, without_rests}
use Rattle.clr_format.specs.TableFields.{Tables}
use Rattle.clr_save.specs.SavedImages.{AreMachineParts}
use Rattle.clr_save.specs.WrittenHeap.{heap_after, heap_behind, WrittenSegment}
use Rattle.clr_save.proofs.SavedImages.{parts-say, w}
use Rattle.clr_image.specs.Texts.{shown_text}
use Rattle.clr_opened.proofs.FreeListed.{free-listed}
use Rattle.clr_opened.proofs.OpenedParts.{map-opened}
use Rattle.clr_opened.proofs.SavedObjects.{items-read, parts-written, saved-objects}
use Rattle.clr_shown.specs.Laws.{ShownLaw}
use Rattle.clr_shown.proofs.AlikeTexts.{texts-alike}

-- the contexts of so many threads, of which none has one
abbrev no_contexts : ℕ → List (Option Piece)
no_contexts threads = replicate threads None

-- segments that are added to a heap bring no contexts
rests-after : (h : HeapView) (ws : List WrittenSegment) → (heap_after h ws).rests ≡ h.rests
rests-after h [] = refl
rests-after h (x ∷ ws) = rests-after (heap_behind h x) ws

-- the free items of the state without contexts are its own and what was left of contexts
free-without : (m : Machine) → IsPlaceNamed m → free_among (listing (without_rests m)) ≡ (without_rests m).layout.free
free-without m sound =
    let place : Piece → ℕ = λ p. p.place in
    let all = m.layout.free ++ rest_pieces m.layout.rests in
    free-listed (without_rests m)
    (all_imply (IsShaped m) (IsShaped (without_rests m)) m.objects
    (λ (o : Object). shaped_alike m (without_rests m) o refl) sound.lawful.shapes)
    ∙ sorted_by-done place (by_place all) (sorted_by-sorted place all)

-- handle tables with the same entries are the same
handles-same : (a b : FinMap nat_cmp Handle) → finmap.entries a ≡ finmap.entries b → a ≡ b
handles-same a b e = sym (map-opened a) ∙ ap finmap.from_entries e ∙ map-opened b

-- a machine with what the image of a state says shows what the state without contexts does
pub shown-same : ShownLaw
shown-same s m heap shows sound few_entries few_ready fit image p is parts image_heap text inspected =
    let (seen, has, said) = inspected in
    let ww = w s m heap shows sound few_entries few_ready in
    let are = parts-written s m heap shows sound few_entries few_ready p is in
    let says : AreMachineParts m p = parts-say s m heap shows sound few_entries few_ready p are in
    let objects = saved-objects s m heap shows sound few_entries few_ready fit image p is parts image_heap in
    let laid = let lawful = sound.lawful in let l = lawful.laid in l.layout in
    let free = ap free_among (items-read (image_bytes m) image p is parts image_heap ∙ says.items)
    ∙ free-without m sound in
    let rests = ap (λ (h : HeapView). h.rests) are.body.heap ∙ rests-after (empty_heap ww.head.limit) ww.segments
    ∙ ap no_contexts (sym laid.threads) in
    said ∙ ap (λ (first : Bool). shown_text first seen) says.second
    ∙ texts-alike seen (without_rests m) (record {
      types = has.types ∙ says.types;
      objects = has.objects ∙ sym (ap₂ objects_in parts.types parts.heap) ∙ objects;
      segments = ap (λ (l : Layout). l.segments) has.layout ∙ says.segments;
      start1 = ap (λ (l : Layout). l.start1) has.layout ∙ says.start1;
      start0 = ap (λ (l : Layout). l.start0) has.layout ∙ says.start0;
      free = ap (λ (l : Layout). l.free) has.layout ∙ free;
      rests = ap (λ (l : Layout). l.rests) has.layout ∙ rests;
      handles = handles-same seen.handles m.handles (has.handles ∙ ap (λ (t : Tables). t.handles) says.tables);
      entries = has.entries ∙ ap (λ (t : Tables). t.entries) says.tables;
      ready = has.ready ∙ ap (λ (t : Tables). t.ready) says.tables;
      limit = has.limit ∙ says.limit;
    })
