-- What follows on a sweep or a compaction: the slide of the large heap, and the release of segments.
use Rattle.std.proofs.Common.{◌≡◌, ℕ, ◌==◌, Bool, true, false, if◌then◌else◌, [], refl, ap, ap₂, sym, ◌∙◌, subst}
use Rattle.std.proofs.Common.{Some}
use Rattle.std.specs.Prelude.{MatchBool}
use Rattle.std.specs.FinMap.{FinMap}
use Rattle.std.specs.Ordering.{nat_cmp}
use Rattle.std.proofs.Common.{List}
use Rattle.std.proofs.lemmas.Bool.{eqb-true}
use Rattle.clr_types.specs.Segments.{Layout, rest_pieces}
use Rattle.clr_types.specs.Types.{TypeRow}
use Rattle.clr_types.specs.declared.handle.Handle.{Handle}
use Rattle.clr_ctx.specs.Contexts.{IsIndex}
use Rattle.clr_final.specs.Queues.{Queues}
use Rattle.clr_heap.specs.View.{HeapView, IsHeap, no_rests}
use Rattle.clr_model.specs.Collection.{ended, released, SlidesIf}
use Rattle.clr_model.specs.Lawful.{IsLaid, IsPlaceNamed}
use Rattle.clr_model.specs.Machine.{Machine}
use Rattle.clr_model.specs.Picture.{picture}
use Rattle.clr_view.specs.View.{IsHeld, layout_in, tail_of}
use Rattle.clr_view.specs.Memory.{IsMemoryOf}
use Rattle.clr_view.specs.World.{IsWorldOf, World}
use Rattle.clr_model.proofs.SeenStands.{picture_still}
use Rattle.clr_survivors.specs.Large.{HaveSlid}
use Rattle.clr_collect.specs.Collecting.{world_with}
use Rattle.clr_collect.specs.Released.{HasObjects, HasReleased}
use Rattle.clr_collect.proofs.AfterRelease.{lost}
use Rattle.clr_collect.proofs.NeededSegments.{released_layout}
use Rattle.clr_collect.proofs.ReleasedTails.{released_tail}
use Rattle.clr_collect.proofs.SegmentsLost.{lost_objects}
use Rattle.clr_collect.proofs.SlidTails.{slid_tail}
use Rattle.clr_collect.proofs.SlidWorld.{slid_world}
use Rattle.clr_collect.proofs.YoungItems.{none_young}

-- ---- the slide

no-pieces : rest_pieces no_rests ≡ []
no-pieces = refl

-- no slide leaves the world as it is
pub stays_unslid : (w : World) (slides : Bool) → slides ≡ false → (n : Machine) → IsWorldOf w n → IsPlaceNamed n
    → (slid : Machine) × SlidesIf slides n slid × IsWorldOf w (picture slid)
stays_unslid w slides off n is named = (
  n,
  subst (λ (b : Bool). SlidesIf b n n) (sym off) refl,
  subst (IsWorldOf w) (sym (picture_still n named)) is,
)

module _ (rows : List TypeRow) (old new : HeapView) (locals locals_after : List ℕ)
    (table table_after : FinMap nat_cmp Handle) (queues queues_after : Queues) (none : old.rests ≡ no_rests)
    (moved : (n : Machine) → IsMemoryOf rows old n → IsLaid n → n.handles ≡ table
    → HaveSlid (world_with rows old locals table queues) (world_with rows new locals_after table_after queues_after) n)
  where
    -- and one takes it to that of the machine that slid
    pub slides_so : (slides : Bool) → slides ≡ true → (n : Machine)
        → IsWorldOf (world_with rows old locals table queues) n → IsPlaceNamed n
        → (slid : Machine) × SlidesIf slides n slid
        × IsWorldOf (world_with rows new locals_after table_after queues_after) (picture slid)
    slides_so slides on n is named =
        let bare : rest_pieces n.layout.rests ≡ [] =
        ap (λ (l : Layout). rest_pieces l.rests) is.memory.layout ∙ ap rest_pieces none ∙ no-pieces in
        let (slid, s, world) = slid_world rows old new locals locals_after table table_after queues queues_after n is
        named bare (moved n is.memory named.lawful.laid is.handles) in
        (slid, subst (λ (b : Bool). SlidesIf b n slid) (sym on) s, world)

    pub tail_slid : (n : Machine) × IsWorldOf (world_with rows old locals table queues) n × IsPlaceNamed n
        → old.start0 ≡ tail_of old → new.start0 ≡ tail_of new
    tail_slid (n, is, named) =
        slid_tail (world_with rows old locals table queues) (world_with rows new locals_after table_after queues_after)
        n is.memory named.lawful.laid (moved n is.memory named.lawful.laid is.handles)

-- ---- the release

module _ (rows : List TypeRow) (slid : HeapView) (heap : IsHeap slid) (held : IsHeld rows slid) (new : HeapView) (g : ℕ)
    (ended_so : MatchBool (g == 2) (HasReleased rows slid new) (new ≡ slid)) where
  -- generation 0 is as empty as before
  pub tail_ended : slid.start0 ≡ tail_of slid → new.start0 ≡ tail_of new
  tail_ended empty = go (g == 2) ended_so
    where
      go : (b : Bool) → MatchBool b (HasReleased rows slid new) (new ≡ slid) → new.start0 ≡ tail_of new
      go true r = released_tail rows slid new r empty
      go false same = subst (λ (h : HeapView). h.start0 ≡ tail_of h) (sym same) empty

  pub index_ended : IsHeap new → slid.start0 ≡ tail_of slid → IsIndex rows new (Some [])
  index_ended new_heap empty =
      sym (none_young rows new new_heap (lost rows slid heap held new g ended_so).held (tail_ended empty))

  -- the world is that of a machine without the segments
  pub world_ended : (locals : List ℕ) (table : FinMap nat_cmp Handle) (queues : Queues)
      → (g ≡ 2 → HasObjects rows slid) → (n : Machine) → IsWorldOf (world_with rows slid locals table queues) n
      → IsWorldOf (world_with rows new locals table queues) (ended g n)
  world_ended locals table queues full n is = record {
    memory = record {
      types = is.memory.types;
      objects = is.memory.objects
          ∙ sym (lost_objects rows slid new heap held (lost rows slid heap held new g ended_so));
      layout = go (g == 2) refl ended_so;
    };
    locals = is.locals;
    handles = is.handles;
    entries = is.entries;
    ready = is.ready;
  }
    where
      go : (b : Bool) → (g == 2) ≡ b → MatchBool b (HasReleased rows slid new) (new ≡ slid)
          → (if b then released n.layout n.objects else n.layout) ≡ layout_in rows new
      go true e r =
          ap₂ released is.memory.layout is.memory.objects
          ∙ sym (released_layout rows slid heap held new (full (eqb-true g 2 e)) r)
      go false e same = is.memory.layout ∙ ap (layout_in rows) (sym same)
