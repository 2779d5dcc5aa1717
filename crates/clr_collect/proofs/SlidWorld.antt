-- The world after a slide of the large heap, of the machine that slid.
use Rattle.std.proofs.Common.{◌≡◌, ℕ, Bool, true, List, [], ◌∷◌, map, refl, ap, sym, ◌∙◌, inr}
use Rattle.std.specs.FinMap.{FinMap}
use Rattle.std.specs.Ordering.{nat_cmp}
use Rattle.clr_types.specs.Maps.{map_values}
use Rattle.clr_types.specs.Rising.{IsIn, sorted_by}
use Rattle.clr_types.specs.Segments.{rest_pieces}
use Rattle.clr_types.specs.Types.{TypeRow}
use Rattle.clr_types.specs.declared.handle.Handle.{Handle}
use Rattle.clr_types.proofs.RisingLists.{all_at}
use Rattle.clr_final.specs.Queues.{Queues}
use Rattle.clr_handles.specs.Laws.{relocated}
use Rattle.clr_heap.specs.View.{HeapView}
use Rattle.clr_model.specs.Collection.{objects_after}
use Rattle.clr_model.specs.Compaction.{Move, moved_by}
use Rattle.clr_model.specs.Lawful.{IsPlaceNamed}
use Rattle.clr_model.specs.Machine.{Machine, Object}
use Rattle.clr_model.specs.Picture.{picture}
use Rattle.clr_model.specs.Slide.{slid_object, SlidesLarge}
use Rattle.clr_model.proofs.NamedWell.{AreNamed, lawful-named}
use Rattle.clr_model.proofs.SlidLaid.{all_stay}
use Rattle.clr_model.proofs.SlidLawful.{slide_stays_lawful}
use Rattle.clr_view.specs.View.{objects_in}
use Rattle.clr_view.specs.World.{IsWorldOf}
use Rattle.clr_moves.specs.Objects.{moved_object, relocated_object}
use Rattle.clr_survivors.specs.Large.{HaveSlid}
use Rattle.clr_collect.specs.Collecting.{world_with}
use Rattle.clr_collect.proofs.MovedNames.{names-go, objects-go, rows-go}

map-same : (os : List Object) → map (slid_object []) os ≡ os
map-same [] = refl
map-same (o ∷ os) = ap (λ (qs : List Object). o ∷ qs) (map-same os)

module _ (rows : List TypeRow) (old new : HeapView) (locals locals_after : List ℕ)
    (table table_after : FinMap nat_cmp Handle) (queues queues_after : Queues) (n : Machine)
    (is : IsWorldOf (world_with rows old locals table queues) n) (named : IsPlaceNamed n)
    (bare : rest_pieces n.layout.rests ≡ [])
    (s : HaveSlid (world_with rows old locals table queues) (world_with rows new locals_after table_after queues_after)
    n) where
  abbrev slid : Machine
  slid = record n { objects = map (slid_object s.moves) n.objects; layout = s.after }

  slides : SlidesLarge n s.moves slid
  slides = record { layout = s.after; slid = s.slid; state = refl }

  sound : AreNamed slid
  sound = lawful-named slid (slide_stays_lawful n s.moves slid named.lawful bare slides)

  abbrev all : ℕ → Bool
  all = λ name. true

  places : (o : Object) → IsIn o n.objects → o.name ≡ o.place
  places o i = all_at (λ (q : Object). q.name ≡ q.place) i named.places

  stay : slid.objects ≡ objects_after n all all s.moves
  stay = sym (all_stay n s.moves)

  objects-are : (picture slid).objects ≡ objects_in rows new
  objects-are =
      ap (sorted_by (λ (o : Object). o.name))
      (objects-go n places all all s.moves slid stay sound s.null
      ∙ ap (map (λ o. moved_object s.moves (relocated_object s.moves o)))
      (all_stay n [] ∙ map-same n.objects ∙ is.memory.objects))
      ∙ sym s.objects

  -- THE WORLD is that of the machine whose large heap slid
  pub slid_world : (next : Machine) × ((moves : List Move) × SlidesLarge n moves next)
      × IsWorldOf (world_with rows new locals_after table_after queues_after) (picture next)
  slid_world = (
    slid,
    (s.moves, slides),
    record {
      memory = record { types = is.memory.types; objects = objects-are; layout = sym s.layout };
      locals =
          names-go n places all all s.moves slid stay sound s.null n.locals sound.locals
          ∙ ap (map (moved_by s.moves)) is.locals ∙ sym s.locals;
      handles =
          rows-go n places all all s.moves slid stay sound s.null n.handles sound.handles
          ∙ ap (map_values (relocated (moved_by s.moves))) is.handles ∙ sym s.handles;
      entries =
          names-go n places all all s.moves slid stay sound s.null n.entries (λ x i. inr (sound.entries x i))
          ∙ ap (map (moved_by s.moves)) is.entries ∙ sym s.entries;
      ready =
          names-go n places all all s.moves slid stay sound s.null n.ready sound.ready
          ∙ ap (map (moved_by s.moves)) is.ready ∙ sym s.ready;
    },
  )
