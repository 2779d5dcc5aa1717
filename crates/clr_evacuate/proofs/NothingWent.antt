-- Where no byte went, a fit moved nothing: objects, free items, cards and names are as before.
use Rattle.std.proofs.Common.{◌≡◌, ℕ, ◌≤◌, Bool, List, [], ◌∷◌, map, sum_by, refl, ap, sym, ◌∙◌, subst, arith}
use Rattle.std.proofs.Common.{if◌then◌else◌, Option, None, Some}
use Rattle.std.specs.FinMap as finmap
use Rattle.std.specs.FinMap.{FinMap}
use Rattle.std.specs.Option.{option_map}
use Rattle.std.specs.Ordering.{nat_cmp}
use Rattle.std.proofs.lemmas.Bool.{eq-eqb}
use Rattle.std.proofs.lemmas.List.{map-id}
use Rattle.std.proofs.lemmas.List.Sums.{sum_by-cons}
use Rattle.clr_types.specs.Maps.{map_values}
use Rattle.clr_types.specs.Rising.{first, IsIn, later, sorted_by}
use Rattle.clr_types.specs.Segments.{Layout, rest_pieces}
use Rattle.clr_types.specs.Types.{TypeRow}
use Rattle.clr_types.specs.declared.handle.Handle.{Handle}
use Rattle.clr_types.proofs.ListMembers.{from-map, map-on}
use Rattle.clr_types.proofs.MapValues.{get-map_values, map_values-same}
use Rattle.clr_types.proofs.SortedLists.{out_of_sorted_by}
use Rattle.clr_final.specs.Queues.{Queues}
use Rattle.clr_handles.specs.Laws.{relocated}
use Rattle.clr_heap.specs.View.{frame, HeapView, IsHeap}
use Rattle.clr_model.specs.Compaction.{Move, moved_by}
use Rattle.clr_model.specs.Lawful.{IsLaid}
use Rattle.clr_model.specs.Machine.{Machine, num, Object, ref, Value}
use Rattle.clr_view.specs.Memory.{IsMemoryOf}
use Rattle.clr_view.specs.View.{AreFreeHeads, IsHeld, objects_in}
use Rattle.clr_view.proofs.LeftNames.{name-is-place}
use Rattle.clr_generations.specs.Laws.{CardLaw, NamesYounger}
use Rattle.clr_moves.specs.Objects.{moved_object, relocated_object, relocated_value}
use Rattle.clr_survivors.specs.Survivors.{world_with}
use Rattle.clr_evacuate.specs.Evacuated.{HasMadeFit, HaveFitted, moves_in}
use Rattle.clr_evacuate.proofs.FittedNames.{move_tile}

-- moves of at least 24 bytes that are none together aren't there
none_there : (vs : List Move) → ((v : Move) → IsIn v vs → 24 ≤ v.size) → sum_by (λ v. v.size) vs ≡ 0 → vs ≡ []
none_there [] least none = refl
none_there (v ∷ vs) least none =
    let big = least v first in
    let sum = sum_by-cons (λ (w : Move). w.size) v vs in
    absurd (omega (arith, big, sum, none))

-- a value whose reference stays is the same
same_value : (v : Value) → relocated_value [] v ≡ v
same_value (ref place) = refl
same_value (num number) = refl

-- an object whose references stay is the same
same_slots : (o : Object) → relocated_object [] o ≡ o
same_slots o =
    ap (λ (slots : List Value). record o { slots = slots })
    (map-on (relocated_value []) (λ (v : Value). v) o.slots (λ v i. same_value v) ∙ map-id o.slots)

module _ (rows : List TypeRow) (old new : HeapView) (n : Machine) (kept : ℕ → Bool) (bytes : ℕ) (heap : IsHeap old)
    (held : IsHeld rows old) (memory : IsMemoryOf rows old n) (laid : IsLaid n)
    (bare : rest_pieces n.layout.rests ≡ []) (made : HasMadeFit rows old new n kept bytes) (none : bytes ≡ 0) where
  abbrev V : List Move
  V = moves_in n kept

  -- NO MOVE was made
  none_went : moves_in n kept ≡ []
  none_went =
      none_there V (λ v i. let (f, m, at) = move_tile n kept laid bare v i in at.size.0) (sym made.counted ∙ none)

  -- so each place stays
  stays : (x : ℕ) → moved_by V x ≡ x
  stays x = ap (λ (vs : List Move). moved_by vs x) none_went

  -- and each object
  same_object : (o : Object) → IsIn o (objects_in rows old) → moved_object V o ≡ o
  same_object o i =
      ap (λ (vs : List Move). moved_object vs o) none_went
      ∙ ap (λ (name : ℕ). record o { name = name }) (sym (name-is-place rows old o i))

  -- no object came
  in_old : (o : Object) → IsIn o (objects_in rows new) → IsIn o (objects_in rows old)
  in_old o i =
      let (was, same, listed) = from-map (moved_object V) o (objects_in rows old)
      (out_of_sorted_by (λ (q : Object). q.name) o (map (moved_object V) (objects_in rows old))
      (subst (λ (os : List Object). IsIn o os) made.objects i)) in
      subst (λ (q : Object). IsIn q (objects_in rows old)) (sym (same_object was listed) ∙ sym same) listed

  -- THE HEADS of free items are those of free space
  pub still_free_heads : AreFreeHeads rows new
  still_free_heads i listed free =
      let (header, mt) = made.forwards.free i listed free in
      let hit = eq-eqb (moved_by V i.place) i.place (stays i.place) in
      (header ∙ ap (λ (t : Bool). if t then 0 else moved_by V i.place) hit, mt)

  -- and cards obey their law, if they did
  pub still_cards : (set : ℕ → Bool) → CardLaw rows (frame old) (objects_in rows old) set
      → CardLaw rows (frame new) (objects_in rows new) set
  still_cards set law a names =
      let was : NamesYounger rows (frame new) (objects_in rows old) a = record {
        object = names.object;
        present = in_old names.object names.present;
        slot = names.slot;
        target = names.target;
        target_present = in_old names.target names.target_present;
        named = names.named;
        address = names.address;
        younger = names.younger;
      } in
      law a (subst (λ (l : Layout). NamesYounger rows l (objects_in rows old) a) (ap frame made.shape.others) was)

  -- places and names stay
  same_places : (xs : List ℕ) → xs ≡ map (moved_by V) xs
  same_places xs = sym (map-on (moved_by V) (λ (x : ℕ). x) xs (λ x i. stays x) ∙ map-id xs)

  same_row : (o : Option Handle) → option_map (relocated (moved_by V)) o ≡ o
  same_row None = refl
  same_row (Some row) = λ k. Some (record row { target = stays row.target k; second = stays row.second k })

  same_table : (table : FinMap nat_cmp Handle) → table ≡ map_values (relocated (moved_by V)) table
  same_table table =
      sym (map_values-same (map_values (relocated (moved_by V)) table) table (λ k.
      get-map_values (relocated (moved_by V)) table k ∙ same_row (finmap.get table k)))

  -- THE FIT of all that names objects was made, too
  pub still_fitted : (locals : List ℕ) (table : FinMap nat_cmp Handle) (queues : Queues)
      → HaveFitted (world_with rows old locals table queues) (world_with rows new locals table queues) n kept bytes
  still_fitted locals table queues = record {
    objects = made.objects
        ∙ ap (sorted_by (λ (o : Object). o.name))
        (map-on (moved_object V) (λ o. moved_object V (relocated_object V o)) (objects_in rows old)
        (λ o i. ap (moved_object V)
        (sym (ap (λ (vs : List Move). relocated_object vs o) none_went ∙ same_slots o))));
    layout = made.layout;
    marks = made.marks;
    locals = same_places locals;
    handles = same_table table;
    entries = same_places queues.entries;
    ready = same_places queues.ready;
    counted = made.counted;
  }
