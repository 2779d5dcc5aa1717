-- What named an object before a fit was made can be forwarded, and so references and names go where the fit takes them.
use Rattle.std.proofs.Common.{◌≡◌, inl, inr, ℕ, ◌<◌, Bool, true, not, ◌&&◌, List, [], ◌++◌, map, filter}
use Rattle.std.proofs.Common.{refl, ap, sym, ◌∙◌, subst, arith}
use Rattle.std.specs.FinMap.{FinMap}
use Rattle.std.specs.Ordering.{nat_cmp}
use Rattle.std.proofs.lemmas.Bool.{and_from, cases_Bool, le-leb}
use Rattle.clr_types.specs.Ranges.{Piece, piece_end}
use Rattle.clr_types.specs.Rising.{IsIn, sorted_by}
use Rattle.clr_types.specs.Segments.{generation, Layout, rest_pieces}
use Rattle.clr_types.specs.Types.{TypeRow}
use Rattle.clr_types.specs.declared.handle.Handle.{Handle}
use Rattle.clr_types.proofs.ChangedLists.{append_left, into_filter, IsIn-map, out_of_filter}
use Rattle.clr_types.proofs.ListMembers.{append_right, from-map, map-map, map-on}
use Rattle.clr_types.proofs.RisingLists.{all_at}
use Rattle.clr_types.proofs.SortedLists.{into_sorted_by, out_of_sorted_by}
use Rattle.clr_types.proofs.TilePieces.{IsTile, tile}
use Rattle.clr_final.specs.Queues.{Queues}
use Rattle.clr_heap.specs.Parts.{item_piece}
use Rattle.clr_heap.specs.View.{heap_items, HeapView, IsHeap}
use Rattle.clr_model.specs.Compaction.{Move, moved_by}
use Rattle.clr_model.specs.Fitting.{is_moved, is_older_item, older_items}
use Rattle.clr_model.specs.Lawful.{IsLaid}
use Rattle.clr_model.specs.Machine.{Machine, num, Object, ref, Value}
use Rattle.clr_model.specs.Picture.{renamed_value}
use Rattle.clr_model.specs.Reach.{SlotNames}
use Rattle.clr_model.specs.Sweep.{is_condemned, Survivor, survivor, survivor_piece, survivors}
use Rattle.clr_model.proofs.FitItems.{Filling, filling_pieces, IsFilling}
use Rattle.clr_model.proofs.FitLaid.{fillings, unmoved-still}
use Rattle.clr_model.proofs.MovedPlaces.{moved-is}
use Rattle.clr_model.proofs.Naming.{sorted_by-map}
use Rattle.clr_model.proofs.PlugsApart.{piece_of_move}
use Rattle.clr_fitting.specs.Steps.{fit_in}
use Rattle.clr_fitting.proofs.TwoSteps.{fitted_object}
use Rattle.clr_view.specs.Memory.{IsLeft, IsMemoryOf}
use Rattle.clr_view.specs.SlotValues.{StandsAt}
use Rattle.clr_view.specs.View.{free_in, is_free, IsHeld, objects_in}
use Rattle.clr_view.proofs.LeftNames.{name-is-place}
use Rattle.clr_view.proofs.Standing.{high_up}
use Rattle.clr_moves.specs.Objects.{moved_object, relocated_object, relocated_value}
use Rattle.clr_survivors.specs.Survivors.{IsNullOrLeft, NameLeft, world_with}
use Rattle.clr_evacuate.specs.Evacuated.{HasMadeFit, moves_in}
use Rattle.clr_evacuate.specs.Forwarding.{CanForward, forwarded_object, IsFreeAt, LeadsBy, NamesCanForward}

-- ---- objects

-- a reference that is forwarded to where moves take places is relocated by them
value_gone : (vs : List Move) (v : Value) → renamed_value (moved_by vs) v ≡ relocated_value vs v
value_gone vs (ref place) = refl
value_gone vs (num number) = refl

-- AN OBJECT THAT WENT, its references forwarded, is the object with its references relocated where it went
object_gone : (vs : List Move) (o : Object)
    → forwarded_object (moved_by vs) (moved_object vs o) ≡ moved_object vs (relocated_object vs o)
object_gone vs o =
    ap (λ (slots : List Value). record (moved_object vs o) { slots = slots })
    (map-on (renamed_value (moved_by vs)) (relocated_value vs) o.slots (λ v i. value_gone vs v))

-- so it is with all objects
pub objects_gone : (vs : List Move) (os : List Object)
    → map (forwarded_object (moved_by vs)) (sorted_by (λ o. o.name) (map (moved_object vs) os))
    ≡ sorted_by (λ o. o.name) (map (λ o. moved_object vs (relocated_object vs o)) os)
objects_gone vs os =
    sym (sorted_by-map (λ (o : Object). o.name) (forwarded_object (moved_by vs)) (λ o. refl) (map (moved_object vs) os))
    ∙ ap (sorted_by (λ (o : Object). o.name))
    (map-map (moved_object vs) (forwarded_object (moved_by vs)) os
    ∙ map-on (λ o. forwarded_object (moved_by vs) (moved_object vs o)) (λ o. moved_object vs (relocated_object vs o)) os
    (λ o i. object_gone vs o))

-- ---- places

-- what a move takes is a tile of an older item
pub move_tile : (n : Machine) (kept : ℕ → Bool) (laid : IsLaid n) (bare : rest_pieces n.layout.rests ≡ []) (v : Move)
    → IsIn v (moves_in n kept)
    → (f : Filling) × IsIn f (fillings n laid bare kept).fillings
    × IsTile f.item.place (piece_end f.item) (piece_of_move v)
move_tile n kept laid bare v i =
    let (f, m, k) = (fillings n laid bare kept).moves_into v i in (
      f,
      m,
      tile f.item.place (piece_end f.item) (filling_pieces f) (piece_of_move v)
          (all_at IsFilling m (fillings n laid bare kept).filled) (append_left f.rest (IsIn-map piece_of_move k)),
    )

-- what a collection leaves stands there
left_stands : (rows : List TypeRow) (h : HeapView) (g x : ℕ) → IsLeft rows h g x → StandsAt rows h x
left_stands rows h g x left =
    (left.object, left.present, sym (name-is-place rows h left.object left.present) ∙ left.named)

module _ (rows : List TypeRow) (old new : HeapView) (n : Machine) (kept : ℕ → Bool) (bytes : ℕ) (heap : IsHeap old)
    (held : IsHeld rows old) (memory : IsMemoryOf rows old n) (laid : IsLaid n)
    (bare : rest_pieces n.layout.rests ≡ []) (made : HasMadeFit rows old new n kept bytes) where
  abbrev V : List Move
  V = moves_in n kept

  pub in_new : (o : Object) → IsIn o (objects_in rows old) → IsIn (moved_object V o) (objects_in rows new)
  in_new o i =
      subst (λ (os : List Object). IsIn (moved_object V o) os) (sym made.objects)
      (into_sorted_by (λ (x : Object). x.name) (moved_object V o) (map (moved_object V) (objects_in rows old))
      (IsIn-map (moved_object V) i))

  -- where an object stood that went, a free item begins
  vacated : (o : Object) → IsIn o (objects_in rows old) → is_moved V o.place ≡ true → IsFreeAt rows new o.place
  vacated o i moved =
      let there = subst (λ (os : List Object). IsIn o os) (sym memory.objects) i in
      let is = fitted_object n kept laid bare o there moved in
      let young = is.before in
      let s : Survivor = survivor n o in
      let among : IsIn s (survivors n 1 kept) =
      into_sorted_by (λ (t : Survivor). t.place) s
      (map (survivor n) (filter (λ q. is_condemned n 1 q && kept q.name) n.objects))
      (IsIn-map (survivor n)
      (into_filter (λ q. is_condemned n 1 q && kept q.name) n.objects
      (and_from (is_condemned n 1 o) (kept o.name) (le-leb (generation n.layout o.place) 1 (omega (arith, young)))
      is.stays)
      there)) in
      let piece : Piece = survivor_piece s in
      let older : List Piece =
      filter (λ p. not (is_older_item n.layout p)) n.layout.free ++ (fit_in n kept).left in
      let gone : List Piece = map survivor_piece (filter (λ t. is_moved V t.place) (survivors n 1 kept)) in
      let free : IsIn piece (free_in rows new) =
      subst (λ (ps : List Piece). IsIn piece ps) (sym (ap (λ (l : Layout). l.free) made.layout))
      (into_sorted_by (λ (p : Piece). p.place) piece (older ++ gone)
      (append_right older
      (IsIn-map survivor_piece (into_filter (λ t. is_moved V t.place) (survivors n 1 kept) moved among)))) in
      let (j, same, m) = from-map item_piece piece (filter is_free (heap_items rows new)) free in
      let (clear, listed) = out_of_filter is_free j (heap_items rows new) m in
      record { item = j; listed = listed; free = clear; at = sym (ap (λ (p : Piece). p.place) same) }

  -- WHAT STOOD SOMEWHERE can be forwarded
  pub stands_forward : (x : ℕ) → StandsAt rows old x → CanForward rows new x
  stands_forward x (o, i, at) = elim (cases_Bool (is_moved V o.place)) [
    | inl moved ↦ inr (inr (subst (IsFreeAt rows new) at (vacated o i moved)))
    | inr still ↦ inr (inl (moved_object V o, in_new o i, unmoved-still V o.place still ∙ at))
  ]

  pub name_forward : (x : ℕ) → IsNullOrLeft rows old 1 x → CanForward rows new x
  name_forward x (inl null) = inl null
  name_forward x (inr left) = stands_forward x (left_stands rows old 1 x left)

  -- all references
  pub slots_forward : ((x y : ℕ) → SlotNames (objects_in rows old) x y → StandsAt rows old y)
      → (x y : ℕ) → SlotNames (objects_in rows new) x y → CanForward rows new y
  slots_forward stands x y s =
      let (o, same, present) = from-map (moved_object V) s.object (objects_in rows old)
      (out_of_sorted_by (λ (q : Object). q.name) s.object (map (moved_object V) (objects_in rows old))
      (subst (λ (os : List Object). IsIn s.object os) made.objects s.present)) in
      stands_forward y (stands o.name y (record {
        object = o;
        present = present;
        named = refl;
        slot = subst (λ (q : Object). IsIn (ref y) q.slots) same s.slot;
        not_null = s.not_null;
      }))

  -- and all names from outside of the heap
  pub names_forward : (locals : List ℕ) (table : FinMap nat_cmp Handle) (queues : Queues)
      → NameLeft (world_with rows old locals table queues) 1 → NamesCanForward rows new locals table queues
  names_forward locals table queues named = record {
    locals_can = λ x i. name_forward x (named.locals x i);
    targets = λ k row here. name_forward row.target (named.targets k row here);
    seconds = λ k row here. name_forward row.second (named.seconds k row here);
    entries_can = λ x i. name_forward x (inr (named.entries x i));
    ready_can = λ x i. name_forward x (inr (named.ready x i));
  }

  -- a move goes to a free item, and no item begins at null
  goes_high : (v : Move) → IsIn v V → 0 < v.to
  goes_high v i =
      let (f, m, at) = move_tile n kept laid bare v i in
      let older : IsIn f.item (older_items n.layout) =
      subst (IsIn f.item) (fillings n laid bare kept).items_are (IsIn-map (λ f. f.item) m) in
      let (old_one, free) = out_of_filter (is_older_item n.layout) f.item n.layout.free older in
      let (j, same, chosen) = from-map item_piece f.item (filter is_free (heap_items rows old))
      (subst (λ (ps : List Piece). IsIn f.item ps) (ap (λ (l : Layout). l.free) memory.layout) free) in
      let (clear, listed) = out_of_filter is_free j (heap_items rows old) chosen in
      let high = high_up rows old heap held j listed in
      let place : f.item.place ≡ j.place = ap (λ (p : Piece). p.place) same in
      elim at.low_gap [
        | inl here ↦ omega (arith, here, high, place)
        | inr over ↦ omega (arith, over, high, place)
      ]

  -- FREE ITEMS SAY where the fit takes what stood there, and to null it takes null alone
  pub leads_fit : LeadsBy rows new (moved_by V)
  leads_fit = record {
    forwards = made.forwards;
    to_null = λ place zero. elim (moved-is V place) [
      | inl (v, i, covers, is) ↦ let high = goes_high v i in absurd (omega (arith, high, is, zero))
      | inr (none, is) ↦ sym is ∙ zero
    ];
  }
