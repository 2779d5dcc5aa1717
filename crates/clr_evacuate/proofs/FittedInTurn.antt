-- Plugs that pass one after the other, each into the lowest older item in which it fits, make the fit.
use Rattle.std.proofs.Common.{◌≡◌, inl, inr, ℕ, ◌+◌, ◌≤◌, true, false, Bool, List, [], ◌∷◌, ◌++◌, refl, ap, sym, ◌∙◌}
use Rattle.std.proofs.Common.{subst, arith, map, filter, if◌then◌else◌, not, None, Option, Some, append-nil}
use Rattle.std.proofs.lemmas.List.Sums.{sum_by-cons}
use Rattle.clr_types.specs.Ranges.{by_place, Piece}
use Rattle.clr_types.specs.Rising.{first, IsIn, IsRisingBy, later, sorted_by}
use Rattle.clr_types.specs.Types.{TypeRow}
use Rattle.clr_types.specs.declared.item.Item.{Item}
use Rattle.clr_types.proofs.ChangedLists.{rising-distinct, rising-sorted, sorted_by-done}
use Rattle.clr_types.proofs.ListMembers.{filter-rises, from-map}
use Rattle.clr_types.proofs.Shuffles.{followed, IsShuffled, nothing, shuffled-behind, shuffled-sorts, shuffled-sym}
use Rattle.clr_types.proofs.Shuffles.{under}
use Rattle.clr_heap.specs.View.{heap_items, HeapView, IsHeap, word_of}
use Rattle.clr_heap.proofs.Rewrite.{SameShape-refl}
use Rattle.clr_model.specs.Compaction.{Move, Plug}
use Rattle.clr_model.specs.Fitting.{Fit, fit, fit_into, is_older_item, lowest_item, older_items, taken_from}
use Rattle.clr_model.specs.Machine.{Object}
use Rattle.clr_view.specs.View.{free_in, is_free, IsHeld, is_object, layout_in, object_in, objects_in}
use Rattle.clr_view.proofs.Bearing.{fits-is}
use Rattle.clr_view.proofs.Listings.{heap-rise}
use Rattle.clr_view.proofs.Rises.{objects-rise}
use Rattle.clr_sweep.proofs.LayoutSwept.{free-rise}
use Rattle.clr_moves.specs.Objects.{moved_object}
use Rattle.clr_evacuate.specs.FittedAll.{AreInOrder, HasCarriedAll, HasMade, HavePassed}
use Rattle.clr_evacuate.specs.FittedRun.{HasFitted}
use Rattle.clr_evacuate.proofs.FittedAll.{run_and_others}
use Rattle.clr_evacuate.proofs.FittedRuns.{lowest_is}
use Rattle.clr_evacuate.proofs.GoneItems.{all_moved, none_moved}

-- ---- where there is no plug

same_map : {X : Type 0} (f : X → X) (xs : List X) → ((x : X) → IsIn x xs → f x ≡ x) → map f xs ≡ xs
same_map f [] same = refl
same_map f (x ∷ xs) same =
    let one = same x first in
    let more = same_map f xs (λ y n. same y (later n)) in
    λ k. one k ∷ more k

-- what doesn't pass a test and what does are all
parted : (t : Piece → Bool) (ps : List Piece) → IsShuffled (filter (λ p. not (t p)) ps ++ filter t ps) ps
parted t [] = nothing
parted t (p ∷ ps) = go (t p) (parted t ps)
  where
    go : (b : Bool) → IsShuffled (filter (λ p. not (t p)) ps ++ filter t ps) ps
        → IsShuffled ((if not b then p ∷ filter (λ p. not (t p)) ps else filter (λ p. not (t p)) ps)
        ++ (if b then p ∷ filter t ps else filter t ps)) (p ∷ ps)
    go true s = followed (shuffled-sym (shuffled-behind p (filter (λ p. not (t p)) ps) (filter t ps))) (under s)
    go false s = under s

pub none_gone : (rows : List TypeRow) (h : HeapView) (low : ℕ) → IsHeap h → IsHeld rows h
    → HasCarriedAll rows h h low (record { moves = []; left = older_items (layout_in rows h) }) []
none_gone rows h low heap held = record {
  objects = sym (sorted_by-done (λ (o : Object). o.name) (objects_in rows h)
      (rising-sorted (λ (o : Object). o.name) (objects_in rows h)
      (objects-rise rows (word_of h) (heap_items rows h) (heap-rise rows h held.walkable heap))))
      ∙ ap (sorted_by (λ (o : Object). o.name)) (sym (same_map (moved_object []) (objects_in rows h) stays));
  layout = λ k. record (layout_in rows h) { free = frees k };
  marks = λ o n. refl;
  from = λ v n. absurd (elim n [ ]);
  headers = λ o n. refl;
  padding = λ p. p;
  forwards = λ go has unmoved. has;
  shape = SameShape-refl h;
  held = held;
}
  where
    stays : (o : Object) → IsIn o (objects_in rows h) → moved_object [] o ≡ o
    stays o n =
        let (i, is, among) = from-map (object_in rows (word_of h)) o (filter is_object (heap_items rows h)) n in
        let named : o.place ≡ o.name = ap (λ (p : Object). p.place) is ∙ sym (ap (λ (p : Object). p.name) is) in
        λ k. record o { name = named k }

    rise : IsRisingBy (λ (p : Piece). p.place) (free_in rows h)
    rise =
        free-rise (filter is_free (heap_items rows h))
        (filter-rises is_free (λ (i : Item). i.place) (heap_items rows h) (heap-rise rows h held.walkable heap))

    frees : free_in rows h ≡ by_place ((filter (λ i. not (is_older_item (layout_in rows h) i)) (free_in rows h)
        ++ older_items (layout_in rows h)) ++ [])
    frees =
        sym (sorted_by-done (λ (p : Piece). p.place) (free_in rows h)
        (rising-sorted (λ (p : Piece). p.place) (free_in rows h) rise))
        ∙ shuffled-sorts (λ (p : Piece). p.place)
        (shuffled-sym (parted (is_older_item (layout_in rows h)) (free_in rows h)))
        (rising-distinct (λ (p : Piece). p.place) (free_in rows h) rise)
        ∙ ap by_place (sym (append-nil (filter (λ i. not (is_older_item (layout_in rows h) i)) (free_in rows h)
        ++ older_items (layout_in rows h))))

-- moves that begin from a place on begin from a lower one on
lower-from : (rows : List TypeRow) (h new : HeapView) (low high : ℕ) (f : Fit) (gone : List Item) → low ≤ high
    → HasCarriedAll rows h new high f gone → HasCarriedAll rows h new low f gone
lower-from rows h new low high f gone l c = record {
  objects = c.objects;
  layout = c.layout;
  marks = c.marks;
  from = λ v n. let up = c.from v n in omega (arith, up, l);
  headers = c.headers;
  padding = c.padding;
  forwards = c.forwards;
  shape = c.shape;
  held = c.held;
}

-- ---- the plugs

-- THE FIT is made where all plugs passed
pub plugs_passed : (rows : List TypeRow) (h new : HeapView) (low : ℕ) (ps : List Plug) (bytes : ℕ) → IsHeap h
    → IsHeld rows h → IsHeap new → AreInOrder low ps → HavePassed rows h new ps bytes
    → HasMade rows h new low (fit ps (older_items (layout_in rows h))) bytes
plugs_passed rows h new low [] bytes heap held last order (same, none) = record {
  gone = [];
  carried = subst (λ (g : HeapView). HasCarriedAll rows h g low
      (record { moves = []; left = older_items (layout_in rows h) }) []) same (none_gone rows h low heap held);
  gone_are = none_moved rows h;
  counted = none;
}
plugs_passed rows h new low (p ∷ ps) bytes heap held last order (mid, some, more, step, steps, sum) =
    go (lowest_item p.size (older_items (layout_in rows h))) refl step.fitted
    (λ heap_mid held_mid. plugs_passed rows mid new (p.start + p.size) ps more heap_mid held_mid last order.1 steps)
  where
    go : (o : Option Piece) → lowest_item p.size (older_items (layout_in rows h)) ≡ o
        → HasFitted rows h mid step.run (record { place = p.start; size = p.size }) some o
        → (IsHeap mid → IsHeld rows mid
        → HasMade rows mid new (p.start + p.size) (fit ps (older_items (layout_in rows mid))) more)
        → HasMade rows h new low (fit_into p o (fit ps) (older_items (layout_in rows h))) bytes
    go None e (same, zero) others =
        let up = order.0 in
        let was = others (subst IsHeap (sym same) heap) (subst (IsHeld rows) (sym same) held) in
        let now = subst (λ (g : HeapView). HasMade rows g new (p.start + p.size)
        (fit ps (older_items (layout_in rows g))) more) same was in
        record {
          gone = now.gone;
          carried = lower-from rows h new low (p.start + p.size) (fit ps (older_items
              (layout_in rows h))) now.gone (omega (arith, up))
              now.carried;
          gone_are = now.gone_are;
          counted = sum ∙ (let none : some + more ≡ more = omega (arith, zero) in none) ∙ now.counted;
        }
    go (Some item) e (gone, size) others =
        let up = order.0 in
        let (there, room) = lowest_is p.size (older_items (layout_in rows h)) item e in
        let enough : p.size ≤ item.size = elim (fits-is p.size item.size room)
        [ inl l ↦ omega (arith, l) | inr l ↦ omega (arith, l) ] in
        let now = subst (λ (is : List Piece). HasMade rows mid new (p.start + p.size) (fit ps is) more) gone.older
        (others step.next gone.carried.held) in
        record {
          gone = step.run ++ now.gone;
          carried = lower-from rows h new low p.start (fit_into p (Some item) (fit ps) (older_items
              (layout_in rows h))) (step.run ++ now.gone) up
              (run_and_others rows h mid new step.run now.gone (record { place = p.start; size = p.size }) item
              (fit ps (taken_from item.place p.size (older_items
              (layout_in rows h)))) heap held last step.older step.is there enough gone.carried
              now.carried);
          gone_are = all_moved rows h mid step.run now.gone (record { place = p.start; size = p.size }) item
              (fit ps (taken_from item.place p.size (older_items (layout_in rows h)))).moves heap held step.older
              step.is there enough gone.carried.objects now.carried.from now.gone_are;
          counted = sum ∙ (λ k. size k + now.counted k)
              ∙ sym (sum_by-cons (λ (v : Move). v.size) (record { start = p.start; size = p.size; to = item.place })
              (fit ps (taken_from item.place p.size (older_items (layout_in rows h)))).moves);
        }
