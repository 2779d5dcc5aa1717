-- A heap without contexts that has no fault is held, and names objects alone.
use Rattle.std.proofs.Common.{◌≡◌, ℕ, zero, suc, ◌+◌, ◌<◌, ◌≤◌, true, List, filter, get_or, replicate, Option, Some}
use Rattle.std.proofs.Common.{None, refl, sym, ◌∙◌, ap, subst, arith, inl, inr}
use Rattle.clr_types.specs.Ranges.{Piece}
use Rattle.clr_types.specs.Rising.{IsIn}
use Rattle.clr_types.specs.Segments.{same_kind}
use Rattle.clr_types.specs.Types.{TypeRow}
use Rattle.clr_types.specs.declared.segment.SegInfo.{SegInfo}
use Rattle.clr_types.specs.declared.segment.SegKind.{SegKind}
use Rattle.clr_types.specs.declared.segment.SegKind.TheVariants.{Ephemeral}
use Rattle.clr_types.proofs.ChangedLists.{IsIn-map}
use Rattle.clr_types.proofs.ListMembers.{from-map}
use Rattle.clr_heap.specs.Parts.{item_at}
use Rattle.clr_heap.specs.View.{heap_items, HeapView, IsHeap, no_rests, word_of}
use Rattle.clr_model.specs.Machine.{Object}
use Rattle.clr_model.specs.Reach.{SlotNames}
use Rattle.clr_model.proofs.CollectedFree.{into_parts}
use Rattle.clr_view.specs.SlotValues.{StandsAt}
use Rattle.clr_view.specs.View.{IsHeld, is_object, object_in, objects_in, tail_of}
use Rattle.clr_view.specs.World.{IsNullOrStands}
use Rattle.clr_view.proofs.ObjectItems.{stands-item}
use Rattle.clr_view.proofs.Tails.{found-young, kind-young}
use Rattle.clr_mark.proofs.References.{refers_from}
use Rattle.clr_sos.specs.CleanStates.{HasNoContexts, HaveNamed}
use Rattle.clr_sos.specs.Faultless.{IsFaultless}
use Rattle.clr_sos.specs.Faults.{addresses, AreInside, is_young, item_addresses}
use Rattle.clr_sos.specs.Views.{IsShownView}
use Rattle.clr_sos.specs.declared.view.View.{View}

no_context : (h : HeapView) → HasNoContexts h → (i : ℕ) (r : Piece) → get_or h.rests i None ≡ Some r → ⊥
no_context h none i r is = let clash : None ≡ Some r = sym (none i) ∙ is in absurd cc

-- it meets the condition of `verifyheap`
pub inside_none : (h : HeapView) → HasNoContexts h → AreInside h
inside_none h none i k r is l young = absurd (no_context h none i r is)

-- generation 0 doesn't begin above the tail
below_tail : (rows : List TypeRow) (large : ℕ) (h : HeapView) (locals : List ℕ) → IsHeap h
    → IsFaultless rows large h locals → h.start0 ≤ tail_of h
below_tail rows large h locals heap faultless =
    let found = found-young h heap in
    let young : is_young h found.0 ≡ true =
    ap (λ (kind : SegKind). same_kind kind Ephemeral) (kind-young h found.0 heap found.1) in
    subst (λ (s : SegInfo). h.start0 ≤ s.end) found.1.is (faultless.bounds found.0 found.1.in_range young).high

pub faultless_held : (rows : List TypeRow) (large : ℕ) (h : HeapView) (locals : List ℕ) → IsHeap h → HasNoContexts h
    → IsFaultless rows large h locals → IsHeld rows h
faultless_held rows large h locals heap none faultless = record {
  walkable = faultless.walkable;
  contexts = λ i r is. absurd (no_context h none i r is);
  apart = λ i j r q is other same. absurd (no_context h none i r is);
  young = below_tail rows large h locals heap faultless;
}

abbrev holes : ℕ → List (Option Piece)
holes n = replicate n None

none_in : (n i : ℕ) → get_or (holes n) i None ≡ None
none_in zero i = refl
none_in (suc n) zero = refl
none_in (suc n) (suc i) = none_in n i

-- as where all rests are none
pub none_at : (h : HeapView) → h.rests ≡ no_rests → HasNoContexts h
none_at h e i = ap (λ (rests : List (Option Piece)). get_or rests i None) e ∙ none_in 16 i

-- ---- what is named

above_null : (rows : List TypeRow) (h : HeapView) (x : ℕ) → 0 < x → IsNullOrStands rows h x → StandsAt rows h x
above_null rows h x some (inl null) = absurd (omega arith)
above_null rows h x some (inr stands) = stands

-- what its slots name stands in it
pub faultless_slots : (rows : List TypeRow) (large : ℕ) (h : HeapView) (locals : List ℕ) → IsHeap h → IsHeld rows h
    → IsFaultless rows large h locals
    → (x y : ℕ) → SlotNames (objects_in rows h) x y → StandsAt rows h y
faultless_slots rows large h locals heap held faultless x y e =
    let from = from-map (object_in rows (word_of h)) e.object (filter is_object (heap_items rows h)) e.present in
    let place : e.object.place ≡ x =
    ap (λ (o : Object). o.place) from.1 ∙ sym (ap (λ (o : Object). o.name) from.1) ∙ e.named in
    let i = item_at rows (word_of h) x in
    let at = stands-item rows h heap held x (e.object, e.present, place) in
    let f = refers_from rows h heap held x i at y e in
    let listed : IsIn (i.place + f.offset) (addresses rows (heap_items rows h)) =
    into_parts (item_addresses rows) i (i.place + f.offset) (heap_items rows h) at.listed
    (IsIn-map (λ (offset : ℕ). i.place + offset) f.listed) in
    let word : word_of h (i.place + f.offset) ≡ y = ap (λ (p : ℕ). word_of h (p + f.offset)) at.at ∙ f.holds in
    above_null rows h y f.not_null
    (subst (IsNullOrStands rows h) word (faultless.references (i.place + f.offset) listed))

-- so a view of it is shown, where its handles and its queue name objects
pub faultless_shown : (v : View) → IsHeap v.heap.now → HasNoContexts v.heap.now
    → IsFaultless v.types.now v.large v.heap.now v.locals.now → HaveNamed v → IsShownView v
faultless_shown v heap none faultless named =
    let rows = v.types.now in
    let h = v.heap.now in
    let held = faultless_held rows v.large h v.locals.now heap none faultless in
    record {
      heap = heap;
      held = held;
      slots = faultless_slots rows v.large h v.locals.now heap held faultless;
      locals = λ x r. above_null rows h x r.not_null (faultless.locals_named x r.listed);
      handles = named.handles;
      entries = named.entries;
      ready = named.ready;
    }
