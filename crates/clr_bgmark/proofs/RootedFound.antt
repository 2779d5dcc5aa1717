-- The last pause: what is found and due waits, and what else is found names what is found.
use Rattle.std.proofs.Common.{◌≡◌, ℕ, ◌+◌, ◌<◌, ◌≤◌, ◌⊎◌, inl, inr, List, Bool, true, false, sym, ap, ◌∙◌, subst}
use Rattle.std.proofs.Common.{arith, Some}
use Rattle.std.specs.Prelude.{IsTrue, slice_get}
use Rattle.std.proofs.lemmas.Bool.{both_ways, cases_Bool}
use Rattle.clr_types.specs.Rising.{IsIn}
use Rattle.clr_types.specs.Types.{form_at, slot_offset, TypeRow}
use Rattle.clr_types.specs.declared.item.Item.{Item}
use Rattle.clr_types.proofs.ChangedLists.{into_filter}
use Rattle.clr_heap.specs.Parts.{item_at}
use Rattle.clr_heap.specs.View.{heap_items, HeapView, IsHeap, word_of}
use Rattle.clr_model.specs.Machine.{Object, ref}
use Rattle.clr_model.specs.Reach.{SlotNames, starts}
use Rattle.clr_view.specs.Marks.{has_mark, Marked}
use Rattle.clr_view.specs.SlotValues.{IsObjectAt, StandsAt}
use Rattle.clr_view.specs.View.{IsHeld, objects_in}
use Rattle.clr_view.proofs.Items.{stacked-apart}
use Rattle.clr_view.proofs.Listings.{heap-stacked}
use Rattle.clr_view.proofs.ObjectItems.{stands-item}
use Rattle.clr_background.specs.Log.{IsNullOrMarked, slot_address}
use Rattle.clr_background.proofs.Members.{member_read}
use Rattle.clr_mark.specs.Marks.{IsClosed, IsRemarked, LeadsTo}
use Rattle.clr_mark.specs.Markings.{HasReached}
use Rattle.clr_mark.specs.Waiting.{IsFollowed, IsSettled, MarkerView}
use Rattle.clr_mark.proofs.Graying.{followed_on, leads_back, reached-trans}
use Rattle.clr_mark.proofs.Held.{keeps_closed, remarked-trans}
use Rattle.clr_mark.proofs.References.{reference_in}
use Rattle.clr_mark.proofs.Remarking.{keeps_stands, stands_before}
use Rattle.clr_mark.proofs.Rooting.{IsRooting}
use Rattle.clr_bgmark.specs.LastPause.{HasLoggedSlot, HasRooted, IsDue, IsSought, LogHolds}
use Rattle.clr_bgmark.specs.Pauses.{IsBehind, IsClear, IsFound, IsNextFound}
use Rattle.clr_bgmark.specs.Scanning.{AreObjects, marking_in}
use Rattle.clr_bgmark.specs.Shades.{is_logged, is_scanned, ShadeView}
use Rattle.clr_bgmark.specs.declared.shade.Search.{Search}
use Rattle.clr_bgmark.specs.declared.shade.Search.TheVariants.{Gray, Logged}
use Rattle.clr_bgmark.proofs.FoundMarked.{found_is_marked}
use Rattle.clr_bgmark.proofs.OwnSlots.{object_is, own_reference}
use Rattle.clr_bgmark.proofs.ScannedLists.{names, stands_named}

-- ---- which object is due

module _ (rows : List TypeRow) (h : HeapView) (heap : IsHeap h) (held : IsHeld rows h) (ss : List ShadeView) where
  -- AN OBJECT HAS NO LOGGED SLOT, WHERE NOTHING IS LOGGED UP TO ANOTHER ONE ABOVE IT: it ends below that
  pub clear_slots : (x : ℕ) → StandsAt rows h x → (c : IsClear ss x) → StandsAt rows h c.next
      → HasLoggedSlot rows (objects_in rows h) ss x → ⊥
  clear_slots x stands c above s =
      let i : Item = item_at rows (word_of h) x in
      let at : IsObjectAt rows h x i = stands-item rows h heap held x stands in
      let own = object_is rows h heap held x i at s.object s.present s.named in
      let offset : ℕ = slot_offset (form_at rows i.type_id.0) s.index in
      let listed = own_reference rows h heap held x i at s.index s.name
      (subst (λ (o : Object). slice_get o.slots s.index ≡ Some (ref s.name)) own s.holds) in
      let high = (reference_in rows h heap held x i at.listed at.at offset listed).high in
      let place = at.at in
      let end = ends_below x stands c.next above c.further in
      let logged : is_logged ss (i.place + offset) ≡ true =
      subst (λ (o : Object). is_logged ss (o.place + slot_offset (form_at rows o.type) s.index) ≡ true) own s.logged in
      both_ways (is_logged ss (x + offset)) (c.clear (x + offset) (omega arith) (omega (arith, high, end, place)))
      (ap (λ (p : ℕ). is_logged ss (p + offset)) (sym place) ∙ logged)
    where
      ends_below : (x : ℕ) → StandsAt rows h x → (y : ℕ) → StandsAt rows h y → x < y
          → x + (item_at rows (word_of h) x).size ≤ y
      ends_below x sx y sy l =
          let ix = stands-item rows h heap held x sx in
          let iy = stands-item rows h heap held y sy in
          let ax = ix.at in
          let ay = iy.at in
          elim (stacked-apart (heap_items rows h) (item_at rows (word_of h) x) (item_at rows (word_of h) y)
          (heap-stacked rows h held.walkable heap) ix.listed iy.listed (λ e. omega (arith, ax, ay, e, l))) [
            | inl under ↦ omega (arith, under, ax, ay)
            | inr over ↦ absurd (omega (arith, over, ax, ay, l))
          ]

-- what is behind a spot, and isn't passed over
abbrev pub IsVisited : Search → List ShadeView → ℕ → ℕ → ℕ → Type 0
IsVisited search ss k from y = IsBehind ss k from y × IsSought search ss y

-- the next found place is visited
pub visited_more : (search : Search) (ss : List ShadeView) (k from j a : ℕ) → IsNextFound search ss k from j a
    → (y : ℕ) → IsFound ss y → IsVisited search ss j (a + 8) y → IsVisited search ss k from y ⊎ (y ≡ a)
visited_more search ss k from j a next y f v = elim (next.next y f v.0) [
  | inl before ↦ elim before [ inl was ↦ inl (was, v.1) | inr is ↦ inr is ]
  | inr over ↦ absurd (v.1 over)
]

-- THE TWO SEARCHES FIND WHAT IS DUE: `h` is the heap at the start, `a` that after the search for what is gray, and `b`
-- that after the one by what is logged
pub rooted_twice : (rows : List TypeRow) (h a b : HeapView) (m mid mark : MarkerView) → IsHeap h → IsHeld rows h
    → (ss : List ShadeView) → AreObjects rows h ss → HasRooted rows ss (IsSought Gray ss) h a m mid
    → HasRooted rows ss (IsSought Logged ss) a b mid mark
    → HasRooted rows ss (IsDue rows (objects_in rows h) ss) h b m mark
rooted_twice rows h a b m mid mark heap held ss known one two = record {
  gray = two.gray;
  reached =
      let edges : ℕ → ℕ → ℕ → Type 0 = λ g. LeadsTo rows h g in
      reached-trans rows (edges m.oldest) (LeadsTo rows a m.oldest) (λ y. Marked rows h y ⊎ IsFound ss y)
      (λ y. Marked rows a y ⊎ IsFound ss y) h a b heap held one.reached
      (leads_back rows h a heap held one.reached.remarked m.oldest)
      (λ y s. elim s [ inl was ↦ one.reached.reached y was | inr f ↦ starts (inr f) ])
      (subst (λ (g : ℕ). HasReached rows (LeadsTo rows a g) (λ y. Marked rows a y ⊎ IsFound ss y) a b) one.oldest
      two.reached);
  due = λ x f due. elim due [
    | inl gray ↦ two.reached.kept x (one.due x f (λ black. both_ways (is_scanned ss x) gray black))
    | inr slot ↦ two.due x f (λ c.
        clear_slots rows h heap held ss x (known.marked x f.0 f.1) c (known.marked c.next c.found.0 c.found.1) slot)
  ];
  capacity = two.capacity ∙ one.capacity;
  oldest = two.oldest ∙ one.oldest;
}

-- ---- what else is found

module _ (rows : List TypeRow) (h : HeapView) (heap : IsHeap h) (held : IsHeld rows h) (ss : List ShadeView)
    (known : AreObjects rows h ss) (log : LogHolds rows (objects_in rows h) ss) where
  -- a found object that isn't due names what is found
  pub names_found : (x : ℕ) → IsFound ss x → (IsDue rows (objects_in rows h) ss x → ⊥) → (y : ℕ)
      → SlotNames (objects_in rows h) x y → IsFound ss y
  names_found x f undue y e = elim (cases_Bool (is_scanned ss x)) [
    | inr gray ↦ absurd (undue (inl gray))
    | inl black ↦
        let (m, types, same, law) = log in
        let (i, at) = member_read e.object.slots (ref y) e.slot in
        let there = stands_named rows h heap held x (known.marked x f.0 f.1) in
        let listed = into_filter (is_scanned ss) (names rows h heap held) black there in
        go i (is_logged ss (slot_address m e.object i))
        (ap (λ table. is_logged ss (e.object.place + slot_offset (form_at table e.object.type) i)) (sym types)) at
        (law e.object i y (subst (λ (os : List Object). IsIn e.object os) (sym same) e.present)
        (subst (λ n. IsIn n (marking_in (objects_in rows h) ss).black) (sym e.named) listed) at)
  ]
    where
      go : (i : ℕ) (address : Bool)
          → is_logged ss (e.object.place + slot_offset (form_at rows e.object.type) i) ≡ address
          → slice_get e.object.slots i ≡ Some (ref y)
          → IsNullOrMarked (marking_in (objects_in rows h) ss) y ⊎ IsTrue address → IsFound ss y
      go i address same at (inl (inl null)) = let some = e.not_null in absurd (omega (arith, null, some))
      go i address same at (inl (inr marked)) = (found_is_marked rows h heap held ss known y).1 marked
      go i address same at (inr logged) = absurd (undue (inr (record {
        object = e.object;
        present = e.present;
        named = e.named;
        index = i;
        name = y;
        holds = at;
        logged = same ∙ logged;
      })))

-- what was taken still stands
pub known_on : (rows : List TypeRow) (h now : HeapView) → IsHeap h → IsHeld rows h → IsRemarked rows h now
    → (ss : List ShadeView) → AreObjects rows h ss → AreObjects rows now ss
known_on rows h now heap held r ss known = record {
  taken = λ a z on. keeps_stands rows h now heap held r a (known.taken a z on);
  marked = λ a z on. keeps_stands rows h now heap held r a (known.marked a z on);
  scanned = λ a z on. keeps_stands rows h now heap held r a (known.scanned a z on);
  black = known.black;
}

-- ---- all that is found is marked

-- `h` is the heap at the start, `a` that after what is due was marked, and `b` that after all that is found was
module _ (rows : List TypeRow) (h a b : HeapView) (m mark : MarkerView) (heap : IsHeap h) (held : IsHeld rows h)
    (ss : List ShadeView) (known : AreObjects rows h ss) (log : LogHolds rows (objects_in rows h) ss)
    (r : HasRooted rows ss (IsDue rows (objects_in rows h) ss) h a m mark) (words : IsRemarked rows a b)
    (kept : (x : ℕ) → Marked rows a x → Marked rows b x)
    (only : (x : ℕ) → Marked rows b x → Marked rows a x ⊎ IsFound ss x)
    (found : (x : ℕ) → IsFound ss x → Marked rows b x) where
  closed : IsClosed rows a
  closed = r.gray.closed

  to_b : IsRemarked rows h b
  to_b = remarked-trans rows h a b heap held r.reached.remarked words

  -- what is found and wasn't marked before is followed
  followed : (x : ℕ) → IsFound ss x → has_mark (word_of a x) ≡ false → IsFollowed rows b mark.oldest x
  followed x f off y leads =
      let undue : IsDue rows (objects_in rows h) ss x → ⊥ =
      λ due. both_ways (has_mark (word_of a x)) off (r.due x f due).mark in
      found y (names_found rows h heap held ss known log x f undue y
      (leads_back rows h b heap held to_b mark.oldest x y leads).named)

  settled : (x : ℕ) → Marked rows b x → IsSettled rows b mark x
  settled x s = elim (cases_Bool (has_mark (word_of a x))) [
    | inl on ↦
        let was : Marked rows a x =
        record { stands = stands_before rows a b closed.heap closed.held words x s.stands; mark = on } in
        elim (r.gray.settled x was) [
          | inl waits ↦ inl waits
          | inr f ↦ inr (followed_on rows a b closed.heap closed.held words mark.oldest kept x f)
        ]
    | inr off ↦ elim (only x s) [
      | inl was ↦ absurd (both_ways (has_mark (word_of a x)) off was.mark)
      | inr f ↦ inr (followed x f off)
    ]
  ]

  -- THE LAW OF A MARKING HOLDS THEN
  pub found_rooting : IsRooting rows h b m mark (IsFound ss) (λ y. IsFound ss y)
  found_rooting = record {
    gray = record {
      closed = keeps_closed rows a b closed.heap closed.held words closed.named;
      stacked = λ x i. kept x (r.gray.stacked x i);
      settled = settled;
    };
    reached = record {
      remarked = to_b;
      kept = λ x s. kept x (r.reached.kept x s);
      reached = λ x s. elim (only x s) [ inl was ↦ r.reached.reached x was | inr f ↦ starts (inr f) ];
    };
    done = λ y f _. found y f;
    capacity = r.capacity;
    oldest = r.oldest;
  }
