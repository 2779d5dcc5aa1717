-- The headers say what pinned handles name while a fit is made, and say nothing of it afterwards.
use Rattle.std.proofs.Common.{◌≡◌, inl, inr, ℕ, ◌+◌, ◌-◌, ◌<◌, ◌≤◌, Bool, true, false, not, List, [], map}
use Rattle.std.proofs.Common.{if◌then◌else◌, ap, sym, ◌∙◌, subst, subst₂, arith, Some, ℤ}
use Rattle.std.specs.FinMap as finmap
use Rattle.std.specs.FinMap.{FinMap}
use Rattle.std.specs.Ordering.{nat_cmp}
use Rattle.std.proofs.lemmas.Bool.{both_ways, cases_Bool, true≢false}
use Rattle.clr_types.specs.Kinds.{is_pinned_kind}
use Rattle.clr_types.specs.Rising.{IsIn, sorted_by}
use Rattle.clr_types.specs.Segments.{Layout, rest_pieces}
use Rattle.clr_types.specs.Types.{form_at, TypeRow}
use Rattle.clr_types.specs.declared.handle.Handle.{Handle}
use Rattle.clr_types.specs.declared.item.Item.{Item}
use Rattle.clr_types.proofs.ChangedLists.{into_filter, IsIn-map, rising-distinct}
use Rattle.clr_types.proofs.ListMembers.{from-map}
use Rattle.clr_types.proofs.SortedLists.{into_sorted_by, out_of_sorted_by, same_by_key}
use Rattle.clr_heap.specs.Memories.{word_address}
use Rattle.clr_heap.specs.Parts.{item_at}
use Rattle.clr_heap.specs.View.{frame, heap_items, HeapView, IsHeap, word_of}
use Rattle.clr_heap.proofs.Framing.{SameShape-trans}
use Rattle.clr_heap.proofs.Rewrite.{shaped_heap}
use Rattle.clr_generations.specs.Laws.{BrickLaw}
use Rattle.clr_model.specs.Compaction.{Move, moved_by}
use Rattle.clr_model.specs.Fitting.{is_moved}
use Rattle.clr_model.specs.Lawful.{IsLaid}
use Rattle.clr_model.specs.Lookups.{is_pinned}
use Rattle.clr_model.specs.Machine.{Machine, Object}
use Rattle.clr_model.proofs.FitLaid.{unmoved-still}
use Rattle.clr_fitting.proofs.FitMoves.{fit_apart}
use Rattle.clr_fitting.proofs.TwoSteps.{fitted_object}
use Rattle.clr_view.specs.Clean.{AreClean, AreZero, IsCleanHeader, slots_end}
use Rattle.clr_view.specs.Memory.{is_marked, IsMemoryOf}
use Rattle.clr_view.specs.SlotValues.{StandsAt}
use Rattle.clr_view.specs.View.{is_free, is_object, IsHeld, object_in, objects_in}
use Rattle.clr_view.proofs.LeftNames.{name-is-place}
use Rattle.clr_view.proofs.Listed.{listed-item, listed-sized}
use Rattle.clr_view.proofs.Listings.{heap-rise}
use Rattle.clr_view.proofs.ObjectItems.{stands-item}
use Rattle.clr_view.proofs.Padding.{padding-word}
use Rattle.clr_view.proofs.Standing.{standing}
use Rattle.clr_plan.specs.Pinned.{has_pin, TellsPins}
use Rattle.clr_moves.specs.Objects.{moved_object}
use Rattle.clr_survivors.specs.Pins.{HasPins, IsPinnedBelow, pinned_header, PinsStand}
use Rattle.clr_survivors.specs.Survivors.{pins_place}
use Rattle.clr_survivors.proofs.CanMoveAll.{pinned-told}
use Rattle.clr_survivors.proofs.CleanAfter.{pin-back}
use Rattle.clr_survivors.proofs.ItemsOf.{item-of, place-high}
use Rattle.clr_survivors.proofs.PaddingWords.{none-starts}
use Rattle.clr_survivors.proofs.PinnedFrom.{pins-above}
use Rattle.clr_survivors.proofs.PinsTold.{marked-kept, none-pinned, pin-told}
use Rattle.clr_evacuate.specs.Carried.{ArePadded}
use Rattle.clr_evacuate.specs.Evacuated.{HasMadeFit, moves_in}
use Rattle.clr_evacuate.specs.Forwards.{HasForwards}

-- ---- the bits

-- what all pinned handles name is told by the headers, once the bits are set
pub tells_all : (rows : List TypeRow) (old new : HeapView) (table : FinMap nat_cmp Handle) → IsHeap old
    → IsHeld rows old → AreClean rows old
    → ((k : ℕ) (row : Handle) → finmap.get table k ≡ Some row → k < 65536)
    → HasPins rows old new table 1 65536 true → (n : Machine) → n.handles ≡ table → TellsPins rows new n
tells_all rows old new table heap held clean numbers pins n same o i =
    let was = subst (λ (os : List Object). IsIn o os) pins.objects i in
    let up = (place-high rows old heap held o was).0 in
    let name = name-is-place rows old o was in
    ap (λ (t : FinMap nat_cmp Handle). pins_place t o.name) same
    ∙ sym (pins-above 1 o.name (omega (arith, up, name)) (omega (arith, up, name)) table)
    ∙ pin-told rows old new table 1 heap held clean numbers pins o was

-- bytes of words that stay are zero still
zero_kept : (old new : ℕ → ℕ) (low high : ℕ)
    → ((a : ℕ) → low ≤ a → a < high → new (word_address a) ≡ old (word_address a)) → AreZero old low high
    → AreZero new low high
zero_kept old new low high same zero a down up = rw (same a down up) (zero a down up)

-- bricks obey their law before and after a change of the bits
pub pinned_law : (rows : List TypeRow) (old new : HeapView) (table : FinMap nat_cmp Handle) (on : Bool)
    → HasPins rows old new table 1 65536 on → (entry : ℕ → ℤ)
    → BrickLaw rows (frame old) (objects_in rows old) entry → BrickLaw rows (frame new) (objects_in rows new) entry
pinned_law rows old new table on pins entry law =
    subst (λ (l : Layout). BrickLaw rows l (objects_in rows new) entry) (sym (ap frame pins.shape.others))
    (subst (λ (os : List Object). BrickLaw rows (frame old) os entry) (sym pins.objects) law)

module _ (rows : List TypeRow) (old new : HeapView) (table : FinMap nat_cmp Handle) (on : Bool) (heap : IsHeap old)
    (held : IsHeld rows old) (stand : PinsStand rows old table) (pins : HasPins rows old new table 1 65536 on) where
  -- an object stands where a pinned handle names one
  pub pinned_stands : (x : ℕ) → IsPinnedBelow table 1 65536 x → StandsAt rows old x
  pinned_stands x q =
      subst (StandsAt rows old) q.target
      (stand q.number q.row q.in_use q.pinned (subst (λ (n : ℕ). 0 < n) (sym q.target) q.some))

  -- the bits leave the padding of objects
  pub padding_kept : ArePadded rows old → ArePadded rows new
  padding_kept padded i now object =
      let listed : IsIn i (heap_items rows old) = subst (λ (is : List Item). IsIn i is) pins.items now in
      let z = (listed-item rows old i heap held listed).aligned in
      let size = listed-sized rows old i heap held listed in
      zero_kept (word_of old) (word_of new) (i.place + slots_end (form_at rows i.type_id.0) i.len)
      (i.place + i.size - 8)
      (λ a low high.
      let w = padding-word (form_at rows i.type_id.0) i.len i.place a z low (omega (arith, high, size)) in
      let above = w.above in
      let below = w.below in
      elim (pins.words (word_address a) w.aligned) [
        | inl hit ↦
            absurd (none-starts rows old heap held i (word_address a + 8) listed (omega (arith, above))
            (omega (arith, below, size)) (pinned_stands (word_address a + 8) hit.0))
        | inr miss ↦ miss.1
      ])
      (padded i listed object)

  -- no object stands where a free item begins
  none_at_free : (i : Item) → IsIn i (heap_items rows old) → is_free i ≡ true → StandsAt rows old i.place → ⊥
  none_at_free i listed free stands =
      let this = stands-item rows old heap held i.place stands in
      let distinct =
      rising-distinct (λ (y : Item). y.place) (heap_items rows old) (heap-rise rows old held.walkable heap) in
      let one : item_at rows (word_of old) i.place ≡ i =
      same_by_key (λ (y : Item). y.place) (heap_items rows old) (item_at rows (word_of old) i.place) i distinct
      this.listed listed this.at in
      true≢false (sym this.object ∙ ap is_object one ∙ ap not free)

  -- and they leave what free items say
  pub forwards_kept : (go : ℕ → ℕ) → HasForwards rows old go → HasForwards rows new go
  forwards_kept go f = record {
    free = λ i now free.
        let listed : IsIn i (heap_items rows old) = subst (λ (is : List Item). IsIn i is) pins.items now in
        let s = standing rows old heap held i listed in
        let up = s.above in
        let z = s.aligned in
        let least = s.least in
        let back : i.place - 8 + 8 ≡ i.place = omega (arith, up) in
        let (header, mt) = f.free i listed free in (
          elim (pins.words (i.place - 8) (omega (arith, up, z))) [
            | inl hit ↦
                absurd (none_at_free i listed free
                (pinned_stands i.place (subst (IsPinnedBelow table 1 65536) back hit.0)))
            | inr miss ↦ miss.1 ∙ header
          ],
          elim (pins.words i.place z) [
            | inl hit ↦
                absurd (none-starts rows old heap held i (i.place + 8) listed (omega arith) (omega (arith, least))
                (pinned_stands (i.place + 8) hit.0))
            | inr miss ↦ miss.1 ∙ mt
          ],
        );
    objects = λ x stands.
        f.objects x (subst (λ (os : List Object). (o : Object) × IsIn o os × (o.place ≡ x)) pins.objects stands);
    null = f.null;
  }

-- ---- the fit between two changes of the bits

-- The bits of what pinned handles name were set, and then a fit was made of what survives.
pub record IsPinnedFit (rows : List TypeRow) (old view carried : HeapView) (table : FinMap nat_cmp Handle)
    (n : Machine) (kept : ℕ → Bool) (bytes : ℕ) : Type 0 where
  pub heap : IsHeap old
  pub held : IsHeld rows old
  pub bare : rest_pieces n.layout.rests ≡ []
  pub clean : AreClean rows old
  pub stand : PinsStand rows old table
  pub memory : IsMemoryOf rows old n
  pub laid : IsLaid n
  pub handles : n.handles ≡ table
  pub pins : HasPins rows old view table 1 65536 true
  pub made : HasMadeFit rows view carried n kept bytes

module _ (rows : List TypeRow) (old view carried : HeapView) (table : FinMap nat_cmp Handle) (n : Machine)
    (kept : ℕ → Bool) (bytes : ℕ) (f : IsPinnedFit rows old view carried table n kept bytes) where
  abbrev V : List Move
  V = moves_in n kept

  in_machine : (o : Object) → IsIn o (objects_in rows old) → IsIn o n.objects
  in_machine o i = subst (λ (os : List Object). IsIn o os) (sym f.memory.objects) i

  in_view : (o : Object) → IsIn o (objects_in rows old) → IsIn o (objects_in rows view)
  in_view o i = subst (λ (os : List Object). IsIn o os) (sym f.pins.objects) i

  in_carried : (o : Object) → IsIn o (objects_in rows old) → IsIn (moved_object V o) (objects_in rows carried)
  in_carried o i =
      subst (λ (os : List Object). IsIn (moved_object V o) os) (sym f.made.objects)
      (into_sorted_by (λ (x : Object). x.name) (moved_object V o) (map (moved_object V) (objects_in rows view))
      (IsIn-map (moved_object V) (in_view o i)))

  -- what a pinned handle names stays
  stays : (o : Object) → IsIn o (objects_in rows old) → is_pinned n o.name ≡ true → moved_by V o.place ≡ o.place
  stays o i pinned = elim (cases_Bool (is_moved V o.place)) [
    | inl moved ↦
        let is = fitted_object n kept f.laid f.bare o (in_machine o i) moved in
        absurd (both_ways (is_pinned n o.name) is.free pinned)
    | inr still ↦ unmoved-still V o.place still
  ]

  pinned_stays : (o : Object) → IsIn o (objects_in rows old) → (k : ℕ) (row : Handle)
      → finmap.get table k ≡ Some row → is_pinned_kind row.kind ≡ true → row.target ≡ o.place
      → moved_by V o.place ≡ o.place
  pinned_stays o i k row here pinned at =
      stays o i (pinned-told n k row (ap (λ (t : FinMap nat_cmp Handle). finmap.get t k) f.handles ∙ here) pinned o.name
      (at ∙ sym (name-is-place rows old o i)))

  -- so the targets of pinned handles are objects still
  pub pins_stand_carried : PinsStand rows carried table
  pins_stand_carried k row here pinned some =
      let (o, i, at) = f.stand k row here pinned some in
      (moved_object V o, in_carried o i, pinned_stays o i k row here pinned (sym at) ∙ at)

  carried_heap : IsHeap carried
  carried_heap = shaped_heap view carried f.made.shape (shaped_heap old view f.pins.shape f.heap)

  module _ (new : HeapView) (back : HasPins rows carried new table 1 65536 false) where
    -- HEADERS are those of before
    header_back : (o : Object) → IsIn o (objects_in rows old)
        → word_of new ((moved_object V o).place - 8) ≡ word_of old (o.place - 8)
    header_back o i =
        let p : ℕ = moved_by V o.place in
        let (up, z) = place-high rows carried carried_heap f.made.held (moved_object V o) (in_carried o i) in
        let (up_old, z_old) = place-high rows old f.heap f.held o i in
        let home : p - 8 + 8 ≡ p = omega (arith, up) in
        let home_old : o.place - 8 + 8 ≡ o.place = omega (arith, up_old) in
        let header = f.made.headers o (in_view o i) in
        elim (back.words (p - 8) (omega (arith, up, z))) [
          | inl hit ↦
              let q : IsPinnedBelow table 1 65536 p = subst (IsPinnedBelow table 1 65536) home hit.0 in
              let (w, j, at) = pinned_stands rows old view table true f.heap f.held f.stand f.pins p q in
              let still : moved_by V w.place ≡ w.place =
              pinned_stays w j q.number q.row q.in_use q.pinned (q.target ∙ sym at) in
              let same : o.place ≡ w.place =
              fit_apart n kept f.laid f.bare o w (in_machine o i) (in_machine w j) (sym (still ∙ at)) in
              elim (f.pins.words (o.place - 8) (omega (arith, up_old, z_old))) [
                | inl on ↦
                    let k = item-of rows old o i in
                    let off : has_pin (word_of old (o.place - 8)) ≡ false =
                    subst (λ (x : ℕ). has_pin (word_of old (x - 8)) ≡ false) (sym k.at)
                    (none-pinned rows k.item.type_id.0 (word_of old (k.item.place - 8))
                    (f.clean k.item k.listed k.object).header) in
                    hit.1 ∙ ap (pinned_header false) (header ∙ on.1) ∙ pin-back (word_of old (o.place - 8)) off
                | inr none ↦
                    absurd (none.0 (subst (IsPinnedBelow table 1 65536) (sym (home_old ∙ same ∙ at)) q))
              ]
          | inr miss ↦ elim (f.pins.words (o.place - 8) (omega (arith, up_old, z_old))) [
            | inl on ↦
                let q : IsPinnedBelow table 1 65536 o.place = subst (IsPinnedBelow table 1 65536) home_old on.0 in
                let still : p ≡ o.place = pinned_stays o i q.number q.row q.in_use q.pinned q.target in
                absurd (miss.0 (subst (IsPinnedBelow table 1 65536) (sym (home ∙ still)) q))
            | inr none ↦ miss.1 ∙ header ∙ none.1
          ]
        ]

    objects_back : objects_in rows new ≡ sorted_by (λ o. o.name) (map (moved_object V) (objects_in rows old))
    objects_back =
        back.objects ∙ f.made.objects
        ∙ ap (λ (os : List Object). sorted_by (λ o. o.name) (map (moved_object V) os)) f.pins.objects

    marks_back : (o : Object) → IsIn o (objects_in rows old)
        → is_marked new (moved_object V o) ≡ (if is_moved V o.place then false else is_marked old o)
    marks_back o i =
        marked-kept rows carried new table 1 carried_heap f.made.held false back (moved_object V o) (in_carried o i)
        ∙ f.made.marks o (in_view o i)
        ∙ ap (λ (b : Bool). if is_moved V o.place then false else b)
        (marked-kept rows old view table 1 f.heap f.held true f.pins o i)

    padding_back : ArePadded rows old → ArePadded rows new
    padding_back padded =
        padding_kept rows carried new table false carried_heap f.made.held pins_stand_carried back
        (f.made.padding (padding_kept rows old view table true f.heap f.held f.stand f.pins padded))

    -- THE FIT, as if no bit had been set
    pub made_back : HasMadeFit rows old new n kept bytes
    made_back = record {
      objects = objects_back;
      layout = back.layout ∙ f.made.layout;
      marks = marks_back;
      headers = header_back;
      padding = padding_back;
      forwards = forwards_kept rows carried new table false carried_heap f.made.held pins_stand_carried back
          (moved_by V) f.made.forwards;
      counted = f.made.counted;
      shape = SameShape-trans old carried new (SameShape-trans old view carried f.pins.shape f.made.shape) back.shape;
      held = back.held;
    }

    -- HEADERS AND PADDING are clean again
    pub clean_back : AreClean rows new
    clean_back i listed object =
        let q = object_in rows (word_of new) i in
        let there =
        IsIn-map (object_in rows (word_of new)) (into_filter is_object (heap_items rows new) object listed) in
        let (o, same, present) = from-map (moved_object V) q (objects_in rows old)
        (out_of_sorted_by (λ (x : Object). x.name) q (map (moved_object V) (objects_in rows old))
        (subst (λ (os : List Object). IsIn q os) objects_back there)) in
        let k = item-of rows old o present in
        let type : i.type_id.0 ≡ k.item.type_id.0 =
        ap (λ (x : Object). x.type) same ∙ ap (λ (x : Object). x.type) k.is in
        let header : word_of new (i.place - 8) ≡ word_of old (k.item.place - 8) =
        ap (λ (x : Object). word_of new (x.place - 8)) same ∙ header_back o present
        ∙ ap (λ (x : ℕ). word_of old (x - 8)) k.at in
        record {
          header = subst₂ (λ (t w : ℕ). IsCleanHeader rows t w) (sym type) (sym header)
              (f.clean k.item k.listed k.object).header;
          padding = padding_back (λ j l is. (f.clean j l is).padding) i listed object;
        }
