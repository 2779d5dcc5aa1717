-- The headers tell which objects are pinned, once the bits are set.
use Rattle.std.proofs.Common.{◌≡◌, ◌≢◌, inl, inr, ℕ, ◌+◌, ◌-◌, ◌/◌, ◌%◌, ◌<◌, ◌≤◌, ◌==◌, Bool, true, false}
use Rattle.std.proofs.Common.{not, ◌&&◌, List}
use Rattle.std.proofs.Common.{refl, ap, sym, ◌∙◌, subst, arith, Some, if◌then◌else◌, filter, length}
use Rattle.std.specs.FinMap as finmap
use Rattle.std.specs.FinMap.{FinMap}
use Rattle.std.specs.Ordering.{nat_cmp}
use Rattle.std.proofs.lemmas.Bool.{and_parts, both_ways, cases_Bool, cases_lt, eq-eqb, eqb-true, ne_eqb}
use Rattle.clr_types.specs.Bits.{pinned_bit}
use Rattle.clr_types.specs.Kinds.{is_pinned_kind}
use Rattle.clr_types.specs.Rising.{IsIn, IsRisingBy}
use Rattle.clr_types.specs.Segments.{generation}
use Rattle.clr_types.specs.Types.{TypeRow}
use Rattle.clr_types.specs.declared.handle.Handle.{Handle}
use Rattle.clr_types.proofs.ListMembers.{any-from, any-in}
use Rattle.clr_types.proofs.MapValues.{value-in_use}
use Rattle.clr_handles.specs.Tops.{pinned_in}
use Rattle.clr_heap.specs.View.{frame, heap_items, HeapView, IsHeap, word_of}
use Rattle.clr_model.specs.Machine.{Machine, Object}
use Rattle.clr_model.proofs.HandleTables.{value-among}
use Rattle.clr_view.specs.Clean.{AreClean, IsCleanHeader}
use Rattle.clr_view.specs.Memory.{is_marked, IsMemoryOf, TestsMarks}
use Rattle.clr_view.specs.View.{IsHeld, objects_in}
use Rattle.clr_view.proofs.LeftNames.{name-is-place}
use Rattle.clr_view.proofs.Rises.{objects-rise}
use Rattle.clr_view.proofs.Listings.{heap-rise}
use Rattle.clr_plan.specs.Pinned.{has_pin, TellsPins}
use Rattle.clr_plan.specs.Planned.{pinned_marked}
use Rattle.clr_survivors.specs.Pins.{HasPins, IsPinnedBelow, pinned_header}
use Rattle.clr_survivors.specs.Survivors.{pins_place}
use Rattle.clr_survivors.proofs.FewPinned.{all_pinned, fewer}
use Rattle.clr_survivors.proofs.ItemsOf.{item-of, place-high}
use Rattle.clr_survivors.proofs.PinnedFrom.{or_null, pinned-relocated, pins-above, pins-under, table_from}

and_from : (a b : Bool) → a ≡ true → b ≡ true → (a && b) ≡ true
and_from true true p q = refl
and_from true false p q = absurd cc
and_from false b p q = absurd cc

-- ---- headers

-- a header with the bit set has it
pub pin-set : (header : ℕ) → has_pin (pinned_header true header) ≡ true
pin-set header = go (has_pin header) refl
  where
    go : (has : Bool) → has_pin header ≡ has
        → has_pin (if true && not has then header + pinned_bit
        else if not true && has then header - pinned_bit else header) ≡ true
    go true is = is
    go false is = eq-eqb ((header + pinned_bit) / pinned_bit % 2) 1 (pin-odd header is)
      where
        pin-odd : (n : ℕ) → has_pin n ≡ false → (n + pinned_bit) / pinned_bit % 2 ≡ 1
        pin-odd n e = let odd = eqb-false n e in omega (arith, odd)
          where
            eqb-false : (k : ℕ) → has_pin k ≡ false → k / pinned_bit % 2 ≢ 1
            eqb-false k f same = both_ways (has_pin k) f (eq-eqb (k / pinned_bit % 2) 1 same)

-- a clean header hasn't
pub none-pinned : (rows : List TypeRow) (t header : ℕ) → IsCleanHeader rows t header → has_pin header ≡ false
none-pinned rows t header (inl zero_is) = ne_eqb (header / pinned_bit % 2) 1 (λ e. omega (arith, e, zero_is))
none-pinned rows t header (inr flag) =
    let is = flag.0 in ne_eqb (header / pinned_bit % 2) 1 (λ e. omega (arith, e, is))

-- ---- handles

module _ (table : FinMap nat_cmp Handle) (numbers : (k : ℕ) (row : Handle) → finmap.get table k ≡ Some row → k < 65536)
  where
    pub pinned-below : (low place : ℕ) → 0 < place → low ≤ place → pins_place table place ≡ true
        → IsPinnedBelow table low 65536 place
    pinned-below low place some high e =
        let (row, i, passes) =
        any-in (λ (r : Handle). is_pinned_kind r.kind && (r.target == place)) (finmap.values table)
        e in
        let (k, here) = value-in_use table row i in
        let (kind, at) = and_parts (is_pinned_kind row.kind) (row.target == place) passes in
        record {
          number = k;
          below = numbers k row here;
          row = row;
          in_use = here;
          pinned = kind;
          target = eqb-true row.target place at;
          some = some;
          high = high;
        }

pub below-pinned : (table : FinMap nat_cmp Handle) (low n place : ℕ) → IsPinnedBelow table low n place
    → pins_place table place ≡ true
below-pinned table low n place q =
    any-from (λ (r : Handle). is_pinned_kind r.kind && (r.target == place)) (finmap.values table) q.row
    (value-among table q.number q.row q.in_use)
    (and_from (is_pinned_kind q.row.kind) (q.row.target == place) q.pinned (eq-eqb q.row.target place q.target))

-- ---- the heap with the bits

module _ (rows : List TypeRow) (old new : HeapView) (table : FinMap nat_cmp Handle) (low : ℕ) (heap : IsHeap old)
    (held : IsHeld rows old) (on : Bool) (pins : HasPins rows old new table low 65536 on) where
  pub frame-kept : frame new ≡ frame old
  frame-kept = ap frame pins.shape.others

  pub memory-kept : (m : Machine) → IsMemoryOf rows old m → IsMemoryOf rows new m
  memory-kept m memory = record {
    types = memory.types;
    objects = memory.objects ∙ sym pins.objects;
    layout = memory.layout ∙ sym pins.layout;
  }

  -- the same objects are marked
  pub marked-kept : (o : Object) → IsIn o (objects_in rows old) → is_marked new o ≡ is_marked old o
  marked-kept o i = elim (cases_Bool (is_marked new o)) [
    | inl marked ↦
        let there = subst (λ (os : List Object). IsIn o os) (sym pins.objects) i in
        marked ∙ sym ((pins.marks o.place).0 (record { stands = (o, there, refl); mark = marked })).mark
    | inr off ↦ elim (cases_Bool (is_marked old o)) [
      | inl marked ↦ absurd (both_ways (is_marked new o) off
          ((pins.marks o.place).1 (record { stands = (o, i, refl); mark = marked })).mark)
      | inr out ↦ off ∙ sym out
    ]
  ]

  pub tests-kept : (g : ℕ) (kept : ℕ → Bool) → TestsMarks rows old g kept → TestsMarks rows new g kept
  tests-kept g kept tests o i young =
      let was = subst (λ (os : List Object). IsIn o os) pins.objects i in
      let same = ap (λ l. generation l o.place) frame-kept in
      tests o was (omega (arith, young, same)) ∙ sym (marked-kept o was)

module _ (rows : List TypeRow) (old new : HeapView) (table : FinMap nat_cmp Handle) (low : ℕ) (heap : IsHeap old)
    (held : IsHeld rows old) (clean : AreClean rows old)
    (numbers : (k : ℕ) (row : Handle) → finmap.get table k ≡ Some row → k < 65536)
    (pins : HasPins rows old new table low 65536 true) where
  clean-header : (o : Object) → IsIn o (objects_in rows old) → has_pin (word_of old (o.place - 8)) ≡ false
  clean-header o n =
      let k = item-of rows old o n in
      let at = k.at in
      subst (λ (p : ℕ). has_pin (word_of old (p - 8)) ≡ false) (sym at)
      (none-pinned rows k.item.type_id.0 (word_of old (k.item.place - 8)) (clean k.item k.listed k.object).header)

  pub pin-told : (o : Object) → IsIn o (objects_in rows old)
      → pins_place (table_from low table) o.name ≡ has_pin (word_of new (o.place - 8))
  pin-told o n =
      let name = name-is-place rows old o n in
      let (up, aligned) = place-high rows old heap held o n in
      let back : o.place - 8 + 8 ≡ o.place = omega (arith, up) in
      let some : 0 < o.name = omega (arith, up, name) in
      elim (pins.words (o.place - 8) (omega (arith, up, aligned))) [
        | inl hit ↦
            let here = subst (IsPinnedBelow table low 65536) (back ∙ sym name) hit.0 in
            pins-above low o.name some here.high table ∙ below-pinned table low 65536 o.name here
            ∙ sym (ap has_pin hit.1 ∙ pin-set (word_of old (o.place - 8)))
        | inr miss ↦
            let off : has_pin (word_of new (o.place - 8)) ≡ false = ap has_pin miss.1 ∙ clean-header o n in
            elim (cases_lt o.name low) [
              | inl under ↦ pins-under low o.name some under table ∙ sym off
              | inr high ↦
                  pins-above low o.name some high table
                  ∙ elim (cases_Bool (pins_place table o.name)) [
                    | inl pinned ↦ absurd (miss.0 (subst (IsPinnedBelow table low 65536) (name ∙ sym back)
                        (pinned-below table numbers low o.name some high pinned)))
                    | inr none ↦ none ∙ sym off
                  ]
            ]
      ]

  -- THE PINS ARE TOLD
  pub tells-pins : (m : Machine) → m.handles ≡ table_from low table → TellsPins rows new m
  tells-pins m same o n =
      ap (λ (t : FinMap nat_cmp Handle). pins_place t o.name) same
      ∙ pin-told o (subst (λ (os : List Object). IsIn o os) pins.objects n)

  -- no more marked objects are pinned than handles pin
  pub few-pinned : pinned_marked rows new ≤ pinned_in table
  few-pinned =
      let passes : Object → Bool = λ o. is_marked new o && has_pin (word_of new (o.place - 8)) in
      let rise : IsRisingBy (λ (o : Object). o.name) (objects_in rows old) =
      objects-rise rows (word_of old) (heap_items rows old) (heap-rise rows old held.walkable heap) in
      let all = all_pinned (finmap.values (table_from low table)) (objects_in rows old) rise in
      let some = fewer passes (λ o. pins_place (table_from low table) o.name) (objects_in rows old)
      (λ o n e. pin-told o n ∙ (and_parts (is_marked new o) (has_pin (word_of new (o.place - 8))) e).1) in
      let same = ap (λ (os : List Object). length (filter passes os)) pins.objects in
      let count = pinned-relocated (or_null low) table in
      omega (arith, all, some, same, count)
