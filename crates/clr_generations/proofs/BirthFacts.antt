-- What a birth leaves of objects, bounds and references, and the laws after it.
use Rattle.std.proofs.Common.{◌≡◌, ◌⊎◌, inl, inr, ℕ, ◌+◌, ◌-◌, ◌/◌, ◌<◌, ◌≤◌, Bool, true, false}
use Rattle.std.proofs.Common.{if◌then◌else◌, ◌&&◌, List, filter, get_or, refl, ap, sym, ◌∙◌}
use Rattle.std.proofs.Common.{subst, arith, leb, ltb, ℤ, Option, None, Some}
use Rattle.std.proofs.lemmas.Bool.{le-leb, le-ltb, leb-true, lt-ltb, ltb-true}
use Rattle.std.proofs.lemmas.Option.{slice_get-get_or}
use Rattle.clr_types.specs.Ranges.{Piece, piece_end}
use Rattle.clr_types.specs.Rising.{IsIn}
use Rattle.clr_types.specs.Segments.{empty_segment, ephemeral, flat_option, generation, Layout}
use Rattle.clr_types.specs.Segments.{reserved_end, rest_of, stands_in}
use Rattle.clr_types.specs.Types.{form_at, size_of, TypeRow}
use Rattle.clr_types.specs.declared.segment.SegInfo.{SegInfo}
use Rattle.clr_types.proofs.ChangedLists.{out_of_filter}
use Rattle.clr_types.proofs.TailTaken.{size-lawful}
use Rattle.clr_covers.specs.Covers.{CoverView, is_covered}
use Rattle.clr_heap.specs.Parts.{item_at}
use Rattle.clr_heap.specs.View.{frame, heap_items, HeapView, IsHeap, segment_at, sight, word_of}
use Rattle.clr_heap.specs.View.{first_of, last_of, parts_of}
use Rattle.clr_heap.proofs.Framing.{lawful_at}
use Rattle.clr_heap.proofs.Holes.{hole_among}
use Rattle.clr_heap.proofs.Spelling.{Among-bounds}
use Rattle.clr_model.specs.Allocation.{context_front, front_of, own_fits, rest_fits}
use Rattle.clr_model.specs.Lookups.{object_size}
use Rattle.clr_model.specs.Machine.{Object}
use Rattle.clr_view.specs.Among.{AreClosedAmong}
use Rattle.clr_view.specs.View.{HasNewborn, IsHeld, is_object, newborn_at, object_in, objects_in}
use Rattle.clr_view.proofs.Bearing.{born-stands}
use Rattle.clr_view.proofs.ObjectItems.{in_map, stands-item}
use Rattle.clr_view.proofs.Standing.{standing}
use Rattle.clr_view.proofs.Tails.{found-young, kind-young}
use Rattle.clr_bricks.specs.Bricks.{entry_at}
use Rattle.clr_generations.specs.Born.{with_place}
use Rattle.clr_generations.specs.Laws.{BrickLaw, IsBrickOf, NamesNoMore}
use Rattle.clr_generations.specs.Tables.{AreBricksOf}
use Rattle.clr_generations.proofs.AddedObjects.{apart as apart-born, came, HasOneMore, stays, unnamed-birth}
use Rattle.clr_generations.proofs.BirthLaws.{brick_law-born, IsYoungBirth}
use Rattle.clr_generations.proofs.CardBirths.{younger-born}
use Rattle.clr_generations.proofs.Covered.{brick-covered}
use Rattle.clr_generations.proofs.FoundItems.{in-at}
use Rattle.clr_generations.proofs.KeptTables.{bounds-from}
use Rattle.clr_generations.proofs.SameBounds.{HasSameBounds, units-same}

-- ---- generations

-- a place of the ephemeral segment that isn't of generation 0 is below a boundary
pub below-boundary : (layout : Layout) (p : ℕ) → stands_in (ephemeral layout) p ≡ true → 0 < generation layout p
    → (p < layout.start1) ⊎ (p < layout.start0)
below-boundary layout p e aged =
    go (ltb p layout.start1) (ltb p layout.start0) refl refl
    (subst (λ (b : Bool). 0 < (if b then (if ltb p layout.start1 then 2
    else (if ltb p layout.start0 then 1 else 0)) else 2)) e aged)
  where
    go : (b c : Bool) → ltb p layout.start1 ≡ b → ltb p layout.start0 ≡ c
        → 0 < (if b then 2 else (if c then 1 else 0)) → (p < layout.start1) ⊎ (p < layout.start0)
    go true c is other l = inl (ltb-true p layout.start1 is)
    go false true is other l = inr (ltb-true p layout.start0 other)
    go false false is other l = absurd (omega arith)

-- and one that is in it and below none is of generation 0
at-youngest : (layout : Layout) (p : ℕ) → stands_in (ephemeral layout) p ≡ true → layout.start1 ≤ p → layout.start0 ≤ p
    → generation layout p ≡ 0
at-youngest layout p e one none =
    let past_one = le-ltb p layout.start1 one in
    let past_none = le-ltb p layout.start0 none in
    λ i. if e i then (if past_one i then 2 else (if past_none i then 1 else 0)) else 2

-- ---- the birth

-- an object was born where the thread's context began
pub record IsBornIn (rows : List TypeRow) (old new : HeapView) (thread t n : ℕ) : Type 0 where
  pub before : IsHeap old
  pub held : IsHeld rows old
  pub positive : 0 < thread
  pub few : thread ≤ 16
  pub room : own_fits (frame old) thread (size_of (form_at rows t) n) ≡ true
  pub born : HasNewborn rows old new thread t n

module _ (rows : List TypeRow) (old new : HeapView) (thread t n : ℕ) (f : IsBornIn rows old new thread t n) where
  abbrev place : ℕ
  place = context_front (frame old) thread

  -- one object more
  more : HasOneMore rows old new (context_front (frame old) thread) t n
  more = record {
    before = f.before;
    after = f.born.heap;
    held = f.held;
    now_held = f.born.held;
    objects = f.born.objects;
  }

  -- its cell is no other's
  apart : (o : Object) → IsIn o (objects_in rows old) → (o.place + object_size rows o ≤ place) ⊎ (place < o.place)
  apart o i =
      let least = (size-lawful (form_at rows t) n).0 in
      elim (apart-born rows old new place t n more o i) [ inl before ↦ inl before | inr after ↦ inr (omega arith) ]

  -- ---- where it stands

  bounds : HasSameBounds (frame old) (frame new)
  bounds = bounds-from (frame old) (frame new) (ap (λ (l : Layout). l.segments) f.born.layout)
      (ap (λ (l : Layout). l.start1) f.born.layout) (ap (λ (l : Layout). l.start0) f.born.layout)

  -- the thread's context
  context : (r : Piece) × (get_or old.rests (thread - 1) None ≡ Some r) × (place ≡ r.place)
  context =
      let pos = f.positive in
      let few = f.few in
      let count = f.before.threads in
      let is = ap flat_option (slice_get-get_or old.rests (thread - 1) None (omega arith)) in
      go (get_or old.rests (thread - 1) None) refl is
    where
      go : (o : Option Piece) → get_or old.rests (thread - 1) None ≡ o → rest_of (frame old) thread
          ≡ get_or old.rests (thread - 1) None → (r : Piece) × (get_or old.rests (thread - 1) None ≡ Some r)
          × (place ≡ r.place)
      go None e is =
          let none : rest_fits None (size_of (form_at rows t) n) ≡ true =
          ap (λ o. rest_fits o (size_of (form_at rows t) n)) (sym (is ∙ e)) ∙ f.room in
          absurd cc
      go (Some r) e is = (r, e, ap front_of (is ∙ e))

  -- what is known of the place
  record StandsYoung : Type 0 where
    low : old.start0 ≤ place
    inside : stands_in (ephemeral (frame old)) place ≡ true

  stands-young : StandsYoung
  stands-young =
      let r = context.0 in
      let own = f.held.contexts (thread - 1) r context.1 in
      let young = found-young old f.before in
      let k = young.0 in
      let among = own.among k young.1.in_range (kind-young old k f.before young.1) in
      let spelled = (f.held.walkable k young.1.in_range).spelled in
      let in_parts = Among-bounds (sight rows old k) (parts_of rows old k) _ (first_of old k) (last_of old k) spelled
      among in
      let hole = hole_among (sight rows old k) (parts_of rows old k) r.place (piece_end r) (first_of old k)
      (last_of old k) spelled among in
      let least = hole.least in
      let end = (lawful_at old k f.before young.1.in_range).high in
      let at = context.2 in
      let above = in_parts.0 in
      let below = in_parts.1 in
      let starts = own.young in
      let s = segment_at old k in
      let from : first_of old k ≤ place = omega arith in
      let to : place < reserved_end s = omega arith in
      let from_is = le-leb (first_of old k) place from in
      let to_is = lt-ltb place (reserved_end s) to in
      record {
        low = omega arith;
        inside = ap (λ (q : SegInfo). stands_in q place) (sym young.1.is) ∙ λ i. from_is i && to_is i;
      }

  home : (o : Object) → IsIn o (objects_in rows old)
      → (s : SegInfo) × IsIn s old.segments × (stands_in s o.place ≡ true) × IsBrickOf s (o.place / 4096)
  home o i =
      let found = in_map (object_in rows (word_of old)) o (filter is_object (heap_items rows old)) i in
      let passed = out_of_filter is_object found.0 (heap_items rows old) found.1 in
      let at = ap (λ (p : Object). p.place) found.2 in
      let there = standing rows old f.before f.held found.0 passed.1 in
      let k = there.segment in
      let s = segment_at old k in
      let lawful = lawful_at old k f.before there.in_range in
      let base = lawful.base in
      let reserved = lawful.reserved in
      let above = there.above in
      let below = there.below in
      let least = there.least in
      let all = there.reserved in
      let from : first_of old k ≤ o.place = omega arith in
      let to : o.place < reserved_end s = omega arith in
      let from_is = le-leb (first_of old k) o.place from in
      let to_is = lt-ltb o.place (reserved_end s) to in
      (s, in-at old.segments k empty_segment there.in_range, (λ j. from_is j && to_is j), (omega arith, omega arith))

  near : old.start1 ≤ old.start0 → (p : ℕ) → p / 4096 ≡ place / 4096 → 0 < generation (frame old) p → p < place
  near order p e aged =
      let young = found-young old f.before in
      let k = young.0 in
      let s = segment_at old k in
      let lawful = lawful_at old k f.before young.1.in_range in
      let base = lawful.base in
      let reserved = lawful.reserved in
      let inside : stands_in s place ≡ true =
      ap (λ (q : SegInfo). stands_in q place) young.1.is ∙ stands-young.inside in
      let both = both-true (leb (first_of old k) place) (ltb place (reserved_end s)) inside in
      let from = leb-true (first_of old k) place both.0 in
      let to = ltb-true place (reserved_end s) both.1 in
      let up : first_of old k ≤ p = omega arith in
      let down : p < reserved_end s = omega arith in
      let from_is = le-leb (first_of old k) p up in
      let to_is = lt-ltb p (reserved_end s) down in
      let there : stands_in (ephemeral (frame old)) p ≡ true =
      ap (λ (q : SegInfo). stands_in q p) (sym young.1.is) ∙ λ i. from_is i && to_is i in
      let low = stands-young.low in
      elim (below-boundary (frame old) p there aged) [ inl one ↦ omega arith | inr none ↦ omega arith ]
    where
      both-true : (a b : Bool) → (a && b) ≡ true → (a ≡ true) × (b ≡ true)
      both-true true true e = (refl, refl)
      both-true true false e = absurd cc
      both-true false b e = absurd cc

  young-birth : old.start1 ≤ old.start0
      → IsYoungBirth rows (frame old) (frame new) (objects_in rows old) (objects_in rows new) place
  young-birth order = record {
    same = bounds;
    came = λ o i. elim (came rows old new place t n more o i) [
      | inl new_one ↦ inl (ap (λ (p : Object). p.place) new_one)
      | inr was ↦ inr was
    ];
    stays = stays rows old new place t n more;
    there = born-stands rows old new thread t n f.born;
    young = at-youngest (frame old) place stands-young.inside (let low = stands-young.low in omega arith)
        stands-young.low;
    low = stands-young.low;
    apart = apart;
    near = near order;
    homes = home;
  }

  -- ---- for the caller

  -- the brick of the place is there
  pub newborn-covered : (bricks : List (CoverView ℤ)) → AreBricksOf (frame old) bricks
      → is_covered bricks (place / 4096) ≡ true
  newborn-covered bricks e =
      let there = stands-item rows new f.born.heap f.born.held place (born-stands rows old new thread t n f.born) in
      let home_is = standing rows new f.born.heap f.born.held (item_at rows (word_of new) place) there.listed in
      let at = there.at in
      let above = home_is.above in
      let below = home_is.below in
      let least = home_is.least in
      let all = home_is.reserved in
      brick-covered new home_is.segment place f.born.heap home_is.in_range (omega arith) (omega arith) bricks
      (e ∙ sym (units-same (frame old) (frame new) bounds 4096))

  -- THE BRICK LAW is kept
  pub bricks-born : old.start1 ≤ old.start0 → (bricks after : List (CoverView ℤ))
      → ((i : ℕ) → entry_at after i ≡ with_place (frame new) (entry_at bricks) place i)
      → BrickLaw rows (frame old) (objects_in rows old) (entry_at bricks)
      → BrickLaw rows (frame new) (objects_in rows new) (entry_at after)
  bricks-born order bricks after told law =
      subst (BrickLaw rows (frame new) (objects_in rows new)) (λ i brick. sym (told brick) i)
      (brick_law-born rows (frame old) (frame new) (objects_in rows old) (objects_in rows new) place
      (young-birth order) (entry_at bricks) law)

  -- no reference to a younger object is new, where what is named stands
  pub cards-born : AreClosedAmong rows (word_of old) (heap_items rows old)
      → NamesNoMore rows (frame old) (objects_in rows old) (frame new) (objects_in rows new)
  cards-born closed =
      younger-born rows (frame old) (frame new) (objects_in rows old) (objects_in rows new)
      (newborn_at rows place t n) bounds (unnamed-birth rows old new place t n more closed)
