-- An object that was carried, as bricks are told of it: one more at its new place, and then one less at its old one.
use Rattle.std.proofs.Common.{◌≡◌, ◌≢◌, ◌⊎◌, inl, inr, ℕ, ◌+◌, ◌*◌, ◌/◌, ◌<◌, ◌≤◌, ◌^◌, true, List, [], ◌∷◌}
use Rattle.std.proofs.Common.{◌++◌, refl, ap, sym, ◌∙◌, subst, arith, filter, map, not, ℤ}
use Rattle.std.proofs.lemmas.Bool.{cases_eq, true≢false}
use Rattle.clr_types.specs.LawfulLayout.{IsLawfulSegment}
use Rattle.clr_types.specs.Ranges.{Piece, piece_end}
use Rattle.clr_types.specs.Rising.{first, IsIn, later}
use Rattle.clr_types.specs.Segments.{ephemeral, Layout, stands_in}
use Rattle.clr_types.specs.Types.{TypeRow}
use Rattle.clr_types.specs.declared.item.Item.{Item}
use Rattle.clr_types.specs.declared.segment.SegInfo.{SegInfo}
use Rattle.clr_types.proofs.ChangedLists.{into_filter, IsIn-map, out_of_filter}
use Rattle.clr_types.proofs.ListMembers.{append_right, from-map, rising_same}
use Rattle.clr_types.proofs.RisingLists.{all_at, in_cons}
use Rattle.clr_types.proofs.SegmentFacts.{between-stands}
use Rattle.clr_types.proofs.SortedLists.{into_sorted_by, out_of_sorted_by}
use Rattle.clr_covers.specs.Covers.{CoverView, is_covered}
use Rattle.clr_heap.specs.Parts.{item_piece}
use Rattle.clr_heap.specs.View.{frame, heap_items, HeapView, IsHeap, segment_at, word_of}
use Rattle.clr_heap.proofs.Framing.{lawful_at}
use Rattle.clr_model.specs.Allocation.{taken_from}
use Rattle.clr_model.specs.Lookups.{object_size}
use Rattle.clr_model.specs.Machine.{Object}
use Rattle.clr_view.specs.View.{free_in, IsHeld, is_object, object_in, objects_in}
use Rattle.clr_view.proofs.Items.{IsItem, stacked-apart}
use Rattle.clr_view.proofs.Listed.{listed-item, listed-low, listed-sized}
use Rattle.clr_view.proofs.Listings.{heap-rise, heap-stacked}
use Rattle.clr_moves.specs.Objects.{moved_object}
use Rattle.clr_generations.specs.OldBirths.{HasOldNewborn}
use Rattle.clr_generations.specs.Tables.{AreBricksOf}
use Rattle.clr_generations.proofs.AllBricks.{number-in}
use Rattle.clr_generations.proofs.HeapHomes.{brick-covered, brick-in}
use Rattle.clr_evacuate.specs.Carried.{CanCarry, carry_of, HasCarried}
use Rattle.clr_evacuate.specs.Left.{HasLeft, IsOldHome, IsOldItemAt}
use Rattle.clr_evacuate.proofs.CarriedHeap.{carried_here, carried_past}
use Rattle.clr_evacuate.proofs.Copying.{carried_apart, carried_within, free_item_of, IsFreeItem}
use Rattle.clr_evacuate.proofs.Replacing.{home_item, home_of, home_there}

module _ (rows : List TypeRow) (h : HeapView) (i : Item) (item : Piece) (heap : IsHeap h) (held : IsHeld rows h)
    (asked : CanCarry rows h i item) where
  open asked use {listed, lower}

  abbrev x : Item
  x = (free_item_of rows h item asked.free).0

  is_x : IsFreeItem rows h item x
  is_x = (free_item_of rows h item asked.free).1

  place_is : item.place ≡ x.place
  place_is = ap (λ (p : Piece). p.place) is_x.is

  size_is : item.size ≡ x.size
  size_is = ap (λ (p : Piece). p.size) is_x.is

  is_i : IsItem rows i.place (i.place + i.size) i
  is_i = listed-item rows h i heap held listed

  fit : i.size ≤ item.size
  fit = carried_within rows h i item heap held asked

  apart : piece_end item ≤ i.place
  apart = carried_apart rows h i item heap held asked

  abbrev old : List Object
  old = objects_in rows h

  abbrev go : Object → Object
  go = moved_object (carry_of i item.place)

  -- the object, and what it is at its new place
  abbrev this : Object
  this = object_in rows (word_of h) i

  abbrev pub there : Object
  there = go this

  this_in : IsIn this old
  this_in = IsIn-map (object_in rows (word_of h)) (into_filter is_object (heap_items rows h) asked.object listed)

  there_place : there.place ≡ item.place
  there_place = carried_here i item.place is_i.least

  -- ---- the others

  item_of : (o : Object) → IsIn o old
      → (j : Item) × (o ≡ object_in rows (word_of h) j) × (is_object j ≡ true) × IsIn j (heap_items rows h)
  item_of o mine =
      let (j, same, among) = from-map (object_in rows (word_of h)) o (filter is_object (heap_items rows h)) mine in
      let (object, was) = out_of_filter is_object j (heap_items rows h) among in
      (j, same, object, was)

  place_of : (o : Object) (mine : IsIn o old) → o.place ≡ (item_of o mine).0.place
  place_of o mine = ap (λ (p : Object). p.place) (item_of o mine).1

  size_of_item : (o : Object) (mine : IsIn o old) → object_size rows o ≡ (item_of o mine).0.size
  size_of_item o mine =
      let (j, same, object, was) = item_of o mine in
      ap (object_size rows) same ∙ sym (listed-sized rows h j heap held was)

  -- one stands apart from each item that isn't its own
  off : (o : Object) → IsIn o old → (j : Item) → IsIn j (heap_items rows h) → o.place ≢ j.place
      → (o.place + object_size rows o ≤ j.place) ⊎ (j.place + j.size ≤ o.place)
  off o mine j known ne =
      let (k, same, object, was) = item_of o mine in
      let at = place_of o mine in
      let size = size_of_item o mine in
      elim (stacked-apart (heap_items rows h) k j (heap-stacked rows h held.walkable heap) was known
      (λ e. ne (at ∙ e))) [
        | inl under ↦ inl (omega (arith, under, at, size))
        | inr over ↦ inr
            (omega (arith, over, at))
      ]

  -- none stands where the item does
  off_item : (o : Object) → IsIn o old → o.place ≢ x.place
  off_item o mine e =
      let (k, same, object, was) = item_of o mine in
      let one = rising_same (λ (l : Item). l.place) (heap_items rows h) k x (heap-rise rows h held.walkable heap) was
      is_x.listed (sym (place_of o mine) ∙ e) in
      true≢false (sym object ∙ ap is_object one ∙ ap not is_x.free)

  is_this : (o : Object) → IsIn o old → o.place ≡ i.place → o ≡ this
  is_this o mine e =
      let (k, same, object, was) = item_of o mine in
      same ∙ ap (object_in rows (word_of h))
      (rising_same (λ (l : Item). l.place) (heap_items rows h) k i (heap-rise rows h held.walkable heap) was listed
      (sym (place_of o mine) ∙ e))

  still : (o : Object) → IsIn o old → o.place ≢ i.place → go o ≡ o
  still o mine ne =
      let (k, same, object, was) = item_of o mine in
      let least = (listed-item rows h k heap held was).least in
      let size = size_of_item o mine in
      let place = carried_past i item.place o.place (elim (off o mine i listed ne) [
        | inl under ↦ inl (omega (arith, under, size, least))
        | inr over ↦ inr over
      ]) in
      let name : o.place ≡ o.name =
      place_of o mine ∙ sym (ap (λ (p : Object). p.name) same) in
      λ n. record o { name = (place ∙ name) n; place = place n }

  -- ---- one more

  -- THE OBJECT AT ITS NEW PLACE, as its bricks are told of it
  pub carried_newborn : IsOldHome (frame h) item.place
      → HasOldNewborn rows (frame h) (frame h) old (there ∷ old) there
  carried_newborn home =
      let lawful = all_at IsLawfulSegment home.listed heap.segments in
      record {
        members = λ o mine. in_cons mine;
        stays = λ o mine. later mine;
        born = first;
        apart = λ o mine.
            (let at = there_place in
            let to = place_is in
            let all = size_is in
            let within = fit in
            let size : object_size rows there ≡ i.size = sym (listed-sized rows h i heap held listed) in
            elim (off o mine x is_x.listed (off_item o mine)) [
              | inl under ↦ inl (omega (arith, under, at, to))
              | inr over ↦ inr (omega (arith, over, at, to, all, within, size))
            ]);
        segments = refl;
        start1 = refl;
        start0 = refl;
        home = home.home;
        listed = home.listed;
        base = lawful.base;
        reserved = lawful.reserved;
        inside = subst (λ p. stands_in home.home p ≡ true) (sym there_place) home.inside;
        old = λ p stands up. (let at = there_place in home.old p stands (omega (arith, up, at)));
      }

  pub newborn_size : object_size rows there ≡ i.size
  newborn_size = sym (listed-sized rows h i heap held listed)

  pub newborn_place : there.place ≡ item.place
  newborn_place = there_place

  pub newborn_some : 0 < i.size
  newborn_some = let least = is_i.least in omega (arith, least)

  -- it ends low enough
  pub newborn_ends : item.place + i.size < 2 ^ 62
  newborn_ends =
      let low = listed-low rows h i heap held listed in
      let least = is_i.least in
      let within = fit in
      let below = apart in
      omega (arith, low, least, within, below)

  -- and the bricks that it meets are there
  pub newborn_covered : (bricks : List (CoverView ℤ)) → AreBricksOf (frame h) bricks → (n : ℕ) → item.place / 4096 ≤ n
      → 4096 * n < item.place + i.size → is_covered bricks n ≡ true
  newborn_covered bricks has n from to =
      let k = home_of rows h x heap held is_x.listed in
      let inside = home_there rows h x heap held is_x.listed in
      let is = home_item rows h x heap held is_x.listed in
      let above = is.above in
      let below = is.below in
      let at = place_is in
      let all = size_is in
      let within = fit in
      brick-covered h bricks bricks k n heap inside has refl
      (brick-in h k n heap inside (omega (arith, above, at, from)) (omega (arith, below, at, all, within, to)))

  -- ---- one less

  module _ (new : HeapView) (c : HasCarried rows h new i item) where
    frame_is : frame new ≡ frame h
    frame_is = ap frame c.shape.others

    now_member : (o : Object) → IsIn o (objects_in rows new) → (o ≡ there) ⊎ (IsIn o old × (o.place ≢ i.place))
    now_member o now =
        let (p, is, mine) = from-map go o old
        (out_of_sorted_by (λ (q : Object). q.name) o (map go old) (subst (IsIn o) c.objects now)) in
        elim (cases_eq p.place i.place) [
          | inl same ↦ inl (is ∙ ap go (is_this p mine same))
          | inr other ↦
              let one = is ∙ still p mine other in
              inr (subst (λ (q : Object). IsIn q old × (q.place ≢ i.place)) (sym one) (mine, other))
        ]

    member_now : (o : Object) → IsIn o (map go old) → IsIn o (objects_in rows new)
    member_now o moved = subst (IsIn o) (sym c.objects) (into_sorted_by (λ (q : Object). q.name) o (map go old) moved)

    home_of_object : (o : Object) → IsIn o old → (s : SegInfo) × IsIn s h.segments × (stands_in s o.place ≡ true)
    home_of_object o mine =
        let (j, same, object, was) = item_of o mine in
        let k = home_of rows h j heap held was in
        let inside = home_there rows h j heap held was in
        let is = home_item rows h j heap held was in
        let above = is.above in
        let below = is.below in
        let least = is.least in
        let end = (lawful_at h k heap inside).high in (
          segment_at h k,
          number-in h.segments k inside,
          subst (λ p. stands_in (segment_at h k) p ≡ true) (sym (place_of o mine))
              (between-stands (segment_at h k) j.place above (omega arith)),
        )

    -- THE OBJECT IS GONE from its old place
    pub carried_left : IsOldHome (frame h) item.place
        → HasLeft rows (frame new) (there ∷ old) (objects_in rows new) i.place
    carried_left home =
        subst (λ (l : Layout). HasLeft rows l (there ∷ old) (objects_in rows new) i.place) (sym frame_is)
        (record {
          there = (this, later this_in, refl);
          members = λ o now. elim (now_member o now) [
            | inl one ↦ (
              subst (λ (q : Object). IsIn q (there ∷ old)) (sym one) first,
              λ e. (let at = ap (λ (q : Object). q.place) one in
                  let to = there_place in omega (arith, e, at, to, lower)),
            )
            | inr (mine, ne) ↦ (later mine, ne)
          ];
          stays = λ o mine ne. elim (in_cons mine) [
            | inl one ↦ subst (λ (q : Object). IsIn q (objects_in rows new)) (sym one)
                (member_now there (IsIn-map go this_in))
            | inr was ↦ subst (λ (q : Object). IsIn q (objects_in rows new)) (still o was ne)
                (member_now (go o) (IsIn-map go was))
          ];
          lower = λ o mine less. elim (in_cons mine) [
            | inl one ↦
                let at = ap (λ (q : Object). q.place) one in
                let size = ap (object_size rows) one ∙ newborn_size in
                let to = there_place in
                let within = fit in
                let below = apart in
                omega (arith, at, size, to, within, below)
            | inr was ↦ elim (off o was i listed (λ e. omega (arith, e, less))) [
              | inl under ↦ under
              | inr over ↦ let least = is_i.least in absurd (omega (arith, over, less, least))
            ]
          ];
          homes = λ o mine. elim (in_cons mine) [
            | inl one ↦ (
              home.home,
              home.listed,
              subst (λ (q : Object). stands_in home.home q.place ≡ true) (sym one)
                  (subst (λ p. stands_in home.home p ≡ true) (sym there_place) home.inside),
            )
            | inr was ↦ home_of_object o was
          ];
        })

    -- a free item begins there now
    pub vacated_item : stands_in (ephemeral (frame h)) i.place ≡ true → i.place < h.start0
        → IsOldItemAt rows new i.place
    vacated_item inside below =
        let free : IsIn (item_piece i) (free_in rows new) =
        subst (IsIn (item_piece i)) (sym (ap (λ (l : Layout). l.free) c.layout))
        (into_sorted_by (λ (p : Piece). p.place) (item_piece i)
        (taken_from item.place i.size (free_in rows h) ++ item_piece i ∷ [])
        (append_right (taken_from item.place i.size (free_in rows h)) first)) in
        let (j, is) = free_item_of rows new (item_piece i) free in
        record {
          item = j;
          listed = is.listed;
          at = sym (ap (λ (p : Piece). p.place) is.is);
          inside = subst (λ (l : Layout). stands_in (ephemeral l) i.place ≡ true) (sym frame_is) inside;
          old = subst (λ (l : Layout). i.place < l.start0) (sym frame_is) below;
        }
