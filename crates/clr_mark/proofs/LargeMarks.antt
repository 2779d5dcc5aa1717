-- Marks of all objects of large segments.
use Rattle.std.proofs.Common.{◌≡◌, ◌≢◌, ◌⊎◌, inl, inr, ℕ, zero, suc, ◌+◌, ◌%◌, ◌<◌, ◌≤◌, true, false, not, eqb}
use Rattle.std.proofs.Common.{List, [], ◌∷◌, length, get_or, refl, ap, sym, ◌∙◌, subst, arith, Bool, ◌&&◌, ◌||◌, ◌==◌}
use Rattle.std.proofs.Common.{filter, if◌then◌else◌, nat_le}
use Rattle.std.proofs.lemmas.Bool.{and_from, and_parts, both_ways, cases_Bool, cases_eq, cases_order, eq-eqb, le-leb}
use Rattle.std.proofs.lemmas.Bool.{or_right, true≢false}
use Rattle.clr_types.specs.Rising.{first, IsIn, later}
use Rattle.clr_types.specs.Types.{TypeRow}
use Rattle.clr_types.specs.Segments.{empty_segment, first_place, reserved_end, same_kind, stands_in}
use Rattle.clr_types.specs.declared.item.Item.{Item}
use Rattle.clr_types.specs.declared.segment.SegInfo.{SegInfo}
use Rattle.clr_types.specs.declared.segment.SegKind.TheVariants.{Ephemeral, Large}
use Rattle.clr_types.proofs.ChangedLists.{out_of_filter}
use Rattle.clr_types.proofs.ListMembers.{any-from, any-in, from-map}
use Rattle.clr_types.proofs.RisingLists.{all_at}
use Rattle.clr_types.proofs.SegmentFacts.{between-stands, stands-between}
use Rattle.clr_heap.specs.Parts.{unmarked}
use Rattle.clr_heap.specs.View.{first_of, frame, heap_items, HeapView, IsHeap, last_of, listing, segment_at, stored}
use Rattle.clr_heap.specs.View.{word_of}
use Rattle.clr_heap.proofs.Framing.{lawful_at}
use Rattle.clr_heap.proofs.Rewrite.{SameShape-refl, SameShape-stored}
use Rattle.clr_heap.proofs.Staying.{segment_order}
use Rattle.clr_heap.proofs.Storing.{word_in-store_in_other, word_in-store_in_same}
use Rattle.clr_model.specs.Machine.{Object}
use Rattle.clr_model.specs.Sweep.{has_condemned_part, part_start}
use Rattle.clr_view.specs.Marks.{has_mark}
use Rattle.clr_view.specs.Memory.{is_marked}
use Rattle.clr_view.specs.SlotValues.{StandsAt}
use Rattle.clr_view.specs.View.{IsHeld, is_object, object_in, objects_in}
use Rattle.clr_view.proofs.Items.{IsItem}
use Rattle.clr_view.proofs.Listings.{listing-are}
use Rattle.clr_view.proofs.Standing.{cell_has, listed_from, mt_in, standing, stands_from}
use Rattle.clr_mark.specs.LargeMarks.{HasItemMark, is_large_place, IsKeptOutside, KeepsMarks, with_item_mark}
use Rattle.clr_mark.specs.Marks.{IsRemarked}
use Rattle.clr_mark.proofs.Held.{keeps_held, remarked-refl, remarked-trans}
use Rattle.clr_mark.proofs.Remarking.{keeps_listing, same_segments}

-- ---- one item

-- what marking an item leaves
pub record AfterMark (rows : List TypeRow) (h new : HeapView) (i : Item) : Type 0 where
  pub remarked : IsRemarked rows h new
  pub kept : KeepsMarks h new
  pub others : (a : ℕ) → a % 8 ≡ 0 → a ≢ i.place → word_of new a ≡ word_of h a
  pub marked : HasItemMark new i

odds : (w : ℕ) → (unmarked (unmarked w + 1) ≡ unmarked w) × (has_mark (unmarked w + 1) ≡ true)
odds w = (omega arith, eq-eqb ((unmarked w + 1) % 2) 1 (omega arith))

pub after_mark : (rows : List TypeRow) (h : HeapView) (i : Item) → IsHeap h → IsHeld rows h
    → IsIn i (heap_items rows h) → AfterMark rows h (with_item_mark h i) i
after_mark rows h i heap held l = elim (cases_Bool (eqb i.type_id.0 0)) [
  | inl free ↦ rw free (record {
    remarked = remarked-refl rows h;
    kept = λ a z on. on;
    others = λ a z ne. refl;
    marked = λ o. absurd (true≢false (sym o ∙ ap not free));
  })
  | inr used ↦
      let v = unmarked (word_of h i.place) + 1 in
      let new = stored h i.place v in
      let has = cell_has rows h heap held i i.place l (mt_in rows h heap held i l) in
      let same : word_of new i.place ≡ v = word_in-store_in_same h.memories i.place v has.inside in
      let stands = stands_from rows h i l (ap not used) in
      let odd = odds (word_of h i.place) in
      rw used (record {
        remarked = record {
          shape = SameShape-stored h h i.place v (SameShape-refl h);
          words = λ a z. elim (cases_eq a i.place) [
            | inl e ↦
                let P : ℕ → Type 0 = λ b. StandsAt rows h b in
                inr (
                  subst P (sym e) stands,
                  ap (λ (b : ℕ). unmarked (word_of new b)) e ∙ ap unmarked same ∙ odd.0
                      ∙ ap (λ (b : ℕ). unmarked (word_of h b)) (sym e),
                )
            | inr ne ↦ inl (word_in-store_in_other h.memories i.place v a has.aligned z ne)
          ];
        };
        kept = λ a z on. elim (cases_eq a i.place) [
          | inl e ↦ ap (λ (b : ℕ). has_mark (word_of new b)) e ∙ ap has_mark same ∙ odd.1
          | inr ne ↦ ap has_mark (word_in-store_in_other h.memories i.place v a has.aligned z ne) ∙ on
        ];
        others = λ a z ne. word_in-store_in_other h.memories i.place v a has.aligned z ne;
        marked = λ o. ap has_mark same ∙ odd.1;
      })
]

-- ---- the walk over all segments

-- of the segments below k all objects of large ones are marked, and others are as before
pub record AreLargeMarked (rows : List TypeRow) (old now : HeapView) (k : ℕ) : Type 0 where
  pub remarked : IsRemarked rows old now
  pub marked : (j : ℕ) (i : Item) → j < k → same_kind Large (segment_at old j).kind ≡ true
      → IsIn i (listing rows old j) → HasItemMark now i
  pub others : (j : ℕ) (i : Item) → j < length old.segments
      → (same_kind Large (segment_at old j).kind ≡ false) ⊎ (k ≤ j) → IsIn i (listing rows old j)
      → word_of now i.place ≡ word_of old i.place

pub large_starts : (rows : List TypeRow) (h : HeapView) → AreLargeMarked rows h h 0
large_starts rows h = record {
  remarked = remarked-refl rows h;
  marked = λ j i l on n. absurd (omega (arith, l));
  others = λ j i l out n. refl;
}

module _ (rows : List TypeRow) (old now : HeapView) (k : ℕ) (heap : IsHeap old) (held : IsHeld rows old)
    (r : AreLargeMarked rows old now k) where
  pub large_held : IsHeld rows now
  large_held = keeps_held rows old now heap held r.remarked

  pub large_same : length now.segments ≡ length old.segments
  large_same = same_segments old now r.remarked.shape

  -- a segment of another kind
  pub large_over : same_kind Large (segment_at now k).kind ≡ false → AreLargeMarked rows old now (k + 1)
  large_over off = record {
    remarked = r.remarked;
    marked = λ j i l on n. elim (cases_eq j k) [
      | inl same ↦
          absurd (both_ways (same_kind Large (segment_at old k).kind)
          (sym (ap (λ (h : HeapView). same_kind Large (segment_at h k).kind) r.remarked.shape.others) ∙ off)
          (subst (λ m. same_kind Large (segment_at old m).kind ≡ true) same on))
      | inr ne ↦ r.marked j i (omega (arith, l, ne)) on n
    ];
    others = λ j i l out n. r.others j i l (elim out [ inl off2 ↦ inl off2 | inr u ↦ inr (omega (arith, u)) ]) n;
  }

  -- a large one
  pub large_more : (new : HeapView) → k < length old.segments → same_kind Large (segment_at now k).kind ≡ true
      → IsRemarked rows now new → KeepsMarks now new → IsKeptOutside now new k
      → ((i : Item) → IsIn i (listing rows now k) → HasItemMark new i) → AreLargeMarked rows old new (k + 1)
  large_more new inside large q kept outside f = record {
    remarked = remarked-trans rows old now new heap held r.remarked q;
    marked = λ j i l on n o. elim (cases_eq j k) [
      | inl same ↦
          let P : ℕ → Type 0 = λ b. IsIn i (listing rows old b) in
          f i (subst (λ (is : List Item). IsIn i is) (sym (keeps_listing rows old now heap held r.remarked k inside))
          (subst P same n)) o
      | inr apart ↦
          let listed : IsIn i (heap_items rows old) = listed_from rows old j i (omega (arith, l, inside)) n in
          kept i.place (standing rows old heap held i listed).aligned
          (r.marked j i (omega (arith, l, apart)) on n o)
    ];
    others = λ j i l out n.
        let listed : IsIn i (heap_items rows old) = listed_from rows old j i l n in
        outside i.place (standing rows old heap held i listed).aligned (away j i l (differs j out) n)
        ∙ r.others j i l (elim out [ inl off ↦ inl off | inr u ↦ inr (omega (arith, u)) ]) n;
  }
    where
      differs : (j : ℕ) → (same_kind Large (segment_at old j).kind ≡ false) ⊎ (k + 1 ≤ j) → j ≢ k
      differs j (inr u) same = omega (arith, u, same)
      differs j (inl off) same =
          both_ways (same_kind Large (segment_at old k).kind)
          (subst (λ m. same_kind Large (segment_at old m).kind ≡ false) same off)
          (sym (ap (λ (h : HeapView). same_kind Large (segment_at h k).kind) r.remarked.shape.others) ∙ large)

      away : (j : ℕ) (i : Item) → j < length old.segments → j ≢ k → IsIn i (listing rows old j)
          → (i.place < first_of now k) ⊎ (last_of now k ≤ i.place)
      away j i l ne n =
          let is = all_at (IsItem rows (first_of old j) (last_of old j)) n (listing-are rows old held.walkable j l) in
          let above = is.above in
          let below = is.below in
          let least = is.least in
          let first_is : first_of now k ≡ first_of old k = ap (λ (h : HeapView). first_of h k) r.remarked.shape.others
          in
          let last_is : last_of now k ≡ last_of old k = ap (λ (h : HeapView). last_of h k) r.remarked.shape.others in
          elim (cases_order j k) [
            | inl same ↦ absurd (ne same)
            | inr other ↦ elim other [
              | inl u ↦
                  let o = segment_order old j k heap u inside in
                  let top = (lawful_at old j heap l).high in
                  inl (omega (arith, o, top, below, least, first_is))
              | inr u ↦
                  let o = segment_order old k j heap u l in
                  let top = (lawful_at old k heap inside).high in
                  inr (omega (arith, o, top, above, last_is))
            ]
          ]

  -- ---- at the end

  -- the segment of a place tells whether it is large
  module _ (t : ℕ) (inside : t < length old.segments) (place : ℕ) (up : first_of old t ≤ place)
      (high : place < reserved_end (segment_at old t)) where
    abbrev s : SegInfo
    s = segment_at old t

    abbrev in_it : SegInfo → Bool
    in_it u = stands_in u place && nat_le (part_start (frame old) 2 u) place

    abbrev test : SegInfo → Bool
    test u = same_kind Large u.kind && (has_condemned_part 2 u && in_it u)

    start-is : (u : SegInfo) → part_start (frame old) 2 u ≡ first_place u
    start-is u = go (same_kind Ephemeral u.kind)
      where
        go : (b : Bool) → (if b then first_place u else first_place u) ≡ first_place u
        go true = refl
        go false = refl

    large_there : same_kind Large s.kind ≡ true → is_large_place old place ≡ true
    large_there on =
        let start = start-is s in
        any-from test old.segments s (at old.segments t inside)
        (and_from (same_kind Large s.kind) (has_condemned_part 2 s && in_it s) on
        (and_from (has_condemned_part 2 s) (in_it s) (or_right (same_kind Ephemeral s.kind) (2 == 2) refl)
        (and_from (stands_in s place) (nat_le (part_start (frame old) 2 s) place) (between-stands s place up high)
        (le-leb (part_start (frame old) 2 s) place (omega (arith, start, up))))))
      where
        at : (ss : List SegInfo) (n : ℕ) → n < length ss → IsIn (get_or ss n empty_segment) ss
        at [] n l = absurd (omega (arith, l))
        at (u ∷ ss) zero l = first
        at (u ∷ ss) (suc n) l = later (at ss n (omega (arith, l)))

    large_only : is_large_place old place ≡ true → same_kind Large s.kind ≡ true
    large_only e =
        let (u, i, is) = any-in test old.segments e in
        let (kind, more) = and_parts (same_kind Large u.kind) (has_condemned_part 2 u && in_it u) is in
        let (part, rest) = and_parts (has_condemned_part 2 u) (in_it u) more in
        let (stands, low) = and_parts (stands_in u place) (nat_le (part_start (frame old) 2 u) place) rest in
        let (m, l, same) = index old.segments u i in
        let (a, b) = stands-between u place stands in
        let a2 : first_of old m ≤ place = subst (λ (w : SegInfo). first_place w ≤ place) {x = u} same a in
        let b2 : place < reserved_end (segment_at old m) =
        subst (λ (w : SegInfo). place < reserved_end w) {x = u} same b in
        let kind2 : same_kind Large (segment_at old m).kind ≡ true =
        subst (λ (w : SegInfo). same_kind Large w.kind ≡ true) {x = u} same kind in
        elim (cases_order m t) [
          | inl at ↦ subst (λ n. same_kind Large (segment_at old n).kind ≡ true) at kind2
          | inr other ↦ elim other [
            | inl u2 ↦ let o = segment_order old m t heap u2 inside in absurd (omega (arith, o, b2, up))
            | inr u2 ↦ let o = segment_order old t m heap u2 l in absurd (omega (arith, o, a2, high))
          ]
        ]
      where
        index : (ss : List SegInfo) (w : SegInfo) → IsIn w ss → (n : ℕ) × (n < length ss)
            × (w ≡ get_or ss n empty_segment)
        index [] w i = elim i [ ]
        index (x ∷ ss) w first = (0, omega arith, refl)
        index (x ∷ ss) w (later i) = let (n, l, e) = index ss w i in (suc n, omega (arith, l), e)

  -- ALL OBJECTS of large segments are marked, and others as before
  pub large_marked : length old.segments ≤ k → (o : Object) → IsIn o (objects_in rows old)
      → is_marked now o ≡ (is_large_place old o.place || is_marked old o)
  large_marked past o i =
      let (it, same, j) = from-map (object_in rows (word_of old)) o (filter is_object (heap_items rows old)) i in
      let (object, listed) = out_of_filter is_object it (heap_items rows old) j in
      let home = standing rows old heap held it listed in
      let in_range = home.in_range in
      let least = home.least in
      let below = home.below in
      let reserved = home.reserved in
      let high : it.place < reserved_end (segment_at old home.segment) = omega (arith, least, below, reserved) in
      let place : o.place ≡ it.place = ap (λ (p : Object). p.place) same in
      subst (λ n. has_mark (word_of now n) ≡ (is_large_place old n || has_mark (word_of old n))) (sym place)
      (elim (cases_Bool (same_kind Large (segment_at old home.segment).kind)) [
        | inl on ↦
            r.marked home.segment it (omega (arith, in_range, past)) on home.listed object
            ∙ sym (ap (λ (b : Bool). b || has_mark (word_of old it.place))
            (large_there home.segment in_range it.place home.above high on))
        | inr off ↦
            ap has_mark (r.others home.segment it in_range (inl off) home.listed)
            ∙ sym (ap (λ (b : Bool). b || has_mark (word_of old it.place))
            (no home.segment in_range it.place home.above high off))
      ])
    where
      no : (t : ℕ) → t < length old.segments → (place : ℕ) → first_of old t ≤ place
          → place < reserved_end (segment_at old t) → same_kind Large (segment_at old t).kind ≡ false
          → is_large_place old place ≡ false
      no t inside place up high off = elim (cases_Bool (is_large_place old place)) [
        | inl on ↦
            absurd (both_ways (same_kind Large (segment_at old t).kind) off (large_only t inside place up high on))
        | inr is ↦ is
      ]
