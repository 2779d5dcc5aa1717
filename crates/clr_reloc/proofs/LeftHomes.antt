-- What is left stands in a plug or outside of parts.
use Rattle.std.proofs.Common.{◌≡◌, ◌⊎◌, inl, inr, ℕ, ◌+◌, ◌<◌, ◌≤◌, Bool, true, false, not, ◌&&◌}
use Rattle.std.proofs.Common.{◌||◌, ◌==◌, List}
use Rattle.std.proofs.Common.{refl, ap, sym, ◌∙◌, subst, arith, length, if◌then◌else◌, nat_lt}
use Rattle.std.proofs.lemmas.Bool.{both_ways, cases_Bool, cases_eq, cases_lt, cases_order, eq-eqb, ne_eqb, le-leb}
use Rattle.std.proofs.lemmas.Bool.{lt-ltb}
use Rattle.std.proofs.lemmas.Bool.{le-ltb}
use Rattle.clr_types.specs.Rising.{IsIn}
use Rattle.clr_types.specs.Segments.{ephemeral, generation, is_small_or_ephemeral, Layout, reserved_end}
use Rattle.clr_types.specs.Segments.{same_kind, stands_in}
use Rattle.clr_types.specs.Types.{TypeRow}
use Rattle.clr_types.specs.declared.item.Item.{Item}
use Rattle.clr_types.specs.declared.segment.SegKind.{SegKind}
use Rattle.clr_types.specs.declared.segment.SegKind.TheVariants.{Small, Ephemeral, Large, Pinned}
use Rattle.clr_heap.specs.View.{first_of, frame, heap_items, HeapView, IsHeap, last_of, listing, segment_at, word_of}
use Rattle.clr_heap.proofs.Framing.{below_top_at, lawful_at}
use Rattle.clr_heap.proofs.Staying.{segment_order}
use Rattle.clr_model.specs.Compaction.{Move}
use Rattle.clr_view.specs.Marks.{has_mark}
use Rattle.clr_view.specs.Memory.{is_reached_by}
use Rattle.clr_view.specs.View.{IsHeld, is_object}
use Rattle.clr_view.proofs.Items.{IsItem}
use Rattle.clr_view.proofs.Listings.{listing-are}
use Rattle.clr_view.proofs.Standing.{standing}
use Rattle.clr_types.proofs.RisingLists.{all_at}
use Rattle.clr_mark.specs.Marks.{is_condemned_place}
use Rattle.clr_scan.specs.OldParts.{HaveOldParts, old_end}
use Rattle.clr_moves.specs.Moves.{age_of, IsInPart, IsInPlug, move_at, part_of, plug_stop, takes}
use Rattle.clr_moves.specs.Objects.{is_in_parts}
use Rattle.clr_moves.specs.declared.condemned.Condemned.{Condemned}
use Rattle.clr_moves.specs.declared.condemned.Condemned.TheVariants.{Generations, LargeSegments}
use Rattle.clr_moves.proofs.PartPlaces.{into_parts, out_of_parts}
use Rattle.clr_reloc.specs.Outside.{HaveNoneOver, outside_end}
use Rattle.clr_reloc.specs.Partial.{HaveOldPartsOf}
use Rattle.clr_reloc.specs.References.{keeps, limit_of}
use Rattle.clr_reloc.specs.Relocating.{is_gone_over, is_gone_over_in, is_left_at, IsLeftItem}
use Rattle.clr_reloc.proofs.LeftPlaces.{or_swap}

-- ---- numbers

small_cases : (g : ℕ) → g ≤ 2 → (g < 2) ⊎ (g ≡ 2)
small_cases g least = elim (cases_lt g 2) [ inl less ↦ inl less | inr more ↦ inr (omega arith) ]

two_ages : (b c : Bool) → (if b then 2 else (if c then 1 else 0)) ≤ 2
two_ages true c = omega arith
two_ages false true = omega arith
two_ages false false = omega arith

place_ages : (a b c : Bool) → (if a then (if b then 2 else (if c then 1 else 0)) else 2) ≤ 2
place_ages true b c = two_ages b c
place_ages false b c = omega arith

pub age_most : (layout : Layout) (x : ℕ) → generation layout x ≤ 2
age_most layout x = place_ages (stands_in (ephemeral layout) x) (nat_lt x layout.start1) (nat_lt x layout.start0)

-- where what isn't condemned ends, by the kind of a segment, in a collection of less than all generations
pub end_by_kind : (κ : SegKind) (g first last a0 a1 : ℕ) → g < 2
    → (if is_small_or_ephemeral κ && (same_kind Ephemeral κ || (g == 2))
    then (if same_kind Ephemeral κ then (if g == 0 then a0 else (if g == 1 then a1 else first)) else first) else last)
    ≡ (if same_kind κ Ephemeral then (if g == 0 then a0 else a1) else last)
end_by_kind Small g first last a0 a1 less =
    ap (λ b. if b then first else last) (ne_eqb g 2 (λ e. omega arith))
end_by_kind Ephemeral g first last a0 a1 less = elim (cases_eq g 0) [
  | inl e ↦ ap (λ b. if b then a0 else (if g == 1 then a1 else first)) (eq-eqb g 0 e)
      ∙ sym (ap (λ b. if b then a0 else a1) (eq-eqb g 0 e))
  | inr n ↦ ap (λ b. if g == 0 then a0 else (if b then a1 else first)) (eq-eqb g 1 (omega arith))
]
end_by_kind Large g first last a0 a1 less = refl
end_by_kind Pinned g first last a0 a1 less = refl

-- and in one of all: at the first place where a part is
end_of_all : (κ : SegKind) (first last a0 a1 : ℕ)
    → ((if is_small_or_ephemeral κ && (same_kind Ephemeral κ || (2 == 2))
    then (if same_kind Ephemeral κ then (if 2 == 0 then a0 else (if 2 == 1 then a1 else first)) else first) else last)
    ≡ first)
    ⊎ ((if is_small_or_ephemeral κ && (same_kind Ephemeral κ || (2 == 2))
    then (if same_kind Ephemeral κ then (if 2 == 0 then a0 else (if 2 == 1 then a1 else first)) else first) else last)
    ≡ last)
end_of_all Small first last a0 a1 = inl refl
end_of_all Ephemeral first last a0 a1 = inl refl
end_of_all Large first last a0 a1 = inr refl
end_of_all Pinned first last a0 a1 = inr refl

-- up to where objects are left, by the kind
limit_by_kind : (κ : SegKind) (g first most a0 a1 : ℕ) → g < 2
    → (if same_kind Ephemeral κ || (g == 2)
    then (if same_kind Ephemeral κ then (if g == 0 then a0 else (if g == 1 then a1 else first)) else first) else most)
    ≡ (if same_kind κ Ephemeral then (if g == 0 then a0 else a1) else most)
limit_by_kind Small g first most a0 a1 less = ap (λ b. if b then first else most) (ne_eqb g 2 (λ e. omega arith))
limit_by_kind Ephemeral g first most a0 a1 less = elim (cases_eq g 0) [
  | inl e ↦ ap (λ b. if b then a0 else (if g == 1 then a1 else first)) (eq-eqb g 0 e)
      ∙ sym (ap (λ b. if b then a0 else a1) (eq-eqb g 0 e))
  | inr n ↦ ap (λ b. if g == 0 then a0 else (if b then a1 else first)) (eq-eqb g 1 (omega arith))
]
limit_by_kind Large g first most a0 a1 less = ap (λ b. if b then first else most) (ne_eqb g 2 (λ e. omega arith))
limit_by_kind Pinned g first most a0 a1 less = ap (λ b. if b then first else most) (ne_eqb g 2 (λ e. omega arith))

limit_of_all : (κ : SegKind) (first most a0 a1 : ℕ)
    → (if same_kind Ephemeral κ || (2 == 2)
    then (if same_kind Ephemeral κ then (if 2 == 0 then a0 else (if 2 == 1 then a1 else first)) else first) else most)
    ≡ first
limit_of_all Small first most a0 a1 = refl
limit_of_all Ephemeral first most a0 a1 = refl
limit_of_all Large first most a0 a1 = refl
limit_of_all Pinned first most a0 a1 = refl

-- ---- generations

condemned_reached : (h : HeapView) (g x : ℕ) (b : Bool) → is_condemned_place h g x ≡ b → is_reached_by h g x ≡ b
unfolding is_condemned_place
condemned_reached h g x b e = e

module _ (rows : List TypeRow) (h : HeapView) (age : ℕ) (least : age ≤ 2) (heap : IsHeap h) (held : IsHeld rows h)
    (old : age < 2 → HaveOldParts rows h age) where
  abbrev g : Condemned
  g = Generations age

  end_old : (t : ℕ) → age < 2 → outside_end h g t ≡ old_end h age t
  end_old t less = end_by_kind (segment_at h t).kind age (first_of h t) (last_of h t) h.start0 h.start1 less

  end_all : (t : ℕ) → age ≡ 2 → (outside_end h g t ≡ first_of h t) ⊎ (outside_end h g t ≡ last_of h t)
  end_all t e =
      subst (λ n. (outside_end h (Generations n) t ≡ first_of h t)
      ⊎ (outside_end h (Generations n) t ≡ last_of h t)) (sym e)
      (end_of_all (segment_at h t).kind (first_of h t) (last_of h t) h.start0 h.start1)

  young_over : HaveNoneOver rows h g
  young_over = record {
    within = λ t l. elim (small_cases age least) [
      | inl less ↦ let e = end_old t less in let o = (old less t l).high in omega arith
      | inr all ↦
          let low = (lawful_at h t heap l).low in
          elim (end_all t all) [ inl e ↦ omega arith | inr e ↦ omega arith ]
    ];
    whole = λ t i l m. elim (small_cases age least) [
      | inl less ↦
          let e = end_old t less in
          elim ((old less t l).whole i m) [ inl above ↦ inl (omega arith) | inr below ↦ inr (omega arith) ]
      | inr all ↦
          let is = all_at (IsItem rows (first_of h t) (last_of h t)) m (listing-are rows h held.walkable t l) in
          let low = is.above in
          let high = is.below in
          elim (end_all t all) [ inl e ↦ inl (omega arith) | inr e ↦ inr (omega arith) ]
    ];
  }

  -- what stands in a part is of a generation that is collected
  young_reached : (t x : ℕ) → t < length h.segments → outside_end h g t ≤ x → x < last_of h t
      → is_reached_by h age x ≡ true
  young_reached t x l low high = elim (small_cases age least) [
    | inl less ↦
        let e = end_old t less in
        condemned_reached h age x true ((old less t l).young x (omega arith) high)
    | inr all ↦ let m = age_most (frame h) x in le-leb (generation (frame h) x) age (omega arith)
  ]

  -- what stands outside isn't
  pub not_reached : (t x : ℕ) → t < length h.segments → age < 2 → first_of h t ≤ x → x < outside_end h g t
      → is_reached_by h age x ≡ false
  not_reached t x l less low high =
      let e = end_old t less in
      condemned_reached h age x false ((old less t l).older x low (omega arith))

  -- the limit of a segment tells the same
  young_told : (i : Item) (t : ℕ) → t < length h.segments → IsIn i (listing rows h t)
      → keeps (word_of h) (limit_of h g t) i ≡ (is_object i && is_left_at h g i.place)
  young_told i t l m =
      ap (λ b. is_object i && (has_mark (word_of h i.place) || b)) below
      ∙ ap (λ b. is_object i && b) (or_swap (has_mark (word_of h i.place)) (not (is_reached_by h age i.place)))
    where
      is : IsItem rows (first_of h t) (last_of h t) i
      is = all_at (IsItem rows (first_of h t) (last_of h t)) m (listing-are rows h held.walkable t l)

      small : last_of h t < 18446744073709551615
      small =
          let r = (lawful_at h t heap l).high in
          let top = below_top_at h t heap l in
          let s = heap.top_small in
          omega arith

      below_young : age < 2 → nat_lt i.place (limit_of h g t) ≡ not (is_reached_by h age i.place)
      below_young less = go (same_kind (segment_at h t).kind Ephemeral) refl
        where
          low : first_of h t ≤ i.place
          low = is.above

          high : i.place < last_of h t
          high = let b = is.below in let s = is.least in omega arith

          limit : limit_of h g t ≡ (if same_kind (segment_at h t).kind Ephemeral then
              (if age == 0 then h.start0 else h.start1)
              else 18446744073709551615)
          limit = limit_by_kind (segment_at h t).kind age (first_of h t) 18446744073709551615 h.start0 h.start1 less

          end : old_end h age t ≡ (if same_kind (segment_at h t).kind Ephemeral then
              (if age == 0 then h.start0 else h.start1)
              else last_of h t)
          end = refl

          older : i.place < old_end h age t → not (is_reached_by h age i.place) ≡ true
          older less_end = ap not (condemned_reached h age i.place false ((old less t l).older i.place low less_end))

          younger : old_end h age t ≤ i.place → not (is_reached_by h age i.place) ≡ false
          younger from = ap not (condemned_reached h age i.place true ((old less t l).young i.place from high))

          go : (b : Bool) → same_kind (segment_at h t).kind Ephemeral ≡ b
              → nat_lt i.place (limit_of h g t) ≡ not (is_reached_by h age i.place)
          go true e =
              let le : limit_of h g t ≡ old_end h age t =
              limit ∙ ap (λ b. if b then (if age == 0 then h.start0 else h.start1) else 18446744073709551615) e
              ∙ sym (ap (λ b. if b then (if age == 0 then h.start0 else h.start1) else last_of h t) e) in
              elim (cases_lt i.place (old_end h age t)) [
                | inl out ↦ lt-ltb i.place (limit_of h g t) (omega arith) ∙ sym (older out)
                | inr in_part ↦ le-ltb i.place (limit_of h g t) (omega arith) ∙ sym (younger in_part)
              ]
          go false e =
              let le : limit_of h g t ≡ 18446744073709551615 =
              limit ∙ ap (λ b. if b then (if age == 0 then h.start0 else h.start1) else 18446744073709551615) e in
              let ends : old_end h age t ≡ last_of h t =
              ap (λ b. if b then (if age == 0 then h.start0 else h.start1) else last_of h t) e in
              let s = small in
              let hi = high in
              lt-ltb i.place (limit_of h g t) (omega arith) ∙ sym (older (omega arith))

      below_all : age ≡ 2 → nat_lt i.place (limit_of h g t) ≡ not (is_reached_by h age i.place)
      below_all all =
          let limit : limit_of h g t ≡ first_of h t =
          subst (λ n. limit_of h (Generations n) t ≡ first_of h t) (sym all)
          (limit_of_all (segment_at h t).kind (first_of h t) 18446744073709551615 h.start0 h.start1) in
          let m = age_most (frame h) i.place in
          let low = is.above in
          le-ltb i.place (limit_of h g t) (omega arith)
          ∙ sym (ap not (le-leb (generation (frame h) i.place) age (omega arith)))

      below : nat_lt i.place (limit_of h g t) ≡ not (is_reached_by h age i.place)
      below = elim (small_cases age least) [ inl less ↦ below_young less | inr all ↦ below_all all ]

-- ---- large segments

module _ (rows : List TypeRow) (h : HeapView) (heap : IsHeap h) (held : IsHeld rows h) where
  large_end : (t : ℕ) → takes LargeSegments (segment_at h t) ≡ true → outside_end h LargeSegments t ≡ first_of h t
  large_end t on = ap (λ b. if b then first_of h t else last_of h t) on

  other_end : (t : ℕ) → takes LargeSegments (segment_at h t) ≡ false → outside_end h LargeSegments t ≡ last_of h t
  other_end t off = ap (λ b. if b then first_of h t else last_of h t) off

  large_over : HaveNoneOver rows h LargeSegments
  large_over = record {
    within = λ t l. elim (cases_Bool (takes LargeSegments (segment_at h t))) [
      | inl on ↦ let e = large_end t on in let low = (lawful_at h t heap l).low in omega (arith, e, low)
      | inr off ↦ let e = other_end t off in omega (arith, e)
    ];
    whole = λ t i l m.
        let is = all_at (IsItem rows (first_of h t) (last_of h t)) m (listing-are rows h held.walkable t l) in
        let low = is.above in
        let high = is.below in
        elim (cases_Bool (takes LargeSegments (segment_at h t))) [
          | inl on ↦ let e = large_end t on in inl (omega (arith, e, low))
          | inr off ↦ let e = other_end t off in inr (omega (arith, e, high))
        ];
  }

  large_reached : (t x : ℕ) → t < length h.segments → outside_end h LargeSegments t ≤ x → x < last_of h t
      → is_in_parts h LargeSegments x ≡ true
  large_reached t x l low high = elim (cases_Bool (takes LargeSegments (segment_at h t))) [
    | inl on ↦
        let e = large_end t on in
        let up = (lawful_at h t heap l).high in
        into_parts h LargeSegments t x (record {
          in_range = l;
          takes = on;
          low = omega (arith, e, low);
          high = omega (arith, high, up);
        }) (omega (arith, e, low))
    | inr off ↦ let e = other_end t off in absurd (omega (arith, e, low, high))
  ]

  -- the segment of a place tells whether it is in a part
  pub large_told : (t x : ℕ) → t < length h.segments → first_of h t ≤ x → x < reserved_end (segment_at h t)
      → is_in_parts h LargeSegments x ≡ takes LargeSegments (segment_at h t)
  large_told t x l low high = elim (cases_Bool (takes LargeSegments (segment_at h t))) [
    | inl on ↦ into_parts h LargeSegments t x (record { in_range = l; takes = on; low = low; high = high }) low ∙ sym on
    | inr off ↦ elim (cases_Bool (is_in_parts h LargeSegments x)) [
      | inr out ↦ out ∙ sym off
      | inl in_one ↦
          let (u, part, up) = out_of_parts h LargeSegments x in_one in
          let m = part.in_range in
          let below = part.high in
          absurd (both_ways (takes LargeSegments (segment_at h t)) off
          (subst (λ n. takes LargeSegments (segment_at h n) ≡ true) (elim (cases_order u t) [
            | inl same ↦ same
            | inr (inl less) ↦ let o = segment_order h u t heap less l in absurd (omega (arith, o, below, low))
            | inr (inr more) ↦ let o = segment_order h t u heap more m in absurd (omega (arith, o, up, high))
          ]) part.takes))
    ]
  ]

  large_keeps : (i : Item) (t : ℕ) → t < length h.segments → IsIn i (listing rows h t)
      → keeps (word_of h) (limit_of h LargeSegments t) i ≡ (is_object i && is_left_at h LargeSegments i.place)
  large_keeps i t l m =
      let is = all_at (IsItem rows (first_of h t) (last_of h t)) m (listing-are rows h held.walkable t l) in
      let low = is.above in
      let below = is.below in
      let least = is.least in
      let r = (lawful_at h t heap l).high in
      let top = below_top_at h t heap l in
      let s = heap.top_small in
      let told = large_told t i.place l low (omega (arith, below, least, r)) in
      ap (λ b. is_object i && (has_mark (word_of h i.place) || b))
      (elim (cases_Bool (takes LargeSegments (segment_at h t))) [
        | inl on ↦
            let limit : limit_of h LargeSegments t ≡ first_of h t =
            ap (λ b. if b then first_of h t else 18446744073709551615) on in
            le-ltb i.place (limit_of h LargeSegments t) (omega (arith, limit, low)) ∙ sym (ap not (told ∙ on))
        | inr off ↦
            let limit : limit_of h LargeSegments t ≡ 18446744073709551615 =
            ap (λ b. if b then first_of h t else 18446744073709551615) off in
            lt-ltb i.place (limit_of h LargeSegments t) (omega (arith, limit, below, r, top, s))
            ∙ sym (ap not (told ∙ off))
      ])
      ∙ ap (λ b. is_object i && b)
      (or_swap (has_mark (word_of h i.place)) (not (is_in_parts h LargeSegments i.place)))

-- ---- any parts

-- no item reaches over the start of a part
pub none_over : (rows : List TypeRow) (h : HeapView) (g : Condemned) → age_of g ≤ 2 → IsHeap h → IsHeld rows h
    → HaveOldPartsOf rows h g → HaveNoneOver rows h g
none_over rows h (Generations age) least heap held old = young_over rows h age least heap held old
none_over rows h LargeSegments least heap held old = large_over rows h heap held

-- a collection goes over what stands in a part
pub reached : (rows : List TypeRow) (h : HeapView) (g : Condemned) → age_of g ≤ 2 → IsHeap h → IsHeld rows h
    → HaveOldPartsOf rows h g → (t x : ℕ) → t < length h.segments → outside_end h g t ≤ x → x < last_of h t
    → is_gone_over h g x ≡ true
reached rows h (Generations age) least heap held old t x l low high =
    young_reached rows h age least heap held old t x l low high
reached rows h LargeSegments least heap held old t x l low high = large_reached rows h heap held t x l low high

-- the limit of a segment tells what is left
pub keeps_told : (rows : List TypeRow) (h : HeapView) (g : Condemned) → age_of g ≤ 2 → IsHeap h → IsHeld rows h
    → HaveOldPartsOf rows h g → (i : Item) (t : ℕ) → t < length h.segments → IsIn i (listing rows h t)
    → keeps (word_of h) (limit_of h g t) i ≡ (is_object i && is_left_at h g i.place)
keeps_told rows h (Generations age) least heap held old i t l m = young_told rows h age least heap held old i t l m
keeps_told rows h LargeSegments least heap held old i t l m = large_keeps rows h heap held i t l m

-- the segment of a place tells whether a collection goes over it
pub gone_over_told : (rows : List TypeRow) (h : HeapView) (g : Condemned) → IsHeap h → IsHeld rows h → (t x : ℕ)
    → t < length h.segments → first_of h t ≤ x → x < reserved_end (segment_at h t)
    → is_gone_over_in h g t x ≡ is_gone_over h g x
gone_over_told rows h (Generations age) heap held t x l low high = refl
gone_over_told rows h LargeSegments heap held t x l low high = sym (large_told rows h heap held t x l low high)

module _ (rows : List TypeRow) (h : HeapView) (g : Condemned) (least : age_of g ≤ 2) (heap : IsHeap h)
    (held : IsHeld rows h) (old : HaveOldPartsOf rows h g) where
  -- where an object that is left stands
  pub record InsidePlug (vs : List Move) (i : Item) : Type 0 where
    pub number : ℕ
    pub within : number < length vs
    pub low : (move_at vs number).start ≤ i.place
    pub high : i.place + i.size ≤ plug_stop (move_at vs number)

  pub record InsideSegment (i : Item) : Type 0 where
    pub number : ℕ
    pub within : number < length h.segments
    pub low : first_of h number ≤ i.place
    pub high : i.place + i.size ≤ outside_end h g number

  pub home : (vs : List Move) → ((i : Item) (t : ℕ) → IsIn i (heap_items rows h) → is_object i ≡ true
      → has_mark (word_of h i.place) ≡ true → IsInPart h g t i.place
      → (k : ℕ) × IsInPlug vs k i.place × (i.place + i.size ≤ plug_stop (move_at vs k)))
      → (i : Item) → IsLeftItem rows h g i → InsidePlug vs i ⊎ InsideSegment i
  home vs plugs i left =
      let s = standing rows h heap held i left.listed in
      let t = s.segment in
      let below = s.below in
      let size = s.least in
      let reserved = s.reserved in
      elim ((none_over rows h g least heap held old).whole t i s.in_range s.listed) [
        | inr out ↦ inr (record { number = t; within = s.in_range; low = s.above; high = out })
        | inl part ↦
            let near = reached rows h g least heap held old t i.place s.in_range part (omega arith) in
            let mark : has_mark (word_of h i.place) ≡ true =
            sym (ap (λ b. not b || has_mark (word_of h i.place)) near) ∙ left.left in
            elim (cases_Bool (takes g (segment_at h t))) [
              | inr off ↦
                  let e : outside_end h g t ≡ last_of h t =
                  ap (λ b. if b then part_of h g t else last_of h t) off in
                  absurd (omega arith)
              | inl on ↦
                  let e : outside_end h g t ≡ part_of h g t =
                  ap (λ b. if b then part_of h g t else last_of h t) on in
                  let (k, p, high) = plugs i t left.listed left.object mark
                  (record { in_range = s.in_range; takes = on; low = omega arith; high = omega arith }) in
                  inl (record { number = k; within = p.within; low = p.low; high = high })
            ]
      ]
