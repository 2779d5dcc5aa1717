-- The layouts that sweeps leave: after a full one a segment that isn't empty has an object, and generation 0 is empty.
use Rattle.std.proofs.Common.{◌≡◌, inl, inr, ℕ, ◌<◌, ◌≤◌, ◌==◌, ◌&&◌, ◌||◌, Bool, true, false, if◌then◌else◌, List, []}
use Rattle.std.proofs.Common.{◌∷◌, filter, map, refl, ap, sym, ◌∙◌, subst, arith}
use Rattle.std.specs.List.{list_any}
use Rattle.std.proofs.lemmas.Bool.{and_from, and_parts, cases_Bool, eqb-true}
use Rattle.clr_types.specs.Ranges.{end_of_last}
use Rattle.clr_types.specs.Rising.{first, IsIn}
use Rattle.clr_types.specs.Segments.{ephemeral, first_place, is_small_or_ephemeral, Layout, reserved_end, same_kind}
use Rattle.clr_types.specs.Segments.{stands_in}
use Rattle.clr_types.specs.declared.segment.SegInfo.{SegInfo}
use Rattle.clr_types.specs.declared.segment.SegKind.{SegKind}
use Rattle.clr_types.specs.declared.segment.SegKind.TheVariants.{Small, Ephemeral, Large, Pinned}
use Rattle.clr_types.proofs.ChangedLists.{into_filter, out_of_filter}
use Rattle.clr_types.proofs.ListMembers.{any-from, from-map}
use Rattle.clr_types.proofs.SegmentFacts.{ephemeral-kind, lawful_segment, one_base}
use Rattle.clr_types.proofs.SortedLists.{out_of_sorted_by}
use Rattle.clr_model.specs.Collection.{released}
use Rattle.clr_model.specs.Lawful.{IsLaid}
use Rattle.clr_model.specs.Lookups.{object_piece}
use Rattle.clr_model.specs.Machine.{Machine, Object}
use Rattle.clr_model.specs.Sweep.{has_condemned_part, is_condemned, part_start, Survivor, survivor, survivor_piece}
use Rattle.clr_model.specs.Sweep.{survivor_pieces, survivors, swept_end, swept_free, swept_others, swept_small}
use Rattle.clr_model.specs.Sweep.{taking_part}
use Rattle.clr_model.proofs.AfterLayout.{ephemeral_after}
use Rattle.clr_model.proofs.CollectedLayout.{large_ephemeral, whole_after, whole_ephemeral}
use Rattle.clr_model.proofs.CondemnedParts.{taking-is}
use Rattle.clr_model.proofs.LawfulPieces.{HasHome, object-in-pieces, piece-home}
use Rattle.clr_model.proofs.LayoutLaws.{part_low}
use Rattle.clr_model.proofs.SweptLawful.{sweep_end, sweep_tiles}
use Rattle.clr_sweep.specs.Swept.{swept_layout}
use Rattle.clr_types.specs.Segments.{is_large_or_pinned}

-- ---- kinds and parts

small-not_large : (k : SegKind) → is_small_or_ephemeral k ≡ true → is_large_or_pinned k ≡ false
small-not_large Small e = refl
small-not_large Ephemeral e = refl
small-not_large Large e = absurd cc
small-not_large Pinned e = absurd cc

large-is : (k : SegKind) → is_small_or_ephemeral k ≡ false → is_large_or_pinned k ≡ true
large-is Small e = absurd cc
large-is Ephemeral e = absurd cc
large-is Large e = refl
large-is Pinned e = refl

ephemeral-small : (k : SegKind) → same_kind Ephemeral k ≡ true → is_small_or_ephemeral k ≡ true
ephemeral-small Small e = absurd cc
ephemeral-small Ephemeral e = refl
ephemeral-small Large e = absurd cc
ephemeral-small Pinned e = absurd cc

-- a full collection condemns all of every segment
all-condemned : (s : SegInfo) → has_condemned_part 2 s ≡ true
all-condemned s = go (same_kind Ephemeral s.kind)
  where
    go : (b : Bool) → (b || true) ≡ true
    go true = refl
    go false = refl

starts-first : (layout : Layout) (s : SegInfo) → part_start layout 2 s ≡ first_place s
starts-first layout s = go (same_kind Ephemeral s.kind)
  where
    go : (b : Bool) → (if b then first_place s else first_place s) ≡ first_place s
    go true = refl
    go false = refl

-- ---- the layout afterwards

module _ (m : Machine) (h : IsLaid m) (keeps : ℕ → Bool) where
  abbrev kept : List Survivor
  kept = survivors m 2 keeps

  abbrev small : Layout
  small = swept_small m.layout 2 kept

  abbrev stay : List Object
  stay = filter (λ o. keeps o.name) m.objects

  two : 2 ≤ 2
  two = omega arith

  -- a survivor of a segment is an object that stays there
  survivor-stands : (s : SegInfo) → IsIn s m.layout.segments → (k : Survivor) → IsIn k kept
      → (k.segment == s.base) ≡ true → list_any (λ o. stands_in s o.place) stay ≡ true
  survivor-stands s i k j e =
      let passing = filter (λ (o : Object). is_condemned m 2 o && keeps o.name) m.objects in
      let listed = out_of_sorted_by (λ (s : Survivor). s.place) k (map (survivor m) passing) j in
      let (o, is, l) = from-map (survivor m) k passing listed in
      let (passed, present) = out_of_filter (λ (o : Object). is_condemned m 2 o && keeps o.name) o m.objects l in
      let on = (and_parts (is_condemned m 2 o) (keeps o.name) passed).1 in
      let home : HasHome m.layout o.place = piece-home m h (object_piece m.types o) (object-in-pieces m h o present) in
      let base : home.home.base ≡ s.base = sym home.base ∙ sym (ap (λ (k : Survivor). k.segment) is)
      ∙ eqb-true k.segment s.base e in
      let same : home.home ≡ s = one_base m.layout h.layout home.home s home.among i base in
      any-from (λ (o : Object). stands_in s o.place) stay o
      (into_filter (λ (o : Object). keeps o.name) m.objects on present)
      (subst (λ (u : SegInfo). stands_in u o.place ≡ true) same home.stands)

  -- where something survives, something stands
  occupied : (s : SegInfo) → IsIn s m.layout.segments → (low : ℕ) → low < end_of_last low (survivor_pieces s kept)
      → list_any (λ o. stands_in s o.place) stay ≡ true
  occupied s i low l = go (filter (λ (k : Survivor). k.segment == s.base) kept) refl l
    where
      go : (ks : List Survivor) → filter (λ (k : Survivor). k.segment == s.base) kept ≡ ks
          → low < end_of_last low (map survivor_piece ks) → list_any (λ (o : Object). stands_in s o.place) stay ≡ true
      go [] e l = absurd (omega arith)
      go (k ∷ ks) e l =
          let (on, j) = out_of_filter (λ (k : Survivor). k.segment == s.base) k kept
          (subst (λ (ws : List Survivor). IsIn k ws) (sym e) first) in
          survivor-stands s i k j on

  -- what the two sweeps make of a segment
  abbrev small_swept : SegInfo → SegInfo
  small_swept s = if is_small_or_ephemeral s.kind && has_condemned_part 2 s then record s
      { end = swept_end m.layout 2 kept s } else s

  abbrev large_swept : SegInfo → SegInfo
  large_swept s =
      if is_large_or_pinned s.kind && has_condemned_part 2 s then record s { end = swept_end small 2 kept s }
      else s

  -- it ends where the last survivor does
  abbrev cut : SegInfo → SegInfo
  cut u = record u { end = end_of_last (first_place u) (survivor_pieces u kept) }

  swept-is : (u : SegInfo) → large_swept (small_swept u) ≡ cut u
  swept-is u = elim (cases_Bool (is_small_or_ephemeral u.kind)) [ inl on ↦ young on | inr off ↦ big off ]
    where
      young : is_small_or_ephemeral u.kind ≡ true → large_swept (small_swept u) ≡ cut u
      young on =
          let ended = record u { end = swept_end m.layout 2 kept u } in
          let first_step : small_swept u ≡ ended =
          ap (λ (b : Bool). if b then record u { end = swept_end m.layout 2 kept u } else u)
          (and_from (is_small_or_ephemeral u.kind) (has_condemned_part 2 u) on (all-condemned u)) in
          let second_step : large_swept ended ≡ ended =
          ap (λ (b : Bool). if b && has_condemned_part 2 u then record ended { end = swept_end small 2 kept ended }
          else ended) (small-not_large u.kind on) in
          ap large_swept first_step ∙ second_step
          ∙ ap (λ (n : ℕ). record u { end = end_of_last n (survivor_pieces u kept) }) (starts-first m.layout u)

      big : is_small_or_ephemeral u.kind ≡ false → large_swept (small_swept u) ≡ cut u
      big off =
          let first_step : small_swept u ≡ u =
          ap (λ (b : Bool). if b && has_condemned_part 2 u then record u { end = swept_end m.layout 2 kept u }
          else u) off in
          let second_step : large_swept u ≡ record u { end = swept_end small 2 kept u } =
          ap (λ (b : Bool). if b then record u { end = swept_end small 2 kept u } else u)
          (and_from (is_large_or_pinned u.kind) (has_condemned_part 2 u) (large-is u.kind off) (all-condemned u)) in
          ap large_swept first_step ∙ second_step
          ∙ ap (λ (n : ℕ). record u { end = end_of_last n (survivor_pieces u kept) }) (starts-first small u)

  -- A SEGMENT THAT ISN'T EMPTY HAS AN OBJECT
  pub swept_occupied : (t : SegInfo) → IsIn t (swept_layout m.layout 2 (survivors m 2 keeps)).segments
      → first_place t < t.end → list_any (λ o. stands_in t o.place) (filter (λ o. keeps o.name) m.objects) ≡ true
  swept_occupied t i l =
      let (s, e, j) = from-map large_swept t small.segments i in
      let (u, f, k) = from-map small_swept s m.layout.segments j in
      let is : t ≡ cut u = e ∙ ap large_swept f ∙ swept-is u in
      let P : SegInfo → Type 0 = λ w. first_place w < w.end → list_any (λ (o : Object). stands_in w o.place) stay
      ≡ true in
      subst P (sym is) (λ m. occupied u k (first_place u) m) l

-- ---- the end of the ephemeral segment

module _ (m : Machine) (h : IsLaid m) (g : ℕ) (least : g ≤ 2) (keeps : ℕ → Bool) (objects : List Object) where
  abbrev swept : Layout
  swept = swept_small m.layout g (survivors m g keeps)

  small-tail : (ephemeral swept).end ≡ swept.start0
  small-tail =
      ap (λ (s : SegInfo). s.end)
      (ephemeral_after m.layout h.layout is_small_or_ephemeral g (swept_end m.layout g (survivors m g keeps))
      (λ s. survivor_pieces s (survivors m g keeps)) (swept_free m.layout g (survivors m g keeps))
      (λ s j. sweep_tiles m h g least keeps s (known s j)) (λ s j. high s j) (part_low m h g least keeps) swept
      refl)
      ∙ ap (λ (b : Bool). (if b then record (ephemeral m.layout) { end = top } else ephemeral m.layout).end) takes
    where
      top : ℕ
      top = swept_end m.layout g (survivors m g keeps) (ephemeral m.layout)

      known : (s : SegInfo) → IsIn s (taking_part is_small_or_ephemeral g m.layout) → IsIn s m.layout.segments
      known s j = (taking-is m.layout h.layout g least s j).2

      high : (s : SegInfo) → IsIn s (taking_part is_small_or_ephemeral g m.layout)
          → swept_end m.layout g (survivors m g keeps) s ≤ reserved_end s
      high s j =
          let (a, b) = sweep_end m h g least keeps s (known s j) in
          let d : s.end ≤ reserved_end s = (lawful_segment m.layout h.layout s (known s j)).high in
          omega arith

      takes : (is_small_or_ephemeral (ephemeral m.layout).kind && has_condemned_part g (ephemeral m.layout)) ≡ true
      takes =
          let young = ephemeral-kind m.layout h.layout in
          and_from (is_small_or_ephemeral (ephemeral m.layout).kind) (has_condemned_part g (ephemeral m.layout))
          (ephemeral-small (ephemeral m.layout).kind young) (ap (λ (b : Bool). b || (g == 2)) young)

  abbrev large : Layout
  large = swept_others swept 2 (survivors m g keeps)

  -- GENERATION 0 IS EMPTY before segments are released: it begins where the ephemeral segment ends
  pub unreleased_tail : (if g == 2 then large else swept).start0 ≡ (ephemeral (if g == 2 then large else swept)).end
  unreleased_tail = go (g == 2) refl
    where
      of : ℕ → Layout
      of n = swept_small m.layout n (survivors m n keeps)

      go : (b : Bool) → (g == 2) ≡ b
          → (if b then large else swept).start0 ≡ (ephemeral (if b then large else swept)).end
      go false e = sym small-tail
      go true e =
          sym small-tail
          ∙ subst (λ (n : ℕ). (ephemeral (of n)).end ≡ (ephemeral (swept_others (of n) 2 (survivors m n keeps))).end)
          (sym (eqb-true g 2 e))
          (sym (ap (λ (s : SegInfo). s.end) (large_ephemeral m h keeps [] (of 2) false (refl, refl))))

  -- and at the end
  pub whole_tail : (whole : Layout)
      → whole ≡ (if g == 2 then released (if g == 2 then large else swept) objects
      else (if g == 2 then large else swept))
      → whole.start0 ≡ (ephemeral whole).end
  whole_tail whole is =
      let same : whole ≡ whole_after g (survivors m g keeps) swept objects = is ∙ once (g == 2) in
      ap (λ (l : Layout). l.start0) same
      ∙ starts (g == 2)
      ∙ sym small-tail
      ∙ sym (ap (λ (s : SegInfo). s.end) (whole_ephemeral m h g least keeps [] swept false (refl, refl) objects))
      ∙ sym (ap (λ (l : Layout). (ephemeral l).end) same)
    where
      once : (b : Bool) → (if b then released (if b then large else swept) objects else (if b then large else swept))
          ≡ (if b then released large objects else swept)
      once true = refl
      once false = refl

      starts : (b : Bool) → (if b then released large objects else swept).start0 ≡ swept.start0
      starts true = refl
      starts false = refl
