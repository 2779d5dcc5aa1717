-- A sweep makes each condemned object that stays one generation older, and leaves none of them across a boundary.
use Rattle.std.proofs.Common.{◌≡◌, ℕ, ◌+◌, ◌<◌, ◌≤◌, inl, inr, List, map, refl, ap, ◌∙◌, arith, Bool, true, false}
use Rattle.std.proofs.Common.{if◌then◌else◌, filter, ◌&&◌, ◌==◌, nat_le, nat_lt, min}
use Rattle.std.proofs.lemmas.Bool.{and_parts, and_from, leb-true, ltb-true, ltb-false, le-leb, lt-ltb, le-ltb, eqb-true}
use Rattle.std.proofs.lemmas.Bool.{eq-eqb}
use Rattle.clr_types.specs.Rising.{IsIn}
use Rattle.clr_types.specs.Ranges.{IsLawfulSize}
use Rattle.clr_types.proofs.SortedLists.{into_sorted_by}
use Rattle.clr_model.specs.Machine.{Object, Machine}
use Rattle.clr_model.specs.Lookups.{object_piece, object_size}
use Rattle.clr_model.specs.Sweep.{Survivor, survivor, survivors, survivor_piece, survivor_pieces, is_condemned, base_at}
use Rattle.clr_model.specs.Sweep.{swept_end, swept_free, swept_small, taking_part}
use Rattle.clr_types.specs.declared.segment.SegInfo.{SegInfo}
use Rattle.clr_types.specs.Segments.{first_place, reserved_end, stands_in, generation, ephemeral, is_small_or_ephemeral}
use Rattle.clr_types.proofs.ChangedLists.{IsIn-map, into_filter}
use Rattle.clr_types.proofs.SegmentFacts.{AreSeparate, separate, lawful_segment, ephemeral-in}
use Rattle.clr_model.proofs.CondemnedParts.{taking-is}
use Rattle.clr_model.specs.Lawful.{IsLaid}
use Rattle.clr_model.proofs.LawfulPieces.{HasHome, piece-home, piece-tile, object-in-pieces}
use Rattle.clr_model.proofs.SweptLawful.{sweep_tiles, sweep_end, sweep_below}
use Rattle.clr_model.proofs.AfterLayout.{generation_after}
use Rattle.clr_model.proofs.LayoutLaws.{part_low}

module _ (m : Machine) (h : IsLaid m) (g : ℕ) (least : g ≤ 2) (keeps : ℕ → Bool) where
  abbrev kept : List Survivor
  kept = survivors m g keeps

  abbrev end : ℕ
  end = swept_end m.layout g kept (ephemeral m.layout)

  abbrev start1' : ℕ
  start1' = if g == 0 then m.layout.start1 else min m.layout.start0 end

  -- what stays in the ephemeral segment ends at its new end or below
  ends-below : (o : Object) → IsIn o m.objects → keeps o.name ≡ true → generation m.layout o.place ≤ g
      → stands_in (ephemeral m.layout) o.place ≡ true → o.place < end
  ends-below o i k l t =
      let n : HasHome m.layout o.place = piece-home m h (object_piece m.types o) (object-in-pieces m h o i) in
      let (a, b) = and_parts (nat_le (first_place (ephemeral m.layout)) o.place)
      (nat_lt o.place (reserved_end (ephemeral m.layout))) t in
      let a' : first_place (ephemeral m.layout) ≤ o.place = leb-true (first_place (ephemeral m.layout)) o.place a in
      let b' : o.place < reserved_end (ephemeral m.layout) = ltb-true o.place (reserved_end (ephemeral m.layout)) b in
      let same : n.home ≡ ephemeral m.layout =
      one n a' b' (separate m.layout h.layout n.home (ephemeral m.layout) n.among (ephemeral-in m.layout h.layout))
      in
      let base : base_at m.layout.segments o.place ≡ (ephemeral m.layout).base = n.base
      ∙ ap (λ (u : SegInfo). u.base) same in
      let q : IsIn (object_piece m.types o) (survivor_pieces (ephemeral m.layout) kept) =
      IsIn-map survivor_piece (into_filter (λ (k : Survivor). k.segment == (ephemeral m.layout).base) kept
      (eq-eqb (base_at m.layout.segments o.place) (ephemeral m.layout).base base)
      (into_sorted_by (λ (s : Survivor). s.place) (survivor m o)
      (map (survivor m) (filter (λ (o : Object). is_condemned m g o && keeps o.name) m.objects))
      (IsIn-map (survivor m) (into_filter (λ (o : Object). is_condemned m g o && keeps o.name) m.objects
      (and_from (is_condemned m g o) (keeps o.name) (le-leb (generation m.layout o.place) g l) k) i))))
      in
      let under : o.place + object_size m.types o ≤ end =
      sweep_below m h g least keeps (ephemeral m.layout) (ephemeral-in m.layout h.layout) (object_piece m.types o) q
      in
      let z : IsLawfulSize (object_size m.types o) =
      (piece-tile m h (object_piece m.types o) (object-in-pieces m h o i) n).size in
      omega arith
    where
      one : (n : HasHome m.layout o.place) → first_place (ephemeral m.layout) ≤ o.place
          → o.place < reserved_end (ephemeral m.layout) → AreSeparate n.home (ephemeral m.layout)
          → n.home ≡ ephemeral m.layout
      one n a b (inl e) = e
      one n a b (inr (inl u)) = let x : o.place < reserved_end n.home = n.high in absurd (omega arith)
      one n a b (inr (inr u)) = let x : first_place n.home ≤ o.place = n.low in absurd (omega arith)

  -- A place's generation after a sweep, by the new boundaries.
  pub sweep_generation : (x : ℕ) → generation (swept_small m.layout g kept) x
      ≡ (if stands_in (ephemeral m.layout) x then (if nat_lt x start1' then 2 else (if nat_lt x end then 1 else 0)) else
      2)
  sweep_generation x =
      generation_after m.layout h.layout is_small_or_ephemeral g (swept_end m.layout g kept)
      (λ s. survivor_pieces s kept) (swept_free m.layout g kept)
      (λ s j. sweep_tiles m h g least keeps s (known s j)) (λ s j. high s j) (part_low m h g least keeps)
      (swept_small m.layout g kept) refl x
    where
      known : (s : SegInfo) → IsIn s (taking_part is_small_or_ephemeral g m.layout) → IsIn s m.layout.segments
      known s j = (taking-is m.layout h.layout g least s j).2

      high : (s : SegInfo) → IsIn s (taking_part is_small_or_ephemeral g m.layout)
          → swept_end m.layout g kept s ≤ reserved_end s
      high s j = let (a, b) = sweep_end m h g least keeps s (known s j) in
          let d : s.end ≤ reserved_end s = (lawful_segment m.layout h.layout s (known s j)).high in omega arith

  -- A condemned object that stays gets the next older generation.
  pub sweep_promotes : (o : Object) → IsIn o m.objects → keeps o.name ≡ true → generation m.layout o.place ≤ g
      → generation (swept_small m.layout g kept) o.place ≡ min 2 (generation m.layout o.place + 1)
  sweep_promotes o i k l =
      sweep_generation o.place
      ∙ ages (stands_in (ephemeral m.layout) o.place) (nat_lt o.place m.layout.start1)
      (nat_lt o.place m.layout.start0) refl refl refl (g == 0) refl l
    where
      -- the new boundaries' tests
      below : (x : ℕ) → o.place < x → (n : ℕ) → ◌≡◌ {A = ℕ} (if nat_lt o.place x then 2 else n) 2
      below x u n = ap (λ t. if t then 2 else n) (lt-ltb o.place x u)

      between : (x y : ℕ) → x ≤ o.place → o.place < y
          → ◌≡◌ {A = ℕ} (if nat_lt o.place x then 2 else (if nat_lt o.place y then 1 else 0)) 1
      between x y u v = ap (λ t. if t then 2 else (if nat_lt o.place y then 1 else 0)) (le-ltb o.place x u)
          ∙ ap (λ t. if t then 1 else 0) (lt-ltb o.place y v)

      ages : (a b c : Bool) → stands_in (ephemeral m.layout) o.place ≡ a → nat_lt o.place m.layout.start1 ≡ b
          → nat_lt o.place m.layout.start0 ≡ c → (z : Bool) → (g == 0) ≡ z
          → (if a then (if b then 2 else (if c then 1 else 0)) else 2) ≤ g
          → ◌≡◌ {A = ℕ} (if a then (if nat_lt o.place (if z then m.layout.start1 else min m.layout.start0 end) then
          2 else (if nat_lt o.place end then 1 else 0)) else 2)
          (min 2 ((if a then (if b then 2 else (if c then 1 else 0)) else 2) + 1))
      ages false b c p q r z e l = omega arith
      ages true true c p q r true e l = let x : g ≡ 0 = eqb-true g 0 e in absurd (omega arith)
      ages true false true p q r true e l = let x : g ≡ 0 = eqb-true g 0 e in absurd (omega arith)
      ages true true c p q r false e l' =
          let u : o.place < m.layout.start1 = ltb-true o.place m.layout.start1 q in let o1 = h.layout.start1_high in
          let v : o.place < end = ends-below o i k l p in
          below (min m.layout.start0 end) (omega arith) (if nat_lt o.place end then 1 else 0) ∙ omega arith
      ages true false true p q r false e l' =
          let u : o.place < m.layout.start0 = ltb-true o.place m.layout.start0 r in
          let v : o.place < end = ends-below o i k l p in
          below (min m.layout.start0 end) (omega arith) (if nat_lt o.place end then 1 else 0) ∙ omega arith
      ages true false false p q r true e l' =
          let u : m.layout.start1 ≤ o.place = ltb-false o.place m.layout.start1 q in
          let v : o.place < end = ends-below o i k l p in
          between m.layout.start1 end u v ∙ omega arith
      ages true false false p q r false e l' =
          let u : m.layout.start0 ≤ o.place = ltb-false o.place m.layout.start0 r in
          let v : o.place < end = ends-below o i k l p in
          between (min m.layout.start0 end) end (omega arith) v ∙ omega arith
