-- The survivors of a lawful machine, and their plugs: what the laws on a compaction need of them.
use Rattle.std.proofs.Common.{◌≡◌, ℕ, ◌+◌, ◌%◌, ◌<◌, ◌≤◌, ◌⊎◌, inl, inr, List, map, refl, sym, ap, subst, ◌∙◌, arith}
use Rattle.std.proofs.Common.{Bool, true, false, ◌&&◌, ◌||◌, ◌==◌, if◌then◌else◌, filter, nat_le, nat_lt}
use Rattle.std.proofs.lemmas.Bool.{and_parts, and_from, leb-true, ltb-true, lt-ltb, le-leb, le-ltb, cases_lt, eqb-true}
use Rattle.std.proofs.lemmas.Bool.{eqb-false, eq-eqb, ltb-false, both_ways, or_cases}
use Rattle.std.specs.List.{AllByRecursion, list_any}
use Rattle.clr_types.specs.Rising.{IsIn, IsRisingBy}
use Rattle.clr_types.specs.Ranges.{Piece, piece_end, IsLawfulSize}
use Rattle.clr_types.proofs.RisingLists.{all_at}
use Rattle.clr_types.proofs.SortedLists.{sorted_by-rises, out_of_sorted_by}
use Rattle.clr_model.specs.Machine.{Object, Machine}
use Rattle.clr_model.specs.Lookups.{pieces, object_piece, object_size}
use Rattle.clr_model.specs.Sweep.{Survivor, survivor, survivors, is_condemned, part_start, has_condemned_part}
use Rattle.clr_model.specs.Sweep.{taking_part}
use Rattle.clr_model.specs.Compaction.{Plug, plug_end, plug_of, plugs_of, survivors_in, IsCompacted, Move}
use Rattle.clr_types.specs.declared.segment.SegInfo.{SegInfo}
use Rattle.clr_types.specs.Segments.{Layout, first_place, reserved_end, stands_in, pieces_in, generation, ephemeral}
use Rattle.clr_types.specs.Segments.{same_kind, is_small_or_ephemeral, segment_or_empty}
use Rattle.clr_types.specs.declared.segment.SegKind.TheVariants.{Ephemeral}
use Rattle.clr_types.specs.LawfulLayout.{IsLawfulSegment, DoesNotCross}
use Rattle.clr_types.proofs.ListMembers.{from-map, filter-rises, distinct_map, distinct_filter, any-in}
use Rattle.clr_types.proofs.PieceGaps.{IsGapped}
use Rattle.clr_types.proofs.SegmentFacts.{one_base, AreSeparate, separate, lawful_segment, ephemeral-kind, ephemeral-in}
use Rattle.clr_types.proofs.ChangedLists.{all_members, into_filter, out_of_filter}
use Rattle.clr_model.proofs.PlugsOf.{survivor_end, longer, AreJoined, plugs-all, plugs-spaced, spaced-from, spaced-rise}
use Rattle.clr_model.proofs.PlugsOf.{spaced-apart, ArePlugsSpaced}
use Rattle.clr_types.proofs.HighestSegment.{ephemeral-one}
use Rattle.clr_model.proofs.CondemnedParts.{taking-is, takes-part, ephemeral-takes, start-facts, first-in}
use Rattle.clr_model.proofs.CondemnedParts.{pointer-lowest, start-each, highest, alone}
use Rattle.clr_model.specs.Lawful.{IsLaid}
use Rattle.clr_model.proofs.LawfulPieces.{HasHome, piece-home, piece-tile, pieces-apart, segment-tiled, places-distinct}
use Rattle.clr_model.proofs.LawfulPieces.{object-in-pieces}
use Rattle.clr_types.proofs.TilePieces.{IsTile, tiles-cut}
use Rattle.clr_model.proofs.CondemnedPlugs.{AreCondemned}

-- ---- generations by place

module _ (layout : Layout) where
  -- a place of a generation below 2 stands in the ephemeral segment
  pub young-stands : (place : ℕ) → generation layout place ≤ 1 → stands_in (ephemeral layout) place ≡ true
  young-stands place l = go (stands_in (ephemeral layout) place) refl l
    where
      go : (b : Bool) → stands_in (ephemeral layout) place ≡ b
          → (if b then (if nat_lt place layout.start1 then 2 else (if nat_lt place layout.start0 then 1 else 0)) else
          2) ≤ 1 → stands_in (ephemeral layout) place ≡ true
      go true e l = e
      go false e l = absurd (omega arith)

  pub generation-least : (place : ℕ) → generation layout place ≤ 2
  generation-least place = go (stands_in (ephemeral layout) place) (nat_lt place layout.start1)
      (nat_lt place layout.start0)
    where
      go : (a b c : Bool) → (if a then (if b then 2 else (if c then 1 else 0)) else 2) ≤ 2
      go false b c = omega arith
      go true true c = omega arith
      go true false true = omega arith
      go true false false = omega arith

  -- in the segment, by the boundaries
  generation-in : (place : ℕ) → stands_in (ephemeral layout) place ≡ true
      → generation layout place ≡ (if nat_lt place layout.start1 then 2 else
      (if nat_lt place layout.start0 then 1 else 0))
  generation-in place e = ap (λ b. if b then
      (if nat_lt place layout.start1 then 2 else (if nat_lt place layout.start0 then 1 else 0)) else 2) e

  pub above-start1 : (place : ℕ) → generation layout place ≤ 1 → layout.start1 ≤ place
  above-start1 place l = go (nat_lt place layout.start1) refl
      (subst (λ n. n ≤ 1) (generation-in place (young-stands place l)) l)
    where
      go : (b : Bool) → nat_lt place layout.start1 ≡ b
          → (if b then 2 else (if nat_lt place layout.start0 then 1 else 0)) ≤ 1 → layout.start1 ≤ place
      go true e l = absurd (omega arith)
      go false e l = ltb-false place layout.start1 e

  pub above-start0 : (place : ℕ) → layout.start1 ≤ layout.start0 → generation layout place ≡ 0 → layout.start0 ≤ place
  above-start0 place o z = go (nat_lt place layout.start1) (nat_lt place layout.start0) refl refl
      (sym (generation-in place (young-stands place (omega arith))) ∙ z)
    where
      go : (a b : Bool) → nat_lt place layout.start1 ≡ a → nat_lt place layout.start0 ≡ b
          → ◌≡◌ {A = ℕ} (if a then 2 else (if b then 1 else 0)) 0 → layout.start0 ≤ place
      go true b e f q = absurd (omega arith)
      go false true e f q = absurd (omega arith)
      go false false e f q = ltb-false place layout.start0 f

  -- higher places of the segment are no older
  pub generations-fall : (low high : ℕ) → low < high → stands_in (ephemeral layout) low ≡ true
      → stands_in (ephemeral layout) high ≡ true → generation layout high ≤ generation layout low
  generations-fall low high l e f =
      subst (λ n. generation layout high ≤ n) (sym (generation-in low e))
      (subst (λ n. n ≤ (if nat_lt low layout.start1 then 2 else (if nat_lt low layout.start0 then 1 else 0)))
      (sym (generation-in high f))
      (go (nat_lt low layout.start1) (nat_lt low layout.start0) (nat_lt high layout.start1)
      (nat_lt high layout.start0) refl refl refl refl))
    where
      go : (a b c d : Bool) → nat_lt low layout.start1 ≡ a → nat_lt low layout.start0 ≡ b
          → nat_lt high layout.start1 ≡ c → nat_lt high layout.start0 ≡ d
          → (if c then 2 else (if d then 1 else 0)) ≤ (if a then 2 else (if b then 1 else 0))
      go true b true d p q r s = omega arith
      go true b false true p q r s = omega arith
      go true b false false p q r s = omega arith
      go false b true d p q r s = let x : high < layout.start1 = ltb-true high layout.start1 r in
          let y : layout.start1 ≤ low = ltb-false low layout.start1 p in absurd (omega arith)
      go false true false true p q r s = omega arith
      go false true false false p q r s = omega arith
      go false false false true p q r s = let x : high < layout.start0 = ltb-true high layout.start0 s in
          let y : layout.start0 ≤ low = ltb-false low layout.start0 q in absurd (omega arith)
      go false false false false p q r s = omega arith

filter-parts : (test : Piece → Bool) (P : Piece → Type 0) (ps : List Piece) → AllByRecursion P ps
    → AllByRecursion P (filter test ps)
filter-parts test P ps h = all_members P (filter test ps) (λ p i. all_at P (out_of_filter test p ps i).1 h)

module _ (m : Machine) (h : IsLaid m) (g : ℕ) (least : g ≤ 2) (keeps : ℕ → Bool) where
  abbrev kept : List Survivor
  kept = survivors m g keeps

  abbrev small : List Survivor
  small = survivors_in is_small_or_ephemeral m.layout kept

  abbrev parts : List SegInfo
  parts = taking_part is_small_or_ephemeral g m.layout

  -- a survivor of the small heap
  pub record IsSurvivor (k : Survivor) : Type 0 where
    pub object : Object
    pub present : IsIn object m.objects
    pub kept_on : keeps object.name ≡ true
    pub is : k ≡ survivor m object
    pub home : SegInfo
    pub among : IsIn home parts
    pub of : k.segment ≡ home.base
    pub size : 24 ≤ k.size
    pub aligned : (k.place % 8 ≡ 0) × (k.size % 8 ≡ 0)
    pub low : first_place home ≤ k.place
    pub high : survivor_end k ≤ reserved_end home
    pub gap : IsGapped (first_place home) k.place
    pub from : IsGapped (part_start m.layout g home) k.place
    pub age : k.generation ≤ g

  -- up from the start of the part to a condemned piece of it is nothing, or room for a free item
  part-gap : (s : SegInfo) → IsIn s parts → (p : Piece) → IsIn p (pieces m) → stands_in s p.place ≡ true
      → generation m.layout p.place ≤ g → IsGapped (first_place s) p.place → IsGapped (part_start m.layout g s) p.place
  part-gap s i p j t l gap = go (start-facts m.layout h.layout g least s i).kept
    where
      known : IsIn s m.layout.segments
      known = (taking-is m.layout h.layout g least s i).2

      tiled : IsIn p (pieces_in s (pieces m))
      tiled = into_filter (λ (p : Piece). stands_in s p.place) (pieces m) t j

      cut : (x : ℕ) → AllByRecursion (DoesNotCross x) (pieces m) → first_place s ≤ x → x ≤ p.place → IsGapped x p.place
      cut x whole a b = tiles-cut (first_place s) s.end (pieces_in s (pieces m)) x p (segment-tiled m h s known)
          (filter-parts (λ (p : Piece). stands_in s p.place) (DoesNotCross x) (pieces m) whole) a tiled b

      in_eph : s ≡ ephemeral m.layout → first_place s ≤ m.layout.start1
      in_eph e = subst (λ (u : SegInfo). first_place u ≤ m.layout.start1) (sym e) h.layout.start1_low

      by_g : s ≡ ephemeral m.layout → (a b : Bool) → (g == 0) ≡ a → (g == 1) ≡ b → g ≤ 1
          → IsGapped (if a then m.layout.start0 else (if b then m.layout.start1 else first_place s)) p.place
      by_g e true b q r u =
          let z : g ≡ 0 = eqb-true g 0 q in let v = in_eph e in let w = h.layout.start1_high in
          cut m.layout.start0 h.whole0 (omega arith) (above-start0 m.layout p.place w (omega arith))
      by_g e false true q r u = cut m.layout.start1 h.whole1 (in_eph e) (above-start1 m.layout p.place (omega arith))
      by_g e false false q r u = gap

      go : (part_start m.layout g s ≡ first_place s) ⊎ ((s ≡ ephemeral m.layout) × (g ≤ 1))
          → IsGapped (part_start m.layout g s) p.place
      go (inl e) = subst (λ n. IsGapped n p.place) (sym e) gap
      go (inr (e, u)) =
          let kind : same_kind Ephemeral s.kind
          ≡ true = subst (λ (u : SegInfo). same_kind Ephemeral u.kind ≡ true) (sym e)
          (ephemeral-kind m.layout h.layout) in
          subst (λ b. IsGapped (if b then
          (if g == 0 then m.layout.start0 else (if g == 1 then m.layout.start1 else first_place s)) else
          first_place s) p.place) (sym kind) (by_g e (g == 0) (g == 1) refl refl u)

  condemned-part : (s : SegInfo) → IsIn s m.layout.segments → (place : ℕ) → stands_in s place ≡ true
      → generation m.layout place ≤ g → has_condemned_part g s ≡ true
  condemned-part s i place t l = go (cases_lt g 2)
    where
      at_eph : g < 2 → AreSeparate s (ephemeral m.layout) → stands_in (ephemeral m.layout) place ≡ true
          → s ≡ ephemeral m.layout
      at_eph u (inl e) f = e
      at_eph u (inr (inl v)) f =
          let (a, b) = and_parts (nat_le (first_place (ephemeral m.layout)) place)
          (nat_lt place (reserved_end (ephemeral m.layout))) f in
          let (c, d) = and_parts (nat_le (first_place s) place) (nat_lt place (reserved_end s)) t in
          let a' : first_place (ephemeral m.layout) ≤ place = leb-true (first_place (ephemeral m.layout)) place a in
          let d' : place < reserved_end s = ltb-true place (reserved_end s) d in
          absurd (omega arith)
      at_eph u (inr (inr v)) f =
          let (a, b) = and_parts (nat_le (first_place (ephemeral m.layout)) place)
          (nat_lt place (reserved_end (ephemeral m.layout))) f in
          let (c, d) = and_parts (nat_le (first_place s) place) (nat_lt place (reserved_end s)) t in
          let b' : place < reserved_end (ephemeral m.layout) = ltb-true place (reserved_end (ephemeral m.layout)) b in
          let c' : first_place s ≤ place = leb-true (first_place s) place c in
          absurd (omega arith)

      go : (g < 2) ⊎ (2 ≤ g) → has_condemned_part g s ≡ true
      go (inl u) =
          let e : s ≡ ephemeral m.layout =
          at_eph u (separate m.layout h.layout s (ephemeral m.layout) i (ephemeral-in m.layout h.layout))
          (young-stands m.layout place (omega arith)) in
          ap (λ b. b || (g == 2)) (subst (λ (u : SegInfo). same_kind Ephemeral u.kind ≡ true) (sym e)
          (ephemeral-kind m.layout h.layout))
      go (inr u) = or_right (same_kind Ephemeral s.kind) (eq-eqb g 2 (omega arith))
        where
          or_right : (b : Bool) → (g == 2) ≡ true → (b || (g == 2)) ≡ true
          or_right true e = refl
          or_right false e = e

  pub survivor-is : (k : Survivor) → IsIn k small → IsSurvivor k
  survivor-is k i =
      let (t, j) = out_of_filter (λ (k : Survivor). list_any
      (λ s. is_small_or_ephemeral s.kind && (s.base == k.segment)) m.layout.segments) k kept i in
      let (o, e, n) = from-map (survivor m) k (filter (λ (o : Object). is_condemned m g o && keeps o.name) m.objects)
      (out_of_sorted_by (λ (s : Survivor). s.place) k
      (map (survivor m) (filter (λ (o : Object). is_condemned m g o && keeps o.name) m.objects)) j) in
      let (c, present) = out_of_filter (λ (o : Object). is_condemned m g o && keeps o.name) o m.objects n in
      let l : generation m.layout o.place ≤ g =
      leb-true (generation m.layout o.place) g (and_parts (is_condemned m g o) (keeps o.name) c).0 in
      let (s, q, w) = any-in (λ (s : SegInfo). is_small_or_ephemeral s.kind && (s.base == k.segment)) m.layout.segments
      t in
      let (kind, base) = and_parts (is_small_or_ephemeral s.kind) (s.base == k.segment) w in
      let p : IsIn (object_piece m.types o) (pieces m) = object-in-pieces m h o present in
      make o present (and_parts (is_condemned m g o) (keeps o.name) c).1 e
      (piece-home m h (object_piece m.types o) p) p l s q kind (eqb-true s.base k.segment base)
    where
      make : (o : Object) → IsIn o m.objects → keeps o.name ≡ true → k ≡ survivor m o → HasHome m.layout o.place
          → IsIn (object_piece m.types o) (pieces m) → generation m.layout o.place ≤ g → (s : SegInfo)
          → IsIn s m.layout.segments → is_small_or_ephemeral s.kind ≡ true → s.base ≡ k.segment → IsSurvivor k
      make o present stays e n p l s q kind base =
          let is : IsTile (first_place n.home) n.home.end (object_piece m.types o) =
          piece-tile m h (object_piece m.types o) p n in
          let of : k.segment ≡ n.home.base = ap (λ (k : Survivor). k.segment) e ∙ n.base in
          let same : n.home ≡ s = one_base m.layout h.layout n.home s n.among q (omega arith) in
          let part : IsIn n.home parts = takes-part m.layout h.layout g least n.home n.among
          (subst (λ (u : SegInfo). is_small_or_ephemeral u.kind ≡ true) (sym same) kind)
          (condemned-part n.home n.among o.place n.stands l) in
          let place : k.place ≡ o.place = ap (λ (k : Survivor). k.place) e in
          let size : k.size ≡ object_size m.types o = ap (λ (k : Survivor). k.size) e in
          let lawful : IsLawfulSize (object_size m.types o) = is.size in
          let segment : IsLawfulSegment n.home = lawful_segment m.layout h.layout n.home n.among in
          let b : n.home.base % 4096 ≡ 0 = segment.base in
          let u : n.home.end ≤ reserved_end n.home = segment.high in
          let v : o.place + object_size m.types o ≤ n.home.end = is.high_end in
          let a : o.place % 8 ≡ first_place n.home % 8 = is.aligned in
          let w : first_place n.home ≤ o.place = n.low in
          record {
            object = o;
            present = present;
            kept_on = stays;
            is = e;
            home = n.home;
            among = part;
            of = of;
            size = omega arith;
            aligned = (omega arith, omega arith);
            low = omega arith;
            high = omega arith;
            gap = subst (λ n'. IsGapped (first_place n.home) n') (sym place) is.low_gap;
            from = subst (λ n'. IsGapped (part_start m.layout g n.home) n') (sym place)
                (part-gap n.home part (object_piece m.types o) p n.stands l is.low_gap);
            age = subst (λ n'. n' ≤ g) (sym (ap (λ (k : Survivor). k.generation) e)) l;
          }

  survivors-rise : IsRisingBy (λ (k : Survivor). k.place) small
  survivors-rise =
      filter-rises (λ (k : Survivor). list_any
      (λ s. is_small_or_ephemeral s.kind && (s.base == k.segment)) m.layout.segments)
      (λ (k : Survivor). k.place) kept
      (sorted_by-rises (λ (k : Survivor). k.place)
      (map (survivor m) (filter (λ (o : Object). is_condemned m g o && keeps o.name) m.objects))
      (distinct_map (survivor m) (λ (k : Survivor). k.place)
      (filter (λ (o : Object). is_condemned m g o && keeps o.name) m.objects)
      (distinct_filter (λ (o : Object). o.place) (λ (o : Object). is_condemned m g o && keeps o.name) m.objects
      (places-distinct m h))))

  survivors-apart : (k l : Survivor) → IsIn k small → IsIn l small → k.place < l.place
      → IsGapped (survivor_end k) l.place × (l.generation ≤ k.generation)
  survivors-apart k l i j b = go (survivor-is k i) (survivor-is l j)
    where
      go : IsSurvivor k → IsSurvivor l → IsGapped (survivor_end k) l.place × (l.generation ≤ k.generation)
      go x y =
          let kp : k.place ≡ x.object.place = ap (λ (k : Survivor). k.place) x.is in
          let ke : survivor_end k ≡ piece_end (object_piece m.types x.object) = ap survivor_end x.is in
          let lp : l.place ≡ y.object.place = ap (λ (k : Survivor). k.place) y.is in
          let g' : IsGapped (piece_end (object_piece m.types x.object)) y.object.place =
          pieces-apart m h (object_piece m.types x.object) (object_piece m.types y.object)
          (object-in-pieces m h x.object x.present) (object-in-pieces m h y.object y.present) (omega arith) in (
            subst (λ n. IsGapped n l.place) (sym ke)
                (subst (λ n. IsGapped (piece_end (object_piece m.types x.object)) n) (sym lp) g'),
            subst (λ n. n ≤ k.generation) (sym (ap (λ (k : Survivor). k.generation) y.is))
                (subst (λ n. generation m.layout y.object.place ≤ n) (sym (ap (λ (k : Survivor). k.generation) x.is))
                (ages x y (cases_lt (generation m.layout x.object.place) 2) (omega arith))),
          )
        where
          ages : (x : IsSurvivor k) (y : IsSurvivor l)
              → (generation m.layout x.object.place < 2) ⊎ (2 ≤ generation m.layout x.object.place)
              → x.object.place < y.object.place
              → generation m.layout y.object.place ≤ generation m.layout x.object.place
          ages x y (inr u) b = let v : generation m.layout y.object.place ≤ 2 = generation-least m.layout y.object.place
              in omega arith
          ages x y (inl u) b =
              let stands : stands_in (ephemeral m.layout) x.object.place
              ≡ true = young-stands m.layout x.object.place (omega arith) in
              let (p, q) = and_parts (nat_le (first_place (ephemeral m.layout)) x.object.place)
              (nat_lt x.object.place (reserved_end (ephemeral m.layout))) stands in
              let low : first_place (ephemeral m.layout) ≤ x.object.place =
              leb-true (first_place (ephemeral m.layout)) x.object.place p in
              let top : reserved_end y.home ≤ reserved_end (ephemeral m.layout) =
              highest m.layout h.layout g least y.home y.among in
              let e : survivor_end l ≤ reserved_end y.home = y.high in
              let z : 24 ≤ l.size = y.size in
              let lp : l.place ≡ y.object.place = ap (λ (k : Survivor). k.place) y.is in
              generations-fall m.layout x.object.place y.object.place b stands
              (and_from (nat_le (first_place (ephemeral m.layout)) y.object.place)
              (nat_lt y.object.place (reserved_end (ephemeral m.layout)))
              (le-leb (first_place (ephemeral m.layout)) y.object.place (omega arith))
              (lt-ltb y.object.place (reserved_end (ephemeral m.layout)) (omega arith)))

  -- ---- their plugs

  pub record IsPlugOf (p : Plug) : Type 0 where
    pub home : SegInfo
    pub among : IsIn home parts
    pub of : p.segment ≡ home.base
    pub size : 24 ≤ p.size
    pub aligned : (p.start % 8 ≡ 0) × (p.size % 8 ≡ 0)
    pub high : plug_end p ≤ reserved_end home
    pub gap : IsGapped (first_place home) p.start
    pub from : IsGapped (part_start m.layout g home) p.start
    pub age : p.generation ≤ g
    pub young : p.generation ≡ 0 → first_place (ephemeral m.layout) ≤ p.start

  base_once : (s t : SegInfo) → IsIn s parts → IsIn t parts → s.base ≡ t.base → s ≡ t
  base_once s t i j e = go (separate m.layout h.layout s t i' j')
    where
      i' : IsIn s m.layout.segments
      i' = (taking-is m.layout h.layout g least s i).2

      j' : IsIn t m.layout.segments
      j' = (taking-is m.layout h.layout g least t j).2

      go : AreSeparate s t → s ≡ t
      go (inl same) = same
      go (inr (inl b)) = let r : 262144 ≤ s.reserved = (lawful_segment m.layout h.layout s i').least in
          absurd (omega arith)
      go (inr (inr b)) = let r : 262144 ≤ t.reserved = (lawful_segment m.layout h.layout t j').least in
          absurd (omega arith)

  survivor-young : (k : Survivor) → IsSurvivor k → k.generation ≡ 0 → first_place (ephemeral m.layout) ≤ k.place
  survivor-young k x z =
      let e : k.generation ≡ generation m.layout x.object.place = ap (λ (k : Survivor). k.generation) x.is in
      let at : k.place ≡ x.object.place = ap (λ (k : Survivor). k.place) x.is in
      let stands : stands_in (ephemeral m.layout) x.object.place
      ≡ true = young-stands m.layout x.object.place (omega arith) in
      let (p, q) = and_parts (nat_le (first_place (ephemeral m.layout)) x.object.place)
      (nat_lt x.object.place (reserved_end (ephemeral m.layout))) stands in
      let low : first_place (ephemeral m.layout) ≤ x.object.place =
      leb-true (first_place (ephemeral m.layout)) x.object.place p in
      omega arith

  alone-plug : (k : Survivor) → IsSurvivor k → IsPlugOf (plug_of k)
  alone-plug k x = record {
    home = x.home;
    among = x.among;
    of = x.of;
    size = x.size;
    aligned = x.aligned;
    high = x.high;
    gap = x.gap;
    from = x.from;
    age = x.age;
    young = survivor-young k x;
  }

  longer-plug : (k : Survivor) (p : Plug) → IsSurvivor k → IsPlugOf p → AreJoined k p → IsPlugOf (longer k p)
  longer-plug k p x y j =
      let same : y.home ≡ x.home = base_once y.home x.home y.among x.among (sym y.of ∙ sym j.segment ∙ x.of) in
      let touch : survivor_end k ≡ p.start = j.touch in
      let a : 24 ≤ k.size = x.size in
      let b : 24 ≤ p.size = y.size in
      let (c, d) = x.aligned in
      let (e, f) = y.aligned in
      let u : plug_end p ≤ reserved_end y.home = y.high in
      let v : reserved_end y.home ≡ reserved_end x.home = ap (λ (s : SegInfo). s.base + s.reserved) same in
      record {
        home = x.home;
        among = x.among;
        of = sym j.segment ∙ x.of;
        size = omega arith;
        aligned = (omega arith, omega arith);
        high = omega arith;
        gap = x.gap;
        from = x.from;
        age = y.age;
        young = λ z. survivor-young k x (j.generation ∙ z);
      }

  abbrev pub plugs : List Plug
  plugs = plugs_of small

  pub plug-is : (p : Plug) → IsIn p plugs → IsPlugOf p
  plug-is p i = all_at IsPlugOf i
      (plugs-all IsSurvivor IsPlugOf alone-plug longer-plug small (all_members IsSurvivor small survivor-is))

  spaced : ArePlugsSpaced plugs
  spaced = plugs-spaced small (spaced-from small survivors-rise survivors-apart)

  plug-size : (p : Plug) → IsIn p plugs → 0 < p.size
  plug-size p i = let s : 24 ≤ p.size = (plug-is p i).size in omega arith

  -- the plugs of a lawful machine's survivors are what the laws on a compaction ask for
  pub condemned : AreCondemned m.layout g parts plugs
  condemned = record {
    plugs = record {
      each = λ p i. let x : IsPlugOf p = plug-is p i in
          record { home = x.home; among = x.among; of = x.of; low = x.gap; high = x.high; size = x.size };
      rise = spaced-rise plugs spaced plug-size;
      apart = λ p q i j l. (spaced-apart plugs p q spaced plug-size i j l).0;
      reserved = λ s i. let r : 262144 ≤ s.reserved =
          (lawful_segment m.layout h.layout s (taking-is m.layout h.layout g least s i).2).least in omega arith;
      separate = λ s t i j. separate m.layout h.layout s t (taking-is m.layout h.layout g least s i).2
          (taking-is m.layout h.layout g least t j).2;
    };
    starts = record {
      base = segment_or_empty parts;
      among = first-in m.layout h.layout g least;
      begins = refl;
      lowest = pointer-lowest m.layout h.layout g least;
      low = λ s i. (start-facts m.layout h.layout g least s i).low;
      high = λ s i. (start-facts m.layout h.layout g least s i).high;
      each = start-each m.layout h.layout g least;
      plugs = λ s p i j e. let x : IsPlugOf p = plug-is p j in
          subst (λ (u : SegInfo). IsGapped (part_start m.layout g u) p.start)
          (base_once x.home s x.among i (sym x.of ∙ e)) x.from;
      aligned = λ s i. (
        let b : s.base % 4096
            ≡ 0 = (lawful_segment m.layout h.layout s (taking-is m.layout h.layout g least s i).2).base in
            omega arith,
        (start-facts m.layout h.layout g least s i).aligned,
      );
      whole = λ p i. (plug-is p i).aligned;
    };
    least = least;
    ages = λ p i. (plug-is p i).age;
    older_lower = λ p q i j l. (spaced-apart plugs p q spaced plug-size i j l).1;
    among = ephemeral-takes m.layout h.layout g least;
    highest = highest m.layout h.layout g least;
    young = λ p i z. (plug-is p i).young z;
    one = λ s i e. ephemeral-one m.layout h.layout s (taking-is m.layout h.layout g least s i).2 e;
    kind = ephemeral-kind m.layout h.layout;
    alone = alone m.layout h.layout g least;
  }

  -- a compaction of the machine's small heap works on these
  pub compaction_condemned : (moves : List Move) (new : Layout) (c : IsCompacted m.layout g kept moves new)
      → AreCondemned m.layout g c.segments c.plugs
  compaction_condemned moves new c =
      subst (λ (ss : List SegInfo). AreCondemned m.layout g ss c.plugs) (sym c.segments_are)
      (subst (λ (ps : List Plug). AreCondemned m.layout g parts ps) (sym c.plugs_are) condemned)

  -- what stands in a condemned part is condemned
  pub aged : (s : SegInfo) → IsIn s m.layout.segments → has_condemned_part g s ≡ true → (place : ℕ)
      → part_start m.layout g s ≤ place → first_place s ≤ place → place < reserved_end s → generation m.layout place ≤ g
  aged s known part place l f u = go (same_kind Ephemeral s.kind) (g == 0) (g == 1) refl refl refl l
    where
      two : (g == 2) ≡ true → generation m.layout place ≤ g
      two e = let z : g ≡ 2 = eqb-true g 2 e in
          let a : generation m.layout place ≤ 2 = generation-least m.layout place in omega arith

      at : same_kind Ephemeral s.kind ≡ true
          → generation m.layout place ≡ (if nat_lt place m.layout.start1 then 2 else
          (if nat_lt place m.layout.start0 then 1 else 0))
      at e =
          ap (λ b. if b then (if nat_lt place m.layout.start1 then 2 else
          (if nat_lt place m.layout.start0 then 1 else 0)) else 2)
          (subst (λ (t : SegInfo). stands_in t place ≡ true) (ephemeral-one m.layout h.layout s known e)
          (and_from (nat_le (first_place s) place) (nat_lt place (reserved_end s)) (le-leb (first_place s) place f)
          (lt-ltb place (reserved_end s) u)))

      above1 : same_kind Ephemeral s.kind ≡ true → m.layout.start1 ≤ place
          → generation m.layout place ≡ (if nat_lt place m.layout.start0 then 1 else 0)
      above1 e k = at e ∙ ap (λ b. if b then 2 else (if nat_lt place m.layout.start0 then 1 else 0))
          (le-ltb place m.layout.start1 k)

      at_most_one : (b : Bool) → (if b then 1 else 0) ≤ 1
      at_most_one true = omega arith
      at_most_one false = omega arith

      go : (a b d : Bool) → same_kind Ephemeral s.kind ≡ a → (g == 0) ≡ b → (g == 1) ≡ d
          → (if a then (if b then m.layout.start0 else (if d then m.layout.start1 else first_place s)) else
          first_place s) ≤ place → generation m.layout place ≤ g
      go false b d e p q l = elim (or_cases (same_kind Ephemeral s.kind) (g == 2) part) [
        | inl x
            ↦ absurd (both_ways (same_kind Ephemeral s.kind) e x)
        | inr x ↦ two x
      ]
      go true true d e p q l = let o = h.layout.start1_high in
          let r : generation m.layout place ≡ 0 = above1 e (omega arith)
          ∙ ap (λ b. if b then 1 else 0) (le-ltb place m.layout.start0 l) in omega arith
      go true false true e p q l = let z : g ≡ 1 = eqb-true g 1 q in
          subst (λ n. generation m.layout place ≤ n) (sym z)
          (subst (λ n. n ≤ 1) (sym (above1 e l)) (at_most_one (nat_lt place m.layout.start0)))
      go true false false e p q l = two (eq-eqb g 2 (omega (arith, eqb-false g 0 p, eqb-false g 1 q)))
