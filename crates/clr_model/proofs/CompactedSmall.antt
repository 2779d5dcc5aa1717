-- What a compaction of the small heap leaves: ends, boundaries, free items and places.
use Rattle.std.proofs.Common.{◌≡◌, ℕ, ◌+◌, ◌<◌, ◌≤◌, ◌⊎◌, inl, inr, List, ◌++◌, map, refl, sym, ap, subst, ◌∙◌, arith}
use Rattle.std.proofs.Common.{Bool, true, false, filter, nat_le, if◌then◌else◌, ◌==◌, max, append_assoc}
use Rattle.std.proofs.lemmas.Bool.{cases_lt, leb-true}
use Rattle.clr_types.specs.Rising.{IsIn}
use Rattle.clr_types.specs.Ranges.{Piece, piece_end, Tiles, gaps, end_of_last, by_place}
use Rattle.clr_model.specs.Sweep.{Survivor, part_start}
use Rattle.clr_model.specs.Compaction.{Plug, plug_end, Move, moved_pieces, plugs_of_generation, raised_past_pins}
use Rattle.clr_model.specs.Compaction.{first_pointer, IsCompacted, compacted_end, compacted_free, pinned_pieces}
use Rattle.clr_types.specs.declared.segment.SegInfo.{SegInfo}
use Rattle.clr_types.specs.Segments.{Layout, first_place, reserved_end, pieces_in, ephemeral, same_kind}
use Rattle.clr_types.specs.declared.segment.SegKind.TheVariants.{Ephemeral}
use Rattle.clr_types.proofs.PieceGaps.{IsGapped, IsGapPiece, gaps-are, last-in}
use Rattle.clr_model.proofs.PlugRoom.{IsPlug, IsOutside, one_plug}
use Rattle.clr_types.proofs.SegmentFacts.{AreSeparate}
use Rattle.clr_model.proofs.PlugPointer.{IsEdge, edge-outside}
use Rattle.clr_model.proofs.PlugWalk.{Walk, rises, AreInLine, AreOrdered, IsLanded, IsWalked, walked, walk_of}
use Rattle.clr_model.proofs.PlugWalk.{plug_of_move, each_both}
use Rattle.clr_types.proofs.ChangedLists.{all_members, append_left, out_of_filter}
use Rattle.clr_types.proofs.ListMembers.{in_append}
use Rattle.clr_model.proofs.PlugsApart.{raised_is, raised_up, AreScattered, piece_of_move, landed-scattered}
use Rattle.clr_model.proofs.PlugLanding.{MayStart, IsBlock, block-is, done, IsBeforePin, segment-tiles}
use Rattle.clr_model.proofs.PlugLanding.{gap-before-pin, gap-outside, source-end, top-is, blocks, raised-outside}
use Rattle.clr_model.proofs.PlugLanding.{raised-source, source-under, block-high, sources}
use Rattle.clr_model.proofs.PlacedPlugs.{placed_on, placed_up, placed_between, in_line}
use Rattle.clr_model.proofs.FirstPointer.{first-near, first-outside, first-aligned}
use Rattle.clr_model.proofs.CondemnedPlugs.{AreCondemned, of-is, younger_line, line_by_age, line-is, older-below}
use Rattle.clr_model.proofs.CondemnedPlugs.{older-rises, in_line_by_age, line-complete}

module _ (layout : Layout) (g : ℕ) (kept : List Survivor) (moves : List Move) (new : Layout)
    (c : IsCompacted layout g kept moves new) (h : AreCondemned layout g c.segments c.plugs) where
  abbrev all : List Plug
  all = c.plugs

  abbrev of : ℕ → List Plug
  of i = plugs_of_generation i all

  abbrev pub young_line : List Plug
  young_line = younger_line all

  abbrev pub whole_line : List Plug
  whole_line = line_by_age all

  line : AreInLine all whole_line
  line = in_line_by_age layout g c.segments all h

  complete : (p : Plug) → IsIn p all → IsIn p whole_line
  complete = line-complete layout g c.segments all h

  eph : SegInfo
  eph = ephemeral layout

  -- where the pointer is when generation 0 is placed
  abbrev pub raised : ℕ
  raised = if g == 0 then c.after1 else new.start1

  -- it is where the older plugs left it, or an edge at or below the young plugs
  pub raised-is : (raised ≡ c.after1)
      ⊎ ((c.after1 ≤ raised) × IsEdge c.segments all raised × ((q : Plug) → IsIn q (of 0) → raised ≤ q.start))
  raised-is = go (g == 0) c.start1
    where
      olds : List Plug
      olds = filter (λ (p : Plug). nat_le 1 p.generation) all

      by_pin : (n : ℕ) → n ≡ raised_past_pins olds (max c.after1 (first_place (ephemeral layout)))
          → (n ≡ max c.after1 (first_place (ephemeral layout)))
          ⊎ ((p : Plug) × IsIn p olds × (p.pinned ≡ true) × (n ≡ plug_end p))
          → max c.after1 (first_place (ephemeral layout)) ≤ n
          → (n ≡ c.after1) ⊎ ((c.after1 ≤ n) × IsEdge c.segments all n × ((q : Plug) → IsIn q (of 0) → n ≤ q.start))
      by_pin n e (inl f) up = by_order (cases_lt c.after1 (first_place (ephemeral layout)))
        where
          by_order : (c.after1 < first_place (ephemeral layout)) ⊎ (first_place (ephemeral layout) ≤ c.after1)
              → (n ≡ c.after1) ⊎ ((c.after1 ≤ n) × IsEdge c.segments all n × ((q : Plug) → IsIn q (of 0) → n ≤ q.start))
          by_order (inl l) = inr (
            omega arith,
            inr (ephemeral layout, h.among, omega arith),
            λ q j. let (z, k) =
                of-is all 0 q j in let y : first_place (ephemeral layout) ≤ q.start = h.young q k z in omega arith,
          )
          by_order (inr l) = inl (omega arith)
      by_pin n e (inr (p, i, pinned, f)) up =
          let (t, k) = out_of_filter (λ (p : Plug). nat_le 1 p.generation) p all i in
          let old : 1 ≤ p.generation = leb-true 1 p.generation t in
          inr (
            omega arith,
            inl (p, k, pinned, f),
            λ q j. let (z, m) = of-is all 0 q j in
                let lower : p.start < q.start = older-below layout g c.segments all h p q k m (omega arith) in
                let apart : IsGapped (plug_end p) q.start = h.plugs.apart p q k m lower in
                omega arith,
          )

      go : (b : Bool) → new.start1 ≡ (if b then layout.start1 else
          raised_past_pins olds (max c.after1 (first_place (ephemeral layout))))
          → ((if b then c.after1 else new.start1) ≡ c.after1)
          ⊎ ((c.after1 ≤ (if b then c.after1 else new.start1))
          × IsEdge c.segments all (if b then c.after1 else new.start1)
          × ((q : Plug) → IsIn q (of 0) → (if b then c.after1 else new.start1) ≤ q.start))
      go true e = inl refl
      go false e = by_pin new.start1 e
          (subst (λ n. (n ≡ max c.after1 (first_place (ephemeral layout)))
          ⊎ ((p : Plug) × IsIn p olds × (p.pinned ≡ true) × (n ≡ plug_end p))) (sym e)
          (raised_is olds (max c.after1 (first_place (ephemeral layout)))))
          (subst (λ n. max c.after1 (first_place (ephemeral layout)) ≤ n) (sym e)
          (raised_up olds (max c.after1 (first_place (ephemeral layout)))))

  young_walk : Walk c.segments all c.after1 (of 0) c.moves0 c.after0
  young_walk = go raised-is (walk_of c.segments all raised (of 0) c.moves0 c.after0 c.placed0)
    where
      go : (raised ≡ c.after1) ⊎ ((c.after1 ≤ raised) × IsEdge c.segments all raised
          × ((q : Plug) → IsIn q (of 0) → raised ≤ q.start)) → Walk c.segments all raised (of 0) c.moves0 c.after0
          → Walk c.segments all c.after1 (of 0) c.moves0 c.after0
      go (inl e) w = subst (λ n. Walk c.segments all n (of 0) c.moves0 c.after0) e w
      go (inr (up, edge, above)) w = rises up edge (all_members (λ (p : Plug). raised ≤ p.start) (of 0) above) w

  moves-is : c.moves2 ++ (c.moves1 ++ c.moves0) ≡ moves
  moves-is = sym (append_assoc c.moves2 c.moves1 c.moves0) ∙ sym c.moves_are

  -- the whole walk, from the oldest plugs to the youngest
  pub whole_walk : Walk c.segments all (first_pointer layout g c.segments) whole_line moves c.after0
  whole_walk =
      subst (λ vs. Walk c.segments all (first_pointer layout g c.segments) whole_line vs c.after0) moves-is
      (placed_on c.segments all (first_pointer layout g c.segments) (of 2) c.moves2 c.after2 young_line
      (c.moves1 ++ c.moves0) c.after0 c.placed2
      (placed_on c.segments all c.after2 (of 1) c.moves1 c.after1 (of 0) c.moves0 c.after0 c.placed1 young_walk))

  abbrev start : SegInfo → ℕ
  start = part_start layout g

  abbrev pointer : ℕ
  pointer = first_pointer layout g c.segments

  abbrev pub source : ℕ → Type 0
  source = MayStart c.segments all moves pointer

  pub walked_whole : IsWalked c.segments all source pointer whole_line moves c.after0
  walked_whole = done c.segments all h.plugs start pointer h.starts whole_line moves c.after0 line complete whole_walk

  -- ---- places

  -- no plug goes higher
  pub none_rises : (v : Move) → IsIn v moves → v.to ≤ v.start
  none_rises v i =
      let (p, j, landed) = plug_of_move (IsLanded c.segments all source) whole_line moves v walked_whole.landed i in
      let l : v.to ≤ p.start = landed.lower in
      let e : v.start ≡ p.start = landed.start in
      omega arith

  -- plugs don't overlap where they land
  pub none_overlap : AreScattered (map piece_of_move moves)
  none_overlap = landed-scattered c.segments all h.plugs source whole_line moves line walked_whole.landed
      walked_whole.ordered

  -- plugs that aren't pinned keep their order
  pub order_kept : AreOrdered whole_line moves
  order_kept = walked_whole.ordered

  -- ---- tilings

  pub raised-up : c.after1 ≤ raised
  raised-up = go raised-is
    where
      go : (raised ≡ c.after1) ⊎ ((c.after1 ≤ raised) × IsEdge c.segments all raised
          × ((q : Plug) → IsIn q (of 0) → raised ≤ q.start)) → c.after1 ≤ raised
      go (inl e) = omega arith
      go (inr k) = k.0

  pointer-up : pointer ≤ c.after1
  pointer-up =
      let a : pointer ≤ c.after2 = placed_up c.segments all pointer (of 2) c.moves2 c.after2 c.placed2 in
      let b : c.after2 ≤ c.after1 = placed_up c.segments all c.after2 (of 1) c.moves1 c.after1 c.placed1 in
      omega arith

  young-up : raised ≤ c.after0
  young-up = placed_up c.segments all raised (of 0) c.moves0 c.after0 c.placed0

  abbrev olds : List Plug
  olds = filter (λ (p : Plug). nat_le 1 p.generation) all

  -- the pointer ends in the ephemeral segment
  pub raised-in : first_place (ephemeral layout) ≤ raised
  raised-in = go (g == 0) refl c.start1
    where
      go : (b : Bool) → (g == 0) ≡ b → new.start1
          ≡ (if b then layout.start1 else raised_past_pins olds (max c.after1 (first_place (ephemeral layout))))
          → first_place (ephemeral layout) ≤ (if b then c.after1 else new.start1)
      go true e f = let (l, m) = h.alone e in let up = pointer-up in omega arith
      go false e f = let up : max c.after1 (first_place (ephemeral layout)) ≤ raised_past_pins olds
          (max c.after1 (first_place (ephemeral layout))) =
          raised_up olds (max c.after1 (first_place (ephemeral layout))) in omega arith

  abbrev pub blocks_in : SegInfo → List Piece
  blocks_in s = pieces_in s (moved_pieces moves)

  pub reached : first_place (ephemeral layout) ≤ c.after0
  reached = let a = raised-in in let b = young-up in omega arith

  pub highest-at : (s : SegInfo) → s ≡ ephemeral layout → (t : SegInfo) → IsIn t c.segments
      → reserved_end t ≤ reserved_end s
  highest-at s same t j = subst (λ (u : SegInfo). reserved_end t ≤ reserved_end u) (sym same) (h.highest t j)

  pub reached-at : (s : SegInfo) → s ≡ ephemeral layout → first_place s ≤ c.after0
  reached-at s same = subst (λ (u : SegInfo). first_place u ≤ c.after0) (sym same) reached

  pub end_is : (s : SegInfo) → IsIn s c.segments
      → compacted_end new.start0 all moves s ≡ end_of_last (start s) (blocks_in s)
  end_is s i = go (same_kind Ephemeral s.kind) refl
    where
      go : (b : Bool) → same_kind Ephemeral s.kind ≡ b
          → (if b then max new.start0 (end_of_last new.start0 (pinned_pieces s.base all)) else
          end_of_last (first_place s) (blocks_in s))
          ≡ end_of_last (if b then (if g == 0 then layout.start0 else (if g == 1 then layout.start1 else first_place s))
          else first_place s) (blocks_in s)
      go false e = refl
      go true e =
          ap (λ n. max n (end_of_last n (pinned_pieces s.base all))) c.start0
          ∙ top-is c.segments all h.plugs start pointer h.starts whole_line moves c.after0 line complete whole_walk s i
          (highest-at s (h.one s i e)) (reached-at s (h.one s i e))
          ∙ ap (λ b. end_of_last (if b then
          (if g == 0 then layout.start0 else (if g == 1 then layout.start1 else first_place s)) else first_place s)
          (blocks_in s)) e

  -- The moved plugs and the new free items tile each segment from the start of its condemned part to its new end.
  pub compaction_tiles : (s : SegInfo) → IsIn s c.segments
      → Tiles (start s) (compacted_end new.start0 all moves s)
      (by_place (blocks_in s ++ compacted_free layout g new.start0 all moves s))
  compaction_tiles s i =
      subst (λ n. Tiles (start s) n (by_place (blocks_in s ++ gaps (start s) n (blocks_in s)))) (sym (end_is s i))
      (segment-tiles c.segments all h.plugs start pointer h.starts whole_line moves c.after0 line complete whole_walk s
      i)

  -- Each new free item is lawful, and followed directly by a pinned plug.
  pub free_before_pin : (s : SegInfo) → IsIn s c.segments → (f : Piece)
      → IsIn f (compacted_free layout g new.start0 all moves s) → IsBeforePin all f
  free_before_pin s i f j =
      gap-before-pin c.segments all h.plugs start pointer h.starts whole_line moves c.after0 line complete whole_walk s
      i f (subst (λ n. IsIn f (gaps (start s) n (blocks_in s))) (end_is s i) j)

  -- ---- boundaries

  -- where a plug was, by its age, and where it goes
  abbrev pub Lands : (Plug → Type 0) → Move → Type 0
  Lands P v = (p : Plug) × IsIn p all × P p × IsLanded c.segments all source p v

  same_landed : (v : Move) → IsIn v moves → (p : Plug) → IsIn p all → v.start ≡ p.start
      → IsLanded c.segments all source p v
  same_landed v i p j e =
      let (q, k, landed) = plug_of_move (IsLanded c.segments all source) whole_line moves v walked_whole.landed i in
      let at : q.start ≡ p.start = sym landed.start ∙ e in
      subst (λ (w : Plug). IsLanded c.segments all source w v)
      (one_plug c.segments all h.plugs q p (line-is all q k) j at) landed

  pub move_ages : (v : Move) → IsIn v moves
      → Lands (λ p. (1 ≤ p.generation) × (p.pinned ≡ false → v.to + v.size ≤ c.after1)) v
      ⊎ Lands (λ p. (p.generation ≡ 0) × (p.pinned ≡ false → (raised ≤ v.to) × (v.to + v.size ≤ c.after0))) v
  move_ages v i = go (in_append (c.moves2 ++ c.moves1) (subst (IsIn v) c.moves_are i))
    where
      older : IsIn v c.moves2 ⊎ IsIn v c.moves1
          → Lands (λ p. (1 ≤ p.generation) × (p.pinned ≡ false → v.to + v.size ≤ c.after1)) v
      older (inl j) =
          let (p, k, (start, f)) = plug_of_move
          (λ p v. (v.start ≡ p.start) × (p.pinned ≡ false → (pointer ≤ v.to) × (v.to + v.size ≤ c.after2)))
          (of 2) c.moves2 v (placed_between c.segments all pointer (of 2) c.moves2 c.after2 c.placed2) j in
          let (e, known) = of-is all 2 p k in
          let up : c.after2 ≤ c.after1 = placed_up c.segments all c.after2 (of 1) c.moves1 c.after1 c.placed1 in (
            p,
            known,
            (
              omega arith,
              λ u. let l : v.to + v.size ≤ c.after2 = (f u).1 in
                  omega arith,
            ),
            same_landed v i p known start,
          )
      older (inr j) =
          let (p, k, (start, f)) = plug_of_move
          (λ p v. (v.start ≡ p.start) × (p.pinned ≡ false → (c.after2 ≤ v.to) × (v.to + v.size ≤ c.after1)))
          (of 1) c.moves1 v (placed_between c.segments all c.after2 (of 1) c.moves1 c.after1 c.placed1) j in
          let (e, known) = of-is all 1 p k in
          (p, known, (omega arith, λ u. (f u).1), same_landed v i p known start)

      go : IsIn v (c.moves2 ++ c.moves1) ⊎ IsIn v c.moves0
          → Lands (λ p. (1 ≤ p.generation) × (p.pinned ≡ false → v.to + v.size ≤ c.after1)) v
          ⊎ Lands (λ p. (p.generation ≡ 0) × (p.pinned ≡ false → (raised ≤ v.to) × (v.to + v.size ≤ c.after0))) v
      go (inl j) = inl (older (in_append c.moves2 j))
      go (inr j) =
          let (p, k, (start, f)) = plug_of_move
          (λ p v. (v.start ≡ p.start) × (p.pinned ≡ false → (raised ≤ v.to) × (v.to + v.size ≤ c.after0)))
          (of 0) c.moves0 v (placed_between c.segments all raised (of 0) c.moves0 c.after0 c.placed0) j in
          let (e, known) = of-is all 0 p k in
          inr (p, known, (e, f), same_landed v i p known start)

  -- the older plugs alone
  old-line : AreInLine all (of 2 ++ of 1)
  old-line =
      in_line c.segments all h.plugs (of 2 ++ of 1)
      (older-rises layout g c.segments all h)
      (λ p i. elim (in_append (of 2) i) [ inl j ↦ (of-is all 2 p j).1 | inr j ↦ (of-is all 1 p j).1 ])

  old_walked : IsWalked c.segments all source pointer (of 2 ++ of 1) (c.moves2 ++ c.moves1) c.after1
  old_walked =
      walked c.segments all h.plugs moves source
      (sources c.segments all h.plugs start pointer h.starts whole_line moves c.after0 line complete whole_walk)
      pointer (of 2 ++ of 1) (c.moves2 ++ c.moves1) c.after1
      (placed_on c.segments all pointer (of 2) c.moves2 c.after2 (of 1) c.moves1 c.after1 c.placed2
      (walk_of c.segments all c.after2 (of 1) c.moves1 c.after1 c.placed1))
      old-line
      (first-near c.segments all h.plugs start pointer h.starts (of 2 ++ of 1) old-line)
      (first-outside c.segments all h.plugs start pointer h.starts)
      (first-aligned c.segments all h.plugs start pointer h.starts, inl refl)
      (λ v i. subst (IsIn v) (sym c.moves_are) (append_left c.moves0 i))

  raised-outside1 : IsOutside all raised
  raised-outside1 = go raised-is
    where
      go : (raised ≡ c.after1) ⊎ ((c.after1 ≤ raised) × IsEdge c.segments all raised
          × ((q : Plug) → IsIn q (of 0) → raised ≤ q.start)) → IsOutside all raised
      go (inl e) = subst (IsOutside all) (sym e) old_walked.outside
      go (inr k) = edge-outside c.segments all h.plugs raised k.1

  pub raised-source1 : source raised
  raised-source1 = go raised-is
    where
      go : (raised ≡ c.after1) ⊎ ((c.after1 ≤ raised) × IsEdge c.segments all raised
          × ((q : Plug) → IsIn q (of 0) → raised ≤ q.start)) → source raised
      go (inl e) = subst source (sym e) old_walked.from
      go (inr k) = (sources c.segments all h.plugs start pointer h.starts whole_line moves c.after0 line complete
          whole_walk).edge raised k.1

  -- the first boundary is where the pointer was before generation 0, or for a young collection the old one
  pub start1-is : ((g == 0) ≡ true) × (new.start1 ≡ layout.start1) ⊎ (((g == 0) ≡ false) × (new.start1 ≡ raised))
  start1-is = go (g == 0) refl c.start1
    where
      go : (b : Bool) → (g == 0) ≡ b → new.start1
          ≡ (if b then layout.start1 else raised_past_pins olds (max c.after1 (first_place (ephemeral layout))))
          → ((g == 0) ≡ true) × (new.start1 ≡ layout.start1)
          ⊎ (((g == 0) ≡ false) × (new.start1 ≡ (if b then c.after1 else new.start1)))
      go true e f = inl (e, f)
      go false e f = inr (e, refl)

  pub start1_raised : new.start1 ≤ raised
  start1_raised = go start1-is
    where
      go : ((g == 0) ≡ true) × (new.start1 ≡ layout.start1) ⊎ (((g == 0) ≡ false) × (new.start1 ≡ raised))
          → new.start1 ≤ raised
      go (inl (e, f)) = let (l, m) = h.alone e in let a = pointer-up in let b = raised-up in omega arith
      go (inr (e, f)) = omega arith

  pub start0_after : c.after0 ≤ new.start0
  start0_after = let e : new.start0 ≡ raised_past_pins all c.after0 = c.start0 in
      let l : c.after0 ≤ raised_past_pins all c.after0 = raised_up all c.after0 in omega arith

  -- the boundaries stand in order, the first at or above the first place where the collection is not of generation 0
  pub boundaries_rise : new.start1 ≤ new.start0
  boundaries_rise = let a = start1_raised in let b = young-up in let d = start0_after in omega arith

  -- no plug stands across the second boundary
  pub plugs_whole0 : (v : Move) → IsIn v moves → (new.start0 ≤ v.to) ⊎ (v.to + v.size ≤ new.start0)
  plugs_whole0 v i = go (move_ages v i)
    where
      by_pin : (p : Plug) → IsIn p all → IsLanded c.segments all source p v → p.pinned ≡ true
          → (new.start0 ≤ v.to) ⊎ (v.to + v.size ≤ new.start0)
      by_pin p j landed e =
          let to : v.to ≡ p.start = landed.pinned e in
          let size : v.size ≡ p.size = landed.size in
          let e0 : new.start0 ≡ raised_past_pins all c.after0 = c.start0 in
          elim (raised-outside c.segments all h.plugs start pointer h.starts whole_line moves c.after0 line complete
          whole_walk all (λ q k. k) c.after0 walked_whole.outside p j e) [
            | inl l ↦ inl (omega arith)
            | inr l ↦ inr (omega arith)
          ]

      old : (p : Plug) → IsIn p all → (p.pinned ≡ false → v.to + v.size ≤ c.after0) → IsLanded c.segments all source p v
          → (b : Bool) → p.pinned ≡ b → (new.start0 ≤ v.to) ⊎ (v.to + v.size ≤ new.start0)
      old p j f landed true e = by_pin p j landed e
      old p j f landed false e = let l : v.to + v.size ≤ c.after0 = f e in let m = start0_after in inr (omega arith)

      go : Lands (λ p. (1 ≤ p.generation) × (p.pinned ≡ false → v.to + v.size ≤ c.after1)) v
          ⊎ Lands (λ p. (p.generation ≡ 0) × (p.pinned ≡ false → (raised ≤ v.to) × (v.to + v.size ≤ c.after0))) v
          → (new.start0 ≤ v.to) ⊎ (v.to + v.size ≤ new.start0)
      go (inl (p, j, f, landed)) = old p j (λ u. let l : v.to + v.size ≤ c.after1 = f.1 u in let a = raised-up in
          let b = young-up in omega arith) landed p.pinned refl
      go (inr (p, j, f, landed)) = old p j (λ u. (f.1 u).1) landed p.pinned refl

  -- nor across the first
  raised-whole : (v : Move) → IsIn v moves → (raised ≤ v.to) ⊎ (v.to + v.size ≤ raised)
  raised-whole v i = go (move_ages v i)
    where
      by_pin : (p : Plug) → IsIn p all → IsLanded c.segments all source p v → p.pinned ≡ true
          → (raised ≤ v.to) ⊎ (v.to + v.size ≤ raised)
      by_pin p j landed e =
          let to : v.to ≡ p.start = landed.pinned e in
          let size : v.size ≡ p.size = landed.size in
          elim (raised-outside1 p j e) [ inl l ↦ inl (omega arith) | inr l ↦ inr (omega arith) ]

      old : (p : Plug) → IsIn p all → (p.pinned ≡ false → v.to + v.size ≤ c.after1) → IsLanded c.segments all source p v
          → (b : Bool) → p.pinned ≡ b → (raised ≤ v.to) ⊎ (v.to + v.size ≤ raised)
      old p j f landed true e = by_pin p j landed e
      old p j f landed false e = let l : v.to + v.size ≤ c.after1 = f e in let m = raised-up in inr (omega arith)

      young : (p : Plug) → IsIn p all → (p.pinned ≡ false → (raised ≤ v.to) × (v.to + v.size ≤ c.after0))
          → IsLanded c.segments all source p v → (b : Bool) → p.pinned ≡ b → (raised ≤ v.to) ⊎ (v.to + v.size ≤ raised)
      young p j f landed true e = by_pin p j landed e
      young p j f landed false e = inl (f e).0

      go : Lands (λ p. (1 ≤ p.generation) × (p.pinned ≡ false → v.to + v.size ≤ c.after1)) v
          ⊎ Lands (λ p. (p.generation ≡ 0) × (p.pinned ≡ false → (raised ≤ v.to) × (v.to + v.size ≤ c.after0))) v
          → (raised ≤ v.to) ⊎ (v.to + v.size ≤ raised)
      go (inl (p, j, f, landed)) = old p j f.1 landed p.pinned refl
      go (inr (p, j, f, landed)) = young p j f.1 landed p.pinned refl

  -- what lands stands at or above the place where the pointer began
  pub landed-above : (v : Move) → IsIn v moves → pointer ≤ v.to
  landed-above v i =
      let (p, j, (landed, above)) =
      plug_of_move (λ p v. IsLanded c.segments all source p v × (p.pinned ≡ false → pointer ≤ v.to)) whole_line moves v
      (each_both (IsLanded c.segments all source) (λ p v. p.pinned ≡ false
      → pointer ≤ v.to) whole_line moves walked_whole.landed walked_whole.above) i
      in go p (line-is all p j) landed above p.pinned refl
    where
      go : (p : Plug) → IsIn p all → IsLanded c.segments all source p v → (p.pinned ≡ false → pointer ≤ v.to)
          → (b : Bool) → p.pinned ≡ b → pointer ≤ v.to
      go p j landed above false e = above e
      go p j landed above true e =
          let is : IsPlug c.segments p = h.plugs.each p j in
          let g : IsGapped (start is.home) p.start = h.starts.plugs is.home p is.among j is.of in
          let l : pointer ≤ start is.home = h.starts.lowest is.home is.among in
          let to : v.to ≡ p.start = landed.pinned e in
          omega arith

  pub plugs_whole1 : (v : Move) → IsIn v moves → (new.start1 ≤ v.to) ⊎ (v.to + v.size ≤ new.start1)
  plugs_whole1 v i = go start1-is (raised-whole v i)
    where
      go : ((g == 0) ≡ true) × (new.start1 ≡ layout.start1) ⊎ (((g == 0) ≡ false) × (new.start1 ≡ raised))
          → (raised ≤ v.to) ⊎ (v.to + v.size ≤ raised) → (new.start1 ≤ v.to) ⊎ (v.to + v.size ≤ new.start1)
      go (inl (e, f)) k = let (l, m) = h.alone e in let a = landed-above v i in inl (omega arith)
      go (inr (e, f)) (inl k) = inl (omega arith)
      go (inr (e, f)) (inr k) = inr (omega arith)

  -- no free item stands across a place of the ephemeral segment from which a plug may start
  free-whole : (place : ℕ) → source place → first_place (ephemeral layout) ≤ place → start (ephemeral layout) ≤ place
      → (s : SegInfo) → IsIn s c.segments → (f : Piece) → IsIn f (compacted_free layout g new.start0 all moves s)
      → (place ≤ f.place) ⊎ (piece_end f ≤ place)
  free-whole place from low above s i f j = go (h.plugs.separate s (ephemeral layout) i h.among)
    where
      j' : IsIn f (gaps (start s) (end_of_last (start s) (blocks_in s)) (blocks_in s))
      j' = subst (λ n. IsIn f (gaps (start s) n (blocks_in s))) (end_is s i) j

      is : IsGapPiece (start s) (blocks_in s) f
      is = gaps-are (start s) (blocks_in s)
          (blocks c.segments all h.plugs start pointer h.starts whole_line moves c.after0 line complete whole_walk s i)
          f j'

      at : (s : SegInfo) → (i : IsIn s c.segments) → s ≡ ephemeral layout → first_place s ≤ place → start s ≤ place
          → place ≤ reserved_end s → IsIn f (gaps (start s) (end_of_last (start s) (blocks_in s)) (blocks_in s))
          → (place ≤ f.place) ⊎ (piece_end f ≤ place)
      at s i same l m n k =
          gap-outside c.segments all h.plugs start pointer h.starts whole_line moves c.after0 line complete whole_walk s
          i f k place
          (source-end c.segments all h.plugs start pointer h.starts whole_line moves c.after0 line complete whole_walk s
          place i l n m from)

      under : place ≤ reserved_end (ephemeral layout)
      under = source-under c.segments all h.plugs start pointer h.starts whole_line moves c.after0 line complete
          whole_walk (ephemeral layout) h.among h.highest reached place from

      below : reserved_end s ≤ (ephemeral layout).base
          → IsBlock c.segments all h.plugs start pointer h.starts whole_line moves c.after0 line complete whole_walk s
          is.before → (place ≤ f.place) ⊎ (piece_end f ≤ place)
      below l b =
          let high : b.move.to < reserved_end s = b.high in
          let e : is.before.place ≡ b.move.to = ap (λ (p : Piece). p.place) b.is in
          let to : piece_end f ≡ is.before.place = is.ends in
          inr (omega arith)

      go : AreSeparate s (ephemeral layout) → (place ≤ f.place) ⊎ (piece_end f ≤ place)
      go (inl same) =
          at s i same (subst (λ (u : SegInfo). first_place u ≤ place) (sym same) low)
          (subst (λ (u : SegInfo). start u ≤ place) (sym same) above)
          (subst (λ (u : SegInfo). place ≤ reserved_end u) (sym same) under) j'
      go (inr (inl l)) = below l (block-is c.segments all h.plugs start pointer h.starts whole_line moves c.after0 line
          complete whole_walk s is.before is.among)
      go (inr (inr l)) = let k : reserved_end s ≤ reserved_end (ephemeral layout) = h.highest s i in
          let r : 0x2000 ≤ s.reserved = h.plugs.reserved s i in absurd (omega arith)

  eph-started : (place : ℕ) → pointer ≤ place → first_place (ephemeral layout) ≤ place
      → start (ephemeral layout) ≤ place
  eph-started place l m = go (h.starts.each (ephemeral layout) h.among)
    where
      go : (start (ephemeral layout) ≡ pointer) ⊎ (start (ephemeral layout) ≡ first_place (ephemeral layout))
          → start (ephemeral layout) ≤ place
      go (inl e) = omega arith
      go (inr e) = omega arith

  -- the boundaries rise to the start of the ephemeral segment's part at least
  pub part_raised : part_start layout g (ephemeral layout) ≤ raised
  part_raised = let d = pointer-up in let r = raised-up in eph-started raised (omega arith) raised-in

  pub part_start0 : part_start layout g (ephemeral layout) ≤ new.start0
  part_start0 = let a = part_raised in let y = young-up in let z = start0_after in omega arith

  -- no free item stands across a boundary
  pub free_whole0 : (s : SegInfo) → IsIn s c.segments → (f : Piece)
      → IsIn f (compacted_free layout g new.start0 all moves s) → (new.start0 ≤ f.place) ⊎ (piece_end f ≤ new.start0)
  free_whole0 =
      let e : new.start0 ≡ raised_past_pins all c.after0 = c.start0 in
      let from : source new.start0 = subst source (sym e)
      (raised-source c.segments all h.plugs start pointer h.starts whole_line moves c.after0 line complete
      whole_walk all (λ p i. i) c.after0 walked_whole.from) in
      let a = start0_after in let b = reached in let d = pointer-up in let r = raised-up in let y = young-up in
      free-whole new.start0 from (omega arith) (eph-started new.start0 (omega arith) (omega arith))

  pub free_whole1 : (s : SegInfo) → IsIn s c.segments → (f : Piece)
      → IsIn f (compacted_free layout g new.start0 all moves s) → (new.start1 ≤ f.place) ⊎ (piece_end f ≤ new.start1)
  free_whole1 s i f j = go start1-is
    where
      is : IsGapPiece (start s) (blocks_in s) f
      is = gaps-are (start s) (blocks_in s)
          (blocks c.segments all h.plugs start pointer h.starts whole_line moves c.after0 line complete whole_walk s i)
          f (subst (λ n. IsIn f (gaps (start s) n (blocks_in s))) (end_is s i) j)

      go : ((g == 0) ≡ true) × (new.start1 ≡ layout.start1) ⊎ (((g == 0) ≡ false) × (new.start1 ≡ raised))
          → (new.start1 ≤ f.place) ⊎ (piece_end f ≤ new.start1)
      go (inl (e, k)) = let (l, m) = h.alone e in let a : start s ≤ f.place = is.start in
          let b : pointer ≤ start s = h.starts.lowest s i in inl (omega arith)
      go (inr (e, k)) =
          let a = raised-in in let b = pointer-up in let r = raised-up in
          subst (λ n. (n ≤ f.place) ⊎ (piece_end f ≤ n)) (sym k)
          (free-whole raised raised-source1 raised-in (eph-started raised (omega arith) raised-in) s i f j)

  -- the new end of the ephemeral segment is at or above the second boundary, and in its reservation
  pub start0_in : new.start0 ≤ compacted_end new.start0 all moves (ephemeral layout)
  start0_in = go (same_kind Ephemeral (ephemeral layout).kind) h.kind
    where
      go : (b : Bool) → b ≡ true → new.start0 ≤
          (if b then max new.start0 (end_of_last new.start0 (pinned_pieces (ephemeral layout).base all)) else
          end_of_last (first_place (ephemeral layout)) (blocks_in (ephemeral layout)))
      go true e = omega arith
      go false e = absurd cc

  pub ends_in : (s : SegInfo) → IsIn s c.segments
      → (start s ≤ compacted_end new.start0 all moves s) × (compacted_end new.start0 all moves s ≤ reserved_end s)
  ends_in s i =
      subst (λ n. (start s ≤ n) × (n ≤ reserved_end s)) (sym (end_is s i))
      (last-in (start s) (blocks_in s)
      (blocks c.segments all h.plugs start pointer h.starts whole_line moves c.after0 line complete whole_walk s i)
      (reserved_end s) (h.starts.high s i)
      (λ a j. block-high c.segments all h.plugs start pointer h.starts whole_line moves c.after0 line complete
      whole_walk s i a j))

  -- the second boundary is a place from which a plug may start
  pub start0_source : source new.start0
  start0_source = subst source (sym c.start0)
      (raised-source c.segments all h.plugs start pointer h.starts whole_line moves c.after0 line complete whole_walk
      all (λ p i. i) c.after0 walked_whole.from)
