-- Where the parts end after sliding, and what is free there: as the layout says that the compaction leaves.
use Rattle.std.proofs.Common.{◌≡◌, ◌≢◌, ℕ, ◌-◌, ◌<◌, ◌≤◌, ◌⊎◌, inl, inr, Bool, true, List, [], ◌∷◌, ◌++◌, map, length}
use Rattle.std.proofs.Common.{refl, sym, ap, subst, ◌∙◌, arith}
use Rattle.std.proofs.lemmas.Bool.{cases_order}
use Rattle.clr_types.specs.Rising.{IsIn, first, later}
use Rattle.clr_types.specs.Ranges.{by_place, end_of_last, Piece, piece_end, Tiles}
use Rattle.clr_types.specs.Segments.{Layout, pieces_in, reserved_end, stands_in}
use Rattle.clr_types.specs.Types.{TypeRow}
use Rattle.clr_types.specs.declared.segment.SegInfo.{SegInfo}
use Rattle.clr_types.proofs.ChangedLists.{append_left, into_filter, IsIn-map, out_of_filter, rising-distinct}
use Rattle.clr_types.proofs.ListMembers.{append_right, distinct_cross, distinct_of_sorted, from-map, in_append}
use Rattle.clr_types.proofs.SegmentFacts.{between-stands, stands-between}
use Rattle.clr_types.proofs.SortedLists.{into_sorted_by, out_of_sorted_by}
use Rattle.clr_types.proofs.TilePieces.{IsTile, tile, tiles-apart}
use Rattle.clr_types.proofs.Tilings.{tiles-rise}
use Rattle.clr_heap.specs.View.{HeapView, IsHeap, segment_at, word_of}
use Rattle.clr_heap.proofs.Staying.{segment_order}
use Rattle.clr_model.specs.Compaction.{Move, moved_pieces}
use Rattle.clr_model.specs.Machine.{Machine}
use Rattle.clr_model.proofs.PlugsApart.{piece_of_move}
use Rattle.clr_sweep.proofs.SurvivorsSwept.{at-in}
use Rattle.clr_moves.specs.Moves.{AreMoves, IsInPart, landing_end, move_at, no_move, part_of, takes}
use Rattle.clr_moves.specs.declared.condemned.Condemned.{Condemned}
use Rattle.clr_moves.proofs.FilledParts.{FillsParts}
use Rattle.clr_moves.proofs.FromMachine.{number_of}
use Rattle.clr_compact.specs.Slides.{EndsAt, HasSlid, IsBare, IsEdge, IsFreeRange}

-- a piece of a tiling begins where the tiling does, or where another piece ends
tiles_before : (low high : ℕ) (ps : List Piece) → Tiles low high ps → (p : Piece) → IsIn p ps
    → (p.place ≡ low) ⊎ ((q : Piece) × IsIn q ps × (piece_end q ≡ p.place))
tiles_before low high [] t p i = elim i [ ]
tiles_before low high (r ∷ ps) t p first = inl t.0
tiles_before low high (r ∷ ps) t p (later i) = elim (tiles_before (piece_end r) high ps t.2 p i) [
  | inl e ↦ inr (r, first, sym e)
  | inr (q, j, e) ↦ inr (q, later j, e)
]

end_of_last-in : (low : ℕ) (ps : List Piece)
    → (end_of_last low ps ≡ low) ⊎ ((p : Piece) × IsIn p ps × (end_of_last low ps ≡ piece_end p))
end_of_last-in low [] = inl refl
end_of_last-in low (p ∷ ps) = elim (end_of_last-in (piece_end p) ps) [
  | inl e ↦ inr (p, first, e)
  | inr (q, j, e) ↦ inr (q, later j, e)
]

module _ (rows : List TypeRow) (old : HeapView) (base : Machine) (g : Condemned) (keeps : ℕ → Bool) (moves : List Move)
    (after : Layout) (c : FillsParts rows old base g keeps moves after) (heap : IsHeap old) (t : ℕ)
    (inside : t < length old.segments) (part : takes g (segment_at old t) ≡ true) where
  abbrev s : SegInfo
  s = segment_at old t

  known : IsIn s c.segments
  known = c.among t inside part

  abbrev start : ℕ
  start = part_of old g t

  abbrev pub end : ℕ
  end = c.end (segment_at old t)

  abbrev blocks : List Piece
  blocks = pieces_in s (moved_pieces moves)

  abbrev fresh : List Piece
  fresh = c.free s

  abbrev all : List Piece
  all = by_place (blocks ++ fresh)

  tiled : Tiles start end all
  tiled = c.tiles s known

  am : AreMoves old g moves
  am = c.are

  is_tile : (p : Piece) → IsIn p all → IsTile start end p
  is_tile p i = tile start end all p tiled i

  ends : (start ≤ end) × (end ≤ reserved_end s)
  ends = c.bounds s known

  -- a piece that isn't free is one of a plug that lands in this part
  pub block_is : (b : Piece) → IsIn b blocks
      → (k : ℕ) × (k < length moves) × (b ≡ piece_of_move (move_at moves k))
      × IsInPart old g t (move_at moves k).to
  block_is b i =
      let (e, j) = out_of_filter (λ (p : Piece). stands_in s p.place) b (moved_pieces moves) i in
      let (v, f, n) = from-map piece_of_move b moves
      (out_of_sorted_by (λ (p : Piece). p.place) b (map piece_of_move moves) j) in
      let (k, l, at) = number_of moves v n in
      let is : b ≡ piece_of_move (move_at moves k) = f ∙ ap piece_of_move at in
      let place : b.place ≡ (move_at moves k).to = ap (λ (p : Piece). p.place) is in
      let tile_is : IsTile start end b =
      is_tile b (into_sorted_by (λ (p : Piece). p.place) b (blocks ++ fresh) (append_left fresh i)) in
      let low = tile_is.low_gap in
      let (a, high) = stands-between s b.place e in
      (k, l, is, record { in_range = inside; takes = part; low = omega arith; high = omega arith })

  -- a plug that lands in the part is such a piece
  landed : (k : ℕ) → k < length moves → IsInPart old g t (move_at moves k).to
      → IsIn (piece_of_move (move_at moves k)) blocks
  landed k l into =
      let v = move_at moves k in
      let (first_low, room, z) = am.starts t inside part in
      let low = into.low in
      into_filter (λ (p : Piece). stands_in s p.place) (moved_pieces moves)
      (between-stands s v.to (omega arith) into.high)
      (into_sorted_by (λ (p : Piece). p.place) (piece_of_move v) (map piece_of_move moves)
      (IsIn-map piece_of_move (at-in moves k no_move l)))

  lands : (k : ℕ) → k < length moves → IsInPart old g t (move_at moves k).to
      → IsIn (piece_of_move (move_at moves k)) all
  lands k l into =
      into_sorted_by (λ (p : Piece). p.place) (piece_of_move (move_at moves k)) (blocks ++ fresh)
      (append_left fresh (landed k l into))

  -- THE END is that of the layout
  pub end_same : (e : ℕ) → EndsAt old g moves t e → e ≡ end
  end_same e at = both (below at.edge) (above (end_of_last-in start blocks))
    where
      both : e ≤ end → end ≤ e → e ≡ end
      both a b = omega arith

      below : IsEdge old g moves t e → e ≤ end
      below (inl is) = let a = ends.0 in omega arith
      below (inr (k, l, into, is)) = let high = (is_tile (piece_of_move (move_at moves k)) (lands k l into)).high_end in
          omega arith

      from_start : IsEdge old g moves t e → start ≤ e
      from_start (inl is) = omega arith
      from_start (inr (k, l, into, is)) = let low = into.low in omega arith

      last : end ≡ end_of_last start blocks
      last = c.end_is s known

      above : (end_of_last start blocks ≡ start)
          ⊎ ((p : Piece) × IsIn p blocks × (end_of_last start blocks ≡ piece_end p)) → end ≤ e
      above (inl is) = let a = last in let b = from_start at.edge in omega arith
      above (inr (p, i, is)) =
          let (k, l, same, into) = block_is p i in
          let a = last in
          let b = at.last k l into in
          let n : piece_end p ≡ landing_end (move_at moves k) = ap piece_end same in
          omega arith

  -- ---- free ranges

  into_fresh : (f : Piece) → IsIn f fresh → IsIn f all
  into_fresh f i = into_sorted_by (λ (p : Piece). p.place) f (blocks ++ fresh) (append_right blocks i)

  into_blocks : (b : Piece) → IsIn b blocks → IsIn b all
  into_blocks b i = into_sorted_by (λ (p : Piece). p.place) b (blocks ++ fresh) (append_left fresh i)

  cross : (b f : Piece) → IsIn b blocks → IsIn f fresh → b.place ≢ f.place
  cross = distinct_cross (λ (p : Piece). p.place) blocks fresh
      (distinct_of_sorted (λ (p : Piece). p.place) (blocks ++ fresh)
      (rising-distinct (λ (p : Piece). p.place) all (tiles-rise start end all tiled)))

  -- where a free range ends a plug lands
  pub record EndsBefore (f : Piece) : Type 0 where
    pub k : ℕ
    pub within : k < length moves
    pub into : IsInPart old g t (move_at moves k).to
    pub at : piece_end f ≡ (move_at moves k).to

  pub ends_before : (f : Piece) → IsIn f fresh → EndsBefore f
  ends_before f i =
      let (v, n, meets) = c.before s known f i in
      let (k, inside_k, at) = number_of moves v n in
      let same : v.to ≡ (move_at moves k).to = ap (λ (w : Move). w.to) at in
      let is = is_tile f (into_fresh f i) in
      let low = is.low_gap in
      let high = is.high_end in
      let size = is.size in
      let (a, z) = ends in
      let move = am.each k inside_k in
      let least_size = move.least in
      let up = move.into_high in
      let into_u = move.into_in in
      let ul = into_u.low in
      let ur = into_u.in_range in
      let (fu, ru, zu) = am.starts move.into ur into_u.takes in
      let (ft, rt, zt) = am.starts t inside part in
      let same_part : move.into ≡ t = elim (cases_order move.into t) [
        | inl e ↦ e
        | inr (inl less) ↦ let o = segment_order old move.into t heap less inside in absurd (omega arith)
        | inr (inr more) ↦ let o = segment_order old t move.into heap more ur in absurd (omega arith)
      ] in
      record {
        k = k;
        within = inside_k;
        into = subst (λ n. IsInPart old g n (move_at moves k).to) same_part into_u;
        at = omega arith;
      }

  -- it begins at an edge
  edge_of : (f : Piece) → IsIn f fresh → IsEdge old g moves t f.place
  edge_of f i = elim (tiles_before start end all tiled f (into_fresh f i)) [
    | inl e ↦ inl e
    | inr (q, j, e) ↦ behind q e (in_append blocks (out_of_sorted_by (λ (p : Piece). p.place) q (blocks ++ fresh) j))
  ]
    where
      behind : (q : Piece) → piece_end q ≡ f.place → IsIn q blocks ⊎ IsIn q fresh → IsEdge old g moves t f.place
      behind q e (inl n) =
          let (k, l, same, into) = block_is q n in
          let at : piece_end q ≡ landing_end (move_at moves k) = ap piece_end same in
          inr (k, l, into, omega arith)
      behind q e (inr n) =
          let b = ends_before q n in
          let at = b.at in
          absurd (cross (piece_of_move (move_at moves b.k)) f (landed b.k b.within b.into) i (omega arith))

  -- no plug stands in it
  bare_of : (f : Piece) → IsIn f fresh → IsBare moves f.place (piece_end f)
  bare_of f i j lj =
      let move = am.each j lj in
      let into_u = move.into_in in
      let ul = into_u.low in
      let ur = into_u.in_range in
      let up = move.into_high in
      let (fu, ru, zu) = am.starts move.into ur into_u.takes in
      let (ft, rt, zt) = am.starts t inside part in
      let is = is_tile f (into_fresh f i) in
      let low = is.low_gap in
      let high = is.high_end in
      let (a, z) = ends in
      elim (cases_order move.into t) [
        | inl e ↦ here (subst (λ n. IsInPart old g n (move_at moves j).to) e into_u)
        | inr (inl less) ↦ let o = segment_order old move.into t heap less inside in inl (omega arith)
        | inr (inr more) ↦ let o = segment_order old t move.into heap more ur in inr (omega arith)
      ]
    where
      v : Move
      v = move_at moves j

      here : IsInPart old g t v.to → (landing_end v ≤ f.place) ⊎ (piece_end f ≤ v.to)
      here into =
          let block = landed j lj into in
          elim (cases_order v.to f.place) [
            | inl e ↦ absurd (cross (piece_of_move v) f block i e)
            | inr (inl l) ↦ let gap =
                tiles-apart start end all (piece_of_move v) f tiled (into_blocks (piece_of_move v) block)
                (into_fresh f i) l in inl (omega arith)
            | inr (inr l) ↦ let gap =
                tiles-apart start end all f (piece_of_move v) tiled (into_fresh f i)
                (into_blocks (piece_of_move v) block) l in inr (omega arith)
          ]

  -- EACH FREE RANGE of the layout is free
  pub free_range : (new : HeapView) → HasSlid old new g moves → (f : Piece) → IsIn f (c.free (segment_at old t))
      → IsFreeRange (word_of new) f.place f.size
  free_range new slid f i =
      let b = ends_before f i in
      let at = b.at in
      let size = (is_tile f (into_fresh f i)).size in
      let free = slid.free b.k b.within t f.place b.into (edge_of f i) (omega arith)
      (subst (λ n. IsBare moves f.place n) at (bare_of f i)) in
      let len : (move_at moves b.k).to - f.place ≡ f.size = omega arith in
      subst (λ n. IsFreeRange (word_of new) f.place n) len free
