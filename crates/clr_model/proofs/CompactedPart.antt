-- A condemned part after a compaction: its objects and its new free items tile it.
use Rattle.std.proofs.Common.{◌≡◌, ◌≢◌, ℕ, ◌+◌, ◌<◌, ◌≤◌, ◌⊎◌, inl, inr, List, [], ◌∷◌, ◌++◌, map, refl, sym, ap, subst}
use Rattle.std.proofs.Common.{arith, Bool, true}
use Rattle.std.proofs.lemmas.Bool.{cases_order}
use Rattle.clr_types.specs.Rising.{IsIn, first}
use Rattle.clr_types.specs.Ranges.{Piece, piece_end, Tiles, by_place}
use Rattle.clr_types.specs.declared.segment.SegInfo.{SegInfo}
use Rattle.clr_types.specs.Segments.{Layout, stands_in, pieces_in}
use Rattle.clr_types.proofs.RisingLists.{in_cons}
use Rattle.clr_types.proofs.SortedLists.{into_sorted_by, out_of_sorted_by}
use Rattle.clr_types.proofs.ChangedLists.{IsIn-map, append_left, into_filter, out_of_filter, rising-distinct}
use Rattle.clr_types.proofs.ListMembers.{from-map, in_append, append_right, distinct_of_sorted, distinct_cross}
use Rattle.clr_types.proofs.Tilings.{tiles-rise}
use Rattle.clr_types.proofs.TilePieces.{tile, tiles-apart}
use Rattle.clr_types.proofs.PieceGaps.{IsGapped}
use Rattle.clr_types.proofs.Retiled.{refined, tiles-refined, out_of_refined, into_refined}
use Rattle.clr_model.specs.Machine.{Machine, Object}
use Rattle.clr_model.specs.Lawful.{IsLaid}
use Rattle.clr_model.specs.Sweep.{Survivor, survivors, part_start}
use Rattle.clr_model.specs.Compaction.{Move, moved_by, moved_pieces, IsCompacted, compacted_end, compacted_free}
use Rattle.clr_model.proofs.PlugsApart.{piece_of_move}
use Rattle.clr_model.proofs.CompactedSmall.{none_overlap, compaction_tiles}
use Rattle.clr_model.proofs.MovedPlaces.{ready, moves-apart}
use Rattle.clr_model.proofs.CompactedPieces.{filled_by, moved_piece, moved_with}

module _ (m : Machine) (h : IsLaid m) (g : ℕ) (least : g ≤ 2) (keeps : ℕ
    → Bool) (moves : List Move) (new : Layout) (c : IsCompacted m.layout g (survivors m g keeps) moves new)
    (s : SegInfo) (here : IsIn s c.segments) where
  abbrev kept : List Survivor
  kept = survivors m g keeps

  abbrev blocks : List Piece
  blocks = pieces_in s (moved_pieces moves)

  abbrev fresh : List Piece
  fresh = compacted_free m.layout g new.start0 c.plugs moves s

  abbrev tiling : List Piece
  tiling = by_place (blocks ++ fresh)

  abbrev start : ℕ
  start = part_start m.layout g s

  abbrev end : ℕ
  end = compacted_end new.start0 c.plugs moves s

  abbrev goes : Object → Piece
  goes = moved_piece m h g least keeps moves new c

  abbrev Covers : Move → ℕ → Type 0
  Covers v x = (v.start ≤ x) × (x < v.start + v.size)

  tiles : Tiles start end tiling
  tiles = compaction_tiles m.layout g kept moves new c (ready m h g least keeps moves new c) s here

  apart : (b f : Piece) → IsIn b blocks → IsIn f fresh → b.place ≢ f.place
  apart = distinct_cross (λ (p : Piece). p.place) blocks fresh
      (distinct_of_sorted (λ (p : Piece). p.place) (blocks ++ fresh)
      (rising-distinct (λ (p : Piece). p.place) tiling (tiles-rise start end tiling tiles)))

  -- a piece of the tiling is a move's range, or a new free item
  abbrev IsBlock : Piece → Type 0
  IsBlock b = IsIn b blocks × ((v : Move) × IsIn v moves × (b ≡ piece_of_move v))

  block : (b : Piece) → IsIn b blocks → IsBlock b
  block b i =
      let (e, j) = out_of_filter (λ (p : Piece). stands_in s p.place) b (moved_pieces moves) i in
      let (v, f, k) = from-map piece_of_move b moves
      (out_of_sorted_by (λ (p : Piece). p.place) b (map piece_of_move moves) j) in
      (i, (v, k, f))

  which : (b : Piece) → IsIn b tiling → IsBlock b ⊎ IsIn b fresh
  which b i = elim (in_append blocks (out_of_sorted_by (λ (p : Piece). p.place) b (blocks ++ fresh) i)) [
    | inl j
        ↦ inl (block b j)
    | inr j ↦ inr j
  ]

  part_by : (b : Piece) → IsBlock b ⊎ IsIn b fresh → List Piece
  part_by b (inl (j, (v, k, e))) = (filled_by m h g least keeps moves new c v k).pieces
  part_by b (inr j) = b ∷ []

  parts : (b : Piece) → IsIn b tiling → List Piece
  parts b i = part_by b (which b i)

  -- the objects in place of the moves' ranges, and the new free items
  pub refilling : List Piece
  refilling = refined tiling parts

  pub refilling_tiles : Tiles (part_start m.layout g s) (compacted_end new.start0 c.plugs moves s) refilling
  unfolding refilling part_by parts which
  refilling_tiles = tiles-refined start end tiling parts tiles (λ b i. by b i (which b i))
    where
      by : (b : Piece) → IsIn b tiling → (w : IsBlock b ⊎ IsIn b fresh) → Tiles b.place (piece_end b) (part_by b w)
      by b i (inl (j, (v, k, e))) = subst
          (λ (p : Piece). Tiles p.place (piece_end p) (filled_by m h g least keeps moves new c v k).pieces) (sym e)
          (filled_by m h g least keeps moves new c v k).tiled
      by b i (inr j) = (refl, (tile start end tiling b tiles i).size, refl)

  -- they are objects that stay, where these go, or new free items
  pub refilling-is : (x : Piece) → IsIn x refilling
      → ((o : Object) × IsIn o m.objects × (keeps o.name ≡ true) × (x ≡ moved_piece m h g least keeps moves new c o))
      ⊎ IsIn x (compacted_free m.layout g new.start0 c.plugs moves s)
  unfolding refilling part_by parts which
  refilling-is x i = let (b, j, k) = out_of_refined tiling parts x i in by b (which b j) k
    where
      by : (b : Piece) → (w : IsBlock b ⊎ IsIn b fresh) → IsIn x (part_by b w)
          → ((o : Object) × IsIn o m.objects × (keeps o.name ≡ true) × (x ≡ goes o)) ⊎ IsIn x fresh
      by b (inl (j, (v, k, e))) n = let (o, present, stays, cover, is) =
          (filled_by m h g least keeps moves new c v k).objects x n in inl (o, present, stays, is)
      by b (inr j) n = inr (elim (in_cons n) [ inl e ↦ subst (λ y. IsIn y fresh) (sym e) j | inr k ↦ absurd (none k) ])
        where
          none : IsIn x [] → ⊥
          none k = elim k [ ]

  move_in : (v : Move) → IsIn v moves → stands_in s v.to ≡ true → IsIn (piece_of_move v) blocks
  move_in v i e = into_filter (λ (p : Piece). stands_in s p.place) (moved_pieces moves) e
      (into_sorted_by (λ (p : Piece). p.place) (piece_of_move v) (map piece_of_move moves) (IsIn-map piece_of_move i))

  -- an object whose move lands in the segment is among them
  pub moved_into : (o : Object) → IsIn o m.objects → (v : Move) → IsIn v moves
      → (v.start ≤ o.place) × (o.place < v.start + v.size) → stands_in s v.to ≡ true
      → IsIn (moved_piece m h g least keeps moves new c o) refilling
  unfolding refilling part_by parts which
  moved_into o present v i cover stands = into_refined tiling parts b n (goes o) (by (which b n))
    where
      b : Piece
      b = piece_of_move v

      n : IsIn b tiling
      n = into_sorted_by (λ (p : Piece). p.place) b (blocks ++ fresh) (append_left fresh (move_in v i stands))

      same : (w : Move) → IsIn w moves → b ≡ piece_of_move w
          → (v ≡ w) ⊎ ((v.to + v.size ≤ w.to) ⊎ (w.to + w.size ≤ v.to)) → v ≡ w
      same w k e (inl q) = q
      same w k e (inr far) =
          let to : v.to ≡ w.to = ap (λ (p : Piece). p.place) e in
          let size : v.size ≡ w.size = ap (λ (p : Piece). p.size) e in
          let (low, high) = cover in
          elim far [ inl l ↦ absurd (omega arith) | inr l ↦ absurd (omega arith) ]

      by : (w : IsBlock b ⊎ IsIn b fresh) → IsIn (goes o) (part_by b w)
      by (inr j) = absurd (apart b b (move_in v i stands) j refl)
      by (inl (j, (w, k, e))) =
          let one : v ≡ w = same w k e (moves-apart moves v w
          (none_overlap m.layout g kept moves new c (ready m h g least keeps moves new c)) i k) in
          (filled_by m h g least keeps moves new c w k).all o present (subst (λ (u : Move). Covers u o.place) one cover)

  -- so is each new free item
  pub fresh_into : (f : Piece) → IsIn f (compacted_free m.layout g new.start0 c.plugs moves s) → IsIn f refilling
  unfolding refilling part_by parts which
  fresh_into f j = into_refined tiling parts f n f (by (which f n))
    where
      n : IsIn f tiling
      n = into_sorted_by (λ (p : Piece). p.place) f (blocks ++ fresh) (append_right blocks j)

      by : (w : IsBlock f ⊎ IsIn f fresh) → IsIn f (part_by f w)
      by (inl (k, is)) = absurd (apart f f k j refl)
      by (inr k) = first

  -- no moved object stands where a new free item does
  pub moved_apart : (o : Object) (v : Move) → IsIn v moves → (v.start ≤ o.place) × (o.place < v.start + v.size)
      → stands_in s v.to ≡ true → (f : Piece) → IsIn f (compacted_free m.layout g new.start0 c.plugs moves s)
      → moved_by moves o.place ≢ f.place
  moved_apart o v i cover stands f j e = go (cases_order (piece_of_move v).place f.place)
    where
      b : IsIn (piece_of_move v) blocks
      b = move_in v i stands

      in_tiling : (x : Piece) → IsIn x (blocks ++ fresh) → IsIn x tiling
      in_tiling x k = into_sorted_by (λ (p : Piece). p.place) x (blocks ++ fresh) k

      go : (v.to ≡ f.place) ⊎ ((v.to < f.place) ⊎ (f.place < v.to)) → ⊥
      go (inl same) = apart (piece_of_move v) f b j same
      go (inr (inl l)) =
          let far : IsGapped (piece_end (piece_of_move v)) f.place =
          tiles-apart start end tiling (piece_of_move v) f tiles (in_tiling (piece_of_move v) (append_left fresh b))
          (in_tiling f (append_right blocks j)) l in
          let at = moved_with m h g least keeps moves new c v i o.place cover in
          let (low, high) = cover in
          absurd (omega arith)
      go (inr (inr l)) =
          let at = moved_with m h g least keeps moves new c v i o.place cover in
          absurd (omega arith)
