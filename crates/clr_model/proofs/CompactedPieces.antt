-- The pieces that a compaction leaves in a condemned part: moved objects and new free items, end to end.
use Rattle.std.proofs.Common.{◌≡◌, ℕ, ◌+◌, ◌-◌, ◌<◌, ◌≤◌, ◌⊎◌, inl, inr, List, [], ◌∷◌, map, refl, sym, ap, subst, ◌∙◌}
use Rattle.std.proofs.Common.{arith, Bool, true}
use Rattle.std.proofs.lemmas.Bool.{cases_order}
use Rattle.std.specs.List.{AllByRecursion}
use Rattle.clr_types.specs.Rising.{IsIn, IsRisingBy}
use Rattle.clr_types.specs.Ranges.{Piece, piece_end, IsLawfulSize, Tiles}
use Rattle.clr_types.specs.Segments.{Layout, is_small_or_ephemeral}
use Rattle.clr_types.proofs.RisingLists.{in_cons, all_at}
use Rattle.clr_types.proofs.SortedLists.{same_by_key}
use Rattle.clr_types.proofs.ChangedLists.{all_members, IsIn-map}
use Rattle.clr_types.proofs.ListMembers.{from-map, rising_same}
use Rattle.clr_types.proofs.TilePieces.{IsTile, tile}
use Rattle.clr_types.proofs.PieceGaps.{IsGapped}
use Rattle.clr_types.proofs.Retiled.{shifted, tiles-shifted, tiles-cover}
use Rattle.clr_model.specs.Machine.{Machine, Object}
use Rattle.clr_model.specs.Lookups.{object_piece, object_size}
use Rattle.clr_model.specs.Lawful.{IsLaid}
use Rattle.clr_model.specs.Sweep.{Survivor, survivor, survivors, survivor_piece}
use Rattle.clr_model.specs.Compaction.{Plug, plug_end, plugs_of, plug_of, Move, moved_by, survivors_in, IsCompacted}
use Rattle.clr_model.proofs.LawfulPieces.{pieces-apart, places-distinct, object-in-pieces}
use Rattle.clr_model.proofs.PlugsOf.{survivor_end, longer, AreJoined, plugs-all}
use Rattle.clr_model.proofs.PlugWalk.{Each, IsLanded, each_from}
use Rattle.clr_model.proofs.LawfulSurvivors.{IsSurvivor, survivor-is}
use Rattle.clr_model.proofs.CondemnedPlugs.{line-rises}
use Rattle.clr_model.proofs.CompactedSmall.{whole_line, walked_whole, source}
use Rattle.clr_model.proofs.MovedPlaces.{ready, landing, moved-is}

-- moves that begin where rising plugs do rise
pub each-rises : (ps : List Plug) (vs : List Move) → Each (λ p v. v.start ≡ p.start) ps vs
    → IsRisingBy (λ (p : Plug). p.start) ps → IsRisingBy (λ (v : Move). v.start) vs
each-rises [] [] e r = tt
each-rises [] (v ∷ vs) e r = absurd e
each-rises (p ∷ ps) [] e r = absurd e
each-rises (p ∷ ps) (v ∷ vs) e r = (above ps vs e.1 r.0, each-rises ps vs e.1 r.1)
  where
    above : (qs : List Plug) (ws : List Move) → Each (λ q w. w.start ≡ q.start) qs ws
        → AllByRecursion (λ (q : Plug). p.start < q.start) qs → AllByRecursion (λ (w : Move). v.start < w.start) ws
    above [] [] f l = tt
    above [] (w ∷ ws) f l = absurd f
    above (q ∷ qs) [] f l = absurd f
    above (q ∷ qs) (w ∷ ws) f l = let at : v.start ≡ p.start = e.0 in let to : w.start ≡ q.start = f.0 in
        let k : p.start < q.start = l.0 in (omega arith, above qs ws f.1 l.1)

-- the survivors of which a plug is made, end to end
pub record IsMadeOf (ks : List Survivor) (p : Plug) : Type 0 where
  pub parts : List Survivor
  pub known : (k : Survivor) → IsIn k parts → IsIn k ks
  pub tiled : Tiles p.start (plug_end p) (map survivor_piece parts)

pub made_of : (ks : List Survivor) → ((k : Survivor) → IsIn k ks → IsLawfulSize k.size) → (p : Plug)
    → IsIn p (plugs_of ks) → IsMadeOf ks p
made_of ks sizes p i = all_at (IsMadeOf ks) i
    (plugs-all (λ k. IsIn k ks) (IsMadeOf ks) alone more ks (all_members (λ k. IsIn k ks) ks (λ k j. j)))
  where
    alone : (k : Survivor) → IsIn k ks → IsMadeOf ks (plug_of k)
    alone k j = record { parts = k ∷ []; known = λ l n. only l (in_cons n); tiled = (refl, sizes k j, refl) }
      where
        only : (l : Survivor) → (l ≡ k) ⊎ IsIn l [] → IsIn l ks
        only l (inl e) = subst (λ w. IsIn w ks) (sym e) j
        only l (inr n) = elim n [ ]

    more : (k : Survivor) (p : Plug) → IsIn k ks → IsMadeOf ks p → AreJoined k p → IsMadeOf ks (longer k p)
    more k p j is joined =
        let touch : survivor_end k ≡ p.start = joined.touch in
        let end : plug_end p ≡ plug_end (longer k p) = omega arith in
        record {
          parts = k ∷ is.parts;
          known = λ l n. elim (in_cons n) [ inl e ↦ subst (λ w. IsIn w ks) (sym e) j | inr i ↦ is.known l i ];
          tiled = (
            refl,
            sizes k j,
            subst (λ n. Tiles n (plug_end (longer k p)) (map survivor_piece is.parts))
                (sym touch) (subst (λ n. Tiles p.start n (map survivor_piece is.parts)) end is.tiled),
          );
        }

module _ (m : Machine) (h : IsLaid m) (g : ℕ) (least : g ≤ 2) (keeps : ℕ
    → Bool) (moves : List Move) (new : Layout) (c : IsCompacted m.layout g (survivors m g keeps) moves new) where
  abbrev kept : List Survivor
  kept = survivors m g keeps

  abbrev small : List Survivor
  small = survivors_in is_small_or_ephemeral m.layout kept

  abbrev Covers : Move → ℕ → Type 0
  Covers v x = (v.start ≤ x) × (x < v.start + v.size)

  pub moves-rise : IsRisingBy (λ (v : Move). v.start) moves
  moves-rise =
      each-rises (whole_line m.layout g kept moves new c (ready m h g least keeps moves new c)) moves
      (each_from (IsLanded c.segments c.plugs
      (source m.layout g kept moves new c (ready m h g least keeps moves new c))) (λ p v. v.start ≡ p.start)
      (λ p v l. l.start) (whole_line m.layout g kept moves new c (ready m h g least keeps moves new c)) moves
      (walked_whole m.layout g kept moves new c (ready m h g least keeps moves new c)).landed)
      (line-rises m.layout g c.segments c.plugs (ready m h g least keeps moves new c))

  -- two moves that cover one place are one
  one_move : (v w : Move) → IsIn v moves → IsIn w moves → (x : ℕ) → Covers v x → Covers w x → v ≡ w
  one_move v w i j x a b =
      let (p, k, l) = landing m h g least keeps moves new c v i in
      let (q, n, o) = landing m h g least keeps moves new c w j in
      let sp : v.start ≡ p.start = l.start in let zp : v.size ≡ p.size = l.size in
      let sq : w.start ≡ q.start = o.start in let zq : w.size ≡ q.size = o.size in
      rising_same (λ (v : Move). v.start) moves v w moves-rise i j
      (by p q k n sp sq zp zq (cases_order p.start q.start))
    where
      by : (p q : Plug) → IsIn p c.plugs → IsIn q c.plugs → v.start ≡ p.start → w.start ≡ q.start → v.size ≡ p.size
          → w.size ≡ q.size → (p.start ≡ q.start) ⊎ ((p.start < q.start) ⊎ (q.start < p.start)) → v.start ≡ w.start
      by p q k n sp sq zp zq (inl e) = omega arith
      by p q k n sp sq zp zq (inr (inl l)) = let (a0, a1) = a in let (b0, b1) = b in
          let far : IsGapped (plug_end p) q.start = (ready m h g least keeps moves new c).plugs.apart p q k n l in
          absurd (omega arith)
      by p q k n sp sq zp zq (inr (inr l)) = let (a0, a1) = a in let (b0, b1) = b in
          let far : IsGapped (plug_end q) p.start = (ready m h g least keeps moves new c).plugs.apart q p n k l in
          absurd (omega arith)

  -- what a move covers goes with it
  pub moved_with : (v : Move) → IsIn v moves → (x : ℕ) → Covers v x → moved_by moves x ≡ v.to + (x - v.start)
  moved_with v i x a = go (moved-is moves x)
    where
      go : ((w : Move) × IsIn w moves × Covers w x × (moved_by moves x ≡ w.to + (x - w.start)))
          ⊎ (((w : Move) → IsIn w moves → Covers w x → ⊥) × (moved_by moves x ≡ x))
          → moved_by moves x ≡ v.to + (x - v.start)
      go (inl (w, j, b, e)) = e ∙ ap (λ (u : Move). u.to + (x - u.start)) (one_move w v j i x b a)
      go (inr (none, e)) = absurd (none v i a)

  -- an object's range where the object goes
  abbrev pub moved_piece : Object → Piece
  moved_piece o = record { place = moved_by moves o.place; size = object_size m.types o }

  -- a plug's objects, where its move takes them
  pub record IsFilledBy (v : Move) : Type 0 where
    pub pieces : List Piece
    pub tiled : Tiles v.to (v.to + v.size) pieces
    pub objects : (x : Piece) → IsIn x pieces
        → (o : Object) × IsIn o m.objects × (keeps o.name ≡ true) × Covers v o.place × (x ≡ moved_piece o)
    pub all : (o : Object) → IsIn o m.objects → Covers v o.place → IsIn (moved_piece o) pieces

  pub filled_by : (v : Move) → IsIn v moves → IsFilledBy v
  filled_by v i = let (p, k, l) = landing m h g least keeps moves new c v i in
      make p k l (made_of small sizes p (subst (IsIn p) c.plugs_are k))
    where
      sizes : (k : Survivor) → IsIn k small → IsLawfulSize k.size
      sizes k j = let is : IsSurvivor m h g least keeps k = survivor-is m h g least keeps k j in (is.size, is.aligned.1)

      make : (p : Plug) → IsIn p c.plugs
          → IsLanded c.segments c.plugs (source m.layout g kept moves new c (ready m h g least keeps moves new c)) p v
          → IsMadeOf small p → IsFilledBy v
      make p k l made = record {
        pieces = map (shifted p.start v.to) (map survivor_piece made.parts);
        tiled = tiles;
        objects = objects;
        all = all;
      }
        where
          start : v.start ≡ p.start
          start = l.start

          size : v.size ≡ p.size
          size = l.size

          tiles : Tiles v.to (v.to + v.size) (map (shifted p.start v.to) (map survivor_piece made.parts))
          tiles =
              let s = size in
              let low : v.to + (p.start - p.start) ≡ v.to = omega arith in
              let high : v.to + (plug_end p - p.start) ≡ v.to + v.size = omega arith in
              subst (λ n. Tiles n (v.to + v.size) (map (shifted p.start v.to) (map survivor_piece made.parts))) low
              (subst (λ n. Tiles (v.to + (p.start - p.start)) n
              (map (shifted p.start v.to) (map survivor_piece made.parts))) high
              (tiles-shifted p.start v.to p.start (plug_end p) (map survivor_piece made.parts)
              (omega arith) made.tiled))

          -- a survivor of the plug, as an object that the move covers
          from_part : (w : Survivor) → IsIn w made.parts
              → (o : Object) × IsIn o m.objects × (keeps o.name ≡ true) × Covers v o.place × (w ≡ survivor m o)
          from_part w n =
              let is : IsSurvivor m h g least keeps w = survivor-is m h g least keeps w (made.known w n) in
              let in_plug : IsTile p.start (plug_end p) (survivor_piece w) =
              tile p.start (plug_end p) (map survivor_piece made.parts) (survivor_piece w) made.tiled
              (IsIn-map survivor_piece n) in
              let at : w.place ≡ is.object.place = ap (λ (u : Survivor). u.place) is.is in
              let low : IsGapped p.start w.place = in_plug.low_gap in
              let high : w.place + w.size ≤ plug_end p = in_plug.high_end in
              let big : 24 ≤ w.size = is.size in
              let s = start in let z = size in
              (is.object, is.present, is.kept_on, (omega arith, omega arith), is.is)

          moved_is : (w : Survivor) (o : Object) → w ≡ survivor m o → Covers v o.place
              → shifted p.start v.to (survivor_piece w) ≡ moved_piece o
          moved_is w o e cover =
              ap (λ (u : Survivor). shifted p.start v.to (survivor_piece u)) e
              ∙ ap (λ n. record { place = n; size = object_size m.types o })
              (ap (λ n. v.to + (o.place - n)) (sym start) ∙ sym (moved_with v i o.place cover))

          objects : (x : Piece) → IsIn x (map (shifted p.start v.to) (map survivor_piece made.parts))
              → (o : Object) × IsIn o m.objects × (keeps o.name ≡ true) × Covers v o.place × (x ≡ moved_piece o)
          objects x j =
              let (y, e, n) = from-map (shifted p.start v.to) x (map survivor_piece made.parts) j in
              let (w, f, q) = from-map survivor_piece y made.parts n in
              let (o, present, stays, cover, is) = from_part w q in
              (o, present, stays, cover, e ∙ ap (shifted p.start v.to) f ∙ moved_is w o is cover)

          all : (o : Object) → IsIn o m.objects → Covers v o.place
              → IsIn (moved_piece o) (map (shifted p.start v.to) (map survivor_piece made.parts))
          all o present cover =
              let s = start in let z = size in let (low, high) = cover in
              let (y, n, under, over) = tiles-cover p.start (plug_end p)
              (map survivor_piece made.parts) made.tiled o.place (omega arith) (omega arith) in
              let (w, f, q) = from-map survivor_piece y made.parts n in
              let (b, known, stays, cover_b, is) = from_part w q in
              let same : b ≡ o = one y b known (f ∙ ap survivor_piece {y = survivor m b} is) under over
              (cases_order b.place o.place) in
              subst (λ x. IsIn x (map (shifted p.start v.to) (map survivor_piece made.parts)))
              (ap (shifted p.start v.to) f ∙ moved_is w o (is ∙ ap (survivor m) same) cover)
              (IsIn-map (shifted p.start v.to) n)
            where
              one : (y : Piece) (b : Object) → IsIn b m.objects → y ≡ object_piece m.types b → y.place ≤ o.place
                  → o.place < piece_end y → (b.place ≡ o.place) ⊎ ((b.place < o.place) ⊎ (o.place < b.place)) → b ≡ o
              one y b known is under over (inl e) =
                  same_by_key (λ (o : Object). o.place) m.objects b o (places-distinct m h) known present e
              one y b known is under over (inr (inl l)) =
                  let far : IsGapped (piece_end (object_piece m.types b)) o.place =
                  pieces-apart m h (object_piece m.types b) (object_piece m.types o) (object-in-pieces m h b known)
                  (object-in-pieces m h o present) l in
                  let ends : piece_end y ≡ piece_end (object_piece m.types b) = ap piece_end is in
                  absurd (omega arith)
              one y b known is under over (inr (inr l)) = let at : y.place ≡ b.place = ap (λ (p : Piece). p.place) is in
                  absurd (omega arith)
