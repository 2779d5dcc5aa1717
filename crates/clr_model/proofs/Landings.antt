-- Plugs of a machine that land in parts of its segments: where their objects go.
use Rattle.std.proofs.Common.{◌≡◌, ℕ, ◌+◌, ◌-◌, ◌<◌, ◌≤◌, ◌⊎◌, inl, inr, List, map, sym, ap, subst, ◌∙◌}
use Rattle.std.proofs.Common.{arith, Bool, true}
use Rattle.std.proofs.lemmas.Bool.{cases_order}
use Rattle.clr_types.specs.Rising.{IsIn, IsRisingBy}
use Rattle.clr_types.specs.Ranges.{Piece, piece_end, IsLawfulSize, Tiles}
use Rattle.clr_types.specs.declared.segment.SegInfo.{SegInfo}
use Rattle.clr_types.specs.Segments.{first_place, reserved_end, stands_in, generation}
use Rattle.clr_types.proofs.SortedLists.{same_by_key}
use Rattle.clr_types.proofs.ChangedLists.{IsIn-map}
use Rattle.clr_types.proofs.ListMembers.{from-map, rising_same}
use Rattle.clr_types.proofs.TilePieces.{IsTile, tile}
use Rattle.clr_types.proofs.PieceGaps.{IsGapped}
use Rattle.clr_types.proofs.SegmentFacts.{between-stands}
use Rattle.clr_types.proofs.Retiled.{shifted, tiles-shifted, tiles-cover}
use Rattle.clr_model.specs.Machine.{Machine, Object}
use Rattle.clr_model.specs.Lookups.{object_piece, object_size, is_pinned}
use Rattle.clr_model.specs.Lawful.{IsLaid}
use Rattle.clr_model.specs.Sweep.{Survivor, survivor, survivor_piece}
use Rattle.clr_model.specs.Compaction.{Plug, plug_end, plugs_of, Move, moved_by}
use Rattle.clr_model.proofs.LawfulPieces.{pieces-apart, places-distinct, object-in-pieces}
use Rattle.clr_model.proofs.PlugsOf.{survivor_end}
use Rattle.clr_model.proofs.PlugsApart.{AreScattered, piece_of_move}
use Rattle.clr_model.proofs.MovedPlaces.{moved-is, plug-over, survivor-under}
use Rattle.clr_model.proofs.CompactedPieces.{IsMadeOf, made_of}

abbrev pub Covers : Move → ℕ → Type 0
Covers v x = (v.start ≤ x) × (x < v.start + v.size)

-- a survivor of which the plugs are made
pub record IsSurvivorOf (m : Machine) (keeps : ℕ → Bool) (k : Survivor) : Type 0 where
  pub object : Object
  pub present : IsIn object m.objects
  pub kept_on : keeps object.name ≡ true
  pub is : k ≡ survivor m object
  pub size : IsLawfulSize k.size

-- a move of this plug
pub record IsMoveOf (p : Plug) (v : Move) : Type 0 where
  pub start : v.start ≡ p.start
  pub size : v.size ≡ p.size
  pub pinned : p.pinned ≡ true → v.to ≡ p.start
  pub lower : v.to ≤ p.start

-- where a move lands: in a part of a segment
pub record LandsAmong (parts : List SegInfo) (start : SegInfo → ℕ) (v : Move) : Type 0 where
  pub segment : SegInfo
  pub among : IsIn segment parts
  pub low : first_place segment ≤ v.to
  pub from : start segment ≤ v.to
  pub high : v.to + v.size ≤ reserved_end segment

-- These moves take plugs of what stays.
pub record AreGoing (m : Machine) (keeps : ℕ → Bool) (survive : List Survivor) (plugs : List Plug)
    (moves : List Move) : Type 0 where
  pub plugs_in : (p : Plug) → IsIn p plugs → IsIn p (plugs_of survive)
  pub survivors_are : (k : Survivor) → IsIn k survive → IsSurvivorOf m keeps k
  pub apart : (p q : Plug) → IsIn p plugs → IsIn q plugs → p.start < q.start → IsGapped (plug_end p) q.start
  pub plug_of : (v : Move) → IsIn v moves → (p : Plug) × IsIn p plugs × IsMoveOf p v
  pub rise : IsRisingBy (λ (v : Move). v.start) moves

-- They take all plugs of what stays in parts of segments, each from its start on, to places in such parts.
pub record AreLandings (m : Machine) (keeps : ℕ → Bool) (parts : List SegInfo) (start : SegInfo → ℕ)
    (survive : List Survivor) (plugs : List Plug) (moves : List Move) : Type 0 where
  pub going : AreGoing m keeps survive plugs moves
  pub known : (s : SegInfo) → IsIn s parts → IsIn s m.layout.segments
  pub plugs_are : plugs ≡ plugs_of survive
  pub survives : (o : Object) → IsIn o m.objects → keeps o.name ≡ true → (s : SegInfo) → IsIn s parts
      → stands_in s o.place ≡ true → start s ≤ o.place → IsIn (survivor m o) survive
  pub move_of : (p : Plug) → IsIn p plugs → (v : Move) × IsIn v moves × IsMoveOf p v
  pub lands : (v : Move) → IsIn v moves → LandsAmong parts start v
  pub scattered : AreScattered (map piece_of_move moves)

module _ (m : Machine) (h : IsLaid m) (keeps : ℕ → Bool) (survive : List Survivor) (plugs : List Plug)
    (moves : List Move) (l : AreGoing m keeps survive plugs moves) where
  -- ---- which objects go

  -- an object that a move covers is a survivor of the move's plug
  pub record IsCoveredBy (o : Object) (v : Move) : Type 0 where
    pub plug : Plug
    pub among : IsIn plug plugs
    pub of : IsMoveOf plug v
    pub survives : IsIn (survivor m o) survive
    pub stays : keeps o.name ≡ true
    pub pinned : is_pinned m o.name ≡ plug.pinned
    pub age : generation m.layout o.place ≡ plug.generation

  pub covered_by : (o : Object) → IsIn o m.objects → (v : Move) → IsIn v moves → Covers v o.place → IsCoveredBy o v
  covered_by o i v j k =
      let (p, known, of) = l.plug_of v j in
      let s : v.start ≡ p.start = of.start in let z : v.size ≡ p.size = of.size in
      let (c, d) = k in
      let (w, n, a, b, pin, age) = survivor-under survive p (l.plugs_in p known) o.place (omega arith)
      (omega arith) in
      by p known of w n a b pin age (l.survivors_are w n)
    where
      by : (p : Plug) → IsIn p plugs → IsMoveOf p v → (w : Survivor) → IsIn w survive → w.place ≤ o.place
          → o.place < survivor_end w → w.pinned ≡ p.pinned
          → w.generation ≡ p.generation → IsSurvivorOf m keeps w → IsCoveredBy o v
      by p known of w n a b pin old is =
          record {
            plug = p;
            among = known;
            of = of;
            survives = subst (λ (u : Survivor). IsIn u survive) (is.is ∙ ap (survivor m) same) n;
            stays = subst (λ (u : Object). keeps u.name ≡ true) same is.kept_on;
            pinned = sym (ap (λ (u : Survivor). u.pinned) (is.is ∙ ap (survivor m) same)) ∙ pin;
            age = sym (ap (λ (u : Survivor). u.generation) (is.is ∙ ap (survivor m) same)) ∙ old;
          }
        where
          at : w.place ≡ is.object.place
          at = ap (λ (k : Survivor). k.place) is.is

          ends : survivor_end w ≡ piece_end (object_piece m.types is.object)
          ends = ap survivor_end is.is

          order : (is.object.place ≡ o.place) ⊎ ((is.object.place < o.place) ⊎ (o.place < is.object.place))
              → is.object.place ≡ o.place
          order (inl e) = e
          order (inr (inl u)) =
              let far : IsGapped (piece_end (object_piece m.types is.object)) o.place =
              pieces-apart m h (object_piece m.types is.object) (object_piece m.types o)
              (object-in-pieces m h is.object is.present) (object-in-pieces m h o i) u in
              let e = ends in absurd (omega arith)
          order (inr (inr u)) = let e = at in absurd (omega arith)

          same : is.object ≡ o
          same = same_by_key (λ (o : Object). o.place) m.objects is.object o (places-distinct m h) is.present i
              (order (cases_order is.object.place o.place))

  -- two moves that cover one place are one
  one_move : (v w : Move) → IsIn v moves → IsIn w moves → (x : ℕ) → Covers v x → Covers w x → v ≡ w
  one_move v w i j x a b =
      let (p, k, of) = l.plug_of v i in let (q, n, to) = l.plug_of w j in
      let sp : v.start ≡ p.start = of.start in let zp : v.size ≡ p.size = of.size in
      let sq : w.start ≡ q.start = to.start in let zq : w.size ≡ q.size = to.size in
      rising_same (λ (v : Move). v.start) moves v w l.rise i j
      (by p q k n sp sq zp zq a b (cases_order p.start q.start))
    where
      by : (p q : Plug) → IsIn p plugs → IsIn q plugs → v.start ≡ p.start → w.start ≡ q.start → v.size ≡ p.size
          → w.size ≡ q.size → Covers v x → Covers w x
          → (p.start ≡ q.start) ⊎ ((p.start < q.start) ⊎ (q.start < p.start)) → v.start ≡ w.start
      by p q k n sp sq zp zq (a0, a1) (b0, b1) (inl e) = omega arith
      by p q k n sp sq zp zq (a0, a1) (b0, b1) (inr (inl u)) =
          let far : IsGapped (plug_end p) q.start = l.apart p q k n u in absurd (omega arith)
      by p q k n sp sq zp zq (a0, a1) (b0, b1) (inr (inr u)) =
          let far : IsGapped (plug_end q) p.start = l.apart q p n k u in absurd (omega arith)

  -- what a move covers goes with it
  pub goes_with : (v : Move) → IsIn v moves → (x : ℕ) → Covers v x → moved_by moves x ≡ v.to + (x - v.start)
  goes_with v i x a = go (moved-is moves x)
    where
      go : ((w : Move) × IsIn w moves × Covers w x × (moved_by moves x ≡ w.to + (x - w.start)))
          ⊎ (((w : Move) → IsIn w moves → Covers w x → ⊥) × (moved_by moves x ≡ x))
          → moved_by moves x ≡ v.to + (x - v.start)
      go (inl (w, j, b, e)) = e ∙ ap (λ (u : Move). u.to + (x - u.start)) (one_move w v j i x b a)
      go (inr (none, e)) = absurd (none v i a)

  -- no place goes higher
  pub none_higher : (x : ℕ) → moved_by moves x ≤ x
  none_higher x = go (moved-is moves x)
    where
      go : ((v : Move) × IsIn v moves × Covers v x × (moved_by moves x ≡ v.to + (x - v.start)))
          ⊎ (((v : Move) → IsIn v moves → Covers v x → ⊥) × (moved_by moves x ≡ x))
          → moved_by moves x ≤ x
      go (inl (v, j, (p0, p1), f)) =
          let (p, k, of) = l.plug_of v j in let s : v.start ≡ p.start = of.start in
          let down : v.to ≤ p.start = of.lower in omega arith
      go (inr (none, f)) = omega arith

  -- a pinned object stays
  pub pinned_still : (o : Object) → IsIn o m.objects → is_pinned m o.name ≡ true → moved_by moves o.place ≡ o.place
  pinned_still o i pinned = go (moved-is moves o.place)
    where
      go : ((v : Move) × IsIn v moves × Covers v o.place × (moved_by moves o.place ≡ v.to + (o.place - v.start)))
          ⊎ (((v : Move) → IsIn v moves → Covers v o.place → ⊥) × (moved_by moves o.place ≡ o.place))
          → moved_by moves o.place ≡ o.place
      go (inl (v, x, (p0, p1), f)) =
          let k : IsCoveredBy o v = covered_by o i v x (p0, p1) in
          let s : v.start ≡ k.plug.start = k.of.start in
          let to : v.to ≡ k.plug.start = k.of.pinned (sym k.pinned ∙ pinned) in
          omega arith
      go (inr (none, f)) = f

  -- ---- an object's range where the object goes

  abbrev pub going_piece : Object → Piece
  going_piece o = record { place = moved_by moves o.place; size = object_size m.types o }

  -- a plug's objects, where its move takes them
  pub record IsFilledBy (v : Move) : Type 0 where
    pub pieces : List Piece
    pub tiled : Tiles v.to (v.to + v.size) pieces
    pub objects : (x : Piece) → IsIn x pieces
        → (o : Object) × IsIn o m.objects × (keeps o.name ≡ true) × Covers v o.place × (x ≡ going_piece o)
    pub all : (o : Object) → IsIn o m.objects → Covers v o.place → IsIn (going_piece o) pieces

  pub fills : (v : Move) → IsIn v moves → IsFilledBy v
  fills v i = let (p, k, of) = l.plug_of v i in
      make p of (made_of survive (λ k j. (l.survivors_are k j).size) p (l.plugs_in p k))
    where
      make : (p : Plug) → IsMoveOf p v → IsMadeOf survive p → IsFilledBy v
      make p of made = record {
        pieces = map (shifted p.start v.to) (map survivor_piece made.parts);
        tiled = tiles;
        objects = objects;
        all = all;
      }
        where
          begins : v.start ≡ p.start
          begins = of.start

          size : v.size ≡ p.size
          size = of.size

          tiles : Tiles v.to (v.to + v.size) (map (shifted p.start v.to) (map survivor_piece made.parts))
          tiles =
              let s = size in
              let low : v.to + (p.start - p.start) ≡ v.to = omega arith in
              let high : v.to + (plug_end p - p.start) ≡ v.to + v.size = omega arith in
              subst (λ n. Tiles n (v.to + v.size) (map (shifted p.start v.to) (map survivor_piece made.parts))) low
              (subst (λ n. Tiles (v.to + (p.start - p.start)) n
              (map (shifted p.start v.to) (map survivor_piece made.parts))) high
              (tiles-shifted p.start v.to p.start (plug_end p) (map survivor_piece made.parts)
              (omega arith) made.tiled))

          -- a survivor of the plug, as an object that the move covers
          from_part : (w : Survivor) → IsIn w made.parts
              → (o : Object) × IsIn o m.objects × (keeps o.name ≡ true) × Covers v o.place × (w ≡ survivor m o)
          from_part w n =
              let is : IsSurvivorOf m keeps w = l.survivors_are w (made.known w n) in
              let in_plug : IsTile p.start (plug_end p) (survivor_piece w) =
              tile p.start (plug_end p) (map survivor_piece made.parts) (survivor_piece w) made.tiled
              (IsIn-map survivor_piece n) in
              let at : w.place ≡ is.object.place = ap (λ (u : Survivor). u.place) is.is in
              let low : IsGapped p.start w.place = in_plug.low_gap in
              let high : w.place + w.size ≤ plug_end p = in_plug.high_end in
              let (big, whole) = is.size in
              let s = begins in let z = size in
              (is.object, is.present, is.kept_on, (omega arith, omega arith), is.is)

          moved_is : (w : Survivor) (o : Object) → w ≡ survivor m o → Covers v o.place
              → shifted p.start v.to (survivor_piece w) ≡ going_piece o
          moved_is w o e cover =
              ap (λ (u : Survivor). shifted p.start v.to (survivor_piece u)) e
              ∙ ap (λ n. record { place = n; size = object_size m.types o })
              (ap (λ n. v.to + (o.place - n)) (sym begins) ∙ sym (goes_with v i o.place cover))

          objects : (x : Piece) → IsIn x (map (shifted p.start v.to) (map survivor_piece made.parts))
              → (o : Object) × IsIn o m.objects × (keeps o.name ≡ true) × Covers v o.place × (x ≡ going_piece o)
          objects x j =
              let (y, e, n) = from-map (shifted p.start v.to) x (map survivor_piece made.parts) j in
              let (w, f, q) = from-map survivor_piece y made.parts n in
              let (o, present, stays, cover, is) = from_part w q in
              (o, present, stays, cover, e ∙ ap (shifted p.start v.to) f ∙ moved_is w o is cover)

          all : (o : Object) → IsIn o m.objects → Covers v o.place
              → IsIn (going_piece o) (map (shifted p.start v.to) (map survivor_piece made.parts))
          all o present cover =
              let s = begins in let z = size in let (low, high) = cover in
              let (y, n, under, over) = tiles-cover p.start (plug_end p)
              (map survivor_piece made.parts) made.tiled o.place (omega arith) (omega arith) in
              let (w, f, q) = from-map survivor_piece y made.parts n in
              let (b, known, stays, cover_b, is) = from_part w q in
              let same : b ≡ o = one y b known (f ∙ ap survivor_piece {y = survivor m b} is) under over
              (cases_order b.place o.place) in
              subst (λ x. IsIn x (map (shifted p.start v.to) (map survivor_piece made.parts)))
              (ap (shifted p.start v.to) f ∙ moved_is w o (is ∙ ap (survivor m) same) cover)
              (IsIn-map (shifted p.start v.to) n)
            where
              one : (y : Piece) (b : Object) → IsIn b m.objects → y ≡ object_piece m.types b → y.place ≤ o.place
                  → o.place < piece_end y → (b.place ≡ o.place) ⊎ ((b.place < o.place) ⊎ (o.place < b.place)) → b ≡ o
              one y b known is under over (inl e) =
                  same_by_key (λ (o : Object). o.place) m.objects b o (places-distinct m h) known present e
              one y b known is under over (inr (inl u)) =
                  let far : IsGapped (piece_end (object_piece m.types b)) o.place =
                  pieces-apart m h (object_piece m.types b) (object_piece m.types o) (object-in-pieces m h b known)
                  (object-in-pieces m h o present) u in
                  let ends : piece_end y ≡ piece_end (object_piece m.types b) = ap piece_end is in
                  absurd (omega arith)
              one y b known is under over (inr (inr u)) = let at : y.place ≡ b.place = ap (λ (p : Piece). p.place) is in
                  absurd (omega arith)

-- ---- in parts of segments

module _ (m : Machine) (h : IsLaid m) (keeps : ℕ → Bool) (parts : List SegInfo) (start : SegInfo → ℕ)
    (survive : List Survivor) (plugs : List Plug) (moves : List Move)
    (l : AreLandings m keeps parts start survive plugs moves) where
  -- a survivor is covered by a move
  pub is_covered : (o : Object) → IsIn (survivor m o) survive → ((v : Move) → IsIn v moves → Covers v o.place → ⊥) → ⊥
  is_covered o i none =
      let (p, j, a, b) = plug-over survive (survivor m o) i in
      let known : IsIn p plugs = subst (IsIn p) (sym l.plugs_are) j in
      let (v, k, of) = l.move_of p known in
      let s : v.start ≡ p.start = of.start in let z : v.size ≡ p.size = of.size in
      let (t, t') = (l.going.survivors_are (survivor m o) i).size in
      none v k (omega arith, omega arith)

  -- where a move lands, all that it covers does
  pub lands_where : (v : Move) → IsIn v moves → (x : ℕ) → Covers v x
      → (s : SegInfo) × IsIn s parts × (stands_in s v.to ≡ true) × (stands_in s (moved_by moves x) ≡ true)
      × (start s ≤ moved_by moves x)
  lands_where v i x cover =
      let to = l.lands v i in
      let at = goes_with m h keeps survive plugs moves l.going v i x cover in
      let (under, over) = cover in
      let low = to.low in let from = to.from in let high = to.high in (
        to.segment,
        to.among,
        between-stands to.segment v.to low (omega arith),
        between-stands to.segment (moved_by moves x) (omega arith) (omega arith),
        omega arith,
      )
