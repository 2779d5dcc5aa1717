-- The pins that the walk has met and the pointer hasn't passed: what the next of them tells about all.
use Rattle.std.proofs.lemmas.List.{append-nil}
use Rattle.std.proofs.Common.{◌≡◌, ℕ, ◌<◌, ◌≤◌, ◌⊎◌, inl, inr, List, [], ◌∷◌, ◌++◌, map, filter, refl, sym, ap, subst}
use Rattle.std.proofs.Common.{◌∙◌, arith, Bool, true, false, nat_le, ◌&&◌, if◌then◌else◌}
use Rattle.std.proofs.lemmas.Bool.{and_parts, and_from, and_left, leb-true, le-leb, cases_lt}
use Rattle.std.proofs.lemmas.List.{map-append}
use Rattle.std.proofs.lemmas.List.Elements.{filter-append}
use Rattle.clr_types.specs.Rising.{IsIn, first, later, IsRisingBy}
use Rattle.clr_types.specs.Ranges.{Piece, piece_end}
use Rattle.clr_types.specs.declared.segment.SegInfo.{SegInfo}
use Rattle.clr_types.proofs.RisingLists.{all_at, in_cons}
use Rattle.clr_types.proofs.SortedLists.{rising_agree_by}
use Rattle.clr_types.proofs.ChangedLists.{all_members, append_left, into_filter, out_of_filter, IsIn-map, all-map}
use Rattle.clr_types.proofs.ListMembers.{from-map, filter-rises, filter-on, in_append, append_right}
use Rattle.clr_types.proofs.PieceGaps.{IsGapped}
use Rattle.clr_model.specs.Compaction.{Plug, plug_end, piece_of_plug}
use Rattle.clr_model.proofs.PlugRoom.{ArePlugs, one_plug}
use Rattle.clr_plan.specs.Pointing.{pins_from}

pub agree : (a b : Bool) → (a ≡ true → b ≡ true) → (b ≡ true → a ≡ true) → a ≡ b
agree true true f g = refl
agree true false f g = sym (f refl)
agree false true f g = g refl
agree false false f g = refl

-- ---- lists that rise, in two parts

pub before : (xs ys : List Plug) → IsRisingBy (λ (p : Plug). p.start) (xs ++ ys) → (p q : Plug) → IsIn p xs → IsIn q ys
    → p.start < q.start
before [] ys r p q i j = elim i [ ]
before (x ∷ xs) ys r p q first j = all_at (λ (w : Plug). x.start < w.start) (append_right xs j) r.0
before (x ∷ xs) ys r p q (later i) j = before xs ys r.1 p q i j

pub front_rises : (xs ys : List Plug) → IsRisingBy (λ (p : Plug). p.start) (xs ++ ys)
    → IsRisingBy (λ (p : Plug). p.start) xs
front_rises [] ys r = tt
front_rises (x ∷ xs) ys r = (
  all_members (λ (w : Plug). x.start < w.start) xs (λ w i. all_at (λ (w : Plug). x.start < w.start)
      (append_left ys i) r.0),
  front_rises xs ys r.1,
)

map-rises : (ps : List Plug) → IsRisingBy (λ (p : Plug). p.start) ps → IsRisingBy (λ (x : Piece). x.place)
    (map piece_of_plug ps)
map-rises [] r = tt
map-rises (p ∷ ps) r = (all-map piece_of_plug (λ (x : Piece). p.start < x.place) ps r.0, map-rises ps r.1)

-- ---- pins

abbrev waits : ℕ → Plug → Bool
waits place p = p.pinned && nat_le place p.start

pub into-pins : (place : ℕ) (done : List Plug) (p : Plug) → IsIn p done → p.pinned ≡ true → place ≤ p.start
    → IsIn (piece_of_plug p) (pins_from place done)
into-pins place done p i e l = IsIn-map piece_of_plug
    (into_filter (waits place) done (and_from p.pinned (nat_le place p.start) e (le-leb place p.start l)) i)

-- the plug of a pin
pub record IsPinOf (place : ℕ) (done : List Plug) (x : Piece) : Type 0 where
  pub plug : Plug
  pub known : IsIn plug done
  pub pinned : plug.pinned ≡ true
  pub above : place ≤ plug.start
  pub is : x ≡ piece_of_plug plug

pub out-of-pins : (place : ℕ) (done : List Plug) (x : Piece) → IsIn x (pins_from place done) → IsPinOf place done x
out-of-pins place done x i =
    let (p, e, j) = from-map piece_of_plug x (filter (waits place) done) i in
    let (t, k) = out_of_filter (waits place) p done j in
    let (a, b) = and_parts p.pinned (nat_le place p.start) t in
    record { plug = p; known = k; pinned = a; above = leb-true place p.start b; is = e }

pub pins-rise : (place : ℕ) (done : List Plug) → IsRisingBy (λ (p : Plug). p.start) done
    → IsRisingBy (λ (x : Piece). x.place) (pins_from place done)
pins-rise place done r = map-rises (filter (waits place) done) (filter-rises (waits place) (λ (p : Plug). p.start) done
    r)

-- the same pins wait at a higher place where none of them begins below it
pub pins-same : (low high : ℕ) (done : List Plug) → low ≤ high → ((p : Plug) → IsIn p done → p.pinned ≡ true
    → low ≤ p.start → high ≤ p.start) → pins_from low done ≡ pins_from high done
pins-same low high done l up = ap (map piece_of_plug) (filter-on (waits low) (waits high) done
    (λ p i. agree (waits low p) (waits high p) (forth p i) (back p)))
  where
    forth : (p : Plug) → IsIn p done → waits low p ≡ true → waits high p ≡ true
    forth p i t = let (a, b) = and_parts p.pinned (nat_le low p.start) t in and_from p.pinned (nat_le high p.start) a
        (le-leb high p.start (up p i a (leb-true low p.start b)))

    back : (p : Plug) → waits high p ≡ true → waits low p ≡ true
    back p t = let (a, b) = and_parts p.pinned (nat_le high p.start) t in and_from p.pinned (nat_le low p.start) a
        (le-leb low p.start (let c : high ≤ p.start = leb-true high p.start b in omega arith))

module _ (segments : List SegInfo) (done ahead : List Plug) (h : ArePlugs segments (done ++ ahead)) where
  done-rises : IsRisingBy (λ (p : Plug). p.start) done
  done-rises = front_rises done ahead h.rise

  -- a place outside which the first of the pins is the lowest pinned plug
  pub record IsNextPin (place : ℕ) (x : Piece) : Type 0 where
    pub plug : Plug
    pub known : IsIn plug done
    pub pinned : plug.pinned ≡ true
    pub above : place ≤ plug.start
    pub is : x ≡ piece_of_plug plug
    pub start : x.place ≡ plug.start
    pub ends : piece_end x ≡ plug_end plug
    pub size : 24 ≤ plug.size
    pub least : (p : Plug) → IsIn p (done ++ ahead) → p.pinned ≡ true → place ≤ p.start → (p ≡ plug)
        ⊎ (plug_end plug ≤ p.start)

  -- of two plugs one is the other or lies behind it
  two : (p q : Plug) → IsIn p (done ++ ahead) → IsIn q (done ++ ahead) → p.start < q.start → plug_end p ≤ q.start
  two p q i j l = let g : IsGapped (plug_end p) q.start = h.apart p q i j l in omega arith

  pub next-pin : (place : ℕ) (x : Piece) (rest : List Piece) → x ∷ rest ≡ pins_from place done → IsNextPin place x
  next-pin place x rest e =
      let is : IsPinOf place done x = out-of-pins place done x (subst (IsIn x) e first) in
      let start : x.place ≡ is.plug.start = ap (λ (y : Piece). y.place) is.is in
      record {
        plug = is.plug;
        known = is.known;
        pinned = is.pinned;
        above = is.above;
        is = is.is;
        start = start;
        ends = ap piece_end is.is;
        size = (h.each is.plug (append_left ahead is.known)).size;
        least = λ p i pinned above. least is p i (in_append done i) pinned above;
      }
    where
      rises : IsRisingBy (λ (y : Piece). y.place) (x ∷ rest)
      rises = subst (IsRisingBy (λ (y : Piece). y.place)) (sym e) (pins-rise place done done-rises)

      behind : (is : IsPinOf place done x) (p : Plug) → IsIn p done → (piece_of_plug p ≡ x)
          ⊎ IsIn (piece_of_plug p) rest → (p ≡ is.plug) ⊎ (plug_end is.plug ≤ p.start)
      behind is p i (inl same) =
          let at : p.start ≡ is.plug.start = ap (λ (y : Piece). y.place) (same ∙ is.is) in
          inl (one_plug segments (done ++ ahead) h p is.plug (append_left ahead i) (append_left ahead is.known) at)
      behind is p i (inr j) =
          let l : x.place < p.start = all_at (λ (y : Piece). x.place < y.place) j rises.0 in
          let start : x.place ≡ is.plug.start = ap (λ (y : Piece). y.place) is.is in
          inr (two is.plug p (append_left ahead is.known) (append_left ahead i) (omega arith))

      least : (is : IsPinOf place done x) (p : Plug) → IsIn p (done ++ ahead) → IsIn p done ⊎ IsIn p ahead → p.pinned
          ≡ true → place ≤ p.start → (p ≡ is.plug) ⊎ (plug_end is.plug ≤ p.start)
      least is p i (inl j) pinned above =
          behind is p j (in_cons (subst (IsIn (piece_of_plug p)) (sym e) (into-pins place done p j pinned above)))
      least is p i (inr j) pinned above =
          inr (two is.plug p (append_left ahead is.known) i (before done ahead h.rise is.plug p is.known j))

  -- past the end of the first pin the others wait
  pub pins-past : (place : ℕ) (x : Piece) (rest : List Piece) → x ∷ rest ≡ pins_from place done → rest
      ≡ pins_from (piece_end x) done
  pins-past place x rest e =
      rising_agree_by (λ (y : Piece). y.place) rest (pins_from (piece_end x) done) rises.1
      (pins-rise (piece_end x) done done-rises) (λ y. (forth y, back y))
    where
      rises : IsRisingBy (λ (y : Piece). y.place) (x ∷ rest)
      rises = subst (IsRisingBy (λ (y : Piece). y.place)) (sym e) (pins-rise place done done-rises)

      is : IsNextPin place x
      is = next-pin place x rest e

      forth : (y : Piece) → IsIn y rest → IsIn y (pins_from (piece_end x) done)
      forth y i =
          let p : IsPinOf place done y = out-of-pins place done y (subst (IsIn y) e (later i)) in
          let l : x.place < y.place = all_at (λ (z : Piece). x.place < z.place) i rises.0 in
          let at : y.place ≡ p.plug.start = ap (λ (z : Piece). z.place) p.is in
          let start : x.place ≡ is.plug.start = is.start in
          let ends : piece_end x ≡ plug_end is.plug = is.ends in
          let far : plug_end is.plug ≤ p.plug.start = two is.plug p.plug (append_left ahead is.known)
          (append_left ahead p.known) (omega arith) in
          subst (λ z. IsIn z (pins_from (piece_end x) done)) (sym p.is) (into-pins (piece_end x) done p.plug p.known
          p.pinned (omega arith))

      back : (y : Piece) → IsIn y (pins_from (piece_end x) done) → IsIn y rest
      back y i =
          let p : IsPinOf (piece_end x) done y = out-of-pins (piece_end x) done y i in
          let ends : piece_end x ≡ plug_end is.plug = is.ends in
          let above : place ≤ is.plug.start = is.above in
          let up : piece_end x ≤ p.plug.start = p.above in
          go y p.plug p.is up (in_cons (subst (IsIn (piece_of_plug p.plug)) (sym e)
          (into-pins place done p.plug p.known p.pinned (omega arith))))
        where
          go : (y : Piece) (p : Plug) → y ≡ piece_of_plug p → piece_end x ≤ p.start → (piece_of_plug p ≡ x)
              ⊎ IsIn (piece_of_plug p) rest → IsIn y rest
          go y p same up (inl at) =
              let e : p.start ≡ x.place = ap (λ (z : Piece). z.place) at in
              let size : 24 ≤ is.plug.size = is.size in
              let start : x.place ≡ is.plug.start = is.start in
              let ends : piece_end x ≡ plug_end is.plug = is.ends in
              absurd (omega arith)
          go y p same up (inr j) = subst (λ z. IsIn z rest) (sym same) j

  -- one pin more, that of the next plug
  pub pins-none : (place : ℕ) → pins_from place done ≡ [] → (p : Plug) → IsIn p done → p.pinned ≡ true → p.start < place
  pins-none place e p i pinned = go (cases_lt p.start place)
    where
      none : IsIn (piece_of_plug p) [] → p.start < place
      none j = elim j [ ]

      go : (p.start < place) ⊎ (place ≤ p.start) → p.start < place
      go (inl l) = l
      go (inr l) = none (subst (IsIn (piece_of_plug p)) e (into-pins place done p i pinned l))

-- the plugs behind one of them
pub behind : (xs : List Plug) (q : Plug) (ys : List Plug) → IsRisingBy (λ (p : Plug). p.start) (xs ++ q ∷ ys)
    → (p : Plug) → IsIn p ys → q.start < p.start
behind [] q ys r p i = all_at (λ (w : Plug). q.start < w.start) i r.0
behind (x ∷ xs) q ys r p i = behind xs q ys r.1 p i

-- the pins with one plug more
pub pins-more : (place : ℕ) (done : List Plug) (q : Plug) → q.pinned ≡ true → place ≤ q.start
    → pins_from place (done ++ q ∷ []) ≡ pins_from place done ++ piece_of_plug q ∷ []
pins-more place done q pinned l =
    ap (map piece_of_plug) (filter-append (waits place) done (q ∷ [])
    ∙ ap (λ b. filter (waits place) done ++ (if b then q ∷ [] else [])) (and_from q.pinned (nat_le place q.start)
    pinned (le-leb place q.start l)))
    ∙ map-append piece_of_plug (filter (waits place) done) (q ∷ [])

pub pins-fewer : (place : ℕ) (done : List Plug) (q : Plug) → q.pinned ≡ false → pins_from place (done ++ q ∷ [])
    ≡ pins_from place done
pins-fewer place done q unpinned =
    ap (map piece_of_plug) (filter-append (waits place) done (q ∷ [])
    ∙ ap (λ b. filter (waits place) done ++ (if b then q ∷ [] else [])) (and_left q.pinned (nat_le place q.start)
    unpinned) ∙ append-nil (filter (waits place) done))
