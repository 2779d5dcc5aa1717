-- The fronts of all segments, one after the other.
use Rattle.std.proofs.Common.{◌≡◌, inl, inr, ℕ, zero, suc, ◌+◌, ◌<◌, ◌≤◌, Bool, true, false, List, [], ◌∷◌, length}
use Rattle.std.proofs.Common.{get_or, set, MatchBool, refl, ap, sym, ◌∙◌, subst, arith}
use Rattle.std.proofs.lemmas.Bool.{cases_Bool, cases_eq}
use Rattle.std.proofs.lemmas.List.{get_or-set_other, get_or-set_same}
use Rattle.clr_types.specs.Rising.{IsIn}
use Rattle.clr_types.specs.Types.{TypeRow}
use Rattle.clr_types.specs.declared.item.Item.{Item}
use Rattle.clr_heap.specs.Parts.{item_at}
use Rattle.clr_heap.specs.View.{heap_items, HeapView, IsHeap, listing, segment_at, word_of}
use Rattle.clr_view.specs.Marks.{has_mark, IsUnmarked}
use Rattle.clr_view.specs.SlotValues.{StandsAt}
use Rattle.clr_view.specs.View.{AreFreeHeads, IsHeld, is_object}
use Rattle.clr_view.proofs.ObjectItems.{stands-item}
use Rattle.clr_view.proofs.Standing.{listed_from, standing, stands_from}
use Rattle.clr_sweep.specs.Fronts.{front_at, IsFront}
use Rattle.clr_sweep.specs.SweptItems.{items_below}
use Rattle.clr_sweep.specs.declared.behind.Front.{Front}
use Rattle.clr_sweep.proofs.FrontFacts.{below_listing}
use Rattle.clr_bgmark.specs.Bits.{has_bit}
use Rattle.clr_bgmark.specs.Scanning.{AreObjects}
use Rattle.clr_bgmark.specs.Settling.{AreFurthest, ArePut, HasObject, IsFoundFront, IsFurthestFront, IsTakenIn}
use Rattle.clr_bgmark.specs.Settling.{IsTiledIn}
use Rattle.clr_bgmark.specs.Shades.{AreApart, cell_of, IsAt, is_taken, PartView, ShadeView}
use Rattle.clr_bgmark.specs.Tiles.{AreFronts, AreParts, HasFoundMarks, HaveEdges, HaveSameBases, IsEdge, IsEdgeBy}
use Rattle.clr_bgmark.specs.Tiles.{IsPart}
use Rattle.clr_bgmark.proofs.EachFound.{segment_found}
use Rattle.clr_bgmark.proofs.FrontsMarked.{at_segment}
use Rattle.clr_bgmark.proofs.GrayPlaces.{covers_told}
use Rattle.clr_bgmark.proofs.Lookups.{at_told}

-- ---- lists

-- what is read within a list, whatever stands behind its end
pub same_get : {X : Type 0} (xs : List X) (k : ℕ) (d e : X) → k < length xs → get_or xs k d ≡ get_or xs k e
same_get [] k d e l = absurd (omega arith)
same_get (x ∷ xs) zero d e l = refl
same_get (x ∷ xs) (suc k) d e l = same_get xs k d e (omega arith)

pub parts_count : (ss : List ShadeView) (ps : List PartView) → AreParts ss ps → length ps ≡ length ss
parts_count [] [] all = refl
parts_count [] (p ∷ ps) all = absurd all
parts_count (s ∷ ss) [] all = absurd all
parts_count (s ∷ ss) (p ∷ ps) all = let more = parts_count ss ps all.1 in omega (arith, more)

pub part_at : (ss : List ShadeView) (ps : List PartView) (k : ℕ) (s : ShadeView) (p : PartView) → AreParts ss ps
    → k < length ss → IsPart (get_or ss k s) (get_or ps k p)
part_at [] ps k s p all l = absurd (omega arith)
part_at (t ∷ ss) [] k s p all l = absurd all
part_at (t ∷ ss) (q ∷ ps) zero s p all l = all.0
part_at (t ∷ ss) (q ∷ ps) (suc k) s p all l = part_at ss ps k s p all.1 (omega arith)

pub part_size : (ss : List ShadeView) (ps : List PartView) → AreParts ss ps → (k : ℕ) (s : ShadeView) → k < length ss
    → 4096 ≤ (get_or ss k s).size
part_size ss ps all k s within =
    let part = part_at ss ps k s (record { gaps = []; stop = 0 }) all within in
    let low = part.low in
    let high = part.high in
    omega (arith, low, high)

-- the edge is one of the segment that has the address
edge_at : (ss : List ShadeView) (ps : List PartView) (k x y : ℕ) (s : ShadeView) (p : PartView) → AreParts ss ps
    → IsAt ss k x → IsEdgeBy ss ps x y → IsEdge (get_or ss k s) (get_or ps k p) y
edge_at [] ps k x y s p all at e = absurd at
edge_at (t ∷ ss) [] k x y s p all at e = absurd all
edge_at (t ∷ ss) (q ∷ ps) zero x y s p all at e =
    subst (λ (b : Bool). MatchBool b (IsEdge t q y) (IsEdgeBy ss ps x y)) at e
edge_at (t ∷ ss) (q ∷ ps) (suc k) x y s p all at e =
    edge_at ss ps k x y s p all.1 at.1
    (subst (λ (b : Bool). MatchBool b (IsEdge t q y) (IsEdgeBy ss ps x y)) at.0 e)

-- ---- one segment

module _ (rows : List TypeRow) (h : HeapView) (heap : IsHeap h) (held : IsHeld rows h) (ss : List ShadeView)
    (ps : List PartView) (apart : AreApart ss) (parts : AreParts ss ps) (bases : HaveSameBases h ss) where
  module _ (objects : AreObjects rows h ss) (edges : HaveEdges rows h ss ps) (k : ℕ) (s : ShadeView) (p : PartView)
      (within : k < length ss) (read : s ≡ get_or ss k s) (read_part : p ≡ get_or ps k p) where
    taken_at : (x : ℕ) → IsTakenIn s x → is_taken ss x ≡ true
    taken_at x t =
        let at : IsAt ss k x = covers_told ss k x s read apart within t.inside in
        at_told (λ s a. has_bit s.taken (cell_of s a)) ss k x s at
        ∙ ap (λ (u : ShadeView). has_bit u.taken (cell_of u x)) (sym read) ∙ t.taken

    stands_in_segment : (x : ℕ) → IsTakenIn s x → HasObject (listing rows h k) x
    stands_in_segment x t =
        let stands : StandsAt rows h x = objects.taken x t.aligned (taken_at x t) in
        let here = stands-item rows h heap held x stands in
        let home = standing rows h heap held (item_at rows (word_of h) x) here.listed in
        let place = here.at in
        let low = home.above in
        let high = home.below in
        let least = home.least in
        let most = home.reserved in
        let at : IsAt ss k x = covers_told ss k x s read apart within t.inside in
        let same = at_segment h ss heap apart bases (part_size ss ps parts) k home.segment x at home.in_range
        (omega (arith, place, low)) (omega (arith, place, high, least, most)) in
        record {
          item = item_at rows (word_of h) x;
          listed = subst (λ (j : ℕ). IsIn (item_at rows (word_of h) x) (listing rows h j)) (sym same) home.listed;
          at = here.at;
          object = here.object;
        }

    pub tiled_at : IsTiledIn rows h k s p
    tiled_at = record {
      stands = stands_in_segment;
      edge = λ x t.
          let y : ℕ = x + (item_at rows (word_of h) x).size in
          let at : IsAt ss k x = covers_told ss k x s read apart within t.inside in
          let e : IsEdge (get_or ss k s) (get_or ps k p) y =
          edge_at ss ps k x y s p parts at (edges x t.aligned (taken_at x t)) in
          subst (λ (q : PartView). IsEdge s q y) (sym read_part)
          (subst (λ (u : ShadeView). IsEdge u (get_or ps k p) y) (sym read) e);
    }

    pub part_read : IsPart s p
    part_read =
        subst (λ (q : PartView). IsPart s q) (sym read_part)
        (subst (λ (u : ShadeView). IsPart u (get_or ps k p)) (sym read) (part_at ss ps k s p parts within))

  pub base_read : (k : ℕ) (s : ShadeView) → k < length ss → s ≡ get_or ss k s → s.base ≡ (segment_at h k).base
  base_read k s within read = ap (λ (t : ShadeView). t.base) read ∙ bases.1 k s within

-- ---- one front more

pub put_more : (rows : List TypeRow) (h : HeapView) (ss : List ShadeView) (fronts : List Front) (k : ℕ) (s : ShadeView)
    (f : Front) → k < length ss → k < length fronts → s ≡ get_or ss k s → ArePut rows h ss fronts k
    → IsFoundFront rows h s k f → ArePut rows h ss (set fronts k f) (k + 1)
put_more rows h ss fronts k s f within room read before new j t l = elim (cases_eq j k) [
  | inl e ↦
      let shade : s ≡ get_or ss k t = read ∙ same_get ss k s t within in
      let front : f ≡ front_at (set fronts k f) k =
      sym (get_or-set_same fronts k f (record { place = 0; count = 0 }) room) in
      subst (λ (n : ℕ). IsFoundFront rows h (get_or ss n t) n (front_at (set fronts k f) n)) (sym e)
      (subst (λ (u : ShadeView). IsFoundFront rows h u k (front_at (set fronts k f) k)) shade
      (subst (λ (g : Front). IsFoundFront rows h s k g) front new))
  | inr ne ↦
      let front : front_at fronts j ≡ front_at (set fronts k f) j =
      sym (get_or-set_other fronts k j f (record { place = 0; count = 0 }) ne) in
      subst (λ (g : Front). IsFoundFront rows h (get_or ss j t) j g) front (before j t (omega (arith, l, ne)))
]

pub put_further : (rows : List TypeRow) (h : HeapView) (ss : List ShadeView) (ps : List PartView) (fronts : List Front)
    (k : ℕ) (s : ShadeView) (p : PartView) (f : Front) → k < length ss → k < length ps → k < length fronts
    → s ≡ get_or ss k s → p ≡ get_or ps k p → AreFurthest rows h ss ps fronts k → IsFurthestFront rows h k s p f
    → AreFurthest rows h ss ps (set fronts k f) (k + 1)
put_further rows h ss ps fronts k s p f within inside room read read_part before new j t q l = elim (cases_eq j k) [
  | inl e ↦
      let shade : s ≡ get_or ss k t = read ∙ same_get ss k s t within in
      let part : p ≡ get_or ps k q = read_part ∙ same_get ps k p q inside in
      let front : f ≡ front_at (set fronts k f) k =
      sym (get_or-set_same fronts k f (record { place = 0; count = 0 }) room) in
      subst (λ (n : ℕ). IsFurthestFront rows h n (get_or ss n t) (get_or ps n q) (front_at (set fronts k f) n)) (sym e)
      (subst (λ (u : ShadeView). IsFurthestFront rows h k u (get_or ps k q) (front_at (set fronts k f) k)) shade
      (subst (λ (r : PartView). IsFurthestFront rows h k s r (front_at (set fronts k f) k)) part
      (subst (λ (g : Front). IsFurthestFront rows h k s p g) front new)))
  | inr ne ↦
      let front : front_at fronts j ≡ front_at (set fronts k f) j =
      sym (get_or-set_other fronts k j f (record { place = 0; count = 0 }) ne) in
      subst (λ (g : Front). IsFurthestFront rows h j (get_or ss j t) (get_or ps j q) g) front
      (before j t q (omega (arith, l, ne)))
]

-- ---- what they are for a sweep

module _ (rows : List TypeRow) (h : HeapView) (heap : IsHeap h) (held : IsHeld rows h) (unmarked : IsUnmarked rows h)
    (free : AreFreeHeads rows h) (ss : List ShadeView) (apart : AreApart ss) where
  front_for : (v : HeapView) → HasFoundMarks rows h v ss → (k : ℕ) (s : ShadeView) (f : Front)
      → k < length h.segments → k < length ss → s ≡ get_or ss k s → IsFoundFront rows h s k f → IsFront rows h v k f
  front_for v marks k s f inside within read front = record {
    parted = front.parted;
    old = front.old;
    unmarked = no_mark;
    marked = λ i l o.
        marks.found i.place (stands_from rows h i (listed i l) o)
        (segment_found ss apart k within s read i.place (front.found i l o));
    settled = front.settled;
    free_heads = λ i l is. free i (listed i l) is;
    count = front.count;
  }
    where
      listed : (i : Item) → IsIn i (items_below rows h k f.place) → IsIn i (heap_items rows h)
      listed i l = listed_from rows h k i inside (below_listing rows h k f.place front.parted i l)

      no_mark : (i : Item) → IsIn i (items_below rows h k f.place) → is_object i ≡ true
          → has_mark (word_of h i.place) ≡ false
      no_mark i l o = elim (cases_Bool (has_mark (word_of h i.place))) [
        | inl on ↦ absurd (unmarked i.place (record { stands = stands_from rows h i (listed i l) o; mark = on }))
        | inr off ↦ off
      ]

  -- THE FRONTS of the segments
  pub are_fronts : (fronts : List Front) → length fronts ≡ length ss → HaveSameBases h ss
      → ArePut rows h ss fronts (length ss) → AreFronts rows h ss fronts
  are_fronts fronts room bases put = (
    room ∙ bases.0,
    (λ v marks k inside.
        front_for v marks k (get_or ss k none) (front_at fronts k) inside (within k inside)
        (same_get ss k none (get_or ss k none) (within k inside)) (put k none (within k inside))),
    (λ k inside. (put k none (within k inside)).parted.above.start),
  )
    where
      within : (k : ℕ) → k < length h.segments → k < length ss
      within k inside = let count = bases.0 in omega (arith, count, inside)

      none : ShadeView
      none = record { base = 0; size = 0; taken = []; marked = []; scanned = []; logged = [] }
