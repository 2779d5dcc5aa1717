-- The chain of objects by which an entry was found is a shortest one.
use Rattle.std.proofs.Common.{◌≡◌, ◌≢◌, ℕ, zero, suc, ◌+◌, ◌<◌, ◌≤◌, List, [], ◌∷◌, length, refl, ap, sym, ◌∙◌, subst}
use Rattle.std.proofs.Common.{arith}
use Rattle.clr_model.specs.Machine.{Machine}
use Rattle.clr_model.specs.Reach.{Edge}
use Rattle.clr_model.specs.Sos.{IsChain, StartsAt}
use Rattle.clr_sos.specs.BreadthFirst.{AreNearest, at_start, begins, goes_on, HasDepth, IsBreadthFirst, IsWay, through}
use Rattle.clr_sos.specs.Reaching.{AllCame, AllCameBy, entry_of, HasGrown, IsFollowed, IsListed}
use Rattle.clr_sos.specs.Reaching.{IsSearch, Leads, place_at, via_at, via_of}
use Rattle.clr_sos.specs.RootTexts.{ends, IsRootOrigin, IsTrail, leads}
use Rattle.clr_sos.specs.Views.{IsViewOf}
use Rattle.clr_sos.specs.declared.reach.FoundObject.{FoundObject}
use Rattle.clr_sos.specs.declared.reach.Origin.{Origin}
use Rattle.clr_sos.specs.declared.reach.Origin.TheVariants.{Local, Handle, Ready, Through}
use Rattle.clr_sos.specs.declared.view.View.{View}
use Rattle.clr_sos.proofs.BreadthFirst.{breadth-more, way-imply}
use Rattle.clr_sos.proofs.ReachedAll.{edge-seen}

-- ---- the search

-- nothing led to a root
pub via-root : (o : Origin) → IsRootOrigin o → via_of o ≡ 0
via-root (Local i) root = refl
via-root (Handle h) root = refl
via-root (Ready i) root = refl
via-root (Through q) root = absurd root

-- a search begins with the entries of roots
pub search-begins : (v : View) (start : ℕ → Type 0) (seen : List (List ℕ)) (es : List FoundObject) → IsSearch v seen es
    → AllCameBy [] IsRootOrigin es → ((x : ℕ) → start x → IsListed es x)
    → IsBreadthFirst (Leads v) start (place_at es) (via_at es) (length es) 0
search-begins v start seen es s came roots = record {
  starts = λ x root.
      let l = roots x root in
      let none = by l.index l.below in
      record { index = l.index; below = l.below; is = l.is; by = omega (arith, none) };
  rises = λ i j low l. let first = by i (omega (arith, low, l)) in omega (arith, first);
  before = λ i l. let none = by i l in omega (arith, none);
  by_followed = λ i l. let none = by i l in omega (arith, none);
  followed = λ i y low. absurd (omega (arith, low));
  distinct = s.distinct;
}
  where
    by : (i : ℕ) → i < length es → via_at es i ≡ 0
    by i l = via-root (entry_of es i).origin (came i (omega arith) l)

-- a search goes on: entry n was followed, and what was added came through it
pub search-goes_on : (v : View) (start : ℕ → Type 0) (seen : List (List ℕ)) (old new : List FoundObject) (n : ℕ)
    → IsSearch v seen new → HasGrown old new → n < length old → AllCame old (Through n) new → IsFollowed v new (n + 1)
    → IsBreadthFirst (Leads v) start (place_at old) (via_at old) (length old) n
    → IsBreadthFirst (Leads v) start (place_at new) (via_at new) (length new) (n + 1)
search-goes_on v start seen old new n s g inside came followed b =
    let longer = g.longer in
    let here : place_at new n ≡ place_at old n = ap (λ (e : FoundObject). e.place) (g.same n inside) in
    breadth-more (Leads v) start (place_at old) (via_at old) (length old) n b (place_at new) (via_at new) (length new)
    longer
    (λ i l. (ap (λ (e : FoundObject). e.place) (g.same i l), ap (λ (e : FoundObject). via_of e.origin) (g.same i l)))
    inside (λ i late l. ap via_of (came i late l)) s.distinct
    (λ y e. let l = followed n y (omega arith) (omega (arith, inside, longer))
    (subst (λ (p : ℕ). Leads v p y) (sym here) e) in
    (l.index, l.below, l.is))

-- ---- the depth of an entry

-- an entry with the place stands at the depth
pub record IsDeepAt (es : List FoundObject) (last depth : ℕ) : Type 0 where
  pub index : ℕ
  pub below : index < length es
  pub is : place_at es index ≡ last
  pub deep : HasDepth (via_at es) index depth

-- where entry i stands at a depth and leads over places to the last of them, that one stands as much deeper
trail-depth : (es : List FoundObject) (last i d : ℕ) (places : List ℕ) → IsTrail es last i places
    → HasDepth (via_at es) i (suc d) → IsDeepAt es last (d + length places)
trail-depth es last i d _ (ends _ l e) deep =
    record { index = i; below = l; is = e; deep = subst (HasDepth (via_at es) i) (omega arith) deep }
trail-depth es last q d _ (leads _ i places low e t) deep =
    let f = trail-depth es last i (suc d) places t (through (ap via_of e) deep) in
    record {
      index = f.index;
      below = f.below;
      is = f.is;
      deep = subst (HasDepth (via_at es) f.index) (omega arith) f.deep;
    }

-- THE DEPTH OF WHAT WAS FOUND by a trail from a root is the trail's length
pub trail-deep : (es : List FoundObject) (last i : ℕ) (places : List ℕ) → IsTrail es last i places
    → IsRootOrigin (entry_of es i).origin → IsDeepAt es last (length places)
trail-deep es last i places t root =
    let f = trail-depth es last i 0 places t (at_start (via-root (entry_of es i).origin root)) in
    subst (IsDeepAt es last) (omega arith) f

-- ---- chains

-- a way goes on over the places of a chain
chain-on : (m : Machine) (start : ℕ → Type 0) (last n x : ℕ) (places : List ℕ) → IsWay (Edge m) start (suc n) x
    → IsChain m (x ∷ places) last → IsWay (Edge m) start (n + length (x ∷ places)) last
chain-on m start last n x [] w e =
    subst (λ (k : ℕ). IsWay (Edge m) start k last) (omega arith) (subst (IsWay (Edge m) start (suc n)) e w)
chain-on m start last n x (y ∷ ys) w c =
    subst (λ (k : ℕ). IsWay (Edge m) start k last) (omega arith)
    (chain-on m start last (suc n) y ys (goes_on w c.0) c.1)

-- A CHAIN FROM A START is a way to its last object
pub chain-way : (m : Machine) (start : ℕ → Type 0) (last first : ℕ) (places : List ℕ) → start first
    → StartsAt places first → IsChain m places last → IsWay (Edge m) start (length places) last
chain-way m start last first [] s is c = absurd is
chain-way m start last first (x ∷ xs) s is c =
    subst (λ (k : ℕ). IsWay (Edge m) start k last) (omega arith)
    (chain-on m start last 0 x xs (begins (subst start (sym is) s)) c)

-- A CHAIN READ BACK is a way from its last object over the edges turned round
pub chain-way_back : (m : Machine) (last first : ℕ) (places : List ℕ) → StartsAt places first → IsChain m places last
    → IsWay (λ (x y : ℕ). Edge m y x) (λ (x : ℕ). x ≡ last) (length places) first
chain-way_back m last first [] is c = absurd is
chain-way_back m last first (x ∷ []) is c =
    subst (IsWay (λ (y z : ℕ). Edge m z y) (λ (y : ℕ). y ≡ last) 1) is (begins c)
chain-way_back m last first (x ∷ y ∷ ys) is c =
    subst (IsWay (λ (a b : ℕ). Edge m b a) (λ (a : ℕ). a ≡ last) (length (x ∷ y ∷ ys))) is
    (goes_on (chain-way_back m last y (y ∷ ys) refl c.1) c.0)

-- ---- the shortest chain

-- NO CHAIN FROM A START IS SHORTER than a trail to the same object
pub trail-least : (v : View) (m : Machine) → IsViewOf v m → (start : ℕ → Type 0) (es : List FoundObject) (a i : ℕ)
    (places : List ℕ) → AreNearest (Leads v) start (place_at es) (via_at es) (length es) → IsTrail es a i places
    → IsRootOrigin (entry_of es i).origin → (first : ℕ) (other : List ℕ) → start first → StartsAt other first
    → IsChain m other a → length places ≤ length other
trail-least v m shown start es a i places near t root first other starts at linked =
    let found = trail-deep es a i places t root in
    let way = way-imply (Edge m) (Leads v) start start (edge-seen v m shown) (λ x s. s) (length other) a
    (chain-way m start a first other starts at linked) in
    near found.index (length places) (length other) found.below found.deep
    (subst (IsWay (Leads v) start (length other)) (sym found.is) way)
