-- The chain from an entry of a search back, which is a shortest one.
use Rattle.std.proofs.Common.{◌≡◌, ◌≢◌, ◌⊎◌, ℕ, suc, ◌+◌, ◌<◌, List, [], ◌∷◌, ◌++◌, length, ap, append-nil}
use Rattle.std.proofs.Common.{append_assoc, arith, refl, subst, sym, ◌∙◌}
use Rattle.clr_model.specs.Looks.{IsShortest}
use Rattle.clr_model.specs.Machine.{Machine}
use Rattle.clr_model.specs.Reach.{Edge, follows, ReachFrom, SecondOf, SlotNames, starts}
use Rattle.clr_model.specs.Sos.{IsChain, StartsAt}
use Rattle.clr_sos.specs.BreadthFirst.{at_start, HasDepth, through}
use Rattle.clr_sos.specs.Reaching.{Leads}
use Rattle.clr_sos.specs.Views.{IsViewOf}
use Rattle.clr_sos.specs.declared.view.View.{View}
use Rattle.clr_sos.proofs.BreadthFirst.{nearest, way-imply}
use Rattle.clr_sos.proofs.ReachedAll.{edge-shown, to_view}
use Rattle.clr_sos.proofs.ShortestTrails.{chain-way_back}
use Rattle.clr_paths.specs.AllRoots.{AreWays, count_of, ends, goes_on, IsWayFrom, next_at, node_at, way_at}
use Rattle.clr_paths.specs.declared.all_roots.Way.{Way}
use Rattle.clr_paths.specs.declared.all_roots.Ways.{Ways}

-- an edge of the machine is one of the view
leads-shown : (v : View) (m : Machine) → IsViewOf v m → (x y : ℕ) → Edge m x y → Leads v x y
leads-shown v m shown x y = to_view v m shown (λ os ls hs rs. SlotNames os x y ⊎ SecondOf hs x y)

module _ (v : View) (places : List ℕ) (ways : Ways) (a : AreWays v places ways) where
  -- a way begins at its entry's object
  way-starts : (i : ℕ) (chain : List ℕ) → IsWayFrom places ways i chain → StartsAt chain (node_at places ways i)
  way-starts i _ (ends _ e) = refl
  way-starts i _ (goes_on _ q rest e w) = refl

  -- a way is as long as the entry is deep
  way-deep : (i : ℕ) (chain : List ℕ) → IsWayFrom places ways i chain → HasDepth (next_at ways) i (length chain)
  way-deep i _ (ends _ e) = at_start e
  way-deep i _ (goes_on _ q rest e w) = through e (way-deep q rest w)

  module _ (m : Machine) (shown : IsViewOf v m) where
    -- an entry before a chain from its next one
    linked-more : (i q : ℕ) (rest : List ℕ) → i < count_of ways → next_at ways i ≡ suc q
        → StartsAt rest (node_at places ways q) → IsChain m rest (node_at places ways 0)
        → IsChain m (node_at places ways i ∷ rest) (node_at places ways 0)
    linked-more i q [] l e s c = absurd s
    linked-more i q (y ∷ ys) l e s c = (
      edge-shown v m shown (node_at places ways i) y
          (subst (Leads v (node_at places ways i)) (sym s) (a.lead i q l e)),
      c,
    )

    -- a way is a chain to the object that was asked for
    way-linked : (i : ℕ) (chain : List ℕ) → i < count_of ways → IsWayFrom places ways i chain
        → IsChain m chain (node_at places ways 0)
    way-linked i _ l (ends _ e) = ap (node_at places ways) (a.ends i l e)
    way-linked i _ l (goes_on _ q rest e w) =
        let back = a.breadth.before i l in
        linked-more i q rest l e (way-starts q rest w) (way-linked q rest (omega (arith, back, e, l)) w)

    -- THE WAY OF AN ENTRY is a shortest chain
    pub way-shortest : (i : ℕ) (chain : List ℕ) → i < count_of ways → IsWayFrom places ways i chain
        → IsShortest m (node_at places ways i) (node_at places ways 0) chain
    way-shortest i chain l w = record {
      starts = way-starts i chain w;
      linked = way-linked i chain l w;
      least = λ other s c.
          let goal = node_at places ways 0 in
          nearest (λ x y. Leads v y x) (λ x. x ≡ goal) (node_at places ways) (next_at ways) (count_of ways)
          (count_of ways) a.breadth i (length chain) (length other) l (way-deep i chain w)
          (way-imply (λ x y. Edge m y x) (λ x y. Leads v y x) (λ x. x ≡ goal) (λ x. x ≡ goal)
          (λ x y e. leads-shown v m shown y x e) (λ x same. same) (length other) (node_at places ways i)
          (chain-way_back m goal (node_at places ways i) other s c));
    }

    -- the object has an entry
    abbrev IsEntered : ℕ → Type 0
    IsEntered x = (i : ℕ) × (i < count_of ways) × (node_at places ways i ≡ x)

    -- what leads to an object with an entry has one
    entered-back : (x y : ℕ) → ReachFrom m x y → IsEntered y → IsEntered x
    entered-back x y (starts same) f = subst IsEntered same f
    entered-back x y (follows {x = z} r e) f =
        let found = a.breadth.followed f.0 z f.1 f.1
        (subst (Leads v z) (sym f.2) (leads-shown v m shown z y e)) in
        entered-back x z r (found.index, found.below, found.is)

    -- AN OBJECT WITHOUT AN ENTRY leads to the one that was asked for in no way
    pub way-none : (x : ℕ) → ((i : ℕ) → i < count_of ways → node_at places ways i ≢ x)
        → ReachFrom m x (node_at places ways 0) → ⊥
    way-none x none r =
        let f = entered-back x (node_at places ways 0) r (0, a.some, refl) in none f.0 f.1 f.2

-- these addresses are those of a way up to an entry, which they end with
pub record IsHalfWay (places : List ℕ) (ways : Ways) (entry : ℕ) (way : Way) (shown : List ℕ) : Type 0 where
  pub index : ℕ
  pub below : index < count_of ways
  pub is : way_at ways index ≡ way
  pub on : (rest : List ℕ) → IsWayFrom places ways index (node_at places ways index ∷ rest)
      → IsWayFrom places ways entry (shown ++ rest)

module _ (places : List ℕ) (ways : Ways) (entry : ℕ) where
  -- the first entry alone
  pub half-starts : (way : Way) → entry < count_of ways → way_at ways entry ≡ way
      → IsHalfWay places ways entry way (node_at places ways entry ∷ [])
  half-starts way below is = record { index = entry; below = below; is = is; on = λ rest w. w }

  -- the next entry is that of the way
  pub half-more : (way next : Way) (q : ℕ) (shown : List ℕ) → IsHalfWay places ways entry way shown → way.next ≡ suc q
      → q < count_of ways → way_at ways q ≡ next
      → IsHalfWay places ways entry next (shown ++ node_at places ways q ∷ [])
  half-more way next q shown half more below is = record {
    index = q;
    below = below;
    is = is;
    on = λ rest w.
        subst (IsWayFrom places ways entry) (sym (append_assoc shown (node_at places ways q ∷ []) rest))
        (half.on (node_at places ways q ∷ rest)
        (goes_on half.index q (node_at places ways q ∷ rest) (ap (λ (u : Way). u.next) half.is ∙ more) w));
  }

  -- WHERE NO NEXT ONE FOLLOWS, they are the whole way
  pub half-ends : (way : Way) (shown : List ℕ) → IsHalfWay places ways entry way shown → way.next ≡ 0
      → IsWayFrom places ways entry shown
  half-ends way shown half none =
      subst (IsWayFrom places ways entry) (append-nil shown)
      (half.on [] (ends half.index (ap (λ (u : Way). u.next) half.is ∙ none)))
