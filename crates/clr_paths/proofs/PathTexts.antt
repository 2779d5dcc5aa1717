-- The text of a shortest chain, for the machine that a view shows.
use Rattle.std.proofs.Common.{◌≡◌, ◌⊎◌, inl, inr, ℕ, ◌<◌, List, [], ◌∷◌, length, ap₂, sym, ◌∙◌, subst, arith, refl}
use Rattle.std.proofs.Common.{codes, false}
use Rattle.std.specs.List.{flat_map}
use Rattle.std.specs.FinMap.{FinMap}
use Rattle.std.specs.Ordering.{nat_cmp}
use Rattle.clr_nums.specs.Numbers.{hex16}
use Rattle.clr_types.specs.Rising.{IsIn}
use Rattle.clr_types.specs.Types.{name_of, TypeRow}
use Rattle.clr_types.specs.declared.handle.Handle.{Handle as Row}
use Rattle.clr_types.proofs.RisingLists.{in_cons}
use Rattle.clr_model.specs.Lookups.{object_at}
use Rattle.clr_model.specs.Looks.{IsPathText, IsShortest, leads, leads_not}
use Rattle.clr_model.specs.Machine.{Machine, Object}
use Rattle.clr_model.specs.Reach.{Reach, SecondOf, SlotNames}
use Rattle.clr_model.specs.Sos.{IsChain, line, StartsAt, type_of_place}
use Rattle.clr_sos.specs.Reaching.{entry_of, is_listed, Leads, place_at}
use Rattle.clr_sos.specs.RootTexts.{ends, IsRootOrigin, IsTrail, place_line}
use Rattle.clr_sos.specs.RootTexts.{leads as goes_by}
use Rattle.clr_sos.specs.Views.{IsViewOf}
use Rattle.clr_sos.specs.declared.reach.FoundObject.{FoundObject}
use Rattle.clr_sos.specs.declared.reach.Origin.{Origin}
use Rattle.clr_sos.specs.declared.reach.Origin.TheVariants.{Local, Handle, Ready, Through}
use Rattle.clr_sos.specs.declared.view.View.{View}
use Rattle.clr_sos.proofs.ReachedAll.{edge-shown, to_view}
use Rattle.clr_sos.proofs.ShortestTrails.{trail-least}
use Rattle.clr_paths.specs.Paths.{IsLedBy, IsSearchFor}

-- ---- the chain

-- a root leads to the start alone
start-by : (edge : ℕ → ℕ → Type 0) (start : ℕ) (es : List FoundObject) (n place : ℕ) (o : Origin)
    → IsLedBy edge start es n place o → IsRootOrigin o → place ≡ start
start-by edge start es n place (Local i) is root = is
start-by edge start es n place (Handle h) is root = is
start-by edge start es n place (Ready i) is root = is
start-by edge start es n place (Through q) is root = absurd root

-- a trail begins at an entry
trail-inside : (es : List FoundObject) (last i : ℕ) (places : List ℕ) → IsTrail es last i places → i < length es
trail-inside es last i _ (ends _ l e) = l
trail-inside es last q _ (goes_by _ i places low e t) =
    let inside = trail-inside es last i places t in omega (arith, low, inside)

-- the first place of a trail is that of the entry where it begins
trail-starts : (es : List FoundObject) (last i : ℕ) (places : List ℕ) → IsTrail es last i places
    → StartsAt places (place_at es i)
trail-starts es last i _ (ends _ l e) = refl
trail-starts es last q _ (goes_by _ i places low e t) = refl

-- each place of a trail is that of an entry
pub trail-stands : (P : ℕ → Type 0) (es : List FoundObject) → ((i : ℕ) → i < length es → P (place_at es i))
    → (last i : ℕ) (places : List ℕ) → IsTrail es last i places → (x : ℕ) → IsIn x places → P x
trail-stands P es all last i _ (ends _ l e) x listed = elim (in_cons listed) [
  | inl same ↦ subst P (sym same) (all i l)
  | inr none ↦ elim none [ ]
]
trail-stands P es all last q _ (goes_by _ i places low e t) x listed = elim (in_cons listed) [
  | inl same ↦ subst P (sym same) (all q (let inside = trail-inside es last i places t in omega (arith, low, inside)))
  | inr more ↦ trail-stands P es all last i places t x more
]

module _ (v : View) (m : Machine) (shown : IsViewOf v m) (a b : ℕ) (es : List FoundObject)
    (s : IsSearchFor (Leads v) a b es) where
  -- a trail is a chain of the machine
  trail-chain : (last i : ℕ) (places : List ℕ) → IsTrail es last i places → IsChain m places last
  trail-chain last i _ (ends _ l e) = e
  trail-chain last q _ (goes_by _ i places low e t) =
      chain-more places (trail-starts es last i places t) (trail-chain last i places t)
    where
      -- entry q leads to entry i
      led : Leads v (place_at es q) (place_at es i)
      led = (subst (IsLedBy (Leads v) a es i (place_at es i)) e (s.led i (trail-inside es last i places t))).1

      -- the place of entry q before a chain from entry i is a chain
      chain-more : (places : List ℕ) → StartsAt places (place_at es i) → IsChain m places last
          → IsChain m (place_at es q ∷ places) last
      chain-more [] starts linked = absurd starts
      chain-more (y ∷ ys) starts linked =
          let edge = edge-shown v m shown (place_at es q) y
          (subst (λ (p : ℕ). Leads v (place_at es q) p) (sym starts) led) in
          (edge, linked)

  -- THE TRAIL IS A SHORTEST CHAIN
  shortest-told : (i : ℕ) (places : List ℕ) → IsTrail es b i places → IsRootOrigin (entry_of es i).origin
      → IsShortest m a b places
  shortest-told i places t root =
      let inside = trail-inside es b i places t in
      let own = start-by (Leads v) a es i (place_at es i) (entry_of es i).origin (s.led i inside) root in
      record {
        starts = subst (StartsAt places) own (trail-starts es b i places t);
        linked = trail-chain b i places t;
        least = λ other. trail-least v m shown (λ (x : ℕ). x ≡ a) es b i places s.nearest t root a other refl;
      }

  -- THE TEXT OF A CHAIN
  pub path-told : (i : ℕ) (places : List ℕ) → IsTrail es b i places → IsRootOrigin (entry_of es i).origin
      → (text : List ℕ) → text ≡ flat_map (place_line v) places → IsPathText m a b text
  path-told i places t root text put =
      leads places (shortest-told i places t root) (put ∙ ap₂ (λ (rows : List TypeRow) (os : List Object).
      flat_map (λ (p : ℕ). line (hex16 p ∷ name_of rows (type_of_place (object_at os p)) ∷ [])) places)
      (sym shown.types) (sym shown.objects))

  -- THE TEXT where there is none
  pub none-told : is_listed es b ≡ false → (text : List ℕ) → text ≡ line (codes "none" ∷ []) → IsPathText m a b text
  none-told none text put = leads_not (λ r. s.missed none (to_view v m shown
      (λ (os : List Object) (ls : List ℕ) (hs : FinMap nat_cmp Row) (rs : List ℕ).
      Reach (λ (x y : ℕ). SlotNames os x y ⊎ SecondOf hs x y) (λ (x : ℕ). x ≡ a) b) r)) put
