-- What a search from one object has found when it ends, be it cut off or not.
use Rattle.std.proofs.Common.{◌≡◌, ℕ, ◌+◌, ◌<◌, ◌≤◌, inl, inr, true, false, List, [], ◌∷◌, length, sym, ◌∙◌, subst}
use Rattle.std.proofs.Common.{arith}
use Rattle.std.proofs.lemmas.Bool.{cases_lt, false≢true}
use Rattle.clr_types.specs.Rising.{first, IsIn}
use Rattle.clr_types.proofs.RisingLists.{in_cons}
use Rattle.clr_model.specs.Reach.{Reach}
use Rattle.clr_mark.proofs.Graying.{reach_in}
use Rattle.clr_mark.specs.Roots.{IsRoot}
use Rattle.clr_sos.specs.BreadthFirst.{IsBreadthFirst}
use Rattle.clr_sos.specs.Reaching.{AllCame, AllCameBy, entry_of, HasAdded, HasGrown, is_listed, IsFollowed, IsListed}
use Rattle.clr_sos.specs.Reaching.{IsObjectOf, IsOrigin, IsSearch, IsSound, Leads, place_at, via_at}
use Rattle.clr_sos.specs.RootTexts.{IsLocalOrigin, IsRootOrigin}
use Rattle.clr_sos.specs.declared.reach.FoundObject.{FoundObject}
use Rattle.clr_sos.specs.declared.reach.Origin.{Origin}
use Rattle.clr_sos.specs.declared.reach.Origin.TheVariants.{Local, Handle, Ready, Through}
use Rattle.clr_sos.specs.declared.view.View.{View}
use Rattle.clr_sos.proofs.BreadthFirst.{nearest}
use Rattle.clr_sos.proofs.ReachedAll.{in_slice, listed-told, object-not_null}
use Rattle.clr_sos.proofs.Searching.{came-root, listed-on}
use Rattle.clr_sos.proofs.ShortestTrails.{search-begins, search-goes_on}
use Rattle.clr_paths.specs.Paths.{IsLedBy, IsSearchFor}

-- a list of one place names it alone
only-place : (place x : ℕ) → IsIn x (place ∷ []) → x ≡ place
only-place place x l = elim (in_cons l) [ inl same ↦ same | inr none ↦ elim none [ ] ]

-- what a local led to is a local
local-listed : (v : View) (es : List FoundObject) (n place : ℕ) (o : Origin) → IsLocalOrigin o
    → IsOrigin v es n place o → IsIn place v.locals.now
local-listed v es n place (Local i) local is = in_slice v.locals.now i place is
local-listed v es n place (Handle h) local is = absurd local
local-listed v es n place (Ready i) local is = absurd local
local-listed v es n place (Through q) local is = absurd local

-- what led to an entry, where roots lead to the start alone
led-by : (v : View) (a : ℕ) (es : List FoundObject) (n place : ℕ) (o : Origin) → IsOrigin v es n place o
    → (IsRootOrigin o → place ≡ a) → IsLedBy (Leads v) a es n place o
led-by v a es n place (Local i) is root = root tt
led-by v a es n place (Handle h) is root = root tt
led-by v a es n place (Ready i) is root = root tt
led-by v a es n place (Through q) is root = is

-- THE SEARCH SO FAR: the start is listed, roots led to it alone, the first n entries were followed, breadth first
pub record IsSearching (v : View) (a : ℕ) (es : List FoundObject) (n : ℕ) : Type 0 where
  pub here : IsListed es a
  pub rooted : (i : ℕ) → i < length es → IsRootOrigin (entry_of es i).origin → place_at es i ≡ a
  pub followed : IsFollowed v es n
  pub breadth : IsBreadthFirst (Leads v) (λ x. x ≡ a) (place_at es) (via_at es) (length es) n

module _ (v : View) (a : ℕ) where
  -- the only local was found
  pub searching-begins : (seen : List (List ℕ)) (es : List FoundObject) → IsSound v → IsObjectOf v a
      → v.locals.now ≡ a ∷ [] → HasAdded v [] seen es (IsRoot v.locals.now) → AllCameBy [] IsLocalOrigin es
      → IsSearching v a es 0
  searching-begins seen es sound stands local added came =
      let here : IsListed es a = added.added a (record {
        listed = subst (λ (xs : List ℕ). IsIn a xs) (sym local) first;
        not_null = object-not_null v sound a stands;
      }) in
      record {
        here = here;
        rooted = λ i l root. only-place a (place_at es i) (subst (λ (xs : List ℕ). IsIn (place_at es i) xs) local
            (local-listed v es i (place_at es i) (entry_of es i).origin (came i (omega arith) l)
            (added.search.sound i l).origin));
        followed = λ i y low. absurd (omega (arith, low));
        breadth = search-begins v (λ x. x ≡ a) seen es added.search (came-root [] es came)
            (λ x same. subst (IsListed es) (sym same) here);
      }

  -- one entry more was followed
  pub searching-goes_on : (seen : List (List ℕ)) (old new : List FoundObject) (n : ℕ) → IsSearch v seen new
      → HasGrown old new → n < length old → AllCame old (Through n) new → IsFollowed v new (n + 1)
      → IsSearching v a old n → IsSearching v a new (n + 1)
  searching-goes_on seen old new n s g inside came followed so_far = record {
    here = listed-on old new a g so_far.here;
    rooted = λ i l root. elim (cases_lt i (length old)) [
      | inl early ↦
          subst (λ (e : FoundObject). IsRootOrigin e.origin → e.place ≡ a) (sym (g.same i early))
          (so_far.rooted i early) root
      | inr late ↦ absurd (subst IsRootOrigin (came i late l) root)
    ];
    followed = followed;
    breadth = search-goes_on v (λ x. x ≡ a) seen old new n s g inside came followed so_far.breadth;
  }

  module _ (seen : List (List ℕ)) (es : List FoundObject) (s : IsSearch v seen es) (n : ℕ)
      (so_far : IsSearching v a es n) (b : ℕ) where
    search-for : (is_listed es b ≡ false → Reach (Leads v) (λ x. x ≡ a) b → ⊥) → IsSearchFor (Leads v) a b es
    search-for missed = record {
      led = λ i l. led-by v a es i (place_at es i) (entry_of es i).origin (s.sound i l).origin (so_far.rooted i l);
      nearest = nearest (Leads v) (λ x. x ≡ a) (place_at es) (via_at es) (length es) n so_far.breadth;
      missed = missed;
    }

    -- the goal was found
    pub found-early : is_listed es b ≡ true → IsSearchFor (Leads v) a b es
    found-early found = search-for (λ none r. false≢true (sym none ∙ found))

    -- all that is reached was found
    pub found-all : length es ≤ n → IsSearchFor (Leads v) a b es
    found-all all = search-for (λ none r. false≢true (sym none ∙ (listed-told es b).1
        (reach_in (Leads v) (λ x. x ≡ a) (IsListed es) b (λ x same. subst (IsListed es) (sym same) so_far.here)
        (λ y z l e. let below = l.below in
        so_far.followed l.index z (omega (arith, below, all)) l.below (subst (λ (p : ℕ). Leads v p z) (sym l.is) e))
        r)))

-- ---- the view of one local

-- what holds of the only local holds of each
pub local-alone : (P : ℕ → Type 0) (a : ℕ) → P a → (x : ℕ) → IsRoot (a ∷ []) x → P x
local-alone P a is x root = subst P (sym (only-place a x root.listed)) is

-- an empty queue has no roots
pub ready-none : (P : ℕ → Type 0) (ready : List ℕ) → ready ≡ [] → (x : ℕ) → IsRoot ready x → P x
ready-none P ready idle x root = elim (subst (λ (xs : List ℕ). IsIn x xs) idle root.listed) [ ]
