-- What a search has found when it ends is what the roots reach.
use Rattle.std.proofs.Common.{◌≡◌, ◌⊎◌, ◌↔◌, inl, inr, ℕ, zero, suc, ◌+◌, ◌<◌, ◌≤◌, true, false, Bool, List, [], ◌∷◌}
use Rattle.std.proofs.Common.{length}
use Rattle.std.proofs.Common.{get_or, eq-eqb, nat_eq, refl, ap, sym, ◌∙◌, subst, arith}
use Rattle.std.specs.Prelude.{slice_get, Some}
use Rattle.std.specs.FinMap.{FinMap}
use Rattle.std.specs.Ordering.{nat_cmp}
use Rattle.std.proofs.lemmas.Bool.{cases_eq, eqb-true, false≢true}
use Rattle.std.proofs.lemmas.List.{get_or_default}
use Rattle.std.proofs.lemmas.List.Folds.{Any-from_list_any, list_any_at, list_any_none}
use Rattle.clr_types.specs.Rising.{first, IsIn, later, Tests}
use Rattle.clr_types.specs.declared.handle.Handle.{Handle as Row}
use Rattle.clr_model.specs.Machine.{Machine, Object}
use Rattle.clr_model.specs.Reach.{Edge, follows, HeldBy, Live, Reach, Roots, SecondOf, SlotNames}
use Rattle.clr_model.specs.Reach.{starts}
use Rattle.clr_view.specs.View.{objects_in}
use Rattle.clr_view.proofs.Standing.{high_up}
use Rattle.clr_view.proofs.ObjectItems.{stands-item}
use Rattle.clr_heap.specs.Parts.{item_at}
use Rattle.clr_heap.specs.View.{word_of}
use Rattle.clr_mark.specs.Roots.{IsRoot}
use Rattle.clr_mark.specs.Ties.{IsTarget}
use Rattle.clr_mark.proofs.Graying.{reach_in}
use Rattle.clr_sos.proofs.Searching.{grown-trans, listed-on}
use Rattle.clr_sos.specs.Reaching.{HasAdded}
use Rattle.clr_sos.specs.Reaching.{entry_of, is_listed, is_seen, IsFollowed, IsListed, IsObjectOf}
use Rattle.clr_sos.specs.Reaching.{IsOrigin, IsRootOf, IsSearch, IsSound, Leads, no_entry, place_at}
use Rattle.clr_sos.specs.Views.{IsViewOf}
use Rattle.clr_sos.specs.declared.reach.FoundObject.{FoundObject}
use Rattle.clr_sos.specs.declared.reach.Origin.{Origin}
use Rattle.clr_sos.specs.declared.reach.Origin.TheVariants.{Local, Handle, Ready, Through}
use Rattle.clr_sos.specs.declared.view.View.{View}

-- what stands at an index is in the list
pub in_slice : (xs : List ℕ) (i x : ℕ) → slice_get xs i ≡ Some x → IsIn x xs
in_slice [] i x e = absurd cc
in_slice (y ∷ ys) zero x e = let same : y ≡ x = cc in subst (λ (z : ℕ). IsIn z (y ∷ ys)) same first
in_slice (y ∷ ys) (suc i) x e = later (in_slice ys i x e)

-- objects stand above 0
pub object-not_null : (v : View) → IsSound v → (x : ℕ) → IsObjectOf v x → 0 < x
object-not_null v sound x stands =
    let rows = v.types.now in
    let h = v.heap.now in
    let at = stands-item rows h sound.closed.heap sound.closed.held x stands in
    let high = high_up rows h sound.closed.heap sound.closed.held (item_at rows (word_of h) x) at.listed in
    let place = at.at in
    omega (arith, high, place)

module _ (v : View) (sound : IsSound v) (seen : List (List ℕ)) (es : List FoundObject) (s : IsSearch v seen es) where
  -- what led to an entry is reached, or a root
  from_origin : (n place : ℕ) (o : Origin) → IsObjectOf v place → IsOrigin v es n place o
      → ((q : ℕ) → q < n → Reach (Leads v) (IsRootOf v) (place_at es q)) → Reach (Leads v) (IsRootOf v) place
  from_origin n place (Local i) stands is before =
      starts (object-not_null v sound place stands, inl (inl (in_slice v.locals.now i place is)))
  from_origin n place (Handle h) stands is before =
      starts (
        object-not_null v sound place stands,
        inl (inr (record {
          handle = h;
          row = is.row;
          in_use = is.in_use;
          holds = is.holds;
          target = is.target;
        })),
      )
  from_origin n place (Ready i) stands is before =
      starts (object-not_null v sound place stands, inr (in_slice v.finals.now.ready i place is))
  from_origin n place (Through q) stands is before = follows (before q is.0) is.1

  -- so each of the first n entries is reached
  entries-reached : (n i : ℕ) → i < n → i < length es → Reach (Leads v) (IsRootOf v) (place_at es i)
  entries-reached zero i low l = absurd (omega (arith, low))
  entries-reached (suc n) i low l =
      let own = s.sound i l in
      from_origin i (place_at es i) (entry_of es i).origin own.stands own.origin
      (λ q before. entries-reached n q (omega (arith, low, before)) (omega (arith, before, l)))

  pub listed-reached : (x : ℕ) → IsListed es x → Reach (Leads v) (IsRootOf v) x
  listed-reached x l =
      subst (Reach (Leads v) (IsRootOf v)) l.is (entries-reached (l.index + 1) l.index (omega arith) l.below)

  -- WHERE ALL ENTRIES ARE FOLLOWED, the entries are what the roots reach
  pub reached-exactly : ((x : ℕ) → IsRootOf v x → IsListed es x) → (n : ℕ) → length es ≤ n → IsFollowed v es n
      → (x : ℕ) → IsListed es x ↔ Reach (Leads v) (IsRootOf v) x
  reached-exactly roots n all followed x = (
    listed-reached x,
    reach_in (Leads v) (IsRootOf v) (IsListed es) x roots
        (λ y z l e. let below = l.below in
        followed l.index z (omega (arith, below, all)) l.below (subst (λ (p : ℕ). Leads v p z) (sym l.is) e)),
  )

-- ---- the test

pub listed-told : (es : List FoundObject) (x : ℕ) → (is_listed es x ≡ true) ↔ IsListed es x
listed-told es x = (
  λ e. let found = Any-from_list_any (λ (y : FoundObject). nat_eq y.place x) es e in
      let i = found.0 in
      let at : get_or es i no_entry ≡ found.1 = get_or_default es i no_entry found.1 found.2 ∙ found.3 in
      record {
        index = i;
        below = found.2;
        is = ap (λ (y : FoundObject). y.place) at
            ∙ eqb-true found.1.place x found.4;
      },
  λ l. list_any_at (λ (y : FoundObject). nat_eq y.place x) es l.index no_entry l.below
      (eq-eqb (place_at es l.index) x l.is),
)

-- tests that hold of the same are the same
same-tests : (a b : Bool) (P : Type 0) → (a ≡ true) ↔ P → (b ≡ true) ↔ P → a ≡ b
same-tests true b P f g = sym (g.1 (f.0 refl))
same-tests false true P f g = absurd (false≢true (f.1 (g.0 refl)))
same-tests false false P f g = refl

-- the bits of objects tell what is listed
pub seen-told : (v : View) (seen : List (List ℕ)) (es : List FoundObject) → IsSearch v seen es → (x : ℕ)
    → IsObjectOf v x
    → is_seen v.heap.now seen x ≡ is_listed es x
seen-told v seen es s x stands = same-tests (is_seen v.heap.now seen x) (is_listed es x) (IsListed es x)
    (s.listed x stands, s.marked x) (listed-told es x)

-- ---- the machine that is seen

-- a fact about the objects, locals, handles and queue of a machine is one about what the view shows of them
module _ (v : View) (m : Machine) (is : IsViewOf v m) where
  pub to_view : (P : List Object → List ℕ → FinMap nat_cmp Row → List ℕ → Type 0)
      → P m.objects m.locals m.handles m.ready
      → P (objects_in v.types.now v.heap.now) v.locals.now v.handles.now v.finals.now.ready
  to_view P p =
      subst (λ (os : List Object). P os v.locals.now v.handles.now v.finals.now.ready) is.objects
      (subst (λ (ls : List ℕ). P m.objects ls v.handles.now v.finals.now.ready) is.locals
      (subst (λ (hs : FinMap nat_cmp Row). P m.objects m.locals hs v.finals.now.ready) is.handles
      (subst (λ (rs : List ℕ). P m.objects m.locals m.handles rs) is.ready p)))

  pub to_machine : (P : List Object → List ℕ → FinMap nat_cmp Row → List ℕ → Type 0)
      → P (objects_in v.types.now v.heap.now) v.locals.now v.handles.now v.finals.now.ready
      → P m.objects m.locals m.handles m.ready
  to_machine P p =
      subst (λ (rs : List ℕ). P m.objects m.locals m.handles rs) (sym is.ready)
      (subst (λ (hs : FinMap nat_cmp Row). P m.objects m.locals hs v.finals.now.ready) (sym is.handles)
      (subst (λ (ls : List ℕ). P m.objects ls v.handles.now v.finals.now.ready) (sym is.locals)
      (subst (λ (os : List Object). P os v.locals.now v.handles.now v.finals.now.ready) (sym is.objects) p)))

  abbrev edges : List Object → FinMap nat_cmp Row → ℕ → ℕ → Type 0
  edges os hs x y = SlotNames os x y ⊎ SecondOf hs x y

  abbrev roots : List ℕ → FinMap nat_cmp Row → List ℕ → ℕ → Type 0
  roots ls hs rs x = (0 < x) × ((IsIn x ls ⊎ HeldBy hs x) ⊎ IsIn x rs)

  pub edge-shown : (x y : ℕ) → Leads v x y → Edge m x y
  edge-shown x y = to_machine (λ os ls hs rs. edges os hs x y)

  -- edges and roots of the machine are those of the view
  pub edge-seen : (x y : ℕ) → Edge m x y → Leads v x y
  edge-seen x y = to_view (λ os ls hs rs. edges os hs x y)

  pub root-seen : (x : ℕ) → Roots m x → IsRootOf v x
  root-seen x = to_view (λ os ls hs rs. roots ls hs rs x)

  -- what is alive in the machine
  pub live-shown : (x : ℕ) → Reach (Leads v) (IsRootOf v) x ↔ Live m x
  live-shown x = (
    to_machine (λ os ls hs rs. Reach (edges os hs) (roots ls hs rs) x),
    to_view (λ os ls hs rs. Reach (edges os hs) (roots ls hs rs) x),
  )

-- THE TEST of what is listed tells what is alive
pub tests-live : (v : View) (es : List FoundObject) → ((x : ℕ) → IsListed es x ↔ Reach (Leads v) (IsRootOf v) x)
    → (m : Machine) → IsViewOf v m → Tests (is_listed es) (Live m)
tests-live v es exact m is x = (
  λ e. (live-shown v m is x).0 ((exact x).0 ((listed-told es x).0 e)),
  λ l. (listed-told es x).1 ((exact x).1 ((live-shown v m is x).1 l)),
)

-- where no entry has the place, it isn't listed
pub unlisted : (es : List FoundObject) (x : ℕ) → ((j : ℕ) → j < length es → nat_eq (place_at es j) x ≡ false)
    → is_listed es x ≡ false
unlisted es x none = list_any_none (λ (e : FoundObject). nat_eq e.place x) es
    (λ k d l. ap (λ (e : FoundObject). nat_eq e.place x) (get_or_default es k d no_entry l) ∙ none k l)

-- ---- the parts of a search

-- after locals, handles and the queue all roots are listed
pub roots-listed : (v : View) (a b c d : List FoundObject) (s t u : List (List ℕ))
    → HasAdded v a s b (IsRoot v.locals.now)
    → HasAdded v b t c (IsTarget v.handles.now) → HasAdded v c u d (IsRoot v.finals.now.ready) → (x : ℕ)
    → IsRootOf v x → IsListed d x
roots-listed v a b c d s t u locals targets ready x root = elim root.1 [
  | inl early ↦ elim early [
    | inl local ↦
        listed-on c d x ready.grown (listed-on b c x targets.grown
        (locals.added x (record { listed = local; not_null = root.0 })))
    | inr held ↦ listed-on c d x ready.grown (targets.added x (record { held = held; not_null = root.0 }))
  ]
  | inr last ↦ ready.added x (record { listed = last; not_null = root.0 })
]

-- one entry more was followed: by its slots, and then by dependent handles
pub followed-more : (v : View) (a b c : List FoundObject) (s t : List (List ℕ)) (n : ℕ) → n < length a
    → IsFollowed v a n
    → HasAdded v a s b (SlotNames (objects_in v.types.now v.heap.now) (place_at a n))
    → HasAdded v b t c (SecondOf v.handles.now (place_at b n)) → IsFollowed v c (n + 1)
followed-more v a b c s t n inside before slots ties i y low l leads =
    let g = grown-trans a b c slots.grown ties.grown in
    let place : (j : ℕ) → j < length a → place_at c j ≡ place_at a j =
    λ j k. ap (λ (e : FoundObject). e.place) (g.same j k) in
    elim (cases_eq i n) [
      | inl same ↦
          let here : place_at c i ≡ place_at a n = ap (place_at c) same ∙ place n inside in
          let mid : place_at b n ≡ place_at a n = ap (λ (e : FoundObject). e.place) (slots.grown.same n inside) in
          elim leads [
            | inl slot ↦
                listed-on b c y ties.grown (slots.added y
                (subst (λ (p : ℕ). SlotNames (objects_in v.types.now v.heap.now) p y) here slot))
            | inr tie ↦ ties.added y (subst (λ (p : ℕ). SecondOf v.handles.now p y) (here ∙ sym mid) tie)
          ]
      | inr other ↦
          let early : i < n = omega (arith, low, other) in
          let was : i < length a = omega (arith, early, inside) in
          listed-on a c y g (before i y early was (subst (λ (p : ℕ). Leads v p y) (place i was) leads))
    ]
