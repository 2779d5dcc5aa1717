-- What a search finds that follows slots alone, from the locals of a view without handles and without a queue.
use Rattle.std.proofs.Common.{◌≡◌, ◌↔◌, inl, inr, ℕ, ◌+◌, ◌<◌, ◌≤◌, List, [], ◌∷◌, length, sym, ap, ◌∙◌, subst}
use Rattle.std.proofs.Common.{Some, None}
use Rattle.std.specs.FinMap as finmap
use Rattle.std.specs.FinMap.{FinMap}
use Rattle.std.specs.Ordering.{nat_cmp}
use Rattle.clr_types.specs.Rising.{first, IsIn}
use Rattle.clr_types.specs.declared.handle.Handle.{Handle as Row}
use Rattle.clr_types.proofs.RisingLists.{in_cons}
use Rattle.clr_types.specs.Types.{TypeRow}
use Rattle.clr_heap.specs.View.{HeapView}
use Rattle.clr_model.specs.Reach.{HeldBy, Reach, SecondOf, SlotNames}
use Rattle.clr_view.specs.SlotValues.{StandsAt}
use Rattle.clr_view.specs.View.{objects_in}
use Rattle.clr_mark.specs.Marks.{IsClosed}
use Rattle.clr_mark.specs.Roots.{IsRoot}
use Rattle.clr_mark.proofs.Graying.{reach_on}
use Rattle.clr_sos.specs.Reaching.{HasAdded, IsFollowed, IsListed, IsObjectOf, IsRootOf, IsSearch, IsSound, Leads}
use Rattle.clr_sos.specs.Reaching.{place_at}
use Rattle.clr_sos.specs.declared.reach.FoundObject.{FoundObject}
use Rattle.clr_sos.specs.declared.view.View.{View}
use Rattle.clr_sos.proofs.Adding.{added-starts}
use Rattle.clr_sos.proofs.ReachedAll.{followed-more, reached-exactly}
use Rattle.clr_objsize.specs.Sizes.{HasTotal}
use Rattle.clr_objsize.specs.declared.sizes.Total.{Total}

-- no number is in use
none_used : (handles : FinMap nat_cmp Row) → handles ≡ finmap.empty → (h : ℕ) (row : Row)
    → finmap.get handles h ≡ Some row → ⊥
none_used handles bare h row used =
    let none : finmap.get handles h ≡ None =
    ap (λ (hs : FinMap nat_cmp Row). finmap.get hs h) bare ∙ finmap.get-empty nat_cmp h in
    let both : None ≡ Some row = sym none ∙ used in
    cc

module _ (v : View) (sound : IsSound v) (bare : v.handles.now ≡ finmap.empty) (idle : v.finals.now.ready ≡ []) where
  -- no object is tied to another
  untied : (x y : ℕ) → SecondOf v.handles.now x y → ⊥
  untied x y s = none_used v.handles.now bare s.handle s.row s.in_use

  unheld : (x : ℕ) → HeldBy v.handles.now x → ⊥
  unheld x s = none_used v.handles.now bare s.handle s.row s.in_use

  unready : (x : ℕ) → IsIn x v.finals.now.ready → ⊥
  unready x l = elim (subst (λ (xs : List ℕ). IsIn x xs) idle l) [ ]

  -- the roots are the locals
  root-local : (x : ℕ) → IsRootOf v x → IsRoot v.locals.now x
  root-local x root = elim root.1 [
    | inl early ↦ elim early [
      | inl local ↦ record { listed = local; not_null = root.0 }
      | inr held ↦ absurd (unheld x held)
    ]
    | inr last ↦ absurd (unready x last)
  ]

  local-root : (x : ℕ) → IsRoot v.locals.now x → IsRootOf v x
  local-root x local = (local.not_null, inl (inl local.listed))

  -- one leads to another by slots
  leads-slot : (x y : ℕ) → Leads v x y → SlotNames (objects_in v.types.now v.heap.now) x y
  leads-slot x y (inl slot) = slot
  leads-slot x y (inr tie) = absurd (untied x y tie)

  -- one entry more was followed by its slots
  pub slots-followed : (a b : List FoundObject) (s : List (List ℕ)) (n : ℕ) → n < length a → IsFollowed v a n
      → HasAdded v a s b (SlotNames (objects_in v.types.now v.heap.now) (place_at a n)) → IsFollowed v b (n + 1)
  slots-followed a b s n inside before slots =
      followed-more v a b b s s n inside before slots
      (added-starts v s b (SecondOf v.handles.now (place_at b n)) slots.search (untied (place_at b n)))

  -- WHERE ALL ENTRIES ARE FOLLOWED, the entries are what the locals reach by slots
  pub slots-exactly : (seen : List (List ℕ)) (es : List FoundObject) → IsSearch v seen es
      → ((x : ℕ) → IsRoot v.locals.now x → IsListed es x) → (n : ℕ) → length es ≤ n → IsFollowed v es n → (x : ℕ)
      → IsListed es x ↔ Reach (SlotNames (objects_in v.types.now v.heap.now)) (IsRoot v.locals.now) x
  slots-exactly seen es s roots n all followed x =
      let near : ℕ → ℕ → Type 0 = SlotNames (objects_in v.types.now v.heap.now) in
      let is = reached-exactly v sound seen es s (λ y root. roots y (root-local y root)) n all followed x in (
        λ l. reach_on near (Leads v) (IsRoot v.locals.now) (IsRootOf v) x leads-slot root-local (is.0 l),
        λ r. is.1 (reach_on (Leads v) near (IsRootOf v) (IsRoot v.locals.now) x (λ y z e. inl e) local-root r),
      )

-- ---- one object

-- a list of one place names it alone
only_place : (place x : ℕ) → IsIn x (place ∷ []) → x ≡ place
only_place place x l = elim (in_cons l) [
  | inl same ↦ same
  | inr none ↦ elim none [ ]
]

-- A VIEW OF THE SAME HEAP whose only local is the place of an object, without handles and without a queue, is sound
-- where the first view is.
pub sound-alone : (v w : View) → w.types.now ≡ v.types.now → w.heap.now ≡ v.heap.now → (place : ℕ)
    → w.locals.now ≡ place ∷ [] → IsSound v → IsObjectOf v place → w.handles.now ≡ finmap.empty
    → w.finals.now.ready ≡ [] → IsSound w
sound-alone v w types heap place local sound stands bare idle = record {
  closed = over IsClosed sound.closed;
  handles = λ k row used. absurd (none_used w.handles.now bare k row used);
  locals = λ x root. over (λ rows h. StandsAt rows h x)
      (subst (λ (y : ℕ). StandsAt v.types.now v.heap.now y)
      (sym (only_place place x (subst (λ (xs : List ℕ). IsIn x xs) local root.listed))) stands);
  ready = λ x root. elim (subst (λ (xs : List ℕ). IsIn x xs) idle root.listed) [ ];
}
  where
    -- what holds of types and a heap
    over : (P : List TypeRow → HeapView → Type 0) → P v.types.now v.heap.now → P w.types.now w.heap.now
    over P p = subst (λ (h : HeapView). P w.types.now h) (sym heap)
        (subst (λ (rows : List TypeRow). P rows v.heap.now) (sym types) p)

-- WHAT ITS LOCAL HOLDS is what the object holds
pub total-alone : (v : View) (place : ℕ) (total : Total) → 0 < place → HasTotal v (IsRoot (place ∷ [])) total
    → HasTotal v (λ y. y ≡ place) total
total-alone v place total some told =
    let near : ℕ → ℕ → Type 0 = SlotNames (objects_in v.types.now v.heap.now) in (
      told.0,
      λ x. (
        λ e. reach_on near near (λ y. y ≡ place) (IsRoot (place ∷ [])) x (λ y z f. f)
            (λ y root. only_place place y root.listed) ((told.1 x).0 e),
        λ r. (told.1 x).1 (reach_on near near (IsRoot (place ∷ [])) (λ y. y ≡ place) x (λ y z f. f)
            (λ y same. record {
              listed = subst (λ (z : ℕ). IsIn z (place ∷ [])) (sym same) first;
              not_null = subst (λ (z : ℕ). 0 < z) (sym same) some;
            }) r),
      ),
      told.2,
      told.3,
    )
