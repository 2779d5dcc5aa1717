-- Where no object is gray and all that is due is found, all is found that is reached.
use Rattle.std.proofs.Common.{◌≡◌, ℕ, ◌+◌, ◌<◌, ◌≤◌, ◌⊎◌, inl, inr, List, [], true, subst, arith, refl, Some}
use Rattle.std.proofs.lemmas.Bool.{both_ways, cases_Bool, cases_eq, cases_lt, le-leb}
use Rattle.std.specs.FinMap as finmap
use Rattle.std.specs.Ordering.{nat_cmp}
use Rattle.clr_types.specs.Rising.{IsIn}
use Rattle.clr_types.specs.Types.{TypeRow}
use Rattle.clr_types.specs.declared.handle.Handle.{Handle}
use Rattle.clr_types.proofs.ChangedLists.{out_of_filter}
use Rattle.clr_handles.specs.Places.{names_from, NoneNames}
use Rattle.clr_heap.specs.Parts.{item_at}
use Rattle.clr_heap.specs.View.{HeapView, IsHeap, word_of}
use Rattle.clr_model.specs.Reach.{Reach, SecondOf, SlotNames}
use Rattle.clr_view.specs.SlotValues.{StandsAt}
use Rattle.clr_view.specs.View.{IsHeld, objects_in}
use Rattle.clr_mark.specs.Marks.{IsClosed}
use Rattle.clr_mark.specs.Ties.{IsStart, Joins}
use Rattle.clr_mark.specs.Markings.{references_at}
use Rattle.clr_mark.proofs.Graying.{reach_in, reach_on}
use Rattle.clr_mark.proofs.References.{refers_to}
use Rattle.clr_bgmark.specs.Closing.{IsAllFound, IsDueFound, IsNullOrFound, NamesFound}
use Rattle.clr_bgmark.specs.LastPause.{LogHolds}
use Rattle.clr_bgmark.specs.Pauses.{IsFound}
use Rattle.clr_bgmark.specs.Scanning.{AreObjects, marking_in}
use Rattle.clr_bgmark.specs.Shades.{is_marked, is_scanned, ShadeView}
use Rattle.clr_bgmark.proofs.FollowedSlots.{at}
use Rattle.clr_bgmark.proofs.FoundMarked.{found_is_marked}
use Rattle.clr_bgmark.proofs.RootedFound.{clear_slots, names_found}
use Rattle.clr_bgmark.proofs.ScannedLists.{names, stands_aligned}

-- what isn't null is found
pub some_found : (ss : List ShadeView) (x : ℕ) → 0 < x → IsNullOrFound ss x → IsFound ss x
some_found ss x some (inl null) = absurd (omega (arith, some, null))
some_found ss x some (inr f) = f

-- a number of which no handle names anything isn't in use
pub none_named : (handles : finmap.FinMap nat_cmp Handle) (from to : ℕ) → NoneNames handles 0 from to → (k : ℕ)
    → (row : Handle) → from ≤ k → k < to → finmap.get handles k ≡ Some row → ⊥
none_named handles from to none k row low high e =
    let names : names_from 0 row ≡ true = rw (le-leb 0 row.target (omega arith)) refl in
    both_ways (names_from 0 row) (none k row low high e) names

-- one handle more
pub passed_targets : (handles : finmap.FinMap nat_cmp Handle) (ss : List ShadeView) (from h : ℕ) (handle : Handle)
    → ((k : ℕ) (row : Handle) → k < from → finmap.get handles k ≡ Some row
    → IsNullOrFound ss row.target × IsNullOrFound ss row.second)
    → NoneNames handles 0 from h → finmap.get handles h ≡ Some handle
    → IsNullOrFound ss handle.target × IsNullOrFound ss handle.second
    → (k : ℕ) (row : Handle) → k < h + 1 → finmap.get handles k ≡ Some row
    → IsNullOrFound ss row.target × IsNullOrFound ss row.second
passed_targets handles ss from h handle before none used found k row low e = elim (cases_lt k from) [
  | inl early ↦ before k row early e
  | inr late ↦ elim (cases_eq k h) [
    | inl is ↦
        let there : finmap.get handles h ≡ Some row = subst (λ n. finmap.get handles n ≡ Some row) is e in
        let same : handle ≡ row = cc in
        subst (λ (r : Handle). IsNullOrFound ss r.target × IsNullOrFound ss r.second) same found
    | inr other ↦ absurd (none_named handles from h none k row late (omega (arith, low, other)) e)
  ]
]

module _ (rows : List TypeRow) (h : HeapView) (closed : IsClosed rows h) (ss : List ShadeView)
    (known : AreObjects rows h ss) (log : LogHolds rows (objects_in rows h) ss)
    (none : (marking_in (objects_in rows h) ss).gray ≡ []) where
  -- what is found is black
  pub all_black : (x : ℕ) → IsFound ss x → is_scanned ss x ≡ true
  all_black x f = elim ((found_is_marked rows h closed.heap closed.held ss known x).0 f) [
    | inl gray ↦ elim (subst (λ xs. IsIn x xs) none gray) [ ]
    | inr black ↦ (out_of_filter (is_scanned ss) x (names rows h closed.heap closed.held) black).0
  ]

  -- what a slot of a found object names is found, where what is due is
  pub slot_found : IsDueFound rows h ss → (x y : ℕ) → IsFound ss x → SlotNames (objects_in rows h) x y → IsFound ss y
  slot_found sure x y f e = elim (cases_Bool (is_marked ss y)) [
    | inl marked ↦ (stands_aligned rows h closed.heap closed.held y (closed.named x y e), marked)
    | inr off ↦ names_found rows h closed.heap closed.held ss known log x f (λ due. elim due [
      | inl gray ↦ both_ways (is_scanned ss x) gray (all_black x f)
      | inr slot ↦ both_ways (is_marked ss y) off (sure x f (λ c. clear_slots rows h closed.heap closed.held ss x
          (known.marked x f.0 f.1) c (known.marked c.next c.found.0 c.found.1) slot) y e).1
    ]) y e
  ]

  module _ (handles : finmap.FinMap nat_cmp Handle) (locals ready entries : List ℕ)
      (all : IsAllFound rows h handles locals ready entries ss) where
    second_found : (x y : ℕ) → SecondOf handles x y → IsFound ss y
    second_found x y s =
        some_found ss y s.not_null
        (subst (IsNullOrFound ss) s.secondary (all.targets s.handle s.row s.in_use).1)

    start_found : (x : ℕ) → IsStart handles locals ready x → IsFound ss x
    start_found x (inl (inl root)) = some_found ss x root.not_null (all.local x root.listed)
    start_found x (inl (inr root)) = some_found ss x root.not_null (all.queued x root.listed)
    start_found x (inr target) =
        let by = target.held in
        some_found ss x target.not_null
        (subst (IsNullOrFound ss) by.target (all.targets by.handle by.row by.in_use).0)

    pub all_found : (Old : ℕ → Type 0) → ((x : ℕ) → Old x → IsFound ss x) → (x : ℕ)
        → Reach (Joins rows h handles) (λ y. IsStart handles locals ready y ⊎ Old y) x → IsFound ss x
    all_found Old kept x =
        reach_in (Joins rows h handles) (λ y. IsStart handles locals ready y ⊎ Old y) (IsFound ss) x
        (λ y s. elim s [ inl start ↦ start_found y start | inr old ↦ kept y old ])
        (λ y z f e. elim e [ inl slot ↦ slot_found all.due y z f slot | inr tied ↦ second_found y z tied ])

pub entry_found : (rows : List TypeRow) (h : HeapView) (ss : List ShadeView) (handles : finmap.FinMap nat_cmp Handle)
    → (locals ready entries : List ℕ) → IsAllFound rows h handles locals ready entries ss → (x : ℕ)
    → IsIn x entries → 0 < x → IsFound ss x
entry_found rows h ss handles locals ready entries all x i some = some_found ss x some (all.entry x i)

-- where all is found that an object names, so is the word of each of its references, unless it is null
pub word_found : (rows : List TypeRow) (h : HeapView) → IsHeap h → IsHeld rows h → (ss : List ShadeView) (x : ℕ)
    → StandsAt rows h x → (offset : ℕ) → IsIn offset (references_at rows h x) → NamesFound rows h ss x
    → IsNullOrFound ss (word_of h (x + offset))
word_found rows h heap held ss x stands offset l all = elim (cases_eq (word_of h (x + offset)) 0) [
  | inl null ↦ inl null
  | inr some ↦ inr (all (word_of h (x + offset))
      (refers_to rows h heap held x (item_at rows (word_of h) x) (at rows h heap held x stands) offset l some))
]

-- what slots reach, slots and handles reach
pub joined : (rows : List TypeRow) (h : HeapView) (handles : finmap.FinMap nat_cmp Handle) (locals ready : List ℕ)
    → (ss : List ShadeView) (x : ℕ)
    → Reach (SlotNames (objects_in rows h)) (λ y. IsStart handles locals ready y ⊎ IsFound ss y) x
    → Reach (Joins rows h handles) (λ y. IsStart handles locals ready y ⊎ IsFound ss y) x
joined rows h handles locals ready ss x =
    let from : ℕ → Type 0 = λ y. IsStart handles locals ready y ⊎ IsFound ss y in
    reach_on (Joins rows h handles) (SlotNames (objects_in rows h)) from from x (λ y z e. inl e) (λ y s. s)
