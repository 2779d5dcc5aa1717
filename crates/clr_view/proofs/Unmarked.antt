-- No object comes to be marked where the words of the old ones stay, and a new one is born without a mark.
use Rattle.std.proofs.Common.{◌≡◌, ◌≢◌, ◌⊎◌, ◌↔◌, inl, inr, ℕ, ◌+◌, ◌%◌, ◌≤◌, false, List, [], ◌∷◌, ◌++◌, filter}
use Rattle.std.proofs.Common.{ap, sym, ◌∙◌, subst, arith}
use Rattle.std.proofs.lemmas.Bool.{cases_eq, ne_eqb, true≢false}
use Rattle.clr_types.specs.Rising.{IsIn}
use Rattle.clr_types.specs.Types.{TypeRow, mt_of}
use Rattle.clr_types.specs.declared.item.Item.{Item}
use Rattle.clr_types.proofs.ChangedLists.{IsIn-map}
use Rattle.clr_types.proofs.RisingLists.{in_cons}
use Rattle.clr_types.proofs.SortedLists.{out_of_sorted_by}
use Rattle.clr_heap.specs.Parts.{item_at}
use Rattle.clr_heap.specs.View.{frame, HeapView, heap_items, IsHeap, opening_heap, placed, stored, word_of}
use Rattle.clr_heap.proofs.Placing.{Placed, placed_leaves}
use Rattle.clr_model.specs.Allocation.{context_front}
use Rattle.clr_model.specs.Machine.{Object}
use Rattle.clr_view.specs.Marks.{has_mark, IsUnmarked, Marked}
use Rattle.clr_view.specs.SlotValues.{StandsAt}
use Rattle.clr_view.specs.View.{IsHeld, is_object, KeepsObjects, newborn_at, object_in, objects_in}
use Rattle.clr_view.proofs.Bearing.{born-stands, IsBirth}
use Rattle.clr_view.proofs.FreeHeads.{outside-mt}
use Rattle.clr_view.proofs.Items.{stacked-apart}
use Rattle.clr_view.proofs.Listed.{in_append}
use Rattle.clr_view.proofs.Listings.{heap-stacked}
use Rattle.clr_view.proofs.Opening.{no_objects}
use Rattle.clr_view.proofs.TypeMore.{objects_with_type}
use Rattle.clr_view.proofs.ObjectItems.{in_map, stands-head, stands-item}
use Rattle.clr_view.proofs.Stores.{elsewhere, IsCellWord, items-stay}

module _ (rows : List TypeRow) (h : HeapView) (heap : IsHeap h) (held : IsHeld rows h) where
  -- objects at two places keep 24 bytes apart
  pub stands-apart : (x y : ℕ) → StandsAt rows h x → StandsAt rows h y → x ≢ y → (x + 24 ≤ y) ⊎ (y + 24 ≤ x)
  stands-apart x y sx sy ne =
      let i = item_at rows (word_of h) x in
      let j = item_at rows (word_of h) y in
      let ix = stands-item rows h heap held x sx in
      let iy = stands-item rows h heap held y sy in
      let ax = ix.at in
      let ay = iy.at in
      let lx = (stands-head rows h heap held x sx).names.least in
      let ly = (stands-head rows h heap held y sy).names.least in
      elim (stacked-apart (heap_items rows h) i j (heap-stacked rows h held.walkable heap) ix.listed iy.listed
      (λ e. ne (sym ax ∙ e ∙ ay))) [ inl under ↦ inl (omega arith) | inr over ↦ inr (omega arith) ]

  -- an object stands at a multiple of 8, above 8
  pub stands-aligned : (x : ℕ) → StandsAt rows h x → x % 8 ≡ 0
  stands-aligned x s = (stands-head rows h heap held x s).mt.aligned

  -- the words of an object whose cells stay
  pub unmarked_kept : (new : HeapView) → objects_in rows new ≡ objects_in rows h → KeepsObjects rows h new
      → IsUnmarked rows h → IsUnmarked rows new
  unmarked_kept new objects cells clear x marked =
      let stands = subst (λ (os : List Object). (o : Object) × IsIn o os × (o.place ≡ x)) objects marked.stands in
      let i = stands-item rows h heap held x stands in
      let least = (stands-head rows h heap held x stands).names.least in
      let at = i.at in
      let same = cells (item_at rows (word_of h) x) x i.listed i.object (stands-aligned x stands) (omega arith)
      (omega arith) in
      clear x (record { stands = stands; mark = ap has_mark (sym same) ∙ marked.mark })

-- a method table word carries no mark
pub even-mt : (t : ℕ) → has_mark (mt_of t) ≡ false
even-mt t = ne_eqb (mt_of t % 2) 1 (λ e. omega arith)

module _ (rows : List TypeRow) (old new : HeapView) (thread t n : ℕ) (birth : IsBirth rows old new thread t n) where
  open birth use {after, born, head, words}

  abbrev front : ℕ
  front = context_front (frame old) thread

  -- an object elsewhere was there before
  was-there : (x : ℕ) → StandsAt rows new x → x ≢ front → StandsAt rows old x
  was-there x (o, among, at) ne =
      let key : Object → ℕ = λ o. o.name in
      let newborn = newborn_at rows front t n in
      elim (in_append o (objects_in rows old) (newborn ∷ [])
      (out_of_sorted_by key o (objects_in rows old ++ newborn ∷ []) (subst (IsIn o) born.objects among))) [
        | inl before ↦ (o, before, at)
        | inr last ↦ elim (in_cons last) [
          | inl this ↦ absurd (ne (sym at ∙ ap (λ (o : Object). o.place) this))
          | inr none ↦ elim none [ ]
        ]
      ]

  -- A BIRTH marks nothing
  pub unmarked_born : IsUnmarked rows old → IsUnmarked rows new
  unmarked_born clear x marked = elim (cases_eq x front) [
    | inl same ↦ true≢false (sym marked.mark ∙ ap (λ (g : HeapView). has_mark (word_of g x)) words
        ∙ ap (λ q. has_mark (word_of (placed rows old front t n) q)) same ∙ ap has_mark leaves.mt ∙ even-mt t)
    | inr other ↦
        let stands = was-there x marked.stands other in
        let z = stands-aligned rows new after born.held x marked.stands in
        let above = head.above in
        let apart = stands-apart rows new after born.held x front marked.stands
        (born-stands rows old new thread t n born) other in
        let same : word_of new x ≡ word_of old x = ap (λ (g : HeapView). word_of g x) words
        ∙ leaves.others x z (λ e. elim apart [ inl under ↦ omega arith | inr over ↦ omega arith ]) other
        (λ e. elim apart [ inl under ↦ omega arith | inr over ↦ omega arith ]) in
        clear x (record { stands = stands; mark = ap has_mark (sym same) ∙ marked.mark })
  ]
    where
      leaves : Placed rows old (placed rows old front t n) front t n
      leaves = placed_leaves rows old front t n head

-- ---- stores

-- where the items stay, objects stand where they did
pub stands-kept : (rows : List TypeRow) (old new : HeapView) → heap_items rows new ≡ heap_items rows old → (x : ℕ)
    → StandsAt rows old x → StandsAt rows new x
stands-kept rows old new items x (o, among, at) =
    let (i, passed, same) = in_map (object_in rows (word_of old)) o (filter is_object (heap_items rows old)) among in (
      object_in rows (word_of new) i,
      IsIn-map (object_in rows (word_of new))
          (subst (λ (is : List Item). IsIn i (filter is_object is)) (sym items) passed),
      ap (λ (p : Object). p.place) same ∙ at,
    )

module _ (rows : List TypeRow) (h : HeapView) (i : Item) (a v : ℕ) (heap : IsHeap h) (held : IsHeld rows h)
    (slot : IsCellWord rows h i a) where
  abbrev after : HeapView
  after = stored h a v

  -- the method table word of an object is no such word
  mt_stays : (x : ℕ) → StandsAt rows h x → word_of after x ≡ word_of h x
  mt_stays x stands =
      let this = stands-item rows h heap held x stands in
      elsewhere rows h i a v heap held slot x (stands-aligned rows h heap held x stands)
      (λ same. outside-mt rows h i a v heap held slot (item_at rows (word_of h) x) this.listed (this.at ∙ same))

  -- A STORE into an object's cell marks nothing, and takes no mark away
  pub marks_stored : (x : ℕ) → Marked rows after x ↔ Marked rows h x
  marks_stored x =
      let items = items-stay rows h i a v heap held slot in (
        λ marked.
            let stands = stands-kept rows after h (sym items) x marked.stands in
            record { stands = stands; mark = ap has_mark (sym (mt_stays x stands)) ∙ marked.mark },
        λ marked. record {
          stands = stands-kept rows h after items x marked.stands;
          mark = ap has_mark (mt_stays x marked.stands) ∙ marked.mark;
        },
      )

  pub unmarked_stored : IsUnmarked rows h → IsUnmarked rows after
  unmarked_stored clear x marked = clear x ((marks_stored x).0 marked)

-- ---- types

-- a type more marks nothing
pub unmarked_with_type : (rows : List TypeRow) (row : TypeRow) (h : HeapView) → IsHeld rows h → IsUnmarked rows h
    → IsUnmarked (rows ++ row ∷ []) h
unmarked_with_type rows row h held clear x marked =
    clear x (record {
      stands = subst (λ (os : List Object). (o : Object) × IsIn o os × (o.place ≡ x))
          (objects_with_type rows row h held.walkable) marked.stands;
      mark = marked.mark;
    })

-- ---- the opening_heap

-- where no object stands none is marked
pub unmarked_at_start : (rows : List TypeRow) (segment limit : ℕ) → segment % 4096 ≡ 0
    → IsUnmarked rows (opening_heap segment limit)
unmarked_at_start rows segment limit aligned x marked =
    let (o, among, at) = marked.stands in
    let none : IsIn o [] = subst (IsIn o) (no_objects rows segment limit aligned) among in
    elim none [ ]
