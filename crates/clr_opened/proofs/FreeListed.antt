-- The free items of a listing, and those that are left where others are contexts.
use Rattle.std.proofs.Common.{◌≡◌, ◌≢◌, ℕ, zero, suc, ◌==◌, nat_eq, nat_le, Bool, true, false, not, ◌||◌, if◌then◌else◌}
use Rattle.std.proofs.Common.{List, [], ◌∷◌, ◌++◌, filter, map, refl, sym, ap, ap₂, ◌∙◌, subst, arith, append_assoc}
use Rattle.std.proofs.Common.{append-nil, is_some, IsTrue, Option, Some}
use Rattle.std.specs.Prelude.{find}
use Rattle.std.specs.List.{AllByRecursion}
use Rattle.std.proofs.lemmas.Bool.{eq-eqb, ne_eqb, true≢false}
use Rattle.std.proofs.lemmas.List.Elements.{filter-append}
use Rattle.clr_types.specs.Ranges.{by_place, Piece}
use Rattle.clr_types.specs.Rising.{find_by, insert_by, IsIn, sorted_by}
use Rattle.clr_types.specs.Segments.{rest_pieces}
use Rattle.clr_types.specs.Types.{type_row, TypeRow}
use Rattle.clr_types.specs.declared.item.Item.{Item}
use Rattle.clr_types.proofs.ChangedLists.{all_members, IsIn-map, rising-sorted, sorted_by-done}
use Rattle.clr_types.proofs.ListMembers.{any-from, append_right, distinct_cross, distinct_of_sorted, distinct_right}
use Rattle.clr_types.proofs.SortedLists.{find_by-member, find_by-sorted_by, IsDistinctBy}
use Rattle.clr_heap.specs.Parts.{item_piece}
use Rattle.clr_model.specs.Lawful.{IsLaid, IsShaped}
use Rattle.clr_model.specs.Listing.{free_item, listing, object_item}
use Rattle.clr_model.specs.Lookups.{object_piece}
use Rattle.clr_model.specs.Machine.{Machine, Object}
use Rattle.clr_model.proofs.LawfulPieces.{pieces-distinct}
use Rattle.clr_view.specs.View.{free_among, is_free}
use Rattle.clr_format.specs.NameTests.{is_among}
use Rattle.clr_settled.proofs.Dumped.{filter-sorted}

-- ---- lists

-- where all pass, all stay
filter-all : {X : Type 0} (test : X → Bool) (xs : List X) → AllByRecursion (λ x. test x ≡ true) xs
    → filter test xs ≡ xs
filter-all test [] all = refl
filter-all {X = X} test (x ∷ xs) all =
    ap (λ (b : Bool). if b then x ∷ filter test xs else filter test xs) all.0
    ∙ ap (λ (ys : List X). x ∷ ys) (filter-all test xs all.1)

-- where none passes, none stays
filter-none : {X : Type 0} (test : X → Bool) (xs : List X) → AllByRecursion (λ x. test x ≡ false) xs
    → filter test xs ≡ []
filter-none test [] all = refl
filter-none test (x ∷ xs) all =
    ap (λ (b : Bool). if b then x ∷ filter test xs else filter test xs) all.0 ∙ filter-none test xs all.1

-- ---- listings

-- a free item is put in where its range is
inserted-free : (p : Piece) (qs : List Piece)
    → insert_by (λ (i : Item). i.place) (free_item p) (map free_item qs)
    ≡ map free_item (insert_by (λ (q : Piece). q.place) p qs)
inserted-free p [] = refl
inserted-free p (q ∷ qs) = go (nat_le p.place q.place) (inserted-free p qs)
  where
    go : (b : Bool)
        → insert_by (λ (i : Item). i.place) (free_item p) (map free_item qs)
        ≡ map free_item (insert_by (λ (r : Piece). r.place) p qs)
        → (if b then free_item p ∷ free_item q ∷ map free_item qs
        else free_item q ∷ insert_by (λ (i : Item). i.place) (free_item p) (map free_item qs))
        ≡ map free_item (if b then p ∷ q ∷ qs else q ∷ insert_by (λ (r : Piece). r.place) p qs)
    go true rest = refl
    go false rest = ap (λ (is : List Item). free_item q ∷ is) rest

-- free items are put in order as their ranges are
sorted-free : (ps : List Piece) → sorted_by (λ (i : Item). i.place) (map free_item ps) ≡ map free_item (by_place ps)
sorted-free [] = refl
sorted-free (p ∷ ps) =
    ap (insert_by (λ (i : Item). i.place) (free_item p)) (sorted-free ps) ∙ inserted-free p (by_place ps)

-- the range of a free item is the range that it was made of
ranges-back : (ps : List Piece) → map item_piece (map free_item ps) ≡ ps
ranges-back [] = refl
ranges-back (p ∷ ps) = ap (λ (qs : List Piece). p ∷ qs) (ranges-back ps)

-- all of them are free items
all-free : (ps : List Piece) → filter is_free (map free_item ps) ≡ map free_item ps
all-free [] = refl
all-free (p ∷ ps) = ap (λ (is : List Item). free_item p ∷ is) (all-free ps)

-- no type of a table has the number of free items
known-type : (rows : List TypeRow) (t : ℕ) → IsTrue (is_some (type_row rows t)) → (t == 0) ≡ false
known-type rows zero known = absurd (true≢false (sym known))
known-type rows (suc t) known = ne_eqb (suc t) 0 (λ null. omega arith)

-- no object's item is a free one
none-free : (m : Machine) (os : List Object) → AllByRecursion (IsShaped m) os
    → filter is_free (map (object_item m.types) os) ≡ []
none-free m [] all = refl
none-free m (o ∷ os) all =
    let shaped = all.0 in
    let typed : IsTrue (is_some (type_row m.types o.type)) = shaped.typed in
    ap (λ (b : Bool). if b then object_item m.types o ∷ filter is_free (map (object_item m.types) os)
    else filter is_free (map (object_item m.types) os)) (known-type m.types o.type typed)
    ∙ none-free m os all.1

-- the free items of a machine's listing are the machine's
pub free-listed : (m : Machine) → AllByRecursion (IsShaped m) m.objects
    → free_among (listing m) ≡ by_place m.layout.free
free-listed m shapes =
    let place : Item → ℕ = λ i. i.place in
    let objects = map (object_item m.types) m.objects in
    let free = map free_item m.layout.free in
    ap (map item_piece)
    (filter-sorted place is_free (objects ++ free)
    ∙ ap (sorted_by place)
    (filter-append is_free objects free
    ∙ ap₂ (λ (is js : List Item). is ++ js) (none-free m m.objects shapes) (all-free m.layout.free))
    ∙ sorted-free m.layout.free)
    ∙ ranges-back (by_place m.layout.free)

-- ---- what is left where others are contexts

abbrev start : Piece → ℕ
start p = p.place

-- a range begins where none of these does
not-among : (p : Piece) (ks : List Piece) → AllByRecursion (λ (k : Piece). p.place ≢ k.place) ks
    → is_among (map start ks) p.place ≡ false
not-among p [] all = refl
not-among p (k ∷ ks) all =
    ap (λ (b : Bool). b || is_among (map start ks) p.place) (ne_eqb k.place p.place (λ e. all.0 (sym e)))
    ∙ not-among p ks all.1

-- of ranges that begin at places of their own, those go that begin where a kept one does
filter-fronts : (ps ks : List Piece) → IsDistinctBy start (ps ++ ks)
    → filter (λ (p : Piece). not (is_among (map start ks) p.place)) (ps ++ ks) ≡ ps
filter-fronts ps ks apart =
    let test : Piece → Bool = λ p. not (is_among (map start ks) p.place) in
    let stays : AllByRecursion (λ (p : Piece). test p ≡ true) ps =
    all_members (λ (p : Piece). test p ≡ true) ps (λ p i.
    ap not (not-among p ks (all_members (λ (k : Piece). p.place ≢ k.place) ks
    (λ k j. distinct_cross start ps ks apart p k i j)))) in
    let goes : AllByRecursion (λ (k : Piece). test k ≡ false) ks =
    all_members (λ (k : Piece). test k ≡ false) ks (λ k j.
    ap not (any-from (λ (x : ℕ). x == k.place) (map start ks) k.place (IsIn-map start j)
    (eq-eqb k.place k.place refl))) in
    filter-append test ps ks ∙ ap₂ (λ (xs ys : List Piece). xs ++ ys) (filter-all test ps stays)
    (filter-none test ks goes)
    ∙ append-nil ps

-- a search for a range by where it begins is one by its key
find-by : (k : ℕ) (ps : List Piece) → find (λ (p : Piece). nat_eq p.place k) ps ≡ find_by start k ps
find-by k [] = refl
find-by k (p ∷ ps) = ap (λ (o : Option Piece). if nat_eq p.place k then Some p else o) (find-by k ps)

-- free items and contexts of a machine, put in one order
module _ (m : Machine) (h : IsLaid m) (free : List Piece)
    (is : free ≡ by_place (m.layout.free ++ rest_pieces m.layout.rests)) where
  abbrev kept : List Piece
  kept = rest_pieces m.layout.rests

  abbrev objects : List Piece
  objects = map (object_piece m.types) m.objects

  -- free items and contexts begin at addresses of their own
  apart : IsDistinctBy start (m.layout.free ++ kept)
  apart =
      distinct_right start objects (m.layout.free ++ kept)
      (subst (IsDistinctBy start) (append_assoc objects m.layout.free kept)
      (distinct_of_sorted start ((objects ++ m.layout.free) ++ kept) (pieces-distinct m h)))

  -- the free items are those at whose front no context begins
  pub free-left : filter (λ (p : Piece). not (is_among (map start kept) p.place)) free ≡ m.layout.free
  free-left =
      let test : Piece → Bool = λ p. not (is_among (map start kept) p.place) in
      ap (filter test) is ∙ filter-sorted start test (m.layout.free ++ kept)
      ∙ ap by_place (filter-fronts m.layout.free kept apart)
      ∙ sorted_by-done start m.layout.free (rising-sorted start m.layout.free h.layout.free_rise)

  -- a context is what begins at its front
  pub context-found : (r : Piece) → IsIn r kept → find (λ (p : Piece). nat_eq p.place r.place) free ≡ Some r
  context-found r i =
      ap (find (λ (p : Piece). nat_eq p.place r.place)) is
      ∙ find-by r.place (by_place (m.layout.free ++ kept))
      ∙ find_by-sorted_by start r.place (m.layout.free ++ kept)
      ∙ find_by-member start r (m.layout.free ++ kept) apart (append_right m.layout.free i)
