-- What the bits say all through a first pause: only cells of objects of generation 2 are taken or marked, and nothing
-- is scanned or logged.
use Rattle.std.proofs.Common.{◌≡◌, ℕ, zero, suc, ◌+◌, ◌/◌, List, [], ◌∷◌, get_or, ap, arith, refl, sym, subst}
use Rattle.std.proofs.Common.{◌∙◌, ◌⊎◌, inl, inr}
use Rattle.std.proofs.Common.{Bool, true, false, ◌%◌, ◌==◌, if◌then◌else◌, ◌||◌, ◌&&◌, not, nat_eq, Option, Some, None}
use Rattle.std.proofs.lemmas.Bool.{both_ways, eqb-true}
use Rattle.std.specs.List.{AllByRecursion}
use Rattle.std.specs.FinMap as finmap
use Rattle.std.specs.Ordering.{nat_cmp}
use Rattle.clr_types.specs.Kinds.{is_root_kind}
use Rattle.clr_types.specs.Rising.{IsIn, first, later}
use Rattle.clr_types.specs.declared.handle.Handle.{Handle}
use Rattle.clr_types.specs.declared.item.Item.{Item}
use Rattle.clr_types.specs.Segments.{generation}
use Rattle.clr_types.specs.Types.{TypeRow}
use Rattle.clr_heap.specs.Parts.{item_at}
use Rattle.clr_heap.specs.View.{frame, heap_items, HeapView, IsHeap, word_of}
use Rattle.clr_mark.specs.Marks.{IsClosed}
use Rattle.clr_mark.proofs.References.{reference_in}
use Rattle.clr_view.specs.SlotValues.{IsObjectAt, StandsAt}
use Rattle.clr_view.specs.View.{IsHeld, is_object}
use Rattle.clr_view.proofs.ObjectItems.{stands-item}
use Rattle.clr_view.proofs.Standing.{stands_from}
use Rattle.clr_view.proofs.Unmarked.{stands-aligned}
use Rattle.clr_bgmark.proofs.FirstTaken.{cell_covered}
use Rattle.clr_bgmark.specs.Scanning.{AreObjects, HaveWholeObjects}
use Rattle.clr_bgmark.specs.Bits.{has_bit}
use Rattle.clr_bgmark.specs.Pauses.{all_taken, AreShadesOf, IsBare, is_oldest, root_grayed, roots_grayed, taken_item}
use Rattle.clr_bgmark.specs.Pauses.{target_grayed, targets_grayed}
use Rattle.clr_bgmark.specs.Shades.{AreApart, BackgroundView, card_of, cell_of, changed_at, colour_at, covers, grayed}
use Rattle.clr_bgmark.specs.Shades.{is_covered}
use Rattle.clr_bgmark.specs.Shades.{is_logged, is_marked, IsShade, is_scanned, is_taken, is_white, ShadeView, told}
use Rattle.clr_bgmark.specs.Shades.{with_marked, with_taken}
use Rattle.clr_bgmark.proofs.Kept.{apart_kept, covered_kept, in_cell, marked_more, marked_shades, taken_more}
use Rattle.clr_bgmark.proofs.Kept.{taken_shades}
use Rattle.clr_bgmark.proofs.Kept.{told_kept}
use Rattle.clr_bgmark.proofs.Lookups.{none_changed}
use Rattle.clr_bgmark.proofs.Meeting.{told_covered, white_is, white_parts}

-- the cell of an address is that of an object of generation 2 among the items
pub record IsCellOfOldest (h : HeapView) (items : List Item) (b : ℕ) : Type 0 where
  pub item : Item
  pub listed : IsIn item items
  pub oldest : is_oldest h item ≡ true
  pub cell : item.place / 8 ≡ b / 8

-- The bits are those of a first pause of which a part was done, from ones of which none was set.
pub record IsInFirstPause (h : HeapView) (items : List Item) (bare now : List ShadeView) : Type 0 where
  pub shades : AllByRecursion IsShade now
  pub apart : AreApart now
  pub covered : (b : ℕ) → is_covered now b ≡ is_covered bare b
  pub scanned : (b : ℕ) → is_scanned now b ≡ false
  pub logged : (b : ℕ) → is_logged now b ≡ false
  pub taken : (b : ℕ) → is_taken now b ≡ true → IsCellOfOldest h items b
  pub marked : (b : ℕ) → is_marked now b ≡ true → IsCellOfOldest h items b

-- a test that no bare segment passes says no of every address
bare_told : (test : ShadeView → ℕ → Bool) → ((s : ShadeView) → IsBare s → (a : ℕ) → test s a ≡ false)
    → (ss : List ShadeView) → AllByRecursion IsBare ss → (a : ℕ) → told test ss a ≡ false
bare_told test never [] none a = refl
bare_told test never (s ∷ ss) none a = go (covers s a) (bare_told test never ss none.1 a)
  where
    go : (c : Bool) → told test ss a ≡ false → (if c then test s a else told test ss a) ≡ false
    go true rest = never s none.0 a
    go false rest = rest

pub bare_marks : (ss : List ShadeView) → AllByRecursion IsBare ss → (b : ℕ) → is_marked ss b ≡ false
bare_marks = bare_told (λ s a. has_bit s.marked (cell_of s a)) (λ s i a. i.marked (cell_of s a))

module _ (h : HeapView) (items : List Item) (bare : List ShadeView) where
  pub first_bare : AllByRecursion IsShade bare → AreApart bare → AllByRecursion IsBare bare
      → IsInFirstPause h items bare bare
  first_bare lawful beside none = record {
    shades = lawful;
    apart = beside;
    covered = λ b. refl;
    scanned = bare_told (λ s a. has_bit s.scanned (cell_of s a)) (λ s i a. i.scanned (cell_of s a)) bare none;
    logged = bare_told (λ s a. has_bit s.logged (card_of s a)) (λ s i a. i.logged (card_of s a)) bare none;
    taken = λ b e. absurd (both_ways (is_taken bare b)
        (bare_told (λ s a. has_bit s.taken (cell_of s a)) (λ s i a. i.taken (cell_of s a)) bare none b) e);
    marked = λ b e. absurd (both_ways (is_marked bare b) (bare_marks bare none b) e);
  }

  -- one more is taken
  take_first : (now : List ShadeView) (item : Item) → IsInFirstPause h items bare now → IsIn item items
      → is_oldest h item ≡ true → (c : Bool) → is_covered now item.place ≡ c
      → IsInFirstPause h items bare (changed_at item.place (with_taken item.place) now)
  take_first now item f k old false e =
      subst (IsInFirstPause h items bare) (sym (none_changed (with_taken item.place) now item.place e)) f
  take_first now item f k old true e = record {
    shades = taken_shades now item.place f.shades;
    apart = apart_kept (with_taken item.place) (λ s b. refl) now item.place f.apart;
    covered = λ b. covered_kept (with_taken item.place) (λ s b. refl) now item.place b ∙ f.covered b;
    scanned = λ b.
        told_kept (λ s a. has_bit s.scanned (cell_of s a)) (with_taken item.place) (λ s b. refl) (λ s b. refl) now
        item.place b ∙ f.scanned b;
    logged = λ b.
        told_kept (λ s a. has_bit s.logged (card_of s a)) (with_taken item.place) (λ s b. refl) (λ s b. refl) now
        item.place b ∙ f.logged b;
    taken = λ b g. split b (in_cell b item.place) refl (sym (taken_more now f.shades item.place b e) ∙ g);
    marked = λ b g.
        f.marked b
        (sym (told_kept (λ s a. has_bit s.marked (cell_of s a)) (with_taken item.place) (λ s b. refl) (λ s b. refl) now
        item.place b) ∙ g);
  }
    where
      split : (b : ℕ) (c : Bool) → in_cell b item.place ≡ c → (c || is_taken now b) ≡ true → IsCellOfOldest h items b
      split b true i g =
          record { item = item; listed = k; oldest = old; cell = sym (eqb-true (b / 8) (item.place / 8) i) }
      split b false i g = f.taken b g

  pub take_item : (now : List ShadeView) (item : Item) → IsInFirstPause h items bare now → IsIn item items
      → IsInFirstPause h items bare (taken_item h now item)
  take_item now item f k = go (is_oldest h item) refl
    where
      go : (o : Bool) → is_oldest h item ≡ o
          → IsInFirstPause h items bare (if o then changed_at item.place (with_taken item.place) now else now)
      go true e = take_first now item f k e (is_covered now item.place) refl
      go false e = f

  pub take_all_first : (now : List ShadeView) (some : List Item) → IsInFirstPause h items bare now
      → ((i : Item) → IsIn i some → IsIn i items) → IsInFirstPause h items bare (all_taken h now some)
  take_all_first now [] f within = f
  take_all_first now (i ∷ some) f within =
      take_all_first (taken_item h now i) some (take_item now i f (within i first)) (λ j k. within j (later k))

  -- a root becomes gray
  mark_first : (now : List ShadeView) (y : ℕ) → IsInFirstPause h items bare now → is_taken now y ≡ true
      → IsInFirstPause h items bare (changed_at y (with_marked y) now)
  mark_first now y f t =
      let e = told_covered (λ s a. has_bit s.taken (cell_of s a)) now y t in
      record {
        shades = marked_shades now y f.shades;
        apart = apart_kept (with_marked y) (λ s b. refl) now y f.apart;
        covered = λ b. covered_kept (with_marked y) (λ s b. refl) now y b ∙ f.covered b;
        scanned = λ b.
            told_kept (λ s a. has_bit s.scanned (cell_of s a)) (with_marked y) (λ s b. refl) (λ s b. refl) now y b
            ∙ f.scanned b;
        logged = λ b.
            told_kept (λ s a. has_bit s.logged (card_of s a)) (with_marked y) (λ s b. refl) (λ s b. refl) now y b
            ∙ f.logged b;
        taken = λ b g.
            f.taken b
            (sym (told_kept (λ s a. has_bit s.taken (cell_of s a)) (with_marked y) (λ s b. refl) (λ s b. refl) now y b)
            ∙ g);
        marked = λ b g. split b (in_cell b y) refl (sym (marked_more now f.shades y b e) ∙ g);
      }
    where
      split : (b : ℕ) (c : Bool) → in_cell b y ≡ c → (c || is_marked now b) ≡ true → IsCellOfOldest h items b
      split b true i g =
          let one = f.taken y t in
          record {
            item = one.item;
            listed = one.listed;
            oldest = one.oldest;
            cell = one.cell ∙ sym (eqb-true (b / 8) (y / 8) i);
          }
      split b false i g = f.marked b g

  pub root_first : (v : BackgroundView) (y : ℕ) → IsInFirstPause h items bare v.shades
      → IsInFirstPause h items bare (root_grayed v y).shades
  root_first v y f = go (is_white (colour_at v.shades y)) refl
    where
      go : (w : Bool) → is_white (colour_at v.shades y) ≡ w
          → IsInFirstPause h items bare (if w then grayed v y else v).shades
      go true e = mark_first v.shades y f (white_parts v.shades y (sym (white_is v.shades y) ∙ e)).taken
      go false e = f

  pub roots_first : (roots : List ℕ) (n : ℕ) (v : BackgroundView) → IsInFirstPause h items bare v.shades
      → IsInFirstPause h items bare (roots_grayed roots n v).shades
  unfolding roots_grayed
  roots_first roots zero v f = f
  roots_first roots (suc n) v f = root_first (roots_grayed roots n v) (get_or roots n 0) (roots_first roots n v f)

  target_first : (row : Option Handle) (v : BackgroundView) → IsInFirstPause h items bare v.shades
      → IsInFirstPause h items bare (target_grayed row v).shades
  target_first None v f = f
  target_first (Some row) v f = go (is_root_kind row.kind)
    where
      go : (r : Bool) → IsInFirstPause h items bare (if r then root_grayed v row.target else v).shades
      go true = root_first v row.target f
      go false = f

  pub targets_first : (handles : finmap.FinMap nat_cmp Handle) (n : ℕ) (v : BackgroundView)
      → IsInFirstPause h items bare v.shades → IsInFirstPause h items bare (targets_grayed handles n v).shades
  unfolding targets_grayed
  targets_first handles zero v f = f
  targets_first handles (suc n) v f =
      target_first (finmap.get handles n) (targets_grayed handles n v) (targets_first handles n v f)

root_running : (v : BackgroundView) (y : ℕ) → (root_grayed v y).running ≡ v.running
root_running v y = go (is_white (colour_at v.shades y))
  where
    go : (w : Bool) → (if w then grayed v y else v).running ≡ v.running
    go true = refl
    go false = refl

pub roots_running : (roots : List ℕ) (n : ℕ) (v : BackgroundView) → (roots_grayed roots n v).running ≡ v.running
unfolding roots_grayed
roots_running roots zero v = refl
roots_running roots (suc n) v = root_running (roots_grayed roots n v) (get_or roots n 0) ∙ roots_running roots n v

target_running : (row : Option Handle) (v : BackgroundView) → (target_grayed row v).running ≡ v.running
target_running None v = refl
target_running (Some row) v = go (is_root_kind row.kind)
  where
    go : (r : Bool) → (if r then root_grayed v row.target else v).running ≡ v.running
    go true = root_running v row.target
    go false = refl

pub targets_running : (handles : finmap.FinMap nat_cmp Handle) (n : ℕ) (v : BackgroundView)
    → (targets_grayed handles n v).running ≡ v.running
unfolding targets_grayed
targets_running handles zero v = refl
targets_running handles (suc n) v =
    target_running (finmap.get handles n) (targets_grayed handles n v) ∙ targets_running handles n v

-- ---- what the bits of the first pause are for

module _ (rows : List TypeRow) (h : HeapView) (heap : IsHeap h) (held : IsHeld rows h) (bare now : List ShadeView)
    (f : IsInFirstPause h (heap_items rows h) bare now) where
  -- only objects have bits
  one_stands : (a : ℕ) → a % 8 ≡ 0 → IsCellOfOldest h (heap_items rows h) a → StandsAt rows h a
  one_stands a aligned one =
      let p = one.item.place in
      let stands : StandsAt rows h p = stands_from rows h one.item one.listed
      (is_one (nat_eq one.item.type_id.0 0) refl one.oldest) in
      let cell = one.cell in
      let even = stands-aligned rows h heap held p stands in
      let same : p ≡ a = omega (arith, cell, even, aligned) in
      subst (StandsAt rows h) same stands
    where
      is_one : (z : Bool) → nat_eq one.item.type_id.0 0 ≡ z
          → (not z && (generation (frame h) one.item.place == 2)) ≡ true → is_object one.item ≡ true
      is_one true e g = absurd cc
      is_one false e g = ap not e

  pub first_objects : AreObjects rows h now
  first_objects = record {
    taken = λ a aligned e. one_stands a aligned (f.taken a e);
    marked = λ a aligned e. one_stands a aligned (f.marked a e);
    scanned = λ a aligned e. absurd (both_ways (is_scanned now a) (f.scanned a) e);
    black = λ a aligned e. absurd (both_ways (is_scanned now a) (f.scanned a) e);
  }

  pub first_whole : IsClosed rows h → AreShadesOf h bare → HaveWholeObjects rows h now
  first_whole closed shapes x offset (aligned, bit) listed =
      let i = item_at rows (word_of h) x in
      let is : IsObjectAt rows h x i = stands-item rows h heap held x (stands bit) in
      f.covered (x + offset)
      ∙ cell_covered rows h heap held bare shapes i is.listed (x + offset)
      (reference_in rows h heap held x i is.listed is.at offset listed)
    where
      stands : (is_taken now x ≡ true) ⊎ (is_marked now x ≡ true) → StandsAt rows h x
      stands (inl t) = first_objects.taken x aligned t
      stands (inr m) = first_objects.marked x aligned m
