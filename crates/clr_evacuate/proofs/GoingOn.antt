-- The loop over the runs of a stretch that may go into older items.
use Rattle.std.proofs.Common.{◌≡◌, inr, ℕ, ◌+◌, ◌-◌, ◌≤◌, true, false, List, [], refl}
use Rattle.std.proofs.Common.{ap, sym, ◌∙◌, subst, arith, None, Option, Some, ◌&&◌, ◌==◌, not, Bool, nat_lt}
use Rattle.std.proofs.Common.{if◌then◌else◌}
use Rattle.std.specs.List.{list_any}
use Rattle.std.proofs.lemmas.Bool.{and_parts, and_right, eqb-true, ne_eqb}
use Rattle.clr_types.specs.Bits.{has_pin}
use Rattle.clr_types.specs.Ranges.{Piece, piece_end}
use Rattle.clr_types.specs.Rising.{IsIn}
use Rattle.clr_types.specs.Segments.{ephemeral, generation, is_small_or_ephemeral, Layout, stands_in}
use Rattle.clr_types.specs.Types.{TypeRow}
use Rattle.clr_types.specs.declared.item.Item.{Item}
use Rattle.clr_types.proofs.ChangedLists.{all_members, append_left}
use Rattle.clr_types.proofs.ListMembers.{append_right}
use Rattle.clr_types.proofs.RisingLists.{all_at}
use Rattle.clr_heap.specs.Parts.{item_piece, parts}
use Rattle.clr_view.proofs.Items.{IsItem, items-are}
use Rattle.clr_heap.specs.View.{frame, heap_items, HeapView, IsHeap, items_between, SameShape, sight, word_of}
use Rattle.clr_heap.proofs.Framing.{SameShape-trans}
use Rattle.clr_heap.proofs.Rewrite.{SameShape-refl}
use Rattle.clr_model.specs.Compaction.{Plug}
use Rattle.clr_model.specs.Fitting.{fit, fitting_plugs, is_older_item, lowest_item, older_items}
use Rattle.clr_view.specs.Marks.{has_mark}
use Rattle.clr_view.specs.View.{IsHeld, is_object, layout_in}
use Rattle.clr_sweep.specs.SweptItems.{stays}
use Rattle.clr_plan.specs.Scans.{CanScan}
use Rattle.clr_plan.proofs.BehindTheWalk.{plugs-same, scans-on}
use Rattle.clr_evacuate.specs.FittedAll.{AreInOrder, CanCarryBetween, HasMade, HavePassed}
use Rattle.clr_evacuate.specs.FittedRun.{AreOlder, HasFitted, IsYoungRun}
use Rattle.clr_evacuate.specs.Fittings.{fitting_between, HasFitting, may_fit}
use Rattle.clr_evacuate.specs.Hints.{AreHints}
use Rattle.clr_evacuate.specs.declared.hints.Hint.{Hint}
use Rattle.clr_evacuate.proofs.FittedInTurn.{plugs_passed}
use Rattle.clr_evacuate.proofs.FittedRuns.{behind_stays, lowest_is}
use Rattle.clr_evacuate.proofs.FittingAhead.{found-before, SameAhead}

-- The loop has come to a place: the heap ahead is what it was, and the plugs behind have passed.
pub record IsGoingOn (rows : List TypeRow) (h now : HeapView) (k from e place bytes : ℕ) (guesses : List Hint) : Type 0
  where
    pub heap : IsHeap now
    pub held : IsHeld rows now
    pub shape : SameShape h now
    pub older : AreOlder (layout_in rows now)
    pub hints : AreHints rows now guesses
    pub same : SameAhead h now place e
    pub scan : CanScan rows h k place e
    pub listed : (i : Item) → IsIn i (items_between (sight rows h k) place e) → is_object i ≡ true
        → IsIn i (heap_items rows now)
    pub above : h.start1 ≤ place
    pub low : e ≤ h.start0
    pub count : bytes + from ≤ place
    pub order : AreInOrder place (fitting_between rows h k place e) → AreInOrder from (fitting_between rows h k from e)
    pub steps : (final : HeapView) (more : ℕ) → HavePassed rows now final (fitting_between rows h k place e) more
        → HavePassed rows h final (fitting_between rows h k from e) (bytes + more)

pub going_starts : (rows : List TypeRow) (h : HeapView) (k from e : ℕ) (hints : List Hint) → IsHeap h → IsHeld rows h
    → CanCarryBetween rows h k from e → AreHints rows h hints
    → IsGoingOn rows h h k from e from 0 hints
going_starts rows h k from e hints heap held can are = record {
  heap = heap;
  held = held;
  shape = SameShape-refl h;
  older = can.older;
  hints = are;
  same = λ b z low high. refl;
  scan = can.scan;
  listed = λ i n object. can.listed i n;
  above = can.above;
  low = can.low;
  count = omega arith;
  order = λ o. o;
  steps = λ final more s.
      let all : more ≡ 0 + more = omega arith in
      subst (HavePassed rows h final (fitting_between rows h k from e)) all s;
}

-- what may go is an object that isn't old
may_object : (h : HeapView) (i : Item) → may_fit h i ≡ true → is_object i ≡ true
may_object h i e =
    let (kept, free) = and_parts (stays (word_of h) i && (generation (frame h) i.place == 1))
    (not (has_pin (word_of h (i.place - 8)))) e in
    let (stay, young) = and_parts (stays (word_of h) i) (generation (frame h) i.place == 1) kept in
    (and_parts (is_object i) (has_mark (word_of h i.place)) stay).0

may_young : (rows : List TypeRow) (h now : HeapView) (i : Item) → SameShape h now → may_fit h i ≡ true
    → is_older_item (layout_in rows now) (item_piece i) ≡ false
may_young rows h now i shape e =
    let (kept, free) = and_parts (stays (word_of h) i && (generation (frame h) i.place == 1))
    (not (has_pin (word_of h (i.place - 8)))) e in
    let (stay, young) = and_parts (stays (word_of h) i) (generation (frame h) i.place == 1) kept in
    let one : generation (frame h) i.place ≡ 1 = eqb-true (generation (frame h) i.place) 1 young in
    let age : generation (frame now) i.place ≡ generation (frame h) i.place =
    ap (λ (g : HeapView). generation (frame g) i.place) shape.others in
    and_right (list_any (λ s. is_small_or_ephemeral s.kind && stands_in s i.place) (frame now).segments)
    (generation (frame now) i.place == 2)
    (ne_eqb (generation (frame now) i.place) 2 (λ two. absurd (omega (arith, two, age, one))))

-- what is of generation 1 stands in the ephemeral segment
young-inside : (layout : Layout) (p : ℕ) → generation layout p ≡ 1 → stands_in (ephemeral layout) p ≡ true
young-inside layout p e =
    go (stands_in (ephemeral layout) p)
    (if nat_lt p layout.start1 then 2 else (if nat_lt p layout.start0 then 1 else 0)) e
  where
    go : (b : Bool) (n : ℕ) → (if b then n else 2) ≡ 1 → b ≡ true
    go true n one = refl
    go false n one = absurd (omega (arith, one))

may_inside : (h now : HeapView) (i : Item) → SameShape h now → may_fit h i ≡ true
    → stands_in (ephemeral (frame now)) i.place ≡ true
may_inside h now i shape e =
    let (kept, free) = and_parts (stays (word_of h) i && (generation (frame h) i.place == 1))
    (not (has_pin (word_of h (i.place - 8)))) e in
    let (stay, young) = and_parts (stays (word_of h) i) (generation (frame h) i.place == 1) kept in
    young-inside (frame now) i.place
    (ap (λ (g : HeapView). generation (frame g) i.place) shape.others
    ∙ eqb-true (generation (frame h) i.place) 1 young)

module _ (rows : List TypeRow) (h now : HeapView) (k from e place bytes : ℕ) (hints : List Hint)
    (c : IsGoingOn rows h now k from e place bytes hints) where
  pub scan_now : CanScan rows now k place e
  scan_now = scans-on rows h now k place e c.shape c.same c.scan

  bound : now.start1 ≡ h.start1
  bound = ap (λ (g : HeapView). g.start1) c.shape.others

  upper : now.start0 ≡ h.start0
  upper = ap (λ (g : HeapView). g.start0) c.shape.others

  module _ (found : Piece) (has_now : HasFitting rows now k place e found) where
    abbrev pub has : HasFitting rows h k place e found
    has = found-before rows h now k place e found c.shape c.same c.scan has_now

    run : List Item
    run = has.objects.passed

    among : (i : Item) → IsIn i (items_between (sight rows h k) found.place e)
        → IsIn i (items_between (sight rows h k) place e)
    among i n = subst (IsIn i) (sym has.before.items) (append_right has.before.passed n)

    pub young_run : IsYoungRun rows now has.objects.passed found
    young_run =
        let least = has.least in
        let within = has.within in
        let high = c.scan.high in
        let up = c.scan.up in
        let above = has.above in
        let start = c.above in
        let same = bound in
        record {
          listed = all_members (λ (i : Item). IsIn i (heap_items rows now)) has.objects.passed (λ i n.
              c.listed i (among i (subst (IsIn i) (sym has.objects.items)
              (append_left (items_between (sight rows h k) (piece_end found) e) n)))
              (may_object h i (all_at (λ (j : Item). may_fit h j ≡ true) n has.objects.alike)));
          objects = all_members (λ (i : Item). is_object i ≡ true) has.objects.passed (λ i n.
              may_object h i (all_at (λ (j : Item). may_fit h j ≡ true) n has.objects.alike));
          young = all_members (λ (i : Item). is_older_item (layout_in rows now) (item_piece i) ≡ false)
              has.objects.passed (λ i n.
              may_young rows h now i c.shape (all_at (λ (j : Item). may_fit h j ≡ true) n has.objects.alike));
          side_by_side = has.objects.side_by_side;
          least = least;
          small = omega (arith, within, high, up, above, least);
          above = omega (arith, above, start, same);
          inside = all_members (λ (i : Item). stands_in (ephemeral (frame now)) i.place ≡ true) has.objects.passed
              (λ i n.
              may_inside h now i c.shape (all_at (λ (j : Item). may_fit h j ≡ true) n has.objects.alike));
          below = (let high = c.low in
              let top = upper in omega (arith, within, high, top));
        }

    pub fewer : (mid : HeapView) (n : ℕ) (o : Option Piece) → HasFitted rows now mid has.objects.passed found n o
        → n ≤ found.size
    fewer mid n None (same, zero) = omega (arith, zero)
    fewer mid n (Some item) (gone, size) = omega (arith, size)

    module _ (mid : HeapView) (next : IsHeap mid) where
      go : (n : ℕ) (o : Option Piece) → lowest_item found.size (older_items (layout_in rows now)) ≡ o
          → HasFitted rows now mid has.objects.passed found n o
          → IsHeld rows mid × SameShape now mid × SameAhead now mid (piece_end found) e
          × ((i : Item) → IsIn i (heap_items rows now) → is_object i ≡ true → piece_end found ≤ i.place
          → IsIn i (heap_items rows mid))
      go n None l (same, zero) =
          subst (λ (g : HeapView). IsHeld rows g × SameShape now g × SameAhead now g (piece_end found) e
          × ((i : Item) → IsIn i (heap_items rows now) → is_object i ≡ true → piece_end found ≤ i.place
          → IsIn i (heap_items rows g))) (sym same)
          (c.held, SameShape-refl now, (λ b z low high. refl), λ i n object above. n)
      go n (Some item) l (gone, size) =
          let there = (lowest_is found.size (older_items (layout_in rows now)) item l).0 in
          let end = c.older.below item there in
          let up = young_run.above in (
            gone.carried.held,
            gone.carried.shape,
            (λ b z low high. gone.carried.words b z (inr (omega (arith, low, end, up))) (inr low)),
            λ i n object above. behind_stays rows now mid has.objects.passed found item c.heap c.held next
                (omega (arith, end, up)) gone.carried i n object above,
          )

      -- the loop goes on behind the run
      pub going_on : (n : ℕ)
          → ((is : List Item) → IsYoungRun rows now is found
          → HasFitted rows now mid is found n (lowest_item found.size (older_items (layout_in rows now))))
          → AreOlder (layout_in rows mid) → (then_hints : List Hint) → AreHints rows mid then_hints
          → IsGoingOn rows h mid k from e (piece_end found) (bytes + n) then_hints
      going_on n fitted older then_hints are =
          let gone = fitted has.objects.passed young_run in
          let (held, shape, words, stay) =
          go n (lowest_item found.size (older_items (layout_in rows now))) refl gone in
          let few = fewer mid n (lowest_item found.size (older_items (layout_in rows now))) gone in
          let up = has.above in
          let start = c.above in
          let count = c.count in
          record {
            heap = next;
            held = held;
            shape = SameShape-trans h now mid c.shape shape;
            older = older;
            hints = are;
            same = λ b z low high. words b z low high ∙ c.same b z (omega (arith, low, up)) high;
            scan = has.objects.scan;
            listed = λ i n object.
                let there = among i (subst (IsIn i) (sym has.objects.items)
                (append_right has.objects.passed n)) in
                stay i (c.listed i there object) object (ends i n);
            above = omega (arith, up, start);
            low = c.low;
            count = omega (arith, count, few, up);
            order = λ o. c.order (subst (AreInOrder place) (sym has.plugs) (up, o));
            steps = λ final more s.
                let assoc : bytes + (n + more) ≡ bytes + n + more = omega arith in
                subst (HavePassed rows h final (fitting_between rows h k from e)) assoc
                (c.steps final (n + more)
                (subst (λ (ps : List Plug). HavePassed rows now final ps (n + more)) (sym has.plugs) (
                  mid,
                  n,
                  more,
                  record {
                    next = next;
                    older = c.older;
                    run = has.objects.passed;
                    is = young_run;
                    fitted = gone;
                  },
                  s,
                  refl,
                )));
          }
        where
          ends : (i : Item) → IsIn i (items_between (sight rows h k) (piece_end found) e) → piece_end found ≤ i.place
          ends i n =
              let is = all_at (IsItem rows (piece_end found) e) n
              (items-are (sight rows h k) (parts e (sight rows h k) (piece_end found) e) (piece_end found) e
              has.objects.scan.walk.start has.objects.scan.walk.spelled) in
              is.above

-- the fit was made where no plug is ahead
pub going_ends : (rows : List TypeRow) (h now : HeapView) (k from e place bytes : ℕ) (hints : List Hint) → IsHeap h
    → IsHeld rows h → IsGoingOn rows h now k from e place bytes hints → fitting_between rows now k place e ≡ []
    → HasMade rows h now from (fit (fitting_between rows h k from e) (older_items (layout_in rows h))) bytes
going_ends rows h now k from e place bytes hints heap held c none =
    let nothing : fitting_between rows h k place e ≡ [] =
    sym (ap fitting_plugs (plugs-same rows h now k place e c.shape c.same c.scan)) ∙ none in
    let all : bytes + 0 ≡ bytes = omega arith in
    plugs_passed rows h now from (fitting_between rows h k from e) bytes heap held c.heap
    (c.order (subst (AreInOrder place) (sym nothing) tt))
    (subst (HavePassed rows h now (fitting_between rows h k from e)) all
    (c.steps now 0 (subst (λ (ps : List Plug). HavePassed rows now now ps 0) (sym nothing) (refl, refl))))
