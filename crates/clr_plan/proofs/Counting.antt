-- Counting the items that a walk over a part meets.
use Rattle.std.proofs.Common.{◌≡◌, ℕ, ◌+◌, ◌-◌, ◌%◌, ◌^◌, ◌<◌, ◌≤◌, List, ◌++◌, refl, sym, ap, ap₂, subst, ◌∙◌}
use Rattle.std.proofs.Common.{arith, Bool, true, false, not, ◌&&◌, if◌then◌else◌, Option, Some, None}
use Rattle.std.proofs.lemmas.Bool.{and_parts}
use Rattle.clr_types.specs.Segments.{generation}
use Rattle.clr_types.specs.Types.{TypeRow}
use Rattle.clr_types.specs.declared.item.Item.{Item}
use Rattle.clr_heap.specs.Parts.{items_in, Part, parts}
use Rattle.clr_heap.specs.View.{frame, HeapView, items_between, SameShape, sight, word_of}
use Rattle.clr_heap.proofs.Spelling.{Spells-le}
use Rattle.clr_heap.proofs.Walking.{walk_done}
use Rattle.clr_view.specs.Marks.{has_mark}
use Rattle.clr_view.specs.View.{is_object}
use Rattle.clr_model.specs.Compaction.{Plug, plug_end}
use Rattle.clr_sweep.proofs.Parting.{none_between}
use Rattle.clr_sweep.proofs.Tallies.{tally-agrees, tally-append, tally-cons, tally-item}
use Rattle.clr_plan.specs.Counts.{counts_among, counts_between, counts_of, HasCounted, IsAtMost, item_counts, no_counts}
use Rattle.clr_plan.specs.Counts.{plus}
use Rattle.clr_plan.specs.Scans.{CanScan, kept_plug}
use Rattle.clr_plan.specs.declared.counts.Counts.{Counts}
use Rattle.clr_plan.proofs.BehindTheWalk.{item-word, items-same}
use Rattle.clr_plan.proofs.Looking.{begins, kept-none, kept-some}
use Rattle.clr_plan.proofs.Seen.{shape-back}
use Rattle.clr_plan.proofs.Scanning.{after, at_item, it}

pub plus-assoc : (c d e : Counts) → plus (plus c d) e ≡ plus c (plus d e)
plus-assoc c d e =
    let kept : c.kept + d.kept + e.kept ≡ c.kept + (d.kept + e.kept) = omega arith in
    let freed : c.freed + d.freed + e.freed ≡ c.freed + (d.freed + e.freed) = omega arith in
    λ j. record { kept = kept j; freed = freed j }

pub plus-none : (c : Counts) → plus c no_counts ≡ c
plus-none c =
    let kept : c.kept + 0 ≡ c.kept = omega arith in
    let freed : c.freed + 0 ≡ c.freed = omega arith in
    λ j. record { kept = kept j; freed = freed j }

pub none-plus : (c : Counts) → plus no_counts c ≡ c
none-plus c =
    let kept : 0 + c.kept ≡ c.kept = omega arith in
    let freed : 0 + c.freed ≡ c.freed = omega arith in
    λ j. record { kept = kept j; freed = freed j }

-- items before others
pub counts-append : (h : HeapView) (xs ys : List Item) → counts_among h (xs ++ ys) ≡ plus (counts_among h xs)
    (counts_among h ys)
counts-append h xs ys = ap counts_of (tally-append h xs ys)

pub at_most_up : (c : Counts) (p q : ℕ) → p ≤ q → IsAtMost c p → IsAtMost c q
at_most_up c p q l m =
    let a = m.kept in
    let b = m.freed in
    record { kept = omega arith; freed = omega arith }

-- ---- one item

-- a marked object adds one to those that are kept
kept-counts : (h : HeapView) (k : ℕ) (i : Item) (q : Plug) → ◌≡◌ {A = Option Plug} (Some q) (kept_plug h k i)
    → item_counts h i ≡ record { kept = 1; freed = 0 }
kept-counts h k i q some =
    let (object, mark) = and_parts (is_object i) (has_mark (word_of h i.place)) (kept-some h k i q some).0 in
    ap₂ (λ (o m : Bool). let c : Counts = record {
      kept = if o && m then 1 else 0;
      freed = if o && not m then 1 else 0;
    } in c) object mark

-- another item adds one to the others where it is an object
left-counts : (h : HeapView) (k : ℕ) (i : Item) → ◌≡◌ {A = Option Plug} None (kept_plug h k i) → (object : Bool)
    → object ≡ is_object i → item_counts h i ≡ record { kept = 0; freed = if object then 1 else 0 }
left-counts h k i none object is =
    go (is_object i) (has_mark (word_of h i.place)) (kept-none h k i none)
    ∙ ap (λ (o : Bool). let c : Counts = record { kept = 0; freed = if o then 1 else 0 } in c) (sym is)
  where
    go : (o m : Bool) → (o && m) ≡ false
        → ◌≡◌ {A = Counts} (record { kept = if o && m then 1 else 0; freed = if o && not m then 1 else 0 })
        (record { kept = 0; freed = if o then 1 else 0 })
    go true true e = absurd cc
    go true false e = refl
    go false m e = refl

module _ (rows : List TypeRow) (h : HeapView) (k p e : ℕ) (s : CanScan rows h k p e) where
  -- behind the end nothing is left to count
  pub counts-done : e ≤ p → counts_between rows h k p e ≡ no_counts
  counts-done l = ap (counts_among h) (walk_done (sight rows h k) h.memories p e s.walk l)

  pub scanned-up : p ≤ e
  scanned-up = Spells-le (sight rows h k) (parts e (sight rows h k) p e) p e s.walk.spelled

  counts-more : (below : p < e) → counts_between rows h k p e ≡ plus (item_counts h (it rows h k p e s below))
      (counts_between rows h k (after rows h k p e s below) e)
  counts-more below =
      ap (counts_among h) (at_item rows h k p e s below).items
      ∙ ap counts_of (tally-cons h (it rows h k p e s below)
      (items_between (sight rows h k) (after rows h k p e s below) e))

-- ---- the walk

pub counting-starts : (rows : List TypeRow) (h : HeapView) (k e p : ℕ) (before : Counts)
    → HasCounted rows h k e p before p before
counting-starts rows h k e p before = record { counts = refl; kept = omega arith; freed = omega arith }

-- one walk behind another
pub counting-then : (rows : List TypeRow) (h : HeapView) (k e p : ℕ) (before : Counts) (q : ℕ) (mid : Counts) (r : ℕ)
    (after : Counts) → HasCounted rows h k e p before q mid → HasCounted rows h k e q mid r after
    → HasCounted rows h k e p before r after
counting-then rows h k e p before q mid r after s t =
    let a = s.kept in
    let b = s.freed in
    let c = t.kept in
    let d = t.freed in
    record { counts = t.counts ∙ s.counts; kept = omega (arith, a, c); freed = omega (arith, b, d) }

-- no count is above the place
pub counted-few : (rows : List TypeRow) (h : HeapView) (k e p : ℕ) (before : Counts) (q : ℕ) (after : Counts)
    → HasCounted rows h k e p before q after → IsAtMost before p → IsAtMost after q
counted-few rows h k e p before q after s few =
    let a = s.kept in
    let b = s.freed in
    let c = few.kept in
    let d = few.freed in
    record { kept = omega (arith, a, c); freed = omega (arith, b, d) }

-- a walk that has come to the end is there
pub counting-ends : (rows : List TypeRow) (h : HeapView) (k e p : ℕ) (before : Counts) (q : ℕ) (after : Counts)
    → HasCounted rows h k e p before q after → CanScan rows h k q e → e ≤ q → HasCounted rows h k e p before e after
counting-ends rows h k e p before q after s scan l =
    let up = scanned-up rows h k q e scan in
    let same : q ≡ e = omega (arith, up, l) in
    subst (λ (n : ℕ). HasCounted rows h k e p before n after) same s

nothing-ahead : (rows : List TypeRow) (h : HeapView) (k e : ℕ) → counts_between rows h k e e ≡ no_counts
nothing-ahead rows h k e = ap (λ (ps : List Part). counts_among h (items_in ps)) (none_between (sight rows h k) e e)

-- and all are counted then
pub counted-whole : (rows : List TypeRow) (h : HeapView) (k e p : ℕ) (after : Counts)
    → HasCounted rows h k e p no_counts e after
    → (after ≡ counts_between rows h k p e) × (after.kept + p ≤ e) × (after.freed + p ≤ e)
counted-whole rows h k e p after s =
    let none = nothing-ahead rows h k e in
    let a = s.kept in
    let b = s.freed in (
      sym (plus-none after) ∙ ap (plus after) (sym none) ∙ s.counts ∙ none-plus (counts_between rows h k p e),
      omega (arith, a),
      omega (arith, b),
    )

module _ (rows : List TypeRow) (h : HeapView) (k e p : ℕ) (before : Counts) (place : ℕ) (now : Counts)
    (s : HasCounted rows h k e p before place now) (scan : CanScan rows h k place e) (below : place < e) where
  abbrev here : Item
  here = it rows h k place e scan below

  -- an item is counted by what it adds
  counts-on : (more : Counts) → item_counts h here ≡ more → IsAtMost more 1 → (size : ℕ) → size ≡ here.size
      → HasCounted rows h k e p before (place + size) (plus now more)
  counts-on more adds one size is =
      let least = (at_item rows h k place e scan below).least in
      let a = s.kept in
      let b = s.freed in
      let c = one.kept in
      let d = one.freed in
      record {
        counts = ap (λ (n : ℕ). plus (plus now more) (counts_between rows h k (place + n) e)) is
            ∙ plus-assoc now more (counts_between rows h k (after rows h k place e scan below) e)
            ∙ ap (λ (m : Counts). plus now (plus m (counts_between rows h k (after rows h k place e scan below) e)))
            (sym adds)
            ∙ ap (plus now) (sym (counts-more rows h k place e scan below)) ∙ s.counts;
        kept = omega (arith, least, a, c, is);
        freed = omega (arith, least, b, d, is);
      }

  -- a marked object
  pub counts-kept : (q : Plug) → ◌≡◌ {A = Option Plug} (Some q) (kept_plug h k here) → (size : ℕ) → size ≡ here.size
      → HasCounted rows h k e p before (place + size) (record now { kept = now.kept + 1 })
  counts-kept q some size is =
      let same : now.freed + 0 ≡ now.freed = omega arith in
      subst (λ (n : ℕ). HasCounted rows h k e p before (place + size) (record { kept = now.kept + 1; freed = n })) same
      (counts-on (record { kept = 1; freed = 0 }) (kept-counts h k here q some)
      (record { kept = omega arith; freed = omega arith }) size is)

  -- the one that begins a run
  pub counts-first : (q : Plug) → ◌≡◌ {A = Option Plug} (Some q) (kept_plug h k here)
      → HasCounted rows h k e p before (plug_end q) (record now { kept = now.kept + 1 })
  counts-first q some =
      subst (λ (n : ℕ). HasCounted rows h k e p before n (record now { kept = now.kept + 1 }))
      (sym (begins rows h k place e scan below q some).1) (counts-kept q some here.size refl)

  -- another item
  pub counts-left : ◌≡◌ {A = Option Plug} None (kept_plug h k here) → (object : Bool) → object ≡ is_object here
      → (size : ℕ) → size ≡ here.size → HasCounted rows h k e p before (place + size)
      (record now { freed = now.freed + (if object then 1 else 0) })
  counts-left none object told size is =
      let same : now.kept + 0 ≡ now.kept = omega arith in
      subst (λ (n : ℕ). HasCounted rows h k e p before (place + size)
      (record { kept = n; freed = now.freed + (if object then 1 else 0) })) same
      (counts-on (record { kept = 0; freed = if object then 1 else 0 }) (left-counts h k here none object told)
      (record { kept = omega arith; freed = few object }) size is)
    where
      few : (b : Bool) → (if b then 1 else 0) ≤ 1
      few true = omega arith
      few false = omega arith

  -- the counts stay far below what a word holds
  pub counts-fit : IsAtMost before p → (now.kept + 1 < 2 ^ 64) × (now.freed + 1 < 2 ^ 64)
  counts-fit few =
      let a = s.kept in
      let b = s.freed in
      let c = few.kept in
      let d = few.freed in
      let high = scan.high in
      (omega (arith, a, c, high, below), omega (arith, b, d, high, below))

-- ---- the heap as it was, and as the plan has left it

module _ (rows : List TypeRow) (old now : HeapView) (k p e : ℕ) (shape : SameShape old now) (ahead : (b : ℕ) → b % 8 ≡ 0
    → p ≤ b + 8 → b + 8 < e → word_of now b ≡ word_of old b) (s : CanScan rows old k p e) where
  -- what is ahead counts as before
  pub counts-same : counts_between rows now k p e ≡ counts_between rows old k p e
  counts-same =
      ap (counts_among now) (items-same rows old now k p e shape ahead s)
      ∙ ap counts_of (tally-agrees old now (items_between (sight rows old k) p e)
      (λ i n. tally-item old now i (item-word rows old now k p e shape ahead s i n)
      (ap (λ (h : HeapView). generation (frame h) i.place) shape.others)))

-- what a walk has counted in the heap as it is counts in the heap as it was, where what is ahead of it counts the same
pub counted-old : (rows : List TypeRow) (old now : HeapView) (k p e below : ℕ) → SameShape old now
    → ((b : ℕ) → b % 8 ≡ 0 → below ≤ b + 8 → word_of now b ≡ word_of old b) → below ≤ p → CanScan rows old k p e
    → (before : Counts) (q : ℕ) (after : Counts) → counts_between rows now k q e ≡ counts_between rows old k q e
    → HasCounted rows now k e p before q after → HasCounted rows old k e p before q after
counted-old rows old now k p e below shape ahead up s before q after same counted = record {
  counts = ap (plus after) (sym same) ∙ counted.counts
      ∙ ap (plus before) (counts-same rows old now k p e shape (λ b z low high. ahead b z (omega (arith, low, up))) s);
  kept = counted.kept;
  freed = counted.freed;
}

-- so it is where the walk can go on
pub ahead-same : (rows : List TypeRow) (old now : HeapView) (k p e below : ℕ) → SameShape old now
    → ((b : ℕ) → b % 8 ≡ 0 → below ≤ b + 8 → word_of now b ≡ word_of old b) → below ≤ p → (q : ℕ) → p ≤ q
    → CanScan rows now k q e → counts_between rows now k q e ≡ counts_between rows old k q e
ahead-same rows old now k p e below shape ahead up q on t =
    sym (counts-same rows now old k q e (shape-back old now shape)
    (λ b z low high. sym (ahead b z (omega (arith, low, up, on)))) t)

-- and at its end, where nothing is ahead
pub ended-same : (rows : List TypeRow) (old now : HeapView) (k e : ℕ)
    → counts_between rows now k e e ≡ counts_between rows old k e e
ended-same rows old now k e = nothing-ahead rows now k e ∙ sym (nothing-ahead rows old k e)
