-- A birth at the front of a thread's context: what the heap holds after it.
use Rattle.std.proofs.Common.{◌≡◌, ◌≢◌, ◌⊎◌, inl, inr, ℕ, ◌+◌, ◌-◌, ◌<◌, ◌≤◌, false, List, [], ◌∷◌, ◌++◌, get_or}
use Rattle.std.proofs.Common.{length, set, Option, None, Some, slice_set, refl, ap, ap₂, sym, ◌∙◌, subst, subst₂, arith}
use Rattle.std.proofs.lemmas.Bool.{cases_Bool, cases_eq, eq-eqb, le-ltb, lt-ltb, ne_eqb}
use Rattle.std.proofs.lemmas.List.{append_assoc, length-set}
use Rattle.std.proofs.lemmas.Option.{slice_get-get_or}
use Rattle.clr_types.specs.Rising.{IsRisingBy, sorted_by}
use Rattle.clr_types.specs.Ranges.{Piece, piece_end, range_piece}
use Rattle.clr_types.specs.Types.{TypeRow, form_at, size_of}
use Rattle.clr_types.specs.Segments.{empty_segment, flat_option, Layout, rest_of, same_kind}
use Rattle.clr_types.specs.declared.item.Item.{Item}
use Rattle.clr_types.specs.declared.segment.SegInfo.{SegInfo}
use Rattle.clr_types.specs.declared.segment.SegKind.TheVariants.{Ephemeral}
use Rattle.clr_heap.specs.Parts.{Among, item_part, items_in, made_item, Part, replace_run, rest_part, rest_parts}
use Rattle.clr_heap.specs.Parts.{start_of}
use Rattle.clr_heap.specs.View.{AreWalkable, first_of, frame, heap_items, HeapView, IsHeap, IsWalkable, last_of}
use Rattle.clr_heap.specs.View.{listing, listings, parts_of, PartsAre, placed, rest_between, SameShape, segment_at}
use Rattle.clr_heap.specs.View.{sight, word_of}
use Rattle.clr_heap.proofs.Framing.{lawful_at}
use Rattle.clr_heap.proofs.Holes.{drawn_run}
use Rattle.clr_heap.proofs.Staying.{parts_stay, stays_placed, stays_rested}
use Rattle.clr_model.specs.Machine.{Object}
use Rattle.clr_model.specs.Allocation.{context_front, front_of, front_taken, rest_end}
use Rattle.clr_model.specs.Updates.{option_piece}
use Rattle.clr_view.specs.View.{free_among, free_in, HasNewborn, IsContext, IsHeld, layout_in, newborn_at}
use Rattle.clr_view.specs.View.{objects_among, objects_in, tail_of}
use Rattle.clr_view.specs.Births.{with_newborn}
use Rattle.clr_view.proofs.Cuts.{among-either, among-left, among-right, items-of-rest}
use Rattle.clr_view.proofs.Fronts.{above-stays, alone, among, below-stays, between-some, bounds, clear-above, cut}
use Rattle.clr_view.proofs.Fronts.{FitsFront, headed, hole, k, leaves, newborn-is, other-apart, other-least}
use Rattle.clr_view.proofs.Fronts.{others-stay, own, rest-either, up-to, walk, young}
use Rattle.clr_view.proofs.Items.{items-are, objects-stay}
use Rattle.clr_view.proofs.Listings.{free-append, heap-cut, heap-rise, items-append, listing-are, listings-agree}
use Rattle.clr_view.proofs.Listings.{objects-agree, objects-append}
use Rattle.clr_view.proofs.Rises.{objects-rise, sorted-between}
use Rattle.clr_view.proofs.Tails.{kind-young, only-young, same-kind-is}

-- what holds of a heap holds where words and rests alone changed
pub heap-rested : (h new : HeapView) (rests : List (Option Piece)) → IsHeap h → SameShape h new
    → length rests ≡ length h.rests → IsHeap (record new { rests = rests })
heap-rested h new rests heap shape count =
    subst (λ (g : HeapView). IsHeap (record g { rests = rests })) (sym shape.others) (record {
      memories = shape.memories ∙ heap.memories;
      segments = heap.segments;
      highest = heap.highest;
      disjoint = heap.disjoint;
      below_top = heap.below_top;
      one_ephemeral = heap.one_ephemeral;
      ephemeral_last = heap.ephemeral_last;
      top_aligned = heap.top_aligned;
      top_small = heap.top_small;
      within_limit = heap.within_limit;
      limit_small = heap.limit_small;
      threads = count ∙ heap.threads;
    })

-- what is left between two places, as a list and as an option
option-rest : (low high : ℕ) → low ≤ high → option_piece (range_piece low high) ≡ rest_between low high
option-rest low high l = elim (cases_eq low high) [
  | inl same ↦
      let stop = le-ltb low high (omega arith) in
      let hit = eq-eqb low high same in
      rw (stop, hit) refl
  | inr apart ↦
      let go = lt-ltb low high (omega arith) in
      let miss = ne_eqb low high apart in
      rw (go, miss) refl
]

module _ (rows : List TypeRow) (h : HeapView) (thread : ℕ) (r : Piece) (t n : ℕ)
    (f : FitsFront rows h thread r t n) where
  abbrev a : ℕ
  a = r.place

  abbrev last : ℕ
  last = a + size_of (form_at rows t) n

  abbrev high : ℕ
  high = piece_end r

  abbrev p : HeapView
  p = headed rows h thread r t n f

  abbrev e : ℕ
  e = k rows h thread r t n f

  abbrev rests : List (Option Piece)
  rests = set h.rests (thread - 1) (rest_between last high)

  -- the heap after the birth
  abbrev pub grown : HeapView
  grown = record p { rests = rests }

  abbrev newborn : Item
  newborn = made_item rows a t n

  abbrev in_range : e < length h.segments
  in_range = (young rows h thread r t n f).in_range

  thread-there : thread - 1 < length h.rests
  thread-there = let pos = f.positive in let few = f.few in let count = f.heap.threads in omega arith

  same_but_words : p ≡ record h { memories = p.memories }
  same_but_words = (leaves rows h thread r t n f).shape.others

  segments-are : p.segments ≡ h.segments
  segments-are = ap (λ (g : HeapView). g.segments) same_but_words

  -- it is a heap
  pub heap-grown : IsHeap grown
  heap-grown =
      heap-rested h p rests f.heap (leaves rows h thread r t n f).shape
      (length-set h.rests (thread - 1) (rest_between last high))

  -- ---- the parts of each segment

  abbrev new-parts : List Part
  new-parts = item_part newborn ∷ rest_parts last high

  here-parts : PartsAre rows grown e (replace_run (parts_of rows h e) a high new-parts)
  here-parts =
      let w = walk rows h thread r t n f in
      let kind = kind-young h e f.heap (young rows h thread r t n f) in
      let l = leaves rows h thread r t n f in
      let least = (hole rows h thread r t n f).least in
      let up = up-to rows h thread r t n f in
      let size = f.item.least in
      let count : r.size ≡ high - a = omega arith in
      let had : get_or h.rests (thread - 1) None ≡ Some (record { place = a; size = high - a }) =
      f.rest ∙ ap (λ (s : ℕ). Some (record { place = a; size = s })) count in
      let none = alone rows h thread r t n f in
      let drawn = drawn_run rows h e (thread - 1) w kind thread-there p a high t n l had (among rows h thread r t n f)
      (none a (omega arith) (omega arith)) f.item f.room (λ ne. none last (omega arith) (omega arith)) in
      let had_rests : p.rests ≡ h.rests = ap (λ (g : HeapView). g.rests) same_but_words in
      subst (λ (rs : List (Option Piece)).
      PartsAre rows (record p { rests = set rs (thread - 1) (rest_between last high) }) e
      (replace_run (parts_of rows h e) a high new-parts)) had_rests drawn

  other-parts : (j : ℕ) → j < length h.segments → j ≢ e → PartsAre rows grown j (parts_of rows h j)
  other-parts j l ne =
      let b = bounds rows h thread r t n f in
      let least = (hole rows h thread r t n f).least in
      let lawful = lawful_at h e f.heap in_range in
      let end = lawful.high in
      let written =
      parts_stay rows h p j j (f.held.walkable j l)
      (stays_placed rows h p j e a t n f.heap l in_range ne b.0 (omega arith) (leaves rows h thread r t n f)) in
      let kinds : (segment_at p j).kind ≡ (segment_at h j).kind =
      ap (λ (ss : List SegInfo). (get_or ss j empty_segment).kind) segments-are in
      let old : same_kind (segment_at p j).kind Ephemeral ≡ false =
      elim (cases_Bool (same_kind (segment_at p j).kind Ephemeral)) [
        | inl is ↦ absurd (ne
            (only-young h e f.heap (young rows h thread r t n f) j l
            (sym kinds ∙ same-kind-is (segment_at p j).kind is)))
        | inr not ↦ not
      ] in
      let rested = parts_stay rows p grown j j written.walkable (stays_rested p j rests old) in
      record { walkable = rested.walkable; parts = rested.parts ∙ written.parts }

  pub walkable-grown : AreWalkable rows grown
  walkable-grown j l =
      let count = ap length segments-are in
      elim (cases_eq j e) [
        | inl same ↦ subst (IsWalkable rows grown) (sym same) here-parts.walkable
        | inr other ↦ (other-parts j (omega arith) other).walkable
      ]

  -- ---- the items

  abbrev below : List Item
  below = listings rows h 0 e

  abbrev low-parts : List Part
  low-parts = (cut rows h thread r t n f).below

  abbrev high-parts : List Part
  high-parts = (cut rows h thread r t n f).above

  abbrev lower-items : List Item
  lower-items = items_in low-parts

  abbrev higher-items : List Item
  higher-items = items_in high-parts

  abbrev above : List Item
  above = listings rows h (e + 1) (length h.segments - (e + 1))

  here-was : listing rows h e ≡ lower-items ++ higher-items
  here-was = ap items_in (cut rows h thread r t n f).whole ∙ items-append low-parts (rest_part a high ∷ high-parts)

  here-is : listing rows grown e ≡ lower-items ++ newborn ∷ higher-items
  here-is =
      ap items_in here-parts.parts
      ∙ ap items_in ((cut rows h thread r t n f).replaced new-parts)
      ∙ items-append low-parts (new-parts ++ high-parts)
      ∙ ap (λ is. lower-items ++ newborn ∷ is) (items-of-rest last high high-parts)

  items-were : heap_items rows h ≡ below ++ ((lower-items ++ higher-items) ++ above)
  items-were = heap-cut rows h e (length h.segments) in_range ∙ ap (λ is. below ++ (is ++ above)) here-was

  -- the new item stands where the context began
  pub items-grown : heap_items rows grown ≡ below ++ ((lower-items ++ newborn ∷ higher-items) ++ above)
  items-grown =
      let l = in_range in
      let low : listings rows grown 0 e ≡ below =
      listings-agree rows rows h grown 0 e
      (λ j up down. ap items_in (other-parts j (omega arith) (λ same. omega arith)).parts) in
      let up : listings rows grown (e + 1) (length h.segments - (e + 1)) ≡ above =
      listings-agree rows rows h grown (e + 1) (length h.segments - (e + 1))
      (λ j up down. ap items_in (other-parts j (omega arith) (λ same. omega arith)).parts) in
      ap (listings rows grown 0) (ap length segments-are) ∙ heap-cut rows grown e (length h.segments) l
      ∙ (λ i. low i ++ (here-is i ++ up i))

  -- ---- the objects

  abbrev now : List Item → List Object
  now = objects_among rows (word_of grown)

  abbrev before : List Item → List Object
  before = objects_among rows (word_of h)

  segment-stays : (j : ℕ) → j < length h.segments → j ≢ e → now (listing rows h j) ≡ before (listing rows h j)
  segment-stays j l ne =
      objects-stay rows (word_of h) (word_of grown) (first_of h j) (last_of h j) (listing rows h j) (omega arith)
      (others-stay rows h thread r t n f j l ne) (listing-are rows h f.held.walkable j l)

  below-same : now below ≡ before below
  below-same = let l = in_range in
      objects-agree rows rows (word_of h) (word_of grown) h 0 e
      (λ j up down. segment-stays j (omega arith) (λ same. omega arith))

  above-same : now above ≡ before above
  above-same =
      objects-agree rows rows (word_of h) (word_of grown) h (e + 1) (length h.segments - (e + 1))
      (λ j up down. let l = in_range in segment-stays j (omega arith) (λ same. omega arith))

  lower-same : now lower-items ≡ before lower-items
  lower-same =
      objects-stay rows (word_of h) (word_of grown) (first_of h e) a lower-items (omega arith)
      (below-stays rows h thread r t n f)
      (items-are (sight rows h e) low-parts (first_of h e) a (walk rows h thread r t n f).start
      (cut rows h thread r t n f).low_spelled)

  higher-same : now higher-items ≡ before higher-items
  higher-same =
      let b = bounds rows h thread r t n f in
      let least = (hole rows h thread r t n f).least in
      objects-stay rows (word_of h) (word_of grown) high (last_of h e) higher-items (omega arith)
      (above-stays rows h thread r t n f)
      (items-are (sight rows h e) high-parts high (last_of h e) (hole rows h thread r t n f).whole
      (cut rows h thread r t n f).high_spelled)

  one-object : now (newborn ∷ []) ≡ newborn_at rows a t n ∷ []
  one-object =
      let some = f.object in
      let is = ne_eqb t 0 (λ none. omega arith) in
      rw is (ap (λ o. o ∷ []) (newborn-is rows h thread r t n f))

  abbrev lower : List Object
  lower = before below ++ before lower-items

  abbrev upper : List Object
  upper = before higher-items ++ before above

  objects-were : objects_in rows h ≡ lower ++ upper
  objects-were =
      ap before items-were ∙ objects-append rows (word_of h) below ((lower-items ++ higher-items) ++ above)
      ∙ ap (λ os. before below ++ os) (objects-append rows (word_of h) (lower-items ++ higher-items) above
      ∙ ap (λ os. os ++ before above) (objects-append rows (word_of h) lower-items higher-items)
      ∙ append_assoc (before lower-items) (before higher-items) (before above))
      ∙ sym (append_assoc (before below) (before lower-items) upper)

  objects-are : objects_in rows grown ≡ lower ++ newborn_at rows a t n ∷ upper
  objects-are =
      let more : now (newborn ∷ higher-items) ≡ newborn_at rows a t n ∷ before higher-items =
      objects-append rows (word_of grown) (newborn ∷ []) higher-items
      ∙ ap₂ (λ xs ys. xs ++ ys) one-object higher-same in
      let mine : now (lower-items ++ newborn ∷ higher-items)
      ≡ before lower-items ++ newborn_at rows a t n ∷ before higher-items =
      objects-append rows (word_of grown) lower-items (newborn ∷ higher-items)
      ∙ ap₂ (λ xs ys. xs ++ ys) lower-same more in
      ap now items-grown ∙ objects-append rows (word_of grown) below ((lower-items ++ newborn ∷ higher-items) ++ above)
      ∙ ap₂ (λ xs ys. xs ++ ys) below-same
      (objects-append rows (word_of grown) (lower-items ++ newborn ∷ higher-items) above
      ∙ ap₂ (λ xs ys. xs ++ ys) mine above-same)
      ∙ ap (λ os. before below ++ os)
      (append_assoc (before lower-items) (newborn_at rows a t n ∷ before higher-items) (before above))
      ∙ sym (append_assoc (before below) (before lower-items) (newborn_at rows a t n ∷ upper))

  rise-grown : IsRisingBy (λ (o : Object). o.name) (objects_in rows grown)
  rise-grown =
      objects-rise rows (word_of grown) (heap_items rows grown) (heap-rise rows grown walkable-grown heap-grown)

  pub objects-born : objects_in rows grown ≡ sorted_by (λ o. o.name) (objects_in rows h ++ newborn_at rows a t n ∷ [])
  objects-born =
      let rise = subst (IsRisingBy (λ (o : Object). o.name)) objects-are rise-grown in
      objects-are
      ∙ sym (sorted-between (λ (o : Object). o.name) lower (newborn_at rows a t n) upper rise)
      ∙ ap (λ os. sorted_by (λ (o : Object). o.name) (os ++ newborn_at rows a t n ∷ [])) (sym objects-were)

  -- ---- the free items

  pub free-same : free_in rows grown ≡ free_in rows h
  free-same =
      let some = f.object in
      let is = ne_eqb t 0 (λ none. omega arith) in
      let none : free_among (newborn ∷ higher-items) ≡ free_among higher-items = rw is refl in
      let mine : free_among (lower-items ++ newborn ∷ higher-items) ≡ free_among (lower-items ++ higher-items) =
      free-append lower-items (newborn ∷ higher-items) ∙ ap (λ ps. free_among lower-items ++ ps) none
      ∙ sym (free-append lower-items higher-items) in
      let rest : free_among ((lower-items ++ newborn ∷ higher-items) ++ above)
      ≡ free_among ((lower-items ++ higher-items) ++ above) =
      free-append (lower-items ++ newborn ∷ higher-items) above ∙ ap (λ ps. ps ++ free_among above) mine
      ∙ sym (free-append (lower-items ++ higher-items) above) in
      ap free_among items-grown ∙ free-append below ((lower-items ++ newborn ∷ higher-items) ++ above)
      ∙ ap (λ ps. free_among below ++ ps) rest
      ∙ sym (free-append below ((lower-items ++ higher-items) ++ above)) ∙ ap free_among (sym items-were)

  -- ---- contexts

  new-among : (m : Part) → Among (low-parts ++ (new-parts ++ high-parts)) m → Among (parts_of rows grown e) m
  new-among m there = subst (λ ps. Among ps m) (sym (here-parts.parts ∙ (cut rows h thread r t n f).replaced new-parts))
      there

  only-here : (m : ℕ) → m < length grown.segments → (segment_at grown m).kind ≡ Ephemeral → m ≡ e
  only-here m l kind =
      let count = ap length segments-are in
      only-young h e f.heap (young rows h thread r t n f) m (omega arith)
      (sym (ap (λ (ss : List SegInfo). (get_or ss m empty_segment).kind) segments-are) ∙ kind)

  -- what is left of the context
  left-context : last ≢ high → IsContext rows grown (record { place = last; size = high - last })
  left-context ne =
      let up = up-to rows h thread r t n f in
      let end : last + (high - last) ≡ high = omega arith in
      let miss = ne_eqb last high ne in
      let hole : Among (rest_parts last high) (rest_part last high) = rw miss (inl refl) in
      let there : Among (parts_of rows grown e) (rest_part last high) =
      new-among (rest_part last high)
      (among-right low-parts (new-parts ++ high-parts) (rest_part last high)
      (inr (among-left (rest_parts last high) high-parts (rest_part last high) hole))) in
      let P : ℕ → ℕ → Type 0 = λ m q. Among (parts_of rows grown m) (rest_part last q) in
      let start : grown.start0 ≡ h.start0 = ap (λ (g : HeapView). g.start0) same_but_words in
      let least = f.item.least in
      let low = (own rows h thread r t n f).young in
      record {
        among = λ m l kind. subst₂ P (sym (only-here m l kind)) (sym end) there;
        young = omega arith;
        clear = λ b z low high. clear-above rows h thread r t n f b z low (omega arith);
      }

  -- that of another thread
  other-context : (j : ℕ) (q : Piece) → j ≢ thread - 1 → get_or h.rests j None ≡ Some q → IsContext rows grown q
  other-context j q ne is =
      let old = f.held.contexts j q is in
      let least = other-least rows h thread r t n f j q is in
      let apart = other-apart rows h thread r t n f j q ne is in
      let own_least = (hole rows h thread r t n f).least in
      let part = rest_part q.place (piece_end q) in
      let was : Among (low-parts ++ rest_part a high ∷ high-parts) part =
      subst (λ ps. Among ps part) (cut rows h thread r t n f).whole
      (old.among e in_range (kind-young h e f.heap (young rows h thread r t n f))) in
      let there : Among (parts_of rows grown e) part =
      new-among part (elim (among-either low-parts (rest_part a high ∷ high-parts) part was) [
        | inl l ↦ among-left low-parts (new-parts ++ high-parts) part l
        | inr more ↦ elim more [
          | inl same ↦ let at : q.place ≡ a = ap start_of same in
              elim apart [ inl l ↦ absurd (omega arith) | inr l ↦ absurd (omega arith) ]
          | inr l ↦ among-right low-parts (new-parts ++ high-parts) part (among-right new-parts high-parts part l)
        ]
      ]) in
      let start : grown.start0 ≡ h.start0 = ap (λ (g : HeapView). g.start0) same_but_words in
      let young_start = old.young in
      record {
        among = λ m l kind. subst (λ i. Among (parts_of rows grown i) part) (sym (only-here m l kind)) there;
        young = omega arith;
        clear = λ b z low up.
            (leaves rows h thread r t n f).others b z
            (λ same. elim apart [ inl l ↦ omega arith | inr l ↦ omega arith ])
            (λ same. elim apart [ inl l ↦ omega arith | inr l ↦ omega arith ])
            (λ same. elim apart [ inl l ↦ omega arith | inr l ↦ omega arith ])
            ∙ old.clear b z low up;
      }

  -- no other context begins where what is left does
  left-alone : (j : ℕ) (q : Piece) → j ≢ thread - 1 → get_or h.rests j None ≡ Some q → last ≢ high → q.place ≢ last
  left-alone j q ne is more same =
      let up = up-to rows h thread r t n f in
      let size = f.item.least in
      let least = other-least rows h thread r t n f j q is in
      elim (other-apart rows h thread r t n f j q ne is) [ inl l ↦ omega arith | inr l ↦ more (omega arith) ]

  context-either : (j : ℕ) (q : Piece) → get_or rests j None ≡ Some q
      → ((j ≡ thread - 1) × (last ≢ high) × (record { place = last; size = high - last } ≡ q)) ⊎ ((j ≢ thread - 1)
      × (get_or h.rests j None ≡ Some q))
  context-either j q is = elim (rest-either h.rests (thread - 1) j (rest_between last high) q thread-there is) [
    | inl here ↦ let some = between-some last high q here.1 in inl (here.0, some.0, some.1)
    | inr other ↦ inr other
  ]

  pub held-grown : IsHeld rows grown
  held-grown = record {
    walkable = walkable-grown;
    contexts = λ j q is. elim (context-either j q is) [
      | inl here ↦ subst (IsContext rows grown) here.2 (left-context here.1)
      | inr other ↦ other-context j q other.0 other.1
    ];
    apart = λ i j q s is there same. elim (context-either i q is) [
      | inl here ↦ elim (context-either j s there) [
        | inl too ↦ here.0 ∙ sym too.0
        | inr other ↦ absurd (left-alone j s other.0 other.1 here.1
            (sym same ∙ sym (ap (λ (x : Piece). x.place) here.2)))
      ]
      | inr other ↦ elim (context-either j s there) [
        | inl here ↦ absurd (left-alone i q other.0 other.1 here.1 (same ∙ sym (ap (λ (x : Piece). x.place) here.2)))
        | inr too ↦ f.held.apart i j q s other.1 too.1 same
      ]
    ];
    young = subst (λ (g : HeapView). g.start0 ≤ tail_of g) (sym same_but_words) f.held.young;
  }

  -- ---- the layout

  pub rest-is : rest_of (frame h) thread ≡ Some r
  rest-is = ap flat_option (slice_get-get_or h.rests (thread - 1) None thread-there) ∙ f.rest

  pub front-is : context_front (frame h) thread ≡ a
  front-is = ap front_of rest-is

  pub end-is : rest_end (rest_of (frame h) thread) ≡ high
  end-is = ap rest_end rest-is

  layout-born : layout_in rows grown ≡ front_taken (layout_in rows h) thread (size_of (form_at rows t) n)
  layout-born =
      let size = size_of (form_at rows t) n in
      let taken : Option Piece → Layout =
      λ o. record (layout_in rows h) {
        rests = slice_set h.rests (thread - 1)
            (option_piece (range_piece (front_of o + size) (rest_end o)));
      } in
      let left = option-rest last high (up-to rows h thread r t n f) in
      (λ i. record {
        segments = segments-are i;
        start1 = (same_but_words i).start1;
        start0 = (same_but_words i).start0;
        free = free-same i;
        rests = set h.rests (thread - 1) (sym left i);
        top = (same_but_words i).top;
      })
      ∙ sym (ap taken rest-is)

  -- A BIRTH AT THE FRONT: one object more, and all else that the heap holds stays
  pub born_at_front : HasNewborn rows h grown thread t n
  born_at_front = record {
    objects = objects-born
        ∙ ap (λ q. sorted_by (λ (o : Object). o.name) (objects_in rows h ++ newborn_at rows q t n ∷ [])) (sym front-is);
    layout = layout-born;
    heap = heap-grown;
    held = held-grown;
  }

  -- which heap that is
  pub grown-is : with_newborn rows h thread t n ≡ grown
  grown-is = λ i.
      record (placed rows h (front-is i) t n) {
        rests = set h.rests (thread - 1)
            (rest_between (front-is i + size_of (form_at rows t) n) (end-is i));
      }
