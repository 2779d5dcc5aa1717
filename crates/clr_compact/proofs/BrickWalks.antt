-- A walk over the items of a part of a segment that enters its bricks.
use Rattle.std.proofs.Common.{◌≡◌, ◌≢◌, ◌⊎◌, inl, inr, ℕ, ◌+◌, ◌*◌, ◌/◌, ◌%◌, ◌<◌, ◌≤◌, Bool, true, false}
use Rattle.std.proofs.Common.{◌&&◌, List, [], ◌++◌, length, refl, ap, sym, ◌∙◌, subst, arith, leb, cond, ℤ}
use Rattle.std.proofs.Common.{Option, None}
use Rattle.std.proofs.lemmas.Bool.{and_cases, and_parts, both_ways, cases_Bool, cases_eq, cases_lt, eq-eqb, leb-false}
use Rattle.std.proofs.lemmas.Bool.{leb-true, ne_eqb}
use Rattle.clr_types.specs.Ranges.{Piece}
use Rattle.clr_types.specs.Rising.{first, IsIn, later}
use Rattle.clr_types.specs.Segments.{ephemeral, Layout, same_kind, stands_in}
use Rattle.clr_types.specs.Types.{TypeRow}
use Rattle.clr_types.specs.declared.item.Item.{Item}
use Rattle.clr_types.specs.declared.segment.SegInfo.{SegInfo}
use Rattle.clr_types.specs.declared.segment.SegKind.TheVariants.{Ephemeral}
use Rattle.clr_types.proofs.ListMembers.{append_right}
use Rattle.clr_types.proofs.SegmentFacts.{between-stands}
use Rattle.clr_bricks.specs.Bricks.{entry_at, IsRoot, root_entry}
use Rattle.clr_covers.specs.Covers.{CoverView}
use Rattle.clr_heap.specs.Parts.{hole_from, item_at, items_in, Part, parts, Sight, Spells}
use Rattle.clr_heap.specs.View.{CanWalk, first_of, frame, heap_items, HeapView, holes_of, IsHeap}
use Rattle.clr_heap.specs.View.{items_between}
use Rattle.clr_heap.specs.View.{last_of, listing, no_rests, segment_at, sight, word_of}
use Rattle.clr_heap.proofs.Framing.{lawful_at}
use Rattle.clr_heap.proofs.Spelling.{place-item_at, Spells-append, Spells-le}
use Rattle.clr_heap.proofs.Walking.{spelled_parts, walk_item}
use Rattle.clr_model.specs.Machine.{Object}
use Rattle.clr_view.specs.Items.{is_object}
use Rattle.clr_view.specs.View.{IsHeld, objects_in}
use Rattle.clr_view.proofs.Items.{stacked-apart}
use Rattle.clr_view.proofs.Listings.{heap-stacked, items-append}
use Rattle.clr_view.proofs.ObjectItems.{stands-item}
use Rattle.clr_view.proofs.Standing.{listed_from, stands_from}
use Rattle.clr_compact.specs.Entered.{AreEnteredBelow}
use Rattle.clr_compact.specs.Entering.{entered_after, is_entered, led_back, next_after}
use Rattle.clr_generations.specs.Laws.{AreEntered, IsBrickOf, may_lead, Stands}
use Rattle.clr_compact.proofs.BrickSteps.{all_entered, IsEntering, led, led-above, led-below, passed, rooted}
use Rattle.clr_compact.proofs.BrickSteps.{starts_open, starts_settled}
use Rattle.clr_generations.proofs.Homes.{brick-of, HasWholeBricks, HaveHomes}
use Rattle.clr_generations.proofs.HeapHomes.{heap_homes, young_bricks}

-- ---- one item

-- what an item that is entered is
pub record IsToEnter (layout : Layout) (i : Item) (next : ℕ) : Type 0 where
  pub object : is_object i ≡ true
  pub may : may_lead layout i.place ≡ true
  pub up : next ≤ i.place / 4096

pub to-enter : (layout : Layout) (i : Item) (next : ℕ) → is_entered layout i next ≡ true → IsToEnter layout i next
to-enter layout i next e =
    let a = and_parts (leb next (i.place / 4096)) (is_object i && may_lead layout i.place) e in
    let b = and_parts (is_object i) (may_lead layout i.place) a.1 in
    record { object = b.0; may = b.1; up = leb-true next (i.place / 4096) a.0 }

-- one that isn't, though it is an object that may be named, stands in a settled brick
settled : (layout : Layout) (i : Item) (next : ℕ) → is_entered layout i next ≡ false → is_object i ≡ true
    → may_lead layout i.place ≡ true → i.place / 4096 < next
settled layout i next e object may =
    elim (and_cases (leb next (i.place / 4096)) (is_object i && may_lead layout i.place) e) [
      | inl below ↦ leb-false next (i.place / 4096) below
      | inr more ↦ elim (and_cases (is_object i) (may_lead layout i.place) more) [
        | inl none ↦ absurd (both_ways (is_object i) none object)
        | inr never ↦ absurd (both_ways (may_lead layout i.place) never may)
      ]
    ]

module _ (layout : Layout) (entry other : ℕ → ℤ) (i : Item) (next : ℕ)
    (same : (b : ℕ) → other b ≡ entered_after layout i entry next b) where
  entered-root : is_entered layout i next ≡ true → other (i.place / 4096) ≡ root_entry (i.place % 4096)
  entered-root e = same (i.place / 4096) ∙ rw (e, eq-eqb (i.place / 4096) (i.place / 4096) refl) refl

  entered-led : is_entered layout i next ≡ true → (b : ℕ) → b ≢ i.place / 4096
      → other b ≡ led_back entry next (i.place / 4096) b
  entered-led e b ne = same b ∙ rw (e, ne_eqb b (i.place / 4096) ne) refl

  entered-none : is_entered layout i next ≡ false → (b : ℕ) → other b ≡ entry b
  entered-none e b = same b ∙ rw e refl

  -- entries of other bricks than the segment's stay
  pub stepped_others : (s : SegInfo) → HasWholeBricks s → stands_in s i.place ≡ true → s.base / 4096 < next → (b : ℕ)
      → (IsBrickOf s b → ⊥) → other b ≡ entry b
  stepped_others s whole in_s above b out = elim (cases_Bool (is_entered layout i next)) [
    | inl e ↦
        let of = brick-of s i.place whole in_s in
        let high = of.1 in
        let ne : b ≢ i.place / 4096 = λ at. out (subst (λ (c : ℕ). IsBrickOf s c) (sym at) of) in
        entered-led e b ne ∙ elim (cases_lt b next) [
          | inl below ↦ led-below entry next (i.place / 4096) b below
          | inr up ↦ elim (cases_lt b (i.place / 4096)) [
            | inl inside ↦ absurd (out (omega arith, omega arith))
            | inr past ↦ led-above entry next (i.place / 4096) b past
          ]
        ]
    | inr e ↦ entered-none e b
  ]

  -- the first brick that isn't settled moves up
  pub next-up : next ≤ next_after layout i next
  next-up = elim (cases_Bool (is_entered layout i next)) [
    | inl e ↦ let up = (to-enter layout i next e).up in rw e (omega arith)
    | inr e ↦ rw e (omega arith)
  ]

module _ (rows : List TypeRow) (layout : Layout) (objects : List Object) (s : SegInfo)
    (homes : HaveHomes rows objects s) (young : HasWholeBricks (ephemeral layout)) (entry other : ℕ → ℤ) (i : Item)
    (next : ℕ) (same : (b : ℕ) → other b ≡ entered_after layout i entry next b) where
  -- A STEP OF THE WALK
  pub stepped : IsEntering rows layout objects entry s i.place next → 24 ≤ i.size
      → (is_object i ≡ true → Stands objects i.place) → stands_in s i.place ≡ true
      → ((x : ℕ) → Stands objects x → stands_in s x ≡ true → x < i.place + i.size → (x < i.place)
      ⊎ ((x ≡ i.place) × (is_object i ≡ true)))
      → IsEntering rows layout objects other s (i.place + i.size) (next_after layout i next)
  stepped w least stands in_s step = elim (cases_Bool (is_entered layout i next)) [
    | inl e ↦
        let is = to-enter layout i next e in
        let up = is.up in
        let back = led rows layout objects s homes young entry i.place next w (i.place / 4096) up
        (λ x stands' in_x below. omega arith) in
        rw e (rooted rows layout objects s homes young (led_back entry next (i.place / 4096)) other i.place
        (i.place + i.size) back (stands is.object) in_s is.may (omega arith)
        (λ x stands' in_x below. elim (step x stands' in_x below) [
          | inl under ↦ omega arith
          | inr at ↦ let is = at.0 in omega arith
        ]) (entered-root layout entry other i next same e)
        (entered-led layout entry other i next same e))
    | inr e ↦
        let all : entry ≡ other = λ k b. sym (entered-none layout entry other i next same e b) k in
        rw e (subst (λ (f : ℕ → ℤ). IsEntering rows layout objects f s (i.place + i.size) next) all
        (passed rows layout objects s homes young entry i.place next w (i.place + i.size) (omega arith)
        (λ x stands' in_x below. elim (step x stands' in_x below) [
          | inl under ↦ inl under
          | inr at ↦ inr (at.0, λ may. settled layout i next e at.1 may)
        ])))
  ]

-- ---- the walk

-- The walk over segment k has come to a place, and `next` is the first brick that isn't settled.
pub record IsBrickWalk (rows : List TypeRow) (h : HeapView) (k : ℕ) (now : List (CoverView ℤ)) (place next : ℕ)
    : Type 0 where
  pub walk : CanWalk (sight rows h k) h.memories place (last_of h k)
  pub among : (i : Item) → IsIn i (items_between (sight rows h k) place (last_of h k)) → IsIn i (listing rows h k)
  pub low : first_of h k ≤ place
  pub entering : IsEntering rows (frame h) (objects_in rows h) (entry_at now) (segment_at h k) place next

-- where no thread has a context, no hole starts
pub no_hole : (h : HeapView) (k p : ℕ) → h.rests ≡ no_rests → hole_from (holes_of h k) p ≡ None
no_hole h k p none = go (same_kind (segment_at h k).kind Ephemeral)
  where
    go : (b : Bool) → hole_from (cond b h.rests []) p ≡ None
    go true = ap (λ (rs : List (Option Piece)). hole_from rs p) none
    go false = refl

-- the items from a place on that no item reaches over are among all
parted-among : (s : Sight) (low high : List Part) (p c e : ℕ) → Spells s p low c → Spells s c high e → (i : Item)
    → IsIn i (items_between s c e) → IsIn i (items_between s p e)
parted-among s low high p c e below above i l =
    let all = spelled_parts s (low ++ high) p e (Spells-append s low high p c e below above) in
    let some = spelled_parts s high c e above in
    subst (λ (ps : List Part). IsIn i (items_in ps)) (sym all)
    (subst (λ (is : List Item). IsIn i is) (sym (items-append low high))
    (append_right (items_in low) (subst (λ (ps : List Part). IsIn i (items_in ps)) some l)))

module _ (rows : List TypeRow) (h : HeapView) (heap : IsHeap h) (held : IsHeld rows h) (none : h.rests ≡ no_rests)
    (k : ℕ) (inside : k < length h.segments) where
  abbrev s : SegInfo
  s = segment_at h k

  abbrev homes : HaveHomes rows (objects_in rows h) (segment_at h k)
  homes = heap_homes rows h heap held k inside

  -- THE WALK BEGINS
  module _ (old : List (CoverView ℤ)) (from next : ℕ) (low : first_of h k ≤ from)
      (parted : CanWalk (sight rows h k) h.memories (first_of h k) from)
      (whole : CanWalk (sight rows h k) h.memories from (last_of h k))
      (below : AreEnteredBelow rows (frame h) (objects_in rows h) (entry_at old) (segment_at h k) from) where
    from-high : from ≤ last_of h k
    from-high = Spells-le (sight rows h k) (parts (last_of h k) (sight rows h k) from (last_of h k)) from (last_of h k)
        whole.spelled

    begun : (IsRoot (entry_at old (from / 4096)) × (next ≡ from / 4096 + 1))
        ⊎ (((last_of h k ≤ 4096 * (from / 4096)) ⊎ (IsRoot (entry_at old (from / 4096)) → ⊥))
        × (next ≡ from / 4096))
        → IsEntering rows (frame h) (objects_in rows h) (entry_at old) (segment_at h k) from next
    begun (inl (root, is)) =
        subst (λ (n : ℕ). IsEntering rows (frame h) (objects_in rows h) (entry_at old) s from n) (sym is)
        (starts_settled rows (frame h) (objects_in rows h) s homes (young_bricks h heap) (entry_at old) from low below
        root)
    begun (inr (unsettled, is)) =
        let high = from-high in
        let end = (lawful_at h k heap inside).high in
        subst (λ (n : ℕ). IsEntering rows (frame h) (objects_in rows h) (entry_at old) s from n) (sym is)
        (starts_open rows (frame h) (objects_in rows h) s homes (young_bricks h heap) (entry_at old) from low below
        (omega arith)
        (λ of root. elim unsettled [
          | inl past ↦ let under = (below.named (from / 4096) root.0 of root.1).1 in omega arith
          | inr never ↦ never root
        ]))

    pub walk_starts : (IsRoot (entry_at old (from / 4096)) × (next ≡ from / 4096 + 1))
        ⊎ (((last_of h k ≤ 4096 * (from / 4096)) ⊎ (IsRoot (entry_at old (from / 4096)) → ⊥))
        × (next ≡ from / 4096)) → IsBrickWalk rows h k old from next
    walk_starts begin = record {
      walk = whole;
      among = parted-among (sight rows h k) (parts from (sight rows h k) (first_of h k) from)
          (parts (last_of h k) (sight rows h k) from (last_of h k)) (first_of h k) from (last_of h k) parted.spelled
          whole.spelled;
      low = low;
      entering = begun begin;
    }

  module _ (now : List (CoverView ℤ)) (place next : ℕ) (w : IsBrickWalk rows h k now place next) where
    -- ---- an item on the way
    module _ (below : place < last_of h k) where
      abbrev i : Item
      i = item_at rows (word_of h) place

      -- what is known of the item at the place
      pub record CanGoOn : Type 0 where
        pub at : (item_at rows (word_of h) place).place ≡ place
        pub least : 24 ≤ (item_at rows (word_of h) place).size
        pub within : place + (item_at rows (word_of h) place).size ≤ last_of h k
        pub listed : IsIn (item_at rows (word_of h) place) (heap_items rows h)
        pub stands : stands_in (segment_at h k) place ≡ true

      pub can_go_on : CanGoOn
      can_go_on =
          let step = walk_item (sight rows h k) h.memories place (last_of h k) w.walk below (no_hole h k place none) in
          let here = w.among i (subst (λ (is : List Item). IsIn i is) (sym step.items) first) in
          let low = w.low in
          let least = step.names.least in
          let within = step.within in
          let lawful = (lawful_at h k heap inside).high in
          record {
            at = place-item_at rows (word_of h) place;
            least = least;
            within = within;
            listed = listed_from rows h k i inside here;
            stands = between-stands (segment_at h k) place low (omega arith);
          }

      -- what stands before the item's end
      before : (x : ℕ) → Stands (objects_in rows h) x → x < place + i.size
          → (x < place) ⊎ ((x ≡ place) × (is_object i ≡ true))
      before x stands under =
          let can = can_go_on in
          let at = can.at in
          let least = can.least in
          let j = stands-item rows h heap held x stands in
          let place' = j.at in
          elim (cases_eq x place) [
            | inl same ↦ inr (same, subst (λ (p : ℕ). is_object (item_at rows (word_of h) p) ≡ true) same j.object)
            | inr ne ↦ elim (stacked-apart (heap_items rows h) i (item_at rows (word_of h) x)
                (heap-stacked rows h held.walkable heap) can.listed j.listed (λ e. ne (sym place' ∙ sym e ∙ at))) [
                  | inl up ↦ absurd (omega arith)
                  | inr down ↦ elim (cases_lt x place) [ inl less ↦ inl less | inr more ↦ absurd (omega arith) ]
                ]
          ]

      -- THE NEXT ITEM
      pub walk_on : (new : List (CoverView ℤ))
          → ((b : ℕ) → entry_at new b
          ≡ entered_after (frame h) (item_at rows (word_of h) place) (entry_at now) next b)
          → IsBrickWalk rows h k new (place + (item_at rows (word_of h) place).size)
          (next_after (frame h) (item_at rows (word_of h) place) next)
      walk_on new same =
          let can = can_go_on in
          let at = can.at in
          let step = walk_item (sight rows h k) h.memories place (last_of h k) w.walk below (no_hole h k place none) in
          let low = w.low in
          let in_s = subst (λ (p : ℕ). stands_in s p ≡ true) (sym at) can.stands in
          let W : ℕ → Type 0 = λ p. IsEntering rows (frame h) (objects_in rows h) (entry_at now) s p next in
          let N : ℕ → Type 0 = λ p. IsEntering rows (frame h) (objects_in rows h) (entry_at new) s (p + i.size)
          (next_after (frame h) i next) in
          record {
            walk = step.walk;
            among = λ j l. w.among j (subst (λ (is : List Item). IsIn j is) (sym step.items) (later l));
            low = omega arith;
            entering = subst N at (stepped rows (frame h) (objects_in rows h) s homes (young_bricks h heap)
                (entry_at now) (entry_at new) i next same (subst W (sym at) w.entering) can.least
                (λ object. stands_from rows h i can.listed object) in_s
                (λ x stands in_x under. elim (before x stands (omega arith)) [
                  | inl less ↦ inl (omega arith)
                  | inr here ↦ inr (here.0 ∙ sym at, here.1)
                ]));
          }

    -- ---- the end
    module _ (past : last_of h k ≤ place) (to : ℕ) (up : next ≤ to) (end : last_of h k ≤ 4096 * to) where
      -- THE BRICKS ARE ENTERED
      pub walk_entered : AreEntered rows (frame h) (objects_in rows h) (led_back (entry_at now) next to)
          (segment_at h k)
      walk_entered =
          all_entered rows (frame h) (objects_in rows h) s homes (young_bricks h heap)
          (led_back (entry_at now) next to) place to
          (led rows (frame h) (objects_in rows h) s homes (young_bricks h heap) (entry_at now) place next w.entering to
          up
          (λ x stands in_s below.
          let at = stands.2 in
          let within = homes.within stands.0 stands.1 (subst (λ (p : ℕ). stands_in s p ≡ true) (sym at) in_s) in
          let least = homes.least stands.0 stands.1 in
          omega arith)) past end
