-- What the calls leave that give up a context and open one.
use Rattle.std.proofs.Common.{◌≡◌, ◌⊎◌, inl, inr, ℕ, zero, suc, ◌+◌, ◌-◌, ◌%◌, ◌<◌, ◌≤◌, true, List, []}
use Rattle.std.proofs.Common.{◌∷◌, ◌++◌, length, get_or, set, refl, ap, sym, ◌∙◌, subst, arith, Option, None, Some}
use Rattle.std.specs.Option.{option_map}
use Rattle.std.proofs.lemmas.Bool.{cases_Bool, leb-true}
use Rattle.std.proofs.lemmas.List.{append-nil}
use Rattle.clr_types.specs.Rising.{insert_by, IsIn}
use Rattle.clr_types.specs.Types.{TypeRow}
use Rattle.clr_types.specs.Ranges.{by_place, fits, Piece}
use Rattle.clr_types.specs.Segments.{ended_at, ephemeral, fits_in_tail, reserved_end, rest_of, same_kind}
use Rattle.clr_types.specs.Segments.{segment_or_empty}
use Rattle.clr_types.specs.declared.segment.SegInfo.{SegInfo}
use Rattle.clr_types.specs.declared.segment.SegKind.{SegKind}
use Rattle.clr_types.specs.declared.segment.SegKind.TheVariants.{Small, Ephemeral, Large, Pinned}
use Rattle.clr_types.proofs.ChangedLists.{rising-sorted, sorted_by-done}
use Rattle.clr_heap.specs.Memories.{clears, InOne}
use Rattle.clr_heap.specs.View.{first_of, frame, freed, HasHead, HeapView, IsHeap, last_of, rest_between, rest_bounds}
use Rattle.clr_heap.specs.View.{SameShape, segment_at, sight, word_of}
use Rattle.clr_heap.proofs.Addresses.{in_one_segment, InOne-shapes}
use Rattle.clr_heap.proofs.Framing.{ephemerals, lawful_at}
use Rattle.clr_heap.proofs.Placing.{head_from_walk, Placed, placed_leaves}
use Rattle.clr_heap.proofs.Young.{young_number}
use Rattle.clr_model.specs.Allocation.{from_item, from_tail, taken_from}
use Rattle.clr_model.specs.Updates.{given_up, pieces_of_option}
use Rattle.clr_view.specs.View.{free_in, IsHeld, layout_in, tail_of}
use Rattle.clr_view.proofs.Carving.{carved, Carves, wiped_in, wiped_out}
use Rattle.clr_view.proofs.Tails.{IsEphemeral}
use Rattle.clr_ctx.specs.Contexts.{IsRelaid, young_items}
use Rattle.clr_ctx.proofs.Closing.{ClosesRest, rest_at, RestAt, relaid_closed, young_closed}
use Rattle.clr_ctx.proofs.Drawing.{DrawsItem, fits_cases, item_at_piece, ItemAt, relaid_drawn, young_drawn}
use Rattle.clr_ctx.proofs.Extending.{ExtendsTail, relaid_extended, young_extended}
use Rattle.clr_items.proofs.Lists.{place}
use Rattle.clr_ctx.proofs.Resting.{between_none, between_some, free_rises, rest_is}

-- ---- the ephemeral segment

pub the_young : (h : HeapView) → IsHeap h → (k : ℕ) × IsEphemeral h k
the_young h heap =
    let one = heap.one_ephemeral in
    let found = young_number h.segments (omega arith) in
    (found.0, record { in_range = found.1; is = found.2 })

first_young : (ss : List SegInfo) → same_kind Ephemeral (segment_or_empty (ephemerals ss)).kind ≡ true
first_young [] = refl
first_young (s ∷ ss) = elim (cases_Bool (same_kind Ephemeral s.kind)) [
  | inl here ↦ rw here here
  | inr other ↦ rw other (first_young ss)
]

kind_is : (kind : SegKind) → same_kind Ephemeral kind ≡ true → kind ≡ Ephemeral
kind_is Small e = absurd cc
kind_is Ephemeral e = refl
kind_is Large e = absurd cc
kind_is Pinned e = absurd cc

pub is_young : (h : HeapView) (k : ℕ) → IsEphemeral h k → (segment_at h k).kind ≡ Ephemeral
is_young h k e =
    kind_is (segment_at h k).kind
    (subst (λ (s : SegInfo). same_kind Ephemeral s.kind ≡ true) (sym e.is) (first_young h.segments))

-- ---- giving up

pub bounds_some : (o : Option Piece) (low high : ℕ) → option_map rest_bounds o ≡ Some (low, high)
    → o ≡ Some (record { place = low; size = high - low })
bounds_some None low high e = absurd (cc)
bounds_some (Some r) low high e =
    let same : (r.place, r.place + r.size) ≡ (low, high) = cc in
    let a : r.place ≡ low = ap (λ (p : ℕ × ℕ). p.0) same in
    let b : r.place + r.size ≡ high = ap (λ (p : ℕ × ℕ). p.1) same in
    let size : r.size ≡ high - low = omega arith in
    λ i. Some (record { place = a i; size = size i })

pub bounds_none : (o : Option Piece) → option_map rest_bounds o ≡ None → o ≡ None
bounds_none None e = refl
bounds_none (Some r) e = absurd (cc)

set_none : (rs : List (Option Piece)) (i : ℕ) → get_or rs i None ≡ None → set rs i None ≡ rs
set_none [] i e = refl
set_none (r ∷ rs) zero e = ap (λ (o : Option Piece). o ∷ rs) (sym e)
set_none (r ∷ rs) (suc i) e = ap (λ (os : List (Option Piece)). r ∷ os) (set_none rs i e)

-- a thread without a context has nothing to give up
pub none_step : (rows : List TypeRow) (h : HeapView) (t : ℕ) → IsHeap h → IsHeld rows h → rest_of (frame h) t ≡ None
    → IsRelaid rows h h (given_up (layout_in rows h) t)
none_step rows h t heap held none =
    let sorted =
    sorted_by-done place (free_in rows h)
    (rising-sorted place (free_in rows h) (free_rises rows h held.walkable heap)) in
    let free : free_in rows h ≡ by_place (free_in rows h ++ pieces_of_option (rest_of (frame h) t)) =
    sym (ap (λ (o : Option Piece). by_place (free_in rows h ++ pieces_of_option o)) none
    ∙ ap by_place (append-nil (free_in rows h)) ∙ sorted) in
    let rests = set_none h.rests (t - 1) (sym (rest_is h.rests (t - 1)) ∙ none) in
    record {
      heap = heap;
      kept = refl;
      objects = refl;
      layout = λ e. record {
        segments = h.segments;
        start1 = h.start1;
        start0 = h.start0;
        free = free e;
        rests = sym rests e;
        top = h.top;
      };
      cells = λ i b listed object z low high. refl;
      free_heads = λ heads. heads;
      clean = λ clean. clean;
      limit = refl;
      held = held;
    }

module _ (rows : List TypeRow) (h : HeapView) (t : ℕ) (heap : IsHeap h) (held : IsHeld rows h) (positive : 0 < t)
    (few : t ≤ 16) where
  thread : t - 1 < length h.rests
  thread = let n = heap.threads in omega arith

  module _ (r : Piece) (rest : rest_of (frame h) t ≡ Some r) where
    had : get_or h.rests (t - 1) None ≡ Some r
    had = sym (rest_is h.rests (t - 1)) ∙ rest

    stands : (k : ℕ) → IsEphemeral h k → RestAt rows h k r
    stands k e = rest_at rows h k (t - 1) r heap held e.in_range (is_young h k e) had

    pub closed_least : 24 ≤ r.size
    closed_least = let (k, e) = the_young h heap in (stands k e).least

    pub closed_head : HasHead h r.place
    closed_head =
        let (k, e) = the_young h heap in
        let at = stands k e in
        let low = at.low in
        let high = at.high in
        let least = at.least in
        head_from_walk (sight rows h k) h (first_of h k) (last_of h k) r.place (held.walkable k e.in_range)
        (omega arith) at.aligned low (omega arith)

    pub closed_step : (mid new : HeapView) → mid ≡ freed h r.place r.size
        → new ≡ record mid { rests = set mid.rests (t - 1) (rest_between r.place r.place) }
        → IsRelaid rows h new (given_up (layout_in rows h) t) × (young_items (layout_in rows new)
        ≡ insert_by (λ q. q.place) r (young_items (layout_in rows h)))
    closed_step mid new made rested =
        let (k, e) = the_young h heap in
        let at = stands k e in
        let low = at.low in
        let least = at.least in
        let p : Placed [] h mid r.place 0 (r.size - 24) =
        subst (λ g. Placed [] h g r.place 0 (r.size - 24)) (sym made)
        (placed_leaves [] h r.place 0 (r.size - 24) closed_head) in
        let same : record mid { rests = set mid.rests (t - 1) (rest_between r.place r.place) }
        ≡ record h { memories = mid.memories; rests = set h.rests (t - 1) None } =
        ap (λ (g : HeapView). record g { rests = set g.rests (t - 1) (rest_between r.place r.place) }) p.shape.others
        ∙ ap (λ (o : Option Piece). record h { memories = mid.memories; rests = set h.rests (t - 1) o })
        (between_none r.place) in
        let f : ClosesRest h (t - 1) r mid.memories = record {
          had = had;
          shape = p.shape.memories;
          header = p.header;
          mt = p.mt;
          len = p.len refl;
          words = λ b z out. p.others b z (λ same. elim out [ inl l ↦ omega arith | inr l ↦ omega arith ])
              (λ same. elim out [ inl l ↦ omega arith | inr l ↦ omega arith ])
              (λ same. elim out [ inl l ↦ omega arith | inr l ↦ omega arith ]);
        } in
        let P : HeapView → Type 0 =
        λ g. IsRelaid rows h g (given_up (layout_in rows h) t)
        × (young_items (layout_in rows g) ≡ insert_by (λ q. q.place) r (young_items (layout_in rows h))) in
        subst P (sym (rested ∙ same)) (
          relaid_closed rows h k (t - 1) r mid.memories heap held e (is_young h k e) f thread t refl rest,
          young_closed rows h k (t - 1) r mid.memories heap held e (is_young h k e) f thread,
        )

  -- ---- a context in a free item

  module _ (p : Piece) (n : ℕ) (none : rest_of (frame h) t ≡ None) (listed : IsIn p (young_items (layout_in rows h)))
      (least : 24 ≤ n) (aligned : n % 8 ≡ 0) (within : fits n p.size ≡ true) where
    cut : (n ≡ p.size) ⊎ (n + 24 ≤ p.size)
    cut = fits_cases n p.size within

    pub drawn_within : n ≤ p.size
    drawn_within = elim cut [ inl l ↦ omega arith | inr l ↦ omega arith ]

    item : (k : ℕ) → IsEphemeral h k → ItemAt rows h k p
    item k e = item_at_piece rows h k p heap held e (is_young h k e) listed (let l = drawn_within in omega arith)

    pub drawn_low : 0x1000 ≤ p.place
    drawn_low = let (k, e) = the_young h heap in let low = (item k e).low in omega arith

    pub drawn_head : n < p.size → HasHead h (p.place + n)
    drawn_head l =
        let (k, e) = the_young h heap in
        let at = item k e in
        let low = at.low in
        let high = at.high in
        let z = at.aligned in
        let more : n + 24 ≤ p.size = elim cut [ inl same ↦ omega arith | inr more ↦ more ] in
        head_from_walk (sight rows h k) h (first_of h k) (last_of h k) (p.place + n) (held.walkable k e.in_range)
        (omega arith) (omega arith) (omega arith) (omega arith)

    pub drawn_least : n < p.size → 24 ≤ p.size - n
    drawn_least l = elim cut [ inl same ↦ omega arith | inr more ↦ omega arith ]

    pub drawn_cells : (mid : HeapView) → Carves h p n mid → InOne mid.memories (p.place - 8) n
    drawn_cells mid carves =
        let shape = (carved h p n mid cut drawn_head carves).shape.memories in
        let (k, e) = the_young h heap in
        let at = item k e in
        let low = at.low in
        let high = at.high in
        let z = at.aligned in
        let l = drawn_within in
        let end = (lawful_at h k heap e.in_range).high in
        InOne-shapes h.memories mid.memories (p.place - 8) n shape
        (in_one_segment h k (p.place - 8) heap e.in_range (omega arith) n (omega arith) aligned (omega arith)
        (omega arith))

    pub drawn_step : (mid wiped new : HeapView) → Carves h p n mid → SameShape mid wiped
        → ((b : ℕ) → b % 8 ≡ 0 → word_of wiped b ≡ clears (p.place - 8) n (word_of mid) b)
        → new ≡ record wiped { rests = set wiped.rests (t - 1) (rest_between p.place (p.place + n)) }
        → IsRelaid rows h new (from_item (layout_in rows h) t p n) × (young_items (layout_in rows new)
        ≡ taken_from p.place n (young_items (layout_in rows h)))
    drawn_step mid wiped new carves shape words rested =
        let (k, e) = the_young h heap in
        let c = carved h p n mid cut drawn_head carves in
        let low = drawn_low in
        let fit = drawn_within in
        let z0 = (item k e).aligned in
        let f : DrawsItem h p n wiped.memories = record {
          shape = shape.memories ∙ c.shape.memories;
          clear = λ b z from to. words b z ∙ wiped_in (p.place - 8) n (word_of mid) b (omega arith) (omega arith);
          header = λ more. words (p.place + n - 8) (omega arith)
              ∙ wiped_out (p.place - 8) n (word_of mid) (p.place + n - 8) (inr (omega arith)) ∙ c.header more;
          head = λ more. let w = c.head more in (
            words (p.place + n) (omega arith)
                ∙ wiped_out (p.place - 8) n (word_of mid) (p.place + n) (inr (omega arith))
                ∙ w.0,
            words (p.place + n + 8) (omega arith)
                ∙ wiped_out (p.place - 8) n (word_of mid) (p.place + n + 8) (inr (omega arith)) ∙ w.1,
          );
          words = λ b z out. words b z
              ∙ wiped_out (p.place - 8) n (word_of mid) b
              (elim out [ inl l ↦ inl (omega arith) | inr l ↦ inr (omega arith) ])
              ∙ c.words b z (elim out [ inl l ↦ inl (omega arith) | inr l ↦ inr l ]);
        } in
        let only : wiped ≡ record h { memories = wiped.memories } =
        shape.others ∙ ap (λ (g : HeapView). record g { memories = wiped.memories }) c.shape.others in
        let same : record wiped { rests = set wiped.rests (t - 1) (rest_between p.place (p.place + n)) }
        ≡ record h {
          memories = wiped.memories;
          rests = set h.rests (t - 1) (Some (record { place = p.place; size = n }));
        } =
        ap (λ (g : HeapView). record g { rests = set g.rests (t - 1) (rest_between p.place (p.place + n)) }) only
        ∙ ap (λ (o : Option Piece). record h { memories = wiped.memories; rests = set h.rests (t - 1) o })
        (between_some p.place n (omega arith)) in
        let P : HeapView → Type 0 =
        λ g. IsRelaid rows h g (from_item (layout_in rows h) t p n)
        × (young_items (layout_in rows g) ≡ taken_from p.place n (young_items (layout_in rows h))) in
        let had : get_or h.rests (t - 1) None ≡ None = sym (rest_is h.rests (t - 1)) ∙ none in
        subst P (sym (rested ∙ same)) (
          relaid_drawn rows h k (t - 1) p n wiped.memories heap held e (is_young h k e) f thread had listed least
              aligned cut t refl,
          young_drawn rows h k (t - 1) p n wiped.memories heap held e (is_young h k e) f thread had listed least aligned
              cut,
        )

  -- ---- a context behind the end

  module _ (k n : ℕ) (segment : IsEphemeral h k) (none : rest_of (frame h) t ≡ None) (begun : h.start0 ≤ tail_of h)
      (least : 24 ≤ n) (aligned : n % 8 ≡ 0) (within : fits_in_tail (ephemeral (frame h)) n ≡ true) where
    room : last_of h k + n ≤ reserved_end (segment_at h k)
    room = subst (λ (s : SegInfo). s.end + n ≤ reserved_end s) (sym segment.is)
        (leb-true ((ephemeral (frame h)).end + n) (reserved_end (ephemeral (frame h))) within)

    low_is : tail_of h ≡ last_of h k
    low_is = ap (λ (s : SegInfo). s.end) (sym segment.is)

    pub extended_cells : InOne h.memories (last_of h k - 8) n
    extended_cells =
        let here = lawful_at h k heap segment.in_range in
        let low = here.low in
        let z = here.aligned in
        let r = room in
        in_one_segment h k (last_of h k - 8) heap segment.in_range (omega arith) n (omega arith) aligned (omega arith)
        (omega arith)

    pub extended_step : (wiped rested new : HeapView) → SameShape h wiped
        → ((b : ℕ) → b % 8 ≡ 0 → word_of wiped b ≡ clears (last_of h k - 8) n (word_of h) b)
        → rested ≡ record wiped { rests = set wiped.rests (t - 1) (rest_between (last_of h k) (last_of h k + n)) }
        → new ≡ record rested { segments = set rested.segments k (ended_at (last_of h k + n) (segment_at rested k)) }
        → IsRelaid rows h new (from_tail (layout_in rows h) t n) × (young_items (layout_in rows new)
        ≡ young_items (layout_in rows h))
    extended_step wiped rested new shape words rested_is new_is =
        let here = lawful_at h k heap segment.in_range in
        let low = here.low in
        let at = low_is in
        let f : ExtendsTail h (last_of h k) n wiped.memories = record {
          shape = shape.memories;
          clear = λ b z from to. words b z ∙ wiped_in (last_of h k - 8) n (word_of h) b (omega arith) (omega arith);
          words = λ b z out. words b z
              ∙ wiped_out (last_of h k - 8) n (word_of h) b
              (elim out [ inl l ↦ inl (omega arith) | inr l ↦ inr (omega arith) ]);
        } in
        let r : Option Piece = Some (record { place = last_of h k; size = n }) in
        let first : rested ≡ record h { memories = wiped.memories; rests = set h.rests (t - 1) r } =
        rested_is ∙ ap (λ (g : HeapView).
        record g { rests = set g.rests (t - 1) (rest_between (last_of h k) (last_of h k + n)) }) shape.others
        ∙ ap (λ (o : Option Piece). record h { memories = wiped.memories; rests = set h.rests (t - 1) o })
        (between_some (last_of h k) n (omega arith)) in
        let same : new
        ≡ record h {
          memories = wiped.memories;
          rests = set h.rests (t - 1) r;
          segments = set h.segments k (ended_at (last_of h k + n) (segment_at h k));
        } =
        new_is ∙ ap (λ (g : HeapView).
        record g { segments = set g.segments k (ended_at (last_of h k + n) (segment_at g k)) }) first in
        let P : HeapView → Type 0 =
        λ g. IsRelaid rows h g (from_tail (layout_in rows h) t n)
        × (young_items (layout_in rows g) ≡ young_items (layout_in rows h)) in
        let had : get_or h.rests (t - 1) None ≡ None = sym (rest_is h.rests (t - 1)) ∙ none in
        subst P (sym same) (
          relaid_extended rows h k (t - 1) n wiped.memories heap held segment (is_young h k segment) f thread had least
              aligned room (omega arith) t refl,
          young_extended rows h k (t - 1) n wiped.memories heap held segment (is_young h k segment) f thread had least
              aligned room (omega arith),
        )
