-- A walk over a stretch of a segment that follows the references on it.
use Rattle.std.proofs.Common.{◌≡◌, ◌⊎◌, inl, inr, ℕ, ◌+◌, ◌^◌, ◌<◌, ◌≤◌, Bool, true, false, not, cond, List, []}
use Rattle.std.proofs.Common.{length, refl, ap, sym, ◌∙◌, subst, arith, Option, None}
use Rattle.std.proofs.lemmas.Bool.{eq-eqb, true≢false}
use Rattle.clr_types.specs.Ranges.{Piece}
use Rattle.clr_types.specs.Rising.{IsIn}
use Rattle.clr_types.specs.Segments.{generation, same_kind}
use Rattle.clr_types.specs.Types.{TypeRow}
use Rattle.clr_types.specs.declared.item.Item.{Item}
use Rattle.clr_types.specs.declared.segment.SegKind.TheVariants.{Ephemeral}
use Rattle.clr_types.proofs.ListMembers.{append_right, in_append}
use Rattle.clr_types.proofs.RisingLists.{all_at, in_cons}
use Rattle.clr_heap.specs.Memories.{memory_index}
use Rattle.clr_heap.specs.Parts.{hole_from, item_at, parts}
use Rattle.clr_heap.specs.View.{first_of, frame, HasItem, heap_items, HeapView, holes_of, items_between, last_of}
use Rattle.clr_heap.specs.View.{listing, no_rests, segment_at, sight, word_of}
use Rattle.clr_heap.proofs.Addresses.{index_is_segment}
use Rattle.clr_heap.proofs.Framing.{below_top_at, lawful_at}
use Rattle.clr_heap.proofs.Spelling.{place-item_at, Spells-le}
use Rattle.clr_heap.proofs.Walking.{walk_item}
use Rattle.clr_view.proofs.Items.{IsItem, items-are}
use Rattle.clr_view.proofs.Listed.{listed-head}
use Rattle.clr_view.proofs.Listings.{listing-are}
use Rattle.clr_scan.specs.OldParts.{AreOlder}
use Rattle.clr_scan.specs.References.{AreQuiet, IsQuiet, IsReferenceOf}
use Rattle.clr_scan.specs.Scans.{AreTraced, HasScanned, IsCursor, IsTraced}
use Rattle.clr_mark.specs.Marks.{is_condemned_place, IsClosed}
use Rattle.clr_mark.specs.Waiting.{IsGray, MarkerView}
use Rattle.clr_scan.proofs.CardScans.{ref_cell, ref_word, same-age, scanned-refl, scanned-trans, traced-from, traced-on}
use Rattle.clr_scan.proofs.Cursors.{walked_at}
use Rattle.clr_mark.proofs.Graying.{same_condemned}
use Rattle.clr_mark.proofs.Held.{remarked-refl}
use Rattle.clr_mark.proofs.Remarking.{keeps_listing}
use Rattle.clr_view.proofs.Standing.{listed_from}
use Rattle.clr_mark.proofs.Visiting.{AtItem, at_item, ahead_above, IsVisiting, visit_item}

-- where no thread has a context, no hole starts
pub none_starts : (h : HeapView) (k q : ℕ) → h.rests ≡ no_rests → hole_from (holes_of h k) q ≡ None
none_starts h k q e = go (same_kind (segment_at h k).kind Ephemeral)
  where
    go : (b : Bool) → hole_from (cond b h.rests []) q ≡ None
    go true = ap (λ (rs : List (Option Piece)). hole_from rs q) e
    go false = refl

-- ---- one item

module _ (rows : List TypeRow) (h : HeapView) (k : ℕ) (closed : IsClosed rows h) (inside : k < length h.segments)
    (p : ℕ) (listed : IsIn (item_at rows (word_of h) p) (listing rows h k)) where
  abbrev it : Item
  it = item_at rows (word_of h) p

  pub it_listed : IsIn (item_at rows (word_of h) p) (heap_items rows h)
  it_listed = listed_from rows h k it inside listed

  is : IsItem rows (first_of h k) (last_of h k) it
  is = all_at (IsItem rows (first_of h k) (last_of h k)) listed (listing-are rows h closed.held.walkable k inside)

  -- what the code needs of it
  pub record CanScanItem : Type 0 where
    pub place : (item_at rows (word_of h) p).place ≡ p
    pub head : HasItem rows h p
    pub mt_in : k ≡ memory_index h.memories p
    pub len_in : k ≡ memory_index h.memories (p + 8)
    pub room : p + 8 < 2 ^ 64
    pub fits : p + (item_at rows (word_of h) p).size < 2 ^ 62
    pub least : 24 ≤ (item_at rows (word_of h) p).size
    pub end : last_of h k ≤ 2 ^ 62

  pub can_scan_item : CanScanItem
  can_scan_item =
      let place = place-item_at rows (word_of h) p in
      let above = is.above in
      let below = is.below in
      let least = is.least in
      let lawful = (lawful_at h k closed.heap inside).high in
      let top = below_top_at h k closed.heap inside in
      let small = closed.heap.top_small in
      record {
        place = place;
        head = subst (HasItem rows h) place (listed-head rows h it closed.heap closed.held it_listed);
        mt_in = sym (index_is_segment h k p closed.heap inside (omega arith) (omega arith));
        len_in = sym (index_is_segment h k (p + 8) closed.heap inside (omega arith) (omega arith));
        room = omega arith;
        fits = omega arith;
        least = least;
        end = omega arith;
      }

  -- where it ends below the stretch, no reference stands on that
  pub ends_below : (lo a : ℕ) → p + (item_at rows (word_of h) p).size ≤ lo
      → IsReferenceOf rows (item_at rows (word_of h) p) a → lo ≤ a → ⊥
  ends_below lo a past r low =
      let c = ref_cell rows h closed it it_listed a r in
      let high = c.high in
      let place = place-item_at rows (word_of h) p in
      omega arith

  -- so it has nothing to follow where it ends below the stretch, or is free
  pub nothing_on : (lo a : ℕ) → ((item_at rows (word_of h) p).type_id.0 ≡ 0)
      ⊎ (p + (item_at rows (word_of h) p).size ≤ lo) → IsReferenceOf rows (item_at rows (word_of h) p) a → lo ≤ a → ⊥
  nothing_on lo a (inl free) r low = true≢false (sym r.object ∙ ap not (eq-eqb it.type_id.0 0 free))
  nothing_on lo a (inr past) r low = ends_below lo a past r low

-- ---- the walk

-- the item is passed: its references on the stretch are followed
pub record IsPassed (rows : List TypeRow) (h now : HeapView) (m : MarkerView) (lo hi p : ℕ) (younger : Bool)
    (i : Item) : Type 0 where
  pub below : i.place + i.size ≤ p
  pub under : i.place + i.size ≤ hi
  pub traced : (a : ℕ) → IsReferenceOf rows i a → lo ≤ a → a < hi → IsTraced h rows now m.oldest a
  pub quiet : younger ≡ false → (a : ℕ) → IsReferenceOf rows i a → lo ≤ a → a < hi
      → IsQuiet h (generation (frame h) i.place) a

pub record IsStretchScan (rows : List TypeRow) (h now : HeapView) (m n : MarkerView) (k lo hi p : ℕ)
    (younger : Bool) : Type 0 where
  pub gray : IsGray rows now n
  pub scanned : HasScanned rows h now m n
  pub visiting : IsVisiting rows h now k (IsPassed rows h now m lo hi p younger) p (last_of h k)
  pub low : first_of h k ≤ p
  pub silent : AreQuiet rows h k lo hi → younger ≡ false

module _ (rows : List TypeRow) (h : HeapView) (k : ℕ) (closed : IsClosed rows h) (inside : k < length h.segments)
    (none : h.rests ≡ no_rests) (lo hi : ℕ) (order : lo ≤ hi) where
  item_is : (i : Item) → IsIn i (listing rows h k) → IsItem rows (first_of h k) (last_of h k) i
  item_is i l = all_at (IsItem rows (first_of h k) (last_of h k)) l (listing-are rows h closed.held.walkable k inside)

  -- a reference stands inside its item
  ref_inside : (i : Item) (a : ℕ) → IsIn i (listing rows h k) → IsReferenceOf rows i a → (i.place ≤ a + 8)
      × (a + 8 < i.place + i.size)
  ref_inside i a l r = let c = ref_cell rows h closed i (listed_from rows h k i inside l) a r in (c.low, c.high)

  -- THE WALK begins at a cursor
  pub stretch_starts : (m : MarkerView) (p : ℕ) → IsGray rows h m → IsCursor rows h k p lo
      → IsStretchScan rows h h m m k lo hi p false
  stretch_starts m p gray c =
      let s = sight rows h k in
      let home = walked_at s h.memories (first_of h k) p (last_of h k) (closed.held.walkable k inside) c.aligned c.low
      c.high (λ q. none_starts h k q none)
      (λ i l. elim (c.whole i l) [ inl up ↦ inl up | inr down ↦ inr down.0 ]) in
      record {
        gray = gray;
        scanned = scanned-refl rows h m;
        visiting = record {
          remarked = remarked-refl rows h;
          walk = home.above;
          among = λ i l. subst (λ (is : List Item). IsIn i is) (sym home.items)
              (append_right (items_between s (first_of h k) p) l);
          done = λ i l. elim (c.whole i l) [
            | inl up ↦ elim (in_append (items_between s (first_of h k) p)
                (subst (λ (is : List Item). IsIn i is) home.items l)) [
                  | inl below ↦
                      let is = all_at (IsItem rows (first_of h k) p) below
                      (items-are s (parts p s (first_of h k) p) (first_of h k) p home.below.start home.below.spelled) in
                      let under = is.below in
                      let least = is.least in
                      absurd (omega arith)
                  | inr above ↦ inr above
                ]
            | inr (down, under) ↦ inl (record {
              below = down;
              under = omega arith;
              traced = λ a r low high. let c = ref_inside i a l r in absurd (let u = c.1 in omega arith);
              quiet = λ e a r low high. let c = ref_inside i a l r in absurd (let u = c.1 in omega arith);
            })
          ];
        };
        low = c.low;
        silent = λ _. refl;
      }

  module _ (now : HeapView) (m n : MarkerView) (p : ℕ) (younger : Bool)
      (s : IsStretchScan rows h now m n k lo hi p younger) where
    abbrev Done : Item → Type 0
    Done = IsPassed rows h now m lo hi p younger

    -- at the end all references on the stretch are followed
    pub stretch_traced : hi ≤ p → AreTraced h rows now m.oldest k lo hi
    stretch_traced past i a l r low high = elim (s.visiting.done i l) [
      | inl done ↦ done.traced a r low high
      | inr ahead ↦
          let up = ahead_above rows h now k Done p (last_of h k) closed.heap closed.held inside s.visiting i ahead in
          let c = ref_inside i a l r in
          absurd (reference_above i a l r (omega arith))
    ]
      where
        reference_above : (i : Item) (a : ℕ) → IsIn i (listing rows h k) → IsReferenceOf rows i a → a < i.place → ⊥
        reference_above i a l r under = let address = r.address in omega arith

    pub stretch_quiet : hi ≤ p → younger ≡ false → AreQuiet rows h k lo hi
    stretch_quiet past e i a l r low high = elim (s.visiting.done i l) [
      | inl done ↦ done.quiet e a r low high
      | inr ahead ↦
          let up = ahead_above rows h now k Done p (last_of h k) closed.heap closed.held inside s.visiting i ahead in
          let address = r.address in
          absurd (omega arith)
    ]

    -- the walk has a cursor for what follows
    pub stretch_cursor : IsCursor rows h k p hi
    stretch_cursor = record {
      low = s.low;
      high = Spells-le (sight rows h k) (parts (last_of h k) (sight rows h k) p (last_of h k)) p (last_of h k)
          s.visiting.walk.spelled;
      aligned = s.visiting.walk.start;
      whole = λ i l. elim (s.visiting.done i l) [
        | inl done ↦ inr (done.below, done.under)
        | inr ahead ↦ inl (ahead_above rows h now k Done p (last_of h k) closed.heap closed.held inside s.visiting i
            ahead)
      ];
    }

    module _ (below : p < last_of h k) where
      none_now : hole_from (holes_of now k) p ≡ None
      none_now = none_starts now k p (ap (λ (g : HeapView). g.rests) s.scanned.remarked.shape.others ∙ none)

      at : AtItem rows h now k Done p (last_of h k) closed.heap closed.held inside s.visiting below none_now
      at = at_item rows h now k Done p (last_of h k) closed.heap closed.held inside s.visiting below none_now

      pub stretch_within : p + (item_at rows (word_of now) p).size ≤ last_of h k
      stretch_within = at.within

      pub stretch_least : 24 ≤ (item_at rows (word_of now) p).size
      stretch_least = at.least

      pub stretch_same : item_at rows (word_of now) p ≡ item_at rows (word_of h) p
      stretch_same = at.same

      pub stretch_here : IsIn (item_at rows (word_of now) p) (listing rows now k)
      stretch_here = subst (λ (is : List Item). IsIn (item_at rows (word_of now) p) is)
          (sym (keeps_listing rows h now closed.heap closed.held s.scanned.remarked k inside))
          (subst (λ (i : Item). IsIn i (listing rows h k)) (sym at.same) at.here)

      pub stretch_older : AreOlder h m.oldest k hi → p < hi → is_condemned_place now n.oldest p ≡ false
      stretch_older older below = ap (λ (g : ℕ). is_condemned_place now g p) s.scanned.oldest
          ∙ same_condemned rows h now m.oldest p s.scanned.remarked ∙ older p s.low below

      -- the item at p is scanned
      module _ (new : HeapView) (o : MarkerView) (more next : Bool) (gray : IsGray rows new o)
          (q : HasScanned rows now new n o)
          (traced : (a : ℕ) → IsReferenceOf rows (item_at rows (word_of now) p) a → lo ≤ a → a < hi
          → IsTraced now rows new n.oldest a)
          (quiet : more ≡ false → (a : ℕ) → IsReferenceOf rows (item_at rows (word_of now) p) a → lo ≤ a → a < hi
          → IsQuiet now (generation (frame now) p) a)
          (silent : ((a : ℕ) → IsReferenceOf rows (item_at rows (word_of now) p) a → lo ≤ a → a < hi
          → IsQuiet now (generation (frame now) p) a) → more ≡ false)
          (split : next ≡ false → (younger ≡ false) × (more ≡ false)) (joined : younger ≡ false → more ≡ false
          → next ≡ false) where
        abbrev i : Item
        i = item_at rows (word_of h) p

        place : i.place ≡ p
        place = place-item_at rows (word_of h) p

        i_listed : IsIn i (heap_items rows h)
        i_listed = listed_from rows h k i inside at.here

        here_traced : (a : ℕ) → IsReferenceOf rows i a → lo ≤ a → a < hi → IsTraced h rows new m.oldest a
        here_traced a r low high =
            traced-from h rows now new m n a s.scanned (ref_word rows h closed i i_listed a r now s.scanned.remarked)
            (traced a (subst (λ j. IsReferenceOf rows j a) (sym at.same) r) low high)

        here_quiet : next ≡ false → (a : ℕ) → IsReferenceOf rows i a → lo ≤ a → a < hi
            → IsQuiet h (generation (frame h) i.place) a
        here_quiet e a r low high ne less =
            let word = ref_word rows h closed i i_listed a r now s.scanned.remarked in
            let w = ap (generation (frame now)) word in
            let t = same-age rows h now (word_of h a) s.scanned.remarked in
            let mine = same-age rows h now p s.scanned.remarked in
            let own = ap (generation (frame h)) place in
            quiet (split e).1 a (subst (λ j. IsReferenceOf rows j a) (sym at.same) r) low high
            (λ z. ne (sym word ∙ z)) (omega (arith, w, t, mine, own, less))

        pub stretch_silent : AreQuiet rows h k lo hi → next ≡ false
        stretch_silent all = joined (s.silent all) (silent (λ a r low high ne less.
            let r' = subst (λ j. IsReferenceOf rows j a) at.same r in
            let word = ref_word rows h closed i i_listed a r' now s.scanned.remarked in
            let w = ap (generation (frame now)) word in
            let t = same-age rows h now (word_of h a) s.scanned.remarked in
            let mine = same-age rows h now p s.scanned.remarked in
            let own = ap (generation (frame h)) place in
            all i a at.here r' low high (λ z. ne (word ∙ z)) (omega (arith, w, t, mine, own, less))))

        -- THE NEXT ITEM
        pub stretch_next : p + (item_at rows (word_of now) p).size ≤ hi
            → IsStretchScan rows h new m o k lo hi (p + (item_at rows (word_of now) p).size) next
        stretch_next under =
            let size = ap (λ (j : Item). j.size) at.same in
            let l = s.low in
            record {
              gray = gray;
              scanned = scanned-trans rows h now new m n o closed.heap closed.held s.scanned q;
              visiting = visit_item rows h now k Done p (last_of h k) closed.heap closed.held inside s.visiting below
                  none_now new (IsPassed rows h new m lo hi (p + (item_at rows (word_of now) p).size) next) q.remarked
                  (λ j a d. let b = d.below in record {
                    below = omega arith;
                    under = d.under;
                    traced = λ c r low high.
                        traced-on h rows now new m.oldest c q.kept (d.traced c r low high);
                    quiet = λ e.
                        d.quiet (split e).0;
                  })
                  (record {
                    below = omega (arith, place, size);
                    under = omega (arith, place, size, under);
                    traced =
                        here_traced;
                    quiet = here_quiet;
                  });
              low = omega arith;
              silent = stretch_silent;
            }

        -- or it reaches over the end of the stretch, and the next walk begins with it
        behind : (j : Item) → IsIn j (items_between (sight rows h k) p (last_of h k)) → (j ≡ i) ⊎ (p + i.size ≤ j.place)
        behind j ahead =
            let step = walk_item (sight rows h k) h.memories p (last_of h k) s.visiting.walk below
            (none_starts h k p none) in
            elim (in_cons (subst (λ (is : List Item). IsIn j is) step.items ahead)) [
              | inl here ↦ inl here
              | inr more ↦ inr (all_at (IsItem rows (p + i.size) (last_of h k)) more
                  (items-are (sight rows h k) (parts (last_of h k) (sight rows h k) (p + i.size) (last_of h k))
                  (p + i.size) (last_of h k) step.walk.start step.walk.spelled)).above
            ]

        pub stretch_last_scanned : HasScanned rows h new m o
        stretch_last_scanned = scanned-trans rows h now new m n o closed.heap closed.held s.scanned q

        pub stretch_last_traced : hi < p + (item_at rows (word_of now) p).size → AreTraced h rows new m.oldest k lo hi
        stretch_last_traced over j a l r low high = elim (s.visiting.done j l) [
          | inl done ↦ traced-on h rows now new m.oldest a q.kept (done.traced a r low high)
          | inr ahead ↦ elim (behind j ahead) [
            | inl is ↦ here_traced a (subst (λ x. IsReferenceOf rows x a) is r) low high
            | inr up ↦ let address = r.address in let size = ap (λ (j : Item). j.size) at.same in absurd (omega arith)
          ]
        ]

        pub stretch_last_quiet : hi < p + (item_at rows (word_of now) p).size → next ≡ false → AreQuiet rows h k lo hi
        stretch_last_quiet over e j a l r low high = elim (s.visiting.done j l) [
          | inl done ↦ done.quiet (split e).0 a r low high
          | inr ahead ↦ elim (behind j ahead) [
            | inl is ↦ subst (λ x. IsQuiet h (generation (frame h) x.place) a) (sym is)
                (here_quiet e a (subst (λ x. IsReferenceOf rows x a) is r) low high)
            | inr up ↦ let address = r.address in let size = ap (λ (j : Item). j.size) at.same in absurd (omega arith)
          ]
        ]
