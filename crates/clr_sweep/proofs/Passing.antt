-- The steps of a pass over a segment.
use Rattle.std.proofs.Common.{◌≡◌, ◌≢◌, ◌⊎◌, inl, inr, ℕ, ◌+◌, ◌-◌, ◌%◌, ◌^◌, ◌<◌, ◌≤◌, Bool, true, false, List, []}
use Rattle.std.proofs.Common.{◌∷◌, ◌++◌, refl, ap, sym, ◌∙◌, subst, arith, Option, None, append_assoc, if◌then◌else◌}
use Rattle.std.proofs.Common.{eqb}
use Rattle.std.proofs.lemmas.Bool.{cases_eq, eq-eqb, ne_eqb, true≢false}
use Rattle.std.proofs.lemmas.List.{map-append}
use Rattle.clr_types.specs.Ranges.{Piece}
use Rattle.clr_types.specs.Rising.{IsIn}
use Rattle.clr_types.specs.Segments.{generation}
use Rattle.clr_types.specs.Types.{TypeRow}
use Rattle.clr_types.specs.declared.item.Item.{Item}
use Rattle.clr_types.proofs.RisingLists.{in_cons}
use Rattle.clr_heap.specs.Memories.{HasWord, memory_index}
use Rattle.clr_heap.specs.Parts.{hole_from, item_at, item_part, item_parts, NamesItem, parts, Sight, Spells, unmarked}
use Rattle.clr_heap.specs.View.{CanWalk, frame, HasItem, HeapView, holes_of, items_between, SameShape, sight, stored}
use Rattle.clr_heap.specs.View.{word_of}
use Rattle.clr_heap.proofs.Rewrite.{holes_same, SameShape-refl, SameShape-stored}
use Rattle.clr_heap.proofs.Runs.{Spells-seen}
use Rattle.clr_heap.proofs.Spelling.{AgreesAt, agree_from_same, item_at-agrees, NamesItem-agrees, place-item_at}
use Rattle.clr_heap.proofs.Spelling.{SameBetween, Spells-append, Spells-le}
use Rattle.clr_heap.proofs.Storing.{HasWord-shapes, memory_index-shapes, word_in-store_in_other, word_in-store_in_same}
use Rattle.clr_heap.proofs.Walking.{walk_item}
use Rattle.clr_view.specs.View.{HaveFreeHeads}
use Rattle.clr_sweep.specs.SweptItems.{gap, is_cut, last_end, stays, swept_from, tally_among}
use Rattle.clr_heap.proofs.Framing.{SameShape-trans}
use Rattle.clr_sweep.specs.SweptSegments.{HasCell}
use Rattle.clr_sweep.specs.Passes.{CanFill, CanStep, filled, IsAtMost, item_tally, plus, stepped, stepped_heap}
use Rattle.clr_sweep.specs.declared.pass.Pass.{Pass}
use Rattle.clr_sweep.specs.declared.tally.Tally.{Tally}
use Rattle.clr_sweep.proofs.Filling.{Fills, fills}
use Rattle.clr_view.proofs.FreeHeads.{heads_joined, heads_none}
use Rattle.clr_sweep.proofs.FreeHeads.{heads_object, heads_stay}
use Rattle.clr_sweep.proofs.Tallies.{at_most_more, plus-assoc, tally-cons, tally-item}

-- items that follow one another
pub joined : (s : Sight) (xs ys : List Item) (p q e : ℕ) → Spells s p (item_parts xs) q → Spells s q (item_parts ys) e
    → Spells s p (item_parts (xs ++ ys)) e
joined s xs ys p q e h k = rw (map-append item_part xs ys) (Spells-append s (item_parts xs) (item_parts ys) p q e h k)

-- items whose words stay
pub stay_spelled : (rows : List TypeRow) (v w : HeapView) (k : ℕ) → SameShape v w → (xs : List Item) (x y : ℕ)
    → x % 8 ≡ 0 → SameBetween (word_of v) (word_of w) x y
    → Spells (sight rows v k) x (item_parts xs) y → Spells (sight rows w k) x (item_parts xs) y
stay_spelled rows v w k shape xs x y z words h =
    Spells-seen (sight rows v k) (word_of w) (holes_of w k) (item_parts xs) x y z (record {
      words = words;
      holes = λ n lo hi. ap (λ (hs : List (Option Piece)). hole_from hs n) (holes_same v w k shape);
    }) h

-- ---- a segment that is to be swept, from its first place to its end

pub record IsHome (rows : List TypeRow) (old : HeapView) (k first e : ℕ) : Type 0 where
  pub walk : CanWalk (sight rows old k) old.memories first e
  pub index : (b : ℕ) → first ≤ b + 8 → b + 8 < e → memory_index old.memories b ≡ k
  pub none : (q : ℕ) → hole_from (holes_of old k) q ≡ None
  pub up : 4096 ≤ first
  pub most : e ≤ first + 1073741824
  pub high : e ≤ 2 ^ 62

-- A pass over segment k of the heap `old` has made it `now`: what is spelled up to the last item that stays is done,
-- the free items since then are pending, and the sweep of the items ahead gives the rest.
pub record IsPassing (rows : List TypeRow) (old now : HeapView) (k first e : ℕ) (before : Tally) (pass : Pass) : Type
    0 where
  pub shape : SameShape old now
  pub walk : CanWalk (sight rows old k) old.memories pass.place e
  pub done : List Item
  pub pending : List Item
  pub low : Spells (sight rows now k) first (item_parts done) pass.last
  pub between : Spells (sight rows now k) pass.last (item_parts pending) pass.run
  pub low_heads : HaveFreeHeads (word_of now) done
  pub pending_heads : HaveFreeHeads (word_of now) pending
  pub list : swept_from (stays (word_of old)) (is_cut old) [] first first (items_between (sight rows old k) first e)
      ≡ done ++ swept_from (stays (word_of old)) (is_cut old) pending pass.run pass.place
      (items_between (sight rows old k) pass.place e)
  pub ends : last_end (stays (word_of old)) first (items_between (sight rows old k) first e)
      ≡ last_end (stays (word_of old)) pass.last (items_between (sight rows old k) pass.place e)
  pub gap : (pass.run ≡ pass.place) ⊎ (pass.run + 24 ≤ pass.place)
  pub aligned : (first % 8 ≡ 0) × (pass.last % 8 ≡ 0) × (pass.run % 8 ≡ 0)
  pub ahead : (b : ℕ) → b % 8 ≡ 0 → pass.run ≤ b + 8 → word_of now b ≡ word_of old b
  pub outside : (b : ℕ) → b % 8 ≡ 0 → (b + 8 < first) ⊎ (e ≤ b + 8) → word_of now b ≡ word_of old b
  pub kept : (i : Item) → IsIn i (items_between (sight rows old k) first e) → stays (word_of old) i ≡ true
      → ((i.place + i.size ≤ pass.run) × HasCell old now i) ⊎ IsIn i (items_between (sight rows old k) pass.place e)
  pub tally : plus pass.tally (tally_among old (items_between (sight rows old k) pass.place e))
      ≡ plus before (tally_among old (items_between (sight rows old k) first e))
  pub counted : IsAtMost pass.tally pass.place

module _ (rows : List TypeRow) (old now : HeapView) (k first e : ℕ) (before : Tally) (pass : Pass)
    (home : IsHome rows old k first e) (s : IsPassing rows old now k first e before pass) where
  abbrev p : ℕ
  p = pass.place

  -- where things stand
  pub record Bounds : Type 0 where
    pub low : first ≤ pass.last
    pub mid : pass.last ≤ pass.run
    pub high : pass.run ≤ pass.place
    pub top : pass.place ≤ e

  pub bounds : Bounds
  bounds =
      let size = s.gap in
      record {
        low = Spells-le (sight rows now k) (item_parts s.done) first pass.last s.low;
        mid = Spells-le (sight rows now k) (item_parts s.pending) pass.last pass.run s.between;
        high = elim size [ inl x ↦ omega arith | inr x ↦ omega arith ];
        top = Spells-le (sight rows old k) (parts e (sight rows old k) p e) p e s.walk.spelled;
      }

  module _ (below : pass.place < e) where
    abbrev it : Item
    it = item_at rows (word_of old) p

    abbrev next : ℕ
    next = p + it.size

    abbrev rest : List Item
    rest = items_between (sight rows old k) next e

    -- the item that the pass has come to
    pub record AtItem : Type 0 where
      pub same : item_at rows (word_of now) p ≡ it
      pub place : it.place ≡ p
      pub names : NamesItem rows (word_of old) p
      pub item : HasItem rows now p
      pub word : word_of now p ≡ word_of old p
      pub second : word_of now (p + 8) ≡ word_of old (p + 8)
      pub within : next ≤ e
      pub least : 24 ≤ it.size
      pub whole : it.size % 8 ≡ 0
      pub walk : CanWalk (sight rows old k) old.memories next e
      pub items : items_between (sight rows old k) p e ≡ it ∷ rest
      pub tally : item_tally now it ≡ item_tally old it

    pub at_item : AtItem
    at_item =
        let b = bounds in
        let high = b.high in
        let step = walk_item (sight rows old k) old.memories p e s.walk below (home.none p) in
        let z = s.walk.start in
        let w0 = s.ahead p z (omega arith) in
        let w1 = s.ahead (p + 8) (omega arith) (omega arith) in
        let head = agree_from_same (sight rows old k) (word_of now) p w0 w1 in
        let place = place-item_at rows (word_of old) p in
        record {
          same = item_at-agrees rows (word_of old) (word_of now) p head;
          place = place;
          names = step.names;
          item = record {
            names = NamesItem-agrees rows (word_of old) (word_of now) p head step.names;
            mt = HasWord-shapes old.memories now.memories p s.shape.memories step.mt;
            len = HasWord-shapes old.memories now.memories (p + 8) s.shape.memories step.len;
          };
          word = w0;
          second = w1;
          within = step.within;
          least = step.names.least;
          whole = step.names.whole;
          walk = step.walk;
          items = step.items;
          tally = tally-item old now it (ap (word_of now) place ∙ w0 ∙ sym (ap (word_of old) place))
              (ap (λ (h : HeapView). generation (frame h) it.place) s.shape.others);
        }

    -- ---- what the step needs

    has_word : (b : ℕ) → b % 8 ≡ 0 → first ≤ b + 8 → b + 8 < e → HasWord now.memories b
    has_word b z l h = HasWord-shapes old.memories now.memories b s.shape.memories (record {
      aligned = z;
      inside = home.walk.held b z l h;
    })

    in_segment : (b : ℕ) → first ≤ b + 8 → b + 8 < e → k ≡ memory_index now.memories b
    in_segment b l h = sym (home.index b l h) ∙ sym (memory_index-shapes now.memories old.memories b s.shape.memories)

    -- the run can become free, up to any place that is far enough
    pub can_fill : pass.run + 24 ≤ e → CanFill now k pass.run
    can_fill room =
        let b = bounds in
        let low = b.low in
        let mid = b.mid in
        let z = s.aligned.2 in
        let up = home.up in
        let high = home.high in
        record {
          head = record {
            above = omega arith;
            header = has_word (pass.run - 8) (omega arith) (omega arith) (omega arith);
            mt = has_word pass.run z (omega arith) (omega arith);
            len = has_word (pass.run + 8) (omega arith) (omega arith) (omega arith);
          };
          header_in = in_segment (pass.run - 8) (omega arith) (omega arith);
          mt_in = in_segment pass.run (omega arith) (omega arith);
          len_in = in_segment (pass.run + 8) (omega arith) (omega arith);
          room = omega arith;
        }

    pub can_step : CanStep rows now k pass
    can_step =
        let at = at_item in
        let b = bounds in
        let low = b.low in
        let mid = b.mid in
        let high = b.high in
        let within = at.within in
        let least = at.least in
        let small = home.high in
        let same = ap (λ (i : Item). i.size) at.same in
        record {
          item = at.item;
          mt_in = in_segment p (omega arith) (omega arith);
          len_in = in_segment (p + 8) (omega arith) (omega arith);
          room = omega (arith, same, within, small);
          least = omega (arith, same, least);
          run = s.gap;
          head = λ l. can_fill (elim s.gap [ inl x ↦ omega arith | inr x ↦ omega arith ]);
          counted = s.counted;
        }

    -- ---- what the step leaves

    -- an item that stays is below the run and has its words, or the pass has come to it, or it is further ahead
    sides : (i : Item) → IsIn i (items_between (sight rows old k) first e) → stays (word_of old) i ≡ true
        → ((i.place + i.size ≤ pass.run) × HasCell old now i) ⊎ ((i ≡ it) ⊎ IsIn i rest)
    sides i l on = elim (s.kept i l on) [
      | inl low ↦ inl low
      | inr ahead ↦ elim (in_cons (subst (λ (is : List Item). IsIn i is) at_item.items ahead)) [
        | inl here ↦
            inr (inl here)
        | inr further ↦ inr (inr further)
      ]
    ]

    -- the lists of the pass, at the item
    list_now : swept_from (stays (word_of old)) (is_cut old) [] first first (items_between (sight rows old k) first e)
        ≡ s.done ++ swept_from (stays (word_of old)) (is_cut old) s.pending pass.run p (it ∷ rest)
    list_now = s.list ∙ ap (λ (is : List Item). s.done ++ swept_from (stays (word_of old)) (is_cut old) s.pending
        pass.run p is) at_item.items

    ends_now : last_end (stays (word_of old)) first (items_between (sight rows old k) first e)
        ≡ last_end (stays (word_of old)) pass.last (it ∷ rest)
    ends_now = s.ends ∙ ap (last_end (stays (word_of old)) pass.last) at_item.items

    -- the counts with the item
    tally_now : plus (plus pass.tally (item_tally now it)) (tally_among old rest)
        ≡ plus before (tally_among old (items_between (sight rows old k) first e))
    tally_now =
        ap (λ (t : Tally). plus (plus pass.tally t) (tally_among old rest)) at_item.tally
        ∙ plus-assoc pass.tally (item_tally old it) (tally_among old rest)
        ∙ ap (plus pass.tally) (sym (tally-cons old it rest))
        ∙ ap (λ (is : List Item). plus pass.tally (tally_among old is)) (sym at_item.items)
        ∙ s.tally

    counted_now : IsAtMost (plus pass.tally (item_tally now it)) next
    counted_now = at_most_more now it pass.tally p at_item.least s.counted

    -- an item that goes, and that no boundary ends
    step_over : stays (word_of old) it ≡ false → is_cut old next ≡ false
        → IsPassing rows old now k first e before (record {
          place = next;
          run = pass.run;
          last = pass.last;
          tally = plus pass.tally (item_tally now it);
        })
    step_over off no_cut =
        let at = at_item in
        let least = at.least in
        let size = s.gap in
        record {
          shape = s.shape;
          walk = at.walk;
          done = s.done;
          pending = s.pending;
          low = s.low;
          between = s.between;
          low_heads = s.low_heads;
          pending_heads = s.pending_heads;
          list = list_now ∙ rw (off, no_cut) refl;
          ends = ends_now
              ∙ ap (λ (b : Bool). last_end (stays (word_of old)) (if b then it.place + it.size else pass.last) rest)
              off;
          gap = inr (elim size [ inl x ↦ omega arith | inr x ↦ omega arith ]);
          aligned = s.aligned;
          ahead = s.ahead;
          outside = s.outside;
          kept = λ i l on. elim (sides i l on) [
            | inl low ↦ inl low
            | inr more ↦ elim more [
              | inl is ↦ absurd (true≢false (sym on ∙ ap (stays (word_of old)) is ∙ off))
              | inr further ↦ inr further
            ]
          ];
          tally = tally_now;
          counted = counted_now;
        }

    -- ---- the run becomes free up to q, where the pass is or comes to

    module _ (q : ℕ) (zq : q % 8 ≡ 0) (pq : pass.place ≤ q) (qe : q ≤ e) (size : (pass.run ≡ q)
        ⊎ (pass.run + 24 ≤ q)) where
      abbrev new : HeapView
      new = filled now pass.run q

      fill_here : Fills rows now (filled now pass.run q) k pass.run q
      fill_here =
          let b = bounds in
          let low = b.low in
          let mid = b.mid in
          let most = home.most in
          let holes = holes_same old now k s.shape in
          fills rows now k pass.run q size s.aligned.2 zq (omega arith)
          (ap (λ (hs : List (Option Piece)). hole_from hs pass.run) holes ∙ home.none pass.run)
          (λ l. (can_fill (elim size [ inl x ↦ absurd (omega arith) | inr x ↦ omega arith ])).head)

    next_gap : (pass.run ≡ next) ⊎ (pass.run + 24 ≤ next)
    next_gap =
        let least = at_item.least in
        inr (elim s.gap [ inl x ↦ omega arith | inr x ↦ omega arith ])

    -- an item that goes, and that a boundary ends
    step_cut : stays (word_of old) it ≡ false → is_cut old next ≡ true
        → IsPassing rows old (filled now pass.run next) k first e before (record {
          place = next;
          run = next;
          last = pass.last;
          tally = plus pass.tally (item_tally now it);
        })
    step_cut off cut =
        let at = at_item in
        let b = bounds in
        let low = b.low in
        let mid = b.mid in
        let high = b.high in
        let z = s.walk.start in
        let whole = at.whole in
        let within = at.within in
        let f = fill_here next (omega arith) (omega arith) within next_gap in
        let w = filled now pass.run next in
        record {
          shape = SameShape-trans old now w s.shape f.shape;
          walk = at.walk;
          done = s.done;
          pending = s.pending ++ gap pass.run next;
          low = stay_spelled rows now w k f.shape s.done first pass.last s.aligned.0
              (λ c zc lo hi. f.others c zc (inl (omega arith))) s.low;
          between = joined (sight rows w k) s.pending (gap pass.run next) pass.last pass.run next
              (stay_spelled rows now w k f.shape s.pending pass.last pass.run s.aligned.1
              (λ c zc lo hi. f.others c zc (inl (omega arith))) s.between) f.spelled;
          low_heads = heads_stay rows now w k s.done first pass.last s.aligned.0 s.low
              (λ c zc lo hi. f.others c zc (inl (omega arith))) s.low_heads;
          pending_heads = heads_joined (word_of w) s.pending (gap pass.run next)
              (heads_stay rows now w k s.pending pass.last pass.run s.aligned.1 s.between
              (λ c zc lo hi. f.others c zc (inl (omega arith))) s.pending_heads) f.free_heads;
          list = list_now ∙ rw (off, cut) refl;
          ends = ends_now
              ∙ ap (λ (b : Bool). last_end (stays (word_of old)) (if b then it.place + it.size else pass.last) rest)
              off;
          gap = inl refl;
          aligned = (s.aligned.0, s.aligned.1, omega arith);
          ahead = λ c zc l. f.others c zc (inr l) ∙ s.ahead c zc (omega arith);
          outside = λ c zc o. f.others c zc (elim o [ inl l ↦ inl (omega arith) | inr l ↦ inr (omega arith) ])
              ∙ s.outside c zc o;
          kept = λ i l on. elim (sides i l on) [
            | inl done ↦ let end = done.0 in inl (
              omega arith,
              λ c zc lo hi. f.others c zc (inl (omega arith))
                  ∙ done.1 c zc lo hi,
            )
            | inr more ↦ elim more [
              | inl is ↦ absurd (true≢false (sym on ∙ ap (stays (word_of old)) is ∙ off))
              | inr further ↦ inr further
            ]
          ];
          tally = tally_now;
          counted = counted_now;
        }

    -- ---- an item that stays

    -- the run before it becomes free, and its mark is cleared
    pub record Unmarks (w : HeapView) : Type 0 where
      pub shape : SameShape now w
      pub here : word_of w p ≡ unmarked (word_of old p)
      pub spelled : Spells (sight rows w k) pass.run (item_parts (gap pass.run p)) p
      pub free_heads : HaveFreeHeads (word_of w) (gap pass.run p)
      pub others : (b : ℕ) → b % 8 ≡ 0 → b ≢ p → (b + 8 < pass.run) ⊎ (p ≤ b + 8) → word_of w b ≡ word_of now b

    unmarks : Unmarks (stored (filled now pass.run p) p (unmarked (word_of now p)))
    unmarks =
        let at = at_item in
        let b = bounds in
        let top = b.top in
        let z = s.walk.start in
        let v = filled now pass.run p in
        let u = unmarked (word_of now p) in
        let w = stored v p u in
        let f = fill_here p z (omega arith) top s.gap in
        let has = HasWord-shapes now.memories v.memories p f.shape.memories at.item.mt in
        record {
          shape = SameShape-stored now v p u f.shape;
          here = word_in-store_in_same v.memories p u has.inside ∙ ap unmarked at.word;
          spelled = stay_spelled rows v w k (SameShape-stored v v p u (SameShape-refl v)) (gap pass.run p) pass.run p
              s.aligned.2 (λ c zc lo hi. word_in-store_in_other v.memories p u c z zc (λ e. omega arith)) f.spelled;
          free_heads = heads_stay rows v w k (gap pass.run p) pass.run p s.aligned.2 f.spelled
              (λ c zc lo hi. word_in-store_in_other v.memories p u c z zc (λ e. omega arith)) f.free_heads;
          others = λ c zc ne o. word_in-store_in_other v.memories p u c z zc ne ∙ f.others c zc o;
        }

    -- the item is spelled as before
    still_spelled : (w : HeapView) → Unmarks w → Spells (sight rows w k) p (item_parts (it ∷ [])) next
    still_spelled w u =
        let at = at_item in
        let z = s.walk.start in
        let b = bounds in
        let high = b.high in
        let clear : unmarked (unmarked (word_of old p)) ≡ unmarked (word_of old p) = omega arith in
        let head : AgreesAt rows (word_of old) (word_of w) p = record {
          mt = ap unmarked u.here ∙ clear;
          len = λ _. u.others (p + 8) (omega arith) (λ e. omega arith) (inr (omega arith)) ∙ at.second;
        } in
        let none = ap (λ (hs : List (Option Piece)). hole_from hs p) (holes_same now w k u.shape
        ∙ holes_same old now k s.shape) ∙ home.none p in (
          none,
          sym (item_at-agrees rows (word_of old) (word_of w) p head),
          NamesItem-agrees rows (word_of old)
              (word_of w) p head at.names,
          refl,
        )

    -- and all words of its cell but its mark are
    cell_here : (w : HeapView) → Unmarks w → HasCell old w it
    cell_here w u c zc lo hi =
        let at = at_item in
        let b = bounds in
        let high = b.high in
        let place = at.place in
        elim (cases_eq c p) [
          | inl e ↦
              let on : eqb c it.place ≡ true = eq-eqb c it.place (e ∙ sym place) in
              rw on (ap (word_of w) e ∙ u.here ∙ ap (λ (a : ℕ). unmarked (word_of old a)) (sym e))
          | inr ne ↦
              let off : eqb c it.place ≡ false = ne_eqb c it.place (λ e. ne (e ∙ place)) in
              rw off (u.others c zc ne (inr (omega arith)) ∙ s.ahead c zc (omega arith))
        ]

    step_kept : stays (word_of old) it ≡ true
        → IsPassing rows old (stored (filled now pass.run p) p (unmarked (word_of now p))) k first e before
        (record { place = next; run = next; last = next; tally = plus pass.tally (item_tally now it) })
    step_kept on =
        let at = at_item in
        let b = bounds in
        let low = b.low in
        let mid = b.mid in
        let high = b.high in
        let z = s.walk.start in
        let whole = at.whole in
        let within = at.within in
        let place = at.place in
        let u = unmarks in
        let w = stored (filled now pass.run p) p (unmarked (word_of now p)) in
        let before_here : (xs : List Item) (x y : ℕ) → x % 8 ≡ 0 → y ≤ pass.run
        → Spells (sight rows now k) x (item_parts xs) y → Spells (sight rows w k) x (item_parts xs) y =
        λ xs x y zx l. stay_spelled rows now w k u.shape xs x y zx (λ c zc lo hi. u.others c zc (λ e. omega arith)
        (inl (omega arith))) in
        let heads_here : (xs : List Item) (x y : ℕ) → x % 8 ≡ 0 → y ≤ pass.run
        → Spells (sight rows now k) x (item_parts xs) y → HaveFreeHeads (word_of now) xs
        → HaveFreeHeads (word_of w) xs =
        λ xs x y zx l spelled. heads_stay rows now w k xs x y zx spelled (λ c zc lo hi. u.others c zc (λ e. omega arith)
        (inl (omega arith))) in
        record {
          shape = SameShape-trans old now w s.shape u.shape;
          walk = at.walk;
          done = s.done ++ (s.pending ++ (gap pass.run p ++ (it ∷ [])));
          pending = [];
          low = joined (sight rows w k) s.done (s.pending ++ (gap pass.run p ++ (it ∷ []))) first pass.last next
              (before_here s.done first pass.last s.aligned.0 mid s.low)
              (joined (sight rows w k) s.pending (gap pass.run p ++ (it ∷ [])) pass.last pass.run next
              (before_here s.pending pass.last pass.run s.aligned.1 (omega arith) s.between)
              (joined (sight rows w k) (gap pass.run p) (it ∷ []) pass.run p next u.spelled (still_spelled w u)));
          between = refl;
          low_heads = heads_joined (word_of w) s.done (s.pending ++ (gap pass.run p ++ (it ∷ [])))
              (heads_here s.done first pass.last s.aligned.0 mid s.low s.low_heads)
              (heads_joined (word_of w) s.pending (gap pass.run p ++ (it ∷ [])) (heads_here s.pending pass.last pass.run
              s.aligned.1 (omega arith) s.between s.pending_heads)
              (heads_joined (word_of w) (gap pass.run p) (it ∷ []) u.free_heads
              (heads_object (word_of w) (word_of old) it on)));
          pending_heads = heads_none (word_of w);
          list = list_now ∙ rw on (simp append_assoc);
          ends = ends_now
              ∙ ap (λ (b : Bool). last_end (stays (word_of old)) (if b then it.place + it.size else pass.last) rest) on
              ∙ ap (λ (a : ℕ). last_end (stays (word_of old)) (a + it.size) rest) place;
          gap = inl refl;
          aligned = (s.aligned.0, omega arith, omega arith);
          ahead = λ c zc l. u.others c zc (λ e. omega arith) (inr (omega arith)) ∙ s.ahead c zc (omega arith);
          outside = λ c zc o. u.others c zc (λ e. elim o [ inl l ↦ omega arith | inr l ↦ omega arith ])
              (elim o [ inl l ↦ inl (omega arith) | inr l ↦ inr (omega arith) ]) ∙ s.outside c zc o;
          kept = λ i l stay. elim (sides i l stay) [
            | inl done ↦ let end = done.0 in
                inl (
                  omega arith,
                  λ c zc lo hi. u.others c zc (λ e. omega arith) (inl (omega arith))
                      ∙ done.1 c zc lo hi,
                )
            | inr more ↦ elim more [
              | inl is ↦
                  let P : Item → Type 0 = λ j. (j.place + j.size ≤ next) × HasCell old w j in
                  inl (subst P (sym is) (omega arith, cell_here w u))
              | inr further ↦ inr further
            ]
          ];
          tally = tally_now;
          counted = counted_now;
        }

    -- THE STEP: the pass goes over the item
    pub passed : IsPassing rows old (stepped_heap now (item_at rows (word_of now) p) pass) k first e before
        (stepped now (item_at rows (word_of now) p) pass)
    passed =
        let at = at_item in
        let P : Item → Type 0 = λ i. IsPassing rows old (stepped_heap now i pass) k first e before
        (stepped now i pass) in
        let word : word_of now it.place ≡ word_of old it.place = ap (word_of now) at.place ∙ at.word
        ∙ sym (ap (word_of old) at.place) in
        let keep : stays (word_of now) it ≡ stays (word_of old) it = ap (λ (a : ℕ). stays (λ _. a) it) word in
        let cut : is_cut now next ≡ is_cut old next = ap (λ (h : HeapView). is_cut h next) s.shape.others in
        subst P (sym at.same) (go (stays (word_of now) it) (is_cut now next) (sym keep) (sym cut))
      where
        go : (stay ends : Bool) → stays (word_of old) it ≡ stay → is_cut old next ≡ ends
            → IsPassing rows old (if stay then stored (filled now pass.run p) p (unmarked (word_of now p)) else if ends
            then filled now pass.run next else now) k first e before
            (record {
              place = next;
              run = if stay then next else if ends then next else pass.run;
              last = if stay then next else pass.last;
              tally = plus pass.tally (item_tally now it);
            })
        go true ends on cut = step_kept on
        go false true off cut = step_cut off cut
        go false false off cut = step_over off cut
