-- The heads of the items of a run stay where references were relocated.
use Rattle.std.proofs.Common.{◌≡◌, ◌≢◌, ◌⊎◌, inl, inr, ℕ, ◌+◌, ◌-◌, ◌%◌, ◌<◌, ◌≤◌}
use Rattle.std.proofs.Common.{true, List}
use Rattle.std.proofs.Common.{[], ◌∷◌, length, refl, ap, sym, ◌∙◌, subst, arith, IsSome, Option, None, Some}
use Rattle.std.proofs.Common.{if◌then◌else◌}
use Rattle.std.specs.Prelude.{is_some}
use Rattle.std.proofs.lemmas.Bool.{cases_Bool, cases_lt, cases_order, true≢false}
use Rattle.clr_types.specs.Types.{form_at, is_array, size_of, TypeRow}
use Rattle.clr_types.specs.declared.item.Item.{Item}
use Rattle.clr_types.specs.Rising.{first, IsIn, later}
use Rattle.clr_types.proofs.RisingLists.{all_at, in_cons}
use Rattle.clr_heap.specs.Parts.{hole_from, item_at, item_part, items_in, length_at, Part, parts, rest_part}
use Rattle.clr_heap.specs.Parts.{Sight, Spells, type_number}
use Rattle.clr_heap.specs.View.{heap_items, HeapView, IsHeap, items_between, last_of, sight}
use Rattle.clr_heap.specs.View.{word_of}
use Rattle.clr_heap.proofs.Addresses.{index_is_segment}
use Rattle.clr_heap.proofs.Framing.{lawful_at}
use Rattle.clr_heap.proofs.Spelling.{item_size, place-item_at}
use Rattle.clr_heap.proofs.Staying.{segment_order}
use Rattle.clr_heap.proofs.Storing.{memory_index-shapes}
use Rattle.clr_model.specs.Compaction.{Move, moved_by}
use Rattle.clr_model.proofs.MovedPlaces.{moved-is}
use Rattle.clr_model.proofs.SmallLengths.{small_length}
use Rattle.clr_view.specs.View.{IsHeld}
use Rattle.clr_view.proofs.Items.{IsItem, items-are, stacked-apart}
use Rattle.clr_view.proofs.Listed.{item-spelled, listed-spelled}
use Rattle.clr_view.proofs.Listings.{heap-stacked}
use Rattle.clr_view.proofs.Standing.{standing}
use Rattle.clr_plugs.specs.BrickEntries.{BricksView}
use Rattle.clr_pinq.specs.Queue.{logical, or_else, queue_word}
use Rattle.clr_pinq.specs.declared.entry.PinEntry.{PinEntry}
use Rattle.clr_moves.specs.Moves.{IsInPart, move_at, plug_stop, room_end}
use Rattle.clr_moves.specs.Overlaid.{IsPlugWord}
use Rattle.clr_moves.proofs.Kept.{IsLastRun}
use Rattle.clr_moves.proofs.KeptRuns.{HeadStays}
use Rattle.clr_moves.specs.declared.condemned.Condemned.{Condemned}
use Rattle.clr_moves.specs.Moves.{age_of}
use Rattle.clr_reloc.specs.References.{references_of}
use Rattle.clr_reloc.specs.Relocating.{IsKept, IsLeftReference, IsRelocating, KeepsTelling, Tracks}
use Rattle.clr_reloc.proofs.Cells.{left_inside, one_item}
use Rattle.clr_reloc.proofs.Heads.{agrees, array_reference, head_left}
use Rattle.clr_reloc.proofs.ManyItems.{track_first, track_order}
use Rattle.clr_reloc.proofs.PlugItems.{number_of, plug_track}
use Rattle.clr_reloc.proofs.SavedTriples.{queue_three}

not_saved : (es : List PinEntry) (word : ℕ → ℕ) (b : ℕ) → (IsSome (queue_word es b) → ⊥) → logical es word b ≡ word b
not_saved es word b none = go (queue_word es b) none
  where
    go : (o : Option ℕ) → (IsSome o → ⊥) → or_else o (word b) ≡ word b
    go None no_one = refl
    go (Some w) no_one = absurd (no_one refl)

length_told : (rows : List TypeRow) (word : ℕ → ℕ) (p : ℕ)
    → is_array (form_at rows (type_number (word p))) ≡ true → (item_at rows word p).len ≡ word (p + 8)
unfolding item_at length_at
length_told rows word p array = ap (λ b. if b then word (p + 8) else 0) array

abbrev made : List TypeRow → ℕ → ℕ → ℕ → Item
made rows p t len = record { place = p; size = size_of (form_at rows t) len; type_id = record { 0 = t }; len = len }

-- an item is read from its method table word, and from the next one where it is an array
item_alike : (rows : List TypeRow) (v w : ℕ → ℕ) (p : ℕ) → w p ≡ v p
    → (is_array (form_at rows (type_number (v p))) ≡ true → w (p + 8) ≡ v (p + 8)) → item_at rows w p ≡ item_at rows v p
unfolding item_at length_at
item_alike rows v w p a b =
    ap (λ (x : ℕ). made rows p (type_number x) (if is_array (form_at rows (type_number x)) then w (p + 8) else 0)) a
    ∙ ap (λ (y : ℕ). made rows p (type_number (v p)) y)
    (elim (cases_Bool (is_array (form_at rows (type_number (v p))))) [
      | inl on ↦ ap (λ y. if is_array (form_at rows (type_number (v p))) then y else 0) (b on)
      | inr off ↦ ap (λ t. if t then w (p + 8) else 0) off ∙ sym (ap (λ t. if t then v (p + 8) else 0) off)
    ])

type_told : (rows : List TypeRow) (word : ℕ → ℕ) (p : ℕ) → (item_at rows word p).type_id.0 ≡ type_number (word p)
unfolding item_at
type_told rows word p = refl

-- what starts below the end of a walk without holes is one of its items, where a longer one goes on
in_both : (s : Sight) → ((q : ℕ) → hole_from s.holes q ≡ None) → (ps qs : List Part) (p e l : ℕ) → p % 8 ≡ 0
    → Spells s p ps e → Spells s p qs l → (i : Item) → IsIn i (items_in ps) → i.place < l → IsIn i (items_in qs)
in_both s none [] qs p e l z whole run i m below = elim m [ ]
in_both s none (rest_part lo hi ∷ ps) qs p e l z whole run i m below =
    let a = none p in let c = whole.1 in absurd cc
in_both s none (item_part x ∷ ps) [] p e l z whole run i m below =
    let up = (all_at (IsItem s.rows p e) m (items-are s (item_part x ∷ ps) p e z whole)).above in
    absurd (omega (arith, up, run, below))
in_both s none (item_part x ∷ ps) (rest_part lo hi ∷ qs) p e l z whole run i m below =
    let a = none p in let c = run.1 in absurd cc
in_both s none (item_part x ∷ ps) (item_part y ∷ qs) p e l z whole run i m below =
    let same : x ≡ y = whole.1 ∙ sym run.1 in
    let size = ap (λ (j : Item). j.size) same in
    let sized = item_size s x p whole.1 whole.2 in
    elim (in_cons m) [
      | inl here ↦ subst (λ j. IsIn j (y ∷ items_in qs)) (sym (here ∙ same)) first
      | inr more ↦
          let whole_size = sized.1 in
          later (in_both s none ps qs (p + x.size) e l (omega (arith, z, whole_size)) whole.3
          (subst (λ n. Spells s (p + n) qs l) (sym size) run.3) i more below)
    ]

module _ (rows : List TypeRow) (view now h new : HeapView) (bricks : BricksView) (entries : List PinEntry)
    (g : Condemned) (vs : List Move) (start1 start0 : ℕ)
    (r : IsRelocating rows view now h bricks entries g vs start1 start0) (least_g : age_of g ≤ 2)
    (k : KeepsTelling rows view g vs entries h new) (t from last : ℕ)
    (run : IsLastRun rows h vs t from last) where
  heap : IsHeap view
  heap = r.begun.plan.overlaid.heap

  held : IsHeld rows view
  held = r.begun.plan.held

  n : ℕ
  n = run.number

  v : Move
  v = move_at vs run.number

  -- a raw item of the run
  raw : (i : Item) → IsIn i (items_between (sight rows h t) from (last_of h t)) → IsItem rows from (last_of h t) i
  raw i m = all_at (IsItem rows from (last_of h t)) m
      (items-are (sight rows h t) (parts (last_of h t) (sight rows h t) from (last_of h t)) from (last_of h t)
      run.run.walk.start run.run.walk.spelled)

  -- where some item is, the run's segment is that of its plug
  module _ (some : from + 24 ≤ last_of h t) where
    home : IsInPart view g (r.begun.plan.overlaid.starts run.number run.within).0
        (move_at vs run.number).start
    home = (r.begun.plan.overlaid.starts run.number run.within).1

    at_home : (r.begun.plan.overlaid.starts run.number run.within).0 ≡ t
    at_home =
        let p = home in
        let low = p.low in
        let high = p.high in
        let start = run.start in
        let first_low = (r.begun.plan.overlaid.moves.starts (r.begun.plan.overlaid.starts run.number run.within).0
        p.in_range p.takes).0 in
        sym (index_is_segment view (r.begun.plan.overlaid.starts run.number run.within).0 from heap p.in_range
        (omega arith) (omega arith))
        ∙ sym (memory_index-shapes h.memories view.memories from r.shape.memories)
        ∙ run.run.index from (omega arith) (omega arith)

    here : IsInPart view g t from
    here = subst (λ x. IsInPart view g t x) run.start
        (subst (λ u. IsInPart view g u (move_at vs run.number).start)
        at_home home)

    last_same : last_of h t ≡ last_of view t
    last_same = ap (λ (x : HeapView). last_of x t) r.shape.others

    stop_room : plug_stop (move_at vs run.number) ≤ room_end view t
    stop_room =
        let m = r.begun.plan.overlaid.moves.each run.number run.within in
        let p = here in
        let low = m.from_low in
        let high = m.from_high in
        let start = run.start in
        let part = p.low in
        let room = p.high in
        let size = m.least in
        let lt = p.in_range in
        let lf = m.from_in in
        let first_low = (r.begun.plan.overlaid.moves.starts t lt p.takes).0 in
        elim (cases_order m.from t) [
          | inl e ↦ subst (λ u. plug_stop (move_at vs run.number) ≤ room_end view u) e high
          | inr (inl less) ↦ let o = segment_order view m.from t heap less lt in absurd (omega arith)
          | inr (inr more) ↦ let o = segment_order view t m.from heap more lf in absurd (omega arith)
        ]

    -- a plug above starts far above
    far_above : (j b : ℕ) → j < length vs → from < (move_at vs j).start → b + 8 < plug_stop (move_at vs run.number)
        → b + 32 < (move_at vs j).start
    far_above j b l up inside =
        let above = run.others j l up in
        let size = (r.begun.plan.overlaid.moves.each j l).least in
        let track = plug_track rows view r.begun.before r.begun.bricks r.begun.entries g vs start1 start0 r.begun.plan
        least_g j l in
        let f = track_first rows view track.0 (move_at vs j).start (plug_stop (move_at vs j)) track.1 (omega arith) in
        let s = standing rows view heap held f.item f.listed in
        let at = f.at in
        let s_low = s.above in
        let s_high = s.below in
        let s_size = s.least in
        let s_room = s.reserved in
        let p = here in
        let lt = p.in_range in
        let room = p.high in
        let low = p.low in
        let stop = stop_room in
        let same = last_same in
        let first_low = (r.begun.plan.overlaid.moves.starts t lt p.takes).0 in
        elim (cases_order s.segment t) [
          | inl e ↦ let ends = ap (last_of view) e in absurd (omega arith)
          | inr (inl less) ↦ let o = segment_order view s.segment t heap less lt in absurd (omega arith)
          | inr (inr more) ↦ let o = segment_order view t s.segment heap more s.in_range in omega arith
        ]

    -- what is saved in the last plug are its last words
    saved_last : (b : ℕ) → b % 8 ≡ 0 → IsPlugWord vs run.number b → IsSome (queue_word entries b)
        → plug_stop (move_at vs run.number) ≤ b + 32
    saved_last b z w some_b =
        let (j, l, info) = r.saved b z some_b in
        let line = r.begun.plan.overlaid.line.line in
        let start = run.start in
        let low = w.low in
        let high = w.high in
        elim info [
          | inl before ↦
              let a = before.0 in
              let c = before.1 in
              let f = far_above j b l (omega arith) high in
              absurd (omega arith)
          | inr end ↦
              let a = end.0 in
              let c = end.1 in
              elim (cases_order j run.number) [
                | inl e ↦ let same = ap (λ m. plug_stop (move_at vs m)) e in omega arith
                | inr (inl less) ↦ let o = line j run.number less run.within in absurd (omega arith)
                | inr (inr more) ↦
                    let o = line run.number j more l in
                    let size = (r.begun.plan.overlaid.moves.each run.number run.within).least in
                    let f = far_above j b l (omega arith) high in
                    absurd (omega arith)
              ]
        ]

    -- a head that isn't saved is as it was
    raw_same : (i : Item) → IsIn i (heap_items rows view) → from ≤ i.place
        → i.place + 24 ≤ plug_stop (move_at vs run.number)
        → (IsSome (queue_word entries i.place) → ⊥) → (IsSome (queue_word entries (i.place + 8)) → ⊥)
        → item_at rows (word_of h) i.place ≡ i
    raw_same i l low high no_mt no_len =
        let s = standing rows view heap held i l in
        let za = s.aligned in
        let size = s.least in
        let start = run.start in
        let plug : IsPlugWord vs run.number i.place =
        record { within = run.within; low = omega arith; high = omega arith } in
        let next : IsPlugWord vs run.number (i.place + 8) =
        record { within = run.within; low = omega arith; high = omega arith } in
        let a = agrees rows view now g vs heap held r.underway i l in
        let mt : word_of h i.place ≡ word_of view i.place =
        sym (not_saved entries (word_of h) i.place no_mt) ∙ r.words i.place za (inl (run.number, plug))
        ∙ head_left rows view now g vs heap held r.underway i l i.place za (omega arith) (omega arith) in
        item_alike rows (word_of view) (word_of h) i.place mt
        (λ array. sym (not_saved entries (word_of h) (i.place + 8) no_len)
        ∙ r.words (i.place + 8) (omega arith) (inl (run.number, next)) ∙ a.len array)
        ∙ sym (listed-spelled rows view i heap held l).0

    module _ (b : ℕ) (z : b % 8 ≡ 0) (ref : IsLeftReference rows view g b) (w : IsPlugWord vs run.number b)
        (unsaved : IsSome (queue_word entries b) → ⊥) where
      abbrev stop : ℕ
      stop = plug_stop (move_at vs run.number)

      stop_whole : plug_stop (move_at vs run.number) % 8 ≡ 0
      stop_whole =
          let a = (r.begun.plan.overlaid.moves.each run.number run.within).aligned in
          let x = a.0 in
          let y = a.1 in
          omega arith

      -- the item in which the reference stands
      own : (y : Item) → IsIn y (heap_items rows view) → y.place ≤ b → b < y.place + y.size → ref.item ≡ y
      own y l low high =
          let c = left_inside rows view heap held g b ref in
          let above = c.above in
          let below = c.below in
          let up = (standing rows view heap held y l).above in
          one_item rows view heap held ref.item y (b - 8) ref.left.listed l (omega arith) (omega arith) (omega arith)
          (omega arith)

      -- an item below the reference's
      lower_head : (y : Item) → IsIn y (heap_items rows view) → from ≤ y.place → y.place + y.size ≤ b
          → item_at rows (word_of h) y.place ≡ y
      lower_head y l low beyond =
          let c = left_inside rows view heap held g b ref in
          let above = c.above in
          let below = c.below in
          let inside = w.high in
          let s = standing rows view heap held y l in
          let zy = s.aligned in
          let size = s.least in
          let start = run.start in
          let differ : ref.item.place ≢ y.place = λ e.
          (let q = (standing rows view heap held ref.item ref.left.listed).least in
          let same = ap (λ (x : Item). x.place + x.size) (one_item rows view heap held ref.item y (y.place + 8)
          ref.left.listed l (omega arith) (omega arith) (omega arith) (omega arith)) in
          omega arith) in
          let far : y.place + y.size ≤ ref.item.place =
          elim (stacked-apart (heap_items rows view) ref.item y (heap-stacked rows view held.walkable heap)
          ref.left.listed l differ) [ inl x ↦ absurd (omega arith) | inr x ↦ x ] in
          raw_same y l low (omega arith)
          (λ some_b. let e = saved_last y.place zy
          (record { within = run.within; low = omega arith; high = omega arith })
          some_b in omega arith)
          (λ some_b. let e = saved_last (y.place + 8) (omega arith)
          (record { within = run.within; low = omega arith; high = omega arith }) some_b in omega arith)

      -- a raw item that starts inside the reference's item
      inside_own : (y : Item) → IsIn y (heap_items rows view) → from ≤ y.place → y.place + y.size ≤ stop
          → y.place + (item_at rows (word_of h) y.place).size ≤ b → 24 ≤ (item_at rows (word_of h) y.place).size
          → b < y.place + y.size → ⊥
      inside_own y l low ends past least high =
          let c = left_inside rows view heap held g b ref in
          let same = own y l (omega arith) high in
          let below : b + 8 < y.place + y.size =
          subst (λ (x : Item). b + 8 < x.place + x.size) same c.below in
          let s = standing rows view heap held y l in
          let zy = s.aligned in
          let whole : y.size % 8 ≡ 0 =
          subst (λ (x : Item). x.size % 8 ≡ 0) (sym (listed-spelled rows view y heap held l).0)
          (listed-spelled rows view y heap held l).1.whole in
          let zs = stop_whole in
          let start = run.start in
          let no_mt : IsSome (queue_word entries y.place) → ⊥ =
          λ some_b. (let e = saved_last y.place zy
          (record { within = run.within; low = omega arith; high = omega arith })
          some_b in omega arith) in
          elim (cases_Bool (is_some (queue_word entries (y.place + 8)))) [
            | inr off ↦
                let e = ap (λ (x : Item). x.size) (raw_same y l low (omega arith) no_mt
                (λ some_b. true≢false (sym some_b ∙ off))) in
                omega arith
            | inl on ↦
                let e = saved_last (y.place + 8) (omega arith)
                (record { within = run.within; low = omega arith; high = omega arith }) on in
                let at_b : b ≡ y.place + 24 = omega arith in
                let three = queue_three entries (y.place + 8) on in
                elim three.one [
                  | inl a ↦ unsaved (three.all b (inr (inr (omega arith))))
                  | inr more ↦ elim more [
                    | inl a ↦ no_mt (three.all y.place (inl (omega arith)))
                    | inr a ↦ no_mt (three.all y.place (inr (inl (omega arith))))
                  ]
                ]
          ]

      -- no raw item starts there
      none_starts : (is : List Item) (p : ℕ) (ps : List Part) (e : ℕ) → from ≤ p → p % 8 ≡ 0
          → Tracks rows view is p (plug_stop (move_at vs run.number)) → Spells (sight rows h t) p ps e
          → (x : Item) → IsIn x (items_in ps) → x.place ≡ b → ⊥
      none_starts is p [] e low zp track spelled x m at = elim m [ ]
      none_starts is p (rest_part lo hi ∷ ps) e low zp track spelled x m at =
          let a = run.run.none p in let c = spelled.1 in absurd cc
      none_starts [] p (item_part q ∷ ps) e low zp track spelled x m at =
          let up = (all_at (IsItem rows p e) m (items-are (sight rows h t) (item_part q ∷ ps) p e zp spelled)).above in
          let high = w.high in
          omega arith
      none_starts (y ∷ is) p (item_part q ∷ ps) e low zp track spelled x m at =
          let place = track.0 in
          let listed = track.1 in
          let q_is : q ≡ item_at rows (word_of h) y.place = spelled.1 ∙ ap (item_at rows (word_of h)) (sym place) in
          let q_size = ap (λ (i : Item). i.size) q_is in
          let q_least : 24 ≤ (item_at rows (word_of h) y.place).size =
          subst (λ n. 24 ≤ (item_at rows (word_of h) n).size) (sym place) spelled.2.least in
          let q_whole : (item_at rows (word_of h) y.place).size % 8 ≡ 0 =
          subst (λ n. (item_at rows (word_of h) n).size % 8 ≡ 0) (sym place) spelled.2.whole in
          let ends = track_order rows view is (p + y.size) stop track.2 in
          let y_least = (standing rows view heap held y listed).least in
          elim (in_cons m) [
            | inl here ↦
                let x_at : x.place ≡ p = ap (λ (i : Item). i.place) (here ∙ spelled.1)
                ∙ place-item_at rows (word_of h) p in
                let same = ap (λ (i : Item). i.place) (own y listed (omega arith) (omega arith)) in
                let above = (left_inside rows view heap held g b ref).above in
                omega arith
            | inr more ↦
                let up = (all_at (IsItem rows (p + q.size) e) more
                (items-are (sight rows h t) ps (p + q.size) e (omega arith) spelled.3)).above in
                elim (cases_lt b (y.place + y.size)) [
                  | inl inside ↦ inside_own y listed (omega arith) (omega arith) (omega arith) q_least inside
                  | inr beyond ↦
                      let same : q.size ≡ y.size = q_size
                      ∙ ap (λ (i : Item). i.size) (lower_head y listed (omega arith) beyond) in
                      none_starts is (p + y.size) ps e (omega arith) (omega arith) track.2
                      (subst (λ n. Spells (sight rows h t) (p + n) ps e) same spelled.3) x more at
                ]
          ]

      -- the length of its item, where that is a long raw array
      own_length : (y : Item) → IsIn y (heap_items rows view) → from ≤ y.place → b ≡ y.place + 8
          → y.place + 64 ≤ stop → is_array (form_at rows (type_number (word_of h y.place))) ≡ true → ⊥
      own_length y l low at long array =
          let s = standing rows view heap held y l in
          let zy = s.aligned in
          let least = s.least in
          let start = run.start in
          let plug : IsPlugWord vs run.number y.place = record {
            within = run.within;
            low = omega (arith, start, low);
            high = omega (arith, long);
          } in
          let no_mt : IsSome (queue_word entries y.place) → ⊥ =
          λ some_b. (let e = saved_last y.place zy plug some_b in omega (arith, e, long)) in
          let mt : word_of h y.place ≡ word_of view y.place =
          sym (not_saved entries (word_of h) y.place no_mt) ∙ r.words y.place zy (inl (run.number, plug))
          ∙ head_left rows view now g vs heap held r.underway y l y.place zy (omega arith) (omega arith) in
          let type : y.type_id.0 ≡ type_number (word_of view y.place) =
          ap (λ (x : Item). x.type_id.0) (listed-spelled rows view y heap held l).0
          ∙ type_told rows (word_of view) y.place in
          let array_y : is_array (form_at rows y.type_id.0) ≡ true =
          subst (λ q. is_array (form_at rows q) ≡ true) (ap type_number mt ∙ sym type) array in
          let same = own y l (omega (arith, at)) (omega (arith, at, least)) in
          let reference = subst (λ (x : Item). IsIn ref.offset (references_of rows x)) same ref.reference in
          let far = array_reference (form_at rows y.type_id.0) y.len ref.offset reference array_y in
          let address : b ≡ y.place + ref.offset = ref.address ∙ ap (λ (x : Item). x.place + ref.offset) same in
          omega (arith, at, far, address)

      -- no long raw array starts right below there
      none_below : (is : List Item) (p : ℕ) (ps : List Part) (e : ℕ) → from ≤ p → p % 8 ≡ 0
          → Tracks rows view is p (plug_stop (move_at vs run.number)) → Spells (sight rows h t) p ps e
          → (x : Item) → IsIn x (items_in ps) → x.place + 8 ≡ b → x.place + 64 ≤ stop
          → is_array (form_at rows (type_number (word_of h x.place))) ≡ true → ⊥
      none_below is p [] e low zp track spelled x m at long array = elim m [ ]
      none_below is p (rest_part lo hi ∷ ps) e low zp track spelled x m at long array =
          let a = run.run.none p in let c = spelled.1 in absurd cc
      none_below [] p (item_part q ∷ ps) e low zp track spelled x m at long array =
          let up = (all_at (IsItem rows p e) m (items-are (sight rows h t) (item_part q ∷ ps) p e zp spelled)).above in
          omega (arith, track, up, long)
      none_below (y ∷ is) p (item_part q ∷ ps) e low zp track spelled x m at long array =
          let place = track.0 in
          let listed = track.1 in
          let q_is : q ≡ item_at rows (word_of h) y.place = spelled.1 ∙ ap (item_at rows (word_of h)) (sym place) in
          let q_size = ap (λ (i : Item). i.size) q_is in
          let q_least : 24 ≤ (item_at rows (word_of h) y.place).size =
          subst (λ n. 24 ≤ (item_at rows (word_of h) n).size) (sym place) spelled.2.least in
          let q_whole : (item_at rows (word_of h) y.place).size % 8 ≡ 0 =
          subst (λ n. (item_at rows (word_of h) n).size % 8 ≡ 0) (sym place) spelled.2.whole in
          let ends = track_order rows view is (p + y.size) stop track.2 in
          let y_least = (standing rows view heap held y listed).least in
          elim (in_cons m) [
            | inl here ↦
                let x_at : x.place ≡ p = ap (λ (i : Item). i.place) (here ∙ spelled.1)
                ∙ place-item_at rows (word_of h) p in
                own_length y listed (omega (arith, place, low)) (omega (arith, place, x_at, at))
                (omega (arith, place, x_at, long))
                (subst (λ n. is_array (form_at rows (type_number (word_of h n))) ≡ true) (x_at ∙ sym place) array)
            | inr more ↦
                let up = (all_at (IsItem rows (p + q.size) e) more
                (items-are (sight rows h t) ps (p + q.size) e (omega arith) spelled.3)).above in
                elim (cases_lt b (y.place + y.size)) [
                  | inl inside ↦ inside_own y listed (omega arith) (omega arith) (omega arith) q_least inside
                  | inr beyond ↦
                      let same : q.size ≡ y.size = q_size
                      ∙ ap (λ (i : Item). i.size) (lower_head y listed (omega arith) beyond) in
                      none_below is (p + y.size) ps e (omega arith) (omega arith) track.2
                      (subst (λ n. Spells (sight rows h t) (p + n) ps e) same spelled.3) x more at long array
                ]
          ]

    -- a word of the run that counts is one of its plug
    in_last : (b : ℕ) → from ≤ b → b + 8 < last_of h t → IsKept view g vs b → IsPlugWord vs run.number b
    in_last b low high kept = elim kept [
      | inl plug ↦
          let (j, w) = plug in
          let line = r.begun.plan.overlaid.line.line in
          let start = run.start in
          let a = w.low in
          let c = w.high in
          let size = (r.begun.plan.overlaid.moves.each run.number run.within).least in
          elim (cases_order j run.number) [
            | inl e ↦ subst (λ m. IsPlugWord vs m b) e w
            | inr (inl less) ↦ let o = line j run.number less run.within in absurd (omega arith)
            | inr (inr more) ↦
                let o = line run.number j more w.within in
                let far = run.others j w.within (omega arith) in
                absurd (omega arith)
          ]
      | inr out ↦
          let p = here in
          let part = p.low in
          let same = last_same in
          let room = (lawful_at view t heap p.in_range).high in
          let first_low = (r.begun.plan.overlaid.moves.starts t p.in_range p.takes).0 in
          elim (out t p.in_range p.takes) [
            | inl below ↦ absurd (omega arith)
            | inr other ↦ elim other [
              | inl part_below ↦ let x = part_below.1 in absurd (omega arith)
              | inr above ↦ absurd (omega arith)
            ]
          ]
    ]

    -- a short number is no place in a plug
    stays_short : (x y : ℕ) → x ≤ 67108864 → (x ≡ y) ⊎ (x ≡ moved_by vs y) → moved_by vs y ≡ x
    stays_short x y short either = elim (moved-is vs y) [
      | inl found ↦
          let (u, member, covers, goes) = found in
          let (j, l, e) = number_of vs u member in
          let m = r.begun.plan.overlaid.moves.each j l in
          let from_base = (lawful_at view m.from heap m.from_in).lowest in
          let from_low = m.from_low in
          let into = m.into_in in
          let into_base = (lawful_at view m.into heap into.in_range).lowest in
          let part = into.low in
          let first_low = (r.begun.plan.overlaid.moves.starts m.into into.in_range into.takes).0 in
          let start = ap (λ (w : Move). w.start) e in
          let to = ap (λ (w : Move). w.to) e in
          let low = covers.0 in
          elim either [ inl a ↦ absurd (omega arith) | inr a ↦ absurd (omega arith) ]
      | inr stays ↦ let e = stays.1 in elim either [ inl a ↦ e ∙ sym a | inr a ↦ sym a ]
    ]

    -- the length of a short raw array of the run
    short_length : (i : Item) → IsIn i (items_between (sight rows h t) from (last_of h t)) → i.size ≤ 67108864
        → is_array (form_at rows (type_number (word_of h i.place))) ≡ true → word_of h (i.place + 8) ≤ 67108864
    short_length i m short array =
        let is = raw i m in
        let spelled = (item-spelled (sight rows h t) (parts (last_of h t) (sight rows h t) from (last_of h t)) i from
        (last_of h t) run.run.walk.spelled m).0 in
        let type : i.type_id.0 ≡ type_number (word_of h i.place) =
        ap (λ (x : Item). x.type_id.0) spelled ∙ type_told rows (word_of h) i.place in
        let len : i.len ≡ word_of h (i.place + 8) =
        ap (λ (x : Item). x.len) spelled ∙ length_told rows (word_of h) i.place array in
        let size : i.size ≡ size_of (form_at rows (type_number (word_of h i.place))) (word_of h (i.place + 8)) =
        is.sized ∙ ap (λ y. size_of (form_at rows y) i.len) type
        ∙ ap (size_of (form_at rows (type_number (word_of h i.place)))) len in
        small_length rows (type_number (word_of h i.place)) (word_of h (i.place + 8)) r.begun.lawful array
        (omega (arith, short, size))

    -- a raw item that starts in the run ends in it
    ends_in_run : (i : Item) → IsIn i (items_between (sight rows h t) from (last_of h t)) → i.place < last
        → i.place + i.size ≤ last
    ends_in_run i m below =
        (all_at (IsItem rows from last) (in_both (sight rows h t) run.run.none
        (parts (last_of h t) (sight rows h t) from (last_of h t)) (parts last (sight rows h t) from last) from
        (last_of h t) last run.run.walk.start run.run.walk.spelled run.run.run.spelled i m below)
        (items-are (sight rows h t) (parts last (sight rows h t) from last) from last run.run.run.start
        run.run.run.spelled)).below

  pub head_stays : (i : Item) → IsIn i (items_between (sight rows h t) from (last_of h t))
      → HeadStays rows (word_of h) (word_of new) i.place
  head_stays i m =
      let is = raw i m in
      let low = is.above in
      let high = is.below in
      let size = is.least in
      let z = is.aligned in
      let some : from + 24 ≤ last_of h t = omega arith in
      let track = plug_track rows view r.begun.before r.begun.bricks r.begun.entries g vs start1 start0 r.begun.plan
      least_g run.number run.within in
      record {
        mt = elim (k.words i.place z) [
          | inl same ↦ same
          | inr (ref, kept, unsaved, goes) ↦
              absurd (none_starts some i.place z ref (in_last some i.place low (omega arith) kept) unsaved track.0 from
              (parts (last_of h t) (sight rows h t) from (last_of h t)) (last_of h t) (omega arith) run.run.walk.start
              (subst (λ p. Tracks rows view track.0 p (plug_stop (move_at vs run.number))) run.start track.1)
              run.run.walk.spelled i m refl)
        ];
        len = λ array. elim (k.words (i.place + 8) (omega arith)) [
          | inl same ↦ same
          | inr (ref, kept, unsaved, goes) ↦
              let w = in_last some (i.place + 8) (omega (arith, low)) (omega (arith, high, size)) kept in
              elim (cases_lt 67108864 i.size) [
                | inl long ↦
                    let stop = run.stop in
                    let inside = w.high in
                    let end = ends_in_run some i m (omega (arith, inside, stop)) in
                    absurd (none_below some (i.place + 8) (omega (arith, z)) ref w unsaved track.0 from
                    (parts (last_of h t) (sight rows h t) from (last_of h t)) (last_of h t) (omega arith)
                    run.run.walk.start
                    (subst (λ p. Tracks rows view track.0 p (plug_stop (move_at vs run.number))) run.start track.1)
                    run.run.walk.spelled i m refl (omega (arith, long, end, stop)) array)
                | inr short ↦
                    let raw_now : word_of h (i.place + 8) ≡ word_of now (i.place + 8) =
                    sym (not_saved entries (word_of h) (i.place + 8) unsaved)
                    ∙ r.words (i.place + 8) (omega arith) kept in
                    goes ∙ stays_short some (word_of h (i.place + 8)) (word_of view (i.place + 8))
                    (short_length some i m short array)
                    (elim (r.underway.words (i.place + 8) (omega arith)) [
                      | inl e ↦ inl (raw_now ∙ e)
                      | inr e ↦ inr (raw_now ∙ e.1)
                    ])
              ]
        ];
      }
