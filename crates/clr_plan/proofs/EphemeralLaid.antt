-- The part of the ephemeral segment: its older plugs, and those of generation 0 behind them.
use Rattle.std.proofs.lemmas.List.{append-nil, map-append}
use Rattle.std.proofs.Common.{◌≡◌, ◌≢◌, ◌⊎◌, inl, inr, ℕ, suc, ◌+◌, ◌-◌, ◌*◌, ◌/◌, ◌%◌, ◌<◌, ◌≤◌, max, List, [], ◌∷◌}
use Rattle.std.proofs.Common.{◌++◌, map, refl, sym, ap, ap₂, subst, ◌∙◌, arith, pos, Bool, true, false, if◌then◌else◌}
use Rattle.std.proofs.Common.{◌==◌, append_assoc}
use Rattle.std.proofs.lemmas.Bool.{eqb-true, ne_eqb}
use Rattle.clr_types.specs.Rising.{IsIn}
use Rattle.clr_covers.specs.Covers.{spans, with_value}
use Rattle.clr_covers.proofs.Values.{spans-with_value}
use Rattle.clr_bricks.specs.Bricks.{entry_at}
use Rattle.clr_heap.specs.View.{first_of, HeapView, last_of, SameShape, segment_at, word_of}
use Rattle.clr_heap.proofs.Framing.{lawful_at}
use Rattle.clr_model.specs.Compaction.{Move, Placed, Plug, plug_end, raised_past_pins}
use Rattle.clr_model.proofs.PlacedPlugs.{placed_up}
use Rattle.clr_pinq.specs.Queue.{last_end}
use Rattle.clr_plugs.specs.BrickEntries.{BricksView}
use Rattle.clr_plugs.specs.Builders.{IsNoChildren}
use Rattle.clr_plugs.specs.Planning.{CanAdvance, IsWriting, WriterView}
use Rattle.clr_plugs.specs.Plans.{IsPlanned, PlannedPart, PlannedPlug, plug_starts}
use Rattle.clr_plugs.proofs.Entries.{entry_kept}
use Rattle.clr_plugs.proofs.Starts.{all_from, in_brick}
use Rattle.clr_moves.specs.Moves.{part_of}
use Rattle.clr_plan.specs.Heaps.{HasLaidHeap, IsBetweenIn, IsLaidBelow, part_plan, part_plugs, plugs_below}
use Rattle.clr_plan.specs.LaidParts.{CanLay, end_behind, HasLaid, opened_by, planned_plugs, pushes_for}
use Rattle.clr_plan.specs.PartLists.{AreFor}
use Rattle.clr_plan.specs.Parts.{Around, CanPlan, HasPlacedPart, plugs_around}
use Rattle.clr_plan.specs.Planned.{pinned_count}
use Rattle.clr_plan.specs.Plans.{CanPlanHeap, condemned_plugs, HasReached, IsRaisedTo, old_part, older_plugs, parts_in}
use Rattle.clr_plan.specs.Plans.{small_plugs, young_plugs}
use Rattle.clr_plan.specs.Raises.{CanRaise, HasRaised}
use Rattle.clr_plan.specs.Scans.{survivors_between}
use Rattle.clr_plan.specs.States.{progress, state, stretch, Written, written}
use Rattle.clr_plan.specs.Writes.{AreSavedAt, HasWritten, opened}
use Rattle.clr_plan.specs.declared.pointer.Pointer.{Pointer}
use Rattle.clr_plan.proofs.Ages.{plugs-are-of, young-zero}
use Rattle.clr_plan.proofs.Beginning.{plugs-lie}
use Rattle.clr_plan.proofs.Fitting.{for-append, placed-for, planned-append}
use Rattle.clr_plan.proofs.LaidBelow.{laid-more}
use Rattle.clr_plan.proofs.PushCount.{pushes-aged}
use Rattle.clr_plan.proofs.Reaching.{part-reached}
use Rattle.clr_plan.proofs.Takes.{older-is, part-lower, plugs-young, takes-young}
use Rattle.clr_plan.proofs.Writing.{shape-on, written-children, written-raised}
use Rattle.clr_plan.proofs.YoungPlan.{around_all, ready, young_around, young_can}
use Rattle.clr_moves.specs.declared.condemned.Condemned.TheVariants.{Generations}
use Rattle.clr_plan.proofs.EphemeralPart
use Rattle.clr_plan.proofs.EphemeralPart.{Setting, older-same, young-same, order, low-covered, older-plan, room}
use Rattle.clr_plan.proofs.EphemeralPart.{older-few}

-- the items that one list of plugs opens, and then another
opened-append : (free : List ℕ) (begin below : ℕ) (ps qs : List Plug) → opened_by free begin below (ps ++ qs)
    ≡ opened_by (opened_by free begin below ps) begin (end_behind below ps) qs
opened-append free begin below [] qs = refl
opened-append free begin below (p ∷ ps) qs = opened-append (opened free begin below p.start) begin (plug_end p) ps qs

module _ (setting : Setting) where
  open setting use {rows, old, now, bricks0, bricks, queue0, queue, g, e, low, start0, end, from, s, heap, zero-is}
  open setting use {end-is}

  abbrev can : CanPlanHeap rows old g e
  can = s.can

  abbrev starts : List ℕ
  starts = EphemeralPart.starts setting

  abbrev free : List ℕ
  free = EphemeralPart.free setting

  abbrev pointer : ℕ
  pointer = EphemeralPart.pointer setting

  abbrev older : List Plug
  older = EphemeralPart.older setting

  abbrev young : List Plug
  young = EphemeralPart.young setting

  abbrev older_around : Around
  older_around = EphemeralPart.older_around setting

  abbrev part : PlannedPart
  part = EphemeralPart.part setting

  module _ (bricks2 : BricksView) (writer : WriterView) (set : bricks2 ≡ with_value bricks (low / 4096 - 1) (pos 0))
      (value : writer ≡ record { builder = record { brick = low / 4096; plugs = [] }; last = 0 })
      (writing : IsWriting now bricks2 part writer) where
    brick-is : writer.builder.brick ≡ low / 4096
    brick-is = ap (λ (v : WriterView). v.builder.brick) value

    abbrev begin : Written
    begin = written now bricks2 queue writer

    pub older-lays : CanLay older_around rows old (progress begin from low) starts free part (stretch e low start0)
    older-lays =
        let o = order setting in
        let a = o.first in
        let c = o.last in
        let d = o.high in
        let most = o.most in
        let behind = s.laid.behind e (omega arith) can.inside in
        record {
          plan = older-plan setting;
          laying = record {
            heap = heap;
            words = written-raised old now queue.entries starts free s.laid.low low (omega (arith, behind, a))
                s.laid.words;
            writing = writing;
            segment = refl;
            low = omega arith;
            behind = λ x i. elim i [ ];
            among = λ x i. elim i [ ];
            brick = omega (arith, brick-is);
          };
          start = omega arith;
          high = c;
          spare = let n = older-few setting (last_end 0 queue.entries) in let r = room setting in omega (arith, n, r);
        }

    module _ (mid : Written) (ending : ℕ) (at : Pointer) (laid : HasLaid older_around rows old
        (progress begin from low) (progress mid at ending) starts free part (stretch e low start0)) where
      abbrev m1 : List Move
      m1 = laid.planned.moves

      older-reached : HasReached old (parts_in rows old g) (condemned_plugs rows old g e) mid.queue.entries pointer []
          (older_plugs rows old g e) (young_plugs rows old e) (s.moves ++ m1) at
      older-reached =
          let reached : HasReached old (parts_in rows old g) (condemned_plugs rows old g e) queue.entries pointer []
          (plugs_below rows old g e e) (older ++ young_plugs rows old e) s.moves from =
          subst (λ ps. HasReached old (parts_in rows old g) (condemned_plugs rows old g e) queue.entries pointer []
          (plugs_below rows old g e e) (ps ++ young_plugs rows old e) s.moves from) (older-same setting) s.reached in
          subst (λ ps. HasReached old (parts_in rows old g) (condemned_plugs rows old g e) mid.queue.entries pointer
          [] ps (young_plugs rows old e) (s.moves ++ m1) at) (ap (λ ps. plugs_below rows old g e e ++ ps)
          (sym (older-same setting)) ∙ sym (older-is rows old g e can))
          (part-reached rows old (parts_in rows old g) (condemned_plugs rows old g e) (plugs-lie rows old g e can)
          queue.entries pointer [] (plugs_below rows old g e e) s.moves from e low start0 (young_plugs rows old e)
          reached mid.queue.entries at laid.planned)

      pub between : IsBetweenIn rows old mid.heap g e mid.queue.entries at
      between = record {
        can = can;
        shape = laid.laying.words.shape;
        between = record {
          order = laid.planned.among.order;
          high = older-reached.high;
          behind = older-reached.behind;
          stands = older-reached.stands;
        };
      }

      module _ (middle : Pointer) (raised : IsRaisedTo rows old g e mid.queue.entries at middle) where
        abbrev pub around2 : Around
        around2 = young_around rows old g e can mid.queue.entries middle raised.between raised.segment

        young-plan : CanPlan around2 rows old mid.queue.entries middle e start0 end
        young-plan =
            subst (λ n. CanPlan around2 rows old mid.queue.entries middle e n end) (sym zero-is)
            (subst (λ n. CanPlan around2 rows old mid.queue.entries middle e old.start0 n) (sym end-is)
            (young_can rows old g e can mid.queue.entries middle raised.between raised.segment))

        young-split : condemned_plugs rows old g e ≡ plugs_around around2 young
        young-split = ap (λ ps. older_plugs rows old g e ++ ps) (young-same setting)
            ∙ sym (ap₂ (λ xs ys. xs ++ ys) (append-nil (older_plugs rows old g e)) (append-nil young))

        young-few : (last below : ℕ) → pushes_for last (first_of old e) below young ≤ pinned_count young + 1
        young-few last below =
            let n = pushes-aged (segment_at old e).base 0 0 last (first_of old e) below
            (survivors_between rows old e start0 end) (omega arith)
            (plugs-are-of rows old g e can around2 mid.queue.entries middle e start0 end young-plan young-split 0 0
            (λ x l u. (
              omega arith,
              let z = young-zero rows old g e can x (omega (arith, l, zero-is))
                  (omega (arith, u, end-is)) in omega (arith, z),
            ))) in
            omega (arith, n)

        abbrev pub starts2 : List ℕ
        starts2 = starts ++ map (λ q. q.start) older

        abbrev pub free2 : List ℕ
        free2 = opened_by free (first_of old e) low older

        abbrev pub part2 : PlannedPart
        part2 = record part { plugs = [] ++ planned_plugs low older m1 }

        pub young-lays : CanLay around2 rows old (progress mid middle ending) starts2 free2 part2 (stretch e start0 end)
        young-lays =
            let o = order setting in
            record {
              plan = young-plan;
              laying = laid.laying;
              start = laid.within o.middle;
              high = omega arith;
              spare = let n = older-few setting (last_end 0 queue.entries) in
                  let m = young-few (last_end 0 mid.queue.entries) ending in
                  let r = room setting in let u = laid.spare in omega (arith, n, m, r, u);
            }

        module _ (next : Written) (ending2 : ℕ) (placed : Pointer) (laid2 : HasLaid around2 rows old
            (progress mid middle ending) (progress next placed ending2) starts2 free2 part2
            (stretch e start0 end)) where
          abbrev m2 : List Move
          m2 = laid2.planned.moves

          abbrev part3 : PlannedPart
          part3 = record part { plugs = ([] ++ planned_plugs low older m1) ++ planned_plugs ending young m2 }

          within2 : ending2 ≤ end
          within2 = let o = order setting in let a = laid.within o.middle in let c = o.last in
              laid2.within (omega (arith, a, c))

          pub part-ends : CanAdvance next.heap next.bricks next.writer ((end + 4095) / 4096)
          part-ends =
              let brick = laid2.laying.brick in
              let w = within2 in
              record {
                part = part3;
                writing = laid2.laying.writing;
                passed = omega arith;
                up = omega (arith, w, brick);
              }

          module _ (now5 : HeapView) (bricks5 : BricksView)
              (finished : (q : PlannedPart) → IsWriting next.heap next.bricks q next.writer → q.high ≡ end
              → IsPlanned now5 bricks5 q)
              (words : (b : ℕ) → b % 8 ≡ 0 → IsNoChildren next.writer.builder.plugs b → word_of now5 b
              ≡ word_of next.heap b)
              (shape1 : SameShape now mid.heap) (shape2 : SameShape mid.heap next.heap)
              (shape3 : SameShape next.heap now5)
              (entries : (i : ℕ) → (i < next.writer.builder.brick) ⊎ ((end + 4095) / 4096 ≤ i) → entry_at bricks5 i
              ≡ entry_at next.bricks i)
              (spans1 : spans mid.bricks ≡ spans bricks2) (spans2 : spans next.bricks ≡ spans mid.bricks)
              (spans3 : spans bricks5 ≡ spans next.bricks)
            where
              kids : (x : ℕ) → IsIn x next.writer.builder.plugs → IsIn x (plug_starts part3.plugs)
              kids x i = let In : List ℕ → Type 0 = λ xs. IsIn x xs in
                  (in_brick next.writer.builder.brick (plug_starts part3.plugs) x
                  (subst In laid2.laying.writing.planning.held i)).0

              here : part_plugs rows old g e e ≡ older ++ young
              here = plugs-young rows old g e can ∙ ap₂ (λ xs ys. xs ++ ys) (older-same setting) (young-same setting)

              fit1 : AreFor older m1
              fit1 = placed-for older_around.segments (plugs_around older_around older) from.place older m1 at.place
                  laid.planned.placed

              fit2 : AreFor young m2
              fit2 = placed-for around2.segments (plugs_around around2 young) middle.place young m2 placed.place
                  laid2.planned.placed

              plan-here : IsPlanned now5 bricks5 (part_plan rows old g e e (m1 ++ m2))
              plan-here =
                  let both : ([] ++ planned_plugs low older m1) ++ planned_plugs ending young m2
                  ≡ planned_plugs low (older ++ young) (m1 ++ m2) =
                  ap (λ n. planned_plugs low older m1 ++ planned_plugs n young m2) laid.ends
                  ∙ sym (planned-append low older young m1 m2 fit1) in
                  let P : List PlannedPlug → Type 0 = λ ps. IsPlanned now5 bricks5
                  (record { segment = e; low = low; high = end; plugs = ps }) in
                  subst (λ ps. IsPlanned now5 bricks5
                  (record {
                    segment = e;
                    low = part_of old (Generations g) e;
                    high = last_of old e;
                    plugs = planned_plugs (part_of old (Generations g) e) ps (m1 ++ m2);
                  })) (sym here)
                  (subst (λ n. IsPlanned now5 bricks5 (record {
                    segment = e;
                    low = n;
                    high = last_of old e;
                    plugs = planned_plugs n (older ++ young) (m1 ++ m2);
                  })) s.low_is
                  (subst (λ n. IsPlanned now5 bricks5
                  (record {
                    segment = e;
                    low = low;
                    high = n;
                    plugs = planned_plugs low (older ++ young)
                        (m1 ++ m2);
                  })) end-is
                  (subst P both (finished part3 laid2.laying.writing refl))))

              words-here : HasWritten old now5 next.queue.entries
                  (starts ++ map (λ q. q.start) (part_plugs rows old g e e))
                  (opened_by free (first_of old e) (part_of old (Generations g) e) (part_plugs rows old g e e)) ending2
              words-here =
                  let base = written-children old next.heap now5 next.queue.entries
                  (starts2 ++ map (λ q. q.start) young) (opened_by free2 (first_of old e) ending young)
                  next.writer.builder.plugs ending2 laid2.laying.words shape3
                  (λ x i. laid2.laying.among x (kids x i)) (λ x i. laid2.laying.behind x (kids x i)) words in
                  let starts_are : starts2 ++ map (λ (q : Plug). q.start) young ≡ starts
                  ++ map (λ q. q.start) (older ++ young) =
                  append_assoc starts (map (λ q. q.start) older) (map (λ q. q.start) young)
                  ∙ ap (λ xs. starts ++ xs) (sym (map-append (λ (q : Plug). q.start) older young)) in
                  let free_are : opened_by free2 (first_of old e) ending young ≡ opened_by free (first_of old e) low
                  (older ++ young) =
                  ap (λ n. opened_by free2 (first_of old e) n young) laid.ends
                  ∙ sym (opened-append free (first_of old e) low older young) in
                  subst (λ (ps : List Plug). HasWritten old now5 next.queue.entries (starts ++ map (λ q. q.start) ps)
                  (opened_by free (first_of old e) (part_of old (Generations g) e) ps) ending2) (sym here)
                  (subst (λ n. HasWritten old now5 next.queue.entries (starts ++ map (λ q. q.start) (older ++ young))
                  (opened_by free (first_of old e) n (older ++ young)) ending2) s.low_is
                  (subst (λ xs. HasWritten old now5 next.queue.entries (starts ++ map (λ q. q.start) (older ++ young))
                  xs ending2) free_are
                  (subst (λ xs. HasWritten old now5 next.queue.entries xs (opened_by free2 (first_of old e) ending
                  young) ending2) starts_are base)))

              saved-here : AreSavedAt next.queue.entries (plugs_below rows old g e e ++ part_plugs rows old g e e)
              saved-here =
                  subst (λ (ps : List Plug). AreSavedAt next.queue.entries (plugs_below rows old g e e ++ ps))
                  (sym here)
                  (subst (AreSavedAt next.queue.entries) (append_assoc (plugs_below rows old g e e) older young)
                  (laid2.saved (plugs_below rows old g e e ++ older) (laid.saved (plugs_below rows old g e e)
                  s.laid.saved)))

              outside-here : (b : ℕ) → b % 8 ≡ 0 → b + 32 < first_of old e → word_of now5 b ≡ word_of now b
              outside-here b z u =
                  let o = order setting in
                  let a = o.first in
                  words b z (all_from (λ x. b + 16 ≢ x) next.writer.builder.plugs
                  (λ x i. (let low_is = (laid2.laying.writing.planning.plan.lies.places x (kids x i)).low in
                  (λ same. omega (arith, same, low_is, u, a)))))
                  ∙ laid2.outside b z (omega (arith, u, a)) ∙ laid.outside b z (omega (arith, u, a))

              entries-here : (i : ℕ) → (i + 1 < part_of old (Generations g) e / 4096) ⊎ (last_of old e ≤ i * 4096)
                  → entry_at bricks5 i ≡ entry_at bricks i
              entries-here i out =
                  let o = order setting in
                  let c = o.last in
                  let m = o.middle in
                  let l = s.low_is in
                  let up2 = laid2.laying.writing.from in
                  let up1 = laid.laying.writing.from in
                  entries i (elim out [
                    | inl u ↦ inl (omega (arith, u, l, up2))
                    | inr u ↦
                        inr (omega (arith, u, end-is))
                  ])
                  ∙ laid2.entries i (elim out [
                    | inl u ↦ inl (omega (arith, u, l, up1))
                    | inr u ↦
                        inr (omega (arith, u, end-is))
                  ])
                  ∙ laid.entries i (elim out [
                    | inl u ↦ inl (omega (arith, u, l, brick-is))
                    | inr u ↦
                        inr (omega (arith, u, end-is, c))
                  ])
                  ∙ ap (λ (v : BricksView). entry_at v i) set
                  ∙ entry_kept bricks (low / 4096 - 1) i (pos 0) (low-covered setting)
                  (elim out [
                    | inl u ↦ (λ same. omega (arith, same, u, l))
                    | inr u ↦ (λ same. let a = o.first in
                        let w = o.lowest in omega (arith, same, u, end-is, c, m, a, w))
                  ])

              laid-all : IsLaidBelow rows (state old bricks0 queue0) (state now5 bricks5 next.queue) g e (suc e)
                  (s.moves ++ (m1 ++ m2))
              laid-all =
                  let o = order setting in
                  let a = o.first in
                  let l = s.low_is in
                  let w = within2 in
                  let count1 = laid.count in
                  let count2 = laid2.count in
                  laid-more old now bricks0 bricks queue0 queue (Generations g) (part_plugs rows old g e) e s.moves
                  s.laid can.heap can.inside
                  (takes-young rows old g e can) now5 bricks5 next.queue (m1 ++ m2) ending2
                  (subst (λ ps. AreFor ps (m1 ++ m2)) (sym here) (for-append older young m1 m2 fit1 fit2))
                  plan-here words-here (omega (arith, w, end-is)) (omega (arith, a, l))
                  (λ t u tk. let p = part-lower rows old g e can t u tk in
                  let f = (lawful_at old t can.heap (let i = can.inside in omega (arith, u, i))).low in
                  omega (arith, p, f))
                  saved-here (omega (arith, count1, count2)) outside-here entries-here
                  (shape-on now next.heap now5 (shape-on now mid.heap next.heap shape1 shape2) shape3)
                  (spans3 ∙ spans2 ∙ spans1 ∙ ap spans set ∙ spans-with_value bricks (low / 4096 - 1) (pos 0))

              -- the pointer from which generation 0 was placed
              pointer-is : (start1 : ℕ) → start1 ≡ (if g == 0 then old.start1 else middle.place) → middle.place
                  ≡ (if g == 0 then at.place else start1)
              pointer-is start1 is = go (g == 0) refl is
                where
                  none-old : (g == 0) ≡ true → older_plugs rows old g e ≡ []
                  none-old zero =
                      let not_two : (g == 2) ≡ false = ne_eqb g 2 (λ t. let z = eqb-true g 0 zero in
                      absurd (omega (arith, t, z))) in
                      ap₂ (λ (a b : Bool). (if a then small_plugs rows old 0 e else [])
                      ++ (if b then [] else old_part rows old g e)) not_two zero

                  go : (b : Bool) → (g == 0) ≡ b → start1 ≡ (if b then old.start1 else middle.place) → middle.place
                      ≡ (if b then at.place else start1)
                  go false off same = sym same
                  go true zero same =
                      let up = placed_up older_around.segments (plugs_around older_around older) from.place older m1
                      at.place laid.planned.placed in
                      let here : from.segment ≡ e = elim s.either [
                        | inl two ↦ absurd (let z = eqb-true g 0 zero in
                            omega (arith, two, z))
                        | inr seg ↦ seg
                      ] in
                      let low_is : first_of old e ≤ from.place = subst (λ k. first_of old k ≤ from.place) here
                      s.reached.stands.low in
                      let raised_is : middle.place ≡ max at.place (first_of old e) = raised.place
                      ∙ ap (λ ps. raised_past_pins ps (max at.place (first_of old e))) (none-old zero) in
                      omega (arith, raised_is, up, low_is)

              told : HasPlacedPart around2 rows old next.queue.entries middle e old.start0 (last_of old e) placed
              told =
                  subst (λ n. HasPlacedPart around2 rows old next.queue.entries middle e n (last_of old e) placed)
                  zero-is
                  (subst (λ n. HasPlacedPart around2 rows old next.queue.entries middle e start0 n placed) end-is
                  laid2.planned)

              -- THE HEAP is laid, with the pointer raised past the last pins
              pub all-laid : (start1 : ℕ) → start1 ≡ (if g == 0 then old.start1 else middle.place) → (last : Pointer)
                  → ((w : Around) (h : HeapView) → CanRaise w h next.queue.entries placed
                  → HasRaised w h next.queue.entries placed last)
                  → HasLaidHeap rows (state old bricks0 queue0) (state now5 bricks5 next.queue) g e start1 last.place
              all-laid start1 is last raise =
                  let next_is : suc e ≡ e + 1 = omega arith in
                  record {
                    moves = s.moves ++ (m1 ++ m2);
                    planned = record {
                      older_moves = s.moves ++ m1;
                      young_moves = m2;
                      after1 = at.place;
                      after0 = placed.place;
                      moves_are = sym (append_assoc s.moves m1 m2);
                      placed1 = older-reached.placed;
                      start1_is = is ∙ ap (λ n. if g == 0 then old.start1 else n) raised.place;
                      placed0 = subst (λ n. Placed (parts_in rows old g) (condemned_plugs rows old g e) n
                          (young_plugs rows old e) m2 placed.place) (pointer-is start1 is)
                          (subst (λ ps. Placed (parts_in rows old g) (condemned_plugs rows old g e) middle.place ps m2
                          placed.place) (sym (young-same setting))
                          (subst (λ ps. Placed (parts_in rows old g) ps middle.place young m2 placed.place)
                          (sym young-split) laid2.planned.placed));
                      start0_is = (raise (around_all rows old g e can mid.queue.entries middle raised.between
                          raised.segment next.queue.entries placed told) old (ready rows old g e can mid.queue.entries
                          middle raised.between raised.segment next.queue.entries placed told)).place;
                    };
                    laid = subst (λ k. IsLaidBelow rows (state old bricks0 queue0) (state now5 bricks5 next.queue) g e k
                        (s.moves ++ (m1 ++ m2))) next_is laid-all;
                  }
