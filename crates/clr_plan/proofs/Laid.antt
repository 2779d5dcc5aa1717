-- A part of a segment, placed and written plug by plug.
use Rattle.std.proofs.lemmas.List.{append-nil}
use Rattle.std.proofs.Common.{◌≡◌, ◌≢◌, ◌⊎◌, inl, inr, ℕ, ◌+◌, ◌-◌, ◌*◌, ◌/◌, ◌%◌, ◌^◌, ◌<◌, ◌≤◌, List, [], ◌∷◌}
use Rattle.std.proofs.Common.{◌++◌, length, map, refl, ap, sym, ◌∙◌, subst, arith, append_assoc}
use Rattle.std.proofs.lemmas.List.{length-append, map-append}
use Rattle.clr_types.specs.Rising.{first, IsIn}
use Rattle.clr_types.specs.Types.{TypeRow}
use Rattle.clr_types.proofs.ChangedLists.{append_left}
use Rattle.clr_types.proofs.ListMembers.{append_right}
use Rattle.clr_heap.specs.View.{first_of, HeapView, IsHeap, word_of}
use Rattle.clr_heap.proofs.Addresses.{in_one_segment}
use Rattle.clr_model.specs.Compaction.{Move, Plug, plug_end}
use Rattle.clr_pinq.specs.Queue.{last_end}
use Rattle.clr_plugs.specs.Info.{HasInfo}
use Rattle.clr_plugs.specs.Planning.{IsAbovePlugs, IsWriting, with_plug}
use Rattle.clr_plugs.specs.Plans.{IsPlaceIn, PlannedPart, PlannedPlug, plug_starts}
use Rattle.clr_plugs.proofs.Keeping.{in_pushed}
use Rattle.clr_plugs.proofs.Planning.{starts-with}
use Rattle.clr_plugs.proofs.Starts.{all_from, in_brick}
use Rattle.clr_plugs.specs.Builders.{IsNoChildren}
use Rattle.clr_bricks.specs.Bricks.{entry_at}
use Rattle.clr_plan.specs.LaidParts.{CanLay, end_behind, HasLaid, IsLaying, last_pushed_for, opened_by, planned_plugs}
use Rattle.clr_plan.specs.LaidParts.{pushes_for}
use Rattle.clr_plan.specs.Parts.{Around, plugs_around}
use Rattle.clr_plan.specs.Runs.{HasNext}
use Rattle.clr_plan.specs.Scans.{CanScan, plugs_between}
use Rattle.clr_plan.specs.Stages.{CanGo, HasGone, Stage}
use Rattle.clr_plan.specs.States.{progress, stretch, Written}
use Rattle.clr_plan.specs.Waiting.{move_to, ranges_from}
use Rattle.clr_plan.specs.Writes.{AreSavedAt, CanWrite, distance_of, entries_for, HasWritten, IsWritingAmong, opened}
use Rattle.clr_plan.specs.declared.pointer.Pointer.{Pointer}
use Rattle.clr_plan.specs.declared.scan.NextPlug.{NextPlug}
use Rattle.clr_plan.proofs.LaidLists.{end-more, last-append, last-one, opened-more, planned-more, pushes-append}
use Rattle.clr_plan.proofs.LaidLists.{pushes-one}
use Rattle.clr_plan.proofs.PartPlan.{can-settle, IsPlanning, plan-ends, plan-more, plan-starts, stage}
use Rattle.clr_plan.proofs.Waiting.{saved-pushed, with-pushed}
use Rattle.clr_plan.proofs.Seen.{go-on, gone-back, LiesUpTo, next-lies, next-old, plugs-now, scan-now}

module _ (w : Around) (rows : List TypeRow) (old : HeapView) (begin : Written) (from : Pointer) (starts free : List ℕ)
    (part : PlannedPart) (k p e below : ℕ)
    (can : CanLay w rows old (progress begin from below) starts free part (stretch k p e)) where
  abbrev mine : List Plug
  mine = plugs_between rows old k p e

  abbrev from_last : ℕ
  from_last = last_end 0 begin.queue.entries

  abbrev part_with : List Plug → List Move → PlannedPart
  part_with ps vs = record part { plugs = part.plugs ++ planned_plugs below ps vs }

  abbrev starts_with : List Plug → List ℕ
  starts_with ps = starts ++ map (λ q. q.start) ps

  -- the plugs below the place are planned and written
  pub record IsLaidUpTo (now : Written) (at : Pointer) (place ending : ℕ) : Type 0 where
    pub s : IsPlanning w rows old begin.queue.entries from k p e can.plan now.queue.entries at place
    pub laying : IsLaying old now (starts_with s.passed) (opened_by free (first_of old k) below s.passed)
        (part_with s.passed s.moves) k ending
    pub ends : ending ≡ end_behind below s.passed
    pub up : ending ≤ place
    pub spare : begin.queue.spare ≤ now.queue.spare + pushes_for from_last (first_of old k) below s.passed
    pub count : begin.queue.spare + length begin.queue.entries ≡ now.queue.spare + length now.queue.entries
    pub last : last_end 0 now.queue.entries ≡ last_pushed_for from_last (first_of old k) below s.passed
    pub saved : (ps : List Plug) → AreSavedAt begin.queue.entries ps → AreSavedAt now.queue.entries (ps ++ s.passed)
    pub outside : (b : ℕ) → b % 8 ≡ 0 → b + 32 < part.low → word_of now.heap b ≡ word_of begin.heap b
    pub entries : (i : ℕ) → (i < begin.writer.builder.brick) ⊎ (e ≤ i * 4096) → entry_at now.bricks i
        ≡ entry_at begin.bricks i
    pub bricks : begin.writer.builder.brick ≤ now.writer.builder.brick
    pub within : below ≤ e → ending ≤ e

  pub lay-starts : IsLaidUpTo begin from p below
  unfolding plan-starts
  lay-starts =
      let S : List ℕ → Type 0 = λ xs. IsLaying old begin xs free part k below in
      let Q : List PlannedPlug → Type 0 = λ ps. IsLaying old begin (starts ++ []) free (record part { plugs = ps }) k
      below in
      record {
        s = plan-starts w rows old begin.queue.entries from k p e can.plan;
        laying = subst Q (sym (append-nil part.plugs)) (subst S (sym (append-nil starts)) can.laying);
        ends = refl;
        up = can.start;
        spare = omega arith;
        count = omega arith;
        last = refl;
        saved = λ ps is. subst (AreSavedAt begin.queue.entries) (sym (append-nil ps)) is;
        outside = λ b z l. refl;
        entries = λ i out. refl;
        bricks = omega arith;
        within = λ u. u;
      }

  module _ (now : Written) (at : Pointer) (place ending : ℕ) (l : IsLaidUpTo now at place ending) where
    pub scan-here : CanScan rows now.heap k place e
    scan-here = scan-now rows old now.heap k place e ending l.laying.words.shape l.laying.words.ahead l.up l.s.scan

    pub lay-ends : plugs_between rows now.heap k place e ≡ [] → HasLaid w rows old (progress begin from below)
        (progress now at ending) starts free part (stretch k p e)
    unfolding plan-ends
    lay-ends none =
        let none_old : plugs_between rows old k place e ≡ [] =
        sym (plugs-now rows old now.heap k place e ending l.laying.words.shape l.laying.words.ahead l.up l.s.scan)
        ∙ none in
        let all : l.s.passed ≡ mine = sym (l.s.plugs ∙ ap (λ ps. l.s.passed ++ ps) none_old ∙ append-nil l.s.passed) in
        let L : List Plug → Type 0 = λ ps. IsLaying old now (starts_with ps) (opened_by free (first_of old k) below ps)
        (part_with ps l.s.moves) k ending in
        let S : List Plug → Type 0 = λ ps. begin.queue.spare ≤ now.queue.spare + pushes_for from_last (first_of old k)
        below ps in
        record {
          planned = plan-ends w rows old begin.queue.entries from k p e can.plan now.queue.entries at place l.s
              none_old;
          laying = subst L all l.laying;
          ends = l.ends ∙ ap (end_behind below) all;
          spare = subst S all l.spare;
          count = l.count;
          last = l.last ∙ ap (last_pushed_for from_last (first_of old k) below) all;
          saved = λ ps is. subst (λ qs. AreSavedAt now.queue.entries (ps ++ qs)) all (l.saved ps is);
          outside = l.outside;
          entries = l.entries;
          within = l.within;
        }

    module _ (found : NextPlug) (read : HasNext rows now.heap k place e found) where
      abbrev plug : Plug
      plug = found.plug

      next : HasNext rows old k place e found
      next = next-old rows old now.heap k place e ending l.laying.words.shape l.laying.words.ahead l.up l.s.scan found
          read

      abbrev rest : List Plug
      rest = plugs_between rows old k found.next e

      pub one : Stage
      one = stage w rows old begin.queue.entries from k p e can.plan now.queue.entries at place l.s found next

      settles : CanGo one old now.queue.entries at k plug
      unfolding one
      settles = can-settle w rows old begin.queue.entries from k p e can.plan now.queue.entries at place l.s found next

      pub lay-settles : CanGo one now.heap now.queue.entries at k plug
      lay-settles = go-on one old now.heap l.laying.heap l.laying.words.shape now.queue.entries at k plug settles

      lies : LiesUpTo e plug.start (plug_end plug) × (place ≤ plug.start)
      lies = next-lies rows old k place e l.s.scan plug rest next.plugs

      least : 24 ≤ plug.size
      unfolding one
      least = (settles.plugs.each plug (append_right (w.done ++ l.s.passed) first)).size

      abbrev here : PlannedPart
      here = part_with l.s.passed l.s.moves

      here-place : IsPlaceIn here plug.start
      here-place =
          let a = l.laying.low in
          let b = l.up in
          let c = lies.1 in
          let d = lies.0.high in
          let f = can.high in
          let n = least in
          record { low = omega (arith, a, b, c); high = omega (arith, d, f, n); aligned = lies.0.starts }

      here-above : IsAbovePlugs here plug.start
      here-above x i = let a = l.laying.behind x i in let b = l.up in let c = lies.1 in omega (arith, a, b, c)

      ending-info : HasInfo now.heap (plug_end plug)
      ending-info =
          let part_lies = l.laying.writing.planning.plan.lies in
          let low = part_lies.low in
          let high = part_lies.high in
          let pl = here-place.low in
          let z = lies.0.ends in
          let d = lies.0.high in
          let f = can.high in
          let n = least in
          record {
            above = omega (arith, n, low, pl);
            bytes = in_one_segment now.heap here.segment (plug_end plug - 32) l.laying.heap part_lies.segment
                (omega (arith, low, pl, n)) 24 (omega (arith, low, pl, z, n)) refl (omega arith)
                (omega (arith, high, d, f, low, pl, n));
          }

      room-left : 1 ≤ now.queue.spare
      room-left =
          let a = can.spare in
          let b = l.spare in
          let c : pushes_for from_last (first_of old k) below mine ≡ pushes_for from_last (first_of old k) below
          (l.s.passed ++ plugs_between rows old k place e) = ap (pushes_for from_last (first_of old k) below)
          l.s.plugs in
          let d = pushes-append from_last (first_of old k) below l.s.passed (plugs_between rows old k place e) in
          omega (arith, a, b, c, d)

      -- the walk comes nearer to the end
      pub lay-smaller : e - found.next < e - place
      lay-smaller =
          let a = read.above in
          let b = lies.0.high in
          let d = lies.1 in
          let n = least in
          omega (arith, a, b, d, n)

      pub lay-can : (base to : ℕ) → to < 2 ^ 63 → CanWrite now.heap now.bricks now.queue now.writer plug to base ending
      lay-can base to small =
          let b = l.up in
          let c = lies.1 in
          let d = lies.0.high in
          let n = least in
          let wide = l.s.scan.high in
          let brick = l.laying.brick in
          record {
            heap = l.laying.heap;
            writing = record {
              part = here;
              writing = l.laying.writing;
              place = here-place;
              above = here-above;
              up = omega (arith, b, c, brick);
            };
            room = room-left;
            live = omega (arith, b, c);
            end = elim l.laying.words.end [ inl e ↦ omega (arith, e) | inr u ↦ omega (arith, u) ];
            apart = λ same. l.laying.words.end;
            ending = ending-info;
            least = n;
            small = omega (arith, d, n, wide);
            goes = small;
          }

      pub lay-more : (after : Written) (at2 : Pointer) (first_place : ℕ) → first_place ≡ first_of old k
          → IsHeap after.heap
          → ((v : Stage) → CanGo v now.heap now.queue.entries at k plug → (to : ℕ)
          × HasGone v now.heap now.queue.entries at k plug to at2
          × ((q : PlannedPart) → IsWriting now.heap now.bricks q now.writer → IsPlaceIn q plug.start
          → IsAbovePlugs q plug.start
          → IsWriting after.heap after.bricks (with_plug q plug.start (plug.start - ending) (distance_of plug.start to))
          after.writer))
          → ((old : HeapView) (starts free : List ℕ) → HasWritten old now.heap now.queue.entries starts free ending
          → IsWritingAmong now.heap now.bricks now.writer starts
          → HasWritten old after.heap after.queue.entries (starts ++ plug.start ∷ [])
          (opened free first_place ending plug.start) (plug_end plug))
          → after.writer.builder.brick ≡ plug.start / 4096 → after.queue.entries ≡ now.queue.entries
          ++ entries_for now.queue.entries (word_of now.heap) first_place ending plug
          → now.queue.spare ≡ after.queue.spare + length (entries_for now.queue.entries (word_of now.heap) first_place
          ending plug) → plug_end plug ≤ found.next
          → ((b : ℕ) → b % 8 ≡ 0 → (b + 32 < plug.start) ⊎ (plug.start ≤ b + 8) → IsNoChildren now.writer.builder.plugs
          b → word_of after.heap b ≡ word_of now.heap b)
          → ((i : ℕ) → (i < now.writer.builder.brick) ⊎ (plug.start / 4096 ≤ i) → entry_at after.bricks i
          ≡ entry_at now.bricks i) → IsLaidUpTo after at2 found.next (plug_end plug)
      unfolding plan-more one
      lay-more after at2 first_place same heap settled words brick pushed spare over others entries =
          let (to, gone_now, writes) = settled one lay-settles in
          let gone : HasGone one old now.queue.entries at k plug to at2 = gone-back one old now.heap l.laying.heap
          l.laying.words.shape l.s.among.heap now.queue.entries at k plug to at2 gone_now in
          let move : Move = move_to plug to in
          let c = lies.1 in
          let b = l.up in
          let n = least in
          let low = l.laying.low in
          let entry : PlannedPlug = record {
            start = plug.start;
            gap = plug.start - ending;
            distance =
                distance_of plug.start to;
          } in
          let In : ℕ → List ℕ → Type 0 = λ x xs. IsIn x xs in
          let W : ℕ → Type 0 = λ m. HasWritten old after.heap after.queue.entries (starts_with l.s.passed
          ++ plug.start ∷ []) (opened (opened_by free (first_of old k) below l.s.passed) m ending plug.start)
          (plug_end plug) in
          let base : IsLaying old after (starts_with l.s.passed ++ plug.start ∷ [])
          (opened (opened_by free (first_of old k) below l.s.passed) (first_of old k) ending plug.start)
          (with_plug here plug.start (plug.start - ending) (distance_of plug.start to)) k (plug_end plug) = record {
            heap = heap;
            words = subst W same (words old (starts_with l.s.passed) (opened_by free (first_of old k) below l.s.passed)
                l.laying.words (record { part = here; writing = l.laying.writing; among = l.laying.among }));
            writing = writes here l.laying.writing here-place here-above;
            segment = l.laying.segment;
            low = omega (arith, low, b, c);
            behind = λ x i. elim (in_pushed (plug_starts here.plugs) plug.start x
                (subst (In x) (starts-with here.plugs entry) i)) [
                  | inl o ↦ let u = l.laying.behind x o in
                      omega (arith, u, b, c)
                  | inr e ↦ omega (arith, e, n)
                ];
            among = λ x i. elim (in_pushed (plug_starts here.plugs) plug.start x
                (subst (In x) (starts-with here.plugs entry) i)) [
                  | inl o ↦ append_left (plug.start ∷ []) (l.laying.among x o)
                  | inr e ↦ let Q : ℕ → Type 0 = λ y. IsIn y (starts_with l.s.passed ++ plug.start ∷ []) in
                      subst Q (sym e) (append_right (starts_with l.s.passed) first)
                ];
            brick = omega (arith, brick);
          } in
          let starts_are : starts_with l.s.passed ++ plug.start ∷ [] ≡ starts_with (l.s.passed ++ plug ∷ []) =
          append_assoc starts (map (λ q. q.start) l.s.passed) (plug.start ∷ [])
          ∙ sym (ap (λ xs. starts ++ xs) (map-append (λ (q : Plug). q.start) l.s.passed (plug ∷ []))) in
          let free_are : opened (opened_by free (first_of old k) below l.s.passed) (first_of old k) ending plug.start
          ≡ opened_by free (first_of old k) below (l.s.passed ++ plug ∷ []) =
          ap (λ m. opened (opened_by free (first_of old k) below l.s.passed) (first_of old k) m plug.start) l.ends
          ∙ sym (opened-more free (first_of old k) below l.s.passed plug) in
          let plugs_are : (part.plugs ++ planned_plugs below l.s.passed l.s.moves) ++ entry ∷ [] ≡ part.plugs
          ++ planned_plugs below (l.s.passed ++ plug ∷ []) (l.s.moves ++ move ∷ []) =
          append_assoc part.plugs (planned_plugs below l.s.passed l.s.moves) (entry ∷ [])
          ∙ ap (λ m. part.plugs ++ (planned_plugs below l.s.passed l.s.moves
          ++ record { start = plug.start; gap = plug.start - m; distance = distance_of plug.start to } ∷ [])) l.ends
          ∙ sym (ap (λ xs. part.plugs ++ xs) (planned-more w.segments (plugs_around w mine) from.place below l.s.passed
          l.s.moves at.place plug move l.s.placed)) in
          let A : List ℕ → Type 0 = λ xs. IsLaying old after xs
          (opened (opened_by free (first_of old k) below l.s.passed) (first_of old k) ending plug.start)
          (with_plug here plug.start (plug.start - ending) (distance_of plug.start to)) k (plug_end plug) in
          let B : List ℕ → Type 0 = λ xs. IsLaying old after (starts_with (l.s.passed ++ plug ∷ [])) xs
          (with_plug here plug.start (plug.start - ending) (distance_of plug.start to)) k (plug_end plug) in
          let C : List PlannedPlug → Type 0 = λ ps. IsLaying old after (starts_with (l.s.passed ++ plug ∷ []))
          (opened_by free (first_of old k) below (l.s.passed ++ plug ∷ [])) (record part { plugs = ps }) k
          (plug_end plug) in
          let ends = lies.0.high in
          let pushes = pushes-append from_last (first_of old k) below l.s.passed (plug ∷ []) in
          let single : length (entries_for now.queue.entries (word_of now.heap) first_place ending plug)
          ≡ pushes_for (last_pushed_for from_last (first_of old k) below l.s.passed) (first_of old k)
          (end_behind below l.s.passed) (plug ∷ []) =
          pushes-one now.queue.entries (word_of now.heap) first_place ending plug
          ∙ ap (λ m. pushes_for m first_place ending (plug ∷ [])) l.last
          ∙ ap (λ m. pushes_for (last_pushed_for from_last (first_of old k) below l.s.passed) m ending (plug ∷ []))
          same
          ∙ ap (λ m. pushes_for (last_pushed_for from_last (first_of old k) below l.s.passed) (first_of old k) m
          (plug ∷ [])) l.ends in
          let spare_before = l.spare in
          record {
            s = plan-more w rows old begin.queue.entries from k p e can.plan now.queue.entries at place l.s found next
                after.queue.entries at2 to gone
                (let m = ap length pushed ∙ length-append now.queue.entries
                (entries_for now.queue.entries (word_of now.heap) first_place ending plug) in omega (arith, m))
                (ap (ranges_from at2.passed) pushed ∙ with-pushed now.queue.entries (word_of now.heap) first_place
                ending plug n at2.passed gone.behind);
            laying = subst C plugs_are (subst B free_are (subst A starts_are base));
            ends = sym (end-more below l.s.passed plug);
            up = over;
            spare = omega (arith, spare, spare_before, pushes, single);
            count = (let m = ap length pushed ∙ length-append now.queue.entries
                (entries_for now.queue.entries (word_of now.heap) first_place ending plug) in let count = l.count in
                omega (arith, m, count, spare));
            last = ap (last_end 0) pushed ∙ last-one now.queue.entries (word_of now.heap) first_place ending plug
                ∙ ap (λ m. last_pushed_for m first_place ending (plug ∷ [])) l.last
                ∙ ap (λ m. last_pushed_for (last_pushed_for from_last (first_of old k) below l.s.passed) m ending
                (plug ∷ [])) same
                ∙ ap (λ m. last_pushed_for (last_pushed_for from_last (first_of old k) below l.s.passed)
                (first_of old k) m (plug ∷ [])) l.ends
                ∙ sym (last-append from_last (first_of old k) below l.s.passed (plug ∷ []));
            saved = λ ps is. subst (λ es. AreSavedAt es (ps ++ (l.s.passed ++ plug ∷ []))) (sym pushed)
                (subst (AreSavedAt (now.queue.entries ++ entries_for now.queue.entries (word_of now.heap) first_place
                ending plug)) (append_assoc ps l.s.passed (plug ∷ []))
                (saved-pushed now.queue.entries (ps ++ l.s.passed) (word_of now.heap) first_place ending plug
                (let place_low = here-place.low in let part_low = l.laying.writing.planning.plan.lies.low in
                omega (arith, place_low, part_low)) n (l.saved ps is)));
            outside = λ a z under. (let place_low = here-place.low in
                others a z (inl (omega (arith, under, place_low))) (all_from (λ x. a + 16 ≢ x) now.writer.builder.plugs
                (λ x i. (let kid_low = (l.laying.writing.planning.plan.lies.places x
                (in_brick now.writer.builder.brick (plug_starts here.plugs) x
                (subst (In x) l.laying.writing.planning.held i)).0).low in
                (λ s. omega (arith, s, kid_low, under)))))
                ∙ l.outside a z under);
            entries = λ i out. (let mono = l.bricks in
                entries i (elim out [ inl u ↦ inl (omega (arith, u, mono)) | inr u ↦ inr (omega (arith, u, ends, n)) ])
                ∙ l.entries i out);
            bricks = (let mono = l.bricks in let at_brick = l.laying.brick in
                omega (arith, mono, brick, at_brick, b, c));
            within = λ u. ends;
          }
