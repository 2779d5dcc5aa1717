-- What was laid is the plan of the whole heap.
use Rattle.std.proofs.Common.{◌≡◌, ◌⊎◌, inl, inr, ℕ, zero, suc, ◌+◌, ◌-◌, ◌%◌, ◌<◌, ◌≤◌, List, [], ◌∷◌, ◌++◌}
use Rattle.std.proofs.Common.{length, map, refl, sym, ap, subst, ◌∙◌, arith, Bool, true, if◌then◌else◌}
use Rattle.std.specs.Prelude.{IsSome}
use Rattle.std.proofs.lemmas.Bool.{both_ways, cases_lt, cases_order}
use Rattle.clr_types.specs.Rising.{first, IsIn, IsRisingBy}
use Rattle.clr_types.specs.Types.{TypeRow}
use Rattle.clr_types.proofs.ChangedLists.{IsIn-map}
use Rattle.clr_types.proofs.ListMembers.{append_right, from-map, in_append}
use Rattle.clr_types.proofs.RisingLists.{in_cons}
use Rattle.clr_heap.specs.View.{first_of, HeapView, last_of, segment_at}
use Rattle.clr_heap.specs.View.{word_of}
use Rattle.clr_heap.proofs.Framing.{lawful_at}
use Rattle.clr_heap.proofs.Staying.{segment_order}
use Rattle.clr_model.specs.Compaction.{Move, Plug, plug_end}
use Rattle.clr_model.specs.Sweep.{Survivor}
use Rattle.clr_view.specs.Marks.{has_mark}
use Rattle.clr_view.specs.View.{AreFreeHeads}
use Rattle.clr_pinq.specs.Queue.{queue_word, QueueView}
use Rattle.clr_plugs.specs.BrickEntries.{BricksView}
use Rattle.clr_plugs.specs.Info.{IsInfoWord}
use Rattle.clr_moves.specs.Moves.{AreInLine, AreMoves, move_at, part_of, plug_stop, takes}
use Rattle.clr_moves.specs.Overlaid.{IsOutside, IsOverlaid, IsPlugWord}
use Rattle.clr_moves.specs.declared.condemned.Condemned.{Condemned}
use Rattle.clr_moves.specs.Told.{IsMarkedRun, IsPartPlanned, moves_from, TellMoves}
use Rattle.clr_plan.specs.LaidParts.{end_behind}
use Rattle.clr_plan.specs.PartLists.{AreFor, AreLaid, moves_in, opened_in, plan_in, plugs_in}
use Rattle.clr_plan.specs.Scans.{survivors_between}
use Rattle.clr_plan.specs.States.{state}
use Rattle.clr_plan.specs.Writes.{IsOutsideInfo, IsSavedBefore}
use Rattle.clr_plan.proofs.Ages.{survivor-place}
use Rattle.clr_plan.proofs.Fitting.{move-of, plug-at}
use Rattle.clr_plan.proofs.Homes.{all-for, free-in-part, free-of-plugs, HaveHomes, home-of, in-plugs, inside-of}
use Rattle.clr_plan.proofs.Homes.{part-gapped, part-rises, sized}
use Rattle.clr_plan.proofs.MarkedRuns.{last-run}
use Rattle.clr_plan.proofs.PartFacts.{HasFacts}
use Rattle.clr_plan.proofs.Pins.{before}
use Rattle.clr_plan.proofs.Telling.{AreDown, last-of-plans, moves-told, plans-down, told-above, told-below}

module _ (rows : List TypeRow) (old now : HeapView) (bricks0 bricks : BricksView) (queue0 queue : QueueView)
    (g : Condemned) (plugs : ℕ → List Plug) (count : ℕ) (homes : HaveHomes old g plugs count) (moves : List Move)
    (laid : AreLaid (state old bricks0 queue0) (state now bricks queue) g plugs count moves) where
  abbrev all : List Plug
  all = plugs_in old g plugs count

  abbrev free : List ℕ
  free = opened_in old g plugs count

  pub fits : AreFor all moves
  fits = subst (AreFor all) (sym laid.moves_are)
      (all-for old g plugs count homes laid.each laid.fit count (omega arith))

  -- ---- words

  -- a word of a plug's cells, and one outside of the parts, stands in the information of no free place
  in-plug-out : (k b : ℕ) → IsPlugWord moves k b → IsOutsideInfo free b
  in-plug-out k b is x i info =
      let r = plug-at all moves fits k is.within in
      let low = is.low in
      let high = is.high in
      let start = r.start in
      let size = r.size in
      free-of-plugs old g plugs count homes x b i info r.plug r.known (omega (arith, low, start))
      (omega (arith, high, start, size))

  outside-out : (b : ℕ) → IsOutside old g b → IsOutsideInfo free b
  outside-out b out x i info = free-in-part old g plugs count homes x b i info out

  -- one of three words
  one-saved : (a b : ℕ) → 32 ≤ a → a % 8 ≡ 0 → b % 8 ≡ 0 → IsInfoWord a b → IsSavedBefore queue.entries a
      → IsSome (queue_word queue.entries b)
  one-saved a b up z y is t =
      let P : ℕ → Type 0 = λ c. IsSome (queue_word queue.entries c) in
      let low = is.0 in
      let high = is.1 in
      elim (cases_lt b (a - 24)) [
        | inl l ↦ let at : a - 32 ≡ b = omega (arith, l, low, high, up, z, y) in subst P at t.0
        | inr u ↦ elim (cases_lt b (a - 16)) [
          | inl l ↦ let at : a - 24 ≡ b = omega (arith, l, u, low, high, up, z, y) in subst P at t.1
          | inr v ↦ let at : a - 16 ≡ b = omega (arith, v, low, high, up, z, y) in subst P at t.2
        ]
      ]

  -- where a plug stands
  pub record Stands (q : Plug) : Type 0 where
    pub number : ℕ
    pub below : number < count
    pub taken : takes g (segment_at old number) ≡ true
    pub known : IsIn q (plugs number)
    pub first_low : first_of old number ≤ part_of old g number
    pub low : part_of old g number ≤ q.start
    pub high : plug_end q ≤ last_of old number
    pub aligned : q.start % 8 ≡ 0
    pub ends : plug_end q % 8 ≡ 0
    pub size : 24 ≤ q.size

  pub stands : (q : Plug) → IsIn q all → Stands q
  stands q i =
      let home = home-of old g plugs count homes count q i in
      let lies = homes.lies home.number home.below home.taken q home.known in
      record {
        number = home.number;
        below = home.below;
        taken = home.taken;
        known = home.known;
        first_low =
            homes.from_first home.number home.below home.taken;
        low = lies.low;
        high = lies.high;
        aligned =
            lies.aligned;
        ends = lies.ends;
        size = sized old g plugs count homes q i;
      }

  pub overlaid : AreMoves old g moves → AreInLine moves
      → IsOverlaid old now queue.entries g moves
  overlaid are line = record {
    heap = homes.heap;
    moves = are;
    line = line;
    starts = λ k l. (
        let r = plug-at all moves fits k l in
        let s = stands r.plug r.known in
        let start = r.start in
        let low = s.low in
        let high = s.high in
        let size = s.size in
        let top = (lawful_at old s.number homes.heap (inside-of old g plugs count homes s.number s.below)).high in (
          s.number,
          record {
            in_range = inside-of old g plugs count homes s.number s.below;
            takes = s.taken;
            low = omega (arith, start, low);
            high = omega (arith, start, high, size, top);
          },
        )
        );
    shape = laid.words.shape;
    cells = λ k b z is. laid.words.kept b z (in-plug-out k b is);
    outside = λ b z out. laid.words.kept b z (outside-out b out);
    saved = λ b z h. (
        let (q, i, info) = laid.saved b h in
        let m = move-of all moves fits q i in
        let start = m.start in
        let size = m.size in (
          m.index,
          m.within,
          elim info [
            | inl w ↦ inl (subst (λ n. IsInfoWord n b) (sym start) w)
            | inr w ↦ inr (let stop : plug_end q ≡ plug_stop (move_at moves m.index) = omega (arith, start, size) in
                subst (λ n. IsInfoWord n b) stop w)
          ],
        )
        );
    hidden = λ k b l z info. (
        let r = plug-at all moves fits k l in
        let s = stands r.plug r.known in
        let low = s.low in
        let first_low = s.first_low in
        let here : IsInfoWord r.plug.start b = subst (λ n. IsInfoWord n b) r.start info in
        let x_in : IsIn r.plug.start (map (λ (q : Plug). q.start) all) = IsIn-map (λ (q : Plug). q.start) r.known in
        elim (laid.words.told r.plug.start x_in) [
          | inl f ↦ inr (λ j is. in-plug-out j b is r.plug.start f here, λ out. outside-out b out r.plug.start f here)
          | inr t ↦ inl (one-saved r.plug.start b (omega (arith, low, first_low)) s.aligned z here t)
        ]
        );
  }

  -- ---- parts

  same-takes : (t : ℕ) → takes g (segment_at now t) ≡ takes g (segment_at old t)
  same-takes t = ap (λ (h : HeapView). takes g (segment_at h t)) laid.words.shape.others

  down-below : (each : ℕ → List Move) (k : ℕ) → AreDown (moves_in old g each k) → (t : ℕ) → t < k
      → takes g (segment_at old t) ≡ true → AreDown (each t)
  down-below each zero d t l on = absurd (omega arith)
  down-below each (suc k) d t l on = elim (cases_lt t k) [
    | inl u ↦ down-below each k
        (front (moves_in old g each k) (if takes g (segment_at old k) then each k else []) d)
        t u on
    | inr u ↦ let same : k ≡ t = omega arith in
        subst (λ j. AreDown (each j)) same (subst (λ (b : Bool). AreDown (if b then each k else []))
        (subst (λ j. takes g (segment_at old j) ≡ true) (sym same) on)
        (back (moves_in old g each k) (if takes g (segment_at old k) then each k else []) d))
  ]
    where
      front : (xs ys : List Move) → AreDown (xs ++ ys) → AreDown xs
      front [] ys d = tt
      front (x ∷ xs) ys d = (d.0, front xs ys d.1)

      back : (xs ys : List Move) → AreDown (xs ++ ys) → AreDown ys
      back [] ys d = d
      back (x ∷ xs) ys d = back xs ys d.1

  module _ (down : AreDown moves) (facts : (t : ℕ) → t < count → takes g (segment_at old t) ≡ true
      → HasFacts rows old g plugs t) (heads : AreFreeHeads rows old) where
    part-down : (t : ℕ) → t < count → takes g (segment_at old t) ≡ true → AreDown (laid.each t)
    part-down t l on = down-below laid.each count (subst AreDown laid.moves_are down) t l on

    -- ---- the last plug

    module _ (t : ℕ) (l : t < count) (on : takes g (segment_at old t) ≡ true) (others : List Plug)
        (q : Plug)
        (split : plugs t ≡ others ++ q ∷ []) where
      q-in : IsIn q (plugs t)
      q-in = subst (IsIn q) (sym split) (append_right others first)

      q-known : IsIn q all
      q-known = in-plugs old g plugs count t q l on q-in

      -- every other plug of the part starts below it
      others-lower : (w : Plug) → IsIn w (plugs t) → (w.start < q.start) ⊎ (w ≡ q)
      others-lower w i = elim (in_append others (subst (IsIn w) split i)) [
        | inl j ↦ inl (before others (q ∷ []) (subst (IsRisingBy (λ (p : Plug). p.start)) split
            (part-rises old g plugs count homes t l on)) w q j first)
        | inr j ↦ elim (in_cons j) [ inl same ↦ inr same | inr none ↦ elim none [ ] ]
      ]

      -- nothing is written from its start on
      ahead : (b : ℕ) → b % 8 ≡ 0 → q.start ≤ b + 8 → b + 8 < last_of old t → word_of now b ≡ word_of old b
      ahead b z low high = laid.words.others b z out
        where
          lies : Stands q
          lies = stands q q-known

          far : (w : Plug) → Stands w → IsInfoWord w.start b → ⊥
          far w s info = elim (cases_order s.number t) [
            | inl same ↦ elim (others-lower w (subst (λ n. IsIn w (plugs n)) same s.known)) [
              | inl u ↦ let c = info.1 in omega (arith, u, c, low)
              | inr is ↦ let at = ap (λ (p : Plug). p.start) is in let c = info.1 in omega (arith, at, c, low)
            ]
            | inr other ↦ elim other [
              | inl u ↦
                  let o = segment_order old s.number t homes.heap u (inside-of old g plugs count homes t l) in
                  let inside = inside-of old g plugs count homes s.number s.below in
                  let top = (lawful_at old s.number homes.heap inside).high in
                  let f = homes.from_first t l on in
                  let mine = (homes.lies t l on q q-in).low in
                  let h = s.high in
                  let c = info.1 in
                  omega (arith, o, top, f, mine, h, c, low)
              | inr u ↦
                  let inside = inside-of old g plugs count homes s.number s.below in
                  let o = segment_order old t s.number homes.heap u inside in
                  let top = (lawful_at old t homes.heap (inside-of old g plugs count homes t l)).high in
                  let f = s.first_low in
                  let d = s.low in
                  let c = info.0 in
                  omega (arith, o, top, f, d, c, high)
            ]
          ]

          out : IsOutsideInfo (map (λ (p : Plug). p.start) all) b
          out x i info =
              let (w, same, j) = from-map (λ (p : Plug). p.start) x all i in
              far w (stands w j) (subst (λ n. IsInfoWord n b) same info)

      run-here : IsMarkedRun rows now t q.start (plug_end q)
      run-here =
          let f = facts t l on in
          let lies = homes.lies t l on q q-in in
          last-run rows old now t (part_of old g t)
          (last_of old t) f.scan refl q lies.low lies.high lies.aligned
          lies.ends (sized old g plugs count homes q q-known) (f.covered q q-in) none laid.words.shape ahead
          (λ i n free. ap has_mark (heads i (f.listed i n) free).1)
        where
          none : (k : Survivor) → IsIn k (survivors_between rows old t (part_of old g t) (last_of old t))
              → plug_end q ≤ k.place → ⊥
          none k i u =
              let r = (facts t l on).plugged k i in
              let (a, b, c, d, s) = survivor-place rows old t (part_of old g t) (last_of old t) (facts t l on).scan k i
              in
              let low = r.low in
              let high = r.high in
              elim (others-lower r.plug r.known) [
                | inl v ↦
                    let gap = homes.lie.apart r.plug q (in-plugs old g plugs count t r.plug l on
                    r.known) q-known v in
                    let sz = sized old g plugs count homes q q-known in
                    elim gap [ inl e2 ↦ omega (arith, e2, high, u, sz, s) | inr e2 ↦ omega (arith, e2, high, u, sz, s) ]
                | inr is ↦ let end = ap plug_end is in omega (arith, end, high, u, s)
              ]

    -- ---- all parts

    abbrev lasts : ℕ → ℕ
    lasts t = end_behind (part_of old g t) (plugs t)

    inside-below : (t : ℕ) → t < length now.segments → takes g (segment_at now t) ≡ true → t < count
    inside-below t l on =
        let on_old : takes g (segment_at old t) ≡ true = sym (same-takes t) ∙ on in
        let l_old : t < length old.segments = subst (λ (h : HeapView). t < length h.segments) laid.words.shape.others l
        in
        elim (cases_lt t count) [
          | inl u ↦ u
          | inr u ↦ absurd (both_ways (takes g (segment_at old t)) (homes.above t u l_old) on_old)
        ]

    part-planned : (t : ℕ) → t < length now.segments → takes g (segment_at now t) ≡ true
        → IsPartPlanned rows now bricks
        g t (plan_in old g plugs t (laid.each t)) (lasts t)
    part-planned t inside on_now =
        let l = inside-below t inside on_now in
        let on : takes g (segment_at old t) ≡ true = sym (same-takes t) ∙ on_now in
        record {
          planned = laid.plans t l on;
          segment = refl;
          low = sym (ap (λ (h : HeapView). part_of h g t) laid.words.shape.others);
          high = sym (ap (λ (h : HeapView). last_of h t) laid.words.shape.others);
          down = plans-down (part_of old g t) (plugs t) (laid.each t) (laid.fit t l on)
              (part-down t l on);
          run = λ xs x same. (
              let r = last-of-plans (part_of old g t) (plugs t) (laid.each t) xs x (laid.fit t l on)
              same in
              subst (λ n. IsMarkedRun rows now t n (lasts t)) (sym r.start_is)
              (subst (λ n. IsMarkedRun rows now t r.plug.start n) (sym r.ends)
              (run-here t l on r.others r.plug r.split))
              );
        }

    pub tells : TellMoves rows now bricks g moves
    tells = record {
      parts = λ t. plan_in old g plugs t (laid.each t);
      lasts = lasts;
      each = part-planned;
      moves = told;
    }
      where
        told : moves ≡ moves_from now g (λ t. plan_in old g plugs t (laid.each t)) lasts 0
            (length now.segments)
        told =
            let same : length now.segments ≡ length old.segments = ap (λ (h : HeapView). length h.segments)
            laid.words.shape.others in
            let inside = homes.inside in
            let d = length old.segments - count in
            let whole : count + d ≡ length now.segments = omega (arith, same, inside) in
            laid.moves_are
            ∙ sym (told-below old now g (λ t. plan_in old g plugs t (laid.each t)) lasts laid.each same-takes count
            (λ t l on. moves-told (part_of old g t) (plugs t) (laid.each t)
            (laid.fit t l on)
            (part-down t l on) (part-gapped old g plugs count homes t l on)))
            ∙ sym (told-above old now g (λ t. plan_in old g plugs t (laid.each t)) lasts laid.each same-takes count
            d (λ t l u. homes.above t l (omega (arith, u, inside))))
            ∙ ap (moves_from now g (λ t. plan_in old g plugs t (laid.each t)) lasts 0) whole
