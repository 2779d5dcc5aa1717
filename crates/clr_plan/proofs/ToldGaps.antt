-- The word before each plug tells how many bytes below it are unused.
use Rattle.std.proofs.Common.{◌≡◌, ◌⊎◌, inl, inr, ℕ, ◌-◌, ◌<◌, ◌≤◌, true, List, [], ◌∷◌}
use Rattle.std.proofs.Common.{sym, ap, subst, arith}
use Rattle.std.specs.List.{AllByRecursion}
use Rattle.std.proofs.lemmas.Bool.{cases_order}
use Rattle.clr_types.specs.Rising.{first, IsIn, later}
use Rattle.clr_types.specs.Types.{TypeRow}
use Rattle.clr_heap.specs.View.{HeapView, segment_at, word_of}
use Rattle.clr_heap.proofs.Framing.{lawful_at}
use Rattle.clr_heap.proofs.Staying.{segment_order}
use Rattle.clr_model.specs.Compaction.{Move, Plug, plug_end}
use Rattle.clr_pinq.specs.Queue.{QueueView}
use Rattle.clr_plugs.specs.BrickEntries.{BricksView}
use Rattle.clr_plugs.specs.Plans.{IsTold}
use Rattle.clr_moves.specs.Moves.{IsInPart, move_at, part_of, takes}
use Rattle.clr_moves.specs.declared.condemned.Condemned.{Condemned}
use Rattle.clr_plan.specs.LaidParts.{planned_plugs}
use Rattle.clr_plan.specs.PartLists.{AreFor, AreLaid, plugs_in}
use Rattle.clr_plan.specs.Planned.{TellGaps}
use Rattle.clr_plan.specs.States.{state}
use Rattle.clr_plan.proofs.Assembled as assembled
use Rattle.clr_plan.proofs.Fitting.{move-of, plug-at}
use Rattle.clr_plan.proofs.Homes.{AreGapped, gapped-above, HaveHomes, in-plugs, inside-of, part-gapped}

-- the word before a plug of a part tells the bytes below it, down to where the others before it end
record HasGap (word : ℕ → ℕ) (below : ℕ) (ps : List Plug) (q : Plug) : Type 0 where
  pub low_end : ℕ
  pub told : word (q.start - 32) ≡ q.start - low_end
  pub order : low_end ≤ q.start
  pub low : below ≤ low_end
  pub ends : (low_end ≡ below) ⊎ ((w : Plug) × IsIn w ps × (plug_end w ≡ low_end))
  pub others : (w : Plug) → IsIn w ps → (plug_end w ≤ low_end) ⊎ (q.start ≤ w.start)

gap-of : (word : ℕ → ℕ) (below : ℕ) (ps : List Plug) (vs : List Move) → AreFor ps vs → AreGapped below ps
    → AllByRecursion (IsTold word) (planned_plugs below ps vs) → (q : Plug) → IsIn q ps → HasGap word below ps q
gap-of word below [] vs f g told q i = elim i [ ]
gap-of word below (p ∷ ps) [] f g told q i = absurd f
gap-of word below (p ∷ ps) (v ∷ vs) f g told q first = record {
  low_end = below;
  told = told.0.gap;
  order = (let a = g.0 in omega arith);
  low = omega arith;
  ends = inl (omega arith);
  others = others;
}
  where
    others : (w : Plug) → IsIn w (p ∷ ps) → (plug_end w ≤ below) ⊎ (p.start ≤ w.start)
    others w first = inr (omega arith)
    others w (later i) = let a = gapped-above (plug_end p) ps g.1 w i in inr (omega arith)
gap-of word below (p ∷ ps) (v ∷ vs) f g told q (later i) =
    let r = gap-of word (plug_end p) ps vs f.2 g.1 told.1 q i in
    record {
      low_end = r.low_end;
      told = r.told;
      order = r.order;
      low = (let a = g.0 in let b = r.low in omega arith);
      ends = elim r.ends [
        | inl e ↦ inr (p, first, sym e)
        | inr (w, j, e) ↦ inr (w, later j, e)
      ];
      others = others r;
    }
  where
    others : (r : HasGap word (plug_end p) ps q) → (w : Plug) → IsIn w (p ∷ ps) → (plug_end w ≤ r.low_end)
        ⊎ (q.start ≤ w.start)
    others r w first = inl r.low
    others r w (later j) = r.others w j

module _ (rows : List TypeRow) (old now : HeapView) (bricks0 bricks : BricksView) (queue0 queue : QueueView)
    (g : Condemned) (plugs : ℕ → List Plug) (count : ℕ) (homes : HaveHomes old g plugs count) (moves : List Move)
    (laid : AreLaid (state old bricks0 queue0) (state now bricks queue) g plugs count moves) where
  abbrev all : List Plug
  all = plugs_in old g plugs count

  fits : AreFor all moves
  fits = assembled.fits rows old now bricks0 bricks queue0 queue g plugs count homes moves laid

  abbrev Standing : Plug → Type 0
  Standing = assembled.Stands rows old now bricks0 bricks queue0 queue g plugs count homes moves laid

  standing : (q : Plug) → IsIn q all → Standing q
  standing = assembled.stands rows old now bricks0 bricks queue0 queue g plugs count homes moves laid

  in-part : (q : Plug) (place : ℕ) → (s : Standing q) → place ≡ q.start
      → IsInPart now g s.number place
  in-part q place s is =
      let low = s.low in
      let high = s.high in
      let size = s.size in
      let inside = inside-of old g plugs count homes s.number s.below in
      let top = (lawful_at old s.number homes.heap inside).high in
      let there : IsInPart (record old { memories = now.memories }) g s.number place = record {
        in_range = inside;
        takes = s.taken;
        low = omega (arith, is, low);
        high = omega (arith, is, high, size, top);
      } in
      subst (λ (h : HeapView). IsInPart h g s.number place) (sym laid.words.shape.others) there

  module _ (t : ℕ) (l : t < count) (on : takes g (segment_at old t) ≡ true) (q : Plug)
      (i : IsIn q (plugs t)) where
    gap : HasGap (word_of now) (part_of old g t) (plugs t) q
    gap = gap-of (word_of now) (part_of old g t) (plugs t) (laid.each t)
        (laid.fit t l on) (part-gapped old g plugs count homes t l on) (laid.plans t l on).told q i

    -- each plug of a part ends no higher, or starts no lower
    apart : (w : Plug) → IsIn w all → (plug_end w ≤ gap.low_end) ⊎ (q.start ≤ w.start)
    apart w j = let s = standing w j in elim (cases_order s.number t) [
      | inl same ↦ gap.others w (subst (λ n. IsIn w (plugs n)) same s.known)
      | inr other ↦ elim other [
        | inl u ↦ inl (
            let o = segment_order old s.number t homes.heap u (inside-of old g plugs count homes t l) in
            let top = (lawful_at old s.number homes.heap (inside-of old g plugs count homes s.number s.below)).high in
            let f = homes.from_first t l on in
            let h = s.high in
            let m = gap.low in
            omega (arith, o, top, f, h, m))
        | inr u ↦ inr (
            let o = segment_order old t s.number homes.heap u (inside-of old g plugs count homes s.number s.below) in
            let top = (lawful_at old t homes.heap (inside-of old g plugs count homes t l)).high in
            let f = s.first_low in
            let m = s.low in
            let h = (homes.lies t l on q i).high in
            omega (arith, o, top, f, h, m))
      ]
    ]

  -- THE WORD before each plug tells the unused bytes below it
  pub gaps : TellGaps now g moves
  gaps k within =
      let r = plug-at all moves fits k within in
      let s = standing r.plug r.known in
      let told = gap s.number s.below s.taken r.plug s.known in
      let same : part_of now g s.number ≡ part_of old g s.number = ap (λ (h : HeapView). part_of
      h g s.number) laid.words.shape.others in
      let word : word_of now ((move_at moves k).start - 32) ≡ r.plug.start - told.low_end =
      subst (λ n. word_of now (n - 32) ≡ r.plug.start - told.low_end) (sym r.start) told.told in
      let start = r.start in
      let order = told.order in
      let low = told.low in
      let high = s.high in
      let size = s.size in
      record {
        part = s.number;
        inside = in-part r.plug (move_at moves k).start s start;
        within = omega (arith, same, word, start, order, low);
        unused = λ j l. (
            let w = plug-at all moves fits j l in
            let w_start = w.start in
            let w_size = w.size in
            elim (apart s.number s.below s.taken r.plug s.known w.plug w.known) [
              | inl u ↦ inl (omega (arith, u, word, start, order, w_start, w_size))
              | inr u ↦ inr (omega (arith, u, start, w_start))
            ]
            );
        ends = elim told.ends [
          | inl u ↦ inl (omega (arith, u, same, word, start, order))
          | inr (w, i, u) ↦
              let m = move-of all moves fits w (in-plugs old g plugs count s.number w s.below s.taken i) in
              let m_start = m.start in
              let m_size = m.size in
              inr (m.index, m.within, omega (arith, u, word, start, order, m_start, m_size))
        ];
      }
