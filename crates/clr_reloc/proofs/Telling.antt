-- What tells the moves still tells them where references were relocated.
use Rattle.std.proofs.Common.{◌≡◌, inl, inr, ℕ, suc, ◌+◌, ◌%◌, ◌<◌, ◌≤◌, List, []}
use Rattle.std.proofs.Common.{◌∷◌, ◌++◌}
use Rattle.std.proofs.Common.{length, refl, ap, sym, ◌∙◌, subst, arith, IsSome, Option, None, Some}
use Rattle.std.proofs.lemmas.Bool.{cases_order}
use Rattle.clr_types.specs.Segments.{reserved_end}
use Rattle.clr_types.specs.Types.{TypeRow}
use Rattle.clr_heap.specs.View.{HeapView, IsHeap, SameShape, segment_at, word_of}
use Rattle.clr_heap.proofs.Staying.{segment_order}
use Rattle.clr_model.specs.Compaction.{Move}
use Rattle.clr_plugs.specs.BrickEntries.{BricksView}
use Rattle.clr_plugs.specs.Info.{IsInfoWord}
use Rattle.clr_pinq.specs.Queue.{logical, or_else, queue_word}
use Rattle.clr_pinq.specs.declared.entry.PinEntry.{PinEntry}
use Rattle.clr_moves.specs.PlugMoves.{Gives, PlugMovesView}
use Rattle.clr_moves.specs.Moves.{AreInLine, AreMoves, move_at, plug_stop}
use Rattle.clr_moves.specs.Told.{TellMoves}
use Rattle.clr_moves.proofs.Kept.{agrees-shape, gives-kept, low_enough, tells-kept}
use Rattle.clr_moves.specs.declared.condemned.Condemned.{Condemned}
use Rattle.clr_moves.specs.Moves.{age_of}
use Rattle.clr_reloc.specs.Relocating.{IsRelocating, KeepsTelling, SavesSame}
use Rattle.clr_reloc.proofs.RunHeads.{head_stays}
use Rattle.clr_reloc.proofs.Seen.{heap_now}

-- ---- all moves

pub tells_on : (rows : List TypeRow) (view now h new : HeapView) (bricks : BricksView) (entries : List PinEntry)
    (g : Condemned) (vs : List Move) (start1 start0 : ℕ) → age_of g ≤ 2
    → IsRelocating rows view now h bricks entries g vs start1 start0
    → KeepsTelling rows view g vs entries h new → TellMoves rows new bricks g vs
tells_on rows view now h new bricks entries g vs start1 start0 least r k =
    tells-kept rows h new bricks g vs (heap_now view h r.shape r.begun.plan.overlaid.heap) k.shape info
    (λ t from last i run member. head_stays rows view now h new bricks entries g vs start1 start0 r least k t from last
    run i member) r.told
  where
    info : (j b : ℕ) → j < length vs → b % 8 ≡ 0 → IsInfoWord (move_at vs j).start b → word_of new b ≡ word_of h b
    info j b l z w = elim (k.words b z) [
      | inl same ↦ same
      | inr q ↦ elim (r.hidden j b l z w) [
        | inl some ↦ absurd (q.2 some)
        | inr off ↦ elim q.1 [ inl plug ↦ absurd (off.0 plug.0 plug.1) | inr out ↦ absurd (off.1 out) ]
      ]
    ]

-- ---- reading them one by one

not_saved : (es : List PinEntry) (word : ℕ → ℕ) (b : ℕ) → (IsSome (queue_word es b) → ⊥) → logical es word b ≡ word b
not_saved es word b none = go (queue_word es b) none
  where
    go : (o : Option ℕ) → (IsSome o → ⊥) → or_else o (word b) ≡ word b
    go None no_one = refl
    go (Some w) no_one = absurd (no_one refl)

pub gives_on : (rows : List TypeRow) (view now after h new : HeapView) (bricks : BricksView)
    (entries saved : List PinEntry) (g : Condemned) (vs : List Move) (start1 start0 : ℕ)
    → IsRelocating rows view now h bricks entries g vs start1 start0
    → IsRelocating rows view after new bricks saved g vs start1 start0
    → SavesSame entries saved → KeepsTelling rows view g vs entries h new
    → (moves : PlugMovesView) (ws : List Move) (low : ℕ)
    → ((b : ℕ) → b % 8 ≡ 0 → low ≤ b + 8 → word_of after b ≡ word_of now b)
    → Gives rows h bricks g moves ws → ((k : ℕ) → k < length ws → low ≤ (move_at ws k).start)
    → low ≤ reserved_end (segment_at h moves.segment) → Gives rows new bricks g moves ws
gives_on rows view now after h new bricks entries saved g vs start1 start0 r q s k moves ws low same gives above
    within =
    gives-kept rows h new bricks g moves ws low (heap_now view h r.shape r.begun.plan.overlaid.heap) gives
    (agrees-shape h new moves.segment low k.shape words)
    (low_enough rows h bricks g moves ws gives low above within)
  where
    words : (b : ℕ) → b % 8 ≡ 0 → low ≤ b + 8 → word_of new b ≡ word_of h b
    words b z up = elim (k.words b z) [
      | inl e ↦ e
      | inr c ↦
          sym (not_saved saved (word_of new) b (λ some. c.2 ((s b).1 some)))
          ∙ q.words b z c.1 ∙ same b z up ∙ sym (r.words b z c.1)
          ∙ not_saved entries (word_of h) b c.2
    ]

-- the moves that are left start where this plug stops, or above
pub rest_above : (vs : List Move) → AreInLine vs → (done : List Move) (v : Move) (rest : List Move)
    → vs ≡ done ++ v ∷ rest → (k : ℕ) → k < length rest
    → plug_stop (move_at vs (length done)) ≤ (move_at rest k).start
rest_above vs line done v rest e k l =
    let f = far done k l in
    let at = subst (λ (ws : List Move). (move_at ws (length done + suc k) ≡ move_at rest k)
    × (length done + suc k < length ws)) (sym e) f in
    let up = line.line (length done) (length done + suc k) (omega arith) at.1 in
    subst (λ (w : Move). plug_stop (move_at vs (length done)) ≤ w.start) at.0 up
  where
    far : (ds : List Move) (k : ℕ) → k < length rest
        → (move_at (ds ++ v ∷ rest) (length ds + suc k) ≡ move_at rest k)
        × (length ds + suc k < length (ds ++ v ∷ rest))
    far [] k l =
        let z : 0 + suc k ≡ suc k = omega arith in
        (ap (move_at (v ∷ rest)) z, omega arith)
    far (d ∷ ds) k l =
        let f = far ds k l in
        let m = f.1 in
        let z : suc (length ds) + suc k ≡ suc (length ds + suc k) = omega arith in
        (ap (move_at (d ∷ (ds ++ v ∷ rest))) z ∙ f.0, omega arith)

-- a plug that starts below a segment's end stops there or below
pub stop_within : (view : HeapView) (g : Condemned) (vs : List Move) → IsHeap view → AreMoves view g vs
    → (h : HeapView)
    → SameShape view h → (segment n : ℕ) → n < length vs → segment < length h.segments
    → (move_at vs n).start < reserved_end (segment_at h segment)
    → plug_stop (move_at vs n) ≤ reserved_end (segment_at h segment)
stop_within view g vs heap moves h shape segment n l inside below =
    let m = moves.each n l in
    let same = ap (λ (x : HeapView). reserved_end (segment_at x segment)) shape.others in
    let count = ap (λ (x : HeapView). length x.segments) shape.others in
    let low = m.from_low in
    let high = m.from_high in
    let inside_view : segment < length view.segments = omega arith in
    let lf = m.from_in in
    elim (cases_order m.from segment) [
      | inl e ↦ let room = ap (λ k. reserved_end (segment_at view k)) e in omega arith
      | inr (inl less) ↦ let o = segment_order view m.from segment heap less inside_view in omega arith
      | inr (inr more) ↦ let o = segment_order view segment m.from heap more lf in omega arith
    ]
