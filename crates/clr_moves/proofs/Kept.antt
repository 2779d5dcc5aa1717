-- What keeps the moves that a line is to give, and those that plans tell.
use Rattle.std.proofs.Common.{◌≡◌, inl, inr, ℕ, zero, suc, ◌+◌, ◌-◌, ◌/◌, ◌%◌, ◌<◌, ◌≤◌, true, false, Bool, List, []}
use Rattle.std.proofs.Common.{◌∷◌, ◌++◌, length, get_or, refl, ap, sym, ◌∙◌, subst, arith, if◌then◌else◌, eqb, leb, ltb}
use Rattle.std.proofs.Common.{Option, ◌&&◌}
use Rattle.std.proofs.lemmas.Bool.{cases_lt, eqb-false, le-leb, lt-ltb, ne_eqb}
use Rattle.clr_types.specs.Ranges.{Piece}
use Rattle.clr_types.specs.Rising.{first, IsIn}
use Rattle.clr_types.specs.Segments.{empty_segment, reserved_end, same_kind}
use Rattle.clr_types.specs.Types.{TypeRow}
use Rattle.clr_types.specs.declared.item.Item.{Item}
use Rattle.clr_types.specs.declared.segment.SegInfo.{SegInfo}
use Rattle.clr_types.specs.declared.segment.SegKind.TheVariants.{Ephemeral}
use Rattle.clr_types.proofs.ChangedLists.{IsIn-map}
use Rattle.clr_types.proofs.ListMembers.{append_right, from-map}
use Rattle.clr_types.proofs.RisingLists.{in_cons}
use Rattle.clr_heap.specs.Memories.{shapes}
use Rattle.clr_heap.specs.Parts.{item_part, items_in, Part, parts, rest_part, Sight, Spells}
use Rattle.clr_heap.specs.View.{CanWalk, frame, HeapView, holes_of, IsHeap, items_between, last_of, SameShape}
use Rattle.clr_heap.specs.View.{segment_at, sight, word_of}
use Rattle.clr_heap.proofs.Framing.{lawful_at}
use Rattle.clr_heap.proofs.Spelling.{item_size, Spells-le}
use Rattle.clr_heap.proofs.Staying.{segment_order}
use Rattle.clr_heap.proofs.Rewrite.{shaped_heap}
use Rattle.clr_model.specs.Compaction.{Move}
use Rattle.clr_bricks.specs.Bricks.{entry_at}
use Rattle.clr_plugs.specs.BrickEntries.{BricksView}
use Rattle.clr_plugs.specs.Cursors.{TellLeft}
use Rattle.clr_plugs.specs.Info.{IsInfoWord}
use Rattle.clr_plugs.specs.Plans.{AreSpaced, IsPart, past_bricks, PlannedPart, PlannedPlug, plug_starts}
use Rattle.clr_plugs.proofs.Keeping.{planned-words, tells-words, told-words}
use Rattle.clr_plugs.proofs.Starts.{into_filter, spaced-above}
use Rattle.clr_moves.proofs.Giving.{hand_place, hand_positive, hand_within, plug_at}
use Rattle.clr_moves.proofs.KeptRuns.{HeadStays, run_kept}
use Rattle.clr_moves.proofs.ToldMoves.{IsMoveOf, last_number, number_plug, plug_number}
use Rattle.clr_moves.specs.PlugMoves.{CanRead, Gives, HasReadAhead, IsAtHand, PlugMovesView}
use Rattle.clr_moves.specs.Moves.{move_at, part_of, plug_stop, start_of, takes}
use Rattle.clr_moves.specs.Told.{IsMarkedRun, IsPartPlanned, moves_at, moves_from, moves_of, TellMoves}
use Rattle.clr_moves.specs.declared.condemned.Condemned.{Condemned}

-- ---- what a line is to give

-- From a segment on, segments stay, and so do the words of cells from `low` on. Below, segments may end elsewhere. A
-- lawful heap stays lawful.
pub record AgreesFrom (old now : HeapView) (segment low : ℕ) : Type 0 where
  pub heap : IsHeap old → IsHeap now
  pub shape : shapes now.memories ≡ shapes old.memories
  pub others : now ≡ record old { memories = now.memories; segments = now.segments }
  pub count : length now.segments ≡ length old.segments
  pub above : (t : ℕ) → segment ≤ t → segment_at now t ≡ segment_at old t
  pub words : (b : ℕ) → b % 8 ≡ 0 → low ≤ b + 8 → word_of now b ≡ word_of old b

-- Below this place a line reads nothing any more: the start of the plug at hand, and where there is none, the end of
-- the line's segment.
abbrev pub low_of : HeapView → PlugMovesView → ℕ
low_of h line = if eqb line.start 0 then reserved_end (segment_at h line.segment) else line.start

module _ (rows : List TypeRow) (h : HeapView) (bricks : BricksView) (g : Condemned) (line : PlugMovesView)
    (vs : List Move) (gives : Gives rows h bricks g line vs) where
  -- it isn't above the line's segment
  pub low_within : low_of h line ≤ reserved_end (segment_at h line.segment)
  low_within = go (eqb line.start 0) refl where
    end : ℕ
    end = reserved_end (segment_at h line.segment)

    go : (b : Bool) → eqb line.start 0 ≡ b → (if b then end else line.start) ≤ end
    go true e = omega arith
    go false e =
        let at = plug_at rows h bricks g line vs gives (eqb-false line.start 0 e) in
        let w = hand_within rows h bricks line gives.part gives.last at.plug at.others at.ahead in omega (arith, w)

  -- a place that is above no plug that the line is to give, and not above the line's segment
  pub low_enough : (low : ℕ) → ((k : ℕ) → k < length vs → low ≤ (move_at vs k).start)
      → low ≤ reserved_end (segment_at h line.segment) → low ≤ low_of h line
  low_enough low above within = go (eqb line.start 0) refl where
    end : ℕ
    end = reserved_end (segment_at h line.segment)

    go : (b : Bool) → eqb line.start 0 ≡ b → low ≤ (if b then end else line.start)
    go true e = within
    go false e =
        let at = plug_at rows h bricks g line vs gives (eqb-false line.start 0 e) in
        let rest = moves_from h g gives.parts gives.lasts (suc line.segment) (length h.segments - suc line.segment) in
        let is = gives.moves ∙ ap (λ (ps : List PlannedPlug). moves_of ps gives.last ++ rest) at.are in
        let P : List Move → Type 0 = λ ws. (k : ℕ) → k < length ws → low ≤ (move_at ws k).start in
        let up : low ≤ at.plug.start = subst P is above 0 (omega arith) in
        let start = at.ahead.read.start in
        omega (arith, up, start)

-- ---- what stays

-- the moves of parts depend on which segments have one
moves-same : (old now : HeapView) (g : Condemned) (parts : ℕ → PlannedPart) (lasts : ℕ → ℕ) (t n : ℕ)
    → ((u : ℕ) → t ≤ u → takes g (segment_at now u) ≡ takes g (segment_at old u))
    → moves_from now g parts lasts t n ≡ moves_from old g parts lasts t n
moves-same old now g parts lasts t zero same = refl
moves-same old now g parts lasts t (suc n) same =
    let rest = moves-same old now g parts lasts (suc t) n (λ u low. same u (omega (arith, low))) in
    let one = moves_of (parts t).plugs (lasts t) in
    ap (λ (b : Bool). (if b then one else []) ++ moves_from now g parts lasts (suc t) n) (same t (omega arith))
    ∙ ap (λ (ws : List Move). moves_at old g parts lasts t ++ ws) rest

-- plugs stand 24 bytes apart
spaced_after : (low : ℕ) (given : List PlannedPlug) (p : PlannedPlug) (ps : List PlannedPlug)
    → AreSpaced low (plug_starts (given ++ p ∷ ps)) → (x : ℕ) → IsIn x (plug_starts ps) → p.start + 24 ≤ x
spaced_after low [] p ps s x i = spaced-above (p.start + 24) (plug_starts ps) s.1 x i
spaced_after low (q ∷ given) p ps s x i = spaced_after (q.start + 24) given p ps s.1 x i

-- a part lies as before where its segment stays
lies_kept : (old now : HeapView) (part : PlannedPart) → segment_at now part.segment ≡ segment_at old part.segment
    → length now.segments ≡ length old.segments → IsPart old part → IsPart now part
lies_kept old now part same count lies =
    let within = lies.segment in
    let low = lies.low in
    let high = lies.high in
    let base = ap (λ (s : SegInfo). s.base) same in
    let end = ap reserved_end same in
    record {
      segment = omega (arith, within, count);
      low = omega (arith, low, base);
      high = omega (arith, high, end);
      spaced = lies.spaced;
      places = lies.places;
    }

holes_kept : (old now : HeapView) (t segment low : ℕ) → AgreesFrom old now segment low → segment ≤ t
    → holes_of now t ≡ holes_of old t
holes_kept old now t segment low agrees from =
    let here : List (Option Piece) → SegInfo → List (Option Piece) =
    λ rests s. if same_kind s.kind Ephemeral then rests else [] in
    let e : holes_of now t ≡ here old.rests (segment_at now t) =
    ap (λ (v : HeapView). here v.rests (segment_at now t)) agrees.others in
    e ∙ ap (here old.rests) (agrees.above t from)

-- the places of the items of a walk
items_up : (s : Sight) (ps : List Part) (p e : ℕ) → p % 8 ≡ 0 → Spells s p ps e → (i : Item) → IsIn i (items_in ps)
    → (p ≤ i.place) × (i.place % 8 ≡ 0)
items_up s [] p e z h i k = elim k [ ]
items_up s (item_part j ∷ ps) p e z h i k =
    let (least, whole, at) = item_size s j p h.1 h.2 in
    elim (in_cons k) [
      | inl is ↦ let same = ap (λ (x : Item). x.place) is in (omega (arith, same, at), omega (arith, same, at, z))
      | inr more ↦
          let r = items_up s ps (p + j.size) e (omega (arith, z, whole)) h.3 i more in
          let up = r.0 in
          (omega (arith, up), r.1)
    ]
items_up s (rest_part low high ∷ ps) p e z h i k =
    let r = items_up s ps high e h.3 h.4 i k in
    let up = r.0 in
    let size = h.2 in
    (omega (arith, up, size), r.1)

-- where all words from a place on stay, so do the heads of the items from there on
heads_above : (rows : List TypeRow) (old now : HeapView) (t from : ℕ)
    → CanWalk (sight rows old t) old.memories from (last_of old t)
    → ((b : ℕ) → b % 8 ≡ 0 → from ≤ b → word_of now b ≡ word_of old b)
    → (i : Item) → IsIn i (items_between (sight rows old t) from (last_of old t))
    → HeadStays rows (word_of old) (word_of now) i.place
heads_above rows old now t from walk words i k =
    let s = sight rows old t in
    let e = last_of old t in
    let (up, z) = items_up s (parts e s from e) from e walk.start walk.spelled i k in
    record {
      mt = words i.place z up;
      len = λ _. words (i.place + 8) (omega (arith, z)) (omega (arith, up));
    }

-- ---- the part at hand

module _ (rows : List TypeRow) (old now : HeapView) (bricks : BricksView) (line : PlugMovesView) (part : PlannedPart)
    (last : ℕ) (low : ℕ) (heap : IsHeap now) (agrees : AgreesFrom old now line.segment low)
    (le : low ≤ low_of old line) where
  module _ (p : PlannedPlug) (ps : List PlannedPlug) (hand : HasReadAhead rows old bricks line part last p ps) where
    low_at_hand : low ≤ p.start
    low_at_hand =
        let some = hand_positive rows old bricks line part last p ps hand in
        let off : eqb line.start 0 ≡ false = ne_eqb line.start 0 (λ zero_start. omega (arith, some, zero_start)) in
        let P : Bool → Type 0 =
        λ b. low ≤ (if b then reserved_end (segment_at old line.segment) else line.start) in
        let at = hand.read.start in
        let up = subst P off le in
        omega (arith, up, at)

    -- the information of a plug that is still to be read stays
    ahead_words : (x d : ℕ) → IsIn x (plug_starts ps) → d ≤ 32 → d % 8 ≡ 0
        → word_of now (x - d) ≡ word_of old (x - d)
    ahead_words x d i far z =
        let P : List PlannedPlug → Type 0 = λ qs. AreSpaced part.low (plug_starts qs) in
        let up = spaced_after part.low hand.given p ps (subst P hand.split hand.read.others.lies.spaced) x i in
        let from = from-map (λ (q : PlannedPlug). q.start) x ps i in
        let at : x ≡ from.0.start = from.1 in
        let aligned = (hand.read.others.lies.places from.0.start
        (IsIn-map (λ (q : PlannedPlug). q.start) (hand.read.others.among from.0 from.2))).aligned in
        let least = low_at_hand in
        let place = (hand_place rows old bricks line part last p ps hand).low in
        let base = hand.read.others.lies.low in
        agrees.words (x - d) (omega (arith, aligned, at, z, far, up, place, base))
        (omega (arith, least, up, far))

    -- a start in the bricks that the cursor hasn't come to is one of those
    is_ahead : (x : ℕ) → IsIn x (plug_starts part.plugs) → line.cursor.brick ≤ x / 4096
        → x / 4096 < line.cursor.past → IsIn x (plug_starts ps)
    is_ahead x i from to =
        let b = line.cursor.brick in
        let e = line.cursor.past in
        let test : (leb b (x / 4096) && ltb (x / 4096) e) ≡ true =
        rw (le-leb b (x / 4096) from, lt-ltb (x / 4096) e to) refl in
        let P : List ℕ → Type 0 = λ xs. IsIn x xs in
        subst P hand.read.others.rest (append_right line.cursor.at_hand
        (into_filter (λ y. leb b (y / 4096) && ltb (y / 4096) e) (plug_starts part.plugs) x i test))

    others_kept : CanRead now bricks line.cursor part ps
    others_kept =
        let c = hand.read.others in
        let at = hand.segment in
        let lies = lies_kept old now part (agrees.above part.segment (omega (arith, at))) agrees.count c.lies in
        let tell : TellLeft (word_of now) bricks part line.cursor.brick line.cursor.past =
        λ i from to. tells-words (word_of old) (word_of now) (plug_starts part.plugs) i (entry_at bricks i)
        (λ x j is. ahead_words x 16 (is_ahead x j (omega (arith, from, is)) (omega (arith, to, is))) (omega arith) refl)
        (c.tell i from to) in
        record {
          heap = heap;
          lies = lies;
          among = c.among;
          left = record { part = part; lies = lies; covered = c.left.covered; tell = tell; fits = c.left.fits };
          tell = tell;
          rest = c.rest;
          told = told-words (word_of old) (word_of now) ps
              (λ x i. (ahead_words x 32 i (omega arith) refl, ahead_words x 24 i (omega arith) refl)) c.told;
          down = c.down;
        }

    runs_kept : (qs : List PlannedPlug) (q : PlannedPlug) → (p ∷ ps) ≡ qs ++ q ∷ []
        → IsMarkedRun rows now line.segment q.start last
    runs_kept qs q e =
        let run = hand.run qs q e in
        let P : List PlannedPlug → Type 0 = λ rs. IsIn q rs in
        let least = low_at_hand in
        let Q : List PlannedPlug → Type 0 = λ rs. AreSpaced part.low (plug_starts rs) in
        let spaced = subst Q hand.split hand.read.others.lies.spaced in
        let up : p.start ≤ q.start = elim (in_cons (subst P (sym e) (append_right qs first))) [
          | inl is ↦ let same = ap (λ (r : PlannedPlug). r.start) is in omega (arith, same)
          | inr more ↦
              let far = spaced_after part.low hand.given p ps spaced q.start
              (IsIn-map (λ (r : PlannedPlug). r.start) more) in
              omega (arith, far)
        ] in
        run_kept rows old now line.segment q.start last
        (ap (λ (s : SegInfo). s.end) (agrees.above line.segment (omega arith)))
        (holes_kept old now line.segment line.segment low agrees (omega arith)) agrees.shape
        (heads_above rows old now line.segment q.start run.walk
        (λ b z from. agrees.words b z (omega (arith, least, up, from)))) run

  hand_kept : (left : List PlannedPlug) → IsAtHand rows old bricks line part last left
      → IsAtHand rows now bricks line part last left
  hand_kept [] hand = hand
  hand_kept (p ∷ ps) hand = record {
    segment = hand.segment;
    given = hand.given;
    split = hand.split;
    read = record { start = hand.read.start; to = hand.read.to; others = others_kept p ps hand };
    run = runs_kept p ps hand;
  }

-- ---- the parts above

-- a part begins at its place in each heap of the same boundaries
part_same : (old now : HeapView) (t : ℕ) → now ≡ record old { memories = now.memories; segments = now.segments }
    → segment_at now t ≡ segment_at old t → (g : Condemned) → part_of now g t ≡ part_of old g t
part_same old now t others same g =
    ap (λ (v : HeapView). start_of (frame v) g (segment_at now t)) others
    ∙ ap (λ (s : SegInfo). start_of (frame old) g s) same

module _ (rows : List TypeRow) (old now : HeapView) (bricks : BricksView) (g : Condemned) (t : ℕ) (part : PlannedPart)
    (last segment low : ℕ) (agrees : AgreesFrom old now segment low) (above : low ≤ (segment_at old t).base)
    (from : segment ≤ t) (p : IsPartPlanned rows old bricks g t part last) where
  above_words : (x d : ℕ) → IsIn x (plug_starts part.plugs) → d ≤ 32 → d % 8 ≡ 0
      → word_of now (x - d) ≡ word_of old (x - d)
  above_words x d i far z =
      let place = p.planned.lies.places x i in
      let up = place.low in
      let aligned = place.aligned in
      let base = p.planned.lies.low in
      let at = ap (λ (n : ℕ). (segment_at old n).base) p.segment in
      agrees.words (x - d) (omega (arith, aligned, z, far, up, base)) (omega (arith, above, at, up, base, far))

  part_kept : IsPartPlanned rows now bricks g t part last
  part_kept =
      let same = agrees.above t from in
      let at = p.segment in
      let low_same = part_same old now t agrees.others same g in
      record {
        planned = record {
          lies = lies_kept old now part (agrees.above part.segment (omega (arith, at, from))) agrees.count
              p.planned.lies;
          told = told-words (word_of old) (word_of now) part.plugs
              (λ x i. (above_words x 32 i (omega arith) refl, above_words x 24 i (omega arith) refl)) p.planned.told;
          covered = p.planned.covered;
          entries = λ brick near below.
              tells-words (word_of old) (word_of now) (plug_starts part.plugs) brick (entry_at bricks brick)
              (λ x i is. above_words x 16 i (omega arith) refl) (p.planned.entries brick near below);
        };
        segment = p.segment;
        low = p.low ∙ sym low_same;
        high = p.high ∙ sym (ap (λ (s : SegInfo). s.end) same);
        down = p.down;
        run = λ ps q e.
            (let run = p.run ps q e in
            let P : List PlannedPlug → Type 0 = λ rs. IsIn q rs in
            let place = p.planned.lies.places q.start
            (IsIn-map (λ (r : PlannedPlug). r.start) (subst P (sym e) (append_right ps first))) in
            let up = place.low in
            let base = p.planned.lies.low in
            let seg = ap (λ (n : ℕ). (segment_at old n).base) p.segment in
            run_kept rows old now t q.start last (ap (λ (s : SegInfo). s.end) same)
            (holes_kept old now t segment low agrees from) agrees.shape
            (heads_above rows old now t q.start run.walk
            (λ b z from_q. agrees.words b z (omega (arith, above, up, base, seg, from_q)))) run);
      }

-- A line goes on to give its moves where what it reads stays.
pub gives-kept : (rows : List TypeRow) (old now : HeapView) (bricks : BricksView) (g : Condemned) (line : PlugMovesView)
    (vs : List Move) (low : ℕ) → IsHeap old → Gives rows old bricks g line vs → AgreesFrom old now line.segment low
    → low ≤ low_of old line → Gives rows now bricks g line vs
gives-kept rows old now bricks g line vs low heap gives agrees le =
    let left = gives.left in
    let count = agrees.count in
    let within = gives.within in
    let n : length now.segments - suc line.segment ≡ length old.segments - suc line.segment =
    ap (λ (m : ℕ). m - suc line.segment) count in
    let front = moves_of left gives.last in
    let new_heap = agrees.heap heap in
    record {
      heap = new_heap;
      part = gives.part;
      last = gives.last;
      left = left;
      parts = gives.parts;
      lasts = gives.lasts;
      within = omega (arith, within, count);
      at_hand = hand_kept rows old now bricks line gives.part gives.last low new_heap agrees le left gives.at_hand;
      above = λ t from to on.
          (let end = low_within rows old bricks g line vs gives in
          let to_old : t < length old.segments = omega (arith, to, count) in
          let after : line.segment < t = omega (arith, from) in
          let reach : line.segment ≤ t = omega (arith, from) in
          let order = segment_order old line.segment t heap after to_old in
          let base : low ≤ (segment_at old t).base = omega (arith, order, end, le) in
          part_kept rows old now bricks g t (gives.parts t) (gives.lasts t) line.segment low agrees base reach
          (gives.above t from to_old (sym (ap (λ (s : SegInfo). takes g s) (agrees.above t reach)) ∙ on)));
      moves = gives.moves ∙ sym (ap (λ (ws : List Move). front ++ ws)
          (moves-same old now g gives.parts gives.lasts (suc line.segment) (length now.segments - suc line.segment)
          (λ u from. ap (λ (s : SegInfo). takes g s) (agrees.above u (omega (arith, from))))
          ∙ ap (λ (m : ℕ). moves_from old g gives.parts gives.lasts (suc line.segment) m) n));
    }

-- words alone are written
pub agrees-shape : (old now : HeapView) (segment low : ℕ) → SameShape old now
    → ((b : ℕ) → b % 8 ≡ 0 → low ≤ b + 8 → word_of now b ≡ word_of old b) → AgreesFrom old now segment low
agrees-shape old now segment low shape words =
    let same = ap (λ (h : HeapView). h.segments) shape.others in
    record {
      heap = shaped_heap old now shape;
      shape = shape.memories;
      others = shape.others ∙ ap (λ (ss : List SegInfo). record old { memories = now.memories; segments = ss })
          (sym same);
      count = ap length same;
      above = λ t from. ap (λ (ss : List SegInfo). get_or ss t empty_segment) same;
      words = words;
    }

-- ---- what plans tell

-- From `from`, where a plug starts above which none starts in segment t, the marked items of the segment end at `last`,
-- and so does the plug.
pub record IsLastRun (rows : List TypeRow) (h : HeapView) (vs : List Move) (t from last : ℕ) : Type 0 where
  pub run : IsMarkedRun rows h t from last
  pub number : ℕ
  pub within : number < length vs
  pub start : (move_at vs number).start ≡ from
  pub stop : plug_stop (move_at vs number) ≡ last
  pub others : (j : ℕ) → j < length vs → from < (move_at vs j).start → last_of h t ≤ (move_at vs j).start

-- the last plug of a part starts highest
last_highest : (low : ℕ) (ps : List PlannedPlug) (q : PlannedPlug) → AreSpaced low (plug_starts (ps ++ q ∷ []))
    → (r : PlannedPlug) → IsIn r (ps ++ q ∷ []) → r.start ≤ q.start
last_highest low [] q s r i = elim (in_cons i) [
  | inl is ↦ let same = ap (λ (p : PlannedPlug). p.start) is in omega (arith, same)
  | inr none ↦ elim none [ ]
]
last_highest low (p ∷ ps) q s r i = elim (in_cons i) [
  | inl is ↦
      let same = ap (λ (x : PlannedPlug). x.start) is in
      let far = spaced-above (p.start + 24) (plug_starts (ps ++ q ∷ [])) s.1 q.start
      (IsIn-map (λ (x : PlannedPlug). x.start) (append_right ps first)) in
      omega (arith, same, far)
  | inr more ↦ last_highest (p.start + 24) ps q s.1 r more
]

module _ (rows : List TypeRow) (old now : HeapView) (bricks : BricksView) (g : Condemned) (vs : List Move)
    (heap : IsHeap old)
    (shape : SameShape old now)
    (info : (k b : ℕ) → k < length vs → b % 8 ≡ 0 → IsInfoWord (move_at vs k).start b → word_of now b ≡ word_of old b)
    (heads : (t from last : ℕ) (i : Item) → IsLastRun rows old vs t from last
    → IsIn i (items_between (sight rows old t) from (last_of old t))
    → HeadStays rows (word_of old) (word_of now) i.place)
    (tell : TellMoves rows old bricks g vs) where
  module _ (t : ℕ) (within : t < length old.segments) (on : takes g (segment_at old t) ≡ true) where
    told : IsPartPlanned rows old bricks g t (tell.parts t) (tell.lasts t)
    told = tell.each t within on

    told_words : (x d : ℕ) → IsIn x (plug_starts (tell.parts t).plugs) → 16 ≤ d → d ≤ 32 → d % 8 ≡ 0
        → word_of now (x - d) ≡ word_of old (x - d)
    told_words x d i least most z =
        let from = from-map (λ (q : PlannedPlug). q.start) x (tell.parts t).plugs i in
        let (k, l, is) = plug_number old g tell.parts tell.lasts (length old.segments) vs tell.moves t within on from.0
        from.2 in
        let at = is.start in
        let start : x ≡ from.0.start = from.1 in
        let place = told.planned.lies.places x i in
        let aligned = place.aligned in
        let up = place.low in
        let base = told.planned.lies.low in
        info k (x - d) l (omega (arith, aligned, z, most, up, base))
        (omega (arith, at, start, most, up, base), omega (arith, at, start, least, most, up, base))

    -- a plug of a segment above starts above the segment's end
    starts_above : (u : ℕ) → u < length old.segments → takes g (segment_at old u) ≡ true → (r : PlannedPlug)
        → IsIn r (tell.parts u).plugs → t < u → (v : Move) → IsMoveOf r v → last_of old t ≤ v.start
    starts_above u within_u on_u r i less v is =
        let plan = tell.each u within_u on_u in
        let place = plan.planned.lies.places r.start (IsIn-map (λ (x : PlannedPlug). x.start) i) in
        let low = place.low in
        let base = plan.planned.lies.low in
        let seg = ap (λ (n : ℕ). (segment_at old n).base) plan.segment in
        let order = segment_order old t u heap less within_u in
        let end = (lawful_at old t heap within).high in
        let at = is.start in
        omega (arith, low, base, seg, order, end, at)

    -- and one of a segment below starts below its plugs
    starts_below : (u : ℕ) → u < length old.segments → takes g (segment_at old u) ≡ true → (r : PlannedPlug)
        → IsIn r (tell.parts u).plugs → u < t → (q : PlannedPlug) → IsIn q (tell.parts t).plugs → (v : Move)
        → IsMoveOf r v → q.start < v.start → ⊥
    starts_below u within_u on_u r i less q k v is bad =
        let plan = tell.each u within_u on_u in
        let place = plan.planned.lies.places r.start (IsIn-map (λ (x : PlannedPlug). x.start) i) in
        let high = place.high in
        let end = plan.planned.lies.high in
        let seg = ap (λ (n : ℕ). reserved_end (segment_at old n)) plan.segment in
        let order = segment_order old u t heap less within in
        let here = told.planned.lies.places q.start (IsIn-map (λ (x : PlannedPlug). x.start) k) in
        let low = here.low in
        let base = told.planned.lies.low in
        let own = ap (λ (n : ℕ). (segment_at old n).base) told.segment in
        let at = is.start in
        omega (arith, high, end, seg, order, low, base, own, at, bad)

    last_run : (ps : List PlannedPlug) (q : PlannedPlug) → (tell.parts t).plugs ≡ ps ++ q ∷ []
        → IsLastRun rows old vs t q.start (tell.lasts t)
    last_run ps q e =
        let P : List PlannedPlug → Type 0 = λ rs. IsIn q rs in
        let among = subst P (sym e) (append_right ps first) in
        let (k, l, begins, size) = last_number old g tell.parts tell.lasts (length old.segments)
        vs tell.moves t within on ps q e in
        let run = told.run ps q e in
        let order = Spells-le (sight rows old t) (parts (tell.lasts t) (sight rows old t) q.start (tell.lasts t))
        q.start (tell.lasts t) run.run.spelled in
        let S : List PlannedPlug → Type 0 = λ rs. AreSpaced (tell.parts t).low (plug_starts rs) in
        let spaced = subst S e told.planned.lies.spaced in
        record {
          run = run;
          number = k;
          within = l;
          start = begins;
          stop = omega (arith, begins, size, order);
          others = λ j l_j less.
              (let other = number_plug old g tell.parts tell.lasts (length old.segments) vs tell.moves j l_j in
              elim (cases_lt t other.segment) [
                | inl below ↦ starts_above other.segment other.within other.takes other.plug other.among below
                    (move_at vs j) other.is
                | inr not_below ↦ elim (cases_lt other.segment t) [
                  | inl beyond ↦ absurd (starts_below other.segment other.within other.takes other.plug other.among
                      beyond q among (move_at vs j) other.is less)
                  | inr not_beyond ↦
                      let same : other.segment ≡ t = omega (arith, not_below, not_beyond) in
                      let Q : ℕ → Type 0 = λ n. IsIn other.plug (tell.parts n).plugs in
                      let R : List PlannedPlug → Type 0 = λ rs. IsIn other.plug rs in
                      let most = last_highest (tell.parts t).low ps q spaced other.plug
                      (subst R e (subst Q same other.among)) in
                      let at = other.is.start in
                      absurd (omega (arith, most, at, less))
                ]
              ]);
        }

    part_told : IsPartPlanned rows now bricks g t (tell.parts t) (tell.lasts t)
    part_told =
        let seg : segment_at now t ≡ segment_at old t = ap (λ (v : HeapView). segment_at v t) shape.others in
        record {
          planned = planned-words old now bricks (tell.parts t) (past_bricks (tell.parts t)) shape
              (λ x i. (
                told_words x 32 i (omega arith) (omega arith) refl,
                told_words x 24 i (omega arith) (omega arith) refl,
                told_words x 16 i (omega arith) (omega arith) refl,
              )) told.planned;
          segment = told.segment;
          low = told.low ∙ sym (ap (λ (v : HeapView). part_of v g t) shape.others);
          high = told.high ∙ sym (ap (λ (s : SegInfo). s.end) seg);
          down = told.down;
          run = λ ps q e.
              run_kept rows old now t q.start (tell.lasts t) (ap (λ (s : SegInfo). s.end) seg)
              (ap (λ (v : HeapView). holes_of v t) shape.others) shape.memories
              (λ i k. heads t q.start (tell.lasts t) i (last_run ps q e) k) (told.run ps q e);
        }

  -- The plans tell the same moves where the information of the plugs stays, and where in each segment the words that
  -- name items stay from the last plug on.
  pub tells-kept : TellMoves rows now bricks g vs
  tells-kept =
      let count : length now.segments ≡ length old.segments = ap (λ (v : HeapView). length v.segments) shape.others in
      record {
        parts = tell.parts;
        lasts = tell.lasts;
        each = λ t within on.
            part_told t (omega (arith, within, count))
            (sym (ap (λ (v : HeapView). takes g (segment_at v t)) shape.others) ∙ on);
        moves = tell.moves ∙ sym (moves-same old now g tell.parts tell.lasts 0 (length now.segments)
            (λ u from. ap (λ (v : HeapView). takes g (segment_at v u)) shape.others)
            ∙ ap (λ (m : ℕ). moves_from old g tell.parts tell.lasts 0 m) count);
      }
