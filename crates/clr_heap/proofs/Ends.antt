-- Segments whose end moves: down to a boundary, and up past an item that is made there.
use Rattle.std.proofs.Common.{◌≡◌, inl, inr, ℕ, ◌+◌, ◌-◌, ◌<◌, ◌≤◌, List, [], ◌∷◌, ◌++◌, length, get_or, set, ap, sym}
use Rattle.std.proofs.Common.{subst, arith, cond, None}
use Rattle.std.proofs.lemmas.Bool.{le-ltb, lt-ltb}
use Rattle.std.proofs.lemmas.List.{get_or-set_same}
use Rattle.clr_types.specs.Types.{TypeRow, form_at, size_of}
use Rattle.clr_types.specs.Segments.{empty_segment, ended_at, first_place, reserved_end, same_kind}
use Rattle.clr_types.specs.declared.segment.SegInfo.{SegInfo}
use Rattle.clr_types.specs.declared.segment.SegKind.TheVariants.{Ephemeral}
use Rattle.clr_heap.specs.Parts.{IsMakeable, hole_from, IsBoundary, item_part, made_item, Part, rest_part, Sight}
use Rattle.clr_heap.specs.Parts.{Spells, until_place}
use Rattle.clr_heap.specs.View.{first_of, HasHead, HeapView, holes_of, IsHeap, IsWalkable, last_of, parts_of, PartsAre}
use Rattle.clr_heap.specs.View.{segment_at, sight, word_of}
use Rattle.clr_heap.proofs.Framing.{held_in, lawful_at}
use Rattle.clr_heap.proofs.Storing.{length-shapes, memory_index-shapes}
use Rattle.clr_heap.proofs.Spelling.{item_size, Spells-append, Spells-made, Spells-same}
use Rattle.clr_heap.proofs.Placing.{boundary-le, Placed}
use Rattle.clr_heap.proofs.Staying.{parts_from}

-- the parts below a boundary
pub until_boundary : (s : Sight) (ps : List Part) (p e c : ℕ) → Spells s p ps e → IsBoundary ps p c
    → Spells s p (until_place ps c) c
until_boundary s [] p e c h b = sym b
until_boundary s (item_part i ∷ ps) p e c h b =
    let f = item_size s i p h.1 h.2 in
    elim b [
      | inl same ↦ let stop = le-ltb i.place c (omega arith) in rw stop (sym same)
      | inr later ↦
          let next : i.place + i.size ≡ p + i.size = omega arith in
          let P : ℕ → Type 0 = λ q. IsBoundary ps q c in
          let later' : IsBoundary ps (p + i.size) c = subst P next later in
          let up = boundary-le s ps (p + i.size) e c h.3 later' in
          let go = lt-ltb i.place c (omega arith) in
          rw go (h.0, h.1, h.2, until_boundary s ps (p + i.size) e c h.3 later')
    ]
until_boundary s (rest_part low high ∷ ps) p e c h b = elim b [
  | inl same ↦ let at = h.0 in let stop = le-ltb low c (omega arith) in rw stop (sym same)
  | inr later ↦
      let at = h.0 in
      let size = h.2 in
      let up = boundary-le s ps high e c h.4 later in
      let go = lt-ltb low c (omega arith) in
      rw go (h.0, h.1, h.2, h.3, until_boundary s ps high e c h.4 later)
]

-- segment k where its end is c
pub ended_here : (h : HeapView) (k c : ℕ) → k < length h.segments
    → get_or (set h.segments k (ended_at c (segment_at h k))) k empty_segment ≡ ended_at c (segment_at h k)
ended_here h k c l = get_or-set_same h.segments k (ended_at c (segment_at h k)) empty_segment l

-- the head of an item of a size that fits above the end can be written
pub head_at_end : (h : HeapView) (k : ℕ) → IsHeap h → k < length h.segments
    → last_of h k + 24 ≤ reserved_end (segment_at h k) → HasHead h (last_of h k)
head_at_end h k i l room =
    let lawful = lawful_at h k i l in
    let low = lawful.low in
    let z = lawful.aligned in
    let a = last_of h k in
    record {
      above = omega arith;
      header = record { aligned = omega arith; inside = held_in h k (a - 8) i l (omega arith) (omega arith) };
      mt = record { aligned = z; inside = held_in h k a i l (omega arith) (omega arith) };
      len = record { aligned = omega arith; inside = held_in h k (a + 8) i l (omega arith) (omega arith) };
    }

-- THE RULE OF THE TAIL: an item that is made at the end of a segment, which then ends past it, follows its parts
pub made_at_end : (rows : List TypeRow) (h p : HeapView) (k t n : ℕ) → IsHeap h → k < length h.segments
    → IsWalkable rows h k → Placed rows h p (last_of h k) t n → IsMakeable rows t n
    → last_of h k + size_of (form_at rows t) n ≤ reserved_end (segment_at h k)
    → hole_from (holes_of h k) (last_of h k) ≡ None
    → PartsAre rows (record p {
      segments = set p.segments k
          (ended_at (last_of h k + size_of (form_at rows t) n) (segment_at p k));
    }) k
    (parts_of rows h k ++ item_part (made_item rows (last_of h k) t n) ∷ [])
made_at_end rows h p k t n i l w made item room none =
    let a = last_of h k in
    let c = a + size_of (form_at rows t) n in
    let lawful = lawful_at h k i l in
    let z = lawful.aligned in
    let least = item.least in
    let here = ended_here h k c l in
    let new = record h { memories = p.memories; segments = set h.segments k (ended_at c (segment_at h k)) } in
    let same : record p { segments = set p.segments k (ended_at c (segment_at p k)) } ≡ new =
    ap (λ (g : HeapView). record g { segments = set g.segments k (ended_at c (segment_at g k)) }) made.shape.others
    in
    let v : Sight = record { rows = rows; word = word_of p; holes = holes_of h k } in
    let below = Spells-same (sight rows h k) (word_of p) (parts_of rows h k) (first_of h k) a w.start
    (λ b zb low high. made.others b zb (λ same. omega arith) (λ same. omega arith) (λ same. omega arith)) w.spelled in
    let above = Spells-made v a t n (record { mt = made.mt; len = made.len }) item none in
    let ps = parts_of rows h k ++ item_part (made_item rows a t n) ∷ [] in
    let P : HeapView → Type 0 = λ g. PartsAre rows g k ps in
    subst P (sym same) (parts_from rows new k ps (holes_of h k) (first_of h k) c
    (ap first_place here) (ap (λ (s : SegInfo). s.end) here)
    (ap (λ (s : SegInfo). cond (same_kind s.kind Ephemeral) h.rests []) here) w.start
    (Spells-append v (parts_of rows h k) (item_part (made_item rows a t n) ∷ []) (first_of h k) a c below above)
    (λ b zb low high. rw (
      memory_index-shapes p.memories h.memories b made.shape.memories,
      length-shapes p.memories h.memories made.shape.memories,
    )
    (held_in h k b i l (omega arith) (omega arith))))
