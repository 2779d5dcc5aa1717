-- Runs of parts that give way to others, where words and holes change.
use Rattle.std.proofs.Common.{◌≡◌, ◌⊎◌, inl, inr, ℕ, ◌+◌, ◌%◌, ◌<◌, ◌≤◌, true, false, List, [], ◌∷◌, length, ap, sym}
use Rattle.std.proofs.Common.{◌∙◌, subst, subst₂, arith, eqb, Option}
use Rattle.std.proofs.lemmas.Bool.{eq-eqb, ne_eqb}
use Rattle.clr_types.specs.Types.{TypeRow}
use Rattle.clr_types.specs.Ranges.{Piece}
use Rattle.clr_types.specs.declared.segment.SegInfo.{SegInfo}
use Rattle.clr_heap.specs.Memories.{memory_index, shapes}
use Rattle.clr_heap.specs.Parts.{from_place, hole_from, IsBoundary, item_part, Part, replace_run, rest_part, Sight}
use Rattle.clr_heap.specs.Parts.{Spells}
use Rattle.clr_heap.specs.View.{first_of, HeapView, holes_of, IsWalkable, last_of, parts_of, PartsAre, sight}
use Rattle.clr_heap.specs.View.{word_of}
use Rattle.clr_heap.proofs.Storing.{length-shapes, memory_index-shapes}
use Rattle.clr_heap.proofs.Spelling.{agree_from_same, item_at-agrees, item_size, NamesItem-agrees, SameBetween}
use Rattle.clr_heap.proofs.Spelling.{Spells-append, Spells-le}
use Rattle.clr_heap.proofs.Walking.{CanWalk-from, spelled_parts}
use Rattle.clr_heap.proofs.Placing.{boundary-aligned, boundary-le, from_boundary}

-- a sight with other words and other holes
abbrev pub with_view : Sight → (ℕ → ℕ) → List (Option Piece) → Sight
with_view s w hs = record { rows = s.rows; word = w; holes = hs }

-- other words and other holes look the same from p to e
pub record SeenSame (s : Sight) (w : ℕ → ℕ) (hs : List (Option Piece)) (p e : ℕ) : Type 0 where
  pub words : SameBetween s.word w p e
  pub holes : (q : ℕ) → p ≤ q → q < e → hole_from hs q ≡ hole_from s.holes q

later_seen : (s : Sight) (w : ℕ → ℕ) (hs : List (Option Piece)) (p q e : ℕ) → p ≤ q → SeenSame s w hs p e
    → SeenSame s w hs q e
later_seen s w hs p q e l a = record {
  words = λ b z low high. a.words b z (omega arith) high;
  holes = λ n low high. a.holes n (omega arith) high;
}

-- THE FRAME RULE: parts stay where words and holes look the same
pub Spells-seen : (s : Sight) (w : ℕ → ℕ) (hs : List (Option Piece)) (ps : List Part) (p e : ℕ) → p % 8 ≡ 0
    → SeenSame s w hs p e → Spells s p ps e → Spells (with_view s w hs) p ps e
Spells-seen s w hs [] p e z a h = h
Spells-seen s w hs (item_part i ∷ ps) p e z a h =
    let f = item_size s i p h.1 h.2 in
    let l = Spells-le s ps (p + i.size) e h.3 in
    let first : w p ≡ s.word p = a.words p z (omega arith) (omega arith) in
    let second : w (p + 8) ≡ s.word (p + 8) = a.words (p + 8) (omega arith) (omega arith) (omega arith) in
    let head = agree_from_same s w p first second in (
      a.holes p (omega arith) (omega arith) ∙ h.0,
      h.1 ∙ sym (item_at-agrees s.rows s.word w p head),
      NamesItem-agrees s.rows s.word w p head h.2,
      Spells-seen s w hs ps (p + i.size) e (omega arith) (later_seen s w hs p (p + i.size) e (omega arith) a) h.3,
    )
Spells-seen s w hs (rest_part low high ∷ ps) p e z a h =
    let l = Spells-le s ps high e h.4 in (
      h.0,
      a.holes p (omega arith) (omega arith)
          ∙ h.1,
      h.2,
      h.3,
      Spells-seen s w hs ps high e h.3 (later_seen s w hs p high e (omega arith) a) h.4,
    )

-- THE RULE OF RUNS: the parts from a to c give way to ns
pub Spells-run : (s : Sight) (w : ℕ → ℕ) (hs : List (Option Piece)) (ns : List Part) (a c : ℕ) (ps : List Part)
    (p e : ℕ) → p % 8 ≡ 0 → c % 8 ≡ 0 → a < c → Spells s p ps e → IsBoundary ps p a → IsBoundary ps p c
    → Spells (with_view s w hs) a ns c → SeenSame s w hs p a → SeenSame s w hs c e
    → Spells (with_view s w hs) p (replace_run ps a c ns) e
Spells-run s w hs ns a c [] p e z zc l h ba bc new low high = absurd (omega arith)
Spells-run s w hs ns a c (item_part i ∷ ps) p e z zc l h ba bc new low high =
    let f = item_size s i p h.1 h.2 in
    let next : i.place + i.size ≡ p + i.size = omega arith in
    let P : ℕ → ℕ → Type 0 = λ q x. IsBoundary ps q x in
    let bc' : IsBoundary ps (p + i.size) c = elim bc [
      | inl same ↦ let up = boundary-le s (item_part i ∷ ps) p e a h ba in absurd (omega arith)
      | inr later ↦ let Q : ℕ → Type 0 = λ q. P q c in subst Q next later
    ] in
    elim ba [
      | inl same ↦
          let hit : eqb i.place a ≡ true = eq-eqb i.place a (omega arith) in
          let R : ℕ → Type 0 = λ q. Spells (with_view s w hs) q ns c in
          rw hit (Spells-append (with_view s w hs) ns (from_place ps c) p c e (subst R same new)
          (Spells-seen s w hs (from_place ps c) c e zc high (from_boundary s ps (p + i.size) e c h.3 bc')))
      | inr later ↦
          let later' : IsBoundary ps (p + i.size) a = let Q : ℕ → Type 0 = λ q. P q a in subst Q next later in
          let up = boundary-le s ps (p + i.size) e a h.3 later' in
          let miss : eqb i.place a ≡ false = ne_eqb i.place a (λ same. omega arith) in
          let first : w p ≡ s.word p = low.words p z (omega arith) (omega arith) in
          let second : w (p + 8) ≡ s.word (p + 8) = low.words (p + 8) (omega arith) (omega arith) (omega arith) in
          let head = agree_from_same s w p first second in
          rw miss (
            low.holes p (omega arith) (omega arith) ∙ h.0,
            h.1 ∙ sym (item_at-agrees s.rows s.word w p head),
            NamesItem-agrees s.rows s.word w p head h.2,
            Spells-run s w hs ns a c ps (p + i.size) e (omega arith) zc l h.3 later' bc' new
                (later_seen s w hs p (p + i.size) a (omega arith) low) high,
          )
    ]
Spells-run s w hs ns a c (rest_part from to ∷ ps) p e z zc l h ba bc new low high =
    let bc' : IsBoundary ps to c = elim bc [
      | inl same ↦ let up = boundary-le s (rest_part from to ∷ ps) p e a h ba in absurd (omega arith)
      | inr later ↦ later
    ] in
    elim ba [
      | inl same ↦
          let hit : eqb from a ≡ true = eq-eqb from a (omega arith) in
          let R : ℕ → Type 0 = λ q. Spells (with_view s w hs) q ns c in
          rw hit (Spells-append (with_view s w hs) ns (from_place ps c) p c e (subst R same new)
          (Spells-seen s w hs (from_place ps c) c e zc high (from_boundary s ps to e c h.4 bc')))
      | inr later ↦
          let up = boundary-le s ps to e a h.4 later in
          let miss : eqb from a ≡ false = ne_eqb from a (λ same. omega arith) in
          rw miss (
            h.0,
            low.holes p (omega arith) (omega arith) ∙ h.1,
            h.2,
            h.3,
            Spells-run s w hs ns a c ps to e h.3 zc l h.4 later bc' new
                (later_seen s w hs p to a (omega arith) low) high,
          )
    ]

-- ---- on the whole heap

-- the words of one heap can be read where those of another of the same shape can
pub held_same : (old new : HeapView) (p e : ℕ) → shapes new.memories ≡ shapes old.memories
    → ((a : ℕ) → a % 8 ≡ 0 → p ≤ a + 8 → a + 8 < e → memory_index old.memories a < length old.memories)
    → (a : ℕ) → a % 8 ≡ 0 → p ≤ a + 8 → a + 8 < e → memory_index new.memories a < length new.memories
held_same old new p e shape held a z low high =
    rw (memory_index-shapes new.memories old.memories a shape, length-shapes new.memories old.memories shape)
    (held a z low high)

-- parts that are spelled from the first place to the end are those of the segment
pub parts_are : (rows : List TypeRow) (h : HeapView) (k : ℕ) (ps : List Part) → first_of h k % 8 ≡ 0
    → Spells (sight rows h k) (first_of h k) ps (last_of h k)
    → ((a : ℕ) → a % 8 ≡ 0 → first_of h k ≤ a + 8 → a + 8 < last_of h k → memory_index h.memories a < length h.memories)
    → PartsAre rows h k ps
parts_are rows h k ps z spelled held = record {
  walkable = CanWalk-from (sight rows h k) h.memories ps (first_of h k) (last_of h k) z spelled held;
  parts = spelled_parts (sight rows h k) ps (first_of h k) (last_of h k) spelled;
}

-- where the segments stay, what is spelled by new words and new holes are the parts of segment k
pub parts_now : (rows : List TypeRow) (old new : HeapView) (k : ℕ) (ps : List Part) → IsWalkable rows old k
    → new.segments ≡ old.segments → shapes new.memories ≡ shapes old.memories
    → Spells (sight rows new k) (first_of old k) ps (last_of old k) → PartsAre rows new k ps
parts_now rows old new k ps w segments shape spelled =
    let view : List SegInfo → HeapView = λ ss. record new { segments = ss } in
    let first : first_of new k ≡ first_of old k = ap (λ (ss : List SegInfo). first_of (view ss) k) segments in
    let last : last_of new k ≡ last_of old k = ap (λ (ss : List SegInfo). last_of (view ss) k) segments in
    let P : ℕ → ℕ → Type 0 = λ p e. Spells (sight rows new k) p ps e in
    let H : ℕ → ℕ → Type 0 =
    λ p e. (a : ℕ) → a % 8 ≡ 0 → p ≤ a + 8 → a + 8 < e → memory_index new.memories a < length new.memories in
    parts_are rows new k ps (rw first w.start) (subst₂ P (sym first) (sym last) spelled)
    (subst₂ H (sym first) (sym last) (held_same old new (first_of old k) (last_of old k) shape w.held))

-- between two heaps only the cells from a to c of segment k change, and the holes that start there
pub record ChangesRun (old new : HeapView) (k a c : ℕ) : Type 0 where
  pub shapes : shapes new.memories ≡ shapes old.memories
  pub segments : new.segments ≡ old.segments
  pub words : (b : ℕ) → b % 8 ≡ 0 → (b + 8 < a) ⊎ (c ≤ b + 8) → word_of new b ≡ word_of old b
  pub holes : (q : ℕ) → (q < a) ⊎ (c ≤ q) → hole_from (holes_of new k) q ≡ hole_from (holes_of old k) q

-- THE RULE OF CHANGED RUNS, for a segment: what is spelled from a to c takes the place of the parts there
pub run_changed : (rows : List TypeRow) (old new : HeapView) (k a c : ℕ) (ns : List Part) → IsWalkable rows old k
    → IsBoundary (parts_of rows old k) (first_of old k) a → IsBoundary (parts_of rows old k) (first_of old k) c → a < c
    → ChangesRun old new k a c → Spells (sight rows new k) a ns c
    → PartsAre rows new k (replace_run (parts_of rows old k) a c ns)
run_changed rows old new k a c ns w ba bc l change spelled =
    let s = sight rows old k in
    let zc = boundary-aligned s (parts_of rows old k) (first_of old k) (last_of old k) c w.start w.spelled bc in
    parts_now rows old new k (replace_run (parts_of rows old k) a c ns) w change.segments change.shapes
    (Spells-run s (word_of new) (holes_of new k) ns a c (parts_of rows old k) (first_of old k)
    (last_of old k) w.start zc.0 l w.spelled ba bc spelled
    (record {
      words = λ b z low high. change.words b z (inl (omega arith));
      holes = λ q low high. change.holes q (inl high);
    })
    (record {
      words = λ b z low high. change.words b z (inr (omega arith));
      holes = λ q low high. change.holes q (inr low);
    }))
