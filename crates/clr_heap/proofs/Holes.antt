-- The rests of contexts as holes: made over a free range, shrunk from the front by an item, and given up.
use Rattle.std.proofs.Common.{◌≡◌, ◌≢◌, ◌⊎◌, inl, inr, ℕ, zero, suc, ◌+◌, ◌-◌, ◌%◌, ◌<◌, ◌≤◌, List, [], ◌∷◌, ◌++◌}
use Rattle.std.proofs.Common.{length, get_or, set, refl, ap, sym, ◌∙◌, subst, subst₂, arith, eqb, Option, None, Some}
use Rattle.std.proofs.Common.{cond}
use Rattle.std.proofs.lemmas.Bool.{cases_Bool, cases_eq, eq-eqb, ne_eqb}
use Rattle.clr_mem.specs.Words.{Memory}
use Rattle.clr_types.specs.Types.{TypeRow, form_at, size_of}
use Rattle.clr_types.specs.Ranges.{Piece, piece_end}
use Rattle.clr_types.specs.Segments.{ended_at, first_place, reserved_end, same_kind}
use Rattle.clr_types.specs.declared.segment.SegInfo.{SegInfo}
use Rattle.clr_types.specs.declared.item.Item.{Item}
use Rattle.clr_types.specs.declared.segment.SegKind.{SegKind}
use Rattle.clr_types.specs.declared.segment.SegKind.TheVariants.{Ephemeral}
use Rattle.clr_heap.specs.Parts.{IsMakeable, Among, free_item, hole_from, IsBoundary, item_part, made_item, Part}
use Rattle.clr_heap.specs.Parts.{part_end, replace_run, rest_part, rest_parts, Sight, Spells, start_of}
use Rattle.clr_heap.specs.View.{first_of, HeapView, holes_of, IsHeap, IsWalkable, last_of, parts_of, PartsAre}
use Rattle.clr_heap.specs.View.{rest_between, segment_at, sight, word_of}
use Rattle.clr_heap.proofs.Spelling.{item_size, Spells-append, Spells-made}
use Rattle.clr_heap.proofs.Placing.{boundary-aligned, free_makeable, Placed}
use Rattle.clr_heap.proofs.Framing.{held_in, lawful_at}
use Rattle.clr_heap.proofs.Runs.{run_changed, Spells-seen}
use Rattle.clr_heap.proofs.Staying.{parts_from}
use Rattle.clr_heap.proofs.Ends.{ended_here}

-- ---- lists of rests

-- a rest starts at q
abbrev pub StartsAt : Option Piece → ℕ → Type 0
StartsAt None q = ⊥
StartsAt (Some r) q = r.place ≡ q

hole-other : (o : Option Piece) (hs : List (Option Piece)) (q : ℕ) → (StartsAt o q → ⊥)
    → hole_from (o ∷ hs) q ≡ hole_from hs q
hole-other None hs q ne = refl
hole-other (Some r) hs q ne = let miss = ne_eqb r.place q ne in rw miss refl

-- a changed rest changes nothing where neither the old nor the new one starts
pub hole_from-set_other : (hs : List (Option Piece)) (i : ℕ) (o : Option Piece) (q : ℕ)
    → (StartsAt (get_or hs i None) q → ⊥) → (StartsAt o q → ⊥) → hole_from (set hs i o) q ≡ hole_from hs q
hole_from-set_other [] i o q old new = refl
hole_from-set_other (h ∷ hs) zero o q old new = hole-other o hs q new ∙ sym (hole-other h hs q old)
hole_from-set_other (None ∷ hs) (suc i) o q old new = hole_from-set_other hs i o q old new
hole_from-set_other (Some r ∷ hs) (suc i) o q old new =
    ap (λ (rest : Option ℕ). cond (eqb r.place q) (Some (piece_end r)) rest) (hole_from-set_other hs i o q old new)

-- a rest is the hole at its place, where no other rest starts there
pub hole_from-set_here : (hs : List (Option Piece)) (i : ℕ) (r : Piece) → i < length hs
    → hole_from (set hs i None) r.place ≡ None → hole_from (set hs i (Some r)) r.place ≡ Some (piece_end r)
hole_from-set_here [] i r l none = absurd (omega arith)
hole_from-set_here (h ∷ hs) zero r l none = let hit = eq-eqb r.place r.place refl in rw hit refl
hole_from-set_here (None ∷ hs) (suc i) r l none = hole_from-set_here hs i r (omega arith) none
hole_from-set_here (Some s ∷ hs) (suc i) r l none = elim (cases_Bool (eqb s.place r.place)) [
  | inl hit ↦ let clash : Some (piece_end s) ≡ None = rw hit at none in absurd (cc)
  | inr miss ↦
      let rest : hole_from (set hs i None) r.place ≡ None = rw miss at none in
      rw miss (hole_from-set_here hs i r (omega arith) rest)
]

between_is : (low high : ℕ) → low ≢ high → rest_between low high ≡ Some (record { place = low; size = high - low })
between_is low high ne = let miss = ne_eqb low high ne in rw miss refl

-- a rest between two places starts at the lower one alone, and only where they differ
pub between_starts : (low high q : ℕ) → StartsAt (rest_between low high) q → (q ≡ low) × (low ≢ high)
between_starts low high q s = elim (cases_eq low high) [
  | inl same ↦
      let P : Option Piece → Type 0 = λ o. StartsAt o q in
      let none : rest_between low high ≡ None = let hit = eq-eqb low high same in rw hit refl in
      absurd (subst P none s)
  | inr apart ↦ let P : Option Piece → Type 0 =
      λ o. StartsAt o q in (sym (subst P (between_is low high apart) s), apart)
]

-- no hole starts where neither the new rest nor another one does
pub hole_from-set_none : (hs : List (Option Piece)) (i : ℕ) (o : Option Piece) (q : ℕ)
    → hole_from (set hs i None) q ≡ None → (StartsAt o q → ⊥) → hole_from (set hs i o) q ≡ None
hole_from-set_none [] i o q none new = refl
hole_from-set_none (h ∷ hs) zero o q none new = hole-other o hs q new ∙ none
hole_from-set_none (None ∷ hs) (suc i) o q none new = hole_from-set_none hs i o q none new
hole_from-set_none (Some r ∷ hs) (suc i) o q none new = elim (cases_Bool (eqb r.place q)) [
  | inl hit ↦ let clash : Some (piece_end r) ≡ None = rw hit at none in absurd (cc)
  | inr miss ↦
      let rest : hole_from (set hs i None) q ≡ None = rw miss at none in
      rw miss (hole_from-set_none hs i o q rest new)
]

-- the parts of a rest between two places are spelled, where it is the hole there
pub rest_spelled : (s : Sight) (low high : ℕ)
    → (low ≢ high → (low + 24 ≤ high) × (high % 8 ≡ 0) × (hole_from s.holes low ≡ Some high))
    → Spells s low (rest_parts low high) high
rest_spelled s low high h = elim (cases_eq low high) [
  | inl same ↦ let hit = eq-eqb low high same in rw hit same
  | inr apart ↦ let miss = ne_eqb low high apart in let f = h apart in rw miss (refl, f.2, f.0, f.1, refl)
]

-- ---- parts and boundaries

start-first : (ps : List Part) (p : ℕ) → IsBoundary ps p p
start-first [] p = refl
start-first (x ∷ xs) p = inl refl

-- a part begins and ends at boundaries
pub part_bounds : (s : Sight) (ps : List Part) (m : Part) (p e : ℕ) → Spells s p ps e → Among ps m
    → IsBoundary ps p (start_of m) × IsBoundary ps p (part_end m)
part_bounds s [] m p e h k = absurd k
part_bounds s (item_part i ∷ ps) m p e h k =
    let f = item_size s i p h.1 h.2 in
    elim k [
      | inl here ↦
          let P : Part → Type 0 =
          λ x. IsBoundary (item_part i ∷ ps) p (start_of x) × IsBoundary (item_part i ∷ ps) p (part_end x) in
          subst P (sym here) (inl f.2, inr (start-first ps (i.place + i.size)))
      | inr later ↦
          let next : p + i.size ≡ i.place + i.size = omega arith in
          let P : ℕ → Type 0 = λ q. IsBoundary ps q (start_of m) × IsBoundary ps q (part_end m) in
          let ih = subst P next (part_bounds s ps m (p + i.size) e h.3 later) in
          (inr ih.0, inr ih.1)
    ]
part_bounds s (rest_part low high ∷ ps) m p e h k = elim k [
  | inl here ↦
      let P : Part → Type 0 = λ x. IsBoundary (rest_part low high ∷ ps) p (start_of x)
      × IsBoundary (rest_part low high ∷ ps) p (part_end x) in
      subst P (sym here) (inl h.0, inr (start-first ps high))
  | inr later ↦
      let ih = part_bounds s ps m high e h.4 later in
      (inr ih.0, inr ih.1)
]

-- what is known of a hole among parts
pub record HoleAt (s : Sight) (low high : ℕ) : Type 0 where
  pub hole : hole_from s.holes low ≡ Some high
  pub least : low + 24 ≤ high
  pub whole : high % 8 ≡ 0

pub hole_among : (s : Sight) (ps : List Part) (low high p e : ℕ) → Spells s p ps e → Among ps (rest_part low high)
    → HoleAt s low high
hole_among s [] low high p e h k = absurd k
hole_among s (item_part i ∷ ps) low high p e h k = elim k [
  | inl here ↦ absurd (cc)
  | inr later ↦ hole_among s ps low high (p + i.size) e h.3 later
]
hole_among s (rest_part from to ∷ ps) low high p e h k = elim k [
  | inl here ↦
      let first : low ≡ p = ap start_of here ∙ h.0 in
      let last : high ≡ to = ap part_end here in
      let size = h.2 in
      record {
        hole = ap (λ (q : ℕ). hole_from s.holes q) first ∙ h.1 ∙ ap (λ (q : ℕ). Some q) (sym last);
        least = omega arith;
        whole = ap (λ (q : ℕ). q % 8) last ∙ h.3;
      }
  | inr later ↦ hole_among s ps low high to e h.4 later
]

-- ---- on the whole heap

-- the ephemeral segment sees every rest
pub holes_young : (h : HeapView) (k : ℕ) → (segment_at h k).kind ≡ Ephemeral → holes_of h k ≡ h.rests
holes_young h k e = ap (λ (kind : SegKind). cond (same_kind kind Ephemeral) h.rests []) e

module _ (rows : List TypeRow) (h : HeapView) (k i : ℕ) (walk : IsWalkable rows h k)
    (young : (segment_at h k).kind ≡ Ephemeral) (thread : i < length h.rests) where
  abbrev with_rest : List Memory → Option Piece → HeapView
  with_rest ms o = record h { memories = ms; rests = set h.rests i o }

  seen : (ms : List Memory) (o : Option Piece) → holes_of (with_rest ms o) k ≡ set h.rests i o
  seen ms o = holes_young (with_rest ms o) k young

  hole_here : (ms : List Memory) (low high : ℕ) → low < high → hole_from (set h.rests i None) low ≡ None
      → hole_from (holes_of (with_rest ms (rest_between low high)) k) low ≡ Some high
  hole_here ms low high l none =
      let r : Piece = record { place = low; size = high - low } in
      let is = between_is low high (λ same. omega arith) in
      let last : low + (high - low) ≡ high = omega arith in
      ap (λ (hs : List (Option Piece)). hole_from hs low)
      (seen ms (rest_between low high) ∙ ap (λ (o : Option Piece). set h.rests i o) is)
      ∙ hole_from-set_here h.rests i r thread none ∙ ap (λ (q : ℕ). Some q) last

  hole_apart : (ms : List Memory) (o : Option Piece) (q : ℕ) → (StartsAt (get_or h.rests i None) q → ⊥)
      → (StartsAt o q → ⊥) → hole_from (holes_of (with_rest ms o) k) q ≡ hole_from (holes_of h k) q
  hole_apart ms o q old new =
      ap (λ (hs : List (Option Piece)). hole_from hs q) (seen ms o) ∙ hole_from-set_other h.rests i o q old new
      ∙ ap (λ (hs : List (Option Piece)). hole_from hs q) (sym (holes_young h k young))

  -- what a head at the front of the rest and a shorter rest leave
  module _ (p : HeapView) (low high t n : ℕ) (made : Placed rows h p low t n)
      (had : get_or h.rests i None ≡ Some (record { place = low; size = high - low }))
      (among : Among (parts_of rows h k) (rest_part low high)) (alone : hole_from (set h.rests i None) low ≡ None) where
    same_view : (o : Option Piece) → record p { rests = set p.rests i o } ≡ with_rest p.memories o
    same_view o = ap (λ (g : HeapView). record g { rests = set g.rests i o }) made.shape.others

    old_start : (q : ℕ) → q ≢ low → StartsAt (get_or h.rests i None) q → ⊥
    old_start q ne s = let P : Option Piece → Type 0 = λ o. StartsAt o q in ne (sym (subst P had s))

    -- THE RULE OF DRAWING: an item stands at the front of the hole, and the rest of it is still a hole
    pub drawn_run : IsMakeable rows t n → (low + size_of (form_at rows t) n ≡ high)
        ⊎ (low + size_of (form_at rows t) n + 24 ≤ high)
        → (low + size_of (form_at rows t) n ≢ high
        → hole_from (set h.rests i None) (low + size_of (form_at rows t) n) ≡ None)
        → PartsAre rows (record p { rests = set p.rests i (rest_between (low + size_of (form_at rows t) n) high) }) k
        (replace_run (parts_of rows h k) low high
        (item_part (made_item rows low t n) ∷ rest_parts (low + size_of (form_at rows t) n) high))
    drawn_run item fits clear =
        let last = low + size_of (form_at rows t) n in
        let o = rest_between last high in
        let new = with_rest p.memories o in
        let s = sight rows h k in
        let bounds =
        part_bounds s (parts_of rows h k) (rest_part low high) (first_of h k) (last_of h k) walk.spelled among in
        let hole = hole_among s (parts_of rows h k) low high (first_of h k) (last_of h k) walk.spelled among in
        let za =
        boundary-aligned s (parts_of rows h k) (first_of h k) (last_of h k) low walk.start walk.spelled bounds.0 in
        let size = item.least in
        let up : last ≤ high = elim fits [ inl l ↦ omega arith | inr l ↦ omega arith ] in
        let least = hole.least in
        let none_here : hole_from (holes_of new k) low ≡ None =
        ap (λ (hs : List (Option Piece)). hole_from hs low) (seen p.memories o)
        ∙ hole_from-set_none h.rests i o low alone (λ s. let f = between_starts last high low s in omega arith) in
        let front : Spells (sight rows new k) low (item_part (made_item rows low t n) ∷ []) last =
        Spells-made (sight rows new k) low t n (record { mt = made.mt; len = made.len }) item none_here in
        let back : Spells (sight rows new k) last (rest_parts last high) high =
        rest_spelled (sight rows new k) last high (λ ne.
        let lower : last + 24 ≤ high = elim fits [ inl l ↦ absurd (ne l) | inr l ↦ l ] in
        (lower, hole.whole, hole_here p.memories last high (omega arith) (clear ne))) in
        let whole = Spells-append (sight rows new k) (item_part (made_item rows low t n) ∷ [])
        (rest_parts last high) low last high front back in
        let P : HeapView → Type 0 = λ g. PartsAre rows g k
        (replace_run (parts_of rows h k) low high (item_part (made_item rows low t n) ∷ rest_parts last high)) in
        subst P (sym (same_view o)) (run_changed rows h new k low high
        (item_part (made_item rows low t n) ∷ rest_parts last high) walk bounds.0 bounds.1 (omega arith)
        (record {
          shapes = made.shape.memories;
          segments = refl;
          words = λ b z out. made.others b z (λ same. elim out [ inl l ↦ omega arith | inr l ↦ omega arith ])
              (λ same. elim out [ inl l ↦ omega arith | inr l ↦ omega arith ])
              (λ same. elim out [ inl l ↦ omega arith | inr l ↦ omega arith ]);
          holes = λ q out. hole_apart p.memories o q
              (old_start q (λ same. elim out [ inl l ↦ omega arith | inr l ↦ omega arith ]))
              (λ s. let f = between_starts last high q s in
              elim out [ inl l ↦ omega arith | inr l ↦ f.1 (omega arith) ]);
        }) whole)

    -- THE RULE OF GIVING UP: a free item takes the place of the hole, of which nothing is left
    pub given_run : t ≡ 0 → n + 24 ≡ high - low → high - low ≤ 1073741824
        → PartsAre rows (record p { rests = set p.rests i None }) k
        (replace_run (parts_of rows h k) low high (item_part (free_item low (high - low)) ∷ []))
    given_run free count most =
        let new = with_rest p.memories None in
        let s = sight rows h k in
        let bounds =
        part_bounds s (parts_of rows h k) (rest_part low high) (first_of h k) (last_of h k) walk.spelled among in
        let hole = hole_among s (parts_of rows h k) low high (first_of h k) (last_of h k) walk.spelled among in
        let za =
        boundary-aligned s (parts_of rows h k) (first_of h k) (last_of h k) low walk.start walk.spelled bounds.0 in
        let least = hole.least in
        let whole = hole.whole in
        let zn : n % 8 ≡ 0 = omega arith in
        let item : IsMakeable rows t n = let P : ℕ → Type 0 =
        λ x. IsMakeable rows x n in subst P (sym free) (free_makeable rows n zn (omega arith)) in
        let size_free : size_of (form_at rows 0) n ≡ high - low = omega arith in
        let size : size_of (form_at rows t) n ≡ high - low =
        ap (λ (x : ℕ). size_of (form_at rows x) n) free ∙ size_free in
        let none_here : hole_from (holes_of new k) low ≡ None =
        ap (λ (hs : List (Option Piece)). hole_from hs low) (seen p.memories None) ∙ alone in
        let made_free =
        Spells-made (sight rows new k) low t n (record { mt = made.mt; len = made.len }) item none_here in
        let names : made_item rows low t n ≡ free_item low (high - low) =
        made_is rows low high t n free size (omega arith) in
        let last : low + size_of (form_at rows t) n ≡ high = omega arith in
        let Q : Item → ℕ → Type 0 = λ x q. Spells (sight rows new k) low (item_part x ∷ []) q in
        let spelled = subst₂ Q names last made_free in
        let P : HeapView → Type 0 = λ g. PartsAre rows g k
        (replace_run (parts_of rows h k) low high (item_part (free_item low (high - low)) ∷ [])) in
        subst P (sym (same_view None)) (run_changed rows h new k low high
        (item_part (free_item low (high - low)) ∷ []) walk bounds.0 bounds.1 (omega arith)
        (record {
          shapes = made.shape.memories;
          segments = refl;
          words = λ b z out. made.others b z (λ same. elim out [ inl l ↦ omega arith | inr l ↦ omega arith ])
              (λ same. elim out [ inl l ↦ omega arith | inr l ↦ omega arith ])
              (λ same. elim out [ inl l ↦ omega arith | inr l ↦ omega arith ]);
          holes = λ q out. hole_apart p.memories None q
              (old_start q (λ same. elim out [ inl l ↦ omega arith | inr l ↦ omega arith ])) (λ s. s);
        }) spelled)
      where
        made_is : (rows : List TypeRow) (low high t n : ℕ) → t ≡ 0 → size_of (form_at rows t) n ≡ high - low
            → n ≡ high - low - 24 → made_item rows low t n ≡ free_item low (high - low)
        made_is rows low high t n free size len =
            ap (λ (x : ℕ). record {
              place = low;
              size = size_of (form_at rows t) n;
              type_id = record { 0 = x };
              len = n;
            }) free
            ∙ ap (λ (b : ℕ). record { place = low; size = b; type_id = record { 0 = 0 }; len = n }) size
            ∙ ap (λ (m : ℕ). record { place = low; size = high - low; type_id = record { 0 = 0 }; len = m }) len

-- ---- the tail

-- THE RULE OF THE TAIL, for holes: a hole that is made at the end of a segment, which then ends past it, follows its
-- parts
pub hole_at_end : (rows : List TypeRow) (h : HeapView) (k i size : ℕ) → IsHeap h → k < length h.segments
    → IsWalkable rows h k → (segment_at h k).kind ≡ Ephemeral → i < length h.rests → get_or h.rests i None ≡ None
    → 24 ≤ size → size % 8 ≡ 0 → last_of h k + size ≤ reserved_end (segment_at h k)
    → hole_from h.rests (last_of h k) ≡ None
    → PartsAre rows (record h {
      segments = set h.segments k (ended_at (last_of h k + size) (segment_at h k));
      rests = set h.rests i (rest_between (last_of h k) (last_of h k + size));
    }) k
    (parts_of rows h k ++ rest_part (last_of h k) (last_of h k + size) ∷ [])
hole_at_end rows h k i size heap l w young thread had least whole room none =
    let a = last_of h k in
    let c = a + size in
    let lawful = lawful_at h k heap l in
    let z = lawful.aligned in
    let here = ended_here h k c l in
    let rests = set h.rests i (rest_between a c) in
    let new = record h { segments = set h.segments k (ended_at c (segment_at h k)); rests = rests } in
    let kind : (segment_at new k).kind ≡ Ephemeral = ap (λ (s : SegInfo). s.kind) here ∙ young in
    let none_old : (q : ℕ) → StartsAt (get_or h.rests i None) q → ⊥ =
    λ q s. let P : Option Piece → Type 0 = λ o. StartsAt o q in subst P had s in
    let old : (q : ℕ) → q < a → hole_from rests q ≡ hole_from (holes_of h k) q =
    λ q below. hole_from-set_other h.rests i (rest_between a c) q (none_old q)
    (λ s. let f = between_starts a c q s in omega arith)
    ∙ ap (λ (hs : List (Option Piece)). hole_from hs q) (sym (holes_young h k young)) in
    let is = between_is a c (λ same. omega arith) in
    let alone : hole_from (set h.rests i None) a ≡ None =
    hole_from-set_other h.rests i None a (none_old a) (λ s. s) ∙ none in
    let end : a + (c - a) ≡ c = omega arith in
    let there : hole_from rests a ≡ Some c =
    ap (λ (o : Option Piece). hole_from (set h.rests i o) a) is
    ∙ hole_from-set_here h.rests i (record { place = a; size = c - a }) thread alone ∙ ap (λ (q : ℕ). Some q) end in
    let v : Sight = record { rows = rows; word = word_of h; holes = rests } in
    let below = Spells-seen (sight rows h k) (word_of h) rests (parts_of rows h k) (first_of h k) a w.start
    (record { words = λ b zb low high. refl; holes = λ q low high. old q high }) w.spelled in
    let above : Spells v a (rest_part a c ∷ []) c = (refl, there, omega arith, omega arith, refl) in
    parts_from rows new k (parts_of rows h k ++ rest_part a c ∷ []) rests (first_of h k) c
    (ap first_place here) (ap (λ (s : SegInfo). s.end) here) (holes_young new k kind) w.start
    (Spells-append v (parts_of rows h k) (rest_part a c ∷ []) (first_of h k) a c below above)
    (λ b zb low high. held_in h k b heap l (omega arith) (omega arith))
