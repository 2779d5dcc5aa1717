-- Parts that give way to others: a rest that becomes a free item, and a free item of which a context takes the front.
use Rattle.std.proofs.Common.{◌≡◌, ◌≢◌, ◌⊎◌, inl, inr, ℕ, zero, suc, ◌+◌, ◌-◌, ◌%◌, ◌<◌, ◌≤◌, List, [], ◌∷◌, ◌++◌}
use Rattle.std.proofs.Common.{length, get_or, set, refl, ap, sym, ◌∙◌, subst, arith, Option, None, Some, if◌then◌else◌}
use Rattle.std.proofs.Common.{◌==◌}
use Rattle.std.proofs.lemmas.Bool.{cases_eq, eq-eqb, ne_eqb}
use Rattle.clr_mem.specs.Words.{Memory}
use Rattle.clr_types.specs.Types.{TypeRow, form_at, mt_of, size_of}
use Rattle.clr_types.specs.Ranges.{Piece, piece_end}
use Rattle.clr_types.specs.declared.segment.SegKind.TheVariants.{Ephemeral}
use Rattle.clr_heap.specs.Memories.{shapes, word_in}
use Rattle.clr_heap.specs.Parts.{Among, free_item, hole_from, item_part, Part, part_end, rest_part, Sight, Spells}
use Rattle.clr_heap.specs.Parts.{start_of}
use Rattle.clr_heap.specs.View.{first_of, HeapView, holes_of, IsWalkable, last_of, PartsAre, segment_at, sight, word_of}
use Rattle.clr_heap.proofs.Holes.{hole_from-set_here, hole_from-set_none, hole_from-set_other, holes_young, StartsAt}
use Rattle.clr_heap.proofs.Placing.{free_makeable}
use Rattle.clr_heap.proofs.Runs.{ChangesRun, parts_now, Spells-seen}
use Rattle.clr_heap.proofs.Spelling.{item_size, Spells-append, Spells-made}

-- ---- a list of parts, cut at one of them

pub record CutAt (s : Sight) (ps : List Part) (m : Part) (p e : ℕ) : Type 0 where
  pub below : List Part
  pub above : List Part
  pub is : ps ≡ below ++ (m ∷ above)
  pub low : Spells s p below (start_of m)
  pub here : Spells s (start_of m) (m ∷ []) (part_end m)
  pub high : Spells s (part_end m) above e

pub cut_at : (s : Sight) (ps : List Part) (m : Part) (p e : ℕ) → Spells s p ps e → Among ps m → CutAt s ps m p e
cut_at s [] m p e h k = absurd k
cut_at s (item_part i ∷ ps) m p e h k =
    let f = item_size s i p h.1 h.2 in
    elim k [
      | inl here ↦
          let P : Part → Type 0 = λ x. CutAt s (item_part i ∷ ps) x p e in
          let Q : ℕ → Type 0 = λ q. Spells s q (item_part i ∷ []) (i.place + i.size) in
          let R : ℕ → Type 0 = λ q. Spells s (q + i.size) ps e in
          let at : p ≡ i.place = sym f.2 in
          let end : p + i.size ≡ i.place + i.size = ap (λ (q : ℕ). q + i.size) at in
          subst P (sym here) (record {
            below = [];
            above = ps;
            is = refl;
            low = at;
            here = subst Q at (h.0, h.1, h.2, end);
            high = subst R at h.3;
          })
      | inr later ↦
          let c = cut_at s ps m (p + i.size) e h.3 later in
          record {
            below = item_part i ∷ c.below;
            above = c.above;
            is = ap (λ (xs : List Part). item_part i ∷ xs) c.is;
            low = (h.0, h.1, h.2, c.low);
            here = c.here;
            high = c.high;
          }
    ]
cut_at s (rest_part low high ∷ ps) m p e h k = elim k [
  | inl here ↦
      let P : Part → Type 0 = λ x. CutAt s (rest_part low high ∷ ps) x p e in
      let Q : ℕ → Type 0 = λ q. Spells s q (rest_part low high ∷ []) high in
      let at : p ≡ low = sym h.0 in
      subst P (sym here) (record {
        below = [];
        above = ps;
        is = refl;
        low = at;
        here = subst Q at (h.0, h.1, h.2, h.3, refl);
        high = h.4;
      })
  | inr later ↦
      let c = cut_at s ps m high e h.4 later in
      record {
        below = rest_part low high ∷ c.below;
        above = c.above;
        is = ap (λ (xs : List Part). rest_part low high ∷ xs) c.is;
        low = (h.0, h.1, h.2, h.3, c.low);
        here = c.here;
        high = c.high;
      }
]

-- THE RULE OF SWAPPED RUNS: what is spelled from a to c stands between what was below a and what was above c
pub run_swapped : (rows : List TypeRow) (old new : HeapView) (k a c : ℕ) (below above ns : List Part)
    → IsWalkable rows old k
    → Spells (sight rows old k) (first_of old k) below a → Spells (sight rows old k) c above (last_of old k) → c % 8 ≡ 0
    → ChangesRun old new k a c → Spells (sight rows new k) a ns c → PartsAre rows new k (below ++ (ns ++ above))
run_swapped rows old new k a c below above ns w low high z change here =
    let s = sight rows old k in
    let v = sight rows new k in
    let front = Spells-seen s (word_of new) (holes_of new k) below (first_of old k) a w.start
    (record {
      words = λ b zb lo hi. change.words b zb (inl (omega arith));
      holes = λ q lo hi. change.holes q (inl hi);
    }) low in
    let back = Spells-seen s (word_of new) (holes_of new k) above c (last_of old k) z
    (record {
      words = λ b zb lo hi. change.words b zb (inr (omega arith));
      holes = λ q lo hi. change.holes q (inr lo);
    }) high in
    parts_now rows old new k (below ++ (ns ++ above)) w change.segments change.shapes
    (Spells-append v below (ns ++ above) (first_of old k) a (last_of old k) front
    (Spells-append v ns above a c (last_of old k) here back))

-- the words of a head spell a free item
pub free_spelled : (rows : List TypeRow) (h : HeapView) (k a n : ℕ) → word_of h a ≡ mt_of 0 → word_of h (a + 8) ≡ n - 24
    → hole_from (holes_of h k) a ≡ None → 24 ≤ n → n % 8 ≡ 0 → n ≤ 1073741824
    → Spells (sight rows h k) a (item_part (free_item a n) ∷ []) (a + n)
free_spelled rows h k a n mt len none least whole most =
    let made = Spells-made (sight rows h k) a 0 (n - 24) (record { mt = mt; len = λ _. len })
    (free_makeable rows (n - 24) (omega arith) (omega arith)) none in
    let size : size_of (form_at rows 0) (n - 24) ≡ n = omega arith in
    let P : ℕ → Type 0 = λ b. Spells (sight rows h k) a
    (item_part (record { place = a; size = b; type_id = record { 0 = 0 }; len = n - 24 }) ∷ []) (a + b) in
    subst P size made

-- ---- lists of rests

-- no hole starts where no rest does
pub hole_from-none : (hs : List (Option Piece)) (q : ℕ)
    → ((j : ℕ) (r : Piece) → get_or hs j None ≡ Some r → r.place ≢ q) → hole_from hs q ≡ None
hole_from-none [] q h = refl
hole_from-none (None ∷ hs) q h = hole_from-none hs q (λ j. h (suc j))
hole_from-none (Some r ∷ hs) q h =
    let miss = ne_eqb r.place q (h zero r refl) in
    rw miss (hole_from-none hs q (λ j. h (suc j)))

-- a rest starts where a hole does
pub hole_from-some : (hs : List (Option Piece)) (j q : ℕ) (r : Piece) → hole_from hs q ≡ None
    → get_or hs j None ≡ Some r → r.place ≢ q
hole_from-some [] j q r none here = let clash : None ≡ Some r = here in absurd (cc)
hole_from-some (None ∷ hs) zero q r none here = let clash : None ≡ Some r = here in absurd (cc)
hole_from-some (Some s ∷ hs) zero q r none here =
    let same : s ≡ r = cc in
    λ at.
    let hit = eq-eqb s.place q (ap (λ (x : Piece). x.place) same ∙ at) in
    let clash : Some (piece_end s) ≡ None = rw hit at none in
    absurd (cc)
hole_from-some (None ∷ hs) (suc j) q r none here = hole_from-some hs j q r none here
hole_from-some (Some s ∷ hs) (suc j) q r none here = elim (cases_eq s.place q) [
  | inl same ↦
      let hit = eq-eqb s.place q same in
      let clash : Some (piece_end s) ≡ None = rw hit at none in
      absurd (cc)
  | inr other ↦
      let miss = ne_eqb s.place q other in
      let later : hole_from hs q ≡ None = rw miss at none in
      hole_from-some hs j q r later here
]

-- the free item from one place to another, none where they are the same
abbrev pub free_parts : ℕ → ℕ → List Part
free_parts low high = if low == high then [] else item_part (free_item low (high - low)) ∷ []

-- where its head is written, its words spell it
pub left_spelled : (rows : List TypeRow) (h : HeapView) (k low high : ℕ) → (low ≡ high) ⊎ (low + 24 ≤ high)
    → low % 8 ≡ 0 → high % 8 ≡ 0 → high ≤ low + 1073741824 → (low + 24 ≤ high → hole_from (holes_of h k) low ≡ None)
    → (low + 24 ≤ high → (word_of h low ≡ mt_of 0) × (word_of h (low + 8) ≡ high - low - 24))
    → Spells (sight rows h k) low (free_parts low high) high
left_spelled rows h k low high cut start aligned most clear head = elim (cases_eq low high) [
  | inl same ↦ let hit = eq-eqb low high same in rw hit same
  | inr apart ↦
      let miss = ne_eqb low high apart in
      let more : low + 24 ≤ high = elim cut [ inl l ↦ absurd (apart l) | inr l ↦ l ] in
      let written = head more in
      let item = free_spelled rows h k low (high - low) written.0 written.1 (clear more) (omega arith) (omega arith)
      (omega arith) in
      let end : low + (high - low) ≡ high = omega arith in
      let P : ℕ → Type 0 = λ q. Spells (sight rows h k) low (item_part (free_item low (high - low)) ∷ []) q in
      rw miss (subst P end item)
]

-- ---- one thread's rest and the words of its range change

module _ (rows : List TypeRow) (h : HeapView) (k i : ℕ) (ms : List Memory) (walk : IsWalkable rows h k)
    (young : (segment_at h k).kind ≡ Ephemeral) (thread : i < length h.rests)
    (shape : shapes ms ≡ shapes h.memories) where
  abbrev pub with_rest : Option Piece → HeapView
  with_rest o = record h { memories = ms; rests = set h.rests i o }

  seen : (o : Option Piece) → holes_of (with_rest o) k ≡ set h.rests i o
  seen o = holes_young (with_rest o) k young

  hole_apart : (o : Option Piece) (q : ℕ) → (StartsAt (get_or h.rests i None) q → ⊥) → (StartsAt o q → ⊥)
      → hole_from (holes_of (with_rest o) k) q ≡ hole_from (holes_of h k) q
  hole_apart o q old new =
      ap (λ (hs : List (Option Piece)). hole_from hs q) (seen o) ∙ hole_from-set_other h.rests i o q old new
      ∙ ap (λ (hs : List (Option Piece)). hole_from hs q) (sym (holes_young h k young))

  module _ (low high : ℕ) (below above : List Part) (under : Spells (sight rows h k) (first_of h k) below low)
      (over : Spells (sight rows h k) high above (last_of h k)) (aligned : high % 8 ≡ 0)
      (words : (b : ℕ) → b % 8 ≡ 0 → (b + 8 < low) ⊎ (high ≤ b + 8) → word_in ms b ≡ word_of h b)
      (alone : hole_from (set h.rests i None) low ≡ None) where
    -- THE RULE OF GIVING UP: a free item stands where the rest was
    pub given_swap : get_or h.rests i None ≡ Some (record { place = low; size = high - low }) → low + 24 ≤ high
        → low % 8 ≡ 0 → high ≤ low + 1073741824
        → word_in ms low ≡ mt_of 0 → word_in ms (low + 8) ≡ high - low - 24
        → PartsAre rows (with_rest None) k (below ++ ((item_part (free_item low (high - low)) ∷ []) ++ above))
    given_swap had least start most mt len =
        let none : hole_from (holes_of (with_rest None) k) low ≡ None =
        ap (λ (hs : List (Option Piece)). hole_from hs low) (seen None) ∙ alone in
        let item = free_spelled rows (with_rest None) k low (high - low) mt len none (omega arith) (omega arith)
        (omega arith) in
        let end : low + (high - low) ≡ high = omega arith in
        let P : ℕ → Type 0 =
        λ q. Spells (sight rows (with_rest None) k) low (item_part (free_item low (high - low)) ∷ []) q in
        let Q : ℕ → Option Piece → Type 0 = λ q o. StartsAt o q in
        run_swapped rows h (with_rest None) k low high below above
        (item_part (free_item low (high - low)) ∷ []) walk under over aligned
        (record {
          shapes = shape;
          segments = refl;
          words = words;
          holes = λ q out. hole_apart None q
              (λ s. let at : low ≡ q = subst (Q q) had s in elim out [ inl l ↦ omega arith | inr l ↦ omega arith ])
              (λ s. s);
        }) (subst P end item)

    -- THE RULE OF DRAWING FROM A FREE ITEM: a rest stands at its front, and what is left of it is still free
    pub drawn_swap : (mid : ℕ) → get_or h.rests i None ≡ None → low + 24 ≤ mid → mid % 8 ≡ 0
        → (mid ≡ high) ⊎ (mid + 24 ≤ high) → high ≤ low + 1073741824
        → (mid + 24 ≤ high → hole_from (set h.rests i None) mid ≡ None)
        → (mid + 24 ≤ high → (word_in ms mid ≡ mt_of 0) × (word_in ms (mid + 8) ≡ high - mid - 24))
        → PartsAre rows (with_rest (Some (record { place = low; size = mid - low }))) k
        (below ++ ((rest_part low mid ∷ free_parts mid high) ++ above))
    drawn_swap mid had least start cut most clear head =
        let r : Piece = record { place = low; size = mid - low } in
        let new = with_rest (Some r) in
        let none_old : (q : ℕ) → StartsAt (get_or h.rests i None) q → ⊥ =
        λ q s. let P : Option Piece → Type 0 = λ o. StartsAt o q in subst P had s in
        let end : low + (mid - low) ≡ mid = omega arith in
        let hole : hole_from (holes_of new k) low ≡ Some mid =
        ap (λ (hs : List (Option Piece)). hole_from hs low) (seen (Some r))
        ∙ hole_from-set_here h.rests i r thread alone ∙ ap (λ (q : ℕ). Some q) end in
        let up : mid ≤ high = elim cut [ inl l ↦ omega arith | inr l ↦ omega arith ] in
        let tail : Spells (sight rows new k) mid (free_parts mid high) high =
        left_spelled rows new k mid high cut start aligned (omega arith)
        (λ more. ap (λ (hs : List (Option Piece)). hole_from hs mid) (seen (Some r))
        ∙ hole_from-set_none h.rests i (Some r) mid (clear more) (λ same. omega arith)) head in
        run_swapped rows h new k low high below above (rest_part low mid ∷ free_parts mid high) walk under over aligned
        (record {
          shapes = shape;
          segments = refl;
          words = words;
          holes = λ q out. hole_apart (Some r) q (none_old q)
              (λ at. elim out [ inl l ↦ omega arith | inr l ↦ omega arith ]);
        }) (refl, hole, least, start, tail)
