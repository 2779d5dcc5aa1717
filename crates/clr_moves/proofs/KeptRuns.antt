-- A run of marked items goes on where the words that name items stay.
use Rattle.std.proofs.Common.{◌≡◌, ◌⊎◌, inl, inr, ℕ, ◌+◌, ◌≤◌, true, List, [], ◌∷◌, ◌++◌, refl, ap, sym}
use Rattle.std.proofs.Common.{◌∙◌, subst, arith, None, Some, Option}
use Rattle.clr_mem.specs.Words.{Memory}
use Rattle.clr_types.specs.Ranges.{Piece}
use Rattle.clr_types.specs.Rising.{first, IsIn, later}
use Rattle.clr_types.specs.Types.{form_at, is_array, TypeRow}
use Rattle.clr_types.specs.declared.item.Item.{Item}
use Rattle.clr_types.proofs.RisingLists.{in_cons}
use Rattle.clr_heap.specs.Memories.{shapes}
use Rattle.clr_heap.specs.Parts.{hole_from, item_part, items_in, Part, parts, rest_part, Sight, Spells}
use Rattle.clr_heap.specs.Parts.{type_number, unmarked}
use Rattle.clr_heap.specs.View.{CanWalk, HeapView, holes_of, items_between, last_of, sight, word_of}
use Rattle.clr_heap.proofs.Spelling.{AgreesOn, item_size, Spells-agrees, Spells-le, with_words}
use Rattle.clr_heap.proofs.Storing.{length-shapes, memory_index-shapes}
use Rattle.clr_heap.proofs.Walking.{CanWalk-from, spelled_parts}
use Rattle.clr_view.specs.Marks.{has_mark}
use Rattle.clr_moves.specs.Told.{IsMarkedRun}

-- the words that name an item at p stay: the method table, and the length where the type has one
pub record HeadStays (rows : List TypeRow) (old new : ℕ → ℕ) (p : ℕ) : Type 0 where
  pub mt : new p ≡ old p
  pub len : is_array (form_at rows (type_number (old p))) ≡ true → new (p + 8) ≡ old (p + 8)

agrees_heads : (s : Sight) (w : ℕ → ℕ) (ps : List Part)
    → ((i : Item) → IsIn i (items_in ps) → HeadStays s.rows s.word w i.place) → AgreesOn s w ps
agrees_heads s w [] h = tt
agrees_heads s w (item_part i ∷ ps) h = (
  record { mt = ap unmarked (h i first).mt; len = (h i first).len },
  agrees_heads s w ps (λ j k. h j (later k)),
)
agrees_heads s w (rest_part low high ∷ ps) h = agrees_heads s w ps h

-- a walk over other words
record IsKeptWalk (s : Sight) (w : ℕ → ℕ) (ns : List Memory) (p e : ℕ) : Type 0 where
  walk : CanWalk (with_words s w) ns p e
  items : items_between (with_words s w) p e ≡ items_between s p e

kept_walk : (s : Sight) (w : ℕ → ℕ) (ms ns : List Memory) (p e : ℕ) → shapes ns ≡ shapes ms
    → AgreesOn s w (parts e s p e) → CanWalk s ms p e → IsKeptWalk s w ns p e
kept_walk s w ms ns p e shape agrees c =
    let spelled = Spells-agrees s w (parts e s p e) p e agrees c.spelled in
    record {
      walk = CanWalk-from (with_words s w) ns (parts e s p e) p e c.start spelled
          (λ a z low high. rw (memory_index-shapes ns ms a shape, length-shapes ns ms shape) (c.held a z low high));
      items = ap items_in (spelled_parts (with_words s w) (parts e s p e) p e spelled);
    }

-- ---- a run is the front of a walk that goes further

record IsFront (s : Sight) (ps qs : List Part) (q e : ℕ) : Type 0 where
  others : List Part
  are : qs ≡ ps ++ others
  spelled : Spells s q others e

front : (s : Sight) (ps qs : List Part) (p q e : ℕ) → ((x : ℕ) → hole_from s.holes x ≡ None) → Spells s p ps q
    → Spells s p qs e → q ≤ e → IsFront s ps qs q e
front s [] qs p q e none a b le =
    record { others = qs; are = refl; spelled = (let P : ℕ → Type 0 = λ n. Spells s n qs e in subst P a b) }
front s (item_part i ∷ ps) [] p q e none a b le =
    let size = item_size s i p a.1 a.2 in
    let up = Spells-le s ps (p + i.size) q a.3 in
    absurd (let least = size.0 in omega (arith, least, up, b, le))
front s (item_part i ∷ ps) (item_part j ∷ qs) p q e none a b le =
    let same : j ≡ i = b.1 ∙ sym a.1 in
    let P : Item → Type 0 = λ k. Spells s (p + k.size) qs e in
    let r = front s ps qs (p + i.size) q e none a.3 (subst P same b.3) le in
    record {
      others = r.others;
      are = ap (λ (k : Item). item_part k ∷ qs) same ∙ ap (λ (xs : List Part). item_part i ∷ xs) r.are;
      spelled = r.spelled;
    }
front s (item_part i ∷ ps) (rest_part low high ∷ qs) p q e none a b le =
    absurd (clash (hole_from s.holes p) high (none p) b.1) where
      clash : (o : Option ℕ) (n : ℕ) → o ≡ None → o ≡ Some n → ⊥
      clash o n x y = cc
front s (rest_part low high ∷ ps) qs p q e none a b le = absurd (clash (hole_from s.holes p) high (none p) a.1) where
  clash : (o : Option ℕ) (n : ℕ) → o ≡ None → o ≡ Some n → ⊥
  clash o n x y = cc

in_front : (ps qs : List Part) (i : Item) → IsIn i (items_in ps) → IsIn i (items_in (ps ++ qs))
in_front [] qs i k = elim k [ ]
in_front (item_part j ∷ ps) qs i k = elim (in_cons k) [
  | inl e ↦ (let P : Item → Type 0 = λ x. IsIn x (j ∷ items_in (ps ++ qs)) in subst P (sym e) first)
  | inr more ↦ later (in_front ps qs i more)
]
in_front (rest_part low high ∷ ps) qs i k = in_front ps qs i k

-- the item at which a run stops is among the walk's
at_stop : (s : Sight) (ps qs others : List Part) (q e : ℕ) → ((x : ℕ) → hole_from s.holes x ≡ None)
    → qs ≡ ps ++ others → Spells s q others e → (q ≡ e) ⊎ ((i : Item) × IsIn i (items_in qs) × (i.place ≡ q))
at_stop s ps qs [] q e none are h = inl h
at_stop s ps qs (item_part i ∷ others) q e none are h =
    let P : List Part → Type 0 = λ xs. IsIn i (items_in xs) in
    inr (i, subst P (sym are) (behind ps), (item_size s i q h.1 h.2).2) where
      behind : (ps : List Part) → IsIn i (items_in (ps ++ item_part i ∷ others))
      behind [] = first
      behind (item_part j ∷ ps) = later (behind ps)
      behind (rest_part low high ∷ ps) = behind ps
at_stop s ps qs (rest_part low high ∷ others) q e none are h =
    absurd (clash (hole_from s.holes q) high (none q) h.1) where
      clash : (o : Option ℕ) (n : ℕ) → o ≡ None → o ≡ Some n → ⊥
      clash o n x y = cc

-- ---- a run

pub run_kept : (rows : List TypeRow) (old now : HeapView) (t from last : ℕ) → last_of now t ≡ last_of old t
    → holes_of now t ≡ holes_of old t → shapes now.memories ≡ shapes old.memories
    → ((i : Item) → IsIn i (items_between (sight rows old t) from (last_of old t))
    → HeadStays rows (word_of old) (word_of now) i.place)
    → IsMarkedRun rows old t from last → IsMarkedRun rows now t from last
run_kept rows old now t from last end holes shape heads r =
    let s = sight rows old t in
    let w = word_of now in
    let e = last_of old t in
    let ps = parts last s from last in
    let qs = parts e s from e in
    let f = front s ps qs from last e r.none r.run.spelled r.walk.spelled r.ends in
    let P : List Part → Type 0 = λ xs. (i : Item) → IsIn i (items_in xs) → HeadStays rows s.word w i.place in
    let both : P (ps ++ f.others) = subst P f.are heads in
    let walk = kept_walk s w old.memories now.memories from e shape (agrees_heads s w qs heads) r.walk in
    let run = kept_walk s w old.memories now.memories from last shape
    (agrees_heads s w ps (λ i k. both i (in_front ps f.others i k))) r.run in
    let seen : sight rows now t ≡ with_words s w =
    ap (λ (hs : List (Option Piece)). record { rows = rows; word = w; holes = hs }) holes in
    let W : Sight → ℕ → Type 0 = λ v n. CanWalk v now.memories from n in
    let I : Sight → Type 0 = λ v. (i : Item) → IsIn i (items_between v from last) → has_mark (w i.place) ≡ true in
    let marked : I (with_words s w) = λ i k.
    (let Q : List Item → Type 0 = λ js. IsIn i js in
    let old_in = subst Q run.items k in
    ap has_mark (both i (in_front ps f.others i old_in)).mt ∙ r.marked i old_in) in
    let one = subst (λ (v : Sight). W v e) (sym seen) walk.walk in
    record {
      walk = subst (λ (n : ℕ). W (sight rows now t) n) (sym end) one;
      index = λ b low high. memory_index-shapes now.memories old.memories b shape
          ∙ r.index b low (omega (arith, high, end));
      none = λ q. ap (λ (hs : List (Option Piece)). hole_from hs q) holes ∙ r.none q;
      high = (let z = r.high in omega (arith, z, end));
      run = subst (λ (v : Sight). W v last) (sym seen) run.walk;
      ends = (let z = r.ends in omega (arith, z, end));
      marked = subst I (sym seen) marked;
      stops = elim r.stops [
        | inl is ↦ inl (is ∙ sym end)
        | inr off ↦ elim (at_stop s ps qs f.others last e r.none f.are f.spelled) [
          | inl is ↦ inl (is ∙ sym end)
          | inr (i, k, at) ↦
              let stay : w last ≡ word_of old last =
              subst (λ (n : ℕ). w n ≡ word_of old n) at (heads i k).mt in
              inr (ap has_mark stay ∙ off)
        ]
      ];
    }
