-- The steps of a walk that rewrites the words of a segment.
use Rattle.std.proofs.Common.{◌≡◌, ◌⊎◌, inl, inr, ℕ, ◌+◌, ◌%◌, ◌<◌, ◌≤◌, false, ltb, List, [], ◌∷◌, ap, ap₂, sym, ◌∙◌}
use Rattle.std.proofs.Common.{subst, arith, Option, Some, None}
use Rattle.std.proofs.lemmas.Bool.{le-ltb}
use Rattle.clr_types.specs.Types.{TypeRow}
use Rattle.clr_types.specs.Ranges.{Piece}
use Rattle.clr_types.specs.declared.item.Item.{Item}
use Rattle.clr_heap.specs.Memories.{HasWord}
use Rattle.clr_heap.specs.Parts.{Among, Part, item_part, rest_part, hole_from, Sight, item_at, NamesItem, Spells, parts}
use Rattle.clr_heap.specs.View.{CanWalk, HeapView, holes_of, SameShape, sight, word_of}
use Rattle.clr_compact.specs.Rewrites.{IsRewriting, DoneBelow, Rewrites}
use Rattle.clr_heap.proofs.Rewrite.{holes_same, SameShape-refl}
use Rattle.clr_heap.proofs.Storing.{HasWord-shapes}
use Rattle.clr_heap.proofs.Spelling.{item_at-agrees, NamesItem-agrees, agree_from_same, Spells-le}
use Rattle.clr_heap.proofs.Walking.{walk_item, spelled_parts}
use Rattle.clr_compact.proofs.Rewriting.{done_more, done_none, done_all}

-- a write keeps the shape
-- the walk begins
pub rewriting_starts : (f : ℕ → ℕ → ℕ) (rows : List TypeRow) (k : ℕ) (h : HeapView) (p e : ℕ)
    → CanWalk (sight rows h k) h.memories p e → ((a : ℕ) → a + 8 < p → f a (word_of h a) ≡ word_of h a)
    → IsRewriting f rows k (parts e (sight rows h k) p e) h h p e
rewriting_starts f rows k h p e c before = record {
  shape = SameShape-refl h;
  walk = c;
  among = λ m there. there;
  done = done_none f (word_of h) p before;
}

-- what is known at an item that the walk comes to
pub record AtItem (f : ℕ → ℕ → ℕ) (rows : List TypeRow) (k : ℕ) (all : List Part) (old now : HeapView)
    (p e : ℕ) : Type 0 where
  pub names : NamesItem rows (word_of now) p
  pub same : item_at rows (word_of now) p ≡ item_at rows (word_of old) p
  pub mt : HasWord now.memories p
  pub len : HasWord now.memories (p + 8)
  pub among : Among all (item_part (item_at rows (word_of old) p))
  pub size : p + (item_at rows (word_of now) p).size ≤ e
  pub old_names : NamesItem rows (word_of old) p

pub first_among : (s : Sight) (ps : List Part) (p e : ℕ) → Spells s p ps e → p < e → hole_from s.holes p ≡ None
    → Among ps (item_part (item_at s.rows s.word p))
first_among s [] p e h k l = absurd (omega arith)
first_among s (item_part i ∷ ps) p e h k l = inl (ap item_part (sym h.1))
first_among s (rest_part lo to ∷ ps) p e h k l = let clash : None ≡ Some to = sym l ∙ h.1 in cc

pub rewriting_at : (f : ℕ → ℕ → ℕ) (rows : List TypeRow) (k : ℕ) (all : List Part) (old now : HeapView) (p e : ℕ)
    → IsRewriting f rows k all old now p e → p < e → hole_from (holes_of now k) p ≡ None
    → AtItem f rows k all old now p e
rewriting_at f rows k all old now p e r below l =
    let none : hole_from (holes_of old k) p ≡ None =
    ap (λ (hs : List (Option Piece)). hole_from hs p) (sym (holes_same old now k r.shape)) ∙ l in
    let step = walk_item (sight rows old k) old.memories p e r.walk below none in
    let z = r.walk.start in
    let late : ltb (p + 8) p ≡ false = le-ltb (p + 8) p (omega arith) in
    let later : ltb (p + 8 + 8) p ≡ false = le-ltb (p + 8 + 8) p (omega arith) in
    let first : word_of now p ≡ word_of old p = let d = r.done p z in rw late at d in
    let second : word_of now (p + 8) ≡ word_of old (p + 8) = let d = r.done (p + 8) (omega arith) in rw later at d in
    let s = sight rows old k in
    let w = word_of now in
    let head = agree_from_same s w p first second in
    let item_same = item_at-agrees rows (word_of old) w p head in
    record {
      names = NamesItem-agrees rows (word_of old) w p head step.names;
      same = item_same;
      mt = HasWord-shapes old.memories now.memories p r.shape.memories step.mt;
      len = HasWord-shapes old.memories now.memories (p + 8) r.shape.memories step.len;
      among = r.among _ (first_among s (parts e s p e) p e r.walk.spelled below none);
      size = rw item_same step.within;
      old_names = step.names;
    }

pub parts_item : (s : Sight) (ps : List Part) (p e : ℕ) → Spells s p ps e → p < e → hole_from s.holes p ≡ None
    → ps ≡ item_part (item_at s.rows s.word p) ∷ parts e s (p + (item_at s.rows s.word p).size) e
parts_item s [] p e h k l = absurd (omega arith)
parts_item s (item_part i ∷ ps) p e h k l =
    let P : Item → Type 0 = λ j. Spells s (p + j.size) ps e in
    ap₂ (λ (j : Item) (ts : List Part). item_part j ∷ ts) h.1
    (sym (spelled_parts s ps (p + (item_at s.rows s.word p).size) e (subst P h.1 h.3)))
parts_item s (rest_part lo to ∷ ps) p e h k l = let clash : None ≡ Some to = sym l ∙ h.1 in cc

-- the item at p has been rewritten
pub rewriting_item : (f : ℕ → ℕ → ℕ) (rows : List TypeRow) (k : ℕ) (all : List Part) (old now new : HeapView) (p e : ℕ)
    → IsRewriting f rows k all old now p e → p < e → hole_from (holes_of now k) p ≡ None
    → SameShape old new
    → ((a : ℕ) → a % 8 ≡ 0 → p ≤ a + 8 → a + 8 < p + (item_at rows (word_of old) p).size
    → word_of new a ≡ f a (word_of old a))
    → ((a : ℕ) → a % 8 ≡ 0 → (a + 8 < p) ⊎ (p + (item_at rows (word_of old) p).size ≤ a + 8)
    → word_of new a ≡ word_of now a)
    → IsRewriting f rows k all old new (p + (item_at rows (word_of old) p).size) e
rewriting_item f rows k all old now new p e r below l shape cell outside =
    let none : hole_from (holes_of old k) p ≡ None =
    ap (λ (hs : List (Option Piece)). hole_from hs p) (sym (holes_same old now k r.shape)) ∙ l in
    let s = sight rows old k in
    let step = walk_item s old.memories p e r.walk below none in
    let q = p + (item_at s.rows s.word p).size in
    let up : p ≤ q = omega arith in
    let cut = parts_item s (parts e s p e) p e r.walk.spelled below none in
    record {
      shape = shape;
      walk = step.walk;
      among = λ m later. r.among m (let P : List Part → Type 0 = λ ps. Among ps m in subst P (sym cut) (inr later));
      done = done_more f (word_of old) (word_of now) (word_of new) p q up r.done cell outside;
    }

-- the walk ends
pub rewriting_ends : (f : ℕ → ℕ → ℕ) (rows : List TypeRow) (k : ℕ) (all : List Part) (old now : HeapView) (p e : ℕ)
    → IsRewriting f rows k all old now p e → e ≤ p
    → ((a : ℕ) → e ≤ a + 8 → f a (word_of old a) ≡ word_of old a) → Rewrites f (word_of old) (word_of now)
rewriting_ends f rows k all old now p e r above past =
    let b = Spells-le (sight rows old k) (parts e (sight rows old k) p e) p e r.walk.spelled in
    let end : p ≡ e = omega arith in
    let P : ℕ → Type 0 = λ q. DoneBelow f (word_of old) (word_of now) q in
    done_all f (word_of old) (word_of now) e (subst P end r.done) past

-- the words ahead of the walk are as they were
pub rewriting_ahead : (f : ℕ → ℕ → ℕ) (rows : List TypeRow) (k : ℕ) (all : List Part) (old now : HeapView) (p e a : ℕ)
    → IsRewriting f rows k all old now p e → a % 8 ≡ 0 → p ≤ a + 8 → word_of now a ≡ word_of old a
rewriting_ahead f rows k all old now p e a r z l = let late = le-ltb (a + 8) p l in let d = r.done a z in rw late at d

-- a rewriting that keeps the heads keeps the parts of the segment
