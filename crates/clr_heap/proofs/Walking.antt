-- Steps of a walk.
use Rattle.std.proofs.Common.{◌≡◌, ℕ, ◌+◌, ◌%◌, ◌<◌, ◌≤◌, List, [], ◌∷◌, length, refl, ap, sym, ◌∙◌, subst, arith, Some}
use Rattle.std.proofs.Common.{None}
use Rattle.clr_mem.specs.Words.{Memory}
use Rattle.clr_types.specs.declared.item.Item.{Item}
use Rattle.clr_heap.specs.Memories.{memory_index}
use Rattle.clr_heap.specs.Parts.{Part, item_part, rest_part, items_in, hole_from, Sight, item_at, NamesItem, Spells}
use Rattle.clr_heap.specs.Parts.{parts}
use Rattle.clr_heap.specs.View.{AfterItem, CanWalk, items_between}
use Rattle.clr_heap.proofs.Spelling.{parts-Spells, Spells-le, item_size}

-- parts that are spelled are the parts
pub spelled_parts : (s : Sight) (ps : List Part) (p e : ℕ) → Spells s p ps e → parts e s p e ≡ ps
spelled_parts s ps p e h = parts-Spells s e ps p e h (omega arith)

pub CanWalk-from : (s : Sight) (ms : List Memory) (ps : List Part) (p e : ℕ) → p % 8 ≡ 0 → Spells s p ps e
    → ((a : ℕ) → a % 8 ≡ 0 → p ≤ a + 8 → a + 8 < e → memory_index ms a < length ms) → CanWalk s ms p e
CanWalk-from s ms ps p e z h held = record {
  start = z;
  spelled = rw (spelled_parts s ps p e h) h;
  held = held;
}

-- nothing is left at the end
done : (s : Sight) (ps : List Part) (p e : ℕ) → Spells s p ps e → e ≤ p → items_in ps ≡ []
done s [] p e h k = refl
done s (item_part i ∷ ps) p e h k =
    let f = item_size s i p h.1 h.2 in
    let l = Spells-le s ps (p + i.size) e h.3 in absurd (omega arith)
done s (rest_part lo hi ∷ ps) p e h k = let l = Spells-le s ps hi e h.4 in absurd (omega arith)

pub walk_done : (s : Sight) (ms : List Memory) (p e : ℕ) → CanWalk s ms p e → e ≤ p → items_between s p e ≡ []
walk_done s ms p e c k = done s (parts e s p e) p e c.spelled k

-- a hole is skipped
record HoleStep (s : Sight) (ps : List Part) (p hi e : ℕ) : Type 0 where
  tail : List Part
  items : items_in ps ≡ items_in tail
  spells : Spells s hi tail e
  higher : p + 24 ≤ hi
  whole : hi % 8 ≡ 0

hole_step : (s : Sight) (ps : List Part) (p hi e : ℕ) → Spells s p ps e → p < e → hole_from s.holes p ≡ Some hi
    → HoleStep s ps p hi e
hole_step s [] p hi e h k l = absurd (omega arith)
hole_step s (item_part i ∷ ps) p hi e h k l = let clash : None ≡ Some hi = sym h.0 ∙ l in cc
hole_step s (rest_part lo to ∷ ps) p hi e h k l =
    let same : Some to ≡ Some hi = sym h.1 ∙ l in
    let end : to ≡ hi = cc in
    let P : ℕ → Type 0 = λ q. Spells s q ps e in
    record {
      tail = ps;
      items = refl;
      spells = subst P end h.4;
      higher = omega arith;
      whole = sym (ap (λ (q : ℕ). q % 8) end) ∙ h.3;
    }

pub record AfterHole (s : Sight) (ms : List Memory) (p hi e : ℕ) : Type 0 where
  pub walk : CanWalk s ms hi e
  pub items : items_between s p e ≡ items_between s hi e
  pub higher : p < hi
  pub within : hi ≤ e

pub walk_hole : (s : Sight) (ms : List Memory) (p hi e : ℕ) → CanWalk s ms p e → p < e → hole_from s.holes p ≡ Some hi
    → AfterHole s ms p hi e
walk_hole s ms p hi e c k l =
    let t = hole_step s (parts e s p e) p hi e c.spelled k l in
    let b = t.higher in
    let w = Spells-le s t.tail hi e t.spells in
    record {
      walk = CanWalk-from s ms t.tail hi e t.whole t.spells (λ a z low high. c.held a z (omega arith) high);
      items = t.items ∙ sym (ap items_in (spelled_parts s t.tail hi e t.spells));
      higher = omega arith;
      within = w;
    }

-- an item is given
record ItemStep (s : Sight) (ps : List Part) (p e : ℕ) : Type 0 where
  tail : List Part
  items : items_in ps ≡ item_at s.rows s.word p ∷ items_in tail
  spells : Spells s (p + (item_at s.rows s.word p).size) tail e
  names : NamesItem s.rows s.word p

item_step : (s : Sight) (ps : List Part) (p e : ℕ) → Spells s p ps e → p < e → hole_from s.holes p ≡ None
    → ItemStep s ps p e
item_step s [] p e h k l = absurd (omega arith)
item_step s (item_part i ∷ ps) p e h k l =
    let P : Item → Type 0 = λ j. Spells s (p + j.size) ps e in
    record { tail = ps; items = ap (λ (j : Item). j ∷ items_in ps) h.1; spells = subst P h.1 h.3; names = h.2 }
item_step s (rest_part lo to ∷ ps) p e h k l = let clash : None ≡ Some to = sym l ∙ h.1 in cc

pub walk_item : (s : Sight) (ms : List Memory) (p e : ℕ) → CanWalk s ms p e → p < e → hole_from s.holes p ≡ None
    → AfterItem s ms p e
walk_item s ms p e c k l =
    let t = item_step s (parts e s p e) p e c.spelled k l in
    let n = t.names in
    let z = c.start in
    let w = Spells-le s t.tail (p + (item_at s.rows s.word p).size) e t.spells in
    record {
      names = n;
      walk = CanWalk-from s ms t.tail (p + (item_at s.rows s.word p).size) e (omega arith) t.spells
          (λ a z' low high. c.held a z' (omega arith) high);
      items = t.items ∙ ap (λ (js : List Item). item_at s.rows s.word p ∷ js)
          (sym (ap items_in (spelled_parts s t.tail (p + (item_at s.rows s.word p).size) e t.spells)));
      mt = record { aligned = z; inside = c.held p z (omega arith) (omega arith) };
      len = record { aligned = omega arith; inside = c.held (p + 8) (omega arith) (omega arith) (omega arith) };
      within = w;
    }

-- each item takes up room
length-items : (s : Sight) (ps : List Part) (p e : ℕ) → Spells s p ps e → length (items_in ps) + p ≤ e
length-items s [] p e h = omega arith
length-items s (item_part i ∷ ps) p e h =
    let f = item_size s i p h.1 h.2 in
    let ih = length-items s ps (p + i.size) e h.3 in
    omega arith
length-items s (rest_part lo hi ∷ ps) p e h = let ih = length-items s ps hi e h.4 in omega arith

pub few_items : (s : Sight) (ms : List Memory) (p e : ℕ) → CanWalk s ms p e → length (items_between s p e) ≤ e
few_items s ms p e c = let l = length-items s (parts e s p e) p e c.spelled in omega arith
