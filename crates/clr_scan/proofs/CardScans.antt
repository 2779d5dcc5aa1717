-- Parts of a marking that follow what older objects name.
use Rattle.std.proofs.Common.{◌≡◌, ◌≢◌, ◌⊎◌, ◌↔◌, inl, inr, ℕ, ◌^◌, ◌<◌, ◌≤◌, true, false, List, refl, ap, sym, ◌∙◌}
use Rattle.std.proofs.Common.{subst, arith}
use Rattle.std.proofs.lemmas.Bool.{cases_lt, le-leb, leb-true, lt-leb, true≢false}
use Rattle.clr_types.specs.Rising.{IsIn}
use Rattle.clr_types.specs.Segments.{generation, Layout}
use Rattle.clr_types.specs.Types.{TypeRow}
use Rattle.clr_types.specs.declared.item.Item.{Item}
use Rattle.clr_heap.specs.Memories.{HasWord, memory_index}
use Rattle.clr_heap.specs.View.{frame, heap_items, HeapView, IsHeap, word_of}
use Rattle.clr_model.specs.Reach.{Reach, SlotNames, starts}
use Rattle.clr_view.specs.View.{IsHeld, objects_in}
use Rattle.clr_view.specs.SlotValues.{IsObjectAt, StandsAt}
use Rattle.clr_view.specs.Marks.{Marked}
use Rattle.clr_view.proofs.Listed.{listed-known, listed-small}
use Rattle.clr_view.proofs.ObjectItems.{object-told}
use Rattle.clr_scan.specs.References.{IsNamedByOlder, IsQuiet, IsReferenceOf}
use Rattle.clr_scan.specs.Scans.{HasScanned, IsTraced}
use Rattle.clr_mark.specs.Marks.{is_condemned_place, IsClosed, IsRemarked, LeadsTo}
use Rattle.clr_mark.specs.Markings.{HasMarked}
use Rattle.clr_mark.specs.Waiting.{MarkerView}
use Rattle.clr_mark.proofs.Graying.{leads_back, reach_bind, same_condemned}
use Rattle.clr_mark.proofs.Held.{remarked-refl, remarked-trans}
use Rattle.clr_mark.proofs.References.{reference_apart, reference_has, reference_in, reference_index, reference_low}
use Rattle.clr_mark.proofs.References.{refers_to}
use Rattle.clr_mark.proofs.Remarking.{cell_word, keeps_items, same_frame}
use Rattle.clr_view.proofs.Standing.{InCell}

-- ---- generations

pub condemned-most : (h : HeapView) (g x : ℕ) → is_condemned_place h g x ≡ true → generation (frame h) x ≤ g
unfolding is_condemned_place
condemned-most h g x e = leb-true (generation (frame h) x) g e

pub older-above : (h : HeapView) (g x : ℕ) → is_condemned_place h g x ≡ false → g < generation (frame h) x
unfolding is_condemned_place
older-above h g x e = elim (cases_lt g (generation (frame h) x))
    [ inl l ↦ l | inr m ↦ absurd (true≢false (sym (le-leb (generation (frame h) x) g m) ∙ e)) ]

pub spared-above : (h : HeapView) (g x : ℕ) → g < generation (frame h) x → is_condemned_place h g x ≡ false
unfolding is_condemned_place
spared-above h g x l = lt-leb (generation (frame h) x) g l

-- what is of no lower generation than an older object, isn't condemned
pub quiet-spared : (h : HeapView) (g age a : ℕ) → g < age → IsQuiet h age a → word_of h a ≢ 0
    → is_condemned_place h g (word_of h a) ≡ false
quiet-spared h g age a order quiet ne = elim (cases_lt (generation (frame h) (word_of h a)) age)
    [ inl less ↦ absurd (quiet ne less) | inr more ↦ spared-above h g (word_of h a) (omega arith) ]

-- ---- a reference

module _ (rows : List TypeRow) (h : HeapView) (g : IsClosed rows h) (i : Item) (listed : IsIn i (heap_items rows h))
    (a : ℕ) (r : IsReferenceOf rows i a) where
  is_at : IsObjectAt rows h i.place i
  is_at = record {
    listed = listed;
    object = r.object;
    at = refl;
    named = object-told rows h g.heap g.held i listed r.object;
    known = listed-known rows h i g.heap g.held listed;
    small = listed-small rows h i g.heap g.held listed;
  }

  pub ref_has : HasWord h.memories a
  ref_has = subst (HasWord h.memories) (sym r.address)
      (reference_has rows h g.heap g.held i.place i listed refl r.offset r.reference)

  pub ref_index : memory_index h.memories i.place ≡ memory_index h.memories a
  ref_index = reference_index rows h g.heap g.held i.place i listed refl r.offset r.reference
      ∙ ap (memory_index h.memories) (sym r.address)

  pub ref_names : word_of h a ≢ 0 → SlotNames (objects_in rows h) i.place (word_of h a)
  ref_names ne = subst (λ n. SlotNames (objects_in rows h) i.place (word_of h n)) (sym r.address)
      (refers_to rows h g.heap g.held i.place i is_at r.offset r.reference (λ e. ne (ap (word_of h) r.address ∙ e)))

  pub ref_stands : word_of h a ≢ 0 → StandsAt rows h (word_of h a)
  ref_stands ne = g.named i.place (word_of h a) (ref_names ne)

  pub ref_cell : InCell i a
  ref_cell = subst (InCell i) (sym r.address)
      (reference_in rows h g.heap g.held i.place i listed refl r.offset r.reference)

  pub ref_apart : a ≢ i.place
  ref_apart e = reference_apart rows h g.heap g.held i.place i listed refl r.offset r.reference (sym r.address ∙ e)

  pub ref_low : a < 2 ^ 64
  ref_low = let l = reference_low rows h g.heap g.held i.place i listed refl r.offset r.reference in let at =
      r.address in omega (arith, l, at)

  -- its word stays where marks alone change
  pub ref_word : (now : HeapView) → IsRemarked rows h now → word_of now a ≡ word_of h a
  ref_word now q = cell_word rows h now g.heap g.held q i a listed ref_cell ref_apart

  -- what an older object names
  pub ref_older : (e : ℕ) → is_condemned_place h e i.place ≡ false → word_of h a ≢ 0
      → is_condemned_place h e (word_of h a) ≡ true → IsNamedByOlder rows h e (word_of h a)
  ref_older e old ne near = record
      { by = i.place; older = old; leads = record { named = ref_names ne; condemned = near } }

-- ---- parts of a marking

-- what is marked before, and what older objects name
abbrev pub IsScanStart : List TypeRow → HeapView → ℕ → ℕ → Type 0
IsScanStart rows h g y = Marked rows h y ⊎ IsNamedByOlder rows h g y

pub scanned-refl : (rows : List TypeRow) (h : HeapView) (m : MarkerView) → HasScanned rows h h m m
scanned-refl rows h m = record {
  remarked = remarked-refl rows h;
  kept = λ x s. s;
  reached = λ x s. starts (inl s);
  capacity = refl;
  oldest =
      refl;
}

-- what an older object named, it still names
pub older-back : (rows : List TypeRow) (a b : HeapView) (g y : ℕ) → IsHeap a → IsHeld rows a → IsRemarked rows a b
    → IsNamedByOlder rows b g y → IsNamedByOlder rows a g y
older-back rows a b g y heap held r n =
    record {
      by = n.by;
      older = sym (same_condemned rows a b g n.by r)
          ∙ n.older;
      leads = leads_back rows a b heap held r g n.by y n.leads;
    }

pub scanned-trans : (rows : List TypeRow) (a b c : HeapView) (m n o : MarkerView) → IsHeap a → IsHeld rows a
    → HasScanned rows a b m n → HasScanned rows b c n o → HasScanned rows a c m o
scanned-trans rows a b c m n o heap held p q =
    let g = m.oldest in
    let P : ℕ → Type 0 = λ e. (x : ℕ) → Marked rows c x → Reach (LeadsTo rows b e) (IsScanStart rows b e) x in
    let later_part = subst P p.oldest q.reached in
    record {
      remarked = remarked-trans rows a b c heap held p.remarked q.remarked;
      kept = λ x s. q.kept x (p.kept x s);
      reached = λ x s. reach_bind (LeadsTo rows a g) (LeadsTo rows b g) (IsScanStart rows a g) (IsScanStart rows b g)
          x (leads_back rows a b heap held p.remarked g) (λ y t. elim t [
            | inl was ↦ p.reached y was
            | inr named ↦ starts (inr (older-back rows a b g y heap held p.remarked named))
          ]) (later_part x s);
      capacity = q.capacity ∙ p.capacity;
      oldest = q.oldest ∙ p.oldest;
    }

-- a root that an older object names, and then perhaps what is reached
pub scanned-root : (rows : List TypeRow) (h mid new : HeapView) (m n o : MarkerView) (y : ℕ) → IsHeap h
    → IsHeld rows h → (is_condemned_place h m.oldest y ≡ true → IsNamedByOlder rows h m.oldest y)
    → IsRemarked rows h mid
    → ((x : ℕ) → Marked rows mid x ↔ (((x ≡ y) × (is_condemned_place h m.oldest y ≡ true)) ⊎ Marked rows h x))
    → n.oldest ≡ m.oldest → n.capacity ≡ m.capacity
    → HasMarked rows n.oldest mid new → o.capacity ≡ n.capacity → o.oldest ≡ n.oldest → HasScanned rows h new m o
scanned-root rows h mid new m n o y heap held named words only oldest capacity drained c d =
    let g = m.oldest in
    let P : ℕ → Type 0 = λ b. HasMarked rows b mid new in
    let more = subst P oldest drained in
    record {
      remarked = remarked-trans rows h mid new heap held words more.remarked;
      kept = λ x s. more.kept x ((only x).1 (inr s));
      reached = λ x s. reach_bind (LeadsTo rows h g) (LeadsTo rows mid g) (IsScanStart rows h g) (Marked rows mid) x
          (leads_back rows h mid heap held words g) (λ z t. elim ((only z).0 t) [
            | inl is ↦
                let Q : ℕ → Type 0 = λ b. Reach (LeadsTo rows h g) (IsScanStart rows h g) b in
                subst Q (sym is.0) (starts (inr (named is.1)))
            | inr was ↦ starts (inl was)
          ]) (more.reached x s);
      capacity = c ∙ capacity;
      oldest = d ∙ oldest;
    }

-- what was followed stays so
pub traced-on : (old : HeapView) (rows : List TypeRow) (now new : HeapView) (g a : ℕ)
    → ((x : ℕ) → Marked rows now x → Marked rows new x) → IsTraced old rows now g a → IsTraced old rows new g a
traced-on old rows now new g a kept t ne near = kept (word_of old a) (t ne near)

-- what was followed on the way, was followed from the start
pub traced-from : (old : HeapView) (rows : List TypeRow) (now new : HeapView) (m n : MarkerView) (a : ℕ)
    → HasScanned rows old now m n → word_of now a ≡ word_of old a → IsTraced now rows new n.oldest a
    → IsTraced old rows new m.oldest a
traced-from old rows now new m n a s same t ne near =
    subst (Marked rows new) same (t (λ e. ne (sym same ∙ e)) (ap (λ (w : ℕ). is_condemned_place now n.oldest w) same
    ∙ ap (λ (g : ℕ). is_condemned_place now g (word_of old a)) s.oldest
    ∙ same_condemned rows old now m.oldest (word_of old a) s.remarked ∙ near))

-- items and generations stay
pub listed-on : (rows : List TypeRow) (h now : HeapView) (i : Item) → IsHeap h → IsHeld rows h → IsRemarked rows h now
    → IsIn i (heap_items rows h) → IsIn i (heap_items rows now)
listed-on rows h now i heap held r l =
    subst (λ (is : List Item). IsIn i is) (sym (keeps_items rows h now heap held r)) l

pub same-age : (rows : List TypeRow) (h now : HeapView) (x : ℕ) → IsRemarked rows h now
    → generation (frame now) x ≡ generation (frame h) x
same-age rows h now x r = ap (λ (l : Layout). generation l x) (same_frame h now r.shape)
