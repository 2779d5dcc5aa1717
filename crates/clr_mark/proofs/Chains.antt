-- Chains of objects, of which each names the next: what is marked on the way.
use Rattle.std.proofs.Common.{◌≡◌, ◌≢◌, ◌⊎◌, inl, inr, ℕ, ◌+◌, ◌*◌, ◌/◌, ◌%◌, ◌^◌, ◌<◌, ◌≤◌, true, false, List, []}
use Rattle.std.proofs.Common.{◌∷◌, ◌++◌, refl, ap, sym, ◌∙◌, subst, arith, length, if◌then◌else◌, nat_eq}
use Rattle.std.proofs.lemmas.Bool.{cases_eq, eq-eqb, eqb-false, ne_eqb}
use Rattle.clr_types.specs.Descriptors.{offsets_from}
use Rattle.clr_types.specs.Rising.{IsIn}
use Rattle.clr_types.specs.Types.{TypeRow}
use Rattle.clr_types.specs.declared.descriptors.ReferenceRun.{ReferenceRun}
use Rattle.clr_types.proofs.RisingLists.{in_cons}
use Rattle.clr_heap.specs.Memories.{HasWord, memory_index}
use Rattle.clr_heap.specs.Parts.{unmarked}
use Rattle.clr_heap.specs.View.{HeapView, stored, word_of}
use Rattle.clr_model.specs.Reach.{follows, SlotNames, starts}
use Rattle.clr_view.specs.View.{objects_in}
use Rattle.clr_view.specs.Marks.{has_mark, Marked}
use Rattle.clr_mark.specs.Marks.{is_condemned_place, IsClosed, IsRemarked, LeadsTo, with_mark}
use Rattle.clr_mark.specs.Markings.{HasGrayed, HasMet, IsMet, references_at, unmarked_count, with_target}
use Rattle.clr_mark.specs.Waiting.{IsFollowed, MarkerView, with_waiting}
use Rattle.clr_mark.proofs.Counting.{unmarked_lt}
use Rattle.clr_mark.proofs.Gathering.{gathering_ends, gathering_next, gathering_starts, IsGathering}
use Rattle.clr_mark.proofs.Graying.{followed_on, has_marked-refl, leads_back, leads_on, new_mark}
use Rattle.clr_mark.proofs.Held.{remarked-refl}
use Rattle.clr_mark.proofs.Laws.{after_gray, AfterGray, grayed-more, grayed-refl}
use Rattle.clr_mark.proofs.Meeting.{closed_on, grayed_from_met, met-trans}
use Rattle.clr_mark.proofs.RunReferences.{can_follow_run}

-- ---- words without a mark

pub unmarked_bare : (w : ℕ) → has_mark (unmarked w) ≡ false
unmarked_bare w = ne_eqb (unmarked w % 2) 1 (λ e. omega arith)

pub bare_word : (w : ℕ) → has_mark w ≡ false → unmarked w ≡ w
bare_word w off = let even = eqb-false (w % 2) 1 off in omega (arith, even)

-- ---- one reference

-- what is a null reference, or one
one_target : (t : ℕ) → t ≢ 0 → with_target [] t ≡ t ∷ []
one_target t some = rw (ne_eqb t 0 some) refl

module _ (rows : List TypeRow) (h : HeapView) (x : ℕ) (run : ReferenceRun) (w : IsClosed rows h) (o : Marked rows h x)
    (all : references_at rows h x ≡ offsets_from run.offset run.count) (single : run.count ≡ 1) where
  -- the word of the only reference of an object can be read
  pub record CanReadOnly : Type 0 where
    pub slot : HasWord h.memories (x + run.offset)
    pub segment : memory_index h.memories x ≡ memory_index h.memories (x + run.offset)
    pub fits : x + run.offset < 2 ^ 64
    pub listed : IsIn run.offset (references_at rows h x)
    pub only : run.offset ∷ [] ≡ references_at rows h x

  pub can_read_only : CanReadOnly
  can_read_only =
      let can = can_follow_run rows h h x run 0 w o (remarked-refl rows h) all (omega (arith, single)) in
      let e : x + run.offset + 8 * 0 ≡ x + run.offset = omega arith in
      let f : run.offset + 8 * 0 ≡ run.offset = omega arith in
      let fits = can.fits in
      record {
        slot = subst (HasWord h.memories) e can.slot;
        segment = can.segment ∙ ap (memory_index h.memories) e;
        fits = omega (arith, fits);
        listed = let P : ℕ → Type 0 = λ n. IsIn n (references_at rows h x) in subst P f can.listed;
        only = sym (ap (offsets_from run.offset) single) ∙ sym all;
      }

  gathers_only : (t : ℕ) → t ≡ word_of h (x + run.offset)
      → IsGathering rows h x [] (with_target [] t) (run.offset ∷ [])
  gathers_only t is = gathering_next rows h x w o [] [] [] run.offset t (gathering_starts rows h x [])
      can_read_only.listed is

  -- it is all that the object names
  pub only_named : (t : ℕ) → t ≡ word_of h (x + run.offset) → (y : ℕ) → IsIn y (with_target [] t)
      → SlotNames (objects_in rows h) x y
  only_named t is y i = elim ((gathers_only t is).only y i) [ inl none ↦ elim none [ ] | inr named ↦ named ]

  pub named_only : (t : ℕ) → t ≡ word_of h (x + run.offset) → (y : ℕ) → SlotNames (objects_in rows h) x y
      → IsIn y (with_target [] t)
  named_only t is = gathering_ends rows h x w o [] (with_target [] t) (run.offset ∷ []) (gathers_only t is)
      can_read_only.only

-- ---- one object that is met, and waits where its mark is new

module _ (rows : List TypeRow) (h : HeapView) (m : MarkerView) (y : ℕ) (w : IsClosed rows h) (t : IsMet rows h y) where
  a : AfterGray rows h (with_mark h m.oldest y) m (with_waiting h m y) y
  a = after_gray rows h m y w.heap w.held (w.named t.by y t.named)

  waits_grayed : HasGrayed rows h (with_mark h m.oldest y) m (with_waiting h m y)
  waits_grayed = grayed-more rows h h (with_mark h m.oldest y) m m (with_waiting h m y) y w.heap w.held w.heap w.held
      (grayed-refl rows h m) a (λ near. follows (starts t.marked) (record { named = t.named; condemned = near }))

  module _ (new : HeapView) (now : MarkerView) (e : new ≡ with_mark h m.oldest y) (f : now ≡ with_waiting h m y) where
    pub waiting_grayed : HasGrayed rows h new m now
    waiting_grayed = rw (e, f) waits_grayed

    pub waiting_marked : is_condemned_place h m.oldest y ≡ true → Marked rows new y
    waiting_marked near = let P : HeapView → Type 0 = λ k. Marked rows k y in subst P (sym e) (a.marked.there near)

-- a new mark leaves fewer objects without one
pub fewer_unmarked : (rows : List TypeRow) (h new : HeapView) (g y : ℕ) → IsClosed rows h → IsMet rows h y
    → is_condemned_place h g y ≡ true → has_mark (word_of h y) ≡ false → new ≡ stored h y (word_of h y + 1)
    → unmarked_count rows new < unmarked_count rows h
fewer_unmarked rows h new g y w t near off e =
    let stands = w.named t.by y t.named in
    let mark = new_mark rows h g y w.heap w.held stands near off in
    let less = unmarked_lt rows h (stored h y (word_of h y + 1)) w.heap w.held mark.remarked mark.kept y stands off
    (mark.there near).mark in
    let P : HeapView → Type 0 = λ k. unmarked_count rows k < unmarked_count rows h in
    subst P (sym e) (omega (arith, less))

-- ---- a chain

-- Marks were added behind the object at x, of which all is followed but what these targets lead to.
pub record IsChained (rows : List TypeRow) (h now : HeapView) (m n : MarkerView) (x : ℕ) (targets : List ℕ) : Type
    0 where
  pub met : HasMet rows h now m n [] targets
  pub own : IsFollowed rows now m.oldest x ⊎ ((y : ℕ) → SlotNames (objects_in rows now) x y → IsIn y targets)

pub chain_starts : (rows : List TypeRow) (h : HeapView) (m : MarkerView) (x : ℕ) (targets : List ℕ) → Marked rows h x
    → ((y : ℕ) → IsIn y targets → SlotNames (objects_in rows h) x y)
    → ((y : ℕ) → SlotNames (objects_in rows h) x y → IsIn y targets) → IsChained rows h h m m x targets
chain_starts rows h m x targets o only all = record {
  met = record {
    marked = has_marked-refl rows m.oldest h;
    handled = λ z s. elim s [ inl settled ↦ inl settled | inr named ↦ inr (λ y e. elim (named y e) [ ]) ];
    fresh = λ z s. inl s;
    met = λ y i. inr (record { by = x; marked = o; named = only y i });
    stacked = λ z i. inl i;
    lowest = λ z i. inl i;
    spent = omega arith;
    lighter = omega arith;
    capacity = refl;
    oldest = refl;
  };
  own = inr all;
}

-- where something is left
pub chain_at : (rows : List TypeRow) (h now : HeapView) (m n : MarkerView) (x t : ℕ) → t ≢ 0
    → IsChained rows h now m n x (with_target [] t) → IsChained rows h now m n x (t ∷ [])
chain_at rows h now m n x t some = subst (IsChained rows h now m n x) (one_target t some)

module _ (rows : List TypeRow) (h now new : HeapView) (m n : MarkerView) (x t : ℕ) (w : IsClosed rows h)
    (s : IsChained rows h now m n x (t ∷ [])) (r : IsRemarked rows now new)
    (there : is_condemned_place now n.oldest t ≡ true → Marked rows new t) where
  w_now : IsClosed rows now
  w_now = closed_on rows h now m n (t ∷ []) w s.met

  -- what names the target alone is followed once that is marked
  follow_target : (g z : ℕ) → n.oldest ≡ g → ((y : ℕ) → SlotNames (objects_in rows now) z y → IsIn y (t ∷ []))
      → IsFollowed rows new g z
  follow_target g z same named y e =
      let l = leads_back rows now new w_now.heap w_now.held r g z y e in
      let P : ℕ → Type 0 = λ b. is_condemned_place now b y ≡ true in
      let Q : ℕ → Type 0 = λ b. is_condemned_place now n.oldest b ≡ true → Marked rows new b in
      elim (in_cons (named y l.named)) [
        | inl is ↦ subst Q (sym is) there (subst P (sym same) l.condemned)
        | inr none ↦ elim none [ ]
      ]

  -- so it is spent
  target_spent : (o : MarkerView) (more : List ℕ) → HasMet rows now new n o [] more
      → HasMet rows now new n o (t ∷ []) more
  target_spent o more p = record {
    marked = p.marked;
    handled = λ z s. elim s [
      | inl settled ↦ p.handled z (inl settled)
      | inr named ↦ inl (inr (follow_target o.oldest z (sym p.oldest) named))
    ];
    fresh = p.fresh;
    met = λ y i. elim (p.met y i) [ inl none ↦ elim none [ ] | inr met ↦ inr met ];
    stacked = p.stacked;
    lowest = p.lowest;
    spent = p.spent;
    lighter = p.lighter;
    capacity = p.capacity;
    oldest = p.oldest;
  }

  pub chain_next : (o : MarkerView) (more : List ℕ) → HasMet rows now new n o [] more
      → IsChained rows h new m o x more
  chain_next o more p = record {
    met = met-trans rows h now new m n o [] (t ∷ []) more w.heap w.held s.met (target_spent o more p);
    own = elim s.own [
      | inl all ↦ inl (followed_on rows now new w_now.heap w_now.held r m.oldest p.marked.kept x all)
      | inr named ↦ inl (follow_target m.oldest x s.met.oldest named)
    ];
  }

-- nothing is left to be followed
module _ (rows : List TypeRow) (h now : HeapView) (m n : MarkerView) (x : ℕ) (w : IsClosed rows h)
    (s : IsChained rows h now m n x []) where
  pub chain_grayed : HasGrayed rows h now m n
  chain_grayed = grayed_from_met rows h now m n s.met

  pub chain_followed : (y : ℕ) → LeadsTo rows h m.oldest x y → Marked rows now y
  chain_followed y e =
      let r = s.met.marked.remarked in
      let l = leads_on rows h now w.heap w.held r m.oldest x y e in
      elim s.own [ inl all ↦ all y l | inr named ↦ elim (named y l.named) [ ] ]

-- how many links are left at most: each marks an object, or is the last one
abbrev pub links_left : List TypeRow → HeapView → MarkerView → ℕ → ℕ
links_left rows h m t = length m.stack + unmarked_count rows h + (if nat_eq t 0 then 0 else 1)

pub fewer_links : (rows : List TypeRow) (now new : HeapView) (n o : MarkerView) (t next : ℕ) → t ≢ 0
    → length o.stack + unmarked_count rows new ≤ length n.stack + unmarked_count rows now → (next ≢ 0 → o ≡ n)
    → (next ≢ 0 → unmarked_count rows new < unmarked_count rows now)
    → links_left rows new o next < links_left rows now n t
fewer_links rows now new n o t next some spent stack fewer = elim (cases_eq next 0) [
  | inl last ↦ rw (ne_eqb t 0 some, eq-eqb next 0 last) (omega (arith, spent))
  | inr more ↦
      let less = fewer more in
      let same = ap (λ (k : MarkerView). length k.stack) (stack more) in
      rw (ne_eqb t 0 some, ne_eqb next 0 more) (omega (arith, less, same))
]
