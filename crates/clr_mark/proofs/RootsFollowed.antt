-- A root that is followed at once: it is marked, and what its slots name waits.
use Rattle.std.proofs.Common.{◌≡◌, ◌⊎◌, inl, inr, ℕ, ◌+◌, true, false, List, ap, sym, ◌∙◌, subst}
use Rattle.clr_types.specs.Types.{TypeRow}
use Rattle.clr_heap.specs.Memories.{memory_index}
use Rattle.clr_heap.specs.Parts.{unmarked}
use Rattle.clr_heap.specs.View.{HeapView, stored, word_of}
use Rattle.clr_heap.proofs.Storing.{memory_index-shapes}
use Rattle.clr_model.specs.Reach.{starts}
use Rattle.clr_view.specs.Marks.{has_mark, Marked}
use Rattle.clr_view.specs.SlotValues.{StandsAt}
use Rattle.clr_mark.specs.Marks.{is_condemned_place, IsClosed, LeadsTo}
use Rattle.clr_mark.specs.Markings.{HasGrayed, HasReached, HasRooted}
use Rattle.clr_mark.specs.Waiting.{IsFollowed, IsGray, IsSettled, MarkerView}
use Rattle.clr_mark.proofs.Graying.{AfterMark, followed_on, leads_back, new_mark, object_word, reached-refl}
use Rattle.clr_mark.proofs.Graying.{reached-trans}
use Rattle.clr_mark.proofs.Held.{keeps_closed}
use Rattle.clr_mark.proofs.OneMark.{known_on}

-- nothing is to be done for a root that isn't condemned, or is marked
pub rooted-refl : (rows : List TypeRow) (g : ℕ) (h : HeapView) (root : ℕ)
    → (is_condemned_place h g root ≡ true → Marked rows h root) → HasRooted rows g h h root
rooted-refl rows g h root there = record {
  reached = reached-refl rows (LeadsTo rows h g)
      (λ y. Marked rows h y ⊎ ((y ≡ root) × (is_condemned_place h g root ≡ true))) h (λ x m. inl m);
  marked = there;
}

module _ (rows : List TypeRow) (h mid : HeapView) (m : MarkerView) (root : ℕ) (gray : IsGray rows h m)
    (a : AfterMark rows m.oldest h mid root) where
  -- what the root's mark leaves
  pub root_closed : IsClosed rows mid
  root_closed = keeps_closed rows h mid gray.closed.heap gray.closed.held a.remarked gray.closed.named

  module _ (new : HeapView) (now : MarkerView) (near : is_condemned_place h m.oldest root ≡ true)
      (p : HasGrayed rows mid new m now)
      (all : (y : ℕ) → LeadsTo rows mid m.oldest root y → Marked rows new y) where
    -- the root was marked, and is followed
    pub rooted_new : HasRooted rows m.oldest h new root
    rooted_new =
        let g = m.oldest in
        let heap = gray.closed.heap in
        let held = gray.closed.held in
        let start : ℕ → Type 0 = λ y. Marked rows h y ⊎ ((y ≡ root) × (is_condemned_place h g root ≡ true)) in
        let to_mid : HasReached rows (LeadsTo rows h g) start h mid = record {
          remarked = a.remarked;
          kept = a.kept;
          reached = λ x s. elim (a.only x s) [ inl e ↦ starts (inr e) | inr was ↦ starts (inl was) ];
        } in
        record {
          reached = reached-trans rows (LeadsTo rows h g) (LeadsTo rows mid g) start (Marked rows mid) h mid new heap
              held to_mid (leads_back rows h mid heap held a.remarked g) to_mid.reached p.marked;
          marked = λ n. p.marked.kept root (a.there n);
        }

    -- what was settled still is
    settled_root : (x : ℕ) → IsSettled rows h m x → IsSettled rows new now x
    settled_root x s = p.settled x (elim s [
      | inl waits ↦ inl waits
      | inr done ↦ inr (followed_on rows h mid gray.closed.heap gray.closed.held a.remarked m.oldest a.kept x done)
    ])

    -- the law of a marking holds again
    pub rooted_gray : IsGray rows new now
    rooted_gray =
        let closed = root_closed in
        let P : ℕ → Type 0 = λ g. IsFollowed rows new g root in
        let followed : IsFollowed rows new now.oldest root =
        subst P (sym p.oldest) (λ y n.
        all y (leads_back rows mid new closed.heap closed.held p.marked.remarked m.oldest root y n)) in
        record {
          closed = keeps_closed rows mid new closed.heap closed.held p.marked.remarked closed.named;
          stacked = known_on rows h new m now (λ x s. p.marked.kept x (a.kept x s)) gray.stacked p.stacked p.lowest;
          settled = λ x s. elim (p.fresh x s) [
            | inl was ↦ elim (a.only x was) [
              | inl e ↦
                  let Q : ℕ → Type 0 = λ b. IsSettled rows new now b in
                  subst Q (sym e.0) (inr followed)
              | inr before ↦ settled_root x (gray.settled x before)
            ]
            | inr done ↦ done
          ];
        }

-- the mark of a root
pub record RootMark (rows : List TypeRow) (g : ℕ) (h mid : HeapView) (root : ℕ) : Type 0 where
  pub after : AfterMark rows g h mid root
  pub word : unmarked (word_of h root) ≡ unmarked (word_of mid root)
  pub index : memory_index h.memories root ≡ memory_index mid.memories root

pub root_mark : (rows : List TypeRow) (h mid : HeapView) (m : MarkerView) (root word : ℕ) → IsGray rows h m
    → StandsAt rows h root → is_condemned_place h m.oldest root ≡ true → has_mark word ≡ false → word ≡ word_of h root
    → mid ≡ stored h root (word + 1) → RootMark rows m.oldest h mid root
root_mark rows h mid m root word gray stands near off is marked =
    let heap = gray.closed.heap in
    let held = gray.closed.held in
    let mark = new_mark rows h m.oldest root heap held stands near (ap has_mark (sym is) ∙ off) in
    let same : mid ≡ stored h root (word_of h root + 1) = marked ∙ ap (λ (w : ℕ). stored h root (w + 1)) is in
    let P : HeapView → Type 0 = λ x. AfterMark rows m.oldest h x root in
    let after = subst P (sym same) mark in
    record {
      after = after;
      word = elim (after.remarked.words root (object_word rows h m.oldest root heap held stands).aligned) [
        | inl e ↦ sym (ap unmarked e)
        | inr e ↦ sym e.1
      ];
      index = memory_index-shapes h.memories mid.memories root (sym after.remarked.shape.memories);
    }
