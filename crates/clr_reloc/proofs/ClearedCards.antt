-- Cards are cleared one after the other.
use Rattle.std.proofs.Common.{◌≡◌, ℕ, ◌+◌, ◌*◌, ◌/◌, ◌<◌, ◌≤◌, Bool, true, false, ◌==◌, ◌&&◌, not, List, length}
use Rattle.std.proofs.Common.{inl, inr, refl, ap, sym, ◌∙◌, subst, arith}
use Rattle.std.proofs.lemmas.Bool.{and_right, cases_Bool, cases_lt, eq-eqb}
use Rattle.clr_cards.specs.Cards.{is_card_set}
use Rattle.clr_covers.specs.Covers.{CoverView, spans}
use Rattle.clr_covers.proofs.Spans.{share_cover-spans}
use Rattle.clr_generations.specs.Tables.{AreCardsOf}
use Rattle.clr_heap.specs.View.{frame, HeapView, IsHeap, segment_at}
use Rattle.clr_heap.proofs.Framing.{lawful_at}
use Rattle.clr_scan.specs.SetCards.{AreClear}
use Rattle.clr_scan.proofs.TableLaws.{cards_have}
use Rattle.clr_types.specs.Segments.{reserved_end}
use Rattle.clr_types.specs.declared.segment.SegInfo.{SegInfo}
use Rattle.clr_reloc.specs.Clearing.{HaveCleared}
use Rattle.clr_reloc.specs.Scanning.{AreInRow}
use Rattle.clr_reloc.proofs.ClearCards.{was_clear}

-- what is clear already
pub cleared_before : (cards : List (CoverView ℕ)) (lo hi : ℕ) → AreClear (is_card_set cards) lo hi
    → HaveCleared cards cards lo hi
cleared_before cards lo hi clear = record { clear = clear; kept = λ i on. on; spans = refl }

-- nothing
pub cleared_none : (cards : List (CoverView ℕ)) (lo : ℕ) → HaveCleared cards cards lo lo
cleared_none cards lo = cleared_before cards lo lo (λ a low high. absurd (omega arith))

-- what is cleared stays so while more is
pub cleared_on : (old mid new : List (CoverView ℕ)) (lo hi : ℕ) → HaveCleared old mid lo hi
    → ((i : ℕ) → is_card_set new i ≡ true → is_card_set mid i ≡ true) → spans new ≡ spans mid
    → HaveCleared old new lo hi
cleared_on old mid new lo hi h kept same = record {
  clear = λ a low high. was_clear (is_card_set new) (is_card_set mid) kept (a / 2048) (h.clear a low high);
  kept = λ i on. h.kept i (kept i on);
  spans = same ∙ h.spans;
}

-- one stretch behind the other
pub cleared_both : (old mid new : List (CoverView ℕ)) (lo at hi : ℕ) → HaveCleared old mid lo at
    → HaveCleared mid new at hi → HaveCleared old new lo hi
cleared_both old mid new lo at hi h more = record {
  clear = λ a low high. elim (cases_lt a at) [
    | inl less ↦ (cleared_on old mid new lo at h more.kept more.spans).clear a low less
    | inr up ↦ more.clear a up high
  ];
  kept = λ i on. h.kept i (more.kept i on);
  spans = more.spans ∙ h.spans;
}

-- one card
pub cleared_card : (old new : List (CoverView ℕ)) (at next : ℕ)
    → ((i : ℕ) → is_card_set new i ≡ (not (i == at / 2048) && is_card_set old i)) → spans new ≡ spans old
    → next ≡ (at / 2048 + 1) * 2048 → HaveCleared old new at next
cleared_card old new at next told same is = record {
  clear = λ a low high.
      let here : a / 2048 ≡ at / 2048 = omega (arith, is, low, high) in
      told (a / 2048) ∙ ap (λ b. not b && is_card_set old (a / 2048)) (eq-eqb (a / 2048) (at / 2048) here);
  kept = λ i on. elim (cases_Bool (is_card_set old i)) [
    | inl set ↦ set
    | inr off ↦ off ∙ sym (told i ∙ and_right (not (i == at / 2048)) (is_card_set old i) off) ∙ on
  ];
  spans = same;
}

-- less of it
pub cleared_part : (old new : List (CoverView ℕ)) (lo at hi : ℕ) → HaveCleared old new lo at → hi ≤ at
    → HaveCleared old new lo hi
cleared_part old new lo at hi h less = record {
  clear = λ a low high. h.clear a low (omega arith);
  kept = h.kept;
  spans = h.spans;
}

-- stretches by number
pub cleared_more : (low high : ℕ → ℕ) (old mid new : List (CoverView ℕ)) (k : ℕ)
    → ((j : ℕ) → j < k → HaveCleared old mid (low j) (high j))
    → ((i : ℕ) → is_card_set mid i ≡ true → is_card_set old i ≡ true) → spans mid ≡ spans old
    → HaveCleared mid new (low k) (high k) → (j : ℕ) → j < k + 1 → HaveCleared old new (low j) (high j)
cleared_more low high old mid new k done kept same more j l = elim (cases_lt j k) [
  | inl less ↦ cleared_on old mid new (low j) (high j) (done j less) more.kept more.spans
  | inr up ↦
      let here : k ≡ j = omega arith in
      let last : HaveCleared old new (low k) (high k) =
      record { clear = more.clear; kept = λ i on. kept i (more.kept i on); spans = more.spans ∙ same } in
      subst (λ n. HaveCleared old new (low n) (high n)) here last
]

-- the cards of a segment lie in one row
pub in_row : (h : HeapView) (cards now : List (CoverView ℕ)) (k : ℕ) (s : SegInfo) → IsHeap h
    → AreCardsOf (frame h) cards → k < length h.segments → s ≡ segment_at h k → spans now ≡ spans cards
    → AreInRow now s.base (reserved_end s)
in_row h cards now k s heap of l is same =
    subst (λ (x : SegInfo). AreInRow now x.base (reserved_end x)) (sym is) (λ a b low_a high_a low_b high_b.
    let lawful = lawful_at h k heap l in
    let base = lawful.base in
    let reserved = lawful.reserved in
    share_cover-spans now cards (a / 2048) (b / 2048) same
    ∙ cards_have h cards heap of k l (a / 2048) (b / 2048) (omega (arith, base, reserved, low_a))
    (omega (arith, base, reserved, high_a)) (omega (arith, base, reserved, low_b))
    (omega (arith, base, reserved, high_b)))
