-- A cursor's steps.
use Rattle.std.proofs.Common.{◌≡◌, ◌≢◌, inl, inr, ℕ, zero, suc, ◌+◌, ◌/◌, ◌<◌, ◌≤◌, List, [], ◌∷◌, ◌++◌, length, take}
use Rattle.std.proofs.Common.{drop, get_or, refl, ap, sym, ◌∙◌, subst, arith}
use Rattle.std.proofs.Common.{◌&&◌, leb, ltb, false}
use Rattle.std.proofs.lemmas.Bool.{cases_Bool, cases_lt, leb-true, ltb-true}
use Rattle.std.proofs.lemmas.List.{drop_more, get_or-take, length-take-le}
use Rattle.clr_heap.specs.View.{HeapView, word_of}
use Rattle.clr_plugs.specs.BrickEntries.{BricksView}
use Rattle.clr_plugs.specs.Builders.{places_from}
use Rattle.clr_plugs.specs.Cursors.{ahead, AreLeft, CursorView, starts_between, TellLeft}
use Rattle.clr_plugs.specs.Plans.{IsPart, PlannedPart, plug_starts}

-- the same is ahead of the cursor as before, and it can go on
pub record IsStepping (h : HeapView) (bricks : BricksView) (old now : CursorView) : Type 0 where
  pub left : AreLeft h bricks now.brick now.past
  pub same : (part : PlannedPart) → IsPart h part → TellLeft (word_of h) bricks part old.brick old.past
      → ahead now (plug_starts part.plugs) ≡ ahead old (plug_starts part.plugs)
  pub brick : old.brick ≤ now.brick
  pub past : now.past ≡ old.past

pub steps_begin : (h : HeapView) (bricks : BricksView) (c : CursorView) → AreLeft h bricks c.brick c.past
    → IsStepping h bricks c c
steps_begin h bricks c left = record { left = left; same = λ part lies tell. refl; brick = omega arith; past = refl }

-- what is told from one brick on is told from a later one on
pub later_left : (h : HeapView) (bricks : BricksView) (brick other past : ℕ) → brick ≤ other
    → AreLeft h bricks brick past → AreLeft h bricks other past
later_left h bricks brick other past le left = record {
  part = left.part;
  lies = left.lies;
  covered = λ i low high. left.covered i (omega (arith, le, low)) high;
  tell = λ i low high. left.tell i (omega (arith, le, low)) high;
  fits = left.fits;
}

-- the plugs of some bricks are read
pub steps_on : (h : HeapView) (bricks : BricksView) (old now next : CursorView) → IsStepping h bricks old now
    → ((part : PlannedPart) → IsPart h part → TellLeft (word_of h) bricks part now.brick now.past
    → ahead next (plug_starts part.plugs) ≡ ahead now (plug_starts part.plugs)) → now.brick < next.brick
    → next.past ≡ now.past → IsStepping h bricks old next
steps_on h bricks old now next s same brick past =
    let low = s.brick in
    let P : ℕ → Type 0 = λ n. AreLeft h bricks next.brick n in
    record {
      left = subst P (sym past) (later_left h bricks now.brick next.brick now.past (omega (arith, brick)) s.left);
      same = λ part lies tell.
          let ends = s.past in
          same part lies (λ i from to. tell i (omega (arith, from, low)) (omega (arith, to, ends)))
          ∙ s.same part lies tell;
      brick = omega (arith, low, brick);
      past = past ∙ s.past;
    }

-- nothing is at hand at the last offset
pub none_at_hand : (base at count : ℕ) (offsets : List ℕ) → at ≡ count → count ≤ length offsets
    → places_from base (drop at (take count offsets)) ≡ []
none_at_hand base at count offsets same within =
    let len = length-take-le count offsets within in
    ap (places_from base) (drop_end at (take count offsets) (omega (arith, len, same)))
  where
    drop_end : (n : ℕ) (xs : List ℕ) → length xs ≤ n → drop n xs ≡ []
    drop_end n xs h = go n xs h where
      go : (n : ℕ) (xs : List ℕ) → length xs ≤ n → drop n xs ≡ []
      go zero [] h = refl
      go (suc n) [] h = refl
      go zero (x ∷ xs) h = absurd (omega (arith, h))
      go (suc n) (x ∷ xs) h = go n xs (omega (arith, h))

-- the next offset at hand
pub first_at_hand : (base at count : ℕ) (offsets : List ℕ) → at < count → count ≤ length offsets
    → places_from base (drop at (take count offsets))
    ≡ (base + get_or offsets at 0) ∷ places_from base (drop (at + 1) (take count offsets))
first_at_hand base at count offsets less within =
    let len = length-take-le count offsets within in
    ap (places_from base) (drop_more (take count offsets) at 0 (omega (arith, len, less)))
    ∙ ap (λ (x : ℕ). (base + x) ∷ places_from base (drop (at + 1) (take count offsets)))
    (get_or-take count offsets at 0 less)

-- no brick is left
pub none_ahead : (brick past : ℕ) (starts : List ℕ) → past ≤ brick → starts_between brick past starts ≡ []
none_ahead brick past [] le = refl
none_ahead brick past (x ∷ xs) le = rw (outside brick past x le) (none_ahead brick past xs le)
  where
    outside : (b p x : ℕ) → p ≤ b → (leb b (x / 4096) && ltb (x / 4096) p) ≡ false
    outside b p x le = elim (cases_Bool (leb b (x / 4096))) [
      | inl up ↦ elim (cases_Bool (ltb (x / 4096) p)) [
        | inl down ↦ let u = leb-true b (x / 4096) up in let d = ltb-true (x / 4096) p down in
            absurd (omega (arith, u, d, le))
        | inr off ↦ rw (up, off) refl
      ]
      | inr off ↦ rw off refl
    ]

-- at the end nothing is ahead
pub at_end : (h : HeapView) (bricks : BricksView) (old now : CursorView) → IsStepping h bricks old now
    → now.at_hand ≡ [] → now.past ≤ now.brick
    → (part : PlannedPart) → IsPart h part → TellLeft (word_of h) bricks part old.brick old.past
    → ahead old (plug_starts part.plugs) ≡ []
at_end h bricks old now s none le part lies tell =
    sym (s.same part lies tell) ∙ ap (λ (xs : List ℕ). xs ++ starts_between now.brick now.past (plug_starts part.plugs))
    none ∙ none_ahead now.brick now.past (plug_starts part.plugs) le

-- the next one is the first at hand
pub at_next : (h : HeapView) (bricks : BricksView) (old now : CursorView) (start : ℕ) (rest : List ℕ)
    → IsStepping h bricks old now → now.at_hand ≡ start ∷ rest
    → (part : PlannedPart) → IsPart h part → TellLeft (word_of h) bricks part old.brick old.past
    → ahead old (plug_starts part.plugs) ≡ start ∷ ahead (record { at_hand = rest; brick = now.brick; past = now.past })
    (plug_starts part.plugs)
at_next h bricks old now start rest s hand part lies tell =
    sym (s.same part lies tell) ∙ ap (λ (xs : List ℕ). xs ++ starts_between now.brick now.past (plug_starts part.plugs))
    hand

-- two sets of fields that are seen as the same value: where one has an offset at hand, the other has too
pub still_at_hand : (base at count : ℕ) (offsets : List ℕ) (base2 at2 count2 : ℕ) (offsets2 : List ℕ) → at ≤ count
    → at ≢ count → count ≤ length offsets → at2 ≤ count2 → count2 ≤ length offsets2
    → places_from base (drop at (take count offsets)) ≡ places_from base2 (drop at2 (take count2 offsets2))
    → at2 < count2
still_at_hand base at count offsets base2 at2 count2 offsets2 le ne within le2 within2 same =
    elim (cases_lt at2 count2) [
      | inl less ↦ less
      | inr more ↦
          let some = first_at_hand base at count offsets (omega (arith, le, ne)) within in
          let none = none_at_hand base2 at2 count2 offsets2 (omega (arith, le2, more)) within2 in
          absurd (no_cons _ _ (sym some ∙ same ∙ none))
    ] where
      no_cons : (x : ℕ) (xs : List ℕ) → (x ∷ xs) ≡ [] → ⊥
      no_cons x xs e = cc
