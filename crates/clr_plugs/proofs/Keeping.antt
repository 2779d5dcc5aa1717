-- What keeps a plan: words written elsewhere, entries of other bricks, and a plug above.
use Rattle.std.proofs.Common.{◌≡◌, ◌≢◌, ◌⊎◌, inl, inr, ℕ, suc, ◌%◌, ◌-◌, ◌/◌, ◌<◌, List, [], ◌∷◌, ◌++◌, refl, ap, sym}
use Rattle.std.proofs.Common.{◌∙◌, subst, arith, true, false, Bool, if◌then◌else◌, eqb, ℤ}
use Rattle.std.proofs.lemmas.Bool.{eq-eqb, ne_eqb}
use Rattle.std.specs.List.{AllByRecursion}
use Rattle.std.specs.Int.{cast_signed, w64}
use Rattle.clr_types.specs.Rising.{first, IsIn, later}
use Rattle.clr_types.specs.declared.segment.SegInfo.{SegInfo}
use Rattle.clr_types.proofs.RisingLists.{in_cons}
use Rattle.clr_types.proofs.ListMembers.{in_append}
use Rattle.clr_heap.proofs.Rewrite.{SameShape-refl, SameShape-stored}
use Rattle.clr_heap.proofs.Storing.{word_in-store_in_other}
use Rattle.clr_plugs.specs.Info.{IsInfoWord}
use Rattle.clr_heap.specs.View.{stored, HeapView, SameShape, word_of}
use Rattle.clr_plugs.specs.BrickEntries.{BricksView, IsCovered}
use Rattle.clr_bricks.specs.Bricks.{entry_at}
use Rattle.clr_plugs.specs.Plans.{IsBrickOf, IsPart, IsPlannedUpTo, IsTold, PlannedPart, PlannedPlug, plug_starts}
use Rattle.clr_plugs.specs.Plans.{TellsBrick, tree_here, tree_below, no_tree}
use Rattle.clr_plugs.specs.Trees.{IsBrickTree, starts_in}
use Rattle.clr_types.proofs.ChangedLists.{append_left}
use Rattle.clr_plugs.proofs.Building.{tree-same}
use Rattle.clr_plugs.proofs.Starts.{in_brick}

-- ---- words

-- the words of the information of these plugs stay
abbrev pub KeepsInfo : (ℕ → ℕ) → (ℕ → ℕ) → List ℕ → Type 0
KeepsInfo old new starts =
    (x : ℕ) → IsIn x starts → (new (x - 32) ≡ old (x - 32)) × (new (x - 24) ≡ old (x - 24))
    × (new (x - 16) ≡ old (x - 16))

-- the brick's entry goes on telling where the words of the trees stay
pub tells-words : (old new : ℕ → ℕ) (starts : List ℕ) (brick : ℕ) (entry : ℤ)
    → ((x : ℕ) → IsIn x starts → x / 4096 ≡ brick → new (x - 16) ≡ old (x - 16)) → TellsBrick old starts brick entry
    → TellsBrick new starts brick entry
tells-words old new starts brick entry same (tree_here root e t) =
    tree_here root e (tree-same old new brick (suc root) (starts_in brick starts)
    (λ x i. let m = in_brick brick starts x i in same x m.0 m.1) t)
tells-words old new starts brick entry same (tree_below near i low most e) = tree_below near i low most e
tells-words old new starts brick entry same (no_tree above e) = no_tree above e

pub told-words : (old new : ℕ → ℕ) (plugs : List PlannedPlug)
    → ((x : ℕ) → IsIn x (plug_starts plugs) → (new (x - 32) ≡ old (x - 32)) × (new (x - 24) ≡ old (x - 24)))
    → AllByRecursion (IsTold old) plugs → AllByRecursion (IsTold new) plugs
told-words old new [] same t = tt
told-words old new (p ∷ ps) same t =
    let here = same p.start first in (
      record { gap = here.0 ∙ t.0.gap; distance = ap (cast_signed w64) here.1 ∙ t.0.distance },
      told-words old new ps (λ x i. same x (later i)) t.1,
    )

-- the part lies in the heap as before where segments stay
pub lies-same : (h now : HeapView) (part : PlannedPart) → SameShape h now → IsPart h part → IsPart now part
lies-same h now part shape lies =
    let e : now.segments ≡ h.segments = ap (λ (v : HeapView). v.segments) shape.others in
    let P : List SegInfo → Type 0 = λ ss. IsPart (record h { segments = ss }) part in
    let moved : IsPart (record h { segments = now.segments }) part = subst P (sym e) lies in
    record { segment = moved.segment; low = moved.low; high = moved.high; spaced = moved.spaced; places = moved.places }

-- Writing words outside the information of the plugs keeps the plan.
pub planned-words : (h now : HeapView) (bricks : BricksView) (part : PlannedPart) (past : ℕ) → SameShape h now
    → KeepsInfo (word_of h) (word_of now) (plug_starts part.plugs) → IsPlannedUpTo h bricks part past
    → IsPlannedUpTo now bricks part past
planned-words h now bricks part past shape same plan = record {
  lies = lies-same h now part shape plan.lies;
  told = told-words (word_of h) (word_of now) part.plugs (λ x i. let k = same x i in (k.0, k.1)) plan.told;
  covered = plan.covered;
  entries = λ brick near below. tells-words (word_of h) (word_of now) (plug_starts part.plugs) brick
      (entry_at bricks brick) (λ x i at. (same x i).2) (plan.entries brick near below);
}

-- Writing entries of bricks that aren't the part's keeps the plan.
pub planned-entries : (h : HeapView) (bricks other : BricksView) (part : PlannedPart) (past : ℕ)
    → ((brick : ℕ) → IsBrickOf part brick → IsCovered bricks brick → IsCovered other brick)
    → ((brick : ℕ) → IsBrickOf part brick → brick < past → entry_at other brick ≡ entry_at bricks brick)
    → IsPlannedUpTo h bricks part past → IsPlannedUpTo h other part past
planned-entries h bricks other part past covers same plan = record {
  lies = plan.lies;
  told = plan.told;
  covered = λ brick near. covers brick near (plan.covered brick near);
  entries = λ brick near below.
      (let P : ℤ → Type 0 = λ e. TellsBrick (word_of h) (plug_starts part.plugs) brick e in
      subst P (sym (same brick near below)) (plan.entries brick near below));
}

-- ---- one plug more, above all others

pub starts_in-other : (brick : ℕ) (xs : List ℕ) (a : ℕ) → a / 4096 ≢ brick
    → starts_in brick (xs ++ a ∷ []) ≡ starts_in brick xs
starts_in-other brick [] a ne = rw (ne_eqb (a / 4096) brick ne) refl
starts_in-other brick (x ∷ xs) a ne = go (eqb (x / 4096) brick) (starts_in-other brick xs a ne) where
  go : (b : Bool) → starts_in brick (xs ++ a ∷ []) ≡ starts_in brick xs
      → (if b then x ∷ starts_in brick (xs ++ a ∷ []) else starts_in brick (xs ++ a ∷ []))
      ≡ (if b then x ∷ starts_in brick xs else starts_in brick xs)
  go true e = ap (λ (zs : List ℕ). x ∷ zs) e
  go false e = e

pub starts_in-same : (brick : ℕ) (xs : List ℕ) (a : ℕ) → a / 4096 ≡ brick
    → starts_in brick (xs ++ a ∷ []) ≡ starts_in brick xs ++ a ∷ []
starts_in-same brick [] a at = rw (eq-eqb (a / 4096) brick at) refl
starts_in-same brick (x ∷ xs) a at = go (eqb (x / 4096) brick) (starts_in-same brick xs a at) where
  go : (b : Bool) → starts_in brick (xs ++ a ∷ []) ≡ starts_in brick xs ++ a ∷ []
      → (if b then x ∷ starts_in brick (xs ++ a ∷ []) else starts_in brick (xs ++ a ∷ []))
      ≡ (if b then x ∷ starts_in brick xs else starts_in brick xs) ++ a ∷ []
  go true e = ap (λ (zs : List ℕ). x ∷ zs) e
  go false e = e

pub in_pushed : (xs : List ℕ) (a x : ℕ) → IsIn x (xs ++ a ∷ []) → IsIn x xs ⊎ (x ≡ a)
in_pushed xs a x i =
    elim (in_append xs i)
    [ inl old ↦ inl old | inr new ↦ inr (elim (in_cons new) [ inl e ↦ e | inr none ↦ elim none [ ] ]) ]

pub tells-more : (word : ℕ → ℕ) (starts : List ℕ) (a brick : ℕ) (entry : ℤ) → brick < a / 4096
    → TellsBrick word starts brick entry → TellsBrick word (starts ++ a ∷ []) brick entry
tells-more word starts a brick entry up (tree_here root e t) =
    tree_here root e (let P : List ℕ → Type 0 = λ xs. IsBrickTree word brick (suc root) xs in
    subst P (sym (starts_in-other brick starts a (λ s. omega (arith, s, up)))) t)
tells-more word starts a brick entry up (tree_below near i low most e) =
    tree_below near (append_left (a ∷ []) i) low
    (λ x j le. elim (in_pushed starts a x j)
    [ inl old ↦ most x old le | inr new ↦ absurd (omega (arith, new, up, le)) ]) e
tells-more word starts a brick entry up (no_tree above e) =
    no_tree (λ x j. elim (in_pushed starts a x j) [ inl old ↦ above x old | inr new ↦ omega (arith, new, up) ]) e

-- Writing a word that isn't of the information of a plug keeps the plan, as a reference in a live cell does.
pub planned-stored : (h : HeapView) (bricks : BricksView) (part : PlannedPart) (past a v : ℕ) → a % 8 ≡ 0
    → ((x : ℕ) → IsIn x (plug_starts part.plugs) → IsInfoWord x a → ⊥) → IsPlannedUpTo h bricks part past
    → IsPlannedUpTo (stored h a v) bricks part past
planned-stored h bricks part past a v z other plan =
    planned-words h (stored h a v) bricks part past (SameShape-stored h h a v (SameShape-refl h))
    (λ x i. (let p = plan.lies.places x i in
    let zx = p.aligned in
    let low = p.low in
    let base = plan.lies.low in
    let none = other x i in (
      word_in-store_in_other h.memories a v (x - 32) z (omega (arith, zx, low, base))
          (λ e. none (omega (arith, e, low, base), omega (arith, e, low, base))),
      word_in-store_in_other h.memories a v (x - 24) z (omega (arith, zx, low, base))
          (λ e. none (omega (arith, e, low, base), omega (arith, e, low, base))),
      word_in-store_in_other h.memories a v (x - 16) z (omega (arith, zx, low, base))
          (λ e. none (omega (arith, e, low, base), omega (arith, e, low, base))),
    ))) plan
