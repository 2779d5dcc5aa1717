-- Survivors that may not go into older items leave the plugs that may, and those that may, side by side, are one.
use Rattle.std.proofs.Common.{◌≡◌, ℕ, ◌+◌, ◌-◌, ◌≤◌, Bool, true, false, not, ◌&&◌, ◌==◌, List, [], ◌∷◌, ◌++◌, map}
use Rattle.std.proofs.Common.{filter, refl, sym, ap, ◌∙◌, arith, if◌then◌else◌}
use Rattle.std.specs.Bool.{beq}
use Rattle.std.specs.List.{AllByRecursion}
use Rattle.std.proofs.lemmas.Bool.{and_from, and_parts, eq-eqb, eqb-true}
use Rattle.clr_types.specs.Bits.{has_pin}
use Rattle.clr_types.specs.Segments.{generation}
use Rattle.clr_types.specs.declared.item.Item.{Item}
use Rattle.clr_heap.specs.View.{frame, HeapView, segment_at, word_of}
use Rattle.clr_model.specs.Compaction.{joined, joins, Plug, plug_of, plugs_of}
use Rattle.clr_model.specs.Fitting.{fitting_plugs}
use Rattle.clr_model.specs.Sweep.{Survivor}
use Rattle.clr_model.proofs.PlugsOf.{joins-true}
use Rattle.clr_sweep.specs.SweptItems.{stays}
use Rattle.clr_plan.specs.Scans.{survivor_in}
use Rattle.clr_evacuate.specs.Fittings.{AreSideBySide, fitting_plug, may_fit}
use Rattle.clr_evacuate.proofs.PassedItems.{side-up}

-- whether a plug may go into an item
abbrev pub is_fitting : Plug → Bool
is_fitting p = not p.pinned && (p.generation == 1)

-- ---- those that may not

-- one that may not adds nothing, and doesn't change the plug behind it
pub unfit-joins : (v : Survivor) (ps : List Plug) → is_fitting (plug_of v) ≡ false
    → fitting_plugs (joined v ps) ≡ fitting_plugs ps
unfit-joins v [] off = ap (λ (b : Bool). if b then plug_of v ∷ [] else []) off
unfit-joins v (p ∷ ps) off = go (joins v p) refl
  where
    go : (b : Bool) → joins v p ≡ b
        → fitting_plugs (if b then record p { start = v.place; size = v.size + p.size } ∷ ps else plug_of v ∷ p ∷ ps)
        ≡ fitting_plugs (p ∷ ps)
    go true e =
        let is = joins-true v p e in
        let both = is.pinned in
        let ages = is.generation in
        let off2 : is_fitting p ≡ false = sym (λ i. not (both i) && (ages i == 1)) ∙ off in
        ap (λ (b : Bool). if b then record p { start = v.place; size = v.size + p.size } ∷ fitting_plugs ps
        else fitting_plugs ps) off2
        ∙ sym (ap (λ (b : Bool). if b then p ∷ fitting_plugs ps else fitting_plugs ps) off2)
    go false e = ap (λ (b : Bool). if b then plug_of v ∷ fitting_plugs (p ∷ ps) else fitting_plugs (p ∷ ps)) off

module _ (h : HeapView) (k : ℕ) where
  -- what survives among items of segment k
  abbrev pub surviving : List Item → List Survivor
  surviving is = map (survivor_in h k) (filter (stays (word_of h)) is)

  -- what the tests of an item say of its plug
  fits-not : (i : Item) → stays (word_of h) i ≡ true → may_fit h i ≡ false
      → is_fitting (plug_of (survivor_in h k i)) ≡ false
  fits-not i on off =
      go (generation (frame h) i.place == 1) (has_pin (word_of h (i.place - 8)))
      (sym (ap (λ (b : Bool). (b && (generation (frame h) i.place == 1))
      && not (has_pin (word_of h (i.place - 8)))) on)
      ∙ off)
    where
      go : (a b : Bool) → (a && not b) ≡ false → (not b && a) ≡ false
      go true true e = refl
      go true false e = e
      go false true e = refl
      go false false e = refl

  pub skipped : (passed rest : List Item) → AllByRecursion (λ (i : Item). may_fit h i ≡ false) passed
      → fitting_plugs (plugs_of (surviving (passed ++ rest))) ≡ fitting_plugs (plugs_of (surviving rest))
  skipped [] rest all = refl
  skipped (i ∷ is) rest all = go (stays (word_of h) i) refl (skipped is rest all.1)
    where
      go : (b : Bool) → stays (word_of h) i ≡ b
          → fitting_plugs (plugs_of (surviving (is ++ rest))) ≡ fitting_plugs (plugs_of (surviving rest))
          → fitting_plugs (plugs_of (map (survivor_in h k) (if b then i ∷ filter (stays (word_of h)) (is ++ rest)
          else filter (stays (word_of h)) (is ++ rest)))) ≡ fitting_plugs (plugs_of (surviving rest))
      go true on more =
          unfit-joins (survivor_in h k i) (plugs_of (surviving (is ++ rest))) (fits-not i on all.0) ∙ more
      go false on more = more

  -- ---- those that may

  pub record MayFit (i : Item) : Type 0 where
    pub kept : stays (word_of h) i ≡ true
    pub age : generation (frame h) i.place ≡ 1
    pub free : has_pin (word_of h (i.place - 8)) ≡ false

  pub fits-so : (i : Item) → may_fit h i ≡ true → MayFit i
  fits-so i on =
      let (kept, unpinned) = and_parts (stays (word_of h) i && (generation (frame h) i.place == 1))
      (not (has_pin (word_of h (i.place - 8)))) on in
      let (there, age) = and_parts (stays (word_of h) i) (generation (frame h) i.place == 1) kept in
      record {
        kept = there;
        age = eqb-true (generation (frame h) i.place) 1 age;
        free = off (has_pin (word_of h (i.place - 8))) unpinned;
      }
    where
      off : (b : Bool) → not b ≡ true → b ≡ false
      off true e = absurd cc
      off false e = refl

  -- the plug of one of them is that of its range
  own-plug : (i : Item) (p e : ℕ) → MayFit i → i.place ≡ p → p + i.size ≡ e
      → plug_of (survivor_in h k i) ≡ fitting_plug (segment_at h k).base (record { place = p; size = e - p })
  own-plug i p e may at ends =
      let size : i.size ≡ e - p = omega arith in
      let age = may.age in
      let free = may.free in
      λ j. record {
        start = at j;
        size = size j;
        segment = (segment_at h k).base;
        generation = age j;
        pinned = free j;
      }

  -- nothing joins a run that ends at a place to plugs that stand there or behind
  abbrev pub EndsThere : ℕ → List Plug → Type 0
  EndsThere e ps =
      (v : Survivor) → v.place + v.size ≡ e → v.generation ≡ 1 → v.pinned ≡ false → joined v ps ≡ plug_of v ∷ ps

  -- A RUN of them is one plug
  pub run_is : (i : Item) (is rest : List Item) (p e : ℕ)
      → AllByRecursion (λ (j : Item). may_fit h j ≡ true) (i ∷ is) → AreSideBySide p (i ∷ is) e
      → EndsThere e (plugs_of (surviving rest))
      → plugs_of (surviving (i ∷ (is ++ rest)))
      ≡ fitting_plug (segment_at h k).base (record { place = p; size = e - p }) ∷ plugs_of (surviving rest)
  run_is i [] rest p e all side ends =
      let may = fits-so i all.0 in
      let at = side.0 in
      let last = side.1 in
      ap (λ (b : Bool). plugs_of (map (survivor_in h k) (if b then i ∷ filter (stays (word_of h)) rest
      else filter (stays (word_of h)) rest))) may.kept
      ∙ ends (survivor_in h k i) (omega (arith, at, last)) may.age may.free
      ∙ ap (λ (q : Plug). q ∷ plugs_of (surviving rest)) (own-plug i p e may at last)
  run_is i (j ∷ is) rest p e all side ends =
      let may = fits-so i all.0 in
      let at = side.0 in
      let up = side-up (p + i.size) e (j ∷ is) side.1 in
      ap (λ (b : Bool). plugs_of (map (survivor_in h k) (if b then i ∷ filter (stays (word_of h)) (j ∷ (is ++ rest))
      else filter (stays (word_of h)) (j ∷ (is ++ rest))))) may.kept
      ∙ ap (joined (survivor_in h k i)) (run_is j is rest (p + i.size) e all.1 side.1 ends)
      ∙ one (survivor_in h k i) p i.size e at refl refl may.age may.free up (plugs_of (surviving rest))
    where
      one : (v : Survivor) (p size e : ℕ) → v.place ≡ p → v.size ≡ size → v.segment ≡ (segment_at h k).base
          → v.generation ≡ 1 → v.pinned ≡ false → p + size ≤ e → (ps : List Plug)
          → joined v (fitting_plug (segment_at h k).base (record { place = p + size; size = e - (p + size) }) ∷ ps)
          ≡ fitting_plug (segment_at h k).base (record { place = p; size = e - p }) ∷ ps
      one v p size e at big segment age free up ps =
          let q : Plug = fitting_plug (segment_at h k).base (record { place = p + size; size = e - (p + size) }) in
          let whole : v.size + (e - (p + size)) ≡ e - p = omega arith in
          ap (λ (b : Bool). if b then record q { start = v.place; size = v.size + q.size } ∷ ps
          else plug_of v ∷ q ∷ ps)
          (and_from ((v.place + v.size == p + size) && (v.segment == (segment_at h k).base))
          ((v.generation == 1) && beq v.pinned false)
          (and_from (v.place + v.size == p + size) (v.segment == (segment_at h k).base)
          (eq-eqb (v.place + v.size) (p + size) (omega arith)) (eq-eqb v.segment (segment_at h k).base segment))
          (and_from (v.generation == 1) (beq v.pinned false) (eq-eqb v.generation 1 age)
          (ap (λ (b : Bool). beq b false) free)))
          ∙ (λ j. fitting_plug (segment_at h k).base (record { place = at j; size = whole j }) ∷ ps)
