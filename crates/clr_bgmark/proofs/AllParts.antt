-- The first pause: what is known of the old part of one segment more, and then of all.
use Rattle.std.proofs.Common.{◌≡◌, ◌≢◌, ℕ, zero, suc, ◌+◌, ◌*◌, ◌<◌, ◌≤◌, inl, inr, List, [], ◌∷◌, length, get_or}
use Rattle.std.proofs.Common.{set, refl, sym, ap, subst, ◌∙◌, arith, Bool, true, false, if◌then◌else◌}
use Rattle.std.proofs.Common.{get_or-set_same, get_or-set_other}
use Rattle.std.specs.List.{AllByRecursion}
use Rattle.std.specs.Prelude.{MatchBool}
use Rattle.std.proofs.lemmas.Bool.{cases_eq}
use Rattle.std.proofs.Common.{◌++◌, length-append}
use Rattle.std.proofs.Math.Seq.{get_or-append_seam}
use Rattle.std.proofs.lemmas.List.{get_or_append_left, length-map, length-set}
use Rattle.clr_types.specs.Types.{TypeRow}
use Rattle.clr_heap.specs.Parts.{item_at}
use Rattle.clr_heap.specs.View.{HeapView, IsHeap, segment_at, word_of}
use Rattle.clr_bgmark.specs.Bits.{has_bit}
use Rattle.clr_bgmark.specs.FirstParts.{AreUntold, HasTold, IsFresh, IsTold, IsUntold, no_part, no_shade}
use Rattle.clr_bgmark.specs.Pauses.{AreShadesOf, IsBare, used_of, used_size}
use Rattle.clr_bgmark.specs.Shades.{cell_of, covers, IsShade, is_taken, PartView, ShadeView}
use Rattle.clr_bgmark.specs.Tiles.{AreParts, HaveEdges, IsEdge, IsEdgeBy}
use Rattle.clr_bgmark.proofs.FirstTaken.{shade_shape, shape}
use Rattle.clr_bgmark.proofs.Kept.{covers_inside}

-- the first k segments are known, and the others are fresh
pub record AreToldTo (rows : List TypeRow) (h : HeapView) (k : ℕ) (ss : List ShadeView) (ps : List PartView)
    : Type 0 where
  pub count : length ps ≡ length ss
  pub segments : length ss ≡ length h.segments
  pub done : (j : ℕ) → j < k → j < length ss → IsTold rows h (get_or ss j no_shade) (get_or ps j no_part)
  pub ahead : (j : ℕ) → k ≤ j → j < length ss → IsFresh (get_or ss j no_shade) (get_or ps j no_part)

all_at : (P : ShadeView → Type 0) (ss : List ShadeView) (k : ℕ) → AllByRecursion P ss → k < length ss
    → P (get_or ss k no_shade)
all_at P [] k all l = absurd (omega arith)
all_at P (s ∷ ss) zero all l = all.0
all_at P (s ∷ ss) (suc k) all l = all_at P ss k all.1 (omega arith)

-- there are bits for each segment
pub shade_count : (h : HeapView) (ss : List ShadeView) → AreShadesOf h ss → length ss ≡ length h.segments
shade_count h ss shapes = sym (length-map ss shape) ∙ ap length shapes ∙ length-map h.segments used_of

-- room for one segment more
pub untold_more : (h : HeapView) (k : ℕ) (ps : List PartView) (p : PartView) → length ps ≡ k
    → ((j : ℕ) → j < k → IsUntold (used_size (segment_at h j)) (get_or ps j no_part))
    → IsUntold (used_size (segment_at h k)) p
    → (length (ps ++ (p ∷ [])) ≡ k + 1)
    × ((j : ℕ) → j < k + 1 → IsUntold (used_size (segment_at h j)) (get_or (ps ++ (p ∷ [])) j no_part))
untold_more h k ps p count each last = (
  length-append ps (p ∷ []) ∙ ap (λ n. n + 1) count,
  λ j l. elim (cases_eq j k) [
    | inl e ↦
        let at : get_or (ps ++ (p ∷ [])) j no_part ≡ p =
        ap (λ n. get_or (ps ++ (p ∷ [])) n no_part) (e ∙ sym count) ∙ get_or-append_seam ps p [] no_part in
        subst (λ q. IsUntold (used_size (segment_at h j)) q) (sym at)
        (subst (λ n. IsUntold (used_size (segment_at h n)) p) (sym e) last)
    | inr ne ↦
        subst (λ q. IsUntold (used_size (segment_at h j)) q)
        (sym (get_or_append_left ps (p ∷ []) no_part j (omega (arith, l, ne, count))))
        (each j (omega (arith, l, ne)))
  ],
)

-- none is known at first
pub none_told : (rows : List TypeRow) (h : HeapView) → IsHeap h → (ss : List ShadeView) (ps : List PartView)
    → AreShadesOf h ss → AllByRecursion IsShade ss → AllByRecursion IsBare ss → AreUntold h ps
    → AreToldTo rows h 0 ss ps
none_told rows h heap ss ps shapes lawful bare untold = record {
  count = untold.count ∙ sym (shade_count h ss shapes);
  segments = shade_count h ss shapes;
  done = λ j l inside. absurd (omega (arith, l));
  ahead = λ j l inside.
      let count = shade_count h ss shapes in
      let there : j < length h.segments = omega (arith, inside, count) in
      record {
        lawful = all_at IsShade ss j lawful inside;
        bare = (all_at IsBare ss j bare inside).taken;
        untold = subst (λ n. IsUntold n (get_or ps j no_part))
            (sym (ap (λ (p : ℕ × ℕ). p.1) (shade_shape h heap ss shapes j there no_shade))) (untold.each j there);
      };
}

-- and then one more
pub told_more : (rows : List TypeRow) (h : HeapView) (k : ℕ) (ss new_ss : List ShadeView) (ps new_ps : List PartView)
    → AreToldTo rows h k ss ps → HasTold rows h k ss new_ss ps new_ps → AreToldTo rows h (k + 1) new_ss new_ps
told_more rows h k ss new_ss ps new_ps told more =
    subst (λ now. AreToldTo rows h (k + 1) new_ss now) (sym more.parts)
    (subst (λ now. AreToldTo rows h (k + 1) now (set ps k more.part)) (sym more.shades)
    (record {
      count = length-set ps k more.part ∙ told.count ∙ sym (length-set ss k more.shade);
      segments = length-set ss k more.shade ∙ told.segments;
      done = λ j l inside.
          let same = length-set ss k more.shade in
          let there : j < length ss = omega (arith, inside, same) in
          let count = told.count in
          elim (cases_eq j k) [
            | inl e ↦
                let shade_in : k < length ss = omega (arith, there, e) in
                let part_in : k < length ps = omega (arith, there, e, count) in
                let shade : more.shade ≡ get_or (set ss k more.shade) j no_shade =
                sym (ap (λ n. get_or (set ss k more.shade) n no_shade) e
                ∙ get_or-set_same ss k more.shade no_shade shade_in) in
                let part : more.part ≡ get_or (set ps k more.part) j no_part =
                sym (ap (λ n. get_or (set ps k more.part) n no_part) e
                ∙ get_or-set_same ps k more.part no_part part_in) in
                subst (λ p. IsTold rows h (get_or (set ss k more.shade) j no_shade) p) part
                (subst (λ s. IsTold rows h s more.part) shade more.told)
            | inr ne ↦
                let below : j < k = omega (arith, l, ne) in
                subst (λ p. IsTold rows h (get_or (set ss k more.shade) j no_shade) p)
                (sym (get_or-set_other ps k j more.part no_part ne))
                (subst (λ s. IsTold rows h s (get_or ps j no_part))
                (sym (get_or-set_other ss k j more.shade no_shade ne)) (told.done j below there))
          ];
      ahead = λ j l inside.
          let same = length-set ss k more.shade in
          let there : j < length ss = omega (arith, inside, same) in
          let ne : j ≢ k = λ e. absurd (omega (arith, l, e)) in
          subst (λ p. IsFresh (get_or (set ss k more.shade) j no_shade) p)
          (sym (get_or-set_other ps k j more.part no_part ne))
          (subst (λ s. IsFresh s (get_or ps j no_part))
          (sym (get_or-set_other ss k j more.shade no_shade ne)) (told.ahead j (omega (arith, l)) there));
    }))

-- ---- all of them

module _ (rows : List TypeRow) (h : HeapView) where
  pub all_parts : (ss : List ShadeView) (ps : List PartView) → length ps ≡ length ss
      → ((j : ℕ) → j < length ss → IsTold rows h (get_or ss j no_shade) (get_or ps j no_part)) → AreParts ss ps
  all_parts [] [] count each = tt
  all_parts [] (p ∷ ps) count each = absurd (omega (arith, count))
  all_parts (s ∷ ss) [] count each = absurd (omega (arith, count))
  all_parts (s ∷ ss) (p ∷ ps) count each =
      ((each 0 (omega arith)).part, all_parts ss ps (omega (arith, count)) (λ j l. each (suc j) (omega (arith, l))))

  pub all_edges : (ss : List ShadeView) (ps : List PartView) → length ps ≡ length ss
      → ((j : ℕ) → j < length ss → IsTold rows h (get_or ss j no_shade) (get_or ps j no_part)) → HaveEdges rows h ss ps
  all_edges [] ps count each x aligned taken = absurd cc
  all_edges (s ∷ ss) [] count each x aligned taken = absurd (omega (arith, count))
  all_edges (s ∷ ss) (p ∷ ps) count each x aligned taken =
      go (covers s x) refl taken
      (all_edges ss ps (omega (arith, count)) (λ j l. each (suc j) (omega (arith, l))) x aligned)
    where
      size : ℕ
      size = (item_at rows (word_of h) x).size

      go : (b : Bool) → covers s x ≡ b → (if b then has_bit s.taken (cell_of s x) else is_taken ss x) ≡ true
          → (is_taken ss x ≡ true → IsEdgeBy ss ps x (x + size))
          → MatchBool b (IsEdge s p (x + size)) (IsEdgeBy ss ps x (x + size))
      go true e t rest =
          let here = each 0 (omega arith) in
          let base = here.whole in
          let low = (covers_inside s x e).low in
          let at : s.base + 8 * cell_of s x ≡ x = omega (arith, base, low, aligned) in
          subst (λ a. IsEdge s p (a + (item_at rows (word_of h) a).size)) at (here.edges (cell_of s x) t)
      go false e t rest = rest t
