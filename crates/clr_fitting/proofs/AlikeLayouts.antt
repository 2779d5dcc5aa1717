-- A compaction of generation 1 doesn't tell layouts apart that differ in free items of the part that it goes over.
use Rattle.std.proofs.Common.{◌≡◌, ℕ, List, [], ◌∷◌, ◌++◌, refl, ap, subst, ◌∙◌, Bool, false, filter}
use Rattle.std.proofs.Common.{if◌then◌else◌}
use Rattle.std.specs.List.{flat_map}
use Rattle.clr_types.specs.Ranges.{by_place}
use Rattle.clr_types.specs.Rising.{first, IsIn, later}
use Rattle.clr_types.specs.Segments.{generation, Layout}
use Rattle.clr_model.specs.Sweep.{Survivor}
use Rattle.clr_model.specs.Compaction.{compacted_free, IsCompacted, Move}
use Rattle.clr_fitting.specs.Steps.{IsAlike}

module _ (layout other : Layout) (s : IsAlike layout other) where
  -- places have the same generations
  pub same-generation : (place : ℕ) → generation other place ≡ generation layout place
  same-generation place =
      let segments = s.segments in let start1 = s.start1 in let start0 = s.start0 in
      λ i. generation (record layout { segments = segments i; start1 = start1 i; start0 = start0 i }) place

  -- a compaction of the one is one of the other
  pub same-compaction : (kept : List Survivor) (moves : List Move) (new : Layout) → IsCompacted other 1 kept moves new
      → IsCompacted layout 1 kept moves new
  same-compaction kept moves new c =
      let segments = s.segments in let start1 = s.start1 in let start0 = s.start0 in let rests = s.rests in
      let top = s.top in
      subst (λ (l : Layout). IsCompacted l 1 kept moves new)
      (λ i. record {
        segments = segments i;
        start1 = start1 i;
        start0 = start0 i;
        free = layout.free;
        rests = rests i;
        top = top i;
      })
      (record {
        after2 = c.after2;
        after1 = c.after1;
        after0 = c.after0;
        moves2 = c.moves2;
        moves1 = c.moves1;
        moves0 = c.moves0;
        segments = c.segments;
        segments_are = c.segments_are;
        plugs = c.plugs;
        plugs_are = c.plugs_are;
        placed2 = c.placed2;
        placed1 = c.placed1;
        start1 = c.start1;
        placed0 = c.placed0;
        start0 = c.start0;
        moves_are = c.moves_are;
        ends = c.ends;
        free = c.free
            ∙ ap (λ ps. by_place (ps ++ flat_map (compacted_free other 1 new.start0 c.plugs moves) c.segments)) s.free;
        rests = c.rests;
        top = c.top;
      })

-- a list of which nothing passes
pub none-left : {X : Type 0} (test : X → Bool) (xs : List X) → ((x : X) → IsIn x xs → test x ≡ false)
    → filter test xs ≡ []
none-left test [] h = refl
none-left test (x ∷ xs) h = ap (λ b. if b then x ∷ filter test xs else filter test xs) (h x first)
    ∙ none-left test xs (λ y i. h y (later i))
