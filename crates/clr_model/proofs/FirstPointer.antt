-- Where a compaction of condemned parts begins to place plugs.
use Rattle.std.proofs.Common.{◌≡◌, ℕ, ◌%◌, ◌<◌, ◌≤◌, ◌⊎◌, inl, inr, List, [], ◌∷◌, subst, arith}
use Rattle.std.proofs.lemmas.Bool.{cases_lt}
use Rattle.clr_types.specs.Rising.{IsIn}
use Rattle.clr_model.specs.Compaction.{Plug}
use Rattle.clr_types.specs.declared.segment.SegInfo.{SegInfo}
use Rattle.clr_types.specs.Segments.{first_place, reserved_end}
use Rattle.clr_types.proofs.PieceGaps.{IsGapped}
use Rattle.clr_model.proofs.PlugRoom.{IsPlug, ArePlugs, IsOutside}
use Rattle.clr_model.proofs.PlugPointer.{IsNear}
use Rattle.clr_model.proofs.PlugWalk.{AreInLine, IsNearFirst}

-- where the part of each segment starts, the first of these being where the pointer begins
pub record AreStarts (segments : List SegInfo) (all : List Plug) (start : SegInfo → ℕ) (pointer : ℕ) : Type 0 where
  pub base : SegInfo
  pub among : IsIn base segments
  pub begins : start base ≡ pointer
  pub lowest : (s : SegInfo) → IsIn s segments → pointer ≤ start s
  pub low : (s : SegInfo) → IsIn s segments → first_place s ≤ start s
  pub high : (s : SegInfo) → IsIn s segments → start s ≤ reserved_end s
  pub each : (s : SegInfo) → IsIn s segments → (start s ≡ pointer) ⊎ (start s ≡ first_place s)
  pub plugs : (s : SegInfo) (p : Plug) → IsIn s segments → IsIn p all → p.segment ≡ s.base → IsGapped (start s) p.start
  pub aligned : (s : SegInfo) → IsIn s segments → (first_place s % 8 ≡ 0) × (start s % 8 ≡ 0)
  pub whole : (p : Plug) → IsIn p all → (p.start % 8 ≡ 0) × (p.size % 8 ≡ 0)

-- ---- where the first plug is looked for

module _ (segments : List SegInfo) (all : List Plug) (h : ArePlugs segments all) (start : SegInfo → ℕ) (pointer : ℕ)
    (st : AreStarts segments all start pointer) where
  -- the pointer begins near the first plug
  pub first-near : (qs : List Plug) → AreInLine all qs → IsNearFirst segments all pointer qs
  first-near [] line = tt
  first-near (p ∷ qs) line = go (st.each is.home is.among) (st.plugs is.home p is.among line.0 is.of)
    where
      is : IsPlug segments p
      is = h.each p line.0

      far : pointer ≤ first_place is.home → first_place is.home ≤ p.start → IsGapped (first_place is.home) p.start
          → (pointer < first_place is.home) ⊎ (first_place is.home ≤ pointer) → IsNear segments all pointer p.start
      far l m g (inl up) = (omega arith, inr (inr (is.home, is.among, up, m)))
      far l m g (inr down) = (omega arith, inl (subst (λ n. IsGapped n p.start) (omega arith) g))

      go : (start is.home ≡ pointer) ⊎ (start is.home ≡ first_place is.home) → IsGapped (start is.home) p.start
          → IsNear segments all pointer p.start
      go (inl e) g = (omega arith, inl (subst (λ n. IsGapped n p.start) e g))
      go (inr e) g = let l : pointer ≤ start is.home = st.lowest is.home is.among in
          far (omega arith) (omega arith) (subst (λ n. IsGapped n p.start) e g)
          (cases_lt pointer (first_place is.home))

  pub first-outside : IsOutside all pointer
  first-outside p i pinned =
      let is : IsPlug segments p = h.each p i in
      let g : IsGapped (start is.home) p.start = st.plugs is.home p is.among i is.of in
      let l : pointer ≤ start is.home = st.lowest is.home is.among in
      inl (omega arith)

  pub first-aligned : pointer % 8 ≡ 0
  first-aligned = let (a, b) = st.aligned st.base st.among in let e : start st.base ≡ pointer = st.begins in
      omega arith
