-- The slide of what a test keeps in the large heap is the slide of all of it, where the test keeps all of it.
use Rattle.std.proofs.Common.{◌≡◌, ℕ, ◌≤◌, List, refl, sym, ap, subst, arith, Bool, true}
use Rattle.clr_types.specs.Rising.{IsIn}
use Rattle.clr_types.specs.declared.segment.SegKind.TheVariants.{Large}
use Rattle.clr_types.specs.declared.segment.SegInfo.{SegInfo}
use Rattle.clr_types.specs.Segments.{first_place, Layout, reserved_end, same_kind, stands_in}
use Rattle.clr_types.proofs.PieceGaps.{IsGapped}
use Rattle.clr_types.proofs.SegmentFacts.{between-stands}
use Rattle.clr_types.proofs.SortedLists.{rising_agree_by}
use Rattle.clr_model.specs.Machine.{Machine, Object}
use Rattle.clr_model.specs.Lawful.{IsLaid}
use Rattle.clr_model.specs.Sweep.{Survivor, survivors}
use Rattle.clr_model.specs.Compaction.{Move, Placed, plugs_of, survivors_in}
use Rattle.clr_model.specs.Slide.{all_survivors, IsLargeSlid, large_segments, lowest_place}
use Rattle.clr_model.proofs.PlugsOf.{survivor_end}
use Rattle.clr_model.proofs.LargeSurvivors.{IsLargeSurvivor, is_large-survivor, large_survivor-is, survivors-rise}

module _ (m : Machine) (h : IsLaid m) (keeps : ℕ → Bool)
    (all : (o : Object) → IsIn o m.objects → (s : SegInfo) → IsIn s (large_segments m.layout)
    → stands_in s o.place ≡ true → keeps o.name ≡ true) where
  abbrev large : (ℕ → Bool) → List Survivor
  large test = survivors_in (same_kind Large) m.layout (survivors m 2 test)

  stands : (test : ℕ → Bool) (k : Survivor) (is : IsLargeSurvivor m h test k)
      → stands_in is.home is.object.place ≡ true
  stands test k is =
      let place : k.place ≡ is.object.place = ap (λ (x : Survivor). x.place) is.is in
      let low : IsGapped (first_place is.home) k.place = is.gap in
      let high : survivor_end k ≤ reserved_end is.home = is.high in
      let (least, whole) = is.size in
      between-stands is.home is.object.place (omega arith) (omega arith)

  to_all : (k : Survivor) → IsIn k (large keeps) → IsIn k (large (λ name. true))
  to_all k i =
      let is : IsLargeSurvivor m h keeps k = large_survivor-is m h keeps k i in
      subst (λ (x : Survivor). IsIn x (large (λ name. true))) (sym is.is)
      (is_large-survivor m h (λ name. true) is.object is.present refl is.home is.among (stands keeps k is))

  from_all : (k : Survivor) → IsIn k (large (λ name. true)) → IsIn k (large keeps)
  from_all k i =
      let is : IsLargeSurvivor m h (λ name. true) k = large_survivor-is m h (λ name. true) k i in
      let there = stands (λ name. true) k is in
      subst (λ (x : Survivor). IsIn x (large keeps)) (sym is.is)
      (is_large-survivor m h keeps is.object is.present (all is.object is.present is.home is.among there) is.home
      is.among there)

  same : large keeps ≡ large (λ name. true)
  same =
      rising_agree_by (λ (k : Survivor). k.place) (large keeps) (large (λ name. true)) (survivors-rise m h keeps)
      (survivors-rise m h (λ name. true)) (λ k. (to_all k, from_all k))

  -- the moves of the marked ones are those of all
  pub slides-kept : (moves : List Move) (new : Layout) → IsLargeSlid m.layout (survivors m 2 keeps) moves new
      → IsLargeSlid m.layout (all_survivors m) moves new
  slides-kept moves new c = record {
    after = c.after;
    placed =
        subst (λ (ks : List Survivor). Placed (large_segments m.layout) (plugs_of ks) (lowest_place m.layout)
        (plugs_of ks) moves c.after) same c.placed;
    laid = c.laid;
  }
