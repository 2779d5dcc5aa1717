-- The bytes that segments reserve: new ends leave them, and fewer segments reserve no more.
use Rattle.std.proofs.Common.{◌≡◌, ℕ, ◌≤◌, List, refl, ◌∙◌, arith, Bool, true, false, if◌then◌else◌, filter, not, ◌&&◌}
use Rattle.std.proofs.Common.{sum_by}
use Rattle.std.proofs.lemmas.List.Filters.{sum_by-filter_both}
use Rattle.clr_types.specs.declared.segment.SegInfo.{SegInfo}
use Rattle.clr_types.specs.declared.segment.SegKind.{SegKind}
use Rattle.clr_types.proofs.ListMembers.{sum-mapped}
use Rattle.clr_model.specs.Sweep.{has_condemned_part, segments_after}

pub sum-retained : (f : SegInfo → ℕ) (test : SegInfo → Bool) (ss : List SegInfo)
    → sum_by f (filter test ss) ≤ sum_by f ss
sum-retained f test ss = let both = sum_by-filter_both test (λ s. not (test s)) (λ s. refl) f ss in omega arith

-- new ends reserve no byte more
pub reserved-after : (kinds : SegKind → Bool) (g : ℕ) (end : SegInfo → ℕ) (ss : List SegInfo)
    → sum_by (λ (s : SegInfo). s.reserved) (segments_after kinds g end ss) ≡ sum_by (λ (s : SegInfo). s.reserved) ss
reserved-after kinds g end ss =
    sum-mapped change (λ (s : SegInfo). s.reserved) ss
    ∙ (λ i. sum_by (λ (s : SegInfo). same s (kinds s.kind && has_condemned_part g s) i) ss)
  where
    change : SegInfo → SegInfo
    change s = if kinds s.kind && has_condemned_part g s then record s { end = end s } else s

    same : (s : SegInfo) (b : Bool) → (if b then record s { end = end s } else s).reserved ≡ s.reserved
    same s true = refl
    same s false = refl
