-- Scans of gray objects, one after another.
use Rattle.std.proofs.Common.{◌≡◌, ℕ, zero, suc, ◌+◌, ◌≤◌, ◌⊎◌, inl, inr, List, [], map, refl, subst}
use Rattle.std.proofs.Common.{arith, false}
use Rattle.clr_model.specs.Background.{Scans, ScansUpTo}
use Rattle.clr_model.specs.Machine.{Object, Machine, Marking}
use Rattle.clr_bgmark.specs.Scanning.{HasScanned, HasScannedOne, is_gray_place, marking_in}
use Rattle.clr_bgmark.specs.Shades.{ShadeView, is_gray}
use Rattle.clr_bgmark.proofs.ScannedLists.{none_passes}

-- one more
scans_more : (m : Machine) (k : ℕ) (old mid new : Marking) → ScansUpTo m k old k mid → Scans m mid new
    → ScansUpTo m (suc k) old (suc k) new
scans_more m zero old mid new (e, same) s = (new, subst (λ o. Scans m o new) same s, (refl, refl))
scans_more m (suc k) old mid new (next, first, rest) s = (next, first, scans_more m k next mid new rest s)

-- so many were scanned, or none is gray then
scans_end : (m : Machine) (n k : ℕ) (old now : Marking) → ScansUpTo m k old k now → k ≤ n
    → (k ≡ n) ⊎ (now.gray ≡ []) → ScansUpTo m n old k now
scans_end m zero zero old now done low last = done
scans_end m (suc n) zero old now (e, same) low (inl is) = absurd (omega arith)
scans_end m (suc n) zero old now (e, same) low (inr none) = (subst (λ (o : Marking). o.gray ≡ []) same none, same)
scans_end m zero (suc k) old now done low last = absurd (omega arith)
scans_end m (suc n) (suc k) old now (next, first, rest) low last =
    (next, first, scans_end m n k next now rest (omega arith) (by last))
  where
    by : (suc k ≡ suc n) ⊎ (now.gray ≡ []) → (k ≡ n) ⊎ (now.gray ≡ [])
    by (inl e) = inl (omega arith)
    by (inr none) = inr none

pub none_gray : (objects : List Object) (ss : List ShadeView) → ((a : ℕ) → is_gray ss a ≡ false)
    → (marking_in objects ss).gray ≡ []
none_gray objects ss none = none_passes (is_gray_place ss) (map (λ (o : Object). o.name) objects) none

-- ---- the loop

pub scanned_none : (objects : List Object) (ss : List ShadeView) → HasScanned objects 0 ss 0 ss
scanned_none objects ss m same = (refl, refl)

pub scanned_more : (objects : List Object) (k : ℕ) (old mid new : List ShadeView) → HasScanned objects k old k mid
    → HasScannedOne objects mid new → HasScanned objects (k + 1) old (k + 1) new
scanned_more objects k old mid new done one m same =
    let up : suc k ≡ k + 1 = omega arith in
    subst (λ n. ScansUpTo m n (marking_in objects old) n (marking_in objects new)) up
    (scans_more m k (marking_in objects old) (marking_in objects mid) (marking_in objects new) (done m same)
    (one m same))

pub scanned_all : (objects : List Object) (n k : ℕ) (old now : List ShadeView) → HasScanned objects k old k now → k ≤ n
    → (k ≡ n) ⊎ ((marking_in objects now).gray ≡ []) → HasScanned objects n old k now
scanned_all objects n k old now done low last m same =
    scans_end m n k (marking_in objects old) (marking_in objects now) (done m same) low last
