-- The places that are asked for: those of a generation, and of the first segment with a base.
use Rattle.std.proofs.Common.{◌≡◌, ◌∙◌, ◌&&◌, ℕ, ◌+◌, ◌<◌, ◌≤◌, Bool, true, false, if◌then◌else◌, List, drop, find, get_or}
use Rattle.std.proofs.Common.{length, nat_eq, nat_le, nat_lt, Option, Some, None, refl, sym, ap, ap₂, arith, ◌||◌}
use Rattle.std.specs.Prelude.{is_none}
use Rattle.std.proofs.lemmas.Bool.{le-leb, le-ltb}
use Rattle.std.proofs.lemmas.List.{at_drop_more, drop_all}
use Rattle.clr_types.specs.Segments.{empty_segment, first_place}
use Rattle.clr_types.specs.declared.segment.SegInfo.{SegInfo}
use Rattle.clr_types.specs.Segments.{Layout}
use Rattle.clr_model.specs.Sos.{passes_generation, passes_segment, stands_in_some}

-- the segment has the base
abbrev pub has_base : ℕ → SegInfo → Bool
has_base base s = nat_eq s.base base

module _ (base : ℕ) (ss : List SegInfo) (k : ℕ) (s : SegInfo) (low : k < length ss) (is : s ≡ get_or ss k empty_segment)
    (before : find (has_base base) ss ≡ find (has_base base) (drop k ss)) where
  front : find (has_base base) ss ≡ (if has_base base s then Some s else find (has_base base) (drop (k + 1) ss))
  front = before ∙ at_drop_more (find (has_base base)) ss k empty_segment low
      ∙ ap (λ (t : SegInfo). if has_base base t then Some t else find (has_base base) (drop (k + 1) ss)) (sym is)

  -- it is behind one with another base
  pub found-on : has_base base s ≡ false → find (has_base base) ss ≡ find (has_base base) (drop (k + 1) ss)
  found-on other = front ∙ ap (λ (b : Bool). if b then Some s else find (has_base base) (drop (k + 1) ss)) other

  -- or here
  pub found-here : has_base base s ≡ true → (first p : ℕ) → first ≡ first_place s
      → (nat_le first p && nat_lt p (s.base + s.reserved)) ≡ stands_in_some (find (has_base base) ss) p
  found-here same first p at =
      ap (λ (f : ℕ). nat_le f p && nat_lt p (s.base + s.reserved)) at
      ∙ sym (ap (λ o. stands_in_some o p)
      (front ∙ ap (λ (b : Bool). if b then Some s else find (has_base base) (drop (k + 1) ss)) same))

-- or there is none
pub found-none : (base : ℕ) (ss : List SegInfo) (k : ℕ) → length ss ≤ k
    → find (has_base base) ss ≡ find (has_base base) (drop k ss) → (p : ℕ)
    → (nat_le 0 p && nat_lt p 0) ≡ stands_in_some (find (has_base base) ss) p
found-none base ss k past before p =
    rw (le-leb 0 p (omega arith), le-ltb p 0 (omega arith))
    (sym (ap (λ o. stands_in_some o p) (before ∙ ap (find (has_base base)) (drop_all k ss past))))

-- where no place is asked for, all are passed
pub region-told : (layout : Layout) (g base : Option ℕ) (p : ℕ) (any in_g in_s : Bool) → any ≡ (is_none g && is_none base)
    → in_g ≡ passes_generation layout g p → in_s ≡ passes_segment layout base p
    → (any || (in_g && in_s)) ≡ (passes_generation layout g p && passes_segment layout base p)
region-told layout None None p any in_g in_s a b c = ap (λ (x : Bool). x || (in_g && in_s)) a
region-told layout None (Some base) p any in_g in_s a b c =
    ap (λ (x : Bool). x || (in_g && in_s)) a ∙ ap₂ (λ (x y : Bool). x && y) b c
region-told layout (Some g) base p any in_g in_s a b c =
    ap (λ (x : Bool). x || (in_g && in_s)) a ∙ ap₂ (λ (x y : Bool). x && y) b c
