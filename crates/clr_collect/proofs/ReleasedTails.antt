-- When segments were given back the ephemeral segment is as it was.
use Rattle.std.proofs.Common.{◌≡◌, ◌==◌, ◌||◌, Bool, true, false, nat_lt, List, [], ◌∷◌, filter, if◌then◌else◌, refl}
use Rattle.std.proofs.Common.{ap, sym, ◌∙◌}
use Rattle.std.proofs.lemmas.Bool.{both_ways, or_left, or_right}
use Rattle.clr_types.specs.Segments.{ephemeral, first_place, same_kind, segment_or_empty}
use Rattle.clr_types.specs.Types.{TypeRow}
use Rattle.clr_types.specs.declared.segment.SegInfo.{SegInfo}
use Rattle.clr_types.specs.declared.segment.SegKind.TheVariants.{Ephemeral}
use Rattle.clr_heap.specs.View.{frame, HeapView}
use Rattle.clr_view.specs.View.{tail_of}
use Rattle.clr_collect.specs.Released.{first_large, HasReleased, is_needed}

-- what passes the one test is still there when what passes the other is left, where the one includes the other
filter-within : (p q : SegInfo → Bool) (xs : List SegInfo) → ((x : SegInfo) → p x ≡ true → q x ≡ true)
    → filter p (filter q xs) ≡ filter p xs
filter-within p q [] on = refl
filter-within p q (x ∷ xs) on = go (p x) refl (q x) refl (filter-within p q xs on)
  where
    go : (a : Bool) → p x ≡ a → (b : Bool) → q x ≡ b → filter p (filter q xs) ≡ filter p xs
        → filter p (if b then x ∷ filter q xs else filter q xs) ≡ (if a then x ∷ filter p xs else filter p xs)
    go a e true f more =
        ap (λ (d : Bool). if d then x ∷ filter p (filter q xs) else filter p (filter q xs)) e
        ∙ ap (λ (ys : List SegInfo). if a then x ∷ ys else ys) more
    go true e false f more = absurd (both_ways (q x) f (on x e))
    go false e false f more = more

module _ (rows : List TypeRow) (old new : HeapView) (r : HasReleased rows old new) where
  same-young : ephemeral (frame new) ≡ ephemeral (frame old)
  same-young =
      ap segment_or_empty
      (ap (filter (λ (s : SegInfo). same_kind Ephemeral s.kind)) r.segments
      ∙ filter-within (λ (s : SegInfo). same_kind Ephemeral s.kind) (is_needed (first_large old)) old.segments
      (λ s on. or_right (nat_lt (first_place s) s.end) (same_kind Ephemeral s.kind || (s.base == first_large old))
      (or_left (same_kind Ephemeral s.kind) (s.base == first_large old) on)))

  -- GENERATION 0 IS EMPTY where it was
  pub released_tail : old.start0 ≡ tail_of old → new.start0 ≡ tail_of new
  released_tail empty =
      ap (λ (h : HeapView). h.start0) r.lost.others ∙ empty ∙ sym (ap (λ (s : SegInfo). s.end) same-young)
