-- One step of a pass over handles by rising numbers, and below which place nothing is condemned.
use Rattle.std.proofs.Common.{◌≡◌, inl, inr, ℕ, ◌+◌, ◌<◌, ◌≤◌, Bool, true, false, if◌then◌else◌, Some, refl}
use Rattle.std.proofs.Common.{arith, nat_le}
use Rattle.std.specs.FinMap as finmap
use Rattle.std.proofs.lemmas.Bool.{cases_lt, ltb-false}
use Rattle.clr_types.specs.declared.handle.Handle.{Handle}
use Rattle.clr_handles.specs.Places.{IsNext, NoneNames}
use Rattle.clr_handles.specs.Tables.{Table}
use Rattle.clr_heap.specs.View.{HeapView}
use Rattle.clr_mark.specs.declared.marker.ahead.Ahead.TheVariants.{From}
use Rattle.clr_mark.specs.HandlePasses.{AllArePassed, HasTaken}
use Rattle.clr_mark.specs.Marks.{is_condemned_place}

-- ---- steps by rising numbers

module _ (handles : Table) (low n : ℕ)
    (below : (k : ℕ) (row : Handle) → finmap.get handles k ≡ Some row → k < 65536) where
  -- the next handle was taken
  pub taken_from : (k : ℕ) (row : Handle) → IsNext handles low n k row
      → HasTaken handles low (From n) (From (k + 1)) row
  taken_from k row next =
      let most = below k row next.in_use in
      let least = next.above in
      record {
        number = k;
        in_use = next.in_use;
        passed = λ j other e behind. elim (cases_lt j k) [
          | inl before ↦ elim (cases_lt j n) [
            | inl early ↦ inr (inl early)
            | inr between ↦ inr (inr (next.none_before j other between before e))
          ]
          | inr past ↦ inl (omega arith)
        ];
        fewer = omega arith;
      }

  -- there is none
  pub none_from : NoneNames handles low n 65536 → AllArePassed handles low (From n)
  none_from none k row e = elim (cases_lt k n) [
    | inl early ↦ inl early
    | inr between ↦ inr (none k row between (below k row e) e)
  ]

-- ---- where the condemned part begins

not_last : (b c d : Bool) → nat_le (if b then (if c then 2 else (if d then 1 else 0)) else 2) 0 ≡ true → d ≡ false
not_last true true d e = cc
not_last true false true e = cc
not_last true false false e = refl
not_last false c d e = cc

not_first : (b c d : Bool) → nat_le (if b then (if c then 2 else (if d then 1 else 0)) else 2) 1 ≡ true → c ≡ false
not_first true true d e = cc
not_first true false d e = refl
not_first false c d e = cc

module _ (h : HeapView) (x : ℕ) where
  pub above_start0 : is_condemned_place h 0 x ≡ true → h.start0 ≤ x
  unfolding is_condemned_place
  above_start0 e = ltb-false x h.start0 (not_last _ _ _ e)

  pub above_start1 : is_condemned_place h 1 x ≡ true → h.start1 ≤ x
  unfolding is_condemned_place
  above_start1 e = ltb-false x h.start1 (not_first _ _ _ e)
