-- No line names an object that no thread can come to any more, and no step of the marker marks one.
use Rattle.std.proofs.Common.{◌≡◌, ℕ, ◌+◌, ◌-◌, zero, suc, ◌⊎◌, inl, inr, List, sym, subst, Bool, true, false}
use Rattle.std.proofs.Common.{if◌then◌else◌, slice_set, refl, [], ◌∷◌, ◌++◌}
use Rattle.clr_types.specs.Rising.{IsIn}
use Rattle.clr_types.specs.Segments.{Layout}
use Rattle.clr_types.proofs.RisingLists.{all_at}
use Rattle.clr_model.specs.Machine.{ref, ThreadStep, begun_store, Sums, Machine, Marking}
use Rattle.clr_model.specs.Lookups.{local_of}
use Rattle.clr_model.specs.Updates.{born_at, with_entry, with_local, with_slot}
use Rattle.clr_model.specs.Reach.{Roots, SlotNames}
use Rattle.clr_model.specs.Background.{IsBegun, Scans, ScansUpTo}
use Rattle.clr_model.specs.Instructions.{Instruction}
use Rattle.clr_model.specs.Step.{head_or_null}
use Rattle.clr_background.specs.Runs.{RunsOn, at_once, by_line}
use Rattle.clr_background.proofs.Changes.{adds_entry, adds_handle, adds_type, begins_marking, begins_store, by_local}
use Rattle.clr_background.proofs.Changes.{by_queue, Change, frees_handle, gives_birth, goes_on, line_changes}
use Rattle.clr_background.proofs.Changes.{rearranged, scans_on, sets_flag, stores_value, takes_name, takes_queued}
use Rattle.clr_background.proofs.Changes.{with_birth}
use Rattle.clr_background.proofs.CutOff.{birth_cut_off, carried_cut_off, come_by_safe, come_by_safe_in, entry_cut_off}
use Rattle.clr_background.proofs.CutOff.{flag_cut_off, freed_cut_off, handle_cut_off, IsCutOff, IsSafe, IsSafeValue}
use Rattle.clr_background.proofs.CutOff.{local_cut_off, marking_cut_off, MarksNone, new_safe, others_cut_off}
use Rattle.clr_background.proofs.CutOff.{slot_cut_off, tail_cut_off}

module _ (lost : ℕ → Type 0) where
  -- ---- births

  born_cut_off : (m : Machine) → IsCutOff lost m → (steps : List ThreadStep) (layout : Layout) (sums : Sums)
      (entered : Bool) (t local place type len : ℕ)
      → IsCutOff lost (with_birth m steps layout sums entered t local place type len)
  born_cut_off m c steps layout sums entered t local place type len = go entered
    where
      begun : Machine
      begun = record m { steps = steps; layout = layout }

      born : Machine
      born = born_at begun t local place type len

      safe : IsCutOff lost born
      safe = birth_cut_off lost begun
          (others_cut_off lost m c m.types steps m.holder layout m.sums m.compacts_large) t local place type len

      go : (e : Bool) → IsCutOff lost (record (if e then with_entry born (m.born + 1) else born) { sums = sums })
      go true =
          others_cut_off lost (with_entry born (m.born + 1))
          (entry_cut_off lost born safe (m.born + 1) (new_safe lost m c)) m.types steps m.holder layout sums
          m.compacts_large
      go false = others_cut_off lost born safe m.types steps m.holder layout sums m.compacts_large

  -- ---- the marker

  module _ (m : Machine) (c : IsCutOff lost m) where
    pub roots_safe : (x : ℕ) → Roots m x → IsSafe lost x
    roots_safe x (some, inl (inl i)) = all_at (IsSafe lost) i c.locals
    roots_safe x (some, inl (inr e)) = subst (IsSafe lost) e.target (c.handles e.handle e.row e.in_use).0
    roots_safe x (some, inr i) = c.ready x i

    -- a slot of an object that isn't lost names none
    pub slot_named : (x y : ℕ) → IsSafe lost x → SlotNames m.objects x y → IsSafe lost y
    slot_named x y safe e =
        all_at (IsSafeValue lost) e.slot (c.slots e.object e.present (subst (IsSafe lost) (sym e.named) safe))

    pub begun_marks : (marking : Marking) → IsBegun m marking → MarksNone lost marking
    begun_marks marking b x (inl i) = roots_safe x ((b.gray x).0 i).1
    begun_marks marking b x (inr i) = elim (subst (IsIn x) b.black i) [ ]

    scan_marks : (old new : Marking) → Scans m old new → MarksNone lost old → MarksNone lost new
    scan_marks old new s none x (inl i) = go ((s.gray x).0 i)
      where
        go : (IsIn x old.gray × (x ≡ s.scanned → ⊥)) ⊎ (IsIn x old.white × SlotNames m.objects s.scanned x)
            → IsSafe lost x
        go (inl (j, other)) = none x (inl j)
        go (inr (j, named)) = slot_named s.scanned x (none s.scanned (inl s.was_gray)) named
    scan_marks old new s none x (inr i) = go ((s.black x).0 i)
      where
        go : IsIn x old.black ⊎ (x ≡ s.scanned) → IsSafe lost x
        go (inl j) = none x (inr j)
        go (inr e) = subst (IsSafe lost) (sym e) (none s.scanned (inl s.was_gray))

    scans_mark : (n : ℕ) (old : Marking) (count : ℕ) (new : Marking) → ScansUpTo m n old count new
        → MarksNone lost old → MarksNone lost new
    scans_mark zero old count new (done, same) none = subst (MarksNone lost) (sym same) none
    scans_mark (suc n) old zero new (empty, same) none = subst (MarksNone lost) (sym same) none
    scans_mark (suc n) old (suc count) new (mid, s, more) none =
        scans_mark n mid count new more (scan_marks old mid s none)

  -- ---- every line

  change_cut_off : (m : Machine) (i : Instruction) (new : Machine) → IsCutOff lost m → Change m i new
      → IsCutOff lost new
  change_cut_off m i new c (rearranged made) = carried_cut_off lost m c new made.carries
  change_cut_off m i new c (takes_name t k x by same) =
      subst (IsCutOff lost) (sym same) (local_cut_off lost m c t k x (come_by_safe lost m c x by))
  change_cut_off m i new c (takes_queued t k same) =
      let x = head_or_null m.ready in
      subst (IsCutOff lost) (sym same)
      (tail_cut_off lost (with_local m t k x) (local_cut_off lost m c t k x (come_by_safe lost m c x (by_queue refl))))
  change_cut_off m i new c (stores_value t into index v by logs same) =
      subst (IsCutOff lost) (sym same)
      (slot_cut_off lost m c (local_of m t into) index v (come_by_safe_in lost m c v by))
  change_cut_off m i new c (begins_store t into index from thread idle same) =
      let name = local_of m t into in
      let v = ref (local_of m t from) in
      subst (IsCutOff lost) (sym same)
      (others_cut_off lost (with_slot m name index v)
      (slot_cut_off lost m c name index v (come_by_safe lost m c (local_of m t from) (by_local t from refl))) m.types
      (slice_set m.steps (t - 1) (begun_store name index)) m.holder m.layout m.sums m.compacts_large)
  change_cut_off m i new c (sets_flag name flag same) =
      subst (IsCutOff lost) (sym same) (flag_cut_off lost m c name flag)
  change_cut_off m i new c (adds_entry x by same) =
      subst (IsCutOff lost) (sym same) (entry_cut_off lost m c x (come_by_safe lost m c x by))
  change_cut_off m i new c (adds_handle h row target second same) =
      subst (IsCutOff lost) (sym same)
      (handle_cut_off lost m c h row (come_by_safe lost m c row.target target)
      (come_by_safe lost m c row.second second))
  change_cut_off m i new c (frees_handle h same) = subst (IsCutOff lost) (sym same) (freed_cut_off lost m c h)
  change_cut_off m i new c (adds_type row same) =
      subst (IsCutOff lost) (sym same)
      (others_cut_off lost m c (m.types ++ (row ∷ [])) m.steps m.holder m.layout m.sums m.compacts_large)
  change_cut_off m i new c (goes_on ready made steps holder flag go_on same) =
      subst (IsCutOff lost) (sym same)
      (others_cut_off lost ready (carried_cut_off lost m c ready made.carries) ready.types steps holder ready.layout
      ready.sums flag)
  change_cut_off m i new c (gives_birth ready made steps layout sums entered t local place type len go_on same) =
      subst (IsCutOff lost) (sym same)
      (born_cut_off ready (carried_cut_off lost m c ready made.carries) steps layout sums entered t local place type
      len)
  change_cut_off m i new c (begins_marking marking none is same) =
      subst (IsCutOff lost) (sym same) (marking_cut_off lost m c marking (begun_marks m c marking is))
  change_cut_off m i new c (scans_on old n count marking runs scans same) =
      subst (IsCutOff lost) (sym same)
      (marking_cut_off lost m c marking (scans_mark m c n old count marking scans (c.marked old runs)))

  pub run_cut_off : (m last : Machine) → RunsOn m last → IsCutOff lost m → IsCutOff lost last
  run_cut_off m last at_once c = c
  run_cut_off m last (by_line {next = next} i outcome obeys runs more) c =
      run_cut_off next last more (change_cut_off m i next c (line_changes m i outcome next obeys))
