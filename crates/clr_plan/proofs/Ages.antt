-- The generations and the segment of the plugs of a stretch.
use Rattle.std.proofs.Common.{◌≡◌, ℕ, ◌+◌, ◌<◌, ◌≤◌, List, [], ◌∷◌, ◌++◌, filter, refl, sym, ap, subst}
use Rattle.std.proofs.Common.{◌∙◌, arith, Bool, true, false, ◌&&◌, nat_le, nat_lt, if◌then◌else◌}
use Rattle.std.proofs.lemmas.Bool.{and_from, le-leb, le-ltb, lt-leb, lt-ltb}
use Rattle.std.specs.List.{AllByRecursion}
use Rattle.clr_types.specs.Rising.{IsIn, IsRisingBy}
use Rattle.clr_types.specs.Types.{TypeRow}
use Rattle.clr_types.specs.Segments.{ephemeral, first_place, generation, reserved_end, stands_in}
use Rattle.clr_types.specs.declared.segment.SegInfo.{SegInfo}
use Rattle.clr_types.proofs.ChangedLists.{all_members, append_left, out_of_filter}
use Rattle.clr_types.proofs.ListMembers.{append_right, from-map}
use Rattle.clr_types.proofs.RisingLists.{all_at}
use Rattle.clr_heap.specs.Parts.{parts}
use Rattle.clr_heap.specs.View.{first_of, frame, HeapView, items_between, last_of, segment_at, sight, word_of}
use Rattle.clr_heap.proofs.Framing.{lawful_at}
use Rattle.clr_heap.proofs.Staying.{segment_order}
use Rattle.clr_view.proofs.Items.{IsItem, items-are}
use Rattle.clr_model.specs.Compaction.{Plug}
use Rattle.clr_model.specs.Sweep.{Survivor}
use Rattle.clr_model.proofs.PlugsOf.{plugs-all}
use Rattle.clr_sweep.specs.SweptItems.{stays}
use Rattle.clr_plan.specs.LaidParts.{end_behind}
use Rattle.clr_plan.specs.Parts.{Around, CanPlan, plugs_around}
use Rattle.clr_plan.specs.Plans.{CanPlanHeap, condemned_plugs}
use Rattle.clr_plan.specs.Scans.{CanScan, plugs_between, survivor_in, survivors_between}
use Rattle.clr_plan.specs.declared.pointer.Pointer.{Pointer}
use Rattle.clr_pinq.specs.declared.entry.PinEntry.{PinEntry}
use Rattle.clr_plan.proofs.Pins.{front_rises}
use Rattle.clr_plan.proofs.PushCount.{AreOf}

-- ---- a stretch

module _ (rows : List TypeRow) (h : HeapView) (k p c : ℕ) (s : CanScan rows h k p c) where
  -- the place of a survivor
  pub survivor-place : (v : Survivor) → IsIn v (survivors_between rows h k p c) → (p ≤ v.place) × (v.place < c)
      × (v.segment ≡ (segment_at h k).base) × (v.generation ≡ generation (frame h) v.place) × (24 ≤ v.size)
  survivor-place v n =
      let (i, same, j) = from-map (survivor_in h k) v (filter (stays (word_of h)) (items_between (sight rows h k) p c))
      n in
      let (t, l) = out_of_filter (stays (word_of h)) i (items_between (sight rows h k) p c) j in
      let is : IsItem rows p c i = all_at (IsItem rows p c) l (items-are (sight rows h k) (parts c (sight rows h k) p c)
      p c s.walk.start s.walk.spelled) in
      let P : Survivor → Type 0 = λ u. (p ≤ u.place) × (u.place < c) × (u.segment ≡ (segment_at h k).base)
      × (u.generation ≡ generation (frame h) u.place) × (24 ≤ u.size) in
      let above = is.above in
      let below = is.below in
      let least = is.least in
      subst P (sym same) (above, omega (arith, below, least), refl, refl, least)

  pub plugs-of : (P : ℕ → Type 0) → ((x : ℕ) → p ≤ x → x < c → P (generation (frame h) x)) → (q : Plug)
      → IsIn q (plugs_between rows h k p c) → P q.generation × (q.segment ≡ (segment_at h k).base)
  plugs-of P ages q n =
      all_at (λ (w : Plug). P w.generation × (w.segment ≡ (segment_at h k).base)) n
      (plugs-all (λ (v : Survivor). P v.generation × (v.segment ≡ (segment_at h k).base)) (λ (w : Plug). P w.generation
      × (w.segment ≡ (segment_at h k).base)) (λ v l. l) (λ v w l m j. m)
      (survivors_between rows h k p c) (all_members (λ (v : Survivor). P v.generation
      × (v.segment ≡ (segment_at h k).base)) (survivors_between rows h k p c)
      (λ v i. let (low, high, of, age, sized) = survivor-place v i in (subst P (sym age) (ages v.place low high), of))))

-- ---- ages of places

module _ (rows : List TypeRow) (h : HeapView) (g e : ℕ) (can : CanPlanHeap rows h g e) where
  young-is : segment_at h e ≡ ephemeral (frame h)
  young-is = can.young

  inside-true : (x : ℕ) → first_of h e ≤ x → x < last_of h e → stands_in (ephemeral (frame h)) x ≡ true
  inside-true x low high =
      let up = (lawful_at h e can.heap can.inside).high in
      subst (λ (s : SegInfo). stands_in s x ≡ true) young-is
      (and_from (nat_le (first_of h e) x) (nat_lt x (reserved_end (segment_at h e))) (le-leb (first_of h e) x low)
      (lt-ltb x (reserved_end (segment_at h e)) (omega (arith, high, up))))

  pub start-order : (first_of h e ≤ h.start1) × (h.start1 ≤ h.start0) × (h.start0 ≤ last_of h e)
  start-order = (
    subst (λ (u : SegInfo). first_place u ≤ h.start1) (sym young-is) can.laid.start1_low,
    can.laid.start1_high,
    subst (λ (u : SegInfo). h.start0 ≤ u.end) (sym young-is) can.laid.start0_high,
  )

  -- below the ephemeral segment all is of generation 2
  pub lower-age : (k x : ℕ) → k < e → x < reserved_end (segment_at h k) → generation (frame h) x ≡ 2
  lower-age k x l high =
      let o : reserved_end (segment_at h k) ≤ (segment_at h e).base = segment_order h k e can.heap l can.inside in
      let out : stands_in (ephemeral (frame h)) x ≡ false =
      subst (λ (s : SegInfo). stands_in s x ≡ false) young-is (ap (λ b. b && nat_lt x (reserved_end (segment_at h e)))
      (lt-leb (first_of h e) x (omega (arith, o, high)))) in
      ap (λ b. if b then (if nat_lt x h.start1 then 2 else (if nat_lt x h.start0 then 1 else 0)) else 2) out

  pub young-zero : (x : ℕ) → h.start0 ≤ x → x < last_of h e → generation (frame h) x ≡ 0
  young-zero x low high =
      let (a, b, c) = start-order in
      ap (λ b. if b then (if nat_lt x h.start1 then 2 else (if nat_lt x h.start0 then 1 else 0)) else 2)
      (inside-true x (omega (arith, a, b, low)) high)
      ∙ ap (λ b. if b then 2 else (if nat_lt x h.start0 then 1 else 0)) (le-ltb x h.start1 (omega (arith, b, low)))
      ∙ ap (λ b. if b then 1 else 0) (le-ltb x h.start0 low)

  pub older-one : (x : ℕ) → first_of h e ≤ x → x < h.start0 → 1 ≤ generation (frame h) x
  older-one x low high =
      let (a, b, c) = start-order in
      subst (λ n. 1 ≤ n) (sym (ap (λ b. if b
      then (if nat_lt x h.start1 then 2 else (if nat_lt x h.start0 then 1 else 0)) else 2)
      (inside-true x low (omega (arith, high, c)))))
      (go (nat_lt x h.start1) (nat_lt x h.start0) (lt-ltb x h.start0 high))
    where
      go : (a b : Bool) → b ≡ true → 1 ≤ (if a then 2 else (if b then 1 else 0))
      go true b t = omega arith
      go false true t = omega arith
      go false false t = absurd cc

-- ---- the plugs of a part

pub rise-behind : (xs ys : List Plug) → IsRisingBy (λ (p : Plug). p.start) (xs ++ ys)
    → IsRisingBy (λ (p : Plug). p.start) ys
rise-behind [] ys r = r
rise-behind (x ∷ xs) ys r = rise-behind xs ys r.1

module _ (rows : List TypeRow) (h : HeapView) (g e : ℕ) (can : CanPlanHeap rows h g e) (w : Around)
    (entries : List PinEntry) (at : Pointer) (k p c : ℕ) (part : CanPlan w rows h entries at k p c)
    (split : condemned_plugs rows h g e ≡ plugs_around w (plugs_between rows h k p c)) where
  mine-in : (q : Plug) → IsIn q (plugs_between rows h k p c) → IsIn q (plugs_around w (plugs_between rows h k p c))
  mine-in q i = append_right w.done (append_left w.ahead i)

  pub plugs-are-of : (least most : ℕ) → ((x : ℕ) → p ≤ x → x < c → (least ≤ generation (frame h) x)
      × (generation (frame h) x ≤ most)) → AreOf (segment_at h k).base least most (plugs_between rows h k p c)
  plugs-are-of least most ages = record {
    segments = λ q i. (plugs-of rows h k p c part.scan (λ n. (least ≤ n) × (n ≤ most)) ages q i).1;
    ages = λ q i. (plugs-of rows h k p c part.scan (λ n. (least ≤ n) × (n ≤ most)) ages q i).0;
    rise = front_rises (plugs_between rows h k p c) w.ahead (rise-behind w.done (plugs_between rows h k p c ++ w.ahead)
        part.plugs.rise);
    fall = λ q r i j l. can.condemned.older_lower q r (subst (IsIn q) (sym split) (mine-in q i))
        (subst (IsIn r) (sym split) (mine-in r j)) l;
    sized = λ q i. (part.plugs.each q (mine-in q i)).size;
  }

-- all plugs of a stretch end within it
pub end-within : (c below : ℕ) (ps : List Plug) → below ≤ c → AllByRecursion (λ (q : Plug). q.start + q.size ≤ c) ps
    → end_behind below ps ≤ c
end-within c below [] l a = l
end-within c below (p ∷ ps) l a = end-within c (p.start + p.size) ps a.0 a.1
