-- The plugs that a plan has yet to read, in the heap as it was and as the plan has left it.
use Rattle.std.proofs.Common.{◌≡◌, ℕ, ◌+◌, ◌%◌, ◌<◌, ◌≤◌, List, [], ◌∷◌, ap, sym, ◌∙◌, subst, arith}
use Rattle.std.proofs.Common.{filter}
use Rattle.std.specs.List.{AllByRecursion}
use Rattle.clr_types.specs.Rising.{IsIn}
use Rattle.clr_types.specs.Types.{TypeRow}
use Rattle.clr_pinq.specs.declared.entry.PinEntry.{PinEntry}
use Rattle.clr_types.specs.declared.item.Item.{Item}
use Rattle.clr_types.proofs.ChangedLists.{all_members, out_of_filter}
use Rattle.clr_types.proofs.ListMembers.{from-map}
use Rattle.clr_types.proofs.RisingLists.{all_at}
use Rattle.clr_heap.specs.Parts.{item_part, items_in, Part, parts, rest_part, Sight, Spells}
use Rattle.clr_heap.specs.View.{HeapView, IsHeap, items_between, SameShape, segment_at, sight, word_of}
use Rattle.clr_view.proofs.Items.{IsItem, items-are}
use Rattle.clr_model.specs.Sweep.{Survivor}
use Rattle.clr_model.specs.Compaction.{Plug, plug_end}
use Rattle.clr_model.proofs.PlugsOf.{AreJoined, plugs-all}
use Rattle.clr_sweep.specs.SweptItems.{stays}
use Rattle.clr_plan.specs.Runs.{HasNext}
use Rattle.clr_plan.specs.Scans.{CanScan, plugs_between, survivor_in, survivors_between}
use Rattle.clr_plan.specs.Stages.{CanGo, HasGone, Stage}
use Rattle.clr_plan.specs.declared.pointer.Pointer.{Pointer}
use Rattle.clr_plan.specs.declared.scan.NextPlug.{NextPlug}
use Rattle.clr_heap.proofs.Spelling.{item_size}
use Rattle.clr_plan.proofs.Scanning.{plugs-above}
use Rattle.clr_plan.proofs.BehindTheWalk.{plugs-same, scans-on}

pub shape-back : (old now : HeapView) → SameShape old now → SameShape now old
shape-back old now s = record {
  memories = sym s.memories;
  others =
      sym (ap (λ (v : HeapView). record v { memories = old.memories }) s.others);
}

-- ---- the next plug

module _ (rows : List TypeRow) (old now : HeapView) (k p e below : ℕ) (shape : SameShape old now) (ahead : (b : ℕ)
    → b % 8 ≡ 0 → below ≤ b + 8 → word_of now b ≡ word_of old b) (up : below ≤ p) (s : CanScan rows old k p e) where
  pub scan-now : CanScan rows now k p e
  scan-now = scans-on rows old now k p e shape (λ b z low high. ahead b z (omega (arith, low, up))) s

  pub plugs-now : plugs_between rows now k p e ≡ plugs_between rows old k p e
  plugs-now = plugs-same rows old now k p e shape (λ b z low high. ahead b z (omega (arith, low, up))) s

  -- the plug that was read in the heap as it is, is the next one of the heap as it was
  pub next-old : (found : NextPlug) → HasNext rows now k p e found → HasNext rows old k p e found
  next-old found n =
      let above = n.above in
      let back : (b : ℕ) → b % 8 ≡ 0 → found.next ≤ b + 8 → b + 8 < e → word_of old b ≡ word_of now b =
      λ b z low high. sym (ahead b z (omega (arith, low, above, up))) in
      let same = plugs-same rows now old k found.next e (shape-back old now shape) back n.scan in
      record {
        plugs = sym plugs-now ∙ n.plugs ∙ ap (λ (ps : List Plug). found.plug ∷ ps) (sym same);
        segment = n.segment ∙ ap (λ (h : HeapView). (segment_at h k).base) shape.others;
        scan = scans-on rows now old k found.next e (shape-back old now shape) back n.scan;
        above = above;
      }

-- ---- the stage

module _ (w : Stage) (old now : HeapView) (heap : IsHeap now) (shape : SameShape old now) where
  abbrev mid : HeapView
  mid = record old { memories = now.memories }

  heap-mid : IsHeap mid
  heap-mid = subst IsHeap shape.others heap

  pub go-on : (entries : List PinEntry) (at : Pointer) (home : ℕ) (plug : Plug) → CanGo w old entries at home plug
      → CanGo w now entries at home plug
  go-on entries at home plug can =
      let same : CanGo w mid entries at home plug = record {
        among = record {
          heap = heap-mid;
          in_range = can.among.in_range;
          order = can.among.order;
          high = can.among.high;
          listed = λ s i. let l = can.among.listed s i in record {
            index = l.index;
            in_range = l.in_range;
            is = l.is;
            alike = l.alike;
          };
          between = can.among.between;
        };
        plugs = can.plugs;
        next = can.next;
        of = can.of;
        behind = can.behind;
        stands = can.stands;
      } in
      subst (λ h. CanGo w h entries at home plug) (sym shape.others) same

  pub gone-back : IsHeap old → (entries : List PinEntry) (at : Pointer) (home : ℕ) (plug : Plug) (to : ℕ)
      (after : Pointer) → HasGone w now entries at home plug to after → HasGone w old entries at home plug to after
  gone-back heap_old entries at home plug to after gone =
      let same : HasGone w mid entries at home plug to after = subst (λ h. HasGone w h entries at home plug to after)
      shape.others gone in
      record {
        placed = same.placed;
        among = record {
          heap = heap_old;
          in_range = same.among.in_range;
          order = same.among.order;
          high = same.among.high;
          listed = λ s i. let l = same.among.listed s i in record {
            index = l.index;
            in_range = l.in_range;
            is = l.is;
            alike = l.alike;
          };
          between = same.among.between;
        };
        behind = same.behind;
        stands = same.stands;
      }

-- ---- where plugs lie

-- what begins and ends at multiples of 8, and ends at e or below
pub record LiesUpTo (e start end : ℕ) : Type 0 where
  pub starts : start % 8 ≡ 0
  pub ends : end % 8 ≡ 0
  pub high : end ≤ e

items-whole : (s : Sight) (ps : List Part) (p e : ℕ) → p % 8 ≡ 0 → Spells s p ps e
    → AllByRecursion (λ (i : Item). i.size % 8 ≡ 0) (items_in ps)
items-whole s [] p e z h = tt
items-whole s (item_part i ∷ ps) p e z h = let f = item_size s i p h.1 h.2 in
    (f.1, items-whole s ps (p + i.size) e (let m = f.1 in omega (arith, z, m)) h.3)
items-whole s (rest_part low high ∷ ps) p e z h = items-whole s ps high e h.3 h.4

module _ (rows : List TypeRow) (h : HeapView) (k p e : ℕ) (s : CanScan rows h k p e) where
  survivors-lie : AllByRecursion (λ (v : Survivor). LiesUpTo e v.place (v.place + v.size))
      (survivors_between rows h k p e)
  survivors-lie = all_members (λ (v : Survivor). LiesUpTo e v.place (v.place + v.size)) (survivors_between rows h k p e)
      at
    where
      at : (v : Survivor) → IsIn v (survivors_between rows h k p e) → LiesUpTo e v.place (v.place + v.size)
      at v i =
          let (it, same, j) = from-map (survivor_in h k) v
          (filter (stays (word_of h)) (items_between (sight rows h k) p e)) i in
          let (t, n) = out_of_filter (stays (word_of h)) it (items_between (sight rows h k) p e) j in
          let is : IsItem rows p e it = all_at (IsItem rows p e) n
          (items-are (sight rows h k) (parts e (sight rows h k) p e) p e s.walk.start s.walk.spelled) in
          let whole : it.size % 8 ≡ 0 = all_at (λ (i : Item). i.size % 8 ≡ 0) n
          (items-whole (sight rows h k) (parts e (sight rows h k) p e) p e s.walk.start s.walk.spelled) in
          let z = is.aligned in
          let below = is.below in
          let P : Survivor → Type 0 = λ u. LiesUpTo e u.place (u.place + u.size) in
          subst P (sym same) (record { starts = z; ends = omega (arith, z, whole); high = below })

  pub plugs-lie : AllByRecursion (λ (q : Plug). LiesUpTo e q.start (plug_end q)) (plugs_between rows h k p e)
  plugs-lie = plugs-all (λ (v : Survivor). LiesUpTo e v.place (v.place + v.size))
      (λ (q : Plug). LiesUpTo e q.start (plug_end q)) (λ v l. l) longer (survivors_between rows h k p e) survivors-lie
    where
      longer : (v : Survivor) (q : Plug) → LiesUpTo e v.place (v.place + v.size) → LiesUpTo e q.start (plug_end q)
          → AreJoined v q → LiesUpTo e v.place (v.place + (v.size + q.size))
      longer v q l m j =
          let touch = j.touch in
          let high = m.high in
          let z = m.ends in
          record { starts = l.starts; ends = omega (arith, touch, z); high = omega (arith, touch, high) }

  -- where the next plug lies
  pub next-lies : (plug : Plug) (rest : List Plug) → plugs_between rows h k p e ≡ plug ∷ rest
      → LiesUpTo e plug.start (plug_end plug) × (p ≤ plug.start)
  next-lies plug rest is =
      let P : List Plug → Type 0 = AllByRecursion (λ (q : Plug). LiesUpTo e q.start (plug_end q)) in
      let Q : List Plug → Type 0 = AllByRecursion (λ (q : Plug). p ≤ q.start) in (
        (subst P is plugs-lie).0,
        (subst Q is (plugs-above rows h k p e s)).0,
      )
