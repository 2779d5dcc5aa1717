-- A scan of a segment's items for survivors, one item after the other.
use Rattle.std.proofs.Common.{◌≡◌, ℕ, ◌+◌, ◌-◌, ◌<◌, ◌≤◌, List, [], ◌∷◌, map, filter, sym, ap, ◌∙◌, arith, true, false}
use Rattle.std.proofs.Common.{if◌then◌else◌}
use Rattle.std.specs.List.{AllByRecursion}
use Rattle.clr_types.specs.Rising.{IsIn}
use Rattle.clr_types.specs.Types.{TypeRow}
use Rattle.clr_types.specs.declared.item.Item.{Item}
use Rattle.clr_types.proofs.ChangedLists.{all_members, out_of_filter}
use Rattle.clr_types.proofs.ListMembers.{from-map}
use Rattle.clr_types.proofs.RisingLists.{all_at}
use Rattle.clr_heap.specs.Parts.{item_at, parts}
use Rattle.clr_heap.specs.View.{HeapView, items_between, sight, word_of}
use Rattle.clr_heap.proofs.Walking.{walk_item, walk_done}
use Rattle.clr_view.proofs.Items.{IsItem, items-are}
use Rattle.clr_model.specs.Sweep.{Survivor}
use Rattle.clr_model.specs.Compaction.{Plug}
use Rattle.clr_model.proofs.PlugsOf.{plugs-all}
use Rattle.clr_sweep.specs.SweptItems.{stays}
use Rattle.clr_plan.specs.Scans.{CanScan, CanLook, survivor_in, survivors_between, plugs_between}

module _ (rows : List TypeRow) (h : HeapView) (k p e : ℕ) (s : CanScan rows h k p e) where
  pub survivors-done : e ≤ p → survivors_between rows h k p e ≡ []
  survivors-done l = ap (λ is. map (survivor_in h k) (filter (stays (word_of h)) is))
      (walk_done (sight rows h k) h.memories p e s.walk l)

  -- survivors stand at p or above
  pub survivors-above : AllByRecursion (λ (v : Survivor). p ≤ v.place) (survivors_between rows h k p e)
  survivors-above = all_members (λ (v : Survivor). p ≤ v.place) (survivors_between rows h k p e) at
    where
      at : (v : Survivor) → IsIn v (survivors_between rows h k p e) → p ≤ v.place
      at v i =
          let (it, same, j) = from-map (survivor_in h k) v
          (filter (stays (word_of h)) (items_between (sight rows h k) p e)) i in
          let (t, n) = out_of_filter (stays (word_of h)) it (items_between (sight rows h k) p e) j in
          let is : IsItem rows p e it = all_at (IsItem rows p e) n
          (items-are (sight rows h k) (parts e (sight rows h k) p e) p e s.walk.start s.walk.spelled) in
          let above = is.above in
          let place : v.place ≡ it.place = ap (λ (v : Survivor). v.place) same in
          omega arith

  pub plugs-above : AllByRecursion (λ (q : Plug). p ≤ q.start) (plugs_between rows h k p e)
  plugs-above = plugs-all (λ (v : Survivor). p ≤ v.place) (λ (q : Plug). p ≤ q.start) (λ v l. l) (λ v q l m j. l)
      (survivors_between rows h k p e) survivors-above

  module _ (below : p < e) where
    abbrev pub it : Item
    it = item_at rows (word_of h) p

    abbrev pub after : ℕ
    after = p + it.size

    pub record AtItem : Type 0 where
      pub can : CanLook rows h k p
      pub least : 24 ≤ it.size
      pub within : after ≤ e
      pub scan : CanScan rows h k after e
      pub items : items_between (sight rows h k) p e ≡ it ∷ items_between (sight rows h k) after e

    pub at_item : AtItem
    at_item =
        let step = walk_item (sight rows h k) h.memories p e s.walk below (s.none p) in
        let z = s.walk.start in
        let up = s.up in
        let high = s.high in
        let within = step.within in
        let least = step.names.least in
        record {
          can = record {
            item = record { names = step.names; mt = step.mt; len = step.len };
            mt_in = sym (s.index p (omega arith) (omega arith));
            len_in = sym (s.index (p + 8) (omega arith) (omega arith));
            header = record {
              aligned = omega arith;
              inside = s.walk.held (p - 8) (omega arith) (omega arith)
                  (omega arith);
            };
            header_in = sym (s.index (p - 8) (omega arith) (omega arith));
            above = omega arith;
            room = omega arith;
          };
          least = least;
          within = within;
          scan = record {
            walk = step.walk;
            index = λ b lo hi. s.index b (omega arith) hi;
            none = s.none;
            up = omega arith;
            high = s.high;
          };
          items = step.items;
        }

    stepped : survivors_between rows h k p e ≡ map (survivor_in h k) (if stays (word_of h) it then it ∷ filter
        (stays (word_of h)) (items_between (sight rows h k) after e) else filter (stays (word_of h))
        (items_between (sight rows h k) after e))
    stepped = ap (λ is. map (survivor_in h k) (filter (stays (word_of h)) is)) at_item.items

    pub survivors-more : stays (word_of h) it ≡ true → survivors_between rows h k p e
        ≡ survivor_in h k it ∷ survivors_between rows h k after e
    survivors-more on = stepped ∙ ap (λ b. map (survivor_in h k) (if b then it ∷ filter (stays (word_of h))
        (items_between (sight rows h k) after e) else filter (stays (word_of h)) (items_between (sight rows h k) after
        e))) on

    pub survivors-over : stays (word_of h) it ≡ false → survivors_between rows h k p e ≡ survivors_between rows h k
        after e
    survivors-over off = stepped ∙ ap (λ b. map (survivor_in h k) (if b then it ∷ filter (stays (word_of h))
        (items_between (sight rows h k) after e) else filter (stays (word_of h)) (items_between (sight rows h k) after
        e))) off
