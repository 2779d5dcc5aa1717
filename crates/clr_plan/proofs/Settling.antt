-- A plug that is settled: a pinned one stays, and another goes where the search has found its place.
use Rattle.std.proofs.Common.{◌≡◌, ℕ, ◌+◌, List, [], ◌∷◌, ◌++◌, refl, sym, ap, subst, ◌∙◌, arith}
use Rattle.std.proofs.Common.{Bool, true, false, MatchBool, if◌then◌else◌}
use Rattle.clr_pinq.specs.declared.entry.PinEntry.{PinEntry}
use Rattle.clr_heap.specs.View.{HeapView, segment_at}
use Rattle.clr_model.specs.Compaction.{Plug, IsDestination, piece_of_plug}
use Rattle.clr_plan.specs.Pointing.{IsAt}
use Rattle.clr_plan.specs.Waiting.{ranges_from, with_pin}
use Rattle.clr_plan.specs.Stages.{Stage, all_plugs, CanGo, CanPlace, HasFound, HasGone}
use Rattle.clr_plan.specs.declared.pointer.Pointer.{Pointer}
use Rattle.clr_plan.proofs.Trying.{stays-at}

at_true : (b : Bool) (P Q : Type 0) → b ≡ true → P → MatchBool b P Q
at_true true P Q e p = p
at_true false P Q e p = absurd cc

at_false : (b : Bool) (P Q : Type 0) → b ≡ false → Q → MatchBool b P Q
at_false false P Q e q = q
at_false true P Q e q = absurd cc

module _ (w : Stage) (h : HeapView) (entries : List PinEntry) (at : Pointer) (home : ℕ) (plug : Plug)
    (can : CanGo w h entries at home plug) where
  -- a pinned plug stays
  pub gone-pinned : plug.pinned ≡ true → HasGone w h entries at home plug plug.start at
  gone-pinned pinned =
      let mine : w.plug.pinned ≡ true = ap (λ (p : Plug). p.pinned) can.next ∙ pinned in
      let left : ranges_from at.passed entries ++ piece_of_plug w.plug ∷ [] ≡ with_pin (ranges_from at.passed entries)
      plug =
      ap (λ (p : Plug). ranges_from at.passed entries ++ piece_of_plug p ∷ []) can.next
      ∙ sym (ap (λ b. if b then ranges_from at.passed entries ++ piece_of_plug plug ∷ [] else ranges_from at.passed
      entries) pinned) in
      record {
        placed = (
          sym (ap (λ (p : Plug). p.start) can.next),
          sym (ap (λ (p : Plug). p.size) can.next),
          at_true w.plug.pinned ((plug.start ≡ w.plug.start) × (at.place ≡ at.place))
              (IsDestination w.segments (all_plugs w) at.place w.plug.size plug.start
              × (at.place ≡ plug.start + plug.size)) mine (sym (ap (λ (p : Plug). p.start) can.next), refl),
        );
        among = can.among;
        behind = can.behind;
        stands = subst (λ ps. IsAt w.segments (w.done ++ w.plug ∷ []) w.ahead (segment_at h at.segment) at.place ps)
            left
            (stays-at w.segments w.done w.plug w.ahead mine (segment_at h at.segment) at.place
            (ranges_from at.passed entries) can.stands);
      }

  pub can-place : plug.pinned ≡ false → CanPlace w h entries at home plug.size
  can-place unpinned = record {
    among = can.among;
    plugs = can.plugs;
    unpinned = ap (λ (p : Plug). p.pinned) can.next ∙ unpinned;
    sized = sym (ap (λ (p : Plug). p.size) can.next);
    of = ap (λ (p : Plug). p.segment) can.next ∙ can.of;
    behind = can.behind;
    stands = can.stands;
  }

  -- another goes where the search has found its place
  gone-found : (found : Pointer) → plug.pinned ≡ false → HasFound w h entries at home found
      → HasGone w h entries at home plug found.place (record found { place = found.place + plug.size })
  gone-found found unpinned is =
      let mine : w.plug.pinned ≡ false = ap (λ (p : Plug). p.pinned) can.next ∙ unpinned in
      let size : w.plug.size ≡ plug.size = ap (λ (p : Plug). p.size) can.next in
      let order = is.order in
      let pins = ranges_from found.passed entries in
      let without : pins ≡ with_pin pins plug = sym (ap (λ b. if b then pins ++ piece_of_plug plug ∷ [] else pins)
      unpinned) in
      record {
        placed = (
          sym (ap (λ (p : Plug). p.start) can.next),
          sym size,
          at_false w.plug.pinned ((found.place ≡ w.plug.start) × (found.place + plug.size ≡ at.place))
              (IsDestination w.segments (all_plugs w) at.place w.plug.size found.place
              × (found.place + plug.size ≡ found.place + plug.size)) mine (is.lands, refl),
        );
        among = record {
          heap = can.among.heap;
          in_range = can.among.in_range;
          order = is.most;
          high = is.high;
          listed = can.among.listed;
          between = λ j l. can.among.between j (omega arith);
        };
        behind = is.behind;
        stands = subst (λ ps. IsAt w.segments (w.done ++ w.plug ∷ []) w.ahead (segment_at h found.segment)
            (found.place + plug.size) ps) without
            (subst (λ n. IsAt w.segments (w.done ++ w.plug ∷ []) w.ahead (segment_at h found.segment) (found.place + n)
            (ranges_from found.passed entries)) size is.at);
      }

  pub gone-by : (found : Pointer) (size : ℕ) → size ≡ plug.size → plug.pinned ≡ false
      → ((w : Stage) → CanPlace w h entries at home size → HasFound w h entries at home found)
      → HasGone w h entries at home plug found.place (record found { place = found.place + plug.size })
  gone-by found size sized unpinned search = gone-found found unpinned
      (search w (subst (λ n. CanPlace w h entries at home n) (sym sized) (can-place unpinned)))
