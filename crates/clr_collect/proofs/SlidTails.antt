-- After a slide of the large heap the ephemeral segment is as it was.
use Rattle.std.proofs.Common.{◌≡◌, ap, sym, ◌∙◌}
use Rattle.clr_types.specs.Segments.{ephemeral, Layout}
use Rattle.clr_types.specs.declared.segment.SegInfo.{SegInfo}
use Rattle.clr_model.specs.Lawful.{IsLaid}
use Rattle.clr_model.specs.Machine.{Machine}
use Rattle.clr_model.specs.Slide.{slid_layout}
use Rattle.clr_model.proofs.SlidLaid.{ephemeral_stays}
use Rattle.clr_view.specs.Memory.{IsMemoryOf}
use Rattle.clr_view.specs.View.{layout_in, tail_of}
use Rattle.clr_view.specs.World.{World}
use Rattle.clr_survivors.specs.Large.{HaveSlid}

module _ (old new : World) (n : Machine) (memory : IsMemoryOf old.rows old.heap n) (laid : IsLaid n)
    (s : HaveSlid old new n) where
  layout-is : layout_in new.rows new.heap ≡ slid_layout n.layout s.moves
  layout-is = s.layout ∙ s.slid.laid

  start-stays : new.heap.start0 ≡ old.heap.start0
  start-stays = ap (λ (l : Layout). l.start0) layout-is ∙ ap (λ (l : Layout). l.start0) memory.layout

  tail-stays : tail_of new.heap ≡ tail_of old.heap
  tail-stays =
      ap (λ (l : Layout). (ephemeral l).end) layout-is
      ∙ ap (λ (t : SegInfo). t.end) (ephemeral_stays n laid s.moves s.after s.slid)
      ∙ ap (λ (l : Layout). (ephemeral l).end) memory.layout

  -- GENERATION 0 IS EMPTY where it was
  pub slid_tail : old.heap.start0 ≡ tail_of old.heap → new.heap.start0 ≡ tail_of new.heap
  slid_tail empty = start-stays ∙ empty ∙ sym tail-stays
