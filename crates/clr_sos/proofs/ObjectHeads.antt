-- What the code asks to read the item of an object.
use Rattle.std.proofs.Common.{◌≡◌, ℕ, ◌+◌, ◌^◌, ◌<◌, ap, sym, ◌∙◌, arith}
use Rattle.clr_types.specs.declared.item.Item.{Item}
use Rattle.clr_heap.specs.Memories.{memory_index}
use Rattle.clr_heap.specs.Parts.{item_at}
use Rattle.clr_heap.specs.View.{HasItem, word_of}
use Rattle.clr_view.specs.SlotValues.{IsObjectAt}
use Rattle.clr_view.proofs.Listed.{listed-low}
use Rattle.clr_view.proofs.ObjectItems.{stands-head, stands-item}
use Rattle.clr_view.proofs.Standing.{cell_index, len_in, mt_in, standing}
use Rattle.clr_sos.specs.Reaching.{IsObjectOf, IsSound}
use Rattle.clr_sos.specs.declared.view.View.{View}

module _ (v : View) (sound : IsSound v) (x : ℕ) (stands : IsObjectOf v x) where
  abbrev i : Item
  i = item_at v.types.now (word_of v.heap.now) x

  -- the item that its words spell
  pub head-item : IsObjectAt v.types.now v.heap.now x i
  head-item = stands-item v.types.now v.heap.now sound.closed.heap sound.closed.held x stands

  pub head-has : HasItem v.types.now v.heap.now x
  head-has = stands-head v.types.now v.heap.now sound.closed.heap sound.closed.held x stands

  -- its length is in the same segment
  pub head-near : memory_index v.heap.now.memories x ≡ memory_index v.heap.now.memories (x + 8)
  head-near =
      let rows = v.types.now in
      let h = v.heap.now in
      let heap = sound.closed.heap in
      let held = sound.closed.held in
      let listed = head-item.listed in
      let own = cell_index rows h heap held i i.place listed (mt_in rows h heap held i listed) in
      let next = cell_index rows h heap held i (i.place + 8) listed (len_in rows h heap held i listed) in
      ap (memory_index h.memories) (sym head-item.at) ∙ own ∙ sym next
      ∙ ap (λ (p : ℕ). memory_index h.memories (p + 8)) head-item.at

  pub head-room : x + 8 < 2 ^ 64
  head-room =
      let rows = v.types.now in
      let h = v.heap.now in
      let low = listed-low rows h i sound.closed.heap sound.closed.held head-item.listed in
      let least = (standing rows h sound.closed.heap sound.closed.held i head-item.listed).least in
      let place = head-item.at in
      omega (arith, low, least, place)
