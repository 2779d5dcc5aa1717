-- Relocation begins, and ends.
use Rattle.std.proofs.Common.{◌≡◌, inl, inr, ℕ, ◌+◌, ◌/◌, ◌<◌, ◌≤◌, ◌⊎◌, Bool, true, List, length, refl}
use Rattle.std.proofs.Common.{◌∙◌, arith}
use Rattle.clr_types.specs.Rising.{IsIn}
use Rattle.clr_types.specs.Segments.{Layout}
use Rattle.std.specs.List.{AllByRecursion}
use Rattle.clr_types.specs.Table.{IsLawfulRow}
use Rattle.clr_types.specs.Types.{TypeRow}
use Rattle.clr_types.specs.declared.item.Item.{Item}
use Rattle.clr_heap.specs.View.{HeapView, word_of}
use Rattle.clr_heap.proofs.Rewrite.{SameShape-refl}
use Rattle.clr_model.specs.Compaction.{Move, moved_by}
use Rattle.clr_view.proofs.Standing.{standing}
use Rattle.clr_plugs.specs.BrickEntries.{BricksView}
use Rattle.clr_pinq.specs.declared.entry.PinEntry.{PinEntry}
use Rattle.clr_generations.specs.Laws.{CardLaw}
use Rattle.clr_moves.specs.Objects.{AreFollowed}
use Rattle.clr_moves.specs.Overlaid.{HoldsPlan, IsPlugWord}
use Rattle.clr_moves.specs.declared.condemned.Condemned.{Condemned}
use Rattle.clr_moves.specs.Moves.{age_of}
use Rattle.clr_reloc.specs.Partial.{HaveOldPartsOf}
use Rattle.clr_reloc.specs.Outside.{AreAheadOutside, AreCardedOutside, AreCardedPlugs, HaveGoneOutside, HaveGonePlugs}
use Rattle.clr_reloc.specs.Outside.{HaveNoneOver, IsOutsideWord}
use Rattle.clr_reloc.specs.References.{references_of}
use Rattle.clr_reloc.specs.Relocated.{HasRelocated, left_objects}
use Rattle.clr_reloc.specs.Relocating.{IsCarded, IsLeftItem, IsLeftReference, IsRelocating, IsUnderway}
use Rattle.clr_reloc.proofs.CardsAfter.{card_law}
use Rattle.clr_reloc.proofs.Cells.{left_inside}
use Rattle.clr_reloc.proofs.LeftHomes.{home, InsidePlug, InsideSegment, keeps_told, none_over}
use Rattle.clr_reloc.proofs.NewObjects.{has_relocated}
use Rattle.clr_reloc.proofs.Outer.{no_plug}
use Rattle.clr_reloc.proofs.PlugItems.{in_plug}

module _ (rows : List TypeRow) (view h : HeapView) (bricks : BricksView) (entries : List PinEntry) (g : Condemned)
    (vs : List Move) (start1 start0 : ℕ) (least : age_of g ≤ 2)
    (plan : HoldsPlan rows view h bricks entries g vs start1 start0)
    (followed : AreFollowed rows view g vs)
    (old : HaveOldPartsOf rows view g) (lawful : AllByRecursion IsLawfulRow rows) where
  pub begins : IsRelocating rows view view h bricks entries g vs start1 start0
  begins =
      let over = plan.overlaid in
      record {
        begun = record {
          before = h;
          bricks = bricks;
          entries = entries;
          plan = plan;
          followed = followed;
          lawful =
              lawful;
        };
        underway = record { shape = SameShape-refl view; words = λ b z. inl refl };
        shape = over.shape;
        words = λ b z kept. elim kept [
          | inl plug ↦ over.cells plug.0 b z plug.1
          | inr out ↦ over.outside b z out
        ];
        saved = over.saved;
        hidden = over.hidden;
        told = plan.told;
      }

  pub over_none : HaveNoneOver rows view g
  over_none = none_over rows view g least plan.overlaid.heap plan.held old

  -- a word outside is in no plug
  apart : (k t b : ℕ) → t < length view.segments → IsOutsideWord view g t b → IsPlugWord vs k b → ⊥
  apart k t b l w p =
      no_plug rows view g vs plan.overlaid.heap plan.held plan.no_contexts plan.overlaid.moves plan.overlaid.starts
      over_none t l k (b + 8) w.0 w.1 (record { within = p.within; low = p.low; high = p.high })

  pub ahead_outside : (next : HeapView) → HaveGonePlugs rows view next g vs (length vs)
      → AreAheadOutside view next g (length view.segments) 0
  ahead_outside next gone t b from l z w = gone.others b z (λ k less p. apart k t b l w p)

  homes : (i : Item) → IsLeftItem rows view g i
      → InsidePlug rows view g least plan.overlaid.heap plan.held old vs i
      ⊎ InsideSegment rows view g least plan.overlaid.heap plan.held old i
  homes = home rows view g least plan.overlaid.heap plan.held old vs
      (in_plug rows view h bricks entries g vs start1 start0 plan least)

  module _ (next mid : HeapView) (plugs : HaveGonePlugs rows view next g vs (length vs))
      (outside : HaveGoneOutside rows view next mid g vs (length view.segments)) where
    all_done : (b : ℕ) → IsLeftReference rows view g b → word_of mid b ≡ moved_by vs (word_of view b)
    all_done b r =
        let c = left_inside rows view plan.overlaid.heap plan.held g b r in
        let above = c.above in
        let below = c.below in
        elim (homes r.item r.left) [
          | inl p ↦
              let low = p.low in
              let high = p.high in
              let w : IsPlugWord vs p.number b = record { within = p.within; low = omega arith; high = omega arith } in
              outside.others b c.aligned (λ t l o. apart p.number t b l o w) ∙ plugs.done p.number b p.within w r
          | inr s ↦
              let low = s.low in
              let high = s.high in
              outside.done s.number b s.within (omega arith, omega arith) r
        ]

    pub relocated_all : IsUnderway rows view mid g vs → HasRelocated rows view mid g vs
    relocated_all u =
        has_relocated rows view mid g vs plan.overlaid.heap plan.held plan.no_contexts u
        (keeps_told rows view g least plan.overlaid.heap plan.held old) all_done

  pub law_after : (layout : Layout) (before is_set : ℕ → Bool) → ((c : ℕ) → before c ≡ true → is_set c ≡ true)
      → AreCardedPlugs rows view g vs layout before (length vs)
      → AreCardedOutside rows view g vs layout is_set (length view.segments)
      → CardLaw rows layout (left_objects rows view g vs) is_set
  law_after layout before is_set kept plugs outside = card_law rows view g vs layout is_set carded
    where
      carded : (i : Item) (offset : ℕ) → IsLeftItem rows view g i → IsIn offset (references_of rows i)
          → IsCarded view vs layout is_set i.place offset
      carded i offset left m less =
          let size = (standing rows view plan.overlaid.heap plan.held i left.listed).least in
          elim (homes i left) [
            | inl p ↦
                let low = p.low in
                let high = p.high in
                kept ((moved_by vs i.place + offset) / 2048)
                (plugs p.number p.within i offset left low (omega arith) m less)
            | inr s ↦
                let low = s.low in
                let high = s.high in
                outside s.number s.within i offset left low (omega arith) m less
          ]
