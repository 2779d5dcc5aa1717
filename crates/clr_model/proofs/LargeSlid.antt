-- The slide of the large heap: it exists, and where its plugs land.
use Rattle.std.proofs.Common.{ℕ, ◌<◌, List, [], ◌∷◌, ◌++◌, map, length, refl, sym, subst}
use Rattle.std.proofs.Common.{arith, Bool, true}
use Rattle.std.proofs.lemmas.List.{append-nil}
use Rattle.clr_types.specs.Rising.{IsIn, first}
use Rattle.clr_types.specs.declared.segment.SegKind.TheVariants.{Large}
use Rattle.clr_types.specs.declared.segment.SegInfo.{SegInfo}
use Rattle.clr_types.specs.Segments.{Layout, first_place, same_kind, segments_of}
use Rattle.clr_types.proofs.ChangedLists.{out_of_filter}
use Rattle.clr_model.specs.Machine.{Machine}
use Rattle.clr_model.specs.Lawful.{IsLaid}
use Rattle.clr_model.specs.Sweep.{survivors}
use Rattle.clr_model.specs.Compaction.{Plug, Move}
use Rattle.clr_model.specs.Slide.{large_segments, large_plugs, lowest_place, slid_layout}
use Rattle.clr_model.specs.Slide.{IsLargeSlid, SlidesLarge, slid_object}
use Rattle.clr_model.proofs.PlugRoom.{ArePlugs}
use Rattle.clr_model.proofs.FirstPointer.{AreStarts, first-near, first-outside}
use Rattle.clr_model.proofs.PlugWalk.{AreInLine}
use Rattle.clr_model.proofs.PlacedPlugs.{in_line}
use Rattle.clr_model.proofs.CompactionExists.{ArePlaced, all_placed}
use Rattle.clr_model.proofs.LargeSurvivors.{are_large-plugs, are_large-starts, is-large}

some_first : {X : Type 0} (xs : List X) → 0 < length xs → (x : X) × IsIn x xs
some_first [] l = absurd (omega arith)
some_first (x ∷ xs) l = (x, first)

module _ (m : Machine) (h : IsLaid m) where
  -- there is a large segment
  pub one-large : (s : SegInfo) × IsIn s (large_segments m.layout)
  one-large =
      let (s, i) = some_first (segments_of Large m.layout) h.layout.some_large in
      let (k, j) = out_of_filter (λ (s : SegInfo). same_kind Large s.kind) s m.layout.segments i in
      (s, is-large m h s j k)

  module _ (keeps : ℕ → Bool) where
    abbrev parts : List SegInfo
    parts = large_segments m.layout

    abbrev plugs : List Plug
    plugs = large_plugs m.layout (survivors m 2 keeps)

    abbrev pointer : ℕ
    pointer = lowest_place m.layout

    are : ArePlugs parts plugs
    are = are_large-plugs m h keeps

    starts : AreStarts parts plugs first_place pointer
    starts = are_large-starts m h keeps (one-large.0) (one-large.1)

    line : AreInLine plugs plugs
    line = in_line parts plugs are plugs are.rise (λ p i. i)

    placed : ArePlaced parts plugs pointer plugs []
    placed =
        let same : AreInLine plugs (plugs ++ []) = subst (AreInLine plugs) (sym (append-nil plugs)) line in
        all_placed parts plugs are plugs [] same pointer
        (first-near parts plugs are first_place pointer starts (plugs ++ []) same)
        (first-outside parts plugs are first_place pointer starts)

    pub can_slide : (moves : List Move) × (new : Layout) × IsLargeSlid m.layout (survivors m 2 keeps) moves new
    can_slide = (
      placed.moves,
      slid_layout m.layout placed.moves,
      record { after = placed.after; placed = placed.placed; laid = refl },
    )

pub slide_exists : (m : Machine) → IsLaid m → (moves : List Move) × (new : Machine) × SlidesLarge m moves new
slide_exists m h =
    let (moves, layout, slid) = can_slide m h (λ name. true) in (
      moves,
      record m { objects = map (slid_object moves) m.objects; layout = layout },
      record { layout = layout; slid = slid; state = refl },
    )
