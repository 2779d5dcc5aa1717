-- A context taken from the tail of the ephemeral segment keeps a machine lawful.
use Rattle.std.proofs.Common.{◌≡◌, ℕ, ◌+◌, ◌-◌, ◌<◌, ◌≤◌, ◌∷◌, ◌++◌, map, sym, subst, ◌∙◌, arith, true, false, Some}
use Rattle.std.proofs.Common.{None}
use Rattle.std.proofs.lemmas.Bool.{leb-true}
use Rattle.clr_types.specs.Rising.{IsIn}
use Rattle.clr_types.specs.Ranges.{Piece, range_piece, IsLawfulSize}
use Rattle.clr_types.specs.Segments.{Layout, reserved_end, stands_in, ephemeral, with_end}
use Rattle.clr_types.specs.Segments.{fits_in_tail, generation, rest_pieces, rest_of}
use Rattle.clr_types.specs.LawfulLayout.{IsLawfulLayout}
use Rattle.clr_types.specs.declared.segment.SegInfo.{SegInfo}
use Rattle.clr_types.proofs.ChangedLists.{all_imply, length-slice_set}
use Rattle.clr_types.proofs.Shuffles.{IsShuffled, under, followed, shuffled-sym, shuffled-right, shuffled-behind}
use Rattle.clr_types.proofs.SegmentFacts.{ephemeral-in}
use Rattle.clr_model.specs.Machine.{Machine}
use Rattle.clr_model.specs.Lookups.{is_thread, is_step, step_of, object_piece}
use Rattle.clr_model.specs.Updates.{option_piece}
use Rattle.clr_model.specs.Allocation.{from_tail, with_layout}
use Rattle.clr_model.specs.Lawful.{IsLawful, SuitsItsSegment}
use Rattle.clr_model.proofs.SplitPieces.{unsorted_pieces}
use Rattle.clr_model.proofs.ContextChange.{rest_of-put, context-is, is-young, rooms_kept, relaid_lawful}
use Rattle.clr_model.proofs.ItemContext.{laid_from, same_segments, no-rest, new-rest, young-rests, other-rests}
use Rattle.clr_model.proofs.TailRaised.{generation-raised, reserved_sum-raised, end-stands, raised_layout}
use Rattle.clr_model.proofs.TailPieces.{suited_raised, tail_fills}

module _ (m : Machine) (h : IsLawful m) (t : ℕ) (thread : is_thread t ≡ true) (idle : is_step (step_of m t) ≡ false)
    (bare : rest_of m.layout t ≡ None)
    (size : ℕ) (lawful : IsLawfulSize size) (room : fits_in_tail (ephemeral m.layout) size ≡ true)
  where
    abbrev young : SegInfo
    young = ephemeral m.layout

    abbrev from : Layout
    from = from_tail m.layout t size

    -- the layout is lawful
    layout_is : IsLawfulLayout m.layout
    layout_is = h.laid.layout

    -- the ephemeral segment is one of the segments
    among : IsIn young m.layout.segments
    among = ephemeral-in m.layout layout_is

    -- it has the bytes
    within : young.end + size ≤ reserved_end young
    within = leb-true (young.end + size) (reserved_end young) room

    -- there are some
    some : 0 < size
    some = let (least, aligned) = lawful in omega arith

    -- the old end is a place in it
    old_end_stands : stands_in young young.end ≡ true
    old_end_stands = end-stands m.layout layout_is young among size within some

    -- the context is one piece more
    now : IsShuffled ((map (object_piece m.types) m.objects ++ m.layout.free) ++ rest_pieces from.rests)
        (record { place = young.end; size = size } ∷ unsorted_pieces m)
    now =
        let held = map (object_piece m.types) m.objects ++ m.layout.free in
        let rests = no-rest m h t thread idle bare in
        let was : IsShuffled (unsorted_pieces m) (held ++ rests.others) = shuffled-right held rests.was in
        followed (shuffled-right held (new-rest m h t thread idle bare young.end size some))
        (followed (shuffled-sym (shuffled-behind (record { place = young.end; size = size }) held rests.others))
        (under (shuffled-sym was)))

    -- a context from the tail
    pub from_tail_lawful : IsLawful (with_layout m (from_tail m.layout t size))
    from_tail_lawful =
        let (least, aligned) = lawful in
        let gen = is-young m.layout young.end layout_is.start1_high old_end_stands layout_is.start0_high in
        let same = generation-raised m.layout layout_is young among size in
        let fills = tail_fills m h.laid young among size lawful room
        ((map (object_piece m.types) m.objects ++ m.layout.free) ++ rest_pieces from.rests) now in
        relaid_lawful m from h
        (laid_from m from
        (same_segments (with_end m.layout young.base (young.end + size)) m.layout.free from.rests
        (raised_layout m.layout layout_is young among size within aligned) layout_is.free_rise
        (length-slice_set m.layout.rests (t - 1) (option_piece (range_piece young.end (young.end + size)))
        ∙ layout_is.threads))
        (record { housed = fills.housed; tiled = fills.tiled; whole1 = fills.whole1; whole0 = fills.whole0 }))
        (young-rests m h t thread idle bare from young.end size some (same young.end ∙ gen)
        (all_imply (λ (p : Piece). generation m.layout p.place ≡ 0) (λ (p : Piece). generation from p.place ≡ 0)
        (rest_pieces m.layout.rests) (λ p e. same p.place ∙ e) h.rests_young))
        (all_imply (SuitsItsSegment m) (SuitsItsSegment (with_layout m from)) m.objects
        (suited_raised m h.laid young among size) h.suited)
        (subst (λ n. n ≤ m.options.limit) (sym (reserved_sum-raised m.layout layout_is young among size)) h.limit)
        (rooms_kept m from t thread idle
        (other-rests m h t thread idle bare (option_piece (range_piece young.end (young.end + size)))) h.rooms)
        (λ o i. let e = same o.place in omega arith)

    -- which is the thread's
    pub from_tail-rest : rest_of (from_tail m.layout t size) t ≡ Some (record { place = young.end; size = size })
    from_tail-rest =
        rest_of-put m.layout t thread layout_is.threads (option_piece (range_piece young.end (young.end + size)))
        ∙ context-is young.end size some
