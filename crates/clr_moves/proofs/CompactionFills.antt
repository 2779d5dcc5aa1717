-- A machine's compaction fills the parts of generations, and a slide of its large heap fills large segments.
use Rattle.std.proofs.Common.{◌≡◌, ℕ, ◌≤◌, inl, List, ◌++◌, refl, sym, ap, subst, ◌∙◌, arith}
use Rattle.std.proofs.Common.{Bool, true, false, ◌&&◌, if◌then◌else◌}
use Rattle.clr_types.specs.Rising.{IsIn}
use Rattle.clr_types.specs.Ranges.{by_place, Piece, Tiles}
use Rattle.clr_types.specs.LawfulLayout.{DoesNotCross, IsLawfulLayout}
use Rattle.clr_types.specs.Segments.{ephemeral, first_place, is_small_or_ephemeral, Layout, pieces_in, same_kind}
use Rattle.clr_types.specs.Segments.{stands_in}
use Rattle.clr_types.specs.Types.{TypeRow}
use Rattle.clr_types.specs.declared.segment.SegInfo.{SegInfo}
use Rattle.clr_types.specs.declared.segment.SegKind.TheVariants.{Large}
use Rattle.clr_types.proofs.ChangedLists.{into_filter}
use Rattle.clr_types.proofs.ListMembers.{map-on}
use Rattle.clr_types.proofs.RisingLists.{all_at}
use Rattle.clr_types.proofs.SegmentFacts.{ephemeral-kind, lawful_segment, one_home, stands-between}
use Rattle.clr_heap.specs.View.{frame, HeapView}
use Rattle.clr_model.specs.Compaction.{compacted_end, compacted_free, IsCompacted, Move, moved_pieces, Plug}
use Rattle.clr_model.specs.Compaction.{survivors_in}
use Rattle.clr_model.specs.Lawful.{IsLaid}
use Rattle.clr_model.specs.Lookups.{object_piece, pieces}
use Rattle.clr_model.specs.Machine.{Machine}
use Rattle.clr_model.specs.Slide.{IsLargeSlid, large_plugs, large_segments, slid_end, slid_free, slid_layout}
use Rattle.clr_model.specs.Sweep.{has_condemned_part, part_start, Survivor, survivors}
use Rattle.clr_model.proofs.AfterLayout.{layout_after}
use Rattle.clr_model.proofs.CollectedLayout.{ephemeral-other}
use Rattle.clr_model.proofs.CompactedPieces.{moves-rise}
use Rattle.clr_model.proofs.CompactedSmall.{end_is, ends_in, free_before_pin, none_overlap, source, walked_whole}
use Rattle.clr_model.proofs.CompactedSmall.{whole_line}
use Rattle.clr_model.proofs.CondemnedParts.{taking-is}
use Rattle.clr_model.proofs.CondemnedPlugs.{AreCondemned, line-complete}
use Rattle.clr_model.proofs.Landings.{AreGoing, AreLandings, IsMoveOf}
use Rattle.clr_model.proofs.LargeSurvivors.{all-take, large-is}
use Rattle.clr_model.proofs.LawfulPieces.{HasHome, object-in-pieces, piece-home}
use Rattle.clr_model.proofs.LawfulSurvivors.{aged, generation-least, IsSurvivor, survivor-is}
use Rattle.clr_model.proofs.LayoutLaws.{compaction_lawful}
use Rattle.clr_model.proofs.MovedPlaces.{is_small-survivor, landing, LandsIn, lands-in}
use Rattle.clr_model.proofs.PlugLanding.{IsBeforePin}
use Rattle.clr_model.proofs.PlugWalk.{IsLanded, move_of_plug}
use Rattle.clr_model.proofs.SlidPlugs.{slid_end-in, slid_free-before_pin, slid_landings, slid_tiles, starts}
use Rattle.clr_model.proofs.SweptLawful.{start-cuts}
use Rattle.clr_view.specs.View.{layout_in}
use Rattle.clr_sweep.proofs.SurvivorsSwept.{at-in, seen}
use Rattle.clr_moves.specs.Moves.{age_of, move_at, no_move, start_of}
use Rattle.clr_moves.specs.Overlaid.{IsCompactionOf}
use Rattle.clr_moves.specs.declared.condemned.Condemned.{Condemned}
use Rattle.clr_moves.specs.declared.condemned.Condemned.TheVariants.{Generations, LargeSegments}
use Rattle.clr_moves.proofs.FilledParts.{FillsParts}
use Rattle.clr_moves.proofs.FromMachine.{are_moves, is_ready, move_start, part_number, part_segment, tiles}
use Rattle.clr_moves.proofs.FromSlide.{are_slides, large_number, large_segment, slide_start}
use Rattle.clr_moves.proofs.PlannedMoves.{seen-compacted, seen-laid}
use Rattle.clr_moves.proofs.SegmentsBelow.{part_of_two}

-- ---- generations

module _ (rows : List TypeRow) (old : HeapView) (base : Machine) (laid : IsLaid (seen rows old base)) (g : ℕ)
    (least : g ≤ 2) (keeps : ℕ → Bool) (moves : List Move) (after : Layout)
    (c : IsCompacted (layout_in rows old) g (survivors (seen rows old base) g keeps) moves after) where
  abbrev m : Machine
  m = seen rows old base

  abbrev kept : List Survivor
  kept = survivors m g keeps

  abbrev survive : List Survivor
  survive = survivors_in is_small_or_ephemeral m.layout kept

  ready : AreCondemned m.layout g c.segments c.plugs
  ready = is_ready rows old base laid g least keeps moves after c

  abbrev Lands : Plug → Move → Type 0
  Lands = IsLanded c.segments c.plugs (source m.layout g kept moves after c ready)

  move-of : (p : Plug) (v : Move) → Lands p v → IsMoveOf p v
  move-of p v l = record { start = l.start; size = l.size; pinned = l.pinned; lower = l.lower }

  taken : (s : SegInfo) → IsIn s c.segments
      → (is_small_or_ephemeral s.kind ≡ true) × (has_condemned_part g s ≡ true) × IsIn s m.layout.segments
  taken s i = taking-is m.layout laid.layout g least s (subst (IsIn s) c.segments_are i)

  going : AreGoing m keeps survive c.plugs moves
  going = record {
    plugs_in = λ p i. subst (IsIn p) c.plugs_are i;
    survivors_are = λ k i.
        let is : IsSurvivor m laid g least keeps k = survivor-is m laid g least keeps k i in
        record {
          object = is.object;
          present = is.present;
          kept_on = is.kept_on;
          is = is.is;
          size = (is.size, is.aligned.1);
        };
    apart = ready.plugs.apart;
    plug_of = λ v i. let (p, known, l) = landing m laid g least keeps moves after c v i in (p, known, move-of p v l);
    rise = moves-rise m laid g least keeps moves after c;
  }

  landings : AreLandings m keeps c.segments (start_of (frame old) (Generations g)) survive c.plugs moves
  landings = record {
    going = going;
    known = λ s i. (taken s i).2;
    plugs_are = c.plugs_are;
    survives = λ o i stays s here stands up.
        let (kind, part, known) = taken s here in
        let (low, high) = stands-between s o.place stands in
        let n : HasHome m.layout o.place = piece-home m laid (object_piece rows o) (object-in-pieces m laid o i) in
        let same : n.home ≡ s = one_home m.layout laid.layout n.home s o.place n.among known n.stands stands in
        is_small-survivor m laid g least keeps moves after c o i stays
        (aged m laid g least keeps s known part o.place up low high) s known kind
        (n.base ∙ ap (λ (u : SegInfo). u.base) same);
    move_of = λ p i.
        let (v, j, l) = move_of_plug Lands (whole_line m.layout g kept moves after c ready) moves p
        (walked_whole m.layout g kept moves after c ready).landed
        (line-complete m.layout g c.segments c.plugs ready p i) in
        (v, j, move-of p v l);
    lands = λ v i.
        let l : LandsIn m laid g least keeps moves after c v = lands-in m laid g least keeps moves after c v i in
        record { segment = l.segment; among = l.among; low = l.low; from = l.from; high = l.high };
    scattered = none_overlap m.layout g kept moves after c ready;
  }

  -- THE PARTS of generations are filled
  pub compaction_fills : FillsParts rows old base (Generations g) keeps moves after
  compaction_fills = record {
    segments = c.segments;
    number = part_number rows old base laid g least keeps moves after c;
    among = part_segment rows old base laid g least keeps moves after c;
    uncrossed = λ s i p j stands.
        all_at (DoesNotCross (part_start m.layout g s))
        (into_filter (λ (p : Piece). stands_in s p.place) (pieces m) stands j)
        (start-cuts m laid g least keeps s (taken s i).2).whole;
    start_end = λ s i. (start-cuts m laid g least keeps s (taken s i).2).high_end;
    age = λ s i place low up high. aged m laid g least keeps s (taken s i).2 (taken s i).1 place low up high;
    survive = survive;
    plugs = c.plugs;
    landings = landings;
    are = are_moves rows old base laid g least keeps moves after c;
    from = λ k l. move_start rows old base laid g least keeps moves after c (move_at moves k) (at-in moves k no_move l);
    end = compacted_end after.start0 c.plugs moves;
    free = compacted_free m.layout g after.start0 c.plugs moves;
    tiles = tiles rows old base laid g least keeps moves after c;
    bounds = ends_in m.layout g kept moves after c ready;
    end_is = end_is m.layout g kept moves after c ready;
    before = λ s i f j.
        let b : IsBeforePin c.plugs f = free_before_pin m.layout g kept moves after c ready s i f j in
        let (v, n, of) = landings.move_of b.plug b.known in
        (v, n, b.ends ∙ sym (of.pinned b.pinned));
    lawful = compaction_lawful m laid g least keeps moves after c;
    ends = c.ends;
    free_ranges = c.free;
    rests = c.rests;
    top = c.top;
  }

-- ---- large segments

module _ (rows : List TypeRow) (old : HeapView) (base : Machine) (laid : IsLaid (seen rows old base))
    (keeps : ℕ → Bool) (moves : List Move) (after : Layout)
    (c : IsLargeSlid (layout_in rows old) (survivors (seen rows old base) 2 keeps) moves after) where
  abbrev machine : Machine
  machine = seen rows old base

  abbrev young : SegInfo
  young = ephemeral machine.layout

  young-stays : (same_kind Large young.kind && has_condemned_part 2 young) ≡ false
  young-stays = ap (λ b. b && has_condemned_part 2 young)
      (ephemeral-other young.kind (ephemeral-kind machine.layout laid.layout))

  slid_lawful : IsLawfulLayout (slid_layout machine.layout moves)
  slid_lawful =
      layout_after machine.layout laid.layout (same_kind Large) 2 (slid_end moves)
      (λ s. pieces_in s (moved_pieces moves)) (slid_free moves)
      (λ s i. subst (λ n. Tiles n (slid_end moves s) (by_place (pieces_in s (moved_pieces moves) ++ slid_free moves s)))
      (sym (part_of_two machine.layout s)) (slid_tiles machine laid keeps moves after c s i))
      (λ s i. (slid_end-in machine laid keeps moves after c s i).1)
      (λ s i. let at : part_start machine.layout 2 s ≡ first_place s = part_of_two machine.layout s in
      let (a, b) = (starts machine laid keeps moves after c).aligned s i in (omega arith, omega arith))
      (slid_layout machine.layout moves) refl refl refl refl laid.layout.start1_low laid.layout.start1_high
      (subst (λ b. machine.layout.start0 ≤ (if b then record young { end = slid_end moves young } else young).end)
      (sym young-stays) laid.layout.start0_high) laid.layout.aligned

  -- every large segment takes part in a full collection
  large-takes : (s : SegInfo) → (same_kind Large s.kind && has_condemned_part 2 s) ≡ same_kind Large s.kind
  large-takes s = ap (λ b. same_kind Large s.kind && b) (all-take s) ∙ with_true (same_kind Large s.kind)
    where
      with_true : (b : Bool) → (b && true) ≡ b
      with_true true = refl
      with_true false = refl

  -- LARGE SEGMENTS are filled
  pub slide_fills : FillsParts rows old base LargeSegments keeps moves after
  slide_fills = record {
    segments = large_segments machine.layout;
    number = large_number rows old base laid keeps moves after c;
    among = large_segment rows old base laid keeps moves after c;
    uncrossed = λ s i p j stands. inl (stands-between s p.place stands).0;
    start_end = λ s i. (lawful_segment machine.layout laid.layout s (large-is machine laid s i).1).low;
    age = λ s i place low up high. generation-least machine.layout place;
    survive = survivors_in (same_kind Large) machine.layout (survivors machine 2 keeps);
    plugs = large_plugs machine.layout (survivors machine 2 keeps);
    landings = slid_landings machine laid keeps moves after c;
    are = are_slides rows old base laid keeps moves after c;
    from = λ k l. slide_start rows old base laid keeps moves after c (move_at moves k) (at-in moves k no_move l);
    end = slid_end moves;
    free = slid_free moves;
    tiles = slid_tiles machine laid keeps moves after c;
    bounds = slid_end-in machine laid keeps moves after c;
    end_is = λ s i. refl;
    before = λ s i f j.
        let b : IsBeforePin (large_plugs machine.layout (survivors machine 2 keeps)) f =
        slid_free-before_pin machine laid keeps moves after c s i f j in
        let (v, n, of) = (slid_landings machine laid keeps moves after c).move_of b.plug b.known in
        (v, n, b.ends ∙ sym (of.pinned b.pinned));
    lawful = subst IsLawfulLayout (sym c.laid) slid_lawful;
    ends =
        ap (λ (l : Layout). l.segments) c.laid
        ∙ map-on (λ (s : SegInfo). if same_kind Large s.kind && has_condemned_part 2 s
        then record s { end = slid_end moves s } else s)
        (λ (s : SegInfo). if same_kind Large s.kind then record s { end = slid_end moves s } else s) old.segments
        (λ s i. ap (λ b. if b then record s { end = slid_end moves s } else s) (large-takes s));
    free_ranges = ap (λ (l : Layout). l.free) c.laid;
    rests = ap (λ (l : Layout). l.rests) c.laid;
    top = ap (λ (l : Layout). l.top) c.laid;
  }

-- ---- either

-- THE COMPACTION of a machine whose memory the heap is fills its parts
pub fills-parts : (rows : List TypeRow) (h : HeapView) (g : Condemned) (moves : List Move) (m : Machine)
    (kept : ℕ → Bool) (after : Layout) → IsCompactionOf rows h g moves m kept after → age_of g ≤ 2
    → FillsParts rows h m g kept moves after
fills-parts rows h (Generations g) moves m kept after p least =
    compaction_fills rows h m (seen-laid rows h (Generations g) moves m kept after p) g least kept moves after
    (seen-compacted rows h (Generations g) moves m kept after p)
fills-parts rows h LargeSegments moves m kept after p least =
    slide_fills rows h m (seen-laid rows h LargeSegments moves m kept after p) kept moves after
    (seen-compacted rows h LargeSegments moves m kept after p)
