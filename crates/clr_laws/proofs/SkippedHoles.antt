-- A hole that a full compaction leaves was too small for the first plug that it placed above the hole.
use Rattle.std.proofs.Common.{◌≡◌, ℕ, ◌+◌, ◌<◌, ◌≤◌, ◌⊎◌, inl, inr, List, ◌++◌, refl, sym, ap, subst, ◌∙◌}
use Rattle.std.proofs.Common.{if◌then◌else◌, arith, Bool, true, false, ◌==◌, filter, max, nat_le}
use Rattle.std.proofs.lemmas.Bool.{both_ways, cases_order}
use Rattle.clr_types.specs.Rising.{IsIn}
use Rattle.clr_types.specs.Segments.{Layout, ephemeral, first_place, reserved_end, same_kind}
use Rattle.clr_types.specs.declared.segment.SegKind.TheVariants.{Ephemeral}
use Rattle.clr_types.specs.declared.segment.SegInfo.{SegInfo}
use Rattle.clr_types.proofs.ChangedLists.{append_left, out_of_filter}
use Rattle.clr_types.proofs.ListMembers.{append_right}
use Rattle.clr_types.proofs.PieceGaps.{IsGapped}
use Rattle.clr_model.specs.Lawful.{IsLaid}
use Rattle.clr_model.specs.Machine.{Machine}
use Rattle.clr_model.specs.Sweep.{part_start, Survivor, survivors}
use Rattle.clr_model.specs.Compaction.{first_pointer, FitsAt, IsCandidate, IsCompacted, Move, Plug, plug_end}
use Rattle.clr_model.specs.Compaction.{plugs_of_generation}
use Rattle.clr_model.proofs.CompactedSmall.{raised-up, source, walked_whole, whole_line}
use Rattle.clr_model.proofs.CondemnedPlugs.{AreCondemned, line-complete, of-is}
use Rattle.clr_model.proofs.MovedPlaces.{landing, ready}
use Rattle.clr_model.proofs.PlacedPlugs.{placed_starts, placed_up}
use Rattle.clr_model.proofs.PlugRoom.{clear-room, in_segment, one_plug}
use Rattle.clr_model.proofs.PlugWalk.{IsLanded, move_of_plug, plug_of_move}
use Rattle.clr_laws.proofs.FirstAbove.{Comes, comes-on, IsFirstAbove, IsOff, OfUnpinned, placed-above, placed-comes}
use Rattle.clr_laws.proofs.FirstAbove.{raised-low}

full-start : (layout : Layout) (s : SegInfo) → part_start layout 2 s ≡ first_place s
full-start layout s = go (same_kind Ephemeral s.kind)
  where
    go : (b : Bool)
        → (if b then (if 2 == 0 then layout.start0 else (if 2 == 1 then layout.start1 else first_place s)) else
        first_place s) ≡ first_place s
    go true = refl
    go false = refl

module _ (m : Machine) (h : IsLaid m) (keeps : ℕ → Bool) (moves : List Move) (new : Layout)
    (c : IsCompacted m.layout 2 (survivors m 2 keeps) moves new) where
  pub two : 2 ≤ 2
  two = omega arith

  abbrev pub kept : List Survivor
  kept = survivors m 2 keeps

  abbrev pub prepared : AreCondemned m.layout 2 c.segments c.plugs
  prepared = ready m h 2 two keeps moves new c

  abbrev pub Lands : Plug → Move → Type 0
  Lands = IsLanded c.segments c.plugs (source m.layout 2 kept moves new c prepared)

  plug-moves : (p : Plug) → IsIn p c.plugs → (v : Move) × IsIn v moves × Lands p v
  plug-moves p known =
      move_of_plug Lands (whole_line m.layout 2 kept moves new c prepared) moves p
      (walked_whole m.layout 2 kept moves new c prepared).landed
      (line-complete m.layout 2 c.segments c.plugs prepared p known)

  -- ---- where there is room

  module _ (low high : ℕ) (some : low < high)
      (off : (v : Move) → IsIn v moves → IsOff c.segments c.plugs low high v) (s : SegInfo) (among : IsIn s c.segments)
      (start : first_place s ≤ low) (end : high ≤ reserved_end s) where
    -- pins are below the hole or above it
    pin-above : (p : Plug) → IsIn p c.plugs → p.pinned ≡ true → low ≤ p.start → high ≤ p.start
    pin-above p i pinned above = go (plug-moves p i)
      where
        go : (v : Move) × IsIn v moves × Lands p v → high ≤ p.start
        go (v, j, lands) =
            let to = lands.pinned pinned in
            let is_size = lands.size in
            let least = (prepared.plugs.each p i).size in
            elim (off v j) [
              | inl below ↦ absurd (omega (arith, below, to, is_size, least, above))
              | inr over ↦ omega (arith, over, to)
            ]

    -- before a pinned plug there is where a size leaves nothing of the hole, or room for a free item
    pub room-before : (pin : Plug) → IsIn pin c.plugs → pin.pinned ≡ true → pin.start ≡ high → (size : ℕ)
        → IsGapped (low + size) high → FitsAt c.segments c.plugs size low
    room-before pin known pinned at size gap = (
      s,
      among,
      start,
      omega (arith, some, end),
      clear-room c.segments c.plugs prepared.plugs s size low
          (record {
            tail = omega (arith, gap, end);
            pins = λ p i is above. behind p i (pin-above p i is.0 above);
          }),
    )
      where
        behind : (p : Plug) → IsIn p c.plugs → high ≤ p.start → IsGapped (low + size) p.start
        behind p i above =
            let least = (prepared.plugs.each pin known).size in
            elim (cases_order pin.start p.start) [
              | inl same ↦ subst (λ n. IsGapped (low + size) n) (sym at ∙ same) gap
              | inr (inl over) ↦
                  let apart = prepared.plugs.apart pin p known i over in
                  inr (omega (arith, gap, at, least, apart))
              | inr (inr under) ↦ absurd (omega (arith, at, above, under))
            ]

    -- and at the end of a reservation where the size ends within it
    pub room-within : high ≡ reserved_end s → (size : ℕ) → low + size ≤ high → FitsAt c.segments c.plugs size low
    room-within at size fits = (
      s,
      among,
      start,
      omega (arith, some, end),
      clear-room c.segments c.plugs prepared.plugs s size low
          (record {
            tail = omega (arith, fits, end);
            pins = λ p i is above.
                let over = pin-above p i is.0 above in
                let inside = (in_segment c.segments c.plugs prepared.plugs s p among i is.1).1 in
                let least = (prepared.plugs.each p i).size in
                absurd (omega (arith, over, inside, least, at));
          }),
    )

  -- young plugs are pinned
  abbrev pub AreYoungPinned : Type 0
  AreYoungPinned = (p : Plug) → IsIn p c.plugs → p.generation ≡ 0 → p.pinned ≡ true

  -- The bytes between two places of a segment are no move's. Room tells the ends at which a plug from the low place on
  -- fits there.
  pub record IsHoleOf (Room : ℕ → Type 0) (low high : ℕ) : Type 0 where
    pub some : low < high
    pub off : (v : Move) → IsIn v moves → IsOff c.segments c.plugs low high v
    pub segment : SegInfo
    pub among : IsIn segment c.segments
    pub start : first_place segment ≤ low
    pub end : high ≤ reserved_end segment
    pub young : (first_place (ephemeral m.layout) ≤ low) ⊎ AreYoungPinned
    pub room : (size : ℕ) → Room (low + size) → FitsAt c.segments c.plugs size low
    pub base : (low ≡ first_place segment) ⊎ ((v : Move) × IsIn v moves × (v.to + v.size ≡ low))

  -- the plug isn't pinned, and is the lowest of these above the hole, but the hole has no room for it
  pub record IsSkipped (Room : ℕ → Type 0) (low high : ℕ) : Type 0 where
    pub plug : Plug
    pub move : Move
    pub known : IsIn plug c.plugs
    pub among : IsIn move moves
    pub unpinned : plug.pinned ≡ false
    pub start : move.start ≡ plug.start
    pub size : move.size ≡ plug.size
    pub over : high ≤ move.to
    pub tight : Room (low + move.size) → ⊥
    pub lowest : (v : Move) → IsIn v moves → (q : Plug) → IsIn q c.plugs → v.start ≡ q.start → q.pinned ≡ false
        → high ≤ v.to → move.to ≤ v.to

  module _ (Room : ℕ → Type 0) (low high : ℕ) (hole : IsHoleOf Room low high) where
    abbrev begin : ℕ
    begin = first_pointer m.layout 2 c.segments

    abbrev olds : List Plug
    olds = filter (λ (p : Plug). nat_le 1 p.generation) c.plugs

    off-pins : (p : Plug) → IsIn p olds → p.pinned ≡ true → (plug_end p ≤ low) ⊎ (low < p.start)
    off-pins p i pinned = go (plug-moves p (out_of_filter (λ (p : Plug). nat_le 1 p.generation) p c.plugs i).1)
      where
        go : (v : Move) × IsIn v moves × Lands p v → (plug_end p ≤ low) ⊎ (low < p.start)
        go (v, j, lands) =
            let at = lands.pinned pinned in
            let size = lands.size in
            let some = hole.some in
            elim (hole.off v j) [
              | inl below ↦ inl (omega (arith, below, at, size))
              | inr above ↦ inr (omega (arith, above, at, some))
            ]

    raised : first_place (ephemeral m.layout) ≤ low → c.after1 ≤ low → new.start1 ≤ low
    raised young under =
        let start = c.start1 in
        let up = raised-low olds (max c.after1 (first_place (ephemeral m.layout))) low (omega (arith, under, young))
        off-pins in
        omega (arith, start, up)

    known-of : (i : ℕ) (p : Plug) → IsIn p (plugs_of_generation i c.plugs) → IsIn p c.plugs
    known-of i p j = (of-is c.plugs i p j).1

    off2 : (v : Move) → IsIn v c.moves2 → IsOff c.segments c.plugs low high v
    off2 v i = hole.off v (subst (IsIn v) (sym c.moves_are) (append_left c.moves0 (append_left c.moves1 i)))

    off1 : (v : Move) → IsIn v c.moves1 → IsOff c.segments c.plugs low high v
    off1 v i = hole.off v (subst (IsIn v) (sym c.moves_are) (append_left c.moves0 (append_right c.moves2 i)))

    off0 : (v : Move) → IsIn v c.moves0 → IsOff c.segments c.plugs low high v
    off0 v i = hole.off v (subst (IsIn v) (sym c.moves_are) (append_right (c.moves2 ++ c.moves1) i))

    begins-low : begin ≤ low
    begins-low =
        let lowest = prepared.starts.lowest hole.segment hole.among in
        let same = full-start m.layout hole.segment in
        let start = hole.start in omega (arith, lowest, same, start)

    up2 : begin ≤ c.after2
    up2 = placed_up c.segments c.plugs begin (plugs_of_generation 2 c.plugs) c.moves2 c.after2 c.placed2

    up1 : c.after2 ≤ c.after1
    up1 = placed_up c.segments c.plugs c.after2 (plugs_of_generation 1 c.plugs) c.moves1 c.after1 c.placed1

    up0 : new.start1 ≤ c.after0
    up0 = placed_up c.segments c.plugs new.start1 (plugs_of_generation 0 c.plugs) c.moves0 c.after0 c.placed0

    comes-old : Comes c.segments c.plugs low high begin (c.moves2 ++ c.moves1) c.after1
    comes-old =
        comes-on c.segments c.plugs low high begin c.moves2 c.after2 c.after2 c.moves1 c.after1 up2 (omega arith) up1
        (placed-comes c.segments c.plugs low high begin (plugs_of_generation 2 c.plugs) c.moves2 c.after2 c.placed2
        (known-of 2) off2 begins-low)
        (placed-comes c.segments c.plugs low high c.after2 (plugs_of_generation 1 c.plugs) c.moves1 c.after1 c.placed1
        (known-of 1) off1)
        (placed-above c.segments c.plugs low high c.after2 (plugs_of_generation 1 c.plugs) c.moves1 c.after1 c.placed1
        (known-of 1))

    -- where young plugs are pinned, nothing is said of them
    none-young : (P : Move → Type 0) → AreYoungPinned → OfUnpinned c.segments c.plugs low high P c.moves0
    none-young P young v i =
        let (p, j, start) = plug_of_move (λ p v. v.start ≡ p.start) (plugs_of_generation 0 c.plugs) c.moves0 v
        (placed_starts c.segments c.plugs new.start1 (plugs_of_generation 0 c.plugs) c.moves0 c.after0 c.placed0) i in
        let (age, known) = of-is c.plugs 0 p j in
        (p, known, start, λ out. absurd (both_ways p.pinned out (young p known age)))

    comes-by : (first_place (ephemeral m.layout) ≤ low) ⊎ AreYoungPinned
        → (after : ℕ) × Comes c.segments c.plugs low high begin moves after
    comes-by (inl young) = (
      c.after0,
      subst (λ vs. Comes c.segments c.plugs low high begin vs c.after0) (sym c.moves_are)
          (comes-on c.segments c.plugs low high begin (c.moves2 ++ c.moves1) c.after1 new.start1 c.moves0 c.after0
          (let a = up2 in let b = up1 in omega (arith, a, b)) (raised-up m.layout 2 kept moves new c prepared) up0
          comes-old
          (λ under. placed-comes c.segments c.plugs low high new.start1 (plugs_of_generation 0 c.plugs) c.moves0
          c.after0 c.placed0 (known-of 0) off0 (raised young under))
          (placed-above c.segments c.plugs low high new.start1 (plugs_of_generation 0 c.plugs) c.moves0 c.after0
          c.placed0 (known-of 0))),
    )
    comes-by (inr young) = (
      c.after1,
      subst (λ vs. Comes c.segments c.plugs low high begin vs c.after1) (sym c.moves_are)
          (comes-on c.segments c.plugs low high begin (c.moves2 ++ c.moves1) c.after1 c.after1 c.moves0 c.after1
          (let a = up2 in let b = up1 in omega (arith, a, b)) (omega arith) (omega arith) comes-old
          (λ under. inl (under, none-young (λ w. w.to + w.size ≤ c.after1) young))
          (none-young (λ w. c.after1 ≤ w.to) young)),
    )

    -- the hole begins where a plug may go
    candidate : (after : ℕ) (p : Plug) (v : Move) (pointer : ℕ)
        → IsFirstAbove c.segments c.plugs low high begin moves after p v pointer
        → IsCandidate c.segments c.plugs pointer low
    candidate after p v pointer is = go hole.base
      where
        by_plug : (w : Move) → IsIn w moves → w.to + w.size ≡ low → (q : Plug) × IsIn q c.plugs × (w.start ≡ q.start)
            × (q.pinned ≡ false → (w.to + w.size ≤ pointer) ⊎ (v.to ≤ w.to)) → (r : Plug) × IsIn r c.plugs × Lands r w
            → IsCandidate c.segments c.plugs pointer low
        by_plug w i ends (q, known, start, or) (r, also, lands) = by q.pinned refl
          where
            same : r ≡ q
            same = one_plug c.segments c.plugs prepared.plugs r q also known (sym lands.start ∙ start)

            by : (b : Bool) → q.pinned ≡ b → IsCandidate c.segments c.plugs pointer low
            by true pinned =
                let to = lands.pinned (ap (λ (w : Plug). w.pinned) same ∙ pinned) in
                let size = lands.size in
                let end = ap plug_end same in
                inr (inl (q, known, pinned, omega (arith, ends, to, size, end)))
            by false unpinned =
                let under = is.under in
                let over = is.over in
                let some = hole.some in
                elim (or unpinned) [
                  | inl below ↦ inl (omega (arith, ends, below, under))
                  | inr above ↦ absurd (omega (arith, ends, above, over, some))
                ]

        go : (low ≡ first_place hole.segment) ⊎ ((v : Move) × IsIn v moves × (v.to + v.size ≡ low))
            → IsCandidate c.segments c.plugs pointer low
        go (inl first) = inr (inr (hole.segment, hole.among, first))
        go (inr (w, i, ends)) = by_plug w i ends (is.others w i) (landing m h 2 two keeps moves new c w i)

    -- where a plug that isn't pinned landed above the hole, the hole was too small for the lowest of these
    pub skipped : (v : Move) → IsIn v moves → (q : Plug) → IsIn q c.plugs → v.start ≡ q.start → q.pinned ≡ false
        → high ≤ v.to → IsSkipped Room low high
    skipped v i q known start unpinned above = let (after, come) = comes-by hole.young in go after come
      where
        go : (after : ℕ) → Comes c.segments c.plugs low high begin moves after → IsSkipped Room low high
        go after (inl (under, ends)) = by (ends v i)
          where
            by : (p : Plug) × IsIn p c.plugs × (v.start ≡ p.start) × (p.pinned ≡ false → v.to + v.size ≤ after)
                → IsSkipped Room low high
            by (p, also, at, end) =
                let same : p ≡ q = one_plug c.segments c.plugs prepared.plugs p q also known (sym at ∙ start) in
                let below = end (ap (λ (w : Plug). w.pinned) same ∙ unpinned) in
                let some = hole.some in absurd (omega (arith, below, under, above, some))
        go after (inr (p, w, pointer, is)) = record {
          plug = p;
          move = w;
          known = is.known;
          among = is.among;
          unpinned = is.unpinned;
          start = is.start;
          size = is.size;
          over = is.over;
          tight = λ room.
              let fit = hole.room p.size (subst (λ n. Room (low + n)) is.size room) in
              let down = is.lands.lowest low (candidate after p w pointer is) is.under fit in
              let over = is.over in
              let some = hole.some in omega (arith, down, over, some);
          lowest = λ u j r among at free over.
              lowest-by u r among at free over (is.others u j);
        }
          where
            lowest-by : (u : Move) (r : Plug) → IsIn r c.plugs → u.start ≡ r.start → r.pinned ≡ false → high ≤ u.to
                → (q : Plug) × IsIn q c.plugs × (u.start ≡ q.start)
                × (q.pinned ≡ false → (u.to + u.size ≤ pointer) ⊎ (w.to ≤ u.to)) → w.to ≤ u.to
            lowest-by u r among at free over (q, known, start, or) =
                let same : q ≡ r = one_plug c.segments c.plugs prepared.plugs q r known among (sym start ∙ at) in
                let under = is.under in
                let some = hole.some in
                elim (or (ap (λ (w : Plug). w.pinned) same ∙ free)) [
                  | inl below ↦ absurd (omega (arith, below, under, over, some))
                  | inr it ↦ it
                ]
