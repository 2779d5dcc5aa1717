-- The generations of what a compaction of the small heap moves.
use Rattle.std.proofs.Common.{◌≡◌, ℕ, ◌+◌, ◌<◌, ◌≤◌, ◌⊎◌, inl, inr, List, [], ◌∷◌, refl, sym, ap, subst, ◌∙◌, arith}
use Rattle.std.proofs.Common.{Bool, true, false, nat_le, nat_lt, if◌then◌else◌, ◌==◌, min}
use Rattle.std.proofs.lemmas.Bool.{both_ways, le-leb, lt-ltb, le-ltb, and_from, eqb-true, eq-eqb}
use Rattle.std.specs.List.{AllByRecursion}
use Rattle.clr_types.specs.Rising.{IsIn, first, later}
use Rattle.clr_model.specs.Sweep.{Survivor, part_start}
use Rattle.clr_model.specs.Compaction.{Plug, plug_end, Move, plugs_of_generation, first_pointer, IsCompacted}
use Rattle.clr_types.specs.declared.segment.SegInfo.{SegInfo}
use Rattle.clr_types.specs.Segments.{Layout, first_place, reserved_end, stands_in, ephemeral}
use Rattle.clr_types.proofs.PieceGaps.{IsGapped}
use Rattle.clr_model.proofs.PlugRoom.{IsPlug, IsClear, room-clear, one_plug}
use Rattle.clr_model.proofs.PlugPointer.{IsEdge}
use Rattle.clr_model.proofs.PlugWalk.{Each, IsLanded}
use Rattle.clr_types.proofs.ChangedLists.{all_members, append_left, into_filter}
use Rattle.clr_types.proofs.ListMembers.{append_right}
use Rattle.clr_model.proofs.PlacedPlugs.{placed_under, placed_starts}
use Rattle.clr_model.proofs.CondemnedPlugs.{AreCondemned, of-is, older-below}
use Rattle.clr_model.proofs.CompactedSmall.{raised as raised_of, source as source_of, Lands as lands_of, move_ages}
use Rattle.clr_model.proofs.CompactedSmall.{none_rises, raised-in, raised-is, raised-up, start0_after, start1-is}
use Rattle.clr_model.proofs.CompactedSmall.{start1_raised}

module _ (layout : Layout) (g : ℕ) (kept : List Survivor) (moves : List Move) (new : Layout)
    (c : IsCompacted layout g kept moves new) (h : AreCondemned layout g c.segments c.plugs) where
  abbrev all : List Plug
  all = c.plugs

  abbrev of : ℕ → List Plug
  of i = plugs_of_generation i all

  abbrev pointer : ℕ
  pointer = first_pointer layout g c.segments

  abbrev start : SegInfo → ℕ
  start = part_start layout g

  abbrev raised : ℕ
  raised = raised_of layout g kept moves new c h

  abbrev source : ℕ → Type 0
  source = source_of layout g kept moves new c h

  abbrev Lands : (Plug → Type 0) → Move → Type 0
  Lands = lands_of layout g kept moves new c h

  -- ---- generations

  abbrev pub generation_by : ℕ → ℕ → ℕ → ℕ
  generation_by start1 start0 place = if stands_in (ephemeral layout) place then
      (if nat_lt place start1 then 2 else (if nat_lt place start0 then 1 else 0)) else 2

  -- below the first boundary and outside of the segment is generation 2
  age-old : (start1 start0 place : ℕ) → place < start1 → generation_by start1 start0 place ≡ 2
  age-old start1 start0 place l =
      ap (λ t. if stands_in (ephemeral layout) place then (if t then 2 else (if nat_lt place start0 then 1 else 0)) else
      2) (lt-ltb place start1 l) ∙ go (stands_in (ephemeral layout) place)
    where
      go : (b : Bool) → ◌≡◌ {A = ℕ} (if b then 2 else 2) 2
      go true = refl
      go false = refl

  age-middle : (start1 start0 place : ℕ) → first_place (ephemeral layout) ≤ place
      → place < reserved_end (ephemeral layout) → start1 ≤ place → place < start0
      → generation_by start1 start0 place ≡ 1
  age-middle start1 start0 place a b l m =
      let stands : stands_in (ephemeral layout) place
      ≡ true = and_from (nat_le (first_place (ephemeral layout)) place)
      (nat_lt place (reserved_end (ephemeral layout))) (le-leb (first_place (ephemeral layout)) place a)
      (lt-ltb place (reserved_end (ephemeral layout)) b) in
      ap (λ t. if t then (if nat_lt place start1 then 2 else (if nat_lt place start0 then 1 else 0)) else 2) stands
      ∙ ap (λ t. if t then 2 else (if nat_lt place start0 then 1 else 0)) (le-ltb place start1 l)
      ∙ ap (λ t. if t then 1 else 0) (lt-ltb place start0 m)

  age-low : (start1 start0 place : ℕ) → first_place (ephemeral layout) ≤ place → place < reserved_end (ephemeral layout)
      → start1 ≤ place → generation_by start1 start0 place ≤ 1
  age-low start1 start0 place a b l =
      let stands : stands_in (ephemeral layout) place
      ≡ true = and_from (nat_le (first_place (ephemeral layout)) place)
      (nat_lt place (reserved_end (ephemeral layout))) (le-leb (first_place (ephemeral layout)) place a)
      (lt-ltb place (reserved_end (ephemeral layout)) b) in
      subst (λ n. n ≤ 1) (sym (ap (λ t. if t then
      (if nat_lt place start1 then 2 else (if nat_lt place start0 then 1 else 0)) else 2) stands
      ∙ ap (λ t. if t then 2 else (if nat_lt place start0 then 1 else 0)) (le-ltb place start1 l)))
      (go (nat_lt place start0))
    where
      go : (b : Bool) → (if b then 1 else 0) ≤ 1
      go true = omega arith
      go false = omega arith

  age-any : (start1 start0 place : ℕ) → generation_by start1 start0 place ≤ 2
  age-any start1 start0 place = go (stands_in (ephemeral layout) place) (nat_lt place start1) (nat_lt place start0)
    where
      go : (a b c : Bool) → (if a then (if b then 2 else (if c then 1 else 0)) else 2) ≤ 2
      go false b c = omega arith
      go true true c = omega arith
      go true false true = omega arith
      go true false false = omega arith

  -- the first boundary is at or below the young plugs
  start1-under : (q : Plug) → IsIn q all → q.generation ≡ 0 → new.start1 ≤ q.start
  start1-under q j z = go (start1-is layout g kept moves new c h) (raised-is layout g kept moves new c h)
    where
      from : pointer ≤ q.start
      from =
          let is : IsPlug c.segments q = h.plugs.each q j in
          let g : IsGapped (start is.home) q.start = h.starts.plugs is.home q is.among j is.of in
          let l : pointer ≤ start is.home = h.starts.lowest is.home is.among in
          omega arith

      ended : (i : ℕ) → 0 < i → AllByRecursion (λ (p : Plug). plug_end p ≤ q.start) (of i)
      ended i up = all_members (λ (p : Plug). plug_end p ≤ q.start) (of i) (λ p k. let (e, known) = of-is all i p k in
          let lower : p.start < q.start = older-below layout g c.segments all h p q known j (omega arith) in
          let a : IsGapped (plug_end p) q.start = h.plugs.apart p q known j lower in
          omega arith)

      passed : c.after1 ≤ q.start
      passed =
          placed_under c.segments all c.after2 (of 1) c.moves1 c.after1 q.start c.placed1
          (lowered (of 1) c.moves1 (placed_starts c.segments all c.after2 (of 1) c.moves1 c.after1 c.placed1)
          (λ v i. subst (IsIn v) (sym c.moves_are) (append_left c.moves0 (append_right c.moves2 i))))
          (placed_under c.segments all pointer (of 2) c.moves2 c.after2 q.start c.placed2
          (lowered (of 2) c.moves2 (placed_starts c.segments all pointer (of 2) c.moves2 c.after2 c.placed2)
          (λ v i. subst (IsIn v) (sym c.moves_are) (append_left c.moves0 (append_left c.moves1 i)))) from
          (ended 2 (omega arith)))
          (ended 1 (omega arith))
        where
          lowered : (ps : List Plug) (vs : List Move) → Each (λ p v. v.start ≡ p.start) ps vs
              → ((v : Move) → IsIn v vs → IsIn v moves) → Each (λ p v. v.to ≤ p.start) ps vs
          lowered [] [] e sub = tt
          lowered [] (v ∷ vs) e sub = absurd e
          lowered (p ∷ ps) [] e sub = absurd e
          lowered (p ∷ ps) (v ∷ vs) e sub = (
            let l : v.to ≤ v.start = none_rises layout g kept moves new c h v (sub v first) in
                let s : v.start ≡ p.start = e.0 in omega arith,
            lowered ps vs e.1 (λ w i. sub w (later i)),
          )

      go : ((g == 0) ≡ true) × (new.start1 ≡ layout.start1) ⊎ (((g == 0) ≡ false) × (new.start1 ≡ raised))
          → (raised ≡ c.after1) ⊎ ((c.after1 ≤ raised) × IsEdge c.segments all raised
          × ((q : Plug) → IsIn q (of 0) → raised ≤ q.start)) → new.start1 ≤ q.start
      go (inl (e, f)) k = let (l, m) = h.alone e in let a = from in omega arith
      go (inr (e, f)) (inl k) = let a = passed in omega arith
      go (inr (e, f)) (inr (up, edge, above)) = let a : raised ≤ q.start =
          above q (into_filter (λ (p : Plug). p.generation == 0) all (eq-eqb q.generation 0 z) j) in omega arith

  -- the generation of what lands at a move's destination: of a plug that isn't pinned the next older one, of a pinned
  -- one that or a lower one
  pub promoted : (v : Move) → IsIn v moves → (p : Plug) → IsIn p all → v.start ≡ p.start → (x : ℕ) → v.to ≤ x
      → x < v.to + v.size
      → (generation_by new.start1 new.start0 x ≤ min 2 (p.generation + 1))
      × (p.pinned ≡ false → generation_by new.start1 new.start0 x ≡ min 2 (p.generation + 1))
  promoted v i p j e x from under = go (move_ages layout g kept moves new c h v i)
    where
      same : (q : Plug) → IsIn q all → IsLanded c.segments all source q v → q ≡ p
      same q k landed = one_plug c.segments all h.plugs q p k j (sym landed.start ∙ e)

      big : (q : Plug) → IsIn q all → 24 ≤ q.size
      big q k = (h.plugs.each q k).size

      old : (q : Plug) → IsIn q all → 1 ≤ q.generation → (q.pinned ≡ false → v.to + v.size ≤ c.after1)
          → IsLanded c.segments all source q v
          → (generation_by new.start1 new.start0 x ≤ min 2 (q.generation + 1))
          × (q.pinned ≡ false → generation_by new.start1 new.start0 x ≡ min 2 (q.generation + 1))
      old q k l f landed = (
        let a : generation_by new.start1 new.start0 x ≤ 2 = age-any new.start1 new.start0 x in
            let b : min 2 (q.generation + 1) ≡ 2 = omega arith in
            rw b a,
        λ u. age-old new.start1 new.start0 x (below (start1-is layout g kept moves new c h) u) ∙ omega arith,
      )
        where
          below : ((g == 0) ≡ true) × (new.start1 ≡ layout.start1) ⊎ (((g == 0) ≡ false) × (new.start1 ≡ raised))
              → q.pinned ≡ false → x < new.start1
          below (inl (e, m)) u = let a : q.generation ≤ g = h.ages q k in let z : g ≡ 0 = eqb-true g 0 e in
              absurd (omega arith)
          below (inr (e, m)) u =
              let a : v.to + v.size ≤ c.after1 = f u in
              let b = raised-up layout g kept moves new c h in
              let s : v.size ≡ q.size = landed.size in let d = big q k in omega arith

      young : (q : Plug) → IsIn q all → q.generation ≡ 0
          → (q.pinned ≡ false → (raised ≤ v.to) × (v.to + v.size ≤ c.after0)) → IsLanded c.segments all source q v
          → (b : Bool) → q.pinned ≡ b → (generation_by new.start1 new.start0 x ≤ min 2 (q.generation + 1))
          × (q.pinned ≡ false → generation_by new.start1 new.start0 x ≡ min 2 (q.generation + 1))
      young q k z f landed true u =
          let to : v.to ≡ q.start = landed.pinned u in
          let l : new.start1 ≤ q.start = start1-under q k z in
          let size : v.size ≡ q.size = landed.size in
          let y : first_place (ephemeral layout) ≤ q.start = h.young q k z in
          let is : IsPlug c.segments q = h.plugs.each q k in
          let t : plug_end q ≤ reserved_end is.home = is.high in
          let s : 24 ≤ q.size = is.size in
          let r : reserved_end is.home ≤ reserved_end (ephemeral layout) = h.highest is.home is.among in
          let a : generation_by new.start1 new.start0 x ≤ 1 =
          age-low new.start1 new.start0 x (omega arith) (omega arith) (omega arith) in
          let m : min 2 (q.generation + 1) ≡ 1 = omega arith in
          (rw m a, λ w. absurd (both_ways q.pinned w u))
      young q k z f landed false u =
          let (low, high) = f u in
          let a = start1_raised layout g kept moves new c h in
          let b = raised-in layout g kept moves new c h in
          let d = start0_after layout g kept moves new c h in
          let s : v.size ≡ q.size = landed.size in
          let w : 24 ≤ q.size = big q k in
          let t = landed.fits u in
          let clear : IsClear all t.0 q.size v.to = room-clear c.segments all h.plugs t.0 q.size v.to t.1 t.4 in
          let tail : v.to + q.size ≤ reserved_end t.0 = clear.tail in
          let r : reserved_end t.0 ≤ reserved_end (ephemeral layout) = h.highest t.0 t.1 in
          let y : generation_by new.start1 new.start0 x
          ≡ 1 = age-middle new.start1 new.start0 x (omega arith) (omega arith) (omega arith) (omega arith) in
          let m : min 2 (q.generation + 1) ≡ 1 = omega arith in
          (rw (y, m) (omega arith), λ o. y ∙ sym m)

      go : Lands (λ p. (1 ≤ p.generation) × (p.pinned ≡ false → v.to + v.size ≤ c.after1)) v
          ⊎ Lands (λ p. (p.generation ≡ 0) × (p.pinned ≡ false → (raised ≤ v.to) × (v.to + v.size ≤ c.after0))) v
          → (generation_by new.start1 new.start0 x ≤ min 2 (p.generation + 1))
          × (p.pinned ≡ false → generation_by new.start1 new.start0 x ≡ min 2 (p.generation + 1))
      go (inl (q, k, (l, f), landed)) =
          subst (λ (w : Plug). (generation_by new.start1 new.start0 x ≤ min 2 (w.generation + 1))
          × (w.pinned ≡ false → generation_by new.start1 new.start0 x ≡ min 2 (w.generation + 1))) (same q k landed)
          (old q k l f landed)
      go (inr (q, k, (z, f), landed)) =
          subst (λ (w : Plug). (generation_by new.start1 new.start0 x ≤ min 2 (w.generation + 1))
          × (w.pinned ≡ false → generation_by new.start1 new.start0 x ≡ min 2 (w.generation + 1))) (same q k landed)
          (young q k z f landed q.pinned refl)
