-- The generation of each object that a compaction or a sweep of the small heap leaves.
use Rattle.std.proofs.Common.{◌≡◌, ℕ, ◌+◌, ◌-◌, ◌<◌, ◌≤◌, ◌⊎◌, inl, inr, List, refl, sym, ap, subst, ◌∙◌, arith, Bool}
use Rattle.std.proofs.Common.{true, false, if◌then◌else◌, filter, ◌==◌, nat_lt, nat_le, min, max}
use Rattle.std.proofs.lemmas.Bool.{eq-eqb, ltb-true, ltb-false, lt-ltb, le-ltb, both_ways, cases_Bool}
use Rattle.clr_types.specs.Rising.{IsIn}
use Rattle.clr_types.specs.declared.segment.SegInfo.{SegInfo}
use Rattle.clr_types.specs.Segments.{Layout, first_place, stands_in, generation, ephemeral, is_small_or_ephemeral}
use Rattle.clr_types.proofs.SegmentFacts.{ephemeral-in, elsewhere, one_base}
use Rattle.clr_model.specs.Machine.{Machine, Object}
use Rattle.clr_model.specs.Lookups.{is_pinned, object_piece}
use Rattle.clr_model.specs.Lawful.{IsLaid}
use Rattle.clr_model.specs.Sweep.{survivor, survivors, swept_end, part_start}
use Rattle.clr_model.specs.Compaction.{Move, moved_by, IsCompacted, first_pointer, plugs_of_generation}
use Rattle.clr_model.specs.Compaction.{raised_past_pins}
use Rattle.clr_model.specs.Collection.{IsSmallLaid}
use Rattle.clr_model.proofs.CondemnedParts.{pointer-young, start-ephemeral, taking-is, ephemeral-takes}
use Rattle.clr_model.proofs.LawfulPieces.{HasHome, piece-home, object-in-pieces}
use Rattle.clr_model.proofs.LawfulSurvivors.{survivor-is}
use Rattle.clr_model.proofs.PlugsApart.{raised_up}
use Rattle.clr_model.proofs.PlacedPlugs.{placed_up}
use Rattle.clr_model.proofs.MovedPlaces.{moved-is, IsCovered, covered, survivor-covered, is_small-survivor}
use Rattle.clr_model.proofs.SweptLawful.{sweep_end}
use Rattle.clr_model.proofs.LayoutLaws.{compaction_generation, object_promotes}
use Rattle.clr_model.proofs.SweptAges.{sweep_generation, sweep_promotes}

module _ (m : Machine) (h : IsLaid m) (g : ℕ) (least : g ≤ 2) (keeps : ℕ
    → Bool) (moves : List Move) (small : Layout) where
  abbrev eph : SegInfo
  eph = ephemeral m.layout

  -- a place's generation, by two boundaries of the ephemeral segment
  abbrev by_bounds : ℕ → ℕ → ℕ → ℕ
  by_bounds start1 start0 x = if stands_in eph x then
      (if nat_lt x start1 then 2 else (if nat_lt x start0 then 1 else 0)) else 2

  pub small_generation : (compacting : Bool) → IsSmallLaid compacting m.layout g (survivors m g keeps) moves small
      → (x : ℕ) → generation small x ≡ by_bounds small.start1 small.start0 x
  small_generation true c x = compaction_generation m h g least keeps moves small c x
  small_generation false c x =
      let (none, is) = c in
      subst (λ (l : Layout). generation l x ≡ by_bounds l.start1 l.start0 x) (sym is)
      (sweep_generation m h g least keeps x)

  -- ---- the boundaries that a younger collection leaves

  record IsYoung : Type 0 where
    zero_start1 : g ≡ 0 → small.start1 ≡ m.layout.start1
    zero_start0 : g ≡ 0 → m.layout.start0 ≤ small.start0
    one_start1 : g ≡ 1 → m.layout.start1 ≤ small.start1

  abbrev start_by : Bool → Bool → ℕ
  start_by zero one = if zero then m.layout.start0 else (if one then m.layout.start1 else first_place eph)

  start-zero : g ≡ 0 → part_start m.layout g eph ≡ m.layout.start0
  start-zero e = start-ephemeral m.layout h.layout g least ∙ ap (λ b. start_by b (g == 1)) (eq-eqb g 0 e)

  not-zero : g ≡ 1 → (g == 0) ≡ false
  not-zero e = go (g == 0) refl
    where
      go : (b : Bool) → (g == 0) ≡ b → b ≡ false
      go true f = let z : g ≡ 0 = grind arith in absurd (omega arith)
      go false f = refl

  start-one : g ≡ 1 → part_start m.layout g eph ≡ m.layout.start1
  start-one e = let zero = not-zero e in let one = eq-eqb g 1 e in
      start-ephemeral m.layout h.layout g least ∙ (λ i. start_by (zero i) (one i))

  compaction_young : IsCompacted m.layout g (survivors m g keeps) moves small → IsYoung
  compaction_young c = record {
    zero_start1 = λ e. c.start1 ∙ ap (λ b. if b then m.layout.start1 else raised) (eq-eqb g 0 e);
    zero_start0 = λ e.
        let from : first_pointer m.layout g c.segments ≡ m.layout.start0 = pointer (omega arith) ∙ start-zero e in
        let last : c.after1 ≤ c.after0 =
        subst (λ b. (if b then c.after1 else small.start1) ≤ c.after0) (eq-eqb g 0 e) up0 in
        let up : c.after0 ≤ small.start0 = subst (λ n. c.after0 ≤ n) (sym c.start0) (raised_up c.plugs c.after0) in
        let a = up2 in let b = up1 in omega arith;
    one_start1 = λ e.
        let from : first_pointer m.layout g c.segments ≡ m.layout.start1 = pointer (omega arith) ∙ start-one e in
        let is : small.start1 ≡ raised = c.start1 ∙ ap (λ b. if b then m.layout.start1 else raised) (not-zero e) in
        let up : max c.after1 (first_place eph) ≤ raised =
        raised_up (filter (λ p. nat_le 1 p.generation) c.plugs) (max c.after1 (first_place eph)) in
        let a = up2 in let b = up1 in omega arith;
  }
    where
      raised : ℕ
      raised = raised_past_pins (filter (λ p. nat_le 1 p.generation) c.plugs) (max c.after1 (first_place eph))

      pointer : g ≤ 1 → first_pointer m.layout g c.segments ≡ part_start m.layout g eph
      pointer l = ap (first_pointer m.layout g) c.segments_are ∙ pointer-young m.layout h.layout g least l

      up2 : first_pointer m.layout g c.segments ≤ c.after2
      up2 = placed_up c.segments c.plugs (first_pointer m.layout g c.segments)
          (plugs_of_generation 2 c.plugs) c.moves2 c.after2 c.placed2

      up1 : c.after2 ≤ c.after1
      up1 = placed_up c.segments c.plugs c.after2 (plugs_of_generation 1 c.plugs) c.moves1 c.after1 c.placed1

      up0 : (if g == 0 then c.after1 else small.start1) ≤ c.after0
      up0 = placed_up c.segments c.plugs (if g == 0 then c.after1 else small.start1)
          (plugs_of_generation 0 c.plugs) c.moves0 c.after0 c.placed0

  abbrev end : ℕ
  end = swept_end m.layout g (survivors m g keeps) eph

  sweep_young : small.start1 ≡ (if g == 0 then m.layout.start1 else min m.layout.start0 end) → small.start0 ≡ end
      → IsYoung
  sweep_young is1 is0 = record {
    zero_start1 = λ e. is1 ∙ ap (λ b. if b then m.layout.start1 else min m.layout.start0 end) (eq-eqb g 0 e);
    zero_start0 = λ e. let at = start-zero e in let (low, high) = ends in omega arith;
    one_start1 = λ e.
        let is : small.start1 ≡ min m.layout.start0 end = is1
        ∙ ap (λ b. if b then m.layout.start1 else min m.layout.start0 end) (not-zero e) in
        let at = start-one e in let (low, high) = ends in let order = h.layout.start1_high in omega arith;
  }
    where
      ends : (part_start m.layout g eph ≤ end) × (end ≤ eph.end)
      ends = sweep_end m h g least keeps eph (ephemeral-in m.layout h.layout)

  module _ (compacting : Bool) (laid : IsSmallLaid compacting m.layout g (survivors m g keeps) moves small) where
    young : IsYoung
    young = go compacting laid
      where
        go : (b : Bool) → IsSmallLaid b m.layout g (survivors m g keeps) moves small → IsYoung
        go true c = compaction_young c
        go false c = sweep_young (ap (λ (l : Layout). l.start1) c.1) (ap (λ (l : Layout). l.start0) c.1)

    -- a place above the condemned generations keeps its generation
    pub older_stays : (x : ℕ) → g < generation m.layout x → generation small x ≡ generation m.layout x
    older_stays x above = small_generation compacting laid x
        ∙ go (stands_in eph x) (nat_lt x m.layout.start1) (nat_lt x m.layout.start0) refl refl above
      where
        under : (n : ℕ) → x < small.start1 → ◌≡◌ {A = ℕ} (if nat_lt x small.start1 then 2 else n) 2
        under n l = ap (λ b. if b then 2 else n) (lt-ltb x small.start1 l)

        between : small.start1 ≤ x → x < small.start0
            → ◌≡◌ {A = ℕ} (if nat_lt x small.start1 then 2 else (if nat_lt x small.start0 then 1 else 0)) 1
        between l u = ap (λ b. if b then 2 else (if nat_lt x small.start0 then 1 else 0)) (le-ltb x small.start1 l)
            ∙ ap (λ b. if b then 1 else 0) (lt-ltb x small.start0 u)

        low : x < m.layout.start1 → g < 2 → x < small.start1
        low l two = by (zero_or_one two)
          where
            zero_or_one : g < 2 → (g ≡ 0) ⊎ (g ≡ 1)
            zero_or_one l = grind arith

            by : (g ≡ 0) ⊎ (g ≡ 1) → x < small.start1
            by (inl e) = let same = young.zero_start1 e in omega arith
            by (inr e) = let up = young.one_start1 e in omega arith

        go : (a b d : Bool) → nat_lt x m.layout.start1 ≡ b → nat_lt x m.layout.start0 ≡ d
            → g < (if a then (if b then 2 else (if d then 1 else 0)) else 2)
            → ◌≡◌ {A = ℕ} (if a then (if nat_lt x small.start1 then 2 else (if nat_lt x small.start0 then 1 else 0))
            else 2) (if a then (if b then 2 else (if d then 1 else 0)) else 2)
        go false b d e f l = refl
        go true true d e f l = under (if nat_lt x small.start0 then 1 else 0) (low (ltb-true x m.layout.start1 e) l)
        go true false true e f l =
            let zero : g ≡ 0 = omega arith in
            let same = young.zero_start1 zero in let up = young.zero_start0 zero in
            let above1 : m.layout.start1 ≤ x = ltb-false x m.layout.start1 e in
            let below0 : x < m.layout.start0 = ltb-true x m.layout.start0 f in
            between (omega arith) (omega arith)
        go true false false e f l = absurd (omega arith)

    -- a place outside of the small heap has generation 2, before and afterwards
    outside : (s : SegInfo) → IsIn s m.layout.segments → is_small_or_ephemeral s.kind ≡ false → (x : ℕ)
        → stands_in s x ≡ true → (generation m.layout x ≡ 2) × (generation small x ≡ 2)
    outside s i kind x stands =
        let away : stands_in eph x ≡ false =
        elsewhere m.layout h.layout eph s x (ephemeral-in m.layout h.layout) i apart stands in (
          ap (λ b. if b then (if nat_lt x m.layout.start1 then 2 else (if nat_lt x m.layout.start0 then 1 else 0)) else
              2) away,
          small_generation compacting laid x
              ∙ ap (λ b. if b then (if nat_lt x small.start1 then 2 else (if nat_lt x small.start0 then 1 else 0)) else
              2) away,
        )
      where
        apart : eph.base ≡ s.base → ⊥
        apart e =
            let same : eph ≡ s = one_base m.layout h.layout eph s (ephemeral-in m.layout h.layout) i e in
            let small_kind : is_small_or_ephemeral eph.kind
            ≡ true = (taking-is m.layout h.layout g least eph (ephemeral-takes m.layout h.layout g least)).0 in
            both_ways (is_small_or_ephemeral s.kind) kind
            (subst (λ (u : SegInfo). is_small_or_ephemeral u.kind ≡ true) same small_kind)

  -- ---- objects

  -- the generation of an object that stays, by the one that it had
  pub record IsOlder (pinned : Bool) (before after : ℕ) : Type 0 where
    pub keeps_age : g < before → after ≡ before
    pub at_most : before ≤ g → after ≤ min 2 (before + 1)
    pub next : before ≤ g → pinned ≡ false → after ≡ min 2 (before + 1)

  pub compaction_ages : IsCompacted m.layout g (survivors m g keeps) moves small → (o : Object) → IsIn o m.objects
      → keeps o.name ≡ true
      → IsOlder (is_pinned m o.name) (generation m.layout o.place) (generation small (moved_by moves o.place))
  compaction_ages c o i stays = go (moved-is moves o.place)
    where
      unmoved : ((v : Move) → IsIn v moves → (v.start ≤ o.place) × (o.place < v.start + v.size) → ⊥)
          → IsOlder (is_pinned m o.name) (generation m.layout o.place) (generation small o.place)
      unmoved none = record {
        keeps_age = older_stays true c o.place;
        at_most = λ l. let (two, still) = elsewhere_two l home in omega arith;
        next = λ l free. let (two, still) = elsewhere_two l home in omega arith;
      }
        where
          home : HasHome m.layout o.place
          home = piece-home m h (object_piece m.types o) (object-in-pieces m h o i)

          elsewhere_two : generation m.layout o.place ≤ g → HasHome m.layout o.place
              → (generation m.layout o.place ≡ 2) × (generation small o.place ≡ 2)
          elsewhere_two l n =
              elim (cases_Bool (is_small_or_ephemeral n.home.kind)) [
                | inl kind ↦ absurd (survivor-covered m h g least keeps moves small c o
                    (is_small-survivor m h g least keeps moves small c o i stays l n.home n.among kind n.base) none)
                | inr kind ↦ outside true c n.home n.among kind o.place n.stands
              ]

      go : ((v : Move) × IsIn v moves × ((v.start ≤ o.place) × (o.place < v.start + v.size))
          × (moved_by moves o.place ≡ v.to + (o.place - v.start)))
          ⊎ (((v : Move) → IsIn v moves → (v.start ≤ o.place) × (o.place < v.start + v.size) → ⊥)
          × (moved_by moves o.place ≡ o.place))
          → IsOlder (is_pinned m o.name) (generation m.layout o.place) (generation small (moved_by moves o.place))
      go (inr (none, f)) = subst (λ x. IsOlder (is_pinned m o.name) (generation m.layout o.place) (generation small x))
          (sym f) (unmoved none)
      go (inl (v, j, p, f)) =
          let is : IsCovered m h g least keeps moves small c o v = covered m h g least keeps moves small c o i v j p in
          let (most, next) = object_promotes m h g least keeps moves small c o i stays is.survives in
          let young : generation m.layout o.place ≤ g = (survivor-is m h g least keeps (survivor m o) is.survives).age
          in
          record { keeps_age = λ l. absurd (omega arith); at_most = λ l. most; next = λ l free. next free }

  pub sweep_ages : IsSmallLaid false m.layout g (survivors m g keeps) moves small → (o : Object) → IsIn o m.objects
      → keeps o.name ≡ true
      → (g < generation m.layout o.place → generation small (moved_by moves o.place) ≡ generation m.layout o.place)
      × (generation m.layout o.place ≤ g
      → generation small (moved_by moves o.place) ≡ min 2 (generation m.layout o.place + 1))
  sweep_ages c o i stays =
      let still : moved_by moves o.place ≡ o.place = ap (λ vs. moved_by vs o.place) c.0 in (
        λ l. ap (generation small) still ∙ older_stays false c o.place l,
        λ l. ap (generation small) still ∙ ap (λ l. generation l o.place) c.1
            ∙ sweep_promotes m h g least keeps o i stays l,
      )
