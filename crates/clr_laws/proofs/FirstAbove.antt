-- Which plug is the first that lands above a hole, and from where it was placed.
use Rattle.std.proofs.Common.{◌≡◌, ℕ, ◌+◌, ◌<◌, ◌≤◌, ◌⊎◌, inl, inr, List, [], ◌∷◌, ◌++◌, refl, sym, subst}
use Rattle.std.proofs.Common.{if◌then◌else◌, arith, Bool, true, false, ◌&&◌, ◌==◌, MatchBool}
use Rattle.std.proofs.lemmas.Bool.{and_parts, both_ways, eqb-true}
use Rattle.clr_types.specs.Rising.{IsIn, first, later}
use Rattle.clr_types.specs.declared.segment.SegInfo.{SegInfo}
use Rattle.clr_types.proofs.ChangedLists.{append_left}
use Rattle.clr_types.proofs.ListMembers.{append_right, in_append}
use Rattle.clr_types.proofs.RisingLists.{in_cons}
use Rattle.clr_model.specs.Compaction.{IsDestination, Move, Placed, Plug, plug_end, raised_past_pins}
use Rattle.clr_model.proofs.PlacedPlugs.{placed_between, placed_up, LandsBetween}
use Rattle.clr_model.proofs.PlugWalk.{plug_of_move}

-- where no pin stands over a place, what is below it isn't raised over it
pub raised-low : (ps : List Plug) (place low : ℕ) → place ≤ low
    → ((p : Plug) → IsIn p ps → p.pinned ≡ true → (plug_end p ≤ low) ⊎ (low < p.start))
    → raised_past_pins ps place ≤ low
raised-low [] place low under off = under
raised-low (p ∷ ps) place low under off =
    go (p.pinned && (p.start == place)) refl (λ n below. raised-low ps n low below (λ q i. off q (later i)))
  where
    past : p.start ≡ place → (plug_end p ≤ low) ⊎ (low < p.start) → plug_end p ≤ low
    past at (inl below) = below
    past at (inr above) = absurd (omega (arith, at, above, under))

    go : (b : Bool) → (p.pinned && (p.start == place)) ≡ b → ((n : ℕ) → n ≤ low → raised_past_pins ps n ≤ low)
        → raised_past_pins ps (if b then plug_end p else place) ≤ low
    go true e more =
        let (pinned, at) = and_parts p.pinned (p.start == place) e in
        more (plug_end p) (past (eqb-true p.start place at) (off p first pinned))
    go false e more = more place under

module _ (segments : List SegInfo) (all : List Plug) (low high : ℕ) where
  -- the move lands off the hole between the two places
  abbrev pub IsOff : Move → Type 0
  IsOff v = (v.to + v.size ≤ low) ⊎ (high ≤ v.to)

  -- the moves of plugs that aren't pinned
  abbrev pub OfUnpinned : (Move → Type 0) → List Move → Type 0
  OfUnpinned P vs =
      (v : Move) → IsIn v vs → (p : Plug) × IsIn p all × (v.start ≡ p.start) × (p.pinned ≡ false → P v)

  -- The plug isn't pinned, and is the first of these that lands above the hole: it is placed from a pointer below it,
  -- at or above the ends of all that were placed before.
  pub record IsFirstAbove (begin : ℕ) (vs : List Move) (after : ℕ) (p : Plug) (v : Move) (pointer : ℕ) : Type 0 where
    pub known : IsIn p all
    pub among : IsIn v vs
    pub unpinned : p.pinned ≡ false
    pub start : v.start ≡ p.start
    pub size : v.size ≡ p.size
    pub lands : IsDestination segments all pointer p.size v.to
    pub from : begin ≤ pointer
    pub under : pointer ≤ low
    pub over : high ≤ v.to
    pub before : v.to ≤ after
    pub others : OfUnpinned (λ w. (w.to + w.size ≤ pointer) ⊎ (v.to ≤ w.to)) vs

  -- what placing plugs comes to: all end below the hole, or there is a first one above it
  abbrev pub Comes : ℕ → List Move → ℕ → Type 0
  Comes begin vs after =
      ((after ≤ low) × OfUnpinned (λ w. w.to + w.size ≤ after) vs)
      ⊎ ((p : Plug) × (v : Move) × (pointer : ℕ) × IsFirstAbove begin vs after p v pointer)

  with-one : (P : Move → Type 0) (p : Plug) (v : Move) (vs : List Move) → IsIn p all → v.start ≡ p.start
      → (p.pinned ≡ false → P v) → OfUnpinned P vs → OfUnpinned P (v ∷ vs)
  with-one P p v vs known start is rest w i = go (in_cons i)
    where
      go : (w ≡ v) ⊎ IsIn w vs → (p : Plug) × IsIn p all × (w.start ≡ p.start) × (p.pinned ≡ false → P w)
      go (inl same) =
          subst (λ (w : Move). (p : Plug) × IsIn p all × (w.start ≡ p.start) × (p.pinned ≡ false → P w)) (sym same)
          (p, known, start, is)
      go (inr j) = rest w j

  weaker : (P Q : Move → Type 0) (vs : List Move) → ((v : Move) → P v → Q v) → OfUnpinned P vs → OfUnpinned Q vs
  weaker P Q vs f is v i = let (p, known, start, h) = is v i in (p, known, start, λ e. f v (h e))

  -- those of plugs that were placed from here on land above it
  pub placed-above : (pointer : ℕ) (ps : List Plug) (vs : List Move) (after : ℕ)
      → Placed segments all pointer ps vs after → ((p : Plug) → IsIn p ps → IsIn p all)
      → OfUnpinned (λ w. pointer ≤ w.to) vs
  placed-above pointer ps vs after h known v i =
      let (p, j, (start, lands)) = plug_of_move (LandsBetween pointer after) ps vs v
      (placed_between segments all pointer ps vs after h) i in
      (p, known p j, start, λ e. (lands e).0)

  pub placed-comes : (pointer : ℕ) (ps : List Plug) (vs : List Move) (after : ℕ)
      → Placed segments all pointer ps vs after → ((p : Plug) → IsIn p ps → IsIn p all)
      → ((v : Move) → IsIn v vs → IsOff v) → pointer ≤ low → Comes pointer vs after
  placed-comes pointer [] [] after h known off under = inl (omega (arith, h, under), λ v i. elim i [ ])
  placed-comes pointer [] (v ∷ vs) after h known off under = absurd h
  placed-comes pointer (p ∷ ps) [] after h known off under = absurd h
  placed-comes pointer (p ∷ ps) (v ∷ vs) after h known off under =
      step (λ n g below. placed-comes n ps vs after g (λ q i. known q (later i)) (λ w i. off w (later i)) below)
      p.pinned refl h.2
    where
      start : v.start ≡ p.start
      start = h.0

      is_known : IsIn p all
      is_known = known p first

      on : (n : ℕ) → pointer ≤ n → n ≤ after → (p.pinned ≡ false → v.to + v.size ≤ n) → Comes n vs after
          → Comes pointer (v ∷ vs) after
      on n up ahead ends (inl (below, rest)) =
          inl (
            below,
            with-one (λ w. w.to + w.size ≤ after) p v vs is_known start
                (λ e. let l = ends e in omega (arith, l, ahead)) rest,
          )
      on n up ahead ends (inr (q, w, x, is)) =
          let from = is.from in
          inr (
            q,
            w,
            x,
            record {
              known = is.known;
              among = later is.among;
              unpinned = is.unpinned;
              start = is.start;
              size = is.size;
              lands = is.lands;
              from = omega (arith, up, from);
              under = is.under;
              over = is.over;
              before = is.before;
              others = with-one (λ u. (u.to + u.size ≤ x) ⊎ (w.to ≤ u.to)) p v vs is_known start
                  (λ e. inl (let l = ends e in omega (arith, l, from))) is.others;
            },
          )

      step : ((n : ℕ) → Placed segments all n ps vs after → n ≤ low → Comes n vs after)
          → (b : Bool) → p.pinned ≡ b
          → MatchBool b ((v.to ≡ p.start) × Placed segments all pointer ps vs after)
          (IsDestination segments all pointer p.size v.to × Placed segments all (v.to + v.size) ps vs after)
          → Comes pointer (v ∷ vs) after
      step more true e g =
          on pointer (omega arith) (placed_up segments all pointer ps vs after g.1)
          (λ f. absurd (both_ways p.pinned f e)) (more pointer g.1 under)
      step more false e g = by (off v first)
        where
          ahead : v.to + v.size ≤ after
          ahead = placed_up segments all (v.to + v.size) ps vs after g.1

          by : IsOff v → Comes pointer (v ∷ vs) after
          by (inl below) =
              let up = g.0.not_below in
              on (v.to + v.size) (omega (arith, up)) ahead (λ f. omega arith) (more (v.to + v.size) g.1 below)
          by (inr above) =
              let a = ahead in
              inr (
                p,
                v,
                pointer,
                record {
                  known = is_known;
                  among = first;
                  unpinned = e;
                  start = start;
                  size = h.1;
                  lands = g.0;
                  from = omega arith;
                  under = under;
                  over = above;
                  before = omega (arith, a);
                  others = with-one (λ u. (u.to + u.size ≤ pointer) ⊎ (v.to ≤ u.to)) p v vs is_known start
                      (λ f. inr (omega arith))
                      (weaker (λ u. v.to + v.size ≤ u.to) (λ u. (u.to + u.size ≤ pointer) ⊎ (v.to ≤ u.to)) vs
                      (λ u l. inr (omega (arith, l)))
                      (placed-above (v.to + v.size) ps vs after g.1 (λ q i. known q (later i))));
                },
              )

  either : (P : Move → Type 0) (vs ws : List Move) → OfUnpinned P vs → OfUnpinned P ws → OfUnpinned P (vs ++ ws)
  either P vs ws one other v i = elim (in_append vs i) [ inl j ↦ one v j | inr j ↦ other v j ]

  -- plugs that are placed behind others, from a pointer that may have been raised in between
  pub comes-on : (begin : ℕ) (vs : List Move) (mid next : ℕ) (ws : List Move) (after : ℕ) → begin ≤ mid → mid ≤ next
      → next ≤ after → Comes begin vs mid → (mid ≤ low → Comes next ws after) → OfUnpinned (λ w. next ≤ w.to) ws
      → Comes begin (vs ++ ws) after
  comes-on begin vs mid next ws after up raised ahead (inl (below, ends)) more above = go (more below)
    where
      go : Comes next ws after → Comes begin (vs ++ ws) after
      go (inl (under, rest)) =
          inl (
            under,
            either (λ w. w.to + w.size ≤ after) vs ws
                (weaker (λ w. w.to + w.size ≤ mid) (λ w. w.to + w.size ≤ after) vs
                (λ w l. omega (arith, l, raised, ahead)) ends)
                rest,
          )
      go (inr (p, v, x, is)) =
          let from = is.from in
          inr (
            p,
            v,
            x,
            record {
              known = is.known;
              among = append_right vs is.among;
              unpinned = is.unpinned;
              start = is.start;
              size = is.size;
              lands = is.lands;
              from = omega (arith, up, raised, from);
              under = is.under;
              over = is.over;
              before = is.before;
              others = either (λ u. (u.to + u.size ≤ x) ⊎ (v.to ≤ u.to)) vs ws
                  (weaker (λ w. w.to + w.size ≤ mid) (λ u. (u.to + u.size ≤ x) ⊎ (v.to ≤ u.to)) vs
                  (λ w l. inl (omega (arith, l, raised, from))) ends) is.others;
            },
          )
  comes-on begin vs mid next ws after up raised ahead (inr (p, v, x, is)) more above =
      let before = is.before in
      inr (
        p,
        v,
        x,
        record {
          known = is.known;
          among = append_left ws is.among;
          unpinned = is.unpinned;
          start = is.start;
          size = is.size;
          lands = is.lands;
          from = is.from;
          under = is.under;
          over = is.over;
          before = omega (arith, before, raised, ahead);
          others = either (λ u. (u.to + u.size ≤ x) ⊎ (v.to ≤ u.to)) vs ws is.others
              (weaker (λ w. next ≤ w.to) (λ u. (u.to + u.size ≤ x) ⊎ (v.to ≤ u.to)) ws
              (λ w l. inr (omega (arith, l, before, raised))) above);
        },
      )
