-- A fitting: a fit, and the usual compaction of generation 1 of what found no room.
use Rattle.std.proofs.Common.{◌≡◌, ℕ, ◌+◌, ◌-◌, ◌<◌, ◌≤◌, ◌⊎◌, inl, inr, List, [], ◌∷◌, ◌++◌, map, refl, sym, ap, subst}
use Rattle.std.proofs.Common.{◌∙◌, arith, Bool, true, false, if◌then◌else◌, filter, ◌&&◌, not, nat_le, nat_lt, ◌==◌}
use Rattle.std.proofs.Common.{◌||◌, Option, Some, None}
use Rattle.std.proofs.lemmas.Bool.{and_parts, and_from, le-leb, leb-true, lt-ltb, cases_Bool}
use Rattle.std.specs.Option.{option_map}
use Rattle.std.specs.List.{list_any}
use Rattle.clr_types.specs.Rising.{IsIn, IsRisingBy}
use Rattle.clr_types.specs.Segments.{Layout, generation, ephemeral, stands_in, rest_pieces}
use Rattle.clr_types.proofs.RisingLists.{all_at}
use Rattle.clr_types.proofs.SortedLists.{rising_agree_by, sorted_by-rises, into_sorted_by, out_of_sorted_by}
use Rattle.clr_types.proofs.ChangedLists.{all_members, into_filter, out_of_filter, IsIn-map}
use Rattle.clr_types.proofs.ListMembers.{from-map, filter-rises, distinct_map, distinct_filter, filter-map, map-map}
use Rattle.clr_types.proofs.ListMembers.{map-on}
use Rattle.clr_model.specs.Machine.{Machine, Object}
use Rattle.clr_model.specs.Lookups.{object_named, object_piece, object_size, is_pinned}
use Rattle.clr_model.specs.Reach.{is_suppressed, suppressed_or_none}
use Rattle.clr_model.specs.Lawful.{IsLaid, IsLawful}
use Rattle.clr_model.proofs.NamedWell.{lawful-named}
use Rattle.clr_model.specs.Sweep.{Survivor, survivor, survivors, is_condemned, base_at, part_start}
use Rattle.clr_model.specs.Compaction.{Move, moved_by, IsCompacted}
use Rattle.clr_model.specs.Collection.{object_after, objects_after, is_dropped}
use Rattle.clr_model.specs.Slide.{slid_object}
use Rattle.clr_model.specs.Fitting.{Fit, fit_of, is_moved, unfitted, fitted_layout, IsFitted}
use Rattle.clr_model.proofs.Apart.{AreApart}
use Rattle.clr_model.proofs.LawfulPieces.{HasHome, piece-home, places-distinct, object-in-pieces}
use Rattle.clr_model.proofs.CompactionExists.{compaction_exists}
use Rattle.clr_model.proofs.LawfulSurvivors.{survivor-is}
use Rattle.clr_model.proofs.MovedPlaces.{moved-is, ready, covered, IsCovered, compacted_apart, object_lower}
use Rattle.clr_model.proofs.MovedPlaces.{pinned_stays}
use Rattle.clr_model.proofs.CollectedLaid.{collected_laid}
use Rattle.clr_model.proofs.CondemnedPlugs.{AreCondemned}
use Rattle.clr_model.proofs.CompactedSmall.{part_raised, start1-is}
use Rattle.clr_model.proofs.CondemnedParts.{start-ephemeral}
use Rattle.clr_model.proofs.Landings.{covered_by, none_higher, pinned_still}
use Rattle.clr_model.proofs.SlidLawful.{named-slid}
use Rattle.clr_model.proofs.FitFillings.{going, lands-in, item-below, moved-covers, unmoved-still}
use Rattle.clr_model.proofs.FitLaid.{fit_laid}

-- where a place goes by these moves and then by others
pub moved-append : (vs ws : List Move) (x : ℕ)
    → moved_by (vs ++ ws) x ≡ (if is_moved vs x then moved_by vs x else moved_by ws x)
moved-append [] ws x = refl
moved-append (v ∷ vs) ws x = go (nat_le v.start x && nat_lt x (v.start + v.size)) (moved-append vs ws x)
  where
    go : (b : Bool) → moved_by (vs ++ ws) x ≡ (if is_moved vs x then moved_by vs x else moved_by ws x)
        → (if b then v.to + (x - v.start) else moved_by (vs ++ ws) x)
        ≡ (if b || is_moved vs x then (if b then v.to + (x - v.start) else moved_by vs x) else moved_by ws x)
    go true e = refl
    go false e = e

-- below the first boundary all is of generation 2
pub old-below : (layout : Layout) (x : ℕ) → x < layout.start1 → generation layout x ≡ 2
old-below layout x l =
    ap (λ b. if stands_in (ephemeral layout) x then (if b then 2 else (if nat_lt x layout.start0 then 1 else 0)) else 2)
    (lt-ltb x layout.start1 l) ∙ same (stands_in (ephemeral layout) x)
  where
    same : (b : Bool) → ◌≡◌ {A = ℕ} (if b then 2 else 2) 2
    same true = refl
    same false = refl

module _ (m : Machine) (h : IsLaid m) (bare : rest_pieces m.layout.rests ≡ []) (keeps : ℕ → Bool) where
  abbrev kept : List Survivor
  kept = survivors m 1 keeps

  abbrev F : Fit
  F = fit_of m.layout kept

  -- the machine after the fit
  abbrev pub fit_machine : Machine
  fit_machine = record m {
    objects = map (slid_object (fit_of m.layout (survivors m 1 keeps)).moves) m.objects;
    layout = fitted_layout m.layout (survivors m 1 keeps) (fit_of m.layout (survivors m 1 keeps));
  }

  abbrev fitted : Machine
  fitted = fit_machine

  laid : IsLaid fitted
  laid = fit_laid m h bare keeps

  one : 1 ≤ 2
  one = omega arith

  -- what found room stands below the boundary
  pub gone_below : (o : Object) → IsIn o m.objects
      → is_moved (fit_of m.layout (survivors m 1 keeps)).moves o.place ≡ true
      → moved_by (fit_of m.layout (survivors m 1 keeps)).moves o.place < m.layout.start1
  gone_below o i t =
      let (v, n, c, is) = lands-in m h bare keeps o i t in
      let end = item-below m h bare keeps is.item is.among in let high = is.high in let (z, z') = is.size in
      omega arith

  -- an object that stays is as it was
  still-survivor : (o : Object) → is_moved F.moves o.place ≡ false
      → survivor fitted (slid_object F.moves o) ≡ survivor m o
  still-survivor o e =
      ap (λ n. record {
        place = n;
        size = object_size m.types o;
        segment = base_at m.layout.segments n;
        generation = generation m.layout n;
        pinned = is_pinned m o.name;
      }) (unmoved-still F.moves o.place e)

  out-of-survivors : (n : Machine) (k : Survivor) → IsIn k (survivors n 1 keeps)
      → (o : Object) × IsIn o n.objects × (k ≡ survivor n o) × (generation n.layout o.place ≤ 1)
      × (keeps o.name ≡ true)
  out-of-survivors n k i =
      let (o, e, j) = from-map (survivor n) k (filter (λ (o : Object). is_condemned n 1 o && keeps o.name) n.objects)
      (out_of_sorted_by (λ (s : Survivor). s.place) k _ i) in
      let (t, present) = out_of_filter (λ (o : Object). is_condemned n 1 o && keeps o.name) o n.objects j in
      let (a, b) = and_parts (is_condemned n 1 o) (keeps o.name) t in
      (o, present, e, leb-true (generation n.layout o.place) 1 a, b)

  into-survivors : (n : Machine) (o : Object) → IsIn o n.objects → generation n.layout o.place ≤ 1
      → keeps o.name ≡ true → IsIn (survivor n o) (survivors n 1 keeps)
  into-survivors n o i young stays =
      into_sorted_by (λ (s : Survivor). s.place) (survivor n o)
      (map (survivor n) (filter (λ (o : Object). is_condemned n 1 o && keeps o.name) n.objects))
      (IsIn-map (survivor n) (into_filter (λ (o : Object). is_condemned n 1 o && keeps o.name) n.objects
      (and_from (is_condemned n 1 o) (keeps o.name) (le-leb (generation n.layout o.place) 1 young) stays) i))

  survivors-rise : (n : Machine) → IsLaid n → IsRisingBy (λ (k : Survivor). k.place) (survivors n 1 keeps)
  survivors-rise n l =
      sorted_by-rises (λ (k : Survivor). k.place) _
      (distinct_map (survivor n) (λ (k : Survivor). k.place)
      (filter (λ (o : Object). is_condemned n 1 o && keeps o.name) n.objects)
      (distinct_filter (λ (o : Object). o.place) (λ (o : Object). is_condemned n 1 o && keeps o.name) n.objects
      (places-distinct n l)))

  -- what is left to be compacted is what found no room
  pub left_survivors : survivors fit_machine 1 keeps ≡ unfitted (fit_of m.layout (survivors m 1 keeps))
      (survivors m 1 keeps)
  left_survivors =
      rising_agree_by (λ (k : Survivor). k.place) (survivors fitted 1 keeps) (unfitted F kept)
      (survivors-rise fitted laid)
      (filter-rises (λ k. not (is_moved F.moves k.place)) (λ (k : Survivor). k.place) kept (survivors-rise m h))
      (λ k. (to k, from k))
    where
      to : (k : Survivor) → IsIn k (survivors fitted 1 keeps) → IsIn k (unfitted F kept)
      to k i =
          let (o, present, e, young, stays) = out-of-survivors fitted k i in
          let (q, is, n) = from-map (slid_object F.moves) o m.objects present in
          by q n (e ∙ ap (survivor fitted) is)
          (subst (λ (w : Object). generation m.layout w.place ≤ 1) is young)
          (subst (λ (w : Object). keeps w.name ≡ true) is stays) (cases_Bool (is_moved F.moves q.place))
        where
          by : (q : Object) → IsIn q m.objects → k ≡ survivor fitted (slid_object F.moves q)
              → generation m.layout (moved_by F.moves q.place) ≤ 1 → keeps q.name ≡ true
              → (is_moved F.moves q.place ≡ true) ⊎ (is_moved F.moves q.place ≡ false) → IsIn k (unfitted F kept)
          by q n e young stays (inl t) =
              let two = old-below m.layout (moved_by F.moves q.place) (gone_below q n t) in absurd (omega arith)
          by q n e young stays (inr t) =
              let still = unmoved-still F.moves q.place t in
              let same : k ≡ survivor m q = e ∙ still-survivor q t in
              subst (λ w. IsIn w (unfitted F kept)) (sym same)
              (into_filter (λ k. not (is_moved F.moves k.place)) kept (ap not t)
              (into-survivors m q n (subst (λ x. generation m.layout x ≤ 1) still young) stays))

      from : (k : Survivor) → IsIn k (unfitted F kept) → IsIn k (survivors fitted 1 keeps)
      from k i =
          let (t, j) = out_of_filter (λ k. not (is_moved F.moves k.place)) k kept i in
          let (o, present, e, young, stays) = out-of-survivors m k j in
          let rests : is_moved F.moves o.place ≡ false =
          negated (is_moved F.moves o.place) (ap (λ (u : Survivor). not (is_moved F.moves u.place)) (sym e) ∙ t) in
          subst (λ w. IsIn w (survivors fitted 1 keeps)) (still-survivor o rests ∙ sym e)
          (into-survivors fitted (slid_object F.moves o) (IsIn-map (slid_object F.moves) present)
          (subst (λ x. generation m.layout x ≤ 1) (sym (unmoved-still F.moves o.place rests)) young) stays)
        where
          negated : (b : Bool) → not b ≡ true → b ≡ false
          negated true e = absurd cc
          negated false e = refl

  -- a fitting exists
  pub can_fit : (moves : List Move) × (new : Layout) × IsFitted m.layout (survivors m 1 keeps) moves new
  can_fit =
      let (others, new, c) = compaction_exists fitted laid 1 one keeps in (
        F.moves ++ others,
        new,
        record {
          others = others;
          compacted = subst (λ ks. IsCompacted fitted.layout 1 ks others new) left_survivors c;
          moves_are = refl;
        },
      )

  module _ (moves : List Move) (new : Layout) (c : IsFitted m.layout (survivors m 1 keeps) moves new) where
    pub compaction : IsCompacted fitted.layout 1 (survivors fitted 1 keeps) c.others new
    compaction = subst (λ ks. IsCompacted fitted.layout 1 ks c.others new) (sym left_survivors) c.compacted

    -- what found room isn't compacted
    rests : (o : Object) → IsIn o m.objects → is_moved F.moves o.place ≡ true
        → moved_by c.others (moved_by F.moves o.place) ≡ moved_by F.moves o.place
    rests o i t = elim (moved-is c.others (moved_by F.moves o.place)) [
      | inr (none, e) ↦ e
      | inl (v, j, cover, e) ↦
          let is : IsCovered fitted laid 1 one keeps c.others new compaction (slid_object F.moves o) v =
          covered fitted laid 1 one keeps c.others new compaction (slid_object F.moves o)
          (IsIn-map (slid_object F.moves) i) v j cover in
          let young : generation m.layout (moved_by F.moves o.place) ≤ 1 =
          (survivor-is fitted laid 1 one keeps (survivor fitted (slid_object F.moves o)) is.survives).age in
          let two = old-below m.layout (moved_by F.moves o.place) (gone_below o i t) in
          absurd (omega arith)
    ]

    -- an object goes by the fit, and then by the compaction
    pub twice : (o : Object) → IsIn o m.objects
        → moved_by c.others (moved_by (fit_of m.layout (survivors m 1 keeps)).moves o.place) ≡ moved_by moves o.place
    twice o i =
        by (cases_Bool (is_moved F.moves o.place))
        ∙ sym (ap (λ vs. moved_by vs o.place) c.moves_are ∙ moved-append F.moves c.others o.place)
      where
        by : (is_moved F.moves o.place ≡ true) ⊎ (is_moved F.moves o.place ≡ false)
            → moved_by c.others (moved_by F.moves o.place)
            ≡ (if is_moved F.moves o.place then moved_by F.moves o.place else moved_by c.others o.place)
        by (inl t) = rests o i t ∙ sym (ap (λ b. if b then moved_by F.moves o.place else moved_by c.others o.place) t)
        by (inr t) = ap (moved_by c.others) (unmoved-still F.moves o.place t)
            ∙ sym (ap (λ b. if b then moved_by F.moves o.place else moved_by c.others o.place) t)

    -- no object goes higher, and no pinned one goes
    pub fitted_lower : (o : Object) → IsIn o m.objects → moved_by moves o.place ≤ o.place
    fitted_lower o i =
        let a = twice o i in
        let b = object_lower fitted laid 1 one keeps c.others new compaction (slid_object F.moves o) in
        let d = none_higher m h keeps _ _ F.moves (going m h bare keeps) o.place in
        omega arith

    pub fitted_pinned : (o : Object) → IsIn o m.objects → is_pinned m o.name ≡ true
        → moved_by moves o.place ≡ o.place
    fitted_pinned o i pinned =
        sym (twice o i)
        ∙ pinned_stays fitted laid 1 one keeps c.others new compaction (slid_object F.moves o)
        (IsIn-map (slid_object F.moves) i) pinned
        ∙ pinned_still m h keeps _ _ F.moves (going m h bare keeps) o i pinned

    -- ---- generations

    ready-now : AreCondemned fitted.layout 1 compaction.segments compaction.plugs
    ready-now = ready fitted laid 1 one keeps c.others new compaction

    -- the first boundary goes up, or stays
    boundary-up : m.layout.start1 ≤ new.start1
    boundary-up =
        let from : part_start fitted.layout 1 (ephemeral fitted.layout) ≡ m.layout.start1 =
        start-ephemeral fitted.layout laid.layout 1 one in
        let up = part_raised fitted.layout 1 (survivors fitted 1 keeps) c.others new compaction ready-now in
        elim (start1-is fitted.layout 1 (survivors fitted 1 keeps) c.others new compaction ready-now) [
          | inl (zero, e) ↦ absurd cc
          | inr (some, e) ↦ omega arith
        ]

    -- what found room is of generation 2 then
    pub fitted_age : (o : Object) → IsIn o m.objects
        → is_moved (fit_of m.layout (survivors m 1 keeps)).moves o.place ≡ true
        → generation new (moved_by moves o.place) ≡ 2
    fitted_age o i t =
        let there = sym (twice o i) ∙ rests o i t in
        let down = gone_below o i t in
        let up = boundary-up in
        old-below new (moved_by moves o.place) (omega arith)

    -- ---- the memory

    module _ (alive : ℕ → Bool) (old_kept : (o : Object) → IsIn o m.objects → 1 < generation m.layout o.place
        → keeps o.name ≡ true) (apart : AreApart m.objects) where
      pub fitted-apart : AreApart fitted.objects
      fitted-apart = record {
        names = distinct_map (slid_object F.moves) (λ (o : Object). o.name) m.objects apart.names;
        places = places-distinct fitted laid;
        named = all_members (λ (o : Object). 0 < o.name) fitted.objects
            (λ o i. let (p, e, j) = from-map (slid_object F.moves) o m.objects i in
            subst (λ (w : Object). 0 < w.name) (sym e) (all_at (λ (o : Object). 0 < o.name) j apart.named));
        placed = all_members (λ (o : Object). 0 < o.place) fitted.objects
            (λ o i. let k : HasHome fitted.layout o.place =
            piece-home fitted laid (object_piece m.types o) (object-in-pieces fitted laid o i) in
            let l = k.low in omega arith);
      }

      pub old-kept : (o : Object) → IsIn o fitted.objects → 1 < generation fitted.layout o.place → keeps o.name ≡ true
      old-kept o i l =
          let (q, e, k) = from-map (slid_object F.moves) o m.objects i in
          subst (λ (w : Object). keeps w.name ≡ true) (sym e)
          (by q k (subst (λ (w : Object). 1 < generation m.layout w.place) e l) (cases_Bool (is_moved F.moves q.place)))
        where
          by : (q : Object) → IsIn q m.objects → 1 < generation m.layout (moved_by F.moves q.place)
              → (is_moved F.moves q.place ≡ true) ⊎ (is_moved F.moves q.place ≡ false) → keeps q.name ≡ true
          by q k l (inl t) =
              let (v, n, cover) = moved-covers F.moves q.place t in
              (covered_by m h keeps _ _ F.moves (going m h bare keeps) q k v n cover).stays
          by q k l (inr t) = old_kept q k (subst (λ x. 1 < generation m.layout x) (unmoved-still F.moves q.place t) l)

      same-flags : (x : ℕ) → is_suppressed fitted x ≡ is_suppressed m x
      same-flags x = ap suppressed_or_none (named-slid F.moves m.objects x) ∙ go (object_named m.objects x)
        where
          go : (r : Option Object) → suppressed_or_none (option_map (slid_object F.moves) r) ≡ suppressed_or_none r
          go None = refl
          go (Some o) = refl

      same-dropped : (x : ℕ) → is_dropped fitted alive x ≡ is_dropped m alive x
      same-dropped x = ap (λ b. list_any (λ e. e == x) m.entries && (not (alive x) && b)) (same-flags x)

      pub same_objects : objects_after fit_machine alive keeps c.others ≡ objects_after m alive keeps moves
      same_objects =
          ap (map (object_after fitted alive c.others)) (filter-map (slid_object F.moves) (λ o. keeps o.name) m.objects)
          ∙ map-map (slid_object F.moves) (object_after fitted alive c.others) (filter (λ o. keeps o.name) m.objects)
          ∙ map-on (λ o. object_after fitted alive c.others (slid_object F.moves o)) (object_after m alive moves)
          (filter (λ o. keeps o.name) m.objects)
          (λ o i. let place = twice o (out_of_filter (λ o. keeps o.name) o m.objects i).1 in
          let flag = same-dropped o.name in
          λ j. record o { place = place j; suppressed = o.suppressed && not (flag j) })

      -- A fitting leaves the memory as lawful.
      pub fitting_laid : IsLaid (record m { objects = objects_after m alive keeps moves; layout = new })
      fitting_laid =
          subst (λ os. IsLaid (record m { objects = os; layout = new })) same_objects
          (collected_laid fitted laid bare 1 one keeps alive c.others new true compaction old-kept
          (compacted_apart fitted laid 1 one keeps c.others new compaction fitted-apart alive).places)

pub fitting_exists : (m : Machine) (kept : ℕ → Bool) → IsLaid m → rest_pieces m.layout.rests ≡ []
    → (moves : List Move) × (new : Layout) × IsFitted m.layout (survivors m 1 kept) moves new
fitting_exists m kept h bare = can_fit m h bare kept

pub fitting_leaves_laid : (m : Machine) (alive kept : ℕ → Bool) (moves : List Move) (new : Layout) → IsLawful m
    → rest_pieces m.layout.rests ≡ []
    → ((o : Object) → IsIn o m.objects → 1 < generation m.layout o.place → kept o.name ≡ true)
    → IsFitted m.layout (survivors m 1 kept) moves new
    → IsLaid (record m { objects = objects_after m alive kept moves; layout = new })
fitting_leaves_laid m alive kept moves new h bare old c =
    fitting_laid m h.laid bare kept moves new c alive old (lawful-named m h).apart

pub fitted_places : (m : Machine) (kept : ℕ → Bool) (moves : List Move) (new : Layout) → IsLaid m
    → rest_pieces m.layout.rests ≡ [] → IsFitted m.layout (survivors m 1 kept) moves new → (o : Object)
    → IsIn o m.objects
    → (moved_by moves o.place ≤ o.place) × (is_pinned m o.name ≡ true → moved_by moves o.place ≡ o.place)
fitted_places m kept moves new h bare c o i =
    (fitted_lower m h bare kept moves new c o i, fitted_pinned m h bare kept moves new c o i)

pub fitted_ages : (m : Machine) (kept : ℕ → Bool) (moves : List Move) (new : Layout) → IsLaid m
    → rest_pieces m.layout.rests ≡ [] → IsFitted m.layout (survivors m 1 kept) moves new → (o : Object)
    → IsIn o m.objects → is_moved (fit_of m.layout (survivors m 1 kept)).moves o.place ≡ true
    → generation new (moved_by moves o.place) ≡ 2
fitted_ages m kept moves new h bare c o i t = fitted_age m h bare kept moves new c o i t
