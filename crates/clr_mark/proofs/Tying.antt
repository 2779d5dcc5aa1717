-- A pass over dependent handles: what it marks is reached, and where it marks nothing each tie is followed.
use Rattle.std.proofs.Common.{◌≡◌, ◌⊎◌, ◌↔◌, inl, inr, ℕ, ◌<◌, ◌≤◌, Bool, true, false, not, List, [], Some, None}
use Rattle.std.proofs.Common.{IsTrue, refl, ap, sym, ◌∙◌, subst, arith, nat_eq}
use Rattle.std.specs.FinMap as finmap
use Rattle.std.proofs.lemmas.Bool.{and_cases, and_left, and_parts, and_right, both_ways, eqb-false, eqb-true}
use Rattle.std.proofs.lemmas.Bool.{false_from_ne_true, not-false, not-true, true≢false}
use Rattle.clr_types.specs.Types.{TypeRow}
use Rattle.clr_types.specs.declared.handle.Handle.{Handle}
use Rattle.clr_types.specs.declared.handle.Kind.{Kind}
use Rattle.clr_types.specs.declared.handle.Kind.TheVariants.{Dependent, Pinned, Strong, Weak, WeakLong}
use Rattle.clr_handles.specs.Places.{names_from}
use Rattle.clr_handles.specs.Tables.{Table}
use Rattle.clr_handles.specs.Tops.{HasNone}
use Rattle.clr_heap.specs.View.{HeapView, IsHeap}
use Rattle.clr_heap.proofs.Rewrite.{shaped_heap}
use Rattle.clr_types.specs.Kinds.{is_dependent}
use Rattle.clr_model.specs.Reach.{follows, Reach, SecondOf, starts}
use Rattle.clr_view.specs.Marks.{Marked}
use Rattle.clr_view.specs.SlotValues.{StandsAt}
use Rattle.clr_view.specs.View.{IsHeld}
use Rattle.clr_view.specs.World.{HandlesStand, HandleStands}
use Rattle.clr_mark.specs.declared.marker.ahead.Ahead.{Ahead}
use Rattle.clr_mark.specs.HandlePasses.{AllArePassed, HasTaken, IsBehind, NoneIsBehind}
use Rattle.clr_mark.specs.Marks.{is_condemned_place, is_new, IsRemarked, LeadsTo}
use Rattle.clr_mark.specs.Markings.{HasReached, unmarked_count}
use Rattle.clr_mark.specs.Ties.{AreTiesFollowed, Draws, is_tie_due, IsTiedToOld}
use Rattle.clr_mark.specs.Waiting.{IsGray, IsIdle, MarkerView}
use Rattle.clr_mark.proofs.Counting.{unmarked_le, unmarked_lt}
use Rattle.clr_mark.proofs.Graying.{leads_back, leads_on, reach_in, reach_on, reached-refl, reached-trans}
use Rattle.clr_mark.proofs.Graying.{same_condemned}
use Rattle.clr_mark.proofs.Held.{keeps_held}
use Rattle.clr_mark.proofs.Laws.{settled_marked}
use Rattle.clr_mark.proofs.NewParts.{new_parts, not_new}
use Rattle.clr_mark.proofs.Remarking.{keeps_stands, stands_before}
use Rattle.clr_mark.proofs.TargetRoots.{names_below, same_row}
use Rattle.clr_mark.proofs.ReachParts.{iff_trans, reach_iff}
use Rattle.clr_mark.proofs.TiedMarks.{draws_same, handles_on, leads_draws, leads_same, tied_same}

-- ---- a handle's second that is still to be marked

pub record IsDue (h : HeapView) (g : ℕ) (row : Handle) : Type 0 where
  pub dependent : IsTrue (is_dependent row.kind)
  pub second : 0 < row.second
  pub fresh : is_new h g row.second ≡ true
  pub stays : is_new h g row.target ≡ false

pub due_parts : (h : HeapView) (g : ℕ) (row : Handle) → is_tie_due h g row ≡ true → IsDue h g row
due_parts h g row e =
    let a = and_parts (is_dependent row.kind) _ e in
    let b = and_parts (not (nat_eq row.second 0)) _ a.1 in
    let c = and_parts (is_new h g row.second) _ b.1 in
    let some = eqb-false row.second 0 (not-true _ b.0) in
    record { dependent = a.0; second = omega (arith, some); fresh = c.0; stays = not-true _ c.1 }

-- what names no place from `low` on isn't due
pub far_not_due : (h : HeapView) (g low : ℕ) (row : Handle)
    → ((x : ℕ) → is_condemned_place h g x ≡ true → low ≤ x) → names_from low row ≡ false → is_tie_due h g row ≡ false
far_not_due h g low row lowest far = false_from_ne_true (is_tie_due h g row) (λ due.
    let fresh = (due_parts h g row due).fresh in
    let near = lowest row.second (new_parts h g row.second fresh).0 in
    let below = (names_below low row far).1 in
    omega arith)

-- where both places of a dependent handle stand
pub record BothStand (rows : List TypeRow) (h : HeapView) (row : Handle) : Type 0 where
  pub target : StandsAt rows h row.target
  pub second : StandsAt rows h row.second

pub both_stand : (rows : List TypeRow) (h : HeapView) (row : Handle) → HandleStands rows h row → 0 < row.second
    → BothStand rows h row
both_stand rows h row s some = record {
  target = elim s.target [
    | inl null ↦ let none = s.owned.primary null in absurd (omega arith)
    | inr stands ↦ stands
  ];
  second = elim s.second [ inl null ↦ absurd (omega arith) | inr stands ↦ stands ];
}

-- what `root` and `drain_slots` leave where a second is due: it is marked, and what is reached from it
pub due_marked : (rows : List TypeRow) (h mid new : HeapView) (m mark : MarkerView) (y : ℕ) → IsHeap h → IsHeld rows h
    → is_condemned_place h m.oldest y ≡ true → mark.oldest ≡ m.oldest → IsRemarked rows h mid
    → ((x : ℕ) → Marked rows mid x
    ↔ (((x ≡ y) × (is_condemned_place h m.oldest y ≡ true)) ⊎ Marked rows h x))
    → ((x : ℕ) → Marked rows new x ↔ Reach (LeadsTo rows mid mark.oldest) (Marked rows mid) x)
    → (x : ℕ) → Marked rows new x ↔ Reach (LeadsTo rows h m.oldest) (λ z. Marked rows h z ⊎ (z ≡ y)) x
due_marked rows h mid new m mark y heap held near oldest words only exact =
    let g = m.oldest in
    let start : ℕ → Type 0 = λ z. Marked rows h z ⊎ (z ≡ y) in
    let E : ℕ → Type 0 = λ b. (x : ℕ) → Marked rows new x ↔ Reach (LeadsTo rows mid b) (Marked rows mid) x in
    iff_trans (Marked rows new) (Reach (LeadsTo rows mid g) (Marked rows mid)) (Reach (LeadsTo rows h g) start)
    (subst E oldest exact)
    (reach_iff (LeadsTo rows h g) (LeadsTo rows mid g) start (Marked rows mid)
    (leads_same rows h mid heap held words g) (λ z. (
      λ s. elim ((only z).0 s) [ inl is ↦ inr is.0 | inr was ↦ inl was ],
      λ s. elim s [ inl was ↦ (only z).1 (inr was) | inr e ↦ (only z).1 (inl (e, near)) ],
    )))

-- ---- where no handle's second is due

module _ (rows : List TypeRow) (h : HeapView) (handles : Table) (g : ℕ) (stand : HandlesStand rows h handles)
    (none : (k : ℕ) (row : Handle) → finmap.get handles k ≡ Some row → is_tie_due h g row ≡ false) where
  -- the second of a primary that stays is marked
  second_marked : (x y : ℕ) → SecondOf handles x y → is_condemned_place h g y ≡ true → is_new h g x ≡ false
      → Marked rows h y
  second_marked x y s near stays =
      let row = s.row in
      let P : ℕ → Type 0 = λ b. is_new h g b ≡ false in
      let Q : ℕ → Type 0 = λ b. is_condemned_place h g b ≡ true in
      let R : ℕ → Type 0 = λ b. Marked rows h b in
      let at = s.secondary in
      let some : 0 < row.second = let n = s.not_null in omega arith in
      let stands = (both_stand rows h row (stand s.handle row s.in_use) some).second in
      elim (and_cases (is_dependent row.kind) _ (none s.handle row s.in_use)) [
        | inl other ↦ absurd (both_ways _ other s.dependent)
        | inr a ↦ elim (and_cases (not (nat_eq row.second 0)) _ a) [
          | inl null ↦ let zero = eqb-true row.second 0 (not-false _ null) in absurd (omega arith)
          | inr b ↦ elim (and_cases (is_new h g row.second) _ b) [
            | inl known ↦ elim (not_new h g row.second known) [
              | inl far ↦ absurd (both_ways _ far (subst Q (sym at) near))
              | inr on ↦ subst R at (record { stands = stands; mark = on })
            ]
            | inr goes ↦ absurd (both_ways _ (subst P (sym s.primary) stays) (not-false _ goes))
          ]
        ]
      ]

  pub ties_followed : AreTiesFollowed rows h handles g
  ties_followed = record {
    from_marked = λ x y m s near. second_marked x y s near (and_right (is_condemned_place h g x) _ (not_on m.mark));
    from_old = λ y t. second_marked t.by y t.tied t.condemned (and_left (is_condemned_place h g t.by) _ t.old);
  }
    where
      not_on : {b : Bool} → b ≡ true → not b ≡ false
      not_on {b = b} e = ap not e

-- ---- the pass

-- where what handles tie is reached from
abbrev pub MarkedOrTied : List TypeRow → HeapView → Table → ℕ → ℕ → Type 0
MarkedOrTied rows h handles g y = Marked rows h y ⊎ IsTiedToOld rows h handles g y

-- the handles behind are followed, where nothing was marked; `h` is the heap and `m` the marker when the pass began
pub record IsTying (rows : List TypeRow) (h now : HeapView) (m mark : MarkerView) (handles : Table) (ahead : Ahead)
    (marked : Bool) : Type 0 where
  pub gray : IsGray rows now mark
  pub marker : mark ≡ m
  pub reached : HasReached rows (Draws rows h handles m.oldest) (MarkedOrTied rows h handles m.oldest) h now
  pub fewer : marked ≡ true → unmarked_count rows now < unmarked_count rows h
  pub behind : marked ≡ false → (k : ℕ) (row : Handle) → finmap.get handles k ≡ Some row → k < 65536
      → IsBehind ahead k → is_tie_due now m.oldest row ≡ false

pub tying_starts : (rows : List TypeRow) (h : HeapView) (m : MarkerView) (handles : Table) (ahead : Ahead)
    → IsGray rows h m → NoneIsBehind ahead → IsTying rows h h m m handles ahead false
tying_starts rows h m handles ahead gray none = record {
  gray = gray;
  marker = refl;
  reached = reached-refl rows (Draws rows h handles m.oldest) (MarkedOrTied rows h handles m.oldest) h (λ x s. inl s);
  fewer = λ e. absurd (true≢false (sym e));
  behind = λ e k row is few b. absurd (none k few b);
}

module _ (rows : List TypeRow) (h now : HeapView) (m mark : MarkerView) (handles : Table) (ahead : Ahead)
    (marked : Bool) (heap : IsHeap h) (held : IsHeld rows h) (stand : HandlesStand rows h handles)
    (r : IsTying rows h now m mark handles ahead marked) where
  -- the second of a handle is reached, where it is due
  due_reached : (k : ℕ) (row : Handle) → finmap.get handles k ≡ Some row → IsDue now m.oldest row
      → Reach (Draws rows h handles m.oldest) (MarkedOrTied rows h handles m.oldest) row.second
  due_reached k row e due =
      let g = m.oldest in
      let q = r.reached.remarked in
      let same : (x : ℕ) → is_condemned_place now g x ≡ is_condemned_place h g x =
      λ x. same_condemned rows h now g x q in
      let stands = both_stand rows h row (stand k row e) due.second in
      let near : is_condemned_place h g row.second ≡ true =
      sym (same row.second) ∙ (new_parts now g row.second due.fresh).0 in
      let tied : SecondOf handles row.target row.second = record {
        handle = k;
        row = row;
        in_use = e;
        dependent = due.dependent;
        primary = refl;
        secondary = refl;
        not_null = due.second;
      } in
      elim (not_new now g row.target due.stays) [
        | inl far ↦ starts (inr (record {
          by = row.target;
          stands = stands.target;
          old = sym (same row.target) ∙ far;
          tied = tied;
          condemned = near;
        }))
        | inr on ↦
            follows (r.reached.reached row.target (record {
              stands = keeps_stands rows h now heap held q row.target stands.target;
              mark = on;
            })) (record { joined = inr tied; condemned = near })
      ]

  -- a handle's second was due: it is marked now, and what it reaches by slots
  pub tying_due : (new : HeapView) (last : MarkerView) (low : ℕ) (next : Ahead) (row : Handle)
      → HasTaken handles low ahead next row → is_tie_due now mark.oldest row ≡ true → last ≡ mark → IsGray rows new last
      → IsRemarked rows now new
      → ((x : ℕ) → Marked rows new x ↔ Reach (LeadsTo rows now mark.oldest)
      (λ y. Marked rows now y ⊎ (y ≡ row.second)) x)
      → IsTying rows h new m last handles next true
  tying_due new last low next row t is_due same gray words exact =
      let g = m.oldest in
      let oldest : mark.oldest ≡ g = ap (λ (n : MarkerView). n.oldest) r.marker in
      let q = r.reached.remarked in
      let now_heap = shaped_heap h now q.shape heap in
      let now_held = keeps_held rows h now heap held q in
      let D : ℕ → Type 0 = λ b. is_tie_due now b row ≡ true in
      let due = due_parts now g row (subst D oldest is_due) in
      let start = MarkedOrTied rows h handles g in
      let first : ℕ → Type 0 = λ y. Marked rows now y ⊎ (y ≡ row.second) in
      let E : ℕ → Type 0 = λ b. (x : ℕ) → Marked rows new x ↔ Reach (LeadsTo rows now b) first x in
      let all = subst E oldest exact in
      let kept : (x : ℕ) → Marked rows now x → Marked rows new x = λ x s. (all x).1 (starts (inl s)) in
      let second = (all row.second).1 (starts (inr refl)) in
      let before = stands_before rows now new now_heap now_held words row.second second.stands in
      let less = unmarked_lt rows now new now_heap now_held words kept row.second before
      (new_parts now g row.second due.fresh).1 second.mark in
      let most = unmarked_le rows h now heap held q r.reached.kept in
      record {
        gray = gray;
        marker = same ∙ r.marker;
        reached = reached-trans rows (Draws rows h handles g) (LeadsTo rows now g) start first h now new heap held
            r.reached (λ y z e. leads_draws rows h handles g y z (leads_back rows h now heap held q g y z e))
            (λ y s. elim s [
              | inl was ↦ r.reached.reached y was
              | inr e ↦
                  let P : ℕ → Type 0 = λ b. Reach (Draws rows h handles g) start b in
                  subst P (sym e) (due_reached t.number row t.in_use due)
            ]) (record { remarked = words; kept = kept; reached = λ x. (all x).0 });
        fewer = λ _. omega (arith, less, most);
        behind = λ e. absurd (true≢false e);
      }

  module _ (low : ℕ) (lowest : (x : ℕ) → is_condemned_place h m.oldest x ≡ true → low ≤ x) where
    lowest_now : (x : ℕ) → is_condemned_place now m.oldest x ≡ true → low ≤ x
    lowest_now x near = lowest x (sym (same_condemned rows h now m.oldest x r.reached.remarked) ∙ near)

    -- it wasn't
    pub tying_not_due : (next : Ahead) (row : Handle) → HasTaken handles low ahead next row
        → is_tie_due now mark.oldest row ≡ false → IsTying rows h now m mark handles next marked
    tying_not_due next row t not_due = record {
      gray = r.gray;
      marker = r.marker;
      reached = r.reached;
      fewer = r.fewer;
      behind = λ none k other e few b. elim (t.passed k other e b) [
        | inl same ↦
            let oldest : mark.oldest ≡ m.oldest = ap (λ (n : MarkerView). n.oldest) r.marker in
            let is = same_row handles t.number k row other t.in_use e (sym same) in
            let D : ℕ → Type 0 = λ b. is_tie_due now b row ≡ false in
            let P : Handle → Type 0 = λ o. is_tie_due now m.oldest o ≡ false in
            subst P is (subst D oldest not_due)
        | inr passed ↦ elim passed [
          | inl before ↦ r.behind none k other e few before
          | inr far ↦ far_not_due now m.oldest low other lowest_now far
        ]
      ];
    }

    -- where nothing was marked each tie is followed
    pub tying_ends : ((k : ℕ) (row : Handle) → finmap.get handles k ≡ Some row → k < 65536)
        → AllArePassed handles low ahead → marked ≡ false → AreTiesFollowed rows now handles m.oldest
    tying_ends below all none =
        ties_followed rows now handles m.oldest (handles_on rows h now heap held r.reached.remarked handles stand)
        (λ k row e. elim (all k row e) [
          | inl behind ↦ r.behind none k row e (below k row e) behind
          | inr far ↦ far_not_due now m.oldest low row lowest_now far
        ])

-- ---- passes until one marks nothing

-- nothing waits; `h` is the heap and `m` the marker at the start
pub record IsDraining (rows : List TypeRow) (h now : HeapView) (m mark : MarkerView) (handles : Table) : Type 0 where
  pub gray : IsGray rows now mark
  pub marker : mark ≡ record m { stack = []; ranges = [] }
  pub reached : HasReached rows (Draws rows h handles m.oldest) (MarkedOrTied rows h handles m.oldest) h now

-- what was to be followed by slots is
pub draining_starts : (rows : List TypeRow) (h now : HeapView) (m mark : MarkerView) (handles : Table)
    → IsGray rows now mark → mark ≡ record m { stack = []; ranges = [] } → IsRemarked rows h now
    → ((x : ℕ) → Marked rows now x ↔ Reach (LeadsTo rows h m.oldest) (Marked rows h) x)
    → IsDraining rows h now m mark handles
draining_starts rows h now m mark handles gray same words exact = record {
  gray = gray;
  marker = same;
  reached = record {
    remarked = words;
    kept = λ x s. (exact x).1 (starts s);
    reached = λ x s. reach_on (Draws rows h handles m.oldest) (LeadsTo rows h m.oldest)
        (MarkedOrTied rows h handles m.oldest) (Marked rows h) x
        (leads_draws rows h handles m.oldest) (λ y s. inl s) ((exact x).0 s);
  };
}

-- nothing waits on such a marker
idle_marker : (m mark : MarkerView) → mark ≡ record m { stack = []; ranges = [] } → IsIdle mark
idle_marker m mark e =
    record { stack = ap (λ (n : MarkerView). n.stack) e; ranges = ap (λ (n : MarkerView). n.ranges) e }

module _ (rows : List TypeRow) (h now : HeapView) (m mark : MarkerView) (handles : Table) (heap : IsHeap h)
    (held : IsHeld rows h) (r : IsDraining rows h now m mark handles) where
  same_oldest : mark.oldest ≡ m.oldest
  same_oldest = ap (λ (n : MarkerView). n.oldest) r.marker

  -- a pass more
  pub draining_more : (new : HeapView) (last : MarkerView) → last ≡ mark → IsGray rows new last
      → HasReached rows (Draws rows now handles mark.oldest) (MarkedOrTied rows now handles mark.oldest) now new
      → IsDraining rows h new m last handles
  draining_more new last same gray more =
      let g = m.oldest in
      let q = r.reached.remarked in
      let P : ℕ → Type 0 = λ b. HasReached rows (Draws rows now handles b) (MarkedOrTied rows now handles b) now new in
      record {
        gray = gray;
        marker = same ∙ r.marker;
        reached = reached-trans rows (Draws rows h handles g) (Draws rows now handles g)
            (MarkedOrTied rows h handles g) (MarkedOrTied rows now handles g) h now new heap held r.reached
            (λ y z. (draws_same rows h now heap held q handles g y z).0) (λ y s. elim s [
              | inl was ↦ r.reached.reached y was
              | inr tied ↦ starts (inr ((tied_same rows h now heap held q handles g y).0 tied))
            ]) (subst P same_oldest more);
      }

  -- what is marked leads to nothing that isn't
  leads_marked : (y z : ℕ) → Marked rows now y → LeadsTo rows now m.oldest y z → Marked rows now z
  leads_marked y z s lead =
      let idle = idle_marker m mark r.marker in
      let P : ℕ → Type 0 = λ b. LeadsTo rows now b y z in
      settled_marked rows now mark y z r.gray idle s (subst P (sym same_oldest) lead)

  -- each tie is followed: exactly what is reached is marked
  pub draining_ends : (b : ℕ) → mark.oldest ≡ b → AreTiesFollowed rows now handles b → (x : ℕ)
      → Marked rows now x
      ↔ Reach (Draws rows h handles m.oldest) (MarkedOrTied rows h handles m.oldest) x
  draining_ends b same followed x =
      let g = m.oldest in
      let q = r.reached.remarked in
      let P : ℕ → Type 0 = λ b. AreTiesFollowed rows now handles b in
      let ties = subst P (sym same ∙ same_oldest) followed in (
        r.reached.reached x,
        reach_in (Draws rows h handles g) (MarkedOrTied rows h handles g) (Marked rows now) x
            (λ y s. elim s [
              | inl was ↦ r.reached.kept y was
              | inr tied ↦ ties.from_old y ((tied_same rows h now heap held q handles g y).1 tied)
            ])
            (λ y z s e. elim e.joined [
              | inl named ↦
                  leads_marked y z s (leads_on rows h now heap held q g y z
                  (record { named = named; condemned = e.condemned }))
              | inr tied ↦ ties.from_marked y z s tied (same_condemned rows h now g z q ∙ e.condemned)
            ]),
      )

-- without dependent handles no object is tied to another
dependent_is : (k : Kind) → IsTrue (is_dependent k) → k ≡ Dependent
dependent_is Strong e = absurd (true≢false (sym e))
dependent_is Pinned e = absurd (true≢false (sym e))
dependent_is Weak e = absurd (true≢false (sym e))
dependent_is WeakLong e = absurd (true≢false (sym e))
dependent_is Dependent e = refl

pub no_ties : (rows : List TypeRow) (h : HeapView) (handles : Table) (g : ℕ)
    → HasNone Dependent handles → AreTiesFollowed rows h handles g
no_ties rows h handles g none = record {
  from_marked = λ x y marked s near. absurd (none s.handle s.row s.in_use (dependent_is s.row.kind s.dependent));
  from_old = λ y t. let s = t.tied in absurd (none s.handle s.row s.in_use (dependent_is s.row.kind s.dependent));
}
