-- A marking over a list of ties, told by the handles that the list is of.
use Rattle.std.proofs.Common.{◌≡◌, ◌⊎◌, ◌↔◌, inl, inr, ℕ, true, List, [], None, arith, sym, ◌∙◌, subst}
use Rattle.std.proofs.lemmas.Bool.{both_ways, cases_Bool}
use Rattle.clr_types.specs.Types.{TypeRow}
use Rattle.clr_handles.specs.Tables.{Table}
use Rattle.clr_heap.specs.View.{HeapView, IsHeap}
use Rattle.clr_model.specs.Reach.{Reach, SecondOf, starts}
use Rattle.clr_view.specs.Marks.{Marked}
use Rattle.clr_view.specs.SlotValues.{StandsAt}
use Rattle.clr_view.specs.View.{IsHeld}
use Rattle.clr_view.specs.World.{HandlesStand}
use Rattle.clr_mark.specs.Marks.{is_condemned_place, is_new, IsRemarked, LeadsTo}
use Rattle.clr_mark.specs.Markings.{HasGrayed, HasGrayedBy, HasReached}
use Rattle.clr_mark.specs.TieLists.{IsTied, IsTiedToOldBy, LeadsBy, ListsOpen}
use Rattle.clr_mark.specs.Ties.{AreTiesFollowed, Draws}
use Rattle.clr_mark.specs.Waiting.{IsGray, IsGrayBy, IsIdle, MarkerView}
use Rattle.clr_mark.specs.declared.marker.listed.Tie.{Tie}
use Rattle.clr_mark.proofs.EdgeLaws.{gray_by_same, grayed_by_same, settled_by_marked}
use Rattle.clr_mark.proofs.Graying.{reach_on, reached-trans, same_condemned}
use Rattle.clr_mark.proofs.NewParts.{not_new}
use Rattle.clr_mark.proofs.TieLaws.{leads_alone, leads_by, ties_stable}
use Rattle.clr_mark.proofs.TieLists.{listed_only, listed_stand}
use Rattle.clr_mark.proofs.TieMarks.{MarkedOrTiedBy}
use Rattle.clr_mark.proofs.Tying.{both_stand, MarkedOrTied}

-- ---- without ties

-- where the list is empty, slots alone are followed
pub grayed_alone : (rows : List TypeRow) (ties : List Tie) (h new : HeapView) (m now : MarkerView) → ties ≡ []
    → HasGrayed rows h new m now → HasGrayedBy rows (LeadsBy rows ties) h new m now
grayed_alone rows ties h new m now none g =
    let P : List Tie → Type 0 = λ ts. HasGrayedBy rows (LeadsBy rows ts) h new m now in
    subst P (sym none) (grayed_by_same rows (LeadsBy rows []) (LeadsTo rows) (leads_alone rows) h new m now g)

pub led_alone : (rows : List TypeRow) (ties : List Tie) (h : HeapView) (g x y : ℕ) → ties ≡ []
    → LeadsBy rows ties h g x y → LeadsTo rows h g x y
led_alone rows ties h g x y none e =
    let P : List Tie → Type 0 = λ ts. LeadsBy rows ts h g x y in
    (leads_alone rows h g x y).1 (subst P none e)

-- the law by slots alone
pub gray_alone : (rows : List TypeRow) (h : HeapView) (m : MarkerView) → IsGray rows h m
    → IsGrayBy rows (LeadsBy rows []) h m
gray_alone rows h m g = gray_by_same rows (LeadsBy rows []) (LeadsTo rows) (leads_alone rows) h m g

pub gray_fewer : (rows : List TypeRow) (ties : List Tie) (h : HeapView) (m : MarkerView)
    → IsGrayBy rows (LeadsBy rows ties) h m → IsGray rows h m
gray_fewer rows ties h m g = record {
  closed = g.closed;
  stacked = g.stacked;
  settled = λ x s. elim (g.settled x s) [
    | inl waits ↦ inl waits
    | inr all ↦ inr (λ y e. all y (leads_by rows ties h m.oldest x y e))
  ];
}

pub reach_alone : (rows : List TypeRow) (h : HeapView) (g : ℕ) (start : ℕ → Type 0) (x : ℕ)
    → Reach (LeadsBy rows [] h g) start x ↔ Reach (LeadsTo rows h g) start x
reach_alone rows h g start x = (
  reach_on (LeadsTo rows h g) (LeadsBy rows [] h g) start start x (λ y z. (leads_alone rows h g y z).1) (λ y s. s),
  reach_on (LeadsBy rows [] h g) (LeadsTo rows h g) start start x (λ y z. (leads_alone rows h g y z).0) (λ y s. s),
)

-- ---- with ties

module _ (rows : List TypeRow) (ties : List Tie) (h mid new : HeapView) (m mark last : MarkerView) (heap : IsHeap h)
    (held : IsHeld rows h)
    (first : HasReached rows (LeadsBy rows ties h m.oldest) (MarkedOrTiedBy rows h ties m.oldest) h mid)
    (oldest : mark.oldest ≡ m.oldest) where
  -- what was tied to what stays was marked, then all that is reached
  pub drained_reached : IsRemarked rows mid new
      → ((x : ℕ) → Marked rows new x ↔ Reach (LeadsBy rows ties mid mark.oldest) (Marked rows mid) x)
      → HasReached rows (LeadsBy rows ties h m.oldest) (MarkedOrTiedBy rows h ties m.oldest) h new
  drained_reached words exact =
      let g = m.oldest in
      let E : ℕ → Type 0 = λ b. (x : ℕ) → Marked rows new x ↔ Reach (LeadsBy rows ties mid b) (Marked rows mid) x in
      let all = subst E oldest exact in
      reached-trans rows (LeadsBy rows ties h g) (LeadsBy rows ties mid g) (MarkedOrTiedBy rows h ties g)
      (Marked rows mid) h mid new heap held first
      ((ties_stable rows ties).back h mid heap held first.remarked g) first.reached
      (record { remarked = words; kept = λ x s. (all x).1 (starts s); reached = λ x. (all x).0 })

  -- nothing waited before, and nothing does then
  pub drained_marker : IsIdle m → mark.capacity ≡ m.capacity → last ≡ record mark { stack = []; ranges = [] }
      → last ≡ m
  drained_marker idle capacity e = e ∙ (λ k. record {
    stack = sym idle.stack k;
    capacity = capacity k;
    ranges = sym idle.ranges k;
    oldest = oldest k;
  })

module _ (rows : List TypeRow) (ties : List Tie) (h new : HeapView) (m mark : MarkerView) (handles : Table)
    (heap : IsHeap h) (held : IsHeld rows h) (stand : HandlesStand rows h handles)
    (lists : ListsOpen h handles m.oldest ties)
    (r : HasReached rows (LeadsBy rows ties h m.oldest) (MarkedOrTiedBy rows h ties m.oldest) h new) where
  abbrev g : ℕ
  g = m.oldest

  -- what ties lead to is what their handles draw
  pub listed_reached : HasReached rows (Draws rows h handles g) (MarkedOrTied rows h handles g) h new
  listed_reached = record {
    remarked = r.remarked;
    kept = r.kept;
    reached = λ x s. reach_on (Draws rows h handles g) (LeadsBy rows ties h g) (MarkedOrTied rows h handles g)
        (MarkedOrTiedBy rows h ties g) x (λ y z e. record {
          joined = elim e.joined [
            | inl named ↦ inl named
            | inr tied ↦ inr (listed_only handles ties lists.only y z tied)
          ];
          condemned = e.condemned;
        }) (λ y s. elim s [
          | inl was ↦ inl was
          | inr t ↦ inr (record {
            by = t.by;
            stands = (listed_stand rows h handles ties stand lists.only t.by y t.tied).0;
            old = t.old;
            tied = listed_only handles ties lists.only t.by y t.tied;
            condemned = t.condemned;
          })
        ]) (r.reached x s);
  }

  same : (x : ℕ) → is_condemned_place new g x ≡ is_condemned_place h g x
  same x = same_condemned rows h new g x r.remarked

  -- what a handle ties is marked already, or is listed
  marked_or_listed : (x y : ℕ) → SecondOf handles x y → is_condemned_place h g y ≡ true
      → Marked rows new y ⊎ IsTied ties x y
  marked_or_listed x y s near = elim (cases_Bool (is_new h g y)) [
    | inl fresh ↦ inr (lists.all x y s fresh)
    | inr known ↦ elim (not_new h g y known) [
      | inl far ↦ absurd (both_ways _ far near)
      | inr on ↦ inl (r.kept y (record { stands = second_stands; mark = on }))
    ]
  ]
    where
      second_stands : StandsAt rows h y
      second_stands =
          let row = s.row in
          let at = s.secondary in
          let n = s.not_null in
          let P : ℕ → Type 0 = λ z. StandsAt rows h z in
          subst P at (both_stand rows h row (stand s.handle row s.in_use) (omega (arith, at, n))).second

  -- each is followed then
  pub listed_followed : IsGrayBy rows (LeadsBy rows ties) new mark → IsIdle mark → mark.oldest ≡ g
      → ((y : ℕ) → IsTiedToOldBy h ties g y → Marked rows new y) → AreTiesFollowed rows new handles g
  listed_followed gray idle oldest old = record {
    from_marked = λ x y marked s near. elim (marked_or_listed x y s (sym (same y) ∙ near)) [
      | inl is ↦ is
      | inr tied ↦
          let P : ℕ → Type 0 = λ b. LeadsBy rows ties new b x y in
          settled_by_marked rows (LeadsBy rows ties) new mark x y gray idle marked
          (subst P (sym oldest) (record { joined = inr tied; condemned = near }))
    ];
    from_old = λ y t. elim (marked_or_listed t.by y t.tied (sym (same y) ∙ t.condemned)) [
      | inl is ↦ is
      | inr tied ↦ old y (record {
        by = t.by;
        old = sym (same t.by) ∙ t.old;
        tied = tied;
        condemned = sym (same y) ∙ t.condemned;
      })
    ];
  }
