-- Marking what ties name: that of one primary, and that of each primary that stays.
use Rattle.std.proofs.Common.{◌≡◌, ◌≢◌, ◌⊎◌, inl, inr, ℕ, ◌+◌, ◌<◌, ◌≤◌, true, false, not, List, length}
use Rattle.std.proofs.Common.{get_or}
use Rattle.std.proofs.Common.{refl, ap, sym, ◌∙◌, subst, arith}
use Rattle.std.proofs.lemmas.Bool.{and_left, and_right, both_ways, cases_eq, cases_lt}
use Rattle.std.proofs.lemmas.List.{get_or_default}
use Rattle.std.specs.List.Sorted.{IsNonDecreasingBy}
use Rattle.clr_types.specs.Types.{TypeRow}
use Rattle.clr_heap.specs.Memories.{HasWord}
use Rattle.clr_heap.specs.View.{HeapView, IsHeap}
use Rattle.clr_heap.proofs.Rewrite.{shaped_heap}
use Rattle.clr_model.specs.Reach.{follows, Reach, starts}
use Rattle.clr_view.specs.View.{IsHeld}
use Rattle.clr_view.specs.Marks.{Marked}
use Rattle.clr_view.specs.SlotValues.{StandsAt}
use Rattle.clr_mark.specs.Marks.{is_condemned_place, is_new, IsClosed, IsRemarked, with_mark}
use Rattle.clr_mark.specs.Markings.{HasGrayedBy, HasReached, LeavesWaiting}
use Rattle.clr_mark.specs.TieLists.{AreTies, IsTied, IsTiedToOldBy, LeadsBy}
use Rattle.clr_mark.specs.Waiting.{IsGray, IsGrayBy, MarkerView, with_waiting}
use Rattle.clr_mark.specs.declared.marker.listed.Tie.{Tie}
use Rattle.clr_mark.proofs.EdgeLaws.{grayed_by-more, grayed_by-refl}
use Rattle.clr_mark.proofs.Graying.{object_word, reached-refl, same_condemned}
use Rattle.clr_mark.proofs.Held.{keeps_held, remarked-trans}
use Rattle.clr_mark.proofs.NewParts.{new_parts, not_new}
use Rattle.clr_mark.proofs.OneMark.{AfterGray, after_gray, waiting-more, waiting-refl}
use Rattle.clr_mark.proofs.Remarking.{keeps_stands}
use Rattle.clr_mark.proofs.TieLaws.{ties_stable}

-- a tie that stands for none
abbrev pub no_tie : Tie
no_tie = record { primary = 0; second = 0 }

-- the tie at an index
abbrev pub tie_in : List Tie → ℕ → Tie
tie_in ties k = get_or ties k no_tie

tied_in : (ties : List Tie) (k : ℕ) → k < length ties → IsTied ties (tie_in ties k).primary (tie_in ties k).second
tied_in ties k l = (k, l, sym (get_or_default ties k no_tie (tie_in ties k) l))

-- what is tied has an index
record HasIndex (ties : List Tie) (x y : ℕ) : Type 0 where
  index : ℕ
  inside : index < length ties
  primary : (tie_in ties index).primary ≡ x
  second : (tie_in ties index).second ≡ y

index_of : (ties : List Tie) (x y : ℕ) → IsTied ties x y → HasIndex ties x y
index_of ties x y t =
    let is : tie_in ties t.0 ≡ record { primary = x; second = y } =
    get_or_default ties t.0 no_tie (record { primary = x; second = y }) t.1 ∙ t.2 in
    record {
      index = t.0;
      inside = t.1;
      primary = ap (λ (u : Tie). u.primary) is;
      second = ap (λ (u : Tie). u.second) is;
    }

-- ---- the ties of one primary

-- what the first j ties tie to x is marked; `h` is the heap and `m` the marker at the start
pub record IsMarkingTied (rows : List TypeRow) (ties : List Tie) (h now : HeapView) (m n : MarkerView)
    (x j : ℕ) : Type 0 where
  pub grayed : HasGrayedBy rows (LeadsBy rows ties) h now m n
  pub done : (k : ℕ) → k < j → k < length ties → (tie_in ties k).primary ≡ x
      → is_condemned_place h m.oldest (tie_in ties k).second ≡ true → Marked rows now (tie_in ties k).second

pub tied_starts : (rows : List TypeRow) (ties : List Tie) (h : HeapView) (m : MarkerView) (x start : ℕ)
    → ((i : ℕ) (d : Tie) → i < start → (get_or ties i d).primary < x) → IsMarkingTied rows ties h h m m x start
tied_starts rows ties h m x start below = record {
  grayed = grayed_by-refl rows (LeadsBy rows ties) h m;
  done = λ k l inside is near. let low = below k no_tie l in absurd (omega (arith, low, is));
}

module _ (rows : List TypeRow) (ties : List Tie) (h now : HeapView) (m n : MarkerView) (x j : ℕ)
    (w : IsClosed rows h) (a : AreTies rows h ties) (s : Marked rows h x)
    (r : IsMarkingTied rows ties h now m n x j) where
  abbrev q : IsRemarked rows h now
  q = r.grayed.marked.remarked

  heap_now : IsHeap now
  heap_now = shaped_heap h now q.shape w.heap

  held_now : IsHeld rows now
  held_now = keeps_held rows h now w.heap w.held q

  module _ (inside : j < length ties) where
    abbrev y : ℕ
    y = (tie_in ties j).second

    second_stands : StandsAt rows now y
    second_stands = keeps_stands rows h now w.heap w.held q y
        (a.stand (tie_in ties j).primary y (tied_in ties j inside)).1

    pub tied_word : HasWord now.memories y
    tied_word = object_word rows now 0 y heap_now held_now second_stands

    -- the next tie is of x, too
    pub tied_more : (tie_in ties j).primary ≡ x → (new : HeapView) (after : MarkerView)
        → new ≡ with_mark now n.oldest y → after ≡ with_waiting now n y
        → IsMarkingTied rows ties h new m after x (j + 1)
    tied_more is new after e f =
        let b = after_gray rows now n y heap_now held_now second_stands in
        let tied : IsTied ties x y = let P : ℕ → Type 0 = λ p. IsTied ties p y in subst P is (tied_in ties j inside) in
        let near_now : is_condemned_place h m.oldest y ≡ true → is_condemned_place now n.oldest y ≡ true =
        λ near.
        ap (λ (g : ℕ). is_condemned_place now g y) r.grayed.oldest ∙ same_condemned rows h now m.oldest y q ∙ near in
        let made : IsMarkingTied rows ties h (with_mark now n.oldest y) m (with_waiting now n y) x (j + 1) = record {
          grayed = grayed_by-more rows (LeadsBy rows ties) (ties_stable rows ties) h now (with_mark now n.oldest y) m n
              (with_waiting now n y) y w.heap w.held heap_now held_now r.grayed b
              (λ near. follows (starts s) (record {
                joined = inr tied;
                condemned = sym (same_condemned rows h now m.oldest y q) ∙ near;
              }));
          done = λ k l inner own near. elim (cases_eq k j) [
            | inl last ↦
                let P : ℕ → Type 0 = λ i. is_condemned_place h m.oldest (tie_in ties i).second ≡ true in
                let R : ℕ → Type 0 = λ i. Marked rows (with_mark now n.oldest y) (tie_in ties i).second in
                subst R (sym last) (b.marked.there (near_now (subst P last near)))
            | inr early ↦ b.marked.kept (tie_in ties k).second (r.done k (omega arith) inner own near)
          ];
        } in
        let P : HeapView → MarkerView → Type 0 = λ k o. IsMarkingTied rows ties h k m o x (j + 1) in
        subst (λ (o : MarkerView). P new o) (sym f)
        (subst (λ (k : HeapView). P k (with_waiting now n y)) (sym e) made)

  -- all ties of x were followed, where none comes behind
  pub tied_ends : ((k : ℕ) → j ≤ k → k < length ties → (tie_in ties k).primary ≡ x → ⊥) → (y : ℕ) → IsTied ties x y
      → is_condemned_place h m.oldest y ≡ true → Marked rows now y
  tied_ends none y t near =
      let i = index_of ties x y t in
      let P : ℕ → Type 0 = λ z. is_condemned_place h m.oldest z ≡ true in
      let R : ℕ → Type 0 = λ z. Marked rows now z in
      elim (cases_lt i.index j) [
        | inl early ↦ subst R i.second (r.done i.index early i.inside i.primary (subst P (sym i.second) near))
        | inr late ↦ absurd (none i.index late i.inside i.primary)
      ]

-- behind a tie of another primary there is none of x, where the ones from `start` on aren't lower
pub none_behind : (ties : List Tie) (x start j : ℕ) → IsNonDecreasingBy (λ (t : Tie). t.primary) ties
    → ((i : ℕ) (d : Tie) → start ≤ i → i < length ties → x ≤ (get_or ties i d).primary) → start ≤ j → j < length ties
    → (tie_in ties j).primary ≢ x → (k : ℕ) → j ≤ k → k < length ties → (tie_in ties k).primary ≡ x → ⊥
none_behind ties x start j rise above from inside apart k le l is =
    let low = above j no_tie from inside in
    let up = rise j k no_tie le l in
    apart (omega (arith, low, up, is))

-- ---- the ties of primaries that stay

-- where marking by ties starts
abbrev pub MarkedOrTiedBy : List TypeRow → HeapView → List Tie → ℕ → ℕ → Type 0
MarkedOrTiedBy rows h ties g y = Marked rows h y ⊎ IsTiedToOldBy h ties g y

-- what the first j ties tie to objects that stay is marked; `h` is the heap and `m` the marker at the start
pub record IsRootingTied (rows : List TypeRow) (ties : List Tie) (h now : HeapView) (m n : MarkerView)
    (j : ℕ) : Type 0 where
  pub gray : IsGray rows now n
  pub reached : HasReached rows (LeadsBy rows ties h m.oldest) (MarkedOrTiedBy rows h ties m.oldest) h now
  pub waiting : LeavesWaiting rows h now m n
  pub done : (k : ℕ) → k < j → k < length ties → is_new h m.oldest (tie_in ties k).primary ≡ false
      → is_condemned_place h m.oldest (tie_in ties k).second ≡ true → Marked rows now (tie_in ties k).second
  pub capacity : n.capacity ≡ m.capacity
  pub oldest : n.oldest ≡ m.oldest

pub rooting_starts : (rows : List TypeRow) (ties : List Tie) (h : HeapView) (m : MarkerView) → IsGray rows h m
    → IsRootingTied rows ties h h m m 0
rooting_starts rows ties h m gray = record {
  gray = gray;
  reached = reached-refl rows (LeadsBy rows ties h m.oldest) (MarkedOrTiedBy rows h ties m.oldest) h (λ x s. inl s);
  waiting = waiting-refl rows h m;
  done = λ k l. absurd (omega (arith, l));
  capacity = refl;
  oldest = refl;
}

module _ (rows : List TypeRow) (ties : List Tie) (h now : HeapView) (m n : MarkerView) (j : ℕ) (w : IsClosed rows h)
    (a : AreTies rows h ties) (r : IsRootingTied rows ties h now m n j) where
  abbrev rooted : IsRemarked rows h now
  rooted = r.reached.remarked

  same : (x : ℕ) → is_condemned_place now m.oldest x ≡ is_condemned_place h m.oldest x
  same x = same_condemned rows h now m.oldest x rooted

  same_then : (x : ℕ) → is_condemned_place now n.oldest x ≡ is_condemned_place h m.oldest x
  same_then x = ap (λ (g : ℕ). is_condemned_place now g x) r.oldest ∙ same x

  module _ (inside : j < length ties) where
    abbrev owner : ℕ
    owner = (tie_in ties j).primary

    abbrev owned : ℕ
    owned = (tie_in ties j).second

    owner_tied : IsTied ties owner owned
    owner_tied = tied_in ties j inside

    pub primary_stands : StandsAt rows now owner
    primary_stands = keeps_stands rows h now w.heap w.held rooted owner (a.stand owner owned owner_tied).0

    pub second_at : StandsAt rows now owned
    second_at = keeps_stands rows h now w.heap w.held rooted owned (a.stand owner owned owner_tied).1

    pub primary_word : HasWord now.memories owner
    primary_word = object_word rows now 0 owner r.gray.closed.heap r.gray.closed.held primary_stands

    -- the primary goes as yet
    pub rooting_other : is_new now n.oldest owner ≡ true → IsRootingTied rows ties h now m n (j + 1)
    rooting_other goes =
        let parts = new_parts now n.oldest owner goes in
        record {
          gray = r.gray;
          reached = r.reached;
          waiting = r.waiting;
          done = λ k l inner stays near. elim (cases_eq k j) [
            | inl last ↦
                let P : ℕ → Type 0 = λ i. is_new h m.oldest (tie_in ties i).primary ≡ false in
                absurd (elim (not_new h m.oldest owner (subst P last stays)) [
                  | inl far ↦ both_ways _ far (sym (same_then owner) ∙ parts.0)
                  | inr on ↦ both_ways _ parts.1 (r.reached.kept owner (record {
                    stands = (a.stand owner owned owner_tied).0;
                    mark = on;
                  })).mark
                ])
            | inr early ↦ r.done k (omega arith) inner stays near
          ];
          capacity = r.capacity;
          oldest = r.oldest;
        }

    -- it stays: what is tied to it was marked
    pub rooting_more : is_new now n.oldest owner ≡ false → (new : HeapView) (after : MarkerView)
        → new ≡ with_mark now n.oldest owned → after ≡ with_waiting now n owned → IsGray rows new after
        → IsRootingTied rows ties h new m after (j + 1)
    rooting_more stays new after e f gray =
        let made = after_gray rows now n owned r.gray.closed.heap r.gray.closed.held second_at in
        let P : HeapView → MarkerView → Type 0 = λ k o. AfterGray rows now k n o owned in
        let b : AfterGray rows now new n after owned = subst (λ (o : MarkerView). P new o) (sym f)
        (subst (λ (k : HeapView). P k (with_waiting now n owned)) (sym e) made) in
        let edge = LeadsBy rows ties h m.oldest in
        let start = MarkedOrTiedBy rows h ties m.oldest in
        let reach : is_condemned_place h m.oldest owned ≡ true → Reach edge start owned = λ near.
        elim (not_new now n.oldest owner stays) [
          | inl far ↦ starts (inr (record {
            by = owner;
            old = sym (same_then owner) ∙ far;
            tied = owner_tied;
            condemned = near;
          }))
          | inr on ↦ follows (r.reached.reached owner (record { stands = primary_stands; mark = on }))
              (record { joined = inr owner_tied; condemned = near })
        ] in
        record {
          gray = gray;
          reached = record {
            remarked = remarked-trans rows h now new w.heap w.held rooted b.marked.remarked;
            kept = λ z s. b.marked.kept z (r.reached.kept z s);
            reached = λ z s. elim (b.marked.only z s) [
              | inl is ↦
                  let R : ℕ → Type 0 = λ v. Reach edge start v in
                  subst R (sym is.0) (reach (sym (same_then owned) ∙ is.1))
              | inr before ↦ r.reached.reached z before
            ];
          };
          waiting = waiting-more rows h now new m n after owned r.waiting b;
          done = λ k l inner own near. elim (cases_eq k j) [
            | inl last ↦
                let Q : ℕ → Type 0 = λ i. is_condemned_place h m.oldest (tie_in ties i).second ≡ true in
                let R : ℕ → Type 0 = λ i. Marked rows new (tie_in ties i).second in
                subst R (sym last) (b.marked.there (same_then owned ∙ subst Q last near))
            | inr early ↦ b.marked.kept (tie_in ties k).second (r.done k (omega arith) inner own near)
          ];
          capacity = b.capacity ∙ r.capacity;
          oldest = b.oldest ∙ r.oldest;
        }

  module _ (past : length ties ≤ j) where
    all_done : (x y : ℕ) → IsTied ties x y → is_new h m.oldest x ≡ false → is_condemned_place h m.oldest y ≡ true
        → Marked rows now y
    all_done x y t stays near =
        let i = index_of ties x y t in
        let inside = i.inside in
        let P : ℕ → Type 0 = λ z. is_condemned_place h m.oldest z ≡ true in
        let Q : ℕ → Type 0 = λ z. is_new h m.oldest z ≡ false in
        let R : ℕ → Type 0 = λ z. Marked rows now z in
        subst R i.second (r.done i.index (omega arith) inside (subst Q (sym i.primary) stays)
        (subst P (sym i.second) near))

    -- the law by slots and ties
    pub rooted_gray : IsGrayBy rows (LeadsBy rows ties) now n
    rooted_gray = record {
      closed = r.gray.closed;
      stacked = r.gray.stacked;
      settled = λ x s. elim (r.gray.settled x s) [
        | inl waits ↦ inl waits
        | inr all ↦ elim (r.waiting.fresh x s) [
          | inl was ↦ inr (λ y e. elim e.joined [
            | inl named ↦ all y (record { named = named; condemned = e.condemned })
            | inr tied ↦
                all_done x y tied (and_right (is_condemned_place h m.oldest x) _ (ap not was.mark))
                (sym (same_then y) ∙ e.condemned)
          ])
          | inr waits ↦ inl waits
        ]
      ];
    }

    pub rooted_old : (y : ℕ) → IsTiedToOldBy h ties m.oldest y → Marked rows now y
    rooted_old y t = all_done t.by y t.tied (and_left (is_condemned_place h m.oldest t.by) _ t.old) t.condemned
