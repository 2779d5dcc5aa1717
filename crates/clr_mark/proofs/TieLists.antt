-- The list of what dependent handles tie, made by a pass over them.
use Rattle.std.proofs.Common.{◌≡◌, inl, inr, ℕ, ◌<◌, ◌≤◌, true, false, not, List, [], ◌∷◌, ◌++◌, Some}
use Rattle.std.proofs.Common.{refl}
use Rattle.std.proofs.Common.{sym, ◌∙◌, subst, arith, get_or, IsTrue, ltb, nat_eq, ap, ◌⊎◌}
use Rattle.std.specs.FinMap as finmap
use Rattle.std.specs.List.{All, Contains}
use Rattle.std.specs.List.Sorted.{IsNonDecreasingBy, IsPartitionedBy}
use Rattle.std.proofs.lemmas.Bool.{and_from, and_parts, cases_Bool, eqb-false, eqb-true, lt-ltb, ltb-true, not-true}
use Rattle.std.proofs.lemmas.Bool.{true≢false}
use Rattle.std.proofs.lemmas.List.Elements.{All-push, Contains-append_left, Contains-push}
use Rattle.clr_types.specs.Kinds.{is_dependent}
use Rattle.clr_types.specs.Types.{TypeRow}
use Rattle.clr_types.specs.declared.handle.Handle.{Handle}
use Rattle.clr_handles.specs.Places.{names_from}
use Rattle.clr_handles.specs.Tables.{Table}
use Rattle.clr_heap.specs.View.{HeapView}
use Rattle.clr_model.specs.Reach.{SecondOf}
use Rattle.clr_view.specs.SlotValues.{StandsAt}
use Rattle.clr_view.specs.World.{HandlesStand}
use Rattle.clr_mark.specs.HandlePasses.{AllArePassed, HasTaken, IsBehind, NoneIsBehind}
use Rattle.clr_mark.specs.Marks.{is_condemned_place, is_new}
use Rattle.clr_mark.specs.TieLists.{is_open, IsTied, ListsOpen, tie_of, with_open}
use Rattle.clr_mark.specs.declared.marker.ahead.Ahead.{Ahead}
use Rattle.clr_mark.specs.declared.marker.listed.Tie.{Tie}
use Rattle.clr_mark.proofs.NewParts.{new_parts}
use Rattle.clr_mark.proofs.TargetRoots.{names_below, same_row}
use Rattle.clr_mark.proofs.Tying.{both_stand}

-- a handle that is open, taken apart
pub record IsOpen (h : HeapView) (g : ℕ) (row : Handle) : Type 0 where
  pub dependent : IsTrue (is_dependent row.kind)
  pub second : 0 < row.second
  pub fresh : is_new h g row.second ≡ true

pub open_parts : (h : HeapView) (g : ℕ) (row : Handle) → is_open h g row ≡ true → IsOpen h g row
open_parts h g row e =
    let a = and_parts (is_dependent row.kind) _ e in
    let b = and_parts (not (nat_eq row.second 0)) _ a.1 in
    let some = eqb-false row.second 0 (not-true _ b.0) in
    record { dependent = a.0; second = omega (arith, some); fresh = b.1 }

-- the ties of the handles behind are listed
pub record IsListing (h : HeapView) (handles : Table) (g : ℕ) (ahead : Ahead) (ties : List Tie) : Type 0 where
  pub only : All (λ (t : Tie). SecondOf handles t.primary t.second) ties
  pub all : (k : ℕ) (row : Handle) → finmap.get handles k ≡ Some row → k < 65536 → IsBehind ahead k
      → is_open h g row ≡ true → Contains ties (tie_of row)

pub listing_starts : (h : HeapView) (handles : Table) (g : ℕ) (ahead : Ahead) → NoneIsBehind ahead
    → IsListing h handles g ahead []
listing_starts h handles g ahead none = record {
  only = λ k d l. absurd (omega (arith, l));
  all = λ k row e few behind fits. absurd (none k few behind);
}

module _ (h : HeapView) (handles : Table) (g low : ℕ)
    (lowest : (x : ℕ) → is_condemned_place h g x ≡ true → low ≤ x) where
  -- a handle that names no place from `low` on isn't open
  far_not_open : (row : Handle) → names_from low row ≡ false → is_open h g row ≡ true → ⊥
  far_not_open row far fits =
      let near = lowest row.second (new_parts h g row.second (open_parts h g row fits).fresh).0 in
      let below = (names_below low row far).1 in
      omega arith

  module _ (old next : Ahead) (row : Handle) (t : HasTaken handles low old next row) (ties : List Tie)
      (r : IsListing h handles g old ties) where
    listed_on : (k : ℕ) (other : Handle) → finmap.get handles k ≡ Some other → k < 65536 → IsBehind next k
        → is_open h g other ≡ true → (row ≡ other) ⊎ Contains ties (tie_of other)
    listed_on k other e few behind fits = elim (t.passed k other e behind) [
      | inl same ↦ inl (same_row handles t.number k row other t.in_use e (sym same))
      | inr passed ↦ elim passed [
        | inl before ↦ inr (r.all k other e few before fits)
        | inr far ↦ absurd (far_not_open other far fits)
      ]
    ]

    pub listing_more : (new : List Tie) → new ≡ with_open h g ties row → IsListing h handles g next new
    listing_more new e =
        let P : List Tie → Type 0 = λ ts. IsListing h handles g next ts in
        subst P (sym e) (elim (cases_Bool (is_open h g row)) [
          | inl fits ↦
              let is = open_parts h g row fits in
              rw fits (record {
                only = All-push (λ (u : Tie). SecondOf handles u.primary u.second) ties (tie_of row) r.only (record {
                  handle = t.number;
                  row = row;
                  in_use = t.in_use;
                  dependent = is.dependent;
                  primary = refl;
                  secondary = refl;
                  not_null = is.second;
                });
                all = λ k other at few behind due. elim (listed_on k other at few behind due) [
                  | inl same ↦
                      let Q : Handle → Type 0 = λ o. Contains (ties ++ tie_of row ∷ []) (tie_of o) in
                      subst Q same (Contains-push ties (tie_of row))
                  | inr before ↦ Contains-append_left ties (tie_of row ∷ []) (tie_of other) before
                ];
              })
          | inr not_open ↦ rw not_open (record {
            only = r.only;
            all = λ k other at few behind due. elim (listed_on k other at few behind due) [
              | inl same ↦
                  let Q : Handle → Type 0 = λ o. is_open h g o ≡ true in
                  absurd (true≢false (sym (subst Q (sym same) due) ∙ not_open))
              | inr before ↦ before
            ];
          })
        ])

  -- all handles were passed
  pub listing_ends : (ahead : Ahead) (ties : List Tie)
      → ((k : ℕ) (row : Handle) → finmap.get handles k ≡ Some row → k < 65536) → AllArePassed handles low ahead
      → IsListing h handles g ahead ties → ListsOpen h handles g ties
  listing_ends ahead ties below passed r = record {
    only = r.only;
    all = λ x y s fresh.
        let row = s.row in
        let at = s.secondary in
        let n = s.not_null in
        let P : ℕ → Type 0 = λ z. is_new h g z ≡ true in
        let own : is_new h g row.second ≡ true = subst P (sym at) fresh in
        let some : not (nat_eq row.second 0) ≡ true = elim (cases_Bool (nat_eq row.second 0)) [
          | inl null ↦ let zero = eqb-true row.second 0 null in absurd (omega (arith, zero, at, n))
          | inr other ↦ ap not other
        ] in
        let fits : is_open h g row ≡ true = and_from (is_dependent row.kind) _ s.dependent
        (and_from (not (nat_eq row.second 0)) _ some own) in
        let found : Contains ties (tie_of row) = elim (passed s.handle row s.in_use) [
          | inl behind ↦ r.all s.handle row s.in_use (below s.handle row s.in_use) behind fits
          | inr far ↦ absurd (far_not_open row far fits)
        ] in
        subst (λ (u : Tie). Contains ties u) (λ i. record { primary = s.primary i; second = s.secondary i }) found;
  }

-- what is listed is a dependent handle's
pub listed_only : (handles : Table) (ties : List Tie) → All (λ (t : Tie). SecondOf handles t.primary t.second) ties
    → (x y : ℕ) → IsTied ties x y → SecondOf handles x y
listed_only handles ties only x y t =
    let P : Tie → Type 0 = λ u. SecondOf handles u.primary u.second in
    subst P t.2 (only t.0 (record { primary = x; second = y }) t.1)

-- what these ties name stands
pub listed_stand : (rows : List TypeRow) (h : HeapView) (handles : Table) (ties : List Tie)
    → HandlesStand rows h handles
    → All (λ (t : Tie). SecondOf handles t.primary t.second) ties → (x y : ℕ) → IsTied ties x y
    → StandsAt rows h x × StandsAt rows h y
listed_stand rows h handles ties stand only x y t =
    let s = listed_only handles ties only x y t in
    let row = s.row in
    let at = s.secondary in
    let n = s.not_null in
    let both = both_stand rows h row (stand s.handle row s.in_use) (omega (arith, at, n)) in
    let P : ℕ → Type 0 = λ z. StandsAt rows h z in
    (subst P s.primary both.target, subst P s.secondary both.second)

-- the lower primaries stand before the others
pub parted_by : (ties : List Tie) (x : ℕ) → IsNonDecreasingBy (λ (t : Tie). t.primary) ties
    → IsPartitionedBy (λ (t : Tie). ltb t.primary x) ties
parted_by ties x rise i j d le l hit =
    let up = rise i j d le l in
    let low = ltb-true (get_or ties j d).primary x hit in
    lt-ltb (get_or ties i d).primary x (omega (arith, up, low))
