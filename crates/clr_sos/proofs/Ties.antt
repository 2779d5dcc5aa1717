-- Dependent handles, listed by their numbers and found by their primaries.
use Rattle.std.proofs.Common.{◌≡◌, ◌≢◌, inl, inr, ℕ, ◌+◌, ◌<◌, ◌≤◌, true, List, [], ◌∷◌, ◌++◌, length}
use Rattle.std.proofs.Common.{get_or, refl, ap, sym, ◌∙◌, subst, arith, ltb, Some}
use Rattle.std.specs.List.{All, Contains}
use Rattle.std.specs.List.Sorted.{IsNonDecreasingBy, IsPartitionedBy}
use Rattle.std.specs.FinMap as finmap
use Rattle.std.specs.FinMap.{FinMap}
use Rattle.std.specs.Ordering.{nat_cmp}
use Rattle.std.proofs.lemmas.Bool.{cases_lt, lt-ltb, ltb-true}
use Rattle.std.proofs.lemmas.List.{get_or_default}
use Rattle.std.proofs.lemmas.List.Elements.{All-push, Contains-append_left, Contains-push}
use Rattle.clr_types.specs.Kinds.{is_dependent}
use Rattle.clr_types.specs.declared.handle.Handle.{Handle as Row}
use Rattle.clr_handles.specs.Places.{IsNext}
use Rattle.clr_model.specs.Reach.{SecondOf}
use Rattle.clr_sos.specs.Reaching.{AreTies, HasAdded, HasGrown, IsObjectOf, IsOrigin, IsSearch, IsSound}
use Rattle.clr_sos.specs.Reaching.{ListsTies, place_at}
use Rattle.clr_sos.specs.declared.reach.FoundObject.{FoundObject}
use Rattle.clr_sos.specs.declared.reach.Origin.TheVariants.{Through}
use Rattle.clr_sos.specs.declared.reach.ties.Tie.{Tie}
use Rattle.clr_sos.specs.declared.view.View.{View}
use Rattle.clr_sos.proofs.Adding.{added-on, added-starts, IsTiedBelow}
use Rattle.clr_sos.proofs.NumberedEntries.{next-or-before}

abbrev pub no_tie : Tie
no_tie = record { primary = 0; second = 0 }

-- ---- the list

-- the ties of the handles with numbers below n
pub record ListsBelow (handles : FinMap nat_cmp Row) (n : ℕ) (ties : List Tie) : Type 0 where
  pub only : All (λ (t : Tie). SecondOf handles t.primary t.second) ties
  pub all : (k : ℕ) (row : Row) → k < n → finmap.get handles k ≡ Some row → is_dependent row.kind ≡ true
      → 0 < row.second → Contains ties (record { primary = row.target; second = row.second })

abbrev tie_of : Row → Tie
tie_of row = record { primary = row.target; second = row.second }

module _ (handles : FinMap nat_cmp Row) (from n : ℕ) (row : Row) (next : IsNext handles 0 from n row) (ties : List Tie)
    (s : ListsBelow handles from ties) where
  -- the next handle has no second
  pub list-skip : (is_dependent row.kind ≡ true → 0 < row.second → ⊥) → ListsBelow handles (n + 1) ties
  list-skip none = record {
    only = s.only;
    all = λ k other l e dependent some. elim (next-or-before handles from n row next k other l e) [
      | inl is ↦
          absurd (none (subst (λ (r : Row). is_dependent r.kind ≡ true) is dependent)
          (subst (λ (r : Row). 0 < r.second) is some))
      | inr before ↦ s.all k other before e dependent some
    ];
  }

  -- it has one
  pub list-push : is_dependent row.kind ≡ true → 0 < row.second → ListsBelow handles (n + 1) (ties ++ tie_of row ∷ [])
  list-push dependent some = record {
    only = All-push (λ (t : Tie). SecondOf handles t.primary t.second) ties (tie_of row) s.only (record {
      handle = n;
      row = row;
      in_use = next.in_use;
      dependent = dependent;
      primary = refl;
      secondary = refl;
      not_null = some;
    });
    all = λ k other l e own more. elim (next-or-before handles from n row next k other l e) [
      | inl is ↦
          subst (λ (r : Row). Contains (ties ++ tie_of row ∷ []) (tie_of r)) (sym is)
          (Contains-push ties (tie_of row))
      | inr before ↦
          Contains-append_left ties (tie_of row ∷ []) (tie_of other) (s.all k other before e own more)
    ];
  }

pub list-starts : (handles : FinMap nat_cmp Row) → ListsBelow handles 0 []
list-starts handles = record {
  only = λ k d l. absurd (omega (arith, l));
  all = λ k row l e dependent some. absurd (omega (arith, l));
}

-- all handles were listed
pub list-ends : (handles : FinMap nat_cmp Row) (n : ℕ) (ties : List Tie)
    → ((k : ℕ) (row : Row) → finmap.get handles k ≡ Some row → k < n) → ListsBelow handles n ties
    → ListsTies handles ties
list-ends handles n ties few s = record {
  only = s.only;
  all = λ x y t.
      let found = s.all t.handle t.row (few t.handle t.row t.in_use) t.in_use t.dependent
      (let some = t.not_null in let is = t.secondary in omega (arith, some, is)) in
      subst (λ (u : Tie). Contains ties u) (λ i. record { primary = t.primary i; second = t.secondary i }) found;
}

-- ---- one primary

module _ (v : View) (sound : IsSound v) (ties : List Tie) (a : AreTies v.handles.now ties) where
  -- tie j is of a handle
  tie-only : (j : ℕ) (t : Tie) → j < length ties → t ≡ get_or ties j t → SecondOf v.handles.now t.primary t.second
  tie-only j t l read =
      subst (λ (u : Tie). SecondOf v.handles.now u.primary u.second) (sym read) (a.listed.only j t l)

  -- its second object stands
  pub tie-stands : (j : ℕ) (t : Tie) → j < length ties → t ≡ get_or ties j t → IsObjectOf v t.second
  tie-stands j t l read =
      let s = tie-only j t l read in
      let some = s.not_null in
      let is = s.secondary in
      elim (sound.handles s.handle s.row s.in_use).second [
        | inl null ↦ absurd (omega (arith, null, some, is))
        | inr stands ↦ subst (IsObjectOf v) is stands
      ]

  module _ (old : List FoundObject) (i x start : ℕ) (own : x ≡ place_at old i)
      (below : (k : ℕ) (d : Tie) → k < start → (get_or ties k d).primary < x)
      (above : (k : ℕ) (d : Tie) → start ≤ k → k < length ties → x ≤ (get_or ties k d).primary) where
    -- the search starts at the first tie
    pub ties-start : (seen : List (List ℕ)) → IsSearch v seen old
        → HasAdded v old seen old (IsTiedBelow ties x start)
    ties-start seen s = added-starts v seen old (IsTiedBelow ties x start) s
        (λ y w. let low = below w.index no_tie w.below in
        let is = (w.tie no_tie).0 in
        omega (arith, low, is))

    -- what tie j leads to
    pub tie-origin : (now : List FoundObject) (j : ℕ) (t : Tie) → HasGrown old now → i < length old → j < length ties
        → t ≡ get_or ties j t → t.primary ≡ x → IsOrigin v now (length now) t.second (Through i)
    tie-origin now j t g l inside read is =
        let longer = g.longer in
        let same : t.primary ≡ place_at now i = is ∙ own ∙ sym (ap (λ (e : FoundObject). e.place) (g.same i l)) in (
          omega (arith, l, longer),
          inr (subst (λ (p : ℕ). SecondOf v.handles.now p t.second) same
              (tie-only j t inside read)),
        )

    -- all ties of the primary were followed, where the next one is of another, or there is none
    pub ties-end : (now : List FoundObject) (seen : List (List ℕ)) (j : ℕ)
        → ((k : ℕ) (d : Tie) → j ≤ k → k < length ties → (get_or ties k d).primary ≡ x → ⊥)
        → HasAdded v old seen now (IsTiedBelow ties x j)
        → HasAdded v old seen now (SecondOf v.handles.now (place_at old i))
    ties-end now seen j none added =
        added-on v old now seen (IsTiedBelow ties x j) added (SecondOf v.handles.now (place_at old i))
        (λ y s.
        let found = a.listed.all (place_at old i) y s in
        let k = found.0 in
        let inside = found.1 in
        let at : (d : Tie) → get_or ties k d ≡ record { primary = place_at old i; second = y } =
        λ d. get_or_default ties k d (record { primary = place_at old i; second = y }) inside ∙ found.2 in
        let primary : (d : Tie) → (get_or ties k d).primary ≡ x = λ d. ap (λ (t : Tie). t.primary) (at d) ∙ sym own in
        elim (cases_lt k j) [
          | inl early ↦ record {
            index = k;
            below = early;
            inside = inside;
            tie = λ d. (primary d, ap (λ (t : Tie). t.second) (at d));
          }
          | inr late ↦
              absurd (none k no_tie late inside (primary no_tie))
        ])

    -- behind a tie of another primary there is none of this one
    pub ties-past : (j : ℕ) (t : Tie) → start ≤ j → j < length ties → t ≡ get_or ties j t → t.primary ≢ x
        → (k : ℕ) (d : Tie) → j ≤ k → k < length ties → (get_or ties k d).primary ≡ x → ⊥
    ties-past j t from inside read apart k d le l is =
        let low = above j t from inside in
        let own_primary : (get_or ties j t).primary ≡ t.primary = ap (λ (u : Tie). u.primary) (sym read) in
        let up = a.rise j k t le l in
        let same : (get_or ties k t).primary ≡ x =
        ap (λ (u : Tie). u.primary) (get_or_default ties k t d l) ∙ is in
        apart (omega (arith, low, own_primary, up, same))

-- the lower primaries stand before the others
pub parted-by : (ties : List Tie) (x : ℕ) → IsNonDecreasingBy (λ (t : Tie). t.primary) ties
    → IsPartitionedBy (λ (t : Tie). ltb t.primary x) ties
parted-by ties x rise i j d le l hit =
    let up = rise i j d le l in
    let low = ltb-true (get_or ties j d).primary x hit in
    lt-ltb (get_or ties i d).primary x (omega (arith, up, low))
