-- The objects of an edge, and edges by dependent handles.
use Rattle.std.proofs.Common.{◌≡◌, ◌⊎◌, inl, inr, ℕ, ◌+◌, ◌<◌, ◌≤◌, List, length, get_or, ap, arith, sym, subst, ◌∙◌}
use Rattle.std.proofs.Common.{filter}
use Rattle.std.proofs.lemmas.Bool.{cases_eq}
use Rattle.std.proofs.lemmas.List.{get_or_default}
use Rattle.clr_model.specs.Reach.{SecondOf}
use Rattle.clr_types.proofs.ListMembers.{from-map}
use Rattle.clr_heap.specs.View.{heap_items, word_of}
use Rattle.clr_view.specs.View.{is_object, object_in}
use Rattle.clr_sos.specs.Reaching.{AreTies, IsObjectOf, IsSound, Leads}
use Rattle.clr_sos.specs.declared.reach.ties.Tie.{Tie}
use Rattle.clr_sos.specs.declared.view.View.{View}
use Rattle.clr_sos.proofs.Ties.{no_tie}
use Rattle.clr_paths.specs.Incoming.{IsTieEdge}
use Rattle.clr_paths.specs.Numbers.{place_of}

module _ (v : View) (sound : IsSound v) where
  -- what is led to stands
  pub led-stands : (x y : ℕ) → Leads v x y → IsObjectOf v y
  led-stands x y (inl slot) = sound.closed.named x y slot
  led-stands x y (inr tie) = elim (sound.handles tie.handle tie.row tie.in_use).second [
    | inl null ↦ let some = tie.not_null in let is = tie.secondary in absurd (omega (arith, null, some, is))
    | inr stands ↦ subst (IsObjectOf v) tie.secondary stands
  ]

  -- the primary of a dependent handle that has a second object stands
  pub primary-stands : (x y : ℕ) → SecondOf v.handles.now x y → IsObjectOf v x
  primary-stands x y tie =
      let law = sound.handles tie.handle tie.row tie.in_use in
      elim law.target [
        | inl null ↦
            let some = tie.not_null in
            let is = tie.secondary in
            let none = law.owned.primary null in
            absurd (omega (arith, some, is, none))
        | inr stands ↦ subst (IsObjectOf v) tie.primary stands
      ]

  -- and so does what leads
  pub leads-stands : (x y : ℕ) → Leads v x y → IsObjectOf v x
  leads-stands x y (inl slot) =
      let rows = v.types.now in
      let h = v.heap.now in
      let f = from-map (object_in rows (word_of h)) slot.object (filter is_object (heap_items rows h)) slot.present in (
        slot.object,
        slot.present,
        ap (λ o. o.place) f.1 ∙ sym (ap (λ o. o.name) f.1) ∙ slot.named,
      )
  leads-stands x y (inr tie) = primary-stands x y tie

  module _ (ties : List Tie) (a : AreTies v.handles.now ties) where
    -- tie j is of a handle
    pub tie-second : (j : ℕ) (t : Tie) → j < length ties → t ≡ get_or ties j t
        → SecondOf v.handles.now t.primary t.second
    tie-second j t l read =
        subst (λ (u : Tie). SecondOf v.handles.now u.primary u.second) (sym read) (a.listed.only j t l)

-- one of the first n ties is of the objects with the numbers
pub record IsTieBelow (places : List ℕ) (ties : List Tie) (n from to : ℕ) : Type 0 where
  pub inside : from < length places
  pub index : ℕ
  pub below : index < n
  pub primary : (get_or ties index no_tie).primary ≡ place_of places from
  pub second : (get_or ties index no_tie).second ≡ place_of places to
  pub not_null : 0 < (get_or ties index no_tie).second

pub tie-back : (places : List ℕ) (ties : List Tie) (n from to : ℕ) (t : Tie) → t ≡ get_or ties n no_tie
    → IsTieBelow places ties (n + 1) from to
    → IsTieBelow places ties n from to
    ⊎ ((t.primary ≡ place_of places from) × (t.second ≡ place_of places to) × (0 < t.second))
tie-back places ties n from to t read w = elim (cases_eq w.index n) [
  | inl same ↦
      let is : get_or ties w.index no_tie ≡ t = ap (λ (i : ℕ). get_or ties i no_tie) same ∙ sym read in
      inr (
        sym (ap (λ (u : Tie). u.primary) is) ∙ w.primary,
        sym (ap (λ (u : Tie). u.second) is) ∙ w.second,
        subst (λ (u : Tie). 0 < u.second) is w.not_null,
      )
  | inr other ↦
      let l = w.below in
      inl (record {
        inside = w.inside;
        index = w.index;
        below = omega (arith, l, other);
        primary = w.primary;
        second = w.second;
        not_null = w.not_null;
      })
]

-- each dependent handle has one of all ties
pub tie-all : (v : View) (places : List ℕ) (ties : List Tie) → AreTies v.handles.now ties → (n from to : ℕ)
    → length ties ≤ n → from < length places → IsTieEdge v places from to → IsTieBelow places ties n from to
tie-all v places ties a n from to all inside second =
    let found = a.listed.all (place_of places from) (place_of places to) second in
    let own : Tie = record { primary = place_of places from; second = place_of places to } in
    let at : get_or ties found.0 no_tie ≡ own = get_or_default ties found.0 no_tie own found.1 ∙ found.2 in
    let below = found.1 in
    record {
      inside = inside;
      index = found.0;
      below = omega (arith, below, all);
      primary = ap (λ (u : Tie). u.primary) at;
      second = ap (λ (u : Tie). u.second) at;
      not_null = subst (λ (u : Tie). 0 < u.second) (sym at) second.not_null;
    }
