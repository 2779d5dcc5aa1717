-- Entries that are added one after the other.
use Rattle.std.proofs.Common.{◌≡◌, ◌≢◌, ◌⊎◌, inl, inr, ℕ, ◌+◌, ◌<◌, ◌≤◌, List, [], ◌∷◌, ◌++◌, length}
use Rattle.std.proofs.Common.{get_or, ap, sym, ◌∙◌, subst, arith, Some, IsTrue}
use Rattle.std.specs.FinMap as finmap
use Rattle.std.specs.FinMap.{FinMap}
use Rattle.std.specs.Ordering.{nat_cmp}
use Rattle.std.proofs.lemmas.Bool.{cases_eq}
use Rattle.clr_types.specs.Kinds.{is_root_kind}
use Rattle.clr_types.specs.Rising.{IsIn}
use Rattle.clr_types.specs.declared.handle.Handle.{Handle as Row}
use Rattle.clr_types.proofs.ListMembers.{in_append}
use Rattle.clr_types.proofs.RisingLists.{in_cons}
use Rattle.clr_handles.specs.Places.{IsNext}
use Rattle.clr_mark.specs.Roots.{IsRoot}
use Rattle.clr_mark.specs.Ties.{IsTarget}
use Rattle.clr_mark.proofs.Rooting.{in_at}
use Rattle.clr_sos.specs.Reaching.{HasAdded, HasGrown, IsListed, IsSearch}
use Rattle.clr_sos.specs.declared.reach.FoundObject.{FoundObject}
use Rattle.clr_sos.specs.declared.reach.ties.Tie.{Tie}
use Rattle.clr_sos.specs.declared.view.View.{View}
use Rattle.clr_sos.proofs.NumberedEntries.{next-or-before}
use Rattle.clr_sos.proofs.Searching.{grown-refl, grown-trans, listed-on}

-- nothing is wanted yet
pub added-starts : (v : View) (seen : List (List ℕ)) (es : List FoundObject) (Wanted : ℕ → Type 0) → IsSearch v seen es
    → ((x : ℕ) → Wanted x → ⊥) → HasAdded v es seen es Wanted
added-starts v seen es Wanted s none =
    record { search = s; grown = grown-refl es; added = λ x w. absurd (none x w) }

module _ (v : View) (old now : List FoundObject) (seen : List (List ℕ)) (Wanted : ℕ → Type 0)
    (a : HasAdded v old seen now Wanted) where
  -- the same, where no more is wanted
  pub added-on : (Next : ℕ → Type 0) → ((x : ℕ) → Next x → Wanted x) → HasAdded v old seen now Next
  added-on Next wants = record { search = a.search; grown = a.grown; added = λ x w. a.added x (wants x w) }

  -- one object more was met
  pub added-more : (Next : ℕ → Type 0) (place : ℕ) (after : List (List ℕ)) (new : List FoundObject)
      → IsSearch v after new
      → HasGrown now new → IsListed new place → ((x : ℕ) → Next x → Wanted x ⊎ (x ≡ place))
      → HasAdded v old after new Next
  added-more Next place after new s g l wants = record {
    search = s;
    grown = grown-trans old now new a.grown g;
    added = λ x w. elim (wants x w) [
      | inl early ↦ listed-on now new x g (a.added x early)
      | inr last ↦ subst (IsListed new) (sym last) l
    ];
  }

-- ---- lists of places

-- one of the first n places, and not null
pub record IsNamedBelow (places : List ℕ) (n x : ℕ) : Type 0 where
  pub index : ℕ
  pub below : index < n
  pub is : get_or places index 0 ≡ x
  pub not_null : 0 < x

pub named-back : (places : List ℕ) (n x : ℕ) → IsNamedBelow places (n + 1) x
    → IsNamedBelow places n x ⊎ (x ≡ get_or places n 0)
named-back places n x w = elim (cases_eq w.index n) [
  | inl same ↦ inr (sym w.is ∙ ap (λ (i : ℕ). get_or places i 0) same)
  | inr other ↦
      let l = w.below in
      inl (record { index = w.index; below = omega (arith, l, other); is = w.is; not_null = w.not_null })
]

-- a null place adds nothing
pub named-null : (places : List ℕ) (n x : ℕ) → get_or places n 0 ≡ 0 → IsNamedBelow places (n + 1) x
    → IsNamedBelow places n x
named-null places n x null w = elim (named-back places n x w) [
  | inl early ↦ early
  | inr last ↦ let some = w.not_null in absurd (omega (arith, last, null, some))
]

pub named-all : (places : List ℕ) (n x : ℕ) → length places ≤ n → IsRoot places x → IsNamedBelow places n x
named-all places n x past r =
    let f = in_at places x 0 r.listed in
    let l = f.1 in
    record { index = f.0; below = omega (arith, l, past); is = f.2; not_null = r.not_null }

-- ---- handles

-- the target of a handle with a number below n, a strong or pinned one
pub record IsHeldBelow (handles : FinMap nat_cmp Row) (n x : ℕ) : Type 0 where
  pub number : ℕ
  pub below : number < n
  pub row : Row
  pub in_use : finmap.get handles number ≡ Some row
  pub holds : IsTrue (is_root_kind row.kind)
  pub target : row.target ≡ x
  pub not_null : 0 < x

-- what the next handle may add
pub held-back : (handles : FinMap nat_cmp Row) (from n : ℕ) (row : Row) → IsNext handles 0 from n row → (x : ℕ)
    → IsHeldBelow handles (n + 1) x
    → IsHeldBelow handles from x ⊎ (IsTrue (is_root_kind row.kind) × (row.target ≡ x) × (0 < x))
held-back handles from n row next x w =
    elim (next-or-before handles from n row next w.number w.row w.below w.in_use) [
      | inl is ↦ inr (
        subst (λ (r : Row). IsTrue (is_root_kind r.kind)) is w.holds,
        sym (ap (λ (r : Row). r.target) is) ∙ w.target,
        w.not_null,
      )
      | inr before ↦ inl (record {
        number = w.number;
        below = before;
        row = w.row;
        in_use = w.in_use;
        holds = w.holds;
        target = w.target;
        not_null = w.not_null;
      })
    ]

pub held-all : (handles : FinMap nat_cmp Row) (n x : ℕ)
    → ((k : ℕ) (row : Row) → finmap.get handles k ≡ Some row → k < n) → IsTarget handles x → IsHeldBelow handles n x
held-all handles n x few t = record {
  number = t.held.handle;
  below = few t.held.handle t.held.row t.held.in_use;
  row = t.held.row;
  in_use = t.held.in_use;
  holds = t.held.holds;
  target = t.held.target;
  not_null = t.not_null;
}

-- ---- slots

-- the word at one of these offsets from a place, and not null
pub record IsWordAmong (word : ℕ → ℕ) (place : ℕ) (offsets : List ℕ) (x : ℕ) : Type 0 where
  pub offset : ℕ
  pub listed : IsIn offset offsets
  pub is : word (place + offset) ≡ x
  pub not_null : 0 < x

pub word-none : (word : ℕ → ℕ) (place x : ℕ) → IsWordAmong word place [] x → ⊥
word-none word place x w = elim w.listed [ ]

pub word-back : (word : ℕ → ℕ) (place offset x : ℕ) (done : List ℕ)
    → IsWordAmong word place (done ++ offset ∷ []) x → IsWordAmong word place done x ⊎ (x ≡ word (place + offset))
word-back word place offset x done w = elim (in_append done w.listed) [
  | inl early ↦ inl (record { offset = w.offset; listed = early; is = w.is; not_null = w.not_null })
  | inr last ↦ elim (in_cons last) [
    | inl same ↦ inr (sym w.is ∙ ap (λ (o : ℕ). word (place + o)) same)
    | inr none ↦ elim none [ ]
  ]
]

-- one word more was met, where it isn't null
pub added-word : (v : View) (word : ℕ → ℕ) (place : ℕ) (old now : List FoundObject) (seen : List (List ℕ))
    (done : List ℕ)
    → HasAdded v old seen now (IsWordAmong word place done) → (offset target : ℕ) → target ≡ word (place + offset)
    → (new : List FoundObject) (after : List (List ℕ)) → IsSearch v after new → HasGrown now new
    → (target ≢ 0 → IsListed new target) → HasAdded v old after new (IsWordAmong word place (done ++ offset ∷ []))
added-word v word place old now seen done a offset target read new after s g met = record {
  search = s;
  grown = grown-trans old now new a.grown g;
  added = λ x w. elim (word-back word place offset x done w) [
    | inl early ↦ listed-on now new x g (a.added x early)
    | inr last ↦
        let some = w.not_null in
        subst (IsListed new) (read ∙ sym last) (met (λ e. omega (arith, e, read, last, some)))
  ];
}

-- ---- dependent handles

-- the second of one of the first n ties to a primary
pub record IsTiedBelow (ties : List Tie) (primary n x : ℕ) : Type 0 where
  pub index : ℕ
  pub below : index < n
  pub inside : index < length ties
  pub tie : (d : Tie) → ((get_or ties index d).primary ≡ primary) × ((get_or ties index d).second ≡ x)

pub tied-back : (ties : List Tie) (primary n x : ℕ) (t : Tie) → t ≡ get_or ties n t
    → IsTiedBelow ties primary (n + 1) x → IsTiedBelow ties primary n x ⊎ (x ≡ t.second)
tied-back ties primary n x t read w = elim (cases_eq w.index n) [
  | inl same ↦
      inr (sym (w.tie t).1 ∙ ap (λ (i : ℕ). (get_or ties i t).second) same ∙ ap (λ (u : Tie). u.second) (sym read))
  | inr other ↦
      let l = w.below in
      inl (record { index = w.index; below = omega (arith, l, other); inside = w.inside; tie = w.tie })
]
