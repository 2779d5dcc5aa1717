-- Lists of edges, as edges are added.
use Rattle.std.proofs.Common.{◌≡◌, ◌≢◌, ◌⊎◌, inl, inr, ℕ, ◌+◌, ◌-◌, ◌<◌, ◌≤◌, List, [], ◌∷◌, ◌++◌, length, get_or, set}
use Rattle.std.proofs.Common.{ap, arith, get_or-set_other, get_or-set_same, length-set, refl, replicate, subst, suc}
use Rattle.std.proofs.Common.{sym, zero, ◌∙◌}
use Rattle.std.proofs.lemmas.Bool.{cases_eq, cases_lt}
use Rattle.std.proofs.lemmas.List.{get_or_append_left, get_or_at, length-append, length-replicate}
use Rattle.clr_sos.specs.Reaching.{Leads}
use Rattle.clr_sos.specs.declared.view.View.{View}
use Rattle.clr_paths.specs.Incoming.{AreEdges, AreLinked, earlier, edge_at, HasListed, IsEdgeOf, HasEdge, IsSource}
use Rattle.clr_paths.specs.Incoming.{no_edge, own}
use Rattle.clr_paths.specs.Numbers.{place_of}
use Rattle.clr_paths.specs.declared.incoming.Edge.{Edge}
use Rattle.clr_paths.specs.declared.incoming.Incoming.{Incoming}

-- ---- the sources of one list

-- an empty list has none
pub source-none : (edges : List Edge) (from e : ℕ) → IsSource edges from e → e ≡ 0 → ⊥
source-none edges from e (own _ is f) none = let some = is.0 in omega (arith, some, none)
source-none edges from e (earlier _ is s) none = let some = is.0 in omega (arith, some, none)

-- a source is that of the edge, or of one before it
pub source-split : (edges : List Edge) (from e : ℕ) → IsSource edges from e
    → ((edge_at edges e).from ≡ from) ⊎ IsSource edges from (edge_at edges e).before
source-split edges from e (own _ is f) = inl f
source-split edges from e (earlier _ is s) = inr s

module _ (edges : List Edge) (new : Edge) where
  abbrev after : List Edge
  after = edges ++ new ∷ []

  -- there is one edge more
  longer : length after ≡ length edges + 1
  longer = length-append edges (new ∷ [])

  -- the old ones stay
  edge-same : (e : ℕ) → IsEdgeOf edges e → edge_at after e ≡ edge_at edges e
  edge-same e is =
      let some = is.0 in
      let below = is.1 in
      get_or_append_left edges (new ∷ []) no_edge (e - 1) (omega (arith, some, below))

  -- the last one is new
  edge-new : edge_at after (length edges + 1) ≡ new
  edge-new = get_or_at edges new [] no_edge (length edges + 1 - 1) (omega arith)

  -- an edge is still one
  edge-on : (e : ℕ) → IsEdgeOf edges e → IsEdgeOf after e
  edge-on e is = let n = longer in let below = is.1 in (is.0, omega (arith, n, below))

  -- and a source still one of its list
  source-on : (from e : ℕ) → IsSource edges from e → IsSource after from e
  source-on from e (own _ is f) = own e (edge-on e is) (ap (λ (x : Edge). x.from) (edge-same e is) ∙ f)
  source-on from e (earlier _ is s) =
      earlier e (edge-on e is) (subst (IsSource after from) (sym (ap (λ (x : Edge). x.before) (edge-same e is)))
      (source-on from (edge_at edges e).before s))

  module _ (falls : (e : ℕ) → IsEdgeOf edges e → (edge_at edges e).before < e) where
    -- a list that began before has no more sources
    source-back : (from e : ℕ) → e ≤ length edges → IsSource after from e → IsSource edges from e
    source-back from e low (own _ is f) =
        let was : IsEdgeOf edges e = (is.0, low) in
        own e was (sym (ap (λ (x : Edge). x.from) (edge-same e was)) ∙ f)
    source-back from e low (earlier _ is s) =
        let was : IsEdgeOf edges e = (is.0, low) in
        let same = ap (λ (x : Edge). x.before) (edge-same e was) in
        let down = falls e was in
        earlier e was (subst (IsSource edges from) same
        (source-back from (edge_at after e).before (omega (arith, same, down, low)) s))

-- ---- one edge more

module _ (v : View) (places : List ℕ) (old new : Incoming) (a : AreEdges v places old) (from to before last : ℕ)
    (inside : from < length places) (goal : to < length places)
    (led : Leads v (place_of places from) (place_of places to))
    (begun : before ≡ get_or old.lasts.items to 0)
    (edges : new.edges.items ≡ old.edges.items ++ record { from = from; before = before } ∷ [])
    (number : last ≡ length new.edges.items) (lasts : new.lasts.items ≡ set old.lasts.items to last) where
  abbrev es : List Edge
  es = old.edges.items

  abbrev e : Edge
  e = record { from = from; before = before }

  -- the number of the new edge
  last-is : last ≡ length es + 1
  last-is = number ∙ ap (λ (xs : List Edge). length xs) edges ∙ longer es e

  -- its object's list begins with it
  at-goal : get_or new.lasts.items to 0 ≡ length es + 1
  at-goal =
      let count = a.linked.count in
      ap (λ (xs : List ℕ). get_or xs to 0) lasts
      ∙ get_or-set_same old.lasts.items to last 0 (omega (arith, count, goal)) ∙ last-is

  -- and all other lists begin where they did
  at-other : (t : ℕ) → t ≢ to → get_or new.lasts.items t 0 ≡ get_or old.lasts.items t 0
  at-other t other =
      ap (λ (xs : List ℕ). get_or xs t 0) lasts ∙ get_or-set_other old.lasts.items to t last 0 other

  -- a source of a list that begins at edge n is listed
  spelled : (f t n : ℕ) → get_or new.lasts.items t 0 ≡ n → IsSource (after es e) f n → HasEdge new f t
  spelled f t n at s =
      subst (λ (xs : List Edge). IsSource xs f (get_or new.lasts.items t 0)) (sym edges)
      (subst (IsSource (after es e) f) (sym at) s)

  -- an edge of a list that begins at edge n is a source there
  read : (f t n : ℕ) → get_or new.lasts.items t 0 ≡ n → HasEdge new f t → IsSource (after es e) f n
  read f t n at s =
      subst (IsSource (after es e) f) at
      (subst (λ (xs : List Edge). IsSource xs f (get_or new.lasts.items t 0)) edges s)

  -- the new edge is one
  new-edge : IsEdgeOf (after es e) (length es + 1)
  new-edge = let n = longer es e in (omega arith, omega (arith, n))

  -- and the list goes on where it began before
  last-before : (edge_at (after es e) (length es + 1)).before ≡ before
  last-before = ap (λ (x : Edge). x.before) (edge-new es e)

  -- what was listed is listed
  kept : (f t : ℕ) → t < length places → HasEdge old f t → HasEdge new f t
  kept f t l s = elim (cases_eq t to) [
    | inl same ↦
        let was : IsSource es f before =
        subst (IsSource es f) (ap (λ (k : ℕ). get_or old.lasts.items k 0) same ∙ sym begun) s in
        spelled f t (length es + 1) (ap (λ (k : ℕ). get_or new.lasts.items k 0) same ∙ at-goal)
        (earlier (length es + 1) new-edge
        (subst (IsSource (after es e) f) (sym last-before) (source-on es e f before was)))
    | inr other ↦
        spelled f t (get_or old.lasts.items t 0) (at-other t other)
        (source-on es e f (get_or old.lasts.items t 0) s)
  ]

  -- so is the new edge
  listed : (f t : ℕ) → t < length places → (f ≡ from) × (t ≡ to) → HasEdge new f t
  listed f t l same =
      spelled f t (length es + 1) (ap (λ (k : ℕ). get_or new.lasts.items k 0) same.1 ∙ at-goal)
      (own (length es + 1) new-edge (ap (λ (x : Edge). x.from) (edge-new es e) ∙ sym same.0))

  -- and all that is listed leads
  lead : (f t : ℕ) → t < length places → HasEdge new f t → Leads v (place_of places f) (place_of places t)
  lead f t l s = elim (cases_eq t to) [
    | inl same ↦
        let at = ap (λ (k : ℕ). get_or new.lasts.items k 0) same ∙ at-goal in
        elim (source-split (after es e) f (length es + 1) (read f t (length es + 1) at s)) [
          | inl here ↦
              let is : from ≡ f = sym (ap (λ (x : Edge). x.from) (edge-new es e)) ∙ here in
              subst (λ (k : ℕ). Leads v (place_of places k) (place_of places t)) is
              (subst (λ (k : ℕ). Leads v (place_of places from) (place_of places k)) (sym same) led)
          | inr more ↦
              let low = a.linked.begin to in
              let was : IsSource es f before =
              source-back es e a.linked.falls f before (omega (arith, low, begun))
              (subst (IsSource (after es e) f) last-before more) in
              a.lead f t l (subst (IsSource es f) (begun ∙ ap (λ (k : ℕ). get_or old.lasts.items k 0) (sym same)) was)
        ]
    | inr other ↦
        a.lead f t l (source-back es e a.linked.falls f (get_or old.lasts.items t 0) (a.linked.begin t)
        (read f t (get_or old.lasts.items t 0) (at-other t other) s))
  ]

  -- what holds of the old edges and of the new one holds of all
  each-edge : (P : ℕ → Edge → Type 0) → ((k : ℕ) → IsEdgeOf es k → P k (edge_at es k)) → P (length es + 1) e
      → (k : ℕ) → IsEdgeOf new.edges.items k → P k (edge_at new.edges.items k)
  each-edge P all last k is =
      let there = subst (λ (xs : List Edge). IsEdgeOf xs k) edges is in
      subst (λ (xs : List Edge). P k (edge_at xs k)) (sym edges) (elim (cases_lt (length es) k) [
        | inl late ↦
            let n = longer es e in
            let below = there.1 in
            let same : k ≡ length es + 1 = omega (arith, late, below, n) in
            subst (λ (j : ℕ). P j (edge_at (after es e) j)) (sym same)
            (subst (P (length es + 1)) (sym (edge-new es e)) last)
        | inr early ↦
            let was : IsEdgeOf es k = (there.0, early) in
            subst (P k) (sym (edge-same es e k was)) (all k was)
      ])

  -- the lists still fall
  linked : AreLinked (length places) new
  linked = record {
    count = ap (λ (xs : List ℕ). length xs) lasts ∙ length-set old.lasts.items to last ∙ a.linked.count;
    begin = λ t.
        let size = ap (λ (xs : List Edge). length xs) edges ∙ longer es e in
        elim (cases_eq t to) [
          | inl same ↦
              let at = ap (λ (k : ℕ). get_or new.lasts.items k 0) same ∙ at-goal in omega (arith, at, size)
          | inr other ↦
              let at = at-other t other in let low = a.linked.begin t in omega (arith, at, low, size)
        ];
    falls = each-edge (λ k x. x.before < k) a.linked.falls
        (let low = a.linked.begin to in omega (arith, low, begun));
    numbered = each-edge (λ k x. x.from < length places) a.linked.numbered inside;
  }

  -- ONE EDGE MORE is listed, and all others still are
  pub edge-added : HasListed v places old new (λ f t. (f ≡ from) × (t ≡ to))
  edge-added = record {
    edges = record { linked = linked; lead = lead };
    kept = kept;
    listed = listed;
  }

-- ---- what was listed

module _ (v : View) (places : List ℕ) where
  -- nothing was added, where nothing is wanted
  pub listed-starts : (old : Incoming) (Wanted : ℕ → ℕ → Type 0) → AreEdges v places old
      → ((f t : ℕ) → t < length places → Wanted f t → ⊥) → HasListed v places old old Wanted
  listed-starts old Wanted a none =
      record { edges = a; kept = λ f t l s. s; listed = λ f t l w. absurd (none f t l w) }

  -- what is wanted later was wanted in one of two steps
  pub listed-more : (old now new : Incoming) (First Second Wanted : ℕ → ℕ → Type 0) → HasListed v places old now First
      → HasListed v places now new Second
      → ((f t : ℕ) → t < length places → Wanted f t → First f t ⊎ Second f t) → HasListed v places old new Wanted
  listed-more old now new First Second Wanted a b split = record {
    edges = b.edges;
    kept = λ f t l s. b.kept f t l (a.kept f t l s);
    listed = λ f t l w. elim (split f t l w) [
      | inl early ↦ b.kept f t l (a.listed f t l early)
      | inr last ↦ b.listed f t l last
    ];
  }

  -- no more is wanted
  pub listed-on : (old new : Incoming) (First Wanted : ℕ → ℕ → Type 0) → HasListed v places old new First
      → ((f t : ℕ) → t < length places → Wanted f t → First f t) → HasListed v places old new Wanted
  listed-on old new First Wanted a wants =
      record { edges = a.edges; kept = a.kept; listed = λ f t l w. a.listed f t l (wants f t l w) }

-- no edge is listed yet
pub edges-none : (v : View) (places : List ℕ) (incoming : Incoming) → incoming.edges.items ≡ []
    → incoming.lasts.items ≡ replicate {A = ℕ} (length places) 0 → AreEdges v places incoming
edges-none v places incoming edges lasts = record {
  linked = record {
    count = ap (λ (xs : List ℕ). length xs) lasts ∙ length-replicate {A = ℕ} (length places) 0;
    begin = λ to. let none = first to in omega (arith, none);
    falls = λ k is. absurd (no_edges k is);
    numbered = λ k is. absurd (no_edges k is);
  };
  lead = λ from to l s. absurd (source-none incoming.edges.items from (get_or incoming.lasts.items to 0) s (first to));
}
  where
    -- each list is empty
    first : (to : ℕ) → get_or incoming.lasts.items to 0 ≡ 0
    first to = ap (λ (xs : List ℕ). get_or xs to 0) lasts ∙ at (length places) to
      where
        -- no number but 0 stands in a list of zeros
        at : (n k : ℕ) → get_or (replicate {A = ℕ} n 0) k 0 ≡ 0
        at zero k = refl
        at (suc n) zero = refl
        at (suc n) (suc k) = at n k

    -- there is no edge
    no_edges : (k : ℕ) → IsEdgeOf incoming.edges.items k → ⊥
    no_edges k is =
        let none = ap (λ (es : List Edge). length es) edges in
        let some = is.0 in
        let below = is.1 in
        omega (arith, none, some, below)
