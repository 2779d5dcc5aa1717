-- The search back from an object, breadth first.
use Rattle.std.proofs.Common.{◌≡◌, ◌≢◌, ◌⊎◌, inl, inr, ℕ, zero, suc, ◌+◌, ◌-◌, ◌<◌, ◌≤◌, List, [], ◌∷◌, ◌++◌, length}
use Rattle.std.proofs.Common.{get_or, set, ap, arith, get_or-set_other, get_or-set_same, length-set, refl, replicate}
use Rattle.std.proofs.Common.{subst, sym, ◌∙◌}
use Rattle.std.proofs.lemmas.Bool.{cases_eq, cases_lt}
use Rattle.std.proofs.lemmas.List.{get_or_append_left, get_or_at, get_or_default, get_or_read, length-append}
use Rattle.std.proofs.lemmas.List.{length-replicate}
use Rattle.clr_mark.proofs.Rooting.{at_in, in_at}
use Rattle.clr_sos.specs.BreadthFirst.{IsBreadthFirst}
use Rattle.clr_sos.specs.Reaching.{IsObjectOf, IsSound, Leads}
use Rattle.clr_sos.specs.declared.view.View.{View}
use Rattle.clr_sos.proofs.BreadthFirst.{breadth-more}
use Rattle.clr_paths.specs.AllRoots.{AreMarked, AreWaysUpTo, count_of, HasFollowed, HasMet, mark_of, next_at, no_way}
use Rattle.clr_paths.specs.AllRoots.{node_at, way_at}
use Rattle.clr_paths.specs.Incoming.{AreAllEdges, edge_at, HasEdge, IsSource}
use Rattle.clr_paths.specs.Numbers.{AreNumbers, place_of}
use Rattle.clr_paths.specs.declared.all_roots.Way.{Way}
use Rattle.clr_paths.specs.declared.all_roots.Ways.{Ways}
use Rattle.clr_paths.specs.declared.incoming.Incoming.{Incoming}
use Rattle.clr_paths.proofs.EdgeLists.{source-none, source-split}
use Rattle.clr_paths.proofs.HeapNumbers.{rising-index}
use Rattle.clr_paths.proofs.LeadingObjects.{leads-stands}

-- ---- one object is met

-- one that was met before adds nothing
pub met-refl : (ways : Ways) (next : ℕ) → HasMet ways ways next
met-refl ways next = record {
  longer = omega arith;
  same = λ i l. refl;
  came = λ i late l. absurd (omega (arith, late, l));
  kept = λ k some. some;
}

-- entries that lead to one next entry are added in two steps
pub met-trans : (a b c : Ways) (next : ℕ) → HasMet a b next → HasMet b c next → HasMet a c next
met-trans a b c next p q =
    let first = p.longer in
    let second = q.longer in
    record {
      longer = omega (arith, first, second);
      same = λ i l. q.same i (omega (arith, l, first)) ∙ p.same i l;
      came = λ i late l. elim (cases_lt i (count_of b)) [
        | inl early ↦ ap (λ (w : Way). w.next) (q.same i early) ∙ p.came i late early
        | inr behind ↦ q.came i behind l
      ];
      kept = λ k some. q.kept k (p.kept k some);
    }

module _ (n : ℕ) (old new : Ways) (a : AreMarked n old) (number next last : ℕ) (inside : number < n)
    (fresh : mark_of old number ≡ 0)
    (found : new.found.items ≡ old.found.items ++ record { number = number; next = next } ∷ [])
    (is : last ≡ length new.found.items) (at : new.at.items ≡ set old.at.items number last) where
  abbrev way : Way
  way = record { number = number; next = next }

  -- there is one entry more
  longer : count_of new ≡ count_of old + 1
  longer = ap (λ (ws : List Way). length ws) found ∙ length-append old.found.items (way ∷ [])

  -- the old ones stay
  same : (i : ℕ) → i < count_of old → way_at new i ≡ way_at old i
  same i l =
      ap (λ (ws : List Way). get_or ws i no_way) found ∙ get_or_append_left old.found.items (way ∷ []) no_way i l

  -- the last one is new
  last-way : (i : ℕ) → i ≡ count_of old → way_at new i ≡ way
  last-way i here =
      ap (λ (ws : List Way). get_or ws i no_way) found ∙ get_or_at old.found.items way [] no_way i (sym here)

  -- its number has its mark
  mark-own : mark_of new number ≡ count_of old + 1
  mark-own =
      let count = a.count in
      ap (λ (xs : List ℕ). get_or xs number 0) at
      ∙ get_or-set_same old.at.items number last 0 (omega (arith, count, inside)) ∙ is ∙ longer

  -- and all other numbers keep theirs
  mark-other : (k : ℕ) → k ≢ number → mark_of new k ≡ mark_of old k
  mark-other k other =
      ap (λ (xs : List ℕ). get_or xs k 0) at ∙ get_or-set_other old.at.items number k last 0 other

  -- THE ENTRIES ARE STILL of different objects that have their marks
  pub met-marked : AreMarked n new
  met-marked = record {
    count = ap (λ (xs : List ℕ). length xs) at ∙ length-set old.at.items number last ∙ a.count;
    numbered = λ i l. elim (cases_lt i (count_of old)) [
      | inl early ↦ subst (λ (w : Way). w.number < n) (sym (same i early)) (a.numbered i early)
      | inr late ↦
          subst (λ (w : Way). w.number < n) (sym (last-way i (omega (arith, late, l, longer)))) inside
    ];
    marked = λ i l. elim (cases_lt i (count_of old)) [
      | inl early ↦
          let own = a.marked i early in
          let other : (way_at old i).number ≢ number = λ hit.
          let was = ap (mark_of old) hit in omega (arith, was, own, fresh) in
          ap (λ (w : Way). mark_of new w.number) (same i early) ∙ mark-other (way_at old i).number other ∙ own
      | inr late ↦
          let here : i ≡ count_of old = omega (arith, late, l, longer) in
          ap (λ (w : Way). mark_of new w.number) (last-way i here) ∙ mark-own ∙ ap (λ (j : ℕ). j + 1) (sym here)
    ];
    entered = λ k some. elim (cases_eq k number) [
      | inl hit ↦
          let own = ap (mark_of new) hit ∙ mark-own in (
            omega (arith, own, longer),
            ap (λ (w : Way). w.number) (last-way (mark_of new k - 1) (omega (arith, own))) ∙ sym hit,
          )
      | inr other ↦
          let own = mark-other k other in
          let was = a.entered k (λ none. some (own ∙ none)) in
          let low = was.0 in (
            omega (arith, own, low, longer),
            ap (λ (w : Way). w.number) (same (mark_of new k - 1) (omega (arith, own, low, some)))
                ∙ ap (λ (j : ℕ). (way_at old (j - 1)).number) own ∙ was.1,
          )
    ];
  }

  -- one entry was added, which leads to the next one
  pub met-added : HasMet old new next
  met-added = record {
    longer = omega (arith, longer);
    same = same;
    came = λ i late l. ap (λ (w : Way). w.next) (last-way i (omega (arith, late, l, longer)));
    kept = λ k some. elim (cases_eq k number) [
      | inl hit ↦ λ none. let own = ap (mark_of new) hit ∙ mark-own in omega (arith, own, none)
      | inr other ↦ λ none. some (sym (mark-other k other) ∙ none)
    ];
  }

  -- it is of the object with the number
  pub met-only : (i : ℕ) → count_of old ≤ i → i < count_of new → (way_at new i).number ≡ number
  met-only i late l = ap (λ (w : Way). w.number) (last-way i (omega (arith, late, l, longer)))

  -- which is marked
  pub met-found : mark_of new number ≢ 0
  met-found none = let own = mark-own in omega (arith, own, none)

-- ---- the edges to one object are taken one by one

-- what is to be met of a list of edges: an object has an entry, or is a source of the edges that are left
pub record IsHalfFollowed (incoming : Incoming) (to e : ℕ) (old now : Ways) : Type 0 where
  pub only : (i : ℕ) → count_of old ≤ i → i < count_of now → HasEdge incoming (way_at now i).number to
  pub left : (k : ℕ) → HasEdge incoming k to → (mark_of now k ≢ 0) ⊎ IsSource incoming.edges.items k e
  pub inner : (k : ℕ) → IsSource incoming.edges.items k e → HasEdge incoming k to

-- no edge was taken yet
pub half-starts : (incoming : Incoming) (to e : ℕ) (ways : Ways) → e ≡ get_or incoming.lasts.items to 0
    → IsHalfFollowed incoming to e ways ways
half-starts incoming to e ways begun = record {
  only = λ i late l. absurd (omega (arith, late, l));
  left = λ k s. inr (subst (IsSource incoming.edges.items k) (sym begun) s);
  inner = λ k s. subst (IsSource incoming.edges.items k) begun s;
}

-- the source of one edge was met
pub half-more : (incoming : Incoming) (to e next : ℕ) (old now new : Ways) → 0 < e
    → HasMet now new next → HasMet old now next → IsHalfFollowed incoming to e old now
    → IsSource incoming.edges.items (edge_at incoming.edges.items e).from e
    → ((i : ℕ) → count_of now ≤ i → i < count_of new
    → (way_at new i).number ≡ (edge_at incoming.edges.items e).from)
    → mark_of new (edge_at incoming.edges.items e).from ≢ 0
    → ((k : ℕ) → IsSource incoming.edges.items k (edge_at incoming.edges.items e).before
    → IsSource incoming.edges.items k e)
    → IsHalfFollowed incoming to (edge_at incoming.edges.items e).before old new
half-more incoming to e next old now new some added before half source only found deeper = record {
  only = λ i late l. elim (cases_lt i (count_of now)) [
    | inl early ↦
        subst (λ (w : Way). HasEdge incoming w.number to) (sym (added.same i early)) (half.only i late early)
    | inr behind ↦
        subst (λ (k : ℕ). HasEdge incoming k to) (sym (only i behind l))
        (half.inner (edge_at incoming.edges.items e).from source)
  ];
  left = λ k s. elim (half.left k s) [
    | inl met ↦ inl (added.kept k met)
    | inr rest ↦ elim (source-split incoming.edges.items k e rest) [
      | inl here ↦ inl (subst (λ (n : ℕ). mark_of new n ≢ 0) here found)
      | inr more ↦ inr more
    ]
  ];
  inner = λ k s. half.inner k (deeper k s);
}

-- WHERE NO EDGE IS LEFT, all that leads to the object was met
pub half-ends : (incoming : Incoming) (to e : ℕ) (old now : Ways) → IsHalfFollowed incoming to e old now → e ≡ 0
    → HasFollowed incoming to old now
half-ends incoming to e old now half none = record {
  only = half.only;
  all = λ k s. elim (half.left k s) [
    | inl met ↦ met
    | inr rest ↦ absurd (source-none incoming.edges.items k e rest none)
  ];
}

-- ---- the entries

module _ (v : View) (places : List ℕ) (numbers : AreNumbers v places) (ways : Ways)
    (marks : AreMarked (length places) ways) where
  -- two entries of one number are one
  number-once : (i j : ℕ) → i < count_of ways → j < count_of ways → (way_at ways i).number ≡ (way_at ways j).number
      → i ≡ j
  number-once i j l k same =
      let first = marks.marked i l in
      let second = marks.marked j k in
      let both = ap (mark_of ways) same in
      omega (arith, first, second, both)

  -- and so are two of one object
  pub node-once : (i j : ℕ) → i < count_of ways → j < count_of ways → node_at places ways i ≡ node_at places ways j
      → i ≡ j
  node-once i j l k same =
      number-once i j l k (rising-index places (way_at ways i).number (way_at ways j).number 0 numbers.rise
      (marks.numbered i l) (marks.numbered j k) same)

  -- a number with a mark has the entry before the mark
  pub entry-some : (n x : ℕ) → place_of places n ≡ x → mark_of ways n ≢ 0
      → (mark_of ways n - 1 < count_of ways) × (node_at places ways (mark_of ways n - 1) ≡ x)
  entry-some n x is some =
      let f = marks.entered n some in
      let low = f.0 in
      (omega (arith, low, some), ap (place_of places) f.1 ∙ is)

  -- and one with no mark has none
  pub entry-none : (n x : ℕ) → n < length places → place_of places n ≡ x → mark_of ways n ≡ 0 → (i : ℕ)
      → i < count_of ways
      → node_at places ways i ≢ x
  entry-none n x below is none i l same =
      let here = rising-index places (way_at ways i).number n 0 numbers.rise (marks.numbered i l) below
      (same ∙ sym is) in
      let own = marks.marked i l in
      let other = ap (mark_of ways) here in
      omega (arith, own, other, none)

  -- the object of an entry stands
  pub node-stands : (i : ℕ) → i < count_of ways → IsObjectOf v (node_at places ways i)
  node-stands i l = numbers.stand (node_at places ways i) (at_in places (way_at ways i).number 0 (marks.numbered i l))

  -- an entry that was read, and the address of its object
  pub entry-read : (i place : ℕ) (way : Way) → i < count_of ways → way ≡ get_or ways.found.items i way
      → place ≡ get_or places way.number place
      → (way_at ways i ≡ way) × (place ≡ node_at places ways i)
  entry-read i place way l read at =
      let own : way ≡ way_at ways i = read ∙ get_or_default ways.found.items i way no_way l in
      let below : way.number < length places =
      subst (λ (w : Way). w.number < length places) (sym own) (marks.numbered i l) in
      (sym own, get_or_read places way.number place below at 0 ∙ ap (λ (w : Way). place_of places w.number) own)

-- the marks are as many as the numbers
pub marked-own : (n : ℕ) (ways : Ways) → AreMarked n ways → AreMarked (length ways.at.items) ways
marked-own n ways a = subst (λ (k : ℕ). AreMarked k ways) (sym a.count) a

-- ---- the search

module _ (v : View) (places : List ℕ) (numbers : AreNumbers v places) where
  -- THE OBJECT THAT IS ASKED FOR alone was met
  pub ways-begin : (old ways : Ways) (goal a : ℕ) → count_of old ≡ 0 → AreMarked (length places) ways
      → HasMet old ways 0 → ((i : ℕ) → count_of old ≤ i → i < count_of ways → (way_at ways i).number ≡ goal)
      → mark_of ways goal ≢ 0 → place_of places goal ≡ a
      → AreWaysUpTo v places ways 0 × (node_at places ways 0 ≡ a)
  ways-begin old ways goal a empty marks met only found is =
      let f = marks.entered goal found in
      let low = f.0 in
      let some : 0 < count_of ways = omega (arith, low, found) in
      let one : (i : ℕ) → i < count_of ways → i ≡ 0 = λ i l.
      number-once v places numbers ways marks i 0 l some
      (only i (omega (arith, empty)) l ∙ sym (only 0 (omega (arith, empty)) some)) in
      let last : (i : ℕ) → i < count_of ways → next_at ways i ≡ 0 = λ i l. met.came i (omega (arith, empty)) l in (
        record {
          marks = marks;
          some = some;
          ends = λ i l e. one i l;
          lead = λ i q l e. let none = last i l in absurd (omega (arith, none, e));
          breadth = record {
            starts = λ x same. record {
              index = 0;
              below = some;
              is = sym same;
              by = let none = last 0 some in omega (arith, none);
            };
            rises = λ i j le l. let none = last i (omega (arith, le, l)) in omega (arith, none);
            before = λ i l. let none = last i l in omega (arith, none);
            by_followed = λ i l. let none = last i l in omega (arith, none);
            followed = λ i y before. absurd (omega (arith, before));
            distinct = λ i j before l same.
                let first = one i (omega (arith, before, l)) in
                let second = one j l in
                omega (arith, first, second, before);
          };
        },
        ap (place_of places) (only 0 (omega (arith, empty)) some) ∙ is,
      )

  -- ONE ENTRY MORE was followed
  pub ways-followed : IsSound v → (incoming : Incoming) → AreAllEdges v places incoming → (old new : Ways) (next : ℕ)
      → next < count_of old → AreWaysUpTo v places old next → AreMarked (length places) new
      → HasMet old new (next + 1) → HasFollowed incoming (way_at old next).number old new
      → AreWaysUpTo v places new (next + 1)
  ways-followed sound incoming edges old new next inside a marks met followed =
      let longer = met.longer in
      let some = a.some in
      let node : (i : ℕ) → i < count_of old → node_at places new i ≡ node_at places old i =
      λ i l. ap (λ (w : Way). place_of places w.number) (met.same i l) in
      let led : (i : ℕ) → i < count_of old → next_at new i ≡ next_at old i =
      λ i l. ap (λ (w : Way). w.next) (met.same i l) in
      record {
        marks = marks;
        some = omega (arith, longer, some);
        ends = λ i l e. elim (cases_lt i (count_of old)) [
          | inl early ↦ a.ends i early (sym (led i early) ∙ e)
          | inr late ↦ let came = met.came i late l in absurd (omega (arith, came, e))
        ];
        lead = λ i q l e. elim (cases_lt i (count_of old)) [
          | inl early ↦
              let own = led i early in
              let back = a.breadth.before i early in
              let low : q < count_of old = omega (arith, e, own, back, early) in
              subst (λ (x : ℕ). Leads v x (node_at places new q)) (sym (node i early))
              (subst (Leads v (node_at places old i)) (sym (node q low)) (a.lead i q early (sym own ∙ e)))
          | inr late ↦
              let came = met.came i late l in
              let here : q ≡ next = omega (arith, came, e) in
              subst (Leads v (node_at places new i)) (sym (ap (node_at places new) here ∙ node next inside))
              (edges.edges.lead (way_at new i).number (way_at old next).number (a.marks.numbered next inside)
              (followed.only i late l))
        ];
        breadth = subst
            (λ (x : ℕ). IsBreadthFirst (λ y z. Leads v z y) (λ y. y ≡ x) (node_at places new) (next_at new)
            (count_of new) (next + 1)) (sym (node 0 some))
            (breadth-more (λ y z. Leads v z y) (λ y. y ≡ node_at places old 0) (node_at places old) (next_at old)
            (count_of old) next a.breadth (node_at places new) (next_at new) (count_of new) longer
            (λ i l. (node i l, led i l)) inside
            (λ i late l. let came = met.came i late l in omega (arith, came))
            (λ i j before l same.
            let one = node-once v places numbers new marks i j (omega (arith, before, l)) l same in
            omega (arith, one, before))
            (λ y leads.
            let f = in_at places y 0 (numbers.all y (leads-stands v sound y (node_at places old next) leads)) in
            let to = (way_at old next).number in
            let listed = edges.all f.0 to f.1 (a.marks.numbered next inside)
            (subst (λ (x : ℕ). Leads v x (place_of places to)) (sym f.2) leads) in
            let e = entry-some v places numbers new marks f.0 y f.2 (followed.all f.0 listed) in
            (mark_of new f.0 - 1, e.0, e.1)));
      }

-- without an entry nothing is marked
pub marked-none : (n : ℕ) (ways : Ways) → ways.found.items ≡ [] → ways.at.items ≡ replicate {A = ℕ} n 0
    → AreMarked n ways
marked-none n ways none at = record {
  count = ap (λ (xs : List ℕ). length xs) at ∙ length-replicate {A = ℕ} n 0;
  numbered = λ i l. absurd (no_entry i l);
  marked = λ i l. absurd (no_entry i l);
  entered = λ k some. absurd (some (ap (λ (xs : List ℕ). get_or xs k 0) at ∙ clear n k));
}
  where
    -- there is no entry
    no_entry : (i : ℕ) → i < count_of ways → ⊥
    no_entry i l = let empty = ap (λ (ws : List Way). length ws) none in omega (arith, empty, l)

    -- and no mark
    clear : (n k : ℕ) → get_or (replicate {A = ℕ} n 0) k 0 ≡ 0
    clear zero k = refl
    clear (suc n) zero = refl
    clear (suc n) (suc k) = clear n k
