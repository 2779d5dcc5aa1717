-- The plugs of the next brick, as a cursor reads them.
use Rattle.std.proofs.Common.{◌≡◌, inl, inr, ℕ, zero, suc, ◌+◌, ◌-◌, ◌*◌, ◌/◌, ◌<◌, ◌≤◌, List, [], ◌∷◌, ◌++◌, length}
use Rattle.std.proofs.Common.{drop, filter, refl, ap, sym, ◌∙◌, subst, arith, true, false, Bool, ◌&&◌, if◌then◌else◌}
use Rattle.std.proofs.Common.{leb, ltb, eqb, replicate, ℤ}
use Rattle.std.proofs.lemmas.Bool.{cases_lt, eq-eqb, le-leb, leb-true, lt-ltb, ltb-true, ne_eqb, cases_Bool}
use Rattle.std.proofs.lemmas.List.{append_assoc}
use Rattle.clr_types.specs.Rising.{first, IsIn, later}
use Rattle.clr_types.proofs.ListMembers.{filter-on, from-map}
use Rattle.clr_types.proofs.RisingLists.{in_cons}
use Rattle.clr_types.proofs.ChangedLists.{IsIn-map}
use Rattle.clr_bricks.specs.Bricks.{entry_at}
use Rattle.clr_heap.specs.View.{HeapView, IsHeap, word_of}
use Rattle.clr_plugs.specs.BrickEntries.{BricksView}
use Rattle.clr_plugs.specs.Builders.{places_from}
use Rattle.clr_plugs.specs.Cursors.{ahead, AreLeft, starts_between}
use Rattle.clr_plugs.specs.Forests.{CanReadAll, HaveFound}
use Rattle.clr_plugs.specs.Offsets.{AreApart, AreListed}
use Rattle.clr_plugs.specs.Plans.{AreSpaced, IsPart, PlannedPart, plug_starts, root_number, TellsBrick, tree_here}
use Rattle.clr_plugs.specs.Plans.{tree_below, no_tree}
use Rattle.clr_plugs.specs.Trees.{IsBrickTree, leaf, starts_in}
use Rattle.clr_plugs.proofs.Finding.{plug_words}
use Rattle.clr_plugs.proofs.Gathering.{spaced_few}
use Rattle.clr_plugs.proofs.Planning.{none_in}
use Rattle.clr_plugs.proofs.Starts.{in_brick, into_filter, out_of_filter, spaced-above, spaced-apart}
use Rattle.clr_plugs.proofs.Stepping.{none_ahead}
use Rattle.clr_plugs.proofs.UnitBits.{none_set}

-- the root that is read has the tree of the brick, also where there is none
pub brick_tree : (word : ℕ → ℕ) (starts : List ℕ) (brick root : ℕ) (entry : ℤ) → TellsBrick word starts brick entry
    → root ≡ root_number entry → IsBrickTree word brick root (starts_in brick starts)
brick_tree word starts brick root entry (tree_here r e t) same = let P : ℕ → Type 0 =
    λ n. IsBrickTree word brick n (starts_in brick starts) in subst P (sym (same ∙ ap root_number e)) t
brick_tree word starts brick root entry (tree_below near i low most e) same = record {
  tree = leaf;
  root = same ∙ ap root_number e;
  stands = tt;
  order = sym (none_in brick starts (λ x j at. let m = most x j (omega (arith, at)) in omega (arith, m, low, at)));
  balanced = omega arith;
}
brick_tree word starts brick root entry (no_tree above e) same = record {
  tree = leaf;
  root = same ∙ ap root_number e;
  stands = tt;
  order = sym (none_in brick starts (λ x j at. let m = above x j in omega (arith, m, at)));
  balanced = omega arith;
}

-- ---- few plugs

spaced_weaker : (low other : ℕ) (xs : List ℕ) → other ≤ low → AreSpaced low xs → AreSpaced other xs
spaced_weaker low other [] le s = tt
spaced_weaker low other (x ∷ xs) le s = let h = s.0 in (omega (arith, h, le), s.1)

spaced_filter : (test : ℕ → Bool) (low : ℕ) (xs : List ℕ) → AreSpaced low xs → AreSpaced low (filter test xs)
spaced_filter test low [] s = tt
spaced_filter test low (x ∷ xs) s = go (test x) (spaced_filter test (x + 24) xs s.1) where
  go : (b : Bool) → AreSpaced (x + 24) (filter test xs)
      → AreSpaced low (if b then x ∷ filter test xs else filter test xs)
  go true r = (s.0, r)
  go false r = let h = s.0 in spaced_weaker (x + 24) low (filter test xs) (omega (arith, h)) r

spaced_from : (low other : ℕ) (xs : List ℕ) → AreSpaced low xs → ((x : ℕ) → IsIn x xs → other ≤ x) → AreSpaced other xs
spaced_from low other [] s above = tt
spaced_from low other (x ∷ xs) s above = (above x first, s.1)

pub few_in : (low brick : ℕ) (starts : List ℕ) → AreSpaced low starts → length (starts_in brick starts) ≤ 171
few_in low brick starts s =
    let inside = spaced_from low (brick * 4096) (starts_in brick starts)
    (spaced_filter (λ x. eqb (x / 4096) brick) low starts s)
    (λ x i. let m = (in_brick brick starts x i).1 in omega (arith, m)) in
    let few = spaced_few (brick * 4096) (brick * 4096 + 4096) (starts_in brick starts) inside
    (λ x i. let m = (in_brick brick starts x i).1 in omega (arith, m)) in
    omega (arith, few)

-- ---- the places of a brick, before those of the bricks above it

not_le : (m n : ℕ) → n < m → leb m n ≡ false
not_le m n h = elim (cases_Bool (leb m n))
    [ inl yes_le ↦ let bad = leb-true m n yes_le in absurd (omega (arith, bad, h)) | inr off ↦ off ]

between_at : (b past x : ℕ) → x / 4096 ≡ b → b < past
    → ((leb b (x / 4096) && ltb (x / 4096) past) ≡ true) × ((leb (b + 1) (x / 4096) && ltb (x / 4096) past) ≡ false)
    × (eqb (x / 4096) b ≡ true)
between_at b past x at some = (
  rw (le-leb b (x / 4096) (omega (arith, at)), lt-ltb (x / 4096) past (omega (arith, at, some))) refl,
  rw (not_le (b + 1) (x / 4096) (omega (arith, at))) refl,
  eq-eqb (x / 4096) b at,
)

between_below : (b past x : ℕ) → x / 4096 < b
    → ((leb b (x / 4096) && ltb (x / 4096) past) ≡ false) × ((leb (b + 1) (x / 4096) && ltb (x / 4096) past) ≡ false)
    × (eqb (x / 4096) b ≡ false)
between_below b past x low = (
  rw (not_le b (x / 4096) low) refl,
  rw (not_le (b + 1) (x / 4096) (omega (arith, low))) refl,
  ne_eqb (x / 4096) b (λ e. omega (arith, e, low)),
)

between_above : (b past x : ℕ) → b < x / 4096
    → (leb b (x / 4096) && ltb (x / 4096) past) ≡ (leb (b + 1) (x / 4096) && ltb (x / 4096) past)
between_above b past x up =
    rw (le-leb b (x / 4096) (omega (arith, up)), le-leb (b + 1) (x / 4096) (omega (arith, up))) refl

pub split_brick : (low b past : ℕ) (starts : List ℕ) → AreSpaced low starts → b < past
    → starts_between b past starts ≡ starts_in b starts ++ starts_between (b + 1) past starts
split_brick low b past [] s some = refl
split_brick low b past (x ∷ xs) s some = elim (cases_lt (x / 4096) b) [
  | inl less ↦ let t = between_below b past x less in rw (t.0, t.1, t.2) (split_brick (x + 24) b past xs s.1 some)
  | inr more ↦ elim (cases_lt b (x / 4096)) [
    | inl up ↦
        let over : (y : ℕ) → IsIn y (x ∷ xs) → b < y / 4096 = λ y i. let z =
        spaced-above x (x ∷ xs) (omega arith, s.1) y i in omega (arith, z, up) in
        let none = none_in b (x ∷ xs) (λ y i e. let o = over y i in omega (arith, o, e)) in
        filter-on (λ y. leb b (y / 4096) && ltb (y / 4096) past) (λ y. leb (b + 1) (y / 4096) && ltb (y / 4096) past)
        (x ∷ xs) (λ y i. between_above b past y (over y i))
        ∙ ap (λ (zs : List ℕ). zs ++ starts_between (b + 1) past (x ∷ xs)) (sym none)
    | inr le ↦
        let t = between_at b past x (omega (arith, more, le)) some in
        rw (t.0, t.1, t.2) (ap (λ (zs : List ℕ). x ∷ zs) (split_brick (x + 24) b past xs s.1 some))
  ]
]

-- the places of some bricks, before those of the bricks above them
split_bricks : (low n b past : ℕ) (starts : List ℕ) → AreSpaced low starts → b + n ≤ past
    → starts_between b past starts ≡ starts_between b (b + n) starts ++ starts_between (b + n) past starts
split_bricks low zero b past starts s le =
    ap (λ (m : ℕ). starts_between m past starts) (omega arith)
    ∙ ap (λ (xs : List ℕ). xs ++ starts_between (b + 0) past starts) (sym (none_ahead b (b + 0) starts (omega arith)))
split_bricks low (suc n) b past starts s le =
    let more = split_bricks low n (b + 1) past starts s (omega (arith, le)) in
    let same : b + 1 + n ≡ b + suc n = omega arith in
    let Q : ℕ → Type 0 = λ m. starts_between (b + 1) past starts
    ≡ starts_between (b + 1) m starts ++ starts_between m past starts in
    split_brick low b past starts s (omega (arith, le))
    ∙ ap (λ (xs : List ℕ). starts_in b starts ++ xs) (subst Q same more)
    ∙ sym (append_assoc (starts_in b starts) (starts_between (b + 1) (b + suc n) starts)
    (starts_between (b + suc n) past starts))
    ∙ ap (λ (xs : List ℕ). xs ++ starts_between (b + suc n) past starts)
    (sym (split_brick low b (b + suc n) starts s (omega arith)))

-- where an entry names no root, no plug starts in the brick
brick_empty : (word : ℕ → ℕ) (starts : List ℕ) (brick : ℕ) (entry : ℤ) → TellsBrick word starts brick entry
    → root_number entry ≡ 0 → starts_in brick starts ≡ []
brick_empty word starts brick entry (tree_here r e t) none =
    let bad : suc r ≡ 0 = sym (ap root_number e) ∙ none in absurd (omega (arith, bad))
brick_empty word starts brick entry (tree_below near i low most e) none =
    none_in brick starts (λ x j at. let m = most x j (omega (arith, at)) in omega (arith, m, low, at))
brick_empty word starts brick entry (no_tree above e) none =
    none_in brick starts (λ x j at. let m = above x j in omega (arith, m, at))

-- bricks in which none starts are passed over
skip_bricks : (low n b past : ℕ) (starts : List ℕ) → AreSpaced low starts → b + n ≤ past
    → ((i : ℕ) → b ≤ i → i < b + n → starts_in i starts ≡ [])
    → starts_between b past starts ≡ starts_between (b + n) past starts
skip_bricks low zero b past starts s le none = ap (λ (m : ℕ). starts_between m past starts) (omega arith)
skip_bricks low (suc n) b past starts s le none =
    split_brick low b past starts s (omega (arith, le))
    ∙ ap (λ (xs : List ℕ). xs ++ starts_between (b + 1) past starts) (none b (omega arith) (omega arith))
    ∙ skip_bricks low n (b + 1) past starts s (omega (arith, le))
    (λ i from up. none i (omega (arith, from)) (omega (arith, up)))
    ∙ ap (λ (m : ℕ). starts_between m past starts) (omega arith)

-- ---- the plugs of some bricks

between_of : (b past x : ℕ) → (leb b (x / 4096) && ltb (x / 4096) past) ≡ true → (b ≤ x / 4096) × (x / 4096 < past)
between_of b past x e = (leb-true b (x / 4096) (and_yes _ _ e).0, ltb-true (x / 4096) past (and_yes _ _ e).1)
  where
    and_yes : (p q : Bool) → (p && q) ≡ true → (p ≡ true) × (q ≡ true)
    and_yes true true e = (refl, refl)
    and_yes true false e = absurd (let bad : false ≡ true = e in cc)
    and_yes false q e = absurd (let bad : false ≡ true = e in cc)

pub in_bricks : (b past : ℕ) (starts : List ℕ) (x : ℕ) → IsIn x (starts_between b past starts)
    → IsIn x starts × ((b ≤ x / 4096) × (x / 4096 < past))
in_bricks b past starts x i =
    let r = out_of_filter (λ y. leb b (y / 4096) && ltb (y / 4096) past) starts x i in
    (r.0, between_of b past x r.1)

pub into_bricks : (b past : ℕ) (starts : List ℕ) (x : ℕ) → IsIn x starts → b ≤ x / 4096 → x / 4096 < past
    → IsIn x (starts_between b past starts)
into_bricks b past starts x i low high =
    into_filter (λ y. leb b (y / 4096) && ltb (y / 4096) past) starts x i
    (rw (le-leb b (x / 4096) low, lt-ltb (x / 4096) past high) refl)

-- fewer bricks are left, too
abbrev pub less_left : (h : HeapView) (bricks : BricksView) (b past end : ℕ) → end ≤ past → AreLeft h bricks b past
    → AreLeft h bricks b end
less_left h bricks b past end le left =
    let fits = left.fits in
    record {
      part = left.part;
      lies = left.lies;
      covered = λ i low high. left.covered i low (omega (arith, high, le));
      tell = λ i low high. left.tell i low (omega (arith, high, le));
      fits = omega (arith, fits, le);
    }

-- so are those from a brick above on
abbrev pub left_above : (h : HeapView) (bricks : BricksView) (b past from : ℕ) → b ≤ from → AreLeft h bricks b past
    → AreLeft h bricks from past
left_above h bricks b past from up left = record {
  part = left.part;
  lies = left.lies;
  covered = λ i low high. left.covered i (omega (arith, low, up)) high;
  tell = λ i low high. left.tell i (omega (arith, low, up)) high;
  fits = left.fits;
}

-- what is left starts in the bricks from one on, where no entry below it names a root
pub skipped : (h : HeapView) (bricks : BricksView) (b past from : ℕ) → b ≤ from → from ≤ past
    → ((i : ℕ) → b ≤ i → i < from → root_number (entry_at bricks i) ≡ 0) → (left : AreLeft h bricks b past)
    → starts_between from past (plug_starts left.part.plugs) ≡ starts_between b past (plug_starts left.part.plugs)
skipped h bricks b past from up within none left =
    let starts = plug_starts left.part.plugs in
    let n : b + (from - b) ≡ from = omega (arith, up) in
    let P : ℕ → Type 0 = λ m. starts_between b past starts ≡ starts_between m past starts in
    sym (subst P n
    (skip_bricks left.part.low (from - b) b past starts left.lies.spaced (omega (arith, up, within))
    (λ i low high.
    brick_empty (word_of h) starts i (entry_at bricks i) (left.tell i low (omega (arith, high, up, within)))
    (none i low (omega (arith, high, up))))))

-- those of the next bricks can be read
pub can_read : (h : HeapView) (bricks : BricksView) (b past end : ℕ) → IsHeap h → (left : AreLeft h bricks b past)
    → b ≤ past → end ≤ b + 4 → end ≤ past
    → CanReadAll h (b * 4096) left.part.segment (starts_between b end (plug_starts left.part.plugs))
can_read h bricks b past end heap left some few within =
    let starts = plug_starts left.part.plugs in
    let fits = left.fits in
    let there : (x : ℕ) → IsIn x (starts_between b end starts) → IsIn x starts × ((b ≤ x / 4096) × (x / 4096 < end)) =
    in_bricks b end starts in
    record {
      even = omega arith;
      low = λ x i. let m = (there x i).1.0 in omega (arith, m);
      high = λ x i. let m = (there x i).1.1 in omega (arith, m, few);
      aligned = λ x i. (left.lies.places x (there x i).0).aligned;
      words = λ x i. plug_words h left.part heap left.lies x (there x i).0;
      spaced = spaced_from left.part.low (b * 4096) (starts_between b end starts)
          (spaced_filter (λ y. leb b (y / 4096) && ltb (y / 4096) end) left.part.low starts left.lies.spaced)
          (λ x i. let m = (there x i).1.0 in omega (arith, m));
      fits = omega (arith, fits, some);
    }

-- ---- spaced places are told by their members

pub spaced_same : (a b : ℕ) (xs ys : List ℕ) → AreSpaced a xs → AreSpaced b ys
    → ((x : ℕ) → IsIn x xs → IsIn x ys) → ((x : ℕ) → IsIn x ys → IsIn x xs) → xs ≡ ys
spaced_same a b [] [] s t to from = refl
spaced_same a b [] (y ∷ ys) s t to from = elim (from y first) [ ]
spaced_same a b (x ∷ xs) [] s t to from = elim (to x first) [ ]
spaced_same a b (x ∷ xs) (y ∷ ys) s t to from =
    let up = spaced-above x (x ∷ xs) (omega arith, s.1) y (from y first) in
    let down = spaced-above y (y ∷ ys) (omega arith, t.1) x (to x first) in
    let same : x ≡ y = omega (arith, up, down) in
    let rest : xs ≡ ys = spaced_same (x + 24) (y + 24) xs ys s.1 t.1
    (λ z i. elim (in_cons (to z (later i))) [
      | inl e ↦ let far = spaced-above (x + 24) xs s.1 z i in absurd (omega (arith, far, e, same))
      | inr more ↦ more
    ])
    (λ z i. elim (in_cons (from z (later i))) [
      | inl e ↦ let far = spaced-above (y + 24) ys t.1 z i in absurd (omega (arith, far, e, same))
      | inr more ↦ more
    ]) in
    λ i. same i ∷ rest i

spaced-moved : (base low : ℕ) (xs : List ℕ) → AreSpaced low xs → AreSpaced (base + low) (places_from base xs)
spaced-moved base low [] s = tt
spaced-moved base low (x ∷ xs) s =
    let h = s.0 in
    let more = spaced-moved base (x + 24) xs s.1 in
    let P : ℕ → Type 0 = λ n. AreSpaced n (places_from base xs) in
    (omega (arith, h), subst P (omega arith) more)

-- ---- what was found is listed

module _ (h : HeapView) (base segment : ℕ) (starts : List ℕ) (can : CanReadAll h base segment starts) (bits : List ℕ)
    (found : HaveFound starts base bits) where
  pub found_apart : AreApart bits
  found_apart i j less a b =
      elim (spaced-apart base starts can.spaced (base + 8 * i) (base + 8 * j) (found.sound i a) (found.sound j b)) [
        | inl e ↦ absurd (omega (arith, e, less))
        | inr apart ↦ elim apart [ inl up ↦ omega (arith, up) | inr down ↦ absurd (omega (arith, down, less)) ]
      ]

  pub listed_all : (offsets : List ℕ) → AreListed bits 2048 offsets → places_from base offsets ≡ starts
  listed_all offsets listed =
      let even = can.even in
      spaced_same (base + 0) base (places_from base offsets) starts (spaced-moved base 0 offsets listed.spaced)
      can.spaced
      (λ x i.
      let (o, is, there) = from-map (λ (o : ℕ). base + o) x offsets i in
      let e = listed.each o there in
      let z = e.0 in
      let P : ℕ → Type 0 = λ n. IsIn n starts in
      subst P (omega (arith, z, is)) (found.sound (o / 8) e.1.1))
      (λ x i.
      let low = can.low x i in
      let high = can.high x i in
      let z = can.aligned x i in
      let there = listed.all ((x - base) / 8) (omega (arith, low, high)) (found.full x i) in
      let P : ℕ → Type 0 = λ n. IsIn n (places_from base offsets) in
      subst P (omega (arith, low, z, even)) (IsIn-map (λ (o : ℕ). base + o) there))

-- where no word has an offset, no plug starts
pub none_found : (starts : List ℕ) (base k : ℕ) → HaveFound starts base (replicate k 0) → [] ≡ starts
none_found [] base k found = refl
none_found (x ∷ xs) base k found =
    absurd (let bad : true ≡ false = sym (found.full x first) ∙ none_set k ((x - base) / 8) in cc)

-- what a cursor is still to give stays where it reads the plugs of some bricks
pub loaded : (at_hand : List ℕ) (brick past end : ℕ) (offsets : List ℕ) → at_hand ≡ [] → brick ≤ end → end ≤ past
    → (h : HeapView) (part : PlannedPart) → IsPart h part
    → places_from (brick * 4096) offsets ≡ starts_between brick end (plug_starts part.plugs)
    → ahead (record { at_hand = places_from (brick * 4096) (drop 0 offsets); brick = end; past = past })
    (plug_starts part.plugs)
    ≡ ahead (record { at_hand = at_hand; brick = brick; past = past }) (plug_starts part.plugs)
loaded at_hand brick past end offsets none le within h part lies all =
    let starts = plug_starts part.plugs in
    let n : brick + (end - brick) ≡ end = omega (arith, le) in
    let P : ℕ → Type 0 = λ m. starts_between brick past starts
    ≡ starts_between brick m starts ++ starts_between m past starts in
    let split : starts_between brick past starts ≡ starts_between brick end starts ++ starts_between end past starts =
    subst P n (split_bricks part.low (end - brick) brick past starts lies.spaced (omega (arith, le, within))) in
    ap (λ (xs : List ℕ). xs ++ starts_between end past starts) all
    ∙ sym split
    ∙ ap (λ (xs : List ℕ). xs ++ starts_between brick past starts) (sym none)
