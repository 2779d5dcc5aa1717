-- Behind the start of a part's last plug the marked items go as far as the plug.
use Rattle.std.proofs.Common.{◌≡◌, ◌⊎◌, inl, inr, ℕ, ◌+◌, ◌%◌, ◌<◌, ◌≤◌, List, [], ◌∷◌}
use Rattle.std.proofs.Common.{filter, refl, sym, ap, subst, ◌∙◌, arith, Bool, true, false, not}
use Rattle.std.proofs.Common.{if◌then◌else◌}
use Rattle.std.proofs.lemmas.Bool.{and_from, and_parts, cases_eq, cases_lt}
use Rattle.clr_types.specs.Rising.{first, IsIn, IsRisingBy, later}
use Rattle.clr_types.specs.Types.{TypeRow}
use Rattle.clr_types.specs.declared.item.Item.{Item}
use Rattle.clr_types.proofs.ChangedLists.{all_members, append_left, into_filter, IsIn-map, out_of_filter}
use Rattle.clr_types.proofs.ListMembers.{append_right, from-map, rising_same}
use Rattle.clr_types.proofs.RisingLists.{all_at}
use Rattle.clr_heap.specs.Parts.{item_at, parts}
use Rattle.clr_heap.specs.View.{CanWalk, HeapView, items_between, last_of, SameShape, sight, word_of}
use Rattle.clr_heap.proofs.Spelling.{place-item_at}
use Rattle.clr_view.specs.Marks.{has_mark}
use Rattle.clr_view.specs.View.{is_free, is_object}
use Rattle.clr_view.proofs.Items.{AreStacked, IsItem, items-are, items-stacked, stacked-apart, stacked-rise}
use Rattle.clr_model.specs.Compaction.{joined, joins, Plug, plug_end, plug_of, plugs_of}
use Rattle.clr_model.specs.Sweep.{Survivor}
use Rattle.clr_model.proofs.PlugsOf.{AreJoined, joins-true, longer, plugs-all, survivor_end}
use Rattle.clr_sweep.specs.SweptItems.{stays}
use Rattle.clr_moves.specs.Told.{IsMarkedRun}
use Rattle.clr_plan.specs.Scans.{CanScan, survivor_in, survivors_between}
use Rattle.clr_plan.proofs.BehindTheWalk.{items-same, scans-on}
use Rattle.clr_plan.proofs.Scanning.{at_item}
use Rattle.clr_plan.proofs.SplitScans.{IsSplit, scan-split}

-- ---- a plug is covered by survivors, and each survivor lies in a plug

-- each place of the plug belongs to a survivor that lies in it
abbrev pub IsCovered : List Survivor → Plug → Type 0
IsCovered ks p = (x : ℕ) → p.start ≤ x → x < plug_end p → (k : Survivor) × IsIn k ks × (k.place ≤ x)
    × (x < survivor_end k) × (p.start ≤ k.place) × (survivor_end k ≤ plug_end p)

covered-one : (ks : List Survivor) (k : Survivor) → IsIn k ks → IsCovered ks (plug_of k)
covered-one ks k i x low high = (k, i, low, high, omega arith, omega arith)

covered-longer : (ks : List Survivor) (k : Survivor) (p : Plug) → IsIn k ks → IsCovered ks p → AreJoined k p
    → IsCovered ks (longer k p)
covered-longer ks k p i c j x low high =
    let touch = j.touch in
    elim (cases_lt x (survivor_end k)) [
      | inl u ↦ (k, i, low, u, omega arith, omega (arith, touch))
      | inr u ↦ let (l, m, a, b, d, f) = c x (omega (arith, touch, u)) (omega (arith, touch, high)) in
          (l, m, a, b, omega (arith, touch, d), omega (arith, touch, f))
    ]

pub plugs-covered : (ks : List Survivor) (p : Plug) → IsIn p (plugs_of ks) → IsCovered ks p
plugs-covered ks p i = all_at (IsCovered ks) i (plugs-all (λ k. IsIn k ks) (IsCovered ks) (covered-one ks)
    (covered-longer ks) ks (all_members (λ k. IsIn k ks) ks (λ k j. j)))

-- the plug in which a survivor lies
pub record HasPlugOf (ps : List Plug) (k : Survivor) : Type 0 where
  pub plug : Plug
  pub known : IsIn plug ps
  pub low : plug.start ≤ k.place
  pub high : survivor_end k ≤ plug_end plug

plug-in-joined : (k : Survivor) (ps : List Plug) (l : Survivor) → HasPlugOf ps l → HasPlugOf (joined k ps) l
plug-in-joined k [] l r = elim r.known [ ]
plug-in-joined k (p ∷ ps) l r = go (joins k p) refl r.plug r.known r.low r.high
  where
    go : (b : Bool) → joins k p ≡ b → (q : Plug) → IsIn q (p ∷ ps) → q.start ≤ l.place → survivor_end l ≤ plug_end q
        → HasPlugOf (if b then longer k p ∷ ps else plug_of k ∷ (p ∷ ps)) l
    go false e q i low high = record { plug = q; known = later i; low = low; high = high }
    go true e q first low high = let touch = (joins-true k p e).touch in
        record { plug = longer k p; known = first; low = omega (arith, touch, low); high = omega (arith, touch, high) }
    go true e q (later i) low high = record { plug = q; known = later i; low = low; high = high }

plug-of-joined : (k : Survivor) (ps : List Plug) → HasPlugOf (joined k ps) k
plug-of-joined k [] = record { plug = plug_of k; known = first; low = omega arith; high = omega arith }
plug-of-joined k (p ∷ ps) = go (joins k p) refl
  where
    go : (b : Bool) → joins k p ≡ b → HasPlugOf (if b then longer k p ∷ ps else plug_of k ∷ (p ∷ ps)) k
    go false e = record { plug = plug_of k; known = first; low = omega arith; high = omega arith }
    go true e = record { plug = longer k p; known = first; low = omega arith; high = omega arith }

pub plug-of-survivor : (ks : List Survivor) (k : Survivor) → IsIn k ks → HasPlugOf (plugs_of ks) k
plug-of-survivor [] k i = elim i [ ]
plug-of-survivor (l ∷ ks) k first = plug-of-joined k (plugs_of ks)
plug-of-survivor (l ∷ ks) k (later i) = plug-in-joined l (plugs_of ks) k (plug-of-survivor ks k i)

-- ---- the last plug of a part

module _ (rows : List TypeRow) (old now : HeapView) (t p c : ℕ) (scan : CanScan rows old t p c)
    (end : c ≡ last_of old t) (q : Plug) (low : p ≤ q.start) (high : plug_end q ≤ c) (z : q.start % 8 ≡ 0)
    (y : plug_end q % 8 ≡ 0) (size : 24 ≤ q.size)
    (covered : IsCovered (survivors_between rows old t p c) q)
    (none : (k : Survivor) → IsIn k (survivors_between rows old t p c) → plug_end q ≤ k.place → ⊥)
    (shape : SameShape old now) (ahead : (b : ℕ) → b % 8 ≡ 0 → q.start ≤ b + 8 → b + 8 < c → word_of now b
    ≡ word_of old b)
    (heads : (i : Item) → IsIn i (items_between (sight rows old t) p c) → is_free i ≡ true
    → has_mark (word_of old i.place) ≡ false)
  where
    abbrev items : List Item
    items = items_between (sight rows old t) p c

    stacked : AreStacked items
    stacked = items-stacked (sight rows old t) (parts c (sight rows old t) p c) p c scan.walk.start scan.walk.spelled

    is-item : (i : Item) → IsIn i items → IsItem rows p c i
    is-item i n = all_at (IsItem rows p c) n (items-are (sight rows old t) (parts c (sight rows old t) p c) p c
        scan.walk.start scan.walk.spelled)

    rising : IsRisingBy (λ (i : Item). i.place) items
    rising = stacked-rise items (all_members (λ (i : Item). 24 ≤ i.size) items (λ i n. (is-item i n).least)) stacked

    -- the item of a survivor
    item-of : (k : Survivor) → IsIn k (survivors_between rows old t p c) → (i : Item) × IsIn i items
        × (i.place ≡ k.place) × (i.size ≡ k.size) × (stays (word_of old) i ≡ true)
    item-of k n =
        let (i, same, m) = from-map (survivor_in old t) k (filter (stays (word_of old)) items) n in
        let (on, l) = out_of_filter (stays (word_of old)) i items m in
        (i, l, sym (ap (λ (v : Survivor). v.place) same), sym (ap (λ (v : Survivor). v.size) same), on)

    -- two items at places that one covers are one
    meets : (i j : Item) → IsIn i items → IsIn j items → j.place ≤ i.place → i.place < j.place + j.size → i ≡ j
    meets i j n m a b = elim (cases_eq i.place j.place) [
      | inl e ↦ rising_same (λ (w : Item). w.place) items i j rising n m e
      | inr ne ↦ elim (stacked-apart items i j stacked n m ne) [
        | inl l ↦ absurd (let s = (is-item i n).least in omega (arith, l, a, s))
        | inr l ↦ absurd (omega (arith, l, b))
      ]
    ]

    -- no item crosses the plug's start or its end
    whole-start : (i : Item) → IsIn i items → (q.start ≤ i.place) ⊎ (i.place + i.size ≤ q.start)
    whole-start i n = elim (cases_lt i.place q.start) [
      | inr l ↦ inl l
      | inl l ↦ elim (cases_lt q.start (i.place + i.size)) [
        | inr u ↦ inr u
        | inl u ↦
            let (k, m, a, b, d, f) = covered q.start (omega arith) (omega (arith, size)) in
            let (j, jn, jp, js, on) = item-of k m in
            elim (stacked-apart items i j stacked n jn (λ e. absurd (omega (arith, e, jp, d, l)))) [
              | inl v ↦ absurd (omega (arith, v, jp, a, u))
              | inr v ↦ absurd (omega (arith, v, jp, js, b, l))
            ]
      ]
    ]

    whole-end : (i : Item) → IsIn i items → (plug_end q ≤ i.place) ⊎ (i.place + i.size ≤ plug_end q)
    whole-end i n = elim (cases_lt i.place (plug_end q)) [
      | inr l ↦ inl l
      | inl l ↦ elim (cases_lt (plug_end q) (i.place + i.size)) [
        | inr u ↦ inr u
        | inl u ↦ absurd (go (cases_lt i.place q.start) l u)
      ]
    ]
      where
        go : (i.place < q.start) ⊎ (q.start ≤ i.place) → i.place < plug_end q → plug_end q < i.place + i.size → ⊥
        go (inl v) l u = elim (whole-start i n) [ inl w ↦ omega (arith, v, w) | inr w ↦ omega (arith, w, u, size) ]
        go (inr v) l u =
            let (k, m, a, b, d, f) = covered i.place v l in
            let (j, jn, jp, js, on) = item-of k m in
            let same : i ≡ j = meets i j n jn (omega (arith, jp, a)) (omega (arith, jp, js, b)) in
            let place = ap (λ (w : Item). w.place) same in
            let sized = ap (λ (w : Item). w.size) same in
            omega (arith, place, sized, jp, js, f, u)

    -- ---- in two cuts

    cut : IsSplit rows old t p q.start c
    cut = scan-split rows old t p q.start c scan z low (omega (arith, high, size)) whole-start

    cut-end : IsSplit rows old t q.start (plug_end q) c
    cut-end = scan-split rows old t q.start (plug_end q) c cut.above y (omega arith) high
        (λ i n. whole-end i (subst (IsIn i) (sym cut.items) (append_right (items_between (sight rows old t) p q.start)
        n)))

    in-plug : (i : Item) → IsIn i (items_between (sight rows old t) q.start (plug_end q)) → IsIn i items
    in-plug i n = subst (IsIn i) (sym cut.items) (append_right (items_between (sight rows old t) p q.start)
        (subst (IsIn i) (sym cut-end.items) (append_left (items_between (sight rows old t) (plug_end q) c) n)))

    plug-item : (i : Item) → IsIn i (items_between (sight rows old t) q.start (plug_end q))
        → IsItem rows q.start (plug_end q) i
    plug-item i n = all_at (IsItem rows q.start (plug_end q)) n
        (items-are (sight rows old t) (parts (plug_end q) (sight rows old t) q.start (plug_end q)) q.start (plug_end q)
        cut-end.below.walk.start cut-end.below.walk.spelled)

    -- the plug's items are marked
    marked : (i : Item) → IsIn i (items_between (sight rows old t) q.start (plug_end q))
        → has_mark (word_of old i.place) ≡ true
    marked i n =
        let is = plug-item i n in
        let a0 = is.above in
        let b0 = is.below in
        let s0 = is.least in
        let (k, m, a, b, d, f) = covered i.place a0 (omega (arith, b0, s0)) in
        let (j, jn, jp, js, on) = item-of k m in
        let same : i ≡ j = meets i j (in-plug i n) jn (omega (arith, jp, a)) (omega (arith, jp, js, b)) in
        subst (λ (w : Item). has_mark (word_of old w.place) ≡ true) (sym same)
        (and_parts (is_object j) (has_mark (word_of old j.place)) on).1

    -- what stands behind it isn't
    behind : plug_end q < c → has_mark (word_of old (plug_end q)) ≡ false
    behind l =
        let step = at_item rows old t (plug_end q) c cut-end.above l in
        let i : Item = item_at rows (word_of old) (plug_end q) in
        let known : IsIn i items = subst (IsIn i) (sym cut.items)
        (append_right (items_between (sight rows old t) p q.start)
        (subst (IsIn i) (sym cut-end.items) (append_right (items_between (sight rows old t) q.start (plug_end q))
        (subst (IsIn i) (sym step.items) first)))) in
        go i known (place-item_at rows (word_of old) (plug_end q)) (is_object i) (has_mark (word_of old (plug_end q)))
        refl refl
      where
        go : (i : Item) → IsIn i items → i.place ≡ plug_end q → (a b : Bool) → is_object i ≡ a
            → has_mark (word_of old (plug_end q)) ≡ b → b ≡ false
        go i n at a false is mark = refl
        go i n at true true is mark =
            let on : stays (word_of old) i ≡ true = and_from (is_object i) (has_mark (word_of old i.place)) is
            (ap (λ x. has_mark (word_of old x)) at ∙ mark) in
            let m : IsIn (survivor_in old t i) (survivors_between rows old t p c) = IsIn-map (survivor_in old t)
            (into_filter (stays (word_of old)) items on n) in
            absurd (none (survivor_in old t i) m (omega (arith, at)))
        go i n at false true is mark =
            let free : is_free i ≡ true = not-object is in
            let off = heads i n free in
            sym mark ∙ sym (ap (λ x. has_mark (word_of old x)) at) ∙ off
          where
            not-object : is_object i ≡ false → is_free i ≡ true
            not-object e = flip (is_free i) e
              where
                flip : (b : Bool) → not b ≡ false → b ≡ true
                flip true e = refl
                flip false e = absurd cc

    -- THE RUN of marked items from the plug's start on
    pub last-run : IsMarkedRun rows now t q.start (plug_end q)
    last-run =
        let from_q = scans-on rows old now t q.start c shape (λ b w l u. ahead b w l u) cut.above in
        let inside = scans-on rows old now t q.start (plug_end q) shape
        (λ b w l u. ahead b w l (omega (arith, u, high))) cut-end.below in
        let items_are = items-same rows old now t q.start (plug_end q) shape
        (λ b w l u. ahead b w l (omega (arith, u, high))) cut-end.below in
        let last : c ≡ last_of now t = end ∙ sym (ap (λ (h : HeapView). last_of h t) shape.others) in
        let most = from_q.high in
        record {
          walk = subst (λ n. CanWalk (sight rows now t) now.memories q.start n) last from_q.walk;
          index = λ b l u. from_q.index b l (omega (arith, u, last));
          none = from_q.none;
          high = omega (arith, most, last);
          run = inside.walk;
          ends = omega (arith, high, last);
          marked = λ i n. (let m = subst (IsIn i) items_are n in let is = plug-item i m in let a = is.above in
              let b = is.below in let s = is.least in
              ap has_mark (ahead i.place is.aligned (omega (arith, a)) (omega (arith, b, s, high))) ∙ marked i m);
          stops = elim (cases_lt (plug_end q) c) [
            | inl l ↦ inr (let step = at_item rows old t (plug_end q) c cut-end.above l in let s = step.least in
                let w = step.within in ap has_mark (ahead (plug_end q) y (omega (arith, size)) (omega (arith, s, w)))
                ∙ behind l)
            | inr l ↦ inl (omega (arith, l, high, last))
          ];
        }
