-- The plugs of a machine's survivors are those of the heap's parts, one after the other.
use Rattle.std.proofs.lemmas.List.{append-nil}
use Rattle.std.proofs.Common.{◌≡◌, ◌≢◌, ℕ, zero, suc, ◌+◌, ◌-◌, ◌<◌, ◌≤◌, ◌⊎◌, inl, inr, List, [], ◌++◌, map, filter}
use Rattle.std.proofs.Common.{length, refl, sym, ap, ap₂, subst, ◌∙◌, arith, Bool, true, false, ◌&&◌, ◌==◌, nat_le}
use Rattle.std.proofs.Common.{nat_lt, if◌then◌else◌, append_assoc}
use Rattle.std.proofs.lemmas.Bool.{and_right, cases_lt, cases_order, cases_Bool, eqb-true, eq-eqb, le-leb}
use Rattle.std.proofs.lemmas.Bool.{leb-true, ne_eqb}
use Rattle.std.proofs.lemmas.List.{map-append}
use Rattle.std.proofs.lemmas.List.Elements.{filter-append}
use Rattle.clr_types.specs.Rising.{IsIn}
use Rattle.clr_types.specs.Types.{TypeRow}
use Rattle.clr_types.specs.Segments.{empty_segment, ephemeral, generation, is_small_or_ephemeral, Layout, reserved_end}
use Rattle.clr_types.specs.Segments.{stands_in}
use Rattle.clr_types.specs.declared.item.Item.{Item}
use Rattle.clr_types.specs.declared.segment.SegInfo.{SegInfo}
use Rattle.clr_types.proofs.ChangedLists.{all_members}
use Rattle.clr_types.proofs.HighestSegment.{ephemeral-highest}
use Rattle.clr_types.proofs.ListMembers.{filter-on, in_append}
use Rattle.clr_types.proofs.RisingLists.{all_at}
use Rattle.clr_types.proofs.SegmentFacts.{between-stands, elsewhere, ephemeral-in}
use Rattle.clr_heap.specs.Parts.{parts}
use Rattle.clr_heap.specs.View.{first_of, HeapView, IsHeap, last_of, listing, listings, no_rests}
use Rattle.clr_heap.specs.View.{segment_at, sight, word_of}
use Rattle.clr_heap.proofs.Framing.{lawful_at}
use Rattle.clr_heap.proofs.Staying.{segment_order}
use Rattle.clr_model.specs.Lawful.{IsLaid}
use Rattle.clr_model.specs.Machine.{Machine}
use Rattle.clr_model.specs.Sweep.{part_start, Survivor, survivors}
use Rattle.clr_model.specs.Compaction.{Plug, plugs_of, survivors_in}
use Rattle.clr_model.proofs.PlugsOf.{plugs-all}
use Rattle.clr_view.specs.View.{IsHeld, layout_in}
use Rattle.clr_view.proofs.Items.{IsItem, items-are}
use Rattle.clr_view.proofs.Listings.{heap-cut, listing-are}
use Rattle.clr_view.specs.Memory.{TestsMarks}
use Rattle.clr_sweep.specs.SweptItems.{stays}
use Rattle.clr_sweep.proofs.SurvivorsSwept.{at-in, seen}
use Rattle.clr_plan.specs.Pinned.{TellsPins}
use Rattle.clr_plan.specs.Plans.{condemned_plugs, old_part, older_plugs, small_plugs, young_plugs}
use Rattle.clr_plan.specs.Scans.{survivor_in, survivors_between}
use Rattle.clr_plan.proofs.AppendedPlugs.{plugs-append, shares}
use Rattle.clr_plan.proofs.Beginning.{kind-small}
use Rattle.clr_plan.proofs.ChosenPlugs.{apart-segments, bases-differ, between-of, between-segment, chosen-plugs}
use Rattle.clr_plan.proofs.ChosenPlugs.{survivor-home, survivors_at, survivors_from}
use Rattle.clr_plan.proofs.Scanning.{survivors-done}
use Rattle.clr_plan.proofs.HeapSurvivors.{of_item, survives, survivors-are, segment-survivors}
use Rattle.clr_plan.proofs.Pins.{agree}
use Rattle.clr_plan.proofs.YoungParts.{and-true, and-false, at-young, filter-none, kind-is, old-age, start-at}
use Rattle.clr_plan.proofs.YoungParts.{start-facts, young-age, young-survivors}

-- the survivors of segment k, where it isn't large, and those of n segments from segment k on
abbrev segment_survivors : List TypeRow → HeapView → ℕ → List Survivor
segment_survivors rows h k = survivors_at is_small_or_ephemeral rows h k

abbrev small_survivors : List TypeRow → HeapView → ℕ → ℕ → List Survivor
small_survivors rows h k n = survivors_from is_small_or_ephemeral rows h k n

module _ (rows : List TypeRow) (h : HeapView) (base : Machine) (heap : IsHeap h) (held : IsHeld rows h) (none : h.rests
    ≡ no_rests) (laid : IsLaid (seen rows h base)) (g : ℕ) (least : g ≤ 2) (keep : ℕ → Bool)
    (tests : TestsMarks rows h g keep) (pins : TellsPins rows h base)
    (e : ℕ) (inside : e < length h.segments) (young : segment_at h e ≡ ephemeral (layout_in rows h))
  where
    abbrev m : Machine
    m = seen rows h base

    abbrev layout : Layout
    layout = layout_in rows h

    abbrev start : ℕ
    start = part_start layout g (segment_at h e)

    abbrev found : List Item → List Survivor
    found is = map (of_item rows h base heap held laid g keep tests pins is_small_or_ephemeral)
        (filter (survives rows h base heap held laid g keep tests pins is_small_or_ephemeral) is)

    found-append : (xs ys : List Item) → found (xs ++ ys) ≡ found xs ++ found ys
    found-append xs ys =
        ap (map (of_item rows h base heap held laid g keep tests pins is_small_or_ephemeral))
        (filter-append (survives rows h base heap held laid g keep tests pins is_small_or_ephemeral) xs ys)
        ∙ map-append (of_item rows h base heap held laid g keep tests pins is_small_or_ephemeral)
        (filter (survives rows h base heap held laid g keep tests pins is_small_or_ephemeral) xs)
        (filter (survives rows h base heap held laid g keep tests pins is_small_or_ephemeral) ys)

    -- ---- segments below and above the ephemeral one

    abbrev stays_in : ℕ → Item → Bool
    stays_in k i = stays (word_of h) i && (nat_le (generation layout i.place) g && is_small_or_ephemeral
        (segment_at h k).kind)

    -- outside the ephemeral segment all is of generation 2
    old-items : (k : ℕ) → k < length h.segments → k ≢ e → (i : Item) → IsIn i (listing rows h k)
        → generation layout i.place ≡ 2
    old-items k l ne i n =
        let is : IsItem rows (first_of h k) (last_of h k) i = all_at (IsItem rows (first_of h k) (last_of h k)) n
        (listing-are rows h held.walkable k l) in
        let above = is.above in
        let under = is.below in
        let size = is.least in
        let high = (lawful_at h k heap l).high in
        let stands : stands_in (segment_at h k) i.place ≡ true = between-stands (segment_at h k) i.place above
        (omega arith) in
        let out : stands_in (ephemeral layout) i.place ≡ false =
        elsewhere layout laid.layout (ephemeral layout) (segment_at h k) i.place (ephemeral-in layout laid.layout)
        (at-in h.segments k empty_segment l) (λ same. differ same) stands in
        ap (λ b. if b then (if nat_lt i.place h.start1 then 2 else (if nat_lt i.place h.start0 then 1 else 0)) else 2)
        out
      where
        differ : (ephemeral layout).base ≡ (segment_at h k).base → ⊥
        differ same = go (cases_order k e)
          where
            at_e : (segment_at h e).base ≡ (segment_at h k).base
            at_e = ap (λ (s : SegInfo). s.base) young ∙ same

            go : (k ≡ e) ⊎ ((k < e) ⊎ (e < k)) → ⊥
            go (inl q) = ne q
            go (inr (inl b)) = bases-differ h heap k e b inside (sym at_e)
            go (inr (inr b)) = bases-differ h heap e k b l at_e

    one-segment : (k : ℕ) → k < length h.segments → k ≢ e → found (listing rows h k)
        ≡ (if g == 2 then segment_survivors rows h k else [])
    one-segment k l ne =
        segment-survivors rows h base heap held laid g keep tests pins is_small_or_ephemeral k l
        ∙ ap (map (survivor_in h k)) (filter-on (stays_in k) (λ i. stays (word_of h) i
        && ((g == 2) && is_small_or_ephemeral (segment_at h k).kind)) (listing rows h k)
        (λ i n. ap (λ b. stays (word_of h) i && (b && is_small_or_ephemeral (segment_at h k).kind))
        (ap (λ a. nat_le a g) (old-items k l ne i n) ∙ two)))
        ∙ go (g == 2) (is_small_or_ephemeral (segment_at h k).kind)
      where
        two : nat_le 2 g ≡ (g == 2)
        two = agree (nat_le 2 g) (g == 2) (λ t. let a : 2 ≤ g = leb-true 2 g t in eq-eqb g 2 (omega arith))
            (λ t. let a : g ≡ 2 = eqb-true g 2 t in le-leb 2 g (omega arith))

        go : (a b : Bool) → map (survivor_in h k) (filter (λ i. stays (word_of h) i && (a && b)) (listing rows h k))
            ≡ (if a then (if b then survivors_between rows h k (first_of h k) (last_of h k) else []) else [])
        go true true = ap (map (survivor_in h k)) (filter-on (λ i. stays (word_of h) i && true) (stays (word_of h))
            (listing rows h k) (λ i n. and-true (stays (word_of h) i)))
        go true false = ap (map (survivor_in h k)) (filter-none (λ i. stays (word_of h) i && false) (listing rows h k)
            (λ i n. and-false (stays (word_of h) i)))
        go false b = ap (map (survivor_in h k)) (filter-none (λ i. stays (word_of h) i && false) (listing rows h k)
            (λ i n. and-false (stays (word_of h) i)))

    low-segments : (k n : ℕ) → k + n ≤ e → found (listings rows h k n)
        ≡ (if g == 2 then small_survivors rows h k n else [])
    low-segments k zero l = go (g == 2)
      where
        go : (b : Bool) → ◌≡◌ {A = List Survivor} [] (if b then [] else [])
        go true = refl
        go false = refl
    low-segments k (suc n) l =
        found-append (listing rows h k) (listings rows h (k + 1) n)
        ∙ ap₂ (λ (xs ys : List Survivor). xs ++ ys) (one-segment k (omega arith) (λ q. absurd (omega arith)))
        (low-segments (k + 1) n (omega arith))
        ∙ go (g == 2)
      where
        go : (b : Bool) → (if b then segment_survivors rows h k else [])
            ++ (if b then small_survivors rows h (k + 1) n else []) ≡ (if b then segment_survivors rows h k
            ++ small_survivors rows h (k + 1) n else [])
        go true = refl
        go false = refl

    -- no small segment lies above the ephemeral one
    pub last-small : (k : ℕ) → k < length h.segments → is_small_or_ephemeral (segment_at h k).kind ≡ true → k ≤ e
    last-small k l small = go (cases_lt e k)
      where
        by : e < k → (segment_at h k ≡ ephemeral layout) ⊎ (reserved_end (segment_at h k) ≤ (ephemeral layout).base)
            → k ≤ e
        by b (inl same) = absurd (bases-differ h heap e k b l (ap (λ (s : SegInfo). s.base) (young ∙ sym same)))
        by b (inr under) =
            let o : reserved_end (segment_at h e) ≤ (segment_at h k).base = segment_order h e k heap b l in
            let at : (segment_at h e).base ≡ (ephemeral layout).base = ap (λ (s : SegInfo). s.base) young in
            let r : 262144 ≤ (segment_at h k).reserved = (lawful_at h k heap l).least in
            absurd (omega arith)

        go : (e < k) ⊎ (k ≤ e) → k ≤ e
        go (inr under) = under
        go (inl b) = by b (ephemeral-highest layout laid.layout (segment_at h k) (at-in h.segments k empty_segment l)
            small)

    large-above : (k : ℕ) → e < k → k < length h.segments → is_small_or_ephemeral (segment_at h k).kind ≡ false
    large-above k b l = elim (cases_Bool (is_small_or_ephemeral (segment_at h k).kind))
        [ inl on ↦ (let u = last-small k l on in absurd (omega arith)) | inr off ↦ off ]

    high-segments : (k n : ℕ) → e < k → k + n ≤ length h.segments → found (listings rows h k n) ≡ []
    high-segments k zero b l = refl
    high-segments k (suc n) b l =
        found-append (listing rows h k) (listings rows h (k + 1) n)
        ∙ ap₂ (λ (xs ys : List Survivor). xs ++ ys) (one-segment k (omega arith) (λ q. absurd (omega arith))
        ∙ large (g == 2)) (high-segments (k + 1) n (omega arith) (omega arith))
      where
        large : (a : Bool) → (if a then segment_survivors rows h k else []) ≡ []
        large true = ap (λ c. if c then survivors_between rows h k (first_of h k) (last_of h k) else [])
            (large-above k b (omega arith))
        large false = refl

    -- ---- all survivors

    abbrev low_ones : List Survivor
    low_ones = if g == 2 then small_survivors rows h 0 e else []

    abbrev old_ones : List Survivor
    old_ones = survivors_between rows h e start h.start0

    abbrev young_ones : List Survivor
    young_ones = survivors_between rows h e h.start0 (last_of h e)

    small-e : is_small_or_ephemeral (segment_at h e).kind ≡ true
    small-e = kind-small (segment_at h e).kind (kind-is rows h base heap held none laid g least e inside young)

    all-survivors : survivors_in is_small_or_ephemeral layout (survivors m g keep) ≡ (low_ones ++ old_ones)
        ++ young_ones
    all-survivors =
        survivors-are rows h base heap held laid g keep tests pins is_small_or_ephemeral
        ∙ ap found (heap-cut rows h e (length h.segments) inside)
        ∙ found-append (listings rows h 0 e) (listing rows h e ++ listings rows h (e + 1) (length h.segments - (e + 1)))
        ∙ ap (λ xs. found (listings rows h 0 e) ++ xs)
        (found-append (listing rows h e) (listings rows h (e + 1) (length h.segments - (e + 1))))
        ∙ ap₂ (λ (xs ys : List Survivor). xs ++ (ys ++ found (listings rows h (e + 1) (length h.segments - (e + 1)))))
        (low-segments 0 e (omega arith))
        (segment-survivors rows h base heap held laid g keep tests pins is_small_or_ephemeral e inside
        ∙ young-survivors rows h base heap held
        none laid g least e inside young small-e)
        ∙ ap (λ zs. low_ones ++ ((old_ones ++ young_ones) ++ zs)) (high-segments (e + 1) (length h.segments - (e + 1))
        (omega arith) (omega arith))
        ∙ ap (λ ys. low_ones ++ ys) (append-nil (old_ones ++ young_ones))
        ∙ sym (append_assoc low_ones old_ones young_ones)

    -- ---- all plugs

    low-of : (v : Survivor) → IsIn v low_ones → (j : ℕ) × (j < e) × (v.segment ≡ (segment_at h j).base)
    low-of v n = go (g == 2) n
      where
        go : (b : Bool) → IsIn v (if b then small_survivors rows h 0 e else []) → (j : ℕ) × (j < e)
            × (v.segment ≡ (segment_at h j).base)
        go true n = let (j, a, b, s) = survivor-home is_small_or_ephemeral rows h 0 e v n in (j, omega arith, s)
        go false n = elim n [ ]

    low-plugs : plugs_of low_ones ≡ (if g == 2 then small_plugs rows h 0 e else [])
    low-plugs = go (g == 2)
      where
        go : (b : Bool) → plugs_of (if b then small_survivors rows h 0 e else [])
            ≡ (if b then small_plugs rows h 0 e else [])
        go true = chosen-plugs h heap is_small_or_ephemeral rows 0 e (omega arith)
        go false = refl

    -- the survivors of the two parts of the ephemeral segment differ in age
    old-one : (v : Survivor) → IsIn v old_ones → 1 ≤ v.generation
    old-one v a =
        let (i, l, same) = between-of rows h e start h.start0 v a in
        let scan = (at-young rows h base heap held none laid g least e inside young).below in
        let is : IsItem rows start h.start0 i = all_at (IsItem rows start h.start0) l
        (items-are (sight rows h e) (parts h.start0 (sight rows h e) start h.start0) start h.start0 scan.walk.start
        scan.walk.spelled) in
        let above = is.above in let under = is.below in let size = is.least in
        let f = (start-facts rows h base heap held none laid g least e inside young).low in
        let o = old-age rows h base heap held none laid g least e inside young i.place (omega arith) (omega arith) in
        let at : v.generation ≡ generation layout i.place = ap (λ (k : Survivor). k.generation) same in
        omega arith

    young-one : (w : Survivor) → IsIn w young_ones → w.generation ≡ 0
    young-one w b =
        let (i, l, same) = between-of rows h e h.start0 (last_of h e) w b in
        let scan = (at-young rows h base heap held none laid g least e inside young).above in
        let is : IsItem rows h.start0 (last_of h e) i = all_at (IsItem rows h.start0 (last_of h e)) l
        (items-are (sight rows h e) (parts (last_of h e) (sight rows h e) h.start0 (last_of h e)) h.start0
        (last_of h e) scan.walk.start scan.walk.spelled) in
        let above = is.above in let under = is.below in let size = is.least in
        ap (λ (k : Survivor). k.generation) same ∙ young-age rows h base heap held none laid g least e inside young
        i.place above (omega arith)

    ages-apart : (v w : Survivor) → IsIn v old_ones → IsIn w young_ones → shares v w ≡ false
    ages-apart v w a b = and_right (v.segment == w.segment) (v.generation == w.generation)
        (ne_eqb v.generation w.generation (λ q. let o = old-one v a in let n = young-one w b in absurd (omega arith)))

    old-none : (g == 0) ≡ true → old_part rows h g e ≡ []
    old-none z =
        let same : start ≡ h.start0 = start-at rows h base heap held none laid g least e inside young
        ∙ ap (λ b. if b then h.start0 else (if g == 1 then h.start1 else first_of h e)) z in
        ap plugs_of (survivors-done rows h e start h.start0 (at-young rows h base heap held none laid g least e inside
        young).below (omega arith))

    older-are : plugs_of (low_ones ++ old_ones) ≡ older_plugs rows h g e
    older-are =
        plugs-append low_ones old_ones (λ v w a b. let (j, l, s) = low-of v a in apart-segments h heap v w j e l inside
        s (between-segment rows h e start h.start0 w b))
        ∙ ap (λ ps. ps ++ plugs_of old_ones) low-plugs
        ∙ ap (λ ps. (if g == 2 then small_plugs rows h 0 e else []) ++ ps) (old (g == 0) refl)
      where
        old : (b : Bool) → (g == 0) ≡ b → plugs_of old_ones ≡ (if b then [] else old_part rows h g e)
        old true z = old-none z
        old false z = refl

    -- THE PLUGS
    pub plugs-are : plugs_of (survivors_in is_small_or_ephemeral layout (survivors m g keep)) ≡ condemned_plugs rows h g
        e
    plugs-are =
        ap plugs_of all-survivors
        ∙ plugs-append (low_ones ++ old_ones) young_ones (λ v w a b. by w b (in_append low_ones a))
        ∙ ap (λ ps. ps ++ plugs_of young_ones) older-are
      where
        by : {v : Survivor} (w : Survivor) → IsIn w young_ones → IsIn v low_ones ⊎ IsIn v old_ones → shares v w ≡ false
        by {v} w b (inl a) = let (j, l, s) = low-of v a in apart-segments h heap v w j e l inside s
            (between-segment rows h e h.start0 (last_of h e) w b)
        by {v} w b (inr a) = ages-apart v w a b

    -- ---- their ages

    small-ages : (k n : ℕ) → k + n ≤ e → (v : Survivor) → IsIn v (small_survivors rows h k n) → 1 ≤ v.generation
    small-ages k zero l v i = elim i [ ]
    small-ages k (suc n) l v i = go (is_small_or_ephemeral (segment_at h k).kind)
        (in_append (segment_survivors rows h k) i) (small-ages k' n (omega arith) v)
      where
        k' : ℕ
        k' = k + 1

        at : IsIn v (survivors_between rows h k (first_of h k) (last_of h k)) → 1 ≤ v.generation
        at here =
            let (j, m, same) = between-of rows h k (first_of h k) (last_of h k) v here in
            let two = old-items k (omega arith) (λ q. absurd (omega arith)) j m in
            let of : v.generation ≡ generation layout j.place = ap (λ (w : Survivor). w.generation) same in
            omega arith

        go : (b : Bool) → IsIn v (if b then survivors_between rows h k (first_of h k) (last_of h k) else [])
            ⊎ IsIn v (small_survivors rows h (k + 1) n) → (IsIn v (small_survivors rows h (k + 1) n) → 1 ≤ v.generation)
            → 1 ≤ v.generation
        go true (inl here) more = at here
        go false (inl here) more = elim here [ ]
        go b (inr there) more = more there

    pub older-ages : (p : Plug) → IsIn p (older_plugs rows h g e) → 1 ≤ p.generation
    older-ages p i =
        all_at (λ (p : Plug). 1 ≤ p.generation) (subst (IsIn p) (sym older-are) i)
        (plugs-all (λ (v : Survivor). 1 ≤ v.generation) (λ (p : Plug). 1 ≤ p.generation) (λ v l. l) (λ v p l m j. m)
        (low_ones ++ old_ones) (all_members (λ (v : Survivor). 1 ≤ v.generation) (low_ones ++ old_ones)
        (λ v n. by v (in_append low_ones n))))
      where
        low : (v : Survivor) → (b : Bool) → IsIn v (if b then small_survivors rows h 0 e else []) → 1 ≤ v.generation
        low v true n = small-ages 0 e (omega arith) v n
        low v false n = elim n [ ]

        by : (v : Survivor) → IsIn v low_ones ⊎ IsIn v old_ones → 1 ≤ v.generation
        by v (inl a) = low v (g == 2) a
        by v (inr a) = old-one v a

    pub young-ages : (p : Plug) → IsIn p (young_plugs rows h e) → p.generation ≡ 0
    young-ages p i =
        all_at (λ (p : Plug). p.generation ≡ 0) i
        (plugs-all (λ (v : Survivor). v.generation ≡ 0) (λ (p : Plug). p.generation ≡ 0) (λ v l. l) (λ v p l m j. m)
        young_ones (all_members (λ (v : Survivor). v.generation ≡ 0) young_ones young-one))
