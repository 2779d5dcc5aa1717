-- What the marks and the pins of a heap say of the machines whose memory it is.
use Rattle.std.proofs.Common.{◌≡◌, ℕ, suc, ◌+◌, ◌-◌, ◌≤◌, List, [], ◌∷◌, map, filter, length, refl, sym, ap, ◌∙◌}
use Rattle.std.proofs.Common.{arith, Bool, true, false, ◌&&◌, if◌then◌else◌}
use Rattle.std.proofs.lemmas.Bool.{and_from, and_parts}
use Rattle.std.proofs.lemmas.List.{length-map}
use Rattle.clr_types.specs.Rising.{first, IsIn, later}
use Rattle.clr_types.specs.Types.{TypeRow}
use Rattle.clr_types.specs.declared.item.Item.{Item}
use Rattle.clr_types.specs.declared.segment.SegKind.{SegKind}
use Rattle.clr_types.proofs.ChangedLists.{into_filter, IsIn-map}
use Rattle.clr_types.proofs.ListMembers.{filter-map, from-map}
use Rattle.clr_heap.specs.View.{heap_items, HeapView, IsHeap, word_of}
use Rattle.clr_model.specs.Lawful.{IsLaid}
use Rattle.clr_model.specs.Machine.{Machine, Object}
use Rattle.clr_model.specs.Sweep.{is_condemned, Survivor, survivors}
use Rattle.clr_model.specs.Compaction.{joined, joins, Plug, plug_of, plugs_of, survivors_in}
use Rattle.clr_view.specs.Marks.{has_mark}
use Rattle.clr_view.specs.Memory.{is_marked, TestsMarks}
use Rattle.clr_view.specs.View.{IsHeld, is_object, layout_in, object_in, objects_in}
use Rattle.clr_sweep.proofs.SurvivorsSwept.{seen}
use Rattle.clr_plan.specs.Pinned.{TellsPins}
use Rattle.clr_plan.specs.Planned.{pinned_count, pinned_marked}
use Rattle.clr_plan.specs.Scans.{has_pin}
use Rattle.clr_plan.proofs.HeapSurvivors.{is_chosen, of_item, survives, survivors-are}
use Rattle.clr_plan.proofs.RaisingTo.{filter-twice}

-- all machines whose memory it is are laid alike
pub seen-alike : (rows : List TypeRow) (h : HeapView) (m other : Machine) → IsLaid (seen rows h m)
    → IsLaid (seen rows h other)
seen-alike rows h m other laid = record {
  layout = laid.layout;
  housed = laid.housed;
  tiled = laid.tiled;
  whole1 =
      laid.whole1;
  whole0 = laid.whole0;
}

-- the test of names that the marks are
abbrev pub by_mark : HeapView → ℕ → Bool
by_mark h name = has_mark (word_of h name)

pub marks-test : (rows : List TypeRow) (h : HeapView) (g : ℕ) → TestsMarks rows h g (by_mark h)
marks-test rows h g o i aged =
    let (it, same, j) = from-map (object_in rows (word_of h)) o (filter is_object (heap_items rows h)) i in
    ap (λ (x : Object). has_mark (word_of h x.name)) same ∙ sym (ap (λ (x : Object). has_mark (word_of h x.place)) same)

filter-fewer-in : {X : Type 0} (s t : X → Bool) (xs : List X) → ((x : X) → IsIn x xs → s x ≡ true → t x ≡ true)
    → length (filter s xs) ≤ length (filter t xs)
filter-fewer-in s t [] more = omega arith
filter-fewer-in s t (x ∷ xs) more = go (s x) (t x) (more x first) (filter-fewer-in s t xs (λ y i. more y (later i)))
  where
    go : (a b : Bool) → (a ≡ true → b ≡ true) → length (filter s xs) ≤ length (filter t xs)
        → length (if a then x ∷ filter s xs else filter s xs) ≤ length (if b then x ∷ filter t xs else filter t xs)
    go true true m l = omega arith
    go true false m l = let no_way : false ≡ true = m refl in absurd cc
    go false true m l = omega arith
    go false false m l = l

-- as many pinned plugs as pinned survivors at most
few-pinned : (ks : List Survivor) → pinned_count (plugs_of ks) ≤ length (filter (λ (k : Survivor). k.pinned) ks)
few-pinned [] = omega arith
few-pinned (k ∷ ks) = let a = one (plugs_of ks) in let b = few-pinned ks in both k.pinned a b
  where
    pinned-more : (b : Bool) (ps : List Plug) (p : Plug)
        → length (if b then p ∷ filter (λ (q : Plug). q.pinned) ps else filter (λ (q : Plug). q.pinned) ps)
        ≡ (if b then suc (pinned_count ps) else pinned_count ps)
    pinned-more true ps p = refl
    pinned-more false ps p = refl

    at-most : (b : Bool) (n : ℕ) → n ≤ (if b then suc n else n)
    at-most true n = omega arith
    at-most false n = omega arith

    one : (ps : List Plug) → pinned_count (joined k ps) ≤ (if k.pinned then suc (pinned_count ps) else pinned_count ps)
    one [] = let a = pinned-more k.pinned [] (plug_of k) in omega (arith, a)
    one (p ∷ ps) = go (joins k p)
      where
        go : (b : Bool) → pinned_count (if b then record p { start = k.place; size = k.size + p.size } ∷ ps else plug_of
            k ∷ (p ∷ ps)) ≤ (if k.pinned then suc (pinned_count (p ∷ ps)) else pinned_count (p ∷ ps))
        go true =
            let a = pinned-more p.pinned ps (record p { start = k.place; size = k.size + p.size }) in
            let b = pinned-more p.pinned ps p in
            let c = at-most k.pinned (pinned_count (p ∷ ps)) in
            omega (arith, a, b, c)
        go false = let a = pinned-more k.pinned (p ∷ ps) (plug_of k) in omega (arith, a)

    both : (b : Bool) → pinned_count (plugs_of (k ∷ ks)) ≤ (if b then suc (pinned_count (plugs_of ks)) else pinned_count
        (plugs_of ks)) → pinned_count (plugs_of ks) ≤ length (filter (λ (l : Survivor). l.pinned) ks)
        → pinned_count (plugs_of (k ∷ ks)) ≤ length (if b then k ∷ filter (λ (l : Survivor). l.pinned) ks else filter
        (λ (l : Survivor). l.pinned) ks)
    both true a b = omega (arith, a, b)
    both false a b = omega (arith, a, b)

module _ (rows : List TypeRow) (h : HeapView) (base : Machine) (heap : IsHeap h) (held : IsHeld rows h)
    (laid : IsLaid (seen rows h base)) (g : ℕ) (pins : TellsPins rows h base) (chosen : SegKind → Bool) where
  abbrev m : Machine
  m = seen rows h base

  -- AS MANY PINNED PLUGS as objects that are condemned, marked and pinned, at most
  pub pins-marked : pinned_count (plugs_of (survivors_in chosen (layout_in rows h) (survivors m g (by_mark h))))
      ≤ pinned_marked rows h
  pins-marked =
      let a : pinned_count (plugs_of (survivors_in chosen (layout_in rows h) (survivors m g (by_mark h))))
      ≡ pinned_count (plugs_of few) = refl in
      let b : pinned_count (plugs_of few) ≤ length (filter (λ (k : Survivor). k.pinned) few) = few-pinned few in
      let c : filter (λ (k : Survivor). k.pinned) few ≡ map of (filter (λ i. (of i).pinned) (filter lives items)) =
      ap (filter (λ (k : Survivor). k.pinned)) (survivors-are rows h base heap held laid g (by_mark h)
      (marks-test rows h g) pins chosen) ∙ filter-map of (λ (k : Survivor). k.pinned) (filter lives items) in
      let d : filter (λ i. (of i).pinned) (filter lives items) ≡ filter (λ i. lives i && (of i).pinned) items =
      filter-twice lives (λ i. (of i).pinned) (λ i. lives i && (of i).pinned) items (λ i. refl) in
      let n : length (filter (λ (k : Survivor). k.pinned) few)
      ≡ length (filter (λ i. lives i && (of i).pinned) items) = ap length c
      ∙ length-map (filter (λ i. (of i).pinned) (filter lives items)) of ∙ ap length d in
      let o : length (filter (λ i. lives i && (of i).pinned) items) ≤ length (filter told items) =
      filter-fewer-in (λ i. lives i && (of i).pinned) told items fewer in
      let r : pinned_marked rows h ≡ length (filter told items) =
      ap length (filter-map obj (λ (o : Object). is_marked h o && has_pin (word_of h (o.place - 8)))
      (filter is_object items)
      ∙ ap (map obj) (filter-twice is_object (λ i. is_marked h (obj i) && has_pin (word_of h (i.place - 8))) told
      items (λ i. refl))) ∙ length-map (filter told items) obj in
      omega (arith, a, b, n, o, r)
    where
      items : List Item
      items = heap_items rows h

      obj : Item → Object
      obj i = object_in rows (word_of h) i

      few : List Survivor
      few = survivors_in chosen (layout_in rows h) (survivors m g (by_mark h))

      of : Item → Survivor
      of i = of_item rows h base heap held laid g (by_mark h) (marks-test rows h g) pins chosen i

      lives : Item → Bool
      lives = survives rows h base heap held laid g (by_mark h) (marks-test rows h g) pins chosen

      told : Item → Bool
      told i = is_object i && (is_marked h (object_in rows (word_of h) i) && has_pin (word_of h (i.place - 8)))

      fewer : (i : Item) → IsIn i items → (lives i && (of i).pinned) ≡ true → told i ≡ true
      fewer i n t =
          let (live, pinned) = and_parts (lives i) (of i).pinned t in
          let (a, b) = and_parts (is_object i && (is_condemned m g (obj i) && by_mark h i.place))
          (is_chosen rows h base heap held laid g (by_mark h) (marks-test rows h g) pins chosen (of i)) live in
          let (object, c) = and_parts (is_object i) (is_condemned m g (obj i) && by_mark h i.place) a in
          let (aged, mark) = and_parts (is_condemned m g (obj i)) (by_mark h i.place) c in
          let known : IsIn (obj i) (objects_in rows h) = IsIn-map (object_in rows (word_of h))
          (into_filter is_object items object n) in
          and_from (is_object i) (is_marked h (obj i) && has_pin (word_of h (i.place - 8))) object
          (and_from (is_marked h (obj i)) (has_pin (word_of h (i.place - 8))) mark (sym (pins (obj i) known)
          ∙ pinned))
