-- What a look at an item tells, and how the run before it goes on.
use Rattle.std.proofs.Common.{◌≡◌, ℕ, ◌+◌, ◌-◌, ◌^◌, ◌<◌, ◌≤◌, List, [], ◌∷◌, refl, sym, ap, ap₂}
use Rattle.std.proofs.Common.{subst, ◌∙◌, arith}
use Rattle.std.proofs.Common.{Bool, true, false, not, ◌&&◌, ◌==◌, if◌then◌else◌, Option, Some, None}
use Rattle.std.specs.Bool.{beq}
use Rattle.std.proofs.lemmas.Bool.{and_parts, eqb-true, ne_eqb}
use Rattle.clr_types.specs.Bits.{unmarked}
use Rattle.clr_types.specs.Types.{TypeRow}
use Rattle.clr_types.specs.declared.item.Item.{Item}
use Rattle.clr_types.proofs.ChangedLists.{all_imply}
use Rattle.clr_heap.specs.ObjectKinds.{IsObjectKind, known_size}
use Rattle.clr_heap.specs.Parts.{item_at}
use Rattle.clr_heap.specs.View.{HeapView, word_of, segment_at}
use Rattle.clr_heap.specs.declared.kinds.ObjectKind.{ObjectKind}
use Rattle.clr_heap.proofs.Spelling.{place-item_at}
use Rattle.clr_view.specs.Marks.{has_mark}
use Rattle.clr_view.specs.View.{is_object}
use Rattle.clr_model.specs.Compaction.{Plug, plug_end, plug_of, plugs_of, joined}
use Rattle.clr_sweep.specs.SweptItems.{stays}
use Rattle.clr_plan.specs.Scans.{CanLook, CanScan, survivor_in, kept_plug, is_alike, plug_alone}
use Rattle.clr_plan.specs.Scans.{plugs_between}
use Rattle.clr_plan.specs.Runs.{merged, IsPassing, IsRun, HasRun, HasNext}
use Rattle.clr_plan.specs.declared.scan.NextPlug.{NextPlug}
use Rattle.clr_plan.proofs.Scanning.{it, after, AtItem, at_item, survivors-done, survivors-more, survivors-over}
use Rattle.clr_plan.proofs.Scanning.{plugs-above}
use Rattle.clr_plan.proofs.GrowingRuns.{beq-from, merged-one, run-grows, run-other, run-apart}

-- ---- one item

module _ (rows : List TypeRow) (h : HeapView) (k p mt : ℕ) (object : Bool) (word : mt ≡ word_of h p)
    (is : object ≡ is_object (item_at rows (word_of h) p)) where
  -- what the item's word tells is whether it stays
  stays-is : stays (word_of h) (item_at rows (word_of h) p) ≡ (object && has_mark mt)
  stays-is =
      ap (λ (q : ℕ). is_object (item_at rows (word_of h) p) && has_mark (word_of h q))
      (place-item_at rows (word_of h) p)
      ∙ ap₂ (λ (o : Bool) (w : ℕ). o && has_mark w) (sym is) (sym word)

  pub look-none : (object && has_mark mt) ≡ false
      → ◌≡◌ {A = Option Plug} None (kept_plug h k (item_at rows (word_of h) p))
  look-none off = sym (ap (λ b. if b then Some (plug_of (survivor_in h k (item_at rows (word_of h) p))) else None)
      (stays-is ∙ off))

  -- then the plug of its size at its place is the one that is kept
  pub look-some : (object && has_mark mt) ≡ true → (size : ℕ) → size ≡ (item_at rows (word_of h) p).size
      → (plug : Plug) → plug ≡ plug_alone h k p size
      → ◌≡◌ {A = Option Plug} (Some plug) (kept_plug h k (item_at rows (word_of h) p))
  look-some on size sized plug plug-is =
      ap (λ q. Some q) (plug-is ∙ ap₂ (plug_alone h k) (sym (place-item_at rows (word_of h) p)) sized) ∙ sym (ap
      (λ b. if b then Some (plug_of (survivor_in h k (item_at rows (word_of h) p))) else None) (stays-is ∙ on))

-- what has the word of a known kind is an object, of the size that is known
pub known-item : (rows : List TypeRow) (word : ℕ → ℕ) (a size : ℕ) (kind : ObjectKind) → IsObjectKind rows kind
    → ◌≡◌ {A = Option ℕ} (Some size) (known_size kind (word a))
    → (true ≡ is_object (item_at rows word a)) × (size ≡ (item_at rows word a).size)
known-item rows word a size kind known e = go (unmarked (word a) == kind.mt) refl e
  where
    some-same : {x y : ℕ} → ◌≡◌ {A = Option ℕ} (Some x) (Some y) → x ≡ y
    some-same e = cc

    go : (b : Bool) → (unmarked (word a) == kind.mt) ≡ b
        → ◌≡◌ {A = Option ℕ} (Some size) (if b then Some kind.size else None)
        → (true ≡ is_object (item_at rows word a)) × (size ≡ (item_at rows word a).size)
    go true same e =
        let here : unmarked (word a) ≡ kind.mt = eqb-true (unmarked (word a)) kind.mt same in (
          sym (ap not (ne_eqb (item_at rows word a).type_id.0 0 (known.object word a here))),
          some-same e ∙ sym (known.size word a here),
        )
    go false same e = let none : ◌≡◌ {A = Option ℕ} (Some size) None = e in absurd cc

-- a plug is seen exactly where the item stays
pub kept-some : (h : HeapView) (k : ℕ) (i : Item) (q : Plug) → ◌≡◌ {A = Option Plug} (Some q) (kept_plug h k i)
    → (stays (word_of h) i ≡ true) × (q ≡ plug_of (survivor_in h k i))
kept-some h k i q e = go (stays (word_of h) i) refl e
  where
    go : (b : Bool) → stays (word_of h) i ≡ b → ◌≡◌ {A = Option Plug} (Some q)
        (if b then Some (plug_of (survivor_in h k i)) else None) → (stays (word_of h) i ≡ true)
        × (q ≡ plug_of (survivor_in h k i))
    go true t e = (t, some_same e)
      where
        some_same : {x y : Plug} → ◌≡◌ {A = Option Plug} (Some x) (Some y) → x ≡ y
        some_same e = cc
    go false t e = absurd cc

pub kept-none : (h : HeapView) (k : ℕ) (i : Item) → ◌≡◌ {A = Option Plug} None (kept_plug h k i) → stays (word_of h) i
    ≡ false
kept-none h k i e = go (stays (word_of h) i) refl e
  where
    go : (b : Bool) → stays (word_of h) i ≡ b → ◌≡◌ {A = Option Plug} None (if b then Some (plug_of (survivor_in h k i))
        else None) → stays (word_of h) i ≡ false
    go true t e = absurd cc
    go false t e = t

module _ (rows : List TypeRow) (h : HeapView) (k p e : ℕ) (s : CanScan rows h k p e) (below : p < e) where
  abbrev here : Item
  here = it rows h k p e s below

  abbrev then_on : ℕ
  then_on = after rows h k p e s below

  at : AtItem rows h k p e s below
  at = at_item rows h k p e s below

  -- an item that doesn't stay adds nothing
  pub plugs-over : ◌≡◌ {A = Option Plug} None (kept_plug h k here) → plugs_between rows h k p e ≡ plugs_between rows h k
      then_on e
  plugs-over none = ap plugs_of (survivors-over rows h k p e s below (kept-none h k here none))

  -- one that stays begins the first plug
  pub plugs-begin : (q : Plug) → ◌≡◌ {A = Option Plug} (Some q) (kept_plug h k here) → plugs_between rows h k p e
      ≡ merged q (plugs_between rows h k then_on e)
  plugs-begin q some =
      let (on, is) = kept-some h k here q some in
      ap plugs_of (survivors-more rows h k p e s below on) ∙ merged-one (survivor_in h k here)
      (plugs_between rows h k then_on e) ∙ ap (λ r. merged r (plugs_between rows h k then_on e)) (sym is)

  pub begins : (q : Plug) → ◌≡◌ {A = Option Plug} (Some q) (kept_plug h k here) → IsRun rows h k e q
      × (plug_end q ≡ then_on)
  begins q some =
      let (on, is) = kept-some h k here q some in
      let ends : plug_end q ≡ then_on = ap plug_end is ∙ ap (λ n. n + here.size) (place-item_at rows (word_of h) p) in (
        record {
          segment = ap (λ (r : Plug). r.segment) is;
          scan = subst (λ n. CanScan rows h k n e) (sym ends) at.scan;
        },
        ends,
      )

-- ---- a run that grows

pub record IsGrowing (rows : List TypeRow) (h : HeapView) (k e : ℕ) (plug run : Plug) : Type 0 where
  pub segment : run.segment ≡ (segment_at h k).base
  pub scan : CanScan rows h k (plug_end run) e
  pub same : merged plug (plugs_between rows h k (plug_end plug) e)
      ≡ merged run (plugs_between rows h k (plug_end run) e)
  pub up : plug_end plug ≤ plug_end run

pub grow-starts : (rows : List TypeRow) (h : HeapView) (k e : ℕ) (plug : Plug) → IsRun rows h k e plug
    → IsGrowing rows h k e plug plug
grow-starts rows h k e plug run = record { segment = run.segment; scan = run.scan; same = refl; up = omega arith }

module _ (rows : List TypeRow) (h : HeapView) (k e : ℕ) (plug run : Plug) (s : IsGrowing rows h k e plug run) where
  abbrev ends : ℕ
  ends = plug_end run

  -- at the end of the part the run is a plug
  pub run-ends : e ≤ ends → HasRun rows h k e plug (record { plug = run; next = ends })
  run-ends l =
      let none : plugs_between rows h k ends e ≡ [] = ap plugs_of (survivors-done rows h k ends e s.scan l) in
      record {
        plugs = s.same ∙ ap (merged run) none ∙ ap (λ ps. run ∷ ps) (sym none);
        segment = s.segment;
        scan = s.scan;
        above = s.up;
      }

  module _ (below : ends < e) where
    abbrev next_item : Item
    next_item = it rows h k ends e s.scan below

    abbrev behind_it : ℕ
    behind_it = after rows h k ends e s.scan below

    -- before what doesn't stay it is a plug
    pub run-stops : ◌≡◌ {A = Option Plug} None (kept_plug h k next_item) → (next : ℕ) → next ≡ behind_it
        → HasRun rows h k e plug (record { plug = run; next = next })
    run-stops none next is =
        let at : AtItem rows h k ends e s.scan below = at_item rows h k ends e s.scan below in
        let least = at.least in
        let up = s.up in
        subst (λ n. HasRun rows h k e plug (record { plug = run; next = n })) (sym is)
        (record {
          plugs = s.same ∙ ap (merged run) (plugs-over rows h k ends e s.scan below none)
              ∙ run-apart run (plugs_between rows h k behind_it e) (all_imply (λ (q : Plug). behind_it ≤ q.start)
              (λ (q : Plug). ends < q.start) (plugs_between rows h k behind_it e) (λ q l. omega arith)
              (plugs-above rows h k behind_it e at.scan));
          segment = s.segment;
          scan = at.scan;
          above = omega arith;
        })

    -- before an object of another kind it is a plug
    pub run-differs : (q : Plug) → ◌≡◌ {A = Option Plug} (Some q) (kept_plug h k next_item) → is_alike run q ≡ false
        → HasRun rows h k e plug (record { plug = run; next = ends })
    run-differs q some off =
        let (on, is) = kept-some h k next_item q some in
        let more : plugs_between rows h k ends e ≡ joined (survivor_in h k next_item)
        (plugs_between rows h k behind_it e) = ap plugs_of (survivors-more rows h k ends e s.scan below on) in
        record {
          plugs = s.same ∙ ap (merged run) more ∙ run-other run (survivor_in h k next_item)
              (plugs_between rows h k behind_it e) (ap (is_alike run) (sym is) ∙ off) ∙ ap (λ ps. run ∷ ps) (sym more);
          segment = s.segment;
          scan = s.scan;
          above = s.up;
        }

    -- an object of its kind joins it
    pub grows : (q : Plug) → ◌≡◌ {A = Option Plug} (Some q) (kept_plug h k next_item) → is_alike run q ≡ true
        → IsGrowing rows h k e plug (record run { size = run.size + q.size })
    grows q some on =
        let (stay, is) = kept-some h k next_item q some in
        let (same_age, same_pin) = and_parts (run.generation == q.generation) (beq run.pinned q.pinned) on in
        let at : AtItem rows h k ends e s.scan below = at_item rows h k ends e s.scan below in
        let more : plugs_between rows h k ends e ≡ joined (survivor_in h k next_item)
        (plugs_between rows h k behind_it e) = ap plugs_of (survivors-more rows h k ends e s.scan below stay) in
        let size : next_item.size ≡ q.size = sym (ap (λ (r : Plug). r.size) is) in
        let further : behind_it ≡ run.start + (run.size + q.size) = omega arith in
        let up = s.up in
        record {
          segment = s.segment;
          scan = subst (λ n. CanScan rows h k n e) further at.scan;
          same = s.same ∙ ap (merged run) more
              ∙ run-grows run (survivor_in h k next_item) (sym (place-item_at rows (word_of h) ends)) s.segment
              (eqb-true run.generation q.generation same_age ∙ ap (λ (r : Plug). r.generation) is)
              (beq-from run.pinned q.pinned same_pin ∙ ap (λ (r : Plug). r.pinned) is)
              (plugs_between rows h k behind_it e)
              ∙ (λ i. merged (record run { size = run.size + size i }) (plugs_between rows h k (further i) e));
          up = omega arith;
        }

    pub look_run : CanLook rows h k ends
    look_run = (at_item rows h k ends e s.scan below).can

    -- the joined run doesn't overflow, and is longer
    pub grows-within : (q : Plug) → ◌≡◌ {A = Option Plug} (Some q) (kept_plug h k next_item)
        → (run.start + (run.size + q.size) ≤ e) × (e ≤ 2 ^ 62) × (ends < run.start + (run.size + q.size))
    grows-within q some =
        let (stay, is) = kept-some h k next_item q some in
        let at : AtItem rows h k ends e s.scan below = at_item rows h k ends e s.scan below in
        let size : next_item.size ≡ q.size = sym (ap (λ (r : Plug). r.size) is) in
        let within = at.within in
        let least = at.least in
        (omega arith, s.scan.high, omega arith)

    pub stops-within : (size : ℕ) → size ≡ next_item.size → ends + size < 2 ^ 64
    stops-within size is =
        let at : AtItem rows h k ends e s.scan below = at_item rows h k ends e s.scan below in
        let within = at.within in
        let high = s.scan.high in
        omega arith

-- ---- the first plug of a part

-- one walk behind another
pub passing-then : (rows : List TypeRow) (h : HeapView) (k p e q place : ℕ) → IsPassing rows h k p e q
    → IsPassing rows h k q e place → IsPassing rows h k p e place
passing-then rows h k p e q place s t =
    let a = s.2 in
    let b = t.2 in
    (t.0, s.1 ∙ t.1, omega (arith, a, b))

module _ (rows : List TypeRow) (h : HeapView) (k p e place : ℕ) (s : IsPassing rows h k p e place)
    (below : place < e) where
  abbrev passed_item : Item
  passed_item = it rows h k place e s.0 below

  at_place : AtItem rows h k place e s.0 below
  at_place = at_item rows h k place e s.0 below

  pub look_passing : CanLook rows h k place
  look_passing = at_place.can

  pub passes-over : ◌≡◌ {A = Option Plug} None (kept_plug h k passed_item) → (size : ℕ) → size ≡ passed_item.size
      → IsPassing rows h k p e (place + size)
  passes-over none size is =
      let up = s.2 in
      subst (λ n. IsPassing rows h k p e (place + n)) (sym is) (
        at_place.scan,
        s.1 ∙ plugs-over rows h k place e s.0
            below none,
        omega arith,
      )

  pub further : (size : ℕ) → size ≡ passed_item.size → (place + size < 2 ^ 64) × (place < place + size)
      × (place + size ≤ e)
  further size is =
      let within = at_place.within in
      let least = at_place.least in
      let high = s.0.high in
      (omega arith, omega arith, omega arith)

  pub first-begins : (q : Plug) → ◌≡◌ {A = Option Plug} (Some q) (kept_plug h k passed_item) → IsRun rows h k e q
  first-begins q some = (begins rows h k place e s.0 below q some).0

  pub first-found : (q : Plug) → ◌≡◌ {A = Option Plug} (Some q) (kept_plug h k passed_item) → (found : NextPlug)
      → HasRun rows h k e q found → HasNext rows h k p e found
  first-found q some found run =
      let (begin, ends) = begins rows h k place e s.0 below q some in
      let least = at_place.least in
      let up = s.2 in
      let above = run.above in
      record {
        plugs = s.1 ∙ plugs-begin rows h k place e s.0 below q some ∙ ap (λ n. merged q (plugs_between rows h k n e))
            (sym ends) ∙ run.plugs;
        segment = run.segment;
        scan = run.scan;
        above = omega arith;
      }

pub none-left : (rows : List TypeRow) (h : HeapView) (k p e place : ℕ) → IsPassing rows h k p e place → e ≤ place
    → plugs_between rows h k p e ≡ []
none-left rows h k p e place s l = s.1 ∙ ap plugs_of (survivors-done rows h k place e s.0 l)

-- what was seen at a place, told at an equal one
pub seen-at : (rows : List TypeRow) (h : HeapView) (k : ℕ) {at place : ℕ} {kept told : Option Plug} → at ≡ place → kept
    ≡ told → kept ≡ kept_plug h k (item_at rows (word_of h) at) → told ≡ kept_plug h k (item_at rows (word_of h) place)
seen-at rows h k at told is = sym told ∙ is ∙ ap (λ n. kept_plug h k (item_at rows (word_of h) n)) at

pub size-at : (rows : List TypeRow) (h : HeapView) {at place size : ℕ} → at ≡ place → size
    ≡ (item_at rows (word_of h) at).size → size ≡ (item_at rows (word_of h) place).size
size-at rows h at is = is ∙ ap (λ n. (item_at rows (word_of h) n).size) at
