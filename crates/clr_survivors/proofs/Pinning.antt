-- Pinned handles, one after the other: the bits of their targets' headers.
use Rattle.std.proofs.Common.{◌≡◌, ◌≢◌, ◌↔◌, ◌⊎◌, inl, inr, ℕ, ◌+◌, ◌-◌, ◌%◌, ◌<◌, ◌≤◌, Bool, true, false, not, ◌&&◌}
use Rattle.std.proofs.Common.{List, None, Option, true≢false, ◌/◌, ◌||◌, if◌then◌else◌, refl, ap, sym, ◌∙◌, subst}
use Rattle.std.proofs.Common.{arith, Some, nat_le}
use Rattle.std.proofs.lemmas.Bool.{cases_eq, cases_lt, eq-eqb, eqb-false, eqb-true, le-leb, ne_eqb, leb-true}
use Rattle.std.specs.FinMap as finmap
use Rattle.std.specs.FinMap.{FinMap}
use Rattle.std.specs.Ordering.{nat_cmp}
use Rattle.clr_types.specs.Kinds.{is_pinned_kind}
use Rattle.clr_types.specs.Types.{TypeRow}
use Rattle.clr_types.specs.declared.handle.Handle.{Handle}
use Rattle.clr_types.specs.declared.handle.Kind.{Kind}
use Rattle.clr_types.specs.declared.handle.Kind.TheVariants.{Strong, Pinned, Weak, WeakLong, Dependent}
use Rattle.clr_types.specs.declared.item.Item.{Item}
use Rattle.clr_handles.specs.Places.{IsPrevious, NoneNames}
use Rattle.clr_handles.specs.Tops.{HasNone}
use Rattle.clr_heap.specs.Parts.{item_at}
use Rattle.clr_heap.specs.View.{heap_items, HeapView, IsHeap, SameShape, stored, word_of}
use Rattle.clr_heap.proofs.Rewrite.{SameShape-refl, SameShape-stored}
use Rattle.clr_model.specs.Machine.{Object}
use Rattle.clr_types.specs.Rising.{IsIn}
use Rattle.clr_view.specs.SlotValues.{IsObjectAt, StandsAt}
use Rattle.clr_view.specs.Marks.{Marked}
use Rattle.clr_view.specs.View.{AreFreeHeads, IsHeld, layout_in, objects_in}
use Rattle.clr_view.proofs.Headers.{header-high, header-word}
use Rattle.clr_view.proofs.ObjectItems.{stands-item}
use Rattle.clr_view.proofs.Stores.{elsewhere, there-now}
use Rattle.clr_plan.specs.Pinned.{has_pin}
use Rattle.clr_survivors.specs.Pins.{HasPins, IsPinnedBelow, pinned_header, pins_from}
use Rattle.clr_survivors.specs.Pins.{PinsStand}
use Rattle.std.specs.Prelude.{MatchBool}
use Rattle.std.proofs.Common.{◌==◌}
use Rattle.clr_types.specs.Bits.{pinned_bit}
use Rattle.clr_survivors.proofs.HeaderBits.{flag-kept, HasHeader, header_written}

-- the row that was found
abbrev or_row : Handle → Option Handle → Handle
or_row other None = other
or_row other (Some row) = row

-- a pinned handle with a number from n on has the place, from `low` on, as its target, which isn't null
pub record IsPinnedFrom (table : FinMap nat_cmp Handle) (low n place : ℕ) : Type 0 where
  pub number : ℕ
  pub from : n ≤ number
  pub row : Handle
  pub in_use : finmap.get table number ≡ Some row
  pub pinned : is_pinned_kind row.kind ≡ true
  pub target : row.target ≡ place
  pub some : 0 < place
  pub high : low ≤ place

-- `HasPins` of the handles with numbers from n on
pub record HasPinsFrom (rows : List TypeRow) (old new : HeapView) (table : FinMap nat_cmp Handle) (low n : ℕ)
    (on : Bool) : Type 0 where
  pub shape : SameShape old new
  pub objects : objects_in rows new ≡ objects_in rows old
  pub items : heap_items rows new ≡ heap_items rows old
  pub layout : layout_in rows new ≡ layout_in rows old
  pub marks : (x : ℕ) → Marked rows new x ↔ Marked rows old x
  pub free_heads : AreFreeHeads rows old → AreFreeHeads rows new
  pub words : (b : ℕ) → b % 8 ≡ 0
      → (IsPinnedFrom table low n (b + 8) × (word_of new b ≡ pinned_header on (word_of old b)))
      ⊎ ((IsPinnedFrom table low n (b + 8) → ⊥) × (word_of new b ≡ word_of old b))
  pub held : IsHeld rows new

module _ (rows : List TypeRow) (old : HeapView) (table : FinMap nat_cmp Handle) (low : ℕ) (on : Bool) where
  pub none_pinned : IsHeld rows old → ((h : ℕ) (row : Handle) → finmap.get table h ≡ Some row → h < 65536)
      → HasPinsFrom rows old old table low 65536 on
  none_pinned held below = record {
    shape = SameShape-refl old;
    objects = refl;
    items = refl;
    layout = refl;
    marks = λ x. (λ m. m, λ m. m);
    free_heads = λ heads. heads;
    words = λ b z. inr (λ p. let up = p.from in let most = below p.number p.row p.in_use in absurd (omega arith), refl);
    held = held;
  }

  -- the bit is written once
  twice : (header : ℕ) → pinned_header on (pinned_header on header) ≡ pinned_header on header
  twice header = go on (has_pin header) refl
    where
      go : (on has : Bool) → has_pin header ≡ has
          → pinned_header on (if on && not has then header + pinned_bit
          else if not on && has then header - pinned_bit else header)
          ≡ (if on && not has then header + pinned_bit else if not on && has then header - pinned_bit else header)
      go true true is =
          ap (λ (b : Bool). if true && not b then header + pinned_bit else if not true && b then header - pinned_bit
          else header) is
      go true false is =
          let no = eqb-false (header / pinned_bit % 2) 1 is in
          let set : has_pin (header + pinned_bit) ≡ true = eq-eqb ((header + pinned_bit) / pinned_bit % 2) 1
          (omega arith) in
          ap (λ (b : Bool). if true && not b then header + pinned_bit + pinned_bit
          else if not true && b then header + pinned_bit - pinned_bit else header + pinned_bit) set
      go false true is =
          let yes = eqb-true (header / pinned_bit % 2) 1 is in
          let clear : has_pin (header - pinned_bit) ≡ false = ne_eqb ((header - pinned_bit) / pinned_bit % 2) 1
          (λ e. omega arith) in
          ap (λ (b : Bool). if false && not b then header - pinned_bit + pinned_bit
          else if not false && b then header - pinned_bit - pinned_bit else header - pinned_bit) clear
      go false false is =
          ap (λ (b : Bool). if false && not b then header + pinned_bit else if not false && b then header - pinned_bit
          else header) is

  module _ (now : HeapView) (before number : ℕ) (row : Handle) (p : HasPinsFrom rows old now table low before on)
      (next : IsPrevious table low before number row) where
    -- what is pinned from this number on: what was, and what this handle pins
    pinned_more : (place : ℕ) → IsPinnedFrom table low number place
        → IsPinnedFrom table low before place
        ⊎ ((is_pinned_kind row.kind ≡ true) × (0 < row.target) × (low ≤ row.target) × (place ≡ row.target))
    pinned_more place q = elim (cases_lt q.number before) [
      | inr not_less ↦
          inl (record {
            number = q.number;
            from = not_less;
            row = q.row;
            in_use = q.in_use;
            pinned = q.pinned;
            target = q.target;
            some = q.some;
            high = q.high;
          })
      | inl less ↦ elim (cases_eq q.number number) [
        | inl here ↦
            let same : q.row ≡ row = ap (or_row q.row) (sym q.in_use ∙ ap (finmap.get table) here ∙ next.in_use) in
            let target : place ≡ row.target = sym q.target ∙ ap (λ (r : Handle). r.target) same in
            inr (
              ap (λ (r : Handle). is_pinned_kind r.kind) (sym same) ∙ q.pinned,
              subst (λ (n : ℕ). 0 < n) target q.some,
              subst (λ (n : ℕ). low ≤ n) target q.high,
              target,
            )
        | inr apart ↦
            let up = q.from in
            let none = next.none_between q.number q.row (omega arith) less q.in_use in
            let above : low ≤ q.row.target = subst (λ (n : ℕ). low ≤ n) (sym q.target) q.high in
            absurd (true≢false (sym (ap (λ (b : Bool). b || nat_le low q.row.second) (le-leb low q.row.target above))
            ∙ none))
      ]
    ]

    was_pinned : (place : ℕ) → IsPinnedFrom table low before place → IsPinnedFrom table low number place
    was_pinned place q =
        let up = q.from in
        let below = next.below in
        record {
          number = q.number;
          from = omega arith;
          row = q.row;
          in_use = q.in_use;
          pinned = q.pinned;
          target = q.target;
          some = q.some;
          high = q.high;
        }

    is_pinned_now : is_pinned_kind row.kind ≡ true → 0 < row.target → low ≤ row.target
        → IsPinnedFrom table low number row.target
    is_pinned_now kind some above = record {
      number = number;
      from = omega arith;
      row = row;
      in_use = next.in_use;
      pinned = kind;
      target = refl;
      some = some;
      high = above;
    }

    -- a handle that pins nothing
    pub passed_by : ((is_pinned_kind row.kind ≡ true) × (0 < row.target) × (low ≤ row.target) → ⊥)
        → HasPinsFrom rows old now table low number on
    passed_by none = record {
      shape = p.shape;
      objects = p.objects;
      items = p.items;
      layout = p.layout;
      marks = p.marks;
      free_heads = p.free_heads;
      held = p.held;
      words = λ b z. elim (p.words b z) [
        | inl hit ↦ inl (was_pinned (b + 8) hit.0, hit.1)
        | inr miss ↦
            inr (
              λ q. elim (pinned_more (b + 8) q) [
                | inl was ↦ miss.0 was
                | inr this ↦ none (this.0, this.1, this.2)
              ],
              miss.1,
            )
      ];
    }

    -- a handle that pins an object of the heap
    module _ (heap : IsHeap now) (kind : is_pinned_kind row.kind ≡ true) (some : 0 < row.target)
        (above : low ≤ row.target) (stands : StandsAt rows old row.target) where
      abbrev a : ℕ
      a = row.target - 8

      abbrev v : ℕ
      v = pinned_header on (word_of now a)

      pub stands_now : StandsAt rows now row.target
      stands_now =
          subst (λ (os : List Object). (o : Object) × IsIn o os × (o.place ≡ row.target)) (sym p.objects) stands

      abbrev i : Item
      i = item_at rows (word_of now) row.target

      there : IsObjectAt rows now row.target i
      there = stands-item rows now heap p.held row.target stands_now

      written : HasHeader rows now (stored now a v)
      written =
          subst (λ (n : ℕ). HasHeader rows now (stored now (n - 8) (pinned_header on (word_of now (n - 8))))) there.at
          (header_written rows now i (pinned_header on (word_of now (i.place - 8)))
          heap p.held there.listed there.object
          (flag-kept on (word_of now (i.place - 8))))

      at_header : word_of (stored now a v) a ≡ v
      at_header =
          subst (λ (n : ℕ). word_of (stored now (n - 8) v) (n - 8) ≡ v) there.at
          (there-now rows now i (i.place - 8) v heap p.held (header-word rows now i true heap p.held there.listed))

      other_word : (b : ℕ) → b % 8 ≡ 0 → b ≢ a → word_of (stored now a v) b ≡ word_of now b
      other_word b z apart =
          subst (λ (n : ℕ). b ≢ n - 8 → word_of (stored now (n - 8) v) b ≡ word_of now b) there.at
          (elsewhere rows now i (i.place - 8) v heap p.held (header-word rows now i true heap p.held there.listed) b z)
          apart

      words_more : (b : ℕ) → b % 8 ≡ 0
          → (IsPinnedFrom table low number (b + 8)
          × (word_of (stored now a v) b ≡ pinned_header on (word_of old b)))
          ⊎ ((IsPinnedFrom table low number (b + 8) → ⊥) × (word_of (stored now a v) b ≡ word_of old b))
      words_more b z = elim (cases_eq (b + 8) row.target) [
        | inl here ↦
            let at : b ≡ a = omega arith in
            let set : word_of (stored now a v) b ≡ pinned_header on (word_of now b) =
            ap (word_of (stored now a v)) at ∙ at_header ∙ ap (λ (n : ℕ). pinned_header on (word_of now n)) (sym at) in
            inl (
              subst (IsPinnedFrom table low number) (sym here) (is_pinned_now kind some above),
              elim (p.words b z) [
                | inl hit ↦ set ∙ ap (pinned_header on) hit.1 ∙ twice (word_of old b)
                | inr miss ↦ set ∙ ap (pinned_header on) miss.1
              ],
            )
        | inr apart ↦
            let high = header-high rows now row.target heap p.held stands_now in
            let same = other_word b z (λ e. apart (omega arith)) in
            elim (p.words b z) [
              | inl hit ↦ inl (was_pinned (b + 8) hit.0, same ∙ hit.1)
              | inr miss ↦
                  inr (
                    λ q. elim (pinned_more (b + 8) q) [
                      | inl was ↦ miss.0 was
                      | inr this ↦ apart this.3
                    ],
                    same ∙ miss.1,
                  )
            ]
      ]

      pub pins_more : HasPinsFrom rows old (stored now a v) table low number on
      pins_more = record {
        shape = SameShape-stored old now a v p.shape;
        objects = written.objects ∙ p.objects;
        items = written.items ∙ p.items;
        layout = written.layout ∙ p.layout;
        marks = λ x. (λ m. (p.marks x).0 ((written.marks x).0 m), λ m. (written.marks x).1 ((p.marks x).1 m));
        free_heads = λ heads. written.free_heads (p.free_heads heads);
        words = words_more;
        held = written.held;
      }

-- what the next handle leaves
pub pins_next : (rows : List TypeRow) (old : HeapView) (table : FinMap nat_cmp Handle) (low : ℕ) (on : Bool)
    (now new : HeapView) (before number : ℕ) (row : Handle) → IsHeap now → PinsStand rows old table
    → HasPinsFrom rows old now table low before on → IsPrevious table low before number row
    → MatchBool (pins_from low row)
    (new ≡ stored now (row.target - 8) (pinned_header on (word_of now (row.target - 8)))) (new ≡ now)
    → HasPinsFrom rows old new table low number on
pins_next rows old table low on now new before number row heap stand p next is =
    go (is_pinned_kind row.kind) refl (row.target == 0) refl (nat_le low row.target) refl is
  where
    go : (k : Bool) → is_pinned_kind row.kind ≡ k → (z : Bool) → (row.target == 0) ≡ z
        → (l : Bool) → nat_le low row.target ≡ l
        → MatchBool ((k && not z) && l)
        (new ≡ stored now (row.target - 8) (pinned_header on (word_of now (row.target - 8)))) (new ≡ now)
        → HasPinsFrom rows old new table low number on
    go true kind true zero l e same =
        subst (λ h. HasPinsFrom rows old h table low number on) (sym same)
        (passed_by rows old table low on now before number row p next
        (λ both. let some = both.1 in let none = eqb-true row.target 0 zero in omega arith))
    go true kind false some true high set =
        let ne = eqb-false row.target 0 some in
        let above : 0 < row.target = omega arith in
        subst (λ h. HasPinsFrom rows old h table low number on) (sym set)
        (pins_more rows old table low on now before number row p next heap kind above (leb-true low row.target high)
        (stand number row next.in_use kind above))
    go true kind false some false under same =
        subst (λ h. HasPinsFrom rows old h table low number on) (sym same)
        (passed_by rows old table low on now before number row p next
        (λ both. true≢false (sym (le-leb low row.target both.2) ∙ under)))
    go false kind z e l f same =
        subst (λ h. HasPinsFrom rows old h table low number on) (sym same)
        (passed_by rows old table low on now before number row p next
        (λ both. true≢false (sym both.0 ∙ kind)))

-- where no handle pins anything, all is told from the start
pub nothing_pinned : (rows : List TypeRow) (old : HeapView) (table : FinMap nat_cmp Handle) (low : ℕ) (on : Bool)
    → IsHeld rows old → HasNone Pinned table → HasPins rows old old table low 65536 on
nothing_pinned rows old table low on held none = record {
  shape = SameShape-refl old;
  objects = refl;
  items = refl;
  layout = refl;
  marks = λ x. (λ m. m, λ m. m);
  free_heads = λ heads. heads;
  words = λ b z. inr (λ q. none q.number q.row q.in_use (pins q.row.kind q.pinned), refl);
  held = held;
}
  where
    pins : (kind : Kind) → is_pinned_kind kind ≡ true → kind ≡ Pinned
    pins Pinned e = refl
    pins Strong e = absurd (true≢false (sym e))
    pins Weak e = absurd (true≢false (sym e))
    pins WeakLong e = absurd (true≢false (sym e))
    pins Dependent e = absurd (true≢false (sym e))

-- when all handles are passed
pub pins_done : (rows : List TypeRow) (old : HeapView) (table : FinMap nat_cmp Handle) (low : ℕ) (on : Bool)
    (now : HeapView) (before : ℕ) → ((h : ℕ) (row : Handle) → finmap.get table h ≡ Some row → h < 65536)
    → HasPinsFrom rows old now table low before on → NoneNames table low 0 before
    → HasPins rows old now table low 65536 on
pins_done rows old table low on now before below p none = record {
  shape = p.shape;
  objects = p.objects;
  items = p.items;
  layout = p.layout;
  marks = p.marks;
  free_heads = p.free_heads;
  held = p.held;
  words = λ b z. elim (p.words b z) [
    | inl hit ↦
        let q = hit.0 in
        inl (
          record {
            number = q.number;
            below = below q.number q.row q.in_use;
            row = q.row;
            in_use = q.in_use;
            pinned = q.pinned;
            target = q.target;
            some = q.some;
            high = q.high;
          },
          hit.1,
        )
    | inr miss ↦ inr (λ q. miss.0 (higher (b + 8) q), miss.1)
  ];
}
  where
    higher : (place : ℕ) → IsPinnedBelow table low 65536 place → IsPinnedFrom table low before place
    higher place q = elim (cases_lt q.number before) [
      | inr up ↦
          record {
            number = q.number;
            from = up;
            row = q.row;
            in_use = q.in_use;
            pinned = q.pinned;
            target = q.target;
            some = q.some;
            high = q.high;
          }
      | inl less ↦
          let off = none q.number q.row (omega arith) less q.in_use in
          let above : low ≤ q.row.target = subst (λ (n : ℕ). low ≤ n) (sym q.target) q.high in
          absurd (true≢false (sym (ap (λ (b : Bool). b || nat_le low q.row.second) (le-leb low q.row.target above))
          ∙ off))
    ]
