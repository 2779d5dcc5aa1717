-- Items with the word of a known dead kind: what makes it known, their size, and what each adds to a count.
use Rattle.std.proofs.Common.{◌≡◌, ℕ, ◌+◌, ◌<◌, Bool, true, false, not, nat_eq, List, Option, Some, None}
use Rattle.std.proofs.Common.{refl, sym, ap, ap₂, subst, ◌∙◌, arith, if◌then◌else◌, ◌&&◌, ◌==◌}
use Rattle.std.specs.Prelude.{IfSome}
use Rattle.std.proofs.lemmas.Bool.{eqb-true}
use Rattle.clr_types.specs.Types.{TypeRow, form_at, is_array}
use Rattle.clr_types.specs.Segments.{generation}
use Rattle.clr_types.specs.declared.item.Item.{Item}
use Rattle.clr_heap.specs.Parts.{item_at, length_at, type_number}
use Rattle.clr_heap.specs.View.{frame, HeapView, word_of}
use Rattle.clr_heap.proofs.Spelling.{place-item_at}
use Rattle.clr_view.specs.Marks.{has_mark}
use Rattle.clr_view.specs.View.{is_object}
use Rattle.clr_sweep.specs.Dead.{IsDeadKind, known_size}
use Rattle.clr_sweep.specs.Passes.{item_tally, plus}
use Rattle.clr_sweep.specs.SweptItems.{stays}
use Rattle.clr_sweep.specs.declared.dead.DeadKind.{DeadKind}
use Rattle.clr_sweep.specs.declared.tally.Tally.{Tally}
use Rattle.clr_sweep.proofs.CountedParts.{counting_goes_on, IsCounting}
use Rattle.clr_sweep.proofs.Passing.{IsHome}

-- the word of an item tells its type
pub type-item_at : (rows : List TypeRow) (word : ℕ → ℕ) (a : ℕ)
    → (item_at rows word a).type_id.0 ≡ type_number (word a)
unfolding item_at
type-item_at rows word a = refl

-- and its size, where it has no length
same_size : (rows : List TypeRow) (word other : ℕ → ℕ) (a b : ℕ) → other b ≡ word a
    → is_array (form_at rows (type_number (word a))) ≡ false
    → (item_at rows other b).size ≡ (item_at rows word a).size
unfolding item_at length_at
same_size rows word other a b same none = rw (same, none) refl

-- an unmarked object without a length tells what all items with its word are
pub dead_kind : (rows : List TypeRow) (word : ℕ → ℕ) (a mt : ℕ) (found : Item) → mt ≡ word a
    → found ≡ item_at rows word a → has_mark mt ≡ false → is_object found ≡ true
    → is_array (form_at rows found.type_id.0) ≡ false → IsDeadKind rows (record { mt = mt; size = found.size })
dead_kind rows word a mt found at is off object none =
    let number : found.type_id.0 ≡ type_number (word a) = ap (λ (i : Item). i.type_id.0) is
    ∙ type-item_at rows word a in
    record {
      unmarked = off;
      object = λ other b e. ap (λ (n : ℕ). not (nat_eq n 0))
          (type-item_at rows other b ∙ ap type_number (e ∙ at) ∙ sym number) ∙ object;
      size = λ other b e. same_size rows word other a b (e ∙ at)
          (ap (λ (n : ℕ). is_array (form_at rows n)) (sym number) ∙ none) ∙ sym (ap (λ (i : Item). i.size) is);
    }

-- the size that is answered is that of all items with the word
pub known_kind : (rows : List TypeRow) (known : Option DeadKind) (mt size : ℕ) → IfSome known (IsDeadKind rows)
    → ◌≡◌ {A = Option ℕ} (Some size) (known_size known mt) → IsDeadKind rows (record { mt = mt; size = size })
known_kind rows None mt size sure e = let none : ◌≡◌ {A = Option ℕ} (Some size) None = e in absurd cc
known_kind rows (Some kind) mt size sure e = go (kind.mt == mt) refl e
  where
    some_same : {x y : ℕ} → ◌≡◌ {A = Option ℕ} (Some x) (Some y) → x ≡ y
    some_same e = cc

    go : (b : Bool) → (kind.mt == mt) ≡ b → ◌≡◌ {A = Option ℕ} (Some size) (if b then Some kind.size else None)
        → IsDeadKind rows (record { mt = mt; size = size })
    go true t e =
        let words : kind.mt ≡ mt = eqb-true kind.mt mt t in
        let sizes : kind.size ≡ size = sym (some_same e) in
        let is : ◌≡◌ {A = DeadKind} kind (record { mt = mt; size = size }) =
        λ i. record { mt = words i; size = sizes i } in
        subst (IsDeadKind rows) is sure
    go false t e = let none : ◌≡◌ {A = Option ℕ} (Some size) None = e in absurd cc

module _ (rows : List TypeRow) (h : HeapView) (p mt size : ℕ) (kind : IsDeadKind rows (record { mt = mt; size = size }))
    (word : mt ≡ word_of h p) where
  abbrev here : Item
  here = item_at rows (word_of h) p

  -- the item has the size of the kind
  pub dead-size : size ≡ here.size
  dead-size = sym (kind.size (word_of h) p (sym word))

  -- it is an object
  object : is_object here ≡ true
  object = kind.object (word_of h) p (sym word)

  -- without a mark
  mark : has_mark (word_of h here.place) ≡ false
  mark = ap (λ (q : ℕ). has_mark (word_of h q)) (place-item_at rows (word_of h) p) ∙ ap has_mark (sym word)
      ∙ kind.unmarked

  -- it doesn't stay
  pub dead-stays : stays (word_of h) here ≡ false
  dead-stays = ap₂ (λ (o m : Bool). o && m) object mark

  -- it adds one to what goes, and nothing else
  pub dead-tally : (t : Tally) → plus t (item_tally h here) ≡ record t { freed = t.freed + 1 }
  dead-tally t =
      let kept : t.kept + 0 ≡ t.kept = omega arith in
      let one : t.promoted1 + 0 ≡ t.promoted1 = omega arith in
      let two : t.promoted2 + 0 ≡ t.promoted2 = omega arith in
      ap₂ (λ (o m : Bool). plus t (record {
        kept = if o && m then 1 else 0;
        freed = if o && not m then 1 else 0;
        promoted1 = if (o && m) && (generation (frame h) here.place == 0) then here.size else 0;
        promoted2 = if (o && m) && (generation (frame h) here.place == 1) then here.size else 0;
      })) object mark
      ∙ (λ j. record { kept = kept j; freed = t.freed + 1; promoted1 = one j; promoted2 = two j })

-- counting goes on behind an item of a dead kind
pub counting_over : (rows : List TypeRow) (h : HeapView) (k first e place : ℕ) (before tally : Tally)
    → IsHome rows h k first e → IsCounting rows h k first e place before tally → place < e → (mt size : ℕ)
    → IsDeadKind rows (record { mt = mt; size = size }) → mt ≡ word_of h place
    → IsCounting rows h k first e (place + size) before (record tally { freed = tally.freed + 1 })
counting_over rows h k first e place before tally home s below mt size kind word =
    subst (λ (t : Tally). IsCounting rows h k first e (place + size) before t)
    (dead-tally rows h place mt size kind word tally)
    (subst (λ (n : ℕ). IsCounting rows h k first e (place + n) before
    (plus tally (item_tally h (item_at rows (word_of h) place)))) (sym (dead-size rows h place mt size kind word))
    (counting_goes_on rows h k first e place before tally home s below))
