-- Objects of a known kind.
use Rattle.std.proofs.Common.{◌≡◌, ◌≢◌, ℕ, ◌-◌, ◌/◌, true, false, Bool, ◌==◌, if◌then◌else◌, List, Option, Some, None}
use Rattle.std.proofs.Common.{refl, sym, ap, ◌∙◌, arith}
use Rattle.std.proofs.lemmas.Bool.{eqb-true}
use Rattle.clr_types.specs.Bits.{unmarked}
use Rattle.clr_types.specs.Types.{TypeRow, form_at, is_array, mt_of}
use Rattle.clr_types.specs.declared.item.Item.{Item}
use Rattle.clr_heap.specs.ObjectKinds.{IsObjectKind, known_size}
use Rattle.clr_heap.specs.Parts.{item_at, length_at, type_number}
use Rattle.clr_heap.specs.declared.kinds.ObjectKind.{ObjectKind}

-- no word has the odd one without its mark
pub none_known : (rows : List TypeRow) (kind : ObjectKind) → kind.mt ≡ 1 → IsObjectKind rows kind
none_known rows kind odd =
    record {
      object = λ word a e. absurd (omega (arith, odd, e));
      bare = λ word a e. absurd (omega (arith, odd, e));
      size = λ word a e. absurd (omega (arith, odd, e));
    }

-- what the words at a name, by the number of the type
pub item-number : (rows : List TypeRow) (word : ℕ → ℕ) (a : ℕ) → (item_at rows word a).type_id.0 ≡ type_number (word a)
unfolding item_at
item-number rows word a = refl

bare-length : (rows : List TypeRow) (word : ℕ → ℕ) (a : ℕ) → is_array (form_at rows (type_number (word a))) ≡ false
    → length_at rows word a ≡ 0
unfolding length_at
bare-length rows word a none = rw none refl

same-size : (rows : List TypeRow) (word other : ℕ → ℕ) (a b : ℕ) → type_number (other b) ≡ type_number (word a)
    → is_array (form_at rows (type_number (word a))) ≡ false
    → (item_at rows other b).size ≡ (item_at rows word a).size
unfolding item_at length_at
same-size rows word other a b same none = rw (same, none) refl

-- an object without a length tells what all objects with its word are
pub kind-known : (rows : List TypeRow) (word : ℕ → ℕ) (a : ℕ) (found : Item) → found ≡ item_at rows word a
    → found.type_id.0 ≢ 0 → is_array (form_at rows found.type_id.0) ≡ false
    → IsObjectKind rows (record { mt = unmarked (word a); size = found.size })
kind-known rows word a found is object none =
    let number : found.type_id.0 ≡ type_number (word a) = ap (λ (i : Item). i.type_id.0) is ∙ item-number rows word a in
    let bare : is_array (form_at rows (type_number (word a))) ≡ false =
    ap (λ (n : ℕ). is_array (form_at rows n)) (sym number) ∙ none in
    let same : (other : ℕ → ℕ) (b : ℕ) → unmarked (other b) ≡ unmarked (word a)
    → type_number (other b) ≡ type_number (word a) =
    λ other b e. ap (λ (w : ℕ). (w - mt_of 0) / 64) e in
    record {
      object = λ other b e zero. object (number ∙ sym (same other b e) ∙ sym (item-number rows other b) ∙ zero);
      bare = λ other b e. bare-length rows other b
          (ap (λ (n : ℕ). is_array (form_at rows n)) (same other b e) ∙ bare);
      size = λ other b e. same-size rows word other a b (same other b e) bare ∙ sym (ap (λ (i : Item). i.size) is);
    }

item-parts : (rows : List TypeRow) (word : ℕ → ℕ) (a t size : ℕ) → size ≡ (item_at rows word a).size
    → t ≡ type_number (word a) → length_at rows word a ≡ 0
    → ◌≡◌ {A = Item} (record { place = a; size = size; type_id = record { 0 = t }; len = 0 }) (item_at rows word a)
unfolding item_at
item-parts rows word a t size bytes number bare = λ i.
    record { place = a; size = bytes i; type_id = record { 0 = number i }; len = sym bare i }

-- the item at a, where its word is that of the known kind
pub item-known : (rows : List TypeRow) (word : ℕ → ℕ) (a t size : ℕ) (kind : ObjectKind) → IsObjectKind rows kind
    → ◌≡◌ {A = Option ℕ} (Some size) (known_size kind (word a)) → t ≡ type_number (word a)
    → ◌≡◌ {A = Item} (record { place = a; size = size; type_id = record { 0 = t }; len = 0 }) (item_at rows word a)
item-known rows word a t size kind known e number = go (unmarked (word a) == kind.mt) refl e
  where
    some-same : {x y : ℕ} → ◌≡◌ {A = Option ℕ} (Some x) (Some y) → x ≡ y
    some-same e = cc

    go : (b : Bool) → (unmarked (word a) == kind.mt) ≡ b
        → ◌≡◌ {A = Option ℕ} (Some size) (if b then Some kind.size else None)
        → ◌≡◌ {A = Item} (record { place = a; size = size; type_id = record { 0 = t }; len = 0 }) (item_at rows word a)
    go true same e =
        let here : unmarked (word a) ≡ kind.mt = eqb-true (unmarked (word a)) kind.mt same in
        let bytes : size ≡ (item_at rows word a).size = some-same e ∙ sym (known.size word a here) in
        item-parts rows word a t size bytes number (known.bare word a here)
    go false same e = let none : ◌≡◌ {A = Option ℕ} (Some size) None = e in absurd cc
