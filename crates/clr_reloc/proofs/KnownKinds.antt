-- Objects of a known kind, whose references are one run.
use Rattle.std.proofs.Common.{◌≡◌, ◌≢◌, ℕ, ◌-◌, ◌/◌, Bool, true, false, not, ◌==◌, List, Option, Some}
use Rattle.std.proofs.Common.{None, if◌then◌else◌, refl, sym, ap, ◌∙◌, subst, arith}
use Rattle.std.proofs.lemmas.Bool.{eqb-true, ne_eqb}
use Rattle.clr_types.specs.Bits.{unmarked}
use Rattle.clr_types.specs.ReferenceRuns.{SpellsReferences}
use Rattle.clr_types.specs.Types.{form_at, is_array, mt_of, TypeRow}
use Rattle.clr_types.specs.declared.item.Item.{Item}
use Rattle.clr_types.specs.declared.TypeId.{TypeId}
use Rattle.clr_types.specs.declared.descriptors.ReferenceRun.{ReferenceRun}
use Rattle.clr_heap.specs.ObjectKinds.{IsObjectKind, known_size}
use Rattle.clr_heap.specs.Parts.{item_at, type_number}
use Rattle.clr_heap.specs.declared.kinds.ObjectKind.{ObjectKind}
use Rattle.clr_heap.proofs.ObjectKinds.{item-known, item-number, kind-known, none_known}
use Rattle.clr_view.specs.View.{is_object}
use Rattle.clr_reloc.specs.RunKinds.{IsRunKind}
use Rattle.clr_reloc.specs.declared.kinds.RunKind.{RunKind}

-- an odd word is that of no kind
pub no_kind : (rows : List TypeRow) (kind : RunKind) → kind.object.mt ≡ 1 → IsRunKind rows kind
no_kind rows kind odd = record {
  object = none_known rows kind.object odd;
  run = λ word a e. absurd (omega (arith, odd, e));
}

-- an object without a length tells what all objects with its word are
pub kind_known : (rows : List TypeRow) (word : ℕ → ℕ) (a mt : ℕ) (found : Item) (run : ReferenceRun)
    → found ≡ item_at rows word a → mt ≡ word a → found.type_id.0 ≢ 0 → is_array (form_at rows found.type_id.0) ≡ false
    → SpellsReferences (form_at rows found.type_id.0) 0 run
    → IsRunKind rows (record { object = record { mt = unmarked mt; size = found.size }; run = run })
kind_known rows word a mt found run is at object none spelled =
    let number : found.type_id.0 ≡ type_number (word a) = ap (λ (i : Item). i.type_id.0) is ∙ item-number rows word a in
    let same : (other : ℕ → ℕ) (b : ℕ) → unmarked (other b) ≡ unmarked mt
    → found.type_id.0 ≡ (item_at rows other b).type_id.0 =
    λ other b e. number ∙ sym (ap (λ (w : ℕ). (w - mt_of 0) / 64) (e ∙ ap unmarked at)) ∙ sym (item-number rows other b)
    in
    record {
      object = subst (λ (w : ℕ). IsObjectKind rows (record { mt = unmarked w; size = found.size })) (sym at)
          (kind-known rows word a found is object none);
      run = λ other b e. subst (λ (n : ℕ). SpellsReferences (form_at rows n) 0 run) (same other b e) spelled;
    }

-- a size is known of this kind's word alone
known_word : (mt : ℕ) (kind : ObjectKind) (size : ℕ) → ◌≡◌ {A = Option ℕ} (Some size) (known_size kind mt)
    → unmarked mt ≡ kind.mt
known_word mt kind size e = go (unmarked mt == kind.mt) refl e
  where
    go : (b : Bool) → (unmarked mt == kind.mt) ≡ b
        → ◌≡◌ {A = Option ℕ} (Some size) (if b then Some kind.size else None) → unmarked mt ≡ kind.mt
    go true same e = eqb-true (unmarked mt) kind.mt same
    go false same e = let none : ◌≡◌ {A = Option ℕ} (Some size) None = e in absurd cc

-- what is at a, where its word is that of the known kind
module _ (rows : List TypeRow) (word : ℕ → ℕ) (a mt size t : ℕ) (kind : RunKind) (known : IsRunKind rows kind)
    (at : mt ≡ word a) (is : ◌≡◌ {A = Option ℕ} (Some size) (known_size kind.object mt))
    (number : t ≡ (unmarked mt - mt_of 0) / 64) where
  here : unmarked (word a) ≡ kind.object.mt
  here = known_word (word a) kind.object size (is ∙ ap (known_size kind.object) at)

  named : t ≡ type_number (word a)
  named = number ∙ ap type_number at

  same_type : t ≡ (item_at rows word a).type_id.0
  same_type = named ∙ sym (item-number rows word a)

  pub known_item : ◌≡◌ {A = Item} (record { place = a; size = size; type_id = record { 0 = t }; len = 0 })
      (item_at rows word a)
  known_item =
      item-known rows word a t size kind.object known.object (is ∙ ap (known_size kind.object) at) named

  pub known_object : is_object (record { place = a; size = size; type_id = record { 0 = t }; len = 0 }) ≡ true
  known_object = ap not (ne_eqb t 0 (λ e. known.object.object word a here (sym same_type ∙ e)))

  pub known_run : SpellsReferences (form_at rows t) 0 kind.run
  known_run = subst (λ (n : ℕ). SpellsReferences (form_at rows n) 0 kind.run) (sym same_type) (known.run word a here)
