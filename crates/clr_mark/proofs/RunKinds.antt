-- Kinds of objects whose references are one run: what makes one known.
use Rattle.std.proofs.Common.{◌≡◌, ℕ, ◌-◌, ◌/◌, false, List, refl, sym, ap, ◌∙◌, arith}
use Rattle.clr_types.specs.Descriptors.{offsets_from, reference_offsets}
use Rattle.clr_types.specs.ReferenceRuns.{SpellsReferences}
use Rattle.clr_types.specs.Types.{TypeRow, form_at, is_array, mt_of}
use Rattle.clr_types.specs.declared.TypeId.{TypeId}
use Rattle.clr_types.specs.declared.descriptors.ReferenceRun.{ReferenceRun}
use Rattle.clr_heap.specs.Parts.{item_at, length_at, type_number, unmarked}
use Rattle.clr_mark.specs.Kinds.{IsRunKind}
use Rattle.clr_mark.specs.Markings.{item_references}

-- the type of an item tells its references, where it has no length
same_references : (rows : List TypeRow) (word : ℕ → ℕ) (a n : ℕ) → type_number (word a) ≡ n
    → is_array (form_at rows n) ≡ false
    → item_references rows (item_at rows word a) ≡ reference_offsets (form_at rows n) 0
unfolding item_at length_at
same_references rows word a n same none = rw (same, none) refl

-- the word of an item tells its type
type-item_at : (rows : List TypeRow) (word : ℕ → ℕ) (a : ℕ)
    → (item_at rows word a).type_id.0 ≡ type_number (word a)
unfolding item_at
type-item_at rows word a = refl

-- one object of a kind tells what all of it are
pub run_kind : (rows : List TypeRow) (word : ℕ → ℕ) (a mt : ℕ) (t : TypeId) (run : ReferenceRun)
    → mt ≡ unmarked (word a) → t ≡ (item_at rows word a).type_id → is_array (form_at rows t.0) ≡ false
    → SpellsReferences (form_at rows t.0) 0 run → IsRunKind rows (record { mt = mt; run = run })
run_kind rows word a mt t run at is none spelled =
    let number : t.0 ≡ type_number (word a) = ap (λ (u : TypeId). u.0) is ∙ type-item_at rows word a in
    record {
      run = λ other b e.
          let same : type_number (other b) ≡ t.0 =
          ap (λ (w : ℕ). (w - mt_of 0) / 64) (e ∙ at) ∙ sym number in
          same_references rows other b t.0 same none ∙ spelled;
    }

-- an odd word is that of no kind
pub no_kind : (rows : List TypeRow) (run : ReferenceRun) → IsRunKind rows (record { mt = 1; run = run })
no_kind rows run = record { run = λ word a e. absurd (odd (word a) e) }
  where
    odd : (w : ℕ) → unmarked w ≡ 1 → ⊥
    odd w e = omega arith
