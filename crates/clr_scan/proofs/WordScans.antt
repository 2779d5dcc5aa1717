-- A scan of words of an item, some or all of which are references.
use Rattle.std.proofs.Common.{◌≡◌, inl, inr, ℕ, zero, suc, ◌+◌, ◌*◌, ◌^◌, ◌<◌, ◌≤◌, Bool, true, false, List, refl}
use Rattle.std.proofs.Common.{if◌then◌else◌, not, ◌&&◌, ◌||◌, ◌==◌, nat_lt, ap, sym, ◌∙◌, subst, arith}
use Rattle.std.proofs.lemmas.Bool.{cases_eq, cases_lt, true≢false}
use Rattle.clr_types.specs.Descriptors.{offsets_from}
use Rattle.clr_types.specs.Rising.{IsIn}
use Rattle.clr_types.specs.Segments.{generation}
use Rattle.clr_types.specs.Types.{TypeRow}
use Rattle.clr_types.specs.declared.item.Item.{Item}
use Rattle.clr_types.proofs.RisingLists.{in_cons}
use Rattle.clr_heap.specs.Memories.{HasWord, memory_index}
use Rattle.clr_heap.specs.View.{frame, heap_items, HeapView, word_of}
use Rattle.clr_view.specs.View.{is_object}
use Rattle.clr_scan.specs.References.{IsQuiet, IsReferenceOf}
use Rattle.clr_scan.specs.Scans.{HasScanned, IsTraced}
use Rattle.clr_mark.specs.Marks.{IsClosed}
use Rattle.clr_mark.specs.Markings.{item_references}
use Rattle.clr_mark.specs.Waiting.{IsGray, MarkerView}
use Rattle.clr_scan.proofs.CardScans.{quiet-spared, ref_has, ref_index, ref_low, ref_word, same-age}
use Rattle.clr_scan.proofs.CardScans.{scanned-refl, scanned-trans, traced-from, traced-on}
use Rattle.clr_scan.proofs.SlotScans.{slot_clear, slot_silent, younger_joined, younger_parts}
use Rattle.clr_mark.proofs.RunReferences.{run_listed}

-- an offset of a run by its number
run_number : (offset count o : ℕ) → IsIn o (offsets_from offset count) → (n : ℕ) × (n < count) × (o ≡ offset + 8 * n)
run_number offset zero o l = elim l [ ]
run_number offset (suc count) o l = elim (in_cons l) [
  | inl here ↦ (0, omega arith, omega (arith, here))
  | inr more ↦ let (n, below, at) = run_number (offset + 8) count o more in (suc n, omega arith, omega (arith, at))
]

-- word j of the run is a reference
pub word_reference : (rows : List TypeRow) (i : Item) (offset count j : ℕ) → is_object i ≡ true
    → item_references rows i ≡ offsets_from offset count → j < count → IsReferenceOf rows i (i.place + offset + 8 * j)
word_reference rows i offset count j object all l = record {
  object = object;
  offset = offset + 8 * j;
  reference = subst (λ (os : List ℕ). IsIn (offset + 8 * j) os) (sym all) (run_listed offset count j l);
  address = omega arith;
}

-- a reference by its number in the run
pub word_number : (rows : List TypeRow) (i : Item) (offset count : ℕ)
    → item_references rows i ≡ offsets_from offset count → (a : ℕ) → IsReferenceOf rows i a
    → (n : ℕ) × (n < count) × (a ≡ i.place + offset + 8 * n)
word_number rows i offset count all a r =
    let (n, below, at) = run_number offset count r.offset
    (subst (λ (os : List ℕ). IsIn r.offset os) all r.reference) in
    let address = r.address in
    (n, below, omega (arith, address, at))

-- the words of the run can be read
module _ (rows : List TypeRow) (h : HeapView) (closed : IsClosed rows h) (i : Item)
    (listed : IsIn i (heap_items rows h)) (offset count : ℕ) (object : is_object i ≡ true)
    (all : item_references rows i ≡ offsets_from offset count)
    (j : ℕ) (below : j < count) where
  reference : IsReferenceOf rows i (i.place + offset + 8 * j)
  reference = word_reference rows i offset count j object all below

  pub word_has : HasWord h.memories (i.place + offset + 8 * j)
  word_has = ref_has rows h closed i listed (i.place + offset + 8 * j) reference

  pub word_index : memory_index h.memories i.place ≡ memory_index h.memories (i.place + offset + 8 * j)
  word_index = ref_index rows h closed i listed (i.place + offset + 8 * j) reference

  pub word_low : i.place + offset + 8 * j < 2 ^ 64
  word_low = ref_low rows h closed i listed (i.place + offset + 8 * j) reference

-- What references among words name is followed, from number `from` up to j, where word 0 stands at `base`. The others
-- of these words may hold anything.
pub record IsWordScan (rows : List TypeRow) (h now : HeapView) (m n : MarkerView) (i : Item) (base age from j : ℕ)
    (younger : Bool) : Type 0 where
  pub gray : IsGray rows now n
  pub scanned : HasScanned rows h now m n
  pub traced : (s : ℕ) → from ≤ s → s < j → IsReferenceOf rows i (base + 8 * s)
      → IsTraced h rows now m.oldest (base + 8 * s)
  pub clear : younger ≡ false → (s : ℕ) → from ≤ s → s < j → IsReferenceOf rows i (base + 8 * s)
      → IsQuiet h age (base + 8 * s)
  pub silent : ((s : ℕ) → from ≤ s → s < j → IsReferenceOf rows i (base + 8 * s) → IsQuiet h age (base + 8 * s))
      → younger ≡ false

pub word_scan_starts : (rows : List TypeRow) (h : HeapView) (m : MarkerView) (i : Item) (base age from : ℕ)
    → IsGray rows h m → IsWordScan rows h h m m i base age from from false
word_scan_starts rows h m i base age from g =
    record {
      gray = g;
      scanned = scanned-refl rows h m;
      traced = λ s l b. absurd (omega arith);
      clear = λ e s l b.
          absurd (omega arith);
      silent = λ _. refl;
    }

module _ (rows : List TypeRow) (h now : HeapView) (m n : MarkerView) (i : Item) (base age from j : ℕ) (younger : Bool)
    (closed : IsClosed rows h) (listed : IsIn i (heap_items rows h))
    (s : IsWordScan rows h now m n i base age from j younger) where
  -- the next word was followed
  module _ (r : IsReferenceOf rows i (base + 8 * j)) where
    same : word_of now (base + 8 * j) ≡ word_of h (base + 8 * j)
    same = ref_word rows h closed i listed (base + 8 * j) r now s.scanned.remarked

    pub word_followed : (new : HeapView) (o : MarkerView) (below : Bool) → IsGray rows new o
        → HasScanned rows now new n o → IsTraced now rows new n.oldest (base + 8 * j)
        → below ≡ (not (word_of now (base + 8 * j) == 0)
        && nat_lt (generation (frame now) (word_of now (base + 8 * j))) age) → from ≤ j
        → IsWordScan rows h new m o i base age from (j + 1) (younger || below)
    word_followed new o below gray q traced test low =
        let here : IsTraced h rows new m.oldest (base + 8 * j) =
        traced-from h rows now new m n (base + 8 * j) s.scanned same traced in
        let word = word_of now (base + 8 * j) in
        let clear = slot_clear word age (generation (frame now) word) below test in
        let silent = slot_silent word age (generation (frame now) word) below test in
        let parts = younger_parts younger below in
        let w = ap (generation (frame now)) same in
        let a = same-age rows h now (word_of h (base + 8 * j)) s.scanned.remarked in
        record {
          gray = gray;
          scanned = scanned-trans rows h now new m n o closed.heap closed.held s.scanned q;
          traced = λ t l b e. elim (cases_eq t j) [
            | inl is ↦ subst (λ k. IsTraced h rows new m.oldest (base + 8 * k)) (sym is) here
            | inr ne ↦ traced-on h rows now new m.oldest (base + 8 * t) q.kept (s.traced t l (omega arith) e)
          ];
          clear = λ none t l b e. elim (cases_eq t j) [
            | inl is ↦ subst (λ k. IsQuiet h age (base + 8 * k)) (sym is)
                (λ ne less. clear (parts none).1 (λ e. ne (sym same ∙ e)) (omega (arith, w, a, less)))
            | inr ne ↦ s.clear (parts none).0 t l (omega arith) e
          ];
          silent = λ all. younger_joined younger below (s.silent (λ t l b e. all t l (omega arith) e))
              (silent (λ ne less. all j low (omega arith) r (λ e. ne (same ∙ e)) (omega (arith, w, a, less))));
        }

  -- the next word is no reference
  pub word_skipped : (IsReferenceOf rows i (base + 8 * j) → ⊥)
      → IsWordScan rows h now m n i base age from (j + 1) younger
  word_skipped other = record {
    gray = s.gray;
    scanned = s.scanned;
    traced = λ t l b e. elim (cases_eq t j)
        [ inl is ↦ absurd (other (here t is e)) | inr ne ↦ s.traced t l (omega arith) e ];
    clear = λ none t l b e. elim (cases_eq t j)
        [ inl is ↦ absurd (other (here t is e)) | inr ne ↦ s.clear none t l (omega arith) e ];
    silent = λ all. s.silent (λ t l b e. all t l (omega arith) e);
  }
    where
      here : (t : ℕ) → t ≡ j → IsReferenceOf rows i (base + 8 * t) → IsReferenceOf rows i (base + 8 * j)
      here t is e = subst (λ k. IsReferenceOf rows i (base + 8 * k)) is e

  -- words were passed that name nothing that the scan still looks for
  pub words_passed : (met bound : ℕ) → bound ≡ (if younger then n.oldest + 1 else age) → n.oldest < bound
      → ((t : ℕ) → j ≤ t → t < met → IsQuiet now bound (base + 8 * t)) → j ≤ met
      → IsWordScan rows h now m n i base age from met younger
  words_passed met bound is above quiet up =
      record {
        gray = s.gray;
        scanned = s.scanned;
        traced = λ t l b e. elim (cases_lt t j) [
          | inl before ↦ s.traced t l before e
          | inr here ↦ traced-from h rows now now m n (base + 8 * t) s.scanned (same t e)
              (λ ne near. absurd (true≢false (sym near
              ∙ quiet-spared now n.oldest bound (base + 8 * t) above (quiet t here b) ne)))
        ];
        clear = λ none t l b e. elim (cases_lt t j) [
          | inl before ↦ s.clear none t l before e
          | inr here ↦ quiet_back t e
              (subst (λ g. IsQuiet now g (base + 8 * t)) (is ∙ (λ k. if none k then n.oldest + 1 else age))
              (quiet t here b))
        ];
        silent = λ all. s.silent (λ t l b e. all t l (omega arith) e);
      }
    where
      same : (t : ℕ) → IsReferenceOf rows i (base + 8 * t) → word_of now (base + 8 * t) ≡ word_of h (base + 8 * t)
      same t r = ref_word rows h closed i listed (base + 8 * t) r now s.scanned.remarked

      quiet_back : (t : ℕ) → IsReferenceOf rows i (base + 8 * t) → IsQuiet now age (base + 8 * t)
          → IsQuiet h age (base + 8 * t)
      quiet_back t r quiet ne less =
          let w = ap (generation (frame now)) (same t r) in
          let a = same-age rows h now (word_of h (base + 8 * t)) s.scanned.remarked in
          quiet (λ e. ne (sym (same t r) ∙ e)) (omega (arith, w, a, less))

  -- where no reference on the stretch names anything of a lower generation, none was found
  pub words_silent : (lo hi : ℕ) → ((a : ℕ) → IsReferenceOf rows i a → lo ≤ a → a < hi → IsQuiet h age a)
      → ((t : ℕ) → from ≤ t → t < j → (lo ≤ base + 8 * t) × (base + 8 * t < hi)) → younger ≡ false
  words_silent lo hi all inside = s.silent (λ t l b e. all (base + 8 * t) e (inside t l b).0 (inside t l b).1)

  -- at the end each reference on the stretch is followed
  module _ (count to lo hi : ℕ)
      (all : (a : ℕ) → IsReferenceOf rows i a → (t : ℕ) × (t < count) × (a ≡ base + 8 * t)) (past : to ≤ j)
      (before : (t : ℕ) → t < from → base + 8 * t < lo) (after : (t : ℕ) → to ≤ t → t < count → hi ≤ base + 8 * t) where
    number : (a : ℕ) → IsReferenceOf rows i a → lo ≤ a → a < hi → (t : ℕ) × (from ≤ t) × (t < j) × (a ≡ base + 8 * t)
    number a r low high =
        let (t, below, here) = all a r in
        let above : from ≤ t = elim (cases_lt t from)
        [ inl l ↦ let b = before t l in absurd (omega (arith, here, low, b)) | inr l ↦ l ] in
        let under : t < to = elim (cases_lt t to)
        [ inl l ↦ l | inr l ↦ let b = after t l below in absurd (omega (arith, here, high, b)) ] in
        (t, above, omega arith, here)

    pub words_traced : (a : ℕ) → IsReferenceOf rows i a → lo ≤ a → a < hi → IsTraced h rows now m.oldest a
    words_traced a r low high = let (t, above, under, here) = number a r low high in
        subst (IsTraced h rows now m.oldest) (sym here)
        (s.traced t above under (subst (IsReferenceOf rows i) here r))

    pub words_clear : younger ≡ false → (a : ℕ) → IsReferenceOf rows i a → lo ≤ a → a < hi → IsQuiet h age a
    words_clear none a r low high = let (t, above, under, here) = number a r low high in
        subst (IsQuiet h age) (sym here) (s.clear none t above under (subst (IsReferenceOf rows i) here r))

-- one word more is passed
pub quiet_next : (h : HeapView) (age base from j : ℕ)
    → ((s : ℕ) → from ≤ s → s < j → IsQuiet h age (base + 8 * s)) → IsQuiet h age (base + 8 * j) → (s : ℕ) → from ≤ s
    → s < j + 1 → IsQuiet h age (base + 8 * s)
quiet_next h age base from j all here s low below = elim (cases_eq s j) [
  | inl is ↦ subst (λ k. IsQuiet h age (base + 8 * k)) (sym is) here
  | inr ne ↦ all s low (omega arith)
]

-- an empty run has no references
pub no_words : (rows : List TypeRow) (i : Item) (offset count a : ℕ)
    → item_references rows i ≡ offsets_from offset count → count ≡ 0 → IsReferenceOf rows i a → ⊥
no_words rows i offset count a all none r = let (n, below, at) = word_number rows i offset count all a r in
    omega arith
