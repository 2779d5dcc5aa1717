-- The words that are put of a segment's parts are the cells of its items.
use Rattle.std.proofs.Common.{◌≡◌, ℕ, ◌+◌, ◌-◌, ◌*◌, ◌/◌, ◌%◌, ◌^◌, ◌≤◌, ◌<◌, ◌||◌, ◌==◌, Bool, true, false, not}
use Rattle.std.proofs.Common.{List, [], ◌∷◌, length, map, refl, ap, sym, ◌∙◌, subst, subst₂, arith, inl, inr}
use Rattle.std.specs.List.{flat_map}
use Rattle.std.proofs.lemmas.Bool.{eqb-true}
use Rattle.clr_mem.specs.Words.{byte_of, zeros}
use Rattle.clr_mem.proofs.Digits.{byte_of-zero_word}
use Rattle.clr_types.specs.Rising.{first, IsIn, later}
use Rattle.clr_types.proofs.RisingLists.{in_cons}
use Rattle.clr_types.specs.Types.{bytes_form, form_at, has_finalizer, mt_of, size_of, type_row, TypeRow}
use Rattle.clr_types.specs.declared.item.Item.{Item}
use Rattle.clr_types.specs.declared.segment.SegInfo.{SegInfo}
use Rattle.clr_types.specs.declared.segment.SegKind.{SegKind}
use Rattle.clr_types.specs.declared.segment.SegKind.TheVariants.{Small, Ephemeral, Large, Pinned}
use Rattle.clr_heap.specs.Memories.{word_address}
use Rattle.clr_heap.specs.Parts.{free_item, item_part, items_in, made_item, Part, rest_part, Sight, Spells}
use Rattle.clr_heap.proofs.Spelling.{item_size, Spells-le}
use Rattle.clr_view.specs.View.{is_object}
use Rattle.clr_view.proofs.Items.{IsItem}
use Rattle.clr_sos.specs.CheckedCells.{is_header, is_whole, may_hold, Rules}
use Rattle.clr_format.specs.HeapFields.{rules_with}
use Rattle.clr_save.specs.SavedWords.{cell_words, free_words, part_words, words_at}
use Rattle.clr_save.specs.WrittenCells.{AreCells, IsCell}
use Rattle.clr_save.proofs.LowBytes.{put_as, put_as-byte, put_as-same}
use Rattle.clr_save.proofs.SavedItems.{one-is, rest-is, saved_item}
use Rattle.clr_save.proofs.WordRuns.{has-at, has-left, has-right, HasRun, has-zeros, length-free, length-words_at}
use Rattle.clr_save.proofs.WrittenCells.{least_size, whole_size}

-- a word as it is put
abbrev pub put_word : (ℕ → ℕ) → ℕ → ℕ
put_word word a = put_as (word a)

-- ---- objects

-- a header says little, and so is put as it is
header-same : (header : ℕ) → is_header header ≡ true → put_as header ≡ header
header-same header is = put_as-same header (let small : header ≤ 0x40000000 = grind (arith, is) in omega arith)

-- the words of an object's cell are put as they are but for what no byte tells
pub cell-put : (rules : Rules) (word w : ℕ → ℕ) (p t len : ℕ) → length rules.rows ≤ 1000 → len < 2 ^ 64
    → IsCell rules word p t len
    → ((a : ℕ) → a % 8 ≡ 0 → p ≤ a + 8 → a + 8 < p + size_of (form_at rules.rows t) len → w a ≡ put_as (word a))
    → IsCell rules w p t len
cell-put rules word w p t len few small cell agrees =
    let z = cell.aligned in
    let above = cell.above in
    let known = cell.known in
    let least = least_size (form_at rules.rows t) len in
    let header : w (p - 8) ≡ word (p - 8) =
    agrees (p - 8) (omega arith) (omega arith) (omega arith) ∙ header-same (word (p - 8)) cell.header in
    let mt : w p ≡ mt_of t =
    agrees p z (omega arith) (omega arith) ∙ ap put_as cell.mt ∙ put_as-same (mt_of t) (omega arith) in
    record {
      aligned = z;
      above = above;
      header = ap is_header header ∙ cell.header;
      final = ap (λ (v : ℕ). (v == 0) || has_finalizer (type_row rules.rows t)) header ∙ cell.final;
      known = known;
      mt = mt;
      held = cell.held;
      length_word = λ array. agrees (p + 8) (omega arith) (omega arith) (omega arith)
          ∙ ap put_as (cell.length_word array) ∙ put_as-same len small;
      no_length = cell.no_length;
      length_fits = cell.length_fits;
      whole = cell.whole;
      padding = λ a from low high.
          ap (λ (v : ℕ). byte_of v (a % 8)) (agrees (word_address a) (omega arith) (omega arith) (omega arith))
          ∙ put_as-byte (word (word_address a)) (a % 8) (omega arith) ∙ cell.padding a from low high;
    }

-- ---- free items

-- each segment may hold them
free-held : (kind : SegKind) → may_hold kind bytes_form ≡ true
free-held Small = refl
free-held Ephemeral = refl
free-held Large = refl
free-held Pinned = refl

-- what stands in the words of a free item
record IsFreeCell (w : ℕ → ℕ) (p size : ℕ) : Type 0 where
  pub header : w (p - 8) ≡ 0
  pub mt : w p ≡ mt_of 0
  pub len : w (p + 8) ≡ size - 24
  pub clear : (a : ℕ) → a % 8 ≡ 0 → p + 16 ≤ a → a + 8 < p + size → w a ≡ 0

free-words : (w : ℕ → ℕ) (p size : ℕ) → p % 8 ≡ 0 → 8 ≤ p → 24 ≤ size → size % 8 ≡ 0
    → HasRun w (p - 8) (free_words size) → IsFreeCell w p size
unfolding free_words
free-words w p size z above least whole h =
    let second : p - 8 + 8 ≡ p = omega arith in
    let third : p - 8 + 8 + 8 ≡ p + 8 = omega arith in
    let fourth : p - 8 + 8 + 8 + 8 ≡ p + 16 = omega arith in
    let rest = subst (λ (b : ℕ). HasRun w b (zeros ((size - 24) / 8))) fourth h.1.1.1 in
    record {
      header = h.0;
      mt = ap w (sym second) ∙ h.1.0;
      len = ap w (sym third) ∙ h.1.1.0;
      clear = λ a aligned low high. has-zeros w (p + 16) ((size - 24) / 8) a rest (omega arith) low (omega arith);
    }

free-cell : (rules : Rules) (w : ℕ → ℕ) (p size : ℕ) → rules.free_is_clear ≡ true → p % 8 ≡ 0 → 8 ≤ p → 24 ≤ size
    → size % 8 ≡ 0 → HasRun w (p - 8) (free_words size) → is_whole rules p 0 size ≡ true
    → IsCell rules w p 0 (size - 24)
free-cell rules w p size must z above least whole h inside =
    let cell = free-words w p size z above least whole h in
    let same : size_of (form_at rules.rows 0) (size - 24) ≡ size = omega arith in
    record {
      aligned = z;
      above = above;
      header = ap is_header cell.header;
      final = ap (λ (v : ℕ). (v == 0) || has_finalizer (type_row rules.rows 0)) cell.header;
      known = omega arith;
      mt = cell.mt;
      held = free-held rules.kind;
      length_word = λ array. cell.len;
      no_length = λ none. absurd cc;
      length_fits = let z : (size - 24) % 8 ≡ 0 = omega arith in grind (arith, z);
      whole = ap (is_whole rules p 0) same ∙ inside;
      padding = λ a from low high.
          let far : p + 16 ≤ a = grind (arith, must, from) in
          ap (λ (v : ℕ). byte_of v (a % 8)) (cell.clear (word_address a) (omega arith) (omega arith) (omega arith))
          ∙ byte_of-zero_word (a % 8);
    }

-- ---- the parts of a segment

-- an object of the heap has its cell
pub record IsObjectCell (rules : Rules) (word : ℕ → ℕ) (i : Item) : Type 0 where
  pub cell : IsCell rules word i.place i.type_id.0 i.len
  pub small : i.len < 2 ^ 64

-- a word of an object's cell is put
object-word : (rows : List TypeRow) (word w : ℕ → ℕ) (p : ℕ) (i : Item) (a : ℕ) → IsItem rows p (p + i.size) i
    → 8 ≤ p → i.place ≡ p → (i.type_id.0 == 0) ≡ false
    → HasRun w (p - 8) (cell_words (put_word word) false i.place i.size) → a % 8 ≡ 0 → p ≤ a + 8
    → a + 8 < p + i.size → w a ≡ put_as (word a)
object-word rows word w p i a is above at some h aligned low high =
    let z = is.aligned in
    let sized = is.sized in
    let whole = whole_size (form_at rows i.type_id.0) i.len in
    let words : HasRun w (p - 8) (words_at (put_word word) (p - 8) (i.size / 8)) =
    subst (λ (q : ℕ). HasRun w (p - 8) (words_at (put_word word) (q - 8) (i.size / 8))) at h in
    has-at w (put_word word) (p - 8) (i.size / 8) a words (omega arith) (omega arith) (omega arith)

-- how many words a part has
pub item-length : (word : ℕ → ℕ) (i : Item) → 24 ≤ i.size → i.size % 8 ≡ 0
    → 8 * length (part_words word (item_part i)) ≡ i.size
item-length word i least whole = go (i.type_id.0 == 0)
  where
    go : (b : Bool) → 8 * length (cell_words word b i.place i.size) ≡ i.size
    go true = length-free i.size least whole
    go false = let n = length-words_at word (i.place - 8) (i.size / 8) in omega (arith, n)

module _ (s : Sight) (large : ℕ) (g : SegInfo) (start1 start0 : ℕ) (few : length s.rows ≤ 1000) (w : ℕ → ℕ) where
  abbrev rules : Rules
  rules = rules_with large s.rows g start1 start0

  made-is : (low high p : ℕ) (i : Item) → IsItem s.rows low high i → i.place ≡ p
      → i ≡ made_item s.rows p i.type_id.0 i.len
  made-is low high p i is at =
      let size = is.sized in λ j. record { place = at j; size = size j; type_id = i.type_id; len = i.len }

  item-cell : (p : ℕ) (i : Item) → 8 ≤ p → IsItem s.rows p (p + i.size) i → i.place ≡ p
      → (is_object i ≡ true → IsObjectCell rules s.word i) → is_whole rules i.place i.type_id.0 i.size ≡ true
      → HasRun w (p - 8) (part_words (put_word s.word) (item_part i)) → IsCell rules w p i.type_id.0 i.len
  item-cell p i above is at object whole h = go (i.type_id.0 == 0) refl h
    where
      go : (b : Bool) → (i.type_id.0 == 0) ≡ b
          → HasRun w (p - 8) (cell_words (put_word s.word) b i.place i.size) → IsCell rules w p i.type_id.0 i.len
      go true e h =
          let type = eqb-true i.type_id.0 0 e in
          let size : i.size ≡ size_of (form_at s.rows 0) i.len =
          is.sized ∙ ap (λ (t : ℕ). size_of (form_at s.rows t) i.len) type in
          let words = is.whole type in
          let least = is.least in
          let z = is.aligned in
          let len : i.size - 24 ≡ i.len = omega arith in
          let here : is_whole rules p 0 i.size ≡ true =
          (λ j. is_whole rules (sym at j) (sym type j) i.size) ∙ whole in
          subst₂ (λ (t n : ℕ). IsCell rules w p t n) (sym type) len
          (free-cell rules w p i.size refl (omega arith) above least (omega arith) h here)
      go false e h =
          let object = object (ap not e) in
          let sized = is.sized in
          cell-put rules s.word w p i.type_id.0 i.len few object.small
          (subst (λ (q : ℕ). IsCell rules s.word q i.type_id.0 i.len) at object.cell)
          (λ a aligned low high. object-word s.rows s.word w p i a is above at e h aligned low (omega arith))

  -- the words of the cell of an object among parts
  pub words-agree : (ps : List Part) (p : ℕ) → p % 8 ≡ 0 → 8 ≤ p → Spells s p ps g.end
      → HasRun w (p - 8) (flat_map (part_words (put_word s.word)) ps) → (i : Item) → IsIn i (items_in ps)
      → (i.type_id.0 == 0) ≡ false → (a : ℕ) → a % 8 ≡ 0 → i.place ≤ a + 8 → a + 8 < i.place + i.size
      → w a ≡ put_as (s.word a)
  words-agree [] p z above spells words i l some a aligned low high = elim l [ ]
  words-agree (item_part j ∷ ps) p z above spells words i l some a aligned low high =
      let f = item_size s j p spells.1 spells.2 in
      let is = one-is s j p g.end ps z spells in
      let at : j.place ≡ p = let low = is.above in let high = is.below in omega arith in
      let least = is.least in
      let count = item-length (put_word s.word) j least (omega arith) in
      let here = part_words (put_word s.word) (item_part j) in
      let rest = flat_map (part_words (put_word s.word)) ps in
      let next : p - 8 + 8 * length (part_words (put_word s.word) (item_part j)) ≡ p + j.size - 8 = omega arith in
      elim (in_cons l) [
        | inl same ↦
            let type : (j.type_id.0 == 0) ≡ false = ap (λ (x : Item). x.type_id.0 == 0) (sym same) ∙ some in
            let place = ap (λ (x : Item). x.place) same in
            let size = ap (λ (x : Item). x.size) same in
            object-word s.rows s.word w p j a is above at type
            (subst (λ (b : Bool). HasRun w (p - 8) (cell_words (put_word s.word) b j.place j.size)) type
            (has-left w (p - 8) here rest words)) aligned (omega arith) (omega arith)
        | inr more ↦
            words-agree ps (p + j.size) (omega arith) (omega arith) spells.3
            (subst (λ (b : ℕ). HasRun w b rest) next (has-right w (p - 8) here rest words)) i more some a aligned low
            high
      ]
  words-agree (rest_part from to ∷ ps) p z above spells words i l some a aligned low high =
      let at = spells.0 in
      let least = spells.2 in
      let whole = spells.3 in
      let count = length-free (to - from) (omega arith) (omega arith) in
      let here = free_words (to - from) in
      let rest = flat_map (part_words (put_word s.word)) ps in
      let next : p - 8 + 8 * length (free_words (to - from)) ≡ to - 8 = omega arith in
      words-agree ps to whole (omega arith) spells.4
      (subst (λ (b : ℕ). HasRun w b rest) next (has-right w (p - 8) here rest words)) i l some a aligned low high

  -- THE CELLS: the words that are put of parts are those of the items of the image
  pub saved-cells : (ps : List Part) (p : ℕ) → p % 8 ≡ 0 → 8 ≤ p → Spells s p ps g.end
      → HasRun w (p - 8) (flat_map (part_words (put_word s.word)) ps)
      → ((i : Item) → IsIn i (items_in ps) → is_object i ≡ true → IsObjectCell rules s.word i)
      → ((i : Item) → IsIn i (map saved_item ps) → is_whole rules i.place i.type_id.0 i.size ≡ true)
      → AreCells rules w p (map saved_item ps)
  saved-cells [] p z above spells words objects whole = spells
  saved-cells (item_part i ∷ ps) p z above spells words objects whole =
      let f = item_size s i p spells.1 spells.2 in
      let up = Spells-le s ps (p + i.size) g.end spells.3 in
      let is = one-is s i p g.end ps z spells in
      let at : i.place ≡ p = let low = is.above in let high = is.below in omega arith in
      let least = is.least in
      let count = item-length (put_word s.word) i least (omega arith) in
      let here = part_words (put_word s.word) (item_part i) in
      let rest = flat_map (part_words (put_word s.word)) ps in
      let next : p - 8 + 8 * length (part_words (put_word s.word) (item_part i)) ≡ p + i.size - 8 = omega arith in (
        omega arith,
        made-is p (p + i.size) p i is at,
        item-cell p i above is at (objects i first) (whole i first) (has-left w (p - 8) here rest words),
        saved-cells ps (p + i.size) (omega arith) (omega arith) spells.3
            (subst (λ (b : ℕ). HasRun w b rest) next (has-right w (p - 8) here rest words))
            (λ j l. objects j (later l)) (λ j l. whole j (later l)),
      )
  saved-cells (rest_part low high ∷ ps) p z above spells words objects whole =
      let at = spells.0 in
      let least = spells.2 in
      let aligned = spells.3 in
      let up = Spells-le s ps high g.end spells.4 in
      let is = rest-is s.rows p low high at z aligned least in
      let count = length-free (high - low) (omega arith) (omega arith) in
      let here = free_words (high - low) in
      let rest = flat_map (part_words (put_word s.word)) ps in
      let next : p - 8 + 8 * length (free_words (high - low)) ≡ high - 8 = omega arith in
      let end : high ≡ p + (high - low) = omega arith in (
        omega arith,
        made-is p high p (free_item low (high - low)) is at,
        free-cell rules w p (high - low) refl z above (omega arith) (omega arith) (has-left w (p - 8) here rest words)
            (ap (λ (q : ℕ). is_whole rules q 0 (high - low)) (sym at) ∙ whole (free_item low (high - low)) first),
        subst (λ (q : ℕ). AreCells rules w q (map saved_item ps)) end
            (saved-cells ps high aligned (omega arith) spells.4
            (subst (λ (b : ℕ). HasRun w b rest) next (has-right w (p - 8) here rest words)) objects
            (λ j l. whole j (later l))),
      )
