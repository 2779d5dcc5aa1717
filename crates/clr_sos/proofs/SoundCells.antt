-- What an item that passes the checks is.
use Rattle.std.proofs.Common.{◌≡◌, ℕ, suc, ◌+◌, ◌-◌, ◌%◌, ◌<◌, ◌≤◌, ◌==◌, ◌&&◌, ◌||◌, nat_le, nat_eq, Bool, true, false}
use Rattle.std.proofs.Common.{if◌then◌else◌, List, [], ◌∷◌, length, get_or, Option, Some, None, Ok, Err, refl, sym, ◌∙◌}
use Rattle.std.proofs.Common.{ap, arith, inl, inr}
use Rattle.std.proofs.lemmas.Bool.{and_parts, both_ways, cases_Bool}
use Rattle.clr_types.specs.Types.{form_at, has_finalizer, is_array, mt_of, size_of, type_row, TypeRow}
use Rattle.clr_types.specs.Ranges.{Piece, piece_end}
use Rattle.clr_types.specs.Segments.{same_kind}
use Rattle.clr_types.specs.declared.item.Item.{Item}
use Rattle.clr_types.specs.declared.segment.SegKind.{SegKind}
use Rattle.clr_types.specs.declared.segment.SegKind.TheVariants.{Small, Ephemeral, Large, Pinned}
use Rattle.clr_heap.specs.Parts.{hole_from, made_item}
use Rattle.clr_heap.specs.View.{HeapView, holes_of, last_of, segment_at}
use Rattle.clr_view.specs.Clean.{IsCleanHeader}
use Rattle.clr_sos.specs.CheckedCells.{begins_in, checked_item, checked_size, contents_fault, is_header, is_inside}
use Rattle.clr_sos.specs.CheckedCells.{is_length, is_whole, may_hold, number_in, Rules, sized_item, type_of_word}
use Rattle.clr_sos.specs.CheckedCells.{typed_item, Words}
use Rattle.clr_sos.specs.Faults.{AreInside}
use Rattle.clr_sos.proofs.PaddingBytes.{has_size}

-- an item of a type and a length passes the checks
pub record IsSound (rules : Rules) (word : ℕ → ℕ) (p : ℕ) (i : Item) : Type 0 where
  pub t : ℕ
  pub len : ℕ
  pub known : t ≤ length rules.rows
  pub mt : word p ≡ mt_of t
  pub held : may_hold rules.kind (form_at rules.rows t) ≡ true
  pub with_length : is_array (form_at rules.rows t) ≡ true → word (p + 8) ≡ len
  pub without : is_array (form_at rules.rows t) ≡ false → len ≡ 0
  pub length : is_length rules.rows t len ≡ true
  pub whole : is_whole rules p t (size_of (form_at rules.rows t) len) ≡ true
  pub is : i ≡ made_item rules.rows p t len
  pub contents : contents_fault rules (λ a. Some (word a)) p t len ≡ None
  pub header : IsCleanHeader rules.rows t (word (p - 8))

pub record IsSized (rules : Rules) (words : Words) (p t len : ℕ) (i : Item) : Type 0 where
  pub length : is_length rules.rows t len ≡ true
  pub whole : is_whole rules p t (size_of (form_at rules.rows t) len) ≡ true
  pub is : i ≡ made_item rules.rows p t len
  pub contents : contents_fault rules words p t len ≡ None

pub sized_ok : (rules : Rules) (words : Words) (p t len : ℕ) (i : Item)
    → sized_item rules words p t len (checked_size rules p t len) ≡ Ok i → IsSized rules words p t len i
sized_ok rules words p t len i e =
    go (is_length rules.rows t len) (is_whole rules p t (size_of (form_at rules.rows t) len))
    (contents_fault rules words p t len) refl refl refl
  where
    go : (a b : Bool) (f : Option ℕ) → is_length rules.rows t len ≡ a
        → is_whole rules p t (size_of (form_at rules.rows t) len) ≡ b → contents_fault rules words p t len ≡ f
        → IsSized rules words p t len i
    go false b f on fits none =
        let clash : Err (p + 8) ≡ Ok i = sym (rw on refl) ∙ e in absurd cc
    go true false f on fits none = let clash : Err (p - 8) ≡ Ok i = sym (rw (on, fits) refl) ∙ e in absurd cc
    go true true (Some a) on fits none = let clash : Err a ≡ Ok i = sym (rw (on, fits, none) refl) ∙ e in absurd cc
    go true true None on fits none =
        let same : Ok (made_item rules.rows p t len) ≡ Ok i = sym (rw (on, fits, none) refl) ∙ e in
        let is : i ≡ made_item rules.rows p t len = cc in
        record { length = on; whole = fits; is = is; contents = none }

-- a type's number is that of a row or of free space
pub type_known : (rows : List TypeRow) (mt t : ℕ) → type_of_word rows mt ≡ Some t → (t ≤ length rows) × (mt ≡ mt_of t)
type_known rows mt t e = elim (cases_Bool (nat_le (number_in mt) (length rows) && (mt_of (number_in mt) == mt))) [
  | inl on ↦
      let same : Some (number_in mt) ≡ Some t = sym (rw on refl) ∙ e in
      let is : number_in mt ≡ t = cc in
      let l : number_in mt ≤ length rows = grind (arith, on) in
      let word : mt_of (number_in mt) ≡ mt = grind (arith, on) in
      (omega arith, sym word ∙ ap mt_of is)
  | inr off ↦ let clash : None ≡ Some t = sym (rw off refl) ∙ e in absurd cc
]

module _ (rules : Rules) (word : ℕ → ℕ) (p : ℕ) (i : Item) where
  abbrev words : Words
  words a = Some (word a)

  lawful_header : (t : ℕ) → is_header (word (p - 8)) ≡ true
      → ((word (p - 8) == 0) || has_finalizer (type_row rules.rows t)) ≡ true
      → IsCleanHeader rules.rows t (word (p - 8))
  lawful_header t header on = elim (cases_Bool (word (p - 8) == 0)) [
    | inl none ↦ inl (grind (arith, none))
    | inr some ↦ inr (grind (arith, header, some), grind (arith, on, some))
  ]

  typed_ok : is_header (word (p - 8)) ≡ true → (o : Option ℕ) → type_of_word rules.rows (word p) ≡ o
      → typed_item rules words p (word (p - 8)) o ≡ Ok i → IsSound rules word p i
  typed_ok header None o e = elim (cases_Bool (word (p - 8) == 0)) [
    | inl on ↦ let clash : Err p ≡ Ok i = sym (rw on refl) ∙ e in absurd cc
    | inr off ↦ let clash : Err (p - 8) ≡ Ok i = sym (rw off refl) ∙ e in absurd cc
  ]
  typed_ok header (Some t) o e =
      let known = type_known rules.rows (word p) t o in
      go known ((word (p - 8) == 0) || has_finalizer (type_row rules.rows t))
      (may_hold rules.kind (form_at rules.rows t)) (is_array (form_at rules.rows t)) refl refl refl
    where
      go : (t ≤ length rules.rows) × (word p ≡ mt_of t) → (a held b : Bool)
          → ((word (p - 8) == 0) || has_finalizer (type_row rules.rows t)) ≡ a
          → may_hold rules.kind (form_at rules.rows t) ≡ held → is_array (form_at rules.rows t) ≡ b
          → IsSound rules word p i
      go known false held b on holds array = let clash : Err (p - 8) ≡ Ok i = sym (rw on refl) ∙ e in absurd cc
      go known true false b on holds array = let clash : Err p ≡ Ok i = sym (rw (on, holds) refl) ∙ e in absurd cc
      go known true true true on holds array =
          let sized = sized_ok rules words p t (word (p + 8)) i (sym (rw (on, holds, array) refl) ∙ e) in
          record {
            t = t;
            len = word (p + 8);
            known = known.0;
            mt = known.1;
            held = holds;
            with_length = λ y. refl;
            without =
                λ n. absurd (both_ways (is_array (form_at rules.rows t)) n array);
            length =
                sized.length;
            whole =
                sized.whole;
            is = sized.is;
            contents = sized.contents;
            header = lawful_header t header on;
          }
      go known true true false on holds array =
          let sized = sized_ok rules words p t 0 i (sym (rw (on, holds, array) refl) ∙ e) in
          record {
            t = t;
            len = 0;
            known = known.0;
            mt = known.1;
            held = holds;
            with_length =
                λ y. absurd (both_ways (is_array (form_at rules.rows t)) array y);
            without =
                λ n. refl;
            length =
                sized.length;
            whole =
                sized.whole;
            is = sized.is;
            contents = sized.contents;
            header = lawful_header t header on;
          }

  pub item_ok : checked_item rules words p ≡ Ok i → IsSound rules word p i
  unfolding checked_item
  item_ok e = elim (cases_Bool (is_inside rules p 24 && is_header (word (p - 8)))) [
    | inl on ↦
        typed_ok (and_parts (is_inside rules p 24) _ on).1 (type_of_word rules.rows (word p)) refl
        (sym (rw on refl) ∙ e)
    | inr off ↦ let clash : Err (p - 8) ≡ Ok i = sym (rw off refl) ∙ e in absurd cc
  ]

-- ---- in a segment

-- an item that passes ends within the segment, before the next hole
pub record IsRoomy (rules : Rules) (p : ℕ) (i : Item) : Type 0 where
  pub least : 24 ≤ i.size
  pub aligned : i.size % 8 ≡ 0
  pub below : p + i.size ≤ rules.end
  pub clear : begins_in rules.holes p (p + i.size) ≡ false
  pub place : i.place ≡ p

pub roomy : (rules : Rules) (word : ℕ → ℕ) (p : ℕ) (i : Item) → IsSound rules word p i → IsRoomy rules p i
roomy rules word p i s =
    let size : i.size ≡ size_of (form_at rules.rows s.t) s.len = ap (λ (j : Item). j.size) s.is in
    let form = has_size (form_at rules.rows s.t) s.len in
    let inside : is_inside rules p i.size ≡ true =
    ap (is_inside rules p) size
    ∙ (and_parts (is_inside rules p (size_of (form_at rules.rows s.t) s.len)) _ s.whole).0 in
    record {
      least = let l = form.least in omega (arith, size, l);
      aligned = ap (λ (n : ℕ). n % 8) size ∙ form.whole;
      below = grind (arith, inside);
      clear = grind (arith, inside);
      place = ap (λ (j : Item). j.place) s.is;
    }

-- ---- holes

record IsRest (holes : List (Option Piece)) (p high : ℕ) : Type 0 where
  number : ℕ
  rest : Piece
  is : get_or holes number None ≡ Some rest
  starts : rest.place ≡ p
  ends : piece_end rest ≡ high

rest_found : (holes : List (Option Piece)) (p high : ℕ) → hole_from holes p ≡ Some high → IsRest holes p high
rest_found [] p high e = let clash : None ≡ Some high = e in absurd cc
rest_found (None ∷ holes) p high e =
    let r = rest_found holes p high e in
    record { number = suc r.number; rest = r.rest; is = r.is; starts = r.starts; ends = r.ends }
rest_found (Some hole ∷ holes) p high e = elim (cases_Bool (nat_eq hole.place p)) [
  | inl here ↦
      let same : Some (piece_end hole) ≡ Some high = sym (rw here refl) ∙ e in
      record { number = 0; rest = hole; is = refl; starts = grind (arith, here); ends = cc }
  | inr other ↦
      let r = rest_found holes p high (sym (rw other refl) ∙ e) in
      record { number = suc r.number; rest = r.rest; is = r.is; starts = r.starts; ends = r.ends }
]

pub record IsRoom (h : HeapView) (k p high : ℕ) : Type 0 where
  pub higher : p + 24 ≤ high
  pub below : high ≤ last_of h k
  pub aligned : high % 8 ≡ 0

pub hole_inside : (h : HeapView) (k p high : ℕ) → AreInside h → k < length h.segments
    → hole_from (holes_of h k) p ≡ Some high → IsRoom h k p high
hole_inside h k p high inside l e = go (segment_at h k).kind refl e
  where
    go : (kind : SegKind) → (segment_at h k).kind ≡ kind
        → hole_from (if same_kind kind Ephemeral then h.rests else []) p ≡ Some high → IsRoom h k p high
    go Small is e = let clash : None ≡ Some high = e in absurd cc
    go Large is e = let clash : None ≡ Some high = e in absurd cc
    go Pinned is e = let clash : None ≡ Some high = e in absurd cc
    go Ephemeral is e =
        let r = rest_found h.rests p high e in
        let place = inside r.number k r.rest r.is l is in
        let starts = r.starts in
        let ends = r.ends in
        let least = place.least in
        let below = place.below in
        record { higher = omega arith; below = omega arith; aligned = sym (ap (λ (n : ℕ). n % 8) ends) ∙ place.aligned }
