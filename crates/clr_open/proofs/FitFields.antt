-- The first field of an image that no run has, segment by segment.
use Rattle.std.proofs.Common.{◌≡◌, ℕ, zero, suc, ◌+◌, ◌-◌, ◌*◌, ◌^◌, ◌<◌, ◌≤◌, ◌&&◌, Bool, true, false, nat_le, nat_lt}
use Rattle.std.proofs.Common.{if◌then◌else◌, List, [], ◌∷◌, ◌++◌, drop, get_or, length, take, refl, ap, ap₂, sym, ◌∙◌}
use Rattle.std.proofs.Common.{subst, arith, Option, None, Some, sum_by}
use Rattle.std.specs.Prelude.{slice_get}
use Rattle.std.specs.List.{AllByRecursion, list_all}
use Rattle.std.proofs.lemmas.Bool.{and_parts}
use Rattle.std.proofs.lemmas.Bool.Decides.{nat_tests}
use Rattle.std.proofs.lemmas.List.{drop_all, drop_more, take_all, take_more}
use Rattle.std.proofs.lemmas.List.Sums.{sum_by-cons}
use Rattle.clr_types.specs.LawfulLayout.{AreBounded, IsBoundedSegment, IsLawfulSegment}
use Rattle.clr_types.specs.Segments.{empty_segment, ephemeral, first_place, is_small_or_ephemeral}
use Rattle.clr_types.specs.Table.{IsLawfulRow}
use Rattle.clr_types.specs.Types.{bytes_form, class_form, Form, form_at, is_lawful_form, is_pattern_byte, name_of}
use Rattle.clr_types.specs.Types.{references_form, structs_form, type_row, TypeRow}
use Rattle.clr_types.specs.declared.segment.SegInfo.{SegInfo}
use Rattle.clr_heap.specs.View.{frame, HeapView}
use Rattle.clr_model.specs.LineGrammar.{is_name, is_name_byte, is_name_start}
use Rattle.clr_fields.specs.TypeFields.{form_pattern}
use Rattle.clr_sos.specs.CheckedCells.{or_else}
use Rattle.clr_format.specs.Images.{IsImage, Parts}
use Rattle.clr_load.specs.Shown.{ShowsParts}
use Rattle.clr_load.specs.declared.image.Image.{Image}
use Rattle.clr_open.specs.Fit.{bad_field, field_before, IsFit, IsUnfitAt, segment_in, unfit, unfit_head, unfit_segments}
use Rattle.clr_open.specs.Offsets.{AreHeadsAt, row_size, segments_from, type_size, types_size}
use Rattle.clr_open.proofs.ReadFields.{AreFieldsFound, fields-found, fields-of, types-more}

abbrev reserved_in : List SegInfo → ℕ
reserved_in ss = sum_by (λ (s : SegInfo). s.reserved) ss

-- The first k segments have no such field, and segment k stands at an offset that is no higher than what the segments
-- before it reserve.
pub record IsLookedTo (ss : List SegInfo) (at k front : ℕ) : Type 0 where
  pub low : front + sum_by (λ (s : SegInfo). s.reserved) (drop k ss) ≤ at + sum_by (λ (s : SegInfo). s.reserved) ss
  pub same : (memories : List ℕ) → AreHeadsAt at ss memories
      → (left : List ℕ) × AreHeadsAt front (drop k ss) left
      × (unfit_segments ss memories ≡ unfit_segments (drop k ss) left)

-- at the front nothing was looked at
pub none-looked : (ss : List SegInfo) (at : ℕ) → IsLookedTo ss at 0 at
none-looked ss at = record { low = omega arith; same = λ memories are. (memories, are, refl) }

-- a segment whose fields are good
good-head : (front : ℕ) (s : SegInfo) (ss : List SegInfo) (left : List ℕ) → bad_field s ≡ None
    → AreHeadsAt front (s ∷ ss) left
    → (rest : List ℕ) × AreHeadsAt (front + (48 + (s.end - first_place s))) ss rest
    × (unfit_segments (s ∷ ss) left ≡ unfit_segments ss rest)
good-head front s ss [] good are = absurd are
good-head front s ss (o ∷ os) good are =
    let at = are.0 in
    let next : o + (s.end - first_place s) ≡ front + (48 + (s.end - first_place s)) = omega (arith, at) in (
      os,
      subst (λ (n : ℕ). AreHeadsAt n ss os) next are.1,
      ap (λ (f : Option ℕ). or_else (field_before o f) (unfit_segments ss os)) good,
    )

-- and one that has a bad one
bad-head : (front d : ℕ) (s : SegInfo) (ss : List SegInfo) (left : List ℕ) → bad_field s ≡ Some d
    → AreHeadsAt front (s ∷ ss) left → unfit_segments (s ∷ ss) left ≡ Some (front + d)
bad-head front d s ss [] bad are = absurd are
bad-head front d s ss (o ∷ os) bad are =
    let at = are.0 in
    let is : o - 48 + d ≡ front + d = omega (arith, at) in
    ap (λ (f : Option ℕ). or_else (field_before o f) (unfit_segments ss os)) bad ∙ ap Some is

module _ (ss : List SegInfo) (at k front : ℕ) (l : k < length ss) (is : IsLookedTo ss at k front) where
  abbrev s : SegInfo
  s = get_or ss k empty_segment

  here : drop k ss ≡ s ∷ drop (k + 1) ss
  here = drop_more ss k empty_segment l

  total : reserved_in (drop k ss) ≡ s.reserved + reserved_in (drop (k + 1) ss)
  total = ap reserved_in here ∙ sum_by-cons (λ (t : SegInfo). t.reserved) s (drop (k + 1) ss)

  -- the next segment stands low, too
  looked-low : IsLawfulSegment s
      → front + (48 + (s.end - first_place s)) + reserved_in (drop (k + 1) ss) ≤ at + reserved_in ss
  looked-low lawful =
      let low = is.low in
      let sum = total in
      let high = lawful.high in
      let least = lawful.least in
      omega (arith, low, sum, high, least)

  -- it has no such field
  pub looked-more : IsLawfulSegment s → bad_field s ≡ None
      → IsLookedTo ss at (k + 1) (front + (48 + (s.end - first_place s)))
  looked-more lawful good = record {
    low = looked-low lawful;
    same = λ memories are.
        let (left, there, e) = is.same memories are in
        let (rest, next, f) = good-head front s (drop (k + 1) ss) left good
        (subst (λ (ts : List SegInfo). AreHeadsAt front ts left) here there) in
        (rest, next, e ∙ ap (λ (ts : List SegInfo). unfit_segments ts left) here ∙ f);
  }

  -- its field is the first that no run has
  pub looked-bad : (d : ℕ) → bad_field s ≡ Some d → (memories : List ℕ) → AreHeadsAt at ss memories
      → Some (front + d) ≡ unfit_segments ss memories
  looked-bad d bad memories are =
      let (left, there, e) = is.same memories are in
      sym (e ∙ ap (λ (ts : List SegInfo). unfit_segments ts left) here
      ∙ bad-head front d s (drop (k + 1) ss) left bad
      (subst (λ (ts : List SegInfo). AreHeadsAt front ts left) here there))

-- where all were looked at, none has such a field
pub looked-all : (ss : List SegInfo) (at k front : ℕ) → length ss ≤ k → IsLookedTo ss at k front
    → (memories : List ℕ) → AreHeadsAt at ss memories → None ≡ unfit_segments ss memories
looked-all ss at k front past is memories are =
    let (left, there, e) = is.same memories are in
    sym (e ∙ ap (λ (ts : List SegInfo). unfit_segments ts left) (drop_all k ss past))

-- ---- types

-- the bytes of the types before number t
pub record AreCountedTo (rows : List TypeRow) (t bytes : ℕ) : Type 0 where
  pub is : bytes ≡ types_size (take (t - 1) rows)
  pub low : bytes ≤ 1000 * (t - 1)

-- before the first type there are none
pub none-counted : (rows : List TypeRow) → AreCountedTo rows 1 0
none-counted rows = record { is = refl; low = omega arith }

-- one type is counted more
pub counted-more : (rows : List TypeRow) (t bytes size : ℕ) → 0 < t → t ≤ length rows → AreCountedTo rows t bytes
    → size ≡ row_size (type_row rows t) → size ≤ 1000 → AreCountedTo rows (t + 1) (bytes + size)
counted-more rows zero bytes size some known counted is low = absurd (omega arith)
counted-more rows (suc i) bytes size some known counted is low =
    let row = get_or rows i blank in
    let there : slice_get rows i ≡ Some row = at rows i (omega arith) in
    let more : take (suc i + 1 - 1) rows ≡ take i rows ++ row ∷ [] =
    (let n : suc i + 1 - 1 ≡ i + 1 = omega arith in ap (λ (m : ℕ). take m rows) n)
    ∙ take_more rows i blank (omega arith) in
    let sum : types_size (take i rows ++ row ∷ []) ≡ types_size (take i rows) + type_size row =
    types-more (take i rows) row (type_size row) refl in
    let back : suc i - 1 ≡ i = omega arith in
    let was : bytes ≡ types_size (take i rows) = counted.is ∙ ap (λ (m : ℕ). types_size (take m rows)) back in
    let few = counted.low in
    let own : size ≡ type_size row = is ∙ ap row_size there in
    let all = ap types_size more ∙ sum in
    record { is = omega (arith, was, own, all); low = omega (arith, few, low) }
  where
    blank : TypeRow
    blank = record { name = []; form = bytes_form; finalizer = false }

    at : (rs : List TypeRow) (j : ℕ) → suc j ≤ length rs → slice_get rs j ≡ Some (get_or rs j blank)
    at [] j l = absurd (omega arith)
    at (r ∷ rs) zero l = refl
    at (r ∷ rs) (suc j) l = at rs j (omega arith)

-- all types are counted
pub counted-all : (rows : List TypeRow) (t bytes : ℕ) → length rows + 1 ≤ t → AreCountedTo rows t bytes
    → bytes ≡ types_size rows
counted-all rows t bytes past counted =
    counted.is ∙ ap types_size (take_all (t - 1) rows (omega (arith, past)))

-- a name is short
short-name : (name : List ℕ) → is_name name ≡ true → length name ≤ 128
short-name [] e = absurd cc
short-name (b ∷ bs) e =
    let few = (and_parts (is_name_start b && list_all is_name_byte bs) (nat_le (length bs) 127) e).1 in
    grind (arith, nat_tests, few)

-- and so is a pattern
short-pattern : (form : Form) (finalizer : Bool) → is_lawful_form form finalizer ≡ true
    → length (form_pattern form) ≤ 256
short-pattern (class_form pattern) finalizer e =
    let few = (and_parts (list_all is_pattern_byte pattern) (nat_le (length pattern) 256) e).1 in
    grind (arith, nat_tests, few)
short-pattern references_form finalizer e = omega arith
short-pattern bytes_form finalizer e = omega arith
short-pattern (structs_form pattern) finalizer e =
    let all = (and_parts (list_all is_pattern_byte pattern && (nat_le 1 (length pattern) && nat_le (length pattern) 64))
    _ e).0 in
    let some = (and_parts (list_all is_pattern_byte pattern) (nat_le 1 (length pattern) && nat_le (length pattern) 64)
    all).1 in
    let few = (and_parts (nat_le 1 (length pattern)) (nat_le (length pattern) 64) some).1 in
    grind (arith, nat_tests, few)

-- so a type takes few bytes
pub short-type : (rows : List TypeRow) (t : ℕ) → 0 < t → t ≤ length rows
    → AllByRecursion (λ (row : TypeRow). is_name row.name ≡ true) rows → AllByRecursion IsLawfulRow rows
    → (length (name_of rows t) ≤ 128) × (length (form_pattern (form_at rows t)) ≤ 256)
short-type rows zero some known named lawful = absurd (omega arith)
short-type rows (suc i) some known named lawful = go rows i known named lawful
  where
    go : (rs : List TypeRow) (j : ℕ) → suc j ≤ length rs
        → AllByRecursion (λ (row : TypeRow). is_name row.name ≡ true) rs → AllByRecursion IsLawfulRow rs
        → (length (name_of rs (suc j)) ≤ 128) × (length (form_pattern (form_at rs (suc j))) ≤ 256)
    go [] j l named lawful = absurd (omega arith)
    go (r ∷ rs) zero l named lawful =
        (short-name r.name named.0, short-pattern r.form r.finalizer lawful.0.form)
    go (r ∷ rs) (suc j) l named lawful = go rs j (omega arith) named.1 lawful.1

-- ---- FIT IS WHAT HAS NO SUCH FIELD

-- a segment whose fields are good begins low, and isn't too long
fit-segment : (s : SegInfo) → bad_field s ≡ None → (s.base ≤ 2 ^ 60) × IsBoundedSegment s
fit-segment s good =
    go (nat_lt (2 ^ 60) s.base) (is_small_or_ephemeral s.kind) (nat_lt 67108864 s.reserved) refl refl refl good
  where
    go : (a b c : Bool) → nat_lt (2 ^ 60) s.base ≡ a → is_small_or_ephemeral s.kind ≡ b → nat_lt 67108864 s.reserved ≡ c
        → ◌≡◌ {A = Option ℕ} (if a then Some 0 else (if b && c then Some 8 else None)) None
        → (s.base ≤ 2 ^ 60) × IsBoundedSegment s
    go true b c ea eb ec e = absurd cc
    go false true true ea eb ec e = absurd cc
    go false true false ea eb ec e = (grind (arith, nat_tests, ea), λ small. grind (arith, nat_tests, ec))
    go false false c ea eb ec e = (grind (arith, nat_tests, ea), λ small. absurd (clash (sym eb ∙ small)))
      where
        clash : false ≡ true → ⊥
        clash f = cc

none-or : (o later : Option ℕ) → or_else o later ≡ None → (o ≡ None) × (later ≡ None)
none-or None later e = (refl, e)
none-or (Some x) later e = absurd cc

none-before : (o : ℕ) (f : Option ℕ) → field_before o f ≡ None → f ≡ None
none-before o None e = refl
none-before o (Some d) e = absurd cc

fit-segments : (at : ℕ) (ss : List SegInfo) (os : List ℕ) → AreHeadsAt at ss os → unfit_segments ss os ≡ None
    → AllByRecursion (λ (s : SegInfo). s.base ≤ 2 ^ 60) ss × AreBounded ss
fit-segments at [] os are e = (tt, tt)
fit-segments at (s ∷ ss) [] are e = absurd are
fit-segments at (s ∷ ss) (o ∷ os) are e =
    let both = none-or (field_before o (bad_field s)) (unfit_segments ss os) e in
    let here = fit-segment s (none-before o (bad_field s) both.0) in
    let rest = fit-segments (o + (s.end - first_place s)) ss os are.1 both.1 in
    ((here.0, rest.0), (here.1, rest.1))

-- an image without such a field is fit
pub fit-of : (p : Parts) (at : ℕ) → AreHeadsAt at p.body.heap.segments p.body.offsets → unfit p ≡ None → IsFit p
fit-of p at are e =
    let both = none-or (unfit_head (segment_in p) p.head) (unfit_segments p.body.heap.segments p.body.offsets) e in
    let segments = fit-segments at p.body.heap.segments p.body.offsets are both.1 in
    let head = go (nat_lt p.head.limit (2 * segment_in p)) (nat_lt (segment_in p) (p.head.large + 4096)) refl refl
    both.0 in
    record { limit = head.0; large = head.1; low = segments.0; bounded = segments.1 }
  where
    go : (a b : Bool) → nat_lt p.head.limit (2 * segment_in p) ≡ a → nat_lt (segment_in p) (p.head.large + 4096) ≡ b
        → ◌≡◌ {A = Option ℕ} (if a then Some 8 else (if b then Some 16 else None)) None
        → (2 * segment_in p ≤ p.head.limit) × (p.head.large + 4096 ≤ segment_in p)
    go true b ea eb e = absurd cc
    go false true ea eb e = absurd cc
    go false false ea eb e = (grind (arith, nat_tests, ea), grind (arith, nat_tests, eb))

-- such a segment has no field that no run has
good-segment : (s : SegInfo) → s.base ≤ 2 ^ 60 → IsBoundedSegment s → bad_field s ≡ None
good-segment s low bounded =
    let off : nat_lt (2 ^ 60) s.base ≡ false = grind (arith, nat_tests, low) in
    go (is_small_or_ephemeral s.kind) refl off
  where
    go : (b : Bool) → is_small_or_ephemeral s.kind ≡ b → nat_lt (2 ^ 60) s.base ≡ false
        → ◌≡◌ {A = Option ℕ}
        (if nat_lt (2 ^ 60) s.base then Some 0 else (if b && nat_lt 67108864 s.reserved then Some 8 else None)) None
    go false e off = rw off refl
    go true e off =
        let most = bounded e in
        let no : nat_lt 67108864 s.reserved ≡ false = grind (arith, nat_tests, most) in
        rw (off, no) refl

good-segments : (ss : List SegInfo) (os : List ℕ) → AllByRecursion (λ (s : SegInfo). s.base ≤ 2 ^ 60) ss
    → AreBounded ss → unfit_segments ss os ≡ None
good-segments [] os low bounded = refl
good-segments (s ∷ ss) [] low bounded = refl
good-segments (s ∷ ss) (o ∷ os) low bounded =
    ap (λ (f : Option ℕ). or_else (field_before o f) (unfit_segments ss os)) (good-segment s low.0 bounded.0)
    ∙ good-segments ss os low.1 bounded.1

none-unfit : (p : Parts) → IsFit p → unfit p ≡ None
none-unfit p fit =
    let limit = fit.limit in
    let large = fit.large in
    let off : nat_lt p.head.limit (2 * segment_in p) ≡ false = grind (arith, nat_tests, limit) in
    let no : nat_lt (segment_in p) (p.head.large + 4096) ≡ false = grind (arith, nat_tests, large) in
    let head : unfit_head (segment_in p) p.head ≡ None = rw (off, no) refl in
    ap (λ (f : Option ℕ). or_else f (unfit_segments p.body.heap.segments p.body.offsets)) head
    ∙ good-segments p.body.heap.segments p.body.offsets fit.low fit.bounded

-- so an image with such a field isn't fit
pub unfit-at : (p : Parts) (o : ℕ) → Some o ≡ unfit p → IsUnfitAt p o
unfit-at p o is = record { is = sym is; unfit = λ fit. clash (is ∙ none-unfit p fit) }
  where
    clash : Some o ≡ None → ⊥
    clash e = cc

-- a limit below two segments is such a field
pub unfit-limit : (p : Parts) → p.head.limit < 2 * segment_in p → Some 8 ≡ unfit p
unfit-limit p low = let on : nat_lt p.head.limit (2 * segment_in p) ≡ true = grind (arith, nat_tests, low) in rw on refl

-- so is a least size of large objects that doesn't fit in one
pub unfit-large : (p : Parts) → 2 * segment_in p ≤ p.head.limit → segment_in p < p.head.large + 4096
    → Some 16 ≡ unfit p
unfit-large p fine low =
    let off : nat_lt p.head.limit (2 * segment_in p) ≡ false = grind (arith, nat_tests, fine) in
    let on : nat_lt (segment_in p) (p.head.large + 4096) ≡ true = grind (arith, nat_tests, low) in
    rw (off, on) refl

-- where neither is, the first of the segments is the first
pub unfit-rest : (p : Parts) → 2 * segment_in p ≤ p.head.limit → p.head.large + 4096 ≤ segment_in p
    → (o : Option ℕ) → o ≡ unfit_segments p.body.heap.segments p.body.offsets → o ≡ unfit p
unfit-rest p fine small o is =
    let off : nat_lt p.head.limit (2 * segment_in p) ≡ false = grind (arith, nat_tests, fine) in
    let no : nat_lt (segment_in p) (p.head.large + 4096) ≡ false = grind (arith, nat_tests, small) in
    is ∙ rw (off, no) refl

-- ---- of an image

module _ (bytes : List ℕ) (image : Image) (p : Parts) (is : IsImage bytes p) (shows : ShowsParts image p) where
  said : AreFieldsFound bytes p
  said = fields-found bytes p (length bytes) (fields-of bytes p is)

  pub large-fits : image.large ≤ 67104768
  large-fits = subst (λ (n : ℕ). n ≤ 67104768) (sym shows.large) said.large_high

  pub types-named : AllByRecursion (λ (row : TypeRow). is_name row.name ≡ true) image.types
  types-named =
      subst (AllByRecursion (λ (row : TypeRow). is_name row.name ≡ true)) (sym shows.types) said.named

  segment-same : (ephemeral (frame image.heap)).reserved ≡ segment_in p
  segment-same = ap (λ (h : HeapView). (ephemeral (frame h)).reserved) shows.heap

  module _ (segment : ℕ) (segment_is : segment ≡ (ephemeral (frame image.heap)).reserved) where
    pub limit-unfit : image.limit < 2 * segment → Some 8 ≡ unfit p
    limit-unfit low =
        let same = segment_is ∙ segment-same in
        let limit = shows.limit in
        unfit-limit p (omega (arith, low, same, limit))

    pub large-unfit : 2 * segment ≤ image.limit → segment < image.large + 4096 → Some 16 ≡ unfit p
    large-unfit fine low =
        let same = segment_is ∙ segment-same in
        let limit = shows.limit in
        let large = shows.large in
        unfit-large p (omega (arith, fine, same, limit)) (omega (arith, low, same, large))

    pub rest-unfit : 2 * segment ≤ image.limit → image.large + 4096 ≤ segment → (o : Option ℕ) (at : ℕ)
        → at ≡ segments_from image.first image.types
        → ((memories : List ℕ) → AreHeadsAt at image.heap.segments memories
        → o ≡ unfit_segments image.heap.segments memories) → o ≡ unfit p
    rest-unfit fine small o at at_is told =
        let same = segment_is ∙ segment-same in
        let limit = shows.limit in
        let large = shows.large in
        let from : segments_from p.head.first p.types ≡ at =
        sym (at_is ∙ ap₂ segments_from shows.first shows.types) in
        unfit-rest p (omega (arith, fine, same, limit)) (omega (arith, small, same, large)) o
        (told p.body.offsets
        (subst (λ (h : HeapView). AreHeadsAt at h.segments p.body.offsets) (sym shows.heap)
        (subst (λ (n : ℕ). AreHeadsAt n p.body.heap.segments p.body.offsets) from said.heads))
        ∙ ap (λ (h : HeapView). unfit_segments h.segments p.body.offsets) shows.heap)

  pub fit-image : None ≡ unfit p → IsFit p
  fit-image none = fit-of p (segments_from p.head.first p.types) said.heads (sym none)
