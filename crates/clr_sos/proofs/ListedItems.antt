-- Items of a listing, those that are shown among them, and what they come to.
use Rattle.std.proofs.Common.{◌≡◌, ◌∙◌, ◌+◌, ◌≤◌, ◌<◌, ◌^◌, Bool, true, false, List, [], ◌∷◌, ◌++◌, filter}
use Rattle.std.proofs.Common.{length, not, if◌then◌else◌, ap, arith, append-nil, append_assoc, length-append, refl}
use Rattle.std.proofs.Common.{subst, sym}
use Rattle.std.proofs.Common.{cond}
use Rattle.std.specs.List.{AllByRecursion}
use Rattle.std.proofs.lemmas.List.Elements.{filter-append}
use Rattle.std.proofs.lemmas.List.Sums.{sum_by-cons}
use Rattle.clr_types.specs.Rising.{IsIn, first}
use Rattle.clr_types.specs.Types.{TypeRow}
use Rattle.clr_types.specs.declared.item.Item.{Item}
use Rattle.clr_types.proofs.RisingLists.{all_at}
use Rattle.clr_types.proofs.ListMembers.{append_right}
use Rattle.clr_model.specs.Sos.{bytes_in, is_free_item}
use Rattle.clr_sos.specs.Dumping.{AreListed, counted, IsWithin, no_free, totals_of}
use Rattle.clr_sos.specs.declared.listing_lines.Totals.{Totals}

-- ---- the next item of a walk

-- the items that were walked over, the next one and the rest are all
pub walked-on : (front rest left items : List Item) (i : Item) → rest ≡ i ∷ left → front ++ rest ≡ items
    → (front ++ i ∷ []) ++ left ≡ items
walked-on front rest left items i steps walked =
    append_assoc front (i ∷ []) left ∙ ap (λ back. front ++ back) (sym steps) ∙ walked

pub walked-all : (front rest items : List Item) → rest ≡ [] → front ++ rest ≡ items → front ≡ items
walked-all front rest items none walked = sym (append-nil front) ∙ ap (λ back. front ++ back) (sym none) ∙ walked

pub next-in : (front rest left items : List Item) (i : Item) → rest ≡ i ∷ left → front ++ rest ≡ items → IsIn i items
next-in front rest left items i steps walked =
    subst (λ (all : List Item). IsIn i all) (ap (λ back. front ++ back) (sym steps) ∙ walked) (append_right front first)

pub bytes-append : (xs ys : List Item) → bytes_in (xs ++ ys) ≡ bytes_in xs + bytes_in ys
bytes-append [] ys = omega arith
bytes-append (i ∷ xs) ys =
    let front = sum_by-cons (λ (x : Item). x.size) i (xs ++ ys) in
    let here = sum_by-cons (λ (x : Item). x.size) i xs in
    let rest = bytes-append xs ys in omega (arith, front, here, rest)

-- no list of items is longer than its bytes
length-bytes : (items : List Item) → AllByRecursion (λ (i : Item). 24 ≤ i.size) items → length items ≤ bytes_in items
length-bytes [] h = omega arith
length-bytes (i ∷ items) h = let sum = sum_by-cons (λ (x : Item). x.size) i items in
    let rest = length-bytes items h.1 in let here = h.0 in omega (arith, sum, rest, here)

module _ (rows : List TypeRow) (front rest left items : List Item) (i : Item) (steps : rest ≡ i ∷ left)
    (walked : front ++ rest ≡ items) (listed : AreListed rows items) where
  -- it is of a known type
  pub next-known : i.type_id.0 ≤ length rows
  next-known = all_at (λ (j : Item). j.type_id.0 ≤ length rows) (next-in front rest left items i steps walked)
      listed.known

  all : front ++ i ∷ left ≡ items
  all = ap (λ back. front ++ back) (sym steps) ∙ walked

  pub next-count : length front + 1 < 2 ^ 62
  next-count =
      let long = length-bytes items listed.least in
      let few = listed.few in
      let cut : length items ≡ length front + length (i ∷ left) =
      ap length (sym all) ∙ length-append front (i ∷ left) in
      omega (arith, long, few, cut)

  pub next-bytes : bytes_in front + i.size < 2 ^ 62
  next-bytes =
      let few = listed.few in
      let cut : bytes_in items ≡ bytes_in front + bytes_in (i ∷ left) =
      ap bytes_in (sym all) ∙ bytes-append front (i ∷ left) in
      let one = sum_by-cons (λ (x : Item). x.size) i left in
      omega (arith, few, cut, one)

-- what was answered is what the test says
pub told_test : (answer wanted b : Bool) → answer ≡ wanted → answer ≡ b → wanted ≡ b
told_test answer wanted b told is = sym told ∙ is

-- ---- what a test passes, with one item more

module _ (test : Item → Bool) (xs : List Item) (i : Item) where
  pub filter-no : test i ≡ false → filter test (xs ++ i ∷ []) ≡ filter test xs
  filter-no fails = filter-append test xs (i ∷ [])
      ∙ ap (λ (b : Bool). filter test xs ++ cond b (i ∷ []) []) fails ∙ append-nil (filter test xs)

  pub filter-yes : test i ≡ true → filter test (xs ++ i ∷ []) ≡ filter test xs ++ i ∷ []
  filter-yes holds = filter-append test xs (i ∷ []) ∙ ap (λ (b : Bool). filter test xs ++ cond b (i ∷ []) []) holds

pub bytes-more : (xs : List Item) (i : Item) → bytes_in (xs ++ i ∷ []) ≡ bytes_in xs + i.size
bytes-more xs i = let one = sum_by-cons (λ (x : Item). x.size) i [] in
    let all = bytes-append xs (i ∷ []) in omega (arith, one, all)

pub length-more : (xs : List Item) (i : Item) → length (xs ++ i ∷ []) ≡ length xs + 1
length-more xs i = length-append xs (i ∷ [])

-- ---- the totals

pub counted-push : (xs : List Item) (i : Item) → counted (totals_of xs) i ≡ totals_of (xs ++ i ∷ [])
counted-push xs i = go (is_free_item i) refl
  where
    go : (b : Bool) → is_free_item i ≡ b
        → (if b then record {
          objects = length (no_free xs);
          bytes = bytes_in (no_free xs);
          free = bytes_in (filter is_free_item xs) + i.size;
        } else
        record {
          objects = length (no_free xs) + 1;
          bytes = bytes_in (no_free xs) + i.size;
          free = bytes_in (filter is_free_item xs);
        }) ≡ totals_of (xs ++ i ∷ [])
    go true e =
        let objects = sym (filter-no (λ j. not (is_free_item j)) xs i (ap not e)) in
        let free = filter-yes is_free_item xs i e in
        let f : bytes_in (filter is_free_item xs) + i.size ≡ bytes_in (filter is_free_item (xs ++ i ∷ [])) =
        sym (ap bytes_in free ∙ bytes-more (filter is_free_item xs) i) in
        λ k. record { objects = length (objects k); bytes = bytes_in (objects k); free = f k }
    go false e =
        let objects = filter-yes (λ j. not (is_free_item j)) xs i (ap not e) in
        let free = sym (filter-no is_free_item xs i e) in
        let o : length (no_free xs) + 1 ≡ length (no_free (xs ++ i ∷ [])) =
        sym (ap length objects ∙ length-more (no_free xs) i) in
        let b : bytes_in (no_free xs) + i.size ≡ bytes_in (no_free (xs ++ i ∷ [])) =
        sym (ap bytes_in objects ∙ bytes-more (no_free xs) i) in
        λ k. record { objects = o k; bytes = b k; free = bytes_in (free k) }

-- ---- how much they are at most

pub within-more : (t : Totals) (xs : List Item) (i : Item) → IsWithin t xs → IsWithin t (xs ++ i ∷ [])
within-more t xs i w =
    let long = length-more xs i in
    let sum = bytes-more xs i in
    let o = w.objects in
    let b = w.bytes in
    let f = w.free in
    record { objects = omega (arith, long, o); bytes = omega (arith, sum, b); free = omega (arith, sum, f) }

pub within-counted : (t new : Totals) (xs : List Item) (i : Item) → new ≡ counted t i → IsWithin t xs
    → IsWithin new (xs ++ i ∷ [])
within-counted t new xs i is w = subst (λ (u : Totals). IsWithin u (xs ++ i ∷ [])) (sym is) (go (is_free_item i))
  where
    go : (b : Bool)
        → IsWithin (if b then record { objects = t.objects; bytes = t.bytes; free = t.free + i.size } else
        record { objects = t.objects + 1; bytes = t.bytes + i.size; free = t.free }) (xs ++ i ∷ [])
    go true =
        let long = length-more xs i in
        let sum = bytes-more xs i in
        let o = w.objects in
        let b = w.bytes in
        let f = w.free in
        record { objects = omega (arith, long, o); bytes = omega (arith, sum, b); free = omega (arith, sum, f) }
    go false =
        let long = length-more xs i in
        let sum = bytes-more xs i in
        let o = w.objects in
        let b = w.bytes in
        let f = w.free in
        record { objects = omega (arith, long, o); bytes = omega (arith, sum, b); free = omega (arith, sum, f) }
