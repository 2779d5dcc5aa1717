-- Items by their places, in the listing of a segment and in that of the heap.
use Rattle.std.proofs.Common.{◌≡◌, ◌⊎◌, inl, inr, ℕ, suc, ◌+◌, ◌-◌, ◌<◌, ◌≤◌, false, eqb, List, [], ◌∷◌, refl, ap, ◌∙◌}
use Rattle.std.proofs.Common.{arith, Option, Some, None, nat_eq}
use Rattle.std.specs.Option.{option_or}
use Rattle.std.proofs.lemmas.Bool.{ne_eqb}
use Rattle.std.proofs.lemmas.List.Folds.{find-append}
use Rattle.clr_types.specs.Types.{TypeRow}
use Rattle.clr_types.specs.declared.item.Item.{Item}
use Rattle.clr_heap.specs.Parts.{Part, item_part, rest_part, items_in, Sight, Spells}
use Rattle.clr_heap.specs.View.{first_of, HeapView, item_with_place, IsWalkable, last_of, listing, listings, parts_of}
use Rattle.clr_heap.specs.View.{sight}
use Rattle.clr_heap.proofs.Spelling.{item_size, Spells-le}

none_outside : (s : Sight) (ps : List Part) (p e a : ℕ) → Spells s p ps e → (a < p) ⊎ (e ≤ a)
    → item_with_place (items_in ps) a ≡ None
none_outside s [] p e a h out = refl
none_outside s (item_part i ∷ ps) p e a h out =
    let f = item_size s i p h.1 h.2 in
    let l = Spells-le s ps (p + i.size) e h.3 in
    let other : eqb i.place a ≡ false =
    ne_eqb i.place a (λ same. elim out [ inl low ↦ omega arith | inr high ↦ omega arith ]) in
    let still : (a < p + i.size) ⊎ (e ≤ a) = elim out [ inl low ↦ inl (omega arith) | inr high ↦ inr high ] in
    rw other (none_outside s ps (p + i.size) e a h.3 still)
none_outside s (rest_part low high ∷ ps) p e a h out =
    let still : (a < high) ⊎ (e ≤ a) = elim out [ inl l ↦ inl (omega arith) | inr l ↦ inr l ] in
    none_outside s ps high e a h.4 still

-- no item has a place outside its segment
pub no_item_outside : (rows : List TypeRow) (h : HeapView) (k a : ℕ) → IsWalkable rows h k
    → (a < first_of h k) ⊎ (last_of h k ≤ a) → item_with_place (listing rows h k) a ≡ None
no_item_outside rows h k a w out =
    none_outside (sight rows h k) (parts_of rows h k) (first_of h k) (last_of h k) a w.spelled out

-- the items of the segments from k on are those of k and of the later ones
pub items_step : (rows : List TypeRow) (h : HeapView) (k n a : ℕ) → k < n
    → item_with_place (listings rows h k (n - k)) a
    ≡ option_or (item_with_place (listing rows h k) a) (item_with_place (listings rows h (k + 1) (n - (k + 1))) a)
items_step rows h k n a l =
    let count : n - k ≡ suc (n - (k + 1)) = omega arith in
    ap (λ (m : ℕ). item_with_place (listings rows h k m) a) count
    ∙ find-append (λ (i : Item). nat_eq i.place a) (listing rows h k) (listings rows h (k + 1) (n - (k + 1)))

pub items_found : (rows : List TypeRow) (h : HeapView) (k n a : ℕ) (i : Item) → k < n
    → item_with_place (listing rows h k) a ≡ Some i → item_with_place (listings rows h k (n - k)) a ≡ Some i
items_found rows h k n a i l e = items_step rows h k n a l
    ∙ ap (λ (o : Option Item). option_or o (item_with_place (listings rows h (k + 1) (n - (k + 1))) a)) e

pub items_later : (rows : List TypeRow) (h : HeapView) (k n a : ℕ) → k < n → item_with_place (listing rows h k) a ≡ None
    → item_with_place (listings rows h k (n - k)) a ≡ item_with_place (listings rows h (k + 1) (n - (k + 1))) a
items_later rows h k n a l e = items_step rows h k n a l
    ∙ ap (λ (o : Option Item). option_or o (item_with_place (listings rows h (k + 1) (n - (k + 1))) a)) e
