-- Names that are judged window by window, and the lowest address of a bad one.
use Rattle.std.proofs.Common.{◌≡◌, ℕ, ◌+◌, ◌-◌, ◌*◌, ◌/◌, ◌%◌, ◌<◌, ◌≤◌, ◌==◌, ◌&&◌, ◌||◌, ◌⊎◌, not, if◌then◌else◌}
use Rattle.std.proofs.Common.{nat_lt, nat_le, Bool, true, false, List, [], ◌∷◌, ◌++◌, filter, length, Option, Some}
use Rattle.std.proofs.Common.{None, refl, sym, ◌∙◌, ap, arith, inl, inr, append-nil}
use Rattle.std.proofs.lemmas.Bool.{and_parts, both_ways, cases_Bool}
use Rattle.std.proofs.lemmas.List.Elements.{filter-append, filter_agree}
use Rattle.clr_types.specs.Types.{TypeRow}
use Rattle.clr_types.specs.declared.item.Item.{Item}
use Rattle.clr_types.specs.Rising.{first, IsIn, later}
use Rattle.clr_heap.specs.View.{AreWalkable, first_of, heap_items, HeapView, last_of, listing}
use Rattle.clr_view.specs.View.{is_object}
use Rattle.clr_view.proofs.Listed.{listed-in}
use Rattle.clr_sos.specs.Faults.{addresses, item_addresses, lower, lowest, stands}
use Rattle.clr_sos.specs.Windows.{bit_of, in_window, is_bad_by, is_bad_in, IsJudging, marked_at}
use Rattle.clr_sos.specs.declared.verify.windows.Window.{Window}
use Rattle.clr_sos.proofs.WalkedItems.{walked_is}

-- ---- the lowest address

pub lowest-append : (low : Option ℕ) (xs ys : List ℕ) → lowest low (xs ++ ys) ≡ lowest (lowest low xs) ys
unfolding lowest
lowest-append low [] ys = refl
lowest-append low (x ∷ xs) ys = lowest-append (lower low x) xs ys

lower-swap : (low : Option ℕ) (a b : ℕ) → lower (lower low a) b ≡ lower (lower low b) a
lower-swap None a b = ap Some (omega arith)
lower-swap (Some c) a b = ap Some (omega arith)

lowest-lower : (low : Option ℕ) (a : ℕ) (xs : List ℕ) → lower (lowest low xs) a ≡ lowest (lower low a) xs
unfolding lowest
lowest-lower low a [] = refl
lowest-lower low a (x ∷ xs) = lowest-lower (lower low x) a xs ∙ ap (λ (o : Option ℕ). lowest o xs) (lower-swap low x a)

-- the lowest of those that pass either of two tests, of which no address passes both
pub lowest-either : (s t u : ℕ → Bool) → ((a : ℕ) → u a ≡ (s a || t a)) → ((a : ℕ) → s a ≡ true → t a ≡ false)
    → (low : Option ℕ) (xs : List ℕ) → lowest (lowest low (filter s xs)) (filter t xs) ≡ lowest low (filter u xs)
unfolding lowest
lowest-either s t u is apart low [] = refl
lowest-either s t u is apart low (x ∷ xs) = elim (cases_Bool (s x)) [
  | inl on ↦
      let off : t x ≡ false = apart x on in
      let both : u x ≡ true = is x ∙ ap (λ (b : Bool). b || t x) on in
      rw (on, off, both) (lowest-either s t u is apart (lower low x) xs)
  | inr past ↦ elim (cases_Bool (t x)) [
    | inl on ↦
        let both : u x ≡ true = is x ∙ ap (λ (b : Bool). b || t x) past ∙ on in
        rw (past, on, both)
        (ap (λ (o : Option ℕ). lowest o (filter t xs)) (lowest-lower low x (filter s xs))
        ∙ lowest-either s t u is apart (lower low x) xs)
    | inr off ↦
        let both : u x ≡ false = is x ∙ ap (λ (b : Bool). b || t x) past ∙ off in
        rw (past, off, both) (lowest-either s t u is apart low xs)
  ]
]

-- nothing is low where no address passes
pub lowest-same : (s t : ℕ → Bool) → ((a : ℕ) → s a ≡ t a) → (low : Option ℕ) (xs : List ℕ)
    → lowest low (filter s xs) ≡ lowest low (filter t xs)
lowest-same s t same low xs = ap (lowest low) (filter_agree s t same xs)

-- one address
pub judged-one : (t : ℕ → Bool) (low : Option ℕ) (a : ℕ)
    → (if t a then lower low a else low) ≡ lowest low (filter t (a ∷ []))
unfolding lowest
judged-one t low a = elim (cases_Bool (t a)) [ inl on ↦ rw on refl | inr off ↦ rw off refl ]

pub lowest-none : (low : Option ℕ) → lowest low [] ≡ low
unfolding lowest
lowest-none low = refl

-- more addresses
pub judged-more : (t : ℕ → Bool) (low now next : Option ℕ) (xs ys : List ℕ) → now ≡ lowest low (filter t xs)
    → next ≡ lowest now (filter t ys) → next ≡ lowest low (filter t (xs ++ ys))
judged-more t low now next xs ys e f =
    f ∙ ap (λ (o : Option ℕ). lowest o (filter t ys)) e ∙ sym (lowest-append low (filter t xs) (filter t ys))
    ∙ ap (lowest low) (sym (filter-append t xs ys))

pub addresses-one : (rows : List TypeRow) (i : Item) → addresses rows (i ∷ []) ≡ item_addresses rows i
addresses-one rows i = append-nil (item_addresses rows i)

-- ---- the bits tell where objects stand

pub record IsFound (items : List Item) (x : ℕ) : Type 0 where
  pub item : Item
  pub listed : IsIn item items
  pub object : is_object item ≡ true
  pub at : item.place ≡ x

pub found : (items : List Item) (x : ℕ) → stands items x ≡ true → IsFound items x
found [] x e = absurd cc
found (i ∷ items) x e = elim (cases_Bool ((i.place == x) && is_object i)) [
  | inl here ↦
      let parts = and_parts (i.place == x) (is_object i) here in
      let same : (i.place == x) ≡ true = parts.0 in
      record { item = i; listed = first; object = parts.1; at = grind (arith, same) }
  | inr other ↦
      let f = found items x (sym (rw other refl) ∙ e) in
      record { item = f.item; listed = later f.listed; object = f.object; at = f.at }
]

-- no object of a segment stands below its first place or at its end
pub none_outside : (rows : List TypeRow) (h : HeapView) (k x : ℕ) → AreWalkable rows h → k < length h.segments
    → (last_of h k ≤ x) ⊎ (x < first_of h k) → stands (listing rows h k) x ≡ false
none_outside rows h k x walkable l out = elim (cases_Bool (stands (listing rows h k) x)) [
  | inr off ↦ off
  | inl on ↦
      let f = found (listing rows h k) x on in
      let is = walked_is rows h k f.item walkable l f.listed in
      let at = f.at in
      let above = is.above in
      let below = is.below in
      let least = is.least in
      elim out [ inl over ↦ absurd (omega arith) | inr under ↦ absurd (omega arith) ]
]

module _ (rows : List TypeRow) (h : HeapView) (window : Window) (bits : List ℕ) (j : IsJudging rows h window bits) where
  abbrev items : List Item
  items = heap_items rows h

  -- the place of an object that is judged has a bit
  has_place : (x : ℕ) → in_window window x ≡ true → stands items x ≡ true
      → (window.start ≤ x) × (x < window.start + 512 * length bits) × (x % 8 ≡ 0)
  has_place x judged e =
      let f = found items x e in
      let home = listed-in rows h f.item 0 (length h.segments) f.listed in
      let l : home.0 < length h.segments = let b = home.1 in omega arith in
      let is = walked_is rows h home.0 f.item j.walkable l home.2 in
      let at = f.at in
      let above = is.above in
      let below = is.below in
      let least = is.least in
      let z = is.aligned in
      let bounds = j.covered home.0 x l (omega arith) (omega arith) judged in
      (bounds.0, bounds.1, sym (ap (λ (n : ℕ). n % 8) at) ∙ z)

  bit_is : (x : ℕ) → window.start ≤ x → (x - window.start) % 8 ≡ 0 → x < window.start + 512 * length bits
      → bit_of bits ((x - window.start) / 8) ≡ stands items x
  bit_is x low z high =
      let at : window.start + 8 * ((x - window.start) / 8) ≡ x = omega arith in
      j.marked ((x - window.start) / 8) (omega arith) ∙ ap (stands items) at

  pub marked_is : (x : ℕ) → in_window window x ≡ true → marked_at window bits x ≡ stands items x
  marked_is x judged = elim (cases_Bool (stands items x)) [
    | inl yes_ ↦
        let p = has_place x judged yes_ in
        let start = j.aligned in
        let low = p.0 in
        let high = p.1 in
        let zx = p.2 in
        let z : (x - window.start) % 8 ≡ 0 = omega arith in
        let bit = bit_is x low z high ∙ yes_ in
        let a : nat_le window.start x ≡ true = grind (arith, low) in
        let b : ((x - window.start) % 8 == 0) ≡ true = grind (arith, z) in
        let near : (x - window.start) / 8 / 64 < length bits = omega arith in
        let c : nat_lt ((x - window.start) / 8 / 64) (length bits) ≡ true = grind (arith, near) in
        rw (a, b, c, bit, yes_) refl
    | inr no_ ↦ elim (cases_Bool (marked_at window bits x)) [
      | inr off ↦ off ∙ sym no_
      | inl on ↦
          let low : window.start ≤ x = grind (arith, on) in
          let z : (x - window.start) % 8 ≡ 0 = grind (arith, on) in
          let near : (x - window.start) / 8 / 64 < length bits = grind (arith, on) in
          let bit : bit_of bits ((x - window.start) / 8) ≡ true = grind (arith, on) in
          let is = bit_is x low z (omega arith) in
          absurd (both_ways (stands items x) no_ (sym is ∙ bit))
    ]
  ]

  pub bad_is : (name : ℕ) → is_bad_by window bits name ≡ is_bad_in items window name
  bad_is name = elim (cases_Bool (in_window window name)) [
    | inr off ↦ rw off (go (name == 0))
    | inl on ↦ let m = marked_is name on in rw (on, m) (turn (name == 0) (stands items name))
  ]
    where
      go : (a : Bool) → (not a && false) ≡ false
      go true = refl
      go false = refl

      turn : (a b : Bool) → (not a && not b) ≡ not (a || b)
      turn true b = refl
      turn false b = refl
