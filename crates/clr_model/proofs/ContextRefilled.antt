-- What a refill leaves: a lawful machine, room at the front of the thread's context, and where it came from.
use Rattle.std.proofs.Common.{◌≡◌, ℕ, ◌⊎◌, inl, inr, [], ◌++◌, refl, sym, ap, subst, ◌∙◌, Bool, true, false}
use Rattle.std.proofs.Common.{if◌then◌else◌, ◌&&◌, ◌||◌, Option, Some, None}
use Rattle.std.specs.List.{list_any}
use Rattle.std.proofs.lemmas.Bool.{and_from, both_ways}
use Rattle.clr_types.specs.Rising.{IsIn}
use Rattle.clr_types.specs.Ranges.{Piece, fits, IsLawfulSize}
use Rattle.clr_types.specs.Segments.{Layout, ephemeral, fits_in_tail, rest_of}
use Rattle.clr_types.proofs.RisingLists.{in_cons}
use Rattle.clr_types.proofs.SortedLists.{out_of_sorted_by}
use Rattle.clr_types.proofs.ListMembers.{in_append, any-from}
use Rattle.clr_model.specs.Machine.{Machine}
use Rattle.clr_model.specs.Lookups.{is_thread, is_step, step_of}
use Rattle.clr_model.specs.Updates.{given_up, pieces_of_option}
use Rattle.clr_model.specs.Allocation.{is_young_item, has_room, rest_fits, own_fits, want, from_item, from_tail}
use Rattle.clr_model.specs.Allocation.{IsRefilled, with_layout}
use Rattle.clr_model.specs.Lawful.{IsLawful}
use Rattle.clr_model.proofs.ItemContext.{given_up_lawful, given_up-bare, want-lawful, fits-same, from_item_lawful}
use Rattle.clr_model.proofs.ItemContext.{from_item-rest, item-size}
use Rattle.clr_model.proofs.TailContext.{from_tail_lawful, from_tail-rest}

-- what a refill is to give: a lawful machine, and room for the size
pub record GivesRoom (m : Machine) (t size : ℕ) (layout : Layout) : Type 0 where
  pub lawful : IsLawful (with_layout m layout)
  pub fits : own_fits layout t size ≡ true

module _ (m : Machine) (h : IsLawful m) (t : ℕ) (thread : is_thread t ≡ true) (idle : is_step (step_of m t) ≡ false)
    (size : ℕ) (lawful : IsLawfulSize size) where
  abbrev begun : Layout
  begun = given_up m.layout t

  begun-lawful : IsLawful (with_layout m begun)
  begun-lawful = given_up_lawful m h t thread idle

  begun-bare : rest_of begun t ≡ None
  begun-bare = given_up-bare m h t thread idle

  rest-fits : (layout : Layout) (place bytes : ℕ) → rest_of layout t ≡ Some (record { place = place; size = bytes })
      → fits size bytes ≡ true → own_fits layout t size ≡ true
  rest-fits layout place bytes e fit = ap (λ (r : Option Piece). rest_fits r size) e ∙ fit

  -- so many bytes of an item
  from_item_by : (item : Piece) (taken : ℕ) → IsIn item begun.free → is_young_item begun item ≡ true
      → IsLawfulSize taken → fits taken item.size ≡ true → fits size taken ≡ true
      → GivesRoom m t size (from_item begun t item taken)
  from_item_by item taken i young sized room fit = record {
    lawful = from_item_lawful (with_layout m begun) begun-lawful t thread idle begun-bare item taken sized room i young;
    fits = rest-fits (from_item begun t item taken) item.place taken
        (from_item-rest (with_layout m begun) begun-lawful t thread idle begun-bare item taken sized room i young) fit;
  }

  refill_item : (item : Piece) → IsIn item begun.free → is_young_item begun item ≡ true → fits size item.size ≡ true
      → GivesRoom m t size (from_item begun t item (if fits (want size) item.size then want size else item.size))
  refill_item item i young room = go (fits (want size) item.size) refl
    where
      go : (b : Bool) → fits (want size) item.size ≡ b
          → GivesRoom m t size (from_item begun t item (if b then want size else item.size))
      go true e = let (sized, fit) = want-lawful size lawful in from_item_by item (want size) i young sized e fit
      go false e = from_item_by item item.size i young
          (item-size (with_layout m begun) begun-lawful t thread idle begun-bare item i) (fits-same item.size) room

  -- so many bytes of the tail
  from_tail_by : (taken : ℕ) → IsLawfulSize taken → fits_in_tail (ephemeral begun) taken ≡ true → fits size taken ≡ true
      → GivesRoom m t size (from_tail begun t taken)
  from_tail_by taken sized room fit = record {
    lawful = from_tail_lawful (with_layout m begun) begun-lawful t thread idle begun-bare taken sized room;
    fits = rest-fits (from_tail begun t taken) (ephemeral begun).end taken
        (from_tail-rest (with_layout m begun) begun-lawful t thread idle begun-bare taken sized room) fit;
  }

  refill_tail : fits_in_tail (ephemeral begun) size ≡ true
      → GivesRoom m t size (from_tail begun t (if fits_in_tail (ephemeral begun) (want size) then want size else size))
  refill_tail room = go (fits_in_tail (ephemeral begun) (want size)) refl
    where
      go : (b : Bool) → fits_in_tail (ephemeral begun) (want size) ≡ b
          → GivesRoom m t size (from_tail begun t (if b then want size else size))
      go true e = let (sized, fit) = want-lawful size lawful in from_tail_by (want size) sized e fit
      go false e = from_tail_by size lawful room (fits-same size)

  -- A refill keeps a machine lawful, and the new context has room.
  pub refill_lawful : (layout : Layout) → IsRefilled m.layout t size layout
      → IsLawful (with_layout m layout) × (own_fits layout t size ≡ true)
  refill_lawful layout (inl (item, i, young, room, e)) = let r = refill_item item i young room in
      subst (λ (l : Layout). IsLawful (with_layout m l) × (own_fits l t size ≡ true)) (sym e) (r.lawful, r.fits)
  refill_lawful layout (inr (room, e)) = let r = refill_tail room in
      subst (λ (l : Layout). IsLawful (with_layout m l) × (own_fits l t size ≡ true)) (sym e) (r.lawful, r.fits)

-- Where the size doesn't fit in the own context, what a refill finds was there before: a free item, or the tail.
pub refill-has_room : (layout new : Layout) (t size : ℕ) → own_fits layout t size ≡ false → IsRefilled layout t size new
    → has_room layout size ≡ true
refill-has_room layout new t size own (inl (item, i, young, room, e)) =
    or_left (list_any (λ p. is_young_item layout p && fits size p.size) layout.free)
    (fits_in_tail (ephemeral layout) size)
    (there (in_append layout.free (out_of_sorted_by (λ (p : Piece). p.place) item
    (layout.free ++ pieces_of_option (rest_of layout t)) i)))
  where
    or_left : (a b : Bool) → a ≡ true → (a || b) ≡ true
    or_left true b e = refl
    or_left false b e = absurd cc

    not-own : (r : Option Piece) → rest_fits r size ≡ false → IsIn item (pieces_of_option r) → ⊥
    not-own None f j = elim j [ ]
    not-own (Some p) f j = one (in_cons j)
      where
        one : (item ≡ p) ⊎ IsIn item [] → ⊥
        one (inl e) = both_ways (fits size p.size) f (subst (λ (q : Piece). fits size q.size ≡ true) e room)
        one (inr k) = elim k [ ]

    there : IsIn item layout.free ⊎ IsIn item (pieces_of_option (rest_of layout t))
        → list_any (λ p. is_young_item layout p && fits size p.size) layout.free ≡ true
    there (inl j) = any-from (λ p. is_young_item layout p && fits size p.size) layout.free item j
        (and_from (is_young_item layout item) (fits size item.size) young room)
    there (inr j) = absurd (not-own (rest_of layout t) own j)
refill-has_room layout new t size own (inr (room, e)) =
    or_right (list_any (λ p. is_young_item layout p && fits size p.size) layout.free)
    (fits_in_tail (ephemeral layout) size) room
  where
    or_right : (a b : Bool) → b ≡ true → (a || b) ≡ true
    or_right true b e = refl
    or_right false b e = e
