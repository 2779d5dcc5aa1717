-- The first free item between two places in which a size fits: what is passed over, and what is found.
use Rattle.std.proofs.Common.{◌≡◌, ℕ, ◌<◌, ◌≤◌, true, false, Bool, ◌&&◌, List, [], ◌∷◌, refl, ap, sym, ◌∙◌, arith}
use Rattle.std.proofs.Common.{filter, map, Option, Some, nat_le, nat_lt, if◌then◌else◌}
use Rattle.std.proofs.lemmas.Bool.{le-leb, leb-false, lt-leb, lt-ltb, ltb-true}
use Rattle.clr_types.specs.Ranges.{fits, Piece}
use Rattle.clr_types.specs.Rising.{first, IsIn, later}
use Rattle.clr_types.specs.declared.item.Item.{Item}
use Rattle.clr_types.proofs.ChangedLists.{out_of_filter}
use Rattle.clr_types.proofs.ListMembers.{from-map}
use Rattle.clr_heap.specs.Parts.{item_piece}
use Rattle.clr_model.specs.Fitting.{lowest_item}
use Rattle.clr_sweep.proofs.Filters.{filter-none}
use Rattle.clr_view.specs.View.{free_among, is_free}
use Rattle.clr_evacuate.specs.Searching.{free_between}

abbrev pub is_between : ℕ → ℕ → Piece → Bool
is_between low high p = nat_lt p.place high && nat_le low p.place

abbrev pub first_between : ℕ → ℕ → ℕ → List Item → Option Piece
first_between low high size items = lowest_item size (free_between low high items)

-- ---- none

-- a free piece among items is one of them
pub free-is : (items : List Item) (p : Piece) → IsIn p (free_among items)
    → (i : Item) × IsIn i items × (p ≡ item_piece i)
free-is items p m =
    let (i, e, j) = from-map item_piece p (filter is_free items) m in
    (i, (out_of_filter is_free i items j).1, e)

-- none stands between places that cross
pub none_between : (low high : ℕ) (items : List Item) → high ≤ low → free_between low high items ≡ []
none_between low high items crossed =
    filter-none (is_between low high) (free_among items) (λ p m. go p (nat_lt p.place high) refl)
  where
    go : (p : Piece) (b : Bool) → nat_lt p.place high ≡ b → (b && nat_le low p.place) ≡ false
    go p true e = let below = ltb-true p.place high e in lt-leb low p.place (omega arith)
    go p false e = refl

-- ---- one item

-- an item that a search passes over
pub passed : (low high size : ℕ) (i : Item) (items : List Item)
    → (is_free i ≡ true → nat_le low i.place ≡ true → fits size i.size ≡ true → ⊥)
    → first_between low high size (i ∷ items) ≡ first_between low high size items
passed low high size i items fails = go (is_free i) refl
  where
    last : (b : Bool) → fits size i.size ≡ b → is_free i ≡ true → nat_le low i.place ≡ true
        → (if b then Some (item_piece i) else first_between low high size items) ≡ first_between low high size items
    last true f e g = absurd (fails e g f)
    last false f e g = refl

    above : (b : Bool) → nat_le low i.place ≡ b → is_free i ≡ true
        → lowest_item size (if b then item_piece i ∷ free_between low high items else free_between low high items)
        ≡ first_between low high size items
    above true g e = last (fits size i.size) refl e g
    above false g e = refl

    below : (b : Bool) → is_free i ≡ true
        → lowest_item size (if b && nat_le low i.place then item_piece i ∷ free_between low high items
        else free_between low high items) ≡ first_between low high size items
    below true e = above (nat_le low i.place) refl e
    below false e = refl

    go : (b : Bool) → is_free i ≡ b
        → lowest_item size (filter (is_between low high)
        (map item_piece (if b then i ∷ filter is_free items else filter is_free items)))
        ≡ first_between low high size items
    go true e = below (nat_lt i.place high) e
    go false e = refl

-- and one that it finds
pub found : (low high size : ℕ) (i : Item) (items : List Item) → is_free i ≡ true → i.place < high → low ≤ i.place
    → fits size i.size ≡ true → first_between low high size (i ∷ items) ≡ Some (item_piece i)
found low high size i items e below above f =
    ap (λ (b : Bool). lowest_item size (filter (is_between low high)
    (map item_piece (if b then i ∷ filter is_free items else filter is_free items)))) e
    ∙ ap (λ (b : Bool). lowest_item size (if b && nat_le low i.place then item_piece i ∷ free_between low high items
    else free_between low high items)) (lt-ltb i.place high below)
    ∙ ap (λ (b : Bool). lowest_item size (if b then item_piece i ∷ free_between low high items
    else free_between low high items)) (le-leb low i.place above)
    ∙ ap (λ (b : Bool). if b then Some (item_piece i) else first_between low high size items) f

-- ---- from a place on

-- where the size fits in nothing below a place, the search may begin there
pub begins_there : (size low : ℕ) (ps : List Piece)
    → ((i : Piece) → IsIn i ps → i.place < low → fits size i.size ≡ false)
    → lowest_item size (filter (λ i. nat_le low i.place) ps) ≡ lowest_item size ps
begins_there size low [] none = refl
begins_there size low (i ∷ is) none =
    go (nat_le low i.place) refl (begins_there size low is (λ j m. none j (later m)))
  where
    go : (b : Bool) → nat_le low i.place ≡ b
        → lowest_item size (filter (λ j. nat_le low j.place) is) ≡ lowest_item size is
        → lowest_item size (if b then i ∷ filter (λ j. nat_le low j.place) is
        else filter (λ j. nat_le low j.place) is) ≡ lowest_item size (i ∷ is)
    go true e more = ap (λ (o : Option Piece). if fits size i.size then Some i else o) more
    go false e more =
        more
        ∙ sym (ap (λ (b : Bool). if b then Some i else lowest_item size is) (none i first (leb-false low i.place e)))
