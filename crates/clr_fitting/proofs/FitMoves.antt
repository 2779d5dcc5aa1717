-- Moves of a fit go from above the first boundary to below it, and take no two objects to one place.
use Rattle.std.proofs.Common.{◌≡◌, ℕ, ◌<◌, ◌≤◌, inl, inr, Bool, List, [], ◌∷◌, map, ap, subst, ◌∙◌}
use Rattle.std.proofs.Common.{arith, ◌≢◌}
use Rattle.std.specs.List.{AllByRecursion}
use Rattle.clr_types.specs.Rising.{IsIn}
use Rattle.clr_types.specs.Segments.{ephemeral, rest_pieces}
use Rattle.clr_types.proofs.ChangedLists.{append_left, IsIn-map}
use Rattle.clr_types.proofs.RisingLists.{all_at}
use Rattle.clr_types.proofs.SortedLists.{IsDistinctBy, same_by_key}
use Rattle.clr_types.proofs.TilePieces.{IsTile, tile}
use Rattle.clr_types.proofs.PieceGaps.{IsGapped}
use Rattle.clr_types.specs.Ranges.{piece_end}
use Rattle.clr_model.specs.Machine.{Machine, Object}
use Rattle.clr_model.specs.Lawful.{IsLaid}
use Rattle.clr_model.specs.Sweep.{part_start}
use Rattle.clr_model.specs.Compaction.{Move, moved_by}
use Rattle.clr_model.specs.Slide.{slid_object}
use Rattle.clr_model.proofs.CondemnedParts.{start-ephemeral, young-only}
use Rattle.clr_model.proofs.FitItems.{filling_pieces, IsFilling}
use Rattle.clr_model.proofs.FitFillings.{fillings, going, item-below}
use Rattle.clr_model.proofs.LawfulPieces.{places-distinct}
use Rattle.clr_model.proofs.LawfulSurvivors.{IsPlugOf, plug-is}
use Rattle.clr_model.proofs.MovedPlaces.{moved-is}
use Rattle.clr_model.proofs.PlugsApart.{piece_of_move}
use Rattle.clr_fitting.specs.Steps.{fit_in, fitted, IsFitMove}
use Rattle.clr_fitting.proofs.TwoSteps.{stays_laid}

-- keys that differ after a change differ before it
module _ {X Y : Type 0} (f : X → Y) (key : Y → ℕ) where
  pub unmapped : (xs : List X) → IsDistinctBy key (map f xs) → IsDistinctBy (λ x. key (f x)) xs
  unmapped [] d = tt
  unmapped (x ∷ xs) d = (all xs d.0, unmapped xs d.1)
    where
      all : (ys : List X) → AllByRecursion (λ y. key (f x) ≢ key y) (map f ys)
          → AllByRecursion (λ y. key (f x) ≢ key (f y)) ys
      all [] a = tt
      all (y ∷ ys) a = (a.0, all ys a.1)

module _ (m : Machine) (kept : ℕ → Bool) (h : IsLaid m) (bare : rest_pieces m.layout.rests ≡ []) where
  abbrev F : List Move
  F = (fit_in m kept).moves

  one : 1 ≤ 2
  one = omega arith

  -- a move takes a plug from above the first boundary to below it
  pub move_is : (v : Move) → IsIn v (fit_in m kept).moves → IsFitMove m.layout v
  move_is v i =
      let (f, n, k) = (fillings m h bare kept).moves_into v i in
      let at : IsTile f.item.place (piece_end f.item) (piece_of_move v) =
      tile f.item.place (piece_end f.item) (filling_pieces f) (piece_of_move v)
      (all_at IsFilling n (fillings m h bare kept).filled) (append_left f.rest (IsIn-map piece_of_move k)) in
      let below = item-below m h bare kept f.item
      (subst (IsIn f.item) (fillings m h bare kept).items_are (IsIn-map (λ f. f.item) n)) in
      let (p, known, of) = (going m h bare kept).plug_of v i in
      let is : IsPlugOf m h 1 one kept p = plug-is m h 1 one kept p ((going m h bare kept).plugs_in p known) in
      let home : is.home ≡ ephemeral m.layout = young-only m.layout h.layout 1 one is.home is.among (omega arith) in
      let from : IsGapped (part_start m.layout 1 is.home) p.start = is.from in
      let starts : part_start m.layout 1 is.home ≡ m.layout.start1 =
      ap (part_start m.layout 1) home ∙ start-ephemeral m.layout h.layout 1 one in
      let s : v.start ≡ p.start = of.start in let z : v.size ≡ p.size = of.size in let least : 24 ≤ p.size = is.size in
      let end = at.high_end in
      record { least = omega arith; from = omega arith; to = omega arith }

  -- what stands below stays
  pub below_stays : (place : ℕ) → place < m.layout.start1 → moved_by (fit_in m kept).moves place ≡ place
  below_stays place l = elim (moved-is F place) [
    | inr (none, e) ↦ e
    | inl (v, i, (a, b), e) ↦ let from = (move_is v i).from in absurd (omega arith)
  ]

  -- no two objects go to one place
  pub fit_one : (o p : Object) → IsIn o m.objects → IsIn p m.objects
      → moved_by (fit_in m kept).moves o.place ≡ moved_by (fit_in m kept).moves p.place → o ≡ p
  fit_one o p i j e =
      same_by_key (λ (o : Object). moved_by F o.place) m.objects o p
      (unmapped (slid_object F) (λ (o : Object). o.place) m.objects
      (places-distinct (fitted m kept) (stays_laid m kept h bare))) i j e

  pub fit_apart : (o p : Object) → IsIn o m.objects → IsIn p m.objects
      → moved_by (fit_in m kept).moves o.place ≡ moved_by (fit_in m kept).moves p.place → o.place ≡ p.place
  fit_apart o p i j e = ap (λ (w : Object). w.place) (fit_one o p i j e)
