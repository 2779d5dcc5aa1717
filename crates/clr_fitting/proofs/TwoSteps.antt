-- A fit as a step of its own, and a usual compaction over what it leaves: both are a fitting.
use Rattle.std.proofs.Common.{◌≡◌, ℕ, List, [], ◌++◌, refl, sym, subst, ◌∙◌, Bool, true, false, ◌&&◌, ◌==◌}
use Rattle.std.proofs.Common.{not}
use Rattle.std.proofs.lemmas.Bool.{and_parts, eqb-true}
use Rattle.clr_types.specs.Rising.{IsIn}
use Rattle.clr_types.specs.Segments.{Layout, is_small_or_ephemeral, rest_pieces}
use Rattle.clr_types.proofs.ChangedLists.{out_of_filter}
use Rattle.clr_model.specs.Machine.{Machine, Object}
use Rattle.clr_model.specs.Lawful.{IsLaid}
use Rattle.clr_model.specs.Sweep.{survivors}
use Rattle.clr_model.specs.Compaction.{IsCompacted, Move, moved_by, plugs_of, survivors_in}
use Rattle.clr_model.specs.Fitting.{IsFitted, unfitted}
use Rattle.clr_model.proofs.FitCompacted.{gone_below, left_survivors, old-below, twice}
use Rattle.clr_model.proofs.FitFillings.{going, moved-covers}
use Rattle.clr_model.proofs.FitLaid.{fit_laid}
use Rattle.clr_model.proofs.Landings.{covered_by}
use Rattle.clr_fitting.specs.Laws.{Compacts}
use Rattle.clr_fitting.specs.Steps.{fit_in, fitted, finds_room, IsFittedObject}

-- what `not` takes to true is false
pub negated : (b : Bool) → not b ≡ true → b ≡ false
negated true e = absurd cc
negated false e = refl

-- a fit leaves the memory as lawful
pub stays_laid : (m : Machine) (kept : ℕ → Bool) → IsLaid m → rest_pieces m.layout.rests ≡ [] → IsLaid (fitted m kept)
stays_laid m kept h bare = fit_laid m h bare kept

-- what finds room is a kept object of generation 1 that isn't pinned, and goes to generation 2
pub fitted_object : (m : Machine) (kept : ℕ → Bool) → IsLaid m → rest_pieces m.layout.rests ≡ [] → (o : Object)
    → IsIn o m.objects → finds_room m kept o ≡ true → IsFittedObject m kept o
fitted_object m kept h bare o i t =
    let moves : List Move = (fit_in m kept).moves in
    let (v, n, cover) = moved-covers (fit_in m kept).moves o.place t in
    let is = covered_by m h kept _ _ (fit_in m kept).moves (going m h bare kept) o i v n cover in
    let (chosen, among) = out_of_filter (λ p. not p.pinned && (p.generation == 1)) is.plug
    (plugs_of (survivors_in is_small_or_ephemeral m.layout (survivors m 1 kept))) is.among in
    let (loose, young) = and_parts (not is.plug.pinned) (is.plug.generation == 1) chosen in
    let down = gone_below m h bare kept o i t in
    record {
      stays = is.stays;
      free = is.pinned ∙ negated is.plug.pinned loose;
      before = is.age ∙ eqb-true is.plug.generation 1 young;
      lower = down;
      after = old-below m.layout (moved_by (fit_in m kept).moves o.place) down;
    }

-- the others are left to be compacted
pub others_left : (m : Machine) (kept : ℕ → Bool) → IsLaid m → rest_pieces m.layout.rests ≡ []
    → survivors (fitted m kept) 1 kept ≡ unfitted (fit_in m kept) (survivors m 1 kept)
others_left m kept h bare = left_survivors m h bare kept

-- a fit, and a usual compaction of what it leaves, are a fitting
pub two_steps : (m : Machine) (kept : ℕ → Bool) → IsLaid m → rest_pieces m.layout.rests ≡ [] → (others : List Move)
    (new : Layout) → Compacts (fitted m kept) kept others new
    → IsFitted m.layout (survivors m 1 kept) ((fit_in m kept).moves ++ others) new
two_steps m kept h bare others new c = record {
  others = others;
  compacted = subst (λ ks. IsCompacted (fitted m kept).layout 1 ks others new) (others_left m kept h bare) c;
  moves_are = refl;
}

-- an object goes where the fit takes it, and from there where the compaction does
pub goes_twice : (m : Machine) (kept : ℕ → Bool) → IsLaid m → rest_pieces m.layout.rests ≡ [] → (others : List Move)
    (new : Layout) → Compacts (fitted m kept) kept others new → (o : Object) → IsIn o m.objects
    → moved_by ((fit_in m kept).moves ++ others) o.place ≡ moved_by others (moved_by (fit_in m kept).moves o.place)
unfolding two_steps
goes_twice m kept h bare others new c o i =
    sym (twice m h bare kept ((fit_in m kept).moves ++ others) new (two_steps m kept h bare others new c) o i)
