-- A runtime that shows the state that an image says.
use Rattle.std.proofs.Common.{◌≡◌, ℕ, ◌+◌, ◌^◌, ◌≤◌, List, sym, subst, Result, Ok, Err, IfOk}
use Rattle.clr_format.specs.Images.{IsImage, Parts}
use Rattle.clr_load.specs.declared.image.Image.{Image}
use Rattle.clr_model.specs.Machine.{Machine}
use Rattle.clr_model.specs.Run as run
use Rattle.clr_model.proofs.SeenStands.{sound_stands}
use Rattle.clr_opened.specs.Opened.{Budgets, opened}
use Rattle.clr_runtime.specs.RuntimeView.{RuntimeView, StandsFor}
use Rattle.clr_open.specs.Fit.{AreLawfulBudgets, IsFit}
use Rattle.clr_open.specs.Read.{IsRead}
use Rattle.clr_open.specs.declared.opening.OpenFault.{OpenFault}
use Rattle.clr_open.specs.declared.opening.OpenFault.TheVariants.{Unfit}
use Rattle.clr_open.proofs.OpenedLawful.{opened-lawful}
use Rattle.clr_open.proofs.StandingImages.{opened-low}

-- an offset that a fault tells
pub same-offset : {A : Type 0} (a o : ℕ) → ◌≡◌ {A = Result A OpenFault} (Err (Unfit a)) (Err (Unfit o)) → a ≡ o
same-offset a o e = cc

-- what follows of each value follows of a result
if-ok : {A E : Type 0} (P Q : A → Type 0) → ((x : A) → P x → Q x) → (r : Result A E) → IfOk r P → IfOk r Q
if-ok P Q f (Ok x) p = f x p
if-ok P Q f (Err e) p = tt

module _ (bytes : List ℕ) (image : Image) (p : Parts) (b : Budgets) (read : IsRead bytes image p) (fit : IsFit p)
    (budgets : AreLawfulBudgets b) where
  abbrev Shows : RuntimeView → Type 0
  Shows r = r.machine ≡ opened p b

  module _ {E : Type 0} (result : Result RuntimeView E) (shows : IfOk result (λ r. r.machine ≡ opened p b)) where
    -- the bytes are an image that is fit, and it shows the state that the image says
    pub result-opened : IfOk result (λ r. (q : Parts) × IsImage bytes q × IsFit q × (r.machine ≡ opened q b))
    result-opened =
        if-ok Shows (λ r. (q : Parts) × IsImage bytes q × IsFit q × (r.machine ≡ opened q b))
        (λ r e. (p, read.is, fit, e)) result shows

    -- addresses are left behind its segments
    pub result-low : IfOk result (λ r. r.machine.layout.top ≤ 2 ^ 60 + 2 ^ 30)
    result-low =
        if-ok Shows (λ r. r.machine.layout.top ≤ 2 ^ 60 + 2 ^ 30)
        (λ r e. subst (λ (m : Machine). m.layout.top ≤ 2 ^ 60 + 2 ^ 30) (sym e)
        (opened-low bytes image p b read fit budgets)) result shows

    -- and it stands for a machine whose objects are named by their births
    pub result-stands : IfOk result (λ r. (first : Machine) × StandsFor r first)
    result-stands =
        if-ok Shows (λ r. (first : Machine) × StandsFor r first)
        (λ r e. subst (λ (m : Machine). (first : Machine) × run.StandsFor m first) (sym e)
        (sound_stands (opened p b) (opened-lawful bytes image p b read fit budgets))) result shows
