-- What no collection changes, whatever its kind.
use Rattle.std.proofs.Common.{◌≡◌, ℕ, List, refl, ap, ◌∙◌, Bool, true, false, if◌then◌else◌, ◌==◌, ◌&&◌}
use Rattle.std.specs.Prelude.{MatchBool}
use Rattle.clr_types.specs.Segments.{Layout}
use Rattle.clr_model.specs.declared.How.{How}
use Rattle.clr_model.specs.declared.Collected.{Collected}
use Rattle.clr_model.specs.Machine.{Machine, Marking, Object}
use Rattle.clr_model.specs.Reach.{StartOf, StartOfBackground}
use Rattle.clr_model.specs.Sweep.{Survivor, swept_others}
use Rattle.clr_model.specs.Compaction.{Move}
use Rattle.clr_model.specs.Fitting.{IsFitted}
use Rattle.clr_model.specs.Collection.{begun, compacts, decides_to_compact, ended, is_fit, released, Collects}
use Rattle.clr_model.specs.Collection.{EndsBackground, IsCollected, IsSmallLaid, SlidesIf}
use Rattle.clr_model.specs.declared.How.TheVariants.{Sweep}

pub record KeepsRest (m new : Machine) : Type 0 where
  pub types : new.types ≡ m.types
  pub born : new.born ≡ m.born
  pub locals : new.locals ≡ m.locals
  pub steps : new.steps ≡ m.steps
  pub holder : new.holder ≡ m.holder
  pub options : new.options ≡ m.options
  pub top : new.layout.top ≡ m.layout.top

both_keep : (m mid new : Machine) → KeepsRest m mid → KeepsRest mid new → KeepsRest m new
both_keep m mid new a b = record {
  types = b.types ∙ a.types;
  born = b.born ∙ a.born;
  locals = b.locals ∙ a.locals;
  steps = b.steps ∙ a.steps;
  holder = b.holder ∙ a.holder;
  options = b.options ∙ a.options;
  top = b.top ∙ a.top;
}

small_top : (compacting : Bool) (layout : Layout) (g : ℕ) (kept : List Survivor) (moves : List Move) (small : Layout)
    → IsSmallLaid compacting layout g kept moves small → small.top ≡ layout.top
small_top true layout g kept moves small c = c.top
small_top false layout g kept moves small c = ap (λ (l : Layout). l.top) c.1

swept_top : (b : Bool) (small : Layout) (kept : List Survivor)
    → (if b then swept_others small 2 kept else small).top ≡ small.top
swept_top true small kept = refl
swept_top false small kept = refl

released_top : (b : Bool) (laid : Layout) (objects : List Object)
    → (if b then released laid objects else laid).top ≡ laid.top
released_top true laid objects = refl
released_top false laid objects = refl

-- before the end
collected_keeps : (m : Machine) (g : ℕ) (how : How) (last_pause : Bool) (start : ℕ → Type 0) (answer : Collected)
    (new : Machine) → IsCollected m g how last_pause start answer new → KeepsRest m new
collected_keeps m g how last_pause start answer new c = record {
  types = ap (λ (w : Machine). w.types) c.state;
  born = ap (λ (w : Machine). w.born) c.state;
  locals = ap (λ (w : Machine). w.locals) c.state;
  steps = ap (λ (w : Machine). w.steps) c.state;
  holder = ap (λ (w : Machine). w.holder) c.state;
  options = ap (λ (w : Machine). w.options) c.state;
  top =
      ap (λ (w : Machine). w.layout.top) c.state
      ∙ ap (λ (l : Layout). l.top) c.large_laid ∙ swept_top (g == 2) c.small c.survive
      ∙ by_kind (is_fit how) c.small_laid;
}
  where
    by_kind : (b : Bool) → MatchBool b (IsFitted m.layout c.survive c.moves c.small)
        (IsSmallLaid (compacts how (decides_to_compact m g c.survive)) m.layout g c.survive c.moves c.small)
        → c.small.top ≡ m.layout.top
    by_kind true fitted = fitted.compacted.top
    by_kind false laid =
        small_top (compacts how (decides_to_compact m g c.survive)) m.layout g c.survive c.moves c.small laid

slide_keeps : (b : Bool) (m new : Machine) → SlidesIf b m new → KeepsRest m new
slide_keeps true m new (moves, s) = record {
  types = ap (λ (w : Machine). w.types) s.state;
  born = ap (λ (w : Machine). w.born) s.state;
  locals = ap (λ (w : Machine). w.locals) s.state;
  steps = ap (λ (w : Machine). w.steps) s.state;
  holder = ap (λ (w : Machine). w.holder) s.state;
  options = ap (λ (w : Machine). w.options) s.state;
  top = ap (λ (w : Machine). w.layout.top) s.state ∙ ap (λ (l : Layout). l.top) s.slid.laid;
}
slide_keeps false m new same = record {
  types = ap (λ (w : Machine). w.types) same;
  born = ap (λ (w : Machine). w.born) same;
  locals = ap (λ (w : Machine). w.locals) same;
  steps = ap (λ (w : Machine). w.steps) same;
  holder = ap (λ (w : Machine). w.holder) same;
  options = ap (λ (w : Machine). w.options) same;
  top = ap (λ (w : Machine). w.layout.top) same;
}

end_keeps : (g : ℕ) (flag : Bool) (m new : Machine) → new ≡ record (ended g m) { compacts_large = flag }
    → KeepsRest m new
end_keeps g flag m new same = record {
  types = ap (λ (w : Machine). w.types) same;
  born = ap (λ (w : Machine). w.born) same;
  locals = ap (λ (w : Machine). w.locals) same;
  steps = ap (λ (w : Machine). w.steps) same;
  holder = ap (λ (w : Machine). w.holder) same;
  options = ap (λ (w : Machine). w.options) same;
  top = ap (λ (w : Machine). w.layout.top) same ∙ released_top (g == 2) m.layout m.objects;
}

pub collects_keeps : (m : Machine) (g : ℕ) (how : How) (answer : Collected) (new : Machine)
    → Collects m g how answer new → KeepsRest m new
collects_keeps m g how answer new c =
    let a = collected_keeps (begun m) g how false (StartOf (begun m) g) answer c.collected c.collects in
    let given_up : KeepsRest m c.collected =
    record {
      types = a.types;
      born = a.born;
      locals = a.locals;
      steps = a.steps;
      holder = a.holder;
      options = a.options;
      top = a.top;
    } in
    both_keep m c.slid new
    (both_keep m c.collected c.slid given_up (slide_keeps (m.compacts_large && (g == 2)) c.collected c.slid c.slides))
    (end_keeps g _ c.slid new c.ends)

pub last_pause_keeps : (m : Machine) (marking : Marking) (answer : Collected) (new : Machine)
    → EndsBackground m marking answer new → KeepsRest m new
last_pause_keeps m marking answer new c =
    let a = collected_keeps (begun m) 2 Sweep true (StartOfBackground (begun m) marking) answer c.collected c.collects
    in
    let given_up : KeepsRest m c.collected =
    record {
      types = a.types;
      born = a.born;
      locals = a.locals;
      steps = a.steps;
      holder = a.holder;
      options = a.options;
      top = a.top;
    } in
    both_keep m c.collected new given_up (end_keeps 2 c.collected.compacts_large c.collected new c.ends)
