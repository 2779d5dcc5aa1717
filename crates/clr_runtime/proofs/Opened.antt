-- What a new runtime shows.
use Rattle.std.proofs.Common.{◌≡◌, ◌∙◌, ℕ, zero, suc, ◌≤◌, ◌%◌, List, [], length, arith, sym, ap, subst, replicate}
use Rattle.std.specs.List.{AllByRecursion}
use Rattle.std.specs.FinMap as finmap
use Rattle.std.proofs.lemmas.List.{length-replicate}
use Rattle.clr_types.specs.Types.{TypeRow}
use Rattle.clr_heap.specs.View as heap
use Rattle.clr_heap.specs.View.{HeapView}
use Rattle.clr_view.specs.Clean.{AreClean}
use Rattle.clr_view.specs.Marks.{IsUnmarked}
use Rattle.clr_runtime.specs.Shown.{Ahead, nothing_ahead, shown}
use Rattle.clr_view.specs.View.{AreFreeHeads, IsHeld}
use Rattle.clr_view.specs.World.{bare_world, World}
use Rattle.clr_view.proofs.CleanWords.{clean_at_start}
use Rattle.clr_view.proofs.FreeHeads.{heads_at_start}
use Rattle.clr_view.proofs.Unmarked.{unmarked_at_start}
use Rattle.clr_view.proofs.Opening.{held_at_start, layout_at_start, no_objects}
use Rattle.clr_model.specs.Lawful.{AreLawfulOptions}
use Rattle.clr_model.specs.Machine.{Machine, Options, Sums}
use Rattle.clr_model.specs.Run.{opening, StandsFor}
use Rattle.clr_model.proofs.Opening.{opening_stands}
use Rattle.clr_model.proofs.SeenSound.{seen_sound}
use Rattle.clr_safe.specs.Threads.{births_owed, no_threads, Threads}
use Rattle.clr_safe.specs.declared.begun.Begun.TheVariants.{Nothing}
use Rattle.clr_runtime.specs.RuntimeView.{IsShown, TellsFinalizer}
use Rattle.std.proofs.lemmas.Bool.{false≢true}

abbrev pub no_sums : Sums
no_sums = record { spent0 = 0; spent_large = 0; promoted1 = 0; promoted2 = 0 }

-- with null locals and an empty heap the opening state is shown
opening-shown : (options : Options) (limit : ℕ) → options.segment % 4096 ≡ 0
    → shown
    (bare_world [] (heap.opening_heap options.segment limit) (replicate 1024 0)) no_sums options no_threads
    nothing_ahead
    ≡ opening options
unfolding opening
opening-shown options limit aligned =
    let objects = no_objects [] options.segment limit aligned in
    let layout = layout_at_start [] options.segment limit aligned in
    λ i. record (opening options) { objects = objects i; layout = layout i }

-- A world in which nothing was made: no types, an empty heap, null locals, no handles and no finalisation entries.
pub record IsFirst (w : World) (segment limit : ℕ) : Type 0 where
  pub rows : w.rows ≡ []
  pub heap : w.heap ≡ heap.opening_heap segment limit
  pub locals : w.locals ≡ replicate 1024 0
  pub handles : w.handles ≡ finmap.empty
  pub entries : w.entries ≡ []
  pub ready : w.ready ≡ []

-- nothing is begun, so no entry is owed, and nothing is told of finalisers
nothing-told : (rows : List TypeRow) (n : ℕ) → AllByRecursion (TellsFinalizer rows) (replicate n Nothing)
nothing-told rows zero = tt
nothing-told rows (suc n) = (tt, nothing-told rows n)

module _ (threads : Threads) (none : threads ≡ no_threads) where
  pub none_owed : (spare : ℕ) → births_owed threads ≤ spare
  none_owed spare = subst (λ (t : Threads). births_owed t ≤ spare) (sym none) (omega arith)

  pub none_told : (rows : List TypeRow) → AllByRecursion (TellsFinalizer rows) threads.begun
  none_told rows =
      subst (λ (t : Threads). AllByRecursion (TellsFinalizer rows) t.begun) (sym none) (nothing-told rows 16)

module _ (w : World) (threads : Threads) (none : threads ≡ no_threads) (ahead : Ahead) (nothing : ahead ≡ nothing_ahead)
    (options : Options) (limit : ℕ) (lawful : AreLawfulOptions options) (is : IsFirst w options.segment limit) where
  first-world : w ≡ bare_world [] (heap.opening_heap options.segment limit) (replicate 1024 0)
  first-world = λ i. record {
    rows = is.rows i;
    heap = is.heap i;
    locals = is.locals i;
    handles = is.handles i;
    entries = is.entries i;
    ready = is.ready i;
  }

  -- it shows the opening state
  pub new_stands : StandsFor (shown w no_sums options threads ahead) (opening options)
  new_stands =
      subst (λ (s : Machine). StandsFor s (opening options))
      (sym
      ((λ i. shown (first-world i) no_sums options (none i) (nothing i))
      ∙ opening-shown options limit lawful.segment_aligned))
      (opening_stands options lawful)

  -- what holds of no types and the first heap
  at-first : (P : List TypeRow → HeapView → Type 0) → P [] (heap.opening_heap options.segment limit)
      → P w.rows w.heap
  at-first P first = subst (λ (v : World). P v.rows v.heap) (sym first-world) first

  -- and what holds of every runtime holds of it
  pub new_shown : IsShown w no_sums options threads ahead
  new_shown = record {
    locals = ap length is.locals ∙ length-replicate {A = ℕ} 1024 0;
    held = at-first IsHeld (held_at_start [] options.segment limit lawful.segment_aligned);
    unmarked = at-first IsUnmarked (unmarked_at_start [] options.segment limit lawful.segment_aligned);
    free_heads = at-first AreFreeHeads (heads_at_start [] options.segment limit lawful.segment_aligned);
    clean = at-first AreClean (clean_at_start [] options.segment limit lawful.segment_aligned);
    sound = seen_sound (shown w no_sums options threads ahead) (opening options) new_stands;
    marked = λ running. absurd (false≢true (sym (ap (λ (a : Ahead). a.background.running) nothing) ∙ running));
  }
