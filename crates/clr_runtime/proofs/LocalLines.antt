-- The lines that work on locals, on what is seen.
use Rattle.std.proofs.Common.{◌≡◌, ℕ, [], ◌∷◌, sym, subst, slice_set, None}
use Rattle.clr_safe.specs.Threads.{Threads}
use Rattle.clr_runtime.specs.Shown.{Ahead, shown}
use Rattle.clr_view.specs.World.{World}
use Rattle.clr_model.specs.declared.Reply.TheVariants.{Done, Place}
use Rattle.clr_model.specs.Instructions.{clear_local, copy_local, Instruction}
use Rattle.clr_model.specs.Lookups.{local_index, local_of}
use Rattle.clr_model.specs.Machine.{Machine, Options, Sums}
use Rattle.clr_model.specs.Outcomes.{answered, Outcome}
use Rattle.clr_model.specs.Run.{Follows}
use Rattle.clr_model.specs.Updates.{with_local}
use Rattle.clr_model.proofs.LineFollows.{clear_done, copy_done}
use Rattle.clr_runtime.specs.Checks.{names_refusal}
use Rattle.clr_runtime.proofs.NamesChecked.{names_passed, once}

-- a local by where it stands among all
pub local_written : (s : Machine) (i : Instruction) (outcome : Outcome) (t k v j : ℕ) → j ≡ local_index t k
    → Follows s i outcome (with_local s t k v) → Follows s i outcome (record s { locals = slice_set s.locals j v })
local_written s i outcome t k v j at follows =
    subst (λ n. Follows s i outcome (record s { locals = slice_set s.locals n v })) (sym at) follows

module _ (w : World) (sums : Sums) (options : Options) (threads : Threads) (ahead : Ahead) (t : ℕ) where
  abbrev s : Machine
  s = shown w sums options threads ahead

  -- `null`
  pub cleared : (k j : ℕ) → names_refusal s t (k ∷ k ∷ []) ≡ None → j ≡ local_index t k
      → Follows s (clear_local t k) (answered Done)
      (shown (record w { locals = slice_set w.locals j 0 }) sums options threads ahead)
  cleared k j passed at =
      let (run, locals) = names_passed s t (k ∷ []) (once s t k None passed) in
      local_written s (clear_local t k) (answered Done) t k 0 j at (clear_done s t run k locals.0)

  -- `copy`
  pub copied : (to from j v : ℕ) → names_refusal s t (to ∷ from ∷ []) ≡ None → j ≡ local_index t to
      → v ≡ local_of s t from
      → Follows s (copy_local t to from) (answered (Place v))
      (shown (record w { locals = slice_set w.locals j v }) sums options threads ahead)
  copied to from j v passed at is =
      let (run, locals) = names_passed s t (to ∷ from ∷ []) passed in
      local_written s (copy_local t to from) (answered (Place v)) t to v j at
      (subst (λ n. Follows s (copy_local t to from) (answered (Place n)) (with_local s t to n)) (sym is)
      (copy_done s t run to from locals.0 locals.1.0))
