-- The handles of a kind.
use Rattle.std.specs.Prelude.{ℕ, Bool, List, filter}
use Rattle.std.specs.FinMap as finmap
use Rattle.std.specs.FinMap.{FinMap}
use Rattle.std.specs.Ordering.{nat_cmp}
use Rattle.clr_types.specs.declared.handle.Handle.{Handle}
use Rattle.clr_types.specs.declared.handle.Kind.{Kind}
use Rattle.clr_model.specs.Looks.{is_kind}

-- an entry of a table of handles is of the kind
abbrev pub has_kind : Kind → ℕ × Handle → Bool
has_kind kind h = is_kind kind h.1.kind

-- the handles of a table that have the kind, by rising number
abbrev pub of_kind : FinMap nat_cmp Handle → Kind → List (ℕ × Handle)
of_kind handles kind = filter (has_kind kind) (finmap.entries handles)
