-- All bytes of a source are read.
use Rattle.std.specs.Prelude.{◌≡◌, ◌≤◌, ℕ, List, [], ◌++◌, length, Option, IfSome}
use Rattle.clr_streams.specs.Faults.{Taken}

-- all bytes were read, at most so many, up to the end
pub record ReadWhole (limit : ℕ) (held held_after : Option (List ℕ)) (bytes : List ℕ) : Type 0 where
  pub taken : Taken held held_after bytes
  pub short : length bytes ≤ limit
  pub ended : IfSome held_after (λ rest. rest ≡ [])

-- so many bytes were read, and at least one more
pub record ReadTooMuch (limit : ℕ) (held held_after : Option (List ℕ)) : Type 0 where
  pub bytes : List ℕ
  pub more : List ℕ
  pub taken : Taken held held_after (bytes ++ more)
  pub full : length bytes ≡ limit
  pub some : 1 ≤ length more
