-- The script of a seed: three types, and then lines whose words are drawn.
use Rattle.std.specs.Prelude.{ℕ, zero, suc, ◌+◌, ◌*◌, ◌/◌, ◌%◌, ◌^◌, List, [], ◌∷◌, ◌++◌, length, map, drop, codes}
use Rattle.std.specs.Prelude.{◌≡◌, true, false, ◌||◌, ◌==◌, nat_le, if◌then◌else◌, Some, None}
use Rattle.std.specs.List.{AllByRecursion}
use Rattle.clr_types.specs.Types.{class_form, bytes_form}
use Rattle.clr_model.specs.declared.How.TheVariants.{Decide}
use Rattle.clr_model.specs.Instructions.{Instruction, define_type, new_object, set_slot, clear_local, collect_heap}
use Rattle.clr_model.specs.LineGrammar.{spelling, IsLine}

-- ---- draws

-- the state after the next draw
unfoldable pub next_state : ℕ → ℕ
next_state x = (x * 1664525 + 1013904223) % 2 ^ 32

-- the number below k that a draw gives, by the state after it
unfoldable pub drawn : ℕ → ℕ → ℕ
drawn k x = (x / 65536) % k

-- the state after so many draws
abbrev pub state_after : ℕ → ℕ → ℕ
state_after zero x = x
state_after (suc draws) x = next_state (state_after draws x)

-- the number below k that draw i gives, counted from 1
abbrev pub draw : ℕ → ℕ → ℕ → ℕ
draw k i x = drawn k (state_after i x)

-- what each line draws from the state x on: its thread, its kind and two locals
pub record IsChoice (x t a k j : ℕ) : Type 0 where
  pub thread : t ≡ 1 + draw 3 1 x
  pub kind : a ≡ draw 8 2 x
  pub local : k ≡ draw 8 3 x
  pub other : j ≡ draw 8 4 x

-- ---- the lines of one script

abbrev pub made_types : List Instruction
made_types = define_type (codes "Node") (class_form (codes "rrn")) false
    ∷ define_type (codes "byte[]") bytes_form false
    ∷ define_type (codes "File") (class_form (codes "rn")) true
    ∷ []

-- the line of kind a, by its thread t, its locals k and j, a length and a generation
abbrev pub made_use : (a t k j len g : ℕ) → Instruction
made_use a t k j len g =
    if nat_le a 1 then new_object t k (codes "Node") None
    else (if a == 2 then new_object t k (codes "byte[]") (Some len)
    else (if a == 3 then new_object t k (codes "File") None
    else (if nat_le a 5 then set_slot t k 0 j
    else (if a == 6 then clear_local t k
    else collect_heap t g Decide))))

-- only a length and a generation are drawn besides
abbrev pub draws_of : ℕ → ℕ
draws_of a = if (a == 2) || (a == 7) then 5 else 4

-- the line that is drawn from the state x on: its thread, its kind, its locals, and what its kind draws besides
abbrev pub use_from : ℕ → Instruction
use_from x = made_use (draw 8 2 x) (1 + draw 3 1 x) (draw 8 3 x) (draw 8 4 x) (draw 2000 5 x) (draw 3 5 x)

abbrev pub state_behind : ℕ → ℕ
state_behind x = state_after (draws_of (draw 8 2 x)) x

abbrev pub uses_from : ℕ → ℕ → List Instruction
uses_from zero x = []
uses_from (suc n) x = use_from x ∷ uses_from n (state_behind x)

-- ---- scripts

-- the script of a seed, with n lines behind those that define its types
abbrev pub made_instructions : ℕ → ℕ → List Instruction
made_instructions seed n = made_types ++ uses_from n seed

abbrev pub made_lines : ℕ → ℕ → List (List ℕ)
made_lines seed n = map spelling (made_instructions seed n)

-- the lines left where so many types are defined, and n lines are to be drawn from the state x on
abbrev pub lines_left : ℕ → ℕ → ℕ → List (List ℕ)
lines_left types n x = map spelling (drop types made_types ++ uses_from n x)

-- ---- laws

-- each line of a made script is a line of the grammar
abbrev pub MadeLinesLaw : Type 0
MadeLinesLaw = (seed n : ℕ) → AllByRecursion (λ bytes. (i : Instruction) × IsLine bytes i) (made_lines seed n)

-- and there are three more of them than are drawn
abbrev pub MadeLengthLaw : Type 0
MadeLengthLaw = (seed n : ℕ) → length (made_lines seed n) ≡ n + 3
