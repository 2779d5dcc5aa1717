-- What leads to one object, nearest first, and what is told of the roots among it.
use Rattle.std.specs.Prelude.{◌≡◌, ◌≢◌, ℕ, suc, ◌+◌, ◌-◌, ◌/◌, ◌%◌, ◌<◌, ◌≤◌, nat_lt, List, [], ◌∷◌, ◌++◌, length}
use Rattle.std.specs.Prelude.{codes, decimal, get_or}
use Rattle.clr_model.specs.Looks.{Root, root_if, TellsRoots}
use Rattle.clr_model.specs.Machine.{Machine}
use Rattle.clr_sos.specs.BreadthFirst.{IsBreadthFirst}
use Rattle.clr_sos.specs.Reaching.{Leads}
use Rattle.clr_sos.specs.Views.{IsViewOf}
use Rattle.clr_sos.specs.declared.reach.Origin.{Origin}
use Rattle.clr_sos.specs.declared.reach.Origin.TheVariants.{Local, Handle, Ready, Through}
use Rattle.clr_sos.specs.declared.view.View.{View}
use Rattle.clr_paths.specs.Incoming.{HasEdge}
use Rattle.clr_paths.specs.Numbers.{place_of}
use Rattle.clr_paths.specs.declared.all_roots.Way.{Way}
use Rattle.clr_paths.specs.declared.all_roots.Ways.{Ways}
use Rattle.clr_paths.specs.declared.incoming.Incoming.{Incoming}

-- ---- the search

abbrev pub no_way : Way
no_way = record { number = 0; next = 0 }

abbrev pub way_at : Ways → ℕ → Way
way_at ways i = get_or ways.found.items i no_way

abbrev pub count_of : Ways → ℕ
count_of ways = length ways.found.items

-- 1 more than the index of the entry of the object with a number, or 0
abbrev pub mark_of : Ways → ℕ → ℕ
mark_of ways n = get_or ways.at.items n 0

-- the address of the object of an entry
abbrev pub node_at : List ℕ → Ways → ℕ → ℕ
node_at places ways i = place_of places (way_at ways i).number

abbrev pub next_at : Ways → ℕ → ℕ
next_at ways i = (way_at ways i).next

-- the entries are of different objects among n, each of which has the mark of its entry
pub record AreMarked (n : ℕ) (ways : Ways) : Type 0 where
  pub count : length ways.at.items ≡ n
  pub numbered : (i : ℕ) → i < count_of ways → (way_at ways i).number < n
  pub marked : (i : ℕ) → i < count_of ways → mark_of ways (way_at ways i).number ≡ i + 1
  pub entered : (k : ℕ) → mark_of ways k ≢ 0
      → (mark_of ways k ≤ count_of ways) × ((way_at ways (mark_of ways k - 1)).number ≡ k)

-- entries were added at the end, each of which leads to the same next one
pub record HasMet (old new : Ways) (next : ℕ) : Type 0 where
  pub longer : count_of old ≤ count_of new
  pub same : (i : ℕ) → i < count_of old → way_at new i ≡ way_at old i
  pub came : (i : ℕ) → count_of old ≤ i → i < count_of new → next_at new i ≡ next
  pub kept : (k : ℕ) → mark_of old k ≢ 0 → mark_of new k ≢ 0

-- the entries that were added are of objects from which a listed edge leads to the one with the number, and all such
-- have an entry
pub record HasFollowed (incoming : Incoming) (to : ℕ) (old new : Ways) : Type 0 where
  pub only : (i : ℕ) → count_of old ≤ i → i < count_of new → HasEdge incoming (way_at new i).number to
  pub all : (k : ℕ) → HasEdge incoming k to → mark_of new k ≢ 0

-- THE LAW OF THE SEARCH BACK, breadth first, whose entries below `next` were followed: the first entry is of the
-- object that is asked for, and each other one leads to its next one
pub record AreWaysUpTo (v : View) (places : List ℕ) (ways : Ways) (next : ℕ) : Type 0 where
  pub marks : AreMarked (length places) ways
  pub some : 0 < count_of ways
  pub ends : (i : ℕ) → i < count_of ways → next_at ways i ≡ 0 → i ≡ 0
  pub lead : (i q : ℕ) → i < count_of ways → next_at ways i ≡ suc q
      → Leads v (node_at places ways i) (node_at places ways q)
  pub breadth : IsBreadthFirst (λ x y. Leads v y x) (λ x. x ≡ node_at places ways 0) (node_at places ways)
      (next_at ways) (count_of ways) next

-- all entries were followed
abbrev pub AreWays : View → List ℕ → Ways → Type 0
AreWays v places ways = AreWaysUpTo v places ways (count_of ways)

-- the addresses from entry i on, each of the next entry of the one before, to the object that was asked for
pub data IsWayFrom (places : List ℕ) (ways : Ways) : ℕ → List ℕ → Type 0 where
  ends : (i : ℕ) → next_at ways i ≡ 0 → IsWayFrom places ways i (node_at places ways i ∷ [])
  goes_on : (i q : ℕ) (rest : List ℕ) → next_at ways i ≡ suc q → IsWayFrom places ways q rest
      → IsWayFrom places ways i (node_at places ways i ∷ rest)

-- ---- the text

-- the words of the line of a root
abbrev pub root_words : Origin → List (List ℕ)
root_words (Local i) = codes "root" ∷ (116 ∷ decimal (i / 64 + 1)) ∷ (108 ∷ decimal (i % 64)) ∷ []
root_words (Handle h) = codes "root" ∷ (104 ∷ decimal h) ∷ []
root_words (Ready i) = codes "root" ∷ codes "ready" ∷ decimal i ∷ []
root_words (Through i) = []

-- a root that refers to an address, where that isn't null
abbrev pub root_at : Origin → ℕ → List Root
root_at origin place = root_if (nat_lt 0 place) (root_words origin) place

-- what is told of some roots was put at the end, for an object, and so many of them lead there
pub record HasTold (m : Machine) (a : ℕ) (roots : List Root) (count : ℕ) (old new : List ℕ) : Type 0 where
  pub blocks : List ℕ
  pub told : TellsRoots m a roots count blocks
  pub put : new ≡ old ++ blocks

-- what is told of the roots of each machine that a view shows was put at the end
abbrev pub PutsRoots : View → ℕ → (Machine → List Root) → ℕ → List ℕ → List ℕ → Type 0
PutsRoots v a roots count old new = (m : Machine) → IsViewOf v m → HasTold m a (roots m) count old new
