-- Searches for places of parts, that go on side by side.
use Rattle.std.proofs.Common.{◌≡◌, ℕ, sym, subst₂, arith, replicate}
use Rattle.std.proofs.lemmas.List.Elements.{All-replicate}
use Rattle.std.specs.List.{All}
use Rattle.clr_heap.specs.View.{HeapView}
use Rattle.clr_plugs.specs.BrickEntries.{BricksView}
use Rattle.clr_plugs.specs.SideBySide.{HasBegun, IsSearching}
use Rattle.clr_plugs.specs.declared.plug_search.PlugSearch.{PlugSearch}
use Rattle.clr_moves.specs.Together.{IsSearchIn, IsUsedPlace}
use Rattle.clr_moves.specs.declared.condemned.Condemned.{Condemned}

abbrev pub no_search : PlugSearch
no_search = record { place = 0; segment = 0; node = 0; found = 0; above = 0 }

module _ (h : HeapView) (bricks : BricksView) (g : Condemned) where
  pub search_begun : (s : PlugSearch) (k place : ℕ) → IsSearching h bricks s → s.place ≡ place → s.segment ≡ k
      → IsUsedPlace h g k place → IsSearchIn h bricks g s
  search_begun s k place searching at segment used =
      let P : ℕ → ℕ → Type 0 = λ n x. IsUsedPlace h g n x in
      record { searching = searching; used = λ begun. subst₂ P (sym segment) (sym at) used }

  -- one that goes on stays at its place
  pub search_on : (s next : PlugSearch) → IsSearchIn h bricks g s
      → (IsSearching h bricks s → IsSearching h bricks next) → next.place ≡ s.place → next.segment ≡ s.segment
      → (HasBegun next → HasBegun s) → IsSearchIn h bricks g next
  search_on s next is on at segment begun =
      let P : ℕ → ℕ → Type 0 = λ n x. IsUsedPlace h g n x in
      record {
        searching = on is.searching;
        used = λ some. subst₂ P (sym segment) (sym at) (is.used (begun some));
      }

  -- none of so many searches has begun
  pub none_begun : (n : ℕ) → All (IsSearchIn h bricks g) (replicate n no_search)
  none_begun n = All-replicate (IsSearchIn h bricks g) n no_search
      (record { searching = λ begun. absurd (omega (arith, begun)); used = λ begun. absurd (omega (arith, begun)) })
