-- What is seen of a machine whose segments were released.
use Rattle.std.proofs.Common.{◌≡◌, ℕ, ◌==◌, ◌||◌, List, if◌then◌else◌, map, ap, sym, ◌∙◌}
use Rattle.std.specs.List.{list_any}
use Rattle.clr_types.specs.Segments.{Layout, same_kind, segments_of, stands_in}
use Rattle.clr_types.specs.declared.segment.SegInfo.{SegInfo}
use Rattle.clr_types.specs.declared.segment.SegKind.TheVariants.{Ephemeral, Large}
use Rattle.clr_types.proofs.ListMembers.{any-map, filter-on}
use Rattle.clr_types.proofs.Shuffles.{shuffled-any, shuffled-sorted}
use Rattle.clr_model.specs.Collection.{base_of_first, ended, released}
use Rattle.clr_model.specs.Lookups.{place_of}
use Rattle.clr_model.specs.Machine.{Machine, Object}
use Rattle.clr_model.specs.Picture.{picture, renamed_object}

module _ (m : Machine) where
  abbrev to : ℕ → ℕ
  to = place_of m.objects

  standing : (s : SegInfo) → list_any (λ o. stands_in s o.place) (picture m).objects
      ≡ list_any (λ o. stands_in s o.place) m.objects
  standing s =
      sym (shuffled-any (λ (o : Object). stands_in s o.place)
      (shuffled-sorted (λ (o : Object). o.name) (map (renamed_object to) m.objects)))
      ∙ any-map (renamed_object to) (λ (o : Object). stands_in s o.place) m.objects

  -- what is released is told by the places of objects alone
  released_seen : released m.layout (picture m).objects ≡ released m.layout m.objects
  released_seen =
      ap (λ (ss : List SegInfo). record m.layout { segments = ss })
      (filter-on _ _ m.layout.segments (λ s i.
      ap (λ b. b || (same_kind Ephemeral s.kind || (s.base == base_of_first (segments_of Large m.layout))))
      (standing s)))

  pub ended_layout : (g : ℕ) → (ended g (picture m)).layout ≡ (picture (ended g m)).layout
  ended_layout g = ap (λ (l : Layout). if g == 2 then l else m.layout) released_seen
