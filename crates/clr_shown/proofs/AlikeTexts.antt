-- Machines of which `eeheap -gc`, `dumpheap`, `gchandles` and `finalizequeue` show the same.
use Rattle.std.proofs.Common.{◌≡◌, ℕ, ◌∷◌, ◌++◌, List, [], refl, ap}
use Rattle.std.specs.Prelude.{codes, decimal, false}
use Rattle.std.specs.List.{enumerate_from, flat_map}
use Rattle.clr_types.specs.Segments.{reserved_sum}
use Rattle.clr_types.specs.declared.segment.SegInfo.{SegInfo}
use Rattle.clr_types.specs.declared.segment.SegKind.{SegKind}
use Rattle.clr_types.specs.declared.segment.SegKind.TheVariants.{Ephemeral, Large, Pinned, Small}
use Rattle.clr_nums.specs.Numbers.{hex16}
use Rattle.clr_model.specs.declared.Reply.TheVariants.{Clean}
use Rattle.clr_model.specs.Machine.{Machine}
use Rattle.clr_model.specs.Outcomes.{answered, outcome_text}
use Rattle.clr_model.specs.ReplyText.{segment_word}
use Rattle.clr_model.specs.Sos.{boundary_words, context_line, eeheap_text, finalizequeue_text, gchandles_text}
use Rattle.clr_model.specs.Sos.{kind_number, line, segment_line}
use Rattle.clr_image.specs.Texts.{all_text, shown_text}

-- two machines have all in common that these commands look at
pub record LookAlike (a b : Machine) : Type 0 where
  pub types : a.types ≡ b.types
  pub objects : a.objects ≡ b.objects
  pub segments : a.layout.segments ≡ b.layout.segments
  pub start1 : a.layout.start1 ≡ b.layout.start1
  pub start0 : a.layout.start0 ≡ b.layout.start0
  pub free : a.layout.free ≡ b.layout.free
  pub rests : a.layout.rests ≡ b.layout.rests
  pub handles : a.handles ≡ b.handles
  pub entries : a.entries ≡ b.entries
  pub ready : a.ready ≡ b.ready
  pub limit : a.options.limit ≡ b.options.limit

module _ (a b : Machine) (alike : LookAlike a b) where
  -- the line of a segment shows the same boundaries of generations
  boundaries-alike : (kind : SegKind) → boundary_words a.layout kind ≡ boundary_words b.layout kind
  boundaries-alike Ephemeral = λ i.
      codes "gen1" ∷ hex16 (alike.start1 i) ∷ codes "gen0" ∷ hex16 (alike.start0 i) ∷ []
  boundaries-alike Small = refl
  boundaries-alike Large = refl
  boundaries-alike Pinned = refl

  -- a segment has the same line
  segment-alike : (s : SegInfo) → segment_line a.layout s ≡ segment_line b.layout s
  segment-alike s =
      ap (λ (words : List (List ℕ)). line (codes "segment" ∷ hex16 s.base ∷ segment_word (kind_number s.kind)
      ∷ codes "end" ∷ hex16 s.end ∷ codes "reserved" ∷ decimal s.reserved ∷ words)) (boundaries-alike s.kind)

  -- `eeheap -gc` replies the same
  segments-alike : eeheap_text a ≡ eeheap_text b
  segments-alike = λ i.
      (flat_map (λ (s : SegInfo). segment-alike s i) (alike.segments i)
      ++ flat_map context_line (enumerate_from 1 (alike.rests i)))
      ++ line (codes "reserved" ∷ decimal (reserved_sum (record a.layout { segments = alike.segments i }))
      ∷ codes "limit" ∷ decimal (alike.limit i) ∷ [])

  -- a plain `dumpheap` replies the same
  heap-alike : all_text a ≡ all_text b
  heap-alike = λ i. all_text (record a {
    types = alike.types i;
    objects = alike.objects i;
    layout = record a.layout { free = alike.free i };
  })

  -- `gchandles` replies the same
  handles-alike : gchandles_text a ≡ gchandles_text b
  handles-alike = λ i. gchandles_text (record a { handles = alike.handles i })

  -- `finalizequeue` replies the same
  queue-alike : finalizequeue_text a ≡ finalizequeue_text b
  queue-alike = λ i. finalizequeue_text (record a {
    types = alike.types i;
    objects = alike.objects i;
    entries = alike.entries i;
    ready = alike.ready i;
  })

  -- all that `inspect` writes is the same of both machines
  pub texts-alike : shown_text false a ≡ shown_text false b
  texts-alike = λ i.
      segments-alike i
      ++ (heap-alike i ++ ((handles-alike i ++ queue-alike i) ++ outcome_text (answered Clean)))
