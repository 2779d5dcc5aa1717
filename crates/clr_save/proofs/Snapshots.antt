-- The image of what a snapshot shows.
use Rattle.std.proofs.Common.{◌≡◌, length, ap, sym, ◌∙◌, List, [], ◌++◌}
use Rattle.std.specs.FinMap as finmap
use Rattle.std.specs.Prelude.{ℕ}
use Rattle.clr_types.specs.Segments.{Layout}
use Rattle.clr_heap.specs.View.{IsHeap}
use Rattle.clr_model.specs.Machine.{Machine}
use Rattle.clr_format.specs.Saved.{image_bytes}
use Rattle.clr_save.specs.Contents.{bytes_of, saved}
use Rattle.clr_save.specs.Snapshots.{Shows}
use Rattle.clr_save.specs.declared.snapshot.Snapshot.{Snapshot}
use Rattle.clr_save.proofs.SavedBytes.{segments-saved}
use Rattle.clr_save.proofs.SavedMachine.{AreContentsOf, image_is}

-- what is saved are the machine's contents
pub contents-are : (s : Snapshot) (m : Machine) → IsHeap s.heap.now → Shows s m
    → AreContentsOf m (saved s)
contents-are s m heap shows =
    let seen = shows.seen in
    let types = seen.types in
    record {
      limit = sym seen.limit;
      large = sym seen.large;
      compact_large = sym seen.compact_large;
      types = sym seen.types;
      count = ap (λ (l : Layout). length l.segments) (sym seen.layout);
      segments = segments-saved s.types.now s.heap.now heap shows.held shows.unmarked shows.clean m seen.types
          seen.objects seen.layout;
      locals = sym seen.locals;
      tables = λ j. record {
        holder = sym seen.holder j;
        steps = sym seen.steps j;
        handles = finmap.entries (sym seen.handles j);
        entries = sym seen.entries j;
        ready = sym seen.ready j;
      };
    }

-- THE IMAGE of the machine is what is put
pub image-saved : (s : Snapshot) (m : Machine) (empty put : List ℕ) → IsHeap s.heap.now → Shows s m → empty ≡ []
    → put ≡ empty ++ bytes_of (saved s) → put ≡ image_bytes m
image-saved s m empty put heap shows none is =
    is ∙ ap (λ (bs : List ℕ). bs ++ bytes_of (saved s)) none
    ∙ image_is m (saved s) (contents-are s m heap shows)
