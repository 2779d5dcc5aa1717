use Rattle.std.proofs.Common.{◌≡◌, ℕ, ◌+◌, ◌%◌, ◌<◌, ◌≤◌, List, ap, sym, subst, arith, refl}
use Rattle.clr_types.specs.declared.segment.SegInfo.{SegInfo}
use Rattle.clr_heap.specs.Memories.{HasWord}
use Rattle.clr_heap.proofs.Addresses.{has_word}
use Rattle.clr_pinq.specs.Bounds.{AreSavedHeld}
use Rattle.clr_pinq.specs.declared.entry.PinEntry.{PinEntry}
use Rattle.clr_heap_tests.proofs.saved.put_samples_back.Goals as goal

pub put_back-requires : goal.put_back-requires
put_back-requires g c =
    let h = c.args.heap.now in
    let base = ap (λ (s : SegInfo). s.base) c.info-segment.ensures.value in
    let all = ap (λ (s : SegInfo). s.base + s.reserved) c.info-segment.ensures.value in
    let at : (a : ℕ) → a % 8 ≡ 0 → 0x10001000 ≤ a → a < 0x10002000 → HasWord h.memories a =
    λ a z low high. has_word h 0 a c.segments.ensures.heap (omega arith) (omega (arith, base, low)) z
    (omega (arith, all, high)) in
    let P : List PinEntry → Type 0 = λ es. AreSavedHeld h es in
    subst P (sym c.requires) (
      (
        at 0x100010e0 refl (omega arith) (omega arith),
        at 0x100010e8 refl (omega arith) (omega arith),
        at 0x100010f0 refl (omega arith) (omega arith),
      ),
      (
        at 0x10001160 refl (omega arith) (omega arith),
        at 0x10001168 refl (omega arith) (omega arith),
        at 0x10001170 refl (omega arith) (omega arith),
      ),
      (
        tt,
        (
          at 0x100012e0 refl (omega arith) (omega arith),
          at 0x100012e8 refl (omega arith) (omega arith),
          at 0x100012f0 refl (omega arith) (omega arith),
        ),
        tt,
      ),
    )
