use Rattle.replay_digits.proofs.WordLaws.{pack_below}
use native.Mathlib.Omega.{arith}
use Rattle.replay_digits.proofs.Laws.{half_first, half_second, hex_first, hex_number, hex_second}
use Rattle.replay_digits.proofs.sixteen.Goals as goal

pub returns-then-glyphs-a : goal.returns-then-glyphs-a
returns-then-glyphs-a c = hex_first c.args.s.now c.requires (λ k. (c.type_inv.s k).fits) _ _ _ (half_first _ _ _ _ c.requires c.as_chunks.ensures.front c.from_le_bytes-a.ensures) c.values-h.ensures c.glyphs.ensures c.if-glyphs-a.true

pub returns-then-glyphs-b : goal.returns-then-glyphs-b
returns-then-glyphs-b c = hex_second c.args.s.now c.requires (λ k. (c.type_inv.s k).fits) _ _ _ (half_first _ _ _ _ c.requires c.as_chunks.ensures.front c.from_le_bytes-a.ensures) c.values-h.ensures c.glyphs.ensures _ _ _ (half_second _ _ _ _ c.requires c.as_chunks.ensures.front c.from_le_bytes-b.ensures) c.values-l.ensures c.glyphs-2.ensures c.if-glyphs-a.false c.if-glyphs-b.true

pub overflow_mul-result : goal.overflow_mul-result
overflow_mul-result c = omega (arith, c.pack.ensures, pack_below c.values-h.result, pack_below c.values-l.result)

pub overflow_add-result : goal.overflow_add-result
overflow_add-result c = omega (arith, c.pack.ensures, c.pack-2.ensures, pack_below c.values-h.result, pack_below c.values-l.result)

pub returns : goal.returns
returns c = rw (c.pack.ensures, c.pack-2.ensures) (hex_number c.args.s.now c.requires (λ k. (c.type_inv.s k).fits) _ _ _ (half_first _ _ _ _ c.requires c.as_chunks.ensures.front c.from_le_bytes-a.ensures) c.values-h.ensures c.glyphs.ensures _ _ _ (half_second _ _ _ _ c.requires c.as_chunks.ensures.front c.from_le_bytes-b.ensures) c.values-l.ensures c.glyphs-2.ensures c.if-glyphs-a.false c.if-glyphs-b.false)
