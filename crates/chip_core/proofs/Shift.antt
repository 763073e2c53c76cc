-- Rotations and filled shifts of a byte: the code's masks and shifts against the definitions, and the two ways to rotate against each
-- other, each by one computed test over every byte and count.
-- Assumes nothing.
use Rattle.std.proofs.Common.{◌≡◌, ℕ, ◌+◌, ◌-◌, ◌*◌, ◌/◌, ◌%◌, ◌^◌, ◌<◌, Bool, ◌&&◌, T, eqb, ltb, eqb→eq, ltb→lt}
use lib.Bits.{bit_and, bit_or}
use Rattle.chip_core.specs.Unit.{rotated_left, rotated_right, filled_right}
use Rattle.chip_core.proofs.Finite.{left, right, all_pairs, each_pair}

-- f has the value of g, and it is a byte
abbrev agree : (ℕ → ℕ → ℕ) → (ℕ → ℕ → ℕ) → ℕ → ℕ → Bool
agree f g b n = eqb (f b n) (g b n) && ltb (g b n) 256

same_byte : (f g : ℕ → ℕ → ℕ) (counts : ℕ) → T (all_pairs (agree f g) 256 counts)
    → (b n : ℕ) → b < 256 → n < counts → (f b n ≡ g b n) × (f b n < 256)
same_byte f g counts t b n hb hn =
    let s = each_pair (agree f g) 256 counts t b n hb hn in
    let e : f b n ≡ g b n = eqb→eq _ _ (left (eqb (f b n) (g b n)) (ltb (g b n) 256) s) in
    (e, rw e (ltb→lt _ _ (right (eqb (f b n) (g b n)) (ltb (g b n) 256) s)))

-- a byte moved up by n in 16 bits, its upper half joined to its lower
abbrev turned : ℕ → ℕ → ℕ
turned b n = bit_or (bit_and ((b * 2 ^ n) % 65536) 255) ((b * 2 ^ n) % 65536 / 256)

pub turns : (b n : ℕ) → b < 256 → n < 9 → (turned b n ≡ rotated_left b n) × (turned b n < 256)
turns = same_byte turned rotated_left 9 tt

-- by 8 - n to the left is by n to the right
pub turns_back : (b n : ℕ) → b < 256 → n < 8 → (rotated_left b (8 - n) ≡ rotated_right b n) × (rotated_left b (8 - n) < 256)
turns_back = same_byte (λ b n. rotated_left b (8 - n)) rotated_right 8 tt

-- a byte below eight copies of its bit 7, moved down by n
abbrev filled : ℕ → ℕ → ℕ
filled b n = bit_and ((b + b / 128 * 65280) / 2 ^ n) 255

pub fills : (b n : ℕ) → b < 256 → n < 8 → (filled b n ≡ filled_right b n) × (filled b n < 256)
fills = same_byte filled filled_right 8 tt
