-- Fields of bits, once over the width: what shifts and masks cut and join is what document 01 says by position, since a shift by k is
-- a product or a quotient by 2 ^ k, and a mask of k ones is the remainder by 2 ^ k. The proofs of `bits`, `join` and `fits` cite them at any
-- width, and the round trip `neighbours` at 4 + 4 and 4 + 8 bits.
-- Assumes nothing.
use Rattle.std.proofs.Common.{◌≡◌, ℕ, ◌+◌, ◌-◌, ◌*◌, ◌/◌, ◌%◌, ◌^◌, ◌<◌, ◌≤◌, sym, ap, ◌∙◌, lt_of_lt_of_le, mod-lt, one-mul, arith, lit<, pow_pos, pow_mono, pow-add, shl_exact, shr-shr}
use lib.Bits.{bit_and, bit_or, and_mask, or_shifted}
use lib.Pow.{mod-pow-add}
use Rattle.chip_core.specs.Word.{bits}

-- 1 moved up by k bits
pub power : (k w : ℕ) → 1 + k ≤ w → (1 * 2 ^ k) % 2 ^ w ≡ 2 ^ k
power k w room = shl_exact 1 k w (lit< tt) room ∙ one-mul (2 ^ k)

-- a field that starts at bit `low` and ends at bit `high`, in a register of w bits
module _ (w high low : ℕ) (order : low ≤ high) (room : 2 + (high - low) ≤ w) where
  width : high + 1 - low ≡ 1 + (high - low)
  width = omega arith

  -- 2 moved up by high - low is the first power above the field
  top : (2 * 2 ^ (high - low)) % 2 ^ w ≡ 2 ^ (high + 1 - low)
  top = shl_exact 2 (high - low) w (lit< tt) room ∙ sym (ap (λ (n : ℕ). 2 ^ n) width ∙ pow-add 2 1 (high - low))

  -- so one can be taken from it, and what is left is the field's mask
  pub mask_fits : 1 ≤ (2 * 2 ^ (high - low)) % 2 ^ w
  mask_fits = rw top (pow_pos (high + 1 - low))

  pub cut : (word : ℕ) → bit_and (word / 2 ^ low) ((2 * 2 ^ (high - low)) % 2 ^ w - 1) ≡ bits high low word
  cut word = rw top (and_mask (word / 2 ^ low) (high + 1 - low))

-- a field has no more than its bits
pub bits_lt : (high low k word : ℕ) → high + 1 - low ≤ k → bits high low word < 2 ^ k
bits_lt high low k word h =
    lt_of_lt_of_le (mod-lt (word / 2 ^ low) (pow_pos (high + 1 - low))) (pow_mono h)

-- the field a of j bits above the field b of k bits, joined in a register of w bits
pub joined : (j k w : ℕ) {a b : ℕ} → j + k ≤ w → a < 2 ^ j → b < 2 ^ k → bit_or ((a * 2 ^ k) % 2 ^ w) b ≡ a * 2 ^ k + b
joined j k w {a} {b} room ha hb = ap (λ (n : ℕ). bit_or n b) (shl_exact j k w ha room) ∙ or_shifted a k b hb

-- two fields side by side are one field: j bits above k bits that start at bit l
pub neighbours : (word j k l : ℕ) → word / 2 ^ l % 2 ^ (j + k) ≡ (word / 2 ^ (l + k) % 2 ^ j) * 2 ^ k + word / 2 ^ l % 2 ^ k
neighbours word j k l =
    mod-pow-add (word / 2 ^ l) j k ∙ ap (λ (n : ℕ). (n % 2 ^ j) * 2 ^ k + word / 2 ^ l % 2 ^ k) (shr-shr word l k)
