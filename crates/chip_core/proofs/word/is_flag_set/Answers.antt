-- `chip_core::word::is_flag_set` meets its promise: it is a bit of SR, and a byte has no bit above 7.
-- Assumes nothing.
use Rattle.std.proofs.Common.{◌≡◌, ℕ, ◌^◌, ◌<◌, false, sym, lt_of_lt_of_le, pow_mono, rules}
use native.Mathlib.Nat.{div-eq_of_lt}
use Rattle.chip_core.specs.Word.{flag}
use Rattle.chip_core.proofs.word.is_flag_set.Goals as goal

no_bit : (f sr : ℕ) → 7 < f → sr < 2 ^ 8 → flag f sr ≡ false
unfolding flag
no_bit f sr h s = rw (div-eq_of_lt (lt_of_lt_of_le s (pow_mono h)))

pub returns-then-flag-gt7 : goal.returns-then-flag-gt7
returns-then-flag-gt7 c = sym (no_bit c.args.flag c.args.sr c.if-flag-gt7.true (search rules))
