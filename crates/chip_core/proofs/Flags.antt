-- Flags and masks of flags: every row's mask is below 16, since it is a fixed mask or one of two; and the code's merge under a mask is the
-- definition's, by one computed test over every mask and pair of flags.
-- Assumes nothing.
use Rattle.std.proofs.Common.{◌≡◌, ℕ, ◌-◌, ◌%◌, ◌<◌, Bool, true, false, cond, eqb, lit<, eqb→eq}
use lib.Bits.{bit_and, bit_or}
use Rattle.chip_core.specs.Unit.{none, only_s, zc, zcs, table, row_at, merged}
use Rattle.chip_core.specs.declared.unit.UnitRow.{UnitRow}
use Rattle.chip_core.proofs.Finite.{all, each, each_pair, All, ◌&◌, found}

abbrev Masked : UnitRow → Type 0
Masked r = r.sets < 16

either : (t : Bool) (x y : ℕ) → x < 16 → y < 16 → cond t x y < 16
either true x y hx hy = hx
either false x y hx hy = hy

all_masked : (a b n : ℕ) → All Masked (table a b n)
unfolding table
all_masked a b n =
    lit< tt & lit< tt & lit< tt & lit< tt & lit< tt & lit< tt & lit< tt & lit< tt & lit< tt & lit< tt & lit< tt & lit< tt &
    either (eqb n 0) none zc (lit< tt) (lit< tt) & either (eqb n 0) none zc (lit< tt) (lit< tt) & either (eqb n 0) only_s zcs (lit< tt) (lit< tt) & lit< tt & tt

pub masked : (mode a b : ℕ) → (row_at mode a b).sets < 16
masked mode a b = found Masked (table a b (a % 8)) mode _ (all_masked a b (a % 8)) (lit< tt)

-- the flags given under the mask, those before elsewhere
abbrev mixed : ℕ → ℕ → ℕ → ℕ
mixed sets given before = bit_or (bit_and given sets) (bit_and before (15 - sets))

abbrev merges? : ℕ → ℕ → ℕ → Bool
merges? sets given before = eqb (mixed sets given before) (merged sets given before)

pub merges : (sets given before : ℕ) → sets < 16 → given < 16 → before < 16 → mixed sets given before ≡ merged sets given before
merges s g b hs hg hb =
    eqb→eq _ _ (each (merges? s g) 16 (each_pair (λ x y. all (merges? x y) 16) 16 16 tt s g hs hg) b hb)
