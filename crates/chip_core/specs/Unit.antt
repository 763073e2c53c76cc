-- Document 01's "Arithmetic unit": a table of 16 rows, and the flags that a row sets merged into those before.
-- Assumes nothing.
use Rattle.std.specs.Prelude.{◌≡◌, ℕ, ◌+◌, ◌-◌, ◌*◌, ◌/◌, ◌%◌, ◌^◌, Bool, true, false, cond, ◌||◌, List, [], ◌∷◌, ℤ, pos, ◌+ℤ◌, ◌-ℤ◌, neg_ℤ, ◌==◌, bit_and, bit_or, bit_xor, int_lt, nat_lt, slice_index_or, Result}
use Rattle.chip_core.specs.Refusal.{register_out_of_range, field_out_of_range, check, first_broken, NumberAndValues, number_and_values, answered}
use Rattle.chip_core.specs.Word.{is_set, flag_o, flag_s, flag_c, flag_z}
use Rattle.chip_core.specs.declared.refusal.Refusal.{Refusal}
use Rattle.chip_core.specs.declared.unit.UnitRow.{UnitRow}
use Rattle.chip_core.specs.declared.unit.Computed.{Computed}

-- "Results are modulo 256": sums, and differences of two bytes
abbrev pub plus : ℕ → ℕ → ℕ
plus a b = (a + b) % 256

abbrev pub minus : ℕ → ℕ → ℕ
minus a b = (a + 256 - b) % 256

-- the two's complement value of a byte
abbrev pub signed : ℕ → ℤ
signed byte = cond (is_set 7 byte) (pos byte -ℤ pos 256) (pos byte)

-- "O for modes 0, 1, 7: the exact result over two's complement operands is outside -128..127."
abbrev pub outside : ℤ → Bool
outside exact = int_lt exact (neg_ℤ (pos 128)) || int_lt (pos 127) exact

-- "b rotated left, right by n": what leaves at one end comes in at the other
abbrev pub rotated_left : ℕ → ℕ → ℕ
rotated_left b n = (b * 2 ^ n) % 256 + b * 2 ^ n / 256

abbrev pub rotated_right : ℕ → ℕ → ℕ
rotated_right b n = b / 2 ^ n + (b % 2 ^ n) * 2 ^ (8 - n)

-- "b right by n, bit 7 filled in": n copies of it above what is left
abbrev pub filled_right : ℕ → ℕ → ℕ
filled_right b n = b / 2 ^ n + cond (is_set 7 b) (256 - 2 ^ (8 - n)) 0

abbrev pub one_if : Bool → ℕ
one_if true = 1
one_if false = 0

-- four flags as one number, bits as in SR
abbrev pub packed : Bool → Bool → Bool → Bool → ℕ
packed z c s o = one_if z * 2 ^ flag_z + one_if c * 2 ^ flag_c + one_if s * 2 ^ flag_s + one_if o * 2 ^ flag_o

-- the "sets" column, as masks of flags
abbrev pub none : ℕ
none = packed false false false false

abbrev pub only_z : ℕ
only_z = packed true false false false

abbrev pub only_s : ℕ
only_s = packed false false true false

abbrev pub zc : ℕ
zc = packed true true false false

abbrev pub zcs : ℕ
zcs = packed true true true false

abbrev pub zcso : ℕ
zcso = packed true true true true

-- "Z, C if n > 0", and for mode E "S always"
abbrev pub if_shifted : ℕ → ℕ → ℕ → ℕ
if_shifted n shifted unshifted = cond (n == 0) unshifted shifted

abbrev pub row : ℕ → ℕ → Bool → Bool → UnitRow
row result sets carry overflow = record { result = result; sets = sets; carry = carry; overflow = overflow }

-- The table, a row a mode. "a is operand 1 (Acc), b is operand 2, n = a mod 8." Both are bytes, so every result is one.
-- C of a subtraction is a BORROW: modes 1, 7, 9 and F. A C or an O that the row does not set goes nowhere.
unfoldable pub table : ℕ → ℕ → ℕ → List UnitRow
table a b n =
    -- row: result, sets, C, O
    row (plus a b) zcso (nat_lt 255 (a + b)) (outside (signed a +ℤ signed b)) ∷  -- 0
    row (minus a b) zcso (nat_lt a b) (outside (signed a -ℤ signed b)) ∷  -- 1
    row a none false false ∷  -- 2
    row b none false false ∷  -- 3
    row (bit_and a b) only_z false false ∷  -- 4
    row (bit_or a b) only_z false false ∷  -- 5
    row (bit_xor a b) only_z false false ∷  -- 6
    row (minus b a) zcso (nat_lt b a) (outside (signed b -ℤ signed a)) ∷  -- 7
    row (plus b 1) zcso (b == 255) (b == 127) ∷  -- 8
    row (minus b 1) zcso (b == 0) (b == 128) ∷  -- 9
    row (rotated_left b n) none false false ∷  -- A
    row (rotated_right b n) none false false ∷  -- B
    row ((b * 2 ^ n) % 256) (if_shifted n zc none) (is_set (8 - n) b) false ∷  -- C
    row (b / 2 ^ n) (if_shifted n zc none) (is_set (n - 1) b) false ∷  -- D
    row (filled_right b n) (if_shifted n zcs only_s) (is_set (n - 1) b) false ∷  -- E
    row (minus 0 b) zcso (nat_lt 0 b) (b == 128) ∷ []  -- F

-- the row of a mode; what stands here for a mode above 15 goes nowhere, since the unit refuses it
abbrev pub row_at : ℕ → ℕ → ℕ → UnitRow
row_at mode a b = slice_index_or (table a b (a % 8)) mode (row 0 none false false)

-- "Z is "result is 0" and S is bit 7 of the result, wherever they are set."
abbrev pub row_flags : UnitRow → ℕ
row_flags r = packed (r.result == 0) r.carry (is_set 7 r.result) r.overflow

-- "Flags not set keep their value": flag f of the flags given if the mask has it, else of those before
abbrev pub kept : ℕ → ℕ → ℕ → ℕ → Bool
kept sets given before f = cond (is_set f sets) (is_set f given) (is_set f before)

abbrev pub merged : ℕ → ℕ → ℕ → ℕ
merged sets given before =
    packed (kept sets given before flag_z) (kept sets given before flag_c) (kept sets given before flag_s) (kept sets given before flag_o)

-- result and flags of the unit, where mode and SR are in range
unfoldable pub unit_result : ℕ → ℕ → ℕ → ℕ
unit_result mode a b = (row_at mode a b).result

unfoldable pub unit_flags : ℕ → ℕ → ℕ → ℕ → ℕ
unit_flags mode a b sr = merged (row_at mode a b).sets (row_flags (row_at mode a b)) sr

-- "Arithmetic unit: 14, 13."
abbrev pub unit_refusal : ℕ → ℕ → ℕ
unit_refusal mode sr = first_broken (check (nat_lt 15 mode) field_out_of_range ∷ check (nat_lt 15 sr) register_out_of_range ∷ [])

abbrev pub computed_as : ℕ → ℕ → Computed
computed_as result flags = record { result = result; flags = flags }

-- the unit's answer
unfoldable pub computed : ℕ → ℕ → ℕ → ℕ → NumberAndValues Computed
computed mode a b sr = answered (unit_refusal mode sr) (computed_as (unit_result mode a b) (unit_flags mode a b sr))

-- what `unit` promises of its answer
abbrev pub UnitPromise : ℕ → ℕ → ℕ → ℕ → Result Computed Refusal → Type 0
UnitPromise mode a b sr answer = number_and_values answer ≡ computed mode a b sr
