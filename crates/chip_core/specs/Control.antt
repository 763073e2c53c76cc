-- Document 01's "Clock table": a row for each stage and kind, and which row the core goes by.
-- Assumes nothing.
use Rattle.std.specs.Prelude.{◌≡◌, ℕ, ◌+◌, ◌-◌, ◌*◌, Bool, List, [], ◌∷◌, nat_lt, Result}
use Rattle.chip_core.specs.Refusal.{word_above_4095, register_out_of_range, check, first_broken, NumberAndValues, number_and_values, answered}
use Rattle.chip_core.specs.Rule.{Act, Pass, Go, OnCell, GoIf, OnImmediate, act_of}
use Rattle.chip_core.specs.Unit.{one_if}
use Rattle.chip_core.specs.Word.{is_set, instruction_at, flag}
use Rattle.chip_core.specs.declared.control.ControlRow.{ControlRow}
use Rattle.chip_core.specs.declared.control.Enable.{Enable}
use Rattle.chip_core.specs.declared.refusal.Refusal.{Refusal}
use Rattle.chip_core.specs.declared.control.Stage.{Stage}
use Rattle.chip_core.specs.declared.control.Stage.TheVariants.{Fetch, Decode, Execute}

-- The stages by number, which is where the constant table has their rows (docs/DECISIONS.md, 17), and "The only stages are FETCH, DECODE, EXECUTE, in that
-- order, then FETCH again."
abbrev pub stage_number : Stage → ℕ
stage_number Fetch = 0
stage_number Decode = 1
stage_number Execute = 2

abbrev pub stage_after : Stage → Stage
stage_after Fetch = Decode
stage_after Decode = Execute
stage_after Execute = Fetch

-- "Columns: PC.E Acc.E SR.E IR.E DR.E PMem.E DMem.E DMem.WE ALU.E; Mode; MUX1; MUX2." The enables are one number of nine binary digits.
abbrev pub row_with : ℕ → ℕ → ℕ → ℕ → ControlRow
row_with enables mode mux1 mux2 = record { enables = enables; mode = mode; mux1 = mux1; mux2 = mux2 }

-- the bits of the enables that a clock goes by
abbrev pub pc_e : ℕ
pc_e = 8

abbrev pub acc_e : ℕ
acc_e = 7

abbrev pub sr_e : ℕ
sr_e = 6

abbrev pub ir_e : ℕ
ir_e = 5

abbrev pub dr_e : ℕ
dr_e = 4

abbrev pub dmem_we : ℕ
dmem_we = 1

-- by their names in the code
abbrev pub column_of : Enable → ℕ
column_of Enable.Pc = pc_e
column_of Enable.Acc = acc_e
column_of Enable.Sr = sr_e
column_of Enable.Ir = ir_e
column_of Enable.Dr = dr_e
column_of Enable.CellWrite = dmem_we

abbrev pub enabled : ℕ → ControlRow → Bool
enabled column r = is_set column r.enables

-- the number that binary digits make, left to right: `before` is what those already read make
abbrev pub digits : ℕ → List ℕ → ℕ
digits before [] = before
digits before (d ∷ ds) = digits (before * 2 + d) ds

-- "in FETCH and DECODE mode and both selects are 0". "FETCH is 000101000 for all kinds"
abbrev pub fetch_row : ControlRow
fetch_row = row_with 0b000101000 0 0 0

-- "DECODE is 000000000, but 000010100 for M."
abbrev pub decode_row : Act → ControlRow
decode_row Pass = row_with 0b000000000 0 0 0
decode_row (Go target) = row_with 0b000000000 0 0 0
decode_row (OnCell d mode cell) = row_with 0b000010100 0 0 0
decode_row (GoIf f target) = row_with 0b000000000 0 0 0
decode_row (OnImmediate mode immediate) = row_with 0b000000000 0 0 0

-- "M: 1 d 1 0 0 0 e e 1, with e = 1-d". First correction: "003's table prints IR[8] for DMem.E and DMem.WE, where its instruction rules and
-- Verilog give the inverse".
abbrev pub enables_of_m : ℕ → ℕ
enables_of_m d = digits 0 (1 ∷ d ∷ 1 ∷ 0 ∷ 0 ∷ 0 ∷ (1 - d) ∷ (1 - d) ∷ 1 ∷ [])

-- "EXECUTE:", a row a kind. Second correction, MUX1 of a jump is "1 - SR bit f": "its Verilog takes MUX1.Sel for jumps uninverted, where its
-- comment 1 inverts". "003's x entries are 0 here".
abbrev pub execute_row : Act → ℕ → ControlRow
execute_row Pass sr = row_with 0b100000000 0 1 0
execute_row (Go target) sr = row_with 0b100000000 0 0 0
execute_row (OnCell d mode cell) sr = row_with (enables_of_m d) mode 1 1
execute_row (GoIf f target) sr = row_with 0b100000000 0 (1 - one_if (flag f sr)) 0
execute_row (OnImmediate mode immediate) sr = row_with 0b111000001 mode 1 0

abbrev pub row_of : Stage → Act → ℕ → ControlRow
row_of Fetch act sr = fetch_row
row_of Decode act sr = decode_row act
row_of Execute act sr = execute_row act sr

-- the row that the core goes by, with a word in IR
unfoldable pub control_row : ℕ → Stage → ℕ → ControlRow
control_row word stage sr = row_of stage (act_of (instruction_at word)) sr

-- Document 01 has no order for a row that is asked for by itself: 10, then 13 is our reading (docs/DECISIONS.md, 15).
abbrev pub row_refusal : ℕ → ℕ → ℕ
row_refusal word sr = first_broken (check (nat_lt 4095 word) word_above_4095 ∷ check (nat_lt 15 sr) register_out_of_range ∷ [])

-- the answer to a control row asked for
unfoldable pub controlled : ℕ → Stage → ℕ → NumberAndValues ControlRow
controlled word stage sr = answered (row_refusal word sr) (control_row word stage sr)

-- what `row` promises of its answer
abbrev pub RowPromise : ℕ → Stage → ℕ → Result ControlRow Refusal → Type 0
RowPromise word stage sr answer = number_and_values answer ≡ controlled word stage sr
