-- The kind of a word goes by the value of bits 11..8, since each pattern of document 01's table is one range of it.
-- Assumes nothing.
use Rattle.std.proofs.Common.{◌≡◌, ℕ, ◌≤◌, false, eqb, arith, eq-eqb, ne_eqb}
use native.Mathlib.Decide.{dec_lt}
use Rattle.chip_core.specs.Word.{bits, instruction_at, program_address, data_address}
use Rattle.chip_core.specs.declared.word.Instruction.TheVariants.{S, Goto, M, JumpIf, I}

module _ (word : ℕ) where
  -- from each pattern on, the ones before it do not fit
  not_s : 0b0001 ≤ bits 11 8 word → eqb (bits 11 8 word) 0b0000 ≡ false
  not_s lo = ne_eqb (bits 11 8 word) 0b0000 (λ e. omega arith)

  not_goto : 0b0010 ≤ bits 11 8 word → eqb (bits 11 8 word) 0b0001 ≡ false
  not_goto lo = ne_eqb (bits 11 8 word) 0b0001 (λ e. omega arith)

  not_m : 0b0100 ≤ bits 11 8 word → eqb (bits 11 9 word) 0b001 ≡ false
  not_m lo = ne_eqb (bits 11 9 word) 0b001 (λ e. omega arith)

  not_jump_if : 0b1000 ≤ bits 11 8 word → eqb (bits 11 10 word) 0b01 ≡ false
  not_jump_if lo = ne_eqb (bits 11 10 word) 0b01 (λ e. omega arith)

  -- what is at a word of each kind
  pub at_s : bits 11 8 word ≡ 0b0000 → instruction_at word ≡ S (bits 7 0 word)
  unfolding instruction_at
  at_s e = simp (eq-eqb (bits 11 8 word) 0b0000 e)

  pub at_goto : bits 11 8 word ≡ 0b0001 → instruction_at word ≡ Goto (program_address (bits 7 0 word))
  unfolding instruction_at
  at_goto e = simp (not_s (omega arith), eq-eqb (bits 11 8 word) 0b0001 e)

  pub at_m : 0b0010 ≤ bits 11 8 word → bits 11 8 word ≤ 0b0011
      → instruction_at word ≡ M (bits 8 8 word) (bits 7 4 word) (data_address (bits 3 0 word))
  unfolding instruction_at
  at_m lo hi = simp (not_s (omega arith), not_goto lo, eq-eqb (bits 11 9 word) 0b001 (omega arith))

  pub at_jump_if : 0b0100 ≤ bits 11 8 word → bits 11 8 word ≤ 0b0111
      → instruction_at word ≡ JumpIf (bits 9 8 word) (program_address (bits 7 0 word))
  unfolding instruction_at
  at_jump_if lo hi =
      simp (not_s (omega arith), not_goto (omega arith), not_m lo, eq-eqb (bits 11 10 word) 0b01 (omega arith))

  pub at_i : 0b1000 ≤ bits 11 8 word → instruction_at word ≡ I (bits 10 8 word) (bits 7 0 word)
  unfolding instruction_at
  at_i lo = simp (not_s (omega arith), not_goto (omega arith), not_m (omega arith), not_jump_if lo)

-- every word has one of the kinds
pub data Kind (word : ℕ) : Type 0 where
  is_s : bits 11 8 word ≡ 0b0000 → Kind word
  is_goto : bits 11 8 word ≡ 0b0001 → Kind word
  is_m : 0b0010 ≤ bits 11 8 word → bits 11 8 word ≤ 0b0011 → Kind word
  is_jump_if : 0b0100 ≤ bits 11 8 word → bits 11 8 word ≤ 0b0111 → Kind word
  is_i : 0b1000 ≤ bits 11 8 word → Kind word

pub kind : (word : ℕ) → Kind word
kind word =
    elim (dec_lt (bits 11 8 word) 1) [
      | yes h ↦ is_s (omega arith)
      | no n1 ↦ elim (dec_lt (bits 11 8 word) 2) [
        | yes h ↦ is_goto (omega arith)
        | no n2 ↦ elim (dec_lt (bits 11 8 word) 4) [
          | yes h ↦ is_m (omega arith) (omega arith)
          | no n4 ↦ elim (dec_lt (bits 11 8 word) 8) [
            | yes h ↦ is_jump_if (omega arith) (omega arith)
            | no n8 ↦ is_i (omega arith)
          ]
        ]
      ]
    ]
