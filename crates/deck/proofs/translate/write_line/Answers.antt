-- `deck::translate::write_line` meets its promise: the words of an accepted line are those of instructions in range and have room at its address, and the next line's
-- address is where they end (`one_word`, `two_words`).
-- Assumes nothing.
use Rattle.std.proofs.Common.{◌≡◌, ℕ, sym, refl, ◌∙◌}
use Rattle.chip_core.specs.declared.word.Instruction.{Instruction}
use Rattle.deck.specs.Operation.{words}
use Rattle.deck.specs.declared.operation.Operation.{Operation}
use Rattle.deck.proofs.LineCode.{one_word, two_words}
use Rattle.deck.proofs.translate.write_line.Goals as goal

single : (o : Operation) → ((f line : ℕ) → o ≡ Operation.JumpUnless f line → ⊥) → words o ≡ 1
single (Operation.M d mode cell) other = refl
single (Operation.I mode immediate) other = refl
single (Operation.Goto line) other = refl
single (Operation.JumpIf f line) other = refl
single (Operation.JumpUnless f line) other = absurd (other f line refl)
single Operation.Nop other = refl

pub returns-in_default : goal.returns-in_default
returns-in_default c =
    let x = c.args in
    one_word x.deck.bytes.now x.deck.accepted x.line c.requires.0 x.here c.requires.1 x.output.now c.requires.2 _ _
    (sym c.operation_at-operation.ensures) c.first_of.ensures (single c.operation_at-operation.result c.in_default.not-JumpUnless) _ _ c.write-after_first.ensures

pub returns : goal.returns
returns c =
    let x = c.args in
    let a = c.write-after_first.ensures in
    let b = c.write.ensures in
    two_words x.deck.bytes.now x.deck.accepted x.line c.requires.0 x.here c.requires.1 x.output.now c.requires.2
    (Operation.JumpUnless c.in-JumpUnless.flag c.in-JumpUnless.to) c.first_of.result (Instruction.Goto c.target_of-target.result)
    (sym c.operation_at-operation.ensures ∙ c.in-JumpUnless.is) (rw (c.first_of.ensures, c.in-JumpUnless.is, c.target_of-target.ensures)) refl _ _ (b.0 ∙ rw a.0, b.1 ∙ rw (a.0, a.1))
