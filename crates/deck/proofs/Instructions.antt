-- What an allowed line becomes is in range: its fields fit the bits of their words, and a jump's target is the address of a line. So the words of an accepted deck are
-- an image that a freshly loaded machine takes.
-- Assumes nothing.
use Rattle.std.proofs.Common.{◌≡◌, ℕ, zero, suc, ◌<◌, ◌≤◌, true, false, List, length, refl, le_refl, arith}
use Rattle.chip_core.proofs.Finite.{All}
use Rattle.chip_core.proofs.Loaded.{none_above, none_in_both, fresh_accepted}
use Rattle.chip_core.proofs.Range.{in_range_lem}
use Rattle.chip_core.specs.Clock.{clock_refusal}
use Rattle.chip_core.specs.Machine.{any_above_4095, freshly_loaded}
use Rattle.chip_core.specs.Refusal.{accepted}
use Rattle.chip_core.specs.Word.{in_range}
use Rattle.chip_core.specs.declared.word.Instruction.{Instruction}
use Rattle.deck.specs.Bytes.{line_count}
use Rattle.deck.specs.Image.{total_words, instructions_of, address, image_up_to, image, line_words}
use Rattle.deck.specs.Operation.{Program, program, operation_at}
use Rattle.deck.specs.Private.{Fits, Lands}
use Rattle.deck.specs.declared.operation.Operation.{Operation}
use Rattle.deck.proofs.Addresses.{address_lt, image_length}
use Rattle.deck.proofs.Sound.{Sound, line_fits, line_lands}

abbrev pub InRange : List Instruction → Type 0
InRange instructions = All (λ (i : Instruction). in_range i ≡ true) instructions

module _ (p : Program) (small : total_words p ≤ 256) where
  pub instructions_in_range : (here : ℕ) (operation : Operation) → Fits operation → Lands p.count operation → InRange (instructions_of p here operation)
  instructions_in_range here (Operation.M d mode cell) f l = (in_range_lem (Instruction.M d mode cell) f, tt)
  instructions_in_range here (Operation.I mode immediate) f l = (in_range_lem (Instruction.I mode immediate) f, tt)
  instructions_in_range here (Operation.Goto line) f l = (in_range_lem (Instruction.Goto _) (address_lt p line l small), tt)
  instructions_in_range here (Operation.JumpIf f line) g l = (in_range_lem (Instruction.JumpIf f _) (g, address_lt p line l small), tt)
  instructions_in_range here (Operation.JumpUnless f line) g l =
      (in_range_lem (Instruction.JumpIf f _) (g, omega arith), (in_range_lem (Instruction.Goto _) (address_lt p line l small), tt))
  instructions_in_range here Operation.Nop f l = (in_range_lem (Instruction.S 0) (omega arith), tt)

  none_above_up_to : ((line : ℕ) → line < p.count → InRange (instructions_of p (address p line) (p.line line)))
      → (n : ℕ) → n ≤ p.count → any_above_4095 (image_up_to p n) ≡ false
  unfolding image_up_to
  none_above_up_to each zero h = refl
  none_above_up_to each (suc n) h =
      none_in_both (image_up_to p n) (line_words p n) (none_above_up_to each n (omega arith)) (none_above (instructions_of p (address p n) (p.line n)) (each n h))

-- every line of an accepted deck
module _ (deck : List ℕ) (s : Sound deck) where
  pub line_in_range : (line : ℕ) → line < line_count deck → (here : ℕ)
      → InRange (instructions_of (program deck) here (operation_at deck line))
  line_in_range line h here =
      instructions_in_range (program deck) s.small here (operation_at deck line) (line_fits deck s line h) (line_lands deck s line h)

  -- A FRESHLY LOADED MACHINE TAKES ITS IMAGE
  pub image_accepted : (cells : List ℕ) → length cells ≡ 16 → clock_refusal freshly_loaded (image (program deck)) (length cells) ≡ accepted
  image_accepted cells sixteen =
      let p = program deck in
      fresh_accepted (image p) cells (rw (image_length p (line_count deck)) s.small)
      (none_above_up_to p s.small (λ line h. line_in_range line h (address p line)) (line_count deck) (le_refl (line_count deck))) sixteen
