-- The definitions of decks, computed: document 01's "Numbers to meet" that speak of decks.
-- Assumes nothing.
use Rattle.std.proofs.Common.{◌≡◌, ℕ, zero, suc, List, [], ◌∷◌, drop, replicate, refl}
use Rattle.chip_core.specs.Refusal.{accepted, deck_too_short, lines_above_256, words_above_256}
use Rattle.chip_core.specs.Rule.{effect}
use Rattle.chip_core.specs.Unit.{table, unit_result, unit_flags}
use Rattle.chip_core.specs.Word.{program_address, word_of, flag}
use Rattle.deck.specs.Deck.{deck_refusal}
use Rattle.deck.specs.Image.{address, total_words, image_up_to, image}
use Rattle.deck.specs.Lines.{line_step, line_executed, line_tally, at_start, after_lines, lines_of, clocks_of, ran_as}
use Rattle.deck.specs.Operation.{row_of, operation_at, Program, program}
use Rattle.deck.specs.declared.lines.LinesRun.{LinesRun}

-- "Deck 00 00 00: accepted, W = 0. Empty deck: 1. Deck 00 01 01: 3."
pub small_decks : (deck_refusal (0 ∷ 0 ∷ 0 ∷ []) ≡ accepted) × (total_words (program (0 ∷ 0 ∷ 0 ∷ [])) ≡ 0) × (deck_refusal [] ≡ deck_too_short)
    × (deck_refusal (0 ∷ 1 ∷ 1 ∷ []) ≡ lines_above_256)
unfolding deck_refusal address
small_decks = (refl, refl, refl, refl)

-- "For 01 01 00 03 00 13 00 03 11 00 01 1A 03 00"
abbrev example : List ℕ
example = 0x01 ∷ 0x01 ∷ 0x00 ∷ 0x03 ∷ 0x00 ∷ 0x13 ∷ 0x00 ∷ 0x03 ∷ 0x11 ∷ 0x00 ∷ 0x01 ∷ 0x1A ∷ 0x03 ∷ 0x00 ∷ []

pub example_image : (deck_refusal example ≡ accepted) × (image (program example) ≡ 0xB03 ∷ 0x901 ∷ 0x704 ∷ 0x101 ∷ [])
unfolding deck_refusal address image_up_to operation_at row_of word_of
example_image = (refl, refl)

-- "The line runner stops this deck after 7 lines and 27 clocks with Acc 0, flags 8, PC 4."
abbrev answered : ℕ → Program → LinesRun
answered asked p =
    let start = at_start (replicate 16 0) in
    ran_as p (lines_of p asked start) (clocks_of p asked start) (after_lines p asked start)

pub example_run : answered 9 (program example)
    ≡ record { lines = 7; clocks = 27; acc = 0; flags = 8; position = 3; pc = program_address 4 }
unfolding address line_step line_executed line_tally operation_at row_of effect flag table unit_result unit_flags
example_run = refl

-- "One label, at line 0.": so many NOP lines, then one operation 26 on Z where there are others.
abbrev nops_then : ℕ → List ℕ → List ℕ
nops_then zero others = others
nops_then (suc n) others = 0x1B ∷ 0x00 ∷ 0x00 ∷ nops_then n others

-- "256 NOP lines: accepted. 254, then one operation 26 on Z: accepted, word 254 is 700. 255, then one operation 26: 8."
abbrev full : List ℕ
full = 0x01 ∷ 0x00 ∷ 0x00 ∷ 0x00 ∷ 0x01 ∷ nops_then 256 []

abbrev last_skips : List ℕ
last_skips = 0x01 ∷ 0x00 ∷ 0x00 ∷ 0xFF ∷ 0x00 ∷ nops_then 254 (0x1A ∷ 0x03 ∷ 0x00 ∷ [])

abbrev too_many : List ℕ
too_many = 0x01 ∷ 0x00 ∷ 0x00 ∷ 0x00 ∷ 0x01 ∷ nops_then 255 (0x1A ∷ 0x03 ∷ 0x00 ∷ [])

pub large_decks : (deck_refusal full ≡ accepted) × (deck_refusal last_skips ≡ accepted) × (deck_refusal too_many ≡ words_above_256)
unfolding deck_refusal address operation_at row_of
large_decks = (refl, refl, refl)

-- "NOP becomes 000"; "word 254 is 700"
pub last_words : drop 253 (image (program last_skips)) ≡ 0x000 ∷ 0x700 ∷ 0x100 ∷ []
unfolding address image_up_to operation_at row_of word_of
last_words = refl
