-- What a freshly loaded machine takes: an image of at most 256 words, each of an instruction in range, beside 16 cells, is not refused.
-- Assumes nothing.
use Rattle.std.proofs.Common.{◌≡◌, ℕ, ◌≤◌, true, false, ltb, List, [], ◌∷◌, ◌++◌, map, length, refl, arith, le-ltb}
use Rattle.chip_core.specs.Clock.{clock_refusal}
use Rattle.chip_core.specs.Machine.{state, any_above_4095, freshly_loaded}
use Rattle.chip_core.specs.Refusal.{accepted}
use Rattle.chip_core.specs.Word.{in_range, word_of}
use Rattle.chip_core.specs.declared.word.Instruction.{Instruction}
use Rattle.chip_core.proofs.Finite.{All}
use Rattle.chip_core.proofs.Range.{fields_fit}
use Rattle.chip_core.proofs.Refusals.{neither}
use Rattle.chip_core.proofs.RoundTrip.{cut_again}
use Rattle.chip_core.proofs.Stepping.{fine}

-- no word of instructions in range is above 4095
pub none_above : (is : List Instruction) → All (λ (i : Instruction). in_range i ≡ true) is → any_above_4095 (map word_of is) ≡ false
none_above [] h = refl
none_above (i ∷ is) h = rw (le-ltb 4095 (word_of i) (cut_again i (fields_fit i h.0)).0) (none_above is h.1)

-- nor of two images one after the other
pub none_in_both : (words others : List ℕ) → any_above_4095 words ≡ false → any_above_4095 others ≡ false → any_above_4095 (words ++ others) ≡ false
none_in_both [] others e f = f
none_in_both (word ∷ words) others e f =
    let n = neither (ltb 4095 word) (any_above_4095 words) e in
    rw n.0 (none_in_both words others n.1 f)

pub fresh_accepted : (image cells : List ℕ) → length image ≤ 256 → any_above_4095 image ≡ false → length cells ≡ 16
    → clock_refusal freshly_loaded image (length cells) ≡ accepted
fresh_accepted image cells short words sixteen =
    fine image (state freshly_loaded cells)
    (record { short = short; words = words; fit = record { flags = omega arith; sixteen = sixteen }; word = omega arith })
