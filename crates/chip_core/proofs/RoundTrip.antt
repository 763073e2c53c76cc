-- Words and instructions are two forms of one thing: a word cut into its fields and joined again is the word, and fields within their
-- ranges, joined and cut again, are the fields, since each field has its own place. What is refused is exactly what is out of range.
-- Assumes nothing.
use Rattle.std.proofs.Common.{◌≡◌, ℕ, ◌+◌, ◌*◌, ◌/◌, ◌%◌, ◌^◌, ◌<◌, ◌≤◌, Bool, true, false, ◌↔◌, sym, refl, ap, ◌∙◌, arith, le-ltb, lt-ltb, Result, Ok, Err}
use native.Mathlib.Decide.{dec_lt}
use lib.Pow.{field, high, low}
use Rattle.chip_core.specs.Refusal.{accepted, field_out_of_range, answered}
use Rattle.chip_core.specs.Word.{bits, program_address, instruction_at, word_of, in_range, decoded, encoded, DecodePromise, EncodePromise}
use Rattle.chip_core.specs.declared.refusal.Refusal.{Refusal}
use Rattle.chip_core.specs.declared.refusal.Refusal.TheVariants.{WordAbove4095}
use Rattle.chip_core.specs.declared.word.Instruction.{Instruction}
use Rattle.chip_core.specs.declared.word.Instruction.TheVariants.{S, Goto, M, JumpIf, I}
use Rattle.chip_core.proofs.Answered.{encoded_in_range}
use Rattle.chip_core.proofs.Determined.{decode_determined}
use Rattle.chip_core.proofs.Field.{neighbours}
use Rattle.chip_core.proofs.Kind.{at_s, at_goto, at_m, at_jump_if, at_i, Kind, is_s, is_goto, is_m, is_jump_if, is_i, kind}
use Rattle.chip_core.proofs.Range.{FieldsFit, fields_fit}

-- what is accepted, and what it then is
word_accepted : (word : ℕ) → word ≤ 4095 → DecodePromise word (Ok (instruction_at word))
unfolding decoded
word_accepted word h = simp (le-ltb 4095 word h)

word_refused : (word : ℕ) → 4095 < word → DecodePromise word (Err WordAbove4095)
unfolding decoded
word_refused word h = simp (lt-ltb 4095 word h)

instruction_refused : (i : Instruction) → in_range i ≡ false → encoded i ≡ answered field_out_of_range (word_of i)
unfolding encoded
instruction_refused i h = simp h

-- THE DECODER REFUSES EXACTLY the words above 4095, and always with 10
pub decoder_refuses : (word : ℕ) (refusal : Refusal) → DecodePromise word (Err refusal) ↔ ((4095 < word) × (refusal ≡ WordAbove4095))
decoder_refuses word refusal = (there, λ h. rw h.1 (word_refused word h.0))
  where
    there : DecodePromise word (Err refusal) → (4095 < word) × (refusal ≡ WordAbove4095)
    there p =
        elim (dec_lt 4095 word) [
          | yes h ↦ let e : ◌≡◌ {A = Result Instruction Refusal} (Err refusal) (Err WordAbove4095) = decode_determined word _ _ p (word_refused word h) in (h, cc)
          | no h ↦
              let e : ◌≡◌ {A = Result Instruction Refusal} (Err refusal) (Ok (instruction_at word)) = decode_determined word _ _ p (word_accepted word (omega arith)) in
              absurd cc
        ]

-- THE ENCODER ACCEPTS EXACTLY the instructions in range, and refuses every other with 14
pub encoder_refuses : (i : Instruction)
    → (((encoded i).number ≡ accepted) ↔ (in_range i ≡ true)) × (((encoded i).number ≡ field_out_of_range) ↔ (in_range i ≡ false))
encoder_refuses i = (
  (accepts (in_range i) refl, λ h. rw (encoded_in_range i h)),
  (refuses (in_range i) refl, λ h. rw (instruction_refused i h)),
)
  where
    accepts : (t : Bool) → in_range i ≡ t → (encoded i).number ≡ accepted → in_range i ≡ true
    accepts true h e = h
    accepts false h e = let z : ◌≡◌ {A = ℕ} 14 0 = rw (instruction_refused i h) at e in absurd (omega arith)

    refuses : (t : Bool) → in_range i ≡ t → (encoded i).number ≡ field_out_of_range → in_range i ≡ false
    refuses true h e = let z : ◌≡◌ {A = ℕ} 0 14 = rw (encoded_in_range i h) at e in absurd (omega arith)
    refuses false h e = h

-- an instruction is the one whose fields stand in a word
abbrev StandsIn : ℕ → Instruction → Type 0
StandsIn word i = (in_range i ≡ true) × (word_of i ≡ word)

-- a word of the kind M is its fields, over plain numbers
sum : (d mode cell : ℕ) {top bottom word : ℕ}
    → top ≡ 2 + d → bottom ≡ mode * 16 + cell → word ≡ top * 256 + bottom → (2 + d) * 256 + (mode * 16 + cell) ≡ word
sum d mode cell e f g = omega arith

m_word : (word : ℕ) → 0b0010 ≤ bits 11 8 word → bits 11 8 word ≤ 0b0011 → word ≤ 4095
    → (2 + bits 8 8 word) * 256 + (bits 7 4 word * 16 + bits 3 0 word) ≡ word
m_word word lo hi h =
    let whole : word ≡ word / 2 ^ 0 % 2 ^ 12 = omega arith in
    let top : bits 11 8 word ≡ 2 + bits 8 8 word = omega arith in
    sum (bits 8 8 word) (bits 7 4 word) (bits 3 0 word) top (neighbours word 4 4 0) (whole ∙ neighbours word 4 8 0)

stands : (word : ℕ) → word ≤ 4095 → Kind word → StandsIn word (instruction_at word)
unfolding in_range word_of
stands word h (is_s e) = rw (at_s word e) (lt-ltb (bits 7 0 word) 256 (omega arith), omega arith)
stands word h (is_goto e) = rw (at_goto word e) (lt-ltb (bits 7 0 word) 256 (omega arith), omega arith)
stands word h (is_m lo hi) =
    rw (at_m word lo hi)
    (simp (lt-ltb (bits 8 8 word) 2 (omega arith), lt-ltb (bits 7 4 word) 16 (omega arith), lt-ltb (bits 3 0 word) 16 (omega arith)), m_word word lo hi h)
stands word h (is_jump_if lo hi) =
    rw (at_jump_if word lo hi) (simp (lt-ltb (bits 9 8 word) 4 (omega arith), lt-ltb (bits 7 0 word) 256 (omega arith)), omega arith)
stands word h (is_i lo) =
    rw (at_i word lo) (simp (lt-ltb (bits 10 8 word) 8 (omega arith), lt-ltb (bits 7 0 word) 256 (omega arith)), omega arith)

-- EVERY WORD 0 TO 4095 decodes to an instruction, the only one that the promise allows (Determined), and encoding that gives the word back
pub word_back : (word : ℕ) → word ≤ 4095
    → (i : Instruction) × DecodePromise word (Ok i) × EncodePromise i (Ok word)
word_back word h =
    let s = stands word h (kind word) in
    (instruction_at word, word_accepted word h, sym (rw s.1 at (encoded_in_range (instruction_at word) s.0)))

-- the fields of an instruction in range, cut from its word
pub cut_again : (i : Instruction) → FieldsFit i → (word_of i ≤ 4095) × (instruction_at (word_of i) ≡ i)
unfolding word_of
cut_again (S k) h = (omega arith, at_s (word_of (S k)) (omega arith) ∙ ap S (omega arith))
cut_again (Goto target) h =
    (omega arith, at_goto (word_of (Goto target)) (omega arith) ∙ ap (λ (n : ℕ). Goto (program_address n)) (omega arith))
cut_again (M d mode cell) h =
    let w = word_of (M d mode cell) in
    let lo : 0b0010 ≤ bits 11 8 w = omega arith in
    let hi : bits 11 8 w ≤ 0b0011 = omega arith in
    let e : bits 8 8 w ≡ d = omega arith in
    let bottom : w % 2 ^ 8 ≡ mode * 16 + cell.0 = low (2 + d) 8 (omega arith) in
    let f : bits 7 4 w ≡ mode = sym (field w 4 4) ∙ ap (λ (n : ℕ). n / 2 ^ 4) bottom ∙ high mode 4 h.2 in
    let g : bits 3 0 w ≡ cell.0 = omega arith in
    (omega arith, at_m w lo hi ∙ rw (e, f, g))
cut_again (JumpIf f target) h =
    let w = word_of (JumpIf f target) in
    let lo : 0b0100 ≤ bits 11 8 w = omega arith in
    let hi : bits 11 8 w ≤ 0b0111 = omega arith in
    let e : bits 9 8 w ≡ f = omega arith in
    let g : bits 7 0 w ≡ target.0 = omega arith in
    (omega arith, at_jump_if w lo hi ∙ rw (e, g))
cut_again (I mode immediate) h =
    let w = word_of (I mode immediate) in
    let lo : 0b1000 ≤ bits 11 8 w = omega arith in
    let e : bits 10 8 w ≡ mode = omega arith in
    let g : bits 7 0 w ≡ immediate = omega arith in
    (omega arith, at_i w lo ∙ rw (e, g))

-- EVERY INSTRUCTION IN RANGE encodes to a word, the only one that the promise allows, and decoding that gives the instruction back
pub instruction_back : (i : Instruction) → in_range i ≡ true
    → (word : ℕ) × EncodePromise i (Ok word) × DecodePromise word (Ok i)
instruction_back i h =
    let c = cut_again i (fields_fit i h) in
    (word_of i, sym (encoded_in_range i h), rw c.1 at (word_accepted (word_of i) c.0))
