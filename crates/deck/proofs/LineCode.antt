-- The words of a line, written at its address: there is room for them, and the next line's address is where they end.
-- Assumes nothing.
use Rattle.std.proofs.Common.{◌≡◌, ℕ, suc, ◌+◌, ◌<◌, ◌≤◌, true, List, [], ◌∷◌, length, get_or, set, sym, refl, ap, ◌∙◌, arith, lit<, length-set}
use Rattle.chip_core.proofs.Range.{in_range_lem}
use Rattle.chip_core.specs.Refusal.{accepted}
use Rattle.chip_core.specs.Word.{in_range, word_of, program_address}
use Rattle.chip_core.specs.declared.word.Instruction.{Instruction}
use Rattle.deck.specs.Bytes.{line_count}
use Rattle.deck.specs.Deck.{deck_refusal}
use Rattle.deck.specs.Image.{address, total_words, instructions_of, line_words, image_up_to}
use Rattle.deck.specs.Operation.{operation_at, words, Program, program}
use Rattle.deck.specs.Private.{first_of, overwritten}
use Rattle.deck.specs.Translate.{starting_with}
use Rattle.deck.specs.declared.operation.Operation.{Operation}
use Rattle.deck.proofs.Addresses.{words_pos, address_ends, address_lt, image_length, image_next, instructions_length}
use Rattle.deck.proofs.Instructions.{InRange, line_in_range}
use Rattle.deck.proofs.Sound.{sound}
use Rattle.deck.proofs.Writing.{one, more, more_at_start}

-- the first of instructions, which are all in range, and the only one where there is one
first_in_range : (is : List Instruction) → InRange is → in_range (get_or is 0 (Instruction.S 0)) ≡ true
first_in_range [] r = in_range_lem (Instruction.S 0) (lit< tt)
first_in_range (i ∷ is) r = r.0

alone : (is : List Instruction) → length is ≡ 1 → is ≡ get_or is 0 (Instruction.S 0) ∷ []
alone [] e = absurd (omega (arith, e))
alone (i ∷ []) e = refl
alone (i ∷ j ∷ is) e = absurd (omega (arith, e))

module _ (deck : List ℕ) (e : deck_refusal deck ≡ accepted) (line : ℕ) (h : line < line_count deck) (here : ℕ)
    (at : here ≡ address (program deck) line) (output : List ℕ) (room : total_words (program deck) ≤ length output) where
  ends : here + words (operation_at deck line) ≤ total_words (program deck)
  ends = rw at (address_ends (program deck) line (line_count deck) h)

  here_lt : here < 256
  here_lt = rw at (address_lt (program deck) line h (sound deck e).small)

  -- what the first word of a line asks for
  pub first : (o : Operation) (i : Instruction) → operation_at deck line ≡ o → i ≡ first_of (program deck) here o
      → (here < 256) × (here < length output) × (in_range i ≡ true)
  first o i l g = (
    here_lt,
    omega (arith, ends, words_pos (operation_at deck line), room),
    rw (g, sym l) (first_in_range (instructions_of (program deck) here (operation_at deck line)) (line_in_range deck (sound deck e) line h here)),
  )

  -- a line of one word
  pub one_word : (o : Operation) (i : Instruction) → operation_at deck line ≡ o → i ≡ first_of (program deck) here o → words o ≡ 1
      → (next : ℕ) (left : List ℕ) → (next ≡ here + 1) × (left ≡ set output here (word_of i))
      → (next ≡ address (program deck) (suc line)) × (left ≡ overwritten here (line_words (program deck) line) output)
  unfolding address
  one_word o i l g w next left f =
      let c : instructions_of (program deck) here o ≡ i ∷ [] = (rw g (alone (instructions_of (program deck) here o) (instructions_length (program deck) here o ∙ w))) in
      let inside : here < length output = omega (arith, ends, words_pos (operation_at deck line), room) in
      (f.0 ∙ rw (sym at, l, w), f.1 ∙ rw (sym at, l, c) (one here (word_of i) output inside))

  -- and one of two
  pub second : (f to : ℕ) → operation_at deck line ≡ Operation.JumpUnless f to → (i : Instruction) → i ≡ Instruction.Goto (program_address (address (program deck) to))
      → (here + 1 < 256) × (here + 1 < length output) × (in_range i ≡ true)
  second f to l i g =
      let two : here + 2 ≤ total_words (program deck) = (rw l at ends) in
      let both : InRange (instructions_of (program deck) here (Operation.JumpUnless f to)) = (rw l at (line_in_range deck (sound deck e) line h here)) in
      (omega (arith, two, (sound deck e).small), omega (arith, two, room), rw g both.1.0)

  pub two_words : (o : Operation) (i j : Instruction) → operation_at deck line ≡ o → instructions_of (program deck) here o ≡ i ∷ j ∷ [] → words o ≡ 2
      → (next : ℕ) (left : List ℕ) → (next ≡ here + 1 + 1) × (left ≡ set (set output here (word_of i)) (here + 1) (word_of j))
      → (next ≡ address (program deck) (suc line)) × (left ≡ overwritten here (line_words (program deck) line) output)
  unfolding address
  two_words o i j l c w next left f =
      let two : here + 2 ≤ total_words (program deck) = (rw (l, w) at ends) in
      let inside : here + 1 < length output = omega (arith, two, room) in
      let begun : here < length output = omega arith in
      let a = one here (word_of i) output begun in
      let b = one (here + 1) (word_of j) (set output here (word_of i)) (rw (length-set output here (word_of i)) inside) in (
        f.0 ∙ rw (sym at, l, w) (omega arith),
        f.1 ∙ b ∙ rw (a, sym at, l, c) (more here (word_of i ∷ []) (word_of j ∷ []) output (omega (arith, inside))),
      )

-- with the lines before it written at the start, a line is written after them
pub next_written : (p : Program) (line here : ℕ) (output now' after : List ℕ) → length (image_up_to p line) ≤ length output → here ≡ address p line
    → now' ≡ starting_with (image_up_to p line) output → after ≡ overwritten here (line_words p line) now'
    → after ≡ starting_with (image_up_to p (line + 1)) output
next_written p line here output now' after room at before f =
    let items = image_up_to p line in
    f
    ∙ ap (λ (o : List ℕ). overwritten here (line_words p line) o) before
    ∙ ap (λ (k : ℕ). overwritten k (line_words p line) (starting_with items output)) (at ∙ sym (image_length p line))
    ∙ more_at_start items (line_words p line) output room
    ∙ ap (λ (xs : List ℕ). starting_with xs output) (sym (image_next p line))
