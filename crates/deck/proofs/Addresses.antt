-- Addresses go up line by line, and the image has the words of each line at its address.
-- Assumes nothing.
use Rattle.std.proofs.Common.{◌≡◌, ℕ, zero, suc, ◌+◌, ◌<◌, ◌≤◌, Bool, true, false, ltb, ◌++◌, length, get_or, sym, refl, ap, ◌∙◌, le_trans, le_refl, le-add_right, not-suc-le-zero, add-one, arith, length-append, get_or-append-add, ltb-false, ltb-true}
use lib.ListN.{length-map, get_or-append}
use Rattle.chip_core.specs.Word.{word_of}
use Rattle.deck.specs.Image.{address, total_words, instructions_of, line_words, image_up_to}
use Rattle.deck.specs.Operation.{words, Program}
use Rattle.deck.specs.declared.operation.Operation.{Operation}

pub words_le : (operation : Operation) → words operation ≤ 2
words_le (Operation.M d mode cell) = omega arith
words_le (Operation.I mode immediate) = omega arith
words_le (Operation.Goto line) = omega arith
words_le (Operation.JumpIf f line) = omega arith
words_le (Operation.JumpUnless f line) = omega arith
words_le Operation.Nop = omega arith

pub words_pos : (operation : Operation) → 1 ≤ words operation
words_pos (Operation.M d mode cell) = omega arith
words_pos (Operation.I mode immediate) = omega arith
words_pos (Operation.Goto line) = omega arith
words_pos (Operation.JumpIf f line) = omega arith
words_pos (Operation.JumpUnless f line) = omega arith
words_pos Operation.Nop = omega arith

module _ (p : Program) where
  pub address_next : (line : ℕ) → address p (line + 1) ≡ address p line + words (p.line line)
  unfolding address
  address_next line = rw add-one

  -- the words of a line end where those of the first n lines do, or before
  ends_by : (line n : ℕ) (t : Bool) → ltb line n ≡ t → line < suc n → (line < n → address p line + words (p.line line) ≤ address p n)
      → address p line + words (p.line line) ≤ address p (suc n)
  unfolding address
  ends_by line n true q h before = le_trans (before (ltb-true line n q)) (le-add_right (address p n) (words (p.line n)))
  ends_by line n false q h before =
      let k = ltb-false line n q in
      let same : line ≡ n = omega arith in
      rw same (le_refl _)

  pub address_ends : (line n : ℕ) → line < n → address p line + words (p.line line) ≤ address p n
  address_ends line zero h = absurd (not-suc-le-zero h)
  address_ends line (suc n) h = ends_by line n (ltb line n) refl h (λ k. address_ends line n k)

  le_by : (line n : ℕ) (t : Bool) → ltb line n ≡ t → line ≤ n → address p line ≤ address p n
  le_by line n true q h = omega (arith, address_ends line n (ltb-true line n q))
  le_by line n false q h =
      let k = ltb-false line n q in
      let same : line ≡ n = omega arith in
      rw same (le_refl _)

  pub address_le : (line n : ℕ) → line ≤ n → address p line ≤ address p n
  address_le line n h = le_by line n (ltb line n) refl h

  pub address_lt : (line : ℕ) → line < p.count → total_words p ≤ 256 → address p line < 256
  address_lt line h s = omega (arith, address_ends line p.count h, words_pos (p.line line))

  pub instructions_length : (here : ℕ) (operation : Operation) → length (instructions_of p here operation) ≡ words operation
  instructions_length here (Operation.M d mode cell) = refl
  instructions_length here (Operation.I mode immediate) = refl
  instructions_length here (Operation.Goto line) = refl
  instructions_length here (Operation.JumpIf f line) = refl
  instructions_length here (Operation.JumpUnless f line) = refl
  instructions_length here Operation.Nop = refl

  line_length : (line : ℕ) → length (line_words p line) ≡ words (p.line line)
  line_length line = length-map (instructions_of p (address p line) (p.line line)) word_of ∙ instructions_length (address p line) (p.line line)

  pub image_length : (n : ℕ) → length (image_up_to p n) ≡ address p n
  unfolding image_up_to address
  image_length zero = refl
  image_length (suc n) = rw (length-append, image_length n, line_length n)

  pub image_next : (line : ℕ) → image_up_to p (line + 1) ≡ image_up_to p line ++ line_words p line
  unfolding image_up_to
  image_next line = rw add-one

  -- word j of a line stands at its address plus j, whatever an entry past the end reads as
  word_by : (line n j d : ℕ) (t : Bool) → ltb line n ≡ t → line < suc n → j < words (p.line line)
      → (line < n → get_or (image_up_to p n) (address p line + j) d ≡ get_or (line_words p line) j d)
      → get_or (image_up_to p (suc n)) (address p line + j) d ≡ get_or (line_words p line) j d
  unfolding image_up_to
  word_by line n j d true q h k before =
      let inside : address p line + j < length (image_up_to p n) = rw (image_length n) (omega (arith, address_ends line n (ltb-true line n q))) in
      get_or-append (image_up_to p n) (line_words p n) d (address p line + j) inside ∙ before (ltb-true line n q)
  word_by line n j d false q h k before =
      let b = ltb-false line n q in
      let same : line ≡ n = omega arith in
      rw same (ap (λ (k : ℕ). get_or (image_up_to p n ++ line_words p n) (k + j) d) (sym (image_length n)) ∙ get_or-append-add (image_up_to p n) (line_words p n) j d)

  pub word_at : (line n j d : ℕ) → line < n → j < words (p.line line) → get_or (image_up_to p n) (address p line + j) d ≡ get_or (line_words p line) j d
  word_at line zero j d h k = absurd (not-suc-le-zero h)
  word_at line (suc n) j d h k = word_by line n j d (ltb line n) refl h k (λ b. word_at line n j d b k)
