-- The parts of the listing's text: how long they are, and that a line more comes after those before it.
-- Assumes nothing.
use Rattle.std.proofs.Common.{◌≡◌, ℕ, zero, suc, ◌+◌, ◌*◌, ◌≤◌, Bool, true, false, cond, ltb, List, [], ◌∷◌, ◌++◌, length, get_or, refl, ◌∙◌, append_assoc, add-one, arith, length-append}
use Rattle.deck.specs.Listing.{decimal, word_line, word_lines}

pub lines_length : (words : List ℕ) (n : ℕ) → length (word_lines words n) ≡ 7 * n
unfolding word_lines
lines_length words zero = refl
lines_length words (suc n) = length-append (word_lines words n) (word_line n (get_or words n 0)) ∙ omega (arith, lines_length words n)

-- the next line of the words, after some text
pub next_line : (text words : List ℕ) (n : ℕ)
    → (text ++ word_lines words n) ++ word_line n (get_or words n 0) ≡ text ++ word_lines words (n + 1)
unfolding word_lines
next_line text words n = rw add-one (append_assoc text (word_lines words n) (word_line n (get_or words n 0)))

short : (small middle : Bool) (a b c : ℕ) → length (cond small (a ∷ []) (cond middle (b ∷ a ∷ []) (c ∷ b ∷ a ∷ []))) ≤ 3
short true middle a b c = omega arith
short false true a b c = omega arith
short false false a b c = omega arith

-- a number has at most three digits
pub decimal_length : (n : ℕ) → length (decimal n) ≤ 3
decimal_length n = short (ltb n 10) (ltb n 100) _ _ _
