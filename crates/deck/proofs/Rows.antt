-- The words of a row of the table of operations, by the operation's number: operation 26 has two, every other one.
-- Assumes nothing.
use Rattle.std.proofs.Common.{◌≡◌, ℕ, Bool, true, false, cond, eqb, ltb, List, refl, eqb-true}
use Rattle.deck.specs.Operation.{row_of, words}

one_word : (deck : List ℕ) (operation second operand : ℕ) (m i g j : Bool) → ltb operation 16 ≡ m → ltb operation 24 ≡ i → eqb operation 24 ≡ g
    → eqb operation 25 ≡ j → eqb operation 26 ≡ false → words ((row_of deck operation).means second operand) ≡ 1
unfolding row_of
one_word deck operation second operand true i g j a b c d e = rw a
one_word deck operation second operand false true g j a b c d e = rw (a, b)
one_word deck operation second operand false false true j a b c d e = rw (a, b, c)
one_word deck operation second operand false false false true a b c d e = rw (a, b, c, d)
one_word deck operation second operand false false false false a b c d e = rw (a, b, c, d, e)

words_by : (deck : List ℕ) (operation second operand : ℕ) (t : Bool) → eqb operation 26 ≡ t
    → words ((row_of deck operation).means second operand) ≡ cond t 2 1
unfolding row_of
words_by deck operation second operand true e = rw (eqb-true operation 26 e)
words_by deck operation second operand false e = one_word deck operation second operand _ _ _ _ refl refl refl refl e

pub words_of : (deck : List ℕ) (operation second operand : ℕ)
    → words ((row_of deck operation).means second operand) ≡ cond (eqb operation 26) 2 1
words_of deck operation second operand = words_by deck operation second operand (eqb operation 26) refl
