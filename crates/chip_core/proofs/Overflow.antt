-- O of a sum and of a difference over the integers, against the signs of bytes. A byte's value is its number, less 256 if bit 7 is set;
-- so a sum or a difference of two is a difference of two numbers, and whether that is outside -128..127 is a comparison of numbers.
-- Assumes nothing.
use Rattle.std.proofs.Common.{◌≡◌, ℕ, suc, ◌+◌, ◌-◌, ◌/◌, ◌%◌, ◌<◌, ◌≤◌, Bool, true, false, cond, not, ◌&&◌, ◌||◌, ltb, ◌+ℤ◌, ◌-ℤ◌, sym, refl, ◌∙◌, zero-le, arith, ltb-false, ltb-true, le-ltb, lt-ltb, eq-eqb, ne_eqb}
use mathlib.Core.Bool.{beq}
use native.Mathlib.Nat.{sub-zero}
use lib.IntN.{sub_ℕ}
use Rattle.chip_core.specs.Unit.{signed, outside}
use Rattle.chip_core.specs.Word.{is_set}
use Rattle.chip_core.proofs.Difference.{sum_sub, neg_sub}

-- a difference of two numbers is outside -128..127
outside_sub : (m n : ℕ) → outside (sub_ℕ m n) ≡ (ltb (m + 128) n || ltb (n + 127) m)
outside_sub m n = go (ltb m n) refl
  where
    same : (a b c d : ℕ) (t : Bool) → ltb a b ≡ t → (a < b → c < d) → (b ≤ a → d ≤ c) → ltb a b ≡ ltb c d
    same a b c d true e f g = e ∙ sym (lt-ltb c d (f (ltb-true a b e)))
    same a b c d false e f g = e ∙ sym (le-ltb c d (g (ltb-false a b e)))

    go : (t : Bool) → ltb m n ≡ t → outside (sub_ℕ m n) ≡ (ltb (m + 128) n || ltb (n + 127) m)
    go true e =
        let h = ltb-true m n e in
        simp (e, le-ltb (n + 127) m (omega arith), same 127 (n - suc m) (m + 128) n (ltb 127 (n - suc m)) refl (λ x. omega arith) (λ x. omega arith))
    go false e =
        let h = ltb-false m n e in
        simp (e, le-ltb (m + 128) n (omega arith), same 127 (m - n) (n + 127) m (ltb 127 (m - n)) refl (λ x. omega arith) (λ x. omega arith))

-- a comparison as `outside_sub` has it: within -128..127, beneath it or beyond it
within : (m n : ℕ) → n ≤ m + 128 → m ≤ n + 127 → (ltb (m + 128) n || ltb (n + 127) m) ≡ false
within m n h g = rw (le-ltb (m + 128) n h, le-ltb (n + 127) m g)

beneath : (m n : ℕ) → m + 128 < n → (ltb (m + 128) n || ltb (n + 127) m) ≡ true
beneath m n h = rw (lt-ltb (m + 128) n h)

beyond : (m n : ℕ) → n + 127 < m → (ltb (m + 128) n || ltb (n + 127) m) ≡ true
beyond m n h = rw (le-ltb (m + 128) n (omega arith), lt-ltb (n + 127) m h)

-- what a byte's value is less than its number, by its sign
abbrev lift : Bool → ℕ
lift sign = cond sign 256 0

signed_sub : (byte : ℕ) → signed byte ≡ sub_ℕ byte (lift (is_set 7 byte))
signed_sub byte = go (is_set 7 byte) refl
  where
    go : (t : Bool) → is_set 7 byte ≡ t → signed byte ≡ sub_ℕ byte (lift (is_set 7 byte))
    go true e = rw e
    go false e = rw (e, le-ltb byte 0 zero-le, sub-zero byte)

abbrev lifted : ℕ → ℕ
lifted byte = lift (is_set 7 byte)

outside_sum : (a b : ℕ)
    → outside (signed a +ℤ signed b) ≡ (ltb (a + b + 128) (lifted a + lifted b) || ltb (lifted a + lifted b + 127) (a + b))
outside_sum a b = rw (signed_sub a, signed_sub b, sum_sub a (lifted a) b (lifted b)) (outside_sub (a + b) (lifted a + lifted b))

outside_difference : (a b : ℕ)
    → outside (signed a -ℤ signed b) ≡ (ltb (a + lifted b + 128) (lifted a + b) || ltb (lifted a + b + 127) (a + lifted b))
outside_difference a b =
    rw (signed_sub a, signed_sub b, neg_sub b (lifted b), sum_sub a (lifted a) (lifted b) b) (outside_sub (a + lifted b) (lifted a + b))

-- what the sign says of a byte
abbrev Side : Bool → ℕ → Type 0
Side true byte = 128 ≤ byte
Side false byte = byte < 128

side : (byte : ℕ) → byte < 256 → Side (is_set 7 byte) byte
side byte h = go (ltb byte 128) refl
  where
    go : (t : Bool) → ltb byte 128 ≡ t → Side (is_set 7 byte) byte
    go true e = let g = ltb-true byte 128 e in rw (ne_eqb (byte / 128 % 2) 1 (λ z. omega arith)) g
    go false e = let g = ltb-false byte 128 e in rw (eq-eqb (byte / 128 % 2) 1 (omega arith)) g

-- two signs differ, as `^` has it
abbrev differ : Bool → Bool → Bool
differ p q = not (beq p q)

module _ (a b : ℕ) (ha : a < 256) (hb : b < 256) where
  -- the operands have one sign and the sum s has the other, exactly if the exact sum is outside
  sum_cases : (s : ℕ) → s ≡ (a + b) % 256 → (p q r : Bool) → Side p a → Side q b → Side r s
      → (differ p r && differ q r) ≡ (ltb (a + b + 128) (lift p + lift q) || ltb (lift p + lift q + 127) (a + b))
  sum_cases s h true true true x y z = sym (within (a + b) 512 (omega arith) (omega arith))
  sum_cases s h true true false x y z = sym (beneath (a + b) 512 (omega arith))
  sum_cases s h true false true x y z = sym (within (a + b) 256 (omega arith) (omega arith))
  sum_cases s h true false false x y z = sym (within (a + b) 256 (omega arith) (omega arith))
  sum_cases s h false true true x y z = sym (within (a + b) 256 (omega arith) (omega arith))
  sum_cases s h false true false x y z = sym (within (a + b) 256 (omega arith) (omega arith))
  sum_cases s h false false true x y z = sym (beyond (a + b) 0 (omega arith))
  sum_cases s h false false false x y z = sym (within (a + b) 0 (omega arith) (omega arith))

  pub sum_signs : (s : ℕ) → s < 256 → s ≡ (a + b) % 256
      → (differ (is_set 7 a) (is_set 7 s) && differ (is_set 7 b) (is_set 7 s)) ≡ outside (signed a +ℤ signed b)
  sum_signs s hs h =
      sum_cases s h (is_set 7 a) (is_set 7 b) (is_set 7 s) (side a ha) (side b hb) (side s hs)
      ∙ sym (outside_sum a b)

  -- a difference d is outside exactly if adding b to it again is
  difference_cases : (d : ℕ) → (d + b) % 256 ≡ a → d < 256 → (p q r : Bool) → Side p a → Side q b → Side r d
      → (ltb (d + b + 128) (lift r + lift q) || ltb (lift r + lift q + 127) (d + b))
      ≡ (ltb (a + lift q + 128) (lift p + b) || ltb (lift p + b + 127) (a + lift q))
  difference_cases d h l true true true x y z =
      within (d + b) 512 (omega arith) (omega arith) ∙ sym (within (a + 256) (256 + b) (omega arith) (omega arith))
  difference_cases d h l true true false x y z =
      within (d + b) 256 (omega arith) (omega arith) ∙ sym (within (a + 256) (256 + b) (omega arith) (omega arith))
  difference_cases d h l true false true x y z =
      within (d + b) 256 (omega arith) (omega arith) ∙ sym (within (a + 0) (256 + b) (omega arith) (omega arith))
  difference_cases d h l true false false x y z =
      beyond (d + b) 0 (omega arith) ∙ sym (beneath (a + 0) (256 + b) (omega arith))
  difference_cases d h l false true true x y z =
      beneath (d + b) 512 (omega arith) ∙ sym (beyond (a + 256) (0 + b) (omega arith))
  difference_cases d h l false true false x y z =
      within (d + b) 256 (omega arith) (omega arith) ∙ sym (within (a + 256) (0 + b) (omega arith) (omega arith))
  difference_cases d h l false false true x y z =
      within (d + b) 256 (omega arith) (omega arith) ∙ sym (within (a + 0) (0 + b) (omega arith) (omega arith))
  difference_cases d h l false false false x y z =
      within (d + b) 0 (omega arith) (omega arith) ∙ sym (within (a + 0) (0 + b) (omega arith) (omega arith))

  pub outside_again : (d : ℕ) → d < 256 → (d + b) % 256 ≡ a → outside (signed d +ℤ signed b) ≡ outside (signed a -ℤ signed b)
  outside_again d l h =
      outside_sum d b
      ∙ difference_cases d h l (is_set 7 a) (is_set 7 b) (is_set 7 d) (side a ha) (side b hb) (side d l)
      ∙ sym (outside_difference a b)
