-- Differences of two numbers as integers: p - q and p' - q' are one integer where p + q' = p' + q (`same_sub`), so sums and negations of
-- differences are differences again.
-- Assumes nothing.
use Rattle.std.proofs.Common.{◌≡◌, ℕ, zero, suc, ◌+◌, ◌-◌, Bool, true, false, ltb, pos, negsuc, ◌+ℤ◌, neg_ℤ, refl, ap, ◌∙◌, arith, ltb-false, ltb-true, le-ltb, lt-ltb}
use lib.IntN.{sub_ℕ}

-- two differences that are one integer
same_sub : (p q p' q' : ℕ) → p + q' ≡ p' + q → sub_ℕ p q ≡ sub_ℕ p' q'
same_sub p q p' q' e = go (ltb p q) refl
  where
    go : (t : Bool) → ltb p q ≡ t → sub_ℕ p q ≡ sub_ℕ p' q'
    go true h =
        let h' = ltb-true p q h in
        simp (h, lt-ltb p' q' (omega arith)) (ap negsuc (omega arith))
    go false h =
        let h' = ltb-false p q h in
        simp (h, le-ltb p' q' (omega arith)) (ap pos (omega arith))

pub sum_sub : (a m b n : ℕ) → sub_ℕ a m +ℤ sub_ℕ b n ≡ sub_ℕ (a + b) (m + n)
sum_sub a m b n = go (ltb a m) (ltb b n) refl refl
  where
    go : (t u : Bool) → ltb a m ≡ t → ltb b n ≡ u → sub_ℕ a m +ℤ sub_ℕ b n ≡ sub_ℕ (a + b) (m + n)
    go true true h g =
        let h' = ltb-true a m h in
        let g' = ltb-true b n g in
        simp (h, g, lt-ltb (a + b) (m + n) (omega arith)) (ap negsuc (omega arith))
    go true false h g =
        let h' = ltb-true a m h in
        let g' = ltb-false b n g in
        rw (h, g) (same_sub (b - n) (suc (m - suc a)) (a + b) (m + n) (omega arith))
    go false true h g =
        let h' = ltb-false a m h in
        let g' = ltb-true b n g in
        rw (h, g) (same_sub (a - m) (suc (n - suc b)) (a + b) (m + n) (omega arith))
    go false false h g =
        let h' = ltb-false a m h in
        let g' = ltb-false b n g in
        simp (h, g, le-ltb (a + b) (m + n) (omega arith)) (ap pos (omega arith))

neg_pos : (k : ℕ) → neg_ℤ (pos k) ≡ sub_ℕ 0 k
neg_pos zero = refl
neg_pos (suc k) = simp (lt-ltb 0 (suc k) (omega arith)) (ap negsuc (omega arith))

pub neg_sub : (b n : ℕ) → neg_ℤ (sub_ℕ b n) ≡ sub_ℕ n b
neg_sub b n = go (ltb b n) refl
  where
    go : (t : Bool) → ltb b n ≡ t → neg_ℤ (sub_ℕ b n) ≡ sub_ℕ n b
    go true h =
        let h' = ltb-true b n h in
        simp (h, le-ltb n b (omega arith)) (ap pos (omega arith))
    go false h =
        let h' = ltb-false b n h in
        rw h (neg_pos (b - n) ∙ same_sub 0 (b - n) n b (omega arith))
