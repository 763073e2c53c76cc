-- Laws of an image's entries: where an entry is inside, what stands for one past the end does not matter; and some word is above a bound exactly
-- if the largest is, so that a running maximum settles the scan.
-- Assumes nothing.
use Rattle.std.proofs.Common.{◌≡◌, ℕ, zero, suc, ◌+◌, ◌<◌, Bool, true, false, max, ◌||◌, ltb, List, [], ◌∷◌, length, get_or, drop, refl, le_of_suc-le-suc, not-suc-le-zero, add-one, arith, drop-cons, ltb-false, ltb-true, le-ltb, lt-ltb}
use mathlib.Core.Bool.{or-false, or_assoc}
use lib.Seq.{drop-length}
use Rattle.chip_core.specs.Machine.{any_above_4095}

pub inside : (l : List ℕ) (i d e : ℕ) → i < length l → get_or l i d ≡ get_or l i e
inside [] i d e h = absurd (not-suc-le-zero h)
inside (x ∷ l) zero d e h = refl
inside (x ∷ l) (suc i) d e h = inside l i d e (le_of_suc-le-suc h)

-- the larger of two is above a bound exactly if one of them is
larger_above : (bound a b : ℕ) → ltb bound (max a b) ≡ (ltb bound b || ltb bound a)
larger_above bound a b = go (ltb bound b) (ltb bound a) refl refl
  where
    go : (t u : Bool) → ltb bound b ≡ t → ltb bound a ≡ u → ltb bound (max a b) ≡ (t || u)
    go true u e f = let p = ltb-true bound b e in lt-ltb bound (max a b) (omega arith)
    go false true e f = let p = ltb-true bound a f in lt-ltb bound (max a b) (omega arith)
    go false false e f =
        let p = ltb-false bound a f in
        let q = ltb-false bound b e in
        le-ltb bound (max a b) (omega arith)

-- one word more of the scan
pub scanned : (l : List ℕ) (i largest : ℕ) → i < length l
    → (ltb 4095 (max (get_or l i 0) largest) || any_above_4095 (drop (i + 1) l)) ≡ (ltb 4095 largest || any_above_4095 (drop i l))
scanned l i largest h =
    rw (add-one, drop-cons l i 0 h, larger_above 4095 (get_or l i 0) largest)
    (or_assoc (ltb 4095 largest) (ltb 4095 (get_or l i 0)) (any_above_4095 (drop (suc i) l)))

-- at its end the largest word tells
pub ended : (l : List ℕ) (i largest : ℕ) → i ≡ length l → (ltb 4095 largest || any_above_4095 (drop i l)) ≡ ltb 4095 largest
ended l i largest e = rw (e, drop-length l, or-false (ltb 4095 largest))
