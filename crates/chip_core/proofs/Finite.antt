-- Finitely many cases. A test of every number below a bound, or of every pair, which the checker computes, and the law that turns it into
-- the rule at each; what holds of each entry of a list; and a number that is none of the first k, where a match has used them up.
-- Assumes nothing.
use Rattle.std.proofs.Common.{◌≡◌, ℕ, zero, suc, ◌<◌, ◌≤◌, Bool, true, false, ◌&&◌, T, eqb, ◌⊎◌, List, [], ◌∷◌, get_or, refl, inl, inr, ⊎_elim, zero-le, not-suc-le-zero, arith, eqb-true}
use borrow.Author.Tests.{eqb-false}

pub left : (a b : Bool) → T (a && b) → T a
left true b t = tt
left false b t = t

pub right : (a b : Bool) → T (a && b) → T b
right true b t = t
right false b t = absurd t

abbrev pub all : (ℕ → Bool) → ℕ → Bool
all f zero = true
all f (suc n) = f n && all f n

same : (k n : ℕ) (t : Bool) → eqb k n ≡ t → (k ≡ n) ⊎ (k ≡ n → ⊥)
same k n true e = inl (eqb-true k n e)
same k n false e = inr (eqb-false k n e)

pub each : (f : ℕ → Bool) (n : ℕ) → T (all f n) → (k : ℕ) → k < n → T (f k)
each f zero t k h = absurd (not-suc-le-zero h)
each f (suc n) t k h =
    ⊎_elim (λ e. rw e (left (f n) (all f n) t)) (λ ne. each f n (right (f n) (all f n) t) k (omega arith))
    (same k n (eqb k n) refl)

-- the same over pairs
abbrev pub all_pairs : (ℕ → ℕ → Bool) → ℕ → ℕ → Bool
all_pairs f m n = all (λ i. all (f i) n) m

pub each_pair : (f : ℕ → ℕ → Bool) (m n : ℕ) → T (all_pairs f m n) → (i j : ℕ) → i < m → j < n → T (f i j)
each_pair f m n t i j hi hj = each (f i) n (each (λ k. all (f k) n) m t i hi) j hj

-- what holds of each entry of a list, shown side by side, and then of what is found in it
abbrev pub All : {A : Type 0} → (A → Type 0) → List A → Type 0
All P [] = Unit {0}
All P (x ∷ xs) = P x × All P xs

infixr 5 ◌&◌
abbrev pub ◌&◌ : {A B : Type 0} → A → B → A × B
a & b = (a, b)

pub found : {A : Type 0} (P : A → Type 0) (xs : List A) (k : ℕ) (d : A) → All P xs → P d → P (get_or xs k d)
found P [] k d t h = h
found P (x ∷ xs) zero d t h = t.0
found P (x ∷ xs) (suc k) d t h = found P xs k d t.1 h

-- a number that is none of the first k, as the last arm of a match on numbers has it
abbrev pub NoneOf : ℕ → ℕ → Type 0
NoneOf zero m = Unit {0}
NoneOf (suc k) m = NoneOf k m × (m ≡ k → ⊥)

past : {k m : ℕ} → k ≤ m → (m ≡ k → ⊥) → suc k ≤ m
past h ne = omega arith

pub none_of : (k m : ℕ) → NoneOf k m → k ≤ m
none_of zero m t = zero-le
none_of (suc k) m t = past (none_of k m t.0) t.1
