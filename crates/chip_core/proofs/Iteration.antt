-- Laws of steps made n times, and of what they cost, over any step function.
-- Assumes nothing.
use Rattle.std.proofs.Common.{◌≡◌, ℕ, zero, suc, ◌+◌, ◌*◌, refl, add-zero, add_assoc, suc-add, zero-add, arith}
use Rattle.chip_core.specs.Iterate.{iterate, total}

module _ {A : Type 0} (step : A → A) where
  -- one step more, at the end: what the invariant of a loop wants
  pub iterate_last : (n : ℕ) (x : A) → iterate step (suc n) x ≡ step (iterate step n x)
  iterate_last zero x = refl
  iterate_last (suc n) x = iterate_last n (step x)

  pub total_last : (cost : A → ℕ) (n : ℕ) (x : A) → total cost step (suc n) x ≡ total cost step n x + cost (iterate step n x)
  total_last cost zero x = rw (add-zero, zero-add)
  total_last cost (suc n) x = rw (total_last cost n (step x), add_assoc)

  -- a state that a step leaves as it is stays so, and if the step costs nothing the rest costs nothing
  pub iterate_still : (x : A) → step x ≡ x → (n : ℕ) → iterate step n x ≡ x
  iterate_still x e zero = refl
  iterate_still x e (suc n) = rw e (iterate_still x e n)

  pub total_still : (cost : A → ℕ) (x : A) → step x ≡ x → cost x ≡ 0 → (n : ℕ) → total cost step n x ≡ 0
  total_still cost x e f zero = refl
  total_still cost x e f (suc n) = rw (f, e, total_still cost x e f n)

  -- steps one after the other
  pub iterate_add : (m n : ℕ) (x : A) → iterate step (m + n) x ≡ iterate step n (iterate step m x)
  iterate_add zero n x = rw (zero-add n)
  iterate_add (suc m) n x = rw (suc-add m n) (iterate_add m n (step x))

  pub total_add : (cost : A → ℕ) (m n : ℕ) (x : A) → total cost step (m + n) x ≡ total cost step m x + total cost step n (iterate step m x)
  total_add cost zero n x = rw (zero-add n, zero-add)
  total_add cost (suc m) n x = rw (suc-add m n, total_add cost m n (step x), add_assoc)

  -- steps that each cost k times a count cost k times the counts together
  pub total_times : (cost count : A → ℕ) (k : ℕ) → ((x : A) → cost x ≡ k * count x) → (n : ℕ) (x : A) → total cost step n x ≡ k * total count step n x
  total_times cost count k e zero x = omega arith
  total_times cost count k e (suc n) x = rw (e x, total_times cost count k e n (step x)) (omega arith)

-- Two kinds of state, where one step of the first costs so many of the second: what one step keeps between them, n steps keep.
module _ {A B : Type 0} (step : A → A) (cost : A → ℕ) (tick : B → B) (R : A → B → Type 0) where
  pub kept_together : ((x : A) (y : B) → R x y → R (step x) (iterate tick (cost x) y))
      → (n : ℕ) (x : A) (y : B) → R x y → R (iterate step n x) (iterate tick (total cost step n x) y)
  kept_together one zero x y r = r
  kept_together one (suc n) x y r =
      rw (iterate_add tick (cost x) (total cost step n (step x)) y) (kept_together one n (step x) (iterate tick (cost x) y) (one x y r))
