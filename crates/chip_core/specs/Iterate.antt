-- A step made n times, and what the steps cost together, for any kind of state. No machine is in it.
-- Assumes nothing.
use Rattle.std.specs.Prelude.{ℕ, zero, suc, ◌+◌}

abbrev pub iterate : {A : Type 0} → (A → A) → ℕ → A → A
iterate step zero state = state
iterate step (suc n) state = iterate step n (step state)

-- the sum of what each of n steps costs, by the state that it starts from
abbrev pub total : {A : Type 0} → (A → ℕ) → (A → A) → ℕ → A → ℕ
total cost step zero state = 0
total cost step (suc n) state = cost state + total cost step n (step state)
