-- Any two answers that the promise allows for bytes that are known are equal, and so are the bytes at the start of the buffer and what is left: as many bytes are
-- read as there are, or as the buffer takes.
-- Assumes nothing.
use Rattle.std.proofs.Common.{◌≡◌, ℕ, ◌+◌, ◌<◌, ◌≤◌, List, ◌++◌, length, take, Some, Ok, sym, ap, ◌∙◌, arith, length-append, length-take-le}
use Rattle.std.proofs.lemmas.List.{append_cancel_left, take_at}
use Rattle.reading.specs.Reading.{ReadFullPromise}

-- what one answer leaves, and what it gives, from all the bytes that there were
module _ (xs left buffer : List ℕ) (count : ℕ) (inside : count ≤ length buffer) (e : xs ≡ take count buffer ++ left) where
  counted : length xs ≡ count + length left
  counted = ap length e ∙ length-append (take count buffer) left ∙ ap (λ n. n + length left) (length-take-le count buffer inside)

  given : take count xs ≡ take count buffer
  given = ap (take count) e ∙ take_at (take count buffer) left count (length-take-le count buffer inside)

-- two counts of a whole, of which each is short of the room only where it is all
same_count : (m n room whole left right : ℕ) → m ≤ room → n ≤ room → whole ≡ m + left → whole ≡ n + right
    → (m < room → left ≡ 0) → (n < room → right ≡ 0) → m ≡ n
same_count m n room whole left right h k e f p q = grind arith

pub read_full_determined : (E : Type 0) (xs left right a b : List ℕ) (m n : ℕ) → length a ≡ length b
    → ReadFullPromise {E = E} (Some xs) (Some left) (Ok m) a → ReadFullPromise {E = E} (Some xs) (Some right) (Ok n) b
    → (m ≡ n) × (take m a ≡ take n b) × (left ≡ right)
read_full_determined E xs left right a b m n same p q =
    let first = counted xs left a m p.0 p.1 in
    let second = counted xs right b n q.0 q.1 in
    let count = same_count m n (length a) (length xs) (length left) (length right)
    p.0 (omega arith) first second (λ h. ap length (p.2 h)) (λ h. ap length (q.2 (omega arith))) in
    let bytes : take m a ≡ take n b =
    sym (given xs left a m p.0 p.1) ∙ ap (λ k. take k xs) count ∙ given xs right b n q.0 q.1 in
    (count, bytes, append_cancel_left (take m a) left right (sym p.1 ∙ q.1 ∙ ap (λ l. l ++ right) (sym bytes)))
