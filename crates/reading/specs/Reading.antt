-- What a read into memory that is lent gives, from what the input has left before it and after it, where that is known.
-- Assumes nothing.
use Rattle.std.specs.Prelude.{ℕ, ◌<◌, ◌≤◌, List, length, take, Option, Result, IfOk}
use Rattle.std.specs.Io.KnownBytes.{Consumes, IsAtEnd}

-- what `read_full` promises of its answer, of the input and of the buffer: the bytes counted stand at the start of the buffer as the input had them, and they
-- are fewer than the buffer takes only where no more are left
abbrev pub ReadFullPromise : {E : Type 0} → Option (List ℕ) → Option (List ℕ) → Result ℕ E → List ℕ → Type 0
ReadFullPromise before after answer buffer =
    IfOk answer (λ count. (count ≤ length buffer) × Consumes before after (take count buffer) × (count < length buffer → IsAtEnd after))
