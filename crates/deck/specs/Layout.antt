-- What the layout checks of a deck leave.
-- Assumes nothing.
use Rattle.std.specs.Prelude.{◌≡◌, ℕ, ◌≤◌, List, length}
use Rattle.deck.specs.Bytes.{line_count, record_at}

-- the lines are at most 256, and the deck ends where they end
pub record Complete (deck : List ℕ) : Type 0 where
  pub few : line_count deck ≤ 256
  pub ends : length deck ≡ record_at deck (line_count deck)
