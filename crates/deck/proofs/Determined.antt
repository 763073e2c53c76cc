-- Any two results that a promise allows are equal, for every public function of this crate: each promise names the answer and the final content of what
-- is lent.
-- Assumes nothing.
use Rattle.std.proofs.Common.{◌≡◌, ℕ, List, sym, ◌∙◌, Result}
use Rattle.chip_core.proofs.Answered.{same, refused_alike}
use Rattle.chip_core.specs.declared.refusal.Refusal.{Refusal}
use Rattle.deck.specs.Deck.{CheckPromise}
use Rattle.deck.specs.Lines.{LinesPromise}
use Rattle.deck.specs.Listing.{ListingPromise}
use Rattle.deck.specs.Translate.{TranslatePromise}
use Rattle.deck.specs.declared.lines.LinesRun.{LinesRun}

pub check_determined : (deck : List ℕ) (r s : Result Unit Refusal) → CheckPromise deck r → CheckPromise deck s → r ≡ s
check_determined deck r s p q = refused_alike r s (p ∙ sym q)

module _ (deck lent left right : List ℕ) where
  pub translate_determined : (r s : Result ℕ Refusal) → TranslatePromise deck lent r left → TranslatePromise deck lent s right
      → (r ≡ s) × (left ≡ right)
  translate_determined r s p q = (same r s (p.0 ∙ sym q.0), p.1 ∙ sym q.1)

  pub lines_determined : (asked : ℕ) (r s : Result LinesRun Refusal) → LinesPromise asked deck lent r left → LinesPromise asked deck lent s right
      → (r ≡ s) × (left ≡ right)
  lines_determined asked r s p q = (same r s (p.0 ∙ sym q.0), p.1 ∙ sym q.1)

  pub listing_determined : (r s : Result ℕ Refusal) → ListingPromise deck lent r left → ListingPromise deck lent s right
      → (r ≡ s) × (left ≡ right)
  listing_determined r s p q = (same r s (p.0 ∙ sym q.0), p.1 ∙ sym q.1)
