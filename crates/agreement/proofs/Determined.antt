-- Any two results that a promise allows are equal, for every public function of this crate: the promise names the answer's number and values.
-- Assumes nothing.
use Rattle.std.proofs.Common.{◌≡◌, ℕ, List, sym, ◌∙◌, Result}
use Rattle.agreement.specs.Agree.{AgreePromise}
use Rattle.agreement.specs.declared.agree.Compared.{Compared}
use Rattle.chip_core.proofs.Answered.{same}
use Rattle.chip_core.specs.declared.refusal.Refusal.{Refusal}

pub agree_determined : (asked : ℕ) (deck cells : List ℕ) (r s : Result Compared Refusal) → AgreePromise asked deck cells r → AgreePromise asked deck cells s → r ≡ s
agree_determined asked deck cells r s p q = same r s (p ∙ sym q)
