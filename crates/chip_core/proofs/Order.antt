-- The order of checks: those of one list, then those of another. A broken rule gives a number that is not 0, so 0 says that none was broken.
-- Assumes nothing.
use Rattle.std.proofs.Common.{◌≡◌, ℕ, suc, Bool, true, false, cond, eqb, List, [], ◌∷◌, ◌++◌, refl, suc-ne-zero}
use Rattle.chip_core.specs.Refusal.{accepted, Check, first_broken}
use Rattle.chip_core.proofs.Finite.{All}

-- a rule that was not broken: its number is n + 1, and so not 0
pub passed : (t : Bool) (n y : ℕ) → cond t (suc n) y ≡ 0 → (t ≡ false) × (y ≡ 0)
passed true n y e = absurd (suc-ne-zero n e)
passed false n y e = (refl, e)

-- checks none of which gives 0
abbrev pub Numbered : List Check → Type 0
Numbered checks = All (λ (c : Check). eqb c.number accepted ≡ false) checks

then_one : (c : Check) (x y z : ℕ) (b : Bool) → eqb c.number accepted ≡ false → x ≡ cond (eqb y accepted) z y
    → cond b c.number x ≡ cond (eqb (cond b c.number y) accepted) z (cond b c.number y)
then_one c x y z true n e = rw n
then_one c x y z false n e = e

-- the checks after others count where those before them pass
pub tried_then : (cs ds : List Check) → Numbered cs
    → first_broken (cs ++ ds) ≡ cond (eqb (first_broken cs) accepted) (first_broken ds) (first_broken cs)
tried_then [] ds t = refl
tried_then (c ∷ cs) ds t =
    then_one c (first_broken (cs ++ ds)) (first_broken cs) (first_broken ds) c.broken t.0 (tried_then cs ds t.1)
