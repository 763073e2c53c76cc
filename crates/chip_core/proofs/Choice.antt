-- A choice by a test: what holds of both answers holds of the one that is taken.
-- Assumes nothing.
use Rattle.std.proofs.Common.{Bool, true, false, cond}

pub either : {A : Type 0} (P : A → Type 0) (test : Bool) (x y : A) → P x → P y → P (cond test x y)
either P true x y p q = p
either P false x y p q = q
