-- Rows of cells, place by place: where they differ first, and that they differ nowhere exactly where they are the same.
-- Assumes nothing.
use Rattle.std.proofs.Common.{◌≡◌, ℕ, ◌+◌, Bool, true, false, cond, eqb, List, [], ◌∷◌, length, sym, refl, suc-ne-zero, arith, eq-eqb, eqb-true, Option, Some, None}
use Rattle.agreement.specs.Difference.{one_further, first_differing}

none_before : (o : Option ℕ) → one_further o ≡ None → o ≡ None
none_before None e = refl
none_before (Some place) e = absurd cc

-- cells that are the same differ nowhere, and cells as many that differ nowhere are the same
pub nowhere : (cells : List ℕ) → first_differing cells cells ≡ None
nowhere [] = refl
nowhere (cell ∷ cells) = rw (eq-eqb cell cell refl, nowhere cells)

pub same_cells : (cells others : List ℕ) → length cells ≡ length others → first_differing cells others ≡ None → cells ≡ others
same_cells [] [] e h = refl
same_cells [] (other ∷ others) e h = absurd (suc-ne-zero _ (sym e))
same_cells (cell ∷ cells) [] e h = absurd (suc-ne-zero _ e)
same_cells (cell ∷ cells) (other ∷ others) e h = go (eqb cell other) refl h (λ k. same_cells cells others (omega (arith, e)) k)
  where
    go : (t : Bool) → eqb cell other ≡ t → cond t (one_further (first_differing cells others)) (Some 0) ≡ None
        → (first_differing cells others ≡ None → cells ≡ others) → cell ∷ cells ≡ other ∷ others
    go true q k rest = rw (eqb-true cell other q, rest (none_before _ k))
    go false q k rest = absurd cc

-- a place counted from another
abbrev pub beyond : ℕ → Option ℕ → Option ℕ
beyond place None = None
beyond place (Some further) = Some (place + further)
