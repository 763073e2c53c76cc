-- The checks of a deck, part by part: the labels' and the lines' one after the other, and all of them in document 01's order. No check gives 0, so a
-- part that gives 0 has passed, and the next part decides.
-- Assumes nothing.
use Rattle.std.proofs.Common.{◌≡◌, ℕ, zero, suc, ◌<◌, Bool, true, false, cond, eqb, ltb, List, [], ◌∷◌, ◌++◌, sym, refl, ◌∙◌, not-suc-le-zero, arith, ltb-false, ltb-true, eqb-true}
use borrow.Author.Tests.{eqb-false}
use Rattle.chip_core.proofs.Finite.{◌&◌}
use Rattle.chip_core.proofs.Order.{tried_then, Numbered}
use Rattle.chip_core.specs.Refusal.{accepted, first_broken, Check}
use Rattle.deck.specs.Bytes.{label_count, line_count}
use Rattle.deck.specs.Deck.{layout_checks, each, checks_of_label, label_checks, checks_of_line, line_checks, words_checks, deck_checks, deck_refusal}

-- a part's number, or else that of what comes after
abbrev pub or_else : ℕ → ℕ → ℕ
or_else number after = cond (eqb number accepted) after number

numbered_append : (cs ds : List Check) → Numbered cs → Numbered ds → Numbered (cs ++ ds)
numbered_append [] ds s t = t
numbered_append (c ∷ cs) ds s t = (s.0, numbered_append cs ds s.1 t)

-- where the first of two parts passes and so does the second
both_by : (x y : ℕ) (t : Bool) → eqb x accepted ≡ t → cond t y x ≡ accepted → (x ≡ accepted) × (y ≡ accepted)
both_by x y true q e = (eqb-true x 0 q, e)
both_by x y false q e = absurd (eqb-false x 0 q e)

pub both : (x y : ℕ) → cond (eqb x accepted) y x ≡ accepted → (x ≡ accepted) × (y ≡ accepted)
both x y e = both_by x y (eqb x accepted) refl e

module _ (checks : ℕ → List Check) (numbered : (i : ℕ) → Numbered (checks i)) where
  numbered_each : (n : ℕ) → Numbered (each checks n)
  numbered_each zero = tt
  numbered_each (suc n) = numbered_append (each checks n) (checks n) (numbered_each n) (numbered n)

  -- with the first n passed, the next one decides
  pub next_one : (n : ℕ) → first_broken (each checks n) ≡ accepted → first_broken (each checks (suc n)) ≡ first_broken (checks n)
  next_one n e = tried_then (each checks n) (checks n) (numbered_each n) ∙ rw e

  -- one that is broken, after those before it have passed, decides for all
  decides_by : (i n : ℕ) (t : Bool) → ltb i n ≡ t → i < suc n → first_broken (each checks i) ≡ accepted → eqb (first_broken (checks i)) accepted ≡ false
      → (i < n → first_broken (each checks n) ≡ first_broken (checks i)) → first_broken (each checks (suc n)) ≡ first_broken (checks i)
  decides_by i n true q h p b before = tried_then (each checks n) (checks n) (numbered_each n) ∙ rw (before (ltb-true i n q), b)
  decides_by i n false q h p b before =
      let k = ltb-false i n q in
      let same : i ≡ n = omega arith in
      rw same (next_one n (rw same at p))

  pub decides : (i n : ℕ) → i < n → first_broken (each checks i) ≡ accepted → eqb (first_broken (checks i)) accepted ≡ false
      → first_broken (each checks n) ≡ first_broken (checks i)
  decides i zero h p b = absurd (not-suc-le-zero h)
  decides i (suc n) h p b = decides_by i n (ltb i n) refl h p b (λ k. decides i n k p b)

  -- where all have passed, each has
  passed_by : (i n : ℕ) (t : Bool) → ltb i n ≡ t → i < suc n → first_broken (checks n) ≡ accepted → (i < n → first_broken (checks i) ≡ accepted)
      → first_broken (checks i) ≡ accepted
  passed_by i n true q h p before = before (ltb-true i n q)
  passed_by i n false q h p before =
      let k = ltb-false i n q in
      let same : i ≡ n = omega arith in
      rw same p

  pub each_passed : (n : ℕ) → first_broken (each checks n) ≡ accepted → (i : ℕ) → i < n → first_broken (checks i) ≡ accepted
  each_passed zero e i h = absurd (not-suc-le-zero h)
  each_passed (suc n) e i h =
      let b = both _ _ (sym (tried_then (each checks n) (checks n) (numbered_each n)) ∙ e) in
      passed_by i n (ltb i n) refl h b.1 (λ k. each_passed n b.0 i k)

module _ (deck : List ℕ) where
  pub of_label : (label : ℕ) → Numbered (checks_of_label deck label)
  of_label label = refl & tt

  pub of_line : (line : ℕ) → Numbered (checks_of_line deck line)
  of_line line = refl & refl & refl & tt

  numbered_layout : Numbered (layout_checks deck)
  numbered_layout = refl & refl & refl & refl & refl & tt

  numbered_labels : Numbered (label_checks deck)
  numbered_labels = numbered_each (checks_of_label deck) of_label (label_count deck)

  numbered_lines : Numbered (line_checks deck)
  numbered_lines = numbered_each (checks_of_line deck) of_line (line_count deck)

  numbered_deck : Numbered (deck_checks deck)
  numbered_deck =
      numbered_append (layout_checks deck) (label_checks deck ++ (line_checks deck ++ words_checks deck)) numbered_layout
      (numbered_append (label_checks deck) (line_checks deck ++ words_checks deck) numbered_labels
      (numbered_append (line_checks deck) (words_checks deck) numbered_lines (refl & tt)))

  -- document 01's order, part by part
  pub in_order : deck_refusal deck ≡ or_else (first_broken (layout_checks deck))
      (or_else (first_broken (label_checks deck)) (or_else (first_broken (line_checks deck)) (first_broken (words_checks deck))))
  unfolding deck_refusal
  in_order =
      rw (
        tried_then (layout_checks deck) (label_checks deck ++ (line_checks deck ++ words_checks deck)) numbered_layout,
        tried_then (label_checks deck) (line_checks deck ++ words_checks deck) numbered_labels,
        tried_then (line_checks deck) (words_checks deck) numbered_lines,
      )

  -- a check after those of the deck counts where the deck is accepted
  pub then_last : (last : Check) → first_broken (deck_checks deck ++ last ∷ []) ≡ or_else (deck_refusal deck) (first_broken (last ∷ []))
  unfolding deck_refusal
  then_last last = tried_then (deck_checks deck) (last ∷ []) numbered_deck
