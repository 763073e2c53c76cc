-- `deck::check::check_lines` meets its promise: the lines before the one that the loop has come to have passed, so it decides.
-- Assumes nothing.
use Rattle.std.proofs.Common.{◌≡◌, false, eqb, sym, ap, ◌∙◌, add-one, rules}
use Rattle.chip_core.proofs.Answered.{no_zero}
use Rattle.chip_core.specs.Refusal.{accepted, NumberAndValues}
use Rattle.deck.specs.Bytes.{line_count}
use Rattle.deck.specs.Deck.{checks_of_line}
use Rattle.deck.specs.Records.{line_refusal}
use Rattle.deck.specs.declared.operation.Operation.{Operation}
use Rattle.deck.proofs.Parts.{next_one, decides, of_line}
use Rattle.deck.proofs.check.check_lines.Goals as goal

pub returns-in_err-read_line : goal.returns-in_err-read_line
unfolding line_refusal
returns-in_err-read_line c =
    let l = c.loop-line in
    let deck = c.args.deck.bytes.now in
    let refused = c.in_err-read_line.field-0.0 in
    let is = ap (λ (a : NumberAndValues Operation). a.number) c.in_err-read_line.ensures in
    let bad : eqb (line_refusal deck l.line) accepted ≡ false = rw (sym is) (no_zero refused) in
    rw (decides (checks_of_line deck) (of_line deck) l.line (line_count deck) (rw (sym c.line_count-line-end.ensures) c.loop-line-test.true) l.invariant bad, sym is) (search rules)

pub loop-line-preserved : goal.loop-line-preserved
unfolding line_refusal
loop-line-preserved c =
    let l = c.loop-line in
    let deck = c.args.deck.bytes.now in
    let good = ap (λ (a : NumberAndValues Operation). a.number) (sym c.in_ok-read_line.ensures) in
    rw add-one (next_one (checks_of_line deck) (of_line deck) l.line l.invariant ∙ good)
