-- `deck::check::check_labels` meets its promise: the labels before the one that the loop has come to have passed, so it decides.
-- Assumes nothing.
use Rattle.std.proofs.Common.{◌<◌, ◌≤◌, sym, ◌∙◌, add-one, le-ltb, lt-ltb}
use Rattle.deck.specs.Bytes.{label_count, label_line, line_count}
use Rattle.deck.specs.Deck.{checks_of_label}
use Rattle.deck.proofs.Parts.{next_one, decides, of_label}
use Rattle.deck.proofs.check.check_labels.Goals as goal

pub returns-then-lines-label_line : goal.returns-then-lines-label_line
returns-then-lines-label_line c =
    let l = c.loop-label in
    let deck = c.args.deck.bytes.now in
    let bad : line_count deck ≤ label_line deck l.label = (rw (sym c.line_count-lines.ensures, sym c.label_line.ensures) c.if-lines-label_line.true) in
    sym (decides (checks_of_label deck) (of_label deck) l.label (label_count deck) (rw (sym c.label_count-label-end.ensures) c.loop-label-test.true) l.invariant (rw (le-ltb _ _ bad)) ∙ rw (le-ltb _ _ bad))

pub loop-label-preserved : goal.loop-label-preserved
loop-label-preserved c =
    let l = c.loop-label in
    let deck = c.args.deck.bytes.now in
    let good : label_line deck l.label < line_count deck = (rw (sym c.line_count-lines.ensures, sym c.label_line.ensures) c.if-lines-label_line.false) in
    rw add-one (next_one (checks_of_label deck) (of_label deck) l.label l.invariant ∙ rw (lt-ltb _ _ good))
