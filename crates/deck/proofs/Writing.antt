-- Items written one after the other: what stands before the place and after the last item stays as it was.
-- Assumes nothing.
use Rattle.std.proofs.Common.{◌≡◌, ℕ, ◌+◌, ◌<◌, ◌≤◌, List, [], ◌∷◌, ◌++◌, length, take, drop, set, sym, ap, ◌∙◌, append_assoc, append-nil, le_trans, le-add_right, add-zero, add_assoc, zero-add, add-one, arith, length-append, length-drop, take-append-drop, length-take-le, drop-drop, take_at}
use lib.Seq.{take-append_seam, drop-append-add, append_snoc, set_split}
use Rattle.deck.specs.Translate.{starting_with}
use Rattle.deck.specs.Private.{overwritten}

-- nothing written
pub none : (place : ℕ) (output : List ℕ) → overwritten place [] output ≡ output
none place output = rw (add-zero, append-nil) (take-append-drop place output)

-- one item
pub one : (place item : ℕ) (output : List ℕ) → place < length output → set output place item ≡ overwritten place (item ∷ []) output
one place item output h = set_split output place item h ∙ rw (add-one, append_snoc)

head_length : (place : ℕ) (items output : List ℕ) → place ≤ length output → length (take place output ++ items) ≡ place + length items
head_length place items output h = length-append (take place output) items ∙ rw (length-take-le place output h)

-- what is written into an output leaves its length
pub same_length : (place : ℕ) (items output : List ℕ) → place + length items ≤ length output → length (overwritten place items output) ≡ length output
same_length place items output h =
    let inside : place ≤ length output = omega arith in
    length-append (take place output ++ items) (drop (place + length items) output)
    ∙ rw (head_length place items output inside, length-drop) (omega arith)

past : (front rest : List ℕ) (n m : ℕ) → length front ≡ n → drop (n + m) (front ++ rest) ≡ drop m rest
past front rest n m e = rw (sym e) (drop-append-add front rest m)

-- items after items
pub more : (place : ℕ) (items others output : List ℕ) → place + length items ≤ length output
    → overwritten (place + length items) others (overwritten place items output) ≡ overwritten place (items ++ others) output
more place items others output h =
    let front = take place output ++ items in
    let e = head_length place items output (le_trans (le-add_right place (length items)) h) in
    rw (
      take_at front (drop (place + length items) output) (place + length items) e,
      past front (drop (place + length items) output) (place + length items) (length others) e,
      drop-drop,
      length-append,
      append_assoc (take place output) items others,
      add_assoc,
    )

-- from the start
pub from_start : (items output : List ℕ) → overwritten 0 items output ≡ starting_with items output
from_start items output = rw zero-add

pub start_length : (items output : List ℕ) → length items ≤ length output → length (starting_with items output) ≡ length output
start_length items output h = ap length (sym (from_start items output)) ∙ same_length 0 items output (rw zero-add h)

pub more_at_start : (items others output : List ℕ) → length items ≤ length output
    → overwritten (length items) others (starting_with items output) ≡ starting_with (items ++ others) output
more_at_start items others output h = rw (take-append_seam, drop-append-add, drop-drop, length-append)

pub taken : (items output : List ℕ) → take (length items) (starting_with items output) ≡ items
taken items output = take-append_seam items (drop (length items) output)
