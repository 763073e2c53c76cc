-- `reading::read_full` meets its promise: a read puts what it gives behind the bytes that stand in the buffer, so both together are what was given so far;
-- and a read into some room that gives nothing is the end.
-- Assumes nothing.
use Rattle.std.proofs.Common.{◌≡◌, ℕ, ◌+◌, ◌-◌, ◌≤◌, List, ◌++◌, length, take, sym, ap, ◌∙◌, subst, rules, length-take-le}
use Rattle.std.proofs.KnownBytes.{Consumes-trans}
use Rattle.std.proofs.Math.Seq.{take-append-add}
use Rattle.std.proofs.lemmas.List.{take-append-le}
use Rattle.std.specs.Io.KnownBytes.{Consumes}
use borrow.Rule.Slice.PartMut.{put_mid, post_of}
use Rattle.reading.proofs.read_full.Goals as goal

-- so many bytes behind the first ones of the buffer, of what was put there
taken : (count room came : ℕ) (buffer given : List ℕ) → count ≤ length buffer → came ≤ length given
    → take count buffer ++ take came given ≡ take (count + came) (put_mid count room buffer given)
taken count room came buffer given inside fits =
    let rest = post_of count room buffer in
    sym (
    ap (λ n. take (n + came) (put_mid count room buffer given)) (sym (length-take-le count buffer inside))
    ∙ take-append-add (take count buffer) (given ++ rest) came
    ∙ ap (λ l. take count buffer ++ l) (take-append-le came given rest fits)
    )

pub loop-count-preserved : goal.loop-count-preserved
loop-count-preserved g c =
    let l = c.loop-count in
    let came = c.in_ok-came in
    let room = length l.buffer - l.count in
    (search rules, subst (Consumes _ _) (taken l.count room came.came l.buffer c.read.new.buf l.invariant.0 came.ensures.bound.0) (Consumes-trans _ _ _ _ _ l.invariant.1 came.ensures.bytes.0))
