-- One line and the clocks of the words that it executes: a machine that stood where the run of lines stood stands there again. A line executes its first word,
-- which the machine finds at the line's address, and operation 26 its second word too where its flag is 0. What the three clocks of a word do is the core's law
-- `ran`.
-- Assumes nothing.
use Rattle.std.proofs.Common.{◌≡◌, ℕ, ◌+◌, ◌*◌, ◌%◌, ◌<◌, ◌≤◌, Bool, true, false, cond, map, get_or, refl, ◌∙◌, add-zero, mod-eq_of_lt, arith}
use Rattle.chip_core.proofs.Effects.{steps_to, go_if_to, go_if_leaves, go_leaves, go_to, cell_to, immediate_to, pass_leaves, pass_to}
use Rattle.chip_core.proofs.ThreeClocks.{ran}
use Rattle.chip_core.specs.Instruction.{Ran, visible}
use Rattle.chip_core.specs.Machine.{State, memory_of, undrawn}
use Rattle.chip_core.specs.Rule.{act_of, next, effect, stepped}
use Rattle.chip_core.specs.Word.{program_address, in_range, word_of, flag}
use Rattle.chip_core.specs.declared.address.ProgramAddress.{ProgramAddress}
use Rattle.chip_core.specs.declared.control.Stage.TheVariants.{Fetch}
use Rattle.chip_core.specs.declared.word.Instruction.{Instruction}
use Rattle.deck.specs.Agreement.{after_clocks, Agree}
use Rattle.deck.specs.Image.{total_words, pc_at, address, image, line_words, instructions_of}
use Rattle.deck.specs.Lines.{line_state, executed, after_line, line_effect, line_next}
use Rattle.deck.specs.Operation.{Program, words}
use Rattle.deck.specs.Private.{Lands}
use Rattle.deck.specs.declared.operation.Operation.{Operation}
use Rattle.deck.proofs.Addresses.{address_ends, word_at, address_lt, address_next, words_pos}
use Rattle.deck.proofs.Instructions.{InRange}
use Rattle.deck.proofs.Runs.{lands_next}

-- a machine at a line that is there
module _ (p : Program) (small : total_words p ≤ 256) (line : ℕ) (h : line < p.count) (s : State) (at : s.machine.pc ≡ pc_at p line)
    (fetches : s.machine.stage ≡ Fetch) where
  -- the address of its word j
  abbrev word_address : ℕ → ProgramAddress
  word_address j = program_address ((address p line + j) % 256)

  fetched : (j : ℕ) → j < words (p.line line) → memory_of (image p) (word_address j) ≡ get_or (line_words p line) j undrawn
  fetched j k =
      let inside : address p line + j < 256 = omega (arith, address_ends p line p.count h) in
      rw (mod-eq_of_lt inside) (word_at p line p.count j undrawn h k)

  -- three clocks at word j, by a machine that has come to it
  word : (o : Operation) → p.line line ≡ o → (j : ℕ) → j < words o → (i : Instruction) → in_range i ≡ true
      → get_or (map word_of (instructions_of p (address p line) o)) j undrawn ≡ word_of i
      → (m : State) → m.machine.pc ≡ word_address j → m.machine.stage ≡ Fetch → Ran (act_of i) m (after_clocks p 3 m)
  word o e j k i r w m there fetches' =
      ran (memory_of (image p)) i m r fetches' (rw there (fetched j (rw e k) ∙ rw e w))

  first : s.machine.pc ≡ word_address 0
  first = rw add-zero at

  -- where PC goes: to a line, past a line of one word, past a line of two
  to_line : (t : ℕ) → t < p.count → program_address (address p t) ≡ pc_at p t
  to_line t k = rw (mod-eq_of_lt (address_lt p t k small))

  past_one : (o : Operation) → p.line line ≡ o → words o ≡ 1 → stepped s.machine.pc ≡ pc_at p (line + 1)
  past_one o e w = rw (at, steps_to (address p line), address_next p line, e, w)

  past_two : (o : Operation) → p.line line ≡ o → words o ≡ 2 → word_address 2 ≡ pc_at p (line + 1)
  past_two o e w = rw (address_next p line, e, w)

  -- or either, by a test
  chosen : (test : Bool) (o : Operation) → p.line line ≡ o → words o ≡ 1 → (t : ℕ) → t < p.count
      → cond test (program_address (address p t)) (stepped s.machine.pc) ≡ pc_at p (cond test t (line + 1))
  chosen true o e w t k = to_line t k
  chosen false o e w t k = past_one o e w

  -- the machine after a line, and the words that the line executes
  abbrev pub After : Operation → Type 0
  After o = Agree p (after_line o (line_state line (visible s))) (after_clocks p (3 * executed o s.machine.sr) s)

  module _ (o : Operation) (e : p.line line ≡ o) (lands : Lands p.count o) where
    -- a line that executes its first word alone
    single : (i : Instruction) → in_range i ≡ true → get_or (map word_of (instructions_of p (address p line) o)) 0 undrawn ≡ word_of i
        → effect (act_of i) (visible s) ≡ line_effect o (visible s) → next (act_of i) s.machine ≡ pc_at p (line_next o line s.machine.sr)
        → Agree p (after_line o (line_state line (visible s))) (after_clocks p 3 s)
    single i r w leaves to =
        let x = word o e 0 (words_pos o) i r w s first fetches in
        record {
          sees = x.sees ∙ leaves;
          pc = x.to ∙ to;
          inside = lands_next o p.count line s.machine.sr lands h;
          fetches = x.ends;
        }

  -- operation 26: its first word skips the second where the flag is 1, and else both are executed
  unless : (f t : ℕ) (test : Bool) → flag f s.machine.sr ≡ test → (e : p.line line ≡ Operation.JumpUnless f t) → (k : t < p.count)
      → InRange (instructions_of p (address p line) (Operation.JumpUnless f t)) → After (Operation.JumpUnless f t)
  unless f t true q e k r =
      rw q (rw q at (single (Operation.JumpUnless f t) e k (Instruction.JumpIf f (word_address 2)) r.0 refl (go_if_leaves f (word_address 2) (visible s))
      (go_if_to s.machine f (word_address 2) ∙ rw q (past_two (Operation.JumpUnless f t) e refl))))
  unless f t false q e k r =
      let o = Operation.JumpUnless f t in
      let x = word o e 0 (omega arith) (Instruction.JumpIf f (word_address 2)) r.0 refl s first fetches in
      let there : (after_clocks p 3 s).machine.pc ≡ word_address 1 = x.to ∙ go_if_to s.machine f (word_address 2) ∙ rw (q, at) (steps_to (address p line)) in
      let y = word o e 1 (omega arith) (Instruction.Goto (program_address (address p t))) r.1.0 refl (after_clocks p 3 s) there x.ends in
      rw q (record {
        sees = y.sees ∙ go_leaves _ _ ∙ x.sees ∙ go_if_leaves _ _ _;
        pc = y.to ∙ go_to _ _ ∙ to_line t k;
        inside = omega arith;
        fetches = y.ends;
      })

  pub after_line_lem : (o : Operation) → p.line line ≡ o → Lands p.count o → InRange (instructions_of p (address p line) o) → After o
  after_line_lem (Operation.M d mode cell) e l r =
      single (Operation.M d mode cell) e l (Instruction.M d mode cell) r.0 refl refl (cell_to s.machine d mode cell ∙ past_one _ e refl)
  after_line_lem (Operation.I mode immediate) e l r =
      single (Operation.I mode immediate) e l (Instruction.I mode immediate) r.0 refl refl (immediate_to s.machine mode immediate ∙ past_one _ e refl)
  after_line_lem (Operation.Goto t) e l r =
      single (Operation.Goto t) e l (Instruction.Goto (program_address (address p t))) r.0 refl (go_leaves _ _) (go_to s.machine _ ∙ to_line t l)
  after_line_lem (Operation.JumpIf f t) e l r =
      single (Operation.JumpIf f t) e l (Instruction.JumpIf f (program_address (address p t))) r.0 refl (go_if_leaves f _ _)
      (go_if_to s.machine f _ ∙ chosen (flag f s.machine.sr) _ e refl t l)
  after_line_lem (Operation.JumpUnless f t) e l r = unless f t (flag f s.machine.sr) refl e l r
  after_line_lem Operation.Nop e l r = single Operation.Nop e l (Instruction.S 0) r.0 refl (pass_leaves _) (pass_to s.machine ∙ past_one _ e refl)
