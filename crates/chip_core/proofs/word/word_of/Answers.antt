-- `chip_core::word::word_of` meets its promise: it joins the fields that the definition adds up, each within its width (`fields_fit_as`).
-- Assumes nothing.
use Rattle.std.proofs.Common.{arith}
use Rattle.chip_core.proofs.Range.{fields_fit_as}
use Rattle.chip_core.proofs.word.word_of.Goals as goal

pub join-requires-in-M : goal.join-requires-in-M
join-requires-in-M c = let h = fields_fit_as _ _ c.in-M.is c.requires in omega arith

pub join-requires-in-M-2 : goal.join-requires-in-M-2
join-requires-in-M-2 c = let h = fields_fit_as _ _ c.in-M.is c.requires in omega arith

pub join-requires-in-M-3 : goal.join-requires-in-M-3
join-requires-in-M-3 c = let h = fields_fit_as _ _ c.in-M.is c.requires in omega arith

pub join-requires-in-JumpIf : goal.join-requires-in-JumpIf
join-requires-in-JumpIf c = let h = fields_fit_as _ _ c.in-JumpIf.is c.requires in omega arith

pub join-requires-in-JumpIf-2 : goal.join-requires-in-JumpIf-2
join-requires-in-JumpIf-2 c = let h = fields_fit_as _ _ c.in-JumpIf.is c.requires in omega arith

pub join-requires-in-I : goal.join-requires-in-I
join-requires-in-I c = let h = fields_fit_as _ _ c.in-I.is c.requires in omega arith

pub join-requires-in-I-2 : goal.join-requires-in-I-2
join-requires-in-I-2 c = let h = fields_fit_as _ _ c.in-I.is c.requires in omega arith
