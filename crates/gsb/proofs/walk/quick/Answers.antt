-- Each return is a law of Registers: a header that is a register's own, or an empty NOP.
use native.Mathlib.Omega.{arith}
use borrow.Author.Rules.{rules}
use Rattle.gsb.proofs.Registers.{quick_empty, quick_register, quick_word, quick_long}
use Rattle.gsb.proofs.walk.quick.Goals as goal

pub returns-then-is_register : goal.returns-then-is_register
returns-then-is_register c =
    quick_register 8 _ _ _ _ _ (search rules) (search rules) (search rules) (search rules) _ c.is_register.ensures c.if-is_register.true _ (omega arith) (search rules) c.if-key-eq528442.false
    _ (search rules) _ c.is_offered.ensures c.if-not-is_offered.false

pub returns-then-key-eq0 : goal.returns-then-key-eq0
returns-then-key-eq0 c = search (rules, quick_empty)

pub returns-then-is_register-at : goal.returns-then-is_register-at
returns-then-is_register-at c = quick_long 16 _ _ _ _ _ (search rules) (search rules) (search rules) (search rules) _ _ c.is_register-2.ensures c.if-is_register-at.true (omega arith) (omega arith)

pub returns-then-is_register-is_offered : goal.returns-then-is_register-is_offered
returns-then-is_register-is_offered c =
    quick_word 4 _ _ _ _ _ (search rules) (search rules) (search rules) (search rules) _ _ _ _ c.is_register-3.ensures c.is_offered-2.ensures c.if-is_register-is_offered.true (search rules) (omega arith) (search rules) (λ e. omega arith)
