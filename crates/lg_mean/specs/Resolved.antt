-- Nodes with their operands looked up, and what they do.
use Rattle.std.specs.Prelude.{◌≡◌, ◌<◌, ℕ, ◌+◌, ◌-◌, ◌==◌, if◌then◌else◌, Option, Some, None, List}
use Rattle.lg_base.specs.Words.{add_words}
use Rattle.lg_op.specs.declared.node.Node.{Node}
use Rattle.lg_op.specs.declared.operand.Operand.{Operand}
use Rattle.lg_op.specs.Operators.{binary_value, carry_in, value_with_carry, carry_made, holds, unary_value, keeps_carry, width, extended_by_type}
use Rattle.lg_meaning.specs.States.{State, value, named}
use Rattle.lg_meaning.specs.Steps.{Outcome, Goes, Undefined, Text, need, quiet, to, on, on_with_carry, with_word, bit_word, read, store_to, operand_at, node_step}
use Rattle.lg_mean.specs.declared.resolved.Act.{Act}
use Rattle.lg_mean.specs.declared.resolved.Act.TheVariants as act
use Rattle.lg_mean.specs.declared.resolved.ResolvedNode.{ResolvedNode}

-- the word in a register, by its number; 6 is the frame pointer
abbrev pub register_at : State → ℕ → Option ℕ
register_at s place = if place == 6 then Some (s.frame.sp - 16) else s.regs place

-- the word at a place: 7 is the constant
abbrev pub source_at : State → ℕ → ℕ → Option ℕ
source_at s place number = if place == 7 then Some number else register_at s place

-- a register written, by its number
abbrev pub set_at : State → ℕ → ℕ → State
set_at s place word = record s { regs = with_word s.regs place word }

-- ---- what each act does
abbrev pub resolved_binary : ResolvedNode → (ℕ → ℕ → Option ℕ) → State → Outcome
resolved_binary q f s = need (register_at s q.second) (λ a. need (source_at s q.third q.number) (λ b. need (f a b) (λ v. quiet (on (set_at s q.first v)))))

abbrev pub resolved_load : ResolvedNode → State → ℕ → (ℕ → ℕ) → ℕ → Outcome
resolved_load q s bytes extended a = need (read s a bytes) (λ v. quiet (on_with_carry (set_at s q.first (extended v))))

abbrev pub acts : ResolvedNode → Act → State → Outcome
acts q (act.Binary o) s = resolved_binary q (binary_value o) s
acts q (act.WithCarry o) s =
    need (register_at s q.second) (λ a. need (source_at s q.third q.number) (λ b. need (carry_in o s.carry) (λ bit.
    quiet (record (set_at s q.first (value_with_carry o a b (bit_word bit))) { at = s.at + 1; answer = None; carry = carry_made o a b (bit_word bit) }))))
acts q (act.Unary o) s =
    need (register_at s q.second) (λ a. quiet (if keeps_carry o then on_with_carry (set_at s q.first (unary_value o a)) else on (set_at s q.first (unary_value o a))))
acts q act.Move s = quiet (on_with_carry (set_at s q.first q.number))
acts q (act.Branch c) s =
    need (register_at s q.second) (λ a. need (source_at s q.third q.number) (λ b. quiet (to s (if holds c a b then q.target else s.at + 1))))
acts q act.Jump s = quiet (to s q.target)
acts q (act.Load t) s = need (source_at s q.third q.number) (λ a. resolved_load q s (width t) (extended_by_type t) a)
acts q (act.LoadSum t) s =
    need (register_at s q.second) (λ a. need (source_at s q.third q.number) (λ b. resolved_load q s (width t) (extended_by_type t) (add_words a b)))
acts q (act.Store t) s = need (source_at s q.third q.number) (λ a. need (register_at s q.first) (λ v. store_to s t a v))
acts q (act.StoreSum t) s =
    need (source_at s q.third q.number) (λ a. need (register_at s q.second) (λ b. need (register_at s q.first) (λ v. store_to s t (add_words a b) v)))
acts q act.Other s = Undefined

-- the step of a resolved node; where its act is another one it is undefined
abbrev pub resolved_step : ResolvedNode → State → Outcome
resolved_step q s = acts q q.act s

-- the places that a resolved node names
pub record IsPlaced (q : ResolvedNode) : Type 0 where
  pub first_is : q.first < 7
  pub second_is : q.second < 7
  pub third_is : q.third < 8

-- ---- what operands denote
pub record IsRegister (x : Operand) (place : ℕ) : Type 0 where
  pub bound : place < 7
  pub name : named x ≡ place
  pub word : (A : List ℕ) (s : State) → value A s x ≡ register_at s place

pub record IsSource (A : List ℕ) (x : Operand) (place number : ℕ) : Type 0 where
  pub bound : place < 8
  pub word : (s : State) → value A s x ≡ source_at s place number

-- the second and the third operand of a node, looked up
pub record IsPairOf (A : List ℕ) (n : Node) (q : ResolvedNode) : Type 0 where
  pub low : q.first < 7
  pub second : IsRegister (operand_at n 1) q.second
  pub third : IsSource A (operand_at n 2) q.third q.number

-- if the step of a resolved node goes, that of its node goes in the same way
pub record IsResolved (t : Text) (n : Node) (q : ResolvedNode) : Type 0 where
  pub placed : IsPlaced q
  pub goes : (s u : State) (bytes : List ℕ) → resolved_step q s ≡ Goes u bytes → node_step t n n.op s ≡ Goes u bytes
