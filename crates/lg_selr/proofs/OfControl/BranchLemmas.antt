-- Branches on conditions lead where they are to.
use Rattle.std.proofs.Common.{◌≡◌, ◌≢◌, ℕ, ◌^◌, ◌<◌, ◌≤◌, true, List, refl, sym, ap, ◌∙◌, arith, length, length-append}
use Rattle.std.specs.Prelude.{◌==◌, not, bit_and, if◌then◌else◌}
use Rattle.lg_base.specs.Layout.{most_code}
use Rattle.lg_base.specs.declared.target.Target.TheVariants.{Riscv64}
use Rattle.lg_op.specs.declared.op.Condition.{Condition}
use Rattle.lg_op.specs.declared.op.Condition.TheVariants as condition
use Rattle.lg_op.specs.Operators.{holds}
use Rattle.lg_rv.specs.Spelling.{IsInstr}
use Rattle.lg_rv.specs.declared.instruction.BranchOp.TheVariants.{Beq, Bne, Blt, Bge, Bltu, Bgeu}
use Rattle.lg_cpu.specs.Laws.{AreBytes}
use Rattle.lg_cpu.specs.RvOperators.{is_taken}
use Rattle.lg_cpu.specs.RvStep.{read}
use Rattle.lg_temp.specs.Abis.{register_of}
use Rattle.lg_selr_values.specs.Processor.Computations.{all_compute, computed}
use Rattle.lg_selr_values.specs.Processor.RvRows.{rv_rows}
use Rattle.lg_selr_values.proofs.OfProcessor.ComputationLemmas.{computed-append, all-compute-append}
use Rattle.lg_selr_values.proofs.OfProcessor.RegisterLemmas.{register-apart}
use Rattle.lg_carry.specs.Nodes.Leaps.{BranchesLead}
use Rattle.lg_selr.specs.Control.Branches.{failing, left_of, right_of, bits_code}
use Rattle.lg_sel.specs.declared.reach.Reach.{Reach}
use Rattle.lg_selr.specs.Control.ControlItems.{second_register}
use Rattle.lg_selr_values.specs.Processor.RvComputers.{rv_scratch}
use Rattle.lg_selr.specs.Control.TwoWays.{second_code, before_branch, branch_code}
use Rattle.lg_selr_values.proofs.OfProcessor.RegisterLemmas.{read-of}
use Rattle.lg_selr.proofs.OfControl.TwoWayLemmas.{IsMade, second-made, two-ways}
use Rattle.lg_selr.proofs.OfControl.WordLemmas.{twice, put-other}

-- the conjunction of the bits is made where the condition asks for it
record Compares (o : Condition) (a b x y : ℕ) (w : ℕ → ℕ) : Type 0 where
  computes : all_compute (bits_code o a b) ≡ true
  taken : is_taken (failing o) (read (computed (bits_code o a b) w) (left_of o a b)) (read (computed (bits_code o a b) w) (right_of o a b)) ≡ not (holds o x y)
  others : (z : ℕ) → z ≢ 1 → computed (bits_code o a b) w z ≡ w z
  few : length (bits_code o a b) ≤ 1

compares : (o : Condition) (a b x y : ℕ) (w : ℕ → ℕ) → read w a ≡ x → read w b ≡ y → Compares o a b x y w
compares condition.Lt a b x y w ea eb = record { computes = refl; taken = λ j. is_taken Bge (ea j) (eb j); others = λ z ne. refl; few = omega arith }
compares condition.LtU a b x y w ea eb = record { computes = refl; taken = λ j. is_taken Bgeu (ea j) (eb j); others = λ z ne. refl; few = omega arith }
compares condition.Le a b x y w ea eb = record {
  computes = refl;
  taken = (λ j. is_taken Blt (eb j) (ea j)) ∙ sym (twice (is_taken Blt y x));
  others = λ z ne. refl;
  few = omega arith;
}
compares condition.LeU a b x y w ea eb = record {
  computes = refl;
  taken = (λ j. is_taken Bltu (eb j) (ea j)) ∙ sym (twice (is_taken Bltu y x));
  others = λ z ne. refl;
  few = omega arith;
}
compares condition.Ge a b x y w ea eb = record {
  computes = refl;
  taken = (λ j. is_taken Blt (ea j) (eb j)) ∙ sym (twice (is_taken Blt x y));
  others = λ z ne. refl;
  few = omega arith;
}
compares condition.GeU a b x y w ea eb = record {
  computes = refl;
  taken = (λ j. is_taken Bltu (ea j) (eb j)) ∙ sym (twice (is_taken Bltu x y));
  others = λ z ne. refl;
  few = omega arith;
}
compares condition.Gt a b x y w ea eb = record { computes = refl; taken = λ j. is_taken Bge (eb j) (ea j); others = λ z ne. refl; few = omega arith }
compares condition.GtU a b x y w ea eb = record { computes = refl; taken = λ j. is_taken Bgeu (eb j) (ea j); others = λ z ne. refl; few = omega arith }
compares condition.Eq a b x y w ea eb = record { computes = refl; taken = λ j. is_taken Bne (ea j) (eb j); others = λ z ne. refl; few = omega arith }
compares condition.Ne a b x y w ea eb = record {
  computes = refl;
  taken = (λ j. is_taken Beq (ea j) (eb j)) ∙ sym (twice (is_taken Beq x y));
  others = λ z ne. refl;
  few = omega arith;
}
compares condition.Ms a b x y w ea eb =
    let bits : bit_and (read w a) (read w b) ≡ bit_and x y = λ j. bit_and (ea j) (eb j) in
    record {
      computes = refl;
      taken = ap (λ z. is_taken Beq z 0) bits ∙ sym (twice (is_taken Beq (bit_and x y) 0));
      others = λ z ne. put-other w 1 _ z ne;
      few = omega arith;
    }
compares condition.Mc a b x y w ea eb =
    let bits : bit_and (read w a) (read w b) ≡ bit_and x y = λ j. bit_and (ea j) (eb j) in
    record { computes = refl; taken = ap (λ z. is_taken Bne z 0) bits; others = λ z ne. put-other w 1 _ z ne; few = omega arith }

pub read-other : (w u : ℕ → ℕ) (r : ℕ) → u r ≡ w r → read u r ≡ read w r
read-other w u r e = ap (λ z. if r == 0 then 0 else z) e

pub branches-lead : (r : Reach) (code : List ℕ) (trash : ℕ) → length code ≤ most_code → AreBytes code → trash < 2 ^ 64
    → BranchesLead (rv_rows code trash) rv_scratch IsInstr (branch_code r)
branches-lead reach code trash small bytes word frame o a b x y from to q f k there next runs at ea eb near =
    let w : ℕ → ℕ = q.state.registers in
    let ra : ℕ = register_of Riscv64 a in
    let made : IsMade b y w = second-made b y w eb near in
    let w1 : ℕ → ℕ = computed (second_code b) w in
    let reads : read w1 ra ≡ x = read-other w w1 ra (made.others ra (register-apart a).0) ∙ read-of w a ∙ ea in
    let c : Compares o ra (second_register b) x y w1 = compares o ra (second_register b) x y w1 reads made.value in
    let bits = bits_code o ra (second_register b) in
    let all = computed-append (second_code b) bits w in
    let few : length (before_branch o a b) ≤ 60 = let l = length-append (second_code b) bits in let m = made.few in let n = c.few in omega (arith, l, m, n) in
    two-ways reach code trash small bytes word (before_branch o a b) (failing o) (left_of o ra (second_register b)) (right_of o ra (second_register b)) from to q k
    (all-compute-append (second_code b) bits made.computes c.computes) few runs at (holds o x y) there next
    (ap (λ (u : ℕ → ℕ). is_taken (failing o) (read u (left_of o ra (second_register b))) (read u (right_of o ra (second_register b)))) all ∙ c.taken)
    w (λ z z1 z31. ap (λ u. u z) all ∙ c.others z z1 ∙ made.others z z1)
