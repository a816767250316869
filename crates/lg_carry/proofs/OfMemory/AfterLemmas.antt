-- Code after code that only computes.
use Rattle.std.proofs.Common.{◌≡◌, ℕ, ◌+◌, ◌-◌, ◌*◌, ◌≤◌, Bool, true, false, List, [], ◌∷◌, ◌++◌, Option, refl, ap, ◌∙◌, arith, length-append}
use Rattle.std.specs.Prelude.{◌&&◌, is_some}
use Rattle.std.proofs.lemmas.Bool.{and_parts}
use Rattle.lg_base.specs.Runs.{Status}
use Rattle.lg_base.specs.declared.flags.Flags.{Flags}
use Rattle.lg_carry.specs.Blocks.{done, GoesThrough, IsAbove}
use Rattle.lg_carry.specs.Processors.{Seen}
use Rattle.lg_carry.specs.Rows.{Rows}
use Rattle.lg_carry.specs.Spills.{Does, in_slots, in_first_slots}
use Rattle.lg_carry.proofs.OfNodes.StretchLemmas.{spelled-size}
use Rattle.lg_carry.proofs.StackLemmas.{within-where}
use Rattle.lg_carry.specs.Nodes.Straight.{from_to}
use Rattle.lg_carry.specs.Values.Computers.{Computer, IsComputer, all_compute, computed}
use Rattle.lg_carry.proofs.OfValues.ComputationLemmas.{computations-do}

done-append : {Q I : Type 0} (does : I → Q → Q) (xs ys : List I) (q : Q) → done does (xs ++ ys) q ≡ done does ys (done does xs q)
done-append does [] ys q = refl
done-append does (i ∷ xs) ys q = done-append does xs ys (does i q)

goes-append : {Q I : Type 0} (does : I → Q → Q) (status : Q → Status) (above : I → Q → Type 0) (xs ys : List I) (q : Q) → GoesThrough does status above xs q → GoesThrough does status above ys (done does xs q)
    → GoesThrough does status above (xs ++ ys) q
goes-append does status above [] ys q a b = b
goes-append does status above (i ∷ xs) ys q a b = (a.0, a.1, goes-append does status above xs ys (does i q) a.2 b)

-- the slots of no register are none
pub no-slots : {A : Type 0} (fp a : ℕ) → in_first_slots fp 0 a ≡ true → A
no-slots fp a on = absurd (let z = within-where _ 0 a on in omega (arith, z.0, z.1))

-- the first slots are among all of them
pub more-slots : (fp n a : ℕ) → n ≤ 5 → in_first_slots fp n a ≡ true → in_first_slots fp 5 a ≡ true
more-slots fp n a most on = let z = within-where (fp - (88 + 8 * n)) (8 * n) a on in grind (arith, z.0, z.1, most)

-- what code does, with the words that it leaves described otherwise: registers that it may spoil do not count, nor do bytes of the slots
pub told : {Q I : Type 0} (R : Rows Q I) (s : Seen) (V W : ℕ → ℕ) (B M : ℕ → Option ℕ) (E F : Flags) (is : List I) (fp n : ℕ) (T : ℕ → Bool) → ((r : ℕ) → T r ≡ false → V r ≡ W r) → ((a : ℕ) → in_slots fp a ≡ false → B a ≡ M a) → E ≡ F
    → Does R (from_to s V B E) is fp n T → Does R (from_to s W M F) is fp n T
told R s V W B M E F is fp n T registers bytes flags does q looks room =
    let l = does q looks room in
    record {
      through = l.through;
      runs = l.runs;
      behind = l.behind;
      registers = λ r free. l.registers r free ∙ registers r free;
      bytes = λ a off. l.bytes a off ∙ bytes a off;
      slots = l.slots;
      has_mark = l.has_mark;
      has_flags = l.has_flags ∙ flags;
    }

-- code after code that spoils no register and no slot; the first slots stay that the latter keeps
pub in-a-row : {Q I : Type 0} (R : Rows Q I) (s : Seen) (V W : ℕ → ℕ) (B M : ℕ → Option ℕ) (E F : Flags) (xs ys : List I) (fp n : ℕ) (T : ℕ → Bool) → n ≤ 5 → Does R (from_to s V B E) xs fp 5 (λ r. false)
    → Does R (from_to (record s { registers = V; bytes = B; flags = E }) W M F) ys fp n T → Does R (from_to s W M F) (xs ++ ys) fp n T
in-a-row R s V W B M E F xs ys fp n T most first second q looks room =
    let long = spelled-size R.spelling xs ys in
    let both = length-append xs ys in
    let a = first q looks record { low = room.low; high = λ z. let h = room.high (omega (arith, z, both)) in omega (arith, h, long) } in
    let mid = done R.does xs q in
    let b = second mid record {
      runs = a.runs;
      has_registers = λ r. a.registers r refl;
      has_bytes = a.bytes;
      has_slots = λ x on. ap is_some (a.slots x on) ∙ looks.has_slots x on;
      has_mark = a.has_mark;
      has_flags = a.has_flags;
    } record { low = omega (arith, room.low, a.behind); high = λ z. let h = room.high (omega (arith, z, both)) in omega (arith, h, long, a.behind) } in
    let all : done R.does (xs ++ ys) q ≡ done R.does ys mid = done-append R.does xs ys q in
    record {
      through = goes-append R.does R.processor.machine.status (IsAbove R) xs ys q a.through b.through;
      runs = ap R.processor.machine.status all ∙ b.runs;
      behind = ap (λ r. (R.processor.seen r).pc) all ∙ omega (arith, b.behind, a.behind, long);
      registers = λ r free. ap (λ x. (R.processor.seen x).registers r) all ∙ b.registers r free;
      bytes = λ x off. ap (λ r. (R.processor.seen r).bytes x) all ∙ b.bytes x off;
      slots = λ x on. ap (λ r. (R.processor.seen r).bytes x) all ∙ b.slots x on ∙ a.slots x (more-slots fp n x most on);
      has_mark = ap (λ r. (R.processor.seen r).mark) all ∙ b.has_mark;
      has_flags = ap (λ r. (R.processor.seen r).flags) all ∙ b.has_flags;
    }

pub all-compute-append : {I : Type 0} (computes : I → Bool) (xs ys : List I) → all_compute computes xs ≡ true → all_compute computes ys ≡ true → all_compute computes (xs ++ ys) ≡ true
all-compute-append computes [] ys h k = k
all-compute-append computes (x ∷ xs) ys h k =
    let b = and_parts (computes x) (all_compute computes xs) h in
    ap (λ z. z && all_compute computes (xs ++ ys)) b.0 ∙ all-compute-append computes xs ys b.1 k

-- what is seen after code that only computes
abbrev pub seen_after : {Q I : Type 0} → Computer Q I → List I → Seen → Seen
seen_after M xs s =
    record s {
      registers = (computed M.computed_by xs record { registers = s.registers; flags = s.flags }).registers;
      flags = (computed M.computed_by xs record { registers = s.registers; flags = s.flags }).flags;
    }

-- code after such code
pub after-computed : {Q I : Type 0} (M : Computer Q I) → IsComputer M → (xs ys : List I) (s : Seen) (W : ℕ → ℕ) (B : ℕ → Option ℕ) (F : Flags) (fp n : ℕ) (T : ℕ → Bool) → n ≤ 5 → all_compute M.computes xs ≡ true
    → Does M.rows (from_to (seen_after M xs s) W B F) ys fp n T → Does M.rows (from_to s W B F) (xs ++ ys) fp n T
after-computed M ok xs ys s W B F fp n T most h does =
    in-a-row M.rows s (seen_after M xs s).registers W s.bytes B (seen_after M xs s).flags F xs ys fp n T most (computations-do M ok xs s fp 5 (λ r. false) h) does
