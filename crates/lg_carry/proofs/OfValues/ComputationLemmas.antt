-- Code that only computes: what a list of its instructions does, and that a node of it is one whose code goes straight on.
use Rattle.std.proofs.Common.{◌≡◌, ℕ, ◌+◌, ◌<◌, ◌≤◌, ◌⊎◌, inl, inr, Bool, true, List, [], ◌∷◌, ◌++◌, refl, ap, ◌∙◌, arith, length, length-append}
use Rattle.std.proofs.lemmas.Bool.{and_parts}
use Rattle.lg_base.specs.Layout.{code_base, most_code, frame_pointer}
use Rattle.lg_base.specs.Runs.{Running}
use Rattle.lg_op.specs.declared.node.Node.{Node}
use Rattle.lg_meaning.specs.States.{State}
use Rattle.lg_meaning.specs.Steps.{Undefined}
use Rattle.lg_meaning.specs.Texts.{step}
use Rattle.lg_temp.specs.declared.choice.Choice.{Choice}
use Rattle.lg_carry.specs.Blocks.{spellings, done, GoesThrough, IsAbove}
use Rattle.lg_carry.specs.FinalNodes.{Code}
use Rattle.lg_carry.specs.Processors.{Seen}
use Rattle.lg_carry.specs.Spills.{Does, spilled}
use Rattle.lg_carry.specs.Nodes.Straight.{spoils, from_to, HoldsRead, StepsTo, ComputesNode}
use Rattle.lg_carry.specs.Values.Computers.{Held, Computer, held, Computes, IsComputer, all_compute, computed, HeldRead, HeldTo, ComputingNode, ComputingNodesCompute}

pub pointwise : (f g : ℕ → ℕ) → ((r : ℕ) → f r ≡ g r) → f ≡ g
pointwise f g h = λ i. λ r. h r i

pub computed-append : {I : Type 0} (by : I → Held → Held) (xs ys : List I) (w : Held) → computed by (xs ++ ys) w ≡ computed by ys (computed by xs w)
computed-append by [] ys w = refl
computed-append by (x ∷ xs) ys w = computed-append by xs ys (by x w)

spelled-cons : {I : Type 0} (spelling : I → List ℕ) (i : I) (is : List I) → length (spellings spelling (i ∷ is)) ≡ length (spelling i) + length (spellings spelling is)
spelled-cons spelling i is = length-append (spelling i) (spellings spelling is)

-- a list of them goes through from a state, and leaves what it computes; memory stays, and the program counter is after them
pub record RunsThrough {Q I : Type 0} (M : Computer Q I) (is : List I) (q : Q) : Type 0 where
  pub through : GoesThrough M.rows.does M.rows.processor.machine.status (IsAbove M.rows) is q
  pub runs : M.rows.processor.machine.status (done M.rows.does is q) ≡ Running
  pub behind : (M.rows.processor.seen (done M.rows.does is q)).pc ≡ (M.rows.processor.seen q).pc + length (spellings M.rows.spelling is)
  pub holds : held M (done M.rows.does is q) ≡ computed M.computed_by is (held M q)
  pub bytes : (a : ℕ) → (M.rows.processor.seen (done M.rows.does is q)).bytes a ≡ (M.rows.processor.seen q).bytes a
  pub mark : (M.rows.processor.seen (done M.rows.does is q)).mark ≡ (M.rows.processor.seen q).mark

module _ {Q I : Type 0} (M : Computer Q I) (ok : IsComputer M) where
  pub computations-run : (is : List I) (q : Q) → all_compute M.computes is ≡ true → M.rows.processor.machine.status q ≡ Running → code_base ≤ (M.rows.processor.seen q).pc
      → (0 < length is → (M.rows.processor.seen q).pc + length (spellings M.rows.spelling is) ≤ code_base + most_code) → RunsThrough M is q
  computations-run [] q h runs low high = record { through = tt; runs = runs; behind = omega arith; holds = refl; bytes = λ a. refl; mark = refl }
  computations-run (i ∷ is) q h runs low high =
      let b = and_parts (M.computes i) (all_compute M.computes is) h in
      let long = spelled-cons M.rows.spelling i is in
      let most = high (omega arith) in
      let one : Computes M i q (M.rows.does i q) = ok i q b.0 runs low (omega (arith, most, long)) in
      let m = computations-run is (M.rows.does i q) b.1 one.runs (omega (arith, low, one.behind)) (λ z. omega (arith, most, long, one.behind)) in
      record {
        through = (runs, one.above, m.through);
        runs = m.runs;
        behind = omega (arith, m.behind, one.behind, long);
        holds = m.holds ∙ ap (computed M.computed_by is) one.holds;
        bytes = λ a. m.bytes a ∙ one.bytes a;
        mark = m.mark ∙ one.mark;
      }

  -- so it does what it computes, and spoils no slot
  pub computations-do : (is : List I) (q : Seen) (fp n : ℕ) (T : ℕ → Bool) → all_compute M.computes is ≡ true
      → Does M.rows (from_to q (computed M.computed_by is record { registers = q.registers; flags = q.flags }).registers q.bytes (computed M.computed_by is record { registers = q.registers; flags = q.flags }).flags) is fp n T
  computations-do is s fp n T h q looks room =
      let m = computations-run is q h looks.runs room.low room.high in
      let same : held M q ≡ record { registers = s.registers; flags = s.flags } = λ i. record { registers = λ r. looks.has_registers r i; flags = looks.has_flags i } in
      let end : held M (done M.rows.does is q) ≡ computed M.computed_by is record { registers = s.registers; flags = s.flags } = m.holds ∙ ap (computed M.computed_by is) same in
      record {
        through = m.through;
        runs = m.runs;
        behind = m.behind;
        registers = λ r free. ap (λ w. w.registers r) end;
        bytes = λ a off. m.bytes a ∙ looks.has_bytes a off;
        slots = λ a on. m.bytes a;
        has_mark = m.mark ∙ looks.has_mark;
        has_flags = ap (λ w. w.flags) end;
      }

  -- a node whose code only computes goes straight on
  pub computing-computes : ComputingNodesCompute M
  computing-computes scratch c i n frame choices body k = record { steps = λ s q at h. by s (M.rows.processor.seen q) (k.steps s record { registers = (M.rows.processor.seen q).registers; flags = (M.rows.processor.seen q).flags } at (read s (M.rows.processor.seen q) h)) }
    where
      read : (s : State) (v : Seen) → HoldsRead M.rows.processor.target n frame s v → HeldRead M.rows.processor.target n s record { registers = v.registers; flags = v.flags }
      read s v h = record { registers = h.registers; words = h.in_frame.seen.words; carry = h.carry; result = h.result }

      by : (s : State) (v : Seen) → (step c.nodes c.shape c.addresses s ≡ Undefined) ⊎ HeldTo M.rows.processor.target c n s (computed M.computed_by body record { registers = v.registers; flags = v.flags }) → (step c.nodes c.shape c.addresses s ≡ Undefined) ⊎ StepsTo M.rows scratch c n choices body s v
      by s v (inl e) = inl e
      by s v (inr t) = inr record {
        to = t.to;
        goes = t.goes;
        on = t.on;
        end = (computed M.computed_by body record { registers = v.registers; flags = v.flags }).registers;
        flags = (computed M.computed_by body record { registers = v.registers; flags = v.flags }).flags;
        does = computations-do body v (frame_pointer s.frame.sp) (spilled choices) (spoils scratch choices) k.computes;
        keeps = k.keeps record { registers = v.registers; flags = v.flags };
        holds = t.holds;
      }
