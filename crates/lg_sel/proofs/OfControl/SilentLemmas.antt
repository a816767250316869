-- Nodes without code are carried.
use Rattle.std.proofs.Common.{◌≡◌, ℕ, ◌+◌, ◌⊎◌, inl, inr, Bool, true, false, List, [], ◌∷◌, Option, Some, None, refl, sym, ap, ◌∙◌, arith, length}
use Rattle.std.specs.Prelude.{slice_get}
use Rattle.lg_carry.proofs.TurnLemmas.{still}
use Rattle.lg_op.specs.declared.op.Op.{Op}
use Rattle.lg_op.specs.declared.op.Op.TheVariants as op
use Rattle.lg_op.specs.declared.op.PlainOp.TheVariants as plain
use Rattle.lg_op.specs.declared.node.Node.{Node}
use Rattle.lg_node.specs.Functions.{is_prolog, is_epilog}
use Rattle.lg_node.specs.Checks.{is_begun, may_stand_outside, breaks_preparation}
use Rattle.lg_node.specs.Preparations.{prepared_before, pushed_of}
use Rattle.lg_meaning.specs.States.{Frame, State, value}
use Rattle.lg_meaning.specs.Steps.{Outcome, Goes, Undefined, need, quiet, on, operand_at, node_step}
use Rattle.lg_meaning.specs.Texts.{text, step_at, step}
use Rattle.lg_carry.specs.FinalNodes.{Code, is_inside, function_at}
use Rattle.lg_carry.specs.Carries.{Leads, leaps}
use Rattle.lg_carry.specs.NodeCode.{live_before, live_behind, CarriesNode}
use Rattle.lg_carry.specs.Passages.{IsNodeCode}
use Rattle.lg_carry.specs.Rows.{Rows, AreRows}
use Rattle.lg_carry.specs.Stands.{Stands}
use Rattle.lg_carry.specs.TextNodes.{IsInText}
use Rattle.lg_carry.specs.Nodes.Stretches.{behind}
use Rattle.lg_carry.proofs.OfNodes.HomesLemmas.{next-function}
use Rattle.lg_carry.proofs.OfNodes.LeapLemmas.{in-some, after-prolog, next-inside}
use Rattle.lg_carry.proofs.OfNodes.LiveLemmas.{writes_none}
use Rattle.lg_carry.proofs.OfNodes.StraightLemmas.{text-keeps}
use Rattle.lg_carry.proofs.OfNodes.StretchLemmas.{none-passed}
use Rattle.lg_sel.specs.Control.SilentNodes.{is_silent, SilentNodesCarry}
use Rattle.lg_sel.specs.Control.Walks.{Walk}
use Rattle.lg_sel.proofs.OfControl.WalkLemmas.{walk-leads}

-- what these operations have in common
record IsSilent (n : Node) : Type 0 where
  falls : leaps n.op ≡ false
  writes : writes_none n ≡ true
  prolog : is_prolog n.op ≡ false
  epilog : is_epilog n.op ≡ false
  inside : (b : Bool) → may_stand_outside n.op b ≡ false

silent : (o : Op) (n : Node) → n.op ≡ o → is_silent o ≡ true → IsSilent n
silent (op.Plain plain.Prepare) n e h = record { falls = rw e refl; writes = rw e refl; prolog = rw e refl; epilog = rw e refl; inside = λ b. rw e refl }
silent (op.Plain plain.Ellipsis) n e h = record { falls = rw e refl; writes = rw e refl; prolog = rw e refl; epilog = rw e refl; inside = λ b. rw e refl }
silent (op.Plain plain.Arg) n e h = record { falls = rw e refl; writes = rw e refl; prolog = rw e refl; epilog = rw e refl; inside = λ b. rw e refl }
silent (op.Plain plain.Allocai) n e h = record { falls = rw e refl; writes = rw e refl; prolog = rw e refl; epilog = rw e refl; inside = λ b. rw e refl }
silent (op.Plain plain.VaEnd) n e h = record { falls = rw e refl; writes = rw e refl; prolog = rw e refl; epilog = rw e refl; inside = λ b. rw e refl }
silent o n e h = cc

-- their steps
record GoesOn (s t : State) : Type 0 where
  at : t.at ≡ s.at + 1
  regs : t.regs ≡ s.regs
  carry : t.carry ≡ (on s).carry
  answer : t.answer ≡ None
  pushed : t.pushed ≡ s.pushed
  frame : t.frame ≡ s.frame
  callers : t.callers ≡ s.callers
  mem : t.mem ≡ s.mem
  data_size : t.data_size ≡ s.data_size
  args_size : t.args_size ≡ s.args_size
  mark : t.mark ≡ s.mark

nothing : (xs : List ℕ) → length xs ≡ 0 → [] ≡ xs
nothing [] e = refl
nothing (x ∷ xs) e = absurd (omega (arith, e))

module _ {Q I : Type 0} (R : Rows Q I) (fits : I → Type 0) (rows : AreRows R fits) (c : Code) (i : ℕ) (n : Node) (S : ℕ → Bool) (t : IsInText c i n)
    (k : IsNodeCode R fits c i []) (is : IsSilent n) where
  -- at a `prepare` nothing is pushed
  unpushed : (s : State) (live : Frame → ℕ → Bool) (q : Q) (out : List ℕ) → s.at ≡ i → Stands R.processor c live s out q (live_before n S)
      → breaks_preparation n.op ≡ true → [] ≡ s.pushed
  unpushed s live q out at st breaks =
      let none : prepared_before c.nodes.nodes i ≡ None = t.well.unprepared i n t.here (rw breaks refl) in
      nothing s.pushed (st.state.fits.pushed ∙ ap (λ j. pushed_of (prepared_before c.nodes.nodes j)) at ∙ ap pushed_of none)

  -- the step goes on so, with this outcome
  abbrev Led : State → Outcome → Type 0
  Led s o = (u : State) × (o ≡ Goes u []) × GoesOn s u

  moved-on : (s : State) → Led s (quiet (on s))
  moved-on s = (
    _,
    refl,
    record {
      at = refl;
      regs = refl;
      carry = refl;
      answer = refl;
      pushed = refl;
      frame = refl;
      callers = refl;
      mem = refl;
      data_size = refl;
      args_size = refl;
      mark = refl;
    },
  )

  -- where what is read is defined
  needing : (s : State) (v : Option ℕ) → (need v (λ i. quiet (on s)) ≡ Undefined) ⊎ Led s (need v (λ i. quiet (on s)))
  needing s None = inl refl
  needing s (Some v) = inr (moved-on s)

  stepped : (s : State) (o : Op) → n.op ≡ o → is_silent o ≡ true → (breaks_preparation n.op ≡ true → [] ≡ s.pushed)
      → (node_step (text c.nodes c.shape c.addresses) n o s ≡ Undefined) ⊎ Led s (node_step (text c.nodes c.shape c.addresses) n o s)
  stepped s (op.Plain plain.Prepare) e h none = inr (
    _,
    refl,
    record {
      at = refl;
      regs = refl;
      carry = refl;
      answer = refl;
      pushed = none (rw e refl);
      frame = refl;
      callers = refl;
      mem = refl;
      data_size = refl;
      args_size = refl;
      mark = refl;
    },
  )
  stepped s (op.Plain plain.Ellipsis) e h none = inr (
    _,
    refl,
    record {
      at = refl;
      regs = refl;
      carry = refl;
      answer = refl;
      pushed = refl;
      frame = refl;
      callers = refl;
      mem = refl;
      data_size = refl;
      args_size = refl;
      mark = refl;
    },
  )
  stepped s (op.Plain plain.Arg) e h none = inr (moved-on s)
  stepped s (op.Plain plain.Allocai) e h none = inr (moved-on s)
  stepped s (op.Plain plain.VaEnd) e h none = needing s (value c.addresses s (operand_at n 0))
  stepped s o e h none = cc

  carried : is_silent n.op ≡ true → CarriesNode R.processor c i n S
  carried silent live s returns out q at st = by (stepped s n.op refl silent (unpushed s live q out at st))
    where
      here : step c.nodes c.shape c.addresses s ≡ node_step (text c.nodes c.shape c.addresses) n n.op s
      here = ap (λ x. step_at (text c.nodes c.shape c.addresses) x s) (ap (slice_get c.nodes.nodes) at ∙ t.here)

      leads : Led s (node_step (text c.nodes c.shape c.addresses) n n.op s) → Leads R.processor c live (live_behind live n S s) i (step c.nodes c.shape c.addresses s) out q
      leads go =
          let p = in-some c i n t (is.inside (is_begun c.nodes.nodes i)) in
          let u = go.0 in
          let m = go.2 in
          let goes : step c.nodes c.shape c.addresses s ≡ Goes u [] = here ∙ go.1 in
          let place : c.place u.at ≡ c.place s.at = ap c.place m.at ∙ ap (λ j. c.place (j + 1)) at ∙ k.next ∙ omega arith ∙ ap c.place (sym at) in
          let walk : Walk R.processor (c.place i) (behind R (c.place i) []) (c.place u.at) q = record {
            end = q;
            steps = 0;
            passes = none-passed R.processor false (c.place i) (behind R (c.place i) []) q;
            few = omega arith;
            some = λ lt. omega (arith, lt);
            runs = st.runs;
            here = st.state.here ∙ sym place;
            portable = λ r lt. refl;
            arguments = λ j lt. refl;
            pointer = refl;
            stack = refl;
            link = λ x e. refl;
            bytes = refl;
            mark = refl;
          } in
          walk-leads R fits rows c i n [] t k (still R.processor.target n.op is.falls is.prolog) is.writes S live s out q st u
          record {
            fits = text-keeps c i n t s u [] at (omega (arith, st.state.seen.low, st.state.mark))
                (omega (arith, st.state.seen.high, st.state.mark)) st.state.fits goes;
            side = ap (is_inside c) m.at ∙ ap (λ j. is_inside c (j + 1)) at ∙ next-inside c i n t p.0 p.1 is.epilog
                ∙ sym (ap (is_inside c) at ∙ after-prolog c i n t p.0 p.1 is.prolog);
            function = λ z. ap (function_at c) m.at ∙ ap (λ j. function_at c (j + 1)) at
                ∙ next-function c i n t (ap (is_inside c) (sym at) ∙ z) is.epilog ∙ ap (function_at c) (sym at);
            enters = λ z none. let y : false ≡ true = sym z ∙ ap (is_inside c) at ∙ after-prolog c i n t p.0 p.1 is.prolog in cc;
            regs = m.regs;
            carry = m.carry;
            answer = m.answer;
            pushed = m.pushed;
            frame = m.frame;
            callers = m.callers;
            mem = m.mem;
            data_size = m.data_size;
            args_size = m.args_size;
            mark = m.mark;
          }
          goes walk

      by : (node_step (text c.nodes c.shape c.addresses) n n.op s ≡ Undefined) ⊎ Led s (node_step (text c.nodes c.shape c.addresses) n n.op s)
          → (step c.nodes c.shape c.addresses s ≡ Undefined) ⊎ Leads R.processor c live (live_behind live n S s) i (step c.nodes c.shape c.addresses s) out q
      by (inl e) = inl (here ∙ e)
      by (inr go) = inr (leads go)

pub silent-nodes-carry : {Q I : Type 0} (R : Rows Q I) (fits : I → Type 0) → AreRows R fits → SilentNodesCarry R fits
silent-nodes-carry R fits rows c i n S silent' t k = carried R fits rows c i n S t k (silent n.op n refl silent') silent'
