-- The step of a host function is carried, at the end of the code of a call.
use Rattle.std.proofs.Common.{◌≡◌, ℕ, zero, suc, ◌+◌, ◌-◌, ◌<◌, ◌≤◌, ◌⊎◌, ⊎_elim, inl, inr, Bool, true, false, List, [], ◌∷◌, ◌++◌, Option, Some, None, refl, sym, ap, ◌∙◌, subst, arith, length}
use Rattle.std.specs.Prelude.{slice_get, if◌then◌else◌, is_some}
use Rattle.lg_base.specs.Conventions.{portable_register, frame_register, is_kept}
use Rattle.lg_base.specs.HostNames.{host_by_address, host_address}
use Rattle.lg_base.specs.Spaces.{readable}
use Rattle.lg_base.specs.declared.host_name.HostName.{HostName}
use Rattle.lg_base.specs.declared.host_name.HostName.TheVariants as host
use Rattle.lg_base.specs.declared.target.Target.{Target}
use Rattle.lg_base.specs.declared.target.Target.TheVariants.{X86_64, Aarch64, Riscv64}
use Rattle.std.proofs.lemmas.Option.{slice_get_within}
use Rattle.std.proofs.lemmas.Bool.{false_from_ne_true, or_parts}
use Rattle.lg_cells.specs.Cells.{within}
use Rattle.lg_host.specs.Blocks.{Changes, over}
use Rattle.lg_host.specs.Host.{Mem, Host, Gives, Exits, Undefined, memory, host_of}
use Rattle.lg_host.specs.HostLaws.{Extends, IsLarger, IsDefined, OnGives}
use Rattle.lg_host.proofs.HostLawLemmas.{host_of-kept}
use Rattle.lg_op.specs.declared.node.Node.{Node}
use Rattle.lg_cpu.specs.HostSteps.{argument_words}
use Rattle.lg_meaning.specs.States.{Frame, State, is_open}
use Rattle.lg_meaning.specs.Steps.{Exited, Outcome, Goes, Ends, answered, host_end, is_marked, call_host, kept as kept_registers}
use Rattle.lg_meaning.specs.Steps.{Undefined as NoStep}
use Rattle.lg_meaning.specs.Texts.{text, step_at, step}
use Rattle.lg_meaning.specs.Fits.{is_call}
use Rattle.lg_meaning.proofs.HostFacts.{Writes, host_writes}
use Rattle.lg_meaning.proofs.OpenFacts.{open_grown, open_given}
use Rattle.lg_live.specs.Uses.{is_written}
use Rattle.lg_carry.proofs.OfNodes.HomesLemmas.{next-function, call-no-epilog}
use Rattle.lg_carry.specs.FinalNodes.{Code, is_inside, function_at}
use Rattle.lg_carry.specs.Frames.{at_call}
use Rattle.lg_carry.specs.Places.{AreStacked}
use Rattle.lg_carry.specs.Processors.{IsSeen}
use Rattle.lg_carry.specs.Registers.{HoldsArguments, HasArguments}
use Rattle.lg_carry.specs.Rows.{Rows}
use Rattle.lg_carry.specs.Spills.{in_slots}
use Rattle.lg_base.specs.Layout.{frame_pointer}
use Rattle.lg_carry.specs.Stands.{lowest, StatesAgree, Stands}
use Rattle.lg_carry.specs.Carries.{calls_at, moves_at, Meets, Leads}
use Rattle.lg_carry.specs.Outside.{calls_move}
use Rattle.lg_carry.specs.NodeCode.{numbered, live_before, live_behind}
use Rattle.lg_carry.specs.Passages.{IsNodeCode}
use Rattle.lg_carry.proofs.AgreeInFrameLemmas.{host-agrees}
use Rattle.lg_carry.proofs.RegistersApartLemmas.{conventions-apart}
use Rattle.lg_carry.proofs.KeptLemmas.{stack_arguments-kept}
use Rattle.lg_carry.proofs.PassageLemmas.{host-steps-lead}
use Rattle.lg_carry.proofs.TurnLemmas.{call-moves}
use Rattle.lg_carry.proofs.TextShapeLemmas.{shaped}
use Rattle.lg_carry.proofs.StackLemmas.{stacked-high, open-where, locals-above, within-where}
use Rattle.lg_carry.specs.Nodes.Leaps.{HasPlaces, HostArrival, HostCallsLead, HasArrived, host_answer, Answers, EntersHosts, host_call_node, host_finish_node, HostCallsCarry, HostFinishesCarry}
use Rattle.lg_carry.specs.TextNodes.{IsInText, IsFrameOf}
use Rattle.lg_carry.specs.Nodes.Stretches.{behind, Arrival}
use Rattle.lg_carry.proofs.OfNodes.ArgumentLemmas.{arguments-begin}
use Rattle.lg_carry.proofs.OfNodes.CallLemmas.{stays-frame, above-off, before, tower, frame, held-frame}
use Rattle.lg_carry.proofs.OfNodes.LeapLemmas.{in-some, after-prolog, next-inside, node-stands, node-passes}
use Rattle.lg_carry.proofs.OfNodes.LiveLemmas.{still-live}
use Rattle.lg_carry.proofs.OfNodes.OpenLemmas.{open-there}
use Rattle.lg_carry.proofs.OfNodes.StraightLemmas.{text-keeps}

-- ---- changed bytes
changed : (d : Changes) (m : ℕ → Option ℕ) (a : ℕ) → (over d m a ≡ m a) ⊎ ((b : ℕ) × (d a ≡ Some b))
changed d m a = by (d a) refl
  where
    by : (o : Option ℕ) → d a ≡ o → (over d m a ≡ m a) ⊎ ((b : ℕ) × (d a ≡ Some b))
    by None e = inl (ap (λ o. if is_some o then o else m a) e)
    by (Some b) e = inr (b, e)

over-same : (d : Changes) (m n : ℕ → Option ℕ) (a : ℕ) → n a ≡ m a → over d n a ≡ over d m a
over-same d m n a e = ap (λ o. if is_some (d a) then d a else o) e

over-some : (d : Changes) (m : ℕ → Option ℕ) (a : ℕ) → is_some (m a) ≡ true → is_some (over d m a) ≡ true
over-some d m a h = by (d a)
  where
    by : (o : Option ℕ) → is_some (if is_some o then o else m a) ≡ true
    by None = h
    by (Some b) = refl

over-is : (d : Changes) (m n : ℕ → Option ℕ) (a b : ℕ) → (m a ≡ Some b → n a ≡ Some b) → over d m a ≡ Some b → over d n a ≡ Some b
over-is d m n a b h e = by (d a) e
  where
    by : (o : Option ℕ) → (if is_some o then o else m a) ≡ Some b → (if is_some o then o else n a) ≡ Some b
    by None e = h e
    by (Some x) e = e

extends : (o p : Option ℕ) → ((b : ℕ) → o ≡ Some b → p ≡ Some b) → Extends o p
extends None p h = tt
extends (Some x) p h = h x refl

-- ---- the entries
found : (name : HostName) → host_by_address (host_address name) ≡ Some name
found host.Printf = refl
found _ = refl

small : (name : HostName) → host_address name < 0x10000000
small host.Printf = omega arith
small _ = omega arith

-- ---- the registers that a call keeps
kept-saved : (target : Target) (v : ℕ) → v < 3 → is_kept target (portable_register target (v + 3)) ≡ true
kept-saved target (suc (suc (suc v))) lt = absurd (omega (arith, lt))
kept-saved X86_64 _ lt = refl
kept-saved Aarch64 _ lt = refl
kept-saved Riscv64 _ lt = refl

kept-frame : (target : Target) → is_kept target (frame_register target) ≡ true
kept-frame X86_64 = refl
kept-frame _ = refl

-- ---- the step of a host function
-- the code of a call node has arrived at the entry of a host function
module _ {Q I : Type 0} (R : Rows Q I) (ready : HostName → (ℕ → ℕ) → Bool) (hosts : EntersHosts R.processor ready) (c : Code) (i : ℕ) (n : Node) (S : ℕ → Bool) (w : HasPlaces R c) (t : IsInText c i n) (inside : is_inside c i ≡ true) (next : is_inside c (i + 1) ≡ true)
    (calls : is_call n.op ≡ true) (unwritten : (v : ℕ) → v < 3 → numbered (is_written n) (v + 3) ≡ false)
    (live : Frame → ℕ → Bool) (s : State) (out : List ℕ) (q : Q) (at : s.at ≡ i) (st : Stands R.processor c live s out q (live_before n S))
    (args : List ℕ) (few-args : length args ≤ 16) (held : HoldsArguments R.processor.target (R.processor.seen q).registers args) (stacked : HasArguments R.processor.target (R.processor.seen q).bytes (lowest s.frame) args)
    (name : HostName) (arrives-at : HostArrival R.processor ready (c.place i) (c.place (i + 1)) (lowest s.frame) (c.place (i + 1)) name q) (steps : step c.nodes c.shape c.addresses s ≡ call_host s args name) where
  abbrev target : Target
  target = R.processor.target

  abbrev arr : Arrival R.processor (c.place i) (c.place (i + 1)) (lowest s.frame) (c.place (i + 1)) (host_address name) q
  arr = arrives-at.arrival

  abbrev u : Q
  u = arr.end

  abbrev low : ℕ
  low = lowest s.frame

  abbrev B : ℕ → Option ℕ
  B = (R.processor.seen u).bytes

  towers : AreStacked (lowest s.frame) (s.frame ∷ s.callers)
  towers = tower R c i n S inside live s out q at st

  high : s.mark ≤ 0x30400000
  high = omega (arith, st.state.seen.high, st.state.mark)

  seen : IsSeen (R.processor.seen u)
  seen = arr.passes.keeps st.state.seen

  -- memory below the stack and memory that is open is that before the call
  below-same : (a : ℕ) → a < 0x3FF00000 → B a ≡ (R.processor.seen q).bytes a
  below-same a lt = arr.bytes a (false_from_ne_true (within (low - 8) 8 a) (λ e. let z = within-where (low - 8) 8 a e in let l = st.state.low in omega (arith, z.0, lt, l)))

  open-same : (a : ℕ) → is_open s a ≡ true → B a ≡ (R.processor.seen q).bytes a
  open-same a can = ⊎_elim
      (λ lt. below-same a (omega (arith, lt)))
      (λ locals. let z = locals-above low (s.frame ∷ s.callers) a towers locals in arr.bytes a (above-off low a (let l = st.state.low in omega (arith, l)) (omega (arith, z))))
      (open-where s (R.processor.seen q).bytes a st.state.parts high can)

  -- the memory and the arguments of the portable call, and those of the processor's
  abbrev m1 : Mem
  m1 = memory s.mem (is_open s) s.mark

  abbrev m2 : Mem
  m2 = memory B (readable B) (R.processor.seen u).mark

  mem-same : (a b : ℕ) → s.mem a ≡ Some b → B a ≡ Some b
  mem-same a b e = open-same a (st.state.fits.memory a b e) ∙ st.state.memory.is a b e

  larger : IsLarger m1 m2
  larger = record {
    bytes = λ a. extends (s.mem a) (B a) (λ b e. mem-same a b e);
    room = λ a e. ap is_some (open-same a e) ∙ open-there s (R.processor.seen q) a st.state.parts st.state.seen high towers st.state.low e;
    mark = arr.mark ∙ st.state.mark;
  }

  top : low + 80 ≤ 0x40000000
  top = let h = stacked-high s.frame.sp s.callers towers.3 in omega (arith, towers.0, towers.1, h.1)

  words : (more : List ℕ) × (args ++ more ≡ argument_words target (R.processor.seen u).registers B low)
  words = arguments-begin target B (R.processor.seen u).registers low args few-args seen.stack (omega (arith, st.state.low)) top
      record { is = λ j x lt e. arr.arguments j lt ∙ held.is j x lt e }
      (stack_arguments-kept target (R.processor.seen q).bytes B low args few-args (λ a le lt. arr.bytes a (above-off low a (let l = st.state.low in omega (arith, l)) le)) stacked)

  arrived : HasArrived R.processor ready low (c.place (i + 1)) name u
  arrived =
      let h = stacked-high low (s.frame ∷ s.callers) towers in
      record { ready_is = arrives-at.ready_is; runs = arr.runs; entry = ap host_by_address arr.here ∙ found name; small = (let z = small name in omega (arith, arr.here, z)); seen = seen; pointer = arr.pointer; link = arr.link; low = (let l = st.state.low in omega (arith, l)); high = h.1; whole = h.0 }

  -- what the processor's function answers, where the portable one is defined
  answer : (h : Host) → host_of name args (is_marked s.variadic) m1 ≡ h → IsDefined h → host_answer R.processor name low u ≡ h
  answer h e defined =
      ap (λ xs. host_of name xs true m2) (sym words.1)
      ∙ host_of-kept name args words.0 (is_marked s.variadic) m1 m2 larger (subst IsDefined (sym e) defined) ∙ e

  -- the step of the node leads there
  leads : (o : Outcome) → step c.nodes c.shape c.addresses s ≡ o → Meets R.processor c live (live_behind live n S s) q o out (R.processor.machine.step u) → Leads R.processor c live (live_behind live n S s) i (step c.nodes c.shape c.addresses s) out q
  leads o e meets = subst (λ x. Leads R.processor c live (live_behind live n S s) i x out q) (sym e)
      (host-steps-lead R.processor c live (live_behind live n S s) i arr.steps name o out q u (node-passes R.processor (calls_move target) c i arr.steps (c.place (i + 1)) q u (ap (moves_at target) t.here ∙ call-moves target n.op calls) refl arr.passes) arr.sinks arr.few (ap calls_at t.here ∙ calls) arrived.entry st.wrote meets)

  wrote : R.processor.machine.out u ≡ out
  wrote = ap R.processor.machine.out (sym arr.passes.leads) ∙ arr.passes.silent arr.steps (omega arith) ∙ st.wrote

  -- ---- an answer
  module _ (v : ℕ) (d : Changes) (to : ℕ) (xs : List ℕ) (gives : host_of name args (is_marked s.variadic) m1 ≡ Gives v d to xs) where
    abbrev s' : State
    s' = answered s v (over d s.mem) to

    abbrev u' : Q
    u' = R.processor.machine.step u

    goes' : step c.nodes c.shape c.addresses s ≡ Goes s' xs
    goes' = steps ∙ ap (host_end s) gives

    ans : Answers R.processor low (c.place (i + 1)) v d to xs u u'
    ans = hosts.gives u name low (c.place (i + 1)) v d to xs arrived (answer (Gives v d to xs) gives tt)

    writes : Writes m1 v d to xs
    writes = subst (λ h. OnGives h (Writes m1)) gives (host_writes m1 name args (is_marked s.variadic))

    seen' : IsSeen (R.processor.seen u')
    seen' = record {
      words = ans.words;
      bytes = ans.small;
      heap = λ a e. ap is_some (ans.memory_is a) ∙ over-some d B a (seen.heap a e);
      stack = λ a e. ap is_some (ans.memory_is a) ∙ over-some d B a (seen.stack a e);
      low = let m = ans.mark in omega (arith, writes.rises, st.state.seen.low, st.state.mark, m);
      high = let m = ans.mark in omega (arith, ans.high, m);
    }

    still-held : (v' x : ℕ) → v' < 3 → S (v' + 3) ≡ true → s.regs (v' + 3) ≡ Some x → (R.processor.seen u').registers (portable_register target (v' + 3)) ≡ x
    still-held v' x lt l e =
        ans.kept (portable_register target (v' + 3)) (kept-saved target v' lt) ((conventions-apart target).portable_stack (v' + 3) (omega (arith, lt)))
        ∙ arr.kept v' lt ∙ st.state.registers.is (v' + 3) x (omega (arith, lt)) (still-live n S (v' + 3) (unwritten v' lt) l) e

    saved : (r x : ℕ) → r < 6 → S r ≡ true → kept_registers s.regs r ≡ Some x → (R.processor.seen u').registers (portable_register target r) ≡ x
    saved zero x lt l e = cc
    saved (suc (suc (suc zero))) x lt l e = still-held 0 x (omega arith) l e
    saved (suc (suc (suc (suc zero)))) x lt l e = still-held 1 x (omega arith) l e
    saved (suc (suc (suc (suc (suc zero))))) x lt l e = still-held 2 x (omega arith) l e
    saved (suc (suc (suc (suc (suc (suc r)))))) x lt l e = absurd (omega (arith, lt))
    saved (suc _) x lt l e = cc

    where-may : (a : ℕ) → within (low - 8) 8 a ≡ false → ((R.processor.seen u').bytes a ≡ (R.processor.seen q).bytes a) ⊎ (is_open s' a ≡ true)
    where-may a off = ⊎_elim
        (λ same. inl (ans.memory_is a ∙ same ∙ arr.bytes a off))
        (λ (b, e). inr (⊎_elim
        (λ may. open_grown s.data_size s.args_size s.mark to (s.frame ∷ s.callers) a writes.rises may)
        (λ given. open_given s.data_size s.args_size s.mark to (s.frame ∷ s.callers) a (omega (arith, st.state.seen.low, st.state.mark)) given.0 given.1)
        (writes.where_may a b e)))
        (changed d B a)

    agree : StatesAgree target c live s' (R.processor.seen u') S
    agree = host-agrees target c live s s' (R.processor.seen q) (R.processor.seen u') (live_before n S) S st.state
        record {
          few = (shaped c.nodes t.well).few;
          fits = text-keeps c i n t s s' xs at (omega (arith, st.state.seen.low, st.state.mark)) high st.state.fits goes';
          seen = seen';
          here = ans.here ∙ ap (λ j. c.place (j + 1)) (sym at);
          before = before R c i n S inside live s out q at st;
          behind = ap (λ j. is_inside c (j + 1)) at ∙ next;
          function = ap (λ j. function_at c (j + 1)) at ∙ next-function c i n t inside (call-no-epilog n.op calls) ∙ sym (ap (function_at c) at);
          frame = refl;
          callers = refl;
          pointer = ans.kept (frame_register target) (kept-frame target) (conventions-apart target).pointers ∙ arr.frame;
          stack = ans.pointer ∙ sym (frame R c i n S inside live s out q at st).stack;
          mark = ans.mark;
        }
        record {
          bytes = λ a e. where-may a (or_parts (in_slots (frame_pointer s.frame.sp) a) (within (low - 8) 8 a) e).1;
          parts = record {
            data_small = st.state.parts.data_small;
            args_small = st.state.parts.args_small;
            data_whole = λ a e. over-some d s.mem a (st.state.parts.data_whole a e);
            args_whole = λ a e. over-some d s.mem a (st.state.parts.args_whole a e);
            same = λ a le lt. ans.memory_is a ∙ over-same d s.mem B a (below-same a (omega (arith, lt)) ∙ st.state.parts.same a le lt);
          };
          memory = record { is = λ a b e. ans.memory_is a ∙ over-is d s.mem B a b (mem-same a b) e };
        }
        refl
        record {
          registers = record { is = λ r x lt l e. saved r x lt l e };
          carry = tt;
          result = record { is = λ x e. let z : v ≡ x = cc in ans.result ∙ z };
          pushed = record { is = λ j x lt e. cc };
        }

    answers : Leads R.processor c live (live_behind live n S s) i (step c.nodes c.shape c.addresses s) out q
    answers = leads (Goes s' xs) goes'
        (subst (λ b. Stands R.processor c live s' (out ++ xs) u' (if b then live (at_call s.frame) else S)) (sym (stays-frame n.op calls)) record {
          runs = ans.runs (w.nodes.low (i + 1) (let lt = slice_get_within c.nodes.nodes i n t.here in omega (arith, lt)));
          wrote = ans.out ∙ ap (λ z. z ++ xs) wrote;
          state = agree;
        })

  pub host-called : (step c.nodes c.shape c.addresses s ≡ NoStep) ⊎ Leads R.processor c live (live_behind live n S s) i (step c.nodes c.shape c.addresses s) out q
  host-called = by (host_of name args (is_marked s.variadic) m1) refl
    where
      by : (h : Host) → host_of name args (is_marked s.variadic) m1 ≡ h → (step c.nodes c.shape c.addresses s ≡ NoStep) ⊎ Leads R.processor c live (live_behind live n S s) i (step c.nodes c.shape c.addresses s) out q
      by (Gives v d to xs) e = inr (answers v d to xs e)
      by (Exits status) e =
          let x = hosts.exits u name low (c.place (i + 1)) status arrived (answer (Exits status) e tt) in
          inr (leads (Ends (Exited status)) (steps ∙ ap (host_end s) e)
          (x.0, x.1 ∙ wrote, record { bytes = λ a lt. x.2.bytes a lt ∙ below-same a lt; mark = x.2.mark ∙ arr.mark }, (name, ap host_by_address x.3 ∙ arrived.entry)))
      by Undefined e = inl (steps ∙ ap (host_end s) e)

-- ---- the nodes
module _ {Q I : Type 0} (R : Rows Q I) (ready : HostName → (ℕ → ℕ) → Bool) (fits : I → Type 0) (hosts : EntersHosts R.processor ready) (code : HostName → List I) (lead : HostCallsLead R ready fits code) where
  arrives : (c : Code) (i : ℕ) (n : Node) (S : ℕ → Bool) (name : HostName) → IsNodeCode R fits c i (code name) → moves_at R.processor.target (slice_get c.nodes.nodes i) ≡ calls_move R.processor.target → is_inside c i ≡ true → (live : Frame → ℕ → Bool) (s : State) (out : List ℕ) (q : Q) → (at : s.at ≡ i) → Stands R.processor c live s out q (live_before n S) → (size : ℕ) → IsFrameOf c i size
      → HostArrival R.processor ready (c.place i) (c.place (i + 1)) (lowest s.frame) (c.place (i + 1)) name q
  arrives c i n S name k moves inside live s out q at st size is-frame =
      subst (λ z. HostArrival R.processor ready (c.place i) z (lowest s.frame) z name q) (sym k.next)
      (subst (λ z. HostArrival R.processor ready (c.place i) (behind R (c.place i) (code name)) z (behind R (c.place i) (code name)) name q) (frame R c i n S inside live s out q at st).stack
      (lead size (c.place i) name q (held-frame R c i n S inside live s out q at st size is-frame) (node-stands R (calls_move R.processor.target) fits c i (code name) moves k) st.runs (st.state.here ∙ ap c.place at)))

  pub host-calls-carry : HostCallsCarry R fits code
  host-calls-carry c i name line S w t size is-frame k live s returns out q at st =
      let n = host_call_node name line in
      let p = in-some c i n t refl in
      let inside = after-prolog c i n t p.0 p.1 refl in
      host-called R ready hosts c i n S w t inside (next-inside c i n t p.0 p.1 refl) refl saved live s out q at st
      [] (omega arith) record { is = λ j x lt z. cc } record { is = λ j x lt z. cc } name (arrives c i n S name k (ap (moves_at R.processor.target) t.here) inside live s out q at st size is-frame)
      (ap (λ x. step_at (text c.nodes c.shape c.addresses) x s) (ap (slice_get c.nodes.nodes) at ∙ t.here))
    where
      saved : (v : ℕ) → v < 3 → numbered (is_written (host_call_node name line)) (v + 3) ≡ false
      saved (suc (suc (suc v))) lt = absurd (omega (arith, lt))
      saved other lt = refl

  pub host-finishes-carry : HostFinishesCarry R fits code
  host-finishes-carry c i name line S w t size is-frame k live s returns out q at st =
      let n = host_finish_node name line in
      let p = in-some c i n t refl in
      let inside = after-prolog c i n t p.0 p.1 refl in
      host-called R ready hosts c i n S w t inside (next-inside c i n t p.0 p.1 refl) refl saved live s out q at st
      s.pushed (let f = (shaped c.nodes t.well).few s.at (omega (arith, st.state.fits.inside)) in omega (arith, f, st.state.fits.pushed)) st.state.pushed st.state.outgoing name (arrives c i n S name k (ap (moves_at R.processor.target) t.here) inside live s out q at st size is-frame)
      (ap (λ x. step_at (text c.nodes c.shape c.addresses) x s) (ap (slice_get c.nodes.nodes) at ∙ t.here))
    where
      saved : (v : ℕ) → v < 3 → numbered (is_written (host_finish_node name line)) (v + 3) ≡ false
      saved (suc (suc (suc v))) lt = absurd (omega (arith, lt))
      saved other lt = refl
