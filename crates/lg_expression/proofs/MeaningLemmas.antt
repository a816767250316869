-- The meaning of the nodes of steps, node by node.
use Rattle.std.proofs.Common.{◌≡◌, inl, ℕ, zero, suc, ◌+◌, ◌-◌, ◌*◌, ◌/◌, ◌%◌, ◌^◌, ◌<◌, ◌≤◌, ◌&&◌, ◌||◌, Bool, true, false, List, [], ◌∷◌, ◌++◌, length, Option, Some, None, refl, sym, ap, subst, ◌∙◌, arith, le-leb, lt-ltb, ltb-true, length-append, true≢false, is_some, if◌then◌else◌}
use Rattle.std.specs.Prelude.{nat_lt, slice_get, unwrap_or, bit_and}
use Rattle.std.specs.Option.{option_and_then}
use Rattle.std.proofs.Math.Nat.{mod-lt, mod-le, div-le_self}
use Rattle.std.proofs.lemmas.Bool.{and_parts}
use Rattle.std.proofs.lemmas.Nat.{and_le_l, or_lt, xor_lt}
use Rattle.std.proofs.lemmas.Option.{none-some, same_Some}
use Rattle.lg_base.specs.Runs.{iter}
use Rattle.lg_base.specs.Spaces.{byte_or_zero, loaded, mapped, stored}
use Rattle.lg_base.specs.Words.{add_words, complement, differ, is_negative, magnitude, negated, quotient_signed, remainder_signed, shifted_right_signed, with_sign, word_of_test}
use Rattle.lg_base.proofs.SpaceLemmas.{loaded-stored, number_at-shift, stored-out}
use Rattle.lg_cells.specs.Cells.{within}
use Rattle.lg_cells.specs.Memories.{writable}
use Rattle.lg_meaning.specs.Means.{run_at, run_step}
use Rattle.lg_meaning.specs.Means.{behind as run_after}
use Rattle.lg_meaning.specs.States.{Frame, State, in_any_locals, in_locals, is_open}
use Rattle.lg_meaning.specs.Steps.{Outcome, Goes, node_step, on, on_with_carry, with_reg}
use Rattle.lg_meaning.specs.Texts.{step, step_at, text}
use Rattle.lg_node.specs.Nodes.{LabelledNodes}
use Rattle.lg_node.specs.Shapes.{TextShape}
use Rattle.lg_op.specs.declared.node.Node.{Node}
use Rattle.lg_op.specs.declared.op.BinaryOp.{BinaryOp}
use Rattle.lg_op.specs.declared.op.BinaryOp.TheVariants as binary
use Rattle.lg_op.specs.declared.op.Op.TheVariants.{Binary, Load, Plain, Store, Unary}
use Rattle.lg_op.specs.declared.op.Addressing.TheVariants.{RegisterImmediate}
use Rattle.lg_op.specs.declared.op.LastOperand.TheVariants as last_operand
use Rattle.lg_op.specs.declared.op.PlainOp.TheVariants as plain
use Rattle.lg_op.specs.declared.op.StoreType.TheVariants as store
use Rattle.lg_op.specs.declared.op.UnaryOp.TheVariants.{Mov, Neg}
use Rattle.lg_op.specs.declared.op.ValueType.TheVariants as value
use Rattle.lg_op.specs.declared.operand.Operand.TheVariants as operand
use Rattle.lg_op.specs.Operators.{binary_value, sets_carry, word_where}
use Rattle.lg_expression.specs.Steps.{behind, finds, is_whole}
use Rattle.lg_expression.specs.Units.{aside, fp, node, nodes_of, r0, step_nodes, v0, v1, waiting}
use Rattle.lg_expression.specs.declared.step.Step.{Step}
use Rattle.lg_expression.specs.declared.step.Step.TheVariants.{Number, Argument, Negate, Operation}
use Rattle.lg_expression.specs.Meanings.{Comes, HasLocals, Holds, NodesWorkExpressionsOut, StandAt, Wait, place_address}
use Rattle.lg_expression.specs.Values.{IsWordStep, behind_step, after_steps}

-- ---- words

low_word : (n : ℕ) → n % 2 ^ 64 < 2 ^ 64
low_word n = mod-lt n (omega arith)

test_word : (b : Bool) → word_of_test b < 2 ^ 64
test_word true = omega arith
test_word false = omega arith

quotient_word : (a b : ℕ) → a < 2 ^ 64 → a / b < 2 ^ 64
quotient_word a b h = let le : a / b ≤ a = div-le_self a b in omega (arith, le, h)

remainder_word : (a b : ℕ) → a < 2 ^ 64 → a % b < 2 ^ 64
remainder_word a b h = let le : a % b ≤ a = mod-le a b in omega (arith, le, h)

magnitude_word : (a : ℕ) → a < 2 ^ 64 → magnitude a < 2 ^ 64
magnitude_word a h = grind (arith, h)

with_sign_word : (negative : Bool) (n : ℕ) → n < 2 ^ 64 → with_sign negative n < 2 ^ 64
with_sign_word true n h = low_word (2 ^ 64 - n)
with_sign_word false n h = h

choice_word : (b : Bool) (x y : ℕ) → x < 2 ^ 64 → y < 2 ^ 64 → (if b then x else y) < 2 ^ 64
choice_word true x y h k = h
choice_word false x y h k = k

shifted_signed_word : (a n : ℕ) → a < 2 ^ 64 → shifted_right_signed a n < 2 ^ 64
shifted_signed_word a n h = choice_word (nat_lt a (2 ^ 63)) (a / 2 ^ n) (complement (complement a / 2 ^ n)) (quotient_word a (2 ^ n) h) (omega arith)

quotient_signed_word : (a b : ℕ) → a < 2 ^ 64 → quotient_signed a b < 2 ^ 64
quotient_signed_word a b h = with_sign_word (differ (is_negative a) (is_negative b)) (magnitude a / magnitude b) (quotient_word (magnitude a) (magnitude b) (magnitude_word a h))

remainder_signed_word : (a b : ℕ) → a < 2 ^ 64 → remainder_signed a b < 2 ^ 64
remainder_signed_word a b h = with_sign_word (is_negative a) (magnitude a % magnitude b) (remainder_word (magnitude a) (magnitude b) (magnitude_word a h))

word_of : (x v : ℕ) → Some x ≡ Some v → x < 2 ^ 64 → v < 2 ^ 64
word_of x v e h = let is : x ≡ v = cc in omega arith

word_where_of : (b : Bool) (x v : ℕ) → word_where b x ≡ Some v → x < 2 ^ 64 → v < 2 ^ 64
word_where_of true x v e h = word_of x v e h
word_where_of false x v e h = cc

-- operations make words of words
binary_word : (o : BinaryOp) (a b v : ℕ) → a < 2 ^ 64 → b < 2 ^ 64 → binary_value o a b ≡ Some v → v < 2 ^ 64
binary_word binary.Add a b v h k e = word_of _ v e (low_word (a + b))
binary_word binary.Sub a b v h k e = word_of _ v e (low_word (a + (2 ^ 64 - b)))
binary_word binary.Rsb a b v h k e = word_of _ v e (low_word (b + (2 ^ 64 - a)))
binary_word binary.Mul a b v h k e = word_of _ v e (low_word (a * b))
binary_word binary.And a b v h k e = word_of _ v e (let le : bit_and a b ≤ a = and_le_l a b in omega (arith, le, h))
binary_word binary.Or a b v h k e = word_of _ v e (or_lt 64 a b h k)
binary_word binary.Xor a b v h k e = word_of _ v e (xor_lt 64 a b h k)
binary_word binary.Lt a b v h k e = word_of _ v e (test_word _)
binary_word binary.LtU a b v h k e = word_of _ v e (test_word _)
binary_word binary.Le a b v h k e = word_of _ v e (test_word _)
binary_word binary.LeU a b v h k e = word_of _ v e (test_word _)
binary_word binary.Ge a b v h k e = word_of _ v e (test_word _)
binary_word binary.GeU a b v h k e = word_of _ v e (test_word _)
binary_word binary.Gt a b v h k e = word_of _ v e (test_word _)
binary_word binary.GtU a b v h k e = word_of _ v e (test_word _)
binary_word binary.Eq a b v h k e = word_of _ v e (test_word _)
binary_word binary.Ne a b v h k e = word_of _ v e (test_word _)
binary_word binary.Lsh a b v h k e = word_of _ v e (low_word (a * 2 ^ (b % 64)))
binary_word binary.Rsh a b v h k e = word_of _ v e (shifted_signed_word a (b % 64) h)
binary_word binary.RshU a b v h k e = word_of _ v e (quotient_word a (2 ^ (b % 64)) h)
binary_word binary.Div a b v h k e = word_where_of _ _ v e (quotient_signed_word a b h)
binary_word binary.DivU a b v h k e = word_where_of _ _ v e (quotient_word a b h)
binary_word binary.Rem a b v h k e = word_where_of _ _ v e (remainder_signed_word a b h)
binary_word binary.RemU a b v h k e = word_where_of _ _ v e (remainder_word a b h)
binary_word o a b v h k e = absurd (none-some v e)

-- an operation with a value sets no carry
not_carried : (o : BinaryOp) (a b v : ℕ) → binary_value o a b ≡ Some v → sets_carry o ≡ false
not_carried binary.Addc a b v e = absurd (none-some v e)
not_carried binary.Subc a b v e = absurd (none-some v e)
not_carried binary.Addx a b v e = absurd (none-some v e)
not_carried binary.Subx a b v e = absurd (none-some v e)
not_carried o a b v e = refl

-- ---- the frame

mapped-same : (m n : ℕ → Option ℕ) (a w : ℕ) → ((j : ℕ) → a ≤ j → j < a + w → n j ≡ m j) → mapped n a w ≡ mapped m a w
unfolding mapped
mapped-same m n a zero h = refl
mapped-same m n a (suc w) h =
    let here = ap is_some (h a (omega arith) (omega arith)) in
    let rest = mapped-same m n (a + 1) w (λ j le lt. h j (omega arith) (omega arith)) in
    λ i. here i && rest i

loaded-same : (m n : ℕ → Option ℕ) (a w : ℕ) → ((j : ℕ) → a ≤ j → j < a + w → n j ≡ m j) → loaded n a w ≡ loaded m a w
loaded-same m n a w h =
    let there = mapped-same m n a w h in
    let number = number_at-shift (byte_or_zero n) (byte_or_zero m) a a w (λ j lt. ap (λ o. unwrap_or o 0) (h (a + j) (omega arith) (omega arith))) in
    λ i. if there i then Some (number i) else None

all_writable : (room : ℕ → Bool) (a w : ℕ) → ((j : ℕ) → a ≤ j → j < a + w → room j ≡ true) → writable room a w ≡ true
unfolding writable
all_writable room a zero h = refl
all_writable room a (suc w) h = rw (h a (omega arith) (omega arith)) (all_writable room (a + 1) w (λ j le lt. h j (omega arith) (omega arith)))

or_last : (a b c d e : Bool) → d ≡ true → (a || (b || (c || (d || e)))) ≡ true
or_last true b c d e h = refl
or_last false true c d e h = refl
or_last false false true d e h = refl
or_last false false false true e h = refl
or_last false false false false e h = absurd (true≢false (sym h))

local_open : (s : State) (a : ℕ) → s.frame.sp - 144 - s.frame.locals ≤ a → a < s.frame.sp - 144 - s.frame.locals + s.frame.locals → is_open s a ≡ true
local_open s a low high =
    or_last (within 0x20000000 s.data_size a) (within 0x28000000 s.args_size a) (within 0x30000000 (s.mark - 0x30000000) a) (in_locals s.frame a) (in_any_locals s.callers a) (rw (le-leb (s.frame.sp - 144 - s.frame.locals) a low, lt-ltb a (s.frame.sp - 144 - s.frame.locals + s.frame.locals) high) refl)

module _ (s : State) (h : HasLocals s) (place : ℕ) (small : place < 32) where
  place_writable : writable (is_open s) (place_address s place) 8 ≡ true
  place_writable =
      all_writable (is_open s) (place_address s place) 8 (λ j low high. local_open s j (omega (arith, h.some, h.low, low, high, small)) (omega (arith, h.some, h.low, low, high, small)))

  place_is : add_words (0xfffffffffffffe80 + 8 * place) (s.frame.sp - 16) ≡ place_address s place
  place_is = omega (arith, h.some, h.low, h.high, small)

  place_is_too : add_words (s.frame.sp - 16) (0xfffffffffffffe80 + 8 * place) ≡ place_address s place
  place_is_too = omega (arith, h.some, h.low, h.high, small)

-- ---- lists that may be missing

some_list : {A : Type 0} (f : A → Option (List ℕ)) (o : Option A) (b : List ℕ) → option_and_then f o ≡ Some b → (a : A) × (o ≡ Some a) × (f a ≡ Some b)
some_list f None b e = absurd (none-some b e)
some_list f (Some a) b e = (a, refl, e)

-- ---- runs

iter_more : {S : Type 0} (f : S → S) (m n : ℕ) (s : S) → iter f (m + n) s ≡ iter f n (iter f m s)
unfolding iter
iter_more f m zero s = let e : m + 0 ≡ m = omega arith in ap (λ k. iter f k s) e
iter_more f m (suc n) s = let e : m + suc n ≡ suc (m + n) = omega arith in ap (λ k. iter f k s) e ∙ ap f (iter_more f m n s)

stand_apart : (l : LabelledNodes) (place : ℕ) (a b : List Node) → StandAt l place (a ++ b) → StandAt l place a × StandAt l (place + length a) b
stand_apart l place [] b h = let e : place ≡ place + 0 = omega arith in let P : ℕ → Type 0 = λ k. StandAt l k b in (tt, subst P e h)
stand_apart l place (n ∷ a) b h =
    let rest = stand_apart l (place + 1) a b h.1 in
    let e : (place + 1) + length a ≡ place + suc (length a) = omega arith in
    let P : ℕ → Type 0 = λ k. StandAt l k b in
    ((h.0, rest.0), subst P e rest.1)

same_locals : (s t : State) → t.frame ≡ s.frame → HasLocals s → HasLocals t
same_locals s t e h =
    let P : Frame → Type 0 = λ f. 256 ≤ f.locals in
    let Q : Frame → Type 0 = λ f. f.locals + 144 ≤ f.sp in
    let R : Frame → Type 0 = λ f. f.sp < 2 ^ 64 in
    record { some = subst P (sym e) h.some; low = subst Q (sym e) h.low; high = subst R (sym e) h.high }

wait_same : (s t : State) (stack : List ℕ) → t.mem ≡ s.mem → t.frame.sp ≡ s.frame.sp → Wait s stack → Wait t stack
wait_same s t [] m f h = tt
wait_same s t (v ∷ rest) m f h =
    (ap (λ (b : ℕ → Option ℕ). loaded b (place_address t (length rest)) 8) m ∙ ap (λ k. loaded s.mem (k - 400 + 8 * length rest) 8) f ∙ h.0, h.1, wait_same s t rest m f h.2)

-- what waits below a place stays where a word is put there
wait_put : (s t : State) (stack : List ℕ) (place v : ℕ) → length stack ≤ place → t.mem ≡ stored s.mem (place_address s place) 8 v → t.frame.sp ≡ s.frame.sp → Wait s stack → Wait t stack
wait_put s t [] place v few m f h = tt
wait_put s t (u ∷ rest) place v few m f h =
    let at = place_address s (length rest) in
    let same : loaded (stored s.mem (place_address s place) 8 v) at 8 ≡ loaded s.mem at 8 =
    loaded-same s.mem (stored s.mem (place_address s place) 8 v) at 8 (λ j low high. stored-out s.mem (place_address s place) 8 v j (inl (omega (arith, low, high, few)))) in (
      ap (λ (b : ℕ → Option ℕ). loaded b (place_address t (length rest)) 8) m ∙ ap (λ k. loaded (stored s.mem (place_address s place) 8 v) (k - 400 + 8 * length rest) 8) f ∙ same ∙ h.0,
      h.1,
      wait_put s t rest place v (omega (arith, few)) m f h.2,
    )

module _ (l : LabelledNodes) (shape : TextShape) (addresses : List ℕ) (x : ℕ) where
  one_run : (s t : State) (n : Node) → slice_get l.nodes s.at ≡ Some n → node_step (text l shape addresses) n n.op s ≡ Goes t [] → iter (run_step (step l shape addresses)) 1 (run_at s []) ≡ run_at t []
  unfolding iter
  one_run s t n here goes = ap (λ (o : Outcome). run_after (run_at s []) o) (ap (λ o. step_at (text l shape addresses) o s) here ∙ goes)

  one : (s t : State) (n : Node) (stack : List ℕ) → slice_get l.nodes s.at ≡ Some n → node_step (text l shape addresses) n n.op s ≡ Goes t [] → t.at ≡ s.at + 1 → Holds x stack t → Comes l shape addresses s 1 x stack
  one s t n stack here goes at holds = record {
    to = t;
    run = one_run s t n here goes;
    at = at;
    holds = holds;
  }

  then_comes : (s : State) (m n : ℕ) (mid after : List ℕ) → Comes l shape addresses s m x mid → ((t : State) → t.at ≡ s.at + m → Holds x mid t → Comes l shape addresses t n x after) → Comes l shape addresses s (m + n) x after
  then_comes s m n mid after a rest =
      let b = rest a.to a.at a.holds in
      record {
        to = b.to;
        run = iter_more (run_step (step l shape addresses)) m n (run_at s []) ∙ ap (iter (run_step (step l shape addresses)) n) a.run ∙ b.run;
        at = b.at ∙ ap (λ k. k + n) a.at ∙ (let e : (s.at + m) + n ≡ s.at + (m + n) = omega arith in e);
        holds = b.holds;
      }

  stand_from : (s t : State) (m : ℕ) (nodes : List Node) → t.at ≡ s.at + m → StandAt l (s.at + m) nodes → StandAt l t.at nodes
  stand_from s t m nodes e h = let P : ℕ → Type 0 = λ k. StandAt l k nodes in subst P (sym e) h

  -- a node that puts a word into V0 and leaves the rest
  abbrev Puts : Node → ℕ → Type 0
  Puts n w = (t : State) → t.regs 4 ≡ Some x → node_step (text l shape addresses) n n.op t ≡ Goes (on_with_carry (with_reg t v0 w)) []

  put_first : (s : State) (n : Node) (w : ℕ) → Puts n w → w < 2 ^ 64 → StandAt l s.at (n ∷ []) → Holds x [] s → Comes l shape addresses s 1 x (w ∷ [])
  put_first s n w puts word here h =
      one s (on_with_carry (with_reg s v0 w)) n (w ∷ []) here.0 (puts s h.argument) refl record { locals = same_locals s (on_with_carry (with_reg s v0 w)) refl h.locals; argument = h.argument; word = h.word; stands = (refl, word, tt) }

  put_further : (s : State) (n : Node) (w v : ℕ) (rest : List ℕ) → Puts n w → w < 2 ^ 64 → length rest < 32 → StandAt l s.at (aside (suc (length rest)) ++ n ∷ []) → Holds x (v ∷ rest) s → Comes l shape addresses s 2 x (w ∷ v ∷ rest)
  put_further s n w v rest puts word few here h =
      let at = place_address s (length rest) in
      let s1 = on_with_carry (record s { mem = stored s.mem at 8 v }) in
      let t = on_with_carry (with_reg s1 v0 w) in
      let stores : node_step (text l shape addresses) (node (Store store.Long RegisterImmediate) (waiting (length rest) ∷ fp ∷ v0 ∷ [])) (Store store.Long RegisterImmediate) s ≡ Goes s1 [] =
      rw (place_is s h.locals (length rest) few, h.stands.0, place_writable s h.locals (length rest) few) refl in
      let waits : Wait t (v ∷ rest) = (loaded-stored s.mem at 8 v h.stands.1, h.stands.1, wait_put s t rest (length rest) v (omega arith) refl refl h.stands.2) in
      let first : iter (run_step (step l shape addresses)) 1 (run_at s []) ≡ run_at s1 [] = one_run s s1 (node (Store store.Long RegisterImmediate) (waiting (length rest) ∷ fp ∷ v0 ∷ [])) here.0 stores in
      let second : iter (run_step (step l shape addresses)) 1 (run_at s1 []) ≡ run_at t [] = one_run s1 t n here.1.0 (puts s1 h.argument) in
      record {
        to = t;
        run = iter_more (run_step (step l shape addresses)) 1 1 (run_at s []) ∙ ap (iter (run_step (step l shape addresses)) 1) first ∙ second;
        at = (let e : (s.at + 1) + 1 ≡ s.at + 2 = omega arith in e);
        holds = record { locals = same_locals s t refl h.locals; argument = h.argument; word = h.word; stands = (refl, word, waits) };
      }

  negate_comes : (s : State) (a : ℕ) (rest : List ℕ) → StandAt l s.at (step_nodes (suc (length rest)) Negate) → Holds x (a ∷ rest) s → Comes l shape addresses s 1 x (negated a ∷ rest)
  negate_comes s a rest here h =
      let t = on (with_reg s v0 (negated a)) in
      one s t (node (Unary Neg) (v0 ∷ v0 ∷ [])) (negated a ∷ rest) here.0 (rw h.stands.0 refl) refl
      record { locals = same_locals s t refl h.locals; argument = h.argument; word = h.word; stands = (refl, low_word (2 ^ 64 - a), wait_same s t rest refl refl h.stands.2) }

  operate_comes : (s : State) (op : BinaryOp) (a b v : ℕ) (rest : List ℕ) → binary_value op a b ≡ Some v → length rest < 32 → StandAt l s.at (step_nodes (suc (suc (length rest))) (Operation op)) → Holds x (b ∷ a ∷ rest) s → Comes l shape addresses s 2 x (v ∷ rest)
  operate_comes s op a b v rest is few here h =
      let place : suc (suc (length rest)) - 2 ≡ length rest = omega arith in
      let s1 = on_with_carry (with_reg s r0 a) in
      let t = on (with_reg s1 v0 v) in
      let load = node (Load value.Long RegisterImmediate) (r0 ∷ fp ∷ waiting (suc (suc (length rest)) - 2) ∷ []) in
      let work = node (Binary op last_operand.Register) (v0 ∷ r0 ∷ v0 ∷ []) in
      let loads : node_step (text l shape addresses) load (Load value.Long RegisterImmediate) s ≡ Goes s1 [] =
      rw (place, place_is_too s h.locals (length rest) few, place_writable s h.locals (length rest) few, h.stands.2.0) refl in
      let works : node_step (text l shape addresses) work (Binary op last_operand.Register) s1 ≡ Goes t [] = rw (not_carried op a b v is, h.stands.0, is) refl in
      let first : iter (run_step (step l shape addresses)) 1 (run_at s []) ≡ run_at s1 [] = one_run s s1 load here.0 loads in
      let second : iter (run_step (step l shape addresses)) 1 (run_at s1 []) ≡ run_at t [] = one_run s1 t work here.1.0 works in
      record {
        to = t;
        run = iter_more (run_step (step l shape addresses)) 1 1 (run_at s []) ∙ ap (iter (run_step (step l shape addresses)) 1) first ∙ second;
        at = (let e : (s.at + 1) + 1 ≡ s.at + 2 = omega arith in e);
        holds = record { locals = same_locals s t refl h.locals; argument = h.argument; word = h.word; stands = (refl, binary_word op a b v h.stands.2.1 h.stands.1 is, wait_same s t rest refl refl h.stands.2.2) };
      }

  with_stack : (s : State) (count : ℕ) (a b : List ℕ) → Some a ≡ Some b → Comes l shape addresses s count x a → Comes l shape addresses s count x b
  with_stack s count a b e h = let P : List ℕ → Type 0 = λ stack. Comes l shape addresses s count x stack in subst P (same_Some a b e) h

  step_comes : (s : State) (st : Step) (before mid : List ℕ) → StandAt l s.at (step_nodes (length before) st) → IsWordStep st → finds (length before) st ≡ true → length before ≤ 32 → Holds x before s
      → behind_step x st before ≡ Some mid → Comes l shape addresses s (length (step_nodes (length before) st)) x mid
  step_comes s (Number n) [] mid here word finds few h e = with_stack s 1 (n ∷ []) mid e (put_first s (node (Plain plain.Movi) (v0 ∷ operand.Number n ∷ [])) n (λ t r. refl) word here h)
  step_comes s (Number n) (v ∷ rest) mid here word finds few h e =
      let room = ltb-true (suc (length rest)) 32 finds in
      with_stack s 2 (n ∷ v ∷ rest) mid e (put_further s (node (Plain plain.Movi) (v0 ∷ operand.Number n ∷ [])) n v rest (λ t r. refl) word (omega arith) here h)
  step_comes s Argument [] mid here word finds few h e = with_stack s 1 (x ∷ []) mid e (put_first s (node (Unary Mov) (v0 ∷ v1 ∷ [])) x (λ t r. rw r refl) h.word here h)
  step_comes s Argument (v ∷ rest) mid here word finds few h e =
      let room = ltb-true (suc (length rest)) 32 finds in
      with_stack s 2 (x ∷ v ∷ rest) mid e (put_further s (node (Unary Mov) (v0 ∷ v1 ∷ [])) x v rest (λ t r. rw r refl) h.word (omega arith) here h)
  step_comes s Negate [] mid here word finds few h e = absurd (none-some mid e)
  step_comes s Negate (a ∷ rest) mid here word finds few h e = with_stack s 1 (negated a ∷ rest) mid e (negate_comes s a rest here h)
  step_comes s (Operation op) [] mid here word finds few h e = absurd (none-some mid e)
  step_comes s (Operation op) (b ∷ []) mid here word finds few h e = absurd (none-some mid e)
  step_comes s (Operation op) (b ∷ a ∷ rest) mid here word finds few h e =
      let found = some_list (λ v. Some (v ∷ rest)) (binary_value op a b) mid e in
      with_stack s 2 (found.0 ∷ rest) mid found.2 (operate_comes s op a b found.0 rest found.1 (omega arith) here h)

long_after : (x : ℕ) (st : Step) (before mid : List ℕ) → behind_step x st before ≡ Some mid → length mid ≡ behind (length before) st
long_after x (Number n) before mid e = let same = ap length (same_Some (n ∷ before) mid e) in omega (arith, same)
long_after x Argument before mid e = let same = ap length (same_Some (x ∷ before) mid e) in omega (arith, same)
long_after x Negate [] mid e = absurd (none-some mid e)
long_after x Negate (a ∷ rest) mid e = sym (ap length (same_Some (negated a ∷ rest) mid e))
long_after x (Operation op) [] mid e = absurd (none-some mid e)
long_after x (Operation op) (b ∷ []) mid e = absurd (none-some mid e)
long_after x (Operation op) (b ∷ a ∷ rest) mid e = by_value (binary_value op a b) e where
  by_value : (o : Option ℕ) → option_and_then (λ v. Some (v ∷ rest)) o ≡ Some mid → length mid ≡ suc (suc (length rest)) - 1
  by_value None e = absurd (none-some mid e)
  by_value (Some v) e = let same = ap length (same_Some (v ∷ rest) mid e) in omega (arith, same)

most_after : (st : Step) (values : ℕ) → finds values st ≡ true → values ≤ 32 → behind values st ≤ 32
most_after (Number n) values h few = let room = ltb-true values 32 h in omega arith
most_after Argument values h few = let room = ltb-true values 32 h in omega arith
most_after Negate values h few = few
most_after (Operation op) values h few = omega arith

pub worked_out : NodesWorkExpressionsOut
unfolding iter
worked_out l shape addresses s x [] before after here words whole few h e =
    let P : List ℕ → Type 0 = λ stack. Holds x stack s in
    record { to = s; run = refl; at = (let z : s.at ≡ s.at + 0 = omega arith in z); holds = subst P (same_Some before after e) h }
worked_out l shape addresses s x (st ∷ steps) before after here words whole few h e =
    let values = length before in
    let found = some_list (after_steps x steps) (behind_step x st before) after e in
    let mid = found.0 in
    let both = and_parts (finds values st) (is_whole (behind values st) steps) whole in
    let apart = stand_apart l s.at (step_nodes values st) (nodes_of (behind values st) steps) here in
    let long : behind values st ≡ length mid = sym (long_after x st before mid found.1) in
    let rest_nodes : nodes_of (behind values st) steps ≡ nodes_of (length mid) steps = ap (λ k. nodes_of k steps) long in
    let W : ℕ → Type 0 = λ k. is_whole k steps ≡ true in
    let most = most_after st values both.0 few in
    let S : ℕ → List Node → Type 0 = λ k nodes. StandAt l k nodes in
    let first = step_comes l shape addresses x s st before mid apart.0 words.0 both.0 few h found.1 in
    let rest : (t : State) → t.at ≡ s.at + length (step_nodes values st) → Holds x mid t → Comes l shape addresses t (length (nodes_of (length mid) steps)) x after =
    λ t at holds. worked_out l shape addresses t x steps mid after (subst (S t.at) rest_nodes (stand_from l shape addresses x s t (length (step_nodes values st)) (nodes_of (behind values st) steps) at apart.1)) words.1
    (subst W long both.1) (omega (arith, long, most)) holds found.2 in
    let count : length (step_nodes values st) + length (nodes_of (length mid) steps) ≡ length (step_nodes values st ++ nodes_of (behind values st) steps) =
    ap (λ (ns : List Node). length (step_nodes values st) + length ns) (sym rest_nodes) ∙ sym (length-append (step_nodes values st) (nodes_of (behind values st) steps)) in
    let C : ℕ → Type 0 = λ n. Comes l shape addresses s n x after in
    subst C count (then_comes l shape addresses x s (length (step_nodes values st)) (length (nodes_of (length mid) steps)) mid after first rest)
