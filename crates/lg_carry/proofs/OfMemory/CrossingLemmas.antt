-- Code that goes straight on is crossed; and so are saves, code that is crossed, and restores.
use Rattle.std.proofs.Common.{◌≡◌, ◌≢◌, ℕ, ◌+◌, ◌-◌, ◌^◌, ◌<◌, ◌≤◌, inr, Bool, true, false, Option, List, [], ◌∷◌, ◌++◌, refl, sym, ap, ◌∙◌, subst, arith, ⊎_elim, length, length-append, append-nil, append_assoc, drop}
use Rattle.std.specs.Prelude.{◌==◌, ◌&&◌, not, is_some, if◌then◌else◌}
use Rattle.std.proofs.lemmas.Bool.{cases_eq}
use Rattle.lg_base.specs.Conventions.{frame_register, stack_register}
use Rattle.lg_base.specs.Layout.{spill_word, code_base, most_code}
use Rattle.lg_base.specs.Spaces.{stored}
use Rattle.lg_base.specs.declared.flags.Flags.{Flags}
use Rattle.lg_base.proofs.SpaceLemmas.{stored-out, loaded-stored}
use Rattle.lg_temp.specs.declared.choice.Choice.{Choice}
use Rattle.lg_temp.specs.declared.choice.Choice.TheVariants.{Free, Own, Spill}
use Rattle.lg_carry.specs.Registers.{HasWord}
use Rattle.lg_carry.specs.Rows.{Rows, AreRows}
use Rattle.lg_carry.specs.Processors.{Processor}
use Rattle.lg_carry.specs.Blocks.{done, spellings, IsBlock, GoesThrough, StaysOutside, IsAbove}
use Rattle.lg_carry.specs.Spills.{IsFramePointer, in_first_slots, IsSaved, with_register, IsRestored, AreSpills, Looks, Leaves, Work, Does, wrapped, AreInOrder, spilled, lost, KeepSpilled, KeepsFrame}
use Rattle.lg_carry.proofs.BlockLemmas.{behind as behind-front}
use Rattle.lg_carry.proofs.SpillLemmas.{stored-there, lost-none, other, slot-off}
use Rattle.lg_carry.proofs.WordLemmas.{word-kept}
use Rattle.lg_carry.specs.Nodes.Stretches.{StandsAt, behind, PassesIn}
use Rattle.lg_carry.proofs.OfNodes.StretchLemmas.{part-passes, passages-join, spelled-append, spelled-size, all-front, all-back}
use Rattle.lg_carry.proofs.OfNodes.StretchLemmas.{places-after as stretch-after}
use Rattle.lg_carry.specs.Memory.Crossings.{Crosses, CrossesCode, LeadsTo, Skips}
use Rattle.lg_carry.proofs.OfMemory.AfterLemmas.{more-slots}

-- what is passed within a part is passed within the whole
pub passes-within : {Q : Type 0} (P : Processor Q) (low high low' high' steps : ℕ) (q u : Q) → low' ≤ low → high ≤ high' → PassesIn P false low high steps q u → PassesIn P false low' high' steps q u
passes-within P low high low' high' steps q u le ge h = record {
  leads = h.leads;
  inside = λ j lt. let i = h.inside j lt in (omega (arith, le, i.0), omega (arith, ge, i.1));
  outside = h.outside;
  above = h.above;
  silent = h.silent;
  keeps = h.keeps;
}

-- ---- code that goes straight on
abbrev pub leaves-cross : {Q I : Type 0} (R : Rows Q I) (fits : I → Type 0) → AreRows R fits → (code : List I) (fp n : ℕ) (W : ℕ → ℕ) (M : ℕ → Option ℕ) (mark : ℕ) (flags : Flags) (T : ℕ → Bool) → IsBlock R.is_straight code
    → (q : Q) (from : ℕ) → StandsAt R false fits from code → (R.processor.seen q).pc ≡ from → Leaves R code fp n W M mark flags T q → Crosses R from (behind R from code) (length code) fp n W M mark flags T q
leaves-cross R fits ok code fp n W M mark flags T block q from k at l =
    let pass = part-passes R fits ok false from [] code [] q (subst (StandsAt R false fits from) (sym (append-nil code)) k) (at ∙ omega arith) block l.through in
    record {
      end = done R.does code q;
      steps = length code;
      few = omega arith;
      passes = subst (λ z. PassesIn R.processor false from (behind R from z) (length code) q (done R.does code q)) (append-nil code) pass;
      runs = l.runs;
      here = l.behind ∙ ap (λ z. z + length (spellings R.spelling code)) at;
      registers = l.registers;
      bytes = l.bytes;
      slots = l.slots;
      has_mark = l.has_mark;
      has_flags = l.has_flags;
    }

pub straight-crosses : {Q I : Type 0} (R : Rows Q I) (fits : I → Type 0) → AreRows R fits → (w : Work) (code : List I) (fp n : ℕ) (T : ℕ → Bool) → IsBlock R.is_straight code → Does R w code fp n T → CrossesCode R fits w code fp n T
straight-crosses R fits ok w code fp n T block does q from looks k high at =
    leaves-cross R fits ok code fp n w.end_registers w.end_bytes w.end_mark w.end_flags T block q from k at (does q looks record { low = omega (arith, at, k.low); high = omega (arith, at, high) })

-- what is between saves and restores is a block where all of it is one
block-tail : {I : Type 0} (straight : I → Bool) (x : I) (xs : List I) → IsBlock straight (x ∷ xs) → IsBlock straight xs
block-tail straight x [] h = tt
block-tail straight x (y ∷ xs) h = h.1

block-front : {I : Type 0} (straight : I → Bool) (xs ys : List I) → IsBlock straight (xs ++ ys) → IsBlock straight xs
block-front straight [] ys h = tt
block-front straight (x ∷ []) ys h = tt
block-front straight (x ∷ y ∷ xs) ys h = (h.0, block-front straight (y ∷ xs) ys h.1)

pub block-within : {Q I : Type 0} (R : Rows Q I) (choices : List Choice) (body : List I) → IsBlock R.is_straight (wrapped R choices body) → IsBlock R.is_straight body
block-within R [] body h = h
block-within R (Free r ∷ choices) body h = block-within R choices body h
block-within R (Own r ∷ choices) body h = block-within R choices body h
block-within R (Spill r k ∷ choices) body h =
    block-within R choices body (block-front R.is_straight (wrapped R choices body) (R.restore r k ∷ []) (block-tail R.is_straight (R.save r k) (wrapped R choices body ++ R.restore r k ∷ []) h))

-- after a part of the code another instruction may be
places-after : {Q I : Type 0} (R : Rows Q I) (fits : I → Type 0) → AreRows R fits → (from : ℕ) (xs ys : List I) → StandsAt R false fits from (xs ++ ys) → R.is_place (behind R from xs) ≡ true
places-after R fits ok from xs ys k = stretch-after R fits ok xs from (all-front fits xs ys k.fit) k.place

part-stands : {Q I : Type 0} (R : Rows Q I) (fits : I → Type 0) → AreRows R fits → (from : ℕ) (front part back : List I) → StandsAt R false fits from (front ++ (part ++ back)) → StandsAt R false fits (behind R from front) part
part-stands R fits ok from front part back k =
    let front-bytes = spellings R.spelling front in
    let part-bytes = spellings R.spelling part in
    let back-bytes = spellings R.spelling back in
    let split = spelled-append R.spelling front (part ++ back) ∙ ap (λ z. front-bytes ++ z) (spelled-append R.spelling part back) in
    let here : drop (from - code_base) R.code ≡ front-bytes ++ ((part-bytes ++ back-bytes) ++ k.more) = k.stands ∙ ap (λ z. z ++ k.more) split ∙ append_assoc front-bytes (part-bytes ++ back-bytes) k.more in
    record {
      low = omega (arith, k.low);
      place = places-after R fits ok from front (part ++ back) k;
      more = back-bytes ++ k.more;
      stands = behind-front R (from - code_base) (behind R from front - code_base) front-bytes ((part-bytes ++ back-bytes) ++ k.more) here (omega (arith, k.low)) ∙ append_assoc part-bytes back-bytes k.more;
      fit = all-front fits part back (all-back fits front (part ++ back) k.fit);
      outside = all-front (StaysOutside R false) part back (all-back (StaysOutside R false) front (part ++ back) k.outside);
    }

-- ---- a part of code that stands somewhere
module _ {Q I : Type 0} (R : Rows Q I) (fits : I → Type 0) (ok : AreRows R fits) where
  pub piece-passes : (from : ℕ) (code front part back : List I) (q : Q) → code ≡ front ++ (part ++ back) → StandsAt R false fits from code → (R.processor.seen q).pc ≡ behind R from front → IsBlock R.is_straight part
      → GoesThrough R.does R.processor.machine.status (IsAbove R) part q → PassesIn R.processor false from (behind R from code) (length part) q (done R.does part q)
  piece-passes from code front part back q e k at block through =
      subst (λ z. PassesIn R.processor false from (behind R from z) (length part) q (done R.does part q)) (sym e)
      (part-passes R fits ok false from front part back q (subst (StandsAt R false fits from) e k) at block through)

  -- ---- two ways
  -- front, a branch b over what is slow and a jump j after what is fast
  abbrev forked : List I → I → List I → I → List I → List I
  forked front b slow j fast = front ++ (b ∷ (slow ++ (j ∷ fast)))

  module _ (w : Work) (V : ℕ → ℕ) (front slow fast : List I) (b j : I) (fp n : ℕ) (T : ℕ → Bool) (aligned : Bool) (most : n ≤ 5)
      (front-block : IsBlock R.is_straight front) (slow-block : IsBlock R.is_straight slow) (fast-block : IsBlock R.is_straight fast)
      (first : Does R (record w { end_registers = V; end_bytes = w.bytes; end_mark = w.mark; end_flags = w.flags }) front fp 5 (λ r. false))
      (branches : Skips R b V (if aligned then length (spellings R.spelling (slow ++ (j ∷ []))) else 0))
      (jumps : (registers : ℕ → ℕ) → Skips R j registers (length (spellings R.spelling fast)))
      (slowly : aligned ≡ false → Does R (record w { registers = V }) slow fp n T)
      (fastly : aligned ≡ true → Does R (record w { registers = V }) fast fp n T)
      (q : Q) (from : ℕ) (looks : Looks R fp w.registers w.bytes w.mark w.flags q) (k : StandsAt R false fits from (forked front b slow j fast))
      (high : behind R from (forked front b slow j fast) ≤ code_base + most_code) (at : (R.processor.seen q).pc ≡ from) where
    abbrev code : List I
    code = forked front b slow j fast

    abbrev size : List I → ℕ
    size is = length (spellings R.spelling is)

    sizes : size code ≡ size front + (length (R.spelling b) + (size slow + (length (R.spelling j) + size fast)))
    sizes =
        let m = spelled-size R.spelling front (b ∷ (slow ++ (j ∷ fast))) in
        let n = length-append (R.spelling b) (spellings R.spelling (slow ++ (j ∷ fast))) in
        let o = spelled-size R.spelling slow (j ∷ fast) in
        let p = length-append (R.spelling j) (spellings R.spelling fast) in
        omega (arith, m, n, o, p)

    a : Leaves R front fp 5 V w.bytes w.mark w.flags (λ r. false) q
    a = first q looks record { low = omega (arith, at, k.low); high = omega (arith, at, high, sizes) }

    abbrev q1 : Q
    q1 = done R.does front q

    here1 : (R.processor.seen q1).pc ≡ behind R from front
    here1 = a.behind ∙ ap (λ z. z + size front) at

    pass1 : PassesIn R.processor false from (behind R from code) (length front) q q1
    pass1 = piece-passes from code [] front (b ∷ (slow ++ (j ∷ fast))) q refl k (at ∙ omega arith) front-block a.through

    place1 : R.is_place (R.processor.seen q1).pc ≡ true
    place1 = subst (λ z. R.is_place z ≡ true) (sym here1) (places-after R fits ok from front (b ∷ (slow ++ (j ∷ fast))) k)

    abbrev over : ℕ
    over = if aligned then size (slow ++ (j ∷ [])) else 0

    over-few : (R.processor.seen q1).pc + length (R.spelling b) + over ≤ code_base + most_code
    over-few = by aligned
      where
        by : (c : Bool) → (R.processor.seen q1).pc + length (R.spelling b) + (if c then size (slow ++ (j ∷ [])) else 0) ≤ code_base + most_code
        by true = let m = spelled-size R.spelling slow (j ∷ []) in let o = length-append (R.spelling j) [] in omega (arith, here1, high, sizes, m, o)
        by false = omega (arith, here1, high, sizes)

    l : LeadsTo R b q1 ((R.processor.seen q1).pc + length (R.spelling b) + over)
    l = branches q1 a.runs (λ r. a.registers r refl) (omega (arith, here1, k.low)) place1 over-few

    abbrev q2 : Q
    q2 = R.does b q1

    pass2 : PassesIn R.processor false from (behind R from code) (length front + 1) q q2
    pass2 = passages-join R.processor false from (behind R from code) (length front) 1 q q1 q2 pass1 (piece-passes from code front (b ∷ []) (slow ++ (j ∷ fast)) q1 refl k here1 tt (a.runs, l.above, tt))

    looks2 : Looks R fp V w.bytes w.mark w.flags q2
    looks2 = record {
      runs = l.runs;
      has_registers = λ r. l.registers r ∙ a.registers r refl;
      has_bytes = λ x off. l.bytes x ∙ a.bytes x off;
      has_slots = λ x on. ap is_some (l.bytes x) ∙ ap is_some (a.slots x on) ∙ looks.has_slots x on;
      has_mark = l.has_mark ∙ a.has_mark;
      has_flags = l.has_flags ∙ a.has_flags;
    }

    slots2 : (x : ℕ) → in_first_slots fp n x ≡ true → (R.processor.seen q2).bytes x ≡ (R.processor.seen q).bytes x
    slots2 x on = l.bytes x ∙ a.slots x (more-slots fp n x most on)

    abbrev Result : Type 0
    Result = Crosses R from (behind R from code) (length code) fp n w.end_registers w.end_bytes w.end_mark w.end_flags T q

    lengths : length code ≡ length front + (1 + (length slow + (1 + length fast)))
    lengths = let m = length-append front (b ∷ (slow ++ (j ∷ fast))) in let o = length-append slow (j ∷ fast) in omega (arith, m, o)

    -- the fast way
    goes-fast : aligned ≡ true → Result
    goes-fast even =
        let before = (front ++ (b ∷ [])) ++ (slow ++ (j ∷ [])) in
        let m = spelled-size R.spelling slow (j ∷ []) in
        let o = length-append (R.spelling j) [] in
        let over-is : over ≡ size slow + length (R.spelling j) = ap (λ c. if c then size (slow ++ (j ∷ [])) else 0) even ∙ omega (arith, m, o) in
        let s = spelled-size R.spelling (front ++ (b ∷ [])) (slow ++ (j ∷ [])) in
        let t = spelled-size R.spelling front (b ∷ []) in
        let v = length-append (R.spelling b) [] in
        let here2 : (R.processor.seen q2).pc ≡ behind R from before = l.here ∙ omega (arith, here1, over-is, m, o, s, t, v) in
        let split : code ≡ before ++ (fast ++ []) = sym (ap (λ z. before ++ z) (append-nil fast) ∙ append_assoc (front ++ (b ∷ [])) (slow ++ (j ∷ [])) fast ∙ append_assoc front (b ∷ []) ((slow ++ (j ∷ [])) ++ fast) ∙ ap (λ z. front ++ (b ∷ z)) (append_assoc slow (j ∷ []) fast)) in
        let f = fastly even q2 looks2 record { low = omega (arith, here2, k.low); high = omega (arith, here2, high, sizes, m, o, s, t, v) } in
        let q3 = done R.does fast q2 in
        record {
          end = q3;
          steps = length front + 1 + length fast;
          few = omega (arith, lengths);
          passes = passages-join R.processor false from (behind R from code) (length front + 1) (length fast) q q2 q3 pass2 (piece-passes from code before fast [] q2 split k here2 fast-block f.through);
          runs = f.runs;
          here = f.behind ∙ omega (arith, here2, sizes, m, o, s, t, v);
          registers = f.registers;
          bytes = f.bytes;
          slots = λ x on. f.slots x on ∙ slots2 x on;
          has_mark = f.has_mark;
          has_flags = f.has_flags;
        }

    -- the slow way
    goes-slow : aligned ≡ false → Result
    goes-slow odd =
        let before = front ++ (b ∷ []) in
        let t = spelled-size R.spelling front (b ∷ []) in
        let v = length-append (R.spelling b) [] in
        let over-is : over ≡ 0 = ap (λ c. if c then size (slow ++ (j ∷ [])) else 0) odd in
        let here2 : (R.processor.seen q2).pc ≡ behind R from before = l.here ∙ omega (arith, here1, over-is, t, v) in
        let split : code ≡ before ++ (slow ++ (j ∷ fast)) = sym (append_assoc front (b ∷ []) (slow ++ (j ∷ fast))) in
        let f = slowly odd q2 looks2 record { low = omega (arith, here2, k.low); high = omega (arith, here2, high, sizes, t, v) } in
        let q3 = done R.does slow q2 in
        let pass3 = passages-join R.processor false from (behind R from code) (length front + 1) (length slow) q q2 q3 pass2 (piece-passes from code before slow (j ∷ fast) q2 split k here2 slow-block f.through) in
        let here3 : (R.processor.seen q3).pc ≡ behind R from (before ++ slow) = (let s = spelled-size R.spelling before slow in f.behind ∙ omega (arith, here2, s)) in
        let last : code ≡ (before ++ slow) ++ ((j ∷ []) ++ fast) = split ∙ sym (append_assoc before slow (j ∷ fast)) in
        let s = spelled-size R.spelling before slow in
        let u = jumps (R.processor.seen q3).registers q3 f.runs (λ r. refl) (omega (arith, here3, k.low)) (subst (λ z. R.is_place z ≡ true) (sym here3) (places-after R fits ok from (before ++ slow) (j ∷ fast) (subst (StandsAt R false fits from) last k))) (omega (arith, here3, high, sizes, s, t, v)) in
        let q4 = R.does j q3 in
        record {
          end = q4;
          steps = length front + 1 + length slow + 1;
          few = omega (arith, lengths);
          passes = passages-join R.processor false from (behind R from code) (length front + 1 + length slow) 1 q q3 q4 pass3 (piece-passes from code (before ++ slow) (j ∷ []) fast q3 last k here3 tt (f.runs, u.above, tt));
          runs = u.runs;
          here = u.here ∙ omega (arith, here3, sizes, s, t, v);
          registers = λ r free. u.registers r ∙ f.registers r free;
          bytes = λ x off. u.bytes x ∙ f.bytes x off;
          slots = λ x on. u.bytes x ∙ f.slots x on ∙ slots2 x on;
          has_mark = u.has_mark ∙ f.has_mark;
          has_flags = u.has_flags ∙ f.has_flags;
        }

    pub fork-crosses : Result
    fork-crosses = by aligned refl
      where
        by : (c : Bool) → aligned ≡ c → Result
        by true e = goes-fast e
        by false e = goes-slow e

-- ---- saves, code that is crossed, and restores
slot-first : (fp k a : ℕ) → k < 5 → 128 ≤ fp → spill_word fp k ≤ a → a < spill_word fp k + 8 → in_first_slots fp (k + 1) a ≡ true
slot-first fp k a few low le lt = grind arith

slot-below : (fp k a : ℕ) → k < 5 → 128 ≤ fp → in_first_slots fp k a ≡ true → spill_word fp k + 8 ≤ a
slot-below fp k a few low e = grind arith

slot-more : (fp k a : ℕ) → k < 5 → 128 ≤ fp → in_first_slots fp k a ≡ true → in_first_slots fp (k + 1) a ≡ true
slot-more fp k a few low e = grind arith

module _ {Q I : Type 0} (R : Rows Q I) (fits : I → Type 0) (rows : AreRows R fits) (ok : AreSpills R) where
  around : (w : Work) (code : List I) (r k fp : ℕ) (T : ℕ → Bool) → IsFramePointer fp → ((x : ℕ) → w.registers x < 2 ^ 64) → k < 5 → R.can_save r ≡ true → w.end_registers r ≡ w.registers r
      → KeepsFrame w T (frame_register R.processor.target) (stack_register R.processor.target) fp → CrossesCode R fits w code fp (k + 1) T → CrossesCode R fits w (R.save r k ∷ (code ++ R.restore r k ∷ [])) fp k (λ x. T x && not (x == r))
  around w code r k fp T f words few can same keeps crosses q from looks stands high at = record {
    end = q3;
    steps = 1 + e.steps + 1;
    few = let l = length-append code (R.restore r k ∷ []) in let m = e.few in omega (arith, l, m);
    passes = passages-join R.processor false from (behind R from (R.save r k ∷ (code ++ R.restore r k ∷ []))) (1 + e.steps) 1 q q2 q3
        (passages-join R.processor false from (behind R from (R.save r k ∷ (code ++ R.restore r k ∷ []))) 1 e.steps q q1 q2
        (piece-passes R fits rows from (R.save r k ∷ (code ++ R.restore r k ∷ [])) [] (R.save r k ∷ []) (code ++ R.restore r k ∷ []) q refl stands (at ∙ omega arith) tt (looks.runs, s.above, tt))
        (passes-within R.processor (behind R from (R.save r k ∷ [])) (behind R (behind R from (R.save r k ∷ [])) code) from (behind R from (R.save r k ∷ (code ++ R.restore r k ∷ []))) e.steps q1 q2 (omega arith) (omega (arith, first, after)) e.passes))
        (piece-passes R fits rows from (R.save r k ∷ (code ++ R.restore r k ∷ [])) (R.save r k ∷ code) (R.restore r k ∷ []) [] q2 refl stands here2 tt (e.runs, x.above, tt));
    runs = x.runs;
    here = x.behind ∙ omega (arith, here2, first, after, fronts);
    registers = back;
    bytes = λ a off. x.bytes a ∙ e.bytes a off;
    slots = λ a on. x.bytes a ∙ e.slots a (slot-more fp k a few low on) ∙ s.bytes a ∙ stored-out (R.processor.seen q).bytes (spill_word fp k) 8 value a (inr (slot-below fp k a few low on));
    has_mark = x.marks.0 ∙ e.has_mark;
    has_flags = x.marks.1 ∙ e.has_flags;
  }
    where
      first : length (spellings R.spelling (R.save r k ∷ (code ++ R.restore r k ∷ []))) ≡ length (spellings R.spelling (R.save r k ∷ [])) + length (spellings R.spelling (code ++ R.restore r k ∷ []))
      first = spelled-size R.spelling (R.save r k ∷ []) (code ++ R.restore r k ∷ [])

      after : length (spellings R.spelling (code ++ R.restore r k ∷ [])) ≡ length (spellings R.spelling code) + length (spellings R.spelling (R.restore r k ∷ []))
      after = spelled-size R.spelling code (R.restore r k ∷ [])

      fronts : length (spellings R.spelling (R.save r k ∷ code)) ≡ length (spellings R.spelling (R.save r k ∷ [])) + length (spellings R.spelling code)
      fronts = spelled-size R.spelling (R.save r k ∷ []) code

      low : 128 ≤ fp
      low = omega (arith, f.low)

      value : ℕ
      value = (R.processor.seen q).registers r

      q1 : Q
      q1 = R.does (R.save r k) q

      s : IsSaved R r k fp q q1
      s = ok.saves q r k fp can few f looks.runs record { low = omega (arith, at, stands.low); high = omega (arith, at, high, first) } (let z = looks.has_registers (stack_register R.processor.target) in let y = keeps.room_before in omega (arith, z, y)) (looks.has_registers (frame_register R.processor.target) ∙ keeps.before) looks.has_slots

      looks1 : Looks R fp w.registers w.bytes w.mark w.flags q1
      looks1 = record {
        runs = s.runs;
        has_registers = λ y. s.registers y ∙ looks.has_registers y;
        has_bytes = λ a off. s.bytes a ∙ stored-out (R.processor.seen q).bytes (spill_word fp k) 8 value a (slot-off fp k a few low off) ∙ looks.has_bytes a off;
        has_slots = λ a on. ap is_some (s.bytes a) ∙ stored-there (R.processor.seen q).bytes (spill_word fp k) 8 value a (looks.has_slots a on);
        has_mark = s.marks.0 ∙ looks.has_mark;
        has_flags = s.marks.1 ∙ looks.has_flags;
      }

      inner : StandsAt R false fits (behind R from (R.save r k ∷ [])) code
      inner = part-stands R fits rows from (R.save r k ∷ []) code (R.restore r k ∷ []) stands

      e : Crosses R (behind R from (R.save r k ∷ [])) (behind R (behind R from (R.save r k ∷ [])) code) (length code) fp (k + 1) w.end_registers w.end_bytes w.end_mark w.end_flags T q1
      e = crosses q1 (behind R from (R.save r k ∷ [])) looks1 inner (omega (arith, high, first, after)) (s.behind ∙ ap (λ z. z + length (spellings R.spelling (R.save r k ∷ []))) at)

      q2 : Q
      q2 = e.end

      here2 : (R.processor.seen q2).pc ≡ behind R from (R.save r k ∷ code)
      here2 = e.here ∙ omega (arith, fronts)

      q3 : Q
      q3 = R.does (R.restore r k) q2

      held : HasWord (R.processor.seen q2).bytes (spill_word fp k) value
      held = word-kept (stored (R.processor.seen q).bytes (spill_word fp k) 8 value) (R.processor.seen q2).bytes (spill_word fp k) value
          (λ j le lt. e.slots j (slot-first fp k j few low le lt) ∙ s.bytes j)
          (loaded-stored (R.processor.seen q).bytes (spill_word fp k) 8 value (let v = words r in let h = looks.has_registers r in omega (arith, v, h)))

      x : IsRestored R r k value q2 q3
      x = ok.restores q2 r k fp value can few f e.runs record { low = omega (arith, here2, stands.low); high = omega (arith, here2, high, first, after, fronts) } (let z = e.registers (stack_register R.processor.target) keeps.stack_unspoiled in let y = keeps.room_after in omega (arith, z, y)) (e.registers (frame_register R.processor.target) keeps.unspoiled ∙ keeps.behind) held

      back : (y : ℕ) → (T y && not (y == r)) ≡ false → (R.processor.seen q3).registers y ≡ w.end_registers y
      back y keep = ⊎_elim (λ (z : y ≡ r). x.registers y ∙ (let h : with_register (R.processor.seen q2).registers r value y ≡ value = grind (arith, z) in h) ∙ looks.has_registers r ∙ sym same ∙ ap w.end_registers (sym z)) (λ (ne : y ≢ r). x.registers y ∙ (let h : with_register (R.processor.seen q2).registers r value y ≡ (R.processor.seen q2).registers y = grind (arith, ne) in h) ∙ e.registers y (other T r y keep ne)) (cases_eq y r)

  below : (choices : List Choice) (n : ℕ) → AreInOrder R n choices → n ≤ 5
  below [] n h = h
  below (Free x ∷ choices) n h = below choices n h
  below (Own x ∷ choices) n h = below choices n h
  below (Spill x k ∷ choices) n h = omega (arith, below choices (n + 1) h.2)

  pub saves-cross : (choices : List Choice) (w : Work) (body : List I) (fp n : ℕ) (T : ℕ → Bool) → IsFramePointer fp → ((r : ℕ) → w.registers r < 2 ^ 64) → AreInOrder R n choices
      → KeepSpilled choices w.end_registers w.registers → KeepsFrame w T (frame_register R.processor.target) (stack_register R.processor.target) fp → CrossesCode R fits w body fp (n + spilled choices) T → CrossesCode R fits w (wrapped R choices body) fp n (lost choices T)
  saves-cross [] w body fp n T f words order keep frame crosses = subst (λ m. CrossesCode R fits w body fp m T) (let z : n + 0 ≡ n = omega arith in z) crosses
  saves-cross (Free x ∷ choices) w body fp n T f words order keep frame crosses = saves-cross choices w body fp n T f words order keep frame crosses
  saves-cross (Own x ∷ choices) w body fp n T f words order keep frame crosses = saves-cross choices w body fp n T f words order keep frame crosses
  saves-cross (Spill x k ∷ choices) w body fp n T f words order keep frame crosses =
      let z : n + (spilled choices + 1) ≡ n + 1 + spilled choices = omega arith in
      let b : n < 5 = omega (arith, below choices (n + 1) order.2) in
      let inner = saves-cross choices w body fp (n + 1) T f words order.2 keep.1 frame (subst (λ m. CrossesCode R fits w body fp m T) z crosses) in
      let outer = around w (wrapped R choices body) x n fp (lost choices T) f words b order.1 keep.0 record { before = frame.before; behind = frame.behind; unspoiled = lost-none R ok choices T (frame_register R.processor.target) frame.unspoiled; room_before = frame.room_before; room_after = frame.room_after; stack_unspoiled = lost-none R ok choices T (stack_register R.processor.target) frame.stack_unspoiled } inner in
      subst (λ m. CrossesCode R fits w (R.save x m ∷ (wrapped R choices body ++ R.restore x m ∷ [])) fp n (lost (Spill x k ∷ choices) T)) (sym order.0) outer
