-- Registers that are stored one below the other, below the stack pointer.
use Rattle.std.proofs.Common.{◌≡◌, ℕ, zero, suc, ◌+◌, ◌-◌, ◌*◌, ◌^◌, ◌<◌, ◌≤◌, ◌⊎◌, inl, inr, Bool, true, false, List, [], ◌∷◌, ◌++◌, Option, refl, sym, ap, ◌∙◌, subst, arith}
use Rattle.std.proofs.Common.{length, length-append, append_assoc}
use Rattle.std.specs.Prelude.{◌==◌, not, pos, slice_index, is_some, min, take, if◌then◌else◌}
use Rattle.std.specs.List.{list_all}
use Rattle.std.proofs.lemmas.Bool.{and_from, and_parts}
use Rattle.std.proofs.lemmas.List.{length-take, take_min}
use Rattle.lg_base.specs.Fields.{word_of}
use Rattle.lg_base.specs.Parts.{stack_base}
use Rattle.lg_base.specs.Spaces.{mapped, stored}
use Rattle.lg_base.specs.Words.{add_words}
use Rattle.lg_base.specs.Conventions.{argument_registers, portable_register}
use Rattle.lg_base.specs.declared.flags.Flags.{Flags}
use Rattle.lg_base.specs.declared.target.Target.{Target}
use Rattle.lg_base.proofs.SpaceLemmas.{mapped-all, loaded-stored, stored-out}
use Rattle.lg_cells.specs.Cells.{within}
use Rattle.lg_cpu.specs.HostSteps.{put}
use Rattle.lg_cpu.specs.States.{CpuState, arrives}
use Rattle.lg_cpu.specs.Steps.{Effect, Run, after}
use Rattle.lg_carry.specs.Registers.{HasWord}
use Rattle.lg_carry.proofs.KeptLemmas.{registers-few}
use Rattle.lg_carry.proofs.SpillLemmas.{stored-there}
use Rattle.lg_carry.proofs.WordLemmas.{word-kept}
use Rattle.lg_sel.specs.Holes.{Holes, words_in, ones}
use Rattle.lg_sel.proofs.ListLemmas.{words_append, ones-append, words-ones}
use Rattle.lg_sel.specs.Control.Stores.{kept_registers, first_registers, home_registers, stores_below}
use Rattle.lg_sel.proofs.OfControl.ChainLemmas.{RunsAt, next-at, Chain, chain-more}

-- ---- how many there are
-- at most five, and at most eight homes
pub first-few : (target : Target) (link saved : ℕ) → length (first_registers target link saved) ≤ 5
first-few target link saved =
    let e = length-take saved (portable_register target 3 ∷ portable_register target 4 ∷ portable_register target 5 ∷ []) in omega (arith, e)

-- and no more than are asked for
pub kept-most : (target : Target) (saved : ℕ) → length (kept_registers target saved) ≤ saved
kept-most target saved =
    let e = length-take saved (portable_register target 3 ∷ portable_register target 4 ∷ portable_register target 5 ∷ []) in omega (arith, e)

pub first-most : (target : Target) (link saved : ℕ) → length (first_registers target link saved) ≤ 2 + saved
first-most target link saved = let e = kept-most target saved in omega (arith, e)

pub homes-few : (target : Target) (homes : ℕ) → length (home_registers target homes) ≤ 8
homes-few target homes = let eight = registers-few target in let e = length-take homes (argument_registers target) in omega (arith, eight, e)

-- what holds of all holds of the first
pub take-all : (p : ℕ → Bool) (rs : List ℕ) (n : ℕ) → list_all p rs ≡ true → list_all p (take n rs) ≡ true
take-all p rs zero h = refl
take-all p [] (suc n) h = refl
take-all p (r ∷ rs) (suc n) h =
    let e = and_parts (p r) (list_all p rs) h in
    and_from (p r) (list_all p (take n rs)) e.0 (take-all p rs n e.1)

module _ {I : Type 0} (store : ℕ → ℕ → I) where
  pub stores-long : (rs : List ℕ) (k : ℕ) → length (stores_below store rs k) ≡ length rs
  stores-long [] k = refl
  stores-long (r ∷ rs) k = ap suc (stores-long rs (suc k))

  pub stores-before : (rs : List ℕ) (k : ℕ) (rest : List I) → length (stores_below store rs k ++ rest) ≡ length rs + length rest
  stores-before rs k rest =
      let both = length-append (stores_below store rs k) rest in let long = stores-long rs k in omega (arith, both, long)

  pub stores-all : (p : I → Bool) → ((r k : ℕ) → p (store r k) ≡ true) → (rs : List ℕ) (k : ℕ) (rest : List I) → list_all p rest ≡ true
      → list_all p (stores_below store rs k ++ rest) ≡ true
  stores-all p each [] k rest h = h
  stores-all p each (r ∷ rs) k rest h =
      and_from (p (store r k)) (list_all p (stores_below store rs (suc k) ++ rest)) (each r k) (stores-all p each rs (suc k) rest h)

  -- the first stores are those of the first registers
  pub stores-taken : (rs : List ℕ) (n k : ℕ) → take n (stores_below store rs k) ≡ stores_below store (take n rs) k
  stores-taken rs zero k = refl
  stores-taken [] (suc n) k = refl
  stores-taken (r ∷ rs) (suc n) k = ap (λ xs. store r k ∷ xs) (stores-taken rs n (suc k))

  -- this many, where there are that many registers
  pub first-stores : (rs : List ℕ) (n most k : ℕ) → length rs ≡ most → take (min n most) (stores_below store rs k) ≡ stores_below store (take n rs) k
  first-stores rs n most k long =
      stores-taken rs (min n most) k
      ∙ ap (λ m. stores_below store (take (min n m) rs) k) (sym long) ∙ ap (λ xs. stores_below store xs k) (take_min n rs)

-- word k below the stack pointer
abbrev pub word_below : ℕ → ℕ → ℕ
word_below sp k = sp - (8 + 8 * k)

-- the bytes with registers stored, from word k on
abbrev pub with_stored : (ℕ → Option ℕ) → (ℕ → ℕ) → ℕ → List ℕ → ℕ → ℕ → Option ℕ
with_stored m w sp [] k = m
with_stored m w sp (r ∷ rs) k = with_stored (stored m (word_below sp k) 8 (w r)) w sp rs (suc k)

-- by a pointer that lies so much lower
pub address-above : (sp first k : ℕ) → k < 13 → 104 ≤ first → first ≤ 2048 → 0x3FF00010 + 272 ≤ sp → sp ≤ 0x40000000
    → add_words (sp - first) (word_of (pos (first - (8 + 8 * k)))) ≡ word_below sp k
address-above sp first k few least most low high = grind (arith, few, least, most, low, high)

in-stack : (sp k j : ℕ) → k < 13 → 0x3FF00010 + 272 ≤ sp → sp ≤ 0x40000000 → word_below sp k ≤ j → j < word_below sp k + 8
    → within stack_base 0x100000 j ≡ true
in-stack sp k j few low high le lt = grind (arith, few, low, high, le, lt)

-- the stack is there whole
abbrev pub HasStack : (ℕ → Option ℕ) → Type 0
HasStack m = (j : ℕ) → within stack_base 0x100000 j ≡ true → is_some (m j) ≡ true

pub mapped-below : (m : ℕ → Option ℕ) (sp k : ℕ) → k < 13 → 0x3FF00010 + 272 ≤ sp → sp ≤ 0x40000000 → HasStack m → mapped m (word_below sp k) 8 ≡ true
mapped-below m sp k few low high there = mapped-all m (word_below sp k) 8 (λ j le lt. there j (in-stack sp k j few low high le lt))

-- ---- where the words are
module _ (sp : ℕ) (low : 0x3FF00010 + 272 ≤ sp) where
  pub stored-off : (rs : List ℕ) (k : ℕ) (m : ℕ → Option ℕ) (w : ℕ → ℕ) (a : ℕ) → k + length rs ≤ 13 → (a + 8 * (k + length rs) < sp) ⊎ (sp ≤ a + 8 * k)
      → with_stored m w sp rs k a ≡ m a
  stored-off [] k m w a few h = refl
  stored-off (r ∷ rs) k m w a few (inl h) =
      stored-off rs (suc k) (stored m (word_below sp k) 8 (w r)) w a (omega (arith, few)) (inl (omega (arith, h)))
      ∙ stored-out m (word_below sp k) 8 (w r) a (inl (omega (arith, h, low, few)))
  stored-off (r ∷ rs) k m w a few (inr h) =
      stored-off rs (suc k) (stored m (word_below sp k) 8 (w r)) w a (omega (arith, few)) (inr (omega (arith, h)))
      ∙ stored-out m (word_below sp k) 8 (w r) a (inr (omega (arith, h, low, few)))

  pub stored-word : (rs : List ℕ) (k j : ℕ) (m : ℕ → Option ℕ) (w : ℕ → ℕ) → k + length rs ≤ 13 → ((r : ℕ) → w r < 2 ^ 64) → j < length rs
      → HasWord (with_stored m w sp rs k) (word_below sp (k + j)) (w (slice_index rs j))
  stored-word [] k j m w few words lt = absurd (omega (arith, lt))
  stored-word (r ∷ rs) k zero m w few words lt =
      let z : k ≡ k + 0 = omega arith in
      let held : HasWord (stored m (word_below sp k) 8 (w r)) (word_below sp k) (w r) = loaded-stored m (word_below sp k) 8 (w r) (words r) in
      subst (λ x. HasWord (with_stored m w sp (r ∷ rs) k) (word_below sp x) (w r)) z
      (word-kept (stored m (word_below sp k) 8 (w r)) (with_stored m w sp (r ∷ rs) k) (word_below sp k) (w r)
      (λ a le l. stored-off rs (suc k) (stored m (word_below sp k) 8 (w r)) w a (omega (arith, few)) (inr (omega (arith, le, low, few)))) held)
  stored-word (r ∷ rs) k (suc j) m w few words lt =
      let z : suc k + j ≡ k + suc j = omega arith in
      subst (λ x. HasWord (with_stored m w sp (r ∷ rs) k) (word_below sp x) (w (slice_index rs j))) z
      (stored-word rs (suc k) j (stored m (word_below sp k) 8 (w r)) w (omega (arith, few)) words (omega (arith, lt)))

-- ---- what they hold
is-other : (b : Bool) → not b ≡ true → b ≡ false
is-other true h = cc
is-other false h = refl

-- one that is none of them may be set before
pub stored-besides : (w : ℕ → ℕ) (to x sp : ℕ) (rs : List ℕ) (k : ℕ) (m : ℕ → Option ℕ) → list_all (λ r. not (r == to)) rs ≡ true
    → with_stored m (put w to x) sp rs k ≡ with_stored m w sp rs k
stored-besides w to x sp [] k m h = refl
stored-besides w to x sp (r ∷ rs) k m h =
    let p = and_parts (not (r == to)) (list_all (λ s. not (s == to)) rs) h in
    let value : put w to x r ≡ w r = ap (λ b. if b then x else w r) (is-other (r == to) p.0) in
    ap (λ v. with_stored (stored m (word_below sp k) 8 v) (put w to x) sp rs (suc k)) value
    ∙ stored-besides w to x sp rs (suc k) (stored m (word_below sp k) 8 (w r)) p.1

-- ---- the run after instructions that store them, each of which leaves flags
abbrev pub store_one : (Flags → Flags) → ℕ → Run CpuState → ℕ → ℕ → Run CpuState
store_one left sp q r k =
    after q (arrives (add_words q.state.pc 4) q.state.registers (left q.state.flags) (stored q.state.bytes (word_below sp k) 8 (q.state.registers r)) q.state.mark)

abbrev pub run_stored : (Flags → Flags) → ℕ → Run CpuState → List ℕ → ℕ → Run CpuState
run_stored left sp q [] k = q
run_stored left sp q (r ∷ rs) k = run_stored left sp (store_one left sp q r k) rs (suc k)

module _ (left : Flags → Flags) (sp : ℕ) where
  pub stored-at : (rs : List ℕ) (k base n j : ℕ) (q : Run CpuState) → j + length rs ≤ n → RunsAt base n j q
      → RunsAt base n (j + length rs) (run_stored left sp q rs k)
  stored-at [] k base n j q room at = subst (λ x. RunsAt base n x q) (omega arith) at
  stored-at (r ∷ rs) k base n j q room at =
      subst (λ x. RunsAt base n x (run_stored left sp (store_one left sp q r k) rs (suc k))) (omega arith)
      (stored-at rs (suc k) base n (suc j) (store_one left sp q r k) (omega (arith, room)) (next-at base n j q _ _ _ _ (omega (arith, room)) at))

  pub stored-registers : (rs : List ℕ) (k : ℕ) (q : Run CpuState) → (run_stored left sp q rs k).state.registers ≡ q.state.registers
  stored-registers [] k q = refl
  stored-registers (r ∷ rs) k q = stored-registers rs (suc k) (store_one left sp q r k)

  pub stored-mark : (rs : List ℕ) (k : ℕ) (q : Run CpuState) → (run_stored left sp q rs k).state.mark ≡ q.state.mark
  stored-mark [] k q = refl
  stored-mark (r ∷ rs) k q = stored-mark rs (suc k) (store_one left sp q r k)

  pub stored-bytes : (rs : List ℕ) (k : ℕ) (q : Run CpuState)
      → (run_stored left sp q rs k).state.bytes ≡ with_stored q.state.bytes q.state.registers sp rs k
  stored-bytes [] k q = refl
  stored-bytes (r ∷ rs) k q = stored-bytes rs (suc k) (store_one left sp q r k)

-- ---- the instructions
module _ {I : Type 0} (act : I → CpuState → Effect CpuState) (above : I → CpuState → Type 0) (store : ℕ → ℕ → I) (left : Flags → Flags) (can : ℕ → Bool) (pointer at-pointer sp : ℕ)
    (acts : (q : CpuState) (r k : ℕ) → k < 13 → can r ≡ true → q.registers pointer ≡ at-pointer → HasStack q.bytes
    → act (store r k) q ≡ arrives (add_words q.pc 4) q.registers (left q.flags) (stored q.bytes (word_below sp k) 8 (q.registers r)) q.mark)
    (highs : (q : CpuState) (r k : ℕ) → k < 13 → q.registers pointer ≡ at-pointer → above (store r k) q) where
  pub stored-chain : (rs : List ℕ) (k : ℕ) (rest : List I) (base n j : ℕ) (q u : Run CpuState) → k + length rs ≤ 13 → list_all can rs ≡ true → j + length rs ≤ n
      → RunsAt base n j q → q.state.registers pointer ≡ at-pointer → HasStack q.state.bytes → Chain act above rest (run_stored left sp q rs k) u
      → Chain act above (stores_below store rs k ++ rest) q u
  stored-chain [] k rest base n j q u few some room at two there h = h
  stored-chain (r ∷ rs) k rest base n j q u few some room at two there h =
      let p = and_parts (can r) (list_all can rs) some in
      chain-more act above (store r k) (stores_below store rs (suc k) ++ rest) q u
      (arrives (add_words q.state.pc 4) q.state.registers (left q.state.flags) (stored q.state.bytes (word_below sp k) 8 (q.state.registers r)) q.state.mark)
      at.runs (highs q.state r k (omega (arith, few)) two) (acts q.state r k (omega (arith, few)) p.0 two there)
      (stored-chain rs (suc k) rest base n (suc j) (store_one left sp q r k) u (omega (arith, few)) p.1 (omega (arith, room))
      (next-at base n j q _ _ _ _ (omega (arith, room)) at) two
      (λ a w. stored-there q.state.bytes (word_below sp k) 8 (q.state.registers r) a (there a w)) h)

-- ---- the items of stores
module _ {L I : Type 0} (H : Holes L I) (one : I → L) (single : (i : I) → H.words (one i) ≡ 1) (store : ℕ → ℕ → I) (registers : List ℕ) (most k : ℕ)
    (long : length registers ≡ most) (homes m : ℕ) (count : m ≡ min homes most) (front back : List I) (old mid : List L)
    (back-is : back ≡ stores_below store registers k) (mid-is : mid ≡ old ++ ones one front) where
  -- this many words are in front of those of the first registers, and they are this many
  pub stores-fit-in : words_in H mid + length (take m back) ≤ words_in H old + length front + most
  stores-fit-in =
      let both = ap (words_in H) mid-is ∙ words_append H old (ones one front) in
      let size = words-ones H one single front in
      let few = length-take m back in
      let all = ap length back-is ∙ stores-long store registers k in omega (arith, both, size, few, all, long)

  pub stores-put : (new : List L) → new ≡ mid ++ ones one (take m back) → new ≡ old ++ ones one (front ++ stores_below store (take homes registers) k)
  stores-put new e =
      let first = first-stores store registers homes most k long in
      let taken : take m back ≡ stores_below store (take homes registers) k = ap (λ n. take n back) count ∙ ap (take (min homes most)) back-is ∙ first in
      e ∙ ap (λ xs. xs ++ ones one (take m back)) mid-is ∙ append_assoc old (ones one front) (ones one (take m back))
      ∙ ap (λ xs. old ++ xs) (sym (ones-append one front (take m back))) ∙ ap (λ xs. old ++ ones one (front ++ xs)) taken

  pub stores-words : (new : List L) → new ≡ mid ++ ones one (take m back) → words_in H new ≤ words_in H old + length front + most
  stores-words new e =
      let both = ap (words_in H) e ∙ words_append H mid (ones one (take m back)) in
      let size = words-ones H one single (take m back) in
      let fit = stores-fit-in in omega (arith, both, size, fit)
