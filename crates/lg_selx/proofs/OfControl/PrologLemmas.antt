-- A `prolog` makes the frame.
use Rattle.std.proofs.Common.{◌≡◌, ℕ, zero, suc, ◌+◌, ◌-◌, ◌*◌, ◌^◌, ◌<◌, ◌≤◌, ◌⊎◌, inl, inr, true, List, [], ◌∷◌, ◌++◌, Option, Some, refl, sym, ap, ◌∙◌, subst, arith, length, length-append, append_assoc, false}
use Rattle.std.specs.List.{list_all}
use Rattle.std.specs.Prelude.{◌==◌, not, negsuc, slice_index}
use Rattle.std.proofs.lemmas.List.{length-take}
use Rattle.std.specs.Option.{option_and_then}
use Rattle.lg_sel.specs.Holes.{Each}
use Rattle.lg_selx_values.specs.Processor.Destinations.{WritesWithin}
use Rattle.lg_carry.proofs.TurnLemmas.{last-lowers}
use Rattle.lg_carry.specs.Blocks.{done, Along, Lowers}
use Rattle.lg_carry.specs.Carries.{Sinks}
use Rattle.lg_base.specs.Conventions.{argument_registers, portable_register}
use Rattle.lg_base.specs.Fields.{word_of}
use Rattle.lg_base.specs.Layout.{most_code, stack_end, least_frame, frame_pointer, return_word, saved_word, home_word}
use Rattle.lg_base.specs.Runs.{Running}
use Rattle.lg_base.specs.Spaces.{mapped, stored}
use Rattle.lg_base.specs.Words.{add_words}
use Rattle.lg_base.specs.declared.flags.Flags.{Flags}
use Rattle.lg_base.specs.declared.target.Target.TheVariants.{X86_64}
use Rattle.lg_x86.specs.Spelling.{IsInstr}
use Rattle.lg_x86.specs.declared.instruction.Instr.{Instr}
use Rattle.lg_x86.specs.declared.instruction.Instr.TheVariants as instr
use Rattle.lg_x86.specs.declared.instruction.LoadOp.TheVariants.{Lea}
use Rattle.lg_x86.specs.declared.instruction.StoreOp.TheVariants.{St64}
use Rattle.lg_cpu.specs.HostSteps.{put}
use Rattle.lg_cpu.specs.Laws.{AreBytes}
use Rattle.lg_cpu.specs.States.{CpuState}
use Rattle.lg_cpu.specs.Steps.{Run, status_of}
use Rattle.lg_cpu.specs.X86Step.{Scene, made}
use Rattle.lg_carry.specs.Processors.{IsSeen}
use Rattle.lg_carry.specs.Registers.{HasWord}
use Rattle.lg_carry.proofs.SpillLemmas.{stored-there}
use Rattle.lg_carry.proofs.WordLemmas.{word-kept}
use Rattle.lg_selx_values.specs.Processor.MakingNodes.{scene}
use Rattle.lg_selx_values.proofs.OfProcessor.SlotLemmas.{in-zone}
use Rattle.lg_carry.proofs.BlockLemmas.{no-width}
use Rattle.lg_selx_values.specs.Processor.Makings.{makes, AreAbove, RunsMakings}
use Rattle.lg_selx_values.proofs.OfProcessor.MakingLemmas.{still-above, above-first, makings-run}
use Rattle.lg_selx_values.specs.Processor.X86Rows.{x86_processor, x86_rows, x86_seen, x86_does}
use Rattle.lg_carry.specs.Nodes.Stretches.{StandsAt, behind}
use Rattle.lg_sel.specs.Control.Prologs.{Entrance, PrologsLead}
use Rattle.lg_sel.specs.Control.Stores.{kept_registers, home_registers}
use Rattle.lg_sel.proofs.OfControl.EntranceLemmas.{taken-at}
use Rattle.lg_sel.proofs.OfControl.StoreLemmas.{word_below, with_stored, HasStack, mapped-below, stored-off, stored-word, take-all}
use Rattle.lg_sel.proofs.OfControl.StoreLemmas.{stores-long, stored-besides}
use Rattle.lg_sel.proofs.ListLemmas.{each-append}
use Rattle.lg_selx.specs.Control.Prologs.{lowered, store_word, stores_below, stored_code, prolog_code, lower}
use Rattle.lg_selx.proofs.OfControl.FitLemmas.{kept-few, homes-few}
use Rattle.lg_selx.proofs.OfControl.SpareLemmas.{lower-is}
use Rattle.lg_selx.proofs.OfControl.StretchLemmas.{Made, stands-high, made-passed, made-sunk, all-still}

-- ---- the stores
first-address : (sp : ℕ) → 0x3FF00010 + 272 ≤ sp → sp ≤ 0x40000000 → add_words (sp - 8) (word_of (negsuc 7)) ≡ sp - 16
first-address sp low high = grind (arith, low, high)

store-address : (sp k : ℕ) → 2 ≤ k → k < 13 → 0x3FF00010 + 272 ≤ sp → sp ≤ 0x40000000 → add_words (sp - 16) (word_of (negsuc (8 * k - 9))) ≡ word_below sp k
store-address sp k some few low high = grind (arith, some, few, low, high)

module _ (sp : ℕ) (low : 0x3FF00010 + 272 ≤ sp) (high : sp ≤ 0x40000000) where
  store-made : (r k : ℕ) (w : ℕ → ℕ) (f : Flags) (m : ℕ → Option ℕ) → 2 ≤ k → k < 13 → w 5 ≡ sp - 16 → HasStack m
      → made (store_word r k) (scene w f m) ≡ Some (scene w f (stored m (word_below sp k) 8 (w r)))
  store-made r k w f m some few at there =
      let address : add_words (w 5) (word_of (negsuc (8 * k - 9))) ≡ word_below sp k =
      ap (λ x. add_words x (word_of (negsuc (8 * k - 9)))) at ∙ store-address sp k some few low high in
      let is-there : mapped m (word_below sp k) 8 ≡ true = mapped-below m sp k few low high there in
      rw (address, is-there) refl

  stores-made : (rs : List ℕ) (k : ℕ) (rest : List Instr) (w : ℕ → ℕ) (f : Flags) (m : ℕ → Option ℕ) → 2 ≤ k → k + length rs ≤ 13 → w 5 ≡ sp - 16 → HasStack m
      → makes (stores_below rs k ++ rest) (scene w f m) ≡ makes rest (scene w f (with_stored m w sp rs k))
  stores-made [] k rest w f m some few at there = refl
  stores-made (r ∷ rs) k rest w f m some few at there =
      ap (option_and_then (makes (stores_below rs (suc k) ++ rest))) (store-made r k w f m some (omega (arith, few)) at there)
      ∙ stores-made rs (suc k) rest w f (stored m (word_below sp k) 8 (w r)) (omega (arith, some)) (omega (arith, few)) at
      (λ j e. stored-there m (word_below sp k) 8 (w r) j (there j e))

  first-made : (w : ℕ → ℕ) (f : Flags) (m : ℕ → Option ℕ) → w 4 ≡ sp - 8 → HasStack m
      → made (instr.Store St64 4 (negsuc 7) 5) (scene w f m) ≡ Some (scene w f (stored m (word_below sp 1) 8 (w 5)))
  first-made w f m at there =
      let address : add_words (w 4) (word_of (negsuc 7)) ≡ word_below sp 1 = ap (λ x. add_words x (word_of (negsuc 7))) at ∙ first-address sp low high in
      let is-there : mapped m (word_below sp 1) 8 ≡ true = mapped-below m sp 1 (omega arith) low high there in
      rw (address, is-there) refl

  -- no store lies further below the stack pointer than the zone
  stores-above : (rs : List ℕ) (k : ℕ) (rest : List Instr) (w : ℕ → ℕ) (f : Flags) (m : ℕ → Option ℕ) → 2 ≤ k → k + length rs ≤ 13 → w 5 ≡ sp - 16 → w 4 ≡ sp - 8
      → HasStack m → AreAbove rest (scene w f (with_stored m w sp rs k)) → AreAbove (stores_below rs k ++ rest) (scene w f m)
  stores-above [] k rest w f m some few at top there h = h
  stores-above (r ∷ rs) k rest w f m some few at top there h =
      let address : add_words (w 5) (word_of (negsuc (8 * k - 9))) ≡ word_below sp k =
      ap (λ x. add_words x (word_of (negsuc (8 * k - 9)))) at ∙ store-address sp k some (omega (arith, few)) low high in
      above-first (store_word r k) (stores_below rs (suc k) ++ rest) (scene w f m) (scene w f (stored m (word_below sp k) 8 (w r)))
      (store-made r k w f m some (omega (arith, few)) at there)
      (λ a le lt. in-zone (w 4) a (omega (arith, le, address, top, few, low)))
      (stores-above rs (suc k) rest w f (stored m (word_below sp k) 8 (w r)) (omega (arith, some)) (omega (arith, few)) at top
      (λ j e. stored-there m (word_below sp k) 8 (w r) j (there j e)) h)

-- the stack is there after stores too
stores-there : (sp : ℕ) (rs : List ℕ) (k : ℕ) (w : ℕ → ℕ) (m : ℕ → Option ℕ) → HasStack m → HasStack (with_stored m w sp rs k)
stores-there sp [] k w m there = there
stores-there sp (r ∷ rs) k w m there =
    stores-there sp rs (suc k) w (stored m (word_below sp k) 8 (w r)) (λ j e. stored-there m (word_below sp k) 8 (w r) j (there j e))

-- none of them is FP, which is set before
kept-others : (saved : ℕ) → list_all (λ r. not (r == 5)) (kept_registers X86_64 saved) ≡ true
kept-others saved = take-all (λ r. not (r == 5)) (kept_registers X86_64 3) saved refl

homes-others : (homes : ℕ) → list_all (λ r. not (r == 5)) (home_registers X86_64 homes) ≡ true
homes-others homes = take-all (λ r. not (r == 5)) (argument_registers X86_64) homes refl

-- ---- the code
-- FP, and those of V0 to V2 that are stored by it
abbrev first_stored : ℕ → List ℕ
first_stored saved = 5 ∷ kept_registers X86_64 saved

-- the bytes with them, and with the homes
abbrev with_frame : (ℕ → Option ℕ) → (ℕ → ℕ) → ℕ → ℕ → ℕ → ℕ → Option ℕ
with_frame m w sp saved homes = with_stored (with_stored m w sp (first_stored saved) 1) w sp (home_registers X86_64 homes) 5

module _ (size homes saved sp : ℕ) (w : ℕ → ℕ) (f : Flags) (m : ℕ → Option ℕ) (large : 272 ≤ size) (room : least_frame + size ≤ sp) (top : sp ≤ stack_end)
    (at : w 4 ≡ sp - 8) (there : HasStack m) where
  low : 0x3FF00010 + 272 ≤ sp
  low = omega (arith, room, large)

  abbrev end_registers : ℕ → ℕ
  end_registers = put (put w 5 (sp - 16)) 4 (sp - size)

  abbrev end_bytes : ℕ → Option ℕ
  end_bytes = with_frame m w sp saved homes

  abbrev kept : List ℕ
  kept = kept_registers X86_64 saved

  abbrev read : List ℕ
  read = home_registers X86_64 homes

  abbrev set : ℕ → ℕ
  set = put w 5 (sp - 16)

  abbrev m1 : ℕ → Option ℕ
  m1 = stored m (word_below sp 1) 8 (w 5)

  few : 2 + length kept ≤ 13
  few = let most = kept-few saved in omega (arith, most)

  few-homes : 5 + length read ≤ 13
  few-homes = let most = homes-few homes in omega (arith, most)

  there-1 : HasStack m1
  there-1 j e = stored-there m (word_below sp 1) 8 (w 5) j (there j e)

  there-2 : HasStack (with_stored m1 set sp kept 2)
  there-2 = stores-there sp kept 2 set m1 there-1

  split : stored_code saved homes ++ lowered size ≡ stores_below kept 2 ++ (stores_below read 5 ++ lowered size)
  split = append_assoc (stores_below kept 2) (stores_below read 5) (lowered size)

  bytes-same : with_stored (with_stored m1 set sp kept 2) set sp read 5 ≡ end_bytes
  bytes-same =
      stored-besides w 5 (sp - 16) sp read 5 (with_stored m1 set sp kept 2) (homes-others homes)
      ∙ ap (λ b. with_stored b w sp read 5) (stored-besides w 5 (sp - 16) sp kept 2 m1 (kept-others saved))

  prolog-makes : makes (prolog_code saved size homes) (scene w f m) ≡ Some (scene end_registers f end_bytes)
  prolog-makes =
      let rest : List Instr = stored_code saved homes ++ lowered size in
      ap (option_and_then (makes (instr.Load Lea 5 4 (negsuc 7) ∷ rest))) (first-made sp low top w f m at there)
      ∙ ap (λ x. makes rest (scene (put w 5 x) f m1)) (ap (λ x. add_words x (word_of (negsuc 7))) at ∙ first-address sp low top)
      ∙ ap (λ is. makes is (scene set f m1)) split
      ∙ stores-made sp low top kept 2 (stores_below read 5 ++ lowered size) set f m1 (omega arith) few refl there-1
      ∙ stores-made sp low top read 5 (lowered size) set f (with_stored m1 set sp kept 2) (omega arith) few-homes refl there-2
      ∙ ap (λ b. makes (lowered size) (scene set f b)) bytes-same
      ∙ ap (λ x. Some (scene (put set 4 x) f end_bytes)) (lower-is size sp large room top)

  prolog-above : AreAbove (prolog_code saved size homes) (scene w f m)
  prolog-above =
      let rest : List Instr = stored_code saved homes ++ lowered size in
      let address : add_words (w 4) (word_of (negsuc 7)) ≡ sp - 16 = ap (λ x. add_words x (word_of (negsuc 7))) at ∙ first-address sp low top in
      let last : Scene = scene set f (with_stored (with_stored m1 set sp kept 2) set sp read 5) in
      let stores : AreAbove rest (scene set f m1) =
      subst (λ is. AreAbove is (scene set f m1)) (sym split)
      (stores-above sp low top kept 2 (stores_below read 5 ++ lowered size) set f m1 (omega arith) few refl at there-1
      (stores-above sp low top read 5 (lowered size) set f (with_stored m1 set sp kept 2) (omega arith) few-homes refl at there-2 (still-above (lowered size) last refl))) in
      above-first (instr.Store St64 4 (negsuc 7) 5) (instr.Load Lea 5 4 (negsuc 7) ∷ rest) (scene w f m) (scene w f m1) (first-made sp low top w f m at there)
      (λ a le lt. in-zone (w 4) a (omega (arith, le, address, at)))
      (above-first (instr.Load Lea 5 4 (negsuc 7)) rest (scene w f m1) (scene set f m1) (ap (λ x. Some (scene (put w 5 x) f m1)) address) (no-width _ _) stores)

-- ---- what is then in the frame
module _ (code : List ℕ) (trash : ℕ) (small : length code ≤ most_code) (bytes-small : AreBytes code) (trash-word : trash < 2 ^ 64)
    (size homes saved from sp : ℕ) (q : Run CpuState) (seen : IsSeen (x86_seen q)) (large : 272 ≤ size) (room : least_frame + size ≤ sp) (top : sp ≤ stack_end)
    (at : q.state.registers 4 ≡ sp - 8) (k : StandsAt (x86_rows code trash) true IsInstr from (prolog_code saved size homes)) (runs : status_of q.progress ≡ Running)
    (here : q.state.pc ≡ from) where
  abbrev v : ℕ → ℕ
  v = q.state.registers

  abbrev b : ℕ → Option ℕ
  b = with_frame q.state.bytes v sp saved homes

  abbrev W : ℕ → ℕ
  W = put (put v 5 (sp - 16)) 4 (sp - size)

  room-is : 0x3FF00010 + 272 ≤ sp
  room-is = omega (arith, room, large)

  abbrev all : List Instr
  all = prolog_code saved size homes

  done-it : Made true code trash small bytes-small trash-word from all (scene W q.state.flags b) q
  done-it = made-passed true code trash small bytes-small trash-word from all q (scene W q.state.flags b) k
      (prolog-makes size homes saved sp v q.state.flags q.state.bytes large room top at (λ j e. seen.stack j e))
      (prolog-above size homes saved sp v q.state.flags q.state.bytes large room top at (λ j e. seen.stack j e)) runs here
      (stands-high true code trash small bytes-small trash-word from all (omega arith) k)

  ran : RunsMakings all q (scene W q.state.flags b)
  ran = makings-run all q (scene W q.state.flags b) (prolog-makes size homes saved sp v q.state.flags q.state.bytes large room top at (λ j e. seen.stack j e))
      (prolog-above size homes saved sp v q.state.flags q.state.bytes large room top at (λ j e. seen.stack j e)) runs (let l = k.low in omega (arith, l, here))
      (λ z. let h = stands-high true code trash small bytes-small trash-word from all (omega arith) k in omega (arith, h, here))

  -- the last of them alone moves the stack pointer
  abbrev front : List Instr
  front = instr.Store St64 4 (negsuc 7) 5 ∷ (instr.Load Lea 5 4 (negsuc 7) ∷ stored_code saved homes)

  stores-within : (rs : List ℕ) (j : ℕ) → Each (WritesWithin false) (stores_below rs j)
  stores-within [] j = tt
  stores-within (x ∷ rs) j = (tt, stores-within rs (suc j))

  all-within : Each (WritesWithin false) (stored_code saved homes)
  all-within =
      each-append (WritesWithin false) (stores_below (kept_registers X86_64 saved) 2) (stores_below (home_registers X86_64 homes) 5)
      (stores-within (kept_registers X86_64 saved) 2) (stores-within (home_registers X86_64 homes) 5)

  along : Along x86_does (Lowers (x86_rows code trash)) all q
  along =
      let stack : (done x86_does all q).state.registers 4 ≡ sp - size = ap (λ (s : Scene). s.registers 4) ran.scene in
      last-lowers (x86_rows code trash) front (instr.Load Lea 4 5 (lower size)) q (done x86_does all q)
      (all-still code trash front (tt, ((refl, tt), all-within))) refl (omega (arith, stack, at, large))

  sinks-it : Sinks (x86_processor code trash) from (length all) q
  sinks-it = made-sunk true code trash small bytes-small trash-word from all q (scene W q.state.flags b) k
      (prolog-makes size homes saved sp v q.state.flags q.state.bytes large room top at (λ j e. seen.stack j e)) ran here along

  registers-are : done-it.end.state.registers ≡ W
  registers-are = ap (λ (s : Scene). s.registers) done-it.scene

  bytes-are : done-it.end.state.bytes ≡ b
  bytes-are = ap (λ (s : Scene). s.bytes) done-it.scene

  -- the words of the first ones, and those of the homes
  abbrev first : ℕ → Option ℕ
  first = with_stored q.state.bytes v sp (first_stored saved) 1

  few-first : 1 + length (first_stored saved) ≤ 5
  few-first = let most = kept-few saved in omega (arith, most)

  few-read : 5 + length (home_registers X86_64 homes) ≤ 11
  few-read = let most = homes-few homes in omega (arith, most)

  off-homes : (a : ℕ) → (a + 88 < sp) ⊎ (sp ≤ a + 40) → b a ≡ first a
  off-homes a (inl h) = stored-off sp room-is (home_registers X86_64 homes) 5 first v a (omega (arith, few-read)) (inl (omega (arith, h, few-read)))
  off-homes a (inr h) = stored-off sp room-is (home_registers X86_64 homes) 5 first v a (omega (arith, few-read)) (inr (omega (arith, h)))

  off-first : (a : ℕ) → (a + 40 < sp) ⊎ (sp ≤ a + 8) → first a ≡ q.state.bytes a
  off-first a (inl h) = stored-off sp room-is (first_stored saved) 1 q.state.bytes v a (omega (arith, few-first)) (inl (omega (arith, h, few-first)))
  off-first a (inr h) = stored-off sp room-is (first_stored saved) 1 q.state.bytes v a (omega (arith, few-first)) (inr (omega (arith, h)))

  first-word : (j : ℕ) → j < length (first_stored saved) → HasWord b (word_below sp (1 + j)) (v (slice_index (first_stored saved) j))
  first-word j lt =
      word-kept first b (word_below sp (1 + j)) (v (slice_index (first_stored saved) j)) (λ a le l. off-homes a (inr (omega (arith, le, lt, few-first, room-is))))
      (stored-word sp room-is (first_stored saved) 1 j q.state.bytes v (omega (arith, few-first)) seen.words lt)

  off : (a : ℕ) → (a + 88 < sp) ⊎ (sp ≤ a + 8) → b a ≡ q.state.bytes a
  off a (inl h) = off-homes a (inl h) ∙ off-first a (inl (omega (arith, h)))
  off a (inr h) = off-homes a (inr (omega (arith, h))) ∙ off-first a (inr h)

  outside : (a : ℕ) → (a + 144 < sp) ⊎ (sp ≤ a) → b a ≡ q.state.bytes a
  outside a (inl h) = off a (inl (omega (arith, h)))
  outside a (inr h) = off a (inr (omega (arith, h)))

  has : (a x : ℕ) → HasWord b a x → HasWord done-it.end.state.bytes a x
  has a x h = subst (λ z. HasWord z a x) (sym bytes-are) h

  return-stays : (address : ℕ) → HasWord q.state.bytes (return_word sp) address → HasWord b (return_word sp) address
  return-stays address h = word-kept q.state.bytes b (return_word sp) address (λ j le lt. off j (inr (omega (arith, le, room-is)))) h

  -- one of the first of some registers
  kept-long : (j : ℕ) → j < saved → j < 3 → suc j < length (first_stored saved)
  kept-long j few lt = let e = length-take saved (kept_registers X86_64 3) in omega (arith, e, few, lt)

  kept-at : (j : ℕ) → j < saved → j < 3 → slice_index (first_stored saved) (suc j) ≡ portable_register X86_64 (j + 3)
  kept-at zero few lt = taken-at (kept_registers X86_64 3) saved 0 few
  kept-at (suc zero) few lt = taken-at (kept_registers X86_64 3) saved 1 few
  kept-at (suc (suc zero)) few lt = taken-at (kept_registers X86_64 3) saved 2 few
  kept-at (suc (suc (suc j))) few lt = absurd (omega (arith, lt))

  saved-is : (j : ℕ) → j < saved → j < 3 → HasWord b (saved_word (frame_pointer sp) j) (v (portable_register X86_64 (j + 3)))
  saved-is j few lt =
      subst (λ a. HasWord b a (v (portable_register X86_64 (j + 3)))) (omega (arith, room-is))
      (subst (λ r. HasWord b (word_below sp (1 + suc j)) (v r)) (kept-at j few lt) (first-word (suc j) (kept-long j few lt)))

  home-is : (j : ℕ) → j < homes → j < length (argument_registers X86_64)
      → HasWord b (home_word (frame_pointer sp) j) (v (slice_index (argument_registers X86_64) j))
  home-is j read lt =
      let long = length-take homes (argument_registers X86_64) in
      subst (λ a. HasWord b a (v (slice_index (argument_registers X86_64) j))) (omega (arith, room-is, lt))
      (subst (λ r. HasWord b (word_below sp (5 + j)) (v r)) (taken-at (argument_registers X86_64) homes j read)
      (stored-word sp room-is (home_registers X86_64 homes) 5 j first v (omega (arith, few-read)) seen.words (omega (arith, read, lt, long))))

  portable-is : (r : ℕ) → r < 6 → W (portable_register X86_64 r) ≡ v (portable_register X86_64 r)
  portable-is zero lt = refl
  portable-is (suc zero) lt = refl
  portable-is (suc (suc zero)) lt = refl
  portable-is (suc (suc (suc zero))) lt = refl
  portable-is (suc (suc (suc (suc zero)))) lt = refl
  portable-is (suc (suc (suc (suc (suc zero))))) lt = refl
  portable-is (suc (suc (suc (suc (suc (suc r)))))) lt = absurd (omega (arith, lt))

  argument-is : (j : ℕ) → j < length (argument_registers X86_64)
      → W (slice_index (argument_registers X86_64) j) ≡ v (slice_index (argument_registers X86_64) j)
  argument-is zero lt = refl
  argument-is (suc zero) lt = refl
  argument-is (suc (suc zero)) lt = refl
  argument-is (suc (suc (suc zero))) lt = refl
  argument-is (suc (suc (suc (suc zero)))) lt = refl
  argument-is (suc (suc (suc (suc (suc zero))))) lt = refl
  argument-is (suc (suc (suc (suc (suc (suc j)))))) lt = absurd (omega (arith, lt))

  all-long : length all ≤ 12
  all-long =
      let whole = length-append (stored_code saved homes) (lowered size) in
      let both = length-append (stores_below (kept_registers X86_64 saved) 2) (stores_below (home_registers X86_64 homes) 5) in
      let first-long = stores-long store_word (kept_registers X86_64 saved) 2 in
      let last-long = stores-long store_word (home_registers X86_64 homes) 5 in
      omega (arith, whole, both, first-long, last-long, few-first, few-read)

  pub enters : Entrance (x86_processor code trash) from (behind (x86_rows code trash) from all) sp size homes saved q
  enters = record {
    end = done-it.end;
    steps = length all;
    passes = done-it.passes;
    sinks = sinks-it;
    few = omega (arith, all-long);
    some = omega arith;
    runs = done-it.runs;
    here = done-it.here;
    back = λ address h. has (return_word sp) address (return-stays address h);
    caller = has (frame_pointer sp) (v 5) (first-word 0 (omega arith));
    saved = λ j few lt. has (saved_word (frame_pointer sp) j) (v (portable_register X86_64 (j + 3))) (saved-is j few lt);
    homes = λ j read lt. has (home_word (frame_pointer sp) j) (v (slice_index (argument_registers X86_64) j)) (home-is j read lt);
    pointer = ap (λ g. g 5) registers-are;
    stack_is = ap (λ g. g 4) registers-are;
    portable = λ r lt. ap (λ g. g (portable_register X86_64 r)) registers-are ∙ portable-is r lt;
    arguments = λ j lt. ap (λ g. g (slice_index (argument_registers X86_64) j)) registers-are ∙ argument-is j lt;
    bytes = λ a h. ap (λ g. g a) bytes-are ∙ outside a h;
    mark = done-it.mark;
  }

pub prologs-lead : (saved : ℕ) (code : List ℕ) (trash : ℕ) → length code ≤ most_code → AreBytes code → trash < 2 ^ 64
    → PrologsLead (x86_rows code trash) IsInstr saved (prolog_code saved)
prologs-lead saved code trash small bytes word frame homes from stack q seen large room top even is k runs at =
    enters code trash small bytes word frame homes saved from stack q seen large room top is k runs at
