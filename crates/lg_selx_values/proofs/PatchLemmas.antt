-- Patched bytes of x86-64 are those of the instructions with the labels put in.
use Rattle.std.proofs.Common.{◌≡◌, ℕ, ◌+◌, ◌<◌, ◌≤◌, List, [], ◌∷◌, ◌++◌, length, drop, ℤ, pos, ◌+ℤ◌, refl, sym, ap, subst, ◌∙◌, arith, inl, append_assoc, append-nil, length-append, Option}
use Rattle.std.specs.Prelude.{◌-ℤ◌, slice_index}
use Rattle.std.specs.List.{All}
use Rattle.std.specs.Int.{w32, to_le_bytes}
use Rattle.std.proofs.lemmas.Int.{ints}
use Rattle.std.proofs.lemmas.List.Elements.{All-nil, All-cons, All-head}
use Rattle.lg_base.specs.Fields.{signed}
use Rattle.lg_base.specs.Layout.{code_base}
use Rattle.lg_base.specs.WordFronts.{word_at}
use Rattle.lg_buf.specs.declared.fixes.Fix.{Fix}
use Rattle.lg_buf.specs.declared.fixes.FixKind.TheVariants.{X86Rel8, X86Rel32, X86Abs32}
use Rattle.lg_buf.specs.FixFields.{fix_len}
use Rattle.lg_buf.specs.Buffers.{IsDone, IsOutside}
use Rattle.lg_carry.specs.Blocks.{spellings}
use Rattle.lg_x86.specs.declared.instruction.Instr.{Instr}
use Rattle.lg_x86.specs.declared.instruction.Instr.TheVariants as instr
use Rattle.lg_x86.specs.Rows.{jump_near_row, jump_short_row, jump_if_short_row, jump_if_near_row, cond_row}
use Rattle.lg_x86.specs.Spelling.{spelling, short_bytes, long_bytes, IsInstr, IsNumber8, IsNumber32}
use Rattle.lg_sel.specs.Holes.{IsWithin, HaveAddresses, IsPatched, IsSettled}
use Rattle.lg_selx_values.specs.declared.items.Item.{Item}
use Rattle.lg_selx_values.specs.declared.items.Item.TheVariants.{One, Jump, Address}
use Rattle.lg_selx_values.specs.declared.items.JumpKind.{JumpKind}
use Rattle.lg_selx_values.specs.declared.items.JumpKind.TheVariants.{Near, NearIf, Short, ShortIf}
use Rattle.lg_selx_values.specs.Items.{jump_by, jump_size, opcode_size, fix_kind, move_size, blank, settle, fix_of, x86_holes, IsItem, X86Holes}
use Rattle.lg_selx_values.proofs.ItemWordLemmas.{front-stays, reaches, near-field, short-field, address-field, IsMove, move-is}

-- the bytes of one instruction
only-spelling : (i : Instr) → spellings spelling (i ∷ []) ≡ spelling i
only-spelling i = append-nil (spelling i)

module _ (labels : List (Option ℕ)) (emitted finished : List ℕ) (to : ℕ → ℕ) (addresses : HaveAddresses labels to) (p : ℕ) where
  -- an instruction that is in the finished bytes
  settles-as : (i : Instr) (n : ℕ) → IsInstr i → drop p finished ≡ spelling i ++ drop n finished → IsSettled spelling IsInstr finished p n (i ∷ [])
  settles-as i n ok e = record { stands = e ∙ ap (λ k. k ++ drop n finished) (sym (only-spelling i)); fit = All-cons IsInstr i [] ok (All-nil IsInstr) }

  one-settles : (i : Instr) → IsInstr i → IsPatched x86_holes labels emitted finished p (One i) → IsSettled spelling IsInstr finished p (p + length (spelling i)) (i ∷ [])
  one-settles i ok h = settles-as i (p + length (spelling i)) ok (front-stays (spelling i) h.rest emitted finished p h.long h.stands (λ k from below. h.others k from below (All-nil (IsOutside k))))

  near-distance : (q s target label : ℕ) (z : ℤ) → s ≡ q + 4 → pos (q + 4) +ℤ z ≡ pos target → to label ≡ code_base + target → z ≡ pos (to label) -ℤ pos (code_base + s)
  near-distance q s target label z size d at = omega (arith, ints, size, at, d)

  short-distance : (q s target label : ℕ) (z : ℤ) → s ≡ q + 1 → pos (q + 1) +ℤ z ≡ pos target → to label ≡ code_base + target → z ≡ pos (to label) -ℤ pos (code_base + s)
  short-distance q s target label z size d at = omega (arith, ints, size, at, d)

  -- the bytes in front of a fix, where an item has one
  in-front : (x : Item) (f : Fix) (front rest : List ℕ) → IsPatched x86_holes labels emitted finished p x → fix_of p x ≡ f ∷ [] → f.place ≡ p + length front → length front ≤ length (spelling (blank x)) → drop p emitted ≡ front ++ rest
      → drop p finished ≡ front ++ drop (p + length front) finished
  in-front x f front rest h only place less e =
      front-stays front rest emitted finished p h.long e
      (λ k from below. h.others k from (omega (arith, below, less)) (subst (All (IsOutside k)) (sym only) (All-cons (IsOutside k) f [] (inl (omega (arith, below, place))) (All-nil (IsOutside k)))))

  -- a jump by 32 bits, with these bytes in front of its distance
  near-settles : (kind : JumpKind) (label : ℕ) (front : List ℕ) → IsPatched x86_holes labels emitted finished p (Jump kind label) → 0 < length front → length front ≡ opcode_size kind → jump_size kind ≡ opcode_size kind + 4 → fix_kind kind ≡ X86Rel32
      → ((z : ℤ) → spelling (jump_by kind z) ≡ front ++ long_bytes z) → ((z : ℤ) → IsNumber32 z → IsInstr (jump_by kind z))
      → IsSettled spelling IsInstr finished p (p + length (spelling (jump_by kind (pos 0)))) (settle to (code_base + p) (Jump kind label))
  near-settles kind label front h some opcode size is spelled fits =
      let q : ℕ = p + length front in
      let n : ℕ = length (spelling (jump_by kind (pos 0))) in
      let long : n ≡ length front + 4 = ap length (spelled (pos 0)) ∙ length-append front (long_bytes (pos 0)) in
      let f : Fix = record { place = p + opcode_size kind; kind = fix_kind kind; label = record { 0 = label } } in
      let stands : drop p emitted ≡ front ++ (long_bytes (pos 0) ++ h.rest) = h.stands ∙ ap (λ k. k ++ h.rest) (spelled (pos 0)) ∙ append_assoc front (long_bytes (pos 0)) h.rest in
      let reach : p + n ≤ length emitted = reaches (spelling (jump_by kind (pos 0))) h.rest emitted p (omega (arith, long, some)) h.stands in
      let place : p + opcode_size kind ≡ q = omega (arith, opcode) in
      let d : IsDone labels emitted finished (record { place = q; kind = X86Rel32; label = record { 0 = label } }) =
      subst (λ k. IsDone labels emitted finished (record { place = q; kind = k; label = record { 0 = label } })) is (subst (λ k. IsDone labels emitted finished (record { place = k; kind = fix_kind kind; label = record { 0 = label } })) place (All-head (IsDone labels emitted finished) f [] h.done)) in
      let z : signed 2147483648 (word_at finished q) ≡ pos (to label) -ℤ pos (code_base + (p + jump_size kind)) =
      near-distance q (p + jump_size kind) d.0 label (signed 2147483648 (word_at finished q)) (omega (arith, size, opcode)) d.2 (addresses label d.0 d.1) in
      let by : ℤ = pos (to label) -ℤ pos (code_base + p + jump_size kind) in
      let same : signed 2147483648 (word_at finished q) ≡ by = z ∙ (let y : code_base + (p + jump_size kind) ≡ code_base + p + jump_size kind = omega arith in ap (λ k. pos (to label) -ℤ pos k) y) in
      let field = near-field finished q by h.bytes (omega (arith, reach, long, h.long)) same in
      let ends : q + 4 ≡ p + n = omega (arith, long) in
      settles-as (jump_by kind by) (p + n) (fits by field.1)
      (in-front (Jump kind label) f front (long_bytes (pos 0) ++ h.rest) h refl place (omega (arith, long)) stands
      ∙ ap (λ k. front ++ k) (field.0 ∙ ap (λ k. long_bytes by ++ drop k finished) ends)
      ∙ sym (append_assoc front (long_bytes by) (drop (p + n) finished)) ∙ ap (λ k. k ++ drop (p + n) finished) (sym (spelled by)))

  -- a jump by 8 bits
  short-settles : (kind : JumpKind) (label : ℕ) (front : List ℕ) → IsPatched x86_holes labels emitted finished p (Jump kind label) → 0 < length front → length front ≡ opcode_size kind → jump_size kind ≡ opcode_size kind + 1 → fix_kind kind ≡ X86Rel8
      → ((z : ℤ) → spelling (jump_by kind z) ≡ front ++ short_bytes z) → ((z : ℤ) → IsNumber8 z → IsInstr (jump_by kind z))
      → IsSettled spelling IsInstr finished p (p + length (spelling (jump_by kind (pos 0)))) (settle to (code_base + p) (Jump kind label))
  short-settles kind label front h some opcode size is spelled fits =
      let q : ℕ = p + length front in
      let n : ℕ = length (spelling (jump_by kind (pos 0))) in
      let long : n ≡ length front + 1 = ap length (spelled (pos 0)) ∙ length-append front (short_bytes (pos 0)) in
      let f : Fix = record { place = p + opcode_size kind; kind = fix_kind kind; label = record { 0 = label } } in
      let stands : drop p emitted ≡ front ++ (short_bytes (pos 0) ++ h.rest) = h.stands ∙ ap (λ k. k ++ h.rest) (spelled (pos 0)) ∙ append_assoc front (short_bytes (pos 0)) h.rest in
      let reach : p + n ≤ length emitted = reaches (spelling (jump_by kind (pos 0))) h.rest emitted p (omega (arith, long, some)) h.stands in
      let place : p + opcode_size kind ≡ q = omega (arith, opcode) in
      let d : IsDone labels emitted finished (record { place = q; kind = X86Rel8; label = record { 0 = label } }) =
      subst (λ k. IsDone labels emitted finished (record { place = q; kind = k; label = record { 0 = label } })) is (subst (λ k. IsDone labels emitted finished (record { place = k; kind = fix_kind kind; label = record { 0 = label } })) place (All-head (IsDone labels emitted finished) f [] h.done)) in
      let z : signed 128 (slice_index finished q) ≡ pos (to label) -ℤ pos (code_base + (p + jump_size kind)) =
      short-distance q (p + jump_size kind) d.0 label (signed 128 (slice_index finished q)) (omega (arith, size, opcode)) d.2 (addresses label d.0 d.1) in
      let by : ℤ = pos (to label) -ℤ pos (code_base + p + jump_size kind) in
      let same : signed 128 (slice_index finished q) ≡ by = z ∙ (let y : code_base + (p + jump_size kind) ≡ code_base + p + jump_size kind = omega arith in ap (λ k. pos (to label) -ℤ pos k) y) in
      let field = short-field finished q by h.bytes (omega (arith, reach, long, h.long)) same in
      let ends : q + 1 ≡ p + n = omega (arith, long) in
      settles-as (jump_by kind by) (p + n) (fits by field.1)
      (in-front (Jump kind label) f front (short_bytes (pos 0) ++ h.rest) h refl place (omega (arith, long)) stands
      ∙ ap (λ k. front ++ k) (field.0 ∙ ap (λ k. short_bytes by ++ drop k finished) ends)
      ∙ sym (append_assoc front (short_bytes by) (drop (p + n) finished)) ∙ ap (λ k. k ++ drop (p + n) finished) (sym (spelled by)))

  -- a move of an address
  address-settles : (reg label : ℕ) → reg < 16 → IsPatched x86_holes labels emitted finished p (Address reg label)
      → IsSettled spelling IsInstr finished p (p + length (spelling (instr.Movi32 reg 0))) (settle to (code_base + p) (Address reg label))
  address-settles reg label few h =
      let m : IsMove reg = move-is reg few in
      let q : ℕ = p + length m.front in
      let n : ℕ = length (spelling (instr.Movi32 reg 0)) in
      let long : n ≡ length m.front + 4 = ap length (m.spelled 0) ∙ length-append m.front (to_le_bytes w32 0) in
      let f : Fix = record { place = p + move_size reg; kind = X86Abs32; label = record { 0 = label } } in
      let stands : drop p emitted ≡ m.front ++ (to_le_bytes w32 0 ++ h.rest) = h.stands ∙ ap (λ k. k ++ h.rest) (m.spelled 0) ∙ append_assoc m.front (to_le_bytes w32 0) h.rest in
      let reach : p + n ≤ length emitted = reaches (spelling (instr.Movi32 reg 0)) h.rest emitted p (omega (arith, long, m.some)) h.stands in
      let place : p + move_size reg ≡ q = let e = m.size in omega (arith, e) in
      let d : IsDone labels emitted finished (record { place = q; kind = X86Abs32; label = record { 0 = label } }) =
      subst (λ k. IsDone labels emitted finished (record { place = k; kind = X86Abs32; label = record { 0 = label } })) place (All-head (IsDone labels emitted finished) f [] h.done) in
      let at = addresses label d.0 d.1 in
      let same : word_at finished q ≡ to label = let e = d.2 in omega (arith, ints, e, at) in
      let field = address-field finished q (to label) h.bytes (omega (arith, reach, long, h.long)) same in
      let ends : q + 4 ≡ p + n = omega (arith, long) in
      settles-as (instr.Movi32 reg (to label)) (p + n) (few, field.1)
      (in-front (Address reg label) f m.front (to_le_bytes w32 0 ++ h.rest) h refl place (omega (arith, long)) stands
      ∙ ap (λ k. m.front ++ k) (field.0 ∙ ap (λ k. to_le_bytes w32 (to label) ++ drop k finished) ends)
      ∙ sym (append_assoc m.front (to_le_bytes w32 (to label)) (drop (p + n) finished)) ∙ ap (λ k. k ++ drop (p + n) finished) (sym (m.spelled (to label))))

  jump-settles : (kind : JumpKind) (label : ℕ) → IsPatched x86_holes labels emitted finished p (Jump kind label)
      → IsSettled spelling IsInstr finished p (p + length (spelling (jump_by kind (pos 0)))) (settle to (code_base + p) (Jump kind label))
  jump-settles (Near op) label h = near-settles (Near op) label ((jump_near_row op).number ∷ []) h (omega arith) refl refl refl (λ z. refl) (λ z k. k)
  jump-settles (NearIf cond) label h = near-settles (NearIf cond) label (0x0f ∷ (jump_if_near_row.opcode + (cond_row cond).number) ∷ []) h (omega arith) refl refl refl (λ z. refl) (λ z k. k)
  jump-settles Short label h = short-settles Short label (jump_short_row.number ∷ []) h (omega arith) refl refl refl (λ z. refl) (λ z k. k)
  jump-settles (ShortIf cond) label h = short-settles (ShortIf cond) label ((jump_if_short_row.opcode + (cond_row cond).number) ∷ []) h (omega arith) refl refl refl (λ z. refl) (λ z k. k)

pub are-holes : X86Holes
are-holes = record {
  within = within;
  counted = λ to at x ok. refl;
  long = long;
  settles = settles;
}
  where
    -- a fix in front of whose field some bytes stand
    lies : (place n : ℕ) (f : Fix) → place ≤ f.place → f.place + fix_len f.kind ≤ place + n → All (IsWithin place n) (f ∷ [])
    lies place n f low high = All-cons (IsWithin place n) f [] (low, high) (All-nil (IsWithin place n))

    within-jump : (place : ℕ) (kind : JumpKind) (label : ℕ) → All (IsWithin place (length (spelling (jump_by kind (pos 0))))) (fix_of place (Jump kind label))
    within-jump place (Near op) label = lies place 5 _ (omega arith) (omega arith)
    within-jump place (NearIf cond) label = lies place 6 _ (omega arith) (omega arith)
    within-jump place Short label = lies place 2 _ (omega arith) (omega arith)
    within-jump place (ShortIf cond) label = lies place 2 _ (omega arith) (omega arith)

    within : (place : ℕ) (x : Item) → IsItem x → All (IsWithin place (length (x86_holes.blank x))) (fix_of place x)
    within place (One i) ok = All-nil (IsWithin place (length (spelling i)))
    within place (Jump kind label) ok = within-jump place kind label
    within place (Address reg label) ok =
        let m : IsMove reg = move-is reg ok in
        let long : length (spelling (instr.Movi32 reg 0)) ≡ length m.front + 4 = ap length (m.spelled 0) ∙ length-append m.front (to_le_bytes w32 0) in
        let e = m.size in lies place (length (spelling (instr.Movi32 reg 0))) _ (omega arith) (omega (arith, long, e))

    long-jump : (kind : JumpKind) (z : ℤ) → length (spelling (jump_by kind z)) ≡ length (spelling (jump_by kind (pos 0)))
    long-jump (Near op) z = refl
    long-jump o z = refl

    long : (to : ℕ → ℕ) (at : ℕ) (x : Item) → IsItem x → length (spellings spelling (settle to at x)) ≡ length (x86_holes.blank x)
    long to at (One i) ok = ap length (only-spelling i)
    long to at (Jump kind label) ok = ap length (only-spelling (jump_by kind _)) ∙ long-jump kind _
    long to at (Address reg label) ok =
        let m : IsMove reg = move-is reg ok in
        ap length (only-spelling (instr.Movi32 reg (to label))) ∙ (ap length (m.spelled (to label)) ∙ length-append m.front (to_le_bytes w32 (to label))) ∙ sym (ap length (m.spelled 0) ∙ length-append m.front (to_le_bytes w32 0))

    settles : (labels : List (Option ℕ)) (emitted finished : List ℕ) (to : ℕ → ℕ) (place : ℕ) (x : Item) → IsItem x → HaveAddresses labels to → IsPatched x86_holes labels emitted finished place x
        → IsSettled spelling IsInstr finished place (place + length (x86_holes.blank x)) (settle to (code_base + place) x)
    settles labels emitted finished to place (One i) ok a h = one-settles labels emitted finished to a place i ok h
    settles labels emitted finished to place (Jump kind label) ok a h = jump-settles labels emitted finished to a place kind label h
    settles labels emitted finished to place (Address reg label) ok a h = address-settles labels emitted finished to a place reg label ok h
