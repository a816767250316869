-- Whether a memory has room for the parts of a new start.
use Rattle.std.proofs.Common.{◌≡◌, ℕ, ◌+◌, ◌<◌, ◌≤◌, ◌↔◌, List, length, Option, Some, None, Bool, true, false, refl, sym, ap, ◌∙◌, arith, ⊎_elim}
use Rattle.std.specs.Prelude.{is_some, nat_lt, nat_le, ◌&&◌, ◌||◌, if◌then◌else◌}
use Rattle.std.proofs.lemmas.Bool.{cases_lt}
use Rattle.lg_base.specs.Spaces.{readable}
use Rattle.lg_base.specs.Parts.{Parts, IsSized, byte_at, has, data_base, args_base, heap_base, stack_base}
use Rattle.lg_cpu.specs.Starts.{start_bytes, HasRoom}

-- an address is one of n from a base on
abbrev within : ℕ → ℕ → ℕ → Bool
within base len a = nat_le base a && nat_lt a (base + len)

-- it is one of the four parts, where the first two have these lengths
abbrev there : (image_len args_len : ℕ) → ℕ → Bool
there d r a = within data_base d a || (within args_base r a || (within heap_base 0x400000 a || within stack_base 0x100000 a))

some-or : (b : Bool) (x : ℕ) (o : Option ℕ) → is_some (if b then Some x else o) ≡ (b || is_some o)
some-or true x o = refl
some-or false x o = refl

some-last : (b : Bool) (x : ℕ) → is_some {T = ℕ} (if b then Some x else None) ≡ b
some-last true x = refl
some-last false x = refl

start-there : (image args : List ℕ) (a : ℕ) → readable (start_bytes image args) a ≡ there (length image) (length args) a
start-there image args a =
    some-or (has data_base image a) _ _ ∙ ap (λ b. has data_base image a || b)
    (some-or (has args_base args a) _ _ ∙ ap (λ b. has args_base args a || b)
    (some-or (within heap_base 0x400000 a) 0 _ ∙ ap (λ b. within heap_base 0x400000 a || b) (some-last (within stack_base 0x100000 a) 0)))

memory-there : (p : Parts) → IsSized p → (a : ℕ) → readable (byte_at p) a ≡ there (length p.data_part) (length p.args_part) a
memory-there p s a =
    some-or (has data_base p.data_part a) _ _ ∙ ap (λ b. has data_base p.data_part a || b)
    (some-or (has args_base p.args_part a) _ _ ∙ ap (λ b. has args_base p.args_part a || b)
    (some-or (has heap_base p.heap_part a) _ _ ∙ ap (λ b. has heap_base p.heap_part a || b) (some-last (has stack_base p.stack_part a) _)
    ∙ ap (λ n. within heap_base n a || has stack_base p.stack_part a) s.heap_len ∙ ap (λ n. within heap_base 0x400000 a || within stack_base n a) s.stack_len))

-- longer parts have the addresses of shorter ones
there-more : (d r d' r' a : ℕ) → d' ≤ d → r' ≤ r → there d' r' a ≡ true → there d r a ≡ true
there-more d r d' r' a less fewer e = grind (arith, less, fewer, e)

-- after the first part, and after the second, is nothing
there-first : (d r d' r' : ℕ) → d ≤ 0x1000000 → d < d' → (there d' r' (data_base + d) ≡ true → there d r (data_base + d) ≡ true) → d' ≤ d
there-first d r d' r' most more keep = grind (arith, most, more, keep)

there-second : (d r d' r' : ℕ) → d ≤ 0x1000000 → r ≤ 0x100000 → r < r' → (there d' r' (args_base + r) ≡ true → there d r (args_base + r) ≡ true) → r' ≤ r
there-second d r d' r' most most' more keep = grind (arith, most, most', more, keep)

pub room_is : (p : Parts) (image args : List ℕ) → IsSized p
    → ((length image ≤ length p.data_part) × (length args ≤ length p.args_part)) ↔ HasRoom (byte_at p) image args
room_is p image args s =
    let d = length p.data_part in
    let r = length p.args_part in
    let kept : HasRoom (byte_at p) image args → (a : ℕ) → there (length image) (length args) a ≡ true → there d r a ≡ true = λ h a e. sym (memory-there p s a) ∙ h a (start-there image args a ∙ e) in (
      (λ few a e. memory-there p s a ∙ there-more d r (length image) (length args) a few.0 few.1 (sym (start-there image args a) ∙ e)),
      (λ h. (
        ⊎_elim (λ lt. there-first d r (length image) (length args) s.data_len lt (kept h (data_base + d))) (λ ge. ge) (cases_lt d (length image)),
        ⊎_elim (λ lt. there-second d r (length image) (length args) s.data_len s.args_len lt (kept h (args_base + r))) (λ ge. ge) (cases_lt r (length args)),
      )),
    )
