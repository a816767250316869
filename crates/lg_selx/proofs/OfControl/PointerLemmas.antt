-- FP compared: it lies on one side of a number of more than 32 bits, and has none but the lowest 30 bits.
use Rattle.std.proofs.Common.{◌≡◌, ℕ, ◌+◌, ◌-◌, ◌*◌, ◌/◌, ◌%◌, ◌^◌, ◌<◌, Bool, true, false, refl, sym, ap, ◌∙◌, arith}
use Rattle.std.specs.Prelude.{pos, negsuc, ◌==◌, not, nat_lt, bit_and, if◌then◌else◌}
use Rattle.std.proofs.lemmas.Nat.{and_block}
use Rattle.lg_base.specs.Fields.{word_of}
use Rattle.lg_base.specs.Words.{is_less, is_less_signed, is_half}
use Rattle.lg_op.specs.declared.op.Condition.{Condition}
use Rattle.lg_op.specs.declared.op.Condition.TheVariants as condition
use Rattle.lg_op.specs.Operators.{holds}
use Rattle.lg_selx.specs.Control.Branches.{is_difference, far_number}

-- ---- the number that corresponds to one of more than 32 bits
abbrev pub far : ℕ → ℕ
far v = if nat_lt v (2 ^ 63) then 0x7FFFFFFF else 2 ^ 64 - 2 ^ 31

pub far-word : (v : ℕ) → word_of (far_number v) ≡ far v
far-word v = by (nat_lt v (2 ^ 63))
  where
    by : (b : Bool) → word_of (if b then pos 0x7FFFFFFF else negsuc 0x7FFFFFFF) ≡ (if b then 0x7FFFFFFF else 2 ^ 64 - 2 ^ 31)
    by true = refl
    by false = refl

pub far-small : (v : ℕ) → far v < 2 ^ 64
far-small v = by (nat_lt v (2 ^ 63))
  where
    by : (b : Bool) → (if b then 0x7FFFFFFF else 2 ^ 64 - 2 ^ 31) < 2 ^ 64
    by true = omega arith
    by false = omega arith

-- a number below 2 ^ 30 lies on the same side of both
record IsAlike (x v u : ℕ) : Type 0 where
  below : is_less x v ≡ is_less x u
  above : is_less v x ≡ is_less u x
  below_signed : is_less_signed x v ≡ is_less_signed x u
  above_signed : is_less_signed v x ≡ is_less_signed u x
  same : (x == v) ≡ (x == u)

alike : (x v : ℕ) → x < 2 ^ 30 → v < 2 ^ 64 → is_half v ≡ false → IsAlike x v (far v)
alike x v low small wide = by (nat_lt v (2 ^ 63)) refl
  where
    by : (b : Bool) → nat_lt v (2 ^ 63) ≡ b → IsAlike x v (if b then 0x7FFFFFFF else 2 ^ 64 - 2 ^ 31)
    by true e = record {
      below = grind (arith, low, small, wide, e);
      above = grind (arith, low, small, wide, e);
      below_signed = grind (arith, low, small, wide, e);
      above_signed = grind (arith, low, small, wide, e);
      same = grind (arith, low, small, wide, e);
    }
    by false e = record {
      below = grind (arith, low, small, wide, e);
      above = grind (arith, low, small, wide, e);
      below_signed = grind (arith, low, small, wide, e);
      above_signed = grind (arith, low, small, wide, e);
      same = grind (arith, low, small, wide, e);
    }

pub far-holds : (o : Condition) (x v : ℕ) → is_difference o ≡ true → x < 2 ^ 30 → v < 2 ^ 64 → is_half v ≡ false → holds o x (far v) ≡ holds o x v
far-holds condition.Lt x v d low small wide = sym (alike x v low small wide).below_signed
far-holds condition.LtU x v d low small wide = sym (alike x v low small wide).below
far-holds condition.Le x v d low small wide = ap not (sym (alike x v low small wide).above_signed)
far-holds condition.LeU x v d low small wide = ap not (sym (alike x v low small wide).above)
far-holds condition.Ge x v d low small wide = ap not (sym (alike x v low small wide).below_signed)
far-holds condition.GeU x v d low small wide = ap not (sym (alike x v low small wide).below)
far-holds condition.Gt x v d low small wide = sym (alike x v low small wide).above_signed
far-holds condition.GtU x v d low small wide = sym (alike x v low small wide).above
far-holds condition.Eq x v d low small wide = sym (alike x v low small wide).same
far-holds condition.Ne x v d low small wide = ap not (sym (alike x v low small wide).same)
far-holds condition.Ms x v d low small wide = cc
far-holds condition.Mc x v d low small wide = cc

-- ---- bits
-- such a number has none in common with those of another but the lowest 30
pub low-bits : (x v : ℕ) → x < 2 ^ 30 → bit_and x (v % 2 ^ 30) ≡ bit_and x v
low-bits x v low =
    let front : v / 2 ^ 30 * 2 ^ 30 + v % 2 ^ 30 ≡ v = omega arith in
    let own : 0 * 2 ^ 30 + x ≡ x = omega arith in
    sym ((λ i. bit_and (sym own i) (sym front i)) ∙ and_block 30 0 (v / 2 ^ 30) x (v % 2 ^ 30) low (omega arith) ∙ none)
  where
    none : bit_and 0 (v / 2 ^ 30) * 2 ^ 30 + bit_and x (v % 2 ^ 30) ≡ bit_and x (v % 2 ^ 30)
    none = grind arith
