-- How an address is made: the code computes it into the spare register, or changes nothing.
use Rattle.std.proofs.Common.{◌≡◌, ◌≢◌, ℕ, ◌^◌, ◌<◌, ◌⊎◌, inl, inr, Bool, true, false, List, [], ◌∷◌, Option, Some, refl, sym, ap, ◌∙◌, subst, arith}
use Rattle.std.specs.Prelude.{◌==◌, if◌then◌else◌, pos}
use Rattle.std.specs.Option.{option_and_then}
use Rattle.lg_base.specs.Fields.{word_of}
use Rattle.lg_base.specs.Words.{add_words, signed_view, is_half}
use Rattle.lg_base.specs.declared.flags.Flags.{Flags}
use Rattle.lg_base.specs.declared.target.Target.TheVariants.{X86_64}
use Rattle.lg_x86.specs.declared.instruction.Instr.{Instr}
use Rattle.lg_x86.specs.declared.instruction.Instr.TheVariants as instr
use Rattle.lg_cpu.specs.HostSteps.{put}
use Rattle.lg_temp.specs.Abis.{register_of}
use Rattle.lg_selx_values.specs.Processor.MakingNodes.{scene}
use Rattle.lg_selx_values.specs.Processor.Makings.{makes}
use Rattle.lg_selx_values.specs.Processor.Numbers.{number_row}
use Rattle.lg_selx_values.proofs.OfProcessor.NumberCodeLemmas.{view-word, row-loads}
use Rattle.lg_carry.specs.Memory.Accesses.{Address, Base, At, Sum, Index, address_word, IsAddress}
use Rattle.lg_selx_values.specs.Scratch.{again}
use Rattle.lg_selx_values.proofs.RegisterLemmas.{put-same, put-other, put-twice, put-own, equal, apart}
use Rattle.lg_selx.proofs.OfControl.SpareLemmas.{IsFramed, pointer-after}
use Rattle.lg_selx.specs.Memory.Accesses.{Place, at_register, at_spare, place_of, remade, behind, indexes, load_spare}

-- the code puts a word into register t alone, after which the place has this address; where the place does not use t, that is its own word
pub record IsPlaced (t : ℕ) (p : Place) (w : ℕ → ℕ) (a : ℕ) : Type 0 where
  pub word : ℕ
  pub makes_it : (f : Flags) (m : ℕ → Option ℕ) → makes p.code (scene w f m) ≡ Some (scene (put w t word) f m)
  pub address : add_words (put w t word p.base) (word_of p.disp) ≡ a
  pub spared : ((p.spare ≡ true) × (p.base ≡ t)) ⊎ ((p.spare ≡ false) × (word ≡ w t))

-- ---- words
pub none-after : (a : ℕ) → a < 2 ^ 64 → add_words a 0 ≡ a
none-after a h = omega (arith, h)

sum-small : (b c : ℕ) → add_words b c < 2 ^ 64
sum-small b c = omega arith

swapped-sum : (b c : ℕ) → add_words b c ≡ add_words c b
swapped-sum b c = omega arith

module _ (t : ℕ) (w : ℕ → ℕ) where
  -- ---- a register that is there
  at-register : (a v x : ℕ) (p : Place) → p ≡ at_register a p.disp → word_of p.disp ≡ v → add_words (w a) v ≡ x → IsPlaced t p w x
  at-register a v x p is number sum = record {
    word = w t;
    makes_it = λ f m. ap (λ z. makes z.code (scene w f m)) is ∙ ap (λ g. Some (scene g f m)) (sym (put-own w t (w t) refl));
    address = ap (λ g. add_words (g p.base) (word_of p.disp)) (put-own w t (w t) refl) ∙ ap (λ z. add_words (w z.base) (word_of p.disp)) is
        ∙ ap (add_words (w a)) number ∙ sum;
    spared = inr (ap (λ z. z.spare) is, refl);
  }

  -- ---- a word in the spare register
  at-spare : (is : List Instr) (v : ℕ) → v < 2 ^ 64 → ((f : Flags) (m : ℕ → Option ℕ) → makes is (scene w f m) ≡ Some (scene (put w t v) f m))
      → IsPlaced t (at_spare t is) w v
  at-spare is v small e = record {
    word = v;
    makes_it = e;
    address = ap (λ x. add_words x 0) (put-same w t v) ∙ none-after v small;
    spared = inl (refl, refl);
  }

  number-made : (v : ℕ) → t < 16 → v < 2 ^ 64 → (f : Flags) (m : ℕ → Option ℕ) → makes (number_row t v ∷ []) (scene w f m) ≡ Some (scene (put w t v) f m)
  number-made v few small f m = ap (option_and_then (makes [])) ((row-loads t v few small).value (scene w f m))

  -- a sum with a register, after its number
  sum-made : (a v : ℕ) → t < 16 → v < 2 ^ 64 → a ≢ t → (f : Flags) (m : ℕ → Option ℕ)
      → makes (number_row t v ∷ (instr.Lea2 t t a ∷ [])) (scene w f m) ≡ Some (scene (put w t (add_words (w a) v)) f m)
  sum-made a v few small ne f m =
      let u : ℕ → ℕ = put w t v in
      ap (option_and_then (makes (instr.Lea2 t t a ∷ []))) ((row-loads t v few small).value (scene w f m))
      ∙ (λ i. Some (scene (put u t (add_words (put-same w t v i) (put-other w t v a ne i))) f m))
      ∙ ap (λ z. Some (scene (put u t z) f m)) (swapped-sum v (w a))
      ∙ ap (λ g. Some (scene g f m)) (put-twice w t v (add_words (w a) v))

  indexed-placed : (a v : ℕ) → t < 16 → v < 2 ^ 64 → a ≢ t → (b : Bool)
      → IsPlaced t (if b then at_register a (signed_view v) else at_spare t (number_row t v ∷ (instr.Lea2 t t a ∷ []))) w (add_words (w a) v)
  indexed-placed a v few small ne true = at-register a v (add_words (w a) v) (at_register a (signed_view v)) refl (view-word v small) refl
  indexed-placed a v few small ne false = at-spare (number_row t v ∷ (instr.Lea2 t t a ∷ [])) (add_words (w a) v) (sum-small (w a) v) (sum-made a v few small ne)

  pub placed : (at : Address) → t < 16 → IsAddress at → ((x : ℕ) → w x < 2 ^ 64) → indexes t at ≡ false → IsPlaced t (place_of t at) w (address_word X86_64 w at)
  placed (Base a) few ok words free =
      let r = register_of X86_64 a in at-register r 0 (w r) (at_register r (pos 0)) refl refl (none-after (w r) (words r))
  placed (At v) few ok words free = at-spare (number_row t v ∷ []) v ok (number-made v few ok)
  placed (Sum a b) few ok words free =
      let ra = register_of X86_64 a in let rb = register_of X86_64 b in
      at-spare (instr.Lea2 t ra rb ∷ []) (add_words (w ra) (w rb)) (sum-small (w ra) (w rb)) (λ f m. refl)
  placed (Index a v) few ok words free = let r = register_of X86_64 a in indexed-placed r v few ok (apart r t free) (is_half v)

-- ---- the spare registers
pub record IsLoadSpare (t d : ℕ) (at : Address) : Type 0 where
  pub few : t < 16
  pub free : indexes t at ≡ false
  pub which : (t ≡ 5) ⊎ (t ≡ d)

-- FP is no register to which a number is added, where that one is another
off-pointer : (d : ℕ) (at : Address) → d ≢ 5 → indexes d at ≡ true → indexes 5 at ≡ false
off-pointer d (Index a v) ne e = let z = equal (register_of X86_64 a) d e in grind (arith, ne, z)
off-pointer d (Base a) ne e = refl
off-pointer d o ne e = refl

pub load-spare : (d : ℕ) (at : Address) → d < 16 → d ≢ 5 → IsLoadSpare (load_spare d at) d at
load-spare d at few ne = by (indexes d at) refl
  where
    by : (b : Bool) → indexes d at ≡ b → IsLoadSpare (if b then 5 else d) d at
    by true e = record { few = omega arith; free = off-pointer d at ne e; which = inl refl }
    by false e = record { few = few; free = e; which = inr refl }

-- ---- what is after
module _ (frame : ℕ) (w : ℕ → ℕ) (f : Flags) (m : ℕ → Option ℕ) (framed : IsFramed frame w) where
  -- another register keeps what it got meanwhile
  module _ (d x : ℕ) (off5 : d ≢ 5) (off4 : d ≢ 4) where
    own-after : (v : ℕ) → makes (remade frame d) (scene (put (put w d v) d x) f m) ≡ Some (scene (put w d x) f m)
    own-after v = by (d == 5) refl
      where
        by : (c : Bool) → (d == 5) ≡ c → makes (if c then again frame else []) (scene (put (put w d v) d x) f m) ≡ Some (scene (put w d x) f m)
        by true g = absurd (off5 (equal d 5 g))
        by false g = ap (λ h. Some (scene h f m)) (put-twice w d v x)

    pointer-kept : (v : ℕ) → makes (again frame) (scene (put (put w 5 v) d x) f m) ≡ Some (scene (put w d x) f m)
    pointer-kept v = ap (option_and_then (makes [])) (pointer-after frame v d x w f m off5 off4 framed)

    spare-kept : (t v : ℕ) → (t ≡ 5) ⊎ (t ≡ d) → makes (remade frame t) (scene (put (put w t v) d x) f m) ≡ Some (scene (put w d x) f m)
    spare-kept t v (inl e) = subst (λ z. makes (remade frame z) (scene (put (put w z v) d x) f m) ≡ Some (scene (put w d x) f m)) (sym e) (pointer-kept v)
    spare-kept t v (inr e) = subst (λ z. makes (remade frame z) (scene (put (put w z v) d x) f m) ≡ Some (scene (put w d x) f m)) (sym e) (own-after v)

    -- after a load
    pub loaded-after : (t a : ℕ) (p : Place) (h : IsPlaced t p w a) → (t ≡ 5) ⊎ (t ≡ d)
        → makes (behind frame p) (scene (put (put w t h.word) d x) f m) ≡ Some (scene (put w d x) f m)
    loaded-after t a p h which = by h.spared
      where
        by : ((p.spare ≡ true) × (p.base ≡ t)) ⊎ ((p.spare ≡ false) × (h.word ≡ w t))
            → makes (behind frame p) (scene (put (put w t h.word) d x) f m) ≡ Some (scene (put w d x) f m)
        by (inl e) =
            ap (λ b. makes (if b then remade frame p.base else []) (scene (put (put w t h.word) d x) f m)) e.0
            ∙ ap (λ z. makes (remade frame z) (scene (put (put w t h.word) d x) f m)) e.1 ∙ spare-kept t h.word which
        by (inr e) =
            ap (λ b. makes (if b then remade frame p.base else []) (scene (put (put w t h.word) d x) f m)) e.0
            ∙ ap (λ g. Some (scene (put g d x) f m)) (put-own w t h.word e.1)
